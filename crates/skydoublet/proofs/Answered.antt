-- What the calls promise of an answer, of the numbers that C gets. Assumes nothing.
use mathlib.Core.Path.{◌≡◌, refl}
use Prim.Native.Nat.{ℕ}
use Rattle.std.specs.Prelude.{Result, Ok, Err}
use Rattle.std.specs.Result.{result_unwrap_or}
use Rattle.symbols.specs.Answer.{number_with}
use Rattle.symbols.specs.declared.refusal.Refusal.{Refusal}

pub changed-number : (r : Result ℕ Refusal) → number_with r ≡ result_unwrap_or r 0
changed-number (Ok n) = refl
changed-number (Err e) = refl
