-- A call that answers no number, with 0 in its place. Assumes nothing.
use mathlib.Core.Path.{◌≡◌, refl}
use Prim.Native.Nat.{ℕ}
use Rattle.std.specs.Prelude.{Result, Ok, Err}
use Rattle.std.specs.Result.{result_and}
use Rattle.symbols.specs.declared.refusal.Refusal.{Refusal}
use Rattle.symbols.specs.Answer.{answer_of, number_with}

pub same_answer : (r : Result (Unit {0}) Refusal) → answer_of (result_and {U = ℕ} r (Ok 0)) ≡ answer_of r
same_answer (Ok x) = refl
same_answer (Err e) = refl

pub no_number : (r : Result (Unit {0}) Refusal) → number_with (result_and r (Ok 0)) ≡ 0
no_number (Ok x) = refl
no_number (Err e) = refl
