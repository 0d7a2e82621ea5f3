-- What a search has found, case by case. Assumes nothing.
use mathlib.Core.Bool.{Bool, true, false, true≢false, false≢true}
use mathlib.Core.Path.{◌≡◌}
use Prim.Native.Nat.{ℕ, ◌<◌}
use native.Mathlib.Omega.{arith}
use Rattle.std.specs.Option.{is_some}
use Rattle.std.specs.Prelude.{Option, Some, None}
use Rattle.checks.specs.Find.{Lowest, lowest}

module _ (f : ℕ → Bool) {n : ℕ} where
  pub some_below : (r : Option ℕ) → Lowest n f r → is_some r ≡ true → lowest n f < n
  some_below None l e = absurd (false≢true e)
  some_below (Some i) (h, l) e = omega arith

  pub none_below : (r : Option ℕ) → Lowest n f r → is_some r ≡ false → lowest n f ≡ n
  none_below None l e = l
  none_below (Some i) l e = absurd (true≢false e)
