-- The sizes that the desk's pools hold. Assumes nothing.
use mathlib.Core.Bool.{false}
use mathlib.Core.Path.{◌≡◌, sym, ap, ◌∙◌}
use Prim.Native.Nat.{ℕ, ◌≤◌, ◌<◌}
use lib.Dec.{leb}
use borrow.Author.Tests.{le-leb, lt-leb}
use Rattle.laws.specs.Choice.{◌and◌}
use Rattle.desk.specs.Obeys.{here}

pub too_many-sets : {s : ℕ} (r l : ℕ) → 128 < s → false ≡ here s r l
unfolding here ◌and◌
too_many-sets {s} r l h = ap (λ b. b and leb r 128 and leb l 1024) (sym (lt-leb s 128 h))

pub too_many-rules : {s r : ℕ} (l : ℕ) → s ≤ 128 → 128 < r → false ≡ here s r l
unfolding here ◌and◌
too_many-rules {s} {r} l g h =
    ap (λ b. b and leb l 1024) (sym (lt-leb r 128 h)) ∙ ap (λ b. b and leb r 128 and leb l 1024) (sym (le-leb s 128 g))

pub by-links : {s r : ℕ} (l : ℕ) → s ≤ 128 → r ≤ 128 → leb l 1024 ≡ here s r l
unfolding here ◌and◌
by-links {s} {r} l g h =
    ap (λ b. b and leb l 1024) (sym (le-leb r 128 h)) ∙ ap (λ b. b and leb r 128 and leb l 1024) (sym (le-leb s 128 g))
