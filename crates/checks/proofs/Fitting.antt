-- New's checks, one by one. Assumes nothing.
use mathlib.Core.Bool.{Bool, true, false}
use Prim.Native.Nat.{ℕ, ◌+◌, ◌*◌, ◌≤◌}
use lib.ListN.{length}
use Rattle.laws.specs.Choice.{Tells}
use Rattle.theory.proofs.FormNew.{pools_in_range_lem}
use Rattle.table.specs.Layout.{Mem}
use Rattle.changes.specs.Change.{Fits}

abbrev pub Limits : Mem → ℕ → ℕ → Type 0
Limits m sets places =
    (1 ≤ sets) × (sets ≤ 255) × (1 ≤ places) × (places ≤ 128)
    × (2 + places * 10 ≤ length m.rules) × (sets * 128 ≤ length m.sets.cells) × (sets * 18 ≤ length m.sets.words)

pub tells_fits : (m : Mem) (sets places : ℕ) (b : Bool) → Tells b (Limits m sets places) → Tells b (Fits m sets places)
tells_fits m sets places true (a, b, c, d, e, f, g) =
    record { in_range = (pools_in_range_lem sets places).1 (a, b, c, d); rules = e; cells = f; words = g }
tells_fits m sets places false t =
    λ f. let (a, b, c, d) = (pools_in_range_lem sets places).0 f.in_range in t (a, b, c, d, f.rules, f.cells, f.words)
