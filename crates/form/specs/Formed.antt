-- The form as a test of the lent numbers, clause by clause as the code walks them (theorem `formed-is` of proofs/Formed.antt: it says
-- what `Formed` says). Assumes nothing.
use Rattle.std.specs.Prelude.{Bool, not, List, ℕ, ◌*◌, ◌^◌, ◌<◌, eqb, get_or}
use Rattle.laws.specs.Choice.{◌and◌}
use Rattle.laws.specs.Loops.{all_below}
use Rattle.kernels.specs.Kernel.{same}
use Rattle.table.specs.Layout.{Sets, Mem, sets_in, cell}
use Rattle.form.specs.Rules.{rules_fit, rules_differ}
use Rattle.form.specs.Masks.{named, starts}
use Rattle.form.specs.Sets.{set_fits, kernels_differ}

-- "start set in use with its kernel as above"
unfoldable pub start_fits : List ℕ → Sets → Bool
start_fits rs x = not (eqb (cell x 0 0) 0) and same x.words 0 (starts rs) 0

unfoldable pub sets_fit : List ℕ → Sets → Bool
sets_fit rs x = all_below (sets_in rs) (set_fits (sets_in rs) x (named rs 2) (named rs 1))

-- the form of numbers whose sizes are in range
unfoldable pub formed : Mem → Bool
formed m =
    rules_fit m.rules and rules_differ m.rules
    and start_fits m.rules m.sets and sets_fit m.rules m.sets and kernels_differ (sets_in m.rules) m.sets

-- what the slice's type says of the words
abbrev pub Fits : Mem → Type 0
Fits m = (k : ℕ) → k < sets_in m.rules * 18 → get_or m.sets.words k 0 < 2 ^ 64
