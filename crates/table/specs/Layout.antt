-- Where each number of a table stands in the three lent slices, and the table that the numbers hold. Assumes nothing.
use Rattle.std.specs.Prelude.{not, List, map, ℕ, zero, suc, ◌+◌, ◌*◌, eqb, get_or}
use Rattle.laws.specs.Loops.{tab}
use Rattle.laws.specs.Lists.{keep, up_from}
use Rattle.kernels.specs.Kernel.{has, holds}
use Rattle.theory.specs.Table.{FREE, UNEXPANDED, EXPANDED, RulePlace, Item, Transition, SetPlace, Table, all_items}

-- the sets' part: 128 cells and 18 words for each set
pub record Sets : Type 0 where
  pub cells : List ℕ
  pub words : List ℕ

-- the three lent slices
pub record Mem : Type 0 where
  pub rules : List ℕ
  pub sets : Sets

abbrev pub sets : List ℕ → List ℕ → Sets
sets c w = record { cells = c; words = w }

abbrev pub mem : List ℕ → List ℕ → List ℕ → Mem
mem r c w = record { rules = r; sets = sets c w }

-- ---- where each number stands

-- the pools' sizes
abbrev pub sets_in : List ℕ → ℕ
sets_in rs = get_or rs 0 0

abbrev pub rules_in : List ℕ → ℕ
rules_in rs = get_or rs 1 0

-- number k of rule r's ten: 0 its state, 1 its left symbol, 2 its length, 3 to 9 its right places
abbrev pub rule_number : List ℕ → ℕ → ℕ → ℕ
rule_number rs r k = get_or rs (2 + r * 10 + k) 0

-- cell k of set s's 128: 0 its mark (0 free, 1 unexpanded, 2 expanded, 3 expanded with the accept mark), 1 to 127 its target on that
-- symbol, 0 for none. The end mark's place holds the mark, as 001's accept is the move on the end mark
abbrev pub cell : Sets → ℕ → ℕ → ℕ
cell x s k = get_or x.cells (s * 128 + k) 0

-- bit i of set s's 18 words: below 1024 the item i of its kernel, from there on the reduction i - 1024
abbrev pub bit_of : Sets → ℕ → ℕ → ℕ
bit_of x s i = has x.words (s * 18) i

-- ---- the table that they hold

-- the state that a mark tells
abbrev pub state_of : ℕ → ℕ
state_of zero = FREE
state_of (suc zero) = UNEXPANDED
state_of (suc (suc n)) = EXPANDED

abbrev pub transition : ℕ → ℕ → Transition
transition x t = record { on = x; to = t }

unfoldable pub rule_seen : List ℕ → ℕ → RulePlace
rule_seen rs r = record { state = rule_number rs r 0; left = rule_number rs r 1; right = tab (rule_number rs r 2) (λ d. rule_number rs r (3 + d)) }

-- the kernel whose bits stand in the words from `at` on, n rule places
unfoldable pub kernel_seen : ℕ → List ℕ → ℕ → List Item
kernel_seen n ws at = keep (λ i. holds ws at (i.rule * 8 + i.dot)) (all_items n)

unfoldable pub transitions_seen : Sets → ℕ → List Transition
transitions_seen x s = map (λ k. transition k (cell x s k)) (keep (λ k. not (eqb (cell x s k) 0)) (up_from 1 127))

unfoldable pub reductions_seen : ℕ → Sets → ℕ → List ℕ
reductions_seen n x s = keep (λ r. holds x.words (s * 18) (1024 + r)) (up_from 0 n)

abbrev pub set_seen : ℕ → Sets → ℕ → SetPlace
set_seen n x s = record {
  state = state_of (cell x s 0);
  kernel = kernel_seen n x.words (s * 18);
  transitions = transitions_seen x s;
  reductions = reductions_seen n x s;
  accepts = eqb (cell x s 0) 3;
}

abbrev pub view_rules : List ℕ → List RulePlace
view_rules rs = tab (rules_in rs) (rule_seen rs)

abbrev pub view_sets : ℕ → ℕ → Sets → List SetPlace
view_sets s n x = tab s (set_seen n x)

abbrev pub view : Mem → Table
view m = record { rules = view_rules m.rules; sets = view_sets (sets_in m.rules) (rules_in m.rules) m.sets }
