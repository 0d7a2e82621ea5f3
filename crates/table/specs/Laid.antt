-- Lent numbers that are laid out: sizes in range, slices long enough, every number in its range, and zero where it is not in use.
-- Assumes nothing.
use Rattle.std.specs.Prelude.{◌≡◌, ◌≢◌, List, ℕ, ◌+◌, ◌*◌, ◌^◌, ◌≤◌, ◌<◌, length, get_or}
use Rattle.kernels.specs.Kernel.{has}
use Rattle.theory.specs.Table.{Item}
use Rattle.theory.specs.Form.{RuleInForm, InForm}
use Rattle.table.specs.Layout.{Sets, Mem, sets_in, rules_in, rule_number, cell, bit_of, rule_seen, kernel_seen, view}

-- "sizes in range", and slices as long as the sizes need
pub record Sized (rs : List ℕ) (x : Sets) : Type 0 where
  pub some_sets : 1 ≤ sets_in rs
  pub few_sets : sets_in rs ≤ 255
  pub some_rules : 1 ≤ rules_in rs
  pub few_rules : rules_in rs ≤ 128
  pub rules : 2 + rules_in rs * 10 ≤ length rs
  pub cells : sets_in rs * 128 ≤ length x.cells
  pub words : sets_in rs * 18 ≤ length x.words

-- the slices have row s
pub record HasRow (s : ℕ) (x : Sets) : Type 0 where
  pub cells : s * 128 + 128 ≤ length x.cells
  pub words : s * 18 + 18 ≤ length x.words

pub record LaidRule (rs : List ℕ) (r : ℕ) : Type 0 where
  pub state : rule_number rs r 0 ≤ 2
  pub left : rule_number rs r 0 ≢ 0 → (1 ≤ rule_number rs r 1) × (rule_number rs r 1 ≤ 127)
  pub short : rule_number rs r 2 ≤ 7
  pub beyond : (d : ℕ) → rule_number rs r 2 ≤ d → d < 7 → rule_number rs r (3 + d) ≡ 0
  pub unused : rule_number rs r 0 ≡ 0 → (k : ℕ) → k < 10 → rule_number rs r k ≡ 0

pub record LaidSet (n : ℕ) (x : Sets) (s : ℕ) : Type 0 where
  pub mark : cell x s 0 ≤ 3
  pub words : (k : ℕ) → k < 18 → get_or x.words (s * 18 + k) 0 < 2 ^ 64
  -- no item and no reduction of a rule place that is not there
  pub items : (i : ℕ) → n * 8 ≤ i → i < 1024 → bit_of x s i ≡ 0
  pub reductions : (r : ℕ) → n ≤ r → r < 128 → bit_of x s (1024 + r) ≡ 0
  -- an unexpanded set has its kernel only, a free one nothing
  pub bare : cell x s 0 < 2 → (k : ℕ) → 1 ≤ k → k < 128 → cell x s k ≡ 0
  pub idle : cell x s 0 < 2 → (r : ℕ) → r < 128 → bit_of x s (1024 + r) ≡ 0
  pub unused : cell x s 0 ≡ 0 → (i : ℕ) → i < 1024 → bit_of x s i ≡ 0

-- the rules' slice alone
pub record LaidRules (rs : List ℕ) : Type 0 where
  pub some_rules : 1 ≤ rules_in rs
  pub few_rules : rules_in rs ≤ 128
  pub long : 2 + rules_in rs * 10 ≤ length rs
  pub each_rule : (r : ℕ) → r < rules_in rs → LaidRule rs r

pub record Laid (m : Mem) : Type 0 where
  pub sized : Sized m.rules m.sets
  pub each_rule : (r : ℕ) → r < rules_in m.rules → LaidRule m.rules r
  pub each_set : (s : ℕ) → s < sets_in m.rules → LaidSet (rules_in m.rules) m.sets s

-- ---- numbers that are laid out and hold a table in form

-- the rules are as the form asks
pub record FormedRules (rs : List ℕ) : Type 0 where
  pub laid : LaidRules rs
  pub form : (r : ℕ) → r < rules_in rs → RuleInForm (rule_seen rs r)

pub record Formed (m : Mem) : Type 0 where
  pub laid : Laid m
  pub form : InForm (view m)

-- ---- a kernel in words that stand by themselves

-- no bit beyond the items of n rule places
abbrev pub Within : ℕ → List ℕ → ℕ → Type 0
Within n ws at = (i : ℕ) → n * 8 ≤ i → i < 1024 → has ws at i ≡ 0

-- the words from `at` on hold the kernel k of n rule places
pub record HoldsKernel (n : ℕ) (ws : List ℕ) (at : ℕ) (k : List Item) : Type 0 where
  pub seen : kernel_seen n ws at ≡ k
  pub within : Within n ws at
