-- A closure under way: the items so far, and the non-terminals whose rules they have. Assumes nothing.
use Rattle.std.specs.Prelude.{◌≡◌, ℕ, ◌*◌, ◌<◌, T, length}
use mathlib.Core.List.{List, Memᴰ as In}
use Rattle.symbols.specs.Symbol.{nonterminal}
use Rattle.kernels.specs.Kernel.{has, put_if}
use Rattle.theory.specs.Items.{Closure}
use Rattle.theory.specs.Table.{RulePlace, item, grammar}
use Rattle.table.specs.Layout.{rules_in, kernel_seen, view_rules}
use Rattle.table.specs.Laid.{Within}
use Rattle.closure.specs.Item.{after_at, current_rule_of}

-- rule r put in with dot 0, if it is a current rule of b
abbrev pub put_rule : List RulePlace → ℕ → ℕ → List ℕ → List ℕ
put_rule rs b r ws = put_if (current_rule_of rs b r) ws (r * 8)

-- the items c are of the table's rule places, and have every current rule of a non-terminal that is met
pub record UnderWay (rs c met : List ℕ) : Type 0 where
  pub long : length c ≡ 16
  pub pair : length met ≡ 2
  pub within : Within (rules_in rs) c 0
  pub full : (b r : ℕ) → has met 0 b ≡ 1 → r < rules_in rs → T (current_rule_of (view_rules rs) b r) → has c 0 (r * 8) ≡ 1

-- from c and met to d and seen nothing was lost, and every item belongs to the closure of c
pub record Grew (rs c met d seen : List ℕ) : Type 0 where
  pub under_way : UnderWay rs d seen
  pub kept : (i : ℕ) → has c 0 i ≡ 1 → has d 0 i ≡ 1
  pub met_kept : (b : ℕ) → has met 0 b ≡ 1 → has seen 0 b ≡ 1
  pub sound : (r k : ℕ) → In (item r k) (kernel_seen (rules_in rs) d 0)
      → Closure (grammar (view_rules rs)) (λ r k. In (item r k) (kernel_seen (rules_in rs) c 0)) r k

-- if a non-terminal stands after the dot of item i, it is met
abbrev pub MetAfter : List ℕ → List ℕ → ℕ → Type 0
MetAfter rs met i = T (nonterminal (after_at (view_rules rs) i)) → has met 0 (after_at (view_rules rs) i) ≡ 1

-- so it is for each item of c below n
abbrev pub MetBelow : List ℕ → List ℕ → List ℕ → ℕ → Type 0
MetBelow rs c met n = (i : ℕ) → i < n → has c 0 i ≡ 1 → MetAfter rs met i
