-- What an item says, by its number, which is its bit in a kernel. Assumes nothing.
use Rattle.std.specs.Prelude.{Bool, List, ℕ, ◌/◌, ◌%◌, eqb, length}
use Rattle.laws.specs.Choice.{◌and◌}
use Rattle.theory.specs.Table.{CURRENT, RulePlace, Item, rule_at, item}
use Rattle.theory.specs.Expansion.{after}
use Rattle.table.specs.Layout.{rules_in, kernel_seen}

-- the items of the kernel in the words c, over the rules in rs
abbrev pub items_in : List ℕ → List ℕ → List Item
items_in rs c = kernel_seen (rules_in rs) c 0

-- the item of bit i
abbrev pub item_at : ℕ → Item
item_at i = item (i / 8) (i % 8)

-- the symbol after its dot, 0 at the end
unfoldable pub after_at : List RulePlace → ℕ → ℕ
after_at rs i = after rs (item_at i)

-- its dot is at the end of its rule
unfoldable pub ends_at : List RulePlace → ℕ → Bool
ends_at rs i = eqb (i % 8) (length (rule_at rs (i / 8)).right)

-- r is a current rule of x
unfoldable pub current_rule_of : List RulePlace → ℕ → ℕ → Bool
current_rule_of rs x r = eqb (rule_at rs r).state CURRENT and eqb (rule_at rs r).left x
