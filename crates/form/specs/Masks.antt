-- The bits that a set may have: 18 words as a set's own, a bit for each item and then one for each reduction. Assumes nothing.
use Rattle.std.specs.Prelude.{List, ℕ, ◌+◌, ◌≤◌, ◌<◌, leb, replicate}
use Rattle.laws.specs.Choice.{◌and◌, when}
use Rattle.laws.specs.Loops.{up_to}
use Rattle.kernels.specs.Kernel.{item, put}
use Rattle.table.specs.Layout.{rules_in, rule_number}
use Rattle.table.specs.Start.{put_starts}

abbrev pub no_bits : List ℕ
no_bits = replicate 18 0

-- the items of rule r with a dot below n, put into the words
unfoldable pub put_items : ℕ → ℕ → List ℕ → List ℕ
put_items r n ws = up_to n (λ d l. put l 0 (item r d)) ws

-- rule r's items and its reduction, if its state is 1 to `last`
unfoldable pub put_named : List ℕ → ℕ → ℕ → List ℕ → List ℕ
put_named rs last r ws =
    let state = rule_number rs r 0 in
    when (leb 1 state and leb state last) (put (put_items r (rule_number rs r 2 + 1) ws) 0 (1024 + r)) ws

-- those of every rule whose state is 1 to `last`: 1 for the current rules, 2 for the withdrawn besides
unfoldable pub named : List ℕ → ℕ → List ℕ
named rs last = up_to (rules_in rs) (put_named rs last) no_bits

-- "every current START rule with dot 0"
unfoldable pub starts : List ℕ → List ℕ
starts rs = put_starts rs no_bits

-- no right side is longer than its places, so that every item has its bit
abbrev pub Short : List ℕ → Type 0
Short rs = (r : ℕ) → r < rules_in rs → rule_number rs r 2 ≤ 7
