-- The spans that a table's graph of links over a line shows: a link from (j, s) down to (i, u) is one over the symbol that the set s is
-- reached by, from place i to place j. At most one span for each link, and START's own. Assumes nothing.
use Rattle.std.specs.Prelude.{◌≡◌, ℕ, zero, suc, T, length, get_or}
use mathlib.Core.List.{List, [], ◌∷◌, Memᴰ as In}
use Rattle.symbols.specs.Symbol.{START, nonterminal}
use Rattle.theory.specs.Table.{RulePlace, Item, Table, rule_at, set_at, grammar, automaton}
use Rattle.theory.specs.Graph as graph
use Rattle.theory.specs.Parse.{Link, link}

-- the symbol before a dot, 0 for none
abbrev pub before_dot : List ℕ → ℕ → ℕ
before_dot w zero = 0
before_dot w (suc d) = get_or w d 0

-- of a kernel's first item
abbrev pub before_first : List RulePlace → List Item → ℕ
before_first rules [] = 0
before_first rules (i ∷ kernel) = before_dot (rule_at rules i.rule).right i.dot

-- the symbol that a set is reached by
abbrev pub symbol_of : Table → ℕ → ℕ
symbol_of t s = before_first t.rules (set_at t.sets s).kernel

pub data Shown (t : Table) (line : List ℕ) : ℕ → ℕ → ℕ → Type 0 where
  start : {x i j : ℕ} → x ≡ START → i ≡ 0 → j ≡ length line → Shown t line x i j
  linked : {x i j s u : ℕ} → graph.Link (grammar t.rules) (automaton t) line j s i u → symbol_of t s ≡ x → T (nonterminal x)
      → Shown t line x i j

-- the same by the links ls in hand
pub data InHand (t : Table) (line : List ℕ) (ls : List Link) : ℕ → ℕ → ℕ → Type 0 where
  start : {x i j : ℕ} → x ≡ START → i ≡ 0 → j ≡ length line → InHand t line ls x i j
  linked : {x i j : ℕ} (s u : ℕ) → In (link j s i u) ls → symbol_of t s ≡ x → T (nonterminal x) → InHand t line ls x i j
