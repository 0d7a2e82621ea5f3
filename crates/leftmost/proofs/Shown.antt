-- The spans that a table's graph of links shows. On every table they are spans of the line; on a consistent one (every made table is) that
-- was read to the line's end they are closed, so that the first within them is the first of all. Assumes nothing.
use mathlib.Core.Path.{◌≡◌, refl, ap}
use mathlib.Core.Logic.{◌↔◌, ⊎_elim}
use mathlib.Core.List.Memᴰ
use mathlib.Core.List.{List, [], ◌∷◌, Memᴰ as In}
use Prim.Native.Nat.{ℕ, ◌≤◌}
use native.Mathlib.Omega.{arith}
use lib.Dec.{T}
use lib.ListN.{length, get_or-eq_default}
use Rattle.symbols.specs.Symbol.{START, nonterminal}
use Rattle.theory.specs.Derivation.{Derives}
use Rattle.theory.specs.Items.{Items, Moved}
use Rattle.theory.specs.Items.Moved.{moved}
use Rattle.theory.specs.Table.{EXPANDED, RulePlace, Item, Table, free_rule, item, rule_at, set_at, grammar, automaton}
use Rattle.theory.specs.Parse.{Link}
use Rattle.theory.proofs.Symbols.{is-nonterminal}
use Rattle.theory.proofs.Items.{current-is}
use Rattle.theory.proofs.Consistent.{Consistent}
use Rattle.theory.proofs.Ends.{Finished}
use Rattle.theory.proofs.Parsing.{started}
use Rattle.leftmost.specs.Leftmost.{Tokens, First}
use Rattle.leftmost.specs.Within.{FirstWithin, Closed, OfLine}
use Rattle.leftmost.specs.Shown.{before_dot, before_first, symbol_of, Shown, InHand}
use Rattle.leftmost.specs.Shown.Shown.{start, linked}
use Rattle.leftmost.specs.Shown.InHand.{start as hand-start, linked as hand-linked}
use Rattle.leftmost.proofs.Order.{low_or_high}
use Rattle.leftmost.proofs.Parts.{more_spans}
use Rattle.leftmost.proofs.Walks.{Lefts}
use Rattle.leftmost.proofs.Closed.{closed-first}
use Rattle.leftmost.proofs.Fewest.{Placed}
use Rattle.leftmost.proofs.Exists.{closed-derives}
use Rattle.leftmost.proofs.Graph.{AtHand, graph-closed, link-low}
use Rattle.leftmost.proofs.Graph.AtHand.{start as at_start, linked as at-link}

-- ---- on every table

pub shown_of_line : (t : Table) (line : List ℕ) → OfLine line (Shown t line)
shown_of_line t line = record { symbol = λ x i j s. symbol s; ahead = λ x i j s. ahead s; low = λ x i j s. low s }
  where
    symbol : {x i j : ℕ} → Shown t line x i j → T (nonterminal x)
    symbol {x} (start a b c) = (is-nonterminal x).1 (omega arith, omega arith)
    symbol (linked l e n) = n

    ahead : {x i j : ℕ} → Shown t line x i j → i ≤ j
    ahead (start a b c) = omega arith
    ahead (linked l e n) = (link-low l).1

    low : {x i j : ℕ} → Shown t line x i j → j ≤ length line
    low (start a b c) = omega arith
    low (linked l e n) = (link-low l).0

-- at the line's end they are those of the links in hand
pub shown_in_hand : {t : Table} {line : List ℕ} {ls : List Link} → Finished t line ls → (x i j : ℕ)
    → Shown t line x i j ↔ InHand t line ls x i j
shown_in_hand {t} {line} {ls} f x i j = (to, from)
  where
    to : {x i j : ℕ} → Shown t line x i j → InHand t line ls x i j
    to (start a b c) = hand-start a b c
    to {i = i} {j = j} (linked {s = s} {u = u} l e n) = hand-linked s u ((f.exactly.all j s i u).1 l) e n

    from : {x i j : ℕ} → InHand t line ls x i j → Shown t line x i j
    from (hand-start a b c) = start a b c
    from {i = i} {j = j} (hand-linked s u m e n) = linked ((f.exactly.all j s i u).0 m) e n

-- a current rule is at a rule place
pub table_placed : (t : Table) → Placed (grammar t.rules) (length t.rules)
table_placed t = record {
  below = λ r c. ⊎_elim
      (λ h.
      let q = (current-is t.rules r).0 c in
      let z = ap (λ p. p.state) (get_or-eq_default t.rules free_rule h) in
      absurd (omega arith))
      (λ h. h) (low_or_high (length t.rules) r);
}

-- ---- on consistent tables

-- an item moved over x has x before its dot
moved-over : (rules : List RulePlace) {K : Items} {x r d : ℕ} → Moved (grammar rules) K x r d → before_dot (rule_at rules r).right d ≡ x
moved-over rules (moved c n) = n.is

over_first : (rules : List RulePlace) {K : Items} {x : ℕ} (k : List Item) → ((r d : ℕ) → In (item r d) k → Moved (grammar rules) K x r d)
    → {i : Item} → In i k → before_first rules k ≡ x
over_first rules [] f m = absurd (Memᴰ.not-nil m)
over_first rules (i ∷ k) f m = moved-over rules (f i.rule i.dot (In.head refl))

-- the symbol that a set is reached by is that of every transition to it
reached-by : {t : Table} → Consistent t → (u x s : ℕ) → (set_at t.sets u).state ≡ EXPANDED → (automaton t).Goto u x s → symbol_of t s ≡ x
reached-by {t} 𝓒 u x s e g =
    let fresh = 𝓒.fresh u e in
    let (r, d, c, n) = fresh.used g in
    over_first t.rules (set_at t.sets s).kernel (λ r d. (fresh.leads g).0) ((fresh.leads g).1 (moved c n))

module _ {t : Table} {line : List ℕ} {ls : List Link} (𝓒 : Consistent t) (tokens : Tokens line) (f : Finished t line ls) where
  pub table_lefts : Lefts (grammar t.rules)
  table_lefts = record { of = λ r c. (started 𝓒 tokens f).lefts r c }

  hand_shown : (x i j : ℕ) → AtHand (grammar t.rules) (automaton t) line x i j → Shown t line x i j
  hand_shown x i j (at_start a b c) = start a b c
  hand_shown x i j (at-link {s = s} {t = u} n node g l) =
      linked l (reached-by 𝓒 u x s (f.expanded i u node) g) n

  pub shown_closed : Closed (grammar t.rules) line (Shown t line)
  shown_closed rs d =
      more_spans hand_shown (graph-closed tokens (started 𝓒 tokens f) (λ i u n. 𝓒.fresh u (f.expanded i u n)) table_lefts rs d)

  -- the first within is the first of all, and is there exactly where START derives the line
  pub shown_first : (rs : List ℕ) → First (grammar t.rules) line rs ↔ FirstWithin (grammar t.rules) line (Shown t line) rs
  shown_first rs = closed-first tokens shown_closed rs

  pub shown_derives : Derives (grammar t.rules) (START ∷ []) line
      ↔ ((rs : List ℕ) × FirstWithin (grammar t.rules) line (Shown t line) rs)
  shown_derives = closed-derives table_lefts (table_placed t) tokens shown_closed
