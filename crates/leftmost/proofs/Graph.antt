-- The spans of the graph of links are closed: over an automaton whose sets at nodes are LR(0) expansions, a derivation that goes on from a
-- node by one of the node's items has a link over each of its symbols. And they lie within the line, over any automaton.
-- Assumes nothing.
use mathlib.Core.Path.{◌≡◌, refl}
use mathlib.Core.List.{List, [], ◌∷◌}
use Prim.Native.Nat.{ℕ, suc, ◌≤◌, zero-le}
use native.Mathlib.Omega.{arith}
use lib.Dec.{T}
use lib.ListN.{length, drop}
use Rattle.symbols.specs.Symbol.{START, nonterminal}
use Rattle.theory.specs.Derivation.{Grammar}
use Rattle.theory.specs.Items.{Closure, Automaton, Expanded}
use Rattle.theory.specs.Items.Closure.{kernel, added}
use Rattle.theory.specs.Items.Moved.{moved}
use Rattle.theory.specs.Graph.{Node, Link, Trail}
use Rattle.theory.specs.Graph.Node.{root, source}
use Rattle.theory.specs.Graph.Link.{shift, reduce}
use Rattle.theory.specs.Graph.Trail.{here, down}
use Rattle.theory.proofs.Symbols.{is-terminal}
use Rattle.theory.proofs.Spans as spans
use Rattle.theory.proofs.Spans.Span.{reduced, token as leaf}
use Rattle.theory.proofs.Spans.Spans.{stop as over, step as then}
use Rattle.theory.proofs.Verdict.{Started, complete, next_of}
use Rattle.leftmost.specs.Leftmost.{Tokens}
use Rattle.leftmost.specs.Within.{Spans, Spells, Closed}
use Rattle.leftmost.specs.Within.Spells.{stop, token, apply}
use Rattle.leftmost.proofs.Walks.{Lefts, Any}
use Rattle.leftmost.proofs.Closed.{any_closed}

-- the spans at hand: START's over the whole line, and (x, i, j) of a link from (j, s) to (i, t) where t goes to s on the non-terminal x
pub data AtHand (G : Grammar) (A : Automaton) (line : List ℕ) : ℕ → ℕ → ℕ → Type 0 where
  start : {x i j : ℕ} → x ≡ START → i ≡ 0 → j ≡ length line → AtHand G A line x i j
  linked : {x i j s t : ℕ} → T (nonterminal x) → Node G A line i t → A.Goto t x s → Link G A line j s i t → AtHand G A line x i j

-- a derivation by places is one by spans
spells_spans : {G : Grammar} {line : List ℕ} {S : Spans} {xs rs : List ℕ} {i j : ℕ} → Spells G line S xs i j rs → spans.Spans G line xs i j
spells_spans stop = over
spells_spans (token t h e s) = then (leaf t h e) (spells_spans s)
spells_spans (apply r c l z d s e) = then (reduced r c l (spells_spans d)) (spells_spans s)

module _ {G : Grammar} {A : Automaton} {line : List ℕ} (tokens : Tokens line) (𝓢 : Started G A)
    (𝓔 : (i t : ℕ) → Node G A line i t → Expanded G A t) where
  -- the symbols after a dot, from a node whose closure has the item
  from-node : {ys qs : List ℕ} {i j t : ℕ} → Spells G line Any ys i j qs → Node G A line i t → (r d : ℕ) → Closure G (A.Kernel t) r d
      → drop d (G.right r) ≡ ys → Spells G line (AtHand G A line) ys i j qs
  from-node stop n r d c e = stop
  from-node (token tm h w s) n r d c e =
      let (nx, tails) = next_of tokens 𝓢 𝓔 e in
      let (v, g) = (𝓔 _ _ n).made c nx in
      let l = complete tokens 𝓢 𝓔 (leaf tm h w) n g in
      token tm h w (from-node s (source l) r (suc d) (kernel (((𝓔 _ _ n).leads g).1 (moved c nx))) tails)
  from-node (apply q cur left z a b p) n r d c e =
      let (nx, tails) = next_of tokens 𝓢 𝓔 e in
      let (v, g) = (𝓔 _ _ n).made c nx in
      let l = complete tokens 𝓢 𝓔 (reduced q cur left (spells_spans a)) n g in
      apply q cur left (linked z n g l) (from-node a n q 0 (added c nx z cur left) refl)
      (from-node b (source l) r (suc d) (kernel (((𝓔 _ _ n).leads g).1 (moved c nx))) tails) p

  pub graph-closed : Lefts G → Closed G line (AtHand G A line)
  graph-closed lefts rs d = go (any_closed tokens lefts rs d)
    where
      go : {qs : List ℕ} → Spells G line Any (START ∷ []) 0 (length line) qs
          → Spells G line (AtHand G A line) (START ∷ []) 0 (length line) qs
      go (token t h e s) = absurd (let (a, b) = (is-terminal START).0 t in omega arith)
      go (apply r cur left z a stop p) =
          let first = 𝓢.start.1 (record { at_first = refl; current = cur; of_start = left }) in
          apply r cur left (start refl refl refl) (from-node a root r 0 (kernel first) refl) stop p

-- ---- links lie within the line

module _ {G : Grammar} {A : Automaton} {line : List ℕ} where
  mutual
    node-low : {i s : ℕ} → Node G A line i s → i ≤ length line
    node-low root = zero-le
    node-low (source l) = (link-low l).0

    pub link-low : {i s j t : ℕ} → Link G A line i s j t → (i ≤ length line) × (j ≤ i)
    link-low (shift n h g) = (omega arith, omega arith)
    link-low (reduce r n d p g) = (node-low n, trail_low p)

    trail_low : {k i u j t : ℕ} → Trail G A line k i u j t → j ≤ i
    trail_low here = omega arith
    trail_low (down l p) = let (a, b) = link-low l in let c = trail_low p in omega arith
