-- The nodes of the graph are those of its list of links. Assumes nothing.
use mathlib.Core.Path.{◌≡◌, refl, sym, ◌∙◌, ap, subst₂}
use mathlib.Core.List.{Memᴰ as In}
use Prim.Native.Nat.{ℕ, ◌<◌, ◌≤◌}
use native.Mathlib.Decide.{ℕ_discrete}
use native.Mathlib.Omega.{arith}
use Rattle.theory.specs.Parse.{link, nodes_at}
use Rattle.theory.proofs.Exact.{NodeIn, in_nodes_at}
use Rattle.theory.proofs.Exact.NodeIn.{root_in, source_in}
use Rattle.links.specs.declared.Here.{Here}
use Rattle.links.specs.Records.{source, position, in_set, last_link, Graph, links_of}
use Rattle.links.specs.Held.{Held}
use Rattle.links.proofs.Listed.{in_links, from_start}

-- a node of the graph at a place
pub record NodeAt (x : Graph) (i s : ℕ) : Type 0 where
  pub n : ℕ
  pub inside : n < x.nodes
  pub at_position : position x.buf n ≡ i
  pub at_set : in_set x.buf n ≡ s

module _ {h : Here} {x : Graph} (H : Held h x) where
  pub source-node : {i s j t : ℕ} → In (link i s j t) (links_of x) → NodeAt x i s
  source-node m =
      let (k, u, v, e) = (in_links x.buf x.links).0 m in
      record { n = source x.buf k; inside = H.core.source_in k u v; at_position = sym (ap (λ a. a.i) e); at_set = sym (ap (λ a. a.s) e) }

  node_of : {i u : ℕ} → NodeIn (links_of x) i u → NodeAt x i u
  node_of root_in = record { n = 0; inside = H.core.some; at_position = H.core.root_position; at_set = H.core.root_set }
  node_of (source_in m) = source-node m

  node_in : (n : ℕ) → n < x.nodes → NodeIn (links_of x) (position x.buf n) (in_set x.buf n)
  node_in n l = elim (ℕ_discrete n 0) [
    | yes z ↦ subst₂ (NodeIn (links_of x)) (sym (ap (position x.buf) z ∙ H.core.root_position)) (sym (ap (in_set x.buf) z ∙ H.core.root_set)) root_in
    | no z ↦ let a = H.core.lasts n l in
        let d = H.owned n (omega arith) l in
        subst₂ (NodeIn (links_of x)) (ap (position x.buf) (a.is d)) (ap (in_set x.buf) (a.is d))
        (source_in ((in_links x.buf x.links).1 (last_link x.buf n, omega arith, (let q = a.below in omega arith), refl)))
  ]

  -- the set of a node is one of the pool's
  pub set-low : {S : ℕ} → h.sets ≡ S → (n : ℕ) → n < x.nodes → in_set x.buf n < S
  set-low e n i = let l = H.core.in_sets n i in omega arith

  -- the sets at this position are those of the nodes from `start` on
  pub here_in : (n : ℕ) → n < x.nodes → h.start ≤ n → In (in_set x.buf n) (nodes_at (links_of x) h.position)
  here_in n l g = (in_nodes_at (links_of x) h.position).1 (rw (sym (H.core.here n l g)) (node_in n l))

  pub here_of : {u : ℕ} → In u (nodes_at (links_of x) h.position) → (n : ℕ) × (h.start ≤ n) × (n < x.nodes) × (in_set x.buf n ≡ u)
  here_of i =
      let a = node_of ((in_nodes_at (links_of x) h.position).0 i) in
      (a.n, from_start x H.core a.n a.inside a.at_position, a.inside, a.at_set)
