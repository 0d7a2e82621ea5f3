-- The outcomes of adding a link: it is there; there is no room; it was put, with or without its source node. Assumes nothing.
use mathlib.Core.Path.{◌≡◌, refl, sym, ◌∙◌, ap, ap₂, subst, subst₂}
use mathlib.Core.Logic.{◌≢◌, inl, inr, ⊎_elim}
use mathlib.Core.List.Memᴰ
use mathlib.Core.List.Memᴰ.{head as at_head}
use mathlib.Core.List.{List, ◌∷◌, Memᴰ as In}
use Prim.Native.Nat.{ℕ, ◌+◌, ◌*◌, ◌≤◌, ◌<◌}
use native.Mathlib.Decide.{ℕ_discrete}
use native.Mathlib.Omega.{arith}
use lib.ListN.{length, set}
use Rattle.theory.specs.Parse.{Link, link}
use Rattle.links.specs.declared.Here.{Here}
use Rattle.links.specs.declared.Counts.{Counts}
use Rattle.links.specs.Records.{source, under, position, in_set, last_link, Graph, graph, counts, link_of, links_of, put_node, put_link}
use Rattle.links.specs.Held.{Edge, Core, Held, Grown, Adds}
use Rattle.links.proofs.Stored.{put-source, put_under, put_last, last-old, position-old, set-old}
use Rattle.links.proofs.Kept.{linked, put-core, put-grown, noded, node-core, d_source, d_under, d_position, d_set, d_last, n-position, n-set}
use Rattle.links.proofs.Listed.{edge_in, edge_of, source-here, one_link, grown-mark, grown_refl}

module _ {h : Here} (x : Graph) (H : Held h x) (s m : ℕ) (m_in : m < x.nodes) where
  abbrev the : Link
  the = link h.position s (position x.buf m) (in_set x.buf m)

  -- ---- no room for it

  full-adds : (In the (links_of x) → ⊥) → x.links ≡ h.size → Adds h s m x (graph x.buf x.at (counts x.nodes x.links 1))
  full-adds nay e = record {
    held = record {
      core = record {
        room = H.core.room;
        few = H.core.few;
        wide = H.core.wide;
        few_sets = H.core.few_sets;
        low = H.core.low;
        fits = H.core.fits;
        some = H.core.some;
        node_room = H.core.node_room;
        begun = H.core.begun;
        source_in = H.core.source_in;
        under_in = H.core.under_in;
        chain = H.core.chain;
        lasts = H.core.lasts;
        once = H.core.once;
        root_position = H.core.root_position;
        root_set = H.core.root_set;
        here = H.core.here;
        before = H.core.before;
        found = H.core.found;
        in_sets = H.core.in_sets;
        unique = H.core.unique;
      };
      few_nodes = H.few_nodes;
      owned = H.owned;
    };
    grown = grown-mark x 1 (λ o. absurd (omega arith));
    there = λ o. absurd (omega arith);
    only = λ l i. inl i;
    full = λ o. inr (e, nay);
  }

  -- ---- one more

  one-adds : (y : Graph) → Held h y → Grown x y → y.links ≡ x.links + 1 → y.over ≡ x.over → link_of y.buf y.links ≡ the → Adds h s m x y
  one-adds y K g e o' q = record {
    held = K;
    grown = g;
    there = λ o. subst (In the) (sym l) (at_head (sym q));
    only = λ a i. ⊎_elim (λ z. inr (z ∙ q)) inl (Memᴰ.cases_cons (subst (In a) l i));
    full = λ o. inl (λ z. o (o' ∙ z));
  }
    where
      l : links_of y ≡ link_of y.buf y.links ∷ links_of x
      l = one_link H.core g e

  the_link : (b : List ℕ) (l n : ℕ) → source b l ≡ n → under b l ≡ m → position b n ≡ h.position → in_set b n ≡ s → position b m ≡ position x.buf m
      → in_set b m ≡ in_set x.buf m → link_of b l ≡ the
  the_link b l n e f u v w y = λ z. record {
    i = (ap (position b) e ∙ u) z;
    s = (ap (in_set b) e ∙ v) z;
    j = (ap (position b) f ∙ w) z;
    t = (ap (in_set b) f ∙ y) z;
  }

  -- ---- from a node n that is there

  module _ (n : ℕ) (n_in : n < x.nodes) (from : h.start ≤ n) (is : in_set x.buf n ≡ s) where
    same_place_lem : link (position x.buf n) (in_set x.buf n) (position x.buf m) (in_set x.buf m) ≡ the
    same_place_lem = ap₂ (λ i s. link i s (position x.buf m) (in_set x.buf m)) (H.core.here n n_in from) is

    pub found-there : Edge x.buf x.links n m → Adds h s m x x
    found-there e = record {
      held = H;
      grown = grown_refl x;
      there = λ o. subst (λ a. In a (links_of x)) same_place_lem (edge_in x H.core e);
      only = λ l i. inl i;
      full = inl;
    }

    module _ (nay : Edge x.buf x.links n m → ⊥) where
      pub found-full : x.links ≡ h.size → Adds h s m x (graph x.buf x.at (counts x.nodes x.links 1))
      found-full = full-adds (λ i. nay (edge_of x H.core n_in m_in (subst (λ a. In a (links_of x)) (sym same_place_lem) i)))

      module _ (space : x.links < h.size) where
        b₀ : List ℕ
        b₀ = put_link x.buf n m (x.links + 1)

        in_k : (x.links + 1) * 6 + 5 < length x.buf
        in_k = omega (arith, H.core.room)

        pub found-linked : Adds h s m x (graph (put_link x.buf n m (x.links + 1)) x.at (counts x.nodes (x.links + 1) x.over))
        unfolding b₀
        found-linked = one-adds (linked x H.core n m n_in m_in space nay) (record {
          core = put-core x H.core n m n_in m_in space nay;
          few_nodes = omega (arith, H.few_nodes);
          owned = λ a u v. elim (ℕ_discrete a n) [
            | yes e ↦ λ z. let q = ap (last_link b₀) e in let r = put_last x.buf n m (x.links + 1) (omega (arith, H.core.room, H.core.node_room)) in omega arith
            | no d ↦ λ z. H.owned a u v (sym (last-old x.buf n m (x.links + 1) a d) ∙ z)
          ];
        }) (put-grown x H.core n m n_in m_in space nay) refl refl
            (the_link b₀ (x.links + 1) n (put-source x.buf n m (x.links + 1) in_k) (put_under x.buf n m (x.links + 1) in_k)
            (po n ∙ H.core.here n n_in from) (so n ∙ is) (po m) (so m))
          where
            po : (j : ℕ) → position b₀ j ≡ position x.buf j
            po j = position-old x.buf n m (x.links + 1) j

            so : (j : ℕ) → in_set b₀ j ≡ in_set x.buf j
            so j = set-old x.buf n m (x.links + 1) j

  -- ---- from a node that is not there yet

  module _ (free : (n : ℕ) → h.start ≤ n → n < x.nodes → in_set x.buf n ≢ s) where
    pub free-full : x.links ≡ h.size → Adds h s m x (graph x.buf x.at (counts x.nodes x.links 1))
    free-full = full-adds (λ i. let (n, a, b, e) = source-here x H.core i in free n a b e)

    module _ (s_in : s < h.sets) (space : x.links < h.size) where
      n_room : x.nodes ≤ h.size
      n_room = omega (arith, H.few_nodes)

      abbrev x₁ : Graph
      x₁ = noded x H.core s s_in free n_room

      C₁ : Core h x₁
      C₁ = node-core x H.core s s_in free n_room

      fresh : Edge x₁.buf x₁.links x.nodes m → ⊥
      fresh e = let g = H.core.source_in e.k e.some e.inside in let f = d_source x H.core s s_in free n_room e.k in let q = e.from in omega arith

      b₁ : List ℕ
      b₁ = put_node x.buf x.nodes h.position s

      in-k₁ : (x.links + 1) * 6 + 5 < length x₁.buf
      in-k₁ = omega (arith, C₁.room)

      pub free-linked : Adds h s m x
          (graph (put_link (put_node x.buf x.nodes h.position s) x.nodes m (x.links + 1)) (set x.at s x.nodes) (counts (x.nodes + 1) (x.links + 1) x.over))
      unfolding b₁
      free-linked = one-adds (linked x₁ C₁ x.nodes m (omega arith) (omega arith) space fresh) (record {
        core = put-core x₁ C₁ x.nodes m (omega arith) (omega arith) space fresh;
        few_nodes = omega (arith, H.few_nodes);
        owned = λ a u v. elim (ℕ_discrete a x.nodes) [
          | yes e ↦ λ z. let q = ap (last_link (put_link b₁ x.nodes m (x.links + 1))) e in let r = put_last b₁ x.nodes m (x.links + 1) (omega (arith, C₁.room)) in omega arith
          | no d ↦ λ z. H.owned a u (omega arith) (sym (d_last x H.core s s_in free n_room a (omega arith)) ∙ sym (last-old b₁ x.nodes m (x.links + 1) a d) ∙ z)
        ];
      }) grows refl refl
          (the_link (put_link b₁ x.nodes m (x.links + 1)) (x.links + 1) x.nodes (put-source b₁ x.nodes m (x.links + 1) in-k₁) (put_under b₁ x.nodes m (x.links + 1) in-k₁)
          (po x.nodes ∙ n-position x H.core s s_in free n_room) (so x.nodes ∙ n-set x H.core s s_in free n_room)
          (po m ∙ d_position x H.core s s_in free n_room m m_in) (so m ∙ d_set x H.core s s_in free n_room m m_in))
        where
          g₁ : Grown x₁ (linked x₁ C₁ x.nodes m (omega arith) (omega arith) space fresh)
          g₁ = put-grown x₁ C₁ x.nodes m (omega arith) (omega arith) space fresh

          po : (j : ℕ) → position (put_link b₁ x.nodes m (x.links + 1)) j ≡ position b₁ j
          po j = position-old b₁ x.nodes m (x.links + 1) j

          so : (j : ℕ) → in_set (put_link b₁ x.nodes m (x.links + 1)) j ≡ in_set b₁ j
          so j = set-old b₁ x.nodes m (x.links + 1) j

          grows : Grown x (linked x₁ C₁ x.nodes m (omega arith) (omega arith) space fresh)
          grows = record {
            links = omega arith;
            nodes = omega arith;
            over = λ o. o;
            position_same = λ n g. po n ∙ d_position x H.core s s_in free n_room n g;
            set_same = λ n g. so n ∙ d_set x H.core s s_in free n_room n g;
            source_same = λ k u v. g₁.source_same k u v ∙ d_source x H.core s s_in free n_room k;
            under_same = λ k u v. g₁.under_same k u v ∙ d_under x H.core s s_in free n_room k;
            same_buf = λ e. absurd (omega arith);
            same_nodes = λ e. absurd (omega arith);
            pace = omega arith;
            calm = λ e k u v.
                let z : k ≡ x.links + 1 = omega arith in
                let s = put-source b₁ x.nodes m (x.links + 1) in-k₁ in
                let y = ap (source (put_link b₁ x.nodes m (x.links + 1))) z in
                omega arith;
          }

-- ---- the same, of what the code read and wrote

-- of lists that are known to be equal
pub adds-by : {h : Here} {s m : ℕ} {x : Graph} {b b' a a' : List ℕ} {c : Counts} → b' ≡ b → a' ≡ a → Adds h s m x (graph b a c) → Adds h s m x (graph b' a' c)
adds-by {h} {s} {m} {x} {c = c} e f d = subst₂ (λ b a. Adds h s m x (graph b a c)) (sym e) (sym f) d

pub put-after : (n m k : ℕ) {b b₁ b₂ : List ℕ} → b₂ ≡ put_link b₁ n m k → b₁ ≡ b → b₂ ≡ put_link b n m k
put-after n m k e f = e ∙ ap (λ b. put_link b n m k) f
