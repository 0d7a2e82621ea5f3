-- A node or a link put into the buffer keeps what holds of it. Assumes nothing.
use mathlib.Core.Path.{◌≡◌, refl, sym, ◌∙◌, ap, subst}
use mathlib.Core.Logic.{◌≢◌}
use mathlib.Core.List.{List}
use Prim.Native.Nat.{ℕ, ◌+◌, ◌*◌, ◌≤◌, ◌<◌}
use native.Mathlib.Decide.{ℕ_discrete, dec_lt}
use native.Mathlib.Omega.{arith}
use lib.ListN.{length, get_or, set, length-set}
use lib.Seq.{get_or-set_same, get_or-set_other}
use Rattle.links.specs.declared.Here.{Here}
use Rattle.links.specs.Records.{source, under, previous, position, in_set, last_link, Graph, graph, counts, put_node, put_link}
use Rattle.links.specs.Held.{Last, Edge, Core, Grown}
use Rattle.links.proofs.Stored.{put-length, source-old, under-old, previous-old, last-old, position-old, set-old, put-source, put_under, put-previous, put_last, node-length, node-source, node-under, node-previous, other-position, other-set, other_last, node-position, node-set, node-last}

-- what holds up to l and at l + 1 holds up to l + 1
up_to : {P : ℕ → Type 0} {l : ℕ} → ((k : ℕ) → 1 ≤ k → k ≤ l → P k) → P (l + 1) → (k : ℕ) → 1 ≤ k → k ≤ l + 1 → P k
up_to {P} {l} f h k a b = elim (ℕ_discrete k (l + 1)) [ yes e ↦ subst P (sym e) h | no d ↦ f k a (omega arith) ]

below_too : {P : ℕ → Type 0} {l : ℕ} → ((k : ℕ) → k < l → P k) → P l → (k : ℕ) → k < l + 1 → P k
below_too {P} {l} f h k a = elim (ℕ_discrete k l) [ yes e ↦ subst P (sym e) h | no d ↦ f k (omega arith) ]

-- ---- a link

module _ {h : Here} (x : Graph) (C : Core h x) (n m : ℕ) (n_in : n < x.nodes) (m_in : m < x.nodes) (space : x.links < h.size)
    (new : Edge x.buf x.links n m → ⊥) where
  b' : List ℕ
  b' = put_link x.buf n m (x.links + 1)

  abbrev pub linked : Graph
  linked = graph (put_link x.buf n m (x.links + 1)) x.at (counts x.nodes (x.links + 1) x.over)

  in_k : (x.links + 1) * 6 + 5 < length x.buf
  in_k = omega (arith, C.room)

  in_n : n * 6 + 5 < length x.buf
  in_n = omega (arith, C.room, C.node_room)

  s-old : (j : ℕ) → j ≤ x.links → source b' j ≡ source x.buf j
  unfolding b'
  s-old j l = source-old x.buf n m (x.links + 1) j (λ e. omega arith)

  t-old : (j : ℕ) → j ≤ x.links → under b' j ≡ under x.buf j
  unfolding b'
  t-old j l = under-old x.buf n m (x.links + 1) j (λ e. omega arith)

  s-new : source b' (x.links + 1) ≡ n
  unfolding b'
  s-new = put-source x.buf n m (x.links + 1) in_k

  t-new : under b' (x.links + 1) ≡ m
  unfolding b'
  t-new = put_under x.buf n m (x.links + 1) in_k

  -- the last link before d stays what it was
  last_stays : {a d c : ℕ} → d ≤ x.links + 1 → Last x.buf a d c → Last b' a d c
  last_stays {a} {d} {c} g l = record {
    below = l.below;
    is = λ z. s-old c (let q = l.below in omega arith) ∙ l.is z;
    after = λ j p q e. l.after j p q (sym (s-old j (omega arith)) ∙ e);
  }

  -- and the last before the new one's end, where the new one's source is another
  last-other : {a c : ℕ} → a ≢ n → Last x.buf a (x.links + 1) c → Last b' a (x.links + 1 + 1) c
  last-other {a} {c} d l = record {
    below = let q = l.below in omega arith;
    is = λ z. s-old c (let q = l.below in omega arith) ∙ l.is z;
    after = λ j p q e. elim (ℕ_discrete j (x.links + 1)) [
      | yes z ↦ d (sym e ∙ ap (source b') z ∙ s-new)
      | no z ↦ l.after j p (omega arith) (sym (s-old j (omega arith)) ∙ e)
    ];
  }

  last-new : Last b' n (x.links + 1 + 1) (x.links + 1)
  last-new = record { below = omega arith; is = λ z. s-new; after = λ j p q e. absurd (omega arith) }

  pub put-core : Core h linked
  unfolding b'
  put-core = record {
    room = omega (arith, C.room, put-length x.buf n m (x.links + 1));
    few = C.few;
    wide = C.wide;
    few_sets = C.few_sets;
    low = C.low;
    fits = omega arith;
    some = C.some;
    node_room = C.node_room;
    begun = C.begun;
    source_in = up_to (λ j u v. let e = s-old j v in let g = C.source_in j u v in omega arith) (let e = s-new in omega arith);
    under_in = up_to (λ j u v. let e = t-old j v in let g = C.under_in j u v in omega arith) (let e = t-new in omega arith);
    chain = up_to
        (λ j u v. subst (λ a. Last b' a j (previous b' j)) (sym (s-old j v))
        (subst (λ c. Last b' (source x.buf j) j c) (sym (previous-old x.buf n m (x.links + 1) j (λ e. omega arith)))
        (last_stays (omega arith) (C.chain j u v))))
        (subst (λ a. Last b' a (x.links + 1) (previous b' (x.links + 1))) (sym s-new)
        (subst (λ c. Last b' n (x.links + 1) c) (sym (put-previous x.buf n m (x.links + 1) in_k))
        (last_stays (omega arith) (C.lasts n n_in))));
    lasts = λ a g. elim (ℕ_discrete a n) [
      | yes e ↦ subst (λ a. Last b' a (x.links + 1 + 1) (last_link b' a)) (sym e)
          (subst (λ c. Last b' n (x.links + 1 + 1) c) (sym (put_last x.buf n m (x.links + 1) in_n)) last-new)
      | no d ↦ subst (λ c. Last b' a (x.links + 1 + 1) c) (sym (last-old x.buf n m (x.links + 1) a d)) (last-other d (C.lasts a g))
    ];
    once = λ i j u v w e f. elim (ℕ_discrete j (x.links + 1)) [
      | yes z ↦ new (record {
        k = i;
        some = u;
        inside = omega arith;
        from = sym (s-old i (omega arith)) ∙ e ∙ ap (source b') z ∙ s-new;
        to = sym (t-old i (omega arith)) ∙ f ∙ ap (under b') z ∙ t-new;
      })
      | no z ↦ C.once i j u v (omega arith) (sym (s-old i (omega arith)) ∙ e ∙ s-old j (omega arith)) (sym (t-old i (omega arith)) ∙ f ∙ t-old j (omega arith))
    ];
    root_position = po 0 ∙ C.root_position;
    root_set = so 0 ∙ C.root_set;
    here = λ a u v. po a ∙ C.here a u v;
    before = λ a u v. let e = po a in let g = C.before a u v in omega arith;
    found = λ a u v. ap (λ s. get_or x.at s 0) (so a) ∙ C.found a u v;
    in_sets = λ a u. let e = so a in let g = C.in_sets a u in omega arith;
    unique = λ a c u v e f. C.unique a c u v (sym (po a) ∙ e ∙ po c) (sym (so a) ∙ f ∙ so c);
  }
    where
      po : (j : ℕ) → position b' j ≡ position x.buf j
      po j = position-old x.buf n m (x.links + 1) j

      so : (j : ℕ) → in_set b' j ≡ in_set x.buf j
      so j = set-old x.buf n m (x.links + 1) j

  pub put-grown : Grown x linked
  unfolding b'
  put-grown = record {
    links = omega arith;
    nodes = omega arith;
    over = λ o. o;
    position_same = λ j g. position-old x.buf n m (x.links + 1) j;
    set_same = λ j g. set-old x.buf n m (x.links + 1) j;
    source_same = λ j u v. s-old j v;
    under_same = λ j u v. t-old j v;
    same_buf = λ e. absurd (omega arith);
    same_nodes = λ e. absurd (omega arith);
    pace = omega arith;
    calm = λ e. absurd (omega arith);
  }

-- ---- a node

module _ {h : Here} (x : Graph) (C : Core h x) (s : ℕ) (s_in : s < h.sets) (free : (n : ℕ) → h.start ≤ n → n < x.nodes → in_set x.buf n ≢ s)
    (space : x.nodes ≤ h.size) where
  abbrev pub d : List ℕ
  d = put_node x.buf x.nodes h.position s

  abbrev pub noded : Graph
  noded = graph (put_node x.buf x.nodes h.position s) (set x.at s x.nodes) (counts (x.nodes + 1) x.links x.over)

  pub d_source : (j : ℕ) → source d j ≡ source x.buf j
  d_source j = node-source x.buf x.nodes h.position s j

  pub d_under : (j : ℕ) → under d j ≡ under x.buf j
  d_under j = node-under x.buf x.nodes h.position s j

  pub d_position : (j : ℕ) → j < x.nodes → position d j ≡ position x.buf j
  d_position j l = other-position x.buf x.nodes h.position s j (λ e. omega arith)

  pub d_set : (j : ℕ) → j < x.nodes → in_set d j ≡ in_set x.buf j
  d_set j l = other-set x.buf x.nodes h.position s j (λ e. omega arith)

  pub d_last : (j : ℕ) → j < x.nodes → last_link d j ≡ last_link x.buf j
  d_last j l = other_last x.buf x.nodes h.position s j (λ e. omega arith)

  in_n' : x.nodes * 6 + 5 < length x.buf
  in_n' = omega (arith, C.room)

  pub n-position : position d x.nodes ≡ h.position
  n-position = node-position x.buf x.nodes h.position s in_n'

  pub n-set : in_set d x.nodes ≡ s
  n-set = node-set x.buf x.nodes h.position s in_n'

  stays : {a e c : ℕ} → Last x.buf a e c → Last d a e c
  stays {a} {e} {c} l = record { below = l.below; is = λ z. d_source c ∙ l.is z; after = λ j u v w. l.after j u v (sym (d_source j) ∙ w) }

  at_new : get_or (set x.at s x.nodes) s 0 ≡ x.nodes
  at_new = get_or-set_same x.at s x.nodes 0 (omega (arith, C.wide, C.few_sets))

  at_old : (t : ℕ) → t ≢ s → get_or (set x.at s x.nodes) t 0 ≡ get_or x.at t 0
  at_old t l = get_or-set_other x.at s t x.nodes 0 l

  -- no other node stands there
  alone : (a : ℕ) → a < x.nodes → position x.buf a ≡ h.position → in_set x.buf a ≢ s
  alone a l e = elim (dec_lt a h.start) [ yes z ↦ absurd (let q = C.before a l z in omega arith) | no z ↦ free a (omega arith) l ]

  pub node-core : Core h noded
  node-core = record {
    room = omega (arith, C.room, node-length x.buf x.nodes h.position s);
    few = C.few;
    wide = length-set x.at s x.nodes ∙ C.wide;
    few_sets = C.few_sets;
    low = C.low;
    fits = C.fits;
    some = omega arith;
    node_room = omega arith;
    begun = let g = C.begun in omega arith;
    source_in = λ k u v. let e = d_source k in let g = C.source_in k u v in omega arith;
    under_in = λ k u v. let e = d_under k in let g = C.under_in k u v in omega arith;
    chain = λ k u v. subst (λ a. Last d a k (previous d k)) (sym (d_source k))
        (subst (λ c. Last d (source x.buf k) k c) (sym (node-previous x.buf x.nodes h.position s k)) (stays (C.chain k u v)));
    lasts = below_too (λ a g. subst (λ c. Last d a (x.links + 1) c) (sym (d_last a g)) (stays (C.lasts a g)))
        (subst (λ c. Last d x.nodes (x.links + 1) c) (sym (node-last x.buf x.nodes h.position s in_n')) (record {
          below = omega arith;
          is = λ z. absurd (z refl);
          after = λ j u v w. let e = d_source j in let g = C.source_in j u (omega arith) in omega arith;
        }));
    once = λ i j u v w e f. C.once i j u v w (sym (d_source i) ∙ e ∙ d_source j) (sym (d_under i) ∙ f ∙ d_under j);
    root_position = d_position 0 C.some ∙ C.root_position;
    root_set = d_set 0 C.some ∙ C.root_set;
    here = below_too (λ a g u. d_position a g ∙ C.here a g u) (λ u. n-position);
    before = below_too (λ a g u. let e = d_position a g in let q = C.before a g u in omega arith) (λ u. absurd (let g = C.begun in omega arith));
    found = below_too
        (λ a g u. ap (λ t. get_or (set x.at s x.nodes) t 0) (d_set a g) ∙ at_old (in_set x.buf a) (free a u g) ∙ C.found a g u)
        (λ u. ap (λ t. get_or (set x.at s x.nodes) t 0) n-set ∙ at_new);
    in_sets = below_too (λ a g. let e = d_set a g in let q = C.in_sets a g in omega arith) (let e = n-set in omega arith);
    unique = uniq;
  }
    where
      uniq : (a c : ℕ) → a < x.nodes + 1 → c < x.nodes + 1 → position d a ≡ position d c → in_set d a ≡ in_set d c → a ≡ c
      uniq a c u v e f = elim (ℕ_discrete a x.nodes) [
        | yes y ↦ elim (ℕ_discrete c x.nodes) [
          | yes z ↦ y ∙ sym z
          | no z ↦ let g : c < x.nodes = omega arith in
              absurd (alone c g (sym (d_position c g) ∙ sym e ∙ ap (position d) y ∙ n-position) (sym (d_set c g) ∙ sym f ∙ ap (in_set d) y ∙ n-set))
        ]
        | no y ↦ elim (ℕ_discrete c x.nodes) [
          | yes z ↦ let g : a < x.nodes = omega arith in
              absurd (alone a g (sym (d_position a g) ∙ e ∙ ap (position d) z ∙ n-position) (sym (d_set a g) ∙ f ∙ ap (in_set d) z ∙ n-set))
          | no z ↦ let g : a < x.nodes = omega arith in
              let k : c < x.nodes = omega arith in
              C.unique a c g k (sym (d_position a g) ∙ e ∙ d_position c k) (sym (d_set a g) ∙ f ∙ d_set c k)
        ]
      ]
