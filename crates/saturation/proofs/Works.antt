-- A reduction, the reductions at a node, and those at every node of the position. Assumes nothing.
use mathlib.Core.Path.{◌≡◌, refl, sym, ◌∙◌, ap, subst, subst₂}
use mathlib.Core.Logic.{◌⊎◌, inl, inr, ⊎_elim}
use mathlib.Core.List.{List}
use Prim.Native.Nat.{ℕ, suc, ◌+◌, ◌*◌, ◌≤◌, ◌<◌}
use native.Mathlib.Decide.{ℕ_discrete, dec_lt}
use native.Mathlib.Omega.{arith}
use Rattle.kernels.specs.Kernel.{has}
use Rattle.theory.specs.Table.{Table, automaton}
use Rattle.theory.specs.Parse.{Link, link}
use Rattle.theory.specs.Steps.{Linked, Noded, Path}
use Rattle.theory.specs.Steps.Linked.{reduced}
use Rattle.theory.specs.Steps.Noded.{root, source}
use Rattle.theory.specs.Steps.Path.{here, down}
use Rattle.table.specs.Layout.{Mem, sets_in, rule_number, bit_of, view}
use Rattle.table.specs.Laid.{Formed}
use Rattle.links.specs.declared.Here.{Here}
use Rattle.links.specs.Records.{under, position, in_set, last_link, Graph}
use Rattle.links.specs.Held.{Edge, Core, Held, Grown, Even}
use Rattle.links.proofs.Listed.{edge_in, in_grown, grown_refl, grown_trans}
use Rattle.levels.specs.Lists.{listed}
use Rattle.levels.specs.Reached.{Down, Reached}
use Rattle.levels.specs.Reached.Down.{stay, on}
use Rattle.saturation.proofs.Nodes.{set-low}
use Rattle.saturation.specs.Wanted.{ToNode, ToList, FirstRule, AtRule, AtNode, AtAll}
use Rattle.saturation.specs.Moves.{Does, Within, Works}
use Rattle.saturation.proofs.Table.{goto-of, reduces-of, rule-low, left_in, left_is, length-is}
use Rattle.saturation.proofs.Does.{does-keeps, to-node-by}

-- ---- where each link more came with its node, the paths from an old node are the old ones

module _ {h : Here} {x y : Graph} (C : Core h x) (g : Grown x y) (e : Even x y) where
  edge_old : {a m : ℕ} → a < x.nodes → Edge y.buf y.links a m → Edge x.buf x.links a m × (m < x.nodes)
  edge_old i f = elim (dec_lt x.links f.k) [
    | yes l ↦ absurd (let c = g.calm e f.k l f.inside in let s = f.from in omega arith)
    | no l ↦
        let u = f.some in
        let v : f.k ≤ x.links = omega arith in
        let s = g.under_same f.k u v in
        (record { k = f.k; some = u; inside = v; from = sym (g.source_same f.k u v) ∙ f.from; to = sym s ∙ f.to }, let i = C.under_in f.k u v in let q = f.to in omega arith)
  ]

  down_old : {n k m : ℕ} → n < x.nodes → Down y.buf y.links n k m → Down x.buf x.links n k m × (m < x.nodes)
  down_old l stay = (stay, l)
  down_old l (on q f) = let (r, i) = down_old l q in let (d, j) = edge_old i f in (on r d, j)

  rule-old : {m : Mem} {p n r : ℕ} {l : Link} → n < x.nodes → AtRule m p n r y l → AtRule m p n r x l
  rule-old i w =
      let (q, j) = down_old i w.path in
      record { end = w.end; path = q; to = to-node-by (sym (g.position_same w.end j)) (sym (g.set_same w.end j)) w.to }

  node-old : {m : Mem} {p n c : ℕ} {l : Link} → n < x.nodes → AtNode m p n c y l → AtNode m p n c x l
  node-old {m} {n = n} i w = record {
    r = w.r;
    low = w.low;
    inside = w.inside;
    red = ap (λ u. bit_of m.sets u (1024 + w.r)) (sym (g.set_same n i)) ∙ w.red;
    by = rule-old i w.by;
  }

-- ---- a reduction

module _ {m : Mem} (F : Formed m) {h : Here} {x : Graph} (H : Held h x) (few : h.sets ≡ sets_in m.rules) where
  down_in : {n k a : ℕ} → n < x.nodes → Down x.buf x.links n k a → a < x.nodes
  down_in i stay = i
  down_in i (on q e) = let l = H.core.under_in e.k e.some e.inside in let f = e.to in omega arith

  module _ (ls : List Link) (G : Within (view m) h ls x) where
    edge-linked : {n a : ℕ} → Edge x.buf x.links n a
        → Linked (view m) ls h.position (link (position x.buf n) (in_set x.buf n) (position x.buf a) (in_set x.buf a))
    edge-linked e = G.below _ (edge_in x H.core e)

    snoc : {k i u a v j w : ℕ} → Path (view m) ls h.position k i u a v → Linked (view m) ls h.position (link a v j w) → Path (view m) ls h.position (suc k) i u j w
    snoc here s = down s here
    snoc (down q r) s = down q (snoc r s)

    path-of : {n k a : ℕ} → Down x.buf x.links n k a
        → Path (view m) ls h.position k (position x.buf n) (in_set x.buf n) (position x.buf a) (in_set x.buf a)
    path-of stay = here
    path-of (on q e) = snoc (path-of q) (edge-linked e)

    noded : (n : ℕ) → n < x.nodes → position x.buf n ≡ h.position → Noded (view m) ls h.position (in_set x.buf n)
    noded n i e = elim (ℕ_discrete n 0) [
      | yes z ↦ subst (Noded (view m) ls h.position) (sym (ap (in_set x.buf) z ∙ H.core.root_set))
          (root (sym e ∙ ap (position x.buf) z ∙ H.core.root_position))
      | no z ↦ let d = H.owned n (omega arith) i in
          let l = H.core.lasts n i in
          let a = under x.buf (last_link x.buf n) in
          source (subst (λ i. Linked (view m) ls h.position (link i (in_set x.buf n) (position x.buf a) (in_set x.buf a))) e
          (edge-linked (record { k = last_link x.buf n; some = omega arith; inside = let q = l.below in omega arith; from = l.is d; to = refl })))
    ]

    rule-linked : (n r : ℕ) → n < x.nodes → h.start ≤ n → r < 128 → bit_of m.sets (in_set x.buf n) (1024 + r) ≡ 1 → (l : Link)
        → AtRule m h.position n r x l → Linked (view m) ls h.position l
    rule-linked n r i g q red l w =
        let e = H.core.here n i g in
        let s = set-low H few n i in
        let k = rule-low m F (in_set x.buf n) r s q red in
        let (a, b) = left_in m F (in_set x.buf n) r s q red in
        reduced r (noded n i e) (reduces-of m F (in_set x.buf n) r s q red)
        (subst₂ (λ k i. Path (view m) ls h.position k i (in_set x.buf n) (position x.buf w.end) (in_set x.buf w.end)) (sym (length-is m F r k)) e (path-of w.path))
        (subst (λ a. (automaton (view m)).Goto (in_set x.buf w.end) a w.to.s) (sym (left_is m F r k))
        (goto-of m F (in_set x.buf w.end) (rule_number m.rules r 1) w.to.s (set-low H few w.end (down_in i w.path)) a b w.to.is w.to.some))
        (sym w.to.the)

  works_by : {y : Graph} (n r : ℕ) (w : List ℕ) (side c : ℕ) → n < x.nodes → h.start ≤ n → r < 128 → bit_of m.sets (in_set x.buf n) (1024 + r) ≡ 1
      → Reached x.buf x.links x.nodes n (rule_number m.rules r 2) w side c
      → Does h (ToList x.buf m.sets.cells w side h.position (rule_number m.rules r 1) c) x y
      → Works (view m) h (AtRule m h.position n r) x y
  works_by n r w side c i g q red R D = record {
    held = D.held;
    grown = D.grown;
    there = λ o e l v.
        let v = rule-old H.core D.grown e i v in
        let a = R.all v.end v.path in
        D.there o l (record { j = a.i; low = a.low; to = subst (λ k. ToNode x.buf m.sets.cells h.position (rule_number m.rules r 1) k l) (sym a.is) v.to });
    keeps = λ ls G. does-keeps D (view m) ls
        (λ l v. rule-linked ls G n r i g q red l (record { end = listed w side v.j; path = R.only (listed w side v.j) (record { i = v.j; low = v.low; is = refl }); to = v.to })) G;
  }

  -- a and k are the rule's left symbol and its length, as they were read
  pub rule_works : {y : Graph} (n r : ℕ) (w : List ℕ) (side c : ℕ) {a k : ℕ} → a ≡ rule_number m.rules r 1 → k ≡ rule_number m.rules r 2
      → n < x.nodes → h.start ≤ n → r < 128 → bit_of m.sets (in_set x.buf n) (1024 + r) ≡ 1 → Reached x.buf x.links x.nodes n k w side c
      → Does h (ToList x.buf m.sets.cells w side h.position a c) x y → Works (view m) h (AtRule m h.position n r) x y
  rule_works {y} n r w side c e f i g q red R D =
      works_by n r w side c i g q red (subst (λ k. Reached x.buf x.links x.nodes n k w side c) f R)
      (subst (λ a. Does h (ToList x.buf m.sets.cells w side h.position a c) x y) e D)

-- ---- one step after the other

module _ {x y z : Graph} (f : Grown x y) (g : Grown y z) (e : Even x z) where
  even_first : Even x y
  even_first = omega (arith, f.pace, g.pace)

  even_next : Even y z
  even_next = omega (arith, f.pace, g.pace)

works_next : {t : Table} {h : Here} {W₁ W₂ W : Graph → Link → Type 0} {x y z : Graph} → Works t h W₁ x y → Works t h W₂ y z
    → (Even y z → (l : Link) → W z l → W₁ y l ⊎ W₂ z l) → Works t h W x z
works_next D E f = record {
  held = E.held;
  grown = grown_trans D.grown E.grown;
  there = λ o e l u. let k = even_next D.grown E.grown e in
      ⊎_elim (λ w. in_grown D.held.core E.grown (D.there (E.grown.over o) (even_first D.grown E.grown e) l w)) (E.there o k l) (f k l u);
  keeps = λ ls g. E.keeps ls (D.keeps ls g);
}

clash : {x : ℕ} → x ≡ 0 → x ≡ 1 → ⊥
clash p q = omega arith

works_nothing : {t : Table} {h : Here} {x : Graph} {W : Graph → Link → Type 0} → Held h x → ((l : Link) → W x l → ⊥) → Works t h W x x
works_nothing {x = x} H f = record { held = H; grown = grown_refl x; there = λ o e l w. absurd (f l w); keeps = λ ls g. g }

-- a reduction of node n, of set u, that the set has not
no-rule : {m : Mem} {p n u : ℕ} {x y : Graph} {c : ℕ} {l : Link} → u ≡ in_set x.buf n → n < x.nodes → Grown x y → (w : AtNode m p n c y l)
    → has m.sets.words (u * 18) (1024 + w.r) ≡ 0 → ⊥
no-rule {m} is i g w z = clash z (ap (λ s. bit_of m.sets s (1024 + w.r)) (is ∙ sym (g.set_same _ i)) ∙ w.red)

module _ {m : Mem} {h : Here} {x : Graph} where
  -- ---- at a node of set u: the reductions below r

  module _ (n u : ℕ) (is : u ≡ in_set x.buf n) where
    pub node-next : {y z : Graph} (from r : ℕ) → n < x.nodes → Works (view m) h (AtNode m h.position n from) x y → Works (view m) h (AtRule m h.position n r) y z
        → FirstRule m.sets.words u from r → Works (view m) h (AtNode m h.position n (r + 1)) x z
    node-next {y} {z} from r i D E b = works_next D E split
      where
        i' : n < y.nodes
        i' = omega (arith, D.grown.nodes)

        split : Even y z → (l : Link) → AtNode m h.position n (r + 1) z l → AtNode m h.position n from y l ⊎ AtRule m h.position n r z l
        split k l w = elim (ℕ_discrete w.r r) [
          | yes q ↦ inr (subst (λ r. AtRule m h.position n r z l) q w.by)
          | no q ↦ elim (dec_lt w.r from) [
            | yes j ↦ inl (node-old D.held.core E.grown k i' (record { r = w.r; low = j; inside = w.inside; red = w.red; by = w.by }))
            | no j ↦ absurd (no-rule is i (grown_trans D.grown E.grown) w (b.none w.r (omega arith) (let a = w.low in omega arith)))
          ]
        ]

    pub node_end : {y : Graph} (from : ℕ) → n < x.nodes → ((j : ℕ) → from ≤ j → j < 128 → has m.sets.words (u * 18) (1024 + j) ≡ 0)
        → Works (view m) h (AtNode m h.position n from) x y → Works (view m) h (AtNode m h.position n 128) x y
    node_end from i b D = record {
      held = D.held;
      grown = D.grown;
      there = λ o e k w. D.there o e k (elim (dec_lt w.r from) [
        | yes j ↦ record { r = w.r; low = j; inside = w.inside; red = w.red; by = w.by }
        | no j ↦ absurd (no-rule is i D.grown w (b w.r (omega arith) w.low))
      ]);
      keeps = D.keeps;
    }

  -- ---- at the nodes of the position below n

  pub all-next : {y z : Graph} (n : ℕ) → n < y.nodes → Works (view m) h (AtAll m h.position h.start n) x y → Works (view m) h (AtNode m h.position n 128) y z
      → Works (view m) h (AtAll m h.position h.start (n + 1)) x z
  all-next {y} {z} n i D E = works_next D E split
    where
      split : Even y z → (l : Link) → AtAll m h.position h.start (n + 1) z l → AtAll m h.position h.start n y l ⊎ AtNode m h.position n 128 z l
      split k l w = elim (ℕ_discrete w.n n) [
        | yes q ↦ inr (subst (λ n. AtNode m h.position n 128 z l) q w.by)
        | no q ↦ inl (record { n = w.n; from = w.from; low = let j = w.low in omega arith; by = node-old D.held.core E.grown k (let j = w.low in omega arith) w.by })
      ]

  pub all_end : {y : Graph} (n : ℕ) → y.nodes ≤ n → Works (view m) h (AtAll m h.position h.start n) x y
      → Works (view m) h (λ g. AtAll m h.position h.start g.nodes g) x y
  all_end n l D = record {
    held = D.held;
    grown = D.grown;
    there = λ o e k w. D.there o e k (record { n = w.n; from = w.from; low = let q = w.low in omega arith; by = w.by });
    keeps = D.keeps;
  }
