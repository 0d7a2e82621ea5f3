-- The links that a buffer holds, as a list. Assumes nothing.
use mathlib.Core.Path.{◌≡◌, refl, sym, ◌∙◌, ap, ap₂, subst}
use mathlib.Core.Logic.{◌↔◌, ⊎_elim}
use mathlib.Core.List.Memᴰ
use mathlib.Core.List.Memᴰ.{head as at_head}
use mathlib.Core.List.Memᴰ.{tail as in_Tail}
use mathlib.Core.List.{List, ◌∷◌, Memᴰ as In}
use Prim.Native.Nat.{ℕ, zero, suc, ◌+◌, ◌≤◌, ◌<◌}
use native.Mathlib.Decide.{ℕ_discrete, dec_lt}
use native.Mathlib.Numerals.{add-one}
use native.Mathlib.Omega.{arith}
use lib.ListN.{length}
use Rattle.laws.specs.Lists.{Distinct}
use Rattle.laws.specs.Lists.Distinct.{none, one_more}
use Rattle.theory.specs.Parse.{Link, link}
use Rattle.links.specs.declared.Here.{Here}
use Rattle.links.specs.Records.{source, position, in_set, Graph, graph, counts, link_of, links_in, links_of}
use Rattle.links.specs.Held.{Edge, Core, Grown}

pub in_links : (b : List ℕ) (l : ℕ) {a : Link} → In a (links_in b l) ↔ ((k : ℕ) × (1 ≤ k) × (k ≤ l) × (a ≡ link_of b k))
unfolding links_in
in_links b zero = (λ m. absurd (Memᴰ.not-nil m), λ (k, u, v, e). absurd (omega arith))
in_links b (suc l) {a} = (
  λ m. ⊎_elim (λ e. (suc l, omega arith, omega arith, e)) (λ n. let (k, u, v, e) = (in_links b l).0 n in (k, u, omega arith, e)) (Memᴰ.cases_cons m),
  λ (k, u, v, e). elim (ℕ_discrete k (suc l)) [
    | yes z ↦ at_head (e ∙ ap (link_of b) z)
    | no z ↦ in_Tail ((in_links b l).1 (k, u, omega arith, e))
  ],
)

pub count : (b : List ℕ) (l : ℕ) → length (links_in b l) ≡ l
unfolding links_in
count b zero = refl
count b (suc l) = ap suc (count b l)

-- two buffers with the same links
links-same : (b c : List ℕ) (l : ℕ) → ((k : ℕ) → 1 ≤ k → k ≤ l → link_of c k ≡ link_of b k) → links_in c l ≡ links_in b l
unfolding links_in
links-same b c zero h = refl
links-same b c (suc l) h = ap₂ (λ a r. a ∷ r) (h (suc l) (omega arith) (omega arith)) (links-same b c l (λ k u v. h k u (omega arith)))

module _ {h : Here} (x : Graph) (C : Core h x) where
  distinct_up_to : (l : ℕ) → l ≤ x.links → Distinct (links_in x.buf l)
  unfolding links_in
  distinct_up_to zero g = none
  distinct_up_to (suc l) g = one_more (λ m. let (k, u, v, e) = (in_links x.buf l).0 m in twice k u v e) (distinct_up_to l (omega arith))
    where
      twice : (k : ℕ) → 1 ≤ k → k ≤ l → link_of x.buf (suc l) ≡ link_of x.buf k → ⊥
      twice k u v e = C.once k (suc l) u (omega arith) g
          (sym (C.unique _ _ (C.source_in (suc l) (omega arith) g) (C.source_in k u (omega arith)) (ap (λ a. a.i) e) (ap (λ a. a.s) e)))
          (sym (C.unique _ _ (C.under_in (suc l) (omega arith) g) (C.under_in k u (omega arith)) (ap (λ a. a.j) e) (ap (λ a. a.t) e)))

  -- "each link counts once"
  pub distinct : Distinct (links_of x)
  distinct = distinct_up_to x.links (omega arith)

  pub edge_in : {n m : ℕ} → Edge x.buf x.links n m → In (link (position x.buf n) (in_set x.buf n) (position x.buf m) (in_set x.buf m)) (links_of x)
  edge_in {n} {m} e = (in_links x.buf x.links).1 (
    e.k,
    e.some,
    e.inside,
    ap₂ (λ n m. link (position x.buf n) (in_set x.buf n) (position x.buf m) (in_set x.buf m)) (sym e.from) (sym e.to),
  )

  -- a link of the list between two nodes' places is an edge between them
  pub edge_of : {n m : ℕ} → n < x.nodes → m < x.nodes → In (link (position x.buf n) (in_set x.buf n) (position x.buf m) (in_set x.buf m)) (links_of x)
      → Edge x.buf x.links n m
  edge_of f g i =
      let (k, u, v, e) = (in_links x.buf x.links).0 i in record {
        k = k;
        some = u;
        inside = v;
        from = C.unique _ _ (C.source_in k u v) f (sym (ap (λ a. a.i) e)) (sym (ap (λ a. a.s) e));
        to = C.unique _ _ (C.under_in k u v) g (sym (ap (λ a. a.j) e)) (sym (ap (λ a. a.t) e));
      }

  -- the nodes of this position are those from `start` on
  pub from_start : (n : ℕ) → n < x.nodes → position x.buf n ≡ h.position → h.start ≤ n
  from_start n g e = elim (dec_lt n h.start) [ yes z ↦ absurd (let q = C.before n g z in omega arith) | no z ↦ omega arith ]

  -- a link from this position has its source among them
  pub source-here : {s j t : ℕ} → In (link h.position s j t) (links_of x) → (n : ℕ) × (h.start ≤ n) × (n < x.nodes) × (in_set x.buf n ≡ s)
  source-here i =
      let (k, u, v, e) = (in_links x.buf x.links).0 i in
      let g = C.source_in k u v in
      (source x.buf k, from_start (source x.buf k) g (sym (ap (λ a. a.i) e)), g, sym (ap (λ a. a.s) e))

-- ---- growth

-- the old links, in a grown graph
pub grown-links : {h : Here} {x y : Graph} → Core h x → Grown x y → links_in y.buf x.links ≡ links_of x
grown-links {x = x} {y = y} C g = links-same x.buf y.buf x.links (λ k u v.
    let a = g.source_same k u v in
    let b = g.under_same k u v in
    let s = C.source_in k u v in
    let t = C.under_in k u v in
    λ z. record {
      i = (ap (position y.buf) a ∙ g.position_same _ s) z;
      s = (ap (in_set y.buf) a ∙ g.set_same _ s) z;
      j = (ap (position y.buf) b ∙ g.position_same _ t) z;
      t = (ap (in_set y.buf) b ∙ g.set_same _ t) z;
    })

-- what was there is there
pub in_grown : {h : Here} {x y : Graph} → Core h x → Grown x y → {l : Link} → In l (links_of x) → In l (links_of y)
in_grown {x = x} {y = y} C g {l} m =
    let (k, u, v, e) = (in_links y.buf x.links).0 (subst (In l) (sym (grown-links C g)) m) in
    (in_links y.buf y.links).1 (k, u, omega (arith, g.links), e)

-- one link more: the newest, and the old ones
pub one_link : {h : Here} {x y : Graph} → Core h x → Grown x y → y.links ≡ x.links + 1 → links_of y ≡ link_of y.buf y.links ∷ links_of x
unfolding links_in
one_link {x = x} {y = y} C g e =
    let q : y.links ≡ suc x.links = e ∙ add-one x.links in
    ap (links_in y.buf) q ∙ ap₂ (λ k r. link_of y.buf k ∷ r) (sym q) (grown-links C g)

-- no link more: the same links
pub same-links : {x y : Graph} → Grown x y → y.links ≡ x.links → links_of y ≡ links_of x
same-links g e = ap₂ links_in (g.same_buf e) e

-- the same graph, with another mark
pub grown-mark : (x : Graph) (o : ℕ) → (o ≡ 0 → x.over ≡ 0) → Grown x (graph x.buf x.at (counts x.nodes x.links o))
grown-mark x o f = record {
  links = omega arith;
  nodes = omega arith;
  over = f;
  position_same = λ n g. refl;
  set_same = λ n g. refl;
  source_same = λ k u v. refl;
  under_same = λ k u v. refl;
  same_buf = λ e. refl;
  same_nodes = λ e. refl;
  pace = omega arith;
  calm = λ e k u v. absurd (omega arith);
}

pub grown_refl : (x : Graph) → Grown x x
grown_refl x = grown-mark x x.over (λ o. o)

pub grown_trans : {x y z : Graph} → Grown x y → Grown y z → Grown x z
grown_trans {x} {y} {z} f g = record {
  links = omega (arith, f.links, g.links);
  nodes = omega (arith, f.nodes, g.nodes);
  over = λ o. f.over (g.over o);
  position_same = λ n h. g.position_same n (omega (arith, f.nodes)) ∙ f.position_same n h;
  set_same = λ n h. g.set_same n (omega (arith, f.nodes)) ∙ f.set_same n h;
  source_same = λ k u v. g.source_same k u (omega (arith, f.links)) ∙ f.source_same k u v;
  under_same = λ k u v. g.under_same k u (omega (arith, f.links)) ∙ f.under_same k u v;
  same_buf = λ e. g.same_buf (omega (arith, f.links, g.links)) ∙ f.same_buf (omega (arith, f.links, g.links));
  same_nodes = λ e. g.same_nodes (omega (arith, f.links, g.links)) ∙ f.same_nodes (omega (arith, f.links, g.links));
  pace = omega (arith, f.pace, g.pace);
  calm = λ e k u v. elim (dec_lt y.links k) [
    | yes l ↦ (let q = g.calm (omega (arith, f.pace, g.pace)) k l v in omega (arith, f.nodes))
    | no l ↦ (let q = f.calm (omega (arith, f.pace, g.pace)) k u (omega arith) in let s = g.source_same k (omega arith) (omega arith) in omega arith)
  ];
}
