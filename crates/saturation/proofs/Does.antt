-- Steps that bring links to given nodes: one after the other. Assumes nothing.
use mathlib.Core.Path.{◌≡◌, sym, ◌∙◌, ap, ap₂, subst}
use mathlib.Core.Logic.{◌≢◌, ◌⊎◌, inl, inr, ⊎_elim}
use mathlib.Core.List.{List, Memᴰ as In}
use Prim.Native.Nat.{ℕ, ◌+◌, ◌*◌, ◌≤◌, ◌<◌}
use native.Mathlib.Decide.{ℕ_discrete}
use native.Mathlib.Omega.{arith}
use lib.ListN.{get_or}
use Rattle.theory.specs.Table.{Table}
use Rattle.theory.specs.Parse.{Link, link}
use Rattle.theory.specs.Steps.{Linked}
use Rattle.links.specs.declared.Here.{Here}
use Rattle.links.specs.Records.{position, in_set, Graph, links_of}
use Rattle.links.specs.Held.{Held}
use Rattle.links.proofs.Listed.{in_grown, same-links, grown_refl, grown_trans}
use Rattle.levels.specs.Lists.{listed}
use Rattle.saturation.specs.Wanted.{ToNode, ToList, ToSpan}
use Rattle.saturation.specs.Moves.{Does, Within}

does-nothing : {h : Here} {W : Link → Type 0} {x : Graph} → Held h x → ((l : Link) → W l → ⊥) → Does h W x x
does-nothing {x = x} H f = record { held = H; grown = grown_refl x; there = λ o l w. absurd (f l w); only = λ l i. inl i; full = inl }

-- one step after another
does-next : {h : Here} {W₁ W₂ W : Link → Type 0} {x y z : Graph} → Does h W₁ x y → Does h W₂ y z
    → ((l : Link) → W l → W₁ l ⊎ W₂ l) → ((l : Link) → W₁ l → W l) → ((l : Link) → W₂ l → W l) → Does h W x z
does-next {h} {W₁} {W₂} {W} {x} {y} {z} D E f g k = record {
  held = E.held;
  grown = grown_trans D.grown E.grown;
  there = λ o l w. ⊎_elim (λ v. in_grown D.held.core E.grown (D.there (E.grown.over o) l v)) (E.there o l) (f l w);
  only = λ l i. ⊎_elim (λ j. ⊎_elim inl (λ v. inr (g l v)) (D.only l j)) (λ v. inr (k l v)) (E.only l i);
  full = λ o. ⊎_elim (λ q. ⊎_elim inl earlier (D.full q)) (λ (e, l, w, n). inr (e, l, k l w, n)) (E.full o);
}
  where
    earlier : (y.links ≡ h.size) × (l : Link) × W₁ l × (In l (links_of y) → ⊥) → (x.over ≢ 0) ⊎ ((z.links ≡ h.size) × (l : Link) × W l × (In l (links_of z) → ⊥))
    earlier (e, l, w, n) =
        let q : z.links ≡ y.links = omega (arith, E.grown.links, E.held.core.fits) in
        inr (q ∙ e, l, g l w, λ m. n (subst (In l) (same-links E.grown q) m))

-- ---- to one node

pub to-node-by : {b c cells : List ℕ} {p x m : ℕ} {l : Link} → position c m ≡ position b m → in_set c m ≡ in_set b m → ToNode b cells p x m l → ToNode c cells p x m l
to-node-by {b} {c} {cells} {p} {x} {m} e f w = record {
  s = w.s;
  is = ap (λ u. get_or cells (u * 128 + x) 0) f ∙ w.is;
  some = w.some;
  the = w.the ∙ ap₂ (λ i u. link p w.s i u) (sym e) (sym f);
}

-- ---- to the nodes of a list

module _ {h : Here} {x : Graph} (cells w : List ℕ) (side a : ℕ) where
  pub list-next : {y z : Graph} (j m : ℕ) → m ≡ listed w side j → m < x.nodes → Does h (ToList x.buf cells w side h.position a j) x y
      → Does h (ToNode y.buf cells h.position a m) y z → Does h (ToList x.buf cells w side h.position a (j + 1)) x z
  list-next {y} {z} j m e low D E = does-next D E split
      (λ l v. record { j = v.j; low = let q = v.low in omega arith; to = v.to })
      (λ l v. record { j = j; low = omega arith; to = subst (λ m. ToNode x.buf cells h.position a m l) e (to-node-by (sym (D.grown.position_same m low)) (sym (D.grown.set_same m low)) v) })
    where
      split : (l : Link) → ToList x.buf cells w side h.position a (j + 1) l → ToList x.buf cells w side h.position a j l ⊎ ToNode y.buf cells h.position a m l
      split l v = elim (ℕ_discrete v.j j) [
        | yes q ↦ inr (to-node-by (D.grown.position_same m low) (D.grown.set_same m low)
            (subst (λ m. ToNode x.buf cells h.position a m l) (ap (λ j. listed w side j) q ∙ sym e) v.to))
        | no q ↦ inl (record { j = v.j; low = let r = v.low in omega arith; to = v.to })
      ]

-- ---- to the nodes from lo on

module _ {h : Here} {x : Graph} (cells : List ℕ) (a lo : ℕ) where
  pub span-next : {y z : Graph} (m : ℕ) → m < x.nodes → lo ≤ m → Does h (ToSpan x.buf cells h.position a lo m) x y
      → Does h (ToNode y.buf cells h.position a m) y z → Does h (ToSpan x.buf cells h.position a lo (m + 1)) x z
  span-next {y} {z} m low g D E = does-next D E split
      (λ l w. record { m = w.m; from = w.from; low = let r = w.low in omega arith; to = w.to })
      (λ l w. record { m = m; from = g; low = omega arith; to = to-node-by (sym (D.grown.position_same m low)) (sym (D.grown.set_same m low)) w })
    where
      split : (l : Link) → ToSpan x.buf cells h.position a lo (m + 1) l → ToSpan x.buf cells h.position a lo m l ⊎ ToNode y.buf cells h.position a m l
      split l w = elim (ℕ_discrete w.m m) [
        | yes z ↦ inr (to-node-by (D.grown.position_same m low) (D.grown.set_same m low) (subst (λ i. ToNode x.buf cells h.position a i l) z w.to))
        | no z ↦ inl (record { m = w.m; from = w.from; low = let r = w.low in omega arith; to = w.to })
      ]

-- ---- where W is made by reductions, what is left is

pub does-keeps : {h : Here} {W : Link → Type 0} {x y : Graph} → Does h W x y → (t : Table) (ls : List Link) → ((l : Link) → W l → Linked t ls h.position l)
    → Within t h ls x → Within t h ls y
does-keeps {h} {W} {x} {y} D t ls f G = record {
  below = λ l i. ⊎_elim (G.below l) (f l) (D.only l i);
  full = λ o. ⊎_elim was (λ (e, l, w, n). (e, l, f l w, n)) (D.full o);
}
  where
    was : x.over ≢ 0 → (y.links ≡ h.size) × (l : Link) × Linked t ls h.position l × (In l (links_of y) → ⊥)
    was q =
        let (e, l, s, n) = G.full q in
        let k : y.links ≡ x.links = omega (arith, D.grown.links, D.held.core.fits) in
        (k ∙ e, l, s, λ m. n (subst (In l) (same-links D.grown k) m))
