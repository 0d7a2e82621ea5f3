-- Setting a span to what it comes to keeps the store sound: no cost rises, so every choice kept still adds up. Assumes nothing.
use mathlib.Core.Path.{◌≡◌, refl, sym, ◌∙◌, ap, subst}
use mathlib.Core.Logic.{◌≢◌, ⊎_elim}
use mathlib.Core.List.{List}
use Prim.Native.Nat.{ℕ, suc, ◌+◌, ◌≤◌}
use native.Mathlib.Omega.{arith}
use Rattle.theory.specs.Derivation.{Grammar}
use Rattle.leftmost.specs.Within.{Spans}
use Rattle.leftmost.specs.Kept.{Kept, Store, Sets, Total, Offer, Backed, Sound}
use Rattle.leftmost.specs.Kept.Total.{end, token, span}
use Rattle.leftmost.specs.Comes.{Comes}
use Rattle.leftmost.specs.Comes.Comes.{nothing, offered}

-- what had a cost has one still, and no higher one
abbrev pub Lower : Store → Store → Type 0
Lower σ τ = (y s m : ℕ) → (σ y s m).cost ≢ 0 → ((τ y s m).cost ≢ 0) × ((τ y s m).cost ≤ (σ y s m).cost)

-- the same symbols and ends, at no higher sum
record Less (line : List ℕ) (τ : Store) (ys : List ℕ) (i : ℕ) (ms : List ℕ) (j c : ℕ) : Type 0 where
  sum : ℕ
  total : Total line τ ys i ms j sum
  low : sum ≤ c

less : {line : List ℕ} {σ τ : Store} → Lower σ τ → {ys ms : List ℕ} {i j c : ℕ} → Total line σ ys i ms j c → Less line τ ys i ms j c
less l end = record { sum = 0; total = end; low = omega arith }
less l (token t h e s) = let a = less l s in record { sum = a.sum; total = token t h e a.total; low = a.low }
less {σ = σ} {τ = τ} l (span {y = y} {i = i} {m = m} z s e) =
    let a = less {σ = σ} {τ = τ} l s in
    let (u, v) = l y i m z in
    record { sum = (τ y i m).cost + a.sum; total = span u a.total refl; low = (let w = a.low in omega arith) }

module _ {G : Grammar} {line : List ℕ} {S : Spans} {most : ℕ} {σ τ : Store} {x i j : ℕ} {k : Kept} (at_hand : S x i j)
    (sound : Sound G line S most σ) (comes : Comes G line most σ x i j k) (sets : Sets σ τ x i j k) where
  -- no cost rises
  lower-at : (σ x i j).cost ≢ 0 → (k.cost ≢ 0) × (k.cost ≤ (σ x i j).cost)
  lower-at z = go comes
    where
      go : Comes G line most σ x i j k → (k.cost ≢ 0) × (k.cost ≤ (σ x i j).cost)
      go (nothing e f) = let b = sound x i j z in absurd (f _ _ _ b.offer)
      go (offered e o f) =
          let b = sound x i j z in
          let u = b.enough in
          (λ (y : k.cost ≡ 0). omega arith, ⊎_elim (λ h. omega arith) (λ (h, w). omega arith) (f _ b.sum _ b.offer))

  pub comes_lower : Lower σ τ
  comes_lower y s m z = ⊎_elim
      (λ (a, (b, c)). subst (λ y. (σ y s m).cost ≢ 0 → ((τ y s m).cost ≢ 0) × ((τ y s m).cost ≤ (σ y s m).cost)) (sym a)
      (subst (λ s. (σ x s m).cost ≢ 0 → ((τ x s m).cost ≢ 0) × ((τ x s m).cost ≤ (σ x s m).cost)) (sym b)
      (subst (λ m. (σ x i m).cost ≢ 0 → ((τ x i m).cost ≢ 0) × ((τ x i m).cost ≤ (σ x i m).cost)) (sym c)
      (λ w. subst (λ t. (t.cost ≢ 0) × (t.cost ≤ (σ x i j).cost)) (sym sets.at) (lower-at w)))) z)
      (λ e. (λ w. z (ap (λ t. t.cost) (sym e) ∙ w), (let u = ap (λ t. t.cost) e in omega arith))) (sets.each y s m)

  offer_still : {y s m r c : ℕ} {ms : List ℕ} → Offer G line most σ y s m r ms c → (d : ℕ) × Offer G line most τ y s m r ms d × (d ≤ c)
  offer_still o =
      let a = less comes_lower o.total in
      let l = a.low in
      let f = o.fits in
      (a.sum, record { current = o.current; left = o.left; total = a.total; fits = omega arith }, l)

  backed_at : k.cost ≢ 0 → Backed G line S most τ x i j
  backed_at z = go comes
    where
      go : Comes G line most σ x i j k → Backed G line S most τ x i j
      go (nothing e f) = absurd (z e)
      go (offered {c = c} e o f) =
          let (d, p, h) = offer_still o in
          let q : suc d ≤ (τ x i j).cost = (let w = ap (λ t. t.cost) sets.at in omega arith) in
          record {
            within = at_hand;
            sum = d;
            offer = subst (λ t. Offer G line most τ x i j t.rule t.ends d) (sym sets.at) p;
            enough = q;
          }

  pub sound-kept : Sound G line S most τ
  sound-kept y s m = ⊎_elim
      (λ (a, (b, c)).
      subst (λ y. (τ y s m).cost ≢ 0 → Backed G line S most τ y s m) (sym a)
      (subst (λ s. (τ x s m).cost ≢ 0 → Backed G line S most τ x s m) (sym b)
      (subst (λ m. (τ x i m).cost ≢ 0 → Backed G line S most τ x i m) (sym c)
      (λ w. backed_at (λ v. w (ap (λ t. t.cost) sets.at ∙ v))))))
      (λ e z.
      let b = sound y s m (λ w. z (ap (λ t. t.cost) e ∙ w)) in
      let (d, p, h) = offer_still b.offer in
      let u = b.enough in
      let q : suc d ≤ (τ y s m).cost = (let w = ap (λ t. t.cost) e in omega arith) in
      record { within = b.within; sum = d; offer = subst (λ t. Offer G line most τ y s m t.rule t.ends d) (sym e) p; enough = q })
      (sets.each y s m)
