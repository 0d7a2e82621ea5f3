-- The rounds of a cell, the cells before it being right: after n rounds every span of the cell is right up to n applications. So a round
-- that changes nothing leaves all right, and so do more rounds than the buffer has places. A lone span is right after one.
-- Assumes nothing.
use mathlib.Core.Path.{◌≡◌, refl, sym, subst}
use mathlib.Core.Logic.{◌⊎◌, inl, inr, ⊎_elim}
use mathlib.Core.List.Memᴰ
use mathlib.Core.List.{List, [], ◌∷◌, Memᴰ as In}
use Prim.Native.Nat.{ℕ, zero, suc, ◌≤◌, ◌<◌}
use native.Mathlib.Decide.{ℕ_discrete}
use native.Mathlib.Omega.{arith}
use lib.ListN.{length}
use Rattle.theory.specs.Derivation.{Grammar}
use Rattle.leftmost.specs.Within.{Spans, Spells, OfLine}
use Rattle.leftmost.specs.Kept.{Kept, Store, Sets}
use Rattle.leftmost.specs.Comes.{Comes}
use Rattle.leftmost.specs.Cells.{Told, Right, Cell, Pass, Rounds, Settled, Done, Until}
use Rattle.leftmost.specs.Cells.Right.{told, void}
use Rattle.leftmost.specs.Cells.Pass.{through, one}
use Rattle.leftmost.specs.Cells.Rounds.{none, more}
use Rattle.leftmost.specs.Cells.Settled.{alone, stable, enough}
use Rattle.leftmost.proofs.Keeping.{sound-kept}
use Rattle.leftmost.proofs.Inner.{Inner, told_is}
use Rattle.leftmost.proofs.Offers.{Known}
use Rattle.leftmost.proofs.Exact.{comes_right}

-- the spans of the cell (i, j) are right up to n
abbrev Near : Grammar → List ℕ → Spans → ℕ → ℕ → ℕ → ℕ → Store → Type 0
Near G line S most i j n σ = (x : ℕ) → S x i j → Right G line S most n x i j (σ x i j)

-- inside a cell's ends is the cell itself, or one before it
here_or_before : {i j s m : ℕ} → i ≤ s → m ≤ j → ((s ≡ i) × (m ≡ j)) ⊎ Done (suc i) j s m
here_or_before {i} {j} {s} {m} a b = elim (ℕ_discrete m j) [
  | yes e ↦ elim (ℕ_discrete s i) [ yes f ↦ inl (f, e) | no f ↦ inr (inr (e, omega arith)) ]
  | no e ↦ inr (inl (omega arith))
]

-- and inside the ends of one before it, only such
inside : {i j a b s m : ℕ} → Done i j a b → a ≤ s → m ≤ b → Done i j s m
inside {i} {j} {a} {b} {s} {m} d h k = elim (ℕ_discrete m j) [
  | yes e ↦ ⊎_elim (λ f. absurd (omega arith)) (λ (f, g). inr (e, omega arith)) d
  | no e ↦ inl (⊎_elim (λ f. omega arith) (λ (f, g). omega arith) d)
]

module _ {G : Grammar} {line : List ℕ} {S : Spans} {most x i j : ℕ} {k : Kept} where
  right-below : {u v : ℕ} → v ≤ u → Right G line S most u x i j k → Right G line S most v x i j k
  right-below h (told t) = told t
  right-below h (void f) = void (λ qs s. let l = f qs s in omega arith)

  pub is-told : {u : ℕ} {q : List ℕ} → Right G line S most u x i j k → Spells G line S (x ∷ []) i j q → length q < u
      → Told G line S most x i j k
  is-told (told t) s h = t
  is-told {q = q} (void f) s h = absurd (let l = f q s in omega arith)

module _ {G : Grammar} {line : List ℕ} {S : Spans} (of_line : OfLine line S) {most i j : ℕ} where
  -- ---- a step of a round leaves the cells before right

  until_step : {σ τ : Store} {x : ℕ} {k : Kept} → S x i j → Comes G line most σ x i j k → Sets σ τ x i j k
      → Until G line S most (suc i) j σ → Until G line S most (suc i) j τ
  until_step {σ} {τ} z c sets u = record {
    sound = sound-kept z u.sound c sets;
    right = λ y s m p d. ⊎_elim
        (λ (a, (b, e)). absurd (⊎_elim (λ h. omega arith) (λ (f, g). omega arith) d))
        (λ e. subst (Right G line S most (suc most) y s m) (sym e) (u.right y s m p d)) (sets.each y s m);
  }

  until_pass : {σ υ : Store} {xs : List ℕ} → Pass G line most i j σ xs υ → ((x : ℕ) → In x xs → S x i j)
      → Until G line S most (suc i) j σ → Until G line S most (suc i) j υ
  until_pass through o u = u
  until_pass (one {x = x} k c sets p) o u =
      until_pass p (λ y m. o y (In.tail m)) (until_step (o x (In.head refl)) c sets u)

  until_rounds : {σ : Store} {xs : List ℕ} {υ : Store} {t : ℕ} → Rounds G line most i j xs σ t υ → ((x : ℕ) → In x xs → S x i j)
      → Until G line S most (suc i) j σ → Until G line S most (suc i) j υ
  until_rounds none o u = u
  until_rounds (more r p) o u = until_pass p o (until_rounds r o u)

  -- ---- stages

  module _ {n : ℕ} {σ : Store} (u : Until G line S most (suc i) j σ) (near : Near G line S most i j n σ) where
    near-inner : n ≤ suc most → Inner G line S most σ i j n
    near-inner l y s m q a b z d h = ⊎_elim
        (λ (e, f). is-told (here e f) d h)
        (λ e. is-told (u.right y s m z e) d (omega arith)) (here_or_before a b)
      where
        here : s ≡ i → m ≡ j → Right G line S most n y s m (σ y s m)
        here e f =
            let w = near y (subst (λ v. S y v j) e (subst (S y s) f z)) in
            subst (λ v. Right G line S most n y v m (σ y v m)) (sym e) (subst (λ v. Right G line S most n y i v (σ y i v)) (sym f) w)

    -- what comes next is right up to one more
    next-right : n ≤ most → {x : ℕ} {k : Kept} → S x i j → Comes G line most σ x i j k → Right G line S most (suc n) x i j k
    next-right l z c = comes_right of_line u.sound z n
        (λ y s m q a b p d h.
        let inner = near-inner (omega arith) in
        let t = inner y s m q a b p d h in
        let w = t.best.least q d in
        inl (told_is inner a b t (omega arith))) c (suc n) (omega arith) (omega arith)

  -- a step: what is right up to one more stays so, and the span that is set becomes so
  step_right : {n : ℕ} {σ τ : Store} {x y : ℕ} {xs : List ℕ} {k : Kept} → Sets σ τ x i j k → Right G line S most n x i j k
      → Right G line S most n y i j (σ y i j) ⊎ In y (x ∷ xs) → Right G line S most n y i j (τ y i j) ⊎ In y xs
  step_right {n} {σ} {τ} {x} {y} {xs} {k} sets r w = ⊎_elim
      (λ (a, b). inl (same a))
      (λ e. ⊎_elim
      (λ v. inl (subst (Right G line S most n y i j) (sym e) v))
      (λ m. ⊎_elim (λ a. inl (same a)) (λ v. inr v) (Memᴰ.cases_cons m)) w)
      (sets.each y i j)
    where
      same : y ≡ x → Right G line S most n y i j (τ y i j)
      same a = subst (λ v. Right G line S most n v i j (τ v i j)) (sym a) (subst (Right G line S most n x i j) (sym sets.at) r)

  pass_right : {n : ℕ} {σ υ : Store} {xs : List ℕ} → n ≤ most → Pass G line most i j σ xs υ → ((x : ℕ) → In x xs → S x i j)
      → Until G line S most (suc i) j σ → Near G line S most i j n σ → (y : ℕ) → Right G line S most (suc n) y i j (σ y i j) ⊎ In y xs
      → Right G line S most (suc n) y i j (υ y i j)
  pass_right l through o u near y w = ⊎_elim (λ v. v) (λ m. absurd (Memᴰ.not-nil m)) w
  pass_right {n} {σ} l (one {τ = τ} {x = x} k c sets p) o u near y w =
      let z = o x (In.head refl) in
      let r = next-right u near l z c in
      pass_right l p (λ v m. o v (In.tail m)) (until_step z c sets u) (still z c r) y (step_right sets r w)
    where
      still : S x i j → Comes G line most σ x i j k → Right G line S most (suc n) x i j k → Near G line S most i j n τ
      still z c r v q = ⊎_elim (λ b. b) (λ m. absurd (Memᴰ.not-nil m))
          (step_right {xs = []} sets (right-below (omega arith) r) (inl (near v q)))

  module _ {xs : List ℕ} (cell : Cell S i j xs) where
    near-more : {n : ℕ} {σ υ : Store} → n ≤ most → Pass G line most i j σ xs υ → Until G line S most (suc i) j σ
        → Near G line S most i j n σ → Near G line S most i j (suc n) υ
    near-more l p u near y z = pass_right l p (λ x m. (cell x).0 m) u near y (inr ((cell y).1 z))

    near-rounds : {σ : Store} {t : ℕ} {υ : Store} → t ≤ suc most → Rounds G line most i j xs σ t υ → Until G line S most (suc i) j σ
        → Near G line S most i j t υ
    near-rounds l none u = λ y z. void (λ qs s. omega arith)
    near-rounds l (more r p) u = near-more (omega arith) p (until_rounds r (λ x m. (cell x).0 m) u) (near-rounds (omega arith) r u)

    -- a round that changes nothing could go on for ever
    near-stable : {υ : Store} → Pass G line most i j υ xs υ → Until G line S most (suc i) j υ → (n : ℕ) → n ≤ suc most
        → Near G line S most i j n υ
    near-stable p u zero l = λ y z. void (λ qs s. omega arith)
    near-stable p u (suc n) l = near-more (omega arith) p u (near-stable p u n (omega arith))

  -- a lone span's parts are itself and of cells before
  near_alone : {σ υ : Store} {x : ℕ} → Cell S i j (x ∷ []) → Pass G line most i j σ (x ∷ []) υ → Until G line S most (suc i) j σ
      → Near G line S most i j (suc most) υ
  near_alone {σ} {x = x} cell (one k c sets through) u y z = ⊎_elim (λ v. v) (λ m. absurd (Memᴰ.not-nil m))
      (step_right {xs = []} sets right (inr ((cell y).1 z)))
    where
      it : {y : ℕ} → S y i j → y ≡ x
      it {y} z = ⊎_elim (λ e. e) (λ m. absurd (Memᴰ.not-nil m)) (Memᴰ.cases_cons ((cell y).1 z))

      parts : Known G line S σ x i j (suc most)
      parts y s m q a b z d h = ⊎_elim
          (λ (e, f). inr (it (subst (λ v. S y v j) e (subst (S y s) f z)), (e, f)))
          (λ e.
          let t = is-told (u.right y s m z e) d h in
          let w = t.fits in
          inl (told_is {i = s} {j = m} {n = suc most} (λ y' s' m' q' a' b' z' d' h'. is-told (u.right y' s' m' z' (inside e a' b')) d' h')
          (omega arith) (omega arith) t (omega arith))) (here_or_before a b)

      right : Right G line S most (suc most) x i j k
      right = comes_right of_line u.sound ((cell x).0 (In.head refl)) (suc most) parts c (suc most) (omega arith) (omega arith)

  -- ---- settled, a cell more is right

  finished : {υ : Store} → Until G line S most (suc i) j υ → Near G line S most i j (suc most) υ → Until G line S most i j υ
  finished {υ} u near = record {
    sound = u.sound;
    right = λ x s m z d. elim (ℕ_discrete m j) [
      | yes e ↦ elim (ℕ_discrete s i) [
        | yes f ↦
            let w = near x (subst (λ v. S x v j) f (subst (S x s) e z)) in
            subst (λ v. Right G line S most (suc most) x v m (υ x v m)) (sym f)
            (subst (λ v. Right G line S most (suc most) x i v (υ x i v)) (sym e) w)
        | no f ↦ u.right x s m z (⊎_elim (λ h. inl h) (λ (g, h). inr (g, omega arith)) d)
      ]
      | no e ↦ u.right x s m z (⊎_elim (λ h. inl h) (λ (g, h). absurd (e g)) d)
    ];
  }

  pub next-cell : {xs : List ℕ} → Cell S i j xs → {σ υ : Store} → Until G line S most (suc i) j σ → Settled G line most i j xs σ υ
      → Until G line S most i j υ
  next-cell cell u (alone p) = finished (until_pass p (λ x m. (cell x).0 m) u) (near_alone cell p u)
  next-cell cell u (stable r p) =
      let v = until_rounds r (λ x m. (cell x).0 m) u in
      finished v (near-stable cell p v (suc most) (omega arith))
  next-cell cell u (enough r) = finished (until_rounds r (λ x m. (cell x).0 m) u) (near-rounds cell (omega arith) r u)
