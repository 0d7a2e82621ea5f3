-- Words to which bits are put one after the other: which bits they have at the end, and how many. Assumes nothing.
use mathlib.Core.Path.{◌≡◌, refl, sym, ap, subst, ◌∙◌}
use mathlib.Core.Logic.{◌↔◌, ◌⊎◌, inl, inr, ⊎_elim}
use mathlib.Core.Bool.{Bool, true, false}
use mathlib.Core.List.{List}
use Prim.Native.Nat.{ℕ, zero, suc, ◌+◌, ◌/◌, ◌%◌, ◌≤◌, ◌<◌, zero-le}
use native.Mathlib.Decide.{ℕ_discrete}
use native.Mathlib.Nat.{not-suc-le-zero}
use native.Mathlib.Omega.{arith}
use lib.Dec.{T, eqb}
use lib.ListN.{length, get_or, replicate}
use Rattle.laws.specs.Choice.{when}
use Rattle.laws.specs.Loops.{up_to}
use Rattle.laws.proofs.Choice.{when_yes, when_no, when-cases}
use Rattle.laws.proofs.Tests.{last_or_below, eqb_iff}
use Rattle.kernels.specs.Bit.{bit}
use Rattle.kernels.specs.Walk.{how_many, visit}
use Rattle.kernels.specs.Kernel.{has, put, put_if, items}
use Rattle.kernels.proofs.Bit.{bit_of-zero}
use Rattle.kernels.proofs.Kernel.{has-cases, length-put, has-put-same, has-put-other}

-- ---- one bit, put in where a test passes

pub put_if_yes : {b : Bool} {x : List ℕ} (ws : List ℕ) (i : ℕ) → b ≡ true → x ≡ put ws 0 i → x ≡ put_if b ws i
unfolding put_if
put_if_yes ws i e h = when_yes ws e h

pub put_if_no : {b : Bool} {ws : List ℕ} (i : ℕ) → b ≡ false → ws ≡ put_if b ws i
unfolding put_if
put_if_no {ws = ws} i e = when_no (put ws 0 i) e refl

pub length-put_if : (b : Bool) (ws : List ℕ) (x : ℕ) → length (put_if b ws x) ≡ length ws
unfolding put_if
length-put_if b ws x = when-cases (λ (y : List ℕ). length y ≡ length ws) b (λ e. length-put ws 0 x) (λ e. refl)

pub has-put_if : (b : Bool) (ws : List ℕ) (x j : ℕ) → (T b → x / 64 < length ws) → (has (put_if b ws x) 0 j ≡ 1) ↔ ((has ws 0 j ≡ 1) ⊎ (T b × (j ≡ x)))
unfolding put_if when
has-put_if false ws x j fits = (inl, ⊎_elim (λ h. h) (λ p. absurd p.0))
has-put_if true ws x j fits = go (ℕ_discrete j x)
  where
    go : Dec (j ≡ x) → (has (put ws 0 x) 0 j ≡ 1) ↔ ((has ws 0 j ≡ 1) ⊎ (T true × (j ≡ x)))
    go (yes e) = (λ h. inr (tt, e), λ h. ap (has (put ws 0 x) 0) e ∙ has-put-same ws 0 x (omega (arith, fits tt)))
    go (no d) =
        let same = has-put-other ws 0 x (omega (arith, fits tt)) j d in
        (λ h. inl (sym same ∙ h), ⊎_elim (λ h. same ∙ h) (λ p. absurd (d p.1)))

-- words that hold nothing
pub has-zero : (n i : ℕ) → has (replicate n 0) 0 i ≡ 0
unfolding has
has-zero n i = ap (λ w. bit w (i % 64)) (zeros n (0 + i / 64)) ∙ bit_of-zero (i % 64)
  where
    zeros : (n k : ℕ) → ◌≡◌ {A = ℕ} (get_or (replicate n 0) k 0) 0
    zeros zero k = refl
    zeros (suc n) zero = refl
    zeros (suc n) (suc k) = zeros n k

-- ---- a step at each number below n, which puts in the bits that W says

module _ (f : ℕ → List ℕ → List ℕ) (keeps : (i : ℕ) (ws : List ℕ) → length (f i ws) ≡ length ws) (a : List ℕ) where
  pub fold_length : (m : ℕ) → length (up_to m f a) ≡ length a
  unfolding up_to
  fold_length zero = refl
  fold_length (suc m) = keeps m (up_to m f a) ∙ fold_length m

  module _ (W : ℕ → ℕ → Type 0) (n : ℕ)
      (puts : (i : ℕ) → i < n → (ws : List ℕ) → length ws ≡ length a → (j : ℕ) → (has (f i ws) 0 j ≡ 1) ↔ ((has ws 0 j ≡ 1) ⊎ W i j)) where
    pub fold-bits : (m : ℕ) → m ≤ n → (j : ℕ) → (has (up_to m f a) 0 j ≡ 1) ↔ ((has a 0 j ≡ 1) ⊎ ((i : ℕ) × (i < m) × W i j))
    unfolding up_to
    fold-bits zero l j = (inl, ⊎_elim (λ h. h) (λ p. absurd (not-suc-le-zero p.1)))
    fold-bits (suc m) l j =
        let (to, from) = fold-bits m (omega arith) j in
        let (out, in-to) = puts m (omega arith) (up_to m f a) (fold_length m) j in (
          λ h. ⊎_elim (λ g. ⊎_elim inl (λ (i, k, w). inr (i, omega arith, w)) (to g)) (λ w. inr (m, omega arith, w)) (out h),
          ⊎_elim (λ h. in-to (inl (from (inl h))))
              (λ (i, k, w). in-to (⊎_elim (λ e. inr (subst (λ q. W q j) e w)) (λ q. inl (from (inr (i, q, w)))) (last_or_below k))),
        )

-- a walk over a set h that puts in g i, where t i passes
module _ (t : ℕ → Bool) (g : ℕ → ℕ) (h : ℕ → ℕ) (n : ℕ) (a : List ℕ) (fits : (i : ℕ) → i < n → h i ≡ 1 → T (t i) → g i / 64 < length a) where
  Put : ℕ → ℕ → Type 0
  Put i j = (h i ≡ 1) × T (t i) × (j ≡ g i)

  step : ℕ → List ℕ → List ℕ
  step i ws = when (eqb (h i) 1) (put_if (t i) ws (g i)) ws

  step-puts : (i : ℕ) → i < n → (ws : List ℕ) → length ws ≡ length a → (j : ℕ) → (has (step i ws) 0 j ≡ 1) ↔ ((has ws 0 j ≡ 1) ⊎ Put i j)
  unfolding step Put when
  step-puts i l ws s j = go (eqb (h i) 1) refl
    where
      go : (b : Bool) → eqb (h i) 1 ≡ b → (has (when b (put_if (t i) ws (g i)) ws) 0 j ≡ 1) ↔ ((has ws 0 j ≡ 1) ⊎ Put i j)
      go true e =
          let e₁ : h i ≡ 1 = (eqb_iff (h i) 1).0 (rw e tt) in
          let (to, from) = has-put_if (t i) ws (g i) j (λ p. omega (arith, fits i l e₁ p)) in
          (λ q. ⊎_elim inl (λ (p, o). inr (e₁, p, o)) (to q), λ q. from (⊎_elim inl (λ (o, p, r). inr (p, r)) q))
      go false e = (inl, ⊎_elim (λ q. q) (λ p. absurd (subst T e ((eqb_iff (h i) 1).1 p.0))))

  step_keeps : (i : ℕ) (ws : List ℕ) → length (step i ws) ≡ length ws
  unfolding step
  step_keeps i ws = when-cases (λ (y : List ℕ). length y ≡ length ws) (eqb (h i) 1) (λ e. length-put_if (t i) ws (g i)) (λ e. refl)

  pub visit_bits : (j : ℕ) → (has (visit (λ i ws. put_if (t i) ws (g i)) h n a) 0 j ≡ 1) ↔ ((has a 0 j ≡ 1) ⊎ ((i : ℕ) × (i < n) × ((h i ≡ 1) × T (t i) × (j ≡ g i))))
  unfolding visit step Put
  visit_bits j = fold-bits step step_keeps a Put n step-puts n (omega arith) j

-- the same of a mark, which the walk sets where t i passes
set-mark : (a b m : Bool) → T (when a (when b true m) m) ↔ (T m ⊎ (T a × T b))
unfolding when
set-mark true true m = (λ q. inr (tt, tt), λ q. tt)
set-mark true false m = (inl, ⊎_elim (λ q. q) (λ p. absurd p.1))
set-mark false b m = (inl, ⊎_elim (λ q. q) (λ p. absurd p.0))

pub visit-mark : (t : ℕ → Bool) (h : ℕ → ℕ) (n : ℕ) → T (visit (λ i b. when (t i) true b) h n false) ↔ ((i : ℕ) × (i < n) × ((h i ≡ 1) × T (t i)))
unfolding visit up_to
visit-mark t h zero = (λ q. absurd q, λ p. absurd (not-suc-le-zero p.1))
visit-mark t h (suc n) =
    let m = visit (λ i b. when (t i) true b) h n false in
    let (to, from) = visit-mark t h n in
    let (out, in-to) = set-mark (eqb (h n) 1) (t n) m in (
      λ q. ⊎_elim (λ p. let (i, l, w) = to p in (i, omega arith, w)) (λ (p, w). (n, omega arith, ((eqb_iff (h n) 1).0 p, w))) (out q),
      λ (i, l, (p, w)). in-to
          (⊎_elim (λ e. inr ((eqb_iff (h n) 1).1 (ap h (sym e) ∙ p), subst (λ i. T (t i)) e w)) (λ k. inl (from (i, k, (p, w)))) (last_or_below l)),
    )

-- ---- how many

many_mono : (n : ℕ) (g h : ℕ → ℕ) → ((j : ℕ) → j < n → g j ≤ h j) → how_many n g ≤ how_many n h
unfolding how_many up_to
many_mono zero g h l = zero-le
many_mono (suc n) g h l = omega (arith, many_mono n g h (λ j p. l j (omega arith)), l n (omega arith))

many-same : (n : ℕ) (g h : ℕ → ℕ) → ((j : ℕ) → j < n → g j ≤ h j) → how_many n g ≡ how_many n h → (j : ℕ) → j < n → g j ≡ h j
unfolding how_many up_to
many-same zero g h l e j p = absurd (not-suc-le-zero p)
many-same (suc n) g h l e j p =
    let below : how_many n g ≤ how_many n h = many_mono n g h (λ j p. l j (omega arith)) in
    let last = l n (omega arith) in
    ⊎_elim (λ q. ap g q ∙ omega arith ∙ ap h (sym q)) (λ q. many-same n g h (λ j p. l j (omega arith)) (omega arith) j q) (last_or_below p)

module _ (a b : List ℕ) (kept : (i : ℕ) → has a 0 i ≡ 1 → has b 0 i ≡ 1) where
  bit_kept : (i : ℕ) → has a 0 i ≤ has b 0 i
  bit_kept i = ⊎_elim (λ z. omega arith) (λ o. omega (arith, kept i o)) (has-cases a 0 i)

  -- kernels that grow have no fewer items
  pub items_kept : items a 0 ≤ items b 0
  unfolding items
  items_kept = many_mono 1024 (has a 0) (has b 0) (λ j l. bit_kept j)

  -- and with as many items they have not grown
  pub items-same : items a 0 ≡ items b 0 → (i : ℕ) → i < 1024 → has a 0 i ≡ has b 0 i
  unfolding items
  items-same e = many-same 1024 (has a 0) (has b 0) (λ j l. bit_kept j) e
