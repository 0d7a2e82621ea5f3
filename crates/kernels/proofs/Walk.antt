-- Walks over a set of numbers that is kept as bits: how many it has, and a step taken at each. Assumes nothing.
use mathlib.Core.Path.{◌≡◌, refl, sym, ap, ap₂, ◌∙◌}
use mathlib.Core.Logic.{◌≢◌}
use Prim.Native.Nat.{ℕ, zero, suc, ◌+◌, ◌-◌, ◌≤◌, ◌<◌, zero-le}
use native.Mathlib.Nat.{add-zero, add-suc, not-suc-le-zero}
use native.Mathlib.Numerals.{add-one}
use native.Mathlib.Omega.{arith}
use native.Mathlib.Decide.{ℕ_discrete}
use lib.Dec.{eqb}
use Rattle.laws.specs.Choice.{when}
use Rattle.laws.specs.Loops.{up_to}
use Rattle.kernels.specs.Walk.{how_many, visit}

-- ---- how many

pub many_cong : (n : ℕ) (g h : ℕ → ℕ) → ((j : ℕ) → j < n → g j ≡ h j) → how_many n g ≡ how_many n h
unfolding how_many up_to
many_cong zero g h e = refl
many_cong (suc n) g h e = ap₂ ◌+◌ (many_cong n g h (λ j l. e j (omega arith))) (e n (omega arith))

-- those below a, and those from there on
pub many-add : (a b : ℕ) (h : ℕ → ℕ) → how_many (a + b) h ≡ how_many a h + how_many b (λ j. h (a + j))
unfolding how_many up_to
many-add a zero h = ap (λ n. how_many n h) (add-zero a) ∙ sym (add-zero (how_many a h))
many-add a (suc b) h =
    let s : how_many (a + suc b) h ≡ how_many (a + b) h + h (a + b) = ap (λ n. how_many n h) (add-suc a b) in
    let ih : how_many (a + b) h ≡ how_many a h + how_many b (λ j. h (a + j)) = many-add a b h in
    omega arith

pub many_le : (n : ℕ) (h : ℕ → ℕ) → ((j : ℕ) → h j < 2) → how_many n h ≤ n
unfolding how_many up_to
many_le zero h l = zero-le
many_le (suc n) h l = omega (arith, many_le n h l, l n)

-- a set that has i besides
pub many-put : (g h : ℕ → ℕ) (i n : ℕ) → i < n → h i ≡ 0 → g i ≡ 1 → ((j : ℕ) → j ≢ i → g j ≡ h j)
    → how_many n g ≡ how_many n h + 1
unfolding how_many up_to
many-put g h i zero l z o same = absurd (not-suc-le-zero l)
many-put g h i (suc n) l z o same = go (ℕ_discrete i n) (λ m. many-put g h i n m z o same)
  where
    go : Dec (i ≡ n) → (i < n → how_many n g ≡ how_many n h + 1) → how_many n g + g n ≡ how_many n h + h n + 1
    go (yes e) ih =
        let low : how_many n g ≡ how_many n h = many_cong n g h (λ j m. same j (λ q. omega arith)) in
        let one : g n ≡ 1 = ap g (sym e) ∙ o in
        let none : h n ≡ 0 = ap h (sym e) ∙ z in
        omega arith
    go (no d) ih =
        let more : how_many n g ≡ how_many n h + 1 = ih (omega arith) in
        let last : g n ≡ h n = same n (λ q. omega arith) in
        omega arith

-- ---- a step at each

module _ {ℓ} {A : Type ℓ} (f : ℕ → A → A) (h : ℕ → ℕ) where
  pub visit-none : (a : A) → visit f h 0 a ≡ a
  unfolding visit up_to
  visit-none a = refl

  pub visit-step : (n : ℕ) (a : A) → h n ≡ 1 → visit f h (n + 1) a ≡ f n (visit f h n a)
  unfolding visit up_to when
  visit-step n a e =
      ap (λ m. visit f h m a) (add-one n) ∙ ap (λ x. when (eqb x 1) (f n (visit f h n a)) (visit f h n a)) e

  visit-past : (n : ℕ) (a : A) → h n ≡ 0 → visit f h (suc n) a ≡ visit f h n a
  unfolding visit up_to when
  visit-past n a e = ap (λ x. when (eqb x 1) (f n (visit f h n a)) (visit f h n a)) e

  visit-over : (i d : ℕ) (a : A) → ((j : ℕ) → i ≤ j → j < i + d → h j ≡ 0) → visit f h (i + d) a ≡ visit f h i a
  visit-over i zero a none = ap (λ n. visit f h n a) (add-zero i)
  visit-over i (suc d) a none =
      ap (λ n. visit f h n a) (add-suc i d)
      ∙ visit-past (i + d) a (none (i + d) (omega arith) (omega arith))
      ∙ visit-over i d a (λ j l m. none j l (omega arith))

  -- nothing happens where the set has no number
  pub visit_skip : (i j : ℕ) (a : A) → i ≤ j → ((k : ℕ) → i ≤ k → k < j → h k ≡ 0) → visit f h j a ≡ visit f h i a
  visit_skip i j a l none =
      let e : j ≡ i + (j - i) = omega arith in
      ap (λ n. visit f h n a) e ∙ visit-over i (j - i) a (λ k p q. none k p (omega arith))
