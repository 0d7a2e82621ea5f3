-- The order of lists of rule numbers. Assumes nothing.
use mathlib.Core.Path.{◌≡◌, refl, sym, ◌∙◌, ap, subst}
use mathlib.Core.Logic.{◌⊎◌, inl, inr, ⊎_elim}
use mathlib.Core.List.{List, [], ◌∷◌, ◌++◌}
use Prim.Native.Nat.{ℕ, zero, suc, ◌≤◌, ◌<◌}
use native.Mathlib.Omega.{arith}
use Rattle.leftmost.specs.Leftmost.{Before}
use Rattle.leftmost.specs.Leftmost.Before.{lower, later}

-- the same at two lists that are equal
not_same : {rs qs : List ℕ} → Before rs qs → rs ≡ qs → ⊥
not_same (lower {a = a} {b = b} h) e = let f : a ≡ b = cc in omega arith
not_same (later {rs = rs} {qs = qs} b) e = let f : rs ≡ qs = cc in not_same b f

pub before_not_same : {rs : List ℕ} → Before rs rs → ⊥
before_not_same b = not_same b refl

-- the same at two pairs of lists that are equal
one_way : {rs qs ps ss : List ℕ} → Before rs qs → Before ps ss → qs ≡ ps → rs ≡ ss → ⊥
one_way (lower {a = a} {b = b} h) (lower {a = c} {b = d} k) e f =
    let u : b ≡ c = cc in
    let v : a ≡ d = cc in
    omega arith
one_way (lower {a = a} {b = b} h) (later {c = c} k) e f =
    let u : b ≡ c = cc in
    let v : a ≡ c = cc in
    omega arith
one_way (later {c = c} h) (lower {a = a} {b = b} k) e f =
    let u : c ≡ a = cc in
    let v : c ≡ b = cc in
    omega arith
one_way (later {rs = rs} {qs = qs} h) (later {rs = ps} {qs = ss} k) e f =
    let u : qs ≡ ps = cc in
    let v : rs ≡ ss = cc in
    one_way h k u v

pub before-one_way : {rs qs : List ℕ} → Before rs qs → Before qs rs → ⊥
before-one_way a b = one_way a b refl refl

pub before-then : {rs qs ps : List ℕ} → Before rs qs → Before qs ps → Before rs ps
before-then (lower {a = a} h) (lower {b = c} k) = let l : a < c = omega arith in lower l
before-then (lower h) (later b) = lower h
before-then (later a) (lower k) = lower k
before-then (later a) (later b) = later (before-then a b)

-- what follows does not matter once they differ
pub before_longer : {rs qs : List ℕ} → Before rs qs → (s t : List ℕ) → Before (rs ++ s) (qs ++ t)
before_longer (lower h) s t = lower h
before_longer (later b) s t = later (before_longer b s t)

pub before-after : (p : List ℕ) {s t : List ℕ} → Before s t → Before (p ++ s) (p ++ t)
before-after [] b = b
before-after (c ∷ p) b = later (before-after p b)

-- front by front, back by back
pub together : {a b c d l : List ℕ} → (a ≡ c) ⊎ Before a c → (b ≡ d) ⊎ Before b d → c ++ d ≡ l → (a ++ b ≡ l) ⊎ Before (a ++ b) l
together {b = b} {c = c} (inl e) (inl q) p = inl (ap (λ z. z ++ b) e ∙ ap (λ z. c ++ z) q ∙ p)
together {a} {b} {c} {d} (inl e) (inr q) p =
    inr (subst (λ z. Before (a ++ b) z) p (subst (λ z. Before (z ++ b) (c ++ d)) (sym e) (before-after c q)))
together {a} {b} {c} {d} (inr q) r p = inr (subst (λ z. Before (a ++ b) z) p (before_longer q b d))

-- ---- numbers

pub low_or_high : (a b : ℕ) → (a ≤ b) ⊎ (b < a)
low_or_high zero b = inl (omega arith)
low_or_high (suc a) zero = inr (omega arith)
low_or_high (suc a) (suc b) = ⊎_elim (λ h. inl (omega arith)) (λ h. inr (omega arith)) (low_or_high a b)
