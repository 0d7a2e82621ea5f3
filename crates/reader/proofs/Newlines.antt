-- Where the first newline stands: none before it. Assumes nothing.
use mathlib.Core.Bool.{Bool, true, false}
use mathlib.Core.Path.{◌≡◌, refl, sym, ap}
use mathlib.Core.Logic.{⊎_elim}
use mathlib.Core.List.Memᴰ
use mathlib.Core.List.{List, [], ◌∷◌, Memᴰ as In}
use Prim.Native.Nat.{ℕ, suc, ◌≤◌, ◌<◌}
use native.Mathlib.Omega.{arith}
use lib.Dec.{eqb}
use lib.ListN.{length, take, drop}
use borrow.Author.Tests.{eqb-true, eqb-false}
use Rattle.text.specs.Newline.{index_of, index_after}

pub record First (b : ℕ) (l : List ℕ) (k : ℕ) : Type 0 where
  pub before : In b (take k l) → ⊥
  pub there : k < length l → drop k l ≡ b ∷ drop (suc k) l
  pub inside : k ≤ length l

pub first : (b : ℕ) (l : List ℕ) → First b l (index_of b l)
unfolding index_of index_after
first b [] = record { before = Memᴰ.not-nil; there = λ h. absurd (omega arith); inside = omega arith }
first b (x ∷ l) = go (eqb x b) refl (first b l)
  where
    go : (t : Bool) → eqb x b ≡ t → First b l (index_of b l) → First b (x ∷ l) (index_after t (index_of b l))
    go true e f = record { before = Memᴰ.not-nil; there = λ h. ap (λ y. y ∷ l) (eqb-true x b e); inside = omega arith }
    go false e f = record {
      before = λ m. ⊎_elim (λ q. eqb-false x b e (sym q)) (λ r. f.before r) (Memᴰ.cases_cons m);
      there = λ h. f.there (omega arith);
      inside = let i = f.inside in omega arith;
    }
