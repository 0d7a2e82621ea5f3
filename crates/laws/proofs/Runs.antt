-- A test over the items of a list or an iterator, as a test over the numbers below their count. Assumes nothing.
use Rattle.std.proofs.Common.{◌≡◌, refl, sym, ap, ◌∙◌, Bool, true, false, List, ℕ, zero, suc, ◌+◌, ◌&&◌, ◌≤◌, ◌<◌, length, get_or, take, arith}
use borrow.Author.Tests.{eq-eqb}
use lib.Dec.{eqb}
use lib.Pointwise.{pointwise}
use Rattle.std.specs.Cmp.Lexicographic.{same_text, other_text}
use Rattle.std.specs.List.{list_all, range_with_len}
use Rattle.std.proofs.lemmas.Bool.{eqb-true}
use Rattle.std.proofs.lemmas.List.{take_all, ext_get_or}
use Rattle.std.proofs.lemmas.List.Folds.{list_all_more}
use Rattle.std.proofs.lemmas.List.FromFn.{get_or-range_with_len, length-range_with_len}
use Rattle.laws.specs.Choice.{◌and◌}
use Rattle.laws.specs.Loops.{all_below}
use Rattle.laws.proofs.Loops.{all_holds, all-at, all_cong}

pub and_is : (a b : Bool) → (a && b) ≡ a and b
unfolding ◌and◌
and_is true b = refl
and_is false b = refl

module _ {X : Type 0} (f : X → Bool) (xs : List X) (d : X) where
  all_first : (n : ℕ) → n ≤ length xs → list_all f (take n xs) ≡ all_below n (λ i. f (get_or xs i d))
  unfolding all_below
  all_first zero l = refl
  all_first (suc n) l =
      let here : n < length xs = omega arith in
      let e : suc n ≡ n + 1 = omega arith in
      ap (λ m. list_all f (take m xs)) e ∙ list_all_more f xs n d here ∙ and_is _ _ ∙ ap (λ b. b and f (get_or xs n d)) (all_first n (omega arith))

  -- over a list, as `xs.iter().all(..)` has it
  pub all-list : list_all f xs ≡ all_below (length xs) (λ i. f (get_or xs i d))
  all-list = ap (list_all f) (sym (take_all (length xs) xs (omega arith))) ∙ all_first (length xs) (omega arith)

-- over n numbers from a on
pub all-range : (f : ℕ → Bool) (a n : ℕ) → list_all f (range_with_len a n) ≡ all_below n (λ k. f (a + k))
all-range f a n =
    all-list f (range_with_len a n) 0
    ∙ ap (λ m. all_below m (λ i. f (get_or (range_with_len a n) i 0))) (length-range_with_len a n)
    ∙ all_cong (λ i. f (get_or (range_with_len a n) i 0)) (λ k. f (a + k)) n (λ k l. ap f (get_or-range_with_len a n k 0 l))

-- two lists compared, as `==` has it
pub same-lists : (xs ys : List ℕ) (n : ℕ) → length xs ≡ n → length ys ≡ n
    → pointwise eqb xs ys ≡ all_below n (λ k. eqb (get_or xs k 0) (get_or ys k 0))
same-lists xs ys n p q = go (pointwise eqb xs ys) refl (all_below n f) refl
  where
    f : ℕ → Bool
    f k = eqb (get_or xs k 0) (get_or ys k 0)

    each : xs ≡ ys → (k : ℕ) → k < n → f k ≡ true
    each e k h = eq-eqb _ _ (ap (λ zs. get_or zs k 0) e)

    whole : all_below n f ≡ true → xs ≡ ys
    whole t = ext_get_or 0 xs ys (p ∙ sym q) (λ k h. eqb-true _ _ (all-at f n t k (omega (arith, p))))

    go : (r : Bool) → r ≡ pointwise eqb xs ys → (t : Bool) → t ≡ all_below n f → pointwise eqb xs ys ≡ all_below n f
    go true e t h = sym e ∙ sym (all_holds f n (each (same_text xs ys e)))
    go false e true h = absurd (other_text xs ys e (whole (sym h)))
    go false e false h = sym e ∙ h
