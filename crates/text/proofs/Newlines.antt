-- Where a byte stands in a part of a list, by the search over its places. Assumes nothing.
use Rattle.std.proofs.Common.{◌≡◌, refl, sym, ap, ◌∙◌, Bool, true, false, cond, List, ℕ, ◌+◌, ◌-◌, ◌≤◌, ◌<◌, length, get_or, take, drop, eqb, Option, Some, None, MatchOption, arith, rules}
use Rattle.std.specs.List.{position_or_len}
use Rattle.std.proofs.lemmas.List.{drop-take, places}
use Rattle.std.proofs.lemmas.List.Recursion.{is_position_or_len}
use Rattle.std.proofs.lemmas.List.Sums.{position_or_len_is}
use Rattle.text.specs.Newline.{slice, index_of, index_after}

module _ (b : ℕ) (l : List ℕ) where
  index-position : index_of b l ≡ position_or_len (λ x. eqb x b) l
  unfolding index_of index_after
  index-position = is_position_or_len (index_of b) (λ x. eqb x b) refl (λ x xs. go (eqb x b) (index_of b xs)) l
    where
      go : (t : Bool) (k : ℕ) → index_after t k ≡ cond t 0 (1 + k)
      go true k = refl
      go false k = omega arith

-- from place `at` up to place n of l
module _ (b at n : ℕ) (l : List ℕ) (from : at ≤ n) (inside : n ≤ length l) where
  cut_there : slice at n l ≡ take (n - at) (drop at l)
  unfolding slice
  cut_there =
      let whole : n ≡ at + (n - at) = omega arith in
      ap (λ k. drop at (take k l)) whole ∙ drop-take at (n - at) l

  cut_length : length (slice at n l) ≡ n - at
  cut_length = ap length cut_there ∙ search (rules, places)

  cut_read : (j : ℕ) → j < n - at → get_or (slice at n l) j 0 ≡ get_or l (at + j) 0
  cut_read j h = ap (λ xs. get_or xs j 0) cut_there ∙ search (rules, places)

  -- where the places before place `at + k` don't have it, and that one has it unless it is the end
  first : (k : ℕ) → k ≤ n - at → ((j : ℕ) → at ≤ j → j < at + k → eqb (get_or l j 0) b ≡ false) → (k < n - at → eqb (get_or l (at + k) 0) b ≡ true) → index_of b (slice at n l) ≡ k
  first k low before here =
      index-position b (slice at n l)
      ∙ position_or_len_is (λ x. eqb x b) (slice at n l) k 0 (omega (arith, cut_length))
      (λ j h. ap (λ x. eqb x b) (cut_read j (omega arith)) ∙ before (at + j) (omega arith) (omega arith))
      (λ h. ap (λ x. eqb x b) (cut_read k (omega (arith, cut_length))) ∙ here (omega (arith, cut_length)))

  -- what `find` says of the places from `at` on
  pub first-there : (r : Option ℕ)
      → MatchOption r ((k : ℕ) → at ≤ k → k < n → eqb (get_or l k 0) b ≡ false)
      (λ i. (at ≤ i) × (i < n) × (eqb (get_or l i 0) b ≡ true) × ((k : ℕ) → at ≤ k → k < i → eqb (get_or l k 0) b ≡ false))
      → MatchOption r (n ≡ at + index_of b (slice at n l)) (λ i. i ≡ at + index_of b (slice at n l))
  first-there None none = omega (arith, first (n - at) (omega arith) (λ j p q. none j p (omega arith)) (λ h. absurd (omega arith)))
  first-there (Some i) (p, q, here, none) =
      let z : at + (i - at) ≡ i = omega arith in
      omega (arith, first (i - at) (omega arith) (λ j a b. none j a (omega arith)) (λ h. ap (λ k. eqb (get_or l k 0) b) z ∙ here))
