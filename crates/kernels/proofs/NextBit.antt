-- The next bit, which `next` looks for: how its loop comes to it, what its answer says, and that there is one answer only. Assumes nothing.
use mathlib.Core.Path.{◌≡◌, refl, sym, ap, ap₂, ◌∙◌, subst}
use mathlib.Core.List.{List}
use Prim.Native.Nat.{ℕ, ◌+◌, ◌-◌, ◌*◌, ◌/◌, ◌%◌, ◌^◌, ◌≤◌, ◌<◌}
use native.Mathlib.Omega.{arith}
use native.Mathlib.Decide.{dec_lt}
use lib.ListN.{get_or}
use Rattle.kernels.specs.Bit.{bit, Lowest}
use Rattle.kernels.specs.Kernel.{has, Least, Next}
use Rattle.std.specs.Prelude.{Option, Some, None}
use Rattle.kernels.proofs.Bit.{bit_of-zero, bit_high, bit_shr}
use Rattle.kernels.proofs.Kernel.{has-at}

module _ (ws : List ℕ) (at : ℕ) where
  -- ---- no bit in a range

  abbrev pub NoneIn : ℕ → ℕ → Type 0
  NoneIn from to = (j : ℕ) → from ≤ j → j < to → has ws at j ≡ 0

  -- the first word, shifted
  has-from : (from d : ℕ) → from % 64 + d < 64 → has ws at (from + d) ≡ bit (get_or ws (at + from / 64) 0 / 2 ^ (from % 64)) d
  unfolding has
  has-from from d l =
      let q : (from + d) / 64 ≡ from / 64 = omega arith in
      let r : (from + d) % 64 ≡ from % 64 + d = omega arith in
      ap₂ (λ x y. bit (get_or ws (at + x) 0) y) q r ∙ sym (bit_shr (get_or ws (at + from / 64) 0) (from % 64) d)

  -- nothing is left of the first word
  pub none_from : (from : ℕ) → get_or ws (at + from / 64) 0 / 2 ^ (from % 64) ≡ 0 → NoneIn from ((from / 64 + 1) * 64)
  none_from from z j l h =
      let e : j ≡ from + (j - from) = omega arith in
      ap (has ws at) e ∙ has-from from (j - from) (omega arith) ∙ ap (λ x. bit x (j - from)) z ∙ bit_of-zero (j - from)

  -- what holds of the bits of a word holds of those numbers
  in_word : (k t j : ℕ) → t ≤ 64 → ((b : ℕ) → b < t → bit (get_or ws (at + k) 0) b ≡ 0) → k * 64 ≤ j → j < k * 64 + t
      → has ws at j ≡ 0
  in_word k t j l none p q =
      let e : j ≡ k * 64 + (j - k * 64) = omega arith in
      ap (has ws at) e ∙ has-at ws at k (j - k * 64) (omega arith) ∙ none (j - k * 64) (omega arith)

  -- one more word is zero
  pub none_more : (from k : ℕ) → NoneIn from (k * 64) → get_or ws (at + k) 0 ≡ 0 → NoneIn from ((k + 1) * 64)
  none_more from k none z j l h = elim (dec_lt j (k * 64)) [
    | yes p ↦ none j l p
    | no p ↦ in_word k 64 j (omega arith) (λ b m. ap (λ x. bit x b) z ∙ bit_of-zero b) (omega arith) (omega arith)
  ]

  -- ---- the next bit

  -- in the first word
  pub found_from : (n from t : ℕ) → from / 64 < n → get_or ws (at + from / 64) 0 < 2 ^ 64
      → Lowest 64 (get_or ws (at + from / 64) 0 / 2 ^ (from % 64)) t → Least ws at n from (from + t)
  found_from n from t lt fit low =
      let inside : from % 64 + t < 64 = elim (dec_lt (from % 64 + t) 64) [ yes p ↦ p | no p ↦ absurd (past (omega arith)) ] in
      record {
        above = omega arith;
        inside = omega arith;
        there = has-from from t inside ∙ low.there;
        none = λ j l h. let e : j ≡ from + (j - from) = omega arith in
            ap (has ws at) e ∙ has-from from (j - from) (omega arith) ∙ low.none (j - from) (omega arith);
      }
    where
      past : 64 ≤ from % 64 + t → ⊥
      past g =
          let w = get_or ws (at + from / 64) 0 in
          let z : bit (w / 2 ^ (from % 64)) t ≡ 0 = bit_shr w (from % 64) t ∙ bit_high 64 w (from % 64 + t) fit g in
          omega (arith, low.there)

  -- in a later one
  pub found_at : (n from k t : ℕ) → from ≤ k * 64 → k < n → NoneIn from (k * 64) → Lowest 64 (get_or ws (at + k) 0) t
      → Least ws at n from (k * 64 + t)
  found_at n from k t g lt none low =
      let l64 : t < 64 = low.inside in
      record {
        above = omega arith;
        inside = omega arith;
        there = has-at ws at k t l64 ∙ low.there;
        none = λ j l h. elim (dec_lt j (k * 64)) [ yes p ↦ none j l p | no p ↦ in_word k t j (omega arith) low.none (omega arith) h ];
      }

  -- what an answer says, in the arm of a match on it
  pub next-at : {n from j : ℕ} (r : (Option ℕ)) → Next ws at n from r → r ≡ Some j → Least ws at n from j
  next-at {n} {from} r h e = subst (Next ws at n from) e h

  pub next-nothing : (n from : ℕ) (r : (Option ℕ)) → Next ws at n from r → r ≡ None → NoneIn from (n * 64)
  next-nothing n from r h e = subst (Next ws at n from) e h

  -- no second answer fits
  pub next-unique : (n from : ℕ) (r s : (Option ℕ)) → Next ws at n from r → Next ws at n from s → r ≡ s
  next-unique n from (Some i) (Some j) a b = ap Some (go (dec_lt i j) (dec_lt j i))
    where
      go : Dec (i < j) → Dec (j < i) → i ≡ j
      go (yes l) d = let z : has ws at i ≡ 0 = b.none i a.above l in absurd (omega (arith, a.there))
      go (no l) (yes k) = let z : has ws at j ≡ 0 = a.none j b.above k in absurd (omega (arith, b.there))
      go (no l) (no k) = omega arith
  next-unique n from (Some i) None a b = let z : has ws at i ≡ 0 = b i a.above a.inside in absurd (omega (arith, a.there))
  next-unique n from None (Some j) a b = let z : has ws at j ≡ 0 = a j b.above b.inside in absurd (omega (arith, b.there))
  next-unique n from None None a b = refl
