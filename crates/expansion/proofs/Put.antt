-- A part of a list copied from another list is that part written number by number. Assumes nothing.
use mathlib.Core.List.{List, ◌++◌}
use mathlib.Core.Path.{◌≡◌, refl, sym, ap, ◌∙◌}
use mathlib.Core.Logic.{inl, inr}
use Prim.Native.Nat.{ℕ, ◌+◌, ◌-◌, ◌≤◌, ◌<◌}
use native.Mathlib.Decide.{dec_lt}
use native.Mathlib.Omega.{arith}
use borrow.Rule.Slice.PartMut.{put_mid, same_len_mid}
use lib.ListN.{length, get_or, get_or-append, take, drop}
use Rattle.std.proofs.lemmas.Grind.{same_number_lists}
use Rattle.std.proofs.lemmas.List.{get_or-append_right, get_or-take, get_or-drop, length-take, length-take-le, length-drop}
use Rattle.kernels.specs.Write.{write_words}
use Rattle.kernels.proofs.Write.{length_write, write_in, write_out}

module _ (xs row : List ℕ) (at : ℕ) (room : at + length row ≤ length xs) where
  abbrev put : List ℕ
  put = put_mid at (length row) xs row

  abbrev written : List ℕ
  written = write_words xs at (λ k. get_or row k 0) (length row)

  abbrev behind : List ℕ
  behind = drop (length row) (drop at xs)

  front : length (take at xs) ≡ at
  front = omega (arith, length-take-le at xs (omega arith))

  long : length put ≡ length written
  long = same_len_mid at (length row) xs row (omega (arith, length-take {A = ℕ}, length-drop {A = ℕ})) ∙ sym (length_write xs at (λ k. get_or row k 0) (length row))

  same : (k : ℕ) → k < length put → get_or put k 0 ≡ get_or written k 0
  same k h = elim (dec_lt k at) [
    | yes p ↦ get_or-append (take at xs) (row ++ behind) 0 k (omega (arith, front)) ∙ get_or-take at xs k 0 p ∙ sym (write_out xs at (λ k. get_or row k 0) (length row) k (inl p))
    | no p ↦ get_or-append_right (take at xs) (row ++ behind) at k 0 front (omega arith) ∙ elim (dec_lt k (at + length row)) [
      | yes q ↦
          let e : at + (k - at) ≡ k = omega arith in
          get_or-append row behind 0 (k - at) (omega arith) ∙ sym (write_in xs at (λ k. get_or row k 0) (length row) (k - at) (omega arith) room)
          ∙ ap (λ k. get_or written k 0) e
      | no q ↦
          let e : at + (length row + (k - at - length row)) ≡ k = omega arith in
          get_or-append_right row behind (length row) (k - at) 0 refl (omega arith) ∙ get_or-drop (length row) (drop at xs) (k - at - length row) 0
          ∙ get_or-drop at xs (length row + (k - at - length row)) 0 ∙ ap (λ k. get_or xs k 0) e ∙ sym (write_out xs at (λ k. get_or row k 0) (length row) k (inr (omega arith)))
    ]
  ]

  is_written : put ≡ written
  is_written = same_number_lists put written long same

pub put_words : (xs row : List ℕ) (at k n : ℕ) {ys : List ℕ} → ys ≡ row → length row ≡ n → k ≡ n → at + n ≤ length xs
    → put_mid at k xs ys ≡ write_words xs at (λ k. get_or row k 0) n
put_words xs row at k n e f g h =
    (λ i. put_mid at ((g ∙ sym f) i) xs (e i)) ∙ is_written xs row at (omega arith) ∙ ap (write_words xs at (λ k. get_or row k 0)) f
