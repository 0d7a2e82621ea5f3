-- A part of a list that is written as a whole. Assumes nothing.
use Rattle.std.proofs.Common.{◌≡◌, sym, ap, ◌∙◌, List, ℕ, ◌+◌, ◌-◌, ◌≤◌, ◌<◌, length, get_or, take, drop, arith, rules}
use native.Mathlib.Decide.{dec_lt}
use Rattle.std.proofs.lemmas.List.{ext_get_or, places, get_or-replicate}
use Rattle.std.specs.Prelude.{replicate}
use borrow.Rule.Slice.PartMut.{put_mid}
use mathlib.Core.Logic.{inl, inr}
use Rattle.kernels.specs.Write.{write_words}
use Rattle.kernels.proofs.Write.{length_write, write_in, write_out}

-- a part of n places written with f 0, f 1, ..
pub part_written : (ws ys : List ℕ) (at k n : ℕ) (f : ℕ → ℕ) → k ≡ n → at + n ≤ length ws → length ys ≡ n
    → ((j : ℕ) → j < n → get_or ys j 0 ≡ f j) → put_mid at k ws ys ≡ write_words ws at f n
part_written ws ys at k n f e fits long each = ext_get_or 0 _ _ (long_as ∙ sym (length_write ws at f n)) (λ i l. go i (dec_lt i at) (dec_lt i (at + n)))
  where
    long_as : length (put_mid at k ws ys) ≡ length ws
    long_as = search (rules, places)

    go : (i : ℕ) → Dec (i < at) → Dec (i < at + n) → get_or (put_mid at k ws ys) i 0 ≡ get_or (write_words ws at f n) i 0
    go i (yes l) d =
        let h : get_or (put_mid at k ws ys) i 0 ≡ get_or ws i 0 = search (rules, places) in
        h ∙ sym (write_out ws at f n i (inl l))
    go i (no g) (yes l) =
        let h : get_or (put_mid at k ws ys) i 0 ≡ get_or ys (i - at) 0 = search (rules, places) in
        let p : i ≡ at + (i - at) = omega arith in
        h ∙ each (i - at) (omega arith) ∙ sym (write_in ws at f n (i - at) (omega arith) fits) ∙ ap (λ j. get_or (write_words ws at f n) j 0) (sym p)
    go i (no g) (no m) =
        let h : get_or (put_mid at k ws ys) i 0 ≡ get_or ws i 0 = search (rules, places) in
        h ∙ sym (write_out ws at f n i (inr (omega arith)))

-- a part of n places filled with zeros
pub part_zeroed : (ws ys : List ℕ) (at k n : ℕ) → k ≡ n → at + n ≤ length ws → ys ≡ replicate (length (take k (drop at ws))) 0
    → put_mid at k ws ys ≡ write_words ws at (λ j. 0) n
part_zeroed ws ys at k n e fits zeros =
    let long : length (take k (drop at ws)) ≡ n = search (rules, places) in
    let same : ys ≡ replicate n 0 = zeros ∙ ap (λ m. replicate m 0) long in
    part_written ws ys at k n (λ j. 0) e fits (ap length same ∙ search (rules, places)) (λ j l. ap (λ zs. get_or zs j 0) same ∙ get_or-replicate n j 0 0 l)
