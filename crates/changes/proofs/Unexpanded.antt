-- A row made bare: the set is unexpanded, with the kernel that it had. Assumes nothing.
use mathlib.Core.List.{List, []}
use mathlib.Core.Path.{◌≡◌, refl, sym, ap, subst, ◌∙◌}
use mathlib.Core.Logic.{◌≢◌, ◌⊎◌, inl, inr, ⊎_elim}
use Prim.Native.Nat.{ℕ, zero, suc, ◌+◌, ◌-◌, ◌*◌, ◌/◌, ◌%◌, ◌^◌, ◌≤◌, ◌<◌}
use native.Mathlib.Nat.{le_refl}
use native.Mathlib.Decide.{ℕ_discrete, dec_lt}
use native.Mathlib.Omega.{arith}
use lib.Dec.{eqb, lit<}
use lib.ListN.{length, get_or, set, length-set}
use lib.Seq.{ext_get_or, get_or-set_same, get_or-set_other}
use Rattle.kernels.specs.Bit.{bit}
use Rattle.kernels.specs.Kernel.{has}
use Rattle.kernels.specs.Write.{write_words}
use Rattle.kernels.proofs.Bit.{bit_of-zero}
use Rattle.kernels.proofs.Write.{length_write, write_in, write_out}
use Rattle.theory.specs.Table.{unexpanded}
use Rattle.table.specs.Layout.{Sets, cell, bit_of, state_of, kernel_seen, transitions_seen, reductions_seen, set_seen}
use Rattle.table.specs.Laid.{LaidSet, HasRow}
use Rattle.table.proofs.Rows.{SameRow, SameSize, kernel_cong, transitions-none, reductions-none}
use Rattle.changes.specs.Touch.{bare_row, unexpand}

pub bare-row : (k : ℕ) → 1 ≤ k → bare_row k ≡ 0
bare-row zero h = absurd (omega arith)
bare-row (suc k) h = refl

-- zeros, then the mark: as the code does it
pub bare-is : (c : List ℕ) (at : ℕ) → at + 128 ≤ length c → set (write_words c at (λ k. 0) 128) at 1 ≡ write_words c at bare_row 128
bare-is c at h =
    let n : length (set (write_words c at (λ k. 0) 128) at 1) ≡ length c = length-set (write_words c at (λ k. 0) 128) at 1 ∙ length_write c at (λ k. 0) 128 in
    ext_get_or 0 _ _ (n ∙ sym (length_write c at bare_row 128)) (λ i l. each i)
  where
    shift : (f : ℕ → ℕ) (i : ℕ) → at ≤ i → i < at + 128 → get_or (write_words c at f 128) i 0 ≡ f (i - at)
    shift f i p q = let e : at + (i - at) ≡ i = omega arith in subst (λ j. get_or (write_words c at f 128) j 0 ≡ f (i - at)) e (write_in c at f 128 (i - at) (omega arith) h)

    out : (i : ℕ) → (i < at) ⊎ (at + 128 ≤ i) → get_or (set (write_words c at (λ k. 0) 128) at 1) i 0 ≡ get_or (write_words c at bare_row 128) i 0
    out i o = get_or-set_other (write_words c at (λ k. 0) 128) at i 1 0 (λ e. ⊎_elim (λ l. omega arith) (λ l. omega arith) o) ∙ write_out c at (λ k. 0) 128 i o ∙ sym (write_out c at bare_row 128 i o)

    each : (i : ℕ) → get_or (set (write_words c at (λ k. 0) 128) at 1) i 0 ≡ get_or (write_words c at bare_row 128) i 0
    each i = elim (dec_lt i at) [
      | yes l ↦ out i (inl l)
      | no l ↦ elim (dec_lt i (at + 128)) [
        | yes m ↦ elim (ℕ_discrete i at) [
          | yes e ↦ subst (λ j. get_or (set (write_words c at (λ k. 0) 128) at 1) j 0 ≡ get_or (write_words c at bare_row 128) j 0) (sym e)
              (get_or-set_same (write_words c at (λ k. 0) 128) at 1 0 (omega (arith, length_write c at (λ k. 0) 128))
              ∙ sym (shift bare_row at (le_refl at) (omega arith) ∙ ap bare_row (let z : at - at ≡ 0 = omega arith in z)))
          | no d ↦ get_or-set_other (write_words c at (λ k. 0) 128) at i 1 0 d ∙ shift (λ k. 0) i (omega arith) m ∙ sym (shift bare_row i (omega arith) m ∙ bare-row (i - at) (omega arith))
        ]
        | no m ↦ out i (inr (omega arith))
      ]
    ]

-- ---- the numbers of a set made unexpanded, and of the others

pub unexpand-size : (s : ℕ) (x : Sets) → SameSize (unexpand s x) x
unfolding unexpand
unexpand-size s x = record { cells = length_write x.cells (s * 128) bare_row 128; words = length_write x.words (s * 18 + 16) (λ k. 0) 2 }

pub unexpand-other : (s t : ℕ) (x : Sets) → t ≢ s → SameRow t (unexpand s x) x
unfolding unexpand
unexpand-other s t x d = record {
  cell = λ k l. write_out x.cells (s * 128) bare_row 128 (t * 128 + k) (elim (dec_lt t s) [ yes h ↦ inl (omega arith) | no h ↦ inr (omega arith) ]);
  word = λ k l. write_out x.words (s * 18 + 16) (λ k. 0) 2 (t * 18 + k) (elim (dec_lt t s) [ yes h ↦ inl (omega arith) | no h ↦ inr (omega arith) ]);
}

unexpand_word : (s : ℕ) (x : Sets) (k : ℕ) → k < 16 → get_or (unexpand s x).words (s * 18 + k) 0 ≡ get_or x.words (s * 18 + k) 0
unfolding unexpand
unexpand_word s x k l = write_out x.words (s * 18 + 16) (λ k. 0) 2 (s * 18 + k) (inl (omega arith))

unexpand-item : (s : ℕ) (x : Sets) (i : ℕ) → i < 1024 → bit_of (unexpand s x) s i ≡ bit_of x s i
unfolding has
unexpand-item s x i l = ap (λ w. bit w (i % 64)) (unexpand_word s x (i / 64) (omega arith))

module _ (s : ℕ) (x : Sets) (room : HasRow s x) where
  unexpand-mark : cell (unexpand s x) s 0 ≡ 1
  unfolding unexpand
  unexpand-mark = write_in x.cells (s * 128) bare_row 128 0 (omega arith) room.cells

  unexpand-cell : (k : ℕ) → 1 ≤ k → k < 128 → cell (unexpand s x) s k ≡ 0
  unfolding unexpand
  unexpand-cell k p q = write_in x.cells (s * 128) bare_row 128 k q room.cells ∙ bare-row k p

  unexpand-zero : (k : ℕ) → 16 ≤ k → k < 18 → get_or (unexpand s x).words (s * 18 + k) 0 ≡ 0
  unfolding unexpand
  unexpand-zero k p q =
      let e : s * 18 + 16 + (k - 16) ≡ s * 18 + k = omega arith in
      subst (λ j. get_or (write_words x.words (s * 18 + 16) (λ k. 0) 2) j 0 ≡ 0) e
      (write_in x.words (s * 18 + 16) (λ k. 0) 2 (k - 16) (omega arith) (let g = room.words in omega arith))

  unexpand_reduction : (r : ℕ) → r < 128 → bit_of (unexpand s x) s (1024 + r) ≡ 0
  unfolding has
  unexpand_reduction r l = ap (λ w. bit w ((1024 + r) % 64)) (unexpand-zero ((1024 + r) / 64) (omega arith) (omega arith)) ∙ bit_of-zero ((1024 + r) % 64)

  -- the set is unexpanded, with the kernel it had
  pub unexpand-seen : (n : ℕ) → n ≤ 128 → set_seen n (unexpand s x) s ≡ unexpanded (kernel_seen n x.words (s * 18))
  unexpand-seen n few =
      let m : cell (unexpand s x) s 0 ≡ 1 = unexpand-mark in
      let k : kernel_seen n (unexpand s x).words (s * 18) ≡ kernel_seen n x.words (s * 18) = kernel_cong n (unexpand s x).words (s * 18) x.words (s * 18) (λ i l. unexpand-item s x i (omega arith)) in
      let t : transitions_seen (unexpand s x) s ≡ [] = transitions-none (unexpand s x) s unexpand-cell in
      let r : reductions_seen n (unexpand s x) s ≡ [] = reductions-none n (unexpand s x) s (λ r l. unexpand_reduction r (omega arith)) in
      λ z. record { state = state_of (m z); kernel = k z; transitions = t z; reductions = r z; accepts = eqb (m z) 3 }

  pub unexpand-laid : (n : ℕ) → LaidSet n x s → LaidSet n (unexpand s x) s
  unexpand-laid n l =
      let m : cell (unexpand s x) s 0 ≡ 1 = unexpand-mark in
      record {
        mark = omega arith;
        words = λ k g. elim (dec_lt k 16) [
          | yes q ↦ subst (λ x. x < 2 ^ 64) (sym (unexpand_word s x k q)) (l.words k g)
          | no q ↦ subst (λ x. x < 2 ^ 64) (sym (unexpand-zero k (omega arith) g)) (lit< tt)
        ];
        items = λ i g q. unexpand-item s x i q ∙ l.items i g q;
        reductions = λ r g q. unexpand_reduction r q;
        bare = λ z k g q. unexpand-cell k g q;
        idle = λ z r q. unexpand_reduction r q;
        unused = λ z i q. absurd (omega arith);
      }
