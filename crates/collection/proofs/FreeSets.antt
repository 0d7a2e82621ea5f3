-- Every set but the marked ones becomes free: what stands in each row then, and the table that it is. Assumes nothing.
use mathlib.Core.Bool.{Bool, true, false}
use mathlib.Core.List.{List}
use mathlib.Core.Path.{◌≡◌, refl, sym, ap, subst, ◌∙◌}
use mathlib.Core.Logic.{◌≢◌, inl, inr}
use Prim.Native.Nat.{ℕ, ◌+◌, ◌*◌, ◌≤◌, ◌<◌}
use native.Mathlib.Nat.{le_refl}
use native.Mathlib.Decide.{dec_lt}
use native.Mathlib.Omega.{arith}
use lib.ListN.{length, get_or}
use Rattle.laws.specs.Choice.{when}
use Rattle.laws.specs.Loops.{up_to, tab}
use Rattle.laws.proofs.Choice.{when-cases}
use Rattle.laws.proofs.Tables.{length_tab}
use Rattle.laws.proofs.Chosen.{tab_cong}
use Rattle.kernels.specs.Kernel.{holds}
use Rattle.kernels.proofs.Write.{length_write, write_in, write_out}
use Rattle.theory.specs.Table.{SetPlace, free_set, set_at}
use Rattle.table.specs.Layout.{Sets, cell, set_seen, view_sets}
use Rattle.table.specs.Laid.{LaidSet, HasRow}
use Rattle.table.proofs.Read.{set_read}
use Rattle.table.proofs.Rows.{SameRow, SameSize, BareRow, row_refl, row_trans, row_seen, row_laid, row_still, bare-laid, bare-seen, loop_size, loop_ahead, loop_row}
use Rattle.collection.specs.Sweep.{free_row, free_unmarked}

-- ---- a free row

-- every number of row s is zero
pub record Zero (s : ℕ) (a : Sets) : Type 0 where
  pub cell : (k : ℕ) → k < 128 → cell a s k ≡ 0
  pub word : (k : ℕ) → k < 18 → get_or a.words (s * 18 + k) 0 ≡ 0

zero-bare : {s : ℕ} {a : Sets} → Zero s a → BareRow s a
zero-bare z = record { cell = λ k p q. z.cell k q; word = z.word }

-- ---- one turn

row-size : (s : ℕ) (x : Sets) → SameSize (free_row s x) x
unfolding free_row
row-size s x = record { cells = length_write x.cells (s * 128) (λ k. 0) 128; words = length_write x.words (s * 18) (λ k. 0) 18 }

row_other : (s t : ℕ) (x : Sets) → t ≢ s → SameRow t (free_row s x) x
unfolding free_row
row_other s t x d = record {
  cell = λ k l. write_out x.cells (s * 128) (λ k. 0) 128 (t * 128 + k) (elim (dec_lt t s) [ yes h ↦ inl (omega arith) | no h ↦ inr (omega arith) ]);
  word = λ k l. write_out x.words (s * 18) (λ k. 0) 18 (t * 18 + k) (elim (dec_lt t s) [ yes h ↦ inl (omega arith) | no h ↦ inr (omega arith) ]);
}

row_zero : (s : ℕ) (x : Sets) → HasRow s x → Zero s (free_row s x)
unfolding free_row
row_zero s x h = record {
  cell = λ k l. write_in x.cells (s * 128) (λ k. 0) 128 k l h.cells;
  word = λ k l. write_in x.words (s * 18) (λ k. 0) 18 k l h.words;
}

-- ---- all of them

module _ (marks : List ℕ) where
  free_size : (s : ℕ) (x : Sets) → SameSize (free_unmarked marks s x) x
  unfolding free_unmarked
  free_size s x = when-cases (λ (y : Sets). SameSize y x) (holds marks 0 s) (λ e. record { cells = refl; words = refl }) (λ e. row-size s x)

  free_other : (s t : ℕ) (x : Sets) → t ≢ s → SameRow t (free_unmarked marks s x) x
  unfolding free_unmarked
  free_other s t x d = when-cases (λ (y : Sets). SameRow t y x) (holds marks 0 s) (λ e. row_refl) (λ e. row_other s t x d)

  module _ (S : ℕ) (x : Sets) where
    abbrev pub freed : Sets
    freed = up_to S (free_unmarked marks) x

    pub freed-size : SameSize freed x
    freed-size = loop_size (free_unmarked marks) free_size free_other S x

    pub freed-beyond : (s : ℕ) → S ≤ s → SameRow s freed x
    freed-beyond s h = loop_ahead (free_unmarked marks) free_size free_other S s x h

    module _ (s : ℕ) (l : s < S) where
      before : SameRow s (up_to s (free_unmarked marks) x) x
      before = loop_ahead (free_unmarked marks) free_size free_other s s x (le_refl s)

      turn : SameRow s freed (free_unmarked marks s (up_to s (free_unmarked marks) x))
      turn = loop_row (free_unmarked marks) free_size free_other S s x l

      kept : holds marks 0 s ≡ true → SameRow s freed x
      unfolding free_unmarked when
      kept e = row_trans (subst (λ b. SameRow s freed (when b (up_to s (free_unmarked marks) x) (free_row s (up_to s (free_unmarked marks) x)))) e turn) before

      cleared : HasRow s x → holds marks 0 s ≡ false → Zero s freed
      unfolding free_unmarked when
      cleared h e =
          let y = up_to s (free_unmarked marks) x in
          let z = loop_size (free_unmarked marks) free_size free_other s x in
          let t : SameRow s freed (free_row s y) = subst (λ b. SameRow s freed (when b y (free_row s y))) e turn in
          let r : Zero s (free_row s y) = row_zero s y (row_still z h) in
          record { cell = λ k i. t.cell k i ∙ r.cell k i; word = λ k i. t.word k i ∙ r.word k i }

      pub freed-laid : (n : ℕ) → HasRow s x → LaidSet n x s → LaidSet n freed s
      freed-laid n h f = go (holds marks 0 s) refl
        where
          go : (b : Bool) → holds marks 0 s ≡ b → LaidSet n freed s
          go true e = row_laid n s freed x (kept e) f
          go false e = let z = cleared h e in bare-laid (zero-bare z) n (omega (arith, z.cell 0 (omega arith)))

      pub freed-seen : (n : ℕ) → n ≤ 128 → HasRow s x → set_seen n freed s ≡ when (holds marks 0 s) (set_seen n x s) free_set
      freed-seen n few h = go (holds marks 0 s) refl
        where
          go : (b : Bool) → holds marks 0 s ≡ b → set_seen n freed s ≡ when b (set_seen n x s) free_set
          go true e = unfold when in row_seen n s freed x few (kept e)
          go false e = unfold when in (let z = cleared h e in bare-seen (zero-bare z) n 0 few (z.cell 0 (omega arith)))

    -- with the model's marks it is the model's table
    pub freed-sets : (n : ℕ) (m : List Bool) → n ≤ 128 → ((s : ℕ) → s < S → HasRow s x) → ((s : ℕ) → s < S → holds marks 0 s ≡ get_or m s false)
        → view_sets S n freed ≡ tab (length (view_sets S n x)) (λ s. when (get_or m s false) (set_at (view_sets S n x) s) free_set)
    freed-sets n m few h e =
        let f : ℕ → SetPlace = λ s. when (get_or m s false) (set_at (view_sets S n x) s) free_set in
        tab_cong S (set_seen n freed) f
        (λ s l. freed-seen s l n few (h s l) ∙ ap (λ b. when b (set_seen n x s) free_set) (e s l) ∙ ap (λ p. when (get_or m s false) p free_set) (sym (set_read S n x s l)))
        ∙ ap (λ k. tab k f) (sym (length_tab S (set_seen n x)))
