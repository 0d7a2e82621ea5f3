-- One pass over the rows: every set with a transition on a symbol becomes unexpanded, the others stay. Assumes nothing.
use mathlib.Core.Bool.{Bool, true, false, not}
use mathlib.Core.Path.{◌≡◌, refl, ap, ◌∙◌}
use mathlib.Core.Logic.{◌≢◌}
use Prim.Native.Nat.{ℕ, ◌*◌, ◌≤◌, ◌<◌}
use native.Mathlib.Nat.{le_refl}
use lib.Dec.{eqb}
use Rattle.laws.specs.Choice.{when}
use Rattle.laws.specs.Loops.{up_to}
use Rattle.laws.specs.Lists.{someIn}
use Rattle.laws.proofs.Choice.{when-cases}
use Rattle.laws.proofs.Chosen.{iff_same}
use Rattle.laws.proofs.Lists.{some_in}
use Rattle.laws.proofs.Tests.{eqb_iff, not_iff}
use Rattle.theory.specs.Table.{SetPlace, unexpanded}
use Rattle.table.specs.Layout.{Sets, cell, transition, kernel_seen, transitions_seen, set_seen}
use Rattle.table.specs.Laid.{LaidSet, HasRow}
use Rattle.table.proofs.Once.{in_transitions}
use Rattle.table.proofs.Rows.{SameRow, SameSize, row_refl, row_seen, row_laid, loop_size, loop_ahead, loop_row, row_still}
use Rattle.changes.specs.Touch.{unexpand, unexpand_if, unexpand_all}
use Rattle.changes.proofs.Unexpanded.{unexpand-size, unexpand-other, unexpand-seen, unexpand-laid}

-- what becomes of a set when a rule of `left` changes
abbrev pub shut : ℕ → SetPlace → SetPlace
shut left p = let q = unexpanded p.kernel in when (someIn (λ a. eqb a.on left) p.transitions) q p

-- a target that is not 0 is a transition
leads-some : (left s : ℕ) (x : Sets) → 1 ≤ left → left < 128 → not (eqb (cell x s left) 0) ≡ someIn (λ a. eqb a.on left) (transitions_seen x s)
leads-some left s x p q =
    iff_same _ _
    (λ t.
    (some_in (λ a. eqb a.on left) (transitions_seen x s)).1
    (transition left (cell x s left), (in_transitions x s left (cell x s left)).1 ((p, q), (refl, λ z. (not_iff (eqb (cell x s left) 0)).0 t ((eqb_iff (cell x s left) 0).1 z))), (eqb_iff left left).1 refl))
    (λ t.
    let (a, m, e) = (some_in (λ a. eqb a.on left) (transitions_seen x s)).0 t in
    let (g, (h, z)) = (in_transitions x s a.on a.to).0 m in
    (not_iff (eqb (cell x s left) 0)).1 (λ y. z (h ∙ ap (cell x s) ((eqb_iff a.on left).0 e) ∙ (eqb_iff (cell x s left) 0).0 y)))

-- ---- one row

module _ (left : ℕ) where
  if_size : (s : ℕ) (x : Sets) → SameSize (unexpand_if left s x) x
  unfolding unexpand_if
  if_size s x = when-cases (λ y. SameSize y x) (eqb (cell x s left) 0) (λ e. record { cells = refl; words = refl }) (λ e. unexpand-size s x)

  if_other : (s t : ℕ) (x : Sets) → t ≢ s → SameRow t (unexpand_if left s x) x
  unfolding unexpand_if
  if_other s t x d = when-cases (λ y. SameRow t y x) (eqb (cell x s left) 0) (λ e. row_refl) (λ e. unexpand-other s t x d)

  if_seen : (n s : ℕ) (x : Sets) → n ≤ 128 → 1 ≤ left → left < 128 → HasRow s x → set_seen n (unexpand_if left s x) s ≡ shut left (set_seen n x s)
  unfolding unexpand_if
  if_seen n s x few p q h =
      go (eqb (cell x s left) 0) ∙ ap (λ b. when b (unexpanded (kernel_seen n x.words (s * 18))) (set_seen n x s)) (leads-some left s x p q)
    where
      go : (b : Bool) → set_seen n (when b x (unexpand s x)) s ≡ when (not b) (unexpanded (kernel_seen n x.words (s * 18))) (set_seen n x s)
      go true = unfold when in refl
      go false = unfold when in unexpand-seen s x h n few

  if_laid : (n s : ℕ) (x : Sets) → HasRow s x → LaidSet n x s → LaidSet n (unexpand_if left s x) s
  unfolding unexpand_if
  if_laid n s x h l = when-cases (λ y. LaidSet n y s) (eqb (cell x s left) 0) (λ e. l) (λ e. unexpand-laid s x h n l)

  -- ---- all rows

  -- row s as turn s finds it, and as the loop leaves it
  found : (s : ℕ) (x : Sets) → SameRow s (up_to s (unexpand_if left) x) x
  found s x = loop_ahead (unexpand_if left) if_size if_other s s x (le_refl s)

  roomy : (s : ℕ) (x : Sets) → HasRow s x → HasRow s (up_to s (unexpand_if left) x)
  roomy s x h = row_still (loop_size (unexpand_if left) if_size if_other s x) h

  turned : (N s : ℕ) (x : Sets) → s < N → SameRow s (up_to N (unexpand_if left) x) (unexpand_if left s (up_to s (unexpand_if left) x))
  turned N s x h = loop_row (unexpand_if left) if_size if_other N s x h

  pub all-size : (N : ℕ) (x : Sets) → SameSize (unexpand_all N left x) x
  unfolding unexpand_all
  all-size N x = loop_size (unexpand_if left) if_size if_other N x

  pub all_seen : (n N s : ℕ) (x : Sets) → n ≤ 128 → 1 ≤ left → left < 128 → s < N → HasRow s x → set_seen n (unexpand_all N left x) s ≡ shut left (set_seen n x s)
  unfolding unexpand_all
  all_seen n N s x few p q h rm =
      let y = up_to s (unexpand_if left) x in
      row_seen n s _ _ few (turned N s x h) ∙ if_seen n s y few p q (roomy s x rm) ∙ ap (shut left) (row_seen n s y x few (found s x))

  pub all_laid : (n N s : ℕ) (x : Sets) → s < N → HasRow s x → LaidSet n x s → LaidSet n (unexpand_all N left x) s
  unfolding unexpand_all
  all_laid n N s x h rm l =
      let y = up_to s (unexpand_if left) x in
      row_laid n s _ _ (turned N s x h) (if_laid n s y (roomy s x rm) (row_laid n s y x (found s x) l))

  pub all-beyond : (N s : ℕ) (x : Sets) → N ≤ s → SameRow s (unexpand_all N left x) x
  unfolding unexpand_all
  all-beyond N s x h = loop_ahead (unexpand_if left) if_size if_other N s x h
