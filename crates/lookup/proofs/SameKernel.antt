-- Words that are equal are kernels that are equal, so that the search for a kernel's words finds the model's set. Assumes nothing.
use mathlib.Core.Bool.{Bool}
use mathlib.Core.List.{List, [], Memᴰ as In}
use mathlib.Core.Path.{◌≡◌, sym, ap, subst, ◌∙◌}
use mathlib.Core.Logic.{◌≢◌}
use Prim.Native.Nat.{ℕ, pred, ◌-◌, ◌*◌, ◌≤◌, ◌<◌}
use native.Mathlib.Numerals.{sub-one}
use native.Mathlib.Omega.{arith}
use lib.Dec.{T, ltb}
use Rattle.laws.specs.Choice.{◌and◌}
use Rattle.laws.specs.Lists.{firstIn, up_from}
use Rattle.laws.proofs.Tests.{and_both}
use Rattle.laws.proofs.Lists.{in_up}
use Rattle.laws.proofs.Tables.{length_tab}
use Rattle.laws.proofs.Chosen.{iff_same, first_cong}
use Rattle.kernels.specs.Kernel.{same, find}
use Rattle.kernels.proofs.Kernel.{Words}
use Rattle.theory.specs.Table.{FREE, Item, set_at, same_items}
use Rattle.theory.specs.Expansion.{set_with}
use Rattle.theory.proofs.Items.{same-items}
use Rattle.theory.proofs.Sets.{positive}
use Rattle.table.specs.Layout.{Sets, cell, state_of, kernel_seen, set_seen, view_sets}
use Rattle.table.specs.Laid.{Within}
use Rattle.table.proofs.Read.{set_read, state_free}
use Rattle.table.proofs.Rows.{kernel-none}
use Rattle.table.proofs.SameKernel.{same_seen}
use Rattle.lookup.specs.Lookup.{kernel_at, LaidSets}

-- the search for the key's words is the search for its kernel
pub find-is : (S n : ℕ) (ws key : List ℕ) → n ≤ 128 → ((s : ℕ) → Words ws (s * 18)) → Words key 0
    → ((s : ℕ) → s < S → Within n ws (s * 18)) → Within n key 0 → find ws S key 0 ≡ kernel_at S n ws (kernel_seen n key 0)
unfolding find kernel_at
find-is S n ws key few words-fit key_fits each within =
    first_cong (λ s. same ws (s * 18) key 0) has 0 (up_from 1 (S - 1)) same-kernel ∙ ap (λ c. firstIn has 0 (up_from 1 c)) (sub-one S)
  where
    has : ℕ → Bool
    has s = same_items (kernel_seen n ws (s * 18)) (kernel_seen n key 0)

    same-kernel : (s : ℕ) → In s (up_from 1 (S - 1)) → same ws (s * 18) key 0 ≡ has s
    same-kernel s m =
        let (p, q) = (in_up 1 (S - 1)).0 m in
        let (to, from) = same_seen n ws (s * 18) key 0 few (words-fit s) key_fits (each s (omega arith)) within in
        iff_same (same ws (s * 18) key 0) (has s) (λ t. (same-items _ _).1 (to t)) (λ t. from ((same-items _ _).0 t))

-- and, where the kernel is not empty, the model's search: a free set's kernel is empty, so its mark need not be looked at
pub kernel-set : (S n : ℕ) (x : Sets) (k : List Item) → LaidSets S n x → k ≢ [] → kernel_at S n x.words k ≡ set_with (view_sets S n x) k
unfolding kernel_at
kernel-set S n x k 𝓛 some =
    first_cong (λ s. same_items (kernel_seen n x.words (s * 18)) k) used-with 0 (up_from 1 (pred S)) each
    ∙ ap (λ c. firstIn used-with 0 (up_from 1 (pred c))) (sym (length_tab S (set_seen n x)))
  where
    used-with : ℕ → Bool
    used-with s = ltb 0 (set_at (view_sets S n x) s).state and same_items (set_at (view_sets S n x) s).kernel k

    used : (s : ℕ) → s < S → kernel_seen n x.words (s * 18) ≡ k → state_of (cell x s 0) ≢ FREE
    used s l e f =
        let free = state_free (cell x s 0) f in
        some (sym e ∙ kernel-none n x.words (s * 18) (λ i h. (𝓛.each s l).unused free i (let w = 𝓛.few_rules in omega arith)))

    each : (s : ℕ) → In s (up_from 1 (pred S)) → same_items (kernel_seen n x.words (s * 18)) k ≡ used-with s
    each s m =
        let (p, q) = (in_up 1 (pred S)).0 m in
        let l : s < S = let e = sub-one S in omega arith in
        let r : set_at (view_sets S n x) s ≡ set_seen n x s = set_read S n x s l in
        let in_use_now = ltb 0 (set_at (view_sets S n x) s).state in
        let kernel : (set_at (view_sets S n x) s).kernel ≡ kernel_seen n x.words (s * 18) = ap (λ p. p.kernel) r in
        iff_same (same_items (kernel_seen n x.words (s * 18)) k) (used-with s)
        (λ t. let e : kernel_seen n x.words (s * 18) ≡ k = (same-items _ k).0 t in
        let positive_state = subst (λ p. T (ltb 0 p.state)) (sym r) ((positive (state_of (cell x s 0))).1 (used s l e)) in
        (and_both in_use_now _).1 (positive_state, (same-items _ k).1 (kernel ∙ e)))
        (λ t. (same-items _ k).1 (sym kernel ∙ (same-items _ k).0 ((and_both in_use_now (same_items (set_at (view_sets S n x) s).kernel k)).0 t).1))
