-- What is seen of a set is ascending: its kernel, its reductions, and the symbols of its transitions. Assumes nothing.
use mathlib.Core.Path.{◌≡◌, refl, sym, ap, subst}
use mathlib.Core.Bool.{not}
use mathlib.Core.List.{List, [], ◌∷◌, map}
use Prim.Native.Nat.{ℕ, ◌+◌, ◌*◌}
use lib.Dec.{eqb}
use Rattle.laws.specs.Lists.{someIn, keep, up_from}
use Rattle.laws.proofs.Chosen.{kept-numbers}
use Rattle.kernels.specs.Kernel.{holds}
use Rattle.theory.specs.Table.{has_item, all_items}
use Rattle.theory.specs.Form.{symbols_of}
use Rattle.theory.proofs.Items.{kept_ascends}
use Rattle.table.specs.Layout.{Sets, cell, transition, kernel_seen, transitions_seen, reductions_seen, set_seen}

pub kernel_ascends : (n : ℕ) (ws : List ℕ) (at : ℕ) → kernel_seen n ws at ≡ keep (has_item (kernel_seen n ws at)) (all_items n)
unfolding kernel_seen
kernel_ascends n ws at = kept_ascends n _

pub reductions_ascend : (n : ℕ) (x : Sets) (s : ℕ) → reductions_seen n x s ≡ keep (λ r. someIn (eqb r) (reductions_seen n x s)) (up_from 0 n)
unfolding reductions_seen
reductions_ascend n x s = kept-numbers (λ r. holds x.words (s * 18) (1024 + r)) 0 n

-- "at most one target for each symbol"
pub symbols_ascend : (n : ℕ) (x : Sets) (s : ℕ) → symbols_of (set_seen n x s) ≡ keep (λ y. someIn (eqb y) (symbols_of (set_seen n x s))) (up_from 1 127)
unfolding transitions_seen
symbols_ascend n x s =
    subst (λ l. l ≡ keep (λ y. someIn (eqb y) l) (up_from 1 127)) (sym (on (keep (λ k. not (eqb (cell x s k) 0)) (up_from 1 127))))
    (kept-numbers (λ k. not (eqb (cell x s k) 0)) 1 127)
  where
    on : (l : List ℕ) → map (λ a. a.on) (map (λ k. transition k (cell x s k)) l) ≡ l
    on [] = refl
    on (k ∷ l) = ap (λ r. k ∷ r) (on l)
