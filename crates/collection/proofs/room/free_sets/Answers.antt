-- `collection::room::free_sets` meets its contract. Assumes nothing.
use Rattle.std.proofs.Common.{refl, sym, ap, subst, arith}
use borrow.Author.Tests.{eq-eqb, ne_eqb}
use Rattle.collection.proofs.Counted.{FreeBelow, one, free_none, free_more, free_end, free_fits}
use Rattle.collection.proofs.room.free_sets.Goals as goal
use Rattle.collection.proofs.room.free_sets.Goals.{then-cells-s-eq-FREE, else-cells-s-eq-FREE}

pub loop-s-init : goal.loop-s-init
loop-s-init c = free_none

pub overflow_add-free : goal.overflow_add-free
overflow_add-free c =
    omega (arith, free_fits (free_end refl (free_more c.loop-s.invariant (sym (ap one (eq-eqb _ _ c.if-cells-s-eq-FREE.true))))))

pub loop-s-preserved : goal.loop-s-preserved
loop-s-preserved c = elim c.if-cells-s-eq-FREE.branch [
  | then-cells-s-eq-FREE w ↦ rw w.free-is (free_more c.loop-s.invariant (sym (ap one (eq-eqb _ _ w.if-cells-s-eq-FREE.true))))
  | else-cells-s-eq-FREE w ↦
      rw w.free-is (subst (FreeBelow _ _) (omega arith) (free_more c.loop-s.invariant (sym (ap one (ne_eqb _ _ w.if-cells-s-eq-FREE.false)))))
]

pub returns : goal.returns
returns c = free_end (omega arith) c.loop-s.invariant
