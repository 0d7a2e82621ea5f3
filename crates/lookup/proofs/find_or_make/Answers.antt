-- `lookup::find_or_make` meets its contract. Assumes nothing.
use Prim.Native.Nat.{◌+◌}
use native.Mathlib.Omega.{arith}
use Rattle.lookup.proofs.Found.{asked_sought, lowest-inside, answer-old, answer-made}
use Rattle.lookup.proofs.find_or_make.Goals as goal

pub find-old-requires : goal.find-old-requires
find-old-requires c = asked_sought c.requires

pub returns-then-old-ne0 : goal.returns-then-old-ne0
returns-then-old-ne0 c =
    answer-old _ _ _ (λ j h. (c.type_inv.key (0 + j)).fits) c.requires _ c.find-old.ensures c.if-old-ne0.true

pub make-requires : goal.make-requires
make-requires c =
    let inside = lowest-inside c.sets_in.ensures c.lowest_free-t.ensures c.requires.some_sets in
    omega (arith, inside, c.requires.few_sets, c.requires.laid.cells, c.requires.laid.words, c.requires.key_long)

pub returns : goal.returns
returns c =
    answer-made _ _ _ (λ j h. (c.type_inv.key (0 + j)).fits) c.requires
    c.find-old.ensures c.if-old-ne0.false c.sets_in.ensures c.lowest_free-t.ensures c.make.ensures
