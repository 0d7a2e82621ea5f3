-- `levels::Level::put` meets its contract. There is room for a node that is not in the list. Assumes nothing.
use native.Mathlib.Omega.{arith}
use Rattle.laws.proofs.Choice.{tells_yes, tells_no}
use Rattle.levels.proofs.Sparse.{room, puts-there, puts-new}
use Rattle.levels.proofs.Level.put.Goals as goal

pub returns-then-has-clause-puts : goal.returns-then-has-clause-puts
returns-then-has-clause-puts c = λ nodes few l M. puts-there M (tells_yes _ c.has.ensures c.if-has.true)

pub put-requires : goal.put-requires
put-requires c = omega (arith, room c.requires.made.list _ c.requires.work_len.1.1 (tells_no _ c.has.ensures c.if-has.false))

pub put-requires-2 : goal.put-requires-2
put-requires-2 c = omega (arith, room c.requires.made.list _ c.requires.work_len.1.1 (tells_no _ c.has.ensures c.if-has.false))

pub returns-clause-puts : goal.returns-clause-puts
returns-clause-puts c =
    λ nodes few l M. puts-new M _ _ c.requires.work_len.0 c.requires.work_len.1.0 few l (tells_no _ c.has.ensures c.if-has.false) c.put.ensures c.put-2.ensures
