-- `expansion::try_expand` meets its contract. Assumes nothing.
use native.Mathlib.Omega.{arith}
use Rattle.expansion.proofs.Closed.{closed-words, closed-within, closed_countable}
use Rattle.table.proofs.Formed.{formed-rules}
use Rattle.expansion.proofs.Tried.{tried_not, growable, tried_grown}
use Rattle.expansion.proofs.try_expand.Goals as goal

pub closure_of-closure-requires : goal.closure_of-closure-requires
closure_of-closure-requires c =
    (formed-rules c.requires.formed, closed-words _ _ c.requires, closed-within _ _ c.requires)

pub symbols_after-symbols-requires : goal.symbols_after-symbols-requires
symbols_after-symbols-requires c = (formed-rules c.requires.formed, c.closure_of-closure.ensures.within)

pub missing-missing-requires-clause-countable : goal.missing-missing-requires-clause-countable
missing-missing-requires-clause-countable c = closed_countable _ _ _ c.requires c.closure_of-closure.ensures.within

pub returns-then-missing-free : goal.returns-then-missing-free
returns-then-missing-free c =
    tried_not _ _ _ c.requires c.closure_of-closure.ensures c.missing-missing.ensures c.sets_in.ensures c.free_sets-free.ensures (omega arith)

pub grow-requires : goal.grow-requires
grow-requires c =
    growable _ _ _ c.requires c.closure_of-closure.ensures c.missing-missing.ensures c.sets_in.ensures c.free_sets-free.ensures
    c.symbols_after-symbols.ensures (omega arith)

pub returns : goal.returns
returns c =
    tried_grown _ _ _ c.requires c.closure_of-closure.ensures c.missing-missing.ensures c.sets_in.ensures c.free_sets-free.ensures
    (omega arith) c.grow.ensures
