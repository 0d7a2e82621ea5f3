-- `closure::rounds::add_rules` meets its contract. The invariant: the rules below r are added. Assumes nothing.
use mathlib.Core.Path.{◌≡◌}
use Rattle.laws.specs.Loops.{up_to}
use Rattle.table.specs.Layout.{view_rules}
use Rattle.closure.specs.UnderWay.{put_rule}
use Rattle.closure.proofs.rounds.add_rules.Given as goal

abbrev pub invariant-loop-r : goal.invariant-loop-r
invariant-loop-r l = l.closure ≡ up_to l.r (put_rule (view_rules l.rules) l.b.0) l.initial.closure
