-- `closure::rounds::meet` meets its contract. An item with no non-terminal after its dot, or one that was met, adds nothing;
-- another adds its rules. Assumes nothing.
use mathlib.Core.Path.{◌≡◌, subst}
use mathlib.Core.Bool.{Bool, true}
use lib.Dec.{T}
use Rattle.closure.proofs.UnderWay.{met_room, grew_none, grew_new, met_new}
use Rattle.closure.proofs.rounds.meet.Goals as goal

yes : {b : Bool} → true ≡ b → T b
yes e = subst T e tt

pub has-requires : goal.has-requires
has-requires c = met_room c.requires.1 _ (yes c.if-not-is_nonterminal.ensures)

pub returns-then-not-is_nonterminal-clause-grew : goal.returns-then-not-is_nonterminal-clause-grew
returns-then-not-is_nonterminal-clause-grew c = grew_none c.requires.1

pub put-requires : goal.put-requires
put-requires c = met_room c.requires.1 _ (yes c.if-not-is_nonterminal.ensures)

pub returns-clause-grew : goal.returns-clause-grew
returns-clause-grew c =
    let (formed, under_way, inside, there) = c.requires in
    grew_new _ _ _ formed under_way _ inside there _ c.after-b.ensures (yes c.if-not-is_nonterminal.ensures) c.add_rules.ensures c.put.ensures

pub returns-clause-met : goal.returns-clause-met
returns-clause-met c =
    let (formed, under_way, inside, there) = c.requires in
    met_new _ _ _ formed under_way _ inside there _ c.after-b.ensures (yes c.if-not-is_nonterminal.ensures) c.put.ensures
