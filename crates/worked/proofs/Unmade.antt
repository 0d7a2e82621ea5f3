-- Add and Delete need not keep the form of a table that no call made: each table of specs/Unmade.antt is in form, the call on it is
-- done, and what it leaves is not in form, so that the next call answers 11. And no sequence of calls makes such a table. The tests
-- are computed by the checker. Assumes nothing.
use mathlib.Core.Path.{◌≡◌, refl}
use mathlib.Core.Bool.{not}
use mathlib.Core.List.{List, Memᴰ as In}
use lib.Dec.{T, eqb, eqb→eq, T_not}
use Rattle.laws.specs.Choice.{when, ◌and◌, ◌or◌}
use Rattle.laws.specs.Loops.{all_below}
use Rattle.laws.specs.Lists.{allIn}
use Rattle.laws.proofs.Lists.{all_in}
use Rattle.symbols.specs.Symbol.{terminal, nonterminal, on_right, all_on_right, rule_answer}
use Rattle.theory.specs.Table.{Table}
use Rattle.theory.specs.Form.{InForm, in_form}
use Rattle.theory.specs.Calls.{collect}
use Rattle.theory.specs.Made.{Rule, Made, called}
use Rattle.theory.specs.Made.Made.{after}
use Rattle.theory.proofs.Form.{in_form_lem}
use Rattle.theory.proofs.History.{made-in_form}
use Rattle.worked.specs.Unmade.{Unmade, unmade}

-- what the call leaves
abbrev left : Unmade → Table
left s = (called s.call s.table).table

-- ---- the computed tests

before : T (allIn (λ s. in_form s.table) unmade)
unfolding when ◌and◌ ◌or◌ all_below terminal nonterminal on_right all_on_right
before = tt

done : T (allIn (λ s. eqb (called s.call s.table).answer 0) unmade)
unfolding when ◌and◌ ◌or◌ all_below terminal nonterminal on_right all_on_right rule_answer
done = tt

then : T (allIn (λ s. not (in_form (left s))) unmade)
unfolding when ◌and◌ ◌or◌ all_below terminal nonterminal on_right all_on_right rule_answer
then = tt

next : T (allIn (λ s. eqb (collect (left s)).answer 11) unmade)
unfolding when ◌and◌ ◌or◌ all_below terminal nonterminal on_right all_on_right rule_answer
next = tt

-- ---- what they say

module _ (s : Unmade) (m : In s unmade) where
  pub in_form-before : InForm s.table
  in_form-before = (in_form_lem s.table).0 ((all_in (λ s. in_form s.table) unmade).0 before s m)

  pub call-done : (called s.call s.table).answer ≡ 0
  call-done = eqb→eq _ 0 ((all_in (λ s. eqb (called s.call s.table).answer 0) unmade).0 done s m)

  pub out_of_form-after : InForm (called s.call s.table).table → ⊥
  out_of_form-after f = T_not (in_form (left s)) ((all_in (λ s. not (in_form (left s))) unmade).0 then s m) ((in_form_lem (left s)).1 f)

  pub next-answers_11 : (collect (called s.call s.table).table).answer ≡ 11
  next-answers_11 = eqb→eq _ 11 ((all_in (λ s. eqb (collect (left s)).answer 11) unmade).0 next s m)

  pub not_made : (R : List Rule) → Made s.table R → ⊥
  not_made R h = out_of_form-after (made-in_form (after s.call h refl refl))
