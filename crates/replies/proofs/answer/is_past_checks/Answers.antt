-- `is_past_checks` meets its contract: of the refusals it is NO-SETS and NO-LINKS. Assumes nothing.
use mathlib.Core.Logic.{inl, inr}
use Rattle.replies.proofs.Lines.{past_these, past_no_other}
use Rattle.replies.proofs.answer.is_past_checks.Goals as goal

pub returns-in-NoSets : goal.returns-in-NoSets
returns-in-NoSets c = past_these _ (inl c.in-NoSets.is)

pub returns-in-NoLinks : goal.returns-in-NoLinks
returns-in-NoLinks c = past_these _ (inr c.in-NoLinks.is)

pub returns-in_default : goal.returns-in_default
returns-in_default c = past_no_other _ c.in_default.not-NoSets c.in_default.not-NoLinks
