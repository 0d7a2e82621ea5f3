-- `put_parse` meets its contract: links and sets in use follow exactly where Parse got past its checks. Assumes nothing.
use Rattle.std.proofs.Common.{◌≡◌, ap, ◌∙◌, sym, [], ◌∷◌}
use Rattle.laws.specs.Choice.{when}
use Rattle.symbols.specs.Answer.{Answer, refusal_number, number_of}
use Rattle.text.proofs.Putting.{adds_as}
use Rattle.replies.specs.Printed.{line_of, past_checks}
use Rattle.replies.proofs.Lines.{parse_shown, parse_verdict, parse-refused}
use Rattle.replies.proofs.answer.put_parse.Goals as goal
use Rattle.replies.proofs.answer.put_parse.Goals.{then-verdict, else-verdict}

pub returns-after-verdict : goal.returns-after-verdict
unfolding when
returns-after-verdict c =
    rw c.in-Ok.is
    (elim c.if-verdict.branch [
      | then-verdict w ↦ adds_as (parse_verdict c.in-Ok.verdict c.args.sets (w.answer-is ∙ ap (λ b. number_of (when b Answer.Accept Answer.Reject)) (sym w.if-verdict.true))) c.put_line.ensures
      | else-verdict w ↦ adds_as (parse_verdict c.in-Ok.verdict c.args.sets (w.answer-is ∙ ap (λ b. number_of (when b Answer.Accept Answer.Reject)) (sym w.if-verdict.false))) c.put_line.ensures
    ])

pub returns-in-Err : goal.returns-in-Err
returns-in-Err c =
    rw c.in-Err.is
    (adds_as (ap (λ n. line_of n (0 ∷ c.args.sets ∷ [])) (c.from.ensures ∙ c.number.ensures) ∙ parse_shown _ 0 c.args.sets c.is_past_checks.ensures c.if-is_past_checks.true) c.put_line-in-Err.ensures)

pub returns-in-Err-2 : goal.returns-in-Err-2
returns-in-Err-2 c =
    let one : c.in-Err.refusal ≡ c.in-Err-2.refusal = cc in
    rw c.in-Err-2.is
    (adds_as (parse-refused _ 0 c.args.sets (c.is_past_checks.ensures ∙ ap (λ r. past_checks (refusal_number r)) one) c.if-is_past_checks.false) c.put_refusal.ensures)
