-- `put_refusal` meets its contract. Assumes nothing.
use Rattle.std.proofs.Common.{ap, ◌∙◌, [], arith}
use Rattle.text.proofs.Putting.{adds_as}
use Rattle.replies.specs.Printed.{line_of, answer_line}
use Rattle.replies.proofs.answer.put_refusal.Goals as goal

pub put_line-requires : goal.put_line-requires
put_line-requires c = record { fits = (omega arith, λ k l. omega arith); room = omega arith }

pub returns : goal.returns
unfolding answer_line
returns c = adds_as (ap (λ n. line_of n []) (c.from.ensures ∙ c.number.ensures)) c.put_line.ensures
