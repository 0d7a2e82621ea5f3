-- `kernels::copy` meets its contract: the part is a copy of the other. Assumes nothing.
use Rattle.std.proofs.Common.{ap, ◌∙◌, length, get_or, arith, rules}
use Rattle.std.proofs.lemmas.List.{places}
use Rattle.kernels.proofs.Parts.{part_written}
use Rattle.kernels.proofs.copy.Goals as goal

pub returns : goal.returns
returns c =
    let same = c.copy_from_slice.ensures.after in
    part_written _ _ _ _ _ _ (omega arith) c.requires.0 (ap length same ∙ search (rules, places)) (λ j l. ap (λ ys. get_or ys j 0) same ∙ search (rules, places))
