-- `lookup::find` meets its contract. Assumes nothing.
use mathlib.Core.Path.{ap, ◌∙◌}
use Prim.Native.Nat.{◌+◌, ◌*◌}
use Rattle.kernels.specs.Kernel.{find}
use Rattle.lookup.proofs.SameKernel.{find-is}
use Rattle.lookup.proofs.find.Goals as goal

pub returns : goal.returns
returns c =
    c.find.ensures ∙ ap (λ S. find c.args.words.now S c.args.key.now 0) c.sets_in.ensures
    ∙ find-is _ _ _ _ c.requires.few_rules
    (λ s j h. (c.type_inv.words (s * 18 + j)).fits) (λ j h. (c.type_inv.key (0 + j)).fits) c.requires.kernels.each c.requires.key_within
