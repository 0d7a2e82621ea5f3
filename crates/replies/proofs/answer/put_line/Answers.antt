-- `put_line` meets its contract: what is put one after the other is the line of the numbers. Assumes nothing.
use native.Mathlib.Omega.{arith}
use mathlib.Core.Path.{◌≡◌, ap, ◌∙◌}
use lib.ListN.{take, get_or}
use Rattle.std.proofs.Math.Seq.{take-length}
use Rattle.text.specs.Text.{spaced}
use Rattle.text.proofs.Decimal.{decimal-length}
use Rattle.text.proofs.Putting.{adds_none, adds_then, adds_as}
use Rattle.replies.specs.Printed.{line_of}
use Rattle.replies.proofs.Lines.{one_more}
use Rattle.replies.proofs.answer.put_line.Goals as goal

pub loop-n-init : goal.loop-n-init
unfolding spaced
loop-n-init c = (adds_none _, omega arith)

pub put_spaced-requires : goal.put_spaced-requires
put_spaced-requires c = (c.requires.fits.1 c.loop-n.n-index (omega arith), omega (arith, decimal-length c.args.first c.requires.fits.0))

pub loop-n-preserved : goal.loop-n-preserved
loop-n-preserved c = (
  one_more c.args.more.now (omega arith) c.loop-n.invariant.0 c.put_spaced.ensures,
  omega (arith, decimal-length (get_or c.args.more.now c.loop-n.n-index 0) (c.requires.fits.1 c.loop-n.n-index (omega arith))),
)

pub put_byte-requires : goal.put_byte-requires
put_byte-requires c = omega (arith, decimal-length c.args.first c.requires.fits.0)

pub returns : goal.returns
unfolding line_of
returns c =
    let all : take c.loop-n.n-index c.args.more.now ≡ c.args.more.now = ap (λ k. take k c.args.more.now) (omega arith) ∙ take-length c.args.more.now in
    adds_then c.put_number.ensures (adds_then (adds_as (ap spaced all) c.loop-n.invariant.0) c.put_byte.ensures)
