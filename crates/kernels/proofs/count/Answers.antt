-- `kernels::count` meets its contract: the sum is how many items the first k words have. Assumes nothing.
use Rattle.std.proofs.Common.{◌≡◌, refl, ap, ◌∙◌, ◌+◌, ◌*◌, get_or, arith}
use Rattle.laws.specs.Loops.{up_to}
use Rattle.kernels.specs.Bit.{bit}
use Rattle.kernels.specs.Walk.{how_many}
use Rattle.kernels.specs.Kernel.{has, items}
use Rattle.kernels.proofs.Bit.{bit_lt}
use Rattle.kernels.proofs.Walk.{many_le}
use Rattle.kernels.proofs.Kernel.{has_lt, items_more}
use Rattle.kernels.proofs.count.Goals as goal

pub loop-k-init : goal.loop-k-init
unfolding how_many up_to
loop-k-init c = refl

pub overflow_add-sum : goal.overflow_add-sum
overflow_add-sum c =
    let a = c.args in
    let k = c.loop-k.k in
    let w = get_or a.words.now (a.at + k) 0 in
    let h = has a.words.now a.at in
    omega (arith, c.ones-sum.ensures, many_le 64 (bit w) (bit_lt w), many_le (k * 64) h (has_lt a.words.now a.at))

pub loop-k-preserved : goal.loop-k-preserved
loop-k-preserved c = omega (arith, c.ones-sum.ensures, items_more c.args.words.now c.args.at c.loop-k.k)

pub returns : goal.returns
unfolding items
returns c =
    let e : c.loop-k.k ≡ 16 = omega arith in
    c.loop-k.invariant ∙ ap (λ k. how_many (k * 64) (has c.args.words.now c.args.at)) e
