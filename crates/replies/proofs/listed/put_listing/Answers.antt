-- `put_listing` meets its contract. Assumes nothing.
use mathlib.Core.Path.{◌≡◌, ap, ◌∙◌}
use Prim.Native.Nat.{zero-le}
use native.Mathlib.Omega.{arith}
use Rattle.table.specs.Layout.{sets_in, mem, view}
use Rattle.text.proofs.Putting.{adds_then, adds_as}
use Rattle.listing.specs.Printed.{body}
use Rattle.listing.specs.Walk.{listed, used, contents_of}
use Rattle.listing.proofs.Seen.{contents-seen, listing-seen}
use Rattle.listing.proofs.Walks.{put-none, put-turn}
use Rattle.replies.proofs.listed.put_listing.Goals as goal

pub loop-s-init : goal.loop-s-init
loop-s-init c = (put-none (used c.args.cells.now) (body (view (mem c.args.rules.now c.args.cells.now c.args.words.now))) 0, omega arith)

pub loop-s-preserved : goal.loop-s-preserved
loop-s-preserved c = (
  put-turn (used c.args.cells.now) (body (view (mem c.args.rules.now c.args.cells.now c.args.words.now))) 0 c.loop-s.invariant.0 zero-le c.put_body.ensures.body,
  omega arith,
)

pub returns : goal.returns
returns c =
    let m = mem c.args.rules.now c.args.cells.now c.args.words.now in
    let e : c.loop-s.s ≡ sets_in c.args.rules.now = omega arith in
    let contents = adds_as (ap (contents_of c.args.cells.now) c.sets_in-sets.ensures ∙ contents-seen m) c.contents.ensures.line in
    let bodies = adds_as (ap (listed (used c.args.cells.now) (body (view m)) 0) e) c.loop-s.invariant.0 in
    adds_as (listing-seen m) (adds_then contents bodies)
