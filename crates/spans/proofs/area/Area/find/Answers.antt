use Rattle.std.proofs.Common.{Ok, Err}
use Rattle.spans.proofs.Placed.{ends_up, searched_for}
use Rattle.spans.proofs.area.Area.find.Goals as goal

pub slice_bounds-ends_here-count : goal.slice_bounds-ends_here-count
slice_bounds-ends_here-count c =
    ends_up c.args.self.now.numbers.now c.args.self.now.count c.args.x c.args.i c.args.j c.requires.ordered_at c.first-from.ensures c.first.ensures

pub returns-in-Ok : goal.returns-in-Ok
returns-in-Ok c =
    searched_for c.args.self.now.numbers.now c.args.self.now.count c.args.x c.args.i c.args.j c.requires.ordered_at c.first-from.ensures c.first.ensures
    c.requires.x_bound c.key_of-key.ensures (Ok c.in-Ok.e) c.in-Ok.ensures.position

pub returns-in-Err : goal.returns-in-Err
returns-in-Err c =
    searched_for c.args.self.now.numbers.now c.args.self.now.count c.args.x c.args.i c.args.j c.requires.ordered_at c.first-from.ensures c.first.ensures
    c.requires.x_bound c.key_of-key.ensures (Err c.in-Err.field-0) c.in-Err.ensures.position

pub slice_bounds-ends_here-start : goal.slice_bounds-ends_here-start
slice_bounds-ends_here-start c =
    ends_up c.args.self.now.numbers.now c.args.self.now.count c.args.x c.args.i c.args.j c.requires.ordered_at c.first-from.ensures c.first.ensures
