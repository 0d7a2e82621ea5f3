-- `saturation::reduce` meets its contract. The level holds the ends of the paths, and each is linked. Assumes nothing.
use native.Mathlib.Omega.{arith}
use Rattle.table.specs.Layout.{mem}
use Rattle.saturation.proofs.Table.{cells_in, rule-room, left_in}
use Rattle.saturation.proofs.Nodes.{set-low}
use Rattle.saturation.proofs.Works.{rule_works}
use Rattle.saturation.proofs.reduce.Goals as goal

pub len-requires : goal.len-requires
len-requires c =
    rule-room (mem c.args.rules.now c.args.cells.now c.args.words.now) c.requires.formed.0 _ _ (set-low c.requires.held.0 c.requires.formed.1 _ c.requires.n_lt_nodes.0) c.requires.n_lt_nodes.1.1.0 c.requires.n_lt_nodes.1.1.1

pub left-requires : goal.left-requires
left-requires c =
    rule-room (mem c.args.rules.now c.args.cells.now c.args.words.now) c.requires.formed.0 _ _ (set-low c.requires.held.0 c.requires.formed.1 _ c.requires.n_lt_nodes.0) c.requires.n_lt_nodes.1.1.0 c.requires.n_lt_nodes.1.1.1

pub link_level-requires-clause-le_x : goal.link_level-requires-clause-le_x
link_level-requires-clause-le_x c =
    let (some, few) = left_in (mem c.args.rules.now c.args.cells.now c.args.words.now) c.requires.formed.0 _ _ (set-low c.requires.held.0 c.requires.formed.1 _ c.requires.n_lt_nodes.0) c.requires.n_lt_nodes.1.1.0 c.requires.n_lt_nodes.1.1.1 in
    ((omega arith, omega arith), cells_in _ c.requires.formed.0 c.requires.formed.1)

pub returns-clause-works : goal.returns-clause-works
returns-clause-works c =
    rule_works c.requires.formed.0 c.requires.held.0 c.requires.formed.1 _ _ _ _ _ c.left.ensures c.len.ensures c.requires.n_lt_nodes.0 c.requires.n_lt_nodes.1.0 c.requires.n_lt_nodes.1.1.0
    c.requires.n_lt_nodes.1.1.1 c.ends-level.ensures.1 c.link_level.ensures.does
