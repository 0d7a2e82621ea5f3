-- `links::Links::begin` meets its contract. The root alone. Assumes nothing.
use Rattle.links.proofs.Root.{root_held}
use Rattle.links.proofs.Links.begin.Goals as goal

pub returns-clause-held : goal.returns-clause-held
returns-clause-held c =
    (root_held c.args.self.now.buf.now c.args.self.now.at.now _ _ c.requires.size_in_bounds.0 c.requires.size_in_bounds.1.0 c.requires.size_in_bounds.1.1 c.requires.le_sets.0 c.requires.le_sets.1 c.put_node.ensures c.put.ensures)
