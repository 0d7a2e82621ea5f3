-- `links::Links::add_link` meets its contract. One law of proofs/Added.antt for each way out. Assumes nothing.
use mathlib.Core.Path.{refl}
use native.Mathlib.Omega.{arith}
use Rattle.laws.proofs.Choice.{tells_yes, tells_no}
use Rattle.links.proofs.Added.{adds-by, put-after, found-there, found-full, found-linked, free-full, free-linked}
use Rattle.links.proofs.Links.add_link.Goals as goal
use Rattle.links.proofs.Links.add_link.Goals.{in-Some+else-has_link+else-links-self, in-None+else-links-self-2}

pub returns-then-has_link-clause-adds : goal.returns-then-has_link-clause-adds
returns-then-has_link-clause-adds c =
    let N = c.in-Some.ensures in found-there _ c.requires.held _ _ c.requires.m_lt_nodes.0 _ N.0 N.1.0 N.1.1 (tells_yes _ c.has_link.ensures c.if-has_link.true)

pub returns-then-links-self-clause-adds : goal.returns-then-links-self-clause-adds
returns-then-links-self-clause-adds c =
    let N = c.in-Some.ensures in found-full _ c.requires.held _ _ c.requires.m_lt_nodes.0 _ N.0 N.1.0 N.1.1 (tells_no _ c.has_link.ensures c.if-has_link.false) c.if-links-self.true

pub returns-then-links-self-2-clause-adds : goal.returns-then-links-self-2-clause-adds
returns-then-links-self-2-clause-adds c = free-full _ c.requires.held _ _ c.requires.m_lt_nodes.0 c.in-None.ensures c.if-links-self-2.true

pub returns-clause-adds : goal.returns-clause-adds
returns-clause-adds c =
    elim c.match-node_of.branch [
      | in-Some+else-has_link+else-links-self w ↦
          rw w.self-is (let N = w.in-Some.ensures in
          adds-by w.put_link.ensures refl (found-linked _ c.requires.held _ _ c.requires.m_lt_nodes.0 _ N.0 N.1.0 N.1.1
          (tells_no _ w.has_link.ensures w.if-has_link.false) (omega (arith, c.requires.held.core.fits))))
      | in-None+else-links-self-2 w ↦
          rw w.self-is (adds-by (put-after _ _ _ w.put_link-in-None.ensures w.put_node.ensures) w.put.ensures
          (free-linked _ c.requires.held _ _ c.requires.m_lt_nodes.0 w.in-None.ensures c.requires.m_lt_nodes.1
          (omega (arith, c.requires.held.core.fits))))
    ]
