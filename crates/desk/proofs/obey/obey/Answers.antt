-- `obey` meets its contract. Assumes nothing.
use mathlib.Core.Path.{refl}
use Rattle.desk.specs.Obeys.Obeys.{makes, adds, deletes, parses, collects, restarts, lists, skips}
use Rattle.desk.proofs.Obeyed.{as_told, none_told, kept}
use Rattle.desk.proofs.obey.obey.Goals as goal

pub returns-in-New : goal.returns-in-New
returns-in-New c = (tt, as_told c.args.symbols.now c.in-Some.is c.in-New.is (makes (c.new.ensures c.args.links.now)))

pub returns-in-Add : goal.returns-in-Add
returns-in-Add c = (c.add.ensures.0, as_told c.args.symbols.now c.in-Some.is c.in-Add.is (adds c.add.ensures.1 kept))

pub returns-in-Delete : goal.returns-in-Delete
returns-in-Delete c = (c.delete.ensures.0, as_told c.args.symbols.now c.in-Some.is c.in-Delete.is (deletes c.delete.ensures.1 kept))

pub returns-in-Parse : goal.returns-in-Parse
returns-in-Parse c = (c.parse.ensures.0, as_told c.args.symbols.now c.in-Some.is c.in-Parse.is (parses c.parse.ensures.1 refl))

pub returns-in-Collect : goal.returns-in-Collect
returns-in-Collect c = (c.collect.ensures.0, as_told c.args.symbols.now c.in-Some.is c.in-Collect.is (collects c.collect.ensures.1 kept))

pub returns-in-Restart : goal.returns-in-Restart
returns-in-Restart c = (c.restart.ensures.0, as_told c.args.symbols.now c.in-Some.is c.in-Restart.is (restarts c.restart.ensures.1 kept))

pub returns-in-List : goal.returns-in-List
returns-in-List c = (c.list.ensures.0, as_told c.args.symbols.now c.in-Some.is c.in-List.is (lists c.list.ensures.1 refl))

pub returns-in_default : goal.returns-in_default
returns-in_default c = (tt, none_told c.args.symbols.now c.in_default.is (skips refl refl))
