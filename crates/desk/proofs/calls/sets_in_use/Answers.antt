-- `sets_in_use` meets its contract. Assumes nothing.
use mathlib.Core.Path.{◌≡◌, sym}
use mathlib.Core.List.{List, []}
use Prim.Native.Nat.{ℕ}
use native.Mathlib.Omega.{arith}
use Rattle.theory.specs.Table.{in_use}
use Rattle.table.specs.Layout.{mem, view}
use Rattle.desk.proofs.InUse.{use_small}
use Rattle.desk.proofs.calls.sets_in_use.Goals as goal

pub returns : goal.returns
returns c =
    let exact : (ws : List ℕ) → c.in_use.result ≡ in_use (view (mem c.args.rules.now c.args.cells.now ws)) =
    λ ws. c.in_use.ensures.exact c.args.rules.now ws (sym c.sets_in-sets.ensures) in
    record { few = omega (arith, exact [], use_small (mem c.args.rules.now c.args.cells.now []), c.type_inv.rules 0); exact = λ ws l h. exact ws }
