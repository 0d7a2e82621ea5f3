-- The right side that is lent to Add and Delete is the n symbols after the first. Assumes nothing.
use mathlib.Core.Path.{◌≡◌, subst}
use mathlib.Core.List.{List}
use Prim.Native.Nat.{ℕ, ◌+◌, ◌-◌}
use native.Mathlib.Omega.{arith}
use lib.ListN.{get_or, take, drop}
use Rattle.theory.specs.Table.{Table}
use Rattle.theory.specs.Parse.{Outcome}
use Rattle.table.specs.Layout.{Mem}
use Rattle.table.specs.Becomes.{Promised}

pub right_is : (ss : List ℕ) (n : ℕ) (call : Table → ℕ → List ℕ → Outcome) {m m' : Mem} {a k : ℕ}
    → Promised (λ t. call t (get_or ss 0 0) (take (n + 1 - 1) (drop 1 ss))) m m' a k → Promised (λ t. call t (get_or ss 0 0) (take n (drop 1 ss))) m m' a k
right_is ss n call {m} {m'} {a} {k} p =
    let e : n + 1 - 1 ≡ n = omega arith in
    subst (λ i. Promised (λ t. call t (get_or ss 0 0) (take i (drop 1 ss))) m m' a k) e p
