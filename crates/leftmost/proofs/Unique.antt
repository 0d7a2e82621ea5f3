-- At most one list is the first of the fewest: a contract that names it fixes the buffer. Assumes nothing.
use mathlib.Core.Path.{◌≡◌, sym}
use mathlib.Core.Logic.{◌⊎◌, inl, inr}
use mathlib.Core.List.{List}
use Prim.Native.Nat.{ℕ}
use native.Mathlib.Omega.{arith}
use Rattle.theory.specs.Derivation.{Grammar}
use Rattle.leftmost.specs.Leftmost.{Before, First}
use Rattle.leftmost.specs.Within.{Spans, Best, FirstWithin}
use Rattle.leftmost.proofs.Order.{before-one_way}

-- two lists, neither of which comes after the other
same_either : {rs qs : List ℕ} → (rs ≡ qs) ⊎ Before rs qs → (qs ≡ rs) ⊎ Before qs rs → rs ≡ qs
same_either (inl e) d = e
same_either (inr b) (inl e) = sym e
same_either (inr b) (inr c) = absurd (before-one_way b c)

pub first-unique : {G : Grammar} {line rs qs : List ℕ} → First G line rs → First G line qs → rs ≡ qs
first-unique {rs = rs} {qs = qs} a b =
    let l = a.fewest.least qs b.fewest.leads in
    let m = b.fewest.least rs a.fewest.leads in
    same_either (a.first qs b.fewest.leads (omega arith)) (b.first rs a.fewest.leads (omega arith))

pub best-unique : {G : Grammar} {line : List ℕ} {S : Spans} {xs rs qs : List ℕ} {i j : ℕ} → Best G line S xs i j rs
    → Best G line S xs i j qs → rs ≡ qs
best-unique {rs = rs} {qs = qs} a b =
    let l = a.least qs b.spells in
    let m = b.least rs a.spells in
    same_either (a.first qs b.spells (omega arith)) (b.first rs a.spells (omega arith))

-- .. and within any spans
pub first-within-unique : {G : Grammar} {line : List ℕ} {S : Spans} {rs qs : List ℕ} → FirstWithin G line S rs → FirstWithin G line S qs
    → rs ≡ qs
first-within-unique a b = best-unique a b
