-- What is kept of a text is moved to the front. Assumes nothing.
use mathlib.Core.Path.{◌≡◌, refl, sym, ap, ◌∙◌}
use mathlib.Core.List.{List, [], ◌∷◌, ◌++◌}
use Prim.Native.Nat.{ℕ, ◌+◌, ◌-◌, ◌≤◌, ◌<◌}
use native.Mathlib.Decide.{dec_le}
use native.Mathlib.Numerals.{add-one}
use native.Mathlib.Omega.{arith}
use lib.ListN.{length, get_or, set, take, drop, length-take, length-drop, length-set}
use lib.Seq.{take_all, take-suc, take-suc-set, drop-set-lt, drop-drop, get_or-drop}
use Rattle.reader.specs.Lines.{KeptRest}
use Rattle.reader.proofs.Running.{part}

-- what was moved is what stood there, cut
pub kept-is : {before after : List ℕ} {at end r : ℕ} → KeptRest before at end after r → at ≤ end → end ≤ length before
    → take r after ≡ take 1283 (drop at (take end before))
kept-is {before} {after} {at} {end} {r} k h fits =
    let left = drop at (take end before) in
    let size : length left ≡ end - at = omega (arith, length-drop at (take end before), length-take end before) in
    let moved : take r after ≡ take r left = k.front ∙ part before end at r (elim (dec_le (end - at) 1283) [
      | yes s ↦ omega (arith, k.all s)
      | no s ↦ omega (arith, k.few)
    ]) in
    moved ∙ elim (dec_le (end - at) 1283) [
      | yes s ↦ take_all r left (omega (arith, k.all s)) ∙ sym (take_all 1283 left (omega arith))
      | no s ↦ ap (λ i. take i left) (k.cut (omega arith))
    ]
