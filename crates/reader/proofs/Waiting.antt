-- What waits in the output: after no text, after one, and after one and another. Assumes nothing.
use mathlib.Core.Path.{◌≡◌, sym, ap, ◌∙◌}
use mathlib.Core.List.{List, [], ◌++◌, append_assoc, append-nil}
use Prim.Native.Nat.{ℕ, ◌+◌, ◌≤◌}
use native.Mathlib.Decide.{ℕ_discrete, dec_le}
use native.Mathlib.Omega.{arith}
use lib.ListN.{length, take, length-take, length-append}
use Rattle.text.specs.Puts.{Puts}
use Rattle.reader.specs.Output.{Ready, Waits}

pub waits-none : (out : List ℕ) (used : ℕ) → used ≤ length out → Waits out used [] out used
waits-none out used h = record { inside = h; gone = []; in_order = sym (append-nil (take used out)); full = λ z. absurd (omega arith) }

-- a text that is put where the output is ready for it waits behind what waited, or alone, and then what waited is gone
pub puts_wait : {before after text : List ℕ} {used start past : ℕ} → Ready (length before) used start → Puts before start after past text → past ≤ length before
    → used ≤ length before → Waits before used text after past
puts_wait {before} {after} {text} {used} {start} {past} r p inside h =
    let from : (k : ℕ) → start ≡ k → take past after ≡ take k before ++ text = λ k e. p.so_far ∙ ap (λ i. take i before ++ text) e in
    elim (dec_le (used + 1056768) (length before)) [
      | yes w ↦ record { inside = inside; gone = []; in_order = from used (r.behind w); full = λ z. absurd (omega arith) }
      | no w ↦ record {
        inside = inside;
        gone = take used before;
        in_order = ap (λ t. take used before ++ t) (from 0 (r.front (omega arith)));
        full = λ z. omega (arith, length-take used before);
      }
    ]

-- one text after another waits as one
pub waits-then : {a b c : List ℕ} {i j k : ℕ} {x y : List ℕ} → Waits a i x b j → Waits b j y c k → length b ≡ length a → Waits a i (x ++ y) c k
waits-then {a} {b} {c} {i} {j} {k} {x} {y} p q same =
    let both = length-append p.gone q.gone in
    record {
      inside = omega arith;
      gone = p.gone ++ q.gone;
      in_order = append_assoc p.gone q.gone (take k c) ∙ ap (λ t. p.gone ++ t) q.in_order ∙ sym (append_assoc p.gone (take j b) y)
          ∙ ap (λ t. t ++ y) p.in_order ∙ append_assoc (take i a) x y;
      full = λ z. elim (ℕ_discrete (length p.gone) 0) [
        | yes e ↦ let f = q.full (omega arith) in omega arith
        | no d ↦ let f = p.full (omega arith) in omega arith
      ];
    }
