-- A line has one meaning, and a long line none. Assumes nothing.
use mathlib.Core.Path.{◌≡◌, refl, sym, ap, ap₂, ◌∙◌}
use mathlib.Core.Logic.{◌⊎◌, inl, inr}
use mathlib.Core.List.Memᴰ.{head as here}
use mathlib.Core.List.Memᴰ.{tail as there}
use mathlib.Core.List.{List, [], ◌∷◌, ◌++◌, head-eq_of_cons-eq, tail-eq_of_cons-eq, Memᴰ as In}
use Prim.Native.Nat.{ℕ, ◌*◌, ◌≤◌, ◌<◌}
use native.Mathlib.Omega.{arith}
use lib.ListN.{length, get_or, drop, length-append, length-drop}
use Rattle.text.specs.Text.{NEWLINE, decimal, spaced}
use Rattle.script.specs.Written.{AtLineEnd, Numbered, Written}
use Rattle.script.specs.Command.{Meaning, meaning_of, Means}
use Rattle.script.specs.Command.Meaning.{malformed}
use Rattle.script.specs.Command.Means.{written, not_written}
use Rattle.text.proofs.Decimal.{decimal-length}
use Rattle.script.proofs.Spaced.{numbered-one}

-- the newline, or none, is at the line's end, and nothing follows it
pub newline-ends : {end : List ℕ} → (end ≡ []) ⊎ (end ≡ NEWLINE ∷ []) → AtLineEnd end × (drop 1 end ≡ [])
newline-ends (inl e) = (ap (λ t. get_or t 0 NEWLINE) e, ap (drop 1) e)
newline-ends (inr e) = (ap (λ t. get_or t 0 NEWLINE) e, ap (drop 1) e)

pub ends-newline : (end : List ℕ) → AtLineEnd end → drop 1 end ≡ [] → (end ≡ []) ⊎ (end ≡ NEWLINE ∷ [])
ends-newline [] e f = inl refl
ends-newline (b ∷ end) e f = inr (ap₂ (λ x l. x ∷ l) e f)

-- the numbers of a written line, in the text after its letter
pub written-numbers : {line text : List ℕ} {b : ℕ} {ns : List ℕ} (w : Written line b ns) → text ≡ spaced ns ++ w.end → Numbered text ns w.end
written-numbers w e = record { is = e; small = w.small; ends = (newline-ends w.newline).0 }

pub written_one : {line : List ℕ} {b c : ℕ} {ms ns : List ℕ} → Written line b ms → Written line c ns → (b ≡ c) × (ms ≡ ns)
written_one {b = b} {c} {ms} {ns} v w =
    let e : b ∷ (spaced ms ++ v.end) ≡ c ∷ (spaced ns ++ w.end) = sym v.is ∙ w.is in
    (head-eq_of_cons-eq e, (numbered-one ms ns (written-numbers v refl) (written-numbers w (tail-eq_of_cons-eq e))).0)

-- no second meaning fits a line
pub means-one : {line : List ℕ} {m n : Meaning} → Means line m → Means line n → m ≡ n
means-one (written v) (written w) = let (e, f) = written_one v w in ap₂ meaning_of e f
means-one (written v) (not_written g) = absurd (g _ _ v)
means-one (not_written f) (written w) = absurd (f _ _ w)
means-one (not_written f) (not_written g) = refl

-- ---- the longest line: a letter, 256 numbers of four digits and a newline

spaced-length : (ns : List ℕ) → ((n : ℕ) → In n ns → n ≤ 9999) → length (spaced ns) ≤ length ns * 5
unfolding spaced
spaced-length [] h = omega arith
spaced-length (n ∷ ns) h =
    omega (arith, length-append (decimal n) (spaced ns), decimal-length n (h n (here refl)), spaced-length ns (λ k m. h k (there m)))

-- so a reader may drop what stands beyond a line's first 1,282 bytes, if it remembers that there was more
pub long_malformed : (line : List ℕ) → 1282 < length line → Means line malformed
long_malformed line l = not_written (λ c ns w.
    let e : length (drop 1 w.end) ≡ 0 = ap length (newline-ends w.newline).1 in
    omega (arith, ap length w.is, length-append (spaced ns) w.end, length-drop 1 w.end, spaced-length ns w.small, w.few))
