-- A text's lines run one after the other: a turn of the loop, and its end. Assumes nothing.
use mathlib.Core.Path.{◌≡◌, sym, ap, ◌∙◌, subst}
use mathlib.Core.List.{List, [], ◌∷◌, ◌++◌, append-nil, Memᴰ as In}
use Prim.Native.Nat.{ℕ, zero, suc, ◌+◌, ◌-◌, ◌≤◌, ◌<◌}
use native.Mathlib.Omega.{arith}
use lib.ListN.{length, take, drop, length-take, length-drop, take-append-drop}
use lib.Seq.{take_all, take-nil, take-take, take-add}
use Rattle.text.specs.Newline.{index_of, slice}
use Rattle.text.specs.Text.{NEWLINE}
use Rattle.desk.specs.Obeys.{State, Answers}
use Rattle.desk.specs.Script.{SameSizes, Unbroken, Ran, Last}
use Rattle.desk.specs.Script.Ran.{rest, line}
use Rattle.desk.specs.Script.Last.{nothing, unended}
use Rattle.desk.proofs.Scripts.{ran_then, unbroken_nil}
use Rattle.reader.specs.Lines.{RanLine, RanText, RanLines}
use Rattle.reader.proofs.Newlines.{First, first}
use Rattle.reader.proofs.Waiting.{puts_wait, waits-then}

drop-take : (m n : ℕ) (l : List ℕ) → drop m (take n l) ≡ take (n - m) (drop m l)
drop-take zero n l = let e : n - 0 ≡ n = omega arith in sym (ap (λ i. take i l) e)
drop-take (suc m) zero l = let e : 0 - suc m ≡ 0 = omega arith in sym (ap (λ i. take i (drop (suc m) l)) e)
drop-take (suc m) (suc n) [] = sym (take-nil (suc n - suc m))
drop-take (suc m) (suc n) (x ∷ l) = let e : suc n - suc m ≡ n - m = omega arith in drop-take m n l ∙ sym (ap (λ i. take i (drop m l)) e)

-- the first n bytes are searched from `at` on: a newline stands k bytes further, or none if k bytes are all
record Searched (text : List ℕ) (n at end k : ℕ) : Type 0 where
  first : First NEWLINE (drop at (take n text)) k
  size : length (drop at (take n text)) ≡ n - at
  ends : end ≡ at + k

search_is : (text : List ℕ) (n at : ℕ) {end : ℕ} → n ≤ length text → at ≤ n → end ≡ at + index_of NEWLINE (slice at n text)
    → Searched text n at end (index_of NEWLINE (slice at n text))
unfolding slice
search_is text n at fits from found = record {
  first = first NEWLINE (drop at (take n text));
  size = omega (arith, length-drop at (take n text), length-take n text);
  ends = found;
}

-- j bytes from `at` on
pub part : (text : List ℕ) (n at j : ℕ) → j ≤ n - at → take j (drop at text) ≡ take j (drop at (take n text))
part text n at j h = sym (take-take j (n - at) (drop at text) h) ∙ ap (take j) (sym (drop-take at n text))

module _ (text : List ℕ) (n at : ℕ) {end : ℕ} (fits : n ≤ length text) (from : at ≤ n) (found : end ≡ at + index_of NEWLINE (slice at n text)) where
  pub turn : {d e f : State} {a b c : List ℕ} {u v w : ℕ} → end < n → RanText (take at text) d e [] a u b v
      → RanLine (take (end + 1 - at) (drop at text)) e f b v c w → length b ≡ length a → RanText (take (end + 1) text) d f [] a u c w
  turn {d} {e} {f} before ran l same =
      let k = index_of NEWLINE (slice at n text) in
      let s : Searched text n at end k = search_is text n at fits from found in
      let whole = drop at (take n text) in
      let short : end + 1 - at ≡ k + 1 = omega (arith, s.ends) in
      let past : end + 1 ≡ at + (k + 1) = omega (arith, s.ends) in
      let newline : take 1 (drop k whole) ≡ NEWLINE ∷ [] = ap (take 1) (s.first.there (omega (arith, s.ends, s.size))) in
      let this = take k whole ++ (NEWLINE ∷ []) in
      let line_is : take (k + 1) (drop at text) ≡ this =
      part text n at (k + 1) (omega (arith, s.ends)) ∙ take-add k 1 whole ∙ ap (λ t. take k whole ++ t) newline in
      let answer = l.prints.text in
      let answers : Answers this e f answer = subst (λ t. Answers t e f answer) (ap (λ i. take i (drop at text)) short ∙ line_is) l.prints.answers in
      let ran_line : Ran e this f answer [] = line s.first.before answers l.sizes (rest unbroken_nil) (append-nil this) (append-nil answer) in
      let text_is : take at text ++ this ≡ take (end + 1) text =
      sym (ap (λ i. take i text) past ∙ take-add at (k + 1) text ∙ ap (λ t. take at text ++ t) line_is) in
      record {
        printed = ran.printed ++ answer;
        ran = subst (λ t. Ran d t f (ran.printed ++ answer) []) text_is (ran_then this ran.ran ran_line);
        waits = waits-then ran.waits (puts_wait l.ready l.prints.puts l.inside (omega (arith, ran.waits.inside))) same;
      }

  pub ended : {d e : State} {a b : List ℕ} {u v : ℕ} → n ≤ end → RanText (take at text) d e [] a u b v → RanLines text n d e at a u b v
  ended {d} {e} after ran =
      let k = index_of NEWLINE (slice at n text) in
      let w : Searched text n at end k = search_is text n at fits from found in
      let left = drop at (take n text) in
      let unbroken : Unbroken left = λ m. w.first.before (subst (In NEWLINE) (sym (take_all k left (omega (arith, w.ends, w.size)))) m) in
      let text_is : take at text ++ left ≡ take n text =
      ap (λ t. t ++ left) (sym (take-take at n text from)) ∙ take-append-drop at (take n text) in
      record {
        within = from;
        ran = record {
          printed = ran.printed;
          ran = subst (λ p. Ran d (take n text) e p left) (append-nil ran.printed)
              (subst (λ t. Ran d t e (ran.printed ++ []) left) text_is (ran_then left ran.ran (rest unbroken)));
          waits = ran.waits;
        };
      }

-- no bytes are no last line
pub last_none : (d : State) (n : ℕ) (text : List ℕ) → n ≡ 0 → Last d (take n text) d []
last_none d n text e = subst (λ k. Last d (take k text) d []) (sym e) nothing

-- and some are one
pub last_some : {d e : State} {answer : List ℕ} (text : List ℕ) → 0 < length text → Answers text d e answer → SameSizes d e
    → Last d (take (length text) text) e answer
last_some {d} {e} {answer} text some a same =
    subst (λ t. Last d t e answer) (sym (take_all (length text) text (omega arith))) (unended (λ n. omega (arith, ap length n)) a same)
