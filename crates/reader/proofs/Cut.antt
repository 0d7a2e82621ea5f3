-- A line whose beginning is cut to 1,283 bytes is as malformed as the whole, so nothing that a script does depends on the cut. Assumes nothing.
use mathlib.Core.Path.{◌≡◌, refl, sym, ap, ◌∙◌, subst}
use mathlib.Core.Logic.{⊎_elim}
use mathlib.Core.List.Memᴰ
use mathlib.Core.List.{List, [], ◌∷◌, ◌++◌, append_assoc, Memᴰ as In}
use Prim.Native.Nat.{ℕ, ◌≤◌, ◌<◌}
use native.Mathlib.Decide.{dec_le}
use native.Mathlib.Omega.{arith}
use lib.ListN.{length, take, drop, length-take, length-append, take-append-drop}
use lib.Seq.{take_all, take-take, take-append-le}
use Rattle.text.specs.Text.{NEWLINE}
use Rattle.script.specs.Command.{Means}
use Rattle.script.proofs.Meaning.{means-one, long_malformed}
use Rattle.desk.specs.Obeys.{State, Answers}
use Rattle.desk.specs.Script.{Unbroken, Ran, Last}
use Rattle.desk.specs.Script.Ran.{rest, line}
use Rattle.desk.specs.Script.Last.{nothing, unended}
use Rattle.desk.proofs.Scripts.{line_begins}

-- lines that are too long are answered alike
answers-long : {d e : State} {x : List ℕ} (l k : List ℕ) → 1282 < length l → 1282 < length k → Answers l d e x → Answers k d e x
answers-long l k g h a = record {
  meaning = a.meaning;
  means = subst (Means k) (means-one (long_malformed l g) a.means) (long_malformed k h);
  obeys = a.obeys;
}

unbroken_both : (l k : List ℕ) → Unbroken l → Unbroken k → Unbroken (l ++ k)
unbroken_both l k u v m = ⊎_elim u v (Memᴰ.append_cases l m)

module _ (left : List ℕ) (long : 1283 ≤ length left) where
  abbrev start : List ℕ
  start = take 1283 left

  start-length : length start ≡ 1283
  start-length = omega (arith, length-take 1283 left)

  -- a line begins with `left`: it may begin with the cut beginning instead
  behind-long : {d e : State} {y last text : List ℕ} (more : List ℕ) → Unbroken left → Ran d text e y last → text ≡ start ++ more
      → (whole : List ℕ) × Ran d (left ++ more) e y whole × (take 1283 last ≡ take 1283 whole)
  behind-long more u (rest v) e =
      let no_newline : Unbroken more = λ m. v (subst (In NEWLINE) (sym e) (Memᴰ.append_right start m)) in
      let front : take 1283 (start ++ more) ≡ take 1283 left =
      take-append-le 1283 start more (omega (arith, start-length)) ∙ take-take 1283 1283 left (omega arith) in
      (left ++ more, rest (unbroken_both left more u no_newline), ap (take 1283) e ∙ front ∙ sym (take-append-le 1283 left more long))
  behind-long {last = last} more u (line {d = d} {e = m} {l = l} {text = text} {answer = answer} v a z r e g) f =
      let cut : Unbroken start = λ i. u (subst (In NEWLINE) (take-append-drop 1283 left) (Memᴰ.append_left (drop 1283 left) i)) in
      let (k, l-is, more-is) = line_begins start l cut (e ∙ f) in
      let rest_unbroken : Unbroken k = λ i. v (subst (In NEWLINE) (sym l-is) (Memᴰ.append_right start i)) in
      let end = NEWLINE ∷ [] in
      let one : 1282 < length (l ++ end) = omega (arith, length-append l end, ap length l-is, length-append start k, start-length) in
      let other : 1282 < length ((left ++ k) ++ end) = omega (arith, length-append (left ++ k) end, length-append left k, long) in
      let whole_is : ((left ++ k) ++ end) ++ text ≡ left ++ more =
      append_assoc (left ++ k) end text ∙ append_assoc left k (end ++ text) ∙ ap (λ t. left ++ t) (sym (append_assoc k end text) ∙ sym more-is) in
      (last, line (unbroken_both left k u rest_unbroken) (answers-long (l ++ end) ((left ++ k) ++ end) one other a) z r whole_is g, refl)

-- whatever the length of what is left
pub behind-cut : {d e : State} {y last : List ℕ} (left more : List ℕ) → Unbroken left → Ran d (take 1283 left ++ more) e y last
    → (whole : List ℕ) × Ran d (left ++ more) e y whole × (take 1283 last ≡ take 1283 whole)
behind-cut {d} {e} {y} {last} left more u r = elim (dec_le (length left) 1283) [
  | yes h ↦ (last, subst (λ t. Ran d (t ++ more) e y last) (take_all 1283 left h) r, refl)
  | no h ↦ behind-long left (omega arith) more u r refl
]

-- and of a last line
pub last-cut : {d e : State} {y : List ℕ} (left : List ℕ) → Last d (take 1283 left) e y → Last d left e y
last-cut {d} {e} {y} left p = elim (dec_le (length left) 1283) [
  | yes h ↦ subst (λ t. Last d t e y) (take_all 1283 left h) p
  | no h ↦ long p refl (omega arith)
]
  where
    not-nil : (l : List ℕ) → 1283 < length l → l ≡ [] → ⊥
    not-nil l h e = omega (arith, ap length e)

    long : {d e : State} {y text : List ℕ} → Last d text e y → text ≡ take 1283 left → 1283 < length left → Last d left e y
    long nothing e h = absurd (omega (arith, ap length e, length-take 1283 left))
    long (unended {l = l} n a z) e h =
        unended (not-nil left h) (answers-long l left (omega (arith, ap length e, length-take 1283 left)) (omega arith) a) z
