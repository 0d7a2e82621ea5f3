-- What the steps of reading a line come to: what stands at a place of it, from the bytes that were looked at. Assumes nothing.
use mathlib.Core.Bool.{Bool, true, false, false≢true}
use mathlib.Core.Path.{◌≡◌, refl, sym, ap, ◌∙◌, subst}
use mathlib.Core.Logic.{◌⊎◌, inl, inr}
use mathlib.Core.List.{List, [], ◌∷◌, ◌++◌, append_assoc, head-eq_of_cons-eq, tail-eq_of_cons-eq}
use Rattle.std.specs.Prelude.{Option, Some, None, unwrap_or, is_some}
use Rattle.std.specs.Char.{IsAsciiDigit, IsNotAsciiDigit, IsAsciiUppercase, IsNotAsciiUppercase}
use Prim.Native.Nat.{ℕ, ◌+◌, ◌-◌, ◌*◌, ◌≤◌, ◌<◌}
use native.Mathlib.Decide.{dec_lt}
use native.Mathlib.Numerals.{add-one}
use native.Mathlib.Omega.{arith}
use lib.Dec.{leb}
use lib.ListN.{length, get_or, drop, length-append, length-drop, get_or-eq_default, drop_of_length-le}
use lib.Seq.{drop-cons, get_or-drop}
use borrow.Author.Tests.{le-leb, lt-leb, leb-true}
use Rattle.laws.specs.Choice.{◌and◌, when}
use Rattle.laws.proofs.Choice.{and_left, and_right}
use Rattle.text.specs.Text.{SPACE, NEWLINE, digit, is_digit, decimal}
use Rattle.script.specs.Reading.{LetterAt, NumberAt, LineEndAt, digit_at, with_digit, more, unless_digit, ended}
use Rattle.script.specs.declared.cursor.Cursor.{Cursor}
use Rattle.script.specs.declared.cursor.Digits.{Digits}
use Rattle.text.proofs.Decimal.{decimal_1, decimal-more, decimal-first, too_long}

-- ---- one byte

no_digit : (b : ℕ) → IsNotAsciiDigit b → is_digit b ≡ false
unfolding is_digit ◌and◌
no_digit b (inl l) = rw (lt-leb 48 b l)
no_digit b (inr l) = elim (dec_lt b 48) [ yes k ↦ rw (lt-leb 48 b k) | no k ↦ rw (le-leb 48 b (omega arith), lt-leb b 57 l) ]

-- the text at a place inside the line starts with the byte there
pub text-cons : (line : List ℕ) (at : ℕ) → at < length line → drop at line ≡ get_or line at 0 ∷ drop (at + 1) line
text-cons line at l = rw (add-one, drop-cons line at 0)

text-first : (line : List ℕ) (at : ℕ) → get_or (drop at line) 0 0 ≡ get_or line at 0
text-first line at = let e : at + 0 ≡ at = omega arith in get_or-drop at line 0 0 ∙ ap (λ k. get_or line k 0) e

-- ---- the line's end, and a letter

pub end-over : (line : List ℕ) (at : ℕ) → length line ≤ at → LineEndAt line at (Some (record { at = at }))
unfolding LineEndAt
end-over line at l =
    let e : drop at line ≡ [] = drop_of_length-le line l in
    record { ends = ap (λ t. get_or t 0 NEWLINE) e; past = e ∙ ap (drop 1) (sym e) }

pub end-newline : (line : List ℕ) (at : ℕ) → at < length line → get_or line at 0 ≡ NEWLINE → LineEndAt line at (Some (record { at = at + 1 }))
unfolding LineEndAt
end-newline line at l e = let t = text-cons line at l in record { ends = ap (λ t. get_or t 0 NEWLINE) t ∙ e; past = ap (drop 1) (sym t) }

pub end_not : (line : List ℕ) (at : ℕ) → at < length line → (get_or line at 0 ≡ NEWLINE → ⊥) → LineEndAt line at None
unfolding LineEndAt
end_not line at l f e = f (ap (λ t. get_or t 0 NEWLINE) (sym (text-cons line at l)) ∙ e)

pub letter_past : (line : List ℕ) (at : ℕ) {r : Option (ℕ × Cursor)} → length line ≤ at → r ≡ None → LetterAt line at r
unfolding LetterAt
letter_past line at l e = subst (λ r. LetterAt line at r) (sym e) (λ b rest k s. omega (arith, ap length (sym (drop_of_length-le line l) ∙ s)))

-- the byte b was looked up at the place
module _ (line : List ℕ) (at : ℕ) {b : ℕ} (inside : at < length line) (is : b ≡ get_or line at 0) where
  pub no_letter : IsNotAsciiUppercase b → LetterAt line at None
  unfolding LetterAt
  no_letter o c rest k s = let e = head-eq_of_cons-eq (sym (text-cons line at inside) ∙ s) in omega (arith, k.from_a, k.to_z, o)

  pub letter_there : IsAsciiUppercase b → LetterAt line at (Some (b, record { at = at + 1 }))
  unfolding LetterAt
  letter_there u = record { capital = record { from_a = u.0; to_z = u.1 }; is = text-cons line at inside ∙ ap (λ x. x ∷ drop (at + 1) line) (sym is); past = refl; inside = omega arith }

-- ---- one digit

-- no digit stands there
pub digit-none : (line : List ℕ) (at : ℕ) {b : ℕ} → b ≡ get_or line at 0 → IsNotAsciiDigit b → None ≡ digit_at line at
unfolding digit_at when
digit-none line at {b} e o = let n : is_digit (get_or line at 0) ≡ false = ap is_digit (sym e) ∙ no_digit b o in rw n

pub digit-past : (line : List ℕ) (at : ℕ) → length line ≤ at → None ≡ digit_at line at
digit-past line at l = let e : get_or line at 0 ≡ 0 = get_or-eq_default line 0 l in digit-none line at (sym e) (inl (omega arith))

pub digit-here : (line : List ℕ) (at : ℕ) {b : ℕ} → b ≡ get_or line at 0 → IsAsciiDigit b → Some (b - 48) ≡ digit_at line at
unfolding digit_at when is_digit ◌and◌
digit-here line at e r = rw (e, le-leb 48 (get_or line at 0) (omega (arith, e, r.0)), le-leb (get_or line at 0) 57 (omega (arith, e, r.1)))

-- the digit x stands there
pub record Digit (line : List ℕ) (at x : ℕ) : Type 0 where
  pub inside : at < length line
  pub is : drop at line ≡ digit x ∷ drop (at + 1) line
  pub first : is_digit (get_or (drop at line) 0 0) ≡ true
  pub small : x ≤ 9

pub digit-there : {line : List ℕ} {at x : ℕ} → digit_at line at ≡ Some x → Digit line at x
unfolding digit_at when is_digit
digit-there {line} {at} {x} h = go (is_digit (get_or line at 0)) refl h
  where
    go : (b : Bool) → is_digit (get_or line at 0) ≡ b → when b (Some (get_or line at 0 - 48)) None ≡ Some x → Digit line at x
    go false e q = absurd (false≢true (ap is_some q))
    go true e q =
        let b = get_or line at 0 in
        let g : 48 ≤ b = leb-true 48 b (and_left (leb 48 b) (leb b 57) e) in
        let l : b ≤ 57 = leb-true b 57 (and_right (leb 48 b) (leb b 57) e) in
        let v : b - 48 ≡ x = ap (λ o. unwrap_or o 0) q in
        let inside : at < length line = elim (dec_lt at (length line)) [ yes p ↦ p | no p ↦ absurd (let z : b ≡ 0 = get_or-eq_default line 0 (omega arith) in omega arith) ] in
        let is : b ≡ digit x = omega arith in
        record { inside = inside; is = text-cons line at inside ∙ ap (λ x. x ∷ drop (at + 1) line) is; first = ap is_digit (text-first line at) ∙ e; small = omega arith }

pub digit_absent : (line : List ℕ) (at : ℕ) → digit_at line at ≡ None → is_digit (get_or (drop at line) 0 0) ≡ false
unfolding digit_at when
digit_absent line at h = ap is_digit (text-first line at) ∙ go (is_digit (get_or line at 0)) h
  where
    go : (b : Bool) → when b (Some (get_or line at 0 - 48)) None ≡ None → b ≡ false
    go false q = refl
    go true q = absurd (false≢true (sym (ap is_some q)))

-- ---- digits up to a place: v below b is spelled from p on, and if it is followed by a digit it has as many as b allows

pub record Spelled (line : List ℕ) (p b : ℕ) (d : Digits) : Type 0 where
  pub is : drop p line ≡ decimal d.value ++ drop d.at line
  pub above : 1 ≤ d.value
  pub below : d.value < b
  pub inside : d.at ≤ length line
  pub full : {x : ℕ} → digit_at line d.at ≡ Some x → b ≤ d.value * 10

pub spelled_one : {line : List ℕ} {p : ℕ} {d : Digits} → Some d.value ≡ digit_at line p → d.at ≡ p + 1 → 1 ≤ d.value → Spelled line p 10 d
spelled_one {line} {p} {d} v e g =
    let t = digit-there (sym v) in
    record {
      is = t.is ∙ (λ i. digit d.value ∷ drop (sym e i) line) ∙ ap (λ x. x ++ drop d.at line) (sym (decimal_1 d.value (omega (arith, t.small))));
      above = g;
      below = omega (arith, t.small);
      inside = omega (arith, t.inside);
      full = λ h. omega arith;
    }

spelled_more : {line : List ℕ} {p b : ℕ} {d : Digits} → b ≤ 1000 → Spelled line p b d → Spelled line p (b * 10) (more line d)
unfolding with_digit
spelled_more {line} {p} {b} {d} m s = go (digit_at line d.at) refl
  where
    go : (o : Option ℕ) → digit_at line d.at ≡ o → Spelled line p (b * 10) (with_digit d o)
    go (Some x) e =
        let t = digit-there e in
        let f = s.full e in
        record {
          is = s.is ∙ ap (λ y. decimal d.value ++ y) t.is ∙ sym (append_assoc (decimal d.value) (digit x ∷ []) (drop (d.at + 1) line))
              ∙ ap (λ y. y ++ drop (d.at + 1) line) (sym (decimal-more d.value x s.above (omega (arith, s.below)) t.small));
          above = omega (arith, s.above);
          below = omega (arith, s.below, t.small);
          inside = omega (arith, t.inside);
          full = λ h. omega arith;
        }
    go None e = record { is = s.is; above = s.above; below = omega (arith, s.below); inside = s.inside; full = λ h. absurd (false≢true (ap is_some (sym e ∙ h))) }

pub spelled_next : {line : List ℕ} {p b : ℕ} {d r : Digits} → b ≤ 1000 → r ≡ more line d → Spelled line p b d → Spelled line p (b * 10) r
spelled_next {line} {p} {b} m e s = subst (λ r. Spelled line p (b * 10) r) (sym e) (spelled_more m s)

-- ---- a number

pub no_text : (line : List ℕ) (at : ℕ) {r : Option (ℕ × Cursor)} → length line ≤ at → r ≡ None → NumberAt line at r
unfolding NumberAt
no_text line at l e = subst (λ r. NumberAt line at r) (sym e) (λ n rest s. omega (arith, ap length (sym (drop_of_length-le line l) ∙ s.is)))

module _ (line : List ℕ) (at : ℕ) (inside : at < length line) where
  pub no_space : (get_or line at 0 ≡ SPACE → ⊥) → NumberAt line at None
  unfolding NumberAt
  no_space f n rest s = f (head-eq_of_cons-eq (sym (text-cons line at inside) ∙ s.is))

  module _ (space : get_or line at 0 ≡ SPACE) where
    after-space : drop at line ≡ SPACE ∷ drop (at + 1) line
    after-space = text-cons line at inside ∙ ap (λ b. b ∷ drop (at + 1) line) space

    pub no-digits : {r : Option (ℕ × Cursor)} → None ≡ digit_at line (at + 1) → r ≡ None → NumberAt line at r
    unfolding NumberAt
    no-digits d e =
        subst (λ r. NumberAt line at r) (sym e)
        (λ n rest s.
        false≢true
        (sym (digit_absent line (at + 1) (sym d)) ∙ ap (λ x. is_digit (get_or x 0 0)) (tail-eq_of_cons-eq (sym after-space ∙ s.is))
        ∙ decimal-first n rest s.small))

    -- the digits are read: the answer is the number that they are, or that there is none
    number-ended : (d : Digits) → drop (at + 1) line ≡ decimal d.value ++ drop d.at line → d.value ≤ 9999 → d.at ≤ length line
        → ((x : ℕ) → digit_at line d.at ≡ Some x → (d.value ≡ 0) ⊎ (1000 ≤ d.value)) → NumberAt line at (ended line d)
    unfolding NumberAt unless_digit
    number-ended d is m i full = go (digit_at line d.at) refl
      where
        go : (o : Option ℕ) → digit_at line d.at ≡ o → NumberAt line at (unless_digit d o)
        go (Some x) e = λ n rest s.
            too_long d.value n (drop d.at line) rest m s.small (full x e) (digit-there e).first s.ends
            (sym is ∙ tail-eq_of_cons-eq (sym after-space ∙ s.is))
        go None e =
            record {
              starts = record { is = after-space ∙ ap (λ x. SPACE ∷ x) is; small = m; ends = digit_absent line d.at e };
              past = omega (arith, simp (length-append, length-drop) at (ap length is));
              inside = i;
            }

    pub zero_ended : {d : Digits} {r : Option (ℕ × Cursor)} → Some d.value ≡ digit_at line (at + 1) → d.at ≡ at + 2 → d.value ≡ 0 → r ≡ ended line d → NumberAt line at r
    zero_ended {d} {r} v e z q =
        let t = digit-there (sym v) in
        let n : at + 1 + 1 ≡ at + 2 = omega arith in
        subst (λ r. NumberAt line at r) (sym q)
        (number-ended d (t.is ∙ (λ i. digit (z i) ∷ drop ((n ∙ sym e) i) line) ∙ ap (λ x. x ++ drop d.at line) (sym (decimal_1 0 (omega arith)) ∙ ap decimal (sym z)))
        (omega arith) (omega (arith, t.inside)) (λ x h. inl z))

    -- the same where no digit follows
    pub digits-stopped : {b : ℕ} {d : Digits} {r : Option (ℕ × Cursor)} → b ≤ 10000 → Spelled line (at + 1) b d
        → digit_at line d.at ≡ None → r ≡ Some (d.value, record { at = d.at }) → NumberAt line at r
    unfolding unless_digit
    digits-stopped {b} {d} {r} m s n q =
        subst (λ r. NumberAt line at r) (ap (unless_digit d) n ∙ sym q)
        (number-ended d s.is (omega (arith, s.below)) s.inside (λ x h. absurd (false≢true (ap is_some (sym n ∙ h)))))

    pub digits-ended : {d : Digits} {r : Option (ℕ × Cursor)} → Spelled line (at + 1) 10000 d → r ≡ ended line d → NumberAt line at r
    digits-ended {d} {r} s q =
        subst (λ r. NumberAt line at r) (sym q)
        (number-ended d s.is (omega (arith, s.below)) s.inside (λ x h. inr (omega (arith, s.full h))))
