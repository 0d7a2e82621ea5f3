-- How a command tells what a letter and its numbers mean, letter by letter. Assumes nothing.
use mathlib.Core.Bool.{Bool, true, false}
use mathlib.Core.Path.{◌≡◌, refl, sym, ap, ap₂, ◌∙◌, subst}
use mathlib.Core.List.{List, [], ◌∷◌, ◌++◌, append_assoc, head-eq_of_cons-eq, tail-eq_of_cons-eq}
use Rattle.std.specs.Prelude.{Option, Some, None}
use Prim.Native.Nat.{ℕ, suc, ◌+◌, ◌≤◌, ◌<◌}
use native.Mathlib.Numerals.{add-one}
use native.Mathlib.Omega.{arith}
use lib.Dec.{eqb, leb}
use lib.ListN.{length, get_or, take, drop, set, length-drop, drop_of_length-le}
use lib.Seq.{take-length, length-take-le, take-suc, drop-cons, set_at, take_at, drop_at, take-take, get_or-take}
use borrow.Author.Tests.{ne_eqb, leb-true}
use Rattle.laws.specs.Choice.{when}
use Rattle.std.specs.Bool.{then_some}
use Rattle.std.proofs.lemmas.List.Sums.{AllPass-from_list_all}
use Rattle.script.specs.Command.{Meaning, as_rule, alone, bytes, meaning_of, Means, told, symbols_of, Tells, Reads}
use Rattle.script.specs.Command.Meaning.{add, delete, parse, malformed}
use Rattle.script.specs.Command.Means.{written, not_written}
use Rattle.text.specs.Text.{spaced}
use Rattle.script.specs.Written.{Written}
use Rattle.script.specs.Reading.{LetterIs, LetterAt, NumbersAre, NumbersAt}
use Rattle.script.specs.declared.cursor.Cursor.{Cursor}
use Rattle.script.specs.declared.command.Command.{Command}
use Rattle.script.specs.declared.command.Command.TheVariants.{New, Add, Delete, Parse, Collect, Restart, List as Listing}
use Rattle.script.proofs.Meaning.{newline-ends, ends-newline, written-numbers}
use Rattle.script.proofs.Spaced.{numbered-one}

-- a command without symbols
plain : {c : ℕ} {ns : List ℕ} (r : Option Command) → symbols_of r ≡ 0 → told ns r ≡ meaning_of c ns → Tells c ns r
plain r z e = record { means = e; within = omega arith; bytes = λ k l. absurd (omega arith) }

pub by_letter : {b c : ℕ} {ns : List ℕ} {r : Option Command} → b ≡ c → Tells c ns r → Tells b ns r
by_letter {ns = ns} {r} e t = subst (λ c. Tells c ns r) (sym e) t

-- ---- N

pub new-alone : (ns : List ℕ) → length ns ≡ 0 → Tells 78 ns (Some (New 128 128 1024))
unfolding meaning_of when
new-alone [] e = plain (Some (New 128 128 1024)) refl refl
new-alone (x ∷ ns) e = absurd (omega arith)

pub new-sizes : (ns : List ℕ) → length ns ≡ 3 → Tells 78 ns (Some (New (get_or ns 0 0) (get_or ns 1 0) (get_or ns 2 0)))
unfolding meaning_of when
new-sizes [] e = absurd (omega arith)
new-sizes (a ∷ []) e = absurd (omega arith)
new-sizes (a ∷ b ∷ []) e = absurd (omega arith)
new-sizes (a ∷ b ∷ c ∷ []) e = plain (Some (New a b c)) refl refl
new-sizes (a ∷ b ∷ c ∷ d ∷ ns) e = absurd (omega arith)

pub new_miscounted : (ns : List ℕ) → (length ns ≡ 0 → ⊥) → (length ns ≡ 3 → ⊥) → Tells 78 ns None
unfolding meaning_of when
new_miscounted [] f g = absurd (f refl)
new_miscounted (a ∷ []) f g = plain None refl refl
new_miscounted (a ∷ b ∷ []) f g = plain None refl refl
new_miscounted (a ∷ b ∷ c ∷ []) f g = absurd (g refl)
new_miscounted (a ∷ b ∷ c ∷ d ∷ ns) f g = plain None refl refl

-- ---- A, D and P

bytes-at : (ns : List ℕ) → bytes ns ≡ true → (k : ℕ) → k < length ns → get_or ns k 0 ≤ 255
bytes-at ns e k l = leb-true (get_or ns k 0) 255 (AllPass-from_list_all (λ n. leb n 255) ns e k 0 l)

-- the command where all numbers are bytes, else None
of_bytes : {c : ℕ} (ns : List ℕ) {m : Meaning} (d : Command) (r : Option Command) → r ≡ then_some (bytes ns) d → when (bytes ns) m malformed ≡ meaning_of c ns
    → told ns (Some d) ≡ m → symbols_of (Some d) ≤ length ns → Tells c ns r
unfolding when
of_bytes {c} ns {m} d r e f t w = subst (λ r. Tells c ns r) (sym e) (go (bytes ns) refl f)
  where
    go : (b : Bool) → bytes ns ≡ b → when b m malformed ≡ meaning_of c ns → Tells c ns (then_some b d)
    go true g h = record { means = t ∙ h; within = w; bytes = λ k l. bytes-at ns g k (omega arith) }
    go false g h = plain None refl h

-- a left symbol, and the rest of the numbers
as_rule_lem : (f : ℕ → List ℕ → Meaning) (ns : List ℕ) (n : ℕ) → length ns ≡ n + 1 → f (get_or ns 0 0) (take n (drop 1 ns)) ≡ as_rule f ns
as_rule_lem f [] n e = absurd (omega arith)
as_rule_lem f (x ∷ w) n e = let k : n ≡ length w = omega arith in ap (f x) (ap (λ j. take j w) k ∙ take-length w)

pub tells_add : (ns : List ℕ) (n : ℕ) {r : Option Command} → length ns ≡ n + 1 → r ≡ then_some (bytes ns) (Add n) → Tells 65 ns r
unfolding meaning_of when
tells_add ns n {r} l e = of_bytes ns (Add n) r e refl (as_rule_lem add ns n l) (omega arith)

pub tells_delete : (ns : List ℕ) (n : ℕ) {r : Option Command} → length ns ≡ n + 1 → r ≡ then_some (bytes ns) (Delete n) → Tells 68 ns r
unfolding meaning_of when
tells_delete ns n {r} l e = of_bytes ns (Delete n) r e refl (as_rule_lem delete ns n l) (omega arith)

pub tells_parse : (ns : List ℕ) (n : ℕ) {r : Option Command} → length ns ≡ n → r ≡ then_some (bytes ns) (Parse n) → Tells 80 ns r
unfolding meaning_of when
tells_parse ns n {r} l e = of_bytes ns (Parse n) r e refl (ap parse (ap (λ j. take j ns) (sym l) ∙ take-length ns)) (omega arith)

-- A or D without a left symbol
pub no_left-add : (ns : List ℕ) {r : Option Command} → length ns ≡ 0 → r ≡ None → Tells 65 ns r
unfolding meaning_of when
no_left-add [] {r} l e = subst (λ r. Tells 65 [] r) (sym e) (plain None refl refl)
no_left-add (x ∷ ns) l e = absurd (omega arith)

pub no_left-delete : (ns : List ℕ) {r : Option Command} → length ns ≡ 0 → r ≡ None → Tells 68 ns r
unfolding meaning_of when
no_left-delete [] {r} l e = subst (λ r. Tells 68 [] r) (sym e) (plain None refl refl)
no_left-delete (x ∷ ns) l e = absurd (omega arith)

-- ---- G, R and L

by-alone : {c : ℕ} (ns : List ℕ) {m : Meaning} (d : Command) (r : Option Command) → r ≡ then_some (eqb (length ns) 0) d → alone m ns ≡ meaning_of c ns
    → told ns (Some d) ≡ m → symbols_of (Some d) ≡ 0 → Tells c ns r
unfolding when
by-alone {c} [] d r e f t z = plain r (ap symbols_of e ∙ z) (ap (told []) e ∙ t ∙ f)
by-alone {c} (x ∷ ns) d r e f t z =
    let g : r ≡ None = e ∙ ap (λ b. then_some b d) (ne_eqb (suc (length ns)) 0 (λ h. omega arith)) in
    plain r (ap symbols_of g) (ap (told (x ∷ ns)) g ∙ f)

pub tells_collect : (ns : List ℕ) {r : Option Command} → r ≡ then_some (eqb (length ns) 0) Collect → Tells 71 ns r
unfolding meaning_of when
tells_collect ns {r} e = by-alone ns Collect r e refl refl refl

pub tells_restart : (ns : List ℕ) {r : Option Command} → r ≡ then_some (eqb (length ns) 0) Restart → Tells 82 ns r
unfolding meaning_of when
tells_restart ns {r} e = by-alone ns Restart r e refl refl refl

pub tells_list : (ns : List ℕ) {r : Option Command} → r ≡ then_some (eqb (length ns) 0) Listing → Tells 76 ns r
unfolding meaning_of when
tells_list ns {r} e = by-alone ns Listing r e refl refl refl

-- ---- any other letter

pub tells_nothing : (c : ℕ) (ns : List ℕ) → (c ≡ 78 → ⊥) → (c ≡ 65 → ⊥) → (c ≡ 68 → ⊥) → (c ≡ 80 → ⊥) → (c ≡ 71 → ⊥) → (c ≡ 82 → ⊥) → (c ≡ 76 → ⊥) → Tells c ns None
unfolding meaning_of when
tells_nothing c ns n a d p g r l =
    plain None refl (rw (ne_eqb c 78 n, ne_eqb c 65 a, ne_eqb c 68 d, ne_eqb c 80 p, ne_eqb c 71 g, ne_eqb c 82 r, ne_eqb c 76 l))

-- ---- the symbols in the buffer

-- the command's symbols stand in the buffer as they stand among the numbers
left-first : (f : ℕ → List ℕ → Meaning) (n : ℕ) (a b : List ℕ) → take (n + 1) a ≡ take (n + 1) b
    → f (get_or a 0 0) (take n (drop 1 a)) ≡ f (get_or b 0 0) (take n (drop 1 b))
left-first f n a b e = go a b (rw add-one at e)
  where
    go : (a b : List ℕ) → take (suc n) a ≡ take (suc n) b → f (get_or a 0 0) (take n (drop 1 a)) ≡ f (get_or b 0 0) (take n (drop 1 b))
    go [] [] e = refl
    go [] (y ∷ b) e = absurd (omega (arith, ap length e))
    go (x ∷ a) [] e = absurd (omega (arith, ap length e))
    go (x ∷ a) (y ∷ b) e = ap₂ f (head-eq_of_cons-eq e) (tail-eq_of_cons-eq e)

pub told_same : (r : Option Command) (a b : List ℕ) → take (symbols_of r) a ≡ take (symbols_of r) b → told a r ≡ told b r
told_same (Some (New x y z)) a b e = refl
told_same (Some (Add n)) a b e = left-first add n a b e
told_same (Some (Delete n)) a b e = left-first delete n a b e
told_same (Some (Parse n)) a b e = ap parse e
told_same (Some Collect) a b e = refl
told_same (Some Restart) a b e = refl
told_same (Some Listing) a b e = refl
told_same None a b e = refl

pub copied_more : (ns symbols : List ℕ) (i : ℕ) → i < length ns → i < length symbols
    → set (take i ns ++ drop i symbols) i (get_or ns i 0) ≡ take (i + 1) ns ++ drop (i + 1) symbols
copied_more ns symbols i l m =
    ap (λ t. set (take i ns ++ t) i (get_or ns i 0)) (drop-cons symbols i 0 m)
    ∙ set_at (take i ns) (get_or symbols i 0) (drop (suc i) symbols) (get_or ns i 0) i (length-take-le i ns (omega arith))
    ∙ sym (append_assoc (take i ns) (get_or ns i 0 ∷ []) (drop (suc i) symbols))
    ∙ ap (λ t. t ++ drop (suc i) symbols) (sym (take-suc ns i 0 l))
    ∙ ap (λ k. take k ns ++ drop k symbols) (sym (add-one i))

-- ---- a line

unread : {line symbols : List ℕ} → ((c : ℕ) (ns : List ℕ) → Written line c ns → ⊥) → Reads line symbols symbols None
unread f = record { means = not_written f; few = omega arith; beyond = refl }

pub no_letter_read : {line symbols : List ℕ} {r : Option Command} → LetterAt line 0 None → r ≡ None → Reads line symbols symbols r
unfolding LetterAt
no_letter_read {line} {symbols} f e = subst (λ r. Reads line symbols symbols r) (sym e) (unread (λ c ns w. f c (spaced ns ++ w.end) w.capital w.is))

module _ {line : List ℕ} {letter : ℕ} {after : Cursor} (l : LetterIs line 0 letter after) (out : List ℕ) (size : length out ≡ 256) where
  pub no_numbers_read : {symbols : List ℕ} {r : Option Command} → NumbersAt line after.at out None → r ≡ None → Reads line symbols symbols r
  unfolding NumbersAt
  no_numbers_read {symbols} f e =
      subst (λ r. Reads line symbols symbols r) (sym e)
      (unread (λ c ns w. f ns w.end (written-numbers w (tail-eq_of_cons-eq (sym l.is ∙ w.is))) (omega (arith, w.few))))

  -- text follows the line's end: that is more than a line
  pub more_than_a_line : {symbols : List ℕ} {n : ℕ} {end : Cursor} → NumbersAre line after.at out n end → end.at < length line
      → Reads line symbols symbols None
  more_than_a_line {n = n} {end} numbers more =
      unread (λ c ns w.
      let e = (numbered-one (take n out) ns numbers.numbered (written-numbers w (tail-eq_of_cons-eq (sym l.is ∙ w.is)))).1 in
      let none : drop end.at line ≡ [] = numbers.past ∙ ap (drop 1) e ∙ (newline-ends w.newline).1 in
      omega (arith, length-drop end.at line, ap length none))

  -- n numbers are read, and the command has its symbols from them
  module _ {n : ℕ} {end : Cursor} {r : Option Command} (numbers : NumbersAre line after.at out n end) (t : Tells letter (take n out) r) where
    symbols-few : (symbols_of r ≤ n) × (symbols_of r ≤ 256)
    symbols-few = let e = length-take-le n out numbers.room in (omega (arith, t.within), omega (arith, t.within, numbers.room))

    pub symbols-bytes : {k : ℕ} → k ≡ symbols_of r → (j : ℕ) → j < length (take k out) → get_or (take k out) j 0 ≤ 255
    symbols-bytes {k} e j m =
        let f : length (take k out) ≡ k = length-take-le k out (omega (arith, symbols-few.1)) in
        let g : get_or (take k out) j 0 ≡ get_or (take n out) j 0 =
        get_or-take k out j 0 (omega arith) ∙ sym (get_or-take n out j 0 (omega (arith, symbols-few.0))) in
        subst (λ x. x ≤ 255) (sym g) (t.bytes j (omega arith))

    pub line_read : {k : ℕ} {symbols buffer : List ℕ} → length line ≤ end.at → k ≡ symbols_of r
        → buffer ≡ take k out ++ drop (length (take k out)) symbols → Reads line symbols buffer r
    line_read {k} {symbols} {buffer} over e b =
        let j = symbols_of r in
        let f : length (take j out) ≡ j = length-take-le j out (omega (arith, symbols-few.1)) in
        let g : buffer ≡ take j out ++ drop j symbols = b ∙ ap (λ i. take i out ++ drop (length (take i out)) symbols) e ∙ ap (λ i. take j out ++ drop i symbols) f in
        let same : take j buffer ≡ take j (take n out) =
        ap (take j) g ∙ take_at (take j out) (drop j symbols) j f ∙ sym (take-take j n out symbols-few.0) in
        record {
          means = subst (λ m. Means line m) (sym (told_same r buffer (take n out) same ∙ t.means)) (written (record {
            end = numbers.rest;
            newline = ends-newline numbers.rest numbers.numbered.ends (sym numbers.past ∙ drop_of_length-le line over);
            capital = l.capital;
            is = l.is ∙ ap (λ x. letter ∷ x) numbers.numbered.is;
            small = numbers.numbered.small;
            few = omega (arith, length-take-le n out numbers.room, numbers.room);
          }));
          few = symbols-few.1;
          beyond = ap (drop j) g ∙ drop_at (take j out) (drop j symbols) j f;
        }
