-- A script's pieces, one after the other, are the script: what a turn adds to what was run so far. Assumes nothing.
use mathlib.Core.Path.{◌≡◌, refl, sym, ◌∙◌, subst}
use mathlib.Core.Logic.{◌⊎◌, inl, inr, ⊎_elim, ◌≢◌}
use mathlib.Core.List.{List, [], ◌++◌}
use Prim.Native.Nat.{ℕ, zero, suc, ◌+◌, ◌≤◌}
use native.Mathlib.Omega.{arith}
use lib.ListN.{length, take, drop, length-take, length-drop, length-append}
use lib.Seq.{take-add, take_all}
use Rattle.std.specs.Prelude.{Result, Ok, Err}
use Rattle.desk.specs.Obeys.{State}
use Rattle.desk.specs.Script.{Unbroken, Ran, Last}
use Rattle.desk.specs.Script.Ran.{rest, line}
use Rattle.desk.proofs.Scripts.{ran_then, unbroken_nil}
use Rattle.reader.specs.declared.pieces.Standing.{Standing}
use Rattle.reader.specs.declared.pieces.Standing.TheVariants.{More, Whole, Unread, Unwritten}
use Rattle.reader.specs.Lines.{RanLines, KeptRest}
use Rattle.reader.specs.Pieces.{Brought, Filled, Fed, Turned, RanWhole, RanPart, NO_END, Ends}
use Rattle.reader.proofs.Rest.{kept-is}
use Rattle.reader.proofs.Cut.{behind-cut, last-cut}

left_unbroken : {d e : State} {text y left : List ℕ} → Ran d text e y left → Unbroken left
left_unbroken (rest u) = u
left_unbroken (line u a z r e f) = left_unbroken r

-- so much of a script is run, and the bytes held are what it left, cut
pub record Begun (d e : State) (held : List ℕ) : Type 0 where
  pub part : RanPart d e
  pub cut : held ≡ take 1283 part.left

pub begin : (d : State) → Begun d d []
begin d = record { part = record { text = []; printed = []; left = []; ran = rest unbroken_nil }; cut = refl }

module _ {d e f : State} {held : List ℕ} (b : Begun d e held) where
  pub feed : {piece now_held : List ℕ} → Fed held piece e f now_held
      → (c : Begun d f now_held) × (length c.part.text ≡ length b.part.text + length piece)
  feed {piece} p =
      let so_far = b.part in
      let next = subst (λ h. Ran e (h ++ piece) f p.printed p.left) b.cut p.ran in
      let (whole, ran, same) = behind-cut so_far.left piece (left_unbroken so_far.ran) next in
      let both = ran_then piece so_far.ran ran in (
        record { part = record { text = so_far.text ++ piece; printed = so_far.printed ++ p.printed; left = whole; ran = both }; cut = p.cut ∙ same },
        length-append so_far.text piece,
      )

  pub finish : (printed : List ℕ) → Last e held f printed → RanWhole d f
  finish printed p = record {
    text = b.part.text;
    printed = b.part.printed ++ printed;
    script = record {
      between = e;
      left = b.part.left;
      first = b.part.printed;
      then = printed;
      ran = b.part.ran;
      last = last-cut b.part.left (subst (λ h. Last e h f printed) b.cut p);
      in_order = refl;
    };
  }

-- ---- the loop

-- after so many turns: what is run so far, with a byte at least for each of them; or how it ended
abbrev pub SoFar : (turns : ℕ) → Standing → (d e : State) (held : List ℕ) → Type 0
SoFar turns More d e held = (b : Begun d e held) × (turns ≤ length b.part.text)
SoFar turns Whole d e held = Ends Whole d e
SoFar turns Unread d e held = Ends Unread d e
SoFar turns Unwritten d e held = Ends Unwritten d e

-- before the first turn nothing is held
pub none_yet : (d : State) (text : List ℕ) (held : ℕ) → held ≡ 0 → SoFar 0 More d d (take held text)
none_yet d text held e = subst (λ n. SoFar 0 More d d (take n text)) (sym e) (begin d, omega arith)

-- one turn more, whatever the reading brought behind the bytes that were held
pub turn : {E : Type 0} {turns : ℕ} {d e : State} {before text : List ℕ} {held n : ℕ} {got : Result ℕ E}
    → (f : State) (after : List ℕ) (now_held : ℕ) (r : Standing) → Filled before held text got → n ≡ held → SoFar turns More d e (take held before) → Turned got text n e f after now_held r
    → SoFar (turns + 1) r d f (take now_held after)
turn {E} {turns} {d} {e} {before} {text} {held} {n} {got} f after now_held r filled same (b, few) p =
    by got filled.brought (subst (λ n. Turned got text n e f after now_held r) same p)
  where
    stands : Standing → Type 0
    stands s = SoFar (turns + 1) s d f (take now_held after)

    begun : Begun d e (take held text)
    begun = record { part = b.part; cut = filled.kept ∙ b.cut }

    by : (got : Result ℕ E) → Brought text held got → Turned got text held e f after now_held r → stands r
    by (Ok zero) room p =
        let whole = finish begun p.printed p.last in
        ⊎_elim (λ s. subst stands (sym s) whole) (λ s. subst stands (sym s) (inl whole)) p.standing
    by (Ok (suc k)) room p =
        let (c, size) = feed begun p.fed in
        let piece : length (take (suc k) (drop held text)) ≡ suc k = omega (arith, length-take (suc k) (drop held text), length-drop held text) in
        ⊎_elim (λ s. subst stands (sym s) (c, omega arith)) (λ s. subst stands (sym s) (inr c.part)) p.standing
    by (Err error) room p = subst stands (sym p.standing) (subst (λ s. RanPart d s) (sym p.same_state) b.part)

-- a script that goes on
pub goes_on : {turns : ℕ} {d e : State} {held : List ℕ} {r : Standing} → r ≡ More → SoFar turns r d e held → SoFar turns More d e held
goes_on {turns} {d} {e} {held} m p = subst (λ s. SoFar turns s d e held) m p

-- the turns are used up, or the script does not go on
pub ends : {turns : ℕ} (d e : State) (held : List ℕ) (r : Standing) → (NO_END ≤ turns) ⊎ (r ≢ More) → SoFar turns r d e held → Ends r d e
ends d e held More (inl z) (b, n) = (b.part, omega arith)
ends d e held More (inr f) p = absurd (f refl)
ends d e held Whole o p = p
ends d e held Unread o p = p
ends d e held Unwritten o p = p

-- ---- a piece

pub fed : (held n : ℕ) {text after before out : List ℕ} {at r used past : ℕ} {d e : State} → held + n ≤ length text
    → RanLines (take (held + n) text) (length (take (held + n) text)) d e at before used out past → KeptRest text at (held + n) after r
    → Fed (take held text) (take n (drop held text)) d e (take r after)
fed held n {text} {at = at} {d = d} {e} fits l k =
    let whole = take (held + n) text in
    let left = drop at whole in
    let printed = l.ran.printed in
    let all : take (length whole) whole ≡ whole = take_all (length whole) whole (omega arith) in
    record {
      printed = printed;
      left = left;
      ran = subst (λ t. Ran d t e printed left) (take-add held n text) (subst (λ t. Ran d t e printed (drop at t)) all l.ran.ran);
      cut = kept-is k (omega (arith, l.within, length-take (held + n) text)) fits;
    }
