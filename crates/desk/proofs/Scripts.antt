-- Scripts: one text of lines after another; no second outcome of a script fits. Assumes nothing.
use mathlib.Core.Path.{◌≡◌, refl, sym, ap, ap₂, ◌∙◌, subst}
use mathlib.Core.List.Memᴰ
use mathlib.Core.List.Memᴰ.{head as here}
use mathlib.Core.List.Memᴰ.{tail as there}
use mathlib.Core.List.{List, [], ◌∷◌, ◌++◌, append_assoc, head-eq_of_cons-eq, tail-eq_of_cons-eq, Memᴰ as In}
use Prim.Native.Nat.{ℕ}
use lib.ListN.{length}
use Rattle.text.specs.Text.{NEWLINE}
use Rattle.table.proofs.OneOutcome.{SameLengths}
use Rattle.desk.specs.Obeys.{State, Answers}
use Rattle.desk.specs.Script.{Unbroken, SameSizes, Ran, Last, Script}
use Rattle.desk.specs.Script.Ran.{rest, line}
use Rattle.desk.specs.Script.Last.{nothing, unended}
use Rattle.desk.proofs.OneOutcome.{answers-once}

-- ---- where the first newline stands

-- a line of a text that begins without a newline goes on behind that beginning
pub line_begins : (start l : List ℕ) {text more : List ℕ} → Unbroken start → (l ++ (NEWLINE ∷ [])) ++ text ≡ start ++ more
    → (k : List ℕ) × (l ≡ start ++ k) × (more ≡ (k ++ (NEWLINE ∷ [])) ++ text)
line_begins [] l u e = (l, refl, sym e)
line_begins (b ∷ start) [] u e = absurd (u (here (head-eq_of_cons-eq e)))
line_begins (b ∷ start) (x ∷ l) u e =
    let (k, f, g) = line_begins start l (λ m. u (there m)) (tail-eq_of_cons-eq e) in (k, ap₂ (λ x l. x ∷ l) (head-eq_of_cons-eq e) f, g)

-- a text has one first line
one_line : (l k : List ℕ) {text more : List ℕ} → Unbroken l → Unbroken k → (l ++ (NEWLINE ∷ [])) ++ text ≡ (k ++ (NEWLINE ∷ [])) ++ more → (l ≡ k) × (text ≡ more)
one_line [] [] u v e = (refl, tail-eq_of_cons-eq e)
one_line [] (y ∷ k) u v e = absurd (v (here (head-eq_of_cons-eq e)))
one_line (x ∷ l) [] u v e = absurd (u (here (sym (head-eq_of_cons-eq e))))
one_line (x ∷ l) (y ∷ k) u v e =
    let (f, g) = one_line l k (λ m. u (there m)) (λ m. v (there m)) (tail-eq_of_cons-eq e) in (ap₂ (λ x l. x ∷ l) (head-eq_of_cons-eq e) f, g)

-- and a text without a newline has none
no_line : (l text : List ℕ) {k : List ℕ} → Unbroken k → (l ++ (NEWLINE ∷ [])) ++ text ≡ k → ⊥
no_line [] text u e = u (subst (In NEWLINE) e (here refl))
no_line (x ∷ l) text u e = go l (λ m. u (subst (In NEWLINE) e (there m)))
  where
    go : (l : List ℕ) → (In NEWLINE ((l ++ (NEWLINE ∷ [])) ++ text) → ⊥) → ⊥
    go [] v = v (here refl)
    go (x ∷ l) v = go l (λ m. v (there m))

-- ---- one text after another

-- what was left of the first stands before the second
pub ran_then : (more : List ℕ) {d m e : State} {first left last x y : List ℕ} → Ran d first m x left → Ran m (left ++ more) e y last → Ran d (first ++ more) e (x ++ y) last
ran_then more (rest u) h = h
ran_then more {y = y} (line {l = l} {text = text} {answer = answer} {printed = printed} u a z k e f) h =
    line u a z (ran_then more k h) (sym (append_assoc (l ++ (NEWLINE ∷ [])) text more) ∙ ap (λ t. t ++ more) e)
    (sym (append_assoc answer printed y) ∙ ap (λ t. t ++ y) f)

pub unbroken_nil : Unbroken []
unbroken_nil = Memᴰ.not-nil

-- ---- no second outcome

same_lengths : {d e f : State} → SameSizes d e → SameSizes d f → SameLengths e.table f.table × (length e.links ≡ length f.links)
same_lengths p q = (
  record { rules = p.rules ∙ sym q.rules; cells = p.cells ∙ sym q.cells; words = p.words ∙ sym q.words },
  p.links ∙ sym q.links,
)

pub ran-once : {d e f : State} {script x y k l : List ℕ} → Ran d script e x k → Ran d script f y l → (e ≡ f) × (x ≡ y) × (k ≡ l)
ran-once (rest u) (rest v) = (refl, refl, refl)
ran-once (rest u) (line {l = l} {text = text} v a z r e g) = absurd (no_line l text u e)
ran-once (line {l = l} {text = text} v a z r e g) (rest u) = absurd (no_line l text u e)
ran-once {d} {f = f} {l = left} (line {e = m} {l = l} u a z r e g) (line {e = n} {l = k} {text = text} {answer = answer} {printed = printed} v b w s e' g') =
    let (same, rest-same) = one_line l k u v (e ∙ sym e') in
    let (sizes, room) = same_lengths z w in
    let (states, answers) = answers-once sizes room a (subst (λ t. Answers (t ++ (NEWLINE ∷ [])) d n answer) (sym same) b) in
    let from_same = subst (λ t. Ran m t f printed left) (sym rest-same) (subst (λ t. Ran t text f printed left) (sym states) s) in
    let (end, printed-same, left-same) = ran-once r from_same in
    (end, sym g ∙ ap₂ ◌++◌ answers printed-same ∙ g', left-same)

last-once : {d e f : State} {l x y : List ℕ} → Last d l e x → Last d l f y → (e ≡ f) × (x ≡ y)
last-once nothing nothing = (refl, refl)
last-once nothing (unended n a z) = absurd (n refl)
last-once (unended n a z) nothing = absurd (n refl)
last-once (unended n a z) (unended m b w) = let (sizes, room) = same_lengths z w in answers-once sizes room a b

-- a script leaves one state and prints one text
pub script-once : {d e f : State} {script x y : List ℕ} → Script d script e x → Script d script f y → (e ≡ f) × (x ≡ y)
script-once {f = f} p q =
    let (between, first, left) = ran-once p.ran q.ran in
    let (end, then) = last-once p.last (subst (λ l. Last p.between l f q.then) (sym left) (subst (λ d. Last d q.left f q.then) (sym between) q.last)) in
    (end, sym p.in_order ∙ ap₂ ◌++◌ first then ∙ q.in_order)
