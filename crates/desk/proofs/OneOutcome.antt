-- No second outcome of a line fits: what is left of the table, the link buffer and the size of the link pool, every byte of the output
-- and the place after the text are determined. Each command's promise is pinned by the `one-outcome` of its call. Assumes nothing.
use mathlib.Core.Bool.{Bool, true, false}
use mathlib.Core.Path.{◌≡◌, refl, sym, ap, ap₂, ◌∙◌, subst}
use mathlib.Core.Logic.{⊎_elim}
use mathlib.Core.List.{List}
use Prim.Native.Nat.{ℕ}
use native.Mathlib.Decide.{ℕ_discrete}
use lib.ListN.{length}
use Rattle.symbols.specs.Answer.{number_of, answer_of_parse, links_with}
use Rattle.theory.specs.Table.{Table, in_use}
use Rattle.theory.specs.Parse.{Outcome}
use Rattle.table.specs.Layout.{Mem, view}
use Rattle.table.proofs.OneOutcome.{SameLengths}
use Rattle.form.proofs.Formed.{formed_dec}
use Rattle.form.proofs.OneOutcome as form
use Rattle.generator.proofs.OneOutcome as generator
use Rattle.recogniser.proofs.OneOutcome as recogniser
use Rattle.script.specs.Command.{Meaning}
use Rattle.replies.specs.Printed.{answer_line, change_line, parse_line, collect_line}
use Rattle.script.proofs.Meaning.{means-one}
use Rattle.text.proofs.Putting.{puts_as, puts_one}
use Rattle.desk.specs.Obeys.{here, State, Makes, Keeps, Changes, Parsed, Collects, Lists, Obeys, Answers, Prints}
use Rattle.desk.specs.Obeys.Obeys.{makes, adds, deletes, parses, collects, restarts, lists, skips}

-- ---- the promises of the calls on a table

module _ {call : Table → Outcome} {m n n' : Mem} {x y : List ℕ} (same : SameLengths n n') where
  changes_once : Changes call m n x → Changes call m n' y → (n ≡ n') × (x ≡ y)
  changes_once p q =
      let (t, a, k) = form.one-outcome p.promised q.promised same in
      (t, p.printed ∙ ap₂ change_line a k ∙ sym q.printed)

  collects-once : Collects call m n x → Collects call m n' y → (n ≡ n') × (x ≡ y)
  collects-once p q =
      let (t, a, _) = form.one-outcome p.promised q.promised same in
      (t, p.printed ∙ (λ i. collect_line (a i) (in_use (view (t i)))) ∙ sym q.printed)

parsed_once : {pool : ℕ} {w : List ℕ} {m n n' : Mem} {b c c' x y : List ℕ} → Parsed pool w m n b c x → Parsed pool w m n' b c' y
    → SameLengths n n' → length c ≡ length c' → (n ≡ n') × (c ≡ c') × (x ≡ y)
parsed_once p q l k =
    let (t, b, v) = recogniser.one-outcome p.parses q.parses l k in
    (t, b, p.printed ∙ (λ i. parse_line (number_of (answer_of_parse (v i))) (links_with (v i)) (in_use (view (t i)))) ∙ sym q.printed)

lists-once : {m : Mem} {x y : List ℕ} → Lists m x → Lists m y → x ≡ y
lists-once {m} p q = ⊎_elim (λ f. p.listed f ∙ sym (q.listed f)) (λ g. p.no_table g ∙ sym (q.no_table g)) (formed_dec m)

-- ---- a line

pub one_state : {e f : State} → e.table ≡ f.table → e.links ≡ f.links → e.pool ≡ f.pool → e ≡ f
one_state t b k = λ i. record { table = t i; links = b i; pool = k i }

one_kept : {d e f : State} → Keeps d e → Keeps d f → e.table ≡ f.table → e ≡ f
one_kept p q t = one_state t (p.links ∙ sym q.links) (p.pool ∙ sym q.pool)

-- Two states after the state d. Their slices are as long as each other: a lent slice keeps its length, whatever is called.
module _ {d e f : State} (same : SameLengths e.table f.table) (room : length e.links ≡ length f.links) where
  makes-once : {s r z : ℕ} {x y : List ℕ} → Makes s r z d e x → Makes s r z d f y → (e ≡ f) × (x ≡ y)
  makes-once {s} {r} {z} p q =
      let (t, a) = made (here s r z) refl in
      let pool : e.pool ≡ f.pool = elim (ℕ_discrete p.answer 0) [
        | yes h ↦ p.new_pool h ∙ sym (q.new_pool (sym a ∙ h))
        | no h ↦ p.old_pool h ∙ sym (q.old_pool (λ g. h (a ∙ g)))
      ] in
      (one_state t (p.links ∙ sym q.links) pool, p.printed ∙ ap answer_line a ∙ sym q.printed)
    where
      made : (fits : Bool) → here s r z ≡ fits → (e.table ≡ f.table) × (p.answer ≡ q.answer)
      made true h = generator.one-outcome (p.promised h) (q.promised h) same
      made false h = let (a, t) = p.bad_pool h in let (a', t') = q.bad_pool h in (t ∙ sym t', a ∙ sym a')

  pub obeys-once : {x y : List ℕ} {m : Meaning} → Obeys d e x m → Obeys d f y m → (e ≡ f) × (x ≡ y)
  obeys-once (makes p) (makes q) = makes-once p q
  obeys-once (adds p k) (adds q h) = let (t, x) = changes_once same p q in (one_kept k h t, x)
  obeys-once (deletes p k) (deletes q h) = let (t, x) = changes_once same p q in (one_kept k h t, x)
  obeys-once (parses p k) (parses q h) = let (t, b, x) = parsed_once p q same room in (one_state t b (k ∙ sym h), x)
  obeys-once (collects p k) (collects q h) = let (t, x) = collects-once same p q in (one_kept k h t, x)
  obeys-once (restarts p k) (restarts q h) = let (t, x) = collects-once same p q in (one_kept k h t, x)
  obeys-once (lists p k) (lists q h) = (k ∙ sym h, lists-once p q)
  obeys-once (skips p k) (skips q h) = (k ∙ sym h, p ∙ sym q)

  pub answers-once : {line x y : List ℕ} → Answers line d e x → Answers line d f y → (e ≡ f) × (x ≡ y)
  answers-once {y = y} p q = obeys-once p.obeys (subst (λ m. Obeys d f y m) (means-one q.means p.means) q.obeys)

  -- the output too: its bytes are fixed without its length being known
  pub prints-once : {line before after after' : List ℕ} {at past past' : ℕ} → Prints line d e before at after past → Prints line d f before at after' past'
      → (e ≡ f) × (after ≡ after') × (past ≡ past')
  prints-once p q =
      let (s, x) = answers-once p.answers q.answers in
      let (out, end) = puts_one p.puts (puts_as (sym x) q.puts) in
      (s, out, end)
