-- Numbers that hold no table: every call but N answers 11 and leaves all as it was. So it is before the first good N. Assumes nothing.
use mathlib.Core.Path.{◌≡◌, refl, ap, ◌∙◌}
use mathlib.Core.Logic.{⊎_elim}
use mathlib.Core.List.{List}
use Prim.Native.Nat.{ℕ}
use native.Mathlib.Omega.{arith}
use Rattle.laws.specs.Choice.{◌or◌, when}
use Rattle.symbols.specs.Answer.{BAD_TABLE, number_of, answer_of_parse, links_with}
use Rattle.theory.specs.Table.{Table, in_use}
use Rattle.theory.specs.Parse.{Outcome}
use Rattle.table.specs.Layout.{Mem, sets_in, view}
use Rattle.table.specs.Laid.{Formed}
use Rattle.recogniser.specs.Parse.{Past}
use Rattle.script.specs.Command.{Meaning}
use Rattle.script.specs.Command.Meaning.{new, add, delete, parse, collect, restart, list, malformed}
use Rattle.replies.specs.Printed.{answer_line, change_line, parse_line, collect_line, past_checks}
use Rattle.desk.specs.Obeys.{State, Keeps, Changes, Collects, Obeys}
use Rattle.desk.specs.Obeys.Obeys.{makes, adds, deletes, parses, collects, restarts, lists, skips}
use Rattle.desk.specs.Script.{blank}
use Rattle.desk.proofs.OneOutcome.{one_state}

-- the commands whose call works on the table that is there
abbrev pub OnTable : Meaning → Type 0
OnTable (new s r l) = ⊥
OnTable (add x w) = Unit {0}
OnTable (delete x w) = Unit {0}
OnTable (parse w) = Unit {0}
OnTable collect = Unit {0}
OnTable restart = Unit {0}
OnTable list = Unit {0}
OnTable malformed = ⊥

change_says_so : (k : ℕ) → change_line BAD_TABLE k ≡ answer_line BAD_TABLE
unfolding change_line answer_line when
change_says_so k = refl

parse-says_so : (k s : ℕ) → parse_line BAD_TABLE k s ≡ answer_line BAD_TABLE
unfolding parse_line answer_line past_checks ◌or◌ when
parse-says_so k s = refl

collect-says_so : (s : ℕ) → collect_line BAD_TABLE s ≡ answer_line BAD_TABLE
unfolding collect_line answer_line when
collect-says_so s = refl

kept : {d e : State} → Keeps d e → e.table ≡ d.table → e ≡ d
kept k t = one_state t k.links k.pool

module _ {call : Table → Outcome} {d e : State} {text : List ℕ} (none : Formed d.table → ⊥) where
  changes_says_so : Changes call d.table e.table text → Keeps d e → (text ≡ answer_line BAD_TABLE) × (e ≡ d)
  changes_says_so p k =
      let (a, _, t) = p.promised.no_table none in (p.printed ∙ ap (λ a. change_line a p.number) a ∙ change_says_so p.number, kept k t)

  collects-says_so : Collects call d.table e.table text → Keeps d e → (text ≡ answer_line BAD_TABLE) × (e ≡ d)
  collects-says_so p k =
      let (a, _, t) = p.promised.no_table none in
      let used = in_use (view e.table) in
      (p.printed ∙ ap (λ a. collect_line a used) a ∙ collect-says_so used, kept k t)

pub bad_table : {d e : State} {text : List ℕ} {m : Meaning} → (Formed d.table → ⊥) → OnTable m → Obeys d e text m → (text ≡ answer_line BAD_TABLE) × (e ≡ d)
bad_table none o (makes p) = absurd o
bad_table none o (adds p k) = changes_says_so none p k
bad_table none o (deletes p k) = changes_says_so none p k
bad_table {e = e} none o (parses p k) =
    let (a, _, t) = p.parses.promised.no_table none in
    let not_past : Past (number_of (answer_of_parse p.verdict)) → ⊥ = ⊎_elim (λ e. omega arith) (⊎_elim (λ e. omega arith) (⊎_elim (λ e. omega arith) (λ e. omega arith))) in
    let used = in_use (view e.table) in
    (p.printed ∙ ap (λ a. parse_line a (links_with p.verdict) used) a ∙ parse-says_so (links_with p.verdict) used, one_state t (p.parses.untouched not_past) k)
bad_table none o (collects p k) = collects-says_so none p k
bad_table none o (restarts p k) = collects-says_so none p k
bad_table none o (lists p e) = (p.no_table none, e)
bad_table none o (skips p e) = absurd o

-- numbers whose first is zero: no table has no sets
pub no_sets-no_table : (m : Mem) → sets_in m.rules ≡ 0 → Formed m → ⊥
no_sets-no_table m z f = omega (arith, f.laid.sized.some_sets)

-- "Before the first good N the table is all zero, so calls answer 11."
pub blank-has-no_table : Formed blank.table → ⊥
unfolding blank
blank-has-no_table = no_sets-no_table _ refl
