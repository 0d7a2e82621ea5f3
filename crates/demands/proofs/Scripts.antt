-- What the program holds after any script is what a sequence of real calls made, once there was a good N. Assumes nothing.
use mathlib.Core.Bool.{Bool, true, false}
use mathlib.Core.Path.{◌≡◌, refl, sym, ap, ◌∙◌, subst}
use mathlib.Core.Logic.{◌⊎◌, inl, inr, ⊎_elim}
use mathlib.Core.List.{List}
use Prim.Native.Nat.{ℕ}
use Rattle.symbols.specs.Answer.{BAD_TABLE, number_of, answer_of_parse, links_with}
use Rattle.theory.specs.Table.{in_use}
use Rattle.theory.specs.Made.{Rule}
use Rattle.theory.proofs.Demand2 as demand2
use Rattle.table.specs.Layout.{sets_in, view}
use Rattle.generator.specs.Calls.{NewPromised}
use Rattle.script.specs.Command.{Meaning, Means}
use Rattle.script.specs.Command.Meaning.{parse as parse-meaning}
use Rattle.script.proofs.Meaning.{means-one}
use Rattle.replies.specs.Printed.{answer_line}
use Rattle.desk.specs.Obeys.{here, State, Makes, Obeys, Answers}
use Rattle.desk.specs.Obeys.Obeys.{makes, adds, deletes, parses, collects, restarts, lists, skips}
use Rattle.desk.specs.Script.{Ran, Last, Script, LineOf, blank}
use Rattle.desk.specs.Script.Ran.{rest, line}
use Rattle.desk.specs.Script.Last.{nothing, unended}
use Rattle.desk.specs.Script.LineOf.{first, later, last}
use Rattle.desk.proofs.NoTable.{OnTable, bad_table, no_sets-no_table}
use Rattle.demands.specs.Run.{Run}
use Rattle.demands.specs.Run.Called.{new, add, delete, collect, restart, parse}
use Rattle.demands.specs.Run.Run.{begun, after}
use Rattle.demands.specs.Scripts.{AtDesk, PrintsVerdict}
use Rattle.demands.specs.Scripts.AtDesk.{no_table, run}
use Rattle.demands.proofs.Made.{new-holds, decides}

-- ---- a line

kept : {d e : State} → e.table ≡ d.table → AtDesk d → AtDesk e
kept same (no_table z) = no_table (ap (λ m. sets_in m.rules) same ∙ z)
kept same (run {R} r) = run (subst (λ m. Run m R) (sym same) r)

made : {s r z : ℕ} {d e : State} {text : List ℕ} → AtDesk d → Makes s r z d e text → AtDesk e
made {s} {r} {z} {d} {e} a p = go (here s r z) refl a
  where
    begins : NewPromised d.table e.table s r p.answer → AtDesk d → AtDesk e
    begins q (no_table none) = ⊎_elim (λ (done, _). run (begun s r (subst (NewPromised d.table e.table s r) done q)))
        (λ (_, same). kept {d = d} {e = e} same (no_table none)) (new-holds q)
    begins q (run h) = run (after h (new q refl) refl)

    go : (fits : Bool) → here s r z ≡ fits → AtDesk d → AtDesk e
    go true h = begins (p.promised h)
    go false h = kept (p.bad_pool h).1

-- without a table every call but N leaves all as it was
none_made : {d e : State} {text : List ℕ} {m : Meaning} → sets_in d.table.rules ≡ 0 → OnTable m → Obeys d e text m → AtDesk e
none_made {d} {e} z o p = let (_, same) = bad_table (no_sets-no_table d.table z) o p in kept {d = d} {e = e} (ap (λ s. s.table) same) (no_table z)

obeyed : {d e : State} {text : List ℕ} {m : Meaning} → AtDesk d → Obeys d e text m → AtDesk e
obeyed a (makes p) = made a p
obeyed (no_table z) (adds p k) = none_made z tt (adds p k)
obeyed (no_table z) (deletes p k) = none_made z tt (deletes p k)
obeyed (no_table z) (parses p k) = none_made z tt (parses p k)
obeyed (no_table z) (collects p k) = none_made z tt (collects p k)
obeyed (no_table z) (restarts p k) = none_made z tt (restarts p k)
obeyed (run r) (adds p k) = run (after r (add p.promised) refl)
obeyed (run r) (deletes p k) = run (after r (delete p.promised) refl)
obeyed (run r) (parses p k) = run (after r (parse p.parses refl refl) refl)
obeyed (run r) (collects p k) = run (after r (collect p.promised) refl)
obeyed (run r) (restarts p k) = run (after r (restart p.promised) refl)
obeyed a (lists p same) = kept (ap (λ s. s.table) same) a
obeyed a (skips p same) = kept (ap (λ s. s.table) same) a

-- ---- a script

ran : {d e : State} {script printed left : List ℕ} → AtDesk d → Ran d script e printed left → AtDesk e
ran a (rest u) = a
ran a (line u p z r e f) = ran (obeyed a p.obeys) r

ended : {d e : State} {l answer : List ℕ} → AtDesk d → Last d l e answer → AtDesk e
ended a nothing = a
ended a (unended n p z) = obeyed a p.obeys

blank-at_desk : AtDesk blank
unfolding blank
blank-at_desk = no_table refl

pub script-run : {e : State} {script printed : List ℕ} → Script blank script e printed → AtDesk e
script-run s = ended (ran blank-at_desk s.ran) s.last

before-line : {d e f : State} {script line text : List ℕ} → AtDesk d → LineOf d script e line f text → AtDesk e × Answers line e f text
before-line a (first more u e f p) = (a, p)
before-line a (later u e f p l) = before-line (obeyed a p.obeys) l
before-line a (last n u p) = (a, p)

-- ---- a P line

parsed : {d e : State} {w text : List ℕ} → AtDesk d → Obeys d e text (parse-meaning w)
    → (text ≡ answer_line BAD_TABLE) ⊎ ((R : List Rule) × Run d.table R × PrintsVerdict R w text)
parsed {d} (no_table z) p = inl (bad_table (no_sets-no_table d.table z) tt p).0
parsed {d} {e} {w} (run {R} r) (parses p k) = inr (
  R,
  r,
  record {
    answer = number_of (answer_of_parse p.verdict);
    links = links_with p.verdict;
    sets = in_use (view e.table);
    printed = p.printed;
    decides = decides r p.parses (λ h. demand2.verdict-by_history h d.pool w);
  },
)

pub script-verdict : {d e : State} {script line text w : List ℕ} → LineOf blank script d line e text → Means line (parse-meaning w)
    → (text ≡ answer_line BAD_TABLE) ⊎ ((R : List Rule) × Run d.table R × PrintsVerdict R w text)
script-verdict {d} {e} {text = text} l m =
    let (a, p) = before-line blank-at_desk l in parsed a (subst (Obeys d e text) (means-one p.means m) p.obeys)
