-- What every call answers and what a refusal leaves, on any lent numbers. Assumes nothing.
use mathlib.Core.Path.{◌≡◌, refl, sym, ◌∙◌, subst}
use mathlib.Core.Logic.{⊎_elim}
use mathlib.Core.List.Memᴰ
use mathlib.Core.List.Memᴰ.{head as here}
use mathlib.Core.List.Memᴰ.{tail as there}
use mathlib.Core.List.{List, Memᴰ as In}
use Prim.Native.Nat.{ℕ, ◌≤◌}
use native.Mathlib.Omega.{arith}
use Rattle.std.specs.Prelude.{Result}
use Rattle.laws.proofs.Choice.{when-cases}
use Rattle.symbols.specs.Answer.{BAD_POOL, BAD_TABLE, number_of, answer_of_parse}
use Rattle.symbols.specs.declared.refusal.Refusal.{Refusal}
use Rattle.symbols.specs.declared.verdict.Verdict.{Verdict}
use Rattle.theory.specs.Table.{Table}
use Rattle.theory.specs.Parse.{Outcome}
use Rattle.theory.specs.Form.{in_form}
use Rattle.theory.specs.Calls as calls
use Rattle.theory.specs.Made.{Call}
use Rattle.theory.specs.Made.Call.{add as add-call, delete as delete-call, collect as collect-call, restart as restart-call}
use Rattle.theory.specs.Made.Call.{parse as parse-Call}
use Rattle.theory.specs.Answers.{LeavesAll, answers_of}
use Rattle.theory.proofs.Answers as answers
use Rattle.theory.proofs.Refusals.{Refusing, refusing}
use Rattle.table.specs.Layout.{Mem, view}
use Rattle.table.specs.Laid.{Formed}
use Rattle.table.specs.Becomes.{Becomes, Promised}
use Rattle.table.proofs.OneOutcome.{SameLengths, one_memory}
use Rattle.form.proofs.Formed.{formed_dec}
use Rattle.recogniser.specs.Parse.{lent_parse, Parses}
use Rattle.demands.specs.Run.{Called}
use Rattle.demands.specs.Run.Called.{new, add, delete, collect, restart, parse}
use Rattle.demands.proofs.Made.{new_or, lent}

-- ---- the answers

promised-answers : {call : Table → Outcome} {m n : Mem} {a k : ℕ} (l : List ℕ) → In BAD_TABLE l → ((t : Table) → In (call t).answer l)
    → Promised call m n a k → In a l
promised-answers {m = m} l i f p =
    ⊎_elim (λ g. Memᴰ.cast (p.answer g) (f (view m))) (λ g. Memᴰ.cast (p.no_table g).0 i) (formed_dec m)

pub one_of_its_answers : {c : Call} {m n : Mem} {a k : ℕ} → Called c m n a k → In a (answers_of c)
one_of_its_answers (new p z) = ⊎_elim (λ (f, e, b). here e) (λ (e, q). there (here e)) (new_or p)
one_of_its_answers (add {x = x} {w = w} p) =
    promised-answers _ (there (here refl)) (answers.one_of_its_answers (add-call x w)) p
one_of_its_answers (delete {x = x} {w = w} p) =
    promised-answers _ (there (here refl)) (answers.one_of_its_answers (delete-call x w)) p
one_of_its_answers (collect p) = promised-answers _ (there (here refl)) (answers.one_of_its_answers collect-call) p
one_of_its_answers (restart p) = promised-answers _ (there (here refl)) (answers.one_of_its_answers restart-call) p
one_of_its_answers (parse {pool = pool} {line = line} {b = b} p e f) =
    Memᴰ.cast (sym e) (promised-answers (answers_of (parse-Call pool line)) bad_table of p.promised)
  where
    bad_pool : In BAD_POOL (answers_of (parse-Call pool line))
    bad_pool = there (there (here refl))

    bad_table : In BAD_TABLE (answers_of (parse-Call pool line))
    bad_table = there (there (there (here refl)))

    of : (t : Table) → In (lent_parse b pool line t).answer (answers_of (parse-Call pool line))
    of t = lent b pool line t (λ o. In o.answer (answers_of (parse-Call pool line)))
        (λ h. answers.one_of_its_answers (parse-Call pool line) t)
        (λ h. when-cases (λ (o : Outcome). In o.answer (answers_of (parse-Call pool line))) (in_form t) (λ e. bad_pool) (λ e. bad_table))

-- ---- what a refusal leaves

-- numbers that are laid out stay the same if they hold the same table afterwards
same_numbers : {m n : Mem} → Formed m → Becomes m n (view m) → SameLengths n m → n ≡ m
same_numbers {m} {n} f b l =
    one_memory m n m (view m) b (record { laid = f.laid; seen = refl; rules = λ k h. refl; cells = λ k h. refl; words = λ k h. refl }) l

lent_refusing : (b : List ℕ) (pool : ℕ) (line : List ℕ) (t : Table) → Refusing t (lent_parse b pool line t)
lent_refusing b pool line t =
    lent b pool line t (Refusing t) (λ h. refusing (parse-Call pool line) t)
    (λ h. when-cases (Refusing t) (in_form t) (λ e. refused) (λ e. refused))
  where
    refused : {a : ℕ} → Refusing t (calls.refused a t)
    refused = record { leaves = λ l. refl; number = λ h. refl }

module _ {call : Table → Outcome} (f : (t : Table) → Refusing t (call t)) {m n : Mem} {a k : ℕ} (p : Promised call m n a k) where
  promised-leaves : SameLengths n m → LeavesAll a → n ≡ m
  promised-leaves l r = ⊎_elim
      (λ g. same_numbers g (subst (Becomes m n) ((f (view m)).leaves (subst LeavesAll (p.answer g) r)) (p.table g)) l)
      (λ g. (p.no_table g).2) (formed_dec m)

  promised-number : BAD_POOL ≤ a → k ≡ 0
  promised-number h = ⊎_elim
      (λ g. p.number g ∙ (f (view m)).number (subst (λ a. BAD_POOL ≤ a) (p.answer g) h)) (λ g. (p.no_table g).1) (formed_dec m)

pub refusal-leaves-all : {c : Call} {m n : Mem} {a k : ℕ} → Called c m n a k → SameLengths n m → LeavesAll a → n ≡ m
refusal-leaves-all (new p z) l (h, g) = ⊎_elim (λ (f, e, b). absurd (omega arith)) (λ (e, q). q) (new_or p)
refusal-leaves-all (add {x = x} {w = w} p) l r = promised-leaves (refusing (add-call x w)) p l r
refusal-leaves-all (delete {x = x} {w = w} p) l r = promised-leaves (refusing (delete-call x w)) p l r
refusal-leaves-all (collect p) l r = promised-leaves (refusing collect-call) p l r
refusal-leaves-all (restart p) l r = promised-leaves (refusing restart-call) p l r
refusal-leaves-all (parse {pool = pool} {line = line} {b = b} p e f) l r =
    promised-leaves (lent_refusing b pool line) p.promised l (subst LeavesAll (sym e) r)

pub refusal-number : {c : Call} {m n : Mem} {a k : ℕ} → Called c m n a k → BAD_POOL ≤ a → k ≡ 0
refusal-number (new p z) h = z
refusal-number (add {x = x} {w = w} p) h = promised-number (refusing (add-call x w)) p h
refusal-number (delete {x = x} {w = w} p) h = promised-number (refusing (delete-call x w)) p h
refusal-number (collect p) h = promised-number (refusing collect-call) p h
refusal-number (restart p) h = promised-number (refusing restart-call) p h
refusal-number (parse {pool = pool} {line = line} {b = b} p e f) h =
    sym f ∙ promised-number (lent_refusing b pool line) p.promised (subst (λ a. BAD_POOL ≤ a) (sym e) h)

pub refusal-leaves-links : {pool : ℕ} {line b c : List ℕ} {m n : Mem} {v : Result Verdict Refusal} → Parses pool line m n b c v
    → LeavesAll (number_of (answer_of_parse v)) → c ≡ b
refusal-leaves-links p (h, l) =
    p.untouched (⊎_elim (λ e. omega arith) (⊎_elim (λ e. omega arith) (⊎_elim (λ e. omega arith) (λ e. omega arith))))
