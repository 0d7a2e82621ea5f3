-- New, Collect, Restart and Parse keep the form of any lent numbers that are formed. Assumes nothing.
use mathlib.Core.Path.{sym, subst}
use mathlib.Core.Logic.{⊎_elim}
use mathlib.Core.List.{List}
use Prim.Native.Nat.{ℕ}
use Rattle.std.specs.Prelude.{Result}
use Rattle.symbols.specs.declared.refusal.Refusal.{Refusal}
use Rattle.symbols.specs.declared.verdict.Verdict.{Verdict}
use Rattle.theory.specs.Table.{Table}
use Rattle.theory.specs.Form.{InForm}
use Rattle.theory.specs.Parse.{Outcome}
use Rattle.theory.specs.Calls as calls
use Rattle.theory.proofs.FormNew.{new-in_form}
use Rattle.theory.proofs.FormKept as theory
use Rattle.table.specs.Layout.{Mem, view}
use Rattle.table.specs.Laid.{Formed}
use Rattle.table.specs.Becomes.{Promised}
use Rattle.generator.specs.Calls.{NewPromised}
use Rattle.recogniser.specs.Parse.{Parses}
use Rattle.demands.proofs.Made.{new_or, of_lent}

promised-keeps : {call : Table → Outcome} {m n : Mem} {a k : ℕ} → (InForm (view m) → InForm (call (view m)).table) → Promised call m n a k
    → Formed m → Formed n
promised-keeps g p f = let b = p.table f in record { laid = b.laid; form = subst InForm (sym b.seen) (g f.form) }

pub new-keeps-form : {m n : Mem} {s r a : ℕ} → NewPromised m n s r a → Formed m → Formed n
new-keeps-form {s = s} {r} p f = ⊎_elim
    (λ (z, e, b). record { laid = b.laid; form = subst InForm (sym b.seen) (new-in_form s r z.in_range) })
    (λ (e, q). subst Formed (sym q) f) (new_or p)

pub collect-keeps-form : {m n : Mem} {a k : ℕ} → Promised calls.collect m n a k → Formed m → Formed n
collect-keeps-form {m} = promised-keeps (theory.collect-keeps-form (view m))

pub restart-keeps-form : {m n : Mem} {a k : ℕ} → Promised calls.restart m n a k → Formed m → Formed n
restart-keeps-form {m} = promised-keeps (theory.restart-keeps-form (view m))

pub parse-keeps-form : {pool : ℕ} {line b c : List ℕ} {m n : Mem} {v : Result Verdict Refusal}
    → Parses pool line m n b c v → Formed m → Formed n
parse-keeps-form {pool} {line} {m = m} p f = record {
  laid = (p.promised.table f).laid;
  form = of_lent f p (λ o. InForm o.table) (λ h. theory.parse-keeps-form (view m) f.form pool line) (λ h. f.form);
}
