-- From what a call does on a table in form to what it promises on any numbers. Assumes nothing.
use mathlib.Core.List.{List}
use mathlib.Core.Path.{◌≡◌, refl, sym, ap, subst, ◌∙◌}
use Prim.Native.Nat.{ℕ}
use lib.Dec.{T, eqb}
use lib.ListN.{length, length-set, length-map}
use Rattle.laws.proofs.Choice.{when-cases}
use Rattle.laws.proofs.Tables.{length_tab}
use Rattle.symbols.specs.Symbol.{START}
use Rattle.theory.specs.Table.{RulePlace, SetPlace, Table}
use Rattle.theory.specs.Parse.{Outcome, outcome}
use Rattle.theory.specs.Form.{in_form}
use Rattle.theory.specs.Expansion.{collected}
use Rattle.theory.specs.Calls.{refused, checked, touched}
use Rattle.theory.proofs.Form.{in_form_lem}
use Rattle.table.specs.Layout.{Mem, view}
use Rattle.table.specs.Laid.{Formed}
use Rattle.table.specs.Becomes.{Becomes, Promised}
use Rattle.table.proofs.Becoming.{becomes-none}
use Rattle.generator.specs.Calls.{Does}

-- ---- promises

-- a table in form passes the model's test
passes : (t : Table) (o : Outcome) → T (in_form t) → checked t o ≡ o
passes t o f = when-cases (λ (p : Outcome). p ≡ o) (in_form t) (λ e. refl) (λ e. absurd (subst T e f))

module _ (call : Table → Outcome) (m n : Mem) (a k : ℕ) where
  pub kept : Formed m → Does (call (view m)) m n a k → Promised (λ t. checked t (call t)) m n a k
  kept f d =
      let e : call (view m) ≡ checked (view m) (call (view m)) = sym (passes (view m) (call (view m)) ((in_form_lem (view m)).1 f.form)) in
      record {
        answer = λ _. d.answer ∙ ap (λ o. o.answer) e;
        number = λ _. d.number ∙ ap (λ o. o.number) e;
        table = λ _. subst (λ (o : Outcome). Becomes m n o.table) e d.table;
        no_table = λ g. absurd (g f);
      }

-- "all untouched"
pub no_table : (call : Table → Outcome) (m : Mem) → (Formed m → ⊥) → Promised call m m 11 0
no_table call m g = record { answer = λ f. absurd (g f); number = λ f. absurd (g f); table = λ f. absurd (g f); no_table = λ _. (refl, refl, refl) }

-- on a table in form
pub does-nothing : {m : Mem} {o : Outcome} {a : ℕ} → Formed m → o ≡ refused a (view m) → Does o m m a 0
does-nothing {m} f e = record { answer = ap (λ o. o.answer) (sym e); number = ap (λ o. o.number) (sym e); table = subst (λ (o : Outcome). Becomes m m o.table) (sym e) (becomes-none f.laid) }

pub does : {m n : Mem} {o : Outcome} {a k : ℕ} {t : Table} → o ≡ outcome a k t → Becomes m n t → Does o m n a k
does {m} {n} e b = record { answer = ap (λ o. o.answer) (sym e); number = ap (λ o. o.number) (sym e); table = subst (λ (o : Outcome). Becomes m n o.table) (sym e) b }

-- ---- the sizes stay
pub touched-length : (rs : List RulePlace) (x : ℕ) (ss : List SetPlace) → length (touched rs x ss) ≡ length ss
touched-length rs x ss = when-cases (λ (l : List SetPlace). length l ≡ length ss) (eqb x START) (λ e. length-set ss 0 _) (λ e. length-map ss _)

pub collected-sets : (t : Table) → length (collected t).sets ≡ length t.sets
collected-sets t = length_tab (length t.sets) _

pub collected-rules : (t : Table) → length (collected t).rules ≡ length t.rules
collected-rules t = length-map t.rules _
