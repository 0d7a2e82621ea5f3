-- No second outcome fits a contract of the library: answers, numbers and every lent number are determined. One law for each kind of
-- contract. Assumes nothing.
use mathlib.Core.Bool.{Bool, true, false}
use mathlib.Core.Path.{◌≡◌, refl, sym, ap, ◌∙◌}
use mathlib.Core.List.{List, []}
use Prim.Native.Nat.{ℕ, ◌*◌, ◌<◌}
use native.Mathlib.Decide.{dec_lt}
use native.Mathlib.Omega.{arith}
use lib.ListN.{length}
use Rattle.laws.specs.Choice.{Tells}
use Rattle.symbols.specs.Answer.{number_of, answer_of_parse, links_with}
use Rattle.kernels.specs.Kernel.{Least}
use Rattle.theory.specs.Table.{Table}
use Rattle.theory.specs.Parse.{Outcome}
use Rattle.table.specs.Layout.{Mem}
use Rattle.table.specs.Laid.{Formed}
use Rattle.table.specs.Becomes.{Promised}
use Rattle.table.proofs.OneOutcome.{SameLengths}
use Rattle.form.proofs.OneOutcome as form
use Rattle.generator.specs.Calls.{NewPromised}
use Rattle.generator.proofs.OneOutcome as generator
use Rattle.recogniser.proofs.OneOutcome as recogniser
use Rattle.skydoublet.specs.Parse.{ParsesTo}
use Rattle.skydoublet.specs.Told.{Told, ToldInUse, ToldBit, ToldNext}

-- ---- 01's calls. The slices are as long as each other: a lent slice keeps its length, whatever is called.

pub new-once : {m n n' : Mem} {s r a a' : ℕ} → NewPromised m n s r a → NewPromised m n' s r a' → SameLengths n n' → (n ≡ n') × (a ≡ a')
new-once = generator.one-outcome

-- Add, Delete, Collect, Restart
pub call-once : {call : Table → Outcome} {m n n' : Mem} {a a' k k' : ℕ} → Promised call m n a k → Promised call m n' a' k'
    → SameLengths n n' → (n ≡ n') × (a ≡ a') × (k ≡ k')
call-once = form.one-outcome

pub parse-once : {pool : ℕ} {line : List ℕ} {m n n' : Mem} {b c c' : List ℕ} {a a' k k' : ℕ}
    → ParsesTo pool line m n b c a k → ParsesTo pool line m n' b c' a' k'
    → SameLengths n n' → length c ≡ length c' → (n ≡ n') × (c ≡ c') × (a ≡ a') × (k ≡ k')
parse-once p q same room =
    let (table, links, verdict) = recogniser.one-outcome p.promise q.promise same room in (
      table,
      links,
      p.answer ∙ ap (λ v. number_of (answer_of_parse v)) verdict ∙ sym q.answer,
      p.links ∙ ap links_with verdict ∙ sym q.links,
    )

-- the form test
pub formed-once : (m : Mem) (r r' : Bool) → Tells r (Formed m) → Tells r' (Formed m) → r ≡ r'
formed-once m true true p q = refl
formed-once m true false p q = absurd (q p)
formed-once m false true p q = absurd (p q)
formed-once m false false p q = refl

-- ---- what is read, and the sizes

pub told-once : {There : Type 0} {r r' value other : ℕ} → Told There r value other → Told There r' value other → r ≡ r'
told-once {r = r} {r'} p q =
    generator.stable r r' (generator.either (λ h. p.there h ∙ sym (q.there h)) (λ h. p.not_there h ∙ sym (q.not_there h)))

pub in_use-once : {rs cells : List ℕ} {r r' : ℕ} → ToldInUse rs cells r → ToldInUse rs cells r' → r ≡ r'
in_use-once {rs} {r = r} {r'} p q =
    generator.stable r r'
    (generator.either (λ h. (p.there h).exact rs [] refl ∙ sym ((q.there h).exact rs [] refl)) (λ h. p.not_there h ∙ sym (q.not_there h)))

-- of two least bits neither is below the other
not_below : {ws : List ℕ} {at n from r r' : ℕ} → Least ws at n from r → Least ws at n from r' → r < r' → ⊥
not_below {r = r} p q l = let e = q.none r p.above l in omega (arith, p.there)

bit-once : {ws : List ℕ} {at n from r r' : ℕ} → ToldBit ws at n from r → ToldBit ws at n from r' → r ≡ r'
bit-once {n = n} {r = r} {r'} p q = elim (dec_lt r (n * 64)) [
  | yes h ↦ elim (dec_lt r' (n * 64)) [
    | yes k ↦ elim (dec_lt r r') [
      | yes l ↦ absurd (not_below (p.bit h) (q.bit k) l)
      | no l ↦ elim (dec_lt r' r) [ yes g ↦ absurd (not_below (q.bit k) (p.bit h) g) | no g ↦ omega arith ]
    ]
    | no k ↦ let e = (q.none (omega arith)).1 r (p.bit h).above h in absurd (omega (arith, (p.bit h).there))
  ]
  | no h ↦ elim (dec_lt r' (n * 64)) [
    | yes k ↦ let e = (p.none (omega arith)).1 r' (q.bit k).above k in absurd (omega (arith, (q.bit k).there))
    | no k ↦ (p.none (omega arith)).0 ∙ sym (q.none (omega arith)).0
  ]
]

pub next-once : {ws : List ℕ} {s k n from r r' : ℕ} → ToldNext ws s k n from r → ToldNext ws s k n from r' → r ≡ r'
next-once {r = r} {r'} p q =
    generator.stable r r' (generator.either (λ h. bit-once (p.there h) (q.there h)) (λ h. p.not_there h ∙ sym (q.not_there h)))
