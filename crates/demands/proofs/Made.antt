-- Numbers that a sequence of calls made hold a table in form, and one that the model's calls make. Assumes nothing.
use mathlib.Core.Path.{◌≡◌, refl, sym, ◌∙◌, ap, subst}
use mathlib.Core.Bool.{Bool, true, false}
use mathlib.Core.Logic.{◌↔◌, ◌⊎◌, inl, inr, ⊎_elim}
use mathlib.Core.List.{List, [], ◌∷◌}
use Prim.Native.Nat.{ℕ, ◌+◌, ◌*◌, ◌≤◌, ◌<◌}
use native.Mathlib.Decide.{dec_le}
use native.Mathlib.Omega.{arith}
use lib.Dec.{T, eqb, leb, leb→le, le→leb}
use lib.ListN.{length}
use Rattle.std.specs.Prelude.{Result}
use Rattle.laws.specs.Choice.{◌and◌, when}
use Rattle.laws.proofs.Choice.{when-cases}
use Rattle.laws.proofs.Tests.{tests, passes, fails}
use Rattle.symbols.specs.Symbol.{START}
use Rattle.symbols.specs.Answer.{DONE, ACCEPT, BAD_POOL, number_of, answer_of_parse, links_with}
use Rattle.symbols.specs.declared.refusal.Refusal.{Refusal}
use Rattle.symbols.specs.declared.verdict.Verdict.{Verdict}
use Rattle.theory.specs.Derivation.{Grammar, Derives}
use Rattle.theory.specs.Table.{Table}
use Rattle.theory.specs.Parse.{Outcome, outcome}
use Rattle.theory.specs.Calls as calls
use Rattle.theory.specs.Made.{Rule, Call, called, leaves, left, Made}
use Rattle.theory.specs.Made.Call.{add as add-call, delete as delete-call, collect as collect-call, restart as restart-call}
use Rattle.theory.specs.Made.Made.{made, after as after_call}
use Rattle.theory.specs.Answers.{LeavesAll, IsVerdict, Decides}
use Rattle.theory.proofs.Demand2.{still_made}
use Rattle.theory.proofs.Demand3.{in_form_lem}
use Rattle.theory.proofs.History.{checked-is}
use Rattle.table.specs.Layout.{Mem, view}
use Rattle.table.specs.Laid.{Formed}
use Rattle.table.specs.Becomes.{Becomes, Promised}
use Rattle.changes.specs.Change.{Fits}
use Rattle.generator.specs.Calls.{NewPromised}
use Rattle.links.specs.Records.{numbers_for}
use Rattle.recogniser.specs.Parse.{lent_parse, Parses}
use Rattle.demands.specs.Run.{Called, Run}
use Rattle.demands.specs.Run.Called.{new, add, delete, collect, restart, parse}
use Rattle.demands.specs.Run.Run.{begun, after}

-- numbers that hold a made table
pub record Holds (m : Mem) (R : List Rule) : Type 0 where
  pub formed : Formed m
  pub made : Made (view m) R

holds : {m n : Mem} {t : Table} {R : List Rule} → Becomes m n t → Made t R → Holds n R
holds {n = n} {t} {R} b h =
    let k : Made (view n) R = subst (λ t. Made t R) (sym b.seen) h in
    record { formed = record { laid = b.laid; form = in_form_lem k }; made = k }

-- ---- New, by its test

fits : Mem → ℕ → ℕ → Bool
fits m s r =
    calls.pools_in_range s r and leb (2 + r * 10) (length m.rules) and leb (s * 128) (length m.sets.cells)
    and leb (s * 18) (length m.sets.words)

fits-is : (m : Mem) (s r : ℕ) → T (fits m s r) ↔ Fits m s r
unfolding fits
fits-is m s r = (
  λ t. let (a, (b, (c, d))) = simp tests at t in record { in_range = a; rules = b; cells = c; words = d },
  λ z. simp tests (z.in_range, (z.rules, (z.cells, z.words))),
)

pub new_or : {m n : Mem} {s r a : ℕ} → NewPromised m n s r a
    → (Fits m s r × (a ≡ DONE) × Becomes m n (calls.new_table s r)) ⊎ ((a ≡ BAD_POOL) × (n ≡ m))
new_or {m} {n} {s} {r} {a} p = go (fits m s r) refl
  where
    go : (b : Bool) → fits m s r ≡ b → (Fits m s r × (a ≡ DONE) × Becomes m n (calls.new_table s r)) ⊎ ((a ≡ BAD_POOL) × (n ≡ m))
    go true e = let f = (fits-is m s r).0 (passes e) in let (z, b) = p.made f in inl (f, z, b)
    go false e = inr (p.bad_pool (λ f. fails e ((fits-is m s r).1 f)))

pub new-holds : {m n : Mem} {s r a : ℕ} → NewPromised m n s r a → ((a ≡ DONE) × Holds n []) ⊎ ((a ≡ BAD_POOL) × (n ≡ m))
new-holds {s = s} {r} p = ⊎_elim (λ (f, z, b). inl (z, holds b (made s r f.in_range refl))) inr (new_or p)

-- ---- a call on a table

call-holds : {m n : Mem} {R R' : List Rule} (c : Call) (a k : ℕ) → Holds m R → Promised (called c) m n a k → left c a R ≡ R' → Holds n R'
call-holds {R = R} c a k H p e =
    holds (p.table H.formed) (after_call c H.made refl (ap (λ a. left c a R) (sym (p.answer H.formed)) ∙ e))

-- ---- Parse, by the room for its links

pub lent : (b : List ℕ) (pool : ℕ) (line : List ℕ) (t : Table) (P : Outcome → Type 0)
    → (numbers_for pool ≤ length b → P (calls.parse t pool line))
    → (length b < numbers_for pool → P (calls.checked t (calls.refused BAD_POOL t))) → P (lent_parse b pool line t)
lent b pool line t P f g =
    let need = numbers_for pool in
    when-cases P (leb need (length b)) (λ e. f (leb→le need (length b) (passes e)))
    (λ e. g (elim (dec_le need (length b)) [ yes h ↦ absurd (fails e (le→leb need (length b) h)) | no h ↦ omega arith ]))

module _ {m n : Mem} {pool : ℕ} {line b c : List ℕ} {v : Result Verdict Refusal} (f : Formed m) (p : Parses pool line m n b c v) where
  -- what holds of the model's outcome, with room and without, holds of what the call answers and leaves
  pub of_lent : (P : Outcome → Type 0) → (numbers_for pool ≤ length b → P (calls.parse (view m) pool line))
      → (length b < numbers_for pool → P (calls.refused BAD_POOL (view m)))
      → P (outcome (number_of (answer_of_parse v)) (links_with v) (view n))
  of_lent P roomy short =
      let a = p.promised.answer f in
      let k = p.promised.number f in
      let t = (p.promised.table f).seen in
      subst P (sym (λ i. record { answer = a i; number = k i; table = t i }))
      (lent b pool line (view m) P roomy (λ h. subst P (sym (checked-is f.form (calls.refused BAD_POOL (view m)))) (short h)))

module _ {m n : Mem} {R : List Rule} {pool : ℕ} {line b c : List ℕ} {v : Result Verdict Refusal}
    (H : Holds m R) (p : Parses pool line m n b c v) where
  parse-holds : Holds n R
  parse-holds =
      let made = of_lent H.formed p (λ o. Made o.table R) (λ h. still_made H.made pool line) (λ h. H.made) in
      record { formed = record { laid = (p.promised.table H.formed).laid; form = in_form_lem made }; made = made }

  -- what no check refused had room
  past_room : (LeavesAll (number_of (answer_of_parse v)) → ⊥) → numbers_for pool ≤ length b
  past_room =
      of_lent H.formed p (λ o. (LeavesAll o.answer → ⊥) → numbers_for pool ≤ length b) (λ h d. h)
      (λ h d. absurd (d (omega arith, omega arith)))

-- ---- any sequence

same-rules : (c : Call) (a : ℕ) (R : List Rule) → leaves c R ≡ R → left c a R ≡ R
same-rules c a R e = when-cases (λ (S : List Rule). S ≡ R) (eqb a DONE) (λ b. e) (λ b. refl)

called-holds : {m n : Mem} {R R' : List Rule} {c : Call} {a k : ℕ} → Holds m R → Called c m n a k → left c a R ≡ R' → Holds n R'
unfolding when
called-holds {R = R} {R'} {c} H (new p z) e =
    ⊎_elim (λ (z, h). subst (Holds _) (ap (λ a. left c a R) (sym z) ∙ e) h)
    (λ (z, k). subst (λ m. Holds m R') (sym k) (subst (Holds _) (ap (λ a. left c a R) (sym z) ∙ e) H)) (new-holds p)
called-holds H (add {x = x} {w = w} p) e = call-holds (add-call x w) _ _ H p e
called-holds H (delete {x = x} {w = w} p) e = call-holds (delete-call x w) _ _ H p e
called-holds H (collect p) e = call-holds collect-call _ _ H p e
called-holds H (restart p) e = call-holds restart-call _ _ H p e
called-holds {R = R} {c = c} {a} H (parse p ea ek) e = subst (Holds _) (sym (same-rules c a R refl) ∙ e) (parse-holds H p)

pub run_holds : {m : Mem} {R : List Rule} → Run m R → Holds m R
run_holds (begun s r p) = ⊎_elim (λ (z, h). h) (λ (z, e). absurd (omega arith)) (new-holds p)
run_holds (after r p e) = called-holds (run_holds r) p e

-- ---- so what is known of the model's calls on made tables is known of the real ones

module _ {m n : Mem} {R : List Rule} {pool : ℕ} {line b c : List ℕ} {v : Result Verdict Refusal}
    (r : Run m R) (p : Parses pool line m n b c v) where
  pub of_parse : numbers_for pool ≤ length b → (P : Outcome → Type 0) → (Made (view m) R → P (calls.parse (view m) pool line))
      → P (outcome (number_of (answer_of_parse v)) (links_with v) (view n))
  of_parse h P f = let H = run_holds r in of_lent H.formed p P (λ k. f H.made) (λ k. absurd (omega arith))

  -- past the checks nothing is asked
  pub of_past : (LeavesAll (number_of (answer_of_parse v)) → ⊥) → (P : Outcome → Type 0)
      → (Made (view m) R → P (calls.parse (view m) pool line))
      → P (outcome (number_of (answer_of_parse v)) (links_with v) (view n))
  of_past d = of_parse (past_room (run_holds r) p d)

  pub of_verdict : (P : Outcome → Type 0)
      → (Made (view m) R → IsVerdict (calls.parse (view m) pool line).answer → P (calls.parse (view m) pool line))
      → IsVerdict (number_of (answer_of_parse v)) → P (outcome (number_of (answer_of_parse v)) (links_with v) (view n))
  of_verdict P f a = of_past (λ (h, l). ⊎_elim (λ e. omega arith) (λ e. omega arith) a) (λ o. IsVerdict o.answer → P o) f a

  pub decides : {G : Grammar} → (Made (view m) R → Decides G line (calls.parse (view m) pool line).answer)
      → Decides G line (number_of (answer_of_parse v))
  decides {G} = of_verdict (λ o. (o.answer ≡ ACCEPT) ↔ Derives G (START ∷ []) line)

pub of_answer : {call : Table → Outcome} {m n : Mem} {R : List Rule} {a k : ℕ} → Run m R → Promised call m n a k
    → (P : ℕ → Type 0) → (Made (view m) R → P (call (view m)).answer) → P a
of_answer r p P f = let H = run_holds r in subst P (sym (p.answer H.formed)) (f H.made)

pub of_change : {call : Table → Outcome} {m n : Mem} {R : List Rule} {k : ℕ} → Run m R → Promised call m n DONE k
    → (P : Table → Type 0) → (Made (view m) R → (call (view m)).answer ≡ DONE → P (call (view m)).table) → P (view n)
of_change r p P f = let H = run_holds r in subst P (sym (p.table H.formed).seen) (f H.made (sym (p.answer H.formed)))
