-- Each refusal by a check of the real calls, exactly when 01 says: 10 and 11, Parse's 18 and 19, and of Add and Delete 12 to 14 and, after
-- any sequence, 15 to 17 by the rules that it left. Assumes nothing.
use mathlib.Core.Path.{◌≡◌, refl, sym, ◌∙◌, subst}
use mathlib.Core.Logic.{◌↔◌, ◌≢◌, ◌⊎◌, inl, inr, ⊎_elim}
use mathlib.Core.List.Memᴰ
use mathlib.Core.List.{List, Memᴰ as In}
use Prim.Native.Nat.{ℕ, ◌≤◌, ◌<◌}
use native.Mathlib.Omega.{arith}
use lib.Dec.{T, eqb, ltb, leb}
use lib.ListN.{length}
use Rattle.std.specs.Prelude.{Result}
use Rattle.laws.proofs.Choice.{when-cases}
use Rattle.laws.proofs.Tables.{length_tab}
use Rattle.symbols.specs.Symbol.{nonterminal, all_on_right, rule_answer}
use Rattle.symbols.specs.Answer.{DONE, BAD_POOL, BAD_TABLE, THERE, NOT_THERE, NO_RULES, LONG_LINE, BAD_TOKEN}
use Rattle.symbols.specs.Answer.{number_of, answer_of_parse}
use Rattle.symbols.specs.declared.refusal.Refusal.{Refusal}
use Rattle.symbols.specs.declared.verdict.Verdict.{Verdict}
use Rattle.theory.specs.Table.{WITHDRAWN, Table}
use Rattle.theory.specs.Expansion.{collected}
use Rattle.theory.specs.Parse.{Outcome, outcome}
use Rattle.theory.specs.Calls as calls
use Rattle.theory.specs.Calls.{all_tokens, is_rule, is_free, lowest_rule, is_there, is_full}
use Rattle.theory.specs.Made.{Call, Rule, rule}
use Rattle.theory.specs.Answers.{answers_of}
use Rattle.theory.proofs.History.{checked-is}
use Rattle.theory.proofs.ParseCall as parse-Call
use Rattle.theory.proofs.RuleAnswers as theory
use Rattle.table.specs.Layout.{Mem, rules_in, rule_seen, view}
use Rattle.table.specs.Laid.{Formed}
use Rattle.table.specs.Becomes.{Promised}
use Rattle.changes.specs.Change.{Fits}
use Rattle.generator.specs.Calls.{NewPromised}
use Rattle.links.specs.Records.{numbers_for}
use Rattle.recogniser.specs.Parse.{Parses}
use Rattle.demands.specs.Run.{Called, Run}
use Rattle.demands.specs.Run.Called.{new, add, delete, collect, restart, parse}
use Rattle.demands.proofs.Made.{of_lent, of_answer}

-- ---- New: "sizes .. outside its range, or the slices lent for them too short"

pub new-bad_pool : {m n : Mem} {s r a : ℕ} → NewPromised m n s r a → (a ≡ BAD_POOL) ↔ (Fits m s r → ⊥)
new-bad_pool p = (λ e f. let (z, b) = p.made f in omega arith, λ d. (p.bad_pool d).0)

-- ---- "not in form, or (all calls but New) table slices shorter than its sizes need"

rule_not : (x : ℕ) (w : List ℕ) → rule_answer x w ≢ BAD_TABLE
unfolding rule_answer
rule_not x w =
    when-cases (λ a. a ≢ BAD_TABLE) (nonterminal x)
    (λ e. when-cases (λ a. a ≢ BAD_TABLE) (leb (length w) 7)
    (λ e. when-cases (λ a. a ≢ BAD_TABLE) (all_on_right w) (λ e z. omega arith) (λ e z. omega arith))
    (λ e z. omega arith)) (λ e z. omega arith)

Other : Outcome → Type 0
Other o = o.answer ≢ BAD_TABLE

add-other : (t : Table) (x : ℕ) (w : List ℕ) → Other (calls.add_in_form t x w)
unfolding Other
add-other t x w =
    when-cases Other (eqb (rule_answer x w) DONE)
    (λ e. when-cases Other (is_there t x w) (λ e z. omega arith)
    (λ e. when-cases Other (is_full t) (λ e z. omega arith)
    (λ e. when-cases Other (ltb (lowest_rule (is_rule WITHDRAWN x w) t.rules) (length t.rules)) (λ e z. omega arith)
    (λ e. when-cases Other (ltb (lowest_rule is_free t.rules) (length t.rules)) (λ e z. omega arith) (λ e z. omega arith)))))
    (λ e. rule_not x w)

delete-other : (t : Table) (x : ℕ) (w : List ℕ) → Other (calls.delete_in_form t x w)
unfolding Other
delete-other t x w =
    when-cases Other (eqb (rule_answer x w) DONE)
    (λ e. when-cases Other (is_there t x w) (λ e z. omega arith) (λ e z. omega arith)) (λ e. rule_not x w)

checks_form : (call : Table → Outcome) → ((t : Table) → Other (call t)) → {m n : Mem} {a k : ℕ}
    → Promised (λ t. calls.checked t (call t)) m n a k → (a ≡ BAD_TABLE) ↔ (Formed m → ⊥)
unfolding Other
checks_form call other {m} p = (
  λ e f. subst Other (sym (checked-is f.form (call (view m)))) (other (view m)) (sym (p.answer f) ∙ e),
  λ d. (p.no_table d).0,
)

pub bad_table : {c : Call} {m n : Mem} {a k : ℕ} → Called c m n a k → In BAD_TABLE (answers_of c) → (a ≡ BAD_TABLE) ↔ (Formed m → ⊥)
unfolding Other
bad_table (new p z) i = absurd (⊎_elim (λ e. omega arith)
    (λ j. ⊎_elim (λ e. omega arith) Memᴰ.not-nil (Memᴰ.cases_cons j)) (Memᴰ.cases_cons i))
bad_table (add {x = x} {w = w} p) i = checks_form (λ t. calls.add_in_form t x w) (λ t. add-other t x w) p
bad_table (delete {x = x} {w = w} p) i = checks_form (λ t. calls.delete_in_form t x w) (λ t. delete-other t x w) p
bad_table (collect p) i = checks_form (λ t. outcome DONE 0 (collected t)) (λ t z. omega arith) p
bad_table (restart p) i = checks_form (λ t. outcome DONE 0 (calls.restarted t)) (λ t z. omega arith) p
bad_table (parse {m = m} {pool = pool} {line = line} p e f) i = (
  λ z g. of_lent g p Other (λ h. parse-Call.in_form_passes (view m) g.form pool line) (λ h z. omega arith) (e ∙ z),
  λ d. sym e ∙ (p.promised.no_table d).0,
)

-- ---- Parse on a table in form: "10 (links), 18, 19"

module _ {m n : Mem} {b c : List ℕ} {pool : ℕ} {line : List ℕ} {v : Result Verdict Refusal}
    (f : Formed m) (p : Parses pool line m n b c v) where
  pub parse-bad_pool : (number_of (answer_of_parse v) ≡ BAD_POOL) ↔ ((4096 < pool) ⊎ (length b < numbers_for pool))
  parse-bad_pool = of_lent f p (λ o. (o.answer ≡ BAD_POOL) ↔ ((4096 < pool) ⊎ (length b < numbers_for pool)))
      (λ h. let (to, from) = parse-Call.bad_pool-exactly (view m) f.form pool line in
      (λ e. inl (to e), ⊎_elim from (λ l. absurd (omega arith))))
      (λ h. (λ e. inr h, λ e. refl))

  pub parse-long_line : (number_of (answer_of_parse v) ≡ LONG_LINE) ↔ ((pool ≤ 4096) × (numbers_for pool ≤ length b) × (255 < length line))
  parse-long_line = of_lent f p (λ o. (o.answer ≡ LONG_LINE) ↔ ((pool ≤ 4096) × (numbers_for pool ≤ length b) × (255 < length line)))
      (λ h. let (to, from) = parse-Call.long_line-exactly (view m) f.form pool line in
      (λ e. let (l, s) = to e in (l, h, s), λ (l, k, s). from (l, s)))
      (λ h. (λ e. absurd (omega arith), λ (l, k, s). absurd (omega arith)))

  pub parse-bad_token : (number_of (answer_of_parse v) ≡ BAD_TOKEN)
      ↔ ((pool ≤ 4096) × (numbers_for pool ≤ length b) × (length line ≤ 255) × (T (all_tokens line) → ⊥))
  parse-bad_token =
      of_lent f p
      (λ o. (o.answer ≡ BAD_TOKEN) ↔ ((pool ≤ 4096) × (numbers_for pool ≤ length b) × (length line ≤ 255) × (T (all_tokens line) → ⊥)))
      (λ h. let (to, from) = parse-Call.bad_token-exactly (view m) f.form pool line in
      (λ e. let (l, s, d) = to e in (l, h, s, d), λ (l, k, s, d). from (l, s, d)))
      (λ h. (λ e. absurd (omega arith), λ (l, k, s, d). absurd (omega arith)))

-- ---- Add and Delete after any sequence: "12, 13, 14, then 15 or 16, then (Add) 17"

module _ {m n : Mem} {R : List Rule} (r : Run m R) (x : ℕ) (w : List ℕ) {a k : ℕ} where
  pub add_bad_rule : Promised (λ t. calls.add t x w) m n a k → rule_answer x w ≢ DONE → a ≡ rule_answer x w
  add_bad_rule p d = of_answer r p (λ a. a ≡ rule_answer x w) (λ h. theory.add_bad_rule h x w d)

  pub delete_bad_rule : Promised (λ t. calls.delete t x w) m n a k → rule_answer x w ≢ DONE → a ≡ rule_answer x w
  delete_bad_rule p d = of_answer r p (λ a. a ≡ rule_answer x w) (λ h. theory.delete_bad_rule h x w d)

  module _ (passed : rule_answer x w ≡ DONE) where
    pub there-exactly : Promised (λ t. calls.add t x w) m n a k → (a ≡ THERE) ↔ In (rule x w) R
    there-exactly p = of_answer r p (λ a. (a ≡ THERE) ↔ In (rule x w) R) (λ h. theory.there-exactly h x w passed)

    pub not_there-exactly : Promised (λ t. calls.delete t x w) m n a k → (a ≡ NOT_THERE) ↔ (In (rule x w) R → ⊥)
    not_there-exactly p = of_answer r p (λ a. (a ≡ NOT_THERE) ↔ (In (rule x w) R → ⊥)) (λ h. theory.not_there-exactly h x w passed)

    pub no_rules-exactly : Promised (λ t. calls.add t x w) m n a k
        → (a ≡ NO_RULES) ↔ ((In (rule x w) R → ⊥) × (length R ≡ rules_in m.rules))
    no_rules-exactly p = of_answer r p (λ a. (a ≡ NO_RULES) ↔ Full (rules_in m.rules)) (λ h.
        subst (λ k. ((calls.add (view m) x w).answer ≡ NO_RULES) ↔ Full k) (length_tab (rules_in m.rules) (rule_seen m.rules))
        (theory.no_rules-exactly h x w passed))
      where
        Full : ℕ → Type 0
        Full size = (In (rule x w) R → ⊥) × (length R ≡ size)
