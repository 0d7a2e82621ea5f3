-- The answers of Add and Delete on a made table, by the rules that the history left: THERE, NOT-THERE and NO-RULES exactly when 01 says.
-- Assumes nothing.
use mathlib.Core.Path.{◌≡◌, refl, sym, ◌∙◌, ap, subst}
use mathlib.Core.Logic.{◌↔◌, ◌≢◌}
use mathlib.Core.Bool.{Bool, not}
use mathlib.Core.List.Memᴰ
use mathlib.Core.List.Memᴰ.{head as here}
use mathlib.Core.List.{List, [], ◌∷◌, map, Memᴰ as In}
use Prim.Native.Nat.{ℕ, ◌+◌, ◌≤◌, ◌<◌, zero-le}
use native.Mathlib.Decide.{ℕ_discrete}
use native.Mathlib.Omega.{arith}
use lib.Dec.{T, eqb, ltb}
use lib.ListN.{length, length-map}
use Rattle.laws.specs.Lists.{keep, up_from, Distinct}
use Rattle.laws.specs.Lists.Distinct.{none, one_more}
use Rattle.laws.proofs.Choice.{when-cases}
use Rattle.laws.proofs.Tests.{eqb_iff, not_iff, not_eqb, all-below, passes, fails}
use Rattle.laws.proofs.Lists.{in_keep, in_map, in_up, up_length}
use Rattle.symbols.specs.Symbol.{rule_answer}
use Rattle.symbols.specs.Answer.{DONE, THERE, NOT_THERE, NO_RULES}
use Rattle.theory.specs.Table.{CURRENT, WITHDRAWN, Table, rule_at}
use Rattle.theory.specs.Form.{InForm}
use Rattle.theory.specs.Parse.{Outcome}
use Rattle.theory.specs.Calls as calls
use Rattle.theory.specs.Calls.{is_rule, is_free, lowest_rule, is_there, is_full}
use Rattle.theory.specs.Made.{Call, called, Rule, rule, CurrentRule, is_this, leaves, Made}
use Rattle.theory.specs.Made.Call.{new, add, delete, collect, restart, parse}
use Rattle.theory.specs.Made.Made.{made, after}
use Rattle.theory.proofs.Items.{named-inside}
use Rattle.theory.proofs.Counting.{same_length}
use Rattle.theory.proofs.Counted.{kept_and_not, distinct_keep, distinct_map}
use Rattle.theory.proofs.Transitions.{distinct_kept}
use Rattle.theory.proofs.Accepted.{is-rule, is-there}
use Rattle.theory.proofs.History.{checked-is, made-in_form}
use Rattle.theory.proofs.Rules.{rules-left}

-- ---- "Add and Delete check .. 12, 13, 14, then 15 or 16, then (Add) 17."

data Adding (t : Table) (x : ℕ) (w : List ℕ) : ℕ → Type 0 where
  not_added : {a : ℕ} → rule_answer x w ≢ DONE → rule_answer x w ≡ a → Adding t x w a
  there : T (is_there t x w) → Adding t x w THERE
  full : (T (is_there t x w) → ⊥) → T (is_full t) → Adding t x w NO_RULES
  added : (T (is_there t x w) → ⊥) → (T (is_full t) → ⊥) → Adding t x w DONE

data Deleting (t : Table) (x : ℕ) (w : List ℕ) : ℕ → Type 0 where
  not_deleted : {a : ℕ} → rule_answer x w ≢ DONE → rule_answer x w ≡ a → Deleting t x w a
  not_there : (T (is_there t x w) → ⊥) → Deleting t x w NOT_THERE
  deleted : T (is_there t x w) → Deleting t x w DONE

module _ (t : Table) (x : ℕ) (w : List ℕ) where
  adding : Adding t x w (calls.add_in_form t x w).answer
  adding =
      when-cases Is (eqb (rule_answer x w) DONE)
      (λ a. when-cases Is (is_there t x w) (λ b. there (passes b))
      (λ b. when-cases Is (is_full t) (λ c. full (fails b) (passes c))
      (λ c. let done = added (fails b) (fails c) in
      when-cases Is (ltb (lowest_rule (is_rule WITHDRAWN x w) t.rules) (length t.rules)) (λ d. done)
      (λ d. when-cases Is (ltb (lowest_rule is_free t.rules) (length t.rules)) (λ e. done) (λ e. done)))))
      (λ a. not_added (λ e. fails a ((eqb_iff _ _).1 e)) refl)
    where
      Is : Outcome → Type 0
      Is o = Adding t x w o.answer

  deleting : Deleting t x w (calls.delete_in_form t x w).answer
  deleting =
      when-cases Is (eqb (rule_answer x w) DONE)
      (λ a. when-cases Is (is_there t x w) (λ b. deleted (passes b)) (λ b. not_there (fails b)))
      (λ a. not_deleted (λ e. fails a ((eqb_iff _ _).1 e)) refl)
    where
      Is : Outcome → Type 0
      Is o = Deleting t x w o.answer

-- ---- the current rules, as a list

module _ (t : Table) where
  currents : List ℕ
  currents = keep (λ r. eqb (rule_at t.rules r).state CURRENT) (up_from 0 (length t.rules))

  rule_of : ℕ → Rule
  rule_of r = rule (rule_at t.rules r).left (rule_at t.rules r).right

  in_currents : (r : ℕ) → In r currents ↔ ((rule_at t.rules r).state ≡ CURRENT)
  unfolding currents
  in_currents r = (
    λ m. (eqb_iff _ _).0 ((in_keep (λ r. eqb (rule_at t.rules r).state CURRENT) (up_from 0 (length t.rules))).0 m).1,
    λ e. (in_keep (λ r. eqb (rule_at t.rules r).state CURRENT) (up_from 0 (length t.rules))).1
        ((in_up 0 (length t.rules)).1 (zero-le, let h = named-inside t.rules r (λ z. omega arith) in omega arith), (eqb_iff _ _).1 e),
  )

  current-rules : (p : Rule) → In p (map rule_of currents) ↔ CurrentRule t p
  unfolding rule_of
  current-rules p = (
    λ m.
        let (r, i, e) = (in_map rule_of currents).0 m in
        record { number = r; current = (in_currents r).0 i; left = sym (ap (λ p. p.left) e); right = sym (ap (λ p. p.right) e) },
    λ c.
        let e : p ≡ rule_of c.number = λ i. record { left = sym c.left i; right = sym c.right i } in
        (in_map rule_of currents).1 (c.number, (in_currents c.number).1 c.current, e),
  )

  distinct_rules : InForm t → Distinct (map rule_of currents)
  unfolding rule_of currents
  distinct_rules 𝓕 =
      distinct_map rule_of (distinct_kept (λ r. eqb (rule_at t.rules r).state CURRENT) 0 (length t.rules)) (λ q r i j e.
      let c = (in_currents q).0 i in
      let d = (in_currents r).0 j in
      𝓕.no_two_rules q r (λ z. omega arith) (λ z. omega arith) (ap (λ p. p.left) e) (ap (λ p. p.right) e))

  -- "current rules fill the pool": as many are current as there are
  full_is : T (is_full t) ↔ (length currents ≡ length t.rules)
  unfolding currents
  full_is = (
    λ f. let e : length others ≡ 0 = empty others (λ r m. let (i, b) = (in_keep (λ r. not (is r)) all).0 m in
        let l : r < length t.rules = let h = ((in_up 0 (length t.rules)).0 i).1 in omega arith in
        (not_iff (is r)).0 b ((all-below (length t.rules) is).0 f r l)) in
        omega (arith, whole),
    λ e. (all-below (length t.rules) is).1 (λ r l. elim (ℕ_discrete (rule_at t.rules r).state CURRENT) [
      | yes c ↦ (eqb_iff (rule_at t.rules r).state CURRENT).1 c
      | no d ↦
          let i : In r all = (in_up 0 (length t.rules)).1 (zero-le, omega arith) in
          let h = some others ((in_keep (λ r. not (is r)) all).1 (i, (not_eqb (rule_at t.rules r).state CURRENT).1 d)) in
          absurd (omega (arith, whole))
    ]),
  )
    where
      is : ℕ → Bool
      is r = eqb (rule_at t.rules r).state CURRENT

      all : List ℕ
      all = up_from 0 (length t.rules)

      others : List ℕ
      others = keep (λ r. not (is r)) all

      whole : length currents + length others ≡ length t.rules
      whole = unfold currents in kept_and_not is all ∙ up_length 0 (length t.rules)

      empty : (l : List ℕ) → ((r : ℕ) → In r l → ⊥) → length l ≡ 0
      empty [] f = refl
      empty (r ∷ l) f = absurd (f r (here refl))

      some : (l : List ℕ) {r : ℕ} → In r l → 1 ≤ length l
      some [] m = absurd (Memᴰ.not-nil m)
      some (r ∷ l) m = omega arith

-- ---- the rules that the history left: each once, and so as many as are current

there-is : {t : Table} {R : List Rule} → Made t R → (x : ℕ) (w : List ℕ) → T (is_there t x w) ↔ In (rule x w) R
there-is {t} m x w = (
  λ b. let (r, i) = (is-there t x w).0 b in
      let (c, l, e) = (is-rule CURRENT x w (rule_at t.rules r)).0 i in
      (rules-left m (rule x w)).1 (record { number = r; current = c; left = l; right = e }),
  λ i. let c = (rules-left m (rule x w)).0 i in
      (is-there t x w).1 (c.number, (is-rule CURRENT x w (rule_at t.rules c.number)).1 (c.current, c.left, c.right)),
)

leaves-once : {t : Table} {R : List Rule} (c : Call) → Made t R → Distinct R → (called c t).answer ≡ DONE → Distinct (leaves c R)
leaves-once (new s r) m d a = none
leaves-once {t} {R} (add x w) m d a =
    one_more (go (adding t x w) (ap (λ (o : Outcome). o.answer) (sym (checked-is (made-in_form m) (calls.add_in_form t x w))) ∙ a)) d
  where
    go : {a : ℕ} → Adding t x w a → a ≡ DONE → In (rule x w) R → ⊥
    go (not_added d e) a i = d (e ∙ a)
    go (there b) a i = omega arith
    go (full b f) a i = omega arith
    go (added b f) a i = b ((there-is m x w).1 i)
leaves-once (delete x w) m d a = distinct_keep (λ p. not (is_this x w p)) d
leaves-once collect m d a = d
leaves-once restart m d a = d
leaves-once (parse pool line) m d a = d

left-once : {t : Table} {R : List Rule} → Made t R → Distinct R
left-once (made s r h e) = none
left-once (after {t = t} c m e q) =
    let d = left-once m in
    subst Distinct q (when-cases Distinct (eqb (called c t).answer DONE) (λ a. leaves-once c m d ((eqb_iff _ DONE).0 (passes a))) (λ a. d))

module _ {t : Table} {R : List Rule} (m : Made t R) where
  as_many : length R ≡ length (currents t)
  as_many =
      same_length (left-once m) (distinct_rules t (made-in_form m))
      (λ p. (λ i. (current-rules t p).1 ((rules-left m p).0 i), λ i. (rules-left m p).1 ((current-rules t p).0 i)))
      ∙ length-map (currents t) (rule_of t)

  -- ---- the answers by them

  module _ (x : ℕ) (w : List ℕ) where
    add_is : (calls.add t x w).answer ≡ (calls.add_in_form t x w).answer
    add_is = ap (λ (o : Outcome). o.answer) (checked-is (made-in_form m) (calls.add_in_form t x w))

    delete-is : (calls.delete t x w).answer ≡ (calls.delete_in_form t x w).answer
    delete-is = ap (λ (o : Outcome). o.answer) (checked-is (made-in_form m) (calls.delete_in_form t x w))

    -- what is no rule is refused as such
    pub add_bad_rule : rule_answer x w ≢ DONE → (calls.add t x w).answer ≡ rule_answer x w
    add_bad_rule d = add_is ∙ when-cases (λ (o : Outcome). o.answer ≡ rule_answer x w) (eqb (rule_answer x w) DONE)
        (λ a. absurd (d ((eqb_iff _ _).0 (passes a)))) (λ a. refl)

    pub delete_bad_rule : rule_answer x w ≢ DONE → (calls.delete t x w).answer ≡ rule_answer x w
    delete_bad_rule d = delete-is ∙ when-cases (λ (o : Outcome). o.answer ≡ rule_answer x w) (eqb (rule_answer x w) DONE)
        (λ a. absurd (d ((eqb_iff _ _).0 (passes a)))) (λ a. refl)

    module _ (passed : rule_answer x w ≡ DONE) where
      -- "THERE: rule is current (Add)"
      pub there-exactly : ((calls.add t x w).answer ≡ THERE) ↔ In (rule x w) R
      there-exactly = (λ e. to (adding t x w) (sym add_is ∙ e), λ i. add_is ∙ from (adding t x w) i)
        where
          to : {a : ℕ} → Adding t x w a → a ≡ THERE → In (rule x w) R
          to (not_added d e) a = absurd (d passed)
          to (there b) a = (there-is m x w).0 b
          to (full b f) a = absurd (omega arith)
          to (added b f) a = absurd (omega arith)

          from : {a : ℕ} → Adding t x w a → In (rule x w) R → a ≡ THERE
          from (not_added d e) i = absurd (d passed)
          from (there b) i = refl
          from (full b f) i = absurd (b ((there-is m x w).1 i))
          from (added b f) i = absurd (b ((there-is m x w).1 i))

      -- "NO-RULES: current rules fill the pool"
      pub no_rules-exactly : ((calls.add t x w).answer ≡ NO_RULES) ↔ ((In (rule x w) R → ⊥) × (length R ≡ length t.rules))
      no_rules-exactly = (λ e. to (adding t x w) (sym add_is ∙ e), λ (n, l). add_is ∙ from (adding t x w) n l)
        where
          to : {a : ℕ} → Adding t x w a → a ≡ NO_RULES → (In (rule x w) R → ⊥) × (length R ≡ length t.rules)
          to (not_added d e) a = absurd (d passed)
          to (there b) a = absurd (omega arith)
          to (full b f) a = (λ i. b ((there-is m x w).1 i), as_many ∙ (full_is t).0 f)
          to (added b f) a = absurd (omega arith)

          from : {a : ℕ} → Adding t x w a → (In (rule x w) R → ⊥) → length R ≡ length t.rules → a ≡ NO_RULES
          from (not_added d e) n l = absurd (d passed)
          from (there b) n l = absurd (n ((there-is m x w).0 b))
          from (full b f) n l = refl
          from (added b f) n l = absurd (f ((full_is t).1 (sym as_many ∙ l)))

      -- "NOT-THERE: rule isn't current (Delete)"
      pub not_there-exactly : ((calls.delete t x w).answer ≡ NOT_THERE) ↔ (In (rule x w) R → ⊥)
      not_there-exactly = (λ e. to (deleting t x w) (sym delete-is ∙ e), λ n. delete-is ∙ from (deleting t x w) n)
        where
          to : {a : ℕ} → Deleting t x w a → a ≡ NOT_THERE → In (rule x w) R → ⊥
          to (not_deleted d e) a i = absurd (d passed)
          to (not_there b) a i = b ((there-is m x w).1 i)
          to (deleted b) a i = absurd (omega arith)

          from : {a : ℕ} → Deleting t x w a → (In (rule x w) R → ⊥) → a ≡ NOT_THERE
          from (not_deleted d e) n = absurd (d passed)
          from (not_there b) n = refl
          from (deleted b) n = absurd (n ((there-is m x w).0 b))
