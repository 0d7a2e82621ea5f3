-- What the functions of src/item.rt read is what the model says of the item. Assumes nothing.
use mathlib.Core.Path.{◌≡◌, refl, sym, ap, ap₂, subst, ◌∙◌}
use mathlib.Core.Logic.{◌≢◌}
use mathlib.Core.List.{List}
use Prim.Native.Nat.{ℕ, ◌+◌, ◌*◌, ◌/◌, ◌%◌, ◌≤◌, ◌<◌}
use native.Mathlib.Decide.{dec_lt}
use native.Mathlib.Omega.{arith}
use lib.Dec.{T}
use lib.ListN.{length, get_or, get_or-eq_default}
use Rattle.symbols.specs.Symbol.{START, on_right}
use Rattle.theory.specs.Items.{Next}
use Rattle.theory.specs.Table.{FREE, RulePlace, free_rule, rule_at, item, grammar}
use Rattle.theory.specs.Expansion.{after}
use Rattle.theory.specs.Form.{RuleInForm}
use Rattle.theory.proofs.Symbols.{places_on_right, all-on_right}
use Rattle.theory.proofs.Closure.{Ruled, after_next}
use Rattle.table.specs.Layout.{rules_in, rule_number, rule_seen, view_rules}
use Rattle.table.specs.Laid.{FormedRules}
use Rattle.table.proofs.Read.{rule_read, right_read, right-length, view-length}
use Rattle.closure.specs.Item.{item_at, after_at}

-- the item of a rule and a dot
pub after-at : (rs : List RulePlace) (r d : ℕ) → d < 8 → after_at rs (r * 8 + d) ≡ after rs (item r d)
unfolding after_at
after-at rs r d l =
    let er : (r * 8 + d) / 8 ≡ r = omega arith in
    let ed : (r * 8 + d) % 8 ≡ d = omega arith in
    ap₂ (λ r d. after rs (item r d)) er ed

module _ (rs : List ℕ) (formed : FormedRules rs) where
  -- ---- the numbers of a rule

  length_read : (r : ℕ) → r < rules_in rs → length (rule_at (view_rules rs) r).right ≡ rule_number rs r 2
  length_read r l = ap (λ p. length p.right) (rule_read rs r l) ∙ right-length rs r

  -- right place d, used or not
  place_read : (r d : ℕ) → r < rules_in rs → d < 7 → get_or (rule_at (view_rules rs) r).right d 0 ≡ rule_number rs r (3 + d)
  place_read r d l h = elim (dec_lt d (rule_number rs r 2)) [
    | yes p ↦ ap (λ p. get_or p.right d 0) (rule_read rs r l) ∙ right_read rs r d p
    | no p ↦ get_or-eq_default (rule_at (view_rules rs) r).right 0 {n = d} (omega (arith, length_read r l)) ∙ sym ((formed.laid.each_rule r l).beyond d (omega arith) h)
  ]

  pub state_read : (r : ℕ) → r < rules_in rs → get_or rs (2 + r * 10) 0 ≡ (rule_at (view_rules rs) r).state
  unfolding rule_seen
  state_read r l = let e : 2 + r * 10 ≡ 2 + r * 10 + 0 = omega arith in ap (λ k. get_or rs k 0) e ∙ sym (ap (λ p. p.state) (rule_read rs r l))

  pub left_read : (r : ℕ) → r < rules_in rs → get_or rs (3 + r * 10) 0 ≡ (rule_at (view_rules rs) r).left
  unfolding rule_seen
  left_read r l = let e : 3 + r * 10 ≡ 2 + r * 10 + 1 = omega arith in ap (λ k. get_or rs k 0) e ∙ sym (ap (λ p. p.left) (rule_read rs r l))

  -- ---- an item

  module _ (i : ℕ) (inside : i < rules_in rs * 8) where
    pub after_read : i % 8 ≢ 7 → get_or rs (5 + i / 8 * 10 + i % 8) 0 ≡ after_at (view_rules rs) i
    unfolding after_at
    after_read h =
        let e : 5 + i / 8 * 10 + i % 8 ≡ 2 + i / 8 * 10 + (3 + i % 8) = omega arith in
        ap (λ k. get_or rs k 0) e ∙ sym (place_read (i / 8) (i % 8) (omega arith) (omega arith))

    -- no right side has an eighth place
    pub after_last : i % 8 ≡ 7 → 0 ≡ after_at (view_rules rs) i
    unfolding after_at
    after_last h =
        let l : i / 8 < rules_in rs = omega arith in
        sym (get_or-eq_default (rule_at (view_rules rs) (i / 8)).right 0 {n = i % 8} (omega (arith, length_read (i / 8) l, (formed.laid.each_rule (i / 8) l).short)))

    pub end_read : get_or rs (4 + i / 8 * 10) 0 ≡ length (rule_at (view_rules rs) (i / 8)).right
    end_read =
        let e : 4 + i / 8 * 10 ≡ 2 + i / 8 * 10 + 2 = omega arith in
        ap (λ k. get_or rs k 0) e ∙ sym (length_read (i / 8) (omega arith))

  -- ---- the rules are as the theory of closures asks

  none-beyond : (r : ℕ) → rules_in rs ≤ r → rule_at (view_rules rs) r ≡ free_rule
  none-beyond r l = get_or-eq_default (view_rules rs) free_rule {n = r} (omega (arith, view-length rs))

  short-right : (r : ℕ) → length (rule_at (view_rules rs) r).right ≤ 7
  short-right r = elim (dec_lt r (rules_in rs)) [
    | yes l ↦ omega (arith, length_read r l, (formed.laid.each_rule r l).short)
    | no l ↦ omega (arith, ap (λ p. length p.right) (none-beyond r (omega arith)))
  ]

  allowed : (r d x : ℕ) → Next (grammar (view_rules rs)) r d x → (1 ≤ x) × (x ≤ 127) × (x ≢ START)
  allowed r d x n = elim (dec_lt r (rules_in rs)) [ yes l ↦ named l | no l ↦ absurd (nothing (none-beyond r (omega arith))) ]
    where
      nothing : rule_at (view_rules rs) r ≡ free_rule → ⊥
      nothing e = omega (arith, n.inside, ap (λ p. length p.right) e)

      named : r < rules_in rs → (1 ≤ x) × (x ≤ 127) × (x ≢ START)
      named l =
          let f : RuleInForm (rule_at (view_rules rs) r) = subst RuleInForm (sym (rule_read rs r l)) (formed.form r l) in
          let used : (rule_at (view_rules rs) r).state ≢ FREE = λ e. nothing (f.unused e) in
          places_on_right x (subst (λ y. T (on_right y)) n.is (all-on_right (rule_at (view_rules rs) r).right (f.right used) d n.inside))

  -- a symbol after a dot stands before the end, and is one of a right side
  pub after-inside : (i : ℕ) → 1 ≤ after_at (view_rules rs) i → (i % 8 < 7) × (after_at (view_rules rs) i ≤ 127)
  unfolding after_at
  after-inside i h =
      let n = after_next (view_rules rs) (item_at i) (after_at (view_rules rs) i) h refl in
      let (p, q, z) = allowed (i / 8) (i % 8) (after_at (view_rules rs) i) n in
      (omega (arith, n.inside, short-right (i / 8)), q)

  pub formed_ruled : Ruled (view_rules rs)
  formed_ruled = record { short = short-right; allowed = allowed }
