-- A rule's ten numbers: what is seen of them, the record that they are, and what is left alone where one rule is written.
-- Assumes nothing.
use mathlib.Core.List.{List}
use mathlib.Core.Path.{◌≡◌, refl, sym, ap, subst, ◌∙◌}
use mathlib.Core.Logic.{◌≢◌, inl, inr}
use Prim.Native.Nat.{ℕ, suc, ◌+◌, ◌-◌, ◌*◌, ◌≤◌, ◌<◌}
use native.Mathlib.Decide.{ℕ_discrete, dec_lt}
use native.Mathlib.Omega.{arith}
use lib.ListN.{length, get_or, set}
use Rattle.laws.specs.Loops.{tab}
use Rattle.laws.proofs.Tables.{get_or-tab}
use Rattle.laws.proofs.Chosen.{tab_cong, set_tab}
use Rattle.symbols.specs.Rule.{symbol, place, WellFormed, right_side}
use Rattle.symbols.specs.declared.rule.Rule.{Rule}
use Rattle.kernels.proofs.Write.{length_write, write_in, write_out}
use Rattle.theory.specs.Table.{RulePlace, free_rule}
use Rattle.table.specs.Layout.{Sets, sets_in, rules_in, rule_number, rule_seen, view_rules}
use Rattle.table.specs.Write.{rule_in, ten_of, put_rule}
use Rattle.table.specs.Laid.{Sized, LaidRule, LaidRules}

-- ---- the record of a rule

module _ (rs : List ℕ) (r : ℕ) where
  pub in_place : (d : ℕ) → d < 7 → place (rule_in rs r) d ≡ rule_number rs r (3 + d)
  unfolding rule_in
  in_place d l = ap (λ s. s.0) (get_or-tab 7 d (λ d. symbol (rule_number rs r (3 + d))) (symbol 0) l)

  pub in_seven : length (rule_in rs r).right ≡ 7
  unfolding rule_in
  in_seven = refl

  -- its sides are those that are seen
  pub in_left : (rule_in rs r).left.0 ≡ (rule_seen rs r).left
  unfolding rule_in rule_seen
  in_left = refl

  pub in_right : rule_number rs r 2 ≤ 7 → right_side (rule_in rs r) ≡ (rule_seen rs r).right
  unfolding right_side rule_in rule_seen
  in_right short =
      tab_cong (rule_number rs r 2) (place (rule_in rs r)) (λ d. rule_number rs r (3 + d)) (λ d l. in_place d (omega arith))

-- ---- a rule depends on its ten numbers only

abbrev pub SameTen : ℕ → List ℕ → List ℕ → Type 0
SameTen r a b = (k : ℕ) → k < 10 → rule_number a r k ≡ rule_number b r k

abbrev pub rule_place : ℕ → ℕ → List ℕ → RulePlace
rule_place state left right = record { state = state; left = left; right = right }

pub right_cong : (a b : List ℕ) (r : ℕ) → rule_number b r 2 ≤ 7 → ((k : ℕ) → 1 ≤ k → k < 10 → rule_number a r k ≡ rule_number b r k)
    → (rule_seen a r).right ≡ (rule_seen b r).right
unfolding rule_seen
right_cong a b r short h =
    ap (λ n. tab n (λ d. rule_number a r (3 + d))) (h 2 (omega arith) (omega arith))
    ∙ tab_cong (rule_number b r 2) (λ d. rule_number a r (3 + d)) (λ d. rule_number b r (3 + d)) (λ d l. h (3 + d) (omega arith) (omega arith))

module _ (a b : List ℕ) (r : ℕ) (h : SameTen r a b) where
  pub ten_seen : rule_number b r 2 ≤ 7 → rule_seen a r ≡ rule_seen b r
  unfolding rule_seen
  ten_seen short =
      let s = h 0 (omega arith) in
      let l = h 1 (omega arith) in
      let w : (rule_seen a r).right ≡ (rule_seen b r).right = right_cong a b r short (λ k p q. h k q) in
      λ z. rule_place (s z) (l z) (w z)

  pub ten_laid : LaidRule b r → LaidRule a r
  ten_laid l =
      let s : rule_number a r 0 ≡ rule_number b r 0 = h 0 (omega arith) in
      let x : rule_number a r 1 ≡ rule_number b r 1 = h 1 (omega arith) in
      let n : rule_number a r 2 ≡ rule_number b r 2 = h 2 (omega arith) in
      record {
        state = subst (λ y. y ≤ 2) (sym s) l.state;
        left = λ z. let (p, q) = l.left (λ y. z (s ∙ y)) in (omega arith, omega arith);
        short = subst (λ y. y ≤ 7) (sym n) l.short;
        beyond = λ d p q. h (3 + d) (omega arith) ∙ l.beyond d (omega arith) q;
        unused = λ z k p. h k p ∙ l.unused (sym s ∙ z) k p;
      }

-- ---- one rule is written

-- a is b but for the ten numbers of rule r
pub record Rewritten (r : ℕ) (a b : List ℕ) : Type 0 where
  pub same_length : length a ≡ length b
  pub sets : sets_in a ≡ sets_in b
  pub rules : rules_in a ≡ rules_in b
  pub others : (j : ℕ) → j ≢ r → SameTen j a b
  pub beyond : (k : ℕ) → 2 + r * 10 + 10 ≤ k → get_or a k 0 ≡ get_or b k 0

module _ {r : ℕ} {a b : List ℕ} (w : Rewritten r a b) where
  pub rewritten_laid : LaidRules b → LaidRule a r → LaidRules a
  rewritten_laid l x =
      let n = w.rules in
      let m = w.same_length in
      record {
        some_rules = subst (λ y. 1 ≤ y) (sym n) l.some_rules;
        few_rules = subst (λ y. y ≤ 128) (sym n) l.few_rules;
        long = let p = l.long in omega arith;
        each_rule = λ j p. elim (ℕ_discrete j r) [
          | yes e ↦ subst (λ i. LaidRule a i) (sym e) x
          | no d ↦ ten_laid a b j (w.others j d) (l.each_rule j (omega arith))
        ];
      }

  pub rewritten_sized : {x : Sets} → Sized b x → Sized a x
  rewritten_sized {x} z =
      let s = w.sets in
      let n = w.rules in
      let m = w.same_length in
      record {
        some_sets = subst (λ y. 1 ≤ y) (sym s) z.some_sets;
        few_sets = subst (λ y. y ≤ 255) (sym s) z.few_sets;
        some_rules = subst (λ y. 1 ≤ y) (sym n) z.some_rules;
        few_rules = subst (λ y. y ≤ 128) (sym n) z.few_rules;
        rules = let p = z.rules in omega arith;
        cells = subst (λ y. y * 128 ≤ length x.cells) (sym s) z.cells;
        words = subst (λ y. y * 18 ≤ length x.words) (sym s) z.words;
      }

  pub rewritten_view : LaidRules b → r < rules_in b → view_rules a ≡ set (view_rules b) r (rule_seen a r)
  rewritten_view l p =
      ap (λ n. tab n (rule_seen a)) w.rules
      ∙ sym (set_tab (rules_in b) r (rule_seen b) (rule_seen a) (rule_seen a r) free_rule p refl
      (λ j q d. ten_seen a b j (w.others j d) (l.each_rule j q).short))

-- ---- the ten numbers

module _ (state : ℕ) (x : Rule) where
  pub ten_state : {k : ℕ} → k ≡ 0 → state ≡ ten_of state x k
  unfolding ten_of
  ten_state e = ap (ten_of state x) (sym e)

  pub ten_left : {k : ℕ} → k ≡ 1 → x.left.0 ≡ ten_of state x k
  unfolding ten_of
  ten_left e = ap (ten_of state x) (sym e)

  pub ten_len : {k : ℕ} → k ≡ 2 → x.len ≡ ten_of state x k
  unfolding ten_of
  ten_len e = ap (ten_of state x) (sym e)

  ten_at : (d : ℕ) → d < 7 → place x d ≡ ten_of state x (3 + d)
  unfolding ten_of
  ten_at d l = let e : suc (suc (suc d)) ≡ 3 + d = omega arith in sym (get_or-tab 7 d (place x) 0 l) ∙ ap (ten_of state x) e

  pub ten_place : (k : ℕ) → 3 ≤ k → k < 10 → place x (k - 3) ≡ ten_of state x k
  ten_place k p q = let e : 3 + (k - 3) ≡ k = omega arith in ten_at (k - 3) (omega arith) ∙ ap (ten_of state x) e

-- ---- a rule written

module _ (rs : List ℕ) (r state : ℕ) (x : Rule) where
  put_out : (p : ℕ) → p < 2 + r * 10 → get_or (put_rule rs r state x) p 0 ≡ get_or rs p 0
  unfolding put_rule
  put_out p l = write_out rs (2 + r * 10) (ten_of state x) 10 p (inl l)

  put-beyond : (p : ℕ) → 2 + r * 10 + 10 ≤ p → get_or (put_rule rs r state x) p 0 ≡ get_or rs p 0
  unfolding put_rule
  put-beyond p l = write_out rs (2 + r * 10) (ten_of state x) 10 p (inr l)

  pub put_rewrites : Rewritten r (put_rule rs r state x) rs
  unfolding put_rule
  put_rewrites = record {
    same_length = length_write rs (2 + r * 10) (ten_of state x) 10;
    sets = put_out 0 (omega arith);
    rules = put_out 1 (omega arith);
    others = λ j d k l. elim (dec_lt j r) [ yes p ↦ put_out (2 + j * 10 + k) (omega arith) | no p ↦ put-beyond (2 + j * 10 + k) (omega arith) ];
    beyond = put-beyond;
  }

  module _ (inside : 2 + r * 10 + 10 ≤ length rs) where
    pub put-here : (k : ℕ) → k < 10 → rule_number (put_rule rs r state x) r k ≡ ten_of state x k
    unfolding put_rule
    put-here k l = write_in rs (2 + r * 10) (ten_of state x) 10 k l inside

    put-state-is : rule_number (put_rule rs r state x) r 0 ≡ state
    put-state-is = put-here 0 (omega arith) ∙ sym (ten_state state x refl)

    put-left-is : rule_number (put_rule rs r state x) r 1 ≡ x.left.0
    put-left-is = put-here 1 (omega arith) ∙ sym (ten_left state x refl)

    put-len-is : rule_number (put_rule rs r state x) r 2 ≡ x.len
    put-len-is = put-here 2 (omega arith) ∙ sym (ten_len state x refl)

    put-place-is : (d : ℕ) → d < 7 → rule_number (put_rule rs r state x) r (3 + d) ≡ place x d
    put-place-is d l = put-here (3 + d) (omega arith) ∙ sym (ten_at state x d l)

    pub put-seen : x.len ≤ 7 → rule_seen (put_rule rs r state x) r ≡ rule_place state x.left.0 (right_side x)
    unfolding rule_seen right_side
    put-seen short =
        let w : (rule_seen (put_rule rs r state x) r).right ≡ right_side x =
        ap (λ n. tab n (λ d. rule_number (put_rule rs r state x) r (3 + d))) put-len-is
        ∙ tab_cong x.len (λ d. rule_number (put_rule rs r state x) r (3 + d)) (place x) (λ d l. put-place-is d (omega arith)) in
        λ z. rule_place (put-state-is z) (put-left-is z) (w z)

    -- a current or a withdrawn rule
    pub put-laid : 1 ≤ state → state ≤ 2 → WellFormed x → LaidRule (put_rule rs r state x) r
    put-laid p q f =
        let s = put-state-is in
        let a = put-left-is in
        let n = put-len-is in
        let u = f.left_not_zero in
        let v = f.left_symbol in
        let m = f.short in
        record {
          state = omega arith;
          left = λ z. (omega arith, omega arith);
          short = omega arith;
          beyond = λ d g h. put-place-is d h ∙ f.beyond d (omega arith) h;
          unused = λ z. absurd (omega arith);
        }

-- ---- a rule that is free: all ten numbers are zero

module _ (rs : List ℕ) (r : ℕ) (zero-at : (k : ℕ) → k < 10 → rule_number rs r k ≡ 0) where
  pub zeros-laid : LaidRule rs r
  zeros-laid =
      let s = zero-at 0 (omega arith) in
      let n = zero-at 2 (omega arith) in
      record {
        state = omega arith;
        left = λ z. absurd (z s);
        short = omega arith;
        beyond = λ d g h. zero-at (3 + d) (omega arith);
        unused = λ z k l. zero-at k l;
      }

  pub zeros-seen : rule_seen rs r ≡ free_rule
  unfolding rule_seen
  zeros-seen = λ z. rule_place (zero-at 0 (omega arith) z) (zero-at 1 (omega arith) z) (tab (zero-at 2 (omega arith) z) (λ d. rule_number rs r (3 + d)))
