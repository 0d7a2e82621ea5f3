-- What the numbers of a table in form say, against its view. Assumes nothing.
use mathlib.Core.Path.{◌≡◌, sym, ap, subst, ◌∙◌}
use mathlib.Core.Logic.{◌≢◌}
use mathlib.Core.List.{Memᴰ as In}
use Prim.Native.Nat.{ℕ, ◌+◌, ◌*◌, ◌≤◌, ◌<◌}
use native.Mathlib.Decide.{dec_lt}
use native.Mathlib.Omega.{arith}
use lib.ListN.{length}
use Rattle.theory.specs.Table.{SetPlace, rule_at, set_at, automaton}
use Rattle.theory.specs.Form.{Named}
use Rattle.table.specs.Layout.{Mem, sets_in, rules_in, rule_number, cell, bit_of, rule_seen, view}
use Rattle.table.specs.Laid.{Formed}
use Rattle.table.proofs.Read.{rule_read, set_read, right-length, reductions_read, target_read}
use Rattle.table.proofs.Formed.{set-formed, target-inside}
use Rattle.saturation.specs.Wanted.{Targets}

module _ (m : Mem) (F : Formed m) where
  pub cells_in : {n : ℕ} → n ≡ sets_in m.rules → (n * 128 ≤ length m.sets.cells) × Targets n m.sets.cells
  cells_in e = (omega (arith, F.laid.sized.cells), subst (λ n. Targets n m.sets.cells) (sym e) (target-inside F))

  -- a transition of the automaton is a number that is not zero
  module _ (u x s : ℕ) (l : u < sets_in m.rules) (p : 1 ≤ x) (q : x < 128) where
    pub goto-of : cell m.sets u x ≡ s → s ≢ 0 → (automaton (view m)).Goto u x s
    goto-of e d = (target_read (sets_in m.rules) (rules_in m.rules) m.sets u x l p q ∙ e, d)

    pub cell-of : (automaton (view m)).Goto u x s → cell m.sets u x ≡ s
    cell-of g = sym (target_read (sets_in m.rules) (rules_in m.rules) m.sets u x l p q) ∙ g.0

  -- ---- reductions

  module _ (u r : ℕ) (l : u < sets_in m.rules) where
    pub rule-low : r < 128 → bit_of m.sets u (1024 + r) ≡ 1 → r < rules_in m.rules
    rule-low q e = elim (dec_lt r (rules_in m.rules)) [
      | yes h ↦ h
      | no h ↦ absurd (let z = (F.laid.each_set u l).reductions r (omega arith) q in omega arith)
    ]

    -- the rule's ten numbers are inside
    pub rule-room : r < 128 → bit_of m.sets u (1024 + r) ≡ 1 → 2 + r * 10 + 10 ≤ length m.rules
    rule-room q e = let h = rule-low q e in omega (arith, F.laid.sized.rules)

    pub reduces-of : r < 128 → bit_of m.sets u (1024 + r) ≡ 1 → In r (set_at (view m).sets u).reductions
    reduces-of q e =
        subst (λ (p : SetPlace). In r p.reductions) (sym (set_read (sets_in m.rules) (rules_in m.rules) m.sets u l))
        ((reductions_read (rules_in m.rules) m.sets u r).1 (rule-low q e, e))

    pub bit-of : In r (set_at (view m).sets u).reductions → (r < rules_in m.rules) × (bit_of m.sets u (1024 + r) ≡ 1)
    bit-of i =
        (reductions_read (rules_in m.rules) m.sets u r).0
        (subst (λ (p : SetPlace). In r p.reductions) (set_read (sets_in m.rules) (rules_in m.rules) m.sets u l) i)

    -- the rule of a reduction
    named : In r (set_at (view m).sets u).reductions → Named (view m).rules r
    named i =
        (set-formed F u l).reductions r (subst (λ (p : SetPlace). In r p.reductions) (set_read (sets_in m.rules) (rules_in m.rules) m.sets u l) i)

  module _ (r : ℕ) (h : r < rules_in m.rules) where
    pub left_is : (rule_at (view m).rules r).left ≡ rule_number m.rules r 1
    unfolding rule_seen
    left_is = ap (λ p. p.left) (rule_read m.rules r h)

    state-is : (rule_at (view m).rules r).state ≡ rule_number m.rules r 0
    unfolding rule_seen
    state-is = ap (λ p. p.state) (rule_read m.rules r h)

    pub length-is : length (rule_at (view m).rules r).right ≡ rule_number m.rules r 2
    length-is = ap (λ p. length p.right) (rule_read m.rules r h) ∙ right-length m.rules r

  pub left_in : (u r : ℕ) → u < sets_in m.rules → r < 128 → bit_of m.sets u (1024 + r) ≡ 1 → (1 ≤ rule_number m.rules r 1) × (rule_number m.rules r 1 < 128)
  left_in u r l q e =
      let h = rule-low u r l q e in
      let g = (F.laid.each_rule r h).left (λ z. named u r l (reduces-of u r l q e) (state-is r h ∙ z)) in
      (g.0, omega (arith, g.1))
