-- Two laid memories of the same sizes with the same view agree on every number. Assumes nothing.
use mathlib.Core.Bool.{not}
use mathlib.Core.List.{List, Memᴰ as In}
use mathlib.Core.Path.{◌≡◌, refl, sym, ap, subst, ◌∙◌}
use mathlib.Core.Logic.{◌↔◌, ◌≢◌}
use Prim.Native.Nat.{ℕ, zero, suc, ◌+◌, ◌-◌, ◌*◌, ◌/◌, ◌%◌, ◌≤◌, ◌<◌, zero-le}
use native.Mathlib.Decide.{ℕ_discrete, dec_lt}
use native.Mathlib.Omega.{arith}
use lib.Dec.{T, eqb}
use lib.ListN.{length, get_or}
use Rattle.laws.specs.Loops.{tab}
use Rattle.laws.proofs.Tables.{length_tab, get_or-tab}
use Rattle.laws.proofs.Tests.{eqb_iff, not_iff}
use Rattle.laws.specs.Lists.{keep, up_from}
use Rattle.laws.proofs.Lists.{in_keep, in_map, in_up}
use Rattle.theory.specs.Table.{item, free_rule, free_set, all_items}
use Rattle.kernels.specs.Kernel.{has, holds}
use Rattle.kernels.proofs.Bit.{bit_lt, word_ext}
use Rattle.kernels.proofs.Kernel.{has_lt, has-at}
use Rattle.table.specs.Layout.{Mem, Sets, sets_in, rules_in, rule_number, cell, bit_of, state_of, transition, rule_seen, kernel_seen, transitions_seen, reductions_seen, set_seen, view}
use Rattle.table.specs.Laid.{LaidRule, LaidSet, Laid}
use Rattle.laws.proofs.Chosen.{keep_same}
use Rattle.theory.proofs.Items.{in_all}

-- ---- a rule's ten numbers

pub same-rule : (a b : List ℕ) (r : ℕ) → LaidRule a r → LaidRule b r → rule_seen a r ≡ rule_seen b r → (k : ℕ) → k < 10 → rule_number a r k ≡ rule_number b r k
unfolding rule_seen
same-rule a b r la lb e k l =
    let st : rule_number a r 0 ≡ rule_number b r 0 = ap (λ p. p.state) e in
    let lf : rule_number a r 1 ≡ rule_number b r 1 = ap (λ p. p.left) e in
    let rt : tab (rule_number a r 2) (λ d. rule_number a r (3 + d)) ≡ tab (rule_number b r 2) (λ d. rule_number b r (3 + d)) = ap (λ p. p.right) e in
    let ln : rule_number a r 2 ≡ rule_number b r 2 = sym (length_tab (rule_number a r 2) (λ d. rule_number a r (3 + d))) ∙ ap length rt ∙ length_tab (rule_number b r 2) (λ d. rule_number b r (3 + d)) in
    go k l st lf ln rt
  where
    right : rule_number a r 2 ≡ rule_number b r 2 → tab (rule_number a r 2) (λ d. rule_number a r (3 + d)) ≡ tab (rule_number b r 2) (λ d. rule_number b r (3 + d))
        → (d : ℕ) → d < 7 → rule_number a r (3 + d) ≡ rule_number b r (3 + d)
    right ln rt d l = elim (dec_lt d (rule_number a r 2)) [
      | yes h ↦ sym (get_or-tab (rule_number a r 2) d (λ d. rule_number a r (3 + d)) 0 h) ∙ ap (λ t. get_or t d 0) rt ∙ get_or-tab (rule_number b r 2) d (λ d. rule_number b r (3 + d)) 0 (omega arith)
      | no h ↦ la.beyond d (omega arith) l ∙ sym (lb.beyond d (omega arith) l)
    ]

    go : (k : ℕ) → k < 10 → rule_number a r 0 ≡ rule_number b r 0 → rule_number a r 1 ≡ rule_number b r 1 → rule_number a r 2 ≡ rule_number b r 2
        → tab (rule_number a r 2) (λ d. rule_number a r (3 + d)) ≡ tab (rule_number b r 2) (λ d. rule_number b r (3 + d)) → rule_number a r k ≡ rule_number b r k
    go zero l st lf ln rt = st
    go (suc zero) l st lf ln rt = lf
    go (suc (suc zero)) l st lf ln rt = ln
    go (suc (suc (suc k))) l st lf ln rt = let z : 3 + k ≡ suc (suc (suc k)) = omega arith in subst (λ j. rule_number a r j ≡ rule_number b r j) z (right ln rt k (omega arith))

-- ---- a set's 128 cells and 18 words

mark_of : (a b : ℕ) → a ≤ 3 → b ≤ 3 → state_of a ≡ state_of b → eqb a 3 ≡ eqb b 3 → a ≡ b
mark_of zero zero h k e f = refl
mark_of zero (suc zero) h k e f = absurd (omega arith)
mark_of zero (suc (suc b)) h k e f = absurd (omega arith)
mark_of (suc zero) zero h k e f = absurd (omega arith)
mark_of (suc zero) (suc zero) h k e f = refl
mark_of (suc zero) (suc (suc b)) h k e f = absurd (omega arith)
mark_of (suc (suc a)) zero h k e f = absurd (omega arith)
mark_of (suc (suc a)) (suc zero) h k e f = absurd (omega arith)
mark_of (suc (suc a)) (suc (suc b)) h k e f = elim (ℕ_discrete (suc (suc a)) 3) [
  | yes p ↦ p ∙ sym ((eqb_iff (suc (suc b)) 3).0 (subst T f ((eqb_iff (suc (suc a)) 3).1 p)))
  | no p ↦ let q : suc (suc b) ≢ 3 = λ z. p ((eqb_iff (suc (suc a)) 3).0 (subst T (sym f) ((eqb_iff (suc (suc b)) 3).1 z))) in omega arith
]

-- a target and its transition
pub in_transitions : (x : Sets) (s k t : ℕ) → In (transition k t) (transitions_seen x s) ↔ (((1 ≤ k) × (k < 128)) × ((t ≡ cell x s k) × (t ≢ 0)))
unfolding transitions_seen
in_transitions x s k t = (
  λ m.
      let (j, n, e) = (in_map (λ k. transition k (cell x s k)) (keep (λ k. not (eqb (cell x s k) 0)) (up_from 1 127))).0 m in
      let (u, v) = (in_keep (λ k. not (eqb (cell x s k) 0)) (up_from 1 127)).0 n in
      let (p, q) = (in_up 1 127).0 u in
      let e₁ : k ≡ j = ap (λ a. a.on) e in
      let e₂ : t ≡ cell x s j = ap (λ a. a.to) e in
      ((omega arith, omega arith), (e₂ ∙ ap (cell x s) (sym e₁), λ z. (not_iff (eqb (cell x s j) 0)).0 v ((eqb_iff (cell x s j) 0).1 (sym e₂ ∙ z)))),
  λ ((p, q), (e, z)).
      (in_map (λ k. transition k (cell x s k)) (keep (λ k. not (eqb (cell x s k) 0)) (up_from 1 127))).1
      (k, (in_keep (λ k. not (eqb (cell x s k) 0)) (up_from 1 127)).1 ((in_up 1 127).1 (p, omega arith), (not_iff (eqb (cell x s k) 0)).1 (λ t. z (e ∙ (eqb_iff (cell x s k) 0).0 t))), ap (transition k) e),
)

pub same-targets : (a b : Sets) (s : ℕ) → transitions_seen a s ≡ transitions_seen b s → (k : ℕ) → 1 ≤ k → k < 128 → cell a s k ≡ cell b s k
same-targets a b s e k p q = elim (ℕ_discrete (cell a s k) 0) [
  | yes z ↦ elim (ℕ_discrete (cell b s k) 0) [
    | yes y ↦ z ∙ sym y
    | no y ↦ sym ((in_transitions a s k (cell b s k)).0 (subst (λ l. In (transition k (cell b s k)) l) (sym e) ((in_transitions b s k (cell b s k)).1 ((p, q), (refl, y))))).1.0
  ]
  | no z ↦ ((in_transitions b s k (cell a s k)).0 (subst (λ l. In (transition k (cell a s k)) l) e ((in_transitions a s k (cell a s k)).1 ((p, q), (refl, z))))).1.0
]

pub bit_of_lt : (x : Sets) (s i : ℕ) → bit_of x s i < 2
unfolding has
bit_of_lt x s i = bit_lt _ _

pub bit-same : (a b : ℕ) → a < 2 → b < 2 → eqb a 1 ≡ eqb b 1 → a ≡ b
bit-same zero zero h k e = refl
bit-same zero (suc b) h k e = absurd (subst T (sym e) ((eqb_iff (suc b) 1).1 (omega arith)))
bit-same (suc a) zero h k e = absurd (subst T e ((eqb_iff (suc a) 1).1 (omega arith)))
bit-same (suc a) (suc b) h k e = omega arith

-- kernels that are seen alike have the same bits
pub kernel_bits : (n : ℕ) (a : List ℕ) (i : ℕ) (b : List ℕ) (j : ℕ) → kernel_seen n a i ≡ kernel_seen n b j → (k : ℕ) → k < n * 8 → has a i k ≡ has b j k
unfolding kernel_seen
kernel_bits n a i b j e k l =
    let z : k / 8 * 8 + k % 8 ≡ k = omega arith in
    let m : holds a i (k / 8 * 8 + k % 8) ≡ holds b j (k / 8 * 8 + k % 8) =
    keep_same (λ t. holds a i (t.rule * 8 + t.dot)) (λ t. holds b j (t.rule * 8 + t.dot)) (all_items n) e (item (k / 8) (k % 8))
    ((in_all n).1 (omega arith, omega arith)) in
    bit-same (has a i k) (has b j k) (has_lt a i k) (has_lt b j k) (subst (λ t. holds a i t ≡ holds b j t) z m)

same-reductions : (n : ℕ) (a b : Sets) (s : ℕ) → reductions_seen n a s ≡ reductions_seen n b s → (r : ℕ) → r < n → bit_of a s (1024 + r) ≡ bit_of b s (1024 + r)
unfolding reductions_seen
same-reductions n a b s e r l =
    bit-same (bit_of a s (1024 + r)) (bit_of b s (1024 + r)) (bit_of_lt a s (1024 + r)) (bit_of_lt b s (1024 + r))
    (keep_same (λ r. eqb (bit_of a s (1024 + r)) 1) (λ r. eqb (bit_of b s (1024 + r)) 1) (up_from 0 n) e r ((in_up 0 n).1 (zero-le, omega arith)))

-- all 1152 bits of a set's 18 words
same_bits : (n : ℕ) (a b : Sets) (s : ℕ) → n ≤ 128 → LaidSet n a s → LaidSet n b s → set_seen n a s ≡ set_seen n b s → (i : ℕ) → i < 1152 → bit_of a s i ≡ bit_of b s i
same_bits n a b s few la lb e i l = elim (dec_lt i 1024) [
  | yes h ↦ elim (dec_lt i (n * 8)) [
    | yes k ↦ kernel_bits n a.words (s * 18) b.words (s * 18) (ap (λ p. p.kernel) e) i k
    | no k ↦ la.items i (omega arith) h ∙ sym (lb.items i (omega arith) h)
  ]
  | no h ↦ let z : 1024 + (i - 1024) ≡ i = omega arith in subst (λ j. bit_of a s j ≡ bit_of b s j) z (elim (dec_lt (i - 1024) n) [
    | yes k ↦ same-reductions n a b s (ap (λ p. p.reductions) e) (i - 1024) k
    | no k ↦ la.reductions (i - 1024) (omega arith) (omega arith) ∙ sym (lb.reductions (i - 1024) (omega arith) (omega arith))
  ])
]

pub same-words : (n : ℕ) (a b : Sets) (s : ℕ) → n ≤ 128 → LaidSet n a s → LaidSet n b s → set_seen n a s ≡ set_seen n b s
    → (k : ℕ) → k < 18 → get_or a.words (s * 18 + k) 0 ≡ get_or b.words (s * 18 + k) 0
same-words n a b s few la lb e k l =
    word_ext 64 (get_or a.words (s * 18 + k) 0) (get_or b.words (s * 18 + k) 0) (la.words k l) (lb.words k l)
    (λ j p. sym (has-at a.words (s * 18) k j p) ∙ same_bits n a b s few la lb e (k * 64 + j) (omega arith) ∙ has-at b.words (s * 18) k j p)

pub same-cells : (n : ℕ) (a b : Sets) (s : ℕ) → LaidSet n a s → LaidSet n b s → set_seen n a s ≡ set_seen n b s → (k : ℕ) → k < 128 → cell a s k ≡ cell b s k
same-cells n a b s la lb e zero l = mark_of (cell a s 0) (cell b s 0) la.mark lb.mark (ap (λ p. p.state) e) (ap (λ p. p.accepts) e)
same-cells n a b s la lb e (suc k) l = same-targets a b s (ap (λ p. p.transitions) e) (suc k) (omega arith) l

-- ---- the whole

-- what two memories agree on
pub record Agree (a b : Mem) : Type 0 where
  pub rules : (k : ℕ) → k < 2 + rules_in a.rules * 10 → get_or a.rules k 0 ≡ get_or b.rules k 0
  pub cells : (k : ℕ) → k < sets_in a.rules * 128 → get_or a.sets.cells k 0 ≡ get_or b.sets.cells k 0
  pub words : (k : ℕ) → k < sets_in a.rules * 18 → get_or a.sets.words k 0 ≡ get_or b.sets.words k 0

pub agree : (a b : Mem) → Laid a → Laid b → view a ≡ view b → Agree a b
agree a b la lb e =
    let er : rules_in a.rules ≡ rules_in b.rules = sym (length_tab (rules_in a.rules) (rule_seen a.rules)) ∙ ap (λ t. length t.rules) e ∙ length_tab (rules_in b.rules) (rule_seen b.rules) in
    let es : sets_in a.rules ≡ sets_in b.rules = sym (length_tab (sets_in a.rules) (set_seen (rules_in a.rules) a.sets)) ∙ ap (λ t. length t.sets) e ∙ length_tab (sets_in b.rules) (set_seen (rules_in b.rules) b.sets) in
    record { rules = rules er es; cells = cells er es; words = words er es }
  where
    slot : rules_in a.rules ≡ rules_in b.rules → (r : ℕ) → r < rules_in a.rules → rule_seen a.rules r ≡ rule_seen b.rules r
    slot er r l = sym (get_or-tab (rules_in a.rules) r (rule_seen a.rules) free_rule l) ∙ ap (λ t. get_or t.rules r free_rule) e ∙ get_or-tab (rules_in b.rules) r (rule_seen b.rules) free_rule (omega arith)

    place : rules_in a.rules ≡ rules_in b.rules → sets_in a.rules ≡ sets_in b.rules → (s : ℕ) → s < sets_in a.rules → set_seen (rules_in a.rules) a.sets s ≡ set_seen (rules_in a.rules) b.sets s
    place er es s l = sym (get_or-tab (sets_in a.rules) s (set_seen (rules_in a.rules) a.sets) free_set l) ∙ ap (λ t. get_or t.sets s free_set) e ∙ get_or-tab (sets_in b.rules) s (set_seen (rules_in b.rules) b.sets) free_set (omega arith) ∙ ap (λ n. set_seen n b.sets s) (sym er)

    setA : (s : ℕ) → s < sets_in a.rules → LaidSet (rules_in a.rules) a.sets s
    setA s l = la.each_set s l

    set_b : rules_in a.rules ≡ rules_in b.rules → sets_in a.rules ≡ sets_in b.rules → (s : ℕ) → s < sets_in a.rules → LaidSet (rules_in a.rules) b.sets s
    set_b er es s l = subst (λ n. LaidSet n b.sets s) (sym er) (lb.each_set s (omega arith))

    rules : rules_in a.rules ≡ rules_in b.rules → sets_in a.rules ≡ sets_in b.rules → (k : ℕ) → k < 2 + rules_in a.rules * 10 → get_or a.rules k 0 ≡ get_or b.rules k 0
    rules er es zero l = es
    rules er es (suc zero) l = er
    rules er es (suc (suc k)) l =
        let z : 2 + k / 10 * 10 + k % 10 ≡ suc (suc k) = omega arith in
        subst (λ j. get_or a.rules j 0 ≡ get_or b.rules j 0) z
        (same-rule a.rules b.rules (k / 10) (la.each_rule (k / 10) (omega arith)) (lb.each_rule (k / 10) (omega arith)) (slot er (k / 10) (omega arith)) (k % 10) (omega arith))

    cells : rules_in a.rules ≡ rules_in b.rules → sets_in a.rules ≡ sets_in b.rules → (k : ℕ) → k < sets_in a.rules * 128 → get_or a.sets.cells k 0 ≡ get_or b.sets.cells k 0
    cells er es k l =
        let z : k / 128 * 128 + k % 128 ≡ k = omega arith in
        let h : k / 128 < sets_in a.rules = omega arith in
        subst (λ j. get_or a.sets.cells j 0 ≡ get_or b.sets.cells j 0) z
        (same-cells (rules_in a.rules) a.sets b.sets (k / 128) (setA (k / 128) h) (set_b er es (k / 128) h) (place er es (k / 128) h) (k % 128) (omega arith))

    words : rules_in a.rules ≡ rules_in b.rules → sets_in a.rules ≡ sets_in b.rules → (k : ℕ) → k < sets_in a.rules * 18 → get_or a.sets.words k 0 ≡ get_or b.sets.words k 0
    words er es k l =
        let z : k / 18 * 18 + k % 18 ≡ k = omega arith in
        let h : k / 18 < sets_in a.rules = omega arith in
        subst (λ j. get_or a.sets.words j 0 ≡ get_or b.sets.words j 0) z
        (same-words (rules_in a.rules) a.sets b.sets (k / 18) la.sized.few_rules (setA (k / 18) h) (set_b er es (k / 18) h) (place er es (k / 18) h) (k % 18) (omega arith))
