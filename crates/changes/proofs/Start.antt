-- Set 0 made anew from the current START rules: it is unexpanded, with the start kernel. Assumes nothing.
use mathlib.Core.Bool.{Bool, true, false}
use mathlib.Core.List.{List, []}
use mathlib.Core.Path.{◌≡◌, refl, sym, ap, subst, ◌∙◌}
use mathlib.Core.Logic.{◌↔◌, ◌≢◌, ◌⊎◌, inr, ⊎_elim}
use Prim.Native.Nat.{ℕ, ◌+◌, ◌*◌, ◌^◌, ◌≤◌, ◌<◌}
use native.Mathlib.Decide.{ℕ_discrete}
use native.Mathlib.Omega.{arith}
use lib.Dec.{T, eqb, lit<}
use lib.ListN.{length, get_or}
use Rattle.laws.specs.Choice.{◌and◌}
use Rattle.laws.proofs.Chosen.{iff_same, keep_cong}
use Rattle.laws.proofs.Tables.{length_tab}
use Rattle.laws.proofs.Tests.{and_both, eqb_iff}
use Rattle.symbols.specs.Symbol.{START}
use Rattle.kernels.specs.Kernel.{has, holds}
use Rattle.kernels.specs.Write.{write_words}
use Rattle.kernels.proofs.Kernel.{has_clear, has-cases}
use Rattle.kernels.proofs.Write.{length_write, write_in, write_out}
use Rattle.theory.specs.Table.{CURRENT, RulePlace, Item, unexpanded, rule_at, all_items, start_kernel}
use Rattle.theory.proofs.Items.{in_all}
use Rattle.table.specs.Layout.{Sets, rules_in, cell, bit_of, state_of, rule_seen, kernel_seen, transitions_seen, reductions_seen, set_seen, view_rules}
use Rattle.table.specs.Laid.{LaidSet, HasRow}
use Rattle.table.proofs.Read.{rule_read}
use Rattle.table.proofs.Rows.{SameRow, SameSize, transitions-none, reductions-none}
use Rattle.table.specs.Start.{is_start}
use Rattle.table.proofs.Starts.{starts-length, starts-bits, starts-beyond, starts_fit}
use Rattle.changes.specs.Touch.{bare_row, start_again}
use Rattle.changes.proofs.Unexpanded.{bare-row}

-- ---- set 0 made anew

module _ (rs : List ℕ) (x : Sets) (few : rules_in rs ≤ 128) (room : HasRow 0 x) where
  cleared : List ℕ
  cleared = write_words x.words 0 (λ k. 0) 18

  long : 18 ≤ length cleared
  unfolding cleared
  long = let a = room.words in omega (arith, length_write x.words 0 (λ k. 0) 18)

  cleared-bit : (i : ℕ) → i < 1152 → has cleared 0 i ≡ 0
  unfolding cleared
  cleared-bit i l = has_clear x.words 0 18 i (omega arith) (let a = room.words in omega arith)

  cleared_word : (k : ℕ) → k < 18 → get_or cleared (0 + k) 0 ≡ 0
  unfolding cleared
  cleared_word k l = write_in x.words 0 (λ k. 0) 18 k l (let a = room.words in omega arith)

  pub start-size : SameSize (start_again rs x) x
  unfolding start_again
  start-size = record { cells = length_write x.cells 0 bare_row 128; words = starts-length rs (write_words x.words 0 (λ k. 0) 18) ∙ length_write x.words 0 (λ k. 0) 18 }

  pub start-other : (t : ℕ) → t ≢ 0 → SameRow t (start_again rs x) x
  unfolding start_again
  start-other t d = record {
    cell = λ k l. write_out x.cells 0 bare_row 128 (t * 128 + k) (inr (omega arith));
    word = λ k l. starts-beyond rs few (write_words x.words 0 (λ k. 0) 18) (t * 18 + k) (omega arith) ∙ write_out x.words 0 (λ k. 0) 18 (t * 18 + k) (inr (omega arith));
  }

  start-mark : cell (start_again rs x) 0 0 ≡ 1
  unfolding start_again
  start-mark = write_in x.cells 0 bare_row 128 0 (omega arith) (let a = room.cells in omega arith)

  start_cell : (k : ℕ) → 1 ≤ k → k < 128 → cell (start_again rs x) 0 k ≡ 0
  unfolding start_again
  start_cell k p q = write_in x.cells 0 bare_row 128 k q (let a = room.cells in omega arith) ∙ bare-row k p

  -- the bits of set 0: those of START's rules, and no other
  start_bits : (i : ℕ) → (bit_of (start_again rs x) 0 i ≡ 1) ↔ ((has cleared 0 i ≡ 1) ⊎ ((r : ℕ) × (r < rules_in rs) × (T (is_start rs r) × (i ≡ r * 8))))
  unfolding start_again cleared
  start_bits i = starts-bits rs few cleared (let a = long in omega arith) i

  start_in : (r : ℕ) → r < rules_in rs → T (is_start rs r) → bit_of (start_again rs x) 0 (r * 8) ≡ 1
  start_in r l t = (start_bits (r * 8)).1 (inr (r, l, (t, refl)))

  start_out : (i : ℕ) → i < 1152 → ((r : ℕ) → r < rules_in rs → T (is_start rs r) → i ≢ r * 8) → bit_of (start_again rs x) 0 i ≡ 0
  start_out i l d = ⊎_elim (λ z. z)
      (λ o. absurd (⊎_elim (λ e. let z = cleared-bit i l in omega arith) (λ (r, h, (t, e)). d r h t e) ((start_bits i).0 o)))
      (has-cases (start_again rs x).words (0 * 18) i)

  start-high : (i : ℕ) → rules_in rs * 8 ≤ i → i < 1152 → bit_of (start_again rs x) 0 i ≡ 0
  start-high i h l = start_out i l (λ q m u z. omega arith)

  start-item : (r d : ℕ) → r < rules_in rs → d < 8 → holds (start_again rs x).words (0 * 18) (r * 8 + d) ≡ eqb d 0 and is_start rs r
  start-item r d l h =
      iff_same _ _
      (λ t. elim (ℕ_discrete d 0) [
        | yes e ↦ (and_both (eqb d 0) (is_start rs r)).1 ((eqb_iff d 0).1 e, is-start (is_start rs r) refl e t)
        | no e ↦ absurd (absent t (start_out (r * 8 + d) (omega arith) (λ q m u z. omega arith)))
      ])
      (λ t.
      let (b, a) = (and_both (eqb d 0) (is_start rs r)).0 t in
      let e : r * 8 ≡ r * 8 + d = let z = (eqb_iff d 0).0 b in omega arith in
      (eqb_iff _ 1).1 (subst (λ j. bit_of (start_again rs x) 0 j ≡ 1) e (start_in r l a)))
    where
      absent : T (holds (start_again rs x).words (0 * 18) (r * 8 + d)) → bit_of (start_again rs x) 0 (r * 8 + d) ≡ 0 → ⊥
      absent t z = let a = (eqb_iff (bit_of (start_again rs x) 0 (r * 8 + d)) 1).0 t in omega arith

      is-start : (b : Bool) → is_start rs r ≡ b → d ≡ 0 → T (holds (start_again rs x).words (0 * 18) (r * 8 + d)) → T b
      is-start true q e t = tt
      is-start false q e t = absent t (start_out (r * 8 + d) (omega arith) (λ k m u z. let y : k ≡ r = omega arith in subst T (ap (is_start rs) y ∙ q) u))

  pub start-laid : LaidSet (rules_in rs) (start_again rs x) 0
  start-laid = record {
    mark = let m = start-mark in omega arith;
    words = words;
    items = λ i g h. start-high i g (omega arith);
    reductions = λ r g h. start-high (1024 + r) (omega arith) (omega arith);
    bare = λ z k g h. start_cell k g h;
    idle = λ z r h. start-high (1024 + r) (omega arith) (omega arith);
    unused = λ z i h. absurd (let m = start-mark in omega arith);
  }
    where
      words : (k : ℕ) → k < 18 → get_or (start_again rs x).words (0 * 18 + k) 0 < 2 ^ 64
      words k l = unfold start_again cleared in starts_fit rs few cleared (let a = long in omega arith) (0 + k) (subst (λ v. v < 2 ^ 64) (sym (cleared_word k l)) (lit< tt))

  -- the kernel that the model gives it
  kernel_of_start : kernel_seen (rules_in rs) (start_again rs x).words (0 * 18) ≡ start_kernel (view_rules rs)
  unfolding kernel_seen
  kernel_of_start =
      keep_cong (λ i. holds (start_again rs x).words (0 * 18) (i.rule * 8 + i.dot)) (first (view_rules rs)) (all_items (rules_in rs))
      (λ i m. let (p, q) = (in_all (rules_in rs)).0 m in start-item i.rule i.dot p q ∙ ap (λ b. eqb i.dot 0 and b) (is-first i.rule p))
      ∙ ap (λ n. Rattle.laws.specs.Lists.keep (first (view_rules rs)) (all_items n)) (sym (length_tab (rules_in rs) (rule_seen rs)))
    where
      first : List RulePlace → Item → Bool
      first v i = eqb i.dot 0 and eqb (rule_at v i.rule).state CURRENT and eqb (rule_at v i.rule).left START

      is-first : (r : ℕ) → r < rules_in rs → is_start rs r ≡ eqb (rule_at (view_rules rs) r).state CURRENT and eqb (rule_at (view_rules rs) r).left START
      is-first r l = unfold is_start rule_seen in ap (λ (p : RulePlace). eqb p.state CURRENT and eqb p.left START) (sym (rule_read rs r l))

  pub start_seen : set_seen (rules_in rs) (start_again rs x) 0 ≡ unexpanded (start_kernel (view_rules rs))
  start_seen =
      let m : cell (start_again rs x) 0 0 ≡ 1 = start-mark in
      let k : kernel_seen (rules_in rs) (start_again rs x).words (0 * 18) ≡ start_kernel (view_rules rs) = kernel_of_start in
      let t : transitions_seen (start_again rs x) 0 ≡ [] = transitions-none (start_again rs x) 0 start_cell in
      let r : reductions_seen (rules_in rs) (start_again rs x) 0 ≡ [] = reductions-none (rules_in rs) (start_again rs x) 0 (λ r l. start-high (1024 + r) (omega arith) (omega arith)) in
      λ z. record { state = state_of (m z); kernel = k z; transitions = t z; reductions = r z; accepts = eqb (m z) 3 }
