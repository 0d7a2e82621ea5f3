-- A set depends on its row only; rows of zeros but for the mark; and what a loop does to each row whose turn s writes row s only.
-- Assumes nothing.
use mathlib.Core.Bool.{not}
use mathlib.Core.List.{List, [], map}
use mathlib.Core.Path.{◌≡◌, refl, sym, ap, subst, ◌∙◌}
use mathlib.Core.Logic.{◌≢◌}
use Prim.Native.Nat.{ℕ, zero, suc, ◌+◌, ◌*◌, ◌/◌, ◌%◌, ◌^◌, ◌≤◌, ◌<◌}
use native.Mathlib.Nat.{not-suc-le-zero}
use native.Mathlib.Decide.{ℕ_discrete}
use native.Mathlib.Omega.{arith}
use lib.Dec.{eqb}
use lib.ListN.{length, get_or}
use lib.Pow.{pow_pos}
use Rattle.laws.specs.Loops.{up_to}
use Rattle.laws.specs.Lists.{keep, up_from}
use Rattle.laws.proofs.Lists.{in_keep, in_up}
use Rattle.theory.specs.Table.{all_items}
use Rattle.kernels.specs.Bit.{bit}
use Rattle.kernels.specs.Kernel.{has, holds}
use Rattle.kernels.proofs.Bit.{bit_of-zero}
use Rattle.table.specs.Layout.{Sets, sets_in, cell, bit_of, state_of, transition, kernel_seen, transitions_seen, reductions_seen, set_seen}
use Rattle.table.specs.Laid.{Sized, HasRow, LaidSet}
use Rattle.laws.proofs.Chosen.{keep_cong, keep_none, map_cong}
use Rattle.theory.proofs.Items.{in_all}

-- ---- the parts of a set, from what stands in its row

pub kernel_cong : (n : ℕ) (a : List ℕ) (i : ℕ) (b : List ℕ) (j : ℕ) → ((k : ℕ) → k < n * 8 → has a i k ≡ has b j k) → kernel_seen n a i ≡ kernel_seen n b j
unfolding kernel_seen
kernel_cong n a i b j h =
    keep_cong (λ k. holds a i (k.rule * 8 + k.dot)) (λ k. holds b j (k.rule * 8 + k.dot)) (all_items n)
    (λ k m. let (p, q) = (in_all n).0 m in ap (λ x. eqb x 1) (h (k.rule * 8 + k.dot) (omega arith)))

pub transitions_cong : (a b : Sets) (s : ℕ) → ((k : ℕ) → 1 ≤ k → k < 128 → cell a s k ≡ cell b s k) → transitions_seen a s ≡ transitions_seen b s
unfolding transitions_seen
transitions_cong a b s h =
    let k : keep (λ k. not (eqb (cell a s k) 0)) (up_from 1 127) ≡ keep (λ k. not (eqb (cell b s k) 0)) (up_from 1 127) = keep_cong (λ k. not (eqb (cell a s k) 0)) (λ k. not (eqb (cell b s k) 0)) (up_from 1 127) (λ k m. let (p, q) = (in_up 1 127).0 m in ap (λ x. not (eqb x 0)) (h k p (omega arith))) in
    map_cong (λ k. transition k (cell a s k)) (λ k. transition k (cell b s k)) (keep (λ k. not (eqb (cell a s k) 0)) (up_from 1 127))
    (λ k m. let (p, q) = (in_up 1 127).0 ((in_keep (λ k. not (eqb (cell a s k) 0)) (up_from 1 127)).0 m).0 in ap (transition k) (h k p (omega arith)))
    ∙ ap (map (λ k. transition k (cell b s k))) k

pub reductions_cong : (n : ℕ) (a b : Sets) (s : ℕ) → ((r : ℕ) → r < n → bit_of a s (1024 + r) ≡ bit_of b s (1024 + r)) → reductions_seen n a s ≡ reductions_seen n b s
unfolding reductions_seen
reductions_cong n a b s h =
    keep_cong (λ r. eqb (bit_of a s (1024 + r)) 1) (λ r. eqb (bit_of b s (1024 + r)) 1) (up_from 0 n)
    (λ r m. let (p, q) = (in_up 0 n).0 m in ap (λ x. eqb x 1) (h r (omega arith)))

pub kernel-none : (n : ℕ) (a : List ℕ) (i : ℕ) → ((k : ℕ) → k < n * 8 → has a i k ≡ 0) → kernel_seen n a i ≡ []
unfolding kernel_seen
kernel-none n a i h =
    keep_none (λ k. holds a i (k.rule * 8 + k.dot)) (all_items n)
    (λ k m. let (p, q) = (in_all n).0 m in ap (λ x. eqb x 1) (h (k.rule * 8 + k.dot) (omega arith)))

pub transitions-none : (a : Sets) (s : ℕ) → ((k : ℕ) → 1 ≤ k → k < 128 → cell a s k ≡ 0) → transitions_seen a s ≡ []
unfolding transitions_seen
transitions-none a s h =
    ap (map (λ k. transition k (cell a s k)))
    (keep_none (λ k. not (eqb (cell a s k) 0)) (up_from 1 127) (λ k m. let (p, q) = (in_up 1 127).0 m in ap (λ x. not (eqb x 0)) (h k p (omega arith))))

pub reductions-none : (n : ℕ) (a : Sets) (s : ℕ) → ((r : ℕ) → r < n → bit_of a s (1024 + r) ≡ 0) → reductions_seen n a s ≡ []
unfolding reductions_seen
reductions-none n a s h =
    keep_none (λ r. eqb (bit_of a s (1024 + r)) 1) (up_from 0 n) (λ r m. let (p, q) = (in_up 0 n).0 m in ap (λ x. eqb x 1) (h r (omega arith)))

-- ---- rows

pub record SameRow (s : ℕ) (a b : Sets) : Type 0 where
  pub cell : (k : ℕ) → k < 128 → cell a s k ≡ cell b s k
  pub word : (k : ℕ) → k < 18 → get_or a.words (s * 18 + k) 0 ≡ get_or b.words (s * 18 + k) 0

pub row_refl : {s : ℕ} {a : Sets} → SameRow s a a
row_refl = record { cell = λ k l. refl; word = λ k l. refl }

pub row_trans : {s : ℕ} {a b c : Sets} → SameRow s a b → SameRow s b c → SameRow s a c
row_trans p q = record { cell = λ k l. p.cell k l ∙ q.cell k l; word = λ k l. p.word k l ∙ q.word k l }

pub row-bit : {s : ℕ} {a b : Sets} → SameRow s a b → (i : ℕ) → i < 1152 → bit_of a s i ≡ bit_of b s i
unfolding has
row-bit p i l = ap (λ w. bit w (i % 64)) (p.word (i / 64) (omega arith))

pub row_seen : (n s : ℕ) (a b : Sets) → n ≤ 128 → SameRow s a b → set_seen n a s ≡ set_seen n b s
row_seen n s a b few p =
    let m : cell a s 0 ≡ cell b s 0 = p.cell 0 (omega arith) in
    let k : kernel_seen n a.words (s * 18) ≡ kernel_seen n b.words (s * 18) = kernel_cong n a.words (s * 18) b.words (s * 18) (λ i l. row-bit p i (omega arith)) in
    let t : transitions_seen a s ≡ transitions_seen b s = transitions_cong a b s (λ k h l. p.cell k l) in
    let r : reductions_seen n a s ≡ reductions_seen n b s = reductions_cong n a b s (λ r l. row-bit p (1024 + r) (omega arith)) in
    λ z. record { state = state_of (m z); kernel = k z; transitions = t z; reductions = r z; accepts = eqb (m z) 3 }

pub row_laid : (n s : ℕ) (a b : Sets) → SameRow s a b → LaidSet n b s → LaidSet n a s
row_laid n s a b p l =
    let m : cell a s 0 ≡ cell b s 0 = p.cell 0 (omega arith) in
    record {
      mark = subst (λ x. x ≤ 3) (sym m) l.mark;
      words = λ k h. subst (λ x. x < 2 ^ 64) (sym (p.word k h)) (l.words k h);
      items = λ i g h. row-bit p i (omega arith) ∙ l.items i g h;
      reductions = λ r g h. row-bit p (1024 + r) (omega arith) ∙ l.reductions r g h;
      bare = λ z k g h. p.cell k h ∙ l.bare (omega arith) k g h;
      idle = λ z r h. row-bit p (1024 + r) (omega arith) ∙ l.idle (omega arith) r h;
      unused = λ z i h. row-bit p i (omega arith) ∙ l.unused (sym m ∙ z) i h;
    }

-- ---- a row of which only the mark, 0 or 1, is not zero: a free set, or an unexpanded one with an empty kernel

pub record BareRow (s : ℕ) (x : Sets) : Type 0 where
  pub cell : (k : ℕ) → 1 ≤ k → k < 128 → cell x s k ≡ 0
  pub word : (k : ℕ) → k < 18 → get_or x.words (s * 18 + k) 0 ≡ 0

module _ {s : ℕ} {x : Sets} (b : BareRow s x) where
  no_bit : (i : ℕ) → i < 1152 → bit_of x s i ≡ 0
  unfolding has
  no_bit i l = ap (λ w. bit w (i % 64)) (b.word (i / 64) (omega arith)) ∙ bit_of-zero (i % 64)

  pub bare-laid : (n : ℕ) → cell x s 0 < 2 → LaidSet n x s
  bare-laid n l = record {
    mark = omega arith;
    words = λ k h. subst (λ v. v < 2 ^ 64) (sym (b.word k h)) (pow_pos 64);
    items = λ i g h. no_bit i (omega arith);
    reductions = λ r g h. no_bit (1024 + r) (omega arith);
    bare = λ z k g h. b.cell k g h;
    idle = λ z r h. no_bit (1024 + r) (omega arith);
    unused = λ z i h. no_bit i (omega arith);
  }

  pub bare-seen : (n mark : ℕ) → n ≤ 128 → cell x s 0 ≡ mark → set_seen n x s ≡ record { state = state_of mark; kernel = []; transitions = []; reductions = []; accepts = eqb mark 3 }
  bare-seen n mark few m =
      let k : kernel_seen n x.words (s * 18) ≡ [] = kernel-none n x.words (s * 18) (λ i l. no_bit i (omega arith)) in
      let t : transitions_seen x s ≡ [] = transitions-none x s b.cell in
      let r : reductions_seen n x s ≡ [] = reductions-none n x s (λ r l. no_bit (1024 + r) (omega arith)) in
      λ z. record { state = state_of (m z); kernel = k z; transitions = t z; reductions = r z; accepts = eqb (m z) 3 }

-- ---- a loop in which turn s writes row s only

-- the lengths are the same
pub record SameSize (a b : Sets) : Type 0 where
  pub cells : length a.cells ≡ length b.cells
  pub words : length a.words ≡ length b.words

-- slices as long as before have the rows they had, and are long enough still
pub row_still : {s : ℕ} {a b : Sets} → SameSize a b → HasRow s b → HasRow s a
row_still {s} e h = record { cells = subst (λ k. s * 128 + 128 ≤ k) (sym e.cells) h.cells; words = subst (λ k. s * 18 + 18 ≤ k) (sym e.words) h.words }

pub sized_still : {rs : List ℕ} {x y : Sets} → SameSize y x → Sized rs x → Sized rs y
sized_still {rs} e z = record {
  some_sets = z.some_sets;
  few_sets = z.few_sets;
  some_rules = z.some_rules;
  few_rules = z.few_rules;
  rules = z.rules;
  cells = subst (λ n. sets_in rs * 128 ≤ n) (sym e.cells) z.cells;
  words = subst (λ n. sets_in rs * 18 ≤ n) (sym e.words) z.words;
}

pub row_in : {rs : List ℕ} {x : Sets} → Sized rs x → (s : ℕ) → s < sets_in rs → HasRow s x
row_in z s l = let a = z.cells in let b = z.words in record { cells = omega arith; words = omega arith }

-- rows that are the same from n on leave the numbers there alone
module _ (n : ℕ) (a b : Sets) (h : (s : ℕ) → n ≤ s → SameRow s a b) where
  pub cells-beyond : (k : ℕ) → n * 128 ≤ k → get_or a.cells k 0 ≡ get_or b.cells k 0
  cells-beyond k l =
      let e : k / 128 * 128 + k % 128 ≡ k = omega arith in
      subst (λ j. get_or a.cells j 0 ≡ get_or b.cells j 0) e ((h (k / 128) (omega arith)).cell (k % 128) (omega arith))

  pub words-beyond : (k : ℕ) → n * 18 ≤ k → get_or a.words k 0 ≡ get_or b.words k 0
  words-beyond k l =
      let e : k / 18 * 18 + k % 18 ≡ k = omega arith in
      subst (λ j. get_or a.words j 0 ≡ get_or b.words j 0) e ((h (k / 18) (omega arith)).word (k % 18) (omega arith))

module _ (step : ℕ → Sets → Sets)
    (sizes : (s : ℕ) (x : Sets) → SameSize (step s x) x)
    (others : (s t : ℕ) (x : Sets) → t ≢ s → SameRow t (step s x) x) where
  pub loop_size : (n : ℕ) (x : Sets) → SameSize (up_to n step x) x
  unfolding up_to
  loop_size zero x = record { cells = refl; words = refl }
  loop_size (suc n) x =
      let a = sizes n (up_to n step x) in
      let b = loop_size n x in
      record { cells = a.cells ∙ b.cells; words = a.words ∙ b.words }

  pub loop_ahead : (n s : ℕ) (x : Sets) → n ≤ s → SameRow s (up_to n step x) x
  unfolding up_to
  loop_ahead zero s x h = row_refl
  loop_ahead (suc n) s x h = row_trans (others n s (up_to n step x) (λ e. omega arith)) (loop_ahead n s x (omega arith))

  pub loop_row : (n s : ℕ) (x : Sets) → s < n → SameRow s (up_to n step x) (step s (up_to s step x))
  unfolding up_to
  loop_row zero s x h = absurd (not-suc-le-zero h)
  loop_row (suc n) s x h = elim (ℕ_discrete s n) [
    | yes e ↦ subst (λ k. SameRow s (step k (up_to k step x)) (step s (up_to s step x))) e row_refl
    | no d ↦ row_trans (others n s (up_to n step x) d) (loop_row n s x (omega arith))
  ]
