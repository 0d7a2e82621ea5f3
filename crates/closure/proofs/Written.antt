-- For the floor above: what a closure's words still hold once they stand in a table, whoever wrote them there. Assumes nothing.
use mathlib.Core.Path.{◌≡◌, sym, ap, ◌∙◌}
use mathlib.Core.Logic.{⊎_elim}
use mathlib.Core.Bool.{Bool, not}
use mathlib.Core.List.{List, [], map, Memᴰ as In}
use Prim.Native.Nat.{ℕ, ◌+◌, ◌*◌, ◌/◌, ◌%◌, ◌≤◌, ◌<◌}
use native.Mathlib.Omega.{arith}
use lib.Dec.{eqb}
use lib.ListN.{length, get_or}
use Rattle.laws.specs.Choice.{◌and◌}
use Rattle.laws.specs.Lists.{someIn, keep, up_from}
use Rattle.laws.proofs.Chosen.{iff_same, keep_cong}
use Rattle.laws.proofs.Lists.{in_keep, in_up}
use Rattle.laws.proofs.Tests.{eqb_iff}
use Rattle.symbols.specs.Symbol.{START}
use Rattle.kernels.specs.Bit.{bit}
use Rattle.kernels.specs.Write.{write_words}
use Rattle.kernels.specs.Kernel.{has, holds}
use Rattle.kernels.proofs.Kernel.{has-cases, has_on, Agree, agree_has}
use Rattle.kernels.proofs.Write.{write_in}
use Rattle.theory.specs.Table.{RulePlace, Item, rule_at}
use Rattle.theory.specs.Expansion.{after, symbols, completed, filled}
use Rattle.table.specs.Layout.{Sets, bit_of, reductions_seen}
use Rattle.table.specs.Laid.{HoldsKernel}
use Rattle.table.proofs.Rows.{kernel_cong}
use Rattle.closure.specs.Walk.{HoldsSymbols, HoldsCompleted}
use Rattle.closure.specs.declared.walks.Completed.{Completed}

-- bits are those of their word
word_bits : (a : List ℕ) (at : ℕ) (b : List ℕ) (i : ℕ) → get_or a (at + i / 64) 0 ≡ get_or b (i / 64) 0 → has a at i ≡ has b 0 i
unfolding has
word_bits a at b i e =
    let z : i / 64 ≡ 0 + i / 64 = omega arith in
    ap (λ w. bit w (i % 64)) (e ∙ ap (λ k. get_or b k 0) z)

-- ---- a kernel

-- equal words hold the same kernel
pub agree_holds : {n : ℕ} {a : List ℕ} {i : ℕ} {b : List ℕ} {j : ℕ} {k : List Item} → n ≤ 128 → Agree a i b j → HoldsKernel n b j k → HoldsKernel n a i k
agree_holds {n} {a} {i} {b} {j} few same h = record {
  seen = kernel_cong n a i b j (λ m l. agree_has a i b j same m (omega arith)) ∙ h.seen;
  within = λ m l p. agree_has a i b j same m p ∙ h.within m l p;
}

-- what `kernels::copy` takes out of a table, or puts into it
pub copy_holds : {n : ℕ} (ws : List ℕ) {at : ℕ} {src : List ℕ} {from : ℕ} {k : List Item} → n ≤ 128 → at + 16 ≤ length ws → HoldsKernel n src from k
    → HoldsKernel n (write_words ws at (λ m. get_or src (from + m) 0) 16) at k
copy_holds ws {at} {src} {from} few fits h = agree_holds few (λ m l. write_in ws at (λ m. get_or src (from + m) 0) 16 m l fits) h

-- ---- the symbols after a dot, as the list that the model goes through

pub symbols-kept : (ws : List ℕ) (rs : List RulePlace) (c : List Item) → HoldsSymbols ws rs c → symbols rs c ≡ keep (λ x. holds ws 0 x) (up_from 1 127)
symbols-kept ws rs c h =
    keep_cong (λ x. someIn (eqb x) (map (after rs) c)) (λ x. holds ws 0 x) (up_from 1 127)
    (λ x m. iff_same (someIn (eqb x) (map (after rs) c)) (holds ws 0 x)
    (λ t. (eqb_iff (has ws 0 x) 1).1 ((h x).1 ((in_keep (λ x. someIn (eqb x) (map (after rs) c)) (up_from 1 127)).1 (m, t))))
    (λ t. ((in_keep (λ x. someIn (eqb x) (map (after rs) c)) (up_from 1 127)).0 ((h x).0 ((eqb_iff (has ws 0 x) 1).0 t))).1))

-- ---- the reductions

module _ {rs : List RulePlace} {c : List Item} {done : Completed} (h : HoldsCompleted rs c done) where
  reduces : ℕ → Bool
  reduces r = completed rs c r and not (eqb (rule_at rs r).left START)

  -- none of a rule place that is not there
  pub reductions-within : (r : ℕ) → length rs ≤ r → has done.reductions 0 r ≡ 0
  unfolding reduces
  reductions-within r l = ⊎_elim (λ z. z)
      (λ o. let (p, q) = (in_up 0 (length rs)).0 ((in_keep reduces (up_from 0 (length rs))).0 ((h.reductions r).0 o)).0 in absurd (omega arith))
      (has-cases done.reductions 0 r)

  -- in the two words behind a set's kernel they are the set's
  pub reductions-written : (x : Sets) (s : ℕ) → ((k : ℕ) → k < 2 → get_or x.words (s * 18 + 16 + k) 0 ≡ get_or done.reductions k 0) → length rs ≤ 128
      → reductions_seen (length rs) x s ≡ (filled rs c c []).reductions
  unfolding reductions_seen reduces
  reductions-written x s same few =
      keep_cong (λ r. holds x.words (s * 18) (1024 + r)) reduces (up_from 0 (length rs))
      (λ r m. iff_same (holds x.words (s * 18) (1024 + r)) (reduces r)
      (λ t. ((in_keep reduces (up_from 0 (length rs))).0 ((h.reductions r).0 (sym (bit-of r m) ∙ (eqb_iff _ 1).0 t))).1)
      (λ t. (eqb_iff _ 1).1 (bit-of r m ∙ (h.reductions r).1 ((in_keep reduces (up_from 0 (length rs))).1 (m, t)))))
    where
      bit-of : (r : ℕ) → In r (up_from 0 (length rs)) → bit_of x s (1024 + r) ≡ has done.reductions 0 r
      bit-of r m =
          let (p, q) = (in_up 0 (length rs)).0 m in
          sym (has_on x.words (s * 18) 16 r) ∙ word_bits x.words (s * 18 + 16) done.reductions r (same (r / 64) (omega arith))
