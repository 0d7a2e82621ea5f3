-- The search for what is reached: how it begins, a set scanned, and what the marks are when every set of the queue is scanned.
-- Assumes nothing.
use mathlib.Core.Path.{◌≡◌, refl, sym, ap, ◌∙◌, subst}
use mathlib.Core.Logic.{⊎_elim}
use mathlib.Core.List.{List, [], ◌∷◌}
use Prim.Native.Nat.{ℕ, zero, suc, ◌+◌, ◌-◌, ◌/◌, ◌%◌, ◌≤◌, ◌<◌}
use native.Mathlib.Nat.{not-suc-le-zero}
use native.Mathlib.Decide.{ℕ_discrete}
use native.Mathlib.Omega.{arith}
use lib.ListN.{length, get_or}
use Rattle.laws.specs.Loops.{up_to}
use Rattle.kernels.specs.Bit.{bit}
use Rattle.kernels.specs.Kernel.{has}
use Rattle.kernels.specs.Walk.{how_many}
use Rattle.kernels.proofs.Bit.{bit_of-zero, bit_high}
use Rattle.kernels.proofs.Walk.{many_le}
use Rattle.kernels.proofs.Kernel.{has_lt}
use Rattle.table.specs.Layout.{sets_in}
use Rattle.collection.specs.Reach.{cell_of, Row, Rows, Marks, Queued, Adds}
use Rattle.collection.proofs.Queue.{adds_keep}
use Rattle.collection.proofs.Led.{Led, led_inside, led_reach, reach_led}
use Rattle.collection.proofs.Led.Led.{start, on}

-- what is marked is reached, and the first i of the n sets of the queue are scanned: their targets are marked
pub record Scanned (cells marks queue : List ℕ) (n i : ℕ) : Type 0 where
  pub queued : Queued marks queue n
  pub passed : i ≤ n
  pub reached : (s : ℕ) → has marks 0 s ≡ 1 → Led cells s
  pub done : (j : ℕ) → j < i → (k : ℕ) → k < 127 → has marks 0 (cell_of cells (get_or queue j 0) (k + 1)) ≡ 1

module _ {S : ℕ} {cells : List ℕ} (w : Rows S cells) {marks queue : List ℕ} {n i : ℕ} (z : Scanned cells marks queue n i) where
  -- the next set of the queue is one that is reached
  next_led : i < n → Led cells (get_or queue i 0)
  next_led l = z.reached (get_or queue i 0) (z.queued.marked i l)

  pub next_row : i < n → Row cells (get_or queue i 0)
  next_row l = w.row (get_or queue i 0) (led_inside w (next_led l))

  scan_next : i < n → {marks' queue' : List ℕ} {n' : ℕ} → Adds 127 (λ k. cell_of cells (get_or queue i 0) (k + 1)) marks queue n marks' queue' n'
      → Scanned cells marks' queue' n' (i + 1)
  scan_next l {marks'} {queue'} {n'} a = record {
    queued = a.queued;
    passed = omega (arith, a.more);
    reached = λ s h. ⊎_elim (z.reached s)
        (λ (k, m, e). elim (ℕ_discrete s 0) [ yes o ↦ subst (Led cells) (sym o) start | no d ↦ on (k + 1) (next_led l) (omega arith) (omega arith) e d ]) (a.only s h);
    done = λ j h. elim (ℕ_discrete j i) [
      | yes e ↦ λ k m. subst (λ u. has marks' 0 (cell_of cells u (k + 1)) ≡ 1) (sym (a.kept i l) ∙ ap (λ j. get_or queue' j 0) (sym e)) (a.there k m)
      | no d ↦ λ k m. subst (λ u. has marks' 0 (cell_of cells u (k + 1)) ≡ 1) (sym (a.kept j (omega (arith, z.passed))))
          (adds_keep z.queued a (cell_of cells (get_or queue j 0) (k + 1)) (z.done j (omega arith) k m))
    ];
  }

  -- the same as the code comes to it: the set is taken, and then scanned
  pub take_next : i < n → {s : ℕ} → s ≡ get_or queue i 0 → {m q : List ℕ} {k : ℕ} → (m ≡ marks) × (q ≡ queue) × (k ≡ n)
      → {marks' queue' : List ℕ} {n' i' : ℕ} → i' ≡ i + 1 → Adds 127 (λ k. cell_of cells s (k + 1)) m q k marks' queue' n' → Scanned cells marks' queue' n' i'
  take_next l e (a, b, c) {marks'} {queue'} {n'} d h = subst (Scanned cells marks' queue' n') (sym d) (scan_next l (rw (sym e, sym a, sym b, sym c) h))

  -- every set of the queue is scanned, so every target of a marked set is marked
  led_marked : n ≤ i → {s : ℕ} → Led cells s → has marks 0 s ≡ 1
  led_marked l start = z.queued.start
  led_marked l (on {u = u} x h a b e d) =
      let (j, m, q) = z.queued.listed u (led_marked l h) in
      let p : x - 1 + 1 ≡ x = omega arith in
      subst (λ s. has marks 0 s ≡ 1) (ap (λ u. cell_of cells u (x - 1 + 1)) q ∙ ap (cell_of cells u) p ∙ e) (z.done j (omega arith) (x - 1) (omega arith))

  pub scan_end : n ≤ i → Marks S cells marks
  scan_end l = record {
    exact = λ rs ws e s.
        let w' : Rows (sets_in rs) cells = subst (λ S. Rows S cells) (sym e) w in
        (λ h. led_reach rs cells ws w' (z.reached s h), λ h. led_marked l (reach_led rs cells ws w' h));
  }

pub queue_short : {cells marks queue : List ℕ} {n i : ℕ} → Scanned cells marks queue n i → n ≤ 256
queue_short {marks = marks} z = omega (arith, z.queued.once, many_le 256 (has marks 0) (has_lt marks 0))

-- ---- the beginning: set 0 is marked and queued

abbrev first : List ℕ
first = 1 ∷ 0 ∷ 0 ∷ 0 ∷ []

first-marked : has first 0 0 ≡ 1
unfolding has bit
first-marked = refl

first-once : 1 ≡ how_many 256 (has first 0)
unfolding has bit how_many up_to
first-once = refl

first_alone : (s : ℕ) → has first 0 s ≡ 1 → s ≡ 0
unfolding has
first_alone s h = go (0 + s / 64) refl h
  where
    low : bit 1 (s % 64) ≡ 1 → s % 64 ≡ 0
    low e = elim (ℕ_discrete (s % 64) 0) [ yes z ↦ z | no d ↦ let z : bit 1 (s % 64) ≡ 0 = bit_high 1 1 (s % 64) (omega arith) (omega arith) in absurd (omega arith) ]

    go : (k : ℕ) → 0 + s / 64 ≡ k → bit (get_or first k 0) (s % 64) ≡ 1 → s ≡ 0
    go zero e b = let l : s % 64 ≡ 0 = low b in omega arith
    go (suc zero) e b = absurd (omega (arith, bit_of-zero (s % 64)))
    go (suc (suc zero)) e b = absurd (omega (arith, bit_of-zero (s % 64)))
    go (suc (suc (suc zero))) e b = absurd (omega (arith, bit_of-zero (s % 64)))
    go (suc (suc (suc (suc k)))) e b = absurd (omega (arith, bit_of-zero (s % 64)))

pub scan_begin : {cells queue : List ℕ} → 256 ≤ length queue → get_or queue 0 0 ≡ 0 → Scanned cells first queue 1 0
scan_begin {cells} {queue} l e = record {
  queued = record {
    start = first-marked;
    room = l;
    once = first-once;
    marked = λ j h. let z : j ≡ 0 = omega arith in ap (has first 0) (ap (λ j. get_or queue j 0) z ∙ e) ∙ first-marked;
    listed = λ s h. (0, omega arith, e ∙ sym (first_alone s h));
  };
  passed = omega arith;
  reached = λ s h. subst (Led cells) (sym (first_alone s h)) start;
  done = λ j h. absurd (not-suc-le-zero h);
}
