-- How long the pieces of the listing get: what the room that the code asks for rests on. Assumes nothing.
use mathlib.Core.Bool.{Bool}
use mathlib.Core.Path.{◌≡◌}
use mathlib.Core.List.{List, [], ◌∷◌, ◌++◌}
use Prim.Native.Nat.{ℕ, ◌+◌, ◌-◌, ◌*◌, ◌/◌, ◌%◌, ◌≤◌, ◌<◌, zero-le}
use native.Mathlib.Omega.{arith}
use lib.Dec.{eqb, leb}
use lib.ListN.{length, length-append}
use Rattle.laws.specs.Choice.{when}
use Rattle.laws.proofs.Choice.{when-cases}
use Rattle.kernels.specs.Kernel.{holds}
use Rattle.text.specs.Text.{SPACE, decimal}
use Rattle.text.proofs.Decimal.{by_width, decimal_1, decimal_2, decimal_3}
use Rattle.listing.specs.Printed.{accept_text}
use Rattle.listing.specs.Walk.{listed, cell_at, used, entry_of, item_of, leads, transition_of, reduction_of, expanded_of}
use Rattle.listing.proofs.Listed.{listed-length}

pub three_digits : (n : ℕ) → n < 1000 → length (decimal n) ≤ 3
three_digits n l =
    by_width (λ k. length (decimal n) ≤ 3) n (omega arith)
    (λ p. rw (decimal_1 n p) (omega arith))
    (λ p q. rw (decimal_2 n p q) (omega arith))
    (λ p q. rw (decimal_3 n p q) (omega arith))
    (λ p. absurd (omega arith))

pub one-digit : (n : ℕ) → n < 10 → length (decimal n) ≡ 1
one-digit n l = rw (decimal_1 n l)

-- ---- one of each

entry_length : (cs : List ℕ) (s : ℕ) → s < 1000 → length (entry_of cs s) ≤ 5
unfolding entry_of
entry_length cs s l = omega (arith, three_digits s l, length-append (decimal s) (when (leb 2 (cell_at cs s 0)) 101 117 ∷ []))

item-length : (i : ℕ) → i < 1024 → length (item_of i) ≤ 6
unfolding item_of
item-length i l =
    omega (arith, three_digits (i / 8) (omega arith), one-digit (i % 8) (omega arith), length-append (decimal (i / 8)) (46 ∷ decimal (i % 8)))

module _ (cs : List ℕ) (s : ℕ) (bytes : (k : ℕ) → cell_at cs s k < 256) where
  transition-length : (x : ℕ) → x < 1000 → length (transition_of cs s x) ≤ 8
  unfolding transition_of
  transition-length x l =
      let b = bytes x in
      omega (arith, three_digits x l, three_digits (cell_at cs s x) (omega arith), length-append (decimal x) (62 ∷ decimal (cell_at cs s x)))

  pub transitions-length : (x : ℕ) → 1 ≤ x → x ≤ 128 → length (listed (leads cs s) (transition_of cs s) 1 x) ≤ 8 * (x - 1)
  transitions-length x g h = listed-length (leads cs s) (transition_of cs s) 1 8 x g (λ k i j. transition-length k (omega arith))

reduction_length : (r : ℕ) → r < 1000 → length (reduction_of r) ≤ 4
unfolding reduction_of
reduction_length r l = omega (arith, three_digits r l)

-- ---- a walk so far

pub entries_length : (cs : List ℕ) (n : ℕ) → n ≤ 255 → length (listed (used cs) (entry_of cs) 0 n) ≤ 5 * (n - 0)
entries_length cs n l = listed-length (used cs) (entry_of cs) 0 5 n zero-le (λ k g h. entry_length cs k (omega arith))

pub items-length : (ws : List ℕ) (at i : ℕ) → i ≤ 1024 → length (listed (holds ws at) item_of 0 i) ≤ 6 * (i - 0)
items-length ws at i l = listed-length (holds ws at) item_of 0 6 i zero-le (λ k g h. item-length k (omega arith))

pub reductions-length : (ws : List ℕ) (at r : ℕ) → r ≤ 128 → length (listed (holds ws at) reduction_of 0 r) ≤ 4 * (r - 0)
reductions-length ws at r l = listed-length (holds ws at) reduction_of 0 4 r zero-le (λ k g h. reduction_length k (omega arith))

-- ---- what an expanded set has beside its kernel

accept_length : (b : Bool) → length (accept_text b) ≡ 4
unfolding accept_text
accept_length b = omega arith

pub rest-length : (cs ws : List ℕ) (s : ℕ) → ((k : ℕ) → cell_at cs s k < 256) → length (when (leb 2 (cell_at cs s 0)) (expanded_of cs ws s) []) ≤ 1536
unfolding expanded_of
rest-length cs ws s bytes =
    let t = listed (leads cs s) (transition_of cs s) 1 128 in
    let r = listed (holds ws (s * 18 + 16)) reduction_of 0 128 in
    let a = accept_text (eqb (cell_at cs s 0) 3) in
    when-cases (λ (l : List ℕ). length l ≤ 1536) (leb 2 (cell_at cs s 0))
    (λ e. omega (
      arith,
      transitions-length cs s bytes 128 (omega arith) (omega arith),
      reductions-length ws (s * 18 + 16) 128 (omega arith),
      accept_length (eqb (cell_at cs s 0) 3),
      length-append t (SPACE ∷ 82 ∷ (r ++ a)),
      length-append r a,
    ))
    (λ e. zero-le)
