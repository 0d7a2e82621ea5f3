-- A kernel, in 01's words ("Symbols, rules and limits"): 16 words of 64 bits in a list, from `at` on. Assumes nothing.
use Rattle.std.specs.Prelude.{◌≡◌, Bool, List, ℕ, ◌+◌, ◌-◌, ◌*◌, ◌/◌, ◌%◌, ◌≤◌, ◌<◌, eqb, get_or, set}
use Rattle.std.specs.Int.Bits.{bit_or}
use Rattle.laws.specs.Choice.{when}
use Rattle.laws.specs.Loops.{all_below}
use Rattle.laws.specs.Lists.{firstIn, up_from}
use Rattle.kernels.specs.Bit.{bit, put_bit}
use Rattle.kernels.specs.Walk.{how_many}
use Rattle.std.specs.Prelude.{Option, Some, None}

-- "An item is a rule number and a dot": its number, by which "Items are ordered by rule number, then dot", a dot being at most 7
abbrev pub item : ℕ → ℕ → ℕ
item r d = r * 8 + d

-- "A kernel is a set of items, kept as bits": 1 where the words from `at` on have item i, else 0. Past a kernel's 1024 items
-- it is a bit of the words that follow.
unfoldable pub has : List ℕ → ℕ → ℕ → ℕ
has ws at i = bit (get_or ws (at + i / 64) 0) (i % 64)

-- the same as a test
abbrev pub holds : List ℕ → ℕ → ℕ → Bool
holds ws at i = eqb (has ws at i) 1

-- the words with item i put into the kernel at `at`
unfoldable pub put : List ℕ → ℕ → ℕ → List ℕ
put ws at i = let p = at + i / 64 in set ws p (put_bit (get_or ws p 0) (i % 64))

-- the same where a test passes
unfoldable pub put_if : Bool → List ℕ → ℕ → List ℕ
put_if b ws i = when b (put ws 0 i) ws

-- "how many items a kernel holds"
unfoldable pub items : List ℕ → ℕ → ℕ
items ws at = how_many 1024 (has ws at)

-- the kernel holds none
unfoldable pub empty : List ℕ → ℕ → Bool
empty ws at = all_below 16 (λ k. eqb (get_or ws (at + k) 0) 0)

-- the kernel at i of a is the kernel at j of b
unfoldable pub same : List ℕ → ℕ → List ℕ → ℕ → Bool
same a i b j = all_below 16 (λ k. eqb (get_or a (i + k) 0) (get_or b (j + k) 0))

-- every bit of the n words from i of a is set in the n words from j of b: they add none to those
unfoldable pub within : List ℕ → ℕ → List ℕ → ℕ → ℕ → Bool
within a i b j n = all_below n (λ k. eqb (bit_or (get_or a (i + k) 0) (get_or b (j + k) 0)) (get_or b (j + k) 0))

-- the first of the sets 1, 2, .. below `sets` whose kernel is the kernel at `at` of key, or 0
unfoldable pub find : List ℕ → ℕ → List ℕ → ℕ → ℕ
find ws sets key at = firstIn (λ s. same ws (s * 18) key at) 0 (up_from 1 (sets - 1))

-- "which is the lowest": i is the least bit not below `from` of the n words from `at` on
pub record Least (ws : List ℕ) (at n from i : ℕ) : Type 0 where
  pub above : from ≤ i
  pub inside : i < n * 64
  pub there : has ws at i ≡ 1
  pub none : (j : ℕ) → from ≤ j → j < i → has ws at j ≡ 0

-- the answer to a walk's question: that bit, or that there is none
abbrev pub Next : List ℕ → ℕ → ℕ → ℕ → (Option ℕ) → Type 0
Next ws at n from (Some i) = Least ws at n from i
Next ws at n from None = (j : ℕ) → from ≤ j → j < n * 64 → has ws at j ≡ 0
