-- A word's bits, numbered from 0, the lowest. Plain arithmetic, which antt computes on numerals. Assumes nothing.
use Rattle.std.specs.Prelude.{◌≡◌, ℕ, ◌+◌, ◌-◌, ◌*◌, ◌/◌, ◌%◌, ◌^◌, ◌<◌}

-- bit b of w, 0 or 1
unfoldable pub bit : ℕ → ℕ → ℕ
bit w b = w / 2 ^ b % 2

-- w with bit b set
unfoldable pub put_bit : ℕ → ℕ → ℕ
put_bit w b = w + (1 - bit w b) * 2 ^ b

-- t is the lowest set bit of w, a word of k bits
pub record Lowest (k w t : ℕ) : Type 0 where
  pub inside : t < k
  pub there : bit w t ≡ 1
  pub none : (j : ℕ) → j < t → bit w j ≡ 0
