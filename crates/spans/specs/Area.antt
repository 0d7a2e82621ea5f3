-- The lent work area of a derivation, one list of numbers: where each number stands, and what they keep, as a store. A span's place is
-- its number: at the same place it has its key, its cost and its choice. Behind them stands, of each end, its first place.
-- Assumes nothing.
use Rattle.std.specs.Prelude.{Bool, ◌≡◌, List, ℕ, ◌+◌, ◌-◌, ◌*◌, ◌/◌, ◌%◌, ◌^◌, eqb, ltb, length, get_or, set}
use Rattle.laws.specs.Choice.{◌and◌, when}
use Rattle.laws.specs.Loops.{tab}
use Rattle.laws.specs.Lists.{firstIn, up_from}
use Rattle.theory.specs.Derivation.{Grammar}
use Rattle.leftmost.specs.Kept.{Kept, Store}

-- ---- where each number stands

-- a span for each link, and START's
abbrev pub SPANS : ℕ
SPANS = 4097

-- keys stand from 0 on
abbrev pub COSTS : ℕ
COSTS = 4097

abbrev pub CHOICES : ℕ
CHOICES = 8194

abbrev pub FIRSTS : ℕ
FIRSTS = 12291

-- the numbers that a line of n tokens takes: behind the spans the first place of each end, 0 to n, and then the number of spans
abbrev pub area_for : ℕ → ℕ
area_for n = 12293 + n

-- A key has a span's end, its start and its symbol, such that keys are ordered by end, within an end by start, later starts first
abbrev pub key_of : ℕ → ℕ → ℕ → ℕ
key_of x i j = x + (255 - i) * 256 + j * 65536

abbrev pub key_at : List ℕ → ℕ → ℕ
key_at a e = get_or a e 0

abbrev pub symbol_at : List ℕ → ℕ → ℕ
symbol_at a e = key_at a e % 256

abbrev pub start_at : List ℕ → ℕ → ℕ
start_at a e = 255 - key_at a e / 256 % 256

abbrev pub end_at : List ℕ → ℕ → ℕ
end_at a e = key_at a e / 65536

abbrev pub cost_at : List ℕ → ℕ → ℕ
cost_at a e = get_or a (4097 + e) 0

abbrev pub choice_at : List ℕ → ℕ → ℕ
choice_at a e = get_or a (8194 + e) 0

abbrev pub first_at : List ℕ → ℕ → ℕ
first_at a j = get_or a (12291 + j) 0

-- A choice is a rule and where each of its right places ends: rule + 256 m₁ + 256² m₂ + .. + 256⁷ m₇
abbrev pub rule_of : ℕ → ℕ
rule_of c = c % 256

abbrev pub end_of : ℕ → ℕ → ℕ
end_of c p = c / 2 ^ (8 * (p + 1)) % 256

-- ---- what is kept

-- place e is that of the span (x, i, j)
pub record Place (a : List ℕ) (e x i j : ℕ) : Type 0 where
  pub symbol : symbol_at a e ≡ x
  pub start : start_at a e ≡ i
  pub ends : end_at a e ≡ j

-- the same as a test
abbrev pub is_place : List ℕ → ℕ → ℕ → ℕ → ℕ → Bool
is_place a x i j e = eqb (symbol_at a e) x and eqb (start_at a e) i and eqb (end_at a e) j

-- a span's place among `count`, or `count` where it has none
unfoldable pub place_of : List ℕ → ℕ → ℕ → ℕ → ℕ → ℕ
place_of a count x i j = firstIn (is_place a x i j) count (up_from 0 count)

-- a cost and a choice; the ends are as many as the rule's right side has symbols
abbrev pub kept : Grammar → ℕ → ℕ → Kept
kept G cost choice = record { cost = cost; rule = rule_of choice; ends = tab (length (G.right (rule_of choice))) (end_of choice) }

abbrev pub kept_at : Grammar → List ℕ → ℕ → Kept
kept_at G a e = kept G (cost_at a e) (choice_at a e)

-- by symbol, start and end: what is kept at the span's place, and cost 0 where it has none
unfoldable pub store_of : Grammar → List ℕ → ℕ → Store
store_of G a count x i j = let e = place_of a count x i j in when (ltb e count) (kept_at G a e) (kept G 0 0)

-- ---- what is written

-- cost and choice at place e
unfoldable pub set_kept : List ℕ → ℕ → ℕ → ℕ → List ℕ
set_kept a e cost choice = set (set a (4097 + e) cost) (8194 + e) choice
