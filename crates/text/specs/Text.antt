-- Text as bytes: decimal numbers, and spaces before them. Assumes nothing.
use Rattle.std.specs.Prelude.{Bool, List, [], ◌∷◌, ℕ, ◌+◌, ◌/◌, ◌%◌, ltb, leb}
use Rattle.laws.specs.Choice.{◌and◌, when}
use Rattle.laws.specs.Lists.{joinMap}

abbrev pub SPACE : ℕ
SPACE = 32

abbrev pub NEWLINE : ℕ
NEWLINE = 10

-- the digit of a number below ten
abbrev pub digit : ℕ → ℕ
digit n = 48 + n

unfoldable pub is_digit : ℕ → Bool
is_digit b = leb 48 b and leb b 57

-- "decimal numbers 0 to 9999 without leading zeros": the digits of a number below 10,000
unfoldable pub decimal : ℕ → List ℕ
decimal n =
    let one = digit (n % 10) ∷ [] in
    let two = digit (n / 10 % 10) ∷ one in
    let three = digit (n / 100 % 10) ∷ two in
    let four = digit (n / 1000 % 10) ∷ three in
    when (ltb n 10) one (when (ltb n 100) two (when (ltb n 1000) three four))

-- "each after a single space"
unfoldable pub spaced : List ℕ → List ℕ
spaced ns = joinMap (λ n. SPACE ∷ decimal n) ns
