-- A decimal number digit by digit, as it is put. Assumes nothing.
use mathlib.Core.Path.{◌≡◌, refl}
use mathlib.Core.List.{List, [], ◌∷◌, ◌++◌}
use Prim.Native.Nat.{ℕ, ◌/◌, ◌%◌, ◌≤◌, ◌<◌, zero-le}
use native.Mathlib.Omega.{arith}
use lib.Dec.{leb}
use lib.ListN.{length}
use borrow.Author.Tests.{le-leb, lt-leb}
use Rattle.laws.specs.Choice.{when}
use Rattle.laws.proofs.Choice.{when_yes, when_no, when-cases}
use Rattle.text.specs.Text.{digit, decimal}
use Rattle.text.specs.Puts.{digit_of}
use Rattle.text.proofs.Decimal.{by_width, decimal_1, decimal_2, decimal_3, decimal_4}

pub digit-there : (unit n : ℕ) → unit ≤ n → digit (n / unit % 10) ∷ [] ≡ digit_of unit n
unfolding digit_of
digit-there unit n l = when_yes [] (le-leb unit n l) refl

pub digit_not : (unit n : ℕ) → n < unit → [] ≡ digit_of unit n
unfolding digit_of
digit_not unit n l = when_no (digit (n / unit % 10) ∷ []) (lt-leb unit n l) refl

pub digit-length : (unit n : ℕ) → length (digit_of unit n) ≤ 1
unfolding digit_of
digit-length unit n = when-cases (λ (l : List ℕ). length l ≤ 1) (leb unit n) (λ e. omega arith) (λ e. zero-le)

pub decimal_parts : (n : ℕ) → n ≤ 9999 → digit_of 1000 n ++ (digit_of 100 n ++ (digit_of 10 n ++ (digit (n % 10) ∷ []))) ≡ decimal n
unfolding digit_of when
decimal_parts n m =
    by_width (λ k. digit_of 1000 n ++ (digit_of 100 n ++ (digit_of 10 n ++ (digit (n % 10) ∷ []))) ≡ decimal n) n m
    (λ p.
    let e : n % 10 ≡ n = omega arith in
    rw (lt-leb 1000 n (omega arith), lt-leb 100 n (omega arith), lt-leb 10 n p, decimal_1 n p, e))
    (λ p q.
    let e : n / 10 % 10 ≡ n / 10 = omega arith in
    rw (lt-leb 1000 n (omega arith), lt-leb 100 n q, le-leb 10 n p, decimal_2 n p q, e))
    (λ p q.
    let e : n / 100 % 10 ≡ n / 100 = omega arith in
    rw (lt-leb 1000 n q, le-leb 100 n p, le-leb 10 n (omega arith), decimal_3 n p q, e))
    (λ p.
    let e : n / 1000 % 10 ≡ n / 1000 = omega arith in
    rw (le-leb 1000 n p, le-leb 100 n (omega arith), le-leb 10 n (omega arith), decimal_4 n p m, e))
