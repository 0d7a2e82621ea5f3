-- Decimal numbers: how they are spelled, digit by digit, and that no two are spelled the same. Assumes nothing.
use mathlib.Core.Bool.{true, false, false≢true}
use mathlib.Core.Path.{◌≡◌, refl, sym, ap, ◌∙◌}
use mathlib.Core.Logic.{◌⊎◌, ⊎_elim}
use mathlib.Core.List.{List, [], ◌∷◌, ◌++◌, append-nil, append_cancel_left}
use Prim.Native.Nat.{ℕ, suc, ◌+◌, ◌-◌, ◌*◌, ◌/◌, ◌%◌, ◌≤◌, ◌<◌}
use native.Mathlib.Decide.{dec_lt}
use native.Mathlib.Omega.{arith}
use lib.ListN.{length, get_or, length-append}
use borrow.Author.Tests.{lt-ltb, le-ltb, le-leb}
use Rattle.laws.specs.Choice.{◌and◌, when}
use Rattle.text.specs.Text.{digit, is_digit, decimal}

-- ---- a number of one, two, three and four digits

pub decimal_1 : (n : ℕ) → n < 10 → decimal n ≡ digit n ∷ []
unfolding decimal when
decimal_1 n l = let e : n % 10 ≡ n = omega arith in rw (lt-ltb n 10 l, e)

pub decimal_2 : (n : ℕ) → 10 ≤ n → n < 100 → decimal n ≡ digit (n / 10) ∷ digit (n % 10) ∷ []
unfolding decimal when
decimal_2 n g l = let e : n / 10 % 10 ≡ n / 10 = omega arith in rw (le-ltb n 10 g, lt-ltb n 100 l, e)

pub decimal_3 : (n : ℕ) → 100 ≤ n → n < 1000 → decimal n ≡ digit (n / 100) ∷ digit (n / 10 % 10) ∷ digit (n % 10) ∷ []
unfolding decimal when
decimal_3 n g l =
    let h : 10 ≤ n = omega arith in
    let e : n / 100 % 10 ≡ n / 100 = omega arith in
    rw (le-ltb n 10 h, le-ltb n 100 g, lt-ltb n 1000 l, e)

pub decimal_4 : (n : ℕ) → 1000 ≤ n → n ≤ 9999 → decimal n ≡ digit (n / 1000) ∷ digit (n / 100 % 10) ∷ digit (n / 10 % 10) ∷ digit (n % 10) ∷ []
unfolding decimal when
decimal_4 n g l =
    let h : 10 ≤ n = omega arith in
    let i : 100 ≤ n = omega arith in
    let e : n / 1000 % 10 ≡ n / 1000 = omega arith in
    rw (le-ltb n 10 h, le-ltb n 100 i, le-ltb n 1000 g, e)

-- what holds of each width
pub by_width {ℓ} : (P : ℕ → Type ℓ) (n : ℕ) → n ≤ 9999 → (n < 10 → P n) → (10 ≤ n → n < 100 → P n) → (100 ≤ n → n < 1000 → P n) → (1000 ≤ n → P n) → P n
by_width P n m a b c d = elim (dec_lt n 10) [
  | yes p ↦ a p
  | no p ↦ elim (dec_lt n 100) [ yes q ↦ b (omega arith) q | no q ↦ elim (dec_lt n 1000) [ yes r ↦ c (omega arith) r | no r ↦ d (omega arith) ] ]
]

-- ---- one digit more

pub decimal-more : (n d : ℕ) → 1 ≤ n → n < 1000 → d ≤ 9 → decimal (n * 10 + d) ≡ decimal n ++ (digit d ∷ [])
decimal-more n d g l k =
    let last : (n * 10 + d) % 10 ≡ d = omega arith in
    let tens : (n * 10 + d) / 10 ≡ n = omega arith in
    let hundreds : (n * 10 + d) / 100 ≡ n / 10 = omega arith in
    by_width (λ m. decimal (n * 10 + d) ≡ decimal n ++ (digit d ∷ [])) n (omega arith)
    (λ p. rw (decimal_2 (n * 10 + d) (omega arith) (omega arith), decimal_1 n p, last, tens))
    (λ p r. rw (decimal_3 (n * 10 + d) (omega arith) (omega arith), decimal_2 n p r, last, tens, hundreds))
    (λ p r.
    let thousands : (n * 10 + d) / 1000 ≡ n / 100 = omega arith in
    rw (decimal_4 (n * 10 + d) (omega arith) (omega arith), decimal_3 n p r, last, tens, hundreds, thousands))
    (λ p. absurd (omega arith))

-- ---- how long it is, and how it begins

pub decimal-length : (n : ℕ) → n ≤ 9999 → length (decimal n) ≤ 4
decimal-length n m =
    by_width (λ k. length (decimal k) ≤ 4) n m
    (λ p. rw (decimal_1 n p) (omega arith))
    (λ p q. rw (decimal_2 n p q) (omega arith))
    (λ p q. rw (decimal_3 n p q) (omega arith))
    (λ p. rw (decimal_4 n p m) (omega arith))

pub decimal-full : (n : ℕ) → 1000 ≤ n → n ≤ 9999 → length (decimal n) ≡ 4
decimal-full n g m = rw (decimal_4 n g m)

-- "without leading zeros"
pub no_leading-zero : (n b : ℕ) (t : List ℕ) → n ≤ 9999 → decimal n ≡ digit 0 ∷ b ∷ t → ⊥
no_leading-zero n b t m e =
    let h : get_or (decimal n) 0 0 ≡ 48 = ap (λ l. get_or l 0 0) e in
    let k : length (decimal n) ≡ suc (suc (length t)) = ap length e in
    by_width (λ i. ⊥) n m
    (λ p. omega (arith, rw (decimal_1 n p) at k))
    (λ p q. omega (arith, rw (decimal_2 n p q) at h))
    (λ p q. omega (arith, rw (decimal_3 n p q) at h))
    (λ p. omega (arith, rw (decimal_4 n p m) at h))

-- ---- no two numbers are spelled the same

value_from : ℕ → List ℕ → ℕ
value_from v [] = v
value_from v (b ∷ t) = value_from (v * 10 + (b - 48)) t

value_decimal : (n : ℕ) → n ≤ 9999 → value_from 0 (decimal n) ≡ n
unfolding value_from
value_decimal n m =
    by_width (λ k. value_from 0 (decimal k) ≡ k) n m
    (λ p. rw (decimal_1 n p) (omega arith))
    (λ p q. rw (decimal_2 n p q) (omega arith))
    (λ p q. rw (decimal_3 n p q) (omega arith))
    (λ p.
    let a : n / 10 ≡ n / 100 * 10 + n / 10 % 10 = omega arith in
    let b : n / 100 ≡ n / 1000 * 10 + n / 100 % 10 = omega arith in
    rw (decimal_4 n p m) (omega arith))

pub decimal-one : (m n : ℕ) → m ≤ 9999 → n ≤ 9999 → decimal m ≡ decimal n → m ≡ n
decimal-one m n p q e = sym (value_decimal m p) ∙ ap (value_from 0) e ∙ value_decimal n q

-- ---- the digits with which a text starts

pub digits : List ℕ → List ℕ
digits [] = []
digits (b ∷ t) = let r = digits t in when (is_digit b) (b ∷ r) []

pub is_digit_lem : (d : ℕ) → d ≤ 9 → is_digit (digit d) ≡ true
unfolding is_digit ◌and◌
is_digit_lem d l = rw (le-leb 48 (digit d) (omega arith), le-leb (digit d) 57 (omega arith))

digits_cons : (d : ℕ) (t : List ℕ) → d ≤ 9 → digits (digit d ∷ t) ≡ digit d ∷ digits t
unfolding digits when
digits_cons d t l = rw (is_digit_lem d l)

pub digits_decimal : (n : ℕ) (t : List ℕ) → n ≤ 9999 → digits (decimal n ++ t) ≡ decimal n ++ digits t
digits_decimal n t m =
    by_width (λ k. digits (decimal k ++ t) ≡ decimal k ++ digits t) n m
    (λ p. rw (decimal_1 n p) (digits_cons n t (omega arith)))
    (λ p q. rw (decimal_2 n p q) (
    digits_cons (n / 10) _ (omega arith) ∙ ap (λ l. digit (n / 10) ∷ l) (digits_cons (n % 10) t (omega arith))))
    (λ p q. rw (decimal_3 n p q) (
    digits_cons (n / 100) _ (omega arith) ∙ ap (λ l. digit (n / 100) ∷ l) (
    digits_cons (n / 10 % 10) _ (omega arith) ∙ ap (λ l. digit (n / 10 % 10) ∷ l) (digits_cons (n % 10) t (omega arith)))))
    (λ p. rw (decimal_4 n p m) (
    digits_cons (n / 1000) _ (omega arith) ∙ ap (λ l. digit (n / 1000) ∷ l) (
    digits_cons (n / 100 % 10) _ (omega arith) ∙ ap (λ l. digit (n / 100 % 10) ∷ l) (
    digits_cons (n / 10 % 10) _ (omega arith) ∙ ap (λ l. digit (n / 10 % 10) ∷ l) (digits_cons (n % 10) t (omega arith))))))

pub decimal-first : (n : ℕ) (t : List ℕ) → n ≤ 9999 → is_digit (get_or (decimal n ++ t) 0 0) ≡ true
decimal-first n t m =
    by_width (λ k. is_digit (get_or (decimal k ++ t) 0 0) ≡ true) n m
    (λ p. rw (decimal_1 n p) (is_digit_lem n (omega arith)))
    (λ p q. rw (decimal_2 n p q) (is_digit_lem (n / 10) (omega arith)))
    (λ p q. rw (decimal_3 n p q) (is_digit_lem (n / 100) (omega arith)))
    (λ p. rw (decimal_4 n p m) (is_digit_lem (n / 1000) (omega arith)))

digits_none : (t : List ℕ) → is_digit (get_or t 0 0) ≡ false → digits t ≡ []
unfolding digits when
digits_none [] e = refl
digits_none (b ∷ t) e = rw e

-- a number and what no digit begins are told apart in one way only
pub apart_one : (m n : ℕ) (s t : List ℕ) → m ≤ 9999 → n ≤ 9999 → is_digit (get_or s 0 0) ≡ false → is_digit (get_or t 0 0) ≡ false
    → decimal m ++ s ≡ decimal n ++ t → (m ≡ n) × (s ≡ t)
apart_one m n s t p q f g e =
    let d : decimal m ++ [] ≡ decimal n ++ [] =
    ap (λ l. decimal m ++ l) (sym (digits_none s f)) ∙ sym (digits_decimal m s p) ∙ ap digits e ∙ digits_decimal n t q ∙ ap (λ l. decimal n ++ l) (digits_none t g) in
    let same : m ≡ n = decimal-one m n p q (sym (append-nil (decimal m)) ∙ d ∙ append-nil (decimal n)) in
    (same, append_cancel_left (decimal m) s t (e ∙ ap (λ k. decimal k ++ t) (sym same)))

-- a number that no digit can make longer, and a digit after it: there is no number there
pub too_long : (m n : ℕ) (s t : List ℕ) → m ≤ 9999 → n ≤ 9999 → (m ≡ 0) ⊎ (1000 ≤ m) → is_digit (get_or s 0 0) ≡ true → is_digit (get_or t 0 0) ≡ false
    → decimal m ++ s ≡ decimal n ++ t → ⊥
unfolding is_digit ◌and◌ digits when
too_long m n [] t p q w f g e = false≢true f
too_long m n (b ∷ s) t p q w f g e =
    let d : decimal m ++ (b ∷ digits s) ≡ decimal n =
    ap (λ l. decimal m ++ l) (ap (λ x. when x (b ∷ digits s) []) (sym f)) ∙ sym (digits_decimal m (b ∷ s) p) ∙ ap digits e ∙ digits_decimal n t q
    ∙ ap (λ l. decimal n ++ l) (digits_none t g) ∙ append-nil (decimal n) in
    ⊎_elim
    (λ z. no_leading-zero n b (digits s) q (sym d ∙ ap (λ k. decimal k ++ (b ∷ digits s)) z ∙ ap (λ l. l ++ (b ∷ digits s)) (decimal_1 0 (omega arith))))
    (λ z. omega (arith, decimal-full m z p, decimal-length n q, simp length-append at (ap length d)))
    w
