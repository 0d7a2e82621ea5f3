-- The laws of a word's bits. Assumes nothing.
use mathlib.Core.Path.{◌≡◌, refl, sym, ap, ◌∙◌, subst}
use mathlib.Core.Logic.{◌⊎◌, inl, inr, ◌≢◌}
use Prim.Native.Nat.{ℕ, zero, suc, ◌+◌, ◌-◌, ◌*◌, ◌/◌, ◌%◌, ◌^◌, ◌≤◌, ◌<◌, suc-le-suc}
use native.Mathlib.Nat.{le_of_suc-le-suc, not-suc-le-zero, zero-lt-suc, lt_of_lt_of_le, zero-add, one-mul, zero-mul, mul_assoc, mul_comm}
use native.Mathlib.Nat.{mod-lt, zero-div, div-one, div_self, div-eq_of_lt, mul-div_cancel, mul-mod_left}
use native.Mathlib.Numerals.{add-one, one-add}
use native.Mathlib.Omega.{arith}
use native.Mathlib.Decide.{dec_lt}
use lib.Dec.{lit<}
use lib.Pow.{pow_pos, pow-lt, pow-add, pow_mono, shr-shr, shr_lt, shl_exact, high_ones}
use lib.Bits.{bit_and, bit_or, or_add_and, or_shr, or_mod, or_lt, or_zero_r, and_high}
use lib.Count.{ones, ones_step, count_trailing_zeros, under}
use Rattle.laws.specs.Loops.{up_to}
use Rattle.kernels.specs.Bit.{bit, put_bit, Lowest}
use Rattle.kernels.specs.Walk.{how_many}
use Rattle.kernels.proofs.Walk.{many_cong, many-add}

-- ---- one bit

below_two : (x : ℕ) → x < 2 → (x ≡ 0) ⊎ (x ≡ 1)
below_two zero h = inl refl
below_two (suc zero) h = inr refl
below_two (suc (suc x)) h = absurd (not-suc-le-zero (le_of_suc-le-suc (le_of_suc-le-suc h)))

pub bit_lt : (w b : ℕ) → bit w b < 2
unfolding bit
bit_lt w b = mod-lt (w / 2 ^ b) (zero-lt-suc 1)

pub bit-cases : (w b : ℕ) → (bit w b ≡ 0) ⊎ (bit w b ≡ 1)
bit-cases w b = below_two (bit w b) (bit_lt w b)

pub bit_of-zero : (b : ℕ) → bit 0 b ≡ 0
unfolding bit
bit_of-zero b = ap (λ x. x % 2) (zero-div (2 ^ b))

-- a bit above a word's width is not set
pub bit_high : (k w b : ℕ) → w < 2 ^ k → k ≤ b → bit w b ≡ 0
unfolding bit
bit_high k w b h l = ap (λ x. x % 2) (div-eq_of_lt (lt_of_lt_of_le h (pow_mono l)))

-- a shift to the right renames the bits
pub bit_shr : (w s b : ℕ) → bit (w / 2 ^ s) b ≡ bit w (s + b)
unfolding bit
bit_shr w s b = ap (λ x. x % 2) (shr-shr w s b)

bit-low : (w : ℕ) → bit w 0 ≡ w % 2
unfolding bit
bit-low w = ap (λ x. x % 2) (div-one w)

bit_suc : (w b : ℕ) → bit w (suc b) ≡ bit (w / 2) b
bit_suc w b = sym (bit_shr w 1 b ∙ ap (bit w) (one-add b))

half_lt : {w : ℕ} (k : ℕ) → w < 2 ^ suc k → w / 2 < 2 ^ k
half_lt {w} k h = shr_lt k 1 (rw add-one h)

-- words with the same bits are equal
pub word_ext : (k a b : ℕ) → a < 2 ^ k → b < 2 ^ k → ((j : ℕ) → j < k → bit a j ≡ bit b j) → a ≡ b
word_ext zero a b ha hb h = omega arith
word_ext (suc k) a b ha hb h =
    let f : (j : ℕ) → j < k → bit (a / 2) j ≡ bit (b / 2) j = λ j l. sym (bit_suc a j) ∙ h (suc j) (suc-le-suc l) ∙ bit_suc b j in
    let q : a / 2 ≡ b / 2 = word_ext k (a / 2) (b / 2) (half_lt k ha) (half_lt k hb) f in
    let r : a % 2 ≡ b % 2 = sym (bit-low a) ∙ h 0 (zero-lt-suc k) ∙ bit-low b in
    omega arith

-- ---- the lowest set bit

-- t is the lowest of the upper half's: d, the lowest bit, decides
lowest_step : (k w d t : ℕ) → w % 2 ≡ d → 0 < w → (0 < w / 2 → Lowest k (w / 2) t) → Lowest (suc k) w (under d t)
lowest_step k w zero t e p rest =
    let r : Lowest k (w / 2) t = rest (omega arith) in
    record { inside = suc-le-suc r.inside; there = bit_suc w t ∙ r.there; none = low r.none }
  where
    low : ((j : ℕ) → j < t → bit (w / 2) j ≡ 0) → (j : ℕ) → j < suc t → bit w j ≡ 0
    low f zero l = bit-low w ∙ e
    low f (suc j) l = bit_suc w j ∙ f j (le_of_suc-le-suc l)
lowest_step k w (suc zero) t e p rest =
    record { inside = zero-lt-suc k; there = bit-low w ∙ e; none = λ j l. absurd (not-suc-le-zero l) }
lowest_step k w (suc (suc d)) t e p rest = absurd (omega arith)

pub trailing_lowest : (k w : ℕ) → 0 < w → w < 2 ^ k → Lowest k w (count_trailing_zeros k w)
unfolding count_trailing_zeros
trailing_lowest zero w p h = absurd (omega arith)
trailing_lowest (suc k) w p h =
    lowest_step k w (w % 2) (count_trailing_zeros k (w / 2)) refl p (λ q. trailing_lowest k (w / 2) q (half_lt k h))

-- ---- how many

many_half : (k w : ℕ) → how_many (suc k) (bit w) ≡ w % 2 + how_many k (bit (w / 2))
unfolding how_many up_to
many_half k w =
    ap (λ n. how_many n (bit w)) (sym (one-add k)) ∙ many-add 1 k (bit w)
    ∙ ap (λ x. x + how_many k (λ j. bit w (1 + j))) (zero-add (bit w 0) ∙ bit-low w)
    ∙ ap (λ x. w % 2 + x) (many_cong k (λ j. bit w (1 + j)) (bit (w / 2)) (λ j l. sym (bit_shr w 1 j)))

pub ones_many : (k w : ℕ) → w < 2 ^ k → ones w ≡ how_many k (bit w)
unfolding ones how_many up_to
ones_many zero w h = let e : w ≡ 0 = omega arith in ap ones e
ones_many (suc k) w h = ones_step w ∙ ap (λ x. w % 2 + x) (ones_many k (w / 2) (half_lt k h)) ∙ sym (many_half k w)

-- ---- a bit set

and_pow : (w b : ℕ) → bit_and w (2 ^ b) ≡ bit w b * 2 ^ b
unfolding bit
and_pow w b = ap (bit_and w) (sym (high_ones 1 b ∙ one-mul (2 ^ b))) ∙ and_high w 1 b

or_pow_at : (w b x : ℕ) → bit w b ≡ x → (x ≡ 0) ⊎ (x ≡ 1) → bit_or w (2 ^ b) ≡ w + (1 - x) * 2 ^ b
or_pow_at w b x e (inl z) =
    let s : bit_or w (2 ^ b) + bit_and w (2 ^ b) ≡ w + 2 ^ b = or_add_and w (2 ^ b) in
    let a : bit_and w (2 ^ b) ≡ 0 = and_pow w b ∙ ap (λ y. y * 2 ^ b) (e ∙ z) ∙ zero-mul (2 ^ b) in
    let m : (1 - x) * 2 ^ b ≡ 2 ^ b = ap (λ y. (1 - y) * 2 ^ b) z ∙ one-mul (2 ^ b) in
    omega arith
or_pow_at w b x e (inr z) =
    let s : bit_or w (2 ^ b) + bit_and w (2 ^ b) ≡ w + 2 ^ b = or_add_and w (2 ^ b) in
    let a : bit_and w (2 ^ b) ≡ 2 ^ b = and_pow w b ∙ ap (λ y. y * 2 ^ b) (e ∙ z) ∙ one-mul (2 ^ b) in
    let m : (1 - x) * 2 ^ b ≡ 0 = ap (λ y. (1 - y) * 2 ^ b) z ∙ zero-mul (2 ^ b) in
    omega arith

or_pow : (w b : ℕ) → bit_or w (2 ^ b) ≡ put_bit w b
unfolding put_bit
or_pow w b = or_pow_at w b (bit w b) refl (bit-cases w b)

-- `w | 1 << b`, as the machine has it
pub or_shl : (k w b : ℕ) → b < k → bit_or w ((1 * 2 ^ b) % 2 ^ k) ≡ put_bit w b
or_shl k w b h = ap (bit_or w) (shl_exact 1 b k (lit< tt) (omega arith) ∙ one-mul (2 ^ b)) ∙ or_pow w b

pub put_lt : (k w b : ℕ) → w < 2 ^ k → b < k → put_bit w b < 2 ^ k
put_lt k w b h l = subst (λ x. x < 2 ^ k) (or_pow w b) (or_lt k w (2 ^ b) h (pow-lt l))

pub bit-bit_or : (a b j : ℕ) → bit (bit_or a b) j ≡ bit_or (bit a j) (bit b j)
unfolding bit
bit-bit_or a b j = ap (λ x. x % 2) (or_shr a b j) ∙ or_mod (a / 2 ^ j) (b / 2 ^ j) 1

pow_same : (b : ℕ) → bit (2 ^ b) b ≡ 1
unfolding bit
pow_same b = ap (λ x. x % 2) (div_self (pow_pos b))

-- b is 1 + d above j
pow_below : (b j d : ℕ) → b ≡ 1 + (d + j) → bit (2 ^ b) j ≡ 0
unfolding bit
pow_below b j d e =
    ap (λ x. 2 ^ x / 2 ^ j % 2) e ∙ ap (λ x. x / 2 ^ j % 2) (pow-add 2 1 (d + j) ∙ ap (λ x. 2 * x) (pow-add 2 d j) ∙ regroup (2 ^ d) (2 ^ j))
    ∙ ap (λ x. x % 2) (mul-div_cancel (2 ^ d * 2) (pow_pos j)) ∙ mul-mod_left (2 ^ d) 2
  where
    regroup : (x y : ℕ) → 2 * (x * y) ≡ x * 2 * y
    regroup x y = sym (mul_assoc 2 x y) ∙ ap (λ z. z * y) (mul_comm 2 x)

pow_above : (b j : ℕ) → b < j → bit (2 ^ b) j ≡ 0
pow_above b j h = bit_high j (2 ^ b) j (pow-lt h) (omega arith)

pow_other : (b j : ℕ) → j ≢ b → bit (2 ^ b) j ≡ 0
pow_other b j n = elim (dec_lt j b) [ yes l ↦ pow_below b j (b - suc j) (omega arith) | no f ↦ pow_above b j (omega arith) ]

or_one : (x : ℕ) → (x ≡ 0) ⊎ (x ≡ 1) → bit_or x 1 ≡ 1
or_one x (inl e) = ap (λ y. bit_or y 1) e
or_one x (inr e) = ap (λ y. bit_or y 1) e

pub put_same : (w b : ℕ) → bit (put_bit w b) b ≡ 1
put_same w b =
    ap (λ x. bit x b) (sym (or_pow w b)) ∙ bit-bit_or w (2 ^ b) b ∙ ap (bit_or (bit w b)) (pow_same b)
    ∙ or_one (bit w b) (bit-cases w b)

pub put_other : (w b j : ℕ) → j ≢ b → bit (put_bit w b) j ≡ bit w j
put_other w b j n =
    ap (λ x. bit x j) (sym (or_pow w b)) ∙ bit-bit_or w (2 ^ b) j ∙ ap (bit_or (bit w j)) (pow_other b j n)
    ∙ or_zero_r (bit w j)
