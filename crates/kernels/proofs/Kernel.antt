-- The laws of a kernel's items. Assumes nothing.
use mathlib.Core.Path.{◌≡◌, sym, ap, ap₂, ◌∙◌, subst}
use mathlib.Core.Logic.{◌⊎◌, inl, inr, ⊎_elim, ◌≢◌, ◌↔◌}
use mathlib.Core.Bool.{Bool}
use mathlib.Core.List.{List}
use Prim.Native.Nat.{ℕ, ◌+◌, ◌*◌, ◌/◌, ◌%◌, ◌^◌, ◌≤◌, ◌<◌}
use native.Mathlib.Omega.{arith}
use native.Mathlib.Decide.{ℕ_discrete}
use lib.Dec.{T, eqb}
use lib.ListN.{length, get_or, length-set}
use lib.Pow.{pow_pos}
use lib.Seq.{ext_get_or, get_or-set_same, get_or-set_other}
use Rattle.laws.proofs.Tests.{eqb_iff, all-below}
use Rattle.kernels.specs.Bit.{bit, put_bit}
use Rattle.kernels.specs.Walk.{how_many}
use Rattle.kernels.specs.Write.{write_words}
use Rattle.kernels.specs.Kernel.{item, has, put, items, empty, same}
use Rattle.kernels.proofs.Bit.{bit_lt, bit-cases, bit_of-zero, word_ext, put_same, put_other, put_lt}
use Rattle.kernels.proofs.Walk.{many_cong, many-add, many_le}
use Rattle.kernels.proofs.Write.{write_in, write_out}

-- "Items are ordered by rule number, then dot"
pub item_order : (r d s e : ℕ) → d < 8 → e < 8 → (item r d < item s e) ↔ ((r < s) ⊎ ((r ≡ s) × (d < e)))
item_order r d s e p q = (
  λ l. elim (ℕ_discrete r s) [ yes h ↦ inr (h, omega arith) | no h ↦ inl (omega arith) ],
  ⊎_elim (λ l. omega arith) (λ (h, l). omega arith),
)

-- ---- an item and its word

module _ (ws : List ℕ) (at : ℕ) where
  pub has_lt : (i : ℕ) → has ws at i < 2
  unfolding has
  has_lt i = bit_lt (get_or ws (at + i / 64) 0) (i % 64)

  pub has-cases : (i : ℕ) → (has ws at i ≡ 0) ⊎ (has ws at i ≡ 1)
  unfolding has
  has-cases i = bit-cases (get_or ws (at + i / 64) 0) (i % 64)

  pub has-at : (k b : ℕ) → b < 64 → has ws at (k * 64 + b) ≡ bit (get_or ws (at + k) 0) b
  unfolding has
  has-at k b l =
      let q : (k * 64 + b) / 64 ≡ k = omega arith in
      let r : (k * 64 + b) % 64 ≡ b = omega arith in
      ap₂ (λ x y. bit (get_or ws (at + x) 0) y) q r

  -- one space of bits: those of the words k further on
  pub has_on : (k i : ℕ) → has ws (at + k) i ≡ has ws at (k * 64 + i)
  unfolding has
  has_on k i =
      let q : at + k + i / 64 ≡ at + (k * 64 + i) / 64 = omega arith in
      let r : i % 64 ≡ (k * 64 + i) % 64 = omega arith in
      ap₂ (λ x y. bit (get_or ws x 0) y) q r

-- ---- kernels with the same items are equal

-- the words of a kernel are words
abbrev pub Words : List ℕ → ℕ → Type 0
Words ws at = (k : ℕ) → k < 16 → get_or ws (at + k) 0 < 2 ^ 64

-- the kernel at i of a and the kernel at j of b have the same words
abbrev pub Agree : List ℕ → ℕ → List ℕ → ℕ → Type 0
Agree a i b j = (k : ℕ) → k < 16 → get_or a (i + k) 0 ≡ get_or b (j + k) 0

module _ (a : List ℕ) (i : ℕ) (b : List ℕ) (j : ℕ) where
  pub same_iff : T (same a i b j) ↔ Agree a i b j
  unfolding same
  same_iff =
      let f : ℕ → Bool = λ k. eqb (get_or a (i + k) 0) (get_or b (j + k) 0) in (
        λ t k l. (eqb_iff (get_or a (i + k) 0) (get_or b (j + k) 0)).0 ((all-below 16 f).0 t k l),
        λ h. (all-below 16 f).1 (λ k l. (eqb_iff (get_or a (i + k) 0) (get_or b (j + k) 0)).1 (h k l)),
      )

  pub agree_has : Agree a i b j → (n : ℕ) → n < 1024 → has a i n ≡ has b j n
  unfolding has
  agree_has h n l = ap (λ x. bit x (n % 64)) (h (n / 64) (omega arith))

  pub has_agree : Words a i → Words b j → ((n : ℕ) → n < 1024 → has a i n ≡ has b j n) → Agree a i b j
  has_agree wa wb h k l =
      word_ext 64 (get_or a (i + k) 0) (get_or b (j + k) 0) (wa k l) (wb k l)
      (λ m p. sym (has-at a i k m p) ∙ h (k * 64 + m) (omega arith) ∙ has-at b j k m p)

-- as lists of 16 words
pub kernel_ext : (a b : List ℕ) → length a ≡ 16 → length b ≡ 16 → Words a 0 → Words b 0
    → (a ≡ b) ↔ ((n : ℕ) → n < 1024 → has a 0 n ≡ has b 0 n)
kernel_ext a b la lb wa wb = (
  λ e n l. ap (λ x. has x 0 n) e,
  λ h. ext_get_or 0 a b (la ∙ sym lb)
      (λ k l. let z : 0 + k ≡ k = omega arith in subst (λ x. get_or a x 0 ≡ get_or b x 0) z (has_agree a 0 b 0 wa wb h k (omega arith))),
)

-- the kernel that holds no item is all zero
pub empty_iff : (ws : List ℕ) (at : ℕ) → Words ws at → T (empty ws at) ↔ ((i : ℕ) → i < 1024 → has ws at i ≡ 0)
unfolding empty has
empty_iff ws at fit =
    let f : ℕ → Bool = λ k. eqb (get_or ws (at + k) 0) 0 in (
      λ t i l. let z : get_or ws (at + i / 64) 0 ≡ 0 = (eqb_iff (get_or ws (at + i / 64) 0) 0).0 ((all-below 16 f).0 t (i / 64) (omega arith)) in
          ap (λ x. bit x (i % 64)) z ∙ bit_of-zero (i % 64),
      λ h. (all-below 16 f).1 (λ k l. (eqb_iff (get_or ws (at + k) 0) 0).1
          (word_ext 64 (get_or ws (at + k) 0) 0 (fit k l) (pow_pos 64)
          (λ m p. sym (has-at ws at k m p) ∙ h (k * 64 + m) (omega arith) ∙ sym (bit_of-zero m)))),
    )

-- ---- an item put in

module _ (ws : List ℕ) (at i : ℕ) where
  pub length-put : length (put ws at i) ≡ length ws
  unfolding put
  length-put = simp length-set

  -- the other words
  pub put_out : (p : ℕ) → p ≢ at + i / 64 → get_or (put ws at i) p 0 ≡ get_or ws p 0
  unfolding put
  put_out p d = get_or-set_other ws (at + i / 64) p _ 0 d

  module _ (there : at + i / 64 < length ws) where
    -- the item's word
    pub put_in : get_or (put ws at i) (at + i / 64) 0 ≡ put_bit (get_or ws (at + i / 64) 0) (i % 64)
    unfolding put
    put_in = get_or-set_same ws (at + i / 64) _ 0 there

    pub has-put-same : has (put ws at i) at i ≡ 1
    unfolding has
    has-put-same = ap (λ x. bit x (i % 64)) put_in ∙ put_same (get_or ws (at + i / 64) 0) (i % 64)

    -- any other bit, of this kernel or of one elsewhere
    pub has-put-apart : (to j : ℕ) → to * 64 + j ≢ at * 64 + i → has (put ws at i) to j ≡ has ws to j
    unfolding has
    has-put-apart to j d = elim (ℕ_discrete (to + j / 64) (at + i / 64)) [
      | yes e ↦ ap (λ p. bit (get_or (put ws at i) p 0) (j % 64)) e ∙ ap (λ x. bit x (j % 64)) put_in
          ∙ put_other (get_or ws (at + i / 64) 0) (i % 64) (j % 64) (λ q. d (omega arith))
          ∙ ap (λ p. bit (get_or ws p 0) (j % 64)) (sym e)
      | no f ↦ ap (λ x. bit x (j % 64)) (put_out (to + j / 64) f)
    ]

    pub has-put-other : (j : ℕ) → j ≢ i → has (put ws at i) at j ≡ has ws at j
    has-put-other j d = has-put-apart at j (λ q. d (omega arith))

    -- words stay words
    pub word-put : (p : ℕ) → get_or ws p 0 < 2 ^ 64 → get_or (put ws at i) p 0 < 2 ^ 64
    word-put p h = elim (ℕ_discrete p (at + i / 64)) [
      | yes e ↦ rw (e, put_in) (put_lt 64 (get_or ws (at + i / 64) 0) (i % 64) (rw e at h) (omega arith))
      | no f ↦ rw (put_out p f) h
    ]

-- ---- how many items

pub items_le : (ws : List ℕ) (at : ℕ) → items ws at ≤ 1024
unfolding items
items_le ws at = many_le 1024 (has ws at) (has_lt ws at)

-- those of one word more
pub items_more : (ws : List ℕ) (at k : ℕ)
    → how_many ((k + 1) * 64) (has ws at) ≡ how_many (k * 64) (has ws at) + how_many 64 (bit (get_or ws (at + k) 0))
items_more ws at k =
    let e : (k + 1) * 64 ≡ k * 64 + 64 = omega arith in
    let w = get_or ws (at + k) 0 in
    ap (λ n. how_many n (has ws at)) e ∙ many-add (k * 64) 64 (has ws at)
    ∙ ap (λ x. how_many (k * 64) (has ws at) + x) (many_cong 64 (λ j. has ws at (k * 64 + j)) (bit w) (has-at ws at k))

-- ---- words written

-- cleared
pub has_clear : (ws : List ℕ) (at n i : ℕ) → i < n * 64 → at + n ≤ length ws → has (write_words ws at (λ k. 0) n) at i ≡ 0
unfolding has
has_clear ws at n i l h = ap (λ x. bit x (i % 64)) (write_in ws at (λ k. 0) n (i / 64) (omega arith) h) ∙ bit_of-zero (i % 64)

-- copied
pub has_copy : (ws : List ℕ) (at : ℕ) (src : List ℕ) (from i : ℕ) → i < 1024 → at + 16 ≤ length ws
    → has (write_words ws at (λ k. get_or src (from + k) 0) 16) at i ≡ has src from i
unfolding has
has_copy ws at src from i l h = ap (λ x. bit x (i % 64)) (write_in ws at (λ k. get_or src (from + k) 0) 16 (i / 64) (omega arith) h)

-- elsewhere
pub has_write_out : (ws : List ℕ) (at : ℕ) (f : ℕ → ℕ) (n to i : ℕ) → (to + i / 64 < at) ⊎ (at + n ≤ to + i / 64)
    → has (write_words ws at f n) to i ≡ has ws to i
unfolding has
has_write_out ws at f n to i h = ap (λ x. bit x (i % 64)) (write_out ws at f n (to + i / 64) h)
