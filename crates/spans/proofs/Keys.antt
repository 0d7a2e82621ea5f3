-- A key and the span that it is of. Assumes nothing.
use mathlib.Core.Path.{◌≡◌, ap, ◌∙◌}
use mathlib.Core.List.{List}
use Prim.Native.Nat.{ℕ, ◌-◌, ◌/◌, ◌%◌, ◌<◌}
use native.Mathlib.Decide.{dec_lt}
use native.Mathlib.Omega.{arith}
use Rattle.spans.specs.Area.{key_of, key_at, Place}
use Rattle.spans.specs.Gathered.{Ascending}

key_parts : (x i j : ℕ) → x < 256 → i < 256 → (key_of x i j % 256 ≡ x) × (255 - key_of x i j / 256 % 256 ≡ i) × (key_of x i j / 65536 ≡ j)
key_parts x i j h l = (omega arith, omega arith, omega arith)

pub key_place : {a : List ℕ} {e x i j : ℕ} → key_at a e ≡ key_of x i j → x < 256 → i < 256 → Place a e x i j
key_place {x = x} {i = i} {j = j} q h l =
    let (p, r, s) = key_parts x i j h l in
    record {
      symbol = ap (λ k. k % 256) q ∙ p;
      start = ap (λ k. 255 - k / 256 % 256) q ∙ r;
      ends = ap (λ k. k / 65536) q ∙ s;
    }

pub place_key : {a : List ℕ} {e x i j : ℕ} → Place a e x i j → key_at a e ≡ key_of x i j
place_key {a} {e} p =
    let whole : key_at a e ≡ key_of (key_at a e % 256) (255 - key_at a e / 256 % 256) (key_at a e / 65536) = omega arith in
    whole ∙ (λ z. key_of (p.symbol z) (p.start z) (p.ends z))

-- no key is at two places
pub one_place : (a : List ℕ) {count e f : ℕ} → Ascending a count → e < count → f < count → key_at a e ≡ key_at a f → e ≡ f
one_place a {count} {e} {f} ascending h l q =
    elim (dec_lt e f) [
      | yes p ↦ absurd (omega (arith, ascending e f p l))
      | no p ↦ elim (dec_lt f e) [ yes r ↦ absurd (omega (arith, ascending f e r h)) | no r ↦ omega arith ]
    ]
