-- Bytes put one after the other are put as one, and what is put leaves one text. Assumes nothing.
use mathlib.Core.Path.{◌≡◌, refl, sym, ap, ◌∙◌, subst}
use mathlib.Core.List.{List, [], ◌∷◌, ◌++◌, append_assoc, append-nil}
use Prim.Native.Nat.{ℕ, ◌+◌, ◌-◌, ◌<◌}
use native.Mathlib.Numerals.{add-one}
use native.Mathlib.Omega.{arith}
use lib.ListN.{length, take, drop, set, take-append-drop, length-append}
use lib.Seq.{take-suc-set, drop-set-lt, drop-drop}
use Rattle.text.specs.Puts.{Puts, Adds}
use Rattle.text.specs.declared.Text.{Text}

pub puts_none : (out : List ℕ) (at : ℕ) → Puts out at out at []
puts_none out at = record { moved = omega arith; so_far = sym (append-nil (take at out)); beyond = refl }

pub puts_byte : (out : List ℕ) (at b : ℕ) → at < length out → Puts out at (set out at b) (at + 1) (b ∷ [])
puts_byte out at b l =
    record {
      moved = refl;
      so_far = ap (λ k. take k (set out at b)) (add-one at) ∙ take-suc-set out at b l;
      beyond = drop-set-lt (at + 1) out at b (omega arith);
    }

pub puts_then : {a b c : List ℕ} {i j k : ℕ} {x y : List ℕ} → Puts a i b j x → Puts b j c k y → Puts a i c k (x ++ y)
puts_then {a} {b} {c} {i} {j} {k} {x} {y} p q =
    let e : k ≡ j + (k - j) = omega (arith, q.moved) in
    let same : drop k b ≡ drop k a =
    ap (λ m. drop m b) e ∙ sym (drop-drop (k - j) j b) ∙ ap (drop (k - j)) p.beyond ∙ drop-drop (k - j) j a ∙ ap (λ m. drop m a) (sym e) in
    record {
      moved = omega (arith, p.moved, q.moved, length-append x y);
      so_far = q.so_far ∙ ap (λ t. t ++ y) p.so_far ∙ append_assoc (take i a) x y;
      beyond = q.beyond ∙ same;
    }

-- the same bytes, spelled otherwise
pub puts_as : {a b : List ℕ} {i j : ℕ} {x y : List ℕ} → x ≡ y → Puts a i b j x → Puts a i b j y
puts_as {a} {b} {i} {j} e p = subst (λ z. Puts a i b j z) e p

-- no second text and no second place fit
pub puts_one : {a b c : List ℕ} {i j k : ℕ} {x : List ℕ} → Puts a i b j x → Puts a i c k x → (b ≡ c) × (j ≡ k)
puts_one {a} {b} {c} {i} {j} {k} {x} p q =
    let e : j ≡ k = omega (arith, p.moved, q.moved) in (
      sym (take-append-drop j b)
          ∙ (λ z. (p.so_far ∙ sym q.so_far) z ++ (p.beyond ∙ ap (λ m. drop m a) e ∙ sym q.beyond) z)
          ∙ take-append-drop k c,
      e,
    )

-- ---- the same of a text

pub adds_none : (a : Text) → Adds a a []
adds_none a = record { same = refl; room = refl; puts = puts_none a.bytes.now a.end }

pub adds_then : {a b c : Text} {x y : List ℕ} → Adds a b x → Adds b c y → Adds a c (x ++ y)
adds_then p q = record { same = q.same ∙ p.same; room = q.room ∙ p.room; puts = puts_then p.puts q.puts }

pub adds_as : {a b : Text} {x y : List ℕ} → x ≡ y → Adds a b x → Adds a b y
adds_as {a} {b} e p = subst (λ z. Adds a b z) e p
