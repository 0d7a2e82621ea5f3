-- A loop that puts texts: what it has put is the list so far. Assumes nothing.
use mathlib.Core.Bool.{Bool, true, false, not}
use mathlib.Core.Path.{◌≡◌, refl, sym, ap, subst, ◌∙◌}
use mathlib.Core.List.{List, [], ◌∷◌, ◌++◌}
use Prim.Native.Nat.{ℕ, ◌+◌, ◌*◌, ◌≤◌, ◌<◌, zero-le}
use native.Mathlib.Omega.{arith}
use lib.Dec.{eqb, ltb, leb}
use borrow.Author.Tests.{lt-ltb, le-ltb, le-leb, lt-leb, eq-eqb, ne_eqb}
use Rattle.laws.specs.Choice.{when}
use Rattle.kernels.specs.Kernel.{has, holds, Least}
use Rattle.kernels.specs.Bits.{Over, GivesBit}
use Rattle.kernels.specs.declared.bits.Bits.{Bits}
use Rattle.kernels.proofs.KernelWalk.{over-next, over_still}
use Rattle.std.specs.Prelude.{Some, None}
use Rattle.text.specs.Puts.{Adds}
use Rattle.text.specs.declared.Text.{Text}
use Rattle.text.proofs.Putting.{adds_none, adds_then, adds_as}
use Rattle.text.specs.Text.{SPACE, decimal}
use Rattle.listing.specs.Printed.{set_text, accept_text}
use Rattle.listing.specs.Walk.{listed, cell_at, leads, transition_of, reduction_of, expanded_of}
use Rattle.listing.proofs.Listed.{listed-none, listed_turn, listed_yes, listed_skip}

-- the texts of the numbers from a on and below b are put
module _ (p : ℕ → Bool) (f : ℕ → List ℕ) (a : ℕ) {start : Text} where
  pub put-none : Adds start start (listed p f a a)
  put-none = adds_as (sym (listed-none p f a)) (adds_none start)

  module _ {b : ℕ} {now next : Text} (so_far : Adds start now (listed p f a b)) where
    -- a turn that puts b's text if b passes
    pub put-turn : a ≤ b → Adds now next (when (p b) (f b) []) → Adds start next (listed p f a (b + 1))
    put-turn l q = adds_as (sym (listed_turn p f a b l)) (adds_then so_far q)

    -- a turn at the next number that passes
    pub put_next : {c : ℕ} → a ≤ b → b ≤ c → ((k : ℕ) → b ≤ k → k < c → p k ≡ false) → p c ≡ true → Adds now next (f c)
        → Adds start next (listed p f a (c + 1))
    put_next {c} l m none there q =
        adds_as (ap (λ t. t ++ f c) (listed_skip p f a b c l m none) ∙ listed_yes p f a (omega arith) there) (adds_then so_far q)

-- ---- a walk over bits

-- the walk b over the bits of the n words from `at` on is under way: the texts of those that it has passed are put
pub record Putting (ws : List ℕ) (at n : ℕ) (f : ℕ → List ℕ) (b : Bits) (start now : Text) : Type 0 where
  pub over : Over ws at n b
  pub inside : b.from ≤ n * 64
  pub so_far : Adds start now (listed (holds ws at) f 0 b.from)

module _ {ws : List ℕ} {at n : ℕ} (f : ℕ → List ℕ) {b : Bits} {start : Text} where
  pub putting_start : Over ws at n b → b.from ≡ 0 → Putting ws at n f b start start
  putting_start o z = record {
    over = o;
    inside = omega arith;
    so_far = subst (λ k. Adds start start (listed (holds ws at) f 0 k)) (sym z) (put-none (holds ws at) f 0);
  }

module _ {ws : List ℕ} {at n : ℕ} {f : ℕ → List ℕ} {b d : Bits} {start now : Text} (p : Putting ws at n f b start now) where
  pub putting-least : {i : ℕ} → GivesBit b (Some i) d → Least ws at n b.from i
  putting-least g = over-next p.over g

  pub putting_turn : {i : ℕ} {next : Text} → GivesBit b (Some i) d → Adds now next (f i) → Putting ws at n f d start next
  putting_turn {i} {next} g q =
      let l = putting-least g in
      let e : d.from ≡ i + 1 = g.on i refl in
      record {
        over = over_still p.over g;
        inside = omega (arith, l.inside);
        so_far = subst (λ k. Adds start next (listed (holds ws at) f 0 k)) (sym e)
            (put_next (holds ws at) f 0 p.so_far zero-le l.above (λ k g h. ap (λ x. eqb x 1) (l.none k g h)) (eq-eqb _ 1 l.there) q);
      }

  pub putting_end : GivesBit b None d → Adds start now (listed (holds ws at) f 0 (n * 64))
  putting_end g =
      let none : (k : ℕ) → b.from ≤ k → k < n * 64 → has ws at k ≡ 0 = over-next p.over g in
      adds_as (listed_skip (holds ws at) f 0 b.from (n * 64) zero-le p.inside (λ k g h. ap (λ x. eqb x 1) (none k g h))) p.so_far

-- ---- a set's mark m and a target t, as they were read

pub not_used : {m c : ℕ} → m ≡ c → m ≡ 0 → ltb 0 c ≡ false
not_used {m} {c} e z = le-ltb 0 c (omega arith)

pub is-used : {m c : ℕ} → m ≡ c → (m ≡ 0 → ⊥) → ltb 0 c ≡ true
is-used {m} {c} e z = lt-ltb 0 c (omega arith)

pub entry_put : (s : ℕ) {m c b : ℕ} → m ≡ c → b ≡ when (leb 2 m) 101 117 → SPACE ∷ (decimal s ++ (b ∷ [])) ≡ set_text s (leb 2 c)
entry_put s e f = ap (λ b. SPACE ∷ (decimal s ++ (b ∷ []))) (f ∙ ap (λ m. when (leb 2 m) 101 117) e)

pub no_target : {t c : ℕ} → t ≡ c → t ≡ 0 → not (eqb c 0) ≡ false
no_target {t} {c} e z = ap not (eq-eqb c 0 (sym e ∙ z))

pub a_target : {t c : ℕ} → t ≡ c → (t ≡ 0 → ⊥) → not (eqb c 0) ≡ true
a_target {t} {c} e z = ap not (ne_eqb c 0 (λ f. z (e ∙ f)))

pub unexpanded-mark : {m c : ℕ} → m ≡ c → m < 2 → leb 2 c ≡ false
unexpanded-mark {m} {c} e l = lt-leb 2 c (omega arith)

pub expanded-mark : {m c : ℕ} → m ≡ c → 2 ≤ m → leb 2 c ≡ true
expanded-mark {m} {c} e l = le-leb 2 c (omega arith)

pub expanded-put : (cs ws : List ℕ) (s : ℕ) {m : ℕ} → m ≡ cell_at cs s 0
    → SPACE ∷ 84 ∷ (listed (leads cs s) (transition_of cs s) 1 128 ++ (SPACE ∷ 82 ∷ (listed (holds ws (s * 18 + 16)) reduction_of 0 128 ++ accept_text (eqb m 3))))
    ≡ expanded_of cs ws s
unfolding expanded_of
expanded-put cs ws s e =
    ap (λ m. SPACE ∷ 84 ∷ (listed (leads cs s) (transition_of cs s) 1 128 ++ (SPACE ∷ 82 ∷ (listed (holds ws (s * 18 + 16)) reduction_of 0 128 ++ accept_text (eqb m 3))))) e
