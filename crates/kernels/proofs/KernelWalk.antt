-- A walk by `next` over the items of a kernel c: its start, a turn, its end. Assumes nothing.
use mathlib.Core.Path.{◌≡◌, refl, sym, ap, subst, ◌∙◌}
use mathlib.Core.List.{List}
use Prim.Native.Nat.{ℕ, zero, suc, ◌+◌, ◌≤◌, zero-le}
use native.Mathlib.Omega.{arith}
use lib.Dec.{eqb}
use lib.ListN.{length}
use Rattle.laws.specs.Loops.{up_to}
use Rattle.laws.proofs.Choice.{when-cases}
use Rattle.kernels.specs.Walk.{visit}
use Rattle.kernels.specs.Kernel.{has, Next}
use Rattle.kernels.specs.Bits.{Over, GivesBit}
use Rattle.kernels.specs.declared.bits.Bits.{Bits}
use Rattle.std.specs.Prelude.{Option, Some, None}
use Rattle.kernels.proofs.Walk.{visit-none, visit-step, visit_skip}
use Rattle.kernels.proofs.NextBit.{next-at, next-nothing}

-- x is what the walk has made of a by the items below `from`
pub record Walked {A : Type 0} (step : ℕ → A → A) (c : List ℕ) (from : ℕ) (a x : A) : Type 0 where
  pub inside : from ≤ 1024
  pub so_far : x ≡ visit step (has c 0) from a

pub walk_start : {A : Type 0} {step : ℕ → A → A} {c : List ℕ} {a : A} → Walked step c 0 a a
walk_start {step = step} {c = c} {a = a} = record { inside = zero-le; so_far = sym (visit-none step (has c 0) a) }

module _ {A : Type 0} {step : ℕ → A → A} {c : List ℕ} {from : ℕ} {a x : A} (walked : Walked step c from a x) where
  pub walk_turn : {f : (Option ℕ)} {i : ℕ} {y : A} → f ≡ Some i → Next c 0 16 from f → y ≡ step i x → Walked step c (i + 1) a y
  walk_turn {f} {i} e next h =
      let l = next-at c 0 {n = 16} {from = from} f next e in record {
        inside = omega (arith, l.inside);
        so_far = h ∙ ap (step i) (walked.so_far ∙ sym (visit_skip step (has c 0) from i a l.above l.none)) ∙ sym (visit-step step (has c 0) i a l.there);
      }

  pub walk_end : {f : (Option ℕ)} → f ≡ None → Next c 0 16 from f → x ≡ visit step (has c 0) 1024 a
  walk_end {f} e next = walked.so_far ∙ sym (visit_skip step (has c 0) from 1024 a walked.inside (next-nothing c 0 16 from f next e))

-- a turn from b to d: the next bit of those that the walk goes over, and it goes over the same ones afterwards
module _ {ws : List ℕ} {at n : ℕ} {b d : Bits} {r : Option ℕ} (o : Over ws at n b) (g : GivesBit b r d) where
  pub over-next : Next ws at n b.from r
  over-next = subst (λ v. Next v at n b.from r) o.words (subst (λ m. Next b.words.now at m b.from r) o.count (subst (λ p. Next b.words.now p b.n b.from r) o.place g.gives))

  pub over_still : Over ws at n d
  over_still = record { words = g.over.words ∙ o.words; place = g.over.place ∙ o.place; count = g.over.count ∙ o.count }

-- the walk b over the items of c is under way: x is what it has made of a
pub record Walking {A : Type 0} (step : ℕ → A → A) (c : List ℕ) (b : Bits) (a x : A) : Type 0 where
  pub over : Over c 0 16 b
  pub walked : Walked step c b.from a x

pub walking_start : {A : Type 0} {step : ℕ → A → A} {c : List ℕ} {a : A} {b : Bits} → Over c 0 16 b → b.from ≡ 0 → Walking step c b a a
walking_start {step = step} {c = c} {a = a} o z = record { over = o; walked = subst (λ n. Walked step c n a a) (sym z) walk_start }

module _ {A : Type 0} {step : ℕ → A → A} {c : List ℕ} {a x : A} {b : Bits} where
  module _ (w : Walking step c b a x) {d : Bits} where
    pub walking_turn : {i : ℕ} {y : A} → GivesBit b (Some i) d → y ≡ step i x → Walking step c d a y
    walking_turn {i} {y} g h = record {
      over = over_still w.over g;
      walked = subst (λ n. Walked step c n a y) (sym (g.on i refl)) (walk_turn w.walked refl (over-next w.over g) h);
    }

    pub walking_end : GivesBit b None d → x ≡ visit step (has c 0) 1024 a
    walking_end g = walk_end w.walked refl (over-next w.over g)

-- a walk whose step leaves the number of the words leaves it too
visit-length : (step : ℕ → List ℕ → List ℕ) → ((i : ℕ) (ws : List ℕ) → length (step i ws) ≡ length ws) → (h : ℕ → ℕ) (n : ℕ) (a : List ℕ) → length (visit step h n a) ≡ length a
unfolding visit up_to
visit-length step keeps h zero a = refl
visit-length step keeps h (suc n) a =
    when-cases (λ (y : List ℕ). length y ≡ length a) (eqb (h n) 1)
    (λ e. keeps n (visit step h n a) ∙ visit-length step keeps h n a) (λ e. visit-length step keeps h n a)

pub walk_length : {step : ℕ → List ℕ → List ℕ} {c : List ℕ} {from : ℕ} {a x : List ℕ} → Walked step c from a x
    → ((i : ℕ) (ws : List ℕ) → length (step i ws) ≡ length ws) → length x ≡ length a
walk_length {step} {c} {from} {a} w keeps = ap length w.so_far ∙ visit-length step keeps (has c 0) from a
