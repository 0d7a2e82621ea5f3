-- Told spans say their lists: where the spans inside a cell's ends are told as far as they matter, each says the first of its fewest.
-- Assumes nothing.
use mathlib.Core.Path.{◌≡◌, refl, sym, ◌∙◌, ap, subst}
use mathlib.Core.Logic.{◌≢◌}
use mathlib.Core.List.{List, [], ◌∷◌, ◌++◌}
use Prim.Native.Nat.{ℕ, zero, suc, ◌+◌, ◌≤◌, ◌<◌}
use native.Mathlib.Omega.{arith}
use lib.Dec.{T}
use lib.ListN.{length, length-append}
use Rattle.theory.specs.Derivation.{Grammar}
use Rattle.leftmost.specs.Within.{Spans, Spells, Best}
use Rattle.leftmost.specs.Within.Spells.{stop, apply, token as pass}
use Rattle.leftmost.specs.Kept.{Store}
use Rattle.leftmost.specs.Says.{Says, SaysAll}
use Rattle.leftmost.specs.Says.Says.{says}
use Rattle.leftmost.specs.Says.SaysAll.{end, token, span}
use Rattle.leftmost.specs.Cells.{Cut, Told}
use Rattle.leftmost.specs.Cells.Cut.{whole, part}
use Rattle.leftmost.proofs.Unique.{best-unique}
use Rattle.leftmost.proofs.Parts.{forward, no_rules}

-- a span as it is to be: its best list, that list's length for its cost, and the list said
pub record Is (G : Grammar) (line : List ℕ) (S : Spans) (σ : Store) (x i j : ℕ) : Type 0 where
  pub list : List ℕ
  pub best : Best G line S (x ∷ []) i j list
  pub cost : (σ x i j).cost ≡ length list
  pub says : Says G line σ x i j list

module _ {G : Grammar} {line : List ℕ} {S : Spans} where
  -- the rule that a derivation of one symbol begins with
  pub begins : {x i j r : ℕ} {rs : List ℕ} → Spells G line S (x ∷ []) i j (r ∷ rs) → T (G.current r) × (G.left r ≡ x)
  begins (pass t h e s) = absurd (let z = ap length (no_rules s) in omega arith)
  begins (apply r c l z d s e) = (c, l)

  pub cut_forward : {ys ms qs : List ℕ} {i j : ℕ} → Cut G line S ys i ms j qs → i ≤ j
  cut_forward whole = omega arith
  cut_forward (part B c e) = let a = forward B.spells in let b = cut_forward c in omega arith

-- the spans from i or later to j or earlier that have a derivation of fewer than n applications are told
abbrev pub Inner : Grammar → List ℕ → Spans → ℕ → Store → ℕ → ℕ → ℕ → Type 0
Inner G line S most σ i j n = (y s m : ℕ) (q : List ℕ) → i ≤ s → m ≤ j → S y s m → Spells G line S (y ∷ []) s m q → length q < n
    → Told G line S most y s m (σ y s m)

module _ {G : Grammar} {line : List ℕ} {S : Spans} {most : ℕ} {σ : Store} {i j n : ℕ} (inner : Inner G line S most σ i j n) where
  -- what the parts of a list of at most c applications say, where each told span of at most c does
  cut-says : (c : ℕ) → c < n
      → ((y s m : ℕ) → i ≤ s → m ≤ j → (t : Told G line S most y s m (σ y s m)) → length t.rest < c
      → Says G line σ y s m ((σ y s m).rule ∷ t.rest))
      → {ys ms qs : List ℕ} {s m : ℕ} → Cut G line S ys s ms m qs → i ≤ s → m ≤ j → length qs ≤ c → SaysAll G line σ ys s ms m qs
  cut-says c low f whole a b h = end
  cut-says c low f {s = s} {m = m} (part {y = y} {ys = ys} {ms = ms} {ps = ps} {qs = qs} B cut e) a b h =
      go B B.spells e (cut_forward cut) (λ u v. cut-says c low f cut u b v)
    where
      go : {k : ℕ} {q : List ℕ} → Best G line S (y ∷ []) s k q → Spells G line S (y ∷ []) s k q → q ++ ps ≡ qs → k ≤ m
          → (i ≤ k → length ps ≤ c → SaysAll G line σ ys k ms m ps) → SaysAll G line σ (y ∷ ys) s (k ∷ ms) m qs
      go B (pass t l w stop) e v rest =
          subst (SaysAll G line σ (y ∷ ys) s (suc s ∷ ms) m) e (token t l w (rest (omega arith) (let z = ap length e in omega arith)))
      go {k} {q} B (apply r cur left z d stop p) e v rest =
          let long : length q + length ps ≡ length qs = sym (length-append q ps) ∙ ap length e in
          let u = forward d in
          let t = inner y s k q a (omega arith) z B.spells (omega arith) in
          let same : (σ y s k).rule ∷ t.rest ≡ q = best-unique t.best B in
          let x = ap length same in
          span (subst (Says G line σ y s k) same (f y s k a (omega arith) t (omega arith))) (rest (omega arith) (omega arith)) e

  told_below : (c : ℕ) → c < n → (x s m : ℕ) → i ≤ s → m ≤ j → (t : Told G line S most x s m (σ x s m)) → length t.rest < c
      → Says G line σ x s m ((σ x s m).rule ∷ t.rest)
  told_below zero low x s m a b t h = absurd (omega arith)
  told_below (suc c) low x s m a b t h =
      let (cur, left) = begins t.best.spells in
      let w = t.cost in
      let some : (σ x s m).cost ≢ 0 = λ (z : (σ x s m).cost ≡ 0). omega arith in
      says some cur left (cut-says c (omega arith) (told_below c (omega arith)) t.cut a b (omega arith)) refl

  -- a told span of fewer than n applications says its list, and is as it is to be
  pub told-says : {x s m : ℕ} → i ≤ s → m ≤ j → (t : Told G line S most x s m (σ x s m)) → suc (length t.rest) < n
      → Says G line σ x s m ((σ x s m).rule ∷ t.rest)
  told-says {x} {s} {m} a b t h = told_below (suc (length t.rest)) h x s m a b t (omega arith)

  pub told_is : {x s m : ℕ} → i ≤ s → m ≤ j → (t : Told G line S most x s m (σ x s m)) → suc (length t.rest) < n → Is G line S σ x s m
  told_is {x} {s} {m} a b t h = record { list = (σ x s m).rule ∷ t.rest; best = t.best; cost = t.cost; says = told-says a b t h }
