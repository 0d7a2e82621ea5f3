-- Cell after cell: by end, and within an end from the latest start to the first. A span's parts end earlier, or begin no earlier and end
-- with it, so only the cell at hand is unsettled. At last every span is right; so START's span has the cost of the first within and says
-- it, exactly where it fits. Of any spans of the line, closed or not. Assumes nothing.
use mathlib.Core.Path.{◌≡◌}
use mathlib.Core.Logic.{◌≢◌, inl, inr, ⊎_elim}
use mathlib.Core.List.Memᴰ
use mathlib.Core.List.{List, [], ◌∷◌, append-nil}
use Prim.Native.Nat.{ℕ, suc, ◌≤◌, ◌<◌}
use native.Mathlib.Decide.{ℕ_discrete}
use native.Mathlib.Omega.{arith}
use lib.ListN.{length}
use Rattle.symbols.specs.Symbol.{START}
use Rattle.theory.specs.Derivation.{Grammar}
use Rattle.leftmost.specs.Within.{Spans, Spells, FirstWithin, OfLine}
use Rattle.leftmost.specs.Within.Spells.{stop, apply}
use Rattle.leftmost.specs.Kept.{Store}
use Rattle.leftmost.specs.Says.{Says}
use Rattle.leftmost.specs.Cells.{Told, Right, Until}
use Rattle.leftmost.specs.Cells.Pass.{through}
use Rattle.leftmost.specs.Cells.Rounds.{none}
use Rattle.leftmost.specs.Cells.Settled.{stable}
use Rattle.leftmost.proofs.Order.{low_or_high}
use Rattle.leftmost.proofs.Said.{said_all, all-spells}
use Rattle.leftmost.proofs.Inner.{Inner, told-says}
use Rattle.leftmost.proofs.Rounds.{is-told, next-cell}

-- what is kept of START's span: the first within, where it fits
pub record StartFirst (G : Grammar) (line : List ℕ) (S : Spans) (most : ℕ) (σ : Store) (rs : List ℕ) : Type 0 where
  pub first : FirstWithin G line S rs
  pub cost : (σ START 0 (length line)).cost ≡ length rs
  pub fits : length rs ≤ most
  pub says : Says G line σ START 0 (length line) rs

module _ {G : Grammar} {line : List ℕ} {S : Spans} {most : ℕ} where
  -- ---- from cell to cell

  -- nothing kept, before the first cell
  pub first_cell : OfLine line S → {σ : Store} → ((x i j : ℕ) → (σ x i j).cost ≡ 0) → Until G line S most 1 0 σ
  first_cell of_line z = record {
    sound = λ x i j n. absurd (n (z x i j));
    right = λ x i j s d. absurd (⊎_elim (λ h. omega arith) (λ (e, h). let a = of_line.ahead x i j s in omega arith) d);
  }

  -- a cell without spans (one with spans: `next-cell` of Rounds)
  pub skip_cell : OfLine line S → {i j : ℕ} → ((x : ℕ) → S x i j → ⊥) → {σ : Store} → Until G line S most (suc i) j σ
      → Until G line S most i j σ
  skip_cell of_line empty u =
      next-cell of_line {xs = []} (λ x. (λ m. absurd (Memᴰ.not-nil m), λ s. absurd (empty x s))) u (stable none through)

  -- the next end
  pub next-end : OfLine line S → {j : ℕ} {σ : Store} → Until G line S most 0 j σ → Until G line S most (suc (suc j)) (suc j) σ
  next-end of_line {j} u = record {
    sound = u.sound;
    right = λ x s m z d. u.right x s m z (⊎_elim
        (λ h. elim (ℕ_discrete m j) [ yes e ↦ inr (e, omega arith) | no n ↦ inl (omega arith) ])
        (λ (e, h). absurd (let a = of_line.ahead x s m z in omega arith)) d);
  }

  -- ---- the whole line

  module _ {σ : Store} (u : Until G line S most 0 (length line) σ) (of_line : OfLine line S) where
    all_right : {x s m : ℕ} → S x s m → Right G line S most (suc most) x s m (σ x s m)
    all_right {x} {s} {m} z =
        let l = of_line.low x s m z in
        u.right x s m z (elim (ℕ_discrete m (length line)) [ yes e ↦ inr (e, omega arith) | no n ↦ inl (omega arith) ])

    -- every span with a derivation that fits is told
    pub all_told : {x s m : ℕ} {q : List ℕ} → S x s m → Spells G line S (x ∷ []) s m q → length q ≤ most
        → Told G line S most x s m (σ x s m)
    all_told z d h = is-told (all_right z) d (omega arith)

    module _ (start : S START 0 (length line)) where
      first_of : Told G line S most START 0 (length line) (σ START 0 (length line)) → (rs : List ℕ) × StartFirst G line S most σ rs
      first_of t =
          let f = t.fits in
          let inner : Inner G line S most σ 0 (length line) (suc most) = λ y s m q a b z e h. all_told z e (omega arith) in (
            (σ START 0 (length line)).rule ∷ t.rest,
            record {
              first = t.best;
              cost = t.cost;
              fits = t.fits;
              says = told-says inner (omega arith) (omega arith) t (omega arith);
            },
          )

      -- START's span has a cost: it is the length of the first within, which fits and is said
      pub start_first : (σ START 0 (length line)).cost ≢ 0 → (rs : List ℕ) × StartFirst G line S most σ rs
      start_first n =
          let o = (u.sound START 0 (length line) n).offer in
          let p = said_all u.sound o.total in
          let a = p.short in
          let c = o.fits in
          let s = all-spells u.sound p.is in
          let d = apply (σ START 0 (length line)).rule o.current o.left start s stop (append-nil p.list) in
          first_of (all_told start d (omega arith))

      -- it has none: every derivation within is longer than the buffer
      pub start_none : (σ START 0 (length line)).cost ≡ 0 → (qs : List ℕ) → Spells G line S (START ∷ []) 0 (length line) qs
          → most < length qs
      start_none e qs d = ⊎_elim
          (λ h. let t = all_told start d h in let c = t.cost in absurd (omega arith))
          (λ h. h) (low_or_high (length qs) most)
