-- What a span comes to by what is kept now: its best offer. Nothing is said of the order in which offers are looked at.
-- Assumes nothing.
use Rattle.std.specs.Prelude.{◌≡◌, ◌⊎◌, List, ℕ, suc, ◌<◌}
use Rattle.theory.specs.Derivation.{Grammar}
use Rattle.leftmost.specs.Kept.{Kept, Store, Offer}
use Rattle.leftmost.specs.Says.{Foremost}

-- the offer of rule r ending at ms for c is no worse than that of rule q ending at ns for d: by sum, then rule number, then the lists said
abbrev pub NoWorse : Grammar → List ℕ → Store → ℕ → ℕ → ℕ → List ℕ → ℕ → ℕ → List ℕ → ℕ → Type 0
NoWorse G line σ i j r ms c q ns d = (c < d) ⊎ ((c ≡ d) × ((r < q) ⊎ ((r ≡ q) × Foremost G line σ (G.right q) i j ms ns)))

pub data Comes (G : Grammar) (line : List ℕ) (most : ℕ) (σ : Store) (x i j : ℕ) : Kept → Type 0 where
  nothing : {k : Kept} → k.cost ≡ 0 → ((r c : ℕ) (ms : List ℕ) → Offer G line most σ x i j r ms c → ⊥) → Comes G line most σ x i j k
  offered : {k : Kept} {c : ℕ} → k.cost ≡ suc c → Offer G line most σ x i j k.rule k.ends c
      → ((q d : ℕ) (ns : List ℕ) → Offer G line most σ x i j q ns d → NoWorse G line σ i j k.rule k.ends c q ns d)
      → Comes G line most σ x i j k
