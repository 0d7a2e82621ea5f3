-- A rule spelled backwards, level by level from the last right place to the first. A level has, of each position from which the rest of
-- the right side goes to the span's end within the buffer, the ends that lead. Assumes nothing.
use Rattle.std.specs.Prelude.{◌≡◌, ◌≢◌, ◌⊎◌, List, ℕ, ◌+◌, ◌≤◌, ◌<◌}
use Rattle.theory.specs.Derivation.{Grammar}
use Rattle.leftmost.specs.Kept.{Store, Total}
use Rattle.leftmost.specs.Says.{Foremost, Precedes}

-- of all ends for ys from i to j, none has a lower sum than ms, and those of the same sum come after
pub record Leads (G : Grammar) (line : List ℕ) (σ : Store) (ys : List ℕ) (i j : ℕ) (ms : List ℕ) (c : ℕ) : Type 0 where
  pub total : Total line σ ys i ms j c
  pub first : (ns : List ℕ) (d : ℕ) → Total line σ ys i ns j d → (c < d) ⊎ ((c ≡ d) × Foremost G line σ ys i j ms ns)

-- the level of ys: `leader` has the ends that lead, `sum` their sum
abbrev pub Level : Grammar → List ℕ → ℕ → Store → List ℕ → ℕ → (ℕ → List ℕ) → (ℕ → ℕ) → Type 0
Level G line most σ ys j leader sum =
    (i : ℕ) (ns : List ℕ) (d : ℕ) → Total line σ ys i ns j d → d ≤ most → Leads G line σ ys i j (leader i) (sum i)

-- Of the spans of y from i, each with what leads from its end on, that to m with c from there on is chosen: none has a lower sum, and of
-- those with the same sum it says the earlier list
abbrev pub Chosen : Grammar → List ℕ → Store → ℕ → List ℕ → ℕ → ℕ → (ℕ → List ℕ) → (ℕ → ℕ) → ℕ → ℕ → Type 0
Chosen G line σ y ys i j leader sum m c = (n : ℕ) → (σ y i n).cost ≢ 0 → Leads G line σ ys n j (leader n) (sum n)
    → ((σ y i m).cost + c < (σ y i n).cost + sum n) ⊎ (((σ y i m).cost + c ≡ (σ y i n).cost + sum n) × ((m ≡ n) ⊎ Precedes G σ y i m n))
