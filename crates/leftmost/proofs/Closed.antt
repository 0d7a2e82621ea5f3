-- Where every derivation of the line is within the spans, the first within is the first of all. Assumes nothing.
use mathlib.Core.Logic.{◌↔◌}
use mathlib.Core.List.{List, [], ◌∷◌}
use Prim.Native.Nat.{ℕ}
use lib.ListN.{length}
use Rattle.symbols.specs.Symbol.{START}
use Rattle.theory.specs.Derivation.{Grammar}
use Rattle.leftmost.specs.Leftmost.{Tokens, Leftmost, First}
use Rattle.leftmost.specs.Within.{Spans, Spells, FirstWithin, Closed}
use Rattle.leftmost.proofs.Walks.{Lefts, Any, spells_leftmost, leftmost_spells}

module _ {G : Grammar} {line : List ℕ} (tokens : Tokens line) where
  pub closed-first : {S : Spans} → Closed G line S → (rs : List ℕ) → First G line rs ↔ FirstWithin G line S rs
  closed-first {S} closed rs = (
    λ f. record {
      spells = closed rs f.fewest.leads;
      least = λ qs s. f.fewest.least qs (out qs s);
      first = λ qs s e. f.first qs (out qs s) e;
    },
    λ b. record {
      fewest = record { leads = out rs b.spells; least = λ qs d. b.least qs (closed qs d) };
      first = λ qs d e. b.first qs (closed qs d) e;
    },
  )
    where
      out : (qs : List ℕ) → Spells G line S (START ∷ []) 0 (length line) qs → Leftmost G (START ∷ []) qs line
      out qs s = spells_leftmost tokens (START ∷ []) qs s

  -- all spans of non-terminals are closed
  pub any_closed : Lefts G → Closed G line Any
  any_closed lefts rs d = (leftmost_spells lefts tokens (START ∷ []) rs).0 d
