-- An expansion on the lent numbers keeps the form, the sizes and what lies beyond the pools, and so do expansions in a row. Assumes
-- nothing.
use mathlib.Core.Path.{◌≡◌, refl, sym, ◌∙◌, ap}
use mathlib.Core.Bool.{Bool}
use Prim.Native.Nat.{ℕ}
use native.Mathlib.Omega.{arith}
use lib.ListN.{length, length-map}
use Rattle.theory.specs.Table.{Table}
use Rattle.theory.specs.Expansion.{freed, expand}
use Rattle.theory.proofs.Later.{expand-cases}
use Rattle.table.specs.Layout.{Mem, view}
use Rattle.table.specs.Laid.{Formed}
use Rattle.expansion.specs.Expansion.{Expandable, Expands}
use Rattle.expansion.proofs.Promises.{expand-formed, expand-keeps}
use Rattle.table.proofs.Becoming.{becomes-none, sets-seen, rules-seen}
use Rattle.positions.specs.Reading.{Kept}

same-rules : (t : Table) (u : ℕ) → length (expand t u).table.rules ≡ length t.rules
same-rules t u = expand-cases (λ e. length e.table.rules ≡ length t.rules) t u (λ a. refl)
    (λ a b. length-map t.rules freed) (λ a b. length-map t.rules freed)

pub kept-none : {m : Mem} → Formed m → Kept m m
kept-none f = record {
  formed = f;
  becomes = becomes-none f.laid;
  sets = refl;
  rules = refl;
}

pub kept_trans : {a b c : Mem} → Kept a b → Kept b c → Kept a c
kept_trans f g = record {
  formed = g.formed;
  becomes = record {
    laid = g.becomes.laid;
    seen = refl;
    rules = λ k l. g.becomes.rules k l ∙ f.becomes.rules k (omega (arith, g.rules));
    cells = λ k l. g.becomes.cells k l ∙ f.becomes.cells k (omega (arith, g.sets));
    words = λ k l. g.becomes.words k l ∙ f.becomes.words k (omega (arith, g.sets));
  };
  sets = g.sets ∙ f.sets;
  rules = g.rules ∙ f.rules;
}

pub kept-expanded : {m n : Mem} {u : ℕ} {r : Bool} → Expandable m u → Expands m n u r → Kept m n
kept-expanded {m} {n} {u} E X = record {
  formed = expand-formed E X;
  becomes = record { laid = X.table.laid; seen = refl; rules = X.table.rules; cells = X.table.cells; words = X.table.words };
  sets = sym (sets-seen n) ∙ (expand-keeps E X).size ∙ sets-seen m;
  rules = sym (rules-seen n) ∙ ap (λ t. length t.rules) X.table.seen ∙ same-rules (view m) u ∙ rules-seen m;
}
