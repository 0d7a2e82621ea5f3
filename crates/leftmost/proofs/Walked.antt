-- The walk of `before` tells the order of the lists that two spans say, without the lists. Assumes nothing.
use mathlib.Core.Path.{refl, sym, ◌∙◌, ap, subst}
use mathlib.Core.List.{List, ◌∷◌, ◌++◌}
use Prim.Native.Nat.{ℕ}
use Rattle.theory.specs.Derivation.{Grammar}
use Rattle.leftmost.specs.Leftmost.{Before}
use Rattle.leftmost.specs.Leftmost.Before.{lower, later}
use Rattle.leftmost.specs.Kept.{Store, NoTokens}
use Rattle.leftmost.specs.Says.{Says, SaysAll, Other, Precedes}
use Rattle.leftmost.specs.Says.Says.{says}
use Rattle.leftmost.specs.Says.SaysAll.{token, span}
use Rattle.leftmost.specs.Says.Other.{here, further}
use Rattle.leftmost.specs.Says.Precedes.{by_rule, by_part}
use Rattle.leftmost.proofs.Order.{before_longer, before-after}
use Rattle.leftmost.proofs.Said.{not-said, after-token, said-once}

-- what the two spans say at the first symbol that ends elsewhere, and that this decides
record Decided (G : Grammar) (line : List ℕ) (σ : Store) (y s a b : ℕ) (qs ps : List ℕ) : Type 0 where
  one : List ℕ
  two : List ℕ
  says-one : Says G line σ y s a one
  says_two : Says G line σ y s b two
  decides : Before one two → Before qs ps

module _ {G : Grammar} {line : List ℕ} {σ : Store} (none : NoTokens σ) where
  other-said : {ys ms ns qs ps : List ℕ} {i j k y s a b : ℕ} → Other ys i ms ns y s a b → SaysAll G line σ ys i ms j qs
      → SaysAll G line σ ys i ns k ps → Decided G line σ y s a b qs ps
  other-said (here n) (token t h e u) (token t' h' e' v) = absurd (n refl)
  other-said (here n) (token t h e u) (span a v q) = absurd (not-said none t a)
  other-said (here n) (span a u q) (token t h e v) = absurd (not-said none t a)
  other-said (here n) (span {q = q} {ps = w} {qs = l} a u e) (span {q = q'} {ps = w'} {qs = l'} b v e') = record {
    one = q;
    two = q';
    says-one = a;
    says_two = b;
    decides = λ o. subst (λ z. Before z l') e (subst (λ z. Before (q ++ w) z) e' (before_longer o w w'));
  }
  other-said (further o) (token t h e u) v = other-said o u (after-token none t v)
  other-said (further o) (span a u q) (token t h e v) = absurd (not-said none t a)
  other-said (further o) (span {q = q} {ps = w} {qs = l} a u e) (span {q = q'} {ps = w'} {qs = l'} b v e') =
      let d = other-said o u v in
      record {
        one = d.one;
        two = d.two;
        says-one = d.says-one;
        says_two = d.says_two;
        decides = λ z. subst (λ y. Before y l') e
            (subst (λ y. Before (q ++ w) y) (ap (λ y. y ++ w') (said-once none a b) ∙ e') (before-after q (d.decides z)));
      }

  -- the walk is right
  pub precedes_before : {x i a b : ℕ} {rs qs : List ℕ} → Precedes G σ x i a b → Says G line σ x i a rs → Says G line σ x i b qs
      → Before rs qs
  precedes_before {x} {i} {a} {b} {rs} {qs} (by_rule h) (says {qs = u} n c l s e) (says {qs = v} n' c' l' s' e') =
      subst (λ z. Before z qs) e (subst (λ z. Before ((σ x i a).rule ∷ u) z) e' (lower h))
  precedes_before {x} {i} {a} {b} {rs} {qs} (by_part w o p) (says {qs = u} n c l s e) (says {qs = v} n' c' l' s' e') =
      let d = other-said o s (subst (λ r. SaysAll G line σ (G.right r) i (σ x i b).ends b v) (sym w) s') in
      let z : Before u v = d.decides (precedes_before p d.says-one d.says_two) in
      subst (λ z. Before z qs) e (subst (λ z. Before ((σ x i a).rule ∷ u) z) (ap (λ r. r ∷ v) w ∙ e') (later z))
