-- The list exists exactly where START derives the line in the ordinary sense. Assumes nothing.
use mathlib.Core.Path.{◌≡◌, refl, sym, ◌∙◌, ap, subst, subst₂}
use mathlib.Core.Logic.{◌↔◌}
use mathlib.Core.List.{List, [], ◌∷◌, ◌++◌, append_assoc, append-nil}
use Prim.Native.Nat.{ℕ, ◌+◌, ◌<◌}
use native.Mathlib.Nat.{add-zero, zero-add}
use native.Mathlib.Numerals.{add-one}
use native.Mathlib.Omega.{arith}
use lib.Dec.{T}
use lib.ListN.{length, get_or, length-append}
use lib.Seq.{get_or-append_seam}
use Rattle.symbols.specs.Symbol.{START, nonterminal}
use Rattle.theory.specs.Derivation.{Grammar, Derives, Tree, Forest}
use Rattle.theory.specs.Derivation.Rewrites.{rewrite}
use Rattle.theory.specs.Derivation.Derives.{none as unchanged, step as rewritten}
use Rattle.theory.specs.Derivation.Tree.{by_rule, token as leaf}
use Rattle.theory.specs.Derivation.Forest.{done, next}
use Rattle.theory.proofs.Derivation.{derives_tree}
use Rattle.leftmost.specs.Leftmost.{Tokens, Leftmost, First}
use Rattle.leftmost.specs.Leftmost.Leftmost.{none, step}
use Rattle.leftmost.specs.Within.{Spans, Spells, FirstWithin, Closed}
use Rattle.leftmost.specs.Within.Spells.{stop, token, apply}
use Rattle.leftmost.proofs.Parts.{join}
use Rattle.leftmost.proofs.Walks.{Lefts, Any, spells_leftmost}
use Rattle.leftmost.proofs.Closed.{closed-first}
use Rattle.leftmost.proofs.Fewest.{Placed, first-exists}

-- a leftmost derivation is a derivation
pub leftmost_derives : {G : Grammar} {f rs w : List ℕ} → Leftmost G f rs w → Derives G f w
leftmost_derives none = unchanged
leftmost_derives (step before after r t c e d) = rewritten (rewrite before after r c e refl) (leftmost_derives d)

module _ {G : Grammar} {line : List ℕ} (lefts : Lefts G) where
  -- a tree's rules in preorder are a leftmost derivation
  mutual
    preorder : {x : ℕ} {w : List ℕ} → Tree G x w → (p q : List ℕ) → p ++ (w ++ q) ≡ line
        → (rs : List ℕ) × Spells G line Any (x ∷ []) (length p) (length p + length w) rs
    preorder (leaf {x = x} t) p q e =
        let h : length p < length line = omega (arith, length-append p (x ∷ q), ap length e) in
        ([], rw add-one (token t h (subst (λ l. get_or l (length p) 0 ≡ x) e (get_or-append_seam p x q 0)) stop))
    preorder {x} {w} (by_rule r c l f) p q e =
        let (rs, s) = preorders f p q e in
        (r ∷ rs, apply r c l (subst (λ y. T (nonterminal y)) l (lefts.of r c)) s stop (append-nil rs))

    preorders : {xs w : List ℕ} → Forest G xs w → (p q : List ℕ) → p ++ (w ++ q) ≡ line
        → (rs : List ℕ) × Spells G line Any xs (length p) (length p + length w) rs
    preorders done p q e = ([], rw add-zero stop)
    preorders (next {x = x} {xs = xs} {u = u} {v = v} {w = w} d ds h) p q e =
        let e₁ : p ++ (u ++ (v ++ q)) ≡ line = ap (λ l. p ++ l) (sym (append_assoc u v q) ∙ ap (λ l. l ++ q) h) ∙ e in
        let n : length (p ++ u) + length v ≡ length p + length w = omega (arith, length-append p u, length-append u v, ap length h) in
        let (rs, s) = preorder d p (v ++ q) e₁ in
        let (qs, t) = preorders ds (p ++ u) q (append_assoc p u (v ++ q) ∙ e₁) in
        (rs ++ qs, join s (subst₂ (λ a b. Spells G line Any xs a b qs) (length-append p u) n t))

  module _ {places : ℕ} (placed : Placed G places) (tokens : Tokens line) where
    pub first-derives : Derives G (START ∷ []) line ↔ ((rs : List ℕ) × First G line rs)
    first-derives = (
      λ d.
          let (rs, s) = preorder ((derives_tree tokens).0 d) [] [] (append-nil line) in
          let t = subst (λ j. Spells G line Any (START ∷ []) 0 j rs) (zero-add (length line)) s in
          first-exists lefts placed line tokens (spells_leftmost tokens (START ∷ []) rs t),
      λ (rs, f). leftmost_derives f.fewest.leads,
    )

    -- .. and so the first within spans that are closed
    pub closed-derives : {S : Spans} → Closed G line S → Derives G (START ∷ []) line ↔ ((rs : List ℕ) × FirstWithin G line S rs)
    closed-derives closed = (
      λ d. let (rs, f) = first-derives.0 d in (rs, (closed-first tokens closed rs).0 f),
      λ (rs, f). first-derives.1 (rs, (closed-first tokens closed rs).1 f),
    )
