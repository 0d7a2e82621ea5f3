-- No second outcome fits New's promise. (Of the other calls' `one-outcome` of `form` says it.) Assumes nothing.
use mathlib.Core.List.{List}
use mathlib.Core.Path.{◌≡◌, sym, ap, ◌∙◌}
use Prim.Native.Nat.{ℕ}
use native.Mathlib.Decide.{ℕ_discrete}
use lib.ListN.{length, get_or}
use lib.Seq.{ext_get_or}
use Rattle.theory.specs.Calls.{new_table}
use Rattle.table.specs.Layout.{Mem}
use Rattle.table.proofs.OneOutcome.{SameLengths, one_memory}
use Rattle.generator.specs.Calls.{NewPromised}

-- numbers, and lists as long as each other, that cannot differ are equal
pub stable : (a b : ℕ) → ((a ≡ b → ⊥) → ⊥) → a ≡ b
stable a b h = elim (ℕ_discrete a b) [ yes e ↦ e | no d ↦ absurd (h d) ]

stable-list : (a b : List ℕ) → length a ≡ length b → ((a ≡ b → ⊥) → ⊥) → a ≡ b
stable-list a b e h = ext_get_or 0 a b e (λ k l. stable (get_or a k 0) (get_or b k 0) (λ d. h (λ q. d (ap (λ x. get_or x k 0) q))))

stable_memory : (a b : Mem) → SameLengths a b → ((a ≡ b → ⊥) → ⊥) → a ≡ b
stable_memory a b l h =
    let r = stable-list a.rules b.rules l.rules (λ d. h (λ q. d (ap (λ x. x.rules) q))) in
    let c = stable-list a.sets.cells b.sets.cells l.cells (λ d. h (λ q. d (ap (λ x. x.sets.cells) q))) in
    let w = stable-list a.sets.words b.sets.words l.words (λ d. h (λ q. d (ap (λ x. x.sets.words) q))) in
    λ i. record { rules = r i; sets = record { cells = c i; words = w i } }

-- what holds where a fact holds and where it fails cannot fail
pub either : {P Q : Type 0} → (P → Q) → ((P → ⊥) → Q) → (Q → ⊥) → ⊥
either f g d = d (g (λ p. d (f p)))

pub one-outcome : {m n n' : Mem} {s r a a' : ℕ} → NewPromised m n s r a → NewPromised m n' s r a' → SameLengths n n' → (n ≡ n') × (a ≡ a')
one-outcome {m} {n} {n'} {s} {r} {a} {a'} p q l = (
  stable_memory n n' l
      (either (λ f. one_memory m n n' (new_table s r) (p.made f).1 (q.made f).1 l) (λ g. (p.bad_pool g).1 ∙ sym (q.bad_pool g).1)),
  stable a a' (either (λ f. (p.made f).0 ∙ sym (q.made f).0) (λ g. (p.bad_pool g).0 ∙ sym (q.bad_pool g).0)),
)
