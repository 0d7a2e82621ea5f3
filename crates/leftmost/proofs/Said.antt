-- In a sound store every span with a cost says one list, which is a derivation of it and no longer than the cost. Assumes nothing.
use mathlib.Core.Path.{◌≡◌, refl, sym, ◌∙◌, ap, subst}
use mathlib.Core.Logic.{◌≢◌}
use mathlib.Core.List.{List, [], ◌∷◌, ◌++◌, append-nil}
use Prim.Native.Nat.{ℕ, zero, suc, ◌≤◌}
use native.Mathlib.Omega.{arith}
use lib.Dec.{T}
use lib.ListN.{length, length-append}
use Rattle.symbols.specs.Symbol.{terminal}
use Rattle.theory.specs.Derivation.{Grammar}
use Rattle.leftmost.specs.Within.{Spans, Spells, OfLine}
use Rattle.leftmost.specs.Within.Spells.{stop, apply, token as pass}
use Rattle.leftmost.specs.Kept.{Store, Total, Sound, NoTokens}
use Rattle.leftmost.specs.Kept.Total.{end as ended, token as passed, span as spanned}
use Rattle.leftmost.specs.Says.{Says, SaysAll}
use Rattle.leftmost.specs.Says.Says.{says}
use Rattle.leftmost.specs.Says.SaysAll.{end, token, span}
use Rattle.leftmost.proofs.Parts.{not_both, join}

-- ---- only one list is said

module _ {G : Grammar} {line : List ℕ} {σ : Store} where
  -- what says a list has a cost
  pub some-cost : {x i j : ℕ} {rs : List ℕ} → Says G line σ x i j rs → (σ x i j).cost ≢ 0
  some-cost (says n c l s e) = n

  module _ (none : NoTokens σ) where
    pub not-said : {y i m : ℕ} {q : List ℕ} → T (terminal y) → Says G line σ y i m q → ⊥
    not-said {y} {i} {m} t s = none y i m t (some-cost s)

    -- what follows a token says the same
    pub after-token : {y i m j : ℕ} {ys ms qs : List ℕ} → T (terminal y) → SaysAll G line σ (y ∷ ys) i (m ∷ ms) j qs
        → SaysAll G line σ ys m ms j qs
    after-token t (token t' h e u) = u
    after-token t (span s u e) = absurd (not-said t s)

    mutual
      pub said-once : {x i j : ℕ} {rs qs : List ℕ} → Says G line σ x i j rs → Says G line σ x i j qs → rs ≡ qs
      said-once {x} {i} {j} (says n c l s e) (says n' c' l' s' e') = sym e ∙ ap (λ z. (σ x i j).rule ∷ z) (all-same s s' refl refl) ∙ e'

      -- from places that are equal, and with ends that are
      all-same : {ys ms ns qs ps : List ℕ} {i j k l : ℕ} → SaysAll G line σ ys i ms j qs → SaysAll G line σ ys k ns l ps → i ≡ k → ms ≡ ns
          → qs ≡ ps
      all-same end end u v = refl
      all-same (token {i = i} {ms = ms} t h e s) (token {i = k} {ms = ns} t' h' e' s') u v =
          let w : suc i ≡ suc k = cc in
          let x : ms ≡ ns = cc in
          all-same s s' w x
      all-same (token t h e s) (span a b q) u v = absurd (not-said t a)
      all-same (span a b q) (token t h e s) u v = absurd (not-said t a)
      all-same (span {y = y} {i = i} {m = m} {ms = ms} {ps = p} a s e) (span {i = k} {m = n} {ms = ns} {q = q} a' s' e') u v =
          let w : m ≡ n = cc in
          let x : ms ≡ ns = cc in
          let b = subst (λ z. Says G line σ y z m q) (sym u) (subst (λ z. Says G line σ y k z q) (sym w) a') in
          sym e ∙ ap (λ z. z ++ p) (said-once a b) ∙ ap (λ z. q ++ z) (all-same s s' w x) ∙ e'

    pub all_once : {ys ms qs ps : List ℕ} {i j : ℕ} → SaysAll G line σ ys i ms j qs → SaysAll G line σ ys i ms j ps → qs ≡ ps
    all_once s s' = all-same s s' refl refl

-- ---- a list said by a span, no longer than its cost

pub record Said (G : Grammar) (line : List ℕ) (σ : Store) (x i j : ℕ) : Type 0 where
  pub list : List ℕ
  pub is : Says G line σ x i j list
  pub short : length list ≤ (σ x i j).cost

pub record SaidAll (G : Grammar) (line : List ℕ) (σ : Store) (ys : List ℕ) (i : ℕ) (ms : List ℕ) (j c : ℕ) : Type 0 where
  pub list : List ℕ
  pub is : SaysAll G line σ ys i ms j list
  pub short : length list ≤ c

module _ {G : Grammar} {line : List ℕ} {S : Spans} {most : ℕ} {σ : Store} (sound : Sound G line S most σ) where
  pub no_tokens : OfLine line S → NoTokens σ
  no_tokens of_line y i m t n = not_both y t (of_line.symbol y i m (sound y i m n).within)

  all-below : (n : ℕ) → ((x i j : ℕ) → (σ x i j).cost ≢ 0 → (σ x i j).cost ≤ n → Said G line σ x i j)
      → {ys ms : List ℕ} {i j c : ℕ} → Total line σ ys i ms j c → c ≤ n → SaidAll G line σ ys i ms j c
  all-below n f ended h = record { list = []; is = end; short = omega arith }
  all-below n f (passed t k e s) h =
      let a = all-below n f s h in
      record { list = a.list; is = token t k e a.is; short = a.short }
  all-below n f (spanned {y = y} {i = i} {m = m} {c = c} z s e) h =
      let b = f y i m z (omega arith) in
      let a = all-below n f s (omega arith) in
      let u = b.short in
      let v = a.short in
      record { list = b.list ++ a.list; is = span b.is a.is refl; short = omega (arith, length-append b.list a.list) }

  said-below : (n : ℕ) (x i j : ℕ) → (σ x i j).cost ≢ 0 → (σ x i j).cost ≤ n → Said G line σ x i j
  said-below zero x i j z h = absurd (z (omega arith))
  said-below (suc n) x i j z h =
      let b = sound x i j z in
      let o = b.offer in
      let u = b.enough in
      let a = all-below n (said-below n) o.total (omega arith) in
      let v = a.short in
      record { list = (σ x i j).rule ∷ a.list; is = says z o.current o.left a.is refl; short = omega arith }

  -- every span with a cost says a list, and so does every sum of costs
  pub said : (x i j : ℕ) → (σ x i j).cost ≢ 0 → Said G line σ x i j
  said x i j z = said-below (σ x i j).cost x i j z (omega arith)

  pub said_all : {ys ms : List ℕ} {i j c : ℕ} → Total line σ ys i ms j c → SaidAll G line σ ys i ms j c
  said_all {c = c} t = all-below c (λ x i j z h. said x i j z) t (omega arith)

  -- ---- what is said is a derivation within the spans

  mutual
    pub said-spells : {x i j : ℕ} {rs : List ℕ} → Says G line σ x i j rs → Spells G line S (x ∷ []) i j rs
    said-spells {x} {i} {j} (says {qs = qs} n c l s e) =
        subst (λ z. Spells G line S (x ∷ []) i j z) e
        (apply (σ x i j).rule c l (sound x i j n).within (all-spells s) stop (append-nil qs))

    pub all-spells : {ys ms qs : List ℕ} {i j : ℕ} → SaysAll G line σ ys i ms j qs → Spells G line S ys i j qs
    all-spells end = stop
    all-spells (token t h e s) = pass t h e (all-spells s)
    all-spells {ys = y ∷ ys} {i = i} {j = j} (span a s e) =
        subst (λ z. Spells G line S (y ∷ ys) i j z) e (join (said-spells a) (all-spells s))
