-- A derivation of a span makes an offer that is no worse: the bests of its parts, which are spans inside its own ends. A part that is the
-- span itself only makes the list longer. Assumes nothing.
use mathlib.Core.Path.{◌≡◌, refl, sym, ◌∙◌, ap, subst}
use mathlib.Core.Logic.{◌⊎◌, inl, inr, ⊎_elim}
use mathlib.Core.List.{List, [], ◌∷◌, ◌++◌, append-nil}
use Prim.Native.Nat.{ℕ, zero, suc, ◌+◌, ◌≤◌, ◌<◌}
use native.Mathlib.Omega.{arith}
use lib.Dec.{T}
use lib.ListN.{length, get_or, length-append}
use Rattle.symbols.specs.Symbol.{terminal}
use Rattle.theory.specs.Derivation.{Grammar}
use Rattle.leftmost.specs.Leftmost.{Before}
use Rattle.leftmost.specs.Within.{Spans, Spells, Best, OfLine}
use Rattle.leftmost.specs.Within.Spells.{stop, apply, token as pass}
use Rattle.leftmost.specs.Kept.{Store, Total, Offer}
use Rattle.leftmost.specs.Kept.Total.{end as ended, token as passed, span as spanned}
use Rattle.leftmost.specs.Says.{SaysAll}
use Rattle.leftmost.specs.Says.SaysAll.{end, token, span}
use Rattle.leftmost.specs.Cells.{Cut}
use Rattle.leftmost.specs.Cells.Cut.{whole, part}
use Rattle.leftmost.proofs.Order.{together}
use Rattle.leftmost.proofs.Parts.{not_both, forward}
use Rattle.leftmost.proofs.Said.{some-cost}
use Rattle.leftmost.proofs.Inner.{Is}

module _ {G : Grammar} {line : List ℕ} {S : Spans} where
  -- the list of a token is empty
  token-best : {y i : ℕ} → T (terminal y) → i < length line → get_or line i 0 ≡ y → Best G line S (y ∷ []) i (suc i) []
  token-best t h e = record { spells = pass t h e stop; least = λ qs s. omega arith; first = λ qs s w. inl (none qs w) }
    where
      none : (qs : List ℕ) → length qs ≡ 0 → [] ≡ qs
      none [] w = refl
      none (q ∷ qs) w = absurd (omega arith)

-- the bests of the symbols ys, which end at `ends`, against a list qs of theirs
record Adds (G : Grammar) (line : List ℕ) (S : Spans) (σ : Store) (ys : List ℕ) (i j : ℕ) (qs : List ℕ) : Type 0 where
  ends : List ℕ
  list : List ℕ
  total : Total line σ ys i ends j (length list)
  says : SaysAll G line σ ys i ends j list
  cut : Cut G line S ys i ends j list
  low : length list ≤ length qs
  order : length list ≡ length qs → (list ≡ qs) ⊎ Before list qs

-- a rule's offer made of them, against a list qs of the span
pub record Own (G : Grammar) (line : List ℕ) (S : Spans) (most : ℕ) (σ : Store) (x i j : ℕ) (qs : List ℕ) : Type 0 where
  pub rule : ℕ
  pub ends : List ℕ
  pub rest : List ℕ
  pub offer : Offer G line most σ x i j rule ends (length rest)
  pub says : SaysAll G line σ (G.right rule) i ends j rest
  pub cut : Cut G line S (G.right rule) i ends j rest
  pub low : suc (length rest) ≤ length qs
  pub order : suc (length rest) ≡ length qs → (rule ∷ rest ≡ qs) ⊎ Before (rule ∷ rest) qs

-- it serves for a longer list too
longer : {G : Grammar} {line : List ℕ} {S : Spans} {most : ℕ} {σ : Store} {x i j : ℕ} {q qs : List ℕ} → Own G line S most σ x i j q
    → length q < length qs → Own G line S most σ x i j qs
longer o h =
    let l = o.low in
    record {
      rule = o.rule;
      ends = o.ends;
      rest = o.rest;
      offer = o.offer;
      says = o.says;
      cut = o.cut;
      low = omega arith;
      order = λ e. absurd (omega arith);
    }

-- the spans inside (x, i, j) with fewer than n applications are as they are to be, or are that span itself
abbrev pub Known : Grammar → List ℕ → Spans → Store → ℕ → ℕ → ℕ → ℕ → Type 0
Known G line S σ x i j n = (y s m : ℕ) (q : List ℕ) → i ≤ s → m ≤ j → S y s m → Spells G line S (y ∷ []) s m q → length q < n
    → Is G line S σ y s m ⊎ ((y ≡ x) × ((s ≡ i) × (m ≡ j)))

module _ {G : Grammar} {line : List ℕ} {S : Spans} (of_line : OfLine line S) {σ : Store} {x i j : ℕ} (at_hand : S x i j) {n : ℕ}
    (parts : Known G line S σ x i j n) where
  -- a derivation of the span itself
  abbrev Shorter : ℕ → Type 0
  Shorter c = (q : List ℕ) × Spells G line S (x ∷ []) i j q × (length q ≤ c)

  -- part by part; or a part is the span itself
  adds : {ys qs : List ℕ} {s m : ℕ} → Spells G line S ys s m qs → i ≤ s → m ≤ j → length qs < n
      → Adds G line S σ ys s m qs ⊎ Shorter (length qs)
  adds stop a b h = inl (record { ends = []; list = []; total = ended; says = end; cut = whole; low = omega arith; order = λ e. inl refl })
  adds (pass {i = s} t l e d) a b h = ⊎_elim
      (λ p. inl (record {
        ends = suc s ∷ p.ends;
        list = p.list;
        total = passed t l e p.total;
        says = token t l e p.says;
        cut = part (token-best t l e) p.cut refl;
        low = p.low;
        order = p.order;
      }))
      (λ q. inr q) (adds d (omega arith) b h)
  adds (apply {x = y} {i = s} {m = m} {j = k} {xs = ys} {ps = ps} {qs = us} {rs = rs} r c l z d f e) a b h =
      let u = forward d in
      let v = forward f in
      let long : length ps + length us ≡ length rs = sym (length-append ps us) ∙ ap length e in
      let one : Spells G line S (y ∷ []) s m (r ∷ ps) = apply r c l z d stop (append-nil ps) in
      ⊎_elim
      (λ w. ⊎_elim (λ p. inl (both w p one long)) (λ (q, g, o). inr (q, g, omega arith)) (adds f (omega arith) b (omega arith)))
      (λ (p, (q, o)). inr (r ∷ ps, itself p q o one, omega arith)) (parts y s m (r ∷ ps) a (omega arith) z one (omega arith))
    where
      itself : {q : List ℕ} → y ≡ x → s ≡ i → m ≡ j → Spells G line S (y ∷ []) s m q → Spells G line S (x ∷ []) i j q
      itself {q} e f g o =
          subst (λ v. Spells G line S (v ∷ []) i j q) e
          (subst (λ v. Spells G line S (y ∷ []) v j q) f (subst (λ v. Spells G line S (y ∷ []) s v q) g o))

      both : Is G line S σ y s m → Adds G line S σ ys m k us → Spells G line S (y ∷ []) s m (r ∷ ps) → length ps + length us ≡ length rs
          → Adds G line S σ (y ∷ ys) s k (r ∷ rs)
      both w p one long =
          let n₁ = length-append w.list p.list in
          let n₂ = w.best.least (r ∷ ps) one in
          let n₃ = p.low in
          let n₄ = w.cost in
          let sum : (σ y s m).cost + length p.list ≡ length (w.list ++ p.list) = omega arith in
          record {
            ends = m ∷ p.ends;
            list = w.list ++ p.list;
            total = spanned (some-cost w.says) p.total sum;
            says = span w.says p.says refl;
            cut = part w.best p.cut refl;
            low = omega arith;
            order = λ o. together (w.best.first (r ∷ ps) one (omega arith)) (p.order (omega arith)) (ap (λ v. r ∷ v) e);
          }

  -- one application at least, which is at the span's own symbol
  some : {qs : List ℕ} → Spells G line S (x ∷ []) i j qs → 1 ≤ length qs
  some (pass t h e s) = absurd (not_both x t (of_line.symbol x i j at_hand))
  some (apply r cur left z d s e) = omega arith

  -- the offer of a list's first rule; of a shorter list, where a part is the span itself
  own_below : (most c : ℕ) (qs : List ℕ) → Spells G line S (x ∷ []) i j qs → length qs ≤ c → length qs ≤ n → length qs ≤ most
      → Own G line S most σ x i j qs
  own_below most zero qs s k l m = absurd (let h = some s in omega arith)
  own_below most (suc c) qs s k l m = go (λ q t a b d. own_below most c q t a b d) s k l m
    where
      go : ((q : List ℕ) → Spells G line S (x ∷ []) i j q → length q ≤ c → length q ≤ n → length q ≤ most → Own G line S most σ x i j q)
          → {qs : List ℕ} → Spells G line S (x ∷ []) i j qs → length qs ≤ suc c → length qs ≤ n → length qs ≤ most
          → Own G line S most σ x i j qs
      go again (pass t h e s) k l m = absurd (not_both x t (of_line.symbol x i j at_hand))
      go again (apply {ps = ps} {rs = rs} r cur left z d stop e) k l m =
          let same : ps ≡ rs = sym (append-nil ps) ∙ e in
          let u = ap length same in
          ⊎_elim
          (λ p.
          let v = p.low in
          record {
            rule = r;
            ends = p.ends;
            rest = p.list;
            offer = record { current = cur; left = left; total = p.total; fits = omega arith };
            says = p.says;
            cut = p.cut;
            low = omega arith;
            order = λ o. together {a = r ∷ []} (inl refl) (p.order (omega arith)) (ap (λ w. r ∷ w) same);
          })
          (λ (q, s, h). longer (again q s (omega arith) (omega arith) (omega arith)) (omega arith))
          (adds d (omega arith) (omega arith) (omega arith))

  pub own : (most : ℕ) (qs : List ℕ) → Spells G line S (x ∷ []) i j qs → length qs ≤ n → length qs ≤ most → Own G line S most σ x i j qs
  own most qs s l m = own_below most (length qs) qs s (omega arith) l m
