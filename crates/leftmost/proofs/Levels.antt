-- The levels of a spelling, from the last right place to the first: at each position the ends that lead, by the sum of costs and then by
-- the lists said. Only the next symbol's spans are compared. What leads at the first level is what the rule offers. Assumes nothing.
use mathlib.Core.Path.{◌≡◌, refl, sym, ◌∙◌, ap, subst}
use mathlib.Core.Logic.{◌≢◌, ◌⊎◌, inl, inr, ⊎_elim}
use mathlib.Core.List.{List, [], ◌∷◌, ◌++◌}
use Prim.Native.Nat.{ℕ, suc, ◌+◌, ◌≤◌, ◌<◌}
use native.Mathlib.Decide.{ℕ_discrete}
use native.Mathlib.Omega.{arith}
use lib.Dec.{T}
use lib.ListN.{length, get_or}
use Rattle.symbols.specs.Symbol.{terminal}
use Rattle.theory.specs.Derivation.{Grammar}
use Rattle.leftmost.specs.Leftmost.{Before}
use Rattle.leftmost.specs.Kept.{Kept, Store, Total, Offer, NoTokens}
use Rattle.leftmost.specs.Kept.Total.{end as ended, token as passed, span as spanned}
use Rattle.leftmost.specs.Says.{Says, SaysAll, Ahead, Foremost, Precedes}
use Rattle.leftmost.specs.Says.SaysAll.{token, span}
use Rattle.leftmost.specs.Comes.{Comes}
use Rattle.leftmost.specs.Comes.Comes.{offered}
use Rattle.leftmost.specs.Levels.{Leads, Level, Chosen}
use Rattle.leftmost.proofs.Order.{before_longer, before-after, low_or_high}
use Rattle.leftmost.proofs.Said.{after-token, said-once}
use Rattle.leftmost.proofs.Walked.{precedes_before}

-- what a non-terminal and the symbols after it say
record Parted (G : Grammar) (line : List ℕ) (σ : Store) (y : ℕ) (ys : List ℕ) (i m : ℕ) (ms : List ℕ) (j : ℕ) (qs : List ℕ) : Type 0 where
  front : List ℕ
  back : List ℕ
  fronts : Says G line σ y i m front
  backs : SaysAll G line σ ys m ms j back
  joined : front ++ back ≡ qs

parted : {G : Grammar} {line : List ℕ} {σ : Store} {y i m j : ℕ} {ys ms qs : List ℕ} → (T (terminal y) → ⊥)
    → SaysAll G line σ (y ∷ ys) i (m ∷ ms) j qs → Parted G line σ y ys i m ms j qs
parted n (token t h e u) = absurd (n t)
parted n (span {q = q} {ps = w} s u e) = record { front = q; back = w; fronts = s; backs = u; joined = e }

module _ {G : Grammar} {line : List ℕ} {σ : Store} (none : NoTokens σ) where
  -- the level above all right places
  pub leads-end : {j : ℕ} → Leads G line σ [] j j [] 0
  leads-end = record { total = ended; first = λ ns d t. go t }
    where
      go : {i j d : ℕ} {ns : List ℕ} → Total line σ [] i ns j d → (0 < d) ⊎ ((0 ≡ d) × Foremost G line σ [] i j [] ns)
      go ended = inr (refl, inl refl)

  -- under a token
  pub leads-token : {y i j c : ℕ} {ys ms : List ℕ} → T (terminal y) → i < length line → get_or line i 0 ≡ y
      → Leads G line σ ys (suc i) j ms c → Leads G line σ (y ∷ ys) i j (suc i ∷ ms) c
  leads-token {y} {i} {j} {c} {ys} {ms} t h e l = record { total = passed t h e l.total; first = λ ns d w. go w }
    where
      ahead : {ns : List ℕ} → Ahead G line σ ys (suc i) j ms ns → Ahead G line σ (y ∷ ys) i j (suc i ∷ ms) (suc i ∷ ns)
      ahead a qs ps u v = a qs ps (after-token none t u) (after-token none t v)

      foremost : {ns : List ℕ} → Foremost G line σ ys (suc i) j ms ns → Foremost G line σ (y ∷ ys) i j (suc i ∷ ms) (suc i ∷ ns)
      foremost (inl q) = inl (ap (λ u. suc i ∷ u) q)
      foremost (inr a) = inr (ahead a)

      go : {d : ℕ} {ns : List ℕ} → Total line σ (y ∷ ys) i ns j d → (c < d) ⊎ ((c ≡ d) × Foremost G line σ (y ∷ ys) i j (suc i ∷ ms) ns)
      go (passed t' h' e' w) = ⊎_elim (λ a. inl a) (λ (a, b). inr (a, foremost b)) (l.first _ _ w)
      go (spanned {m = m} n w q) = absurd (none y i m t n)

  -- under a non-terminal: the span to m is chosen
  pub leads-span : {y i m j c : ℕ} {ys ms : List ℕ} {most : ℕ} (leader : ℕ → List ℕ) (sum : ℕ → ℕ) → (T (terminal y) → ⊥)
      → Level G line most σ ys j leader sum → (σ y i m).cost ≢ 0 → Leads G line σ ys m j ms c → (σ y i m).cost + c ≤ most
      → Chosen G line σ y ys i j leader sum m c → Leads G line σ (y ∷ ys) i j (m ∷ ms) ((σ y i m).cost + c)
  leads-span {y} {i} {m} {j} {c} {ys} {ms} {most} leader sum no-token level n l fits chosen =
      record { total = spanned n l.total refl; first = λ ns d w. go w }
    where
      -- through the same end: what follows decides
      same_end : {ns : List ℕ} → Foremost G line σ ys m j ms ns → Foremost G line σ (y ∷ ys) i j (m ∷ ms) (m ∷ ns)
      same_end (inl q) = inl (ap (λ u. m ∷ u) q)
      same_end {ns} (inr a) = inr ahead
        where
          ahead : Ahead G line σ (y ∷ ys) i j (m ∷ ms) (m ∷ ns)
          ahead qs ps u v =
              let p = parted no-token u in
              let q = parted no-token v in
              let same = ap (λ z. z ++ q.back) (said-once none p.fronts q.fronts) ∙ q.joined in
              let before = before-after p.front (a p.back q.back p.backs q.backs) in
              subst (λ z. Before z ps) p.joined (subst (λ z. Before (p.front ++ p.back) z) same before)

      -- through another end: the spans decide
      other-end : {k : ℕ} (ns : List ℕ) → Precedes G σ y i m k → Ahead G line σ (y ∷ ys) i j (m ∷ ms) (k ∷ ns)
      other-end ns w qs ps u v =
          let p = parted no-token u in
          let q = parted no-token v in
          let before = before_longer (precedes_before none w p.fronts q.fronts) p.back q.back in
          subst (λ z. Before z ps) p.joined (subst (λ z. Before (p.front ++ p.back) z) q.joined before)

      go : {d : ℕ} {ns : List ℕ} → Total line σ (y ∷ ys) i ns j d
          → ((σ y i m).cost + c < d) ⊎ (((σ y i m).cost + c ≡ d) × Foremost G line σ (y ∷ ys) i j (m ∷ ms) ns)
      go (passed t h e w) = absurd (no-token t)
      go {d} (spanned {m = k} {c = e} {ms = ns} z w q) = elim (ℕ_discrete k m) [
        | yes a ↦
            let u = ap (λ v. (σ y i v).cost) a in
            let v = subst (λ v. Total line σ ys v ns j e) a w in
            ⊎_elim (λ b. inl (omega arith)) (λ (b, f). inr (omega arith, near a f)) (l.first ns e v)
        | no a ↦ far a
      ]
        where
          near : k ≡ m → Foremost G line σ ys m j ms ns → Foremost G line σ (y ∷ ys) i j (m ∷ ms) (k ∷ ns)
          near a f = subst (λ v. Foremost G line σ (y ∷ ys) i j (m ∷ ms) (v ∷ ns)) (sym a) (same_end f)

          -- against what leads from there, where that is within the buffer
          far : k ≢ m → ((σ y i m).cost + c < d) ⊎ (((σ y i m).cost + c ≡ d) × Foremost G line σ (y ∷ ys) i j (m ∷ ms) (k ∷ ns))
          far a = ⊎_elim
              (λ h.
              let o = level k ns e w (omega arith) in
              let low : sum k ≤ e = ⊎_elim (λ v. omega arith) (λ (v, f). omega arith) (o.first ns e w) in
              ⊎_elim
              (λ u. inl (omega arith))
              (λ (u, f). ⊎_elim (λ v. absurd (a (sym v))) (λ p. less-or-same low u p) f)
              (chosen k z o))
              (λ h. inl (omega arith)) (low_or_high d most)
            where
              less-or-same : sum k ≤ e → (σ y i m).cost + c ≡ (σ y i k).cost + sum k → Precedes G σ y i m k
                  → ((σ y i m).cost + c < d) ⊎ (((σ y i m).cost + c ≡ d) × Foremost G line σ (y ∷ ys) i j (m ∷ ms) (k ∷ ns))
              less-or-same low u p = elim (ℕ_discrete (sum k) e) [
                | yes v ↦ inr (omega arith, inr (other-end ns p))
                | no v ↦ inl (omega arith)
              ]

  -- ---- the rules of a symbol

  -- what leads at the rule with the lowest sum, the lowest number among equals, is what the span comes to
  pub comes_offered : {most x i j c : ℕ} (k : Kept) → k.cost ≡ suc c → Offer G line most σ x i j k.rule k.ends c
      → Leads G line σ (G.right k.rule) i j k.ends c
      → ((r d : ℕ) (ns : List ℕ) → Offer G line most σ x i j r ns d → (c < d) ⊎ ((c ≡ d) × (k.rule ≤ r))) → Comes G line most σ x i j k
  comes_offered {most} {x} {i} {j} {c} k e o l chosen =
      offered e o (λ r d ns p. ⊎_elim (λ h. inl h) (λ (h, m). inr (h, equal r d ns p h m)) (chosen r d ns p))
    where
      equal : (r d : ℕ) (ns : List ℕ) → Offer G line most σ x i j r ns d → c ≡ d → k.rule ≤ r
          → (k.rule < r) ⊎ ((k.rule ≡ r) × Foremost G line σ (G.right r) i j k.ends ns)
      equal r d ns p h m = elim (ℕ_discrete k.rule r) [
        | yes q ↦
            let w = subst (λ z. Total line σ (G.right z) i ns j d) (sym q) p.total in
            let foremost = ⊎_elim (λ a. absurd (omega arith)) (λ (a, b). b) (l.first ns d w) in
            inr (q, subst (λ z. Foremost G line σ (G.right z) i j k.ends ns) q foremost)
        | no q ↦ inl (omega arith)
      ]
