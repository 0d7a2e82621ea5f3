-- A span comes out right where its parts are: set to its best offer, it is told up to one application more than they are.
-- Assumes nothing.
use mathlib.Core.Path.{◌≡◌, sym, ◌∙◌, ap, subst}
use mathlib.Core.Logic.{◌⊎◌, inl, inr, ⊎_elim}
use mathlib.Core.List.{List, [], ◌∷◌, append-nil}
use Prim.Native.Nat.{ℕ, suc, ◌≤◌}
use native.Mathlib.Omega.{arith}
use lib.ListN.{length}
use Rattle.theory.specs.Derivation.{Grammar}
use Rattle.leftmost.specs.Leftmost.{Before}
use Rattle.leftmost.specs.Leftmost.Before.{lower, later}
use Rattle.leftmost.specs.Within.{Spans, Spells, OfLine}
use Rattle.leftmost.specs.Within.Spells.{stop, apply}
use Rattle.leftmost.specs.Kept.{Kept, Store, Offer, Sound}
use Rattle.leftmost.specs.Says.{SaysAll}
use Rattle.leftmost.specs.Comes.{NoWorse, Comes}
use Rattle.leftmost.specs.Comes.Comes.{nothing, offered}
use Rattle.leftmost.specs.Cells.{Cut, Told, Right}
use Rattle.leftmost.specs.Cells.Right.{told, void}
use Rattle.leftmost.proofs.Order.{before_not_same, before-one_way, before-then, low_or_high}
use Rattle.leftmost.proofs.Said.{all_once, no_tokens, said_all, all-spells}
use Rattle.leftmost.proofs.Offers.{Own, Known, own}

-- neither list comes after the other, through a third
not_after : {a b c : List ℕ} → (a ≡ b) ⊎ Before a b → (b ≡ c) ⊎ Before b c → (a ≡ c) ⊎ Before a c
not_after (inl e) (inl q) = inl (e ∙ q)
not_after {c = c} (inl e) (inr q) = inr (subst (λ z. Before z c) (sym e) q)
not_after {a} (inr p) (inl q) = inr (subst (Before a) q p)
not_after (inr p) (inr q) = inr (before-then p q)

module _ {G : Grammar} {line : List ℕ} {S : Spans} (of_line : OfLine line S) {most : ℕ} {σ : Store} (sound : Sound G line S most σ)
    {x i j : ℕ} (at_hand : S x i j) (n : ℕ) (parts : Known G line S σ x i j n) where
  module _ (k : Kept) (c : ℕ) (best : (q d : ℕ) (ns : List ℕ) → Offer G line most σ x i j q ns d
      → NoWorse G line σ i j k.rule k.ends c q ns d) where
    -- no offer has a lower sum, and no derivation fewer applications
    lowest : {q d : ℕ} {ns : List ℕ} → Offer G line most σ x i j q ns d → c ≤ d
    lowest {q} {d} {ns} o = ⊎_elim (λ h. omega arith) (λ (h, w). omega arith) (best q d ns o)

    least-of : (qs : List ℕ) → Spells G line S (x ∷ []) i j qs → length qs ≤ n → length qs ≤ most → suc c ≤ length qs
    least-of qs s a b =
        let o = own of_line at_hand parts most qs s a b in
        let l = o.low in
        let m = lowest o.offer in
        omega arith

    -- the list that it says
    module _ (offer : Offer G line most σ x i j k.rule k.ends c) (rest : List ℕ)
        (says : SaysAll G line σ (G.right k.rule) i k.ends j rest) (short : length rest ≤ c) (below : suc c ≤ n) where
      -- against the parts' bests of a list of that length: it is theirs, or comes before
      data Against (r : ℕ) (ms ps : List ℕ) : Type 0 where
        theirs : k.rule ≡ r → k.ends ≡ ms → rest ≡ ps → Against r ms ps
        sooner : Before (k.rule ∷ rest) (r ∷ ps) → Against r ms ps

      against : {qs : List ℕ} → length qs ≡ suc c → (o : Own G line S most σ x i j qs) → Against o.rule o.ends o.rest
      against e o = go (best o.rule (length o.rest) o.ends o.offer)
        where
          go : NoWorse G line σ i j k.rule k.ends c o.rule o.ends (length o.rest) → Against o.rule o.ends o.rest
          go (inl h) = absurd (let l = o.low in omega arith)
          go (inr (h, inl w)) = sooner (lower w)
          go (inr (h, inr (w, inl u))) =
              let a = subst (λ z. SaysAll G line σ (G.right z) i k.ends j rest) w says in
              let b = subst (λ z. SaysAll G line σ (G.right o.rule) i z j o.rest) (sym u) o.says in
              theirs w u (all_once (no_tokens sound of_line) a b)
          go (inr (h, inr (w, inr u))) =
              let a = u rest o.rest (subst (λ z. SaysAll G line σ (G.right z) i k.ends j rest) w says) o.says in
              sooner (subst (λ z. Before (k.rule ∷ rest) (z ∷ o.rest)) w (later a))

      spells : Spells G line S (x ∷ []) i j (k.rule ∷ rest)
      spells = apply k.rule offer.current offer.left at_hand (all-spells sound says) stop (append-nil rest)

      exact : length rest ≡ c
      exact = let f = offer.fits in let h = least-of (k.rule ∷ rest) spells (omega arith) (omega arith) in omega arith

      -- a list of that length, against the bests of its parts
      its_own : (qs : List ℕ) → Spells G line S (x ∷ []) i j qs → length qs ≡ suc c
          → (o : Own G line S most σ x i j qs) × ((o.rule ∷ o.rest ≡ qs) ⊎ Before (o.rule ∷ o.rest) qs)
      its_own qs s e =
          let f = offer.fits in
          let o = own of_line at_hand parts most qs s (omega arith) (omega arith) in
          let l = o.low in
          let m = lowest o.offer in
          (o, o.order (omega arith))

      cut_of : Cut G line S (G.right k.rule) i k.ends j rest
      cut_of = let (o, p) = its_own (k.rule ∷ rest) spells (ap suc exact) in go p (against (ap suc exact) o) o.cut
        where
          go : {r : ℕ} {ms ps : List ℕ} → (r ∷ ps ≡ k.rule ∷ rest) ⊎ Before (r ∷ ps) (k.rule ∷ rest) → Against r ms ps
              → Cut G line S (G.right r) i ms j ps → Cut G line S (G.right k.rule) i k.ends j rest
          go {r} {ms} p (theirs a b e) u =
              subst (λ z. Cut G line S (G.right z) i k.ends j rest) (sym a)
              (subst (λ z. Cut G line S (G.right r) i z j rest) (sym b) (subst (λ z. Cut G line S (G.right r) i ms j z) (sym e) u))
          go (inl e) (sooner w) u = absurd (before_not_same (subst (Before (k.rule ∷ rest)) e w))
          go (inr v) (sooner w) u = absurd (before-one_way v w)

      told_of : k.cost ≡ suc c → Told G line S most x i j k
      told_of cost = record {
        rest = rest;
        best = record { spells = spells; least = least; first = λ qs s e. first qs s (e ∙ ap suc exact) };
        cost = cost ∙ ap suc (sym exact);
        fits = (let f = offer.fits in let e = exact in omega arith);
        cut = cut_of;
      }
        where
          least : (qs : List ℕ) → Spells G line S (x ∷ []) i j qs → suc (length rest) ≤ length qs
          least qs s = ⊎_elim
              (λ h. let f = offer.fits in let l = least-of qs s (omega arith) (omega arith) in absurd (omega arith))
              (λ h. omega arith) (low_or_high (length qs) c)

          first : (qs : List ℕ) → Spells G line S (x ∷ []) i j qs → length qs ≡ suc c → (k.rule ∷ rest ≡ qs) ⊎ Before (k.rule ∷ rest) qs
          first qs s e = let (o, p) = its_own qs s e in not_after (ahead (against e o)) p
            where
              ahead : {r : ℕ} {ms ps : List ℕ} → Against r ms ps → (k.rule ∷ rest ≡ r ∷ ps) ⊎ Before (k.rule ∷ rest) (r ∷ ps)
              ahead (theirs a b e) = inl (cc)
              ahead (sooner w) = inr w

  -- set to what it comes to, the span is right
  pub comes_right : {k : Kept} → Comes G line most σ x i j k → (u : ℕ) → u ≤ suc n → u ≤ suc most → Right G line S most u x i j k
  comes_right (nothing z f) u a b = void (λ qs s. ⊎_elim
      (λ h. h)
      (λ h. let o = own of_line at_hand parts most qs s (omega arith) (omega arith) in absurd (f o.rule _ o.ends o.offer))
      (low_or_high u (length qs)))
  comes_right {k} (offered {c = c} z o f) u a b = ⊎_elim
      (λ h. void (λ qs s. ⊎_elim
      (λ g. g)
      (λ g. let l = least-of k c f qs s (omega arith) (omega arith) in absurd (omega arith))
      (low_or_high u (length qs))))
      (λ h. let p = said_all sound o.total in told (told_of k c f o p.list p.is p.short (omega arith) z))
      (low_or_high u (suc c))
