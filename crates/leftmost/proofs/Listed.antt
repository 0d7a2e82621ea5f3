-- From told spans to the buffer: numbered spans whose children are those of their choices are `Written`, so that the steps of emission,
-- begun with START's number at place 0, leave the first of the fewest. Assumes nothing.
use mathlib.Core.Path.{◌≡◌, refl, sym, ◌∙◌, ap, subst}
use mathlib.Core.Logic.{◌≢◌}
use mathlib.Core.List.{List, [], ◌∷◌, ◌++◌, append-nil}
use Prim.Native.Nat.{ℕ, zero, suc, ◌+◌, ◌≤◌, ◌<◌}
use native.Mathlib.Omega.{arith}
use lib.Dec.{T}
use lib.ListN.{length, get_or, length-append}
use Rattle.laws.proofs.Choice.{when-cases}
use Rattle.symbols.specs.Symbol.{START, terminal}
use Rattle.theory.specs.Derivation.{Grammar}
use Rattle.leftmost.specs.Within.{Spans, Spells, Best, FirstWithin, OfLine}
use Rattle.leftmost.specs.Within.Spells.{stop, apply, token as pass}
use Rattle.leftmost.specs.Kept.{Store}
use Rattle.leftmost.specs.Cells.{Cut, Told, Until}
use Rattle.leftmost.specs.Cells.Cut.{whole, part}
use Rattle.leftmost.specs.Emission.{steps, kids_of, Numbered, Emitted}
use Rattle.leftmost.proofs.Unique.{best-unique}
use Rattle.leftmost.proofs.Parts.{not_both}
use Rattle.leftmost.proofs.Cells.{StartFirst, all_told, start_first}
use Rattle.leftmost.proofs.Emission.{Written, WrittenAll, emitted}
use Rattle.leftmost.proofs.Emission.Written.{written}
use Rattle.leftmost.proofs.Emission.WrittenAll.{nothing, first}
use Rattle.leftmost.proofs.Emission.Marked.{none, one}

module _ {G : Grammar} {line : List ℕ} {S : Spans} (of_line : OfLine line S) {most : ℕ} {σ : Store}
    (u : Until G line S most 0 (length line) σ) {number : ℕ → ℕ → ℕ → ℕ} (cost rule : ℕ → ℕ) (kids : ℕ → List ℕ)
    (num : Numbered G σ S number cost rule kids) where
  cut-written : (c : ℕ) → c ≤ most
      → ((y s m : ℕ) → S y s m → (t : Told G line S most y s m (σ y s m)) → length t.rest < c
      → Written cost rule kids (number y s m) ((σ y s m).rule ∷ t.rest))
      → {ys ms qs : List ℕ} {s m : ℕ} → Cut G line S ys s ms m qs → length qs ≤ c → WrittenAll cost rule kids (kids_of number ys s ms) qs
  unfolding kids_of
  cut-written c l f whole h = nothing
  cut-written c l f {s = s} (part {y = y} {m = m} {ys = ys} {ms = ms} {q = q} {ps = ps} {qs = qs} B cut e) h =
      when-cases (λ (ks : List ℕ). WrittenAll cost rule kids ks qs) (terminal y)
      (λ t. leaf (subst T (sym t) tt) B.spells e (cut-written c l f cut))
      (λ t. child (λ v. subst T t v) B B.spells e (cut-written c l f cut))
    where
      leaf : {k : ℕ} {q : List ℕ} → T (terminal y) → Spells G line S (y ∷ []) s k q → q ++ ps ≡ qs
          → (length ps ≤ c → WrittenAll cost rule kids (kids_of number ys m ms) ps) → WrittenAll cost rule kids (kids_of number ys m ms) qs
      leaf t (pass v w z stop) e rest =
          subst (WrittenAll cost rule kids (kids_of number ys m ms)) e (rest (let n = ap length e in omega arith))
      leaf t (apply r cur left z d s e) p rest = absurd (not_both y t (of_line.symbol _ _ _ z))

      child : {k : ℕ} {q : List ℕ} → (T (terminal y) → ⊥) → Best G line S (y ∷ []) s k q → Spells G line S (y ∷ []) s k q → q ++ ps ≡ qs
          → (length ps ≤ c → WrittenAll cost rule kids (kids_of number ys m ms) ps)
          → WrittenAll cost rule kids (number y s k ∷ kids_of number ys m ms) qs
      child n B (pass v w z d) e rest = absurd (n v)
      child {k} {q} n B (apply r cur left z d stop p) e rest =
          let long : length q + length ps ≡ length qs = sym (length-append q ps) ∙ ap length e in
          let t = all_told u of_line z B.spells (omega arith) in
          let same : (σ y s k).rule ∷ t.rest ≡ q = best-unique t.best B in
          let v = ap length same in
          first (subst (Written cost rule kids (number y s k)) same (f y s k z t (omega arith))) (rest (omega arith)) e

  told-written : (c : ℕ) → c ≤ most → (x s m : ℕ) → S x s m → (t : Told G line S most x s m (σ x s m)) → length t.rest < c
      → Written cost rule kids (number x s m) ((σ x s m).rule ∷ t.rest)
  told-written zero l x s m z t h = absurd (omega arith)
  told-written (suc c) l x s m z t h =
      let w = cut-written c (omega arith) (told-written c (omega arith)) t.cut (omega arith) in
      written (subst (λ ks. WrittenAll cost rule kids ks t.rest) (sym (num.its_kids x s m z)) w)
      (ap (λ r. r ∷ t.rest) (num.its_rule x s m z)) (num.its_cost x s m z ∙ t.cost)

  -- START's number at place 0, and as many steps as its cost: the list is there, from place 0 on
  pub list_emitted : S START 0 (length line) → {rs : List ℕ} → FirstWithin G line S rs → length rs ≤ most
      → (b : List ℕ) → get_or b 0 0 ≡ number START 0 (length line) → length rs ≤ length b
      → Emitted b (steps cost rule kids (length rs) 0 b) 0 rs
  list_emitted start {rs} f h b e l =
      let t = all_told u of_line start f.spells h in
      let same : (σ START 0 (length line)).rule ∷ t.rest ≡ rs = best-unique t.best f in
      let v = ap length same in
      let w = told-written (suc (length t.rest)) (omega arith) START 0 (length line) start t (omega arith) in
      emitted cost rule kids (length rs) 0 b (number START 0 (length line) ∷ []) rs
      (one (subst (Written cost rule kids (number START 0 (length line))) same w) e none (append-nil rs)) refl (omega arith)

  -- as many steps as the cost kept, where there is one: the first within
  pub start_emitted : S START 0 (length line) → (σ START 0 (length line)).cost ≢ 0
      → (b : List ℕ) → get_or b 0 0 ≡ number START 0 (length line) → most ≤ length b
      → (rs : List ℕ) × StartFirst G line S most σ rs × Emitted b (steps cost rule kids (σ START 0 (length line)).cost 0 b) 0 rs
  start_emitted start n b e l =
      let (rs, f) = start_first u of_line start n in
      let h = f.fits in
      (rs, f, subst (λ c. Emitted b (steps cost rule kids c 0 b) 0 rs) (sym f.cost) (list_emitted start f.first h b e (omega arith)))
