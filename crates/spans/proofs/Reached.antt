-- The symbol that a set is reached by, read off its kernel's lowest bit. Assumes nothing.
use mathlib.Core.Bool.{Bool, true, false}
use mathlib.Core.Path.{◌≡◌, refl, sym, ap, ◌∙◌}
use mathlib.Core.Logic.{◌≢◌}
use mathlib.Core.List.{List, [], ◌∷◌, map}
use Prim.Native.Nat.{ℕ, zero, suc, ◌+◌, ◌-◌, ◌*◌, ◌/◌, ◌%◌, ◌≤◌, ◌<◌}
use native.Mathlib.Decide.{dec_lt}
use native.Mathlib.Omega.{arith}
use lib.Dec.{eqb}
use lib.ListN.{length, get_or, length-append, get_or-append, get_or-eq_default}
use lib.Seq.{get_or-append-add}
use Rattle.laws.specs.Choice.{when}
use Rattle.laws.specs.Lists.{keep, joinMap, up_from}
use Rattle.kernels.specs.Kernel.{has, holds, Least, Next}
use Rattle.std.specs.Prelude.{Option, Some, None}
use Rattle.kernels.proofs.NextBit.{next-at, next-nothing}
use Rattle.theory.specs.Table.{RulePlace, Item, rule_at, item, all_items}
use Rattle.table.specs.Layout.{mem, sets_in, rules_in, rule_number, rule_seen, kernel_seen, view_rules, view}
use Rattle.table.specs.Laid.{LaidRules, Formed}
use Rattle.table.proofs.Read.{rule_read, set_read, right_read, right-length}
use Rattle.table.proofs.Formed.{laid-rules}
use Rattle.leftmost.specs.Shown.{before_dot, before_first, symbol_of}
use Rattle.spans.specs.Steps.{Kernels, symbol_in}

-- ---- the symbol before a dot

module _ {rs : List ℕ} (laid : LaidRules rs) where
  dot-after : (r d : ℕ) → r < rules_in rs → d < 7 → rule_number rs r (3 + d) ≡ before_dot (rule_at (view_rules rs) r).right (suc d)
  dot-after r d h l =
      elim (dec_lt d (rule_number rs r 2)) [
        | yes p ↦ sym (right_read rs r d p)
        | no p ↦
            (laid.each_rule r h).beyond d (omega arith) l
            ∙ sym (get_or-eq_default (rule_seen rs r).right 0 (omega (arith, right-length rs r)))
      ]
      ∙ ap (λ x. get_or x.right d 0) (sym (rule_read rs r h))

  pub dot_read : (r d : ℕ) → r < rules_in rs → d < 8 → d ≢ 0 → get_or rs (5 + r * 10 + (d - 1)) 0 ≡ before_dot (rule_at (view_rules rs) r).right d
  dot_read r zero h l some = absurd (some refl)
  dot_read r (suc d) h l some =
      let e : 5 + r * 10 + (suc d - 1) ≡ 2 + r * 10 + (3 + d) = omega arith in
      ap (λ i. get_or rs i 0) e ∙ dot-after r d h (omega arith)

-- ---- the first of the items kept

map_up : (f : ℕ → Item) (i n k : ℕ) (d : Item) → k < n → get_or (map f (up_from i n)) k d ≡ f (i + k)
map_up f i zero k d h = absurd (omega arith)
map_up f i (suc n) zero d h = ap f (omega arith)
map_up f i (suc n) (suc k) d h = map_up f (suc i) n k d (omega arith) ∙ ap f (omega arith)

-- the items of the rules from r on
abbrev items_from : ℕ → ℕ → List Item
items_from r n = joinMap (λ r. map (item r) (up_from 0 8)) (up_from r n)

items-length : (r n : ℕ) → length (items_from r n) ≡ n * 8
items-length r zero = refl
items-length r (suc n) =
    length-append (map (item r) (up_from 0 8)) (items_from (suc r) n) ∙ ap (λ k. 8 + k) (items-length (suc r) n) ∙ omega arith

items_at : (r n k : ℕ) (d : Item) → k < n * 8 → get_or (items_from r n) k d ≡ item (r + k / 8) (k % 8)
items_at r zero k d h = absurd (omega arith)
items_at r (suc n) k d h =
    let first = map (item r) (up_from 0 8) in
    elim (dec_lt k 8) [
      | yes l ↦
          let p : 0 + k ≡ k % 8 = omega arith in
          let q : r ≡ r + k / 8 = omega arith in
          get_or-append first (items_from (suc r) n) d k l ∙ map_up (item r) 0 8 k d l ∙ (λ i. item (q i) (p i))
      | no l ↦
          let e : k ≡ 8 + (k - 8) = omega arith in
          let p : (k - 8) % 8 ≡ k % 8 = omega arith in
          let q : suc r + (k - 8) / 8 ≡ r + k / 8 = omega arith in
          ap (λ k. get_or (items_from r (suc n)) k d) e ∙ get_or-append-add first (items_from (suc r) n) (k - 8) d
          ∙ items_at (suc r) n (k - 8) d (omega arith) ∙ (λ i. item (q i) (p i))
    ]

-- the rest after the first one that passes
record Begins (f : Item → Bool) (l : List Item) (x : Item) : Type 0 where
  rest : List Item
  is : keep f l ≡ x ∷ rest

keep_first : (f : Item → Bool) (l : List Item) (k : ℕ) (d : Item) → k < length l → f (get_or l k d) ≡ true
    → ((j : ℕ) → j < k → f (get_or l j d) ≡ false) → Begins f l (get_or l k d)
unfolding when
keep_first f [] k d h t b = absurd (omega arith)
keep_first f (x ∷ l) zero d h t b = record { rest = keep f l; is = ap (λ c. when c (x ∷ keep f l) (keep f l)) t }
keep_first f (x ∷ l) (suc k) d h t b =
    let r = keep_first f l k d (omega arith) t (λ j g. b (suc j) (omega arith)) in
    record { rest = r.rest; is = ap (λ c. when c (x ∷ keep f l) (keep f l)) (b 0 (omega arith)) ∙ r.is }

keep_none : (f : Item → Bool) (l : List Item) (d : Item) → ((j : ℕ) → j < length l → f (get_or l j d) ≡ false) → keep f l ≡ []
unfolding when
keep_none f [] d b = refl
keep_none f (x ∷ l) d b =
    ap (λ c. when c (x ∷ keep f l) (keep f l)) (b 0 (omega arith)) ∙ keep_none f l d (λ j h. b (suc j) (omega arith))

-- ---- of a kernel

module _ (rs : List RulePlace) (n : ℕ) (ws : List ℕ) (at : ℕ) where
  abbrev kept : Item → Bool
  kept i = holds ws at (i.rule * 8 + i.dot)

  kept_at : (k : ℕ) → k < n * 8 → kept (get_or (all_items n) k (item 0 0)) ≡ eqb (has ws at k) 1
  kept_at k h =
      let e : (0 + k / 8) * 8 + k % 8 ≡ k = omega arith in
      ap kept (items_at 0 n k (item 0 0) h) ∙ ap (λ k. eqb (has ws at k) 1) e

  first-symbol : {i : ℕ} → i < n * 8 → Least ws at 16 0 i → before_first rs (kernel_seen n ws at) ≡ before_dot (rule_at rs (i / 8)).right (i % 8)
  unfolding kernel_seen
  first-symbol {i} h l =
      let b =
      keep_first kept (all_items n) i (item 0 0) (omega (arith, items-length 0 n)) (kept_at i h ∙ ap (λ b. eqb b 1) l.there)
      (λ j g. kept_at j (omega arith) ∙ ap (λ b. eqb b 1) (l.none j (omega arith) g)) in
      ap (before_first rs) b.is ∙ ap (λ i. before_dot (rule_at rs i.rule).right i.dot) (items_at 0 n i (item 0 0) h)
      ∙ ap (λ r. before_dot (rule_at rs r).right (i % 8)) (omega arith)

  no_symbol : n ≤ 128 → ((j : ℕ) → 0 ≤ j → j < 16 * 64 → has ws at j ≡ 0) → before_first rs (kernel_seen n ws at) ≡ 0
  unfolding kernel_seen
  no_symbol few none =
      ap (before_first rs)
      (keep_none kept (all_items n) (item 0 0)
      (λ j h.
      let e = items-length 0 n in
      kept_at j (omega arith) ∙ ap (λ b. eqb b 1) (none j (omega arith) (omega arith))))

module _ {rs ws : List ℕ} (kernels : Kernels rs ws) where
  module _ {s : ℕ} (in_sets : s < sets_in rs) where
    pub item-inside : {f : (Option ℕ)} {i : ℕ} → f ≡ Some i → Next ws (s * 18) 16 0 f → i < rules_in rs * 8
    item-inside {f} {i} e next =
        let l = next-at ws (s * 18) {n = 16} {from = 0} f next e in
        elim (dec_lt i (rules_in rs * 8)) [
          | yes h ↦ h
          | no h ↦ absurd (omega (arith, l.there, kernels.within s in_sets i (omega arith) (omega (arith, l.inside))))
        ]

    pub symbol-first : {f : (Option ℕ)} {i x : ℕ} → f ≡ Some i → Next ws (s * 18) 16 0 f
        → x ≡ before_dot (rule_at (view_rules rs) (i / 8)).right (i % 8) → x ≡ symbol_in rs ws s
    unfolding symbol_in
    symbol-first {f} e next q =
        q ∙ sym (first-symbol (view_rules rs) (rules_in rs) ws (s * 18) (item-inside e next) (next-at ws (s * 18) {n = 16} {from = 0} f next e))

    pub symbol-none : {f : (Option ℕ)} → f ≡ None → Next ws (s * 18) 16 0 f → 0 ≡ symbol_in rs ws s
    unfolding symbol_in
    symbol-none {f} e next =
        sym (no_symbol (view_rules rs) (rules_in rs) ws (s * 18) kernels.laid.few_rules (next-nothing ws (s * 18) 16 0 f next e))

-- ---- of the sets of a table

module _ (rs cells ws : List ℕ) where
  pub formed-kernels : Formed (mem rs cells ws) → Kernels rs ws
  formed-kernels f = record {
    laid = laid-rules f.laid;
    few_sets = f.laid.sized.few_sets;
    long = f.laid.sized.words;
    within = λ s h. (f.laid.each_set s h).items;
  }

  pub symbol-seen : (s : ℕ) → s < sets_in rs → symbol_in rs ws s ≡ symbol_of (view (mem rs cells ws)) s
  unfolding symbol_in
  symbol-seen s h = ap (λ p. before_first (view_rules rs) p.kernel) (sym (set_read (sets_in rs) (rules_in rs) (mem rs cells ws).sets s h))
