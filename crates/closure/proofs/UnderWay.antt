-- A closure under way: how an item makes it grow, and what a round of them has done. Assumes nothing.
use mathlib.Core.Path.{◌≡◌, refl, sym, ap, subst, ◌∙◌}
use mathlib.Core.Logic.{◌↔◌, ◌⊎◌, inl, inr, ⊎_elim}
use mathlib.Core.List.{List, Memᴰ as In}
use Prim.Native.Nat.{ℕ, ◌+◌, ◌*◌, ◌/◌, ◌%◌, ◌<◌}
use native.Mathlib.Decide.{ℕ_discrete, dec_lt}
use native.Mathlib.Omega.{arith}
use lib.Dec.{T, eqb}
use lib.ListN.{length}
use Rattle.laws.specs.Loops.{up_to}
use Rattle.laws.proofs.Tests.{and_both, eqb_iff}
use Rattle.symbols.specs.Symbol.{nonterminal}
use Rattle.kernels.specs.Kernel.{has, put, items, Least}
use Rattle.kernels.proofs.Kernel.{has-cases, length-put, has-put-same, has-put-other}
use Rattle.theory.specs.Derivation.{Grammar}
use Rattle.theory.specs.Items.{Items, Next, Closure}
use Rattle.theory.specs.Items.Closure.{kernel, added}
use Rattle.theory.specs.Table.{CURRENT, RulePlace, rule_at, item, grammar}
use Rattle.theory.proofs.Symbols.{is-nonterminal}
use Rattle.theory.proofs.Items.{Listed}
use Rattle.theory.proofs.Closure.{after_next}
use Rattle.table.specs.Layout.{rules_in, kernel_seen, view_rules}
use Rattle.table.specs.Laid.{FormedRules, Within}
use Rattle.closure.specs.Item.{item_at, after_at, current_rule_of}
use Rattle.closure.specs.UnderWay.{put_rule, UnderWay, Grew, MetAfter, MetBelow}
use Rattle.kernels.proofs.Puts.{length-put_if, has-put_if, fold_length, fold-bits, items-same}
use Rattle.closure.proofs.Seen.{bit-item}
use Rattle.table.proofs.Read.{in_seen}

-- the closure of a part of a closure belongs to it
closure_join : {G : Grammar} {K L : Items} → ((r d : ℕ) → K r d → Closure G L r d) → {r d : ℕ} → Closure G K r d → Closure G L r d
closure_join f (kernel m) = f _ _ m
closure_join f (added c n t cur e) = added (closure_join f c) n t cur e

-- ---- growth, step by step

pub nothing_met : {rs c met : List ℕ} → length c ≡ 16 → length met ≡ 2 → Within (rules_in rs) c 0 → ((b : ℕ) → has met 0 b ≡ 0) → UnderWay rs c met
nothing_met l p w none = record { long = l; pair = p; within = w; full = λ b r h k t. absurd (omega (arith, none b, h)) }

pub grew_none : {rs c met : List ℕ} → UnderWay rs c met → Grew rs c met c met
grew_none u = record { under_way = u; kept = λ i h. h; met_kept = λ b h. h; sound = λ r k m. kernel m }

pub grew-more : {rs a p b q c s : List ℕ} → Grew rs a p b q → Grew rs b q c s → Grew rs a p c s
grew-more g h = record {
  under_way = h.under_way;
  kept = λ i o. h.kept i (g.kept i o);
  met_kept = λ b o. h.met_kept b (g.met_kept b o);
  sound = λ r k m. closure_join g.sound (h.sound r k m);
}

-- the two words have room for each non-terminal
pub met_room : {rs c met : List ℕ} → UnderWay rs c met → (b : ℕ) → T (nonterminal b) → 0 + b / 64 < length met
met_room u b t = let (p, q) = (is-nonterminal b).0 t in omega (arith, u.pair)

-- ---- the rules of a non-terminal that stands after the dot of item i

module _ (rs c met : List ℕ) (formed : FormedRules rs) (u : UnderWay rs c met) where
  abbrev n : ℕ
  n = rules_in rs

  abbrev vs : List RulePlace
  vs = view_rules rs

  module _ (b : ℕ) where
    with-rules : List ℕ
    with-rules = up_to n (put_rule vs b) c

    puts-rule : (r : ℕ) → r < n → (ws : List ℕ) → length ws ≡ length c → (j : ℕ)
        → (has (put_rule vs b r ws) 0 j ≡ 1) ↔ ((has ws 0 j ≡ 1) ⊎ (T (current_rule_of vs b r) × (j ≡ r * 8)))
    puts-rule r l ws e j = has-put_if (current_rule_of vs b r) ws (r * 8) j (λ t. omega (arith, formed.laid.few_rules, u.long))

    rules-length : length with-rules ≡ 16
    unfolding with-rules
    rules-length = fold_length (put_rule vs b) (λ r ws. length-put_if (current_rule_of vs b r) ws (r * 8)) c n ∙ u.long

    rules-bits : (j : ℕ) → (has with-rules 0 j ≡ 1) ↔ ((has c 0 j ≡ 1) ⊎ ((r : ℕ) × (r < n) × (T (current_rule_of vs b r) × (j ≡ r * 8))))
    unfolding with-rules
    rules-bits j =
        fold-bits (put_rule vs b) (λ r ws. length-put_if (current_rule_of vs b r) ws (r * 8)) c
        (λ r j. T (current_rule_of vs b r) × (j ≡ r * 8)) n puts-rule n (omega arith) j

    rules-within : Within n with-rules 0
    rules-within i l h = ⊎_elim (λ z. z)
        (λ o. ⊎_elim (λ q. absurd (omega (arith, u.within i l h, q))) (λ (r, p, (t, e)). absurd (omega arith)) ((rules-bits i).0 o))
        (has-cases with-rules 0 i)

  module _ (i : ℕ) (inside : i < n * 8) (there : has c 0 i ≡ 1) (b : ℕ) (is : b ≡ after_at vs i) (stands : T (nonterminal b)) where
    fits : 0 + b / 64 < length met
    fits = met_room u b stands

    next-after : Next (grammar vs) (i / 8) (i % 8) b
    unfolding after_at
    next-after = after_next vs (item_at i) b (let (p, q) = (is-nonterminal b).0 stands in omega arith) (sym is)

    from-rule : (r : ℕ) → T (current_rule_of vs b r) → Closure (grammar vs) (Listed (kernel_seen n c 0)) r 0
    unfolding current_rule_of
    from-rule r t =
        let (cur, e) = (and_both (eqb (rule_at vs r).state CURRENT) (eqb (rule_at vs r).left b)).0 t in
        added (kernel ((bit-item n c 0 i inside).0 there)) next-after stands cur ((eqb_iff (rule_at vs r).left b).0 e)

    rules-sound : (r k : ℕ) → In (item r k) (kernel_seen n (with-rules b) 0) → Closure (grammar vs) (Listed (kernel_seen n c 0)) r k
    rules-sound r k m =
        let (p, h) = (in_seen n (with-rules b) 0 r k).0 m in
        let (lr, lk) = p in
        ⊎_elim
        (λ o. kernel ((in_seen n c 0 r k).1 (p, o)))
        (λ (q, l, (t, e)).
        let er : q ≡ r = omega arith in
        let ek : 0 ≡ k = omega arith in
        subst (λ k. Closure (grammar vs) (Listed (kernel_seen n c 0)) r k) ek
        (subst (λ r. Closure (grammar vs) (Listed (kernel_seen n c 0)) r 0) er (from-rule q t)))
        ((rules-bits b (r * 8 + k)).0 h)

    rules-full : (x r : ℕ) → has (put met 0 b) 0 x ≡ 1 → r < n → T (current_rule_of vs x r) → has (with-rules b) 0 (r * 8) ≡ 1
    rules-full x r h l t = elim (ℕ_discrete x b) [
      | yes e ↦ (rules-bits b (r * 8)).1 (inr (r, l, (subst (λ x. T (current_rule_of vs x r)) e t, refl)))
      | no d ↦ (rules-bits b (r * 8)).1 (inl (u.full x r (sym (has-put-other met 0 b fits x d) ∙ h) l t))
    ]

    met-grows : (x : ℕ) → has met 0 x ≡ 1 → has (put met 0 b) 0 x ≡ 1
    met-grows x h = elim (ℕ_discrete x b) [ yes e ↦ ap (has (put met 0 b) 0) e ∙ has-put-same met 0 b fits | no d ↦ has-put-other met 0 b fits x d ∙ h ]

    pub grew_new : {d seen : List ℕ} → d ≡ up_to n (put_rule vs b) c → seen ≡ put met 0 b → Grew rs c met d seen
    unfolding with-rules
    grew_new {d} {seen} e f = subst (λ d. Grew rs c met d seen) (sym e) (subst (λ s. Grew rs c met (with-rules b) s) (sym f) record {
      under_way = record { long = rules-length b; pair = length-put met 0 b ∙ u.pair; within = rules-within b; full = rules-full };
      kept = λ j o. (rules-bits b j).1 (inl o);
      met_kept = met-grows;
      sound = rules-sound;
    })

    pub met_new : {seen : List ℕ} → seen ≡ put met 0 b → MetAfter rs seen i
    met_new {seen} f t = subst (λ b. has seen 0 b ≡ 1) is (ap (λ s. has s 0 b) f ∙ has-put-same met 0 b fits)

-- ---- a round's turn, at item j

module _ {rs a p c met : List ℕ} (g : Grew rs a p c met) where
  pub met_turn : {d seen : List ℕ} {from j : ℕ} → MetBelow rs a met from → Least c 0 16 from j → Grew rs c met d seen → MetAfter rs seen j → MetBelow rs a seen (j + 1)
  met_turn {seen = seen} {from = from} {j = j} below least h last i l o t = elim (dec_lt i from) [
    | yes q ↦ h.met_kept _ (below i q o t)
    | no q ↦ elim (ℕ_discrete i j) [
      | yes e ↦ subst (MetAfter rs seen) (sym e) last t
      | no d ↦ absurd (omega (arith, least.none i (omega arith) (omega arith), g.kept i o))
    ]
  ]

-- a round that added nothing
pub none-added : {rs c met d seen : List ℕ} → Grew rs c met d seen → MetBelow rs c seen 1024 → items c 0 ≡ items d 0 → MetBelow rs d seen 1024
none-added {c = c} {d = d} g all e i l o = all i l (items-same c d g.kept e i l ∙ o)
