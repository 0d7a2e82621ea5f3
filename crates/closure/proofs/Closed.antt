-- Once every non-terminal after a dot is met, a closure under way is the closure. Assumes nothing.
use mathlib.Core.Path.{◌≡◌, sym, ap, subst, ◌∙◌}
use mathlib.Core.Logic.{◌↔◌}
use mathlib.Core.List.{List, Memᴰ as In}
use Prim.Native.Nat.{ℕ, ◌+◌, ◌*◌, ◌<◌}
use native.Mathlib.Omega.{arith}
use lib.Dec.{T, eqb}
use lib.ListN.{length}
use Rattle.laws.proofs.Tests.{and_both, eqb_iff}
use Rattle.symbols.specs.Symbol.{nonterminal}
use Rattle.kernels.specs.Kernel.{has}
use Rattle.theory.specs.Items.{Closure}
use Rattle.theory.specs.Items.Closure.{kernel, added}
use Rattle.theory.specs.Table.{CURRENT, RulePlace, Item, rule_at, item, grammar}
use Rattle.theory.specs.Expansion.{closure}
use Rattle.theory.proofs.Items.{kept_ascends, Listed, Ascends, same-kernel, current-inside}
use Rattle.theory.proofs.Closure.{Ranged, in_closure}
use Rattle.table.specs.Layout.{rules_in, kernel_seen, view_rules}
use Rattle.table.specs.Laid.{FormedRules, HoldsKernel}
use Rattle.closure.specs.Item.{after_at, current_rule_of}
use Rattle.closure.specs.UnderWay.{Grew, MetBelow}
use Rattle.closure.proofs.Rules.{formed_ruled, after-at}
use Rattle.closure.proofs.Seen.{seen_ascends}
use Rattle.table.proofs.Read.{in_seen, view-length}

rule_of_left : (rs : List ℕ) (r x : ℕ) → T ((grammar (view_rules rs)).current r) → (rule_at (view_rules rs) r).left ≡ x → T (current_rule_of (view_rules rs) x r)
unfolding current_rule_of
rule_of_left rs r x t e = (and_both (eqb (rule_at (view_rules rs) r).state CURRENT) (eqb (rule_at (view_rules rs) r).left x)).1 (t, (eqb_iff (rule_at (view_rules rs) r).left x).1 e)

module _ (rs k none c met : List ℕ) (formed : FormedRules rs) (g : Grew rs k none c met) (all : MetBelow rs c met 1024) where
  abbrev n : ℕ
  n = rules_in rs

  abbrev vs : List RulePlace
  vs = view_rules rs

  abbrev of-kernel : List Item
  of-kernel = kernel_seen n k 0

  -- so every item of the closure is there
  complete : {r d : ℕ} → Closure (grammar vs) (Listed of-kernel) r d → In (item r d) (kernel_seen n c 0)
  complete (kernel {r = r} {d = d} m) = let (p, h) = (in_seen n k 0 r d).0 m in (in_seen n c 0 r d).1 (p, g.kept (r * 8 + d) h)
  complete (added {r = r} {d = d} {x = x} {r' = q} m next stands current left) =
      let ((lr, ld), h) = (in_seen n c 0 r d).0 (complete m) in
      let e : after_at vs (r * 8 + d) ≡ x = after-at vs r d ld ∙ next.is in
      let met_x : has met 0 x ≡ 1 =
      ap (has met 0) (sym e) ∙ all (r * 8 + d) (omega (arith, formed.laid.few_rules)) h (subst (λ y. T (nonterminal y)) (sym e) stands) in
      let lq : q < n = omega (arith, current-inside vs q current, view-length rs) in
      let z : q * 8 + 0 ≡ q * 8 = omega arith in
      (in_seen n c 0 q 0).1 ((lq, omega arith), ap (has c 0) z ∙ g.under_way.full x q met_x lq (rule_of_left rs q x current left))

  ranged : Ranged vs of-kernel
  ranged r d m = let (p, q) = ((in_seen n k 0 r d).0 m).0 in (omega (arith, view-length rs), q)

  same-items : (r d : ℕ) → In (item r d) (kernel_seen n c 0) ↔ In (item r d) (closure vs of-kernel)
  same-items r d =
      let (to, from) = in_closure vs of-kernel (formed_ruled rs formed) ranged in
      (λ m. from (g.sound r d m), λ m. complete (to m))

  pub is-closure : HoldsKernel n c 0 (closure vs of-kernel)
  is-closure = record {
    seen = same-kernel n (seen_ascends n c 0) (subst (λ n. Ascends n (closure vs of-kernel)) (view-length rs) (kept_ascends (length vs) _)) same-items;
    within = g.under_way.within;
  }
