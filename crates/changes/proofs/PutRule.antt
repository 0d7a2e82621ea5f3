-- A rule put at a number, and what that touches: the numbers after hold the model's table after. Assumes nothing.
use mathlib.Core.List.{List}
use mathlib.Core.Path.{◌≡◌, ap, ap₂, subst, sym, ◌∙◌}
use Prim.Native.Nat.{ℕ, ◌+◌, ◌*◌, ◌≤◌, ◌<◌}
use native.Mathlib.Omega.{arith}
use lib.ListN.{length, set}
use Rattle.symbols.specs.declared.rule.Rule.{Rule}
use Rattle.theory.specs.Table.{RulePlace, SetPlace}
use Rattle.theory.specs.Calls.{touched, put_rule}
use Rattle.table.specs.Layout.{sets, Mem, mem, sets_in, rules_in, view, view_rules, view_sets}
use Rattle.table.specs.Laid.{Sized, LaidRules, LaidSet}
use Rattle.table.specs.Becomes.{Becomes}
use Rattle.table.specs.Write.{put_rule as writeRule}
use Rattle.table.proofs.Formed.{laid-rules}
use Rattle.table.proofs.RuleNumbers.{Rewritten, put_rewrites, put-seen, put-laid, rewritten_laid, rewritten_sized, rewritten_view}
use Rattle.table.proofs.Rows.{cells-beyond, words-beyond, sized_still}
use Rattle.changes.specs.Touch.{touched_by}
use Rattle.changes.specs.Change.{place_of, MayPut}
use Rattle.changes.proofs.Touched.{touched-size, touched-beyond, touched-laid, touched-view}

module _ (m : Mem) (r state : ℕ) (x : Rule) (may : MayPut m r state x) where
  -- the rules after
  abbrev rules : List ℕ
  rules = writeRule m.rules r state x

  rewritten : Rewritten r rules m.rules
  rewritten = put_rewrites m.rules r state x

  inside : 2 + r * 10 + 10 ≤ length m.rules
  inside = let a = may.laid.sized.rules in let b = may.inside in omega arith

  laid-after : LaidRules rules
  laid-after = rewritten_laid rewritten (laid-rules may.laid) (put-laid m.rules r state x inside may.not_free may.in_range may.rule)

  sized-after : Sized rules m.sets
  sized-after = rewritten_sized rewritten may.laid.sized

  rules-after : view_rules rules ≡ set (view_rules m.rules) r (place_of state x)
  rules-after = rewritten_view rewritten (laid-rules may.laid) may.inside ∙ ap (set (view_rules m.rules) r) (put-seen m.rules r state x inside may.rule.short)

  set-laid : (s : ℕ) → s < sets_in rules → LaidSet (rules_in rules) m.sets s
  set-laid s l = subst (λ n. LaidSet n m.sets s) (sym rewritten.rules) (may.laid.each_set s (subst (λ n. s < n) rewritten.sets l))

  sets-after : view_sets (sets_in rules) (rules_in rules) (touched_by rules x.left.0 m.sets)
      ≡ touched (set (view_rules m.rules) r (place_of state x)) x.left.0 (view_sets (sets_in m.rules) (rules_in m.rules) m.sets)
  sets-after =
      touched-view rules m.sets sized-after x.left.0 may.rule.left_not_zero may.rule.left_symbol
      ∙ ap₂ (λ (v : List RulePlace) (y : List SetPlace). touched v x.left.0 y) rules-after
      (ap₂ (λ (i j : ℕ). view_sets i j m.sets) rewritten.sets rewritten.rules)

  put-becomes : Becomes m (record { rules = rules; sets = touched_by rules x.left.0 m.sets }) (put_rule (view m) r (place_of state x))
  put-becomes =
      let y = touched_by rules x.left.0 m.sets in
      let beyond = touched-beyond rules m.sets sized-after x.left.0 in
      record {
        laid = record {
          sized = sized_still (touched-size rules m.sets sized-after x.left.0) sized-after;
          each_rule = laid-after.each_rule;
          each_set = λ s l. touched-laid rules m.sets sized-after x.left.0 s l (set-laid s l);
        };
        seen = λ i. record { rules = rules-after i; sets = sets-after i };
        rules = λ k l. rewritten.beyond k (let a = rewritten.rules in let b = may.inside in omega arith);
        cells = cells-beyond (sets_in rules) y m.sets beyond;
        words = words-beyond (sets_in rules) y m.sets beyond;
      }

-- as the code leaves them
module _ (rs c w : List ℕ) (r state : ℕ) (x : Rule) (may : MayPut (mem rs c w) r state x) {rs₁ : List ℕ} (e : rs₁ ≡ writeRule rs r state x) where
  pub put-sized : Sized rs₁ (sets c w)
  put-sized = subst (λ y. Sized y (sets c w)) (sym e) (sized-after (mem rs c w) r state x may)

  pub put-made : {c₁ w₁ : List ℕ} → sets c₁ w₁ ≡ touched_by rs₁ x.left.0 (sets c w) → Becomes (mem rs c w) (mem rs₁ c₁ w₁) (put_rule (view (mem rs c w)) r (place_of state x))
  put-made {c₁} {w₁} h =
      let q : sets c₁ w₁ ≡ touched_by (writeRule rs r state x) x.left.0 (sets c w) = h ∙ ap (λ y. touched_by y x.left.0 (sets c w)) e in
      subst (λ n. Becomes (mem rs c w) n (put_rule (view (mem rs c w)) r (place_of state x))) (λ i. record { rules = sym e i; sets = sym q i }) (put-becomes (mem rs c w) r state x may)
