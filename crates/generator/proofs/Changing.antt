-- The acting halves of the calls: what they ask of their steps, and what the steps come to. Assumes nothing.
use mathlib.Core.Bool.{true}
use mathlib.Core.List.{List}
use mathlib.Core.Path.{◌≡◌, refl, sym, ap, subst, ◌∙◌}
use Prim.Native.Nat.{ℕ}
use native.Mathlib.Omega.{arith}
use lib.ListN.{length, set, length-set}
use Rattle.std.specs.Option.{is_some}
use Rattle.std.specs.Prelude.{Option, Some, None, Ok}
use Rattle.symbols.specs.declared.rule.Rule.{Rule}
use Rattle.theory.specs.Table.{CURRENT, Table}
use Rattle.theory.specs.Parse.{outcome}
use Rattle.theory.specs.Form.{InForm}
use Rattle.theory.specs.Expansion.{collected}
use Rattle.theory.specs.Calls.{put_rule, lowest_rule, is_free, restarted}
use Rattle.theory.proofs.FormRestarted.{start-bare}
use Rattle.table.specs.Layout.{Mem, Sets, rules_in, view}
use Rattle.table.specs.Laid.{Formed, HasRow}
use Rattle.table.specs.Becomes.{Becomes}
use Rattle.changes.specs.Change.{place_of, MayPut, start_unexpanded}
use Rattle.changes.specs.Touch.{unexpand}
use Rattle.changes.proofs.UnexpandStart.{start-unexpanded}
use Rattle.table.proofs.Becoming.{rules-seen, becomes-then}
use Rattle.checks.specs.Find.{Lowest, has_state, lowest}
use Rattle.checks.specs.Found.{add_later, DeleteFound, AddFound}
use Rattle.checks.proofs.Search.{free_is}
use Rattle.generator.specs.Calls.{Does, LaterFree}
use Rattle.generator.proofs.Promises.{does, touched-length, collected-sets, collected-rules}

-- ---- a number found, the rule put there

module _ (m : Mem) (formed : Formed m) (x : ℕ) (w : List ℕ) (y : Rule) (r : ℕ) where
  pub may_delete : DeleteFound m.rules x w (Ok (r, y)) → MayPut m r 2 y
  may_delete d = record { laid = formed.laid; inside = d.inside r y refl; not_free = omega arith; in_range = omega arith; rule = d.rule r y refl }

  pub may_add : AddFound m.rules x w (Ok (Some r, y)) → MayPut m r 1 y
  may_add d = record { laid = formed.laid; inside = d.inside r y refl; not_free = omega arith; in_range = omega arith; rule = d.rule (Some r) y refl }

-- ---- collection first

module _ (m n : Mem) (x : Rule) (b : Becomes m n (collected (view m))) (free : LaterFree m x) where
  same_size : rules_in n.rules ≡ rules_in m.rules
  same_size = sym (rules-seen n) ∙ ap (λ t. length t.rules) b.seen ∙ collected-rules (view m) ∙ rules-seen m

  freed : lowest (rules_in n.rules) (has_state n.rules 0) ≡ lowest_rule is_free (collected (view m)).rules
  freed = free_is n.rules ∙ ap (λ (t : Table). lowest_rule is_free t.rules) b.seen

  pub found-later : (o : Option ℕ) → Lowest (rules_in n.rules) (has_state n.rules 0) o → is_some o ≡ true
  found-later (Some r) l = refl
  found-later None l = let h = free.inside in absurd (omega (arith, same_size, freed))

  module _ (r : ℕ) (l : Lowest (rules_in n.rules) (has_state n.rules 0) (Some r)) where
    number : r ≡ lowest_rule is_free (collected (view m)).rules
    number = l.1 ∙ freed

    pub may_later : MayPut n r 1 x
    may_later = record { laid = b.laid; inside = l.0; not_free = omega arith; in_range = omega arith; rule = free.rule }

    pub later-does : (p : Mem) → Becomes n p (put_rule (view n) r (place_of CURRENT x)) → Does (add_later (view m) (place_of CURRENT x)) m p 0 r
    later-does p c = does (ap (λ i. outcome 0 i (put_rule (collected (view m)) i (place_of CURRENT x))) (sym number))
        (subst (λ t. Becomes m p (put_rule t r (place_of CURRENT x))) b.seen
        (becomes-then m n p (collected (view m)) (put_rule (view n) r (place_of CURRENT x)) b c
        (touched-length (set (view n).rules r (place_of CURRENT x)) x.left.0 (view n).sets ∙ ap (λ t. length t.sets) b.seen)
        (length-set (view n).rules r (place_of CURRENT x) ∙ ap (λ t. length t.rules) b.seen)))

-- ---- Restart

module _ (rs : List ℕ) (x : Sets) (f : Formed (record { rules = rs; sets = x })) where
  abbrev before : Mem
  before = record { rules = rs; sets = x }

  pub start-room : HasRow 0 x
  start-room =
      let z = f.laid.sized in
      record { cells = omega (arith, z.some_sets, z.cells); words = omega (arith, z.some_sets, z.words) }

  module _ (y : Sets) (u : y ≡ unexpand 0 x) where
    abbrev between : Mem
    between = record { rules = rs; sets = y }

    step : Becomes before between (start_unexpanded (view before))
    step = start-unexpanded rs x f.laid u

    pub start-formed : Formed between
    start-formed = record { laid = step.laid; form = subst InForm (sym step.seen) (start-bare (view before) f.form) }

    pub restart-becomes : (p : Mem) → Becomes between p (collected (view between)) → Becomes before p (restarted (view before))
    restart-becomes p b =
        let c : Becomes between p (restarted (view before)) = subst (λ t. Becomes between p (collected t)) step.seen b in
        becomes-then before between p (start_unexpanded (view before)) (restarted (view before)) step c
        (collected-sets (start_unexpanded (view before))) (collected-rules (start_unexpanded (view before)))
