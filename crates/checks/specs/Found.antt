-- What a check has found, for a table with the rules of rs and any sets. Assumes nothing.
use Rattle.std.specs.Prelude.{◌≡◌, List, ℕ, ◌<◌, Option, Some, None, Result, Ok, Err}
use Rattle.symbols.specs.Rule.{WellFormed}
use Rattle.symbols.specs.Answer.{DONE, refusal_number}
use Rattle.symbols.specs.declared.refusal.Refusal.{Refusal}
use Rattle.symbols.specs.declared.rule.Rule.{Rule}
use Rattle.theory.specs.Table.{CURRENT, WITHDRAWN, RulePlace, SetPlace, Table}
use Rattle.theory.specs.Parse.{Outcome, outcome}
use Rattle.theory.specs.Expansion.{collected}
use Rattle.theory.specs.Calls.{refused, put_rule, lowest_rule, is_free, add_in_form, delete_in_form}
use Rattle.table.specs.Layout.{rules_in, view_rules}
use Rattle.changes.specs.Change.{place_of}

abbrev pub with_sets : List ℕ → List SetPlace → Table
with_sets rs ss = record { rules = view_rules rs; sets = ss }

pub record DeleteFound (rs : List ℕ) (x : ℕ) (w : List ℕ) (f : Result (ℕ × Rule) Refusal) : Type 0 where
  pub refuses : (e : Refusal) → f ≡ Err e → (ss : List SetPlace) → delete_in_form (with_sets rs ss) x w ≡ refused (refusal_number e) (with_sets rs ss)
  pub deletes : (r : ℕ) (y : Rule) → f ≡ Ok (r, y) → (ss : List SetPlace)
      → delete_in_form (with_sets rs ss) x w ≡ outcome DONE r (put_rule (with_sets rs ss) r (place_of WITHDRAWN y))
  pub inside : (r : ℕ) (y : Rule) → f ≡ Ok (r, y) → r < rules_in rs
  pub rule : (r : ℕ) (y : Rule) → f ≡ Ok (r, y) → WellFormed y

-- the rule is put at the lowest free number, once collection has freed some
abbrev pub add_later : Table → RulePlace → Outcome
add_later t p = let u = collected t in let n = lowest_rule is_free u.rules in outcome DONE n (put_rule u n p)

pub record AddFound (rs : List ℕ) (x : ℕ) (w : List ℕ) (f : Result (Option ℕ × Rule) Refusal) : Type 0 where
  pub refuses : (e : Refusal) → f ≡ Err e → (ss : List SetPlace) → add_in_form (with_sets rs ss) x w ≡ refused (refusal_number e) (with_sets rs ss)
  pub adds : (r : ℕ) (y : Rule) → f ≡ Ok (Some r, y) → (ss : List SetPlace)
      → add_in_form (with_sets rs ss) x w ≡ outcome DONE r (put_rule (with_sets rs ss) r (place_of CURRENT y))
  pub collects : (y : Rule) → f ≡ Ok (None, y) → (ss : List SetPlace)
      → (add_in_form (with_sets rs ss) x w ≡ add_later (with_sets rs ss) (place_of CURRENT y)) × (lowest_rule is_free (collected (with_sets rs ss)).rules < rules_in rs)
  pub inside : (r : ℕ) (y : Rule) → f ≡ Ok (Some r, y) → r < rules_in rs
  pub rule : (o : Option ℕ) (y : Rule) → f ≡ Ok (o, y) → WellFormed y
