-- The sets in use, as they are printed: of the table afterwards, and of none where the answer is 11. Assumes nothing.
use mathlib.Core.Path.{◌≡◌, refl, sym, ap, ◌∙◌}
use mathlib.Core.Logic.{⊎_elim}
use mathlib.Core.List.{List}
use Prim.Native.Nat.{ℕ, ◌≤◌}
use native.Mathlib.Omega.{arith}
use lib.Dec.{ltb}
use Rattle.laws.specs.Choice.{when, ◌or◌}
use Rattle.laws.proofs.Tables.{length_tab}
use Rattle.theory.specs.Table.{Table, in_use}
use Rattle.theory.specs.Parse.{Outcome}
use Rattle.theory.proofs.Counted.{kept_and_not}
use Rattle.table.specs.Layout.{Mem, sets_in, rules_in, set_seen, view}
use Rattle.table.specs.Becomes.{Promised}
use Rattle.form.proofs.Formed.{formed_dec}
use Rattle.replies.specs.Printed.{parse_line, past_checks, collect_line}
use Rattle.desk.specs.Use.{CountsUse}

pub use_small : (m : Mem) → in_use (view m) ≤ sets_in m.rules
use_small m = omega (arith, kept_and_not (λ p. ltb 0 p.state) (view m).sets, length_tab (sets_in m.rules) (set_seen (rules_in m.rules) m.sets))

-- 11 prints no number
parse-alone : (l s s' : ℕ) → parse_line 11 l s ≡ parse_line 11 l s'
unfolding parse_line past_checks ◌or◌ when
parse-alone l s s' = refl

collect-alone : (s s' : ℕ) → collect_line 11 s ≡ collect_line 11 s'
unfolding collect_line when
collect-alone s s' = refl

module _ {call : Table → Outcome} {m n : Mem} {a k r : ℕ} (p : Promised call m n a k) (u : CountsUse n.rules n.sets.cells r) where
  -- a line that prints no number on 11 prints the sets in use afterwards
  said : (line : ℕ → ℕ → List ℕ) → ((s s' : ℕ) → line 11 s ≡ line 11 s') → line a r ≡ line a (in_use (view n))
  said line alone =
      ⊎_elim
      (λ f. let z = (p.table f).laid.sized in ap (line a) (u.exact n.sets.words (omega (arith, z.rules)) z.cells))
      (λ g. let e = (p.no_table g).0 in ap (λ x. line x r) e ∙ alone r (in_use (view n)) ∙ ap (λ x. line x (in_use (view n))) (sym e))
      (formed_dec m)

  pub parse-said : (l : ℕ) → parse_line a l r ≡ parse_line a l (in_use (view n))
  parse-said l = said (λ x s. parse_line x l s) (parse-alone l)

  pub collect-said : collect_line a r ≡ collect_line a (in_use (view n))
  collect-said = said collect_line collect-alone
