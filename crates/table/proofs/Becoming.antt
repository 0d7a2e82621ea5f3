-- What lent numbers become: nothing changed, and one change after the other. Assumes nothing.
use mathlib.Core.Path.{◌≡◌, refl, sym, ap, ◌∙◌}
use native.Mathlib.Omega.{arith}
use lib.ListN.{length}
use Rattle.laws.proofs.Tables.{length_tab}
use Rattle.theory.specs.Table.{Table}
use Rattle.table.specs.Layout.{Mem, sets_in, rules_in, set_seen, view}
use Rattle.table.specs.Laid.{Laid}
use Rattle.table.specs.Becomes.{Becomes}
use Rattle.table.proofs.Read.{view-length}

pub becomes-none : {m : Mem} → Laid m → Becomes m m (view m)
becomes-none l = record { laid = l; seen = refl; rules = λ k h. refl; cells = λ k h. refl; words = λ k h. refl }

-- the sizes of what is seen
pub sets-seen : (m : Mem) → length (view m).sets ≡ sets_in m.rules
sets-seen m = length_tab (sets_in m.rules) (set_seen (rules_in m.rules) m.sets)

pub rules-seen : (m : Mem) → length (view m).rules ≡ rules_in m.rules
rules-seen m = view-length m.rules

pub becomes-then : (m n p : Mem) (t u : Table) → Becomes m n t → Becomes n p u → length u.sets ≡ length t.sets → length u.rules ≡ length t.rules → Becomes m p u
becomes-then m n p t u a b es er =
    let s : sets_in p.rules ≡ sets_in n.rules = sym (sets-seen p) ∙ ap (λ t. length t.sets) b.seen ∙ es ∙ ap (λ t. length t.sets) (sym a.seen) ∙ sets-seen n in
    let r : rules_in p.rules ≡ rules_in n.rules = sym (rules-seen p) ∙ ap (λ t. length t.rules) b.seen ∙ er ∙ ap (λ t. length t.rules) (sym a.seen) ∙ rules-seen n in
    record {
      laid = b.laid;
      seen = b.seen;
      rules = λ k h. b.rules k h ∙ a.rules k (omega arith);
      cells = λ k h. b.cells k h ∙ a.cells k (omega arith);
      words = λ k h. b.words k h ∙ a.words k (omega arith);
    }
