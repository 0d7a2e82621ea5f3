-- Set 0 made unexpanded: the numbers after hold the model's table after. Assumes nothing.
use mathlib.Core.List.{List}
use mathlib.Core.Path.{◌≡◌, refl, sym, ap, subst, ◌∙◌}
use Prim.Native.Nat.{ℕ, ◌≤◌, ◌<◌}
use native.Mathlib.Decide.{ℕ_discrete}
use native.Mathlib.Omega.{arith}
use lib.ListN.{set}
use Rattle.laws.proofs.Chosen.{set_tab}
use Rattle.theory.specs.Table.{free_set, unexpanded, set_at}
use Rattle.table.specs.Layout.{Sets, Mem, sets_in, rules_in, set_seen, view_rules, view_sets, view}
use Rattle.table.specs.Laid.{HasRow, LaidSet, Laid}
use Rattle.table.specs.Becomes.{Becomes}
use Rattle.table.proofs.Read.{set_read}
use Rattle.table.proofs.Rows.{SameRow, row_seen, row_laid, cells-beyond, words-beyond, row_in, sized_still}
use Rattle.changes.specs.Touch.{unexpand}
use Rattle.changes.specs.Change.{start_unexpanded}
use Rattle.changes.proofs.Unexpanded.{unexpand-size, unexpand-other, unexpand-seen, unexpand-laid}

-- set 0 unexpanded in the numbers x of the sets, under the rules rs
module _ (rs : List ℕ) (x : Sets) (l : Laid (record { rules = rs; sets = x })) where
  abbrev before : Mem
  before = record { rules = rs; sets = x }

  abbrev after : Mem
  after = record { rules = rs; sets = unexpand 0 x }

  abbrev S : ℕ
  S = sets_in rs

  abbrev n : ℕ
  n = rules_in rs

  first : 0 < S
  first = l.sized.some_sets

  room : HasRow 0 x
  room = row_in l.sized 0 first

  other : (s : ℕ) → S ≤ s → SameRow s (unexpand 0 x) x
  other s h = unexpand-other 0 s x (λ d. let a = first in omega arith)

  kernel-only : set_seen n (unexpand 0 x) 0 ≡ unexpanded (set_at (view_sets S n x) 0).kernel
  kernel-only = unexpand-seen 0 x room n l.sized.few_rules ∙ ap (λ p. unexpanded p.kernel) (sym (set_read S n x 0 first))

  seen : view_sets S n (unexpand 0 x) ≡ set (view_sets S n x) 0 (unexpanded (set_at (view_sets S n x) 0).kernel)
  seen = sym (set_tab S 0 (set_seen n x) (set_seen n (unexpand 0 x)) _ free_set first kernel-only
      (λ j h d. row_seen n j (unexpand 0 x) x l.sized.few_rules (unexpand-other 0 j x d)))

  unexpanded-becomes : Becomes before after (start_unexpanded (view before))
  unexpanded-becomes = record {
    laid = record {
      sized = sized_still (unexpand-size 0 x) l.sized;
      each_rule = l.each_rule;
      each_set = λ s h. elim (ℕ_discrete s 0) [
        | yes d ↦ subst (λ k. LaidSet n (unexpand 0 x) k) (sym d) (unexpand-laid 0 x room n (l.each_set 0 first))
        | no d ↦ row_laid n s (unexpand 0 x) x (unexpand-other 0 s x d) (l.each_set s h)
      ];
    };
    seen = λ i. record { rules = view_rules rs; sets = seen i };
    rules = λ k h. refl;
    cells = cells-beyond S (unexpand 0 x) x other;
    words = words-beyond S (unexpand 0 x) x other;
  }

  pub start-unexpanded : {y : Sets} → y ≡ unexpand 0 x → Becomes before (record { rules = rs; sets = y }) (start_unexpanded (view before))
  start-unexpanded e =
      subst (λ y. Becomes before (record { rules = rs; sets = y }) (start_unexpanded (view before))) (sym e) unexpanded-becomes
