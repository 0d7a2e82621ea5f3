-- Reach along the cells of the rows is reach in every table that has these cells. Assumes nothing.
use mathlib.Core.Path.{◌≡◌, sym, ◌∙◌, subst}
use mathlib.Core.Logic.{◌≢◌}
use mathlib.Core.List.{List, Memᴰ as In}
use Prim.Native.Nat.{ℕ, zero, ◌≤◌, ◌<◌}
use Rattle.theory.specs.Table.{Reach}
use Rattle.theory.specs.Table.Reach.{at_start, along}
use Rattle.theory.proofs.Transitions.{goto_transition}
use Rattle.table.specs.Layout.{sets, mem, sets_in, rules_in, view, transitions_seen}
use Rattle.table.proofs.Once.{in_transitions}
use Rattle.table.proofs.Read.{set_read, target_read}
use Rattle.collection.specs.Reach.{cell_of, Rows}

-- set 0, and every target of such a set
pub data Led (cells : List ℕ) : ℕ → Type 0 where
  start : Led cells zero
  on : {u s : ℕ} (x : ℕ) → Led cells u → 1 ≤ x → x < 128 → cell_of cells u x ≡ s → s ≢ 0 → Led cells s

pub led_inside : {S : ℕ} {cells : List ℕ} {s : ℕ} → Rows S cells → Led cells s → s < S
led_inside w start = w.some
led_inside {S} w (on {u = u} x h l m e d) = subst (λ s. s < S) e (w.targets u x (led_inside w h) l m)

module _ (rs cells ws : List ℕ) (w : Rows (sets_in rs) cells) where
  pub led_reach : {s : ℕ} → Led cells s → Reach (view (mem rs cells ws)) s
  led_reach start = at_start
  led_reach (on {u = u} x h l m e d) = along x (led_reach h) (target_read (sets_in rs) (rules_in rs) (sets cells ws) u x (led_inside w h) l m ∙ e, d)

  pub reach_led : {s : ℕ} → Reach (view (mem rs cells ws)) s → Led cells s
  reach_led at_start = start
  reach_led (along {u = u} {s = s} x h g) =
      let r : Led cells u = reach_led h in
      let (a, m, q, e) = goto_transition (view (mem rs cells ws)) u x s g in
      let i : In a (transitions_seen (sets cells ws) u) = subst (λ p. In a p.transitions) (set_read (sets_in rs) (rules_in rs) (sets cells ws) u (led_inside w r)) m in
      let ((l, k), (f, d)) = (in_transitions (sets cells ws) u a.on a.to).0 i in
      on a.on r l k (sym f ∙ e) g.1
