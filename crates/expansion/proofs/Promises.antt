-- What the layer above relies on: an expansion leaves a table in form that is later than the one before, and a set that is expanded
-- where it says so. Assumes nothing.
use mathlib.Core.Bool.{Bool, true}
use mathlib.Core.Path.{◌≡◌, sym, subst, ◌∙◌}
use Prim.Native.Nat.{ℕ}
use lib.Dec.{T}
use Rattle.theory.specs.Table.{EXPANDED, Table, set_at}
use Rattle.theory.specs.Form.{InForm}
use Rattle.theory.proofs.Later.{Later, expand-later, expand-done}
use Rattle.theory.proofs.FormGrown.{expand-in_form}
use Rattle.table.specs.Layout.{Mem, view}
use Rattle.table.specs.Laid.{Formed}
use Rattle.expansion.specs.Expansion.{Expandable, Expands}

module _ {m n : Mem} {s : ℕ} {r : Bool} (𝓔 : Expandable m s) (𝓧 : Expands m n s r) where
  -- the form is kept
  pub expand-formed : Formed n
  expand-formed = record { laid = 𝓧.table.laid; form = subst InForm (sym 𝓧.table.seen) (expand-in_form (view m) 𝓔.is.formed.form s 𝓔.reached 𝓔.is.bare) }

  -- a reachable set stays in use with its kernel, if it was expanded as it was, with the rules that it names; the current rules stay
  pub expand-keeps : Later (view m) (view n)
  expand-keeps = subst (λ (t : Table). Later (view m) t) (sym 𝓧.table.seen) (expand-later (view m) 𝓔.is.formed.form s 𝓔.reached 𝓔.is.bare)

  -- where it is done, the set is expanded
  pub expand-expanded : r ≡ true → (set_at (view n).sets s).state ≡ EXPANDED
  expand-expanded e =
      subst (λ (t : Table). (set_at t.sets s).state ≡ EXPANDED) (sym 𝓧.table.seen)
      (expand-done (view m) 𝓔.is.formed.form s 𝓔.reached 𝓔.is.bare (subst T (sym e ∙ 𝓧.done) tt))
