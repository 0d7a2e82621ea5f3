-- A command that is known to be of one case, or none, and a call that leaves links and pool alone. Assumes nothing.
use mathlib.Core.Path.{◌≡◌, refl, sym, ap, ◌∙◌, subst}
use mathlib.Core.List.{List}
use Rattle.std.specs.Prelude.{Option, Some, None}
use Prim.Native.Nat.{ℕ}
use Rattle.table.specs.Layout.{Mem}
use Rattle.script.specs.Command.{told}
use Rattle.script.specs.Command.Meaning.{malformed}
use Rattle.script.specs.declared.command.Command.{Command}
use Rattle.desk.specs.Obeys.{State, state, Keeps, Obeys}

pub as_told : (ss : List ℕ) {d e : State} {text : List ℕ} {r : Option Command} {command k : Command} → r ≡ Some command → command ≡ k
    → Obeys d e text (told ss (Some k)) → Obeys d e text (told ss r)
as_told ss {d} {e} {text} p q o = subst (λ r. Obeys d e text (told ss r)) (sym (p ∙ ap Some q)) o

pub none_told : (ss : List ℕ) {d e : State} {text : List ℕ} {r : Option Command} → r ≡ None → Obeys d e text malformed → Obeys d e text (told ss r)
none_told ss {d} {e} {text} p o = subst (λ r. Obeys d e text (told ss r)) (sym p) o

pub kept : {m n : Mem} {b : List ℕ} {p : ℕ} → Keeps (state m b p) (state n b p)
kept = record { links = refl; pool = refl }
