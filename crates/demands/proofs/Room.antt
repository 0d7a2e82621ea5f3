-- The Room sentence of the real expansion, and what a real NO-SETS leaves. Assumes nothing.
use mathlib.Core.Bool.{Bool, false}
use mathlib.Core.Path.{◌≡◌, sym, subst}
use mathlib.Core.Logic.{◌↔◌}
use mathlib.Core.List.{List}
use Prim.Native.Nat.{ℕ, ◌+◌, ◌<◌}
use native.Mathlib.Omega.{arith}
use Rattle.std.specs.Prelude.{Result}
use Rattle.laws.proofs.Tables.{length_tab}
use Rattle.symbols.specs.Answer.{NO_SETS, number_of, answer_of_parse}
use Rattle.symbols.specs.declared.refusal.Refusal.{Refusal}
use Rattle.symbols.specs.declared.verdict.Verdict.{Verdict}
use Rattle.theory.specs.Table.{Reach}
use Rattle.theory.specs.Expansion.{expand}
use Rattle.theory.specs.Room.{Lacks, Many, NoSets}
use Rattle.theory.specs.Made.{Rule}
use Rattle.theory.proofs.Room as theory
use Rattle.theory.proofs.Demand2 as demand2
use Rattle.table.specs.Layout.{Mem, sets_in, rules_in, set_seen, view}
use Rattle.expansion.specs.Expansion.{Expandable, Expands}
use Rattle.recogniser.specs.Parse.{Parses}
use Rattle.demands.specs.Run.{Run}
use Rattle.demands.proofs.Made.{of_past}

pub room-exact : {m n : Mem} {u a b : ℕ} {done : Bool} → Expandable m u → Expands m n u done → Many (Reach (view m)) a
    → Many (Lacks (view m) u) b → (done ≡ false) ↔ (sets_in m.rules < a + b)
room-exact {m} {u = u} {a} {b} 𝓔 𝓧 reached lacking =
    subst (λ d. (d ≡ false) ↔ (sets_in m.rules < a + b)) (sym 𝓧.done)
    (subst (λ k. ((expand (view m) u).done ≡ false) ↔ (k < a + b)) (length_tab (sets_in m.rules) (set_seen (rules_in m.rules) m.sets))
    (theory.room-exact (view m) 𝓔.is.formed.form u 𝓔.reached reached lacking))

pub no_sets : {m n : Mem} {R : List Rule} {pool : ℕ} {line b c : List ℕ} {v : Result Verdict Refusal} → Run m R → Parses pool line m n b c v
    → number_of (answer_of_parse v) ≡ NO_SETS → NoSets (view n)
no_sets {pool = pool} {line} r p a =
    of_past r p (λ (h, l). omega arith) (λ o. o.answer ≡ NO_SETS → NoSets o.table) (λ h. demand2.no_sets h pool line) a
