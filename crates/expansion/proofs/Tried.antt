-- Room, and an expansion tried: the counts decide as the model does, and what is grown is the model's table. Assumes nothing.
use mathlib.Core.Bool.{true, false, false≢true, true≢false}
use mathlib.Core.List.{List}
use mathlib.Core.Path.{◌≡◌, refl, sym, ap, ◌∙◌}
use Prim.Native.Nat.{ℕ, ◌*◌, ◌≤◌, ◌<◌}
use native.Mathlib.Omega.{arith}
use lib.Dec.{T, leb→le, le→leb}
use Rattle.laws.proofs.Chosen.{iff_same}
use Rattle.theory.specs.Expansion.{closure, symbols, free_sets, missing, grown, has_room}
use Rattle.theory.proofs.Leading.{lacking}
use Rattle.table.specs.Layout.{Mem, Sets, sets_in, rules_in, kernel_seen, view_rules, view}
use Rattle.table.specs.Laid.{HoldsKernel}
use Rattle.table.specs.Becomes.{Becomes}
use Rattle.closure.specs.Walk.{HoldsSymbols}
use Rattle.collection.specs.Room.{InTables}
use Rattle.expansion.specs.Expansion.{Unexpanded, Tried}
use Rattle.expansion.specs.Inner.{items_in, symbols_in, missing_in, Closed, Growable, Grew}
use Rattle.expansion.proofs.Closed.{closed_is, closed-ready}
use Rattle.expansion.proofs.Missing.{missing-lacking}

tried : (m : Mem) (s : ℕ) → Unexpanded m s → T (has_room (view m) s) → {y : Sets} → Grew m.rules m.sets y s
    → Tried m (record { rules = m.rules; sets = y }) s true
tried m s 𝓤 ok {y} g = record {
  room = iff_same true (has_room (view m) s) (λ t. ok) (λ t. tt);
  grew = λ e. becomes;
  stayed = λ e. absurd (true≢false e);
}
  where
    becomes : Becomes m (record { rules = m.rules; sets = y }) (grown (view m) s).table
    becomes =
        let z = 𝓤.formed.laid.sized in
        record {
          laid = record {
            sized = record {
              some_sets = z.some_sets;
              few_sets = z.few_sets;
              some_rules = z.some_rules;
              few_rules = z.few_rules;
              rules = z.rules;
              cells = g.laid.cells;
              words = g.laid.words;
            };
            each_rule = 𝓤.formed.laid.each_rule;
            each_set = g.laid.each;
          };
          seen = λ i. record { rules = view_rules m.rules; sets = g.seen i };
          rules = λ k h. refl;
          cells = g.cells;
          words = g.words;
        }

module _ (m : Mem) (s : ℕ) (c : List ℕ) (𝓤 : Unexpanded m s)
    (held : HoldsKernel (rules_in m.rules) c 0 (closure (view_rules m.rules) (kernel_seen (rules_in m.rules) m.sets.words (s * 18)))) {lacks free S : ℕ}
    (counted : lacks ≡ missing_in m.rules m.sets.words c (symbols_in m.rules c))
    (size : S ≡ sets_in m.rules) (left : InTables S m.sets.cells (λ t. free_sets t.sets) free) where
  𝓒 : Closed m s c
  𝓒 = record { is = 𝓤; held = held }

  lacks_is : lacks ≡ missing (view m) s
  lacks_is =
      counted ∙ missing-lacking m.rules m.sets c (closed-ready m s c 𝓒)
      ∙ ap (λ c. lacking (view_rules m.rules) c (symbols (view_rules m.rules) c) (view m).sets) (closed_is m s c 𝓒)

  free_is : free ≡ free_sets (view m).sets
  free_is = left.exact m.rules m.sets.words (sym size)

  has_room_lem : lacks ≤ free → T (has_room (view m) s)
  has_room_lem h = le→leb (missing (view m) s) (free_sets (view m).sets) (omega (arith, lacks_is, free_is))

  pub tried_not : free < lacks → Tried m m s false
  tried_not h = record {
    room = iff_same false (has_room (view m) s) (λ t. absurd t)
        (λ t. absurd (omega (arith, lacks_is, free_is, leb→le (missing (view m) s) (free_sets (view m).sets) t)));
    grew = λ e. absurd (false≢true e);
    stayed = λ e. refl;
  }

  pub growable : {ws : List ℕ} → HoldsSymbols ws (view_rules m.rules) (items_in m.rules c) → lacks ≤ free → Growable m s c ws
  growable h l = record { closed = 𝓒; symbols = h; room = has_room_lem l }

  pub tried_grown : lacks ≤ free → {y : Sets} → Grew m.rules m.sets y s → Tried m (record { rules = m.rules; sets = y }) s true
  tried_grown l g = tried m s 𝓤 (has_room_lem l) g
