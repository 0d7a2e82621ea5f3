-- A row that has a set's targets holds its transitions. Assumes nothing.
use mathlib.Core.Bool.{not}
use mathlib.Core.List.Memᴰ.{head as here}
use mathlib.Core.List.Memᴰ.{tail as there}
use mathlib.Core.List.{List, [], ◌∷◌, map, Memᴰ as In}
use mathlib.Core.Path.{◌≡◌, refl, sym, ap, ap₂, subst, ◌∙◌}
use Prim.Native.Nat.{ℕ, ◌≤◌, ◌<◌}
use native.Mathlib.Omega.{arith}
use lib.Dec.{eqb}
use Rattle.laws.specs.Lists.{someIn, keep, up_from}
use Rattle.laws.proofs.Tests.{eqb_iff, not_eqb}
use Rattle.laws.proofs.Lists.{some_in, in_keep, in_map, in_up}
use Rattle.laws.proofs.Chosen.{iff_same, keep_cong}
use Rattle.theory.specs.Table.{Transition, Table, set_at, target}
use Rattle.theory.specs.Form.{InForm, symbols_of}
use Rattle.theory.proofs.Transitions.{goto_transition}
use Rattle.theory.proofs.FormReach.{set-form, transition_goto}
use Rattle.table.specs.Layout.{transition}

map_back : (g : ℕ → Transition) (l : List Transition) → ((a : Transition) → In a l → g a.on ≡ a) → map g (map (λ a. a.on) l) ≡ l
map_back g [] h = refl
map_back g (a ∷ l) h = ap₂ (λ b r. b ∷ r) (h a (here refl)) (map_back g l (λ b m. h b (there m)))

module _ (t : Table) (𝓕 : InForm t) (u : ℕ) (f : ℕ → ℕ) (is : (k : ℕ) → 1 ≤ k → k < 128 → f k ≡ target t.sets u k) where
  abbrev ts : List Transition
  ts = (set_at t.sets u).transitions

  -- the symbols that have a target are those of the transitions
  on : keep (λ k. not (eqb (f k) 0)) (up_from 1 127) ≡ map (λ a. a.on) ts
  on =
      keep_cong (λ k. not (eqb (f k) 0)) (λ k. someIn (eqb k) (symbols_of (set_at t.sets u))) (up_from 1 127)
      (λ k m. let (p, q) = (in_up 1 127).0 m in let e = is k p (omega arith) in
      iff_same (not (eqb (f k) 0)) (someIn (eqb k) (symbols_of (set_at t.sets u)))
      (λ v.
      let (a, i, x, y) = goto_transition t u k (target t.sets u k) (refl, λ z. (not_eqb (f k) 0).0 v (e ∙ z)) in
      (some_in (eqb k) (symbols_of (set_at t.sets u))).1 (a.on, (in_map (λ a. a.on) ts).1 (a, i, refl), (eqb_iff k a.on).1 (sym x)))
      (λ v.
      let (x, i, y) = (some_in (eqb k) (symbols_of (set_at t.sets u))).0 v in
      let (a, j, z) = (in_map (λ a. a.on) ts).0 i in
      let (g, d) = transition_goto t 𝓕 u a j in
      (not_eqb (f k) 0).1 (λ w. d (sym g ∙ ap (target t.sets u) (sym ((eqb_iff k x).0 y ∙ z)) ∙ sym e ∙ w))))
      ∙ sym (set-form t 𝓕 u).one_target

  pub row-transitions : map (λ k. transition k (f k)) (keep (λ k. not (eqb (f k) 0)) (up_from 1 127)) ≡ (set_at t.sets u).transitions
  row-transitions = ap (map (λ k. transition k (f k))) on ∙ map_back (λ k. transition k (f k)) ts same
    where
      same : (a : Transition) → In a ts → transition a.on (f a.on) ≡ a
      same a m =
          let i : In a.on (keep (λ k. not (eqb (f k) 0)) (up_from 1 127)) = subst (In a.on) (sym on) ((in_map (λ a. a.on) ts).1 (a, m, refl)) in
          let (p, q) = (in_up 1 127).0 ((in_keep (λ k. not (eqb (f k) 0)) (up_from 1 127)).0 i).0 in
          ap (transition a.on) (is a.on p (omega arith) ∙ (transition_goto t 𝓕 u a m).0)
