-- An expansion, with collection first where there is no room, is the model's. Assumes nothing.
use mathlib.Core.Bool.{Bool, true, false}
use mathlib.Core.Path.{◌≡◌, refl, sym, ap, subst, ◌∙◌}
use Prim.Native.Nat.{ℕ}
use Rattle.laws.specs.Choice.{when}
use Rattle.theory.specs.Table.{Table, set_at}
use Rattle.theory.specs.Expansion.{Step, collected, has_room, grown, expand}
use Rattle.theory.proofs.Later.{still_unexpanded}
use Rattle.table.specs.Layout.{Mem, Sets, view}
use Rattle.table.specs.Becomes.{Becomes}
use Rattle.collection.proofs.Collected.{collected-formed}
use Rattle.expansion.specs.Expansion.{Unexpanded, Tried, Expandable, Expands}

-- ---- the model's three ways

abbrev not_done : Table → Step
not_done u = record { done = false; table = u }

module _ (t : Table) (s : ℕ) where
  has_now : true ≡ has_room t s → grown t s ≡ expand t s
  unfolding when
  has_now e = ap (λ b. when b (grown t s) (when (has_room (collected t) s) (grown (collected t) s) (not_done (collected t)))) e

  has-then : false ≡ has_room t s → (r : Bool) → r ≡ has_room (collected t) s → when r (grown (collected t) s) (not_done (collected t)) ≡ expand t s
  unfolding when
  has-then e r h =
      ap (λ b. when b (grown (collected t) s) (not_done (collected t))) h
      ∙ ap (λ b. when b (grown t s) (when (has_room (collected t) s) (grown (collected t) s) (not_done (collected t)))) e

-- ---- the code's

pub expand_now : (m n : Mem) (s : ℕ) {r : Bool} → Tried m n s r → r ≡ true → Expands m n s true
expand_now m n s {r} 𝓣 e =
    let h = has_now (view m) s (sym e ∙ 𝓣.room) in
    record { done = ap (λ a. a.done) h; table = subst (λ (a : Step). Becomes m n a.table) h (𝓣.grew e) }

module _ (m a : Mem) (s : ℕ) {r : Bool} (𝓔 : Expandable m s) (𝓣 : Tried m a s r) (no : r ≡ false) where
  module _ (b : Mem) (𝓑 : Becomes a b (collected (view a))) where
    from-m : Becomes m b (collected (view m))
    from-m = subst (λ a. Becomes a b (collected (view a))) (𝓣.stayed no) 𝓑

    pub again-unexpanded : Unexpanded b s
    again-unexpanded = record {
      formed = collected-formed m b 𝓔.is.formed from-m;
      bare = ap (λ (t : Table). (set_at t.sets s).state) from-m.seen ∙ still_unexpanded (view m) 𝓔.is.formed.form s 𝓔.reached 𝓔.is.bare;
    }

    then : (y : Sets) (q : Bool) → Tried b (record { rules = b.rules; sets = y }) s q → Expands m (record { rules = b.rules; sets = y }) s q
    unfolding when
    then y true 𝓣₂ =
        let h = has-then (view m) s (sym no ∙ 𝓣.room) true (𝓣₂.room ∙ ap (λ t. has_room t s) from-m.seen) in
        let g = 𝓣₂.grew refl in
        record {
          done = ap (λ a. a.done) h;
          table = record {
            laid = g.laid;
            seen = g.seen ∙ ap (λ t. (grown t s).table) from-m.seen ∙ ap (λ a. a.table) h;
            rules = λ k l. from-m.rules k l;
            cells = λ k l. g.cells k l ∙ from-m.cells k l;
            words = λ k l. g.words k l ∙ from-m.words k l;
          };
        }
    then y false 𝓣₂ =
        let h = has-then (view m) s (sym no ∙ 𝓣.room) false (𝓣₂.room ∙ ap (λ t. has_room t s) from-m.seen) in
        record {
          done = ap (λ a. a.done) h;
          table = subst (λ n. Becomes m n (expand (view m) s).table) (sym (𝓣₂.stayed refl)) (subst (λ (a : Step). Becomes m b a.table) h from-m);
        }

    pub expand-then : {y : Sets} {q : Bool} → Tried b (record { rules = b.rules; sets = y }) s q → Expands m (record { rules = b.rules; sets = y }) s q
    expand-then {y} {q} 𝓣₂ = then y q 𝓣₂
