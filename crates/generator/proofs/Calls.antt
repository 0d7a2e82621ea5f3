-- How each path of a call comes to its promise. Assumes nothing.
use mathlib.Core.List.{List}
use mathlib.Core.Path.{◌≡◌, refl, subst, sym}
use Prim.Native.Nat.{ℕ}
use Rattle.std.specs.Prelude.{Some, None, Ok, Err}
use Rattle.symbols.specs.Answer.{refusal_number}
use Rattle.symbols.specs.declared.refusal.Refusal.{Refusal}
use Rattle.symbols.specs.declared.rule.Rule.{Rule}
use Rattle.theory.specs.Table.{CURRENT, WITHDRAWN}
use Rattle.theory.specs.Parse.{outcome}
use Rattle.theory.specs.Expansion.{collected}
use Rattle.theory.specs.Calls.{new_table, put_rule, add_in_form, delete_in_form, restarted, add, delete, collect, restart}
use Rattle.table.specs.Layout.{Mem, mem, sets, view}
use Rattle.table.specs.Laid.{Formed}
use Rattle.table.specs.Becomes.{Becomes, Promised}
use Rattle.changes.specs.Change.{place_of, Fits}
use Rattle.changes.specs.Touch.{unexpand}
use Rattle.checks.specs.Found.{add_later, DeleteFound, AddFound}
use Rattle.generator.specs.Calls.{NewPromised, Does, LaterFree}
use Rattle.generator.proofs.Promises.{kept, does-nothing, does}
use Rattle.generator.proofs.Changing.{restart-becomes}

-- ---- New

module _ (m : Mem) (s r : ℕ) where
  pub new-refused : (Fits m s r → ⊥) → NewPromised m m s r 10
  new-refused g = record { made = λ f. absurd (g f); bad_pool = λ _. (refl, refl) }

  pub new-made : {n : Mem} → Fits m s r → Becomes m n (new_table s r) → NewPromised m n s r 0
  new-made f b = record { made = λ _. (refl, b); bad_pool = λ g. absurd (g f) }

-- ---- the others, on a table in form

module _ (m n : Mem) (f : Formed m) where
  module _ (x : ℕ) (w : List ℕ) (a k : ℕ) where
    pub add_kept : Does (add_in_form (view m) x w) m n a k → Promised (λ t. add t x w) m n a k
    add_kept d = kept (λ t. add_in_form t x w) m n a k f d

    pub delete-kept : Does (delete_in_form (view m) x w) m n a k → Promised (λ t. delete t x w) m n a k
    delete-kept d = kept (λ t. delete_in_form t x w) m n a k f d

  pub collect-kept : Becomes m n (collected (view m)) → Promised collect m n 0 0
  collect-kept b = kept (λ t. outcome 0 0 (collected t)) m n 0 0 f (does refl b)

  restart-kept : Becomes m n (restarted (view m)) → Promised restart m n 0 0
  restart-kept b = kept (λ t. outcome 0 0 (restarted t)) m n 0 0 f (does refl b)

-- the two steps of Restart
pub restart-done : (rs c w c₁ w₁ : List ℕ) (n : Mem) (f : Formed (mem rs c w)) → sets c₁ w₁ ≡ unexpand 0 (sets c w)
    → Becomes (mem rs c₁ w₁) n (collected (view (mem rs c₁ w₁))) → Promised restart (mem rs c w) n 0 0
restart-done rs c w c₁ w₁ n f u b = restart-kept (mem rs c w) n f (restart-becomes rs (sets c w) f (sets c₁ w₁) u n b)

-- ---- Add and Delete, by what their checks have found

module _ (m : Mem) (formed : Formed m) (x : ℕ) (w : List ℕ) where
  pub delete-refused : (e : Refusal) → DeleteFound m.rules x w (Err e) → Does (delete_in_form (view m) x w) m m (refusal_number e) 0
  delete-refused e d = does-nothing formed (d.refuses e refl (view m).sets)

  pub add-refused : (e : Refusal) → AddFound m.rules x w (Err e) → Does (add_in_form (view m) x w) m m (refusal_number e) 0
  add-refused e d = does-nothing formed (d.refuses e refl (view m).sets)

  module _ (y : Rule) {n : Mem} (r : ℕ) where
    pub delete-done : DeleteFound m.rules x w (Ok (r, y)) → Becomes m n (put_rule (view m) r (place_of WITHDRAWN y)) → Does (delete_in_form (view m) x w) m n 0 r
    delete-done d b = does (d.deletes r y refl (view m).sets) b

    pub add_done : AddFound m.rules x w (Ok (Some r, y)) → Becomes m n (put_rule (view m) r (place_of CURRENT y)) → Does (add_in_form (view m) x w) m n 0 r
    add_done d b = does (d.adds r y refl (view m).sets) b

    pub add-collected : AddFound m.rules x w (Ok (None, y)) → Does (add_later (view m) (place_of CURRENT y)) m n 0 r → Does (add_in_form (view m) x w) m n 0 r
    add-collected d c = subst (λ o. Does o m n 0 r) (sym (d.collects y refl (view m).sets).0) c

  pub later-free : (y : Rule) → AddFound m.rules x w (Ok (None, y)) → LaterFree m y
  later-free y d = record { inside = (d.collects y refl (view m).sets).1; rule = d.rule None y refl }
