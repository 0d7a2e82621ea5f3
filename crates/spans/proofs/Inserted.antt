-- A key put where it belongs: the search is from the back, room is made from the back, and the keys ascend as before. Assumes nothing.
use mathlib.Core.Path.{◌≡◌, refl, sym, ap, ◌∙◌, subst}
use mathlib.Core.Logic.{◌≢◌, inl, inr}
use mathlib.Core.List.{List}
use Prim.Native.Nat.{ℕ, ◌+◌, ◌-◌, ◌≤◌, ◌<◌}
use native.Mathlib.Decide.{dec_lt, ℕ_discrete}
use native.Mathlib.Omega.{arith}
use lib.ListN.{length, set, length-set}
use lib.Seq.{get_or-set_same, get_or-set_other}
use Rattle.spans.specs.Area.{key_at}
use Rattle.spans.specs.Gathered.{Ascending}
use Rattle.spans.specs.Steps.{Belongs, Opened, Inserts}

-- ---- where the key belongs

-- the keys from e on are greater
pub record Over (a : List ℕ) (count key e : ℕ) : Type 0 where
  pub inside : e ≤ count
  pub greater : (i : ℕ) → e ≤ i → i < count → key < key_at a i

-- ---- the key put there

module _ {a : List ℕ} {count key f : ℕ} (ascending : Ascending a count) (belongs : Belongs a count key f) {b : List ℕ} (opened : Opened a b f count)
    (room : count < length a) (new : ((0 < f) × (key_at a (f - 1) ≡ key) → ⊥)) where
  abbrev c : List ℕ
  c = set b f key

  below : (e : ℕ) → e < f → key_at c e ≡ key_at a e
  below e h = get_or-set_other b f e key 0 (λ q. omega arith) ∙ opened.low e (omega arith)

  here : (e : ℕ) → e ≡ f → key_at c e ≡ key
  here e q = ap (key_at c) q ∙ get_or-set_same b f key 0 (omega (arith, opened.long, belongs.inside))

  above : (e : ℕ) → f < e → e ≤ count → key_at c e ≡ key_at a (e - 1)
  above e h l = get_or-set_other b f e key 0 (λ q. omega arith) ∙ opened.high e h l

  -- what stands before it is lower
  lower : (e : ℕ) → e < f → key_at a e < key
  lower e h =
      let l = belongs.before (omega arith) in
      let d : key_at a (f - 1) ≢ key = λ q. new (omega arith, q) in
      elim (ℕ_discrete e (f - 1)) [
        | yes q ↦ let r = ap (key_at a) q in omega arith
        | no n ↦ omega (arith, ascending e (f - 1) (omega arith) (omega (arith, belongs.inside)))
      ]

  ascends : Ascending c (count + 1)
  ascends e g h l =
      elim (dec_lt g f) [
        | yes p ↦ omega (arith, below e (omega arith), below g p, ascending e g h (omega (arith, belongs.inside)))
        | no p ↦ elim (ℕ_discrete g f) [
          | yes q ↦ omega (arith, below e (omega arith), here g q, lower e (omega arith))
          | no q ↦
              let top = above g (omega arith) (omega arith) in
              let over = belongs.after (g - 1) (omega arith) (omega arith) in
              elim (dec_lt e f) [
                | yes r ↦ omega (arith, below e r, lower e r)
                | no r ↦ elim (ℕ_discrete e f) [
                  | yes s ↦ omega (arith, here e s)
                  | no s ↦ omega (arith, above e (omega arith) (omega arith), ascending (e - 1) (g - 1) (omega arith) (omega arith))
                ]
              ]
        ]
      ]

  insert_here : Inserts a c count key (count + 1)
  insert_here = record {
    long = length-set b f key ∙ opened.long;
    more = omega arith;
    ascending = ascends;
    there = record { place = f; inside = omega (arith, belongs.inside); is = here f refl };
    held = λ e h. elim (dec_lt e f) [
      | yes p ↦ record { place = e; inside = omega arith; is = below e p }
      | no p ↦
          let q : e + 1 - 1 ≡ e = omega arith in
          record { place = e + 1; inside = omega arith; is = above (e + 1) (omega arith) (omega arith) ∙ ap (key_at a) q }
    ];
    only = λ e h. elim (dec_lt e f) [
      | yes p ↦ inr (record { place = e; inside = omega (arith, belongs.inside); is = sym (below e p) })
      | no p ↦ elim (ℕ_discrete e f) [
        | yes q ↦ inl (here e q)
        | no q ↦ inr (record { place = e - 1; inside = omega arith; is = sym (above e (omega arith) (omega arith)) })
      ]
    ];
  }

  pub insert-new : {n : ℕ} → n ≡ count → Inserts a c count key (n + 1)
  insert-new e = subst (λ n. Inserts a c count key (n + 1)) (sym e) insert_here
