-- The sparse set: whether a node is in the list, and one put onto it. Assumes nothing.
use mathlib.Core.Path.{◌≡◌, refl, sym, ◌∙◌, ap, subst}
use mathlib.Core.Logic.{◌≢◌, inl, inr, ⊎_elim}
use mathlib.Core.List.Memᴰ
use mathlib.Core.List.{List, [], ◌∷◌, Memᴰ as In}
use Prim.Native.Nat.{ℕ, zero, suc, ◌+◌, ◌-◌, ◌*◌, ◌≤◌, ◌<◌, zero-le}
use native.Mathlib.Decide.{ℕ_discrete}
use native.Mathlib.Omega.{arith}
use lib.ListN.{length, get_or, set, length-set}
use lib.Seq.{get_or-set_same, get_or-set_other}
use Rattle.laws.specs.Lists.{Distinct, up_from}
use Rattle.laws.specs.Lists.Distinct.{none, one_more}
use Rattle.laws.proofs.Lists.{in_up, up_length}
use Rattle.theory.proofs.Counting.{no_longer}
use Rattle.levels.specs.Lists.{listed, On, Listed, Made, Puts}

-- ---- numbers below n, each once, are at most n

abbrev down_to : (ℕ → ℕ) → ℕ → List ℕ
down_to f zero = []
down_to f (suc c) = f c ∷ down_to f c

in_down : (f : ℕ → ℕ) (c : ℕ) {x : ℕ} → In x (down_to f c) → (i : ℕ) × (i < c) × (x ≡ f i)
in_down f zero m = absurd (Memᴰ.not-nil m)
in_down f (suc c) m = ⊎_elim (λ e. (c, omega arith, e)) (λ k. let (i, l, e) = in_down f c k in (i, omega arith, e)) (Memᴰ.cases_cons m)

length_down : (f : ℕ → ℕ) (c : ℕ) → length (down_to f c) ≡ c
length_down f zero = refl
length_down f (suc c) = ap suc (length_down f c)

distinct_down : (f : ℕ → ℕ) (c : ℕ) → ((i j : ℕ) → i < j → j < c → f i ≢ f j) → Distinct (down_to f c)
distinct_down f zero h = none
distinct_down f (suc c) h =
    one_more (λ m. let (i, l, e) = in_down f c m in h i c l (omega arith) (sym e)) (distinct_down f c (λ i j l k. h i j l (omega arith)))

module _ {w : List ℕ} {side c nodes : ℕ} (L : Listed w side c nodes) where
  abbrev nodes-on : List ℕ
  nodes-on = down_to (λ i. listed w side i) c

  in_range : (x : ℕ) → In x nodes-on → In x (up_from 0 nodes)
  in_range x m = let (i, l, e) = in_down (λ i. listed w side i) c m in let h = L.inside i l in (in_up 0 nodes).1 (zero-le, omega arith)

  once-on : Distinct nodes-on
  once-on = distinct_down (λ i. listed w side i) c L.once

  -- a list is no longer than there are nodes, and has room for one that is not in it
  pub few : c ≤ nodes
  few = omega (arith, no_longer once-on (up_from 0 nodes) in_range, length_down (λ i. listed w side i) c, up_length 0 nodes)

  pub room : (n : ℕ) → n < nodes → (On w side c n → ⊥) → c < nodes
  room n l d =
      let k : length (n ∷ nodes-on) ≤ length (up_from 0 nodes) =
      no_longer (one_more (λ m. let (i, h, e) = in_down (λ i. listed w side i) c m in d (record { i = i; low = h; is = sym e })) once-on) (up_from 0 nodes)
      (λ x m. ⊎_elim (λ e. (in_up 0 nodes).1 (zero-le, omega arith)) (in_range x) (Memᴰ.cases_cons m)) in
      omega (arith, length_down (λ i. listed w side i) c, up_length 0 nodes)

-- ---- whether node n is in the list: i is what the index has for it

module _ {w : List ℕ} {side c nodes i : ℕ} (n : ℕ) (M : Made w side c nodes) (is : i ≡ get_or w (8194 + n) 0) where
  place : (o : On w side c n) → o.i ≡ i
  place o = sym (M.indexed o.i o.low) ∙ ap (λ m. get_or w (8194 + m) 0) o.is ∙ sym is

  pub not_below : c ≤ i → On w side c n → ⊥
  not_below l o = let e = place o in let h = o.low in omega arith

  pub not_there : listed w side i ≢ n → On w side c n → ⊥
  not_there d o = d (ap (λ j. listed w side j) (sym (place o)) ∙ o.is)

-- ---- node n put

module _ {w : List ℕ} {side c nodes n : ℕ} (M : Made w side c nodes) where
  pub puts-there : On w side c n → Puts side nodes n w c w c
  puts-there o = record { made = M; old = λ m q. q; new = o; only = λ m q. inl q; other = λ i l. refl }

  module _ (w₁ w₂ : List ℕ) (long : length w ≡ 12291) (at_Side : side ≤ 1) (few_nodes : nodes ≤ 4097) (n_in : n < nodes) (d : On w side c n → ⊥)
      (is₁ : w₁ ≡ set w (side * 4097 + c) n) (is₂ : w₂ ≡ set w₁ (8194 + n) c) where
    c-low : c < nodes
    c-low = room M.list n n_in d

    long₁ : length w₁ ≡ 12291
    long₁ = ap length is₁ ∙ length-set w (side * 4097 + c) n ∙ long

    same : (k : ℕ) → k ≢ side * 4097 + c → k ≢ 8194 + n → get_or w₂ k 0 ≡ get_or w k 0
    same k p q =
        ap (λ w. get_or w k 0) is₂ ∙ get_or-set_other w₁ (8194 + n) k c 0 q ∙ ap (λ w. get_or w k 0) is₁ ∙ get_or-set_other w (side * 4097 + c) k n 0 p

    old-listed : (i : ℕ) → i < c → listed w₂ side i ≡ listed w side i
    old-listed i l = same (side * 4097 + i) (λ e. omega arith) (λ e. let h = c-low in omega arith)

    new-listed : listed w₂ side c ≡ n
    new-listed =
        ap (λ w. get_or w (side * 4097 + c) 0) is₂ ∙ get_or-set_other w₁ (8194 + n) (side * 4097 + c) c 0 (λ e. let h = c-low in omega arith)
        ∙ ap (λ w. get_or w (side * 4097 + c) 0) is₁ ∙ get_or-set_same w (side * 4097 + c) n 0 (let h = c-low in omega arith)

    new-index : get_or w₂ (8194 + n) 0 ≡ c
    new-index = ap (λ w. get_or w (8194 + n) 0) is₂ ∙ get_or-set_same w₁ (8194 + n) c 0 (let h = long₁ in omega arith)

    not_n : (i : ℕ) → i < c → listed w side i ≢ n
    not_n i l e = d (record { i = i; low = l; is = e })

    old-index : (i : ℕ) → i < c → get_or w₂ (8194 + listed w₂ side i) 0 ≡ i
    old-index i l =
        ap (λ m. get_or w₂ (8194 + m) 0) (old-listed i l)
        ∙ same (8194 + listed w side i) (λ e. let h = c-low in omega arith) (λ e. not_n i l (omega arith)) ∙ M.indexed i l

    -- at each place below c + 1
    each : (P : ℕ → Type 0) → ((i : ℕ) → i < c → P i) → P c → (i : ℕ) → i < c + 1 → P i
    each P f h i l = elim (ℕ_discrete i c) [ yes e ↦ subst P (sym e) h | no e ↦ f i (omega arith) ]

    pub puts-new : Puts side nodes n w c w₂ (c + 1)
    puts-new = record {
      made = record {
        list = record {
          inside = each (λ i. listed w₂ side i < nodes) (λ i l. omega (arith, old-listed i l, M.list.inside i l)) (omega (arith, new-listed));
          once = λ i j l h. elim (ℕ_discrete j c) [
            | yes e ↦ λ q. not_n i (omega arith) (sym (old-listed i (omega arith)) ∙ q ∙ ap (λ j. listed w₂ side j) e ∙ new-listed)
            | no e ↦ λ q. M.list.once i j l (omega arith) (sym (old-listed i (omega arith)) ∙ q ∙ old-listed j (omega arith))
          ];
        };
        indexed = each (λ i. get_or w₂ (8194 + listed w₂ side i) 0 ≡ i) old-index (ap (λ m. get_or w₂ (8194 + m) 0) new-listed ∙ new-index);
      };
      old = λ m o. record { i = o.i; low = let h = o.low in omega arith; is = old-listed o.i o.low ∙ o.is };
      new = record { i = c; low = omega arith; is = new-listed };
      only = λ m o. elim (ℕ_discrete o.i c) [
        | yes e ↦ inr (sym o.is ∙ ap (λ i. listed w₂ side i) e ∙ new-listed)
        | no e ↦ let h : o.i < c = (let l = o.low in omega arith) in inl (record { i = o.i; low = h; is = sym (old-listed o.i h) ∙ o.is })
      ];
      other = λ i l. same ((1 - side) * 4097 + i) (λ e. let h = c-low in omega arith) (λ e. omega arith);
    }
