-- How many sets are free, and which is the lowest, from the sets' marks. Assumes nothing.
use mathlib.Core.Bool.{Bool, true, false}
use mathlib.Core.List.{List, [], ◌∷◌}
use mathlib.Core.Path.{◌≡◌, refl, sym, ap, ap₂, subst, ◌∙◌}
use Prim.Native.Nat.{ℕ, zero, suc, pred, ◌+◌, ◌-◌, ◌*◌, ◌≤◌, ◌<◌}
use native.Mathlib.Nat.{le_refl}
use native.Mathlib.Decide.{ℕ_discrete, dec_lt}
use native.Mathlib.Numerals.{add-one}
use native.Mathlib.Omega.{arith}
use borrow.Author.Tests.{eq-eqb, ne_eqb, lt-ltb, le-ltb}
use lib.Dec.{eqb, ltb}
use lib.ListN.{length, get_or}
use Rattle.std.proofs.Common.{Option, Some, None, cond}
use Rattle.std.specs.Prelude.{MatchOption}
use Rattle.std.specs.Option.{unwrap_or}
use Rattle.laws.specs.Choice.{when}
use Rattle.laws.specs.Loops.{tabFrom}
use Rattle.laws.specs.Lists.{consIf, keep, firstIn, up_from}
use Rattle.laws.proofs.Tables.{length_tab}
use Rattle.laws.proofs.Lists.{in_up}
use Rattle.theory.specs.Table.{FREE, SetPlace, set_at, in_use}
use Rattle.theory.specs.Expansion.{free_sets, lowest_free}
use Rattle.table.specs.Layout.{sets, mem, sets_in, rules_in, state_of, set_seen, view, view_sets}
use Rattle.table.proofs.Read.{set_read}
use Rattle.laws.proofs.Loops.{firstFrom, first-here, first_on, first-end}
use Rattle.laws.proofs.Chosen.{first_cong}
use Rattle.collection.specs.Reach.{cell_of}
use Rattle.collection.specs.Room.{InTables}

-- ---- a mark

free_mark : (m : ℕ) → eqb (state_of m) FREE ≡ eqb m 0
free_mark zero = refl
free_mark (suc zero) = refl
free_mark (suc (suc m)) = sym (ne_eqb (suc (suc m)) 0 (λ z. omega arith))

-- ---- how many

abbrev pub one : Bool → ℕ
one b = cond b 1 0

length_if : {A : Type 0} (b : Bool) (x : A) (l : List A) → length (consIf b x l) ≡ one b + length l
unfolding when
length_if true x l = omega arith
length_if false x l = omega arith

-- set t is free
abbrev pub is_free : List ℕ → ℕ → Bool
is_free cells t = eqb (get_or cells (t * 128) 0) 0

free_seen : (cells ws : List ℕ) (n t : ℕ) → is_free cells t ≡ eqb (set_seen n (sets cells ws) t).state FREE
free_seen cells ws n t = ap (λ p. eqb (get_or cells p 0) 0) (omega arith) ∙ sym (free_mark (cell_of cells t 0))

-- one more at the end of a table
from_more : {A : Type 0} (f : A → Bool) (i n : ℕ) (g : ℕ → A) → length (keep f (tabFrom i (suc n) g)) ≡ length (keep f (tabFrom i n g)) + one (f (g (i + n)))
from_more f i zero g = let e : one (f (g i)) ≡ one (f (g (i + 0))) = ap (λ k. one (f (g k))) (omega arith) in omega (arith, length_if (f (g i)) (g i) [])
from_more f i (suc n) g =
    let e : one (f (g (suc i + n))) ≡ one (f (g (i + suc n))) = ap (λ k. one (f (g k))) (omega arith) in
    omega (arith, length_if (f (g i)) (g i) (keep f (tabFrom (suc i) (suc n) g)), length_if (f (g i)) (g i) (keep f (tabFrom (suc i) n g)), from_more f (suc i) n g)

-- r of the sets below s are free, whatever rules and words stand beside the cells
pub record FreeBelow (cells : List ℕ) (s r : ℕ) : Type 0 where
  pub count : (n : ℕ) (ws : List ℕ) → r ≡ free_sets (view_sets s n (sets cells ws))

pub free_none : {cells : List ℕ} → FreeBelow cells 0 0
free_none = record { count = λ n ws. refl }

pub free_more : {cells : List ℕ} {s r k : ℕ} → FreeBelow cells s r → k ≡ one (is_free cells s) → FreeBelow cells (s + 1) (r + k)
free_more {cells} {s} {r} {k} h e = record {
  count = λ n ws.
      let g = set_seen n (sets cells ws) in
      let m : k ≡ one (eqb (g (0 + s)).state FREE) = e ∙ ap one (free_seen cells ws n s) ∙ ap (λ j. one (eqb (g j).state FREE)) (omega arith) in
      ap₂ ◌+◌ (h.count n ws) m ∙ sym (from_more (λ p. eqb p.state FREE) 0 s g) ∙ ap (λ j. free_sets (view_sets j n (sets cells ws))) (sym (add-one s));
}

pub free_end : {cells : List ℕ} {s S r : ℕ} → s ≡ S → FreeBelow cells s r → InTables S cells (λ t. free_sets t.sets) r
free_end {cells} e h = record { exact = λ rs ws q. h.count (rules_in rs) ws ∙ ap (λ j. free_sets (view_sets j (rules_in rs) (sets cells ws))) (e ∙ sym q) }

-- ---- free or in use

either : (n : ℕ) → one (ltb 0 n) + one (eqb n FREE) ≡ 1
either n = elim (ℕ_discrete n 0) [
  | yes z ↦ ap₂ (λ a b. one a + one b) (le-ltb 0 n (omega arith)) (eq-eqb n 0 z)
  | no d ↦ ap₂ (λ a b. one a + one b) (lt-ltb 0 n (omega arith)) (ne_eqb n 0 d)
]

used_or_free : (ss : List SetPlace) → length (keep (λ p. ltb 0 p.state) ss) + free_sets ss ≡ length ss
used_or_free [] = refl
used_or_free (p ∷ ss) =
    omega (arith, used_or_free ss, either p.state, length_if (ltb 0 p.state) p (keep (λ p. ltb 0 p.state) ss), length_if (eqb p.state FREE) p (keep (λ p. eqb p.state FREE) ss))

pub free_fits : {cells : List ℕ} {S r : ℕ} → InTables S cells (λ t. free_sets t.sets) r → r ≤ S
free_fits {cells} {S} {r} h =
    omega (arith, h.exact (S ∷ []) [] refl, used_or_free (view_sets S 0 (sets cells [])), length_tab S (set_seen 0 (sets cells [])))

pub rest-used : {cells : List ℕ} {S r : ℕ} → InTables S cells (λ t. free_sets t.sets) r → InTables S cells in_use (S - r)
rest-used {cells} {S} {r} h = record {
  exact = λ rs ws e.
      omega (arith, h.exact rs ws e, used_or_free (view_sets (sets_in rs) (rules_in rs) (sets cells ws)), length_tab (sets_in rs) (set_seen (rules_in rs) (sets cells ws)));
}

-- ---- the lowest

module _ (f : ℕ → Bool) (d n : ℕ) where
  -- no number from a on passes the test
  none-from : (m a : ℕ) → n ≤ a + m → ((k : ℕ) → a ≤ k → k < n → f k ≡ false) → d ≡ firstFrom f d n a
  none-from zero a l none = first-end f d n refl (omega arith)
  none-from (suc m) a l none = elim (dec_lt a n) [
    | yes p ↦ none-from m (a + 1) (omega arith) (λ k q. none k (omega arith)) ∙ sym (first_on f d n refl p (none a (le_refl a) p))
    | no p ↦ first-end f d n refl (omega arith)
  ]

  -- i is the first that does
  module _ (i : ℕ) (l : i < n) (here : f i ≡ true) where
    first-from : (m a : ℕ) → a + m ≡ i → ((k : ℕ) → a ≤ k → k < i → f k ≡ false) → i ≡ firstFrom f d n a
    first-from zero a e none = let z : i ≡ a = omega arith in subst (λ a. i ≡ firstFrom f d n a) z (first-here f d n refl l here)
    first-from (suc m) a e none = first-from m (a + 1) (omega arith) (λ k q. none k (omega arith)) ∙ sym (first_on f d n refl (omega arith) (none a (le_refl a) (omega arith)))

module _ (cells : List ℕ) where
  lowest-end : {S r : ℕ} → r ≡ firstFrom (is_free cells) 0 S 1 → InTables S cells (λ t. lowest_free t.sets) r
  unfolding firstFrom
  lowest-end {S} h = record {
    exact = λ rs ws e.
        let v = (view (mem rs cells ws)).sets in
        let k : length v ≡ sets_in rs = length_tab (sets_in rs) (set_seen (rules_in rs) (sets cells ws)) in
        let n : S - 1 ≡ pred (length v) = omega arith in
        h ∙ ap (λ n. firstIn (is_free cells) 0 (up_from 1 n)) n
        ∙ first_cong (is_free cells) (λ t. eqb (set_at v t).state FREE) 0 (up_from 1 (pred (length v)))
        (λ t m.
        let (p, q) = (in_up 1 (pred (length v))).0 m in
        free_seen cells ws (rules_in rs) t ∙ ap (λ p. eqb p.state FREE) (sym (set_read (sets_in rs) (rules_in rs) (sets cells ws) t (omega arith))));
  }

  -- what `find` says of the sets from 1 on
  pub lowest-found : {S x : ℕ} (r : Option ℕ)
      → MatchOption r ((k : ℕ) → 1 ≤ k → k < S → is_free cells k ≡ false)
      (λ i. (1 ≤ i) × (i < S) × (is_free cells i ≡ true) × ((k : ℕ) → 1 ≤ k → k < i → is_free cells k ≡ false))
      → x ≡ unwrap_or r 0 → InTables S cells (λ t. lowest_free t.sets) x
  lowest-found {S} None none e = lowest-end (e ∙ none-from (is_free cells) 0 S S 1 (omega arith) none)
  lowest-found {S} (Some i) (p, q, here, none) e =
      let z : 1 + (i - 1) ≡ i = omega arith in
      lowest-end (e ∙ first-from (is_free cells) 0 S i q here (i - 1) 1 z none)
