-- Finding or making the set to which each symbol leads, one symbol after the other, is the model's `leading`. Assumes nothing.
use mathlib.Core.List.{List, [], ◌∷◌}
use mathlib.Core.Path.{◌≡◌, refl, sym, ap, subst, ◌∙◌}
use mathlib.Core.Logic.{◌≢◌}
use Prim.Native.Nat.{ℕ, ◌+◌, ◌*◌, ◌≤◌, ◌<◌}
use native.Mathlib.Decide.{ℕ_discrete, dec_lt}
use native.Mathlib.Omega.{arith}
use borrow.Author.Tests.{eq-eqb, ne_eqb}
use lib.Dec.{eqb}
use lib.ListN.{length, get_or, set, length-set, replicate, get_or-replicate, get_or-eq_default}
use lib.Seq.{get_or-set_same, get_or-set_other}
use Rattle.laws.specs.Choice.{when}
use Rattle.laws.specs.Lists.{firstIn}
use Rattle.kernels.specs.Bits.{Over, GivesBit}
use Rattle.kernels.specs.declared.bits.Bits.{Bits}
use Rattle.kernels.proofs.KernelWalk.{over_still}
use Rattle.std.specs.Prelude.{Some, None}
use Rattle.laws.proofs.Tables.{length_tab}
use Rattle.theory.specs.Table.{Transition, SetPlace, no_transition}
use Rattle.theory.specs.Form.{InUse}
use Rattle.theory.specs.Expansion.{set_with, lowest_free, found}
use Rattle.theory.proofs.Sets.{used-inside}
use Rattle.theory.proofs.Kernels.{symbol_range}
use Rattle.theory.proofs.Leading.{lookup, Good, found-good, room-first, room-rest}
use Rattle.table.specs.Layout.{Sets, sets_in, rules_in, kernel_seen, transition, set_seen, view_rules}
use Rattle.table.specs.Laid.{HoldsKernel}
use Rattle.lookup.specs.Lookup.{Answered}
use Rattle.expansion.specs.Inner.{items_in, sets_seen, kernel_on, leading_in, RoomIn, Ready, Aimed, Leadable, led_from, LedTo}
use Rattle.expansion.proofs.Rest.{rest, least, rest-next, rest-none, rest_all, rest_in}

-- ---- a transition before the others

look_here : (i t : ℕ) (l : List Transition) → lookup (transition i t ∷ l) i ≡ t
unfolding lookup when
look_here i t l = ap (λ b. (when b (transition i t) (firstIn (λ a. eqb a.on i) no_transition l)).to) (eq-eqb i i refl)

look_there : (i t : ℕ) (l : List Transition) (k : ℕ) → k ≢ i → lookup (transition i t ∷ l) k ≡ lookup l k
unfolding lookup when
look_there i t l k d = ap (λ b. (when b (transition i t) (firstIn (λ a. eqb a.on k) no_transition l)).to) (ne_eqb i k (λ e. d (sym e)))

look_none : (k : ℕ) → lookup [] k ≡ 0
unfolding lookup
look_none k = refl

-- The sets x and the row are what the symbols that the walk b has passed have made of x₀; what the model makes of x₀ is what it makes
-- of x by the rest
pub record LeadFrom (rs : List ℕ) (x₀ : Sets) (c bits : List ℕ) (b : Bits) (x : Sets) (row : List ℕ) : Type 0 where
  pub over : Over bits 0 2 b
  pub ready : Ready rs x c
  pub room : RoomIn rs c (rest bits b.from) (sets_seen rs x)
  pub sets : (led_from rs x₀ c).sets ≡ (leading_in rs c (rest bits b.from) (sets_seen rs x)).sets
  pub cells : (k : ℕ) → sets_in rs * 128 ≤ k → get_or x.cells k 0 ≡ get_or x₀.cells k 0
  pub words : (k : ℕ) → sets_in rs * 18 ≤ k → get_or x.words k 0 ≡ get_or x₀.words k 0
  pub long : length row ≡ 128
  pub ahead : (k : ℕ) → b.from ≤ k → get_or row k 0 ≡ 0
  pub noted : (k : ℕ) → get_or row k 0 ≢ 0 → lookup (led_from rs x₀ c).transitions k ≡ get_or row k 0
  pub still : (k : ℕ) → get_or row k 0 ≡ 0
      → lookup (led_from rs x₀ c).transitions k ≡ lookup (leading_in rs c (rest bits b.from) (sets_seen rs x)).transitions k

-- ---- one symbol

pub aimed_above : {rs : List ℕ} {x : Sets} {c : List ℕ} {y : ℕ} → Aimed rs x c y → 1 ≤ y
aimed_above {rs} {c = c} {y = y} 𝓐 = (symbol_range (view_rules rs) (items_in rs c) y 𝓐.symbol).0

-- the answer on the slices is the model's, and it fits a cell
module _ {rs : List ℕ} {x : Sets} {c : List ℕ} {y : ℕ} (𝓐 : Aimed rs x c y)
    {key : List ℕ} (is : HoldsKernel (rules_in rs) key 0 (kernel_on rs c y)) where
  module _ {x' : Sets} {t : ℕ} (answer : Answered (sets_in rs) (rules_in rs) x x' (kernel_seen (rules_in rs) key 0) t) where
    pub target_found : Answered (sets_in rs) (rules_in rs) x x' (kernel_on rs c y) t
    target_found = subst (λ k. Answered (sets_in rs) (rules_in rs) x x' k t) is.seen answer

    pub target_fits : t < 255
    unfolding Good
    target_fits =
        let f = found (sets_seen rs x) (kernel_on rs c y) in
        let good = found-good (view_rules rs) (items_in rs c) (sets_seen rs x) y 𝓐.room in
        let l : f.at < length f.sets = used-inside f.sets f.at good.1.used in
        omega (arith, target_found.at, 𝓐.ready.few_sets, good.0.size, length_tab (sets_in rs) (set_seen (rules_in rs) x))

-- ---- the walk

no_targets : (k : ℕ) → ◌≡◌ {A = ℕ} (get_or (replicate 128 0) k 0) 0
no_targets k = elim (dec_lt k 128) [
  | yes h ↦ get_or-replicate 128 k 0 0 h
  | no h ↦ get_or-eq_default (replicate 128 0) 0 {n = k} (omega arith)
]

module _ (rs : List ℕ) (x₀ : Sets) (c bits : List ℕ) (𝓛 : Leadable rs x₀ c bits) where
  pub lead_start : {b : Bits} → Over bits 0 2 b → b.from ≡ 0 → LeadFrom rs x₀ c bits b x₀ (replicate 128 0)
  unfolding led_from
  lead_start o z =
      let e = rest_all bits _ _ 𝓛.symbols z in
      record {
        over = o;
        ready = 𝓛.ready;
        room = subst (λ l. RoomIn rs c l (sets_seen rs x₀)) e 𝓛.room;
        sets = ap (λ l. (leading_in rs c l (sets_seen rs x₀)).sets) e;
        cells = λ k h. refl;
        words = λ k h. refl;
        long = refl;
        ahead = λ k h. no_targets k;
        noted = λ k d. absurd (d (no_targets k));
        still = λ k z. ap (λ l. lookup (leading_in rs c l (sets_seen rs x₀)).transitions k) e;
      }

  module _ {b d : Bits} {x : Sets} {row : List ℕ} (so_far : LeadFrom rs x₀ c bits b x row) where
    module _ {i : ℕ} (g : GivesBit b (Some i) d) where
      abbrev ss : List SetPlace
      ss = sets_seen rs x

      abbrev tail : List ℕ
      tail = rest bits d.from

      room-here : RoomIn rs c (i ∷ tail) ss
      room-here = subst (λ l. RoomIn rs c l ss) (rest-next so_far.over g) so_far.room

      some : set_with ss (kernel_on rs c i) ≡ 0 → lowest_free ss ≢ 0
      some = room-first (view_rules rs) (items_in rs c) i tail ss so_far.ready.start room-here

      pub lead-aims : Aimed rs x c i
      lead-aims = record {
        ready = so_far.ready;
        symbol = rest_in bits _ _ 𝓛.symbols so_far.over g;
        room = some;
      }

      good : Good (view_rules rs) (items_in rs c) ss i (found ss (kernel_on rs c i))
      good = found-good (view_rules rs) (items_in rs c) ss i some

      module _ {x' : Sets} {t : ℕ} (𝓐 : Answered (sets_in rs) (rules_in rs) x x' (kernel_on rs c i) t) where
        new : (found ss (kernel_on rs c i)).sets ≡ sets_seen rs x'
        new = sym 𝓐.sets.seen

        start : InUse (sets_seen rs x') 0
        unfolding Good
        start = subst (λ ss. InUse ss 0) new
            (λ z. so_far.ready.start (ap (λ p. p.state) (sym (good.0.stays 0 so_far.ready.start)) ∙ z))

        nonzero : t ≢ 0
        unfolding Good
        nonzero z = good.1.not_start (sym 𝓐.at ∙ z)

        -- what the model makes of the sets from here on
        on-sets : (leading_in rs c (rest bits b.from) ss).sets ≡ (leading_in rs c tail (sets_seen rs x')).sets
        on-sets = ap (λ l. (leading_in rs c l ss).sets) (rest-next so_far.over g) ∙ ap (λ ss. (leading_in rs c tail ss).sets) new

        on_row : (k : ℕ) → lookup (leading_in rs c (rest bits b.from) ss).transitions k
            ≡ lookup (transition i t ∷ (leading_in rs c tail (sets_seen rs x')).transitions) k
        on_row k = ap (λ l. lookup (leading_in rs c l ss).transitions k) (rest-next so_far.over g)
            ∙ (λ z. lookup (transition i (sym 𝓐.at z) ∷ (leading_in rs c tail (new z)).transitions) k)

        pub lead-turn : LeadFrom rs x₀ c bits d x' (set row i t)
        lead-turn =
            let l = least so_far.over g in
            let inside : i < 128 = l.inside in
            let on : d.from ≡ i + 1 = g.on i refl in
            let here : get_or (set row i t) i 0 ≡ t = get_or-set_same row i t 0 (omega (arith, so_far.long)) in
            let other : (k : ℕ) → k ≢ i → get_or (set row i t) k 0 ≡ get_or row k 0 = λ k d. get_or-set_other row i k t 0 d in
            record {
              over = over_still so_far.over g;
              ready = record {
                rules = so_far.ready.rules;
                some_sets = so_far.ready.some_sets;
                few_sets = so_far.ready.few_sets;
                sets = 𝓐.sets.laid;
                start = start;
                within = so_far.ready.within;
                some = so_far.ready.some;
              };
              room = subst (λ ss. RoomIn rs c tail ss) new
                  (room-rest (view_rules rs) (items_in rs c) i tail ss so_far.ready.start room-here);
              sets = so_far.sets ∙ on-sets;
              cells = λ k h. 𝓐.sets.cells k h ∙ so_far.cells k h;
              words = λ k h. 𝓐.sets.words k h ∙ so_far.words k h;
              long = length-set row i t ∙ so_far.long;
              ahead = λ k h. other k (λ q. omega arith) ∙ so_far.ahead k (omega (arith, l.above));
              noted = λ k d. elim (ℕ_discrete k i) [
                | yes q ↦ subst (λ k. lookup (led_from rs x₀ c).transitions k ≡ get_or (set row i t) k 0) (sym q)
                    (so_far.still i (so_far.ahead i l.above) ∙ on_row i ∙ look_here i t _ ∙ sym here)
                | no q ↦ so_far.noted k (λ z. d (other k q ∙ z)) ∙ sym (other k q)
              ];
              still = λ k z. elim (ℕ_discrete k i) [
                | yes q ↦ absurd (nonzero (sym here ∙ ap (λ k. get_or (set row i t) k 0) (sym q) ∙ z))
                | no q ↦ so_far.still k (sym (other k q) ∙ z) ∙ on_row k ∙ look_there i t _ k q
              ];
            }

    pub lead-end : GivesBit b None d → LedTo rs x₀ x c row
    lead-end g =
        let none = rest-none so_far.over g in
        record {
          sets = record {
            laid = so_far.ready.sets;
            seen = sym (so_far.sets ∙ ap (λ l. (leading_in rs c l (sets_seen rs x)).sets) none);
            cells = so_far.cells;
            words = so_far.words;
          };
          long = so_far.long;
          targets = λ k. elim (ℕ_discrete (get_or row k 0) 0) [
            | yes z ↦ z ∙ sym (so_far.still k z ∙ ap (λ l. lookup (leading_in rs c l (sets_seen rs x)).transitions k) none ∙ look_none k)
            | no d ↦ sym (so_far.noted k d)
          ];
        }
