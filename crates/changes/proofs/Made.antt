-- A new table: the pools' numbers are zero but for the two sizes and the mark of set 0. Assumes nothing.
use mathlib.Core.List.{List, [], ◌∷◌}
use mathlib.Core.Path.{◌≡◌, refl, sym, ap, ap₂, subst, ◌∙◌}
use mathlib.Core.Logic.{inr}
use Prim.Native.Nat.{ℕ, zero, suc, pred, ◌+◌, ◌*◌, ◌≤◌, ◌<◌}
use native.Mathlib.Nat.{le_refl}
use native.Mathlib.Decide.{ℕ_discrete}
use native.Mathlib.Omega.{arith}
use lib.Dec.{eqb}
use lib.ListN.{length, get_or, set, replicate, length-set}
use lib.Seq.{get_or-set_same, get_or-set_other}
use Rattle.laws.specs.Loops.{tabFrom, tab}
use Rattle.kernels.specs.Write.{write_words}
use Rattle.kernels.proofs.Write.{length_write, write_in, write_out}
use Rattle.theory.specs.Table.{SetPlace, free_rule, free_set, unexpanded}
use Rattle.theory.specs.Calls.{new_table}
use Rattle.theory.proofs.FormNew.{pools_in_range_lem}
use Rattle.table.specs.Layout.{sets, mem, sets_in, rules_in, rule_number, cell, state_of, rule_seen, set_seen, view_rules, view_sets}
use Rattle.table.specs.Becomes.{Becomes}
use Rattle.table.proofs.RuleNumbers.{zeros-laid, zeros-seen}
use Rattle.table.proofs.Rows.{BareRow, bare-laid, bare-seen}
use Rattle.changes.specs.Change.{Fits}

-- ---- the same value all through a table

module _ {A : Type 0} where
  from_one : (i n : ℕ) (f : ℕ → A) (v : A) → ((k : ℕ) → i ≤ k → k < i + n → f k ≡ v) → tabFrom i n f ≡ replicate n v
  from_one i zero f v h = refl
  from_one i (suc n) f v h = ap₂ (λ x l. x ∷ l) (h i (le_refl i) (omega arith)) (from_one (suc i) n f v (λ k a b. h k (omega arith) (omega arith)))

first_and_rest : (s : ℕ) (f : ℕ → SetPlace) (u v : SetPlace) → 1 ≤ s → f 0 ≡ u → ((k : ℕ) → 1 ≤ k → k < s → f k ≡ v) → tab s f ≡ u ∷ replicate (pred s) v
first_and_rest zero f u v l e h = absurd (omega arith)
first_and_rest (suc s) f u v l e h = ap₂ (λ x t. x ∷ t) e (from_one 1 s f v (λ k a b. h k a (omega arith)))

-- ---- as the code writes them

module _ (rs c w : List ℕ) (s r : ℕ) (fits : Fits (mem rs c w) s r) where
  abbrev newRules : List ℕ
  newRules = set (set (write_words rs 0 (λ k. 0) (2 + r * 10)) 0 s) 1 r

  abbrev newCells : List ℕ
  newCells = set (write_words c 0 (λ k. 0) (s * 128)) 0 1

  abbrev newWords : List ℕ
  newWords = write_words w 0 (λ k. 0) (s * 18)

  long-rules : length (write_words rs 0 (λ k. 0) (2 + r * 10)) ≡ length rs
  long-rules = length_write rs 0 (λ k. 0) (2 + r * 10)

  long-cells : length (write_words c 0 (λ k. 0) (s * 128)) ≡ length c
  long-cells = length_write c 0 (λ k. 0) (s * 128)

  limits : (1 ≤ s) × (s ≤ 255) × (1 ≤ r) × (r ≤ 128)
  limits = (pools_in_range_lem s r).0 fits.in_range

  is-sets : sets_in newRules ≡ s
  is-sets =
      let h = fits.rules in
      get_or-set_other (set (write_words rs 0 (λ k. 0) (2 + r * 10)) 0 s) 1 0 r 0 (λ e. omega arith)
      ∙ get_or-set_same (write_words rs 0 (λ k. 0) (2 + r * 10)) 0 s 0 (omega (arith, long-rules))

  is-rules : rules_in newRules ≡ r
  is-rules =
      let h = fits.rules in
      get_or-set_same (set (write_words rs 0 (λ k. 0) (2 + r * 10)) 0 s) 1 r 0 (omega (arith, long-rules, length-set (write_words rs 0 (λ k. 0) (2 + r * 10)) 0 s))

  rest-rules : (k : ℕ) → 2 ≤ k → get_or newRules k 0 ≡ get_or (write_words rs 0 (λ k. 0) (2 + r * 10)) k 0
  rest-rules k l =
      get_or-set_other (set (write_words rs 0 (λ k. 0) (2 + r * 10)) 0 s) 1 k r 0 (λ e. omega arith)
      ∙ get_or-set_other (write_words rs 0 (λ k. 0) (2 + r * 10)) 0 k s 0 (λ e. omega arith)

  zero-at : (xs : List ℕ) (n k : ℕ) → n ≤ length xs → k < n → get_or (write_words xs 0 (λ k. 0) n) k 0 ≡ 0
  zero-at xs n k h l = let e : 0 + k ≡ k = omega arith in subst (λ j. get_or (write_words xs 0 (λ k. 0) n) j 0 ≡ 0) e (write_in xs 0 (λ k. 0) n k l (omega arith))

  zero-rule : (j k : ℕ) → j < r → k < 10 → rule_number newRules j k ≡ 0
  zero-rule j k l h = rest-rules (2 + j * 10 + k) (omega arith) ∙ zero-at rs (2 + r * 10) (2 + j * 10 + k) fits.rules (omega arith)

  mark₀ : cell (sets newCells newWords) 0 0 ≡ 1
  mark₀ = let h = fits.cells in let (g, z, y, x) = limits in get_or-set_same (write_words c 0 (λ k. 0) (s * 128)) 0 1 0 (omega (arith, long-cells))

  zero-cell : (k : ℕ) → 1 ≤ k → k < s * 128 → get_or newCells k 0 ≡ 0
  zero-cell k p l = get_or-set_other (write_words c 0 (λ k. 0) (s * 128)) 0 k 1 0 (λ e. omega arith) ∙ zero-at c (s * 128) k fits.cells l

  zero_word : (j k : ℕ) → j < s → k < 18 → get_or newWords (j * 18 + k) 0 ≡ 0
  zero_word j k l h = zero-at w (s * 18) (j * 18 + k) fits.words (omega arith)

  bare : (j : ℕ) → j < s → BareRow j (sets newCells newWords)
  bare j l = record { cell = λ k p q. zero-cell (j * 128 + k) (omega arith) (omega arith); word = λ k h. zero_word j k l h }

  new-becomes : Becomes (mem rs c w) (mem newRules newCells newWords) (new_table s r)
  new-becomes =
      let x = sets newCells newWords in
      let es = is-sets in
      let er = is-rules in
      let (f₁, f₂, f₃, f₄) = limits in
      record {
        laid = record {
          sized = record {
            some_sets = omega arith;
            few_sets = omega arith;
            some_rules = omega arith;
            few_rules = omega arith;
            rules = let h = fits.rules in omega (arith, long-rules, length-set (set (write_words rs 0 (λ k. 0) (2 + r * 10)) 0 s) 1 r, length-set (write_words rs 0 (λ k. 0) (2 + r * 10)) 0 s);
            cells = let h = fits.cells in omega (arith, long-cells, length-set (write_words c 0 (λ k. 0) (s * 128)) 0 1);
            words = let h = fits.words in omega (arith, length_write w 0 (λ k. 0) (s * 18));
          };
          each_rule = λ j l. zeros-laid newRules j (λ k h. zero-rule j k (omega arith) h);
          each_set = λ j l. bare-laid (bare j (omega arith)) (rules_in newRules) (small j (omega arith));
        };
        seen = λ i. record { rules = rules-new i; sets = sets-new i };
        rules = λ k l. rest-rules k (omega arith) ∙ write_out rs 0 (λ k. 0) (2 + r * 10) k (inr (omega arith));
        cells = λ k l. get_or-set_other (write_words c 0 (λ k. 0) (s * 128)) 0 k 1 0 (λ e. omega arith) ∙ write_out c 0 (λ k. 0) (s * 128) k (inr (omega arith));
        words = λ k l. write_out w 0 (λ k. 0) (s * 18) k (inr (omega arith));
      }
    where
      small : (j : ℕ) → j < s → cell (sets newCells newWords) j 0 < 2
      small j l = elim (ℕ_discrete j 0) [
        | yes e ↦ subst (λ j. cell (sets newCells newWords) j 0 < 2) (sym e) (let m = mark₀ in omega arith)
        | no d ↦ let z : cell (sets newCells newWords) j 0 ≡ 0 = zero-cell (j * 128 + 0) (omega arith) (omega arith) in omega arith
      ]

      rules-new : view_rules newRules ≡ replicate r free_rule
      rules-new = ap (λ n. tab n (rule_seen newRules)) is-rules ∙ from_one 0 r (rule_seen newRules) free_rule (λ j a b. zeros-seen newRules j (λ k h. zero-rule j k (omega arith) h))

      sets-new : view_sets (sets_in newRules) (rules_in newRules) (sets newCells newWords) ≡ unexpanded [] ∷ replicate (pred s) free_set
      sets-new =
          let x = sets newCells newWords in
          let (some, z, y, few) = limits in
          let seen : (j mark : ℕ) → j < s → cell x j 0 ≡ mark → set_seen r x j ≡ record { state = state_of mark; kernel = []; transitions = []; reductions = []; accepts = eqb mark 3 } =
          λ j mark l e. bare-seen (bare j l) r mark few e in
          ap₂ (λ (i n : ℕ). view_sets i n x) is-sets is-rules
          ∙ first_and_rest s (set_seen r x) (unexpanded []) free_set some (seen 0 1 some mark₀)
          (λ j p l. seen j 0 l (zero-cell (j * 128 + 0) (omega arith) (omega arith)))

pub new-made : (rs c w r₁ c₁ w₁ : List ℕ) (s r : ℕ) → Fits (mem rs c w) s r
    → r₁ ≡ write_words rs 0 (λ k. 0) (2 + r * 10) → c₁ ≡ write_words c 0 (λ k. 0) (s * 128) → w₁ ≡ write_words w 0 (λ k. 0) (s * 18)
    → Becomes (mem rs c w) (mem (set (set r₁ 0 s) 1 r) (set c₁ 0 1) w₁) (new_table s r)
new-made rs c w r₁ c₁ w₁ s r fits a b d =
    subst (λ n. Becomes (mem rs c w) n (new_table s r)) (λ i. mem (set (set (sym a i) 0 s) 1 r) (set (sym b i) 0 1) (sym d i)) (new-becomes rs c w s r fits)
