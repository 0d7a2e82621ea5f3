-- A kernel's set found or made on the slices is the model's `found`. Assumes nothing.
use mathlib.Core.Bool.{true, false}
use mathlib.Core.List.{List, [], ◌∷◌}
use mathlib.Core.Path.{◌≡◌, refl, sym, ap, subst, ◌∙◌}
use mathlib.Core.Logic.{◌≢◌, ◌⊎◌, inl, inr}
use Prim.Native.Nat.{ℕ, ◌+◌, ◌*◌, ◌^◌, ◌≤◌, ◌<◌}
use native.Mathlib.Decide.{ℕ_discrete, dec_lt}
use native.Mathlib.Omega.{arith}
use borrow.Author.Tests.{lt-ltb, le-ltb}
use lib.Dec.{eqb, ltb}
use lib.ListN.{length, get_or, set, length-set}
use lib.Seq.{get_or-set_same, get_or-set_other}
use Rattle.laws.specs.Choice.{when}
use Rattle.laws.proofs.Tables.{length_tab}
use Rattle.laws.proofs.Chosen.{set_tab}
use Rattle.kernels.specs.Kernel.{has}
use Rattle.kernels.proofs.Write.{length_write, write_in, write_out}
use Rattle.kernels.proofs.Kernel.{Words, has_copy, has_write_out}
use Rattle.theory.specs.Table.{Item, SetPlace, free_set, unexpanded, set_at}
use Rattle.theory.specs.Expansion.{Found, found, set_with, lowest_free}
use Rattle.theory.proofs.Sets.{lowest_free_lem}
use Rattle.table.specs.Layout.{Sets, sets, sets_in, rules_in, cell, bit_of}
use Rattle.table.specs.Layout.{state_of, kernel_seen, transitions_seen, reductions_seen, set_seen, view_sets}
use Rattle.table.specs.Laid.{LaidSet, Within}
use Rattle.table.proofs.Read.{set_read, state_free}
use Rattle.table.proofs.Rows.{SameRow, row_seen, row_laid, kernel_cong, transitions-none, reductions-none}
use Rattle.collection.specs.Room.{InTables}
use Rattle.lookup.specs.Lookup.{made, kernel_at, LaidSets, SetsBecome, Sought, Asked, Answered}
use Rattle.lookup.proofs.SameKernel.{kernel-set}

-- what is asked of a search
pub asked_sought : {rs : List ℕ} {x : Sets} {key : List ℕ} → Asked rs x key → Sought rs x.words key
asked_sought 𝓐 = record {
  sizes = 𝓐.sizes;
  few_rules = 𝓐.laid.few_rules;
  kernels = record { words = 𝓐.laid.words; each = λ s l. (𝓐.laid.each s l).items };
  key_long = 𝓐.key_long;
  key_within = 𝓐.key_within;
}

-- the lowest free set of the slices is the model's, and stands in the pool; T is the table's size
lowest-is : {S T r : ℕ} (n : ℕ) (x : Sets) → T ≡ S → InTables T x.cells (λ t. lowest_free t.sets) r → r ≡ lowest_free (view_sets S n x)
lowest-is {S} n x e h = h.exact (S ∷ n ∷ []) x.words (sym e)

pub lowest-inside : {S T r : ℕ} {cells : List ℕ} → T ≡ S → InTables T cells (λ t. lowest_free t.sets) r → 1 ≤ S → r < S
lowest-inside {S} {cells = cells} size h some =
    let ss = view_sets S 0 (sets cells []) in
    let e = lowest-is 0 (sets cells []) size h in
    elim (ℕ_discrete (lowest_free ss) 0) [
      | yes z ↦ omega arith
      | no d ↦ omega (arith, (lowest_free_lem ss d).1, length_tab S (set_seen 0 (sets cells [])))
    ]

-- ---- set t made

module _ (S n : ℕ) (x : Sets) (key : List ℕ) (fits : Words key 0) (𝓛 : LaidSets S n x) (within : Within n key 0)
    (t : ℕ) (l : t < S) (free : cell x t 0 ≡ 0) where
  abbrev k : List Item
  k = kernel_seen n key 0

  y : Sets
  y = made t key x

  cells-long : t * 128 + 128 ≤ length x.cells
  cells-long = let a = 𝓛.cells in omega arith

  words_long : t * 18 + 18 ≤ length x.words
  words_long = let a = 𝓛.words in omega arith

  -- its mark is 1, its other cells are as they were
  mark : cell y t 0 ≡ 1
  unfolding y made
  mark = let e : t * 128 ≡ t * 128 + 0 = omega arith in
      subst (λ i. get_or (set x.cells (t * 128) 1) i 0 ≡ 1) e (get_or-set_same x.cells (t * 128) 1 0 (let a = cells-long in omega arith))

  cells-other : (i : ℕ) → i ≢ t * 128 → get_or y.cells i 0 ≡ get_or x.cells i 0
  unfolding y made
  cells-other i d = get_or-set_other x.cells (t * 128) i 1 0 d

  -- its kernel is the key's, its reductions and all other words are as they were
  items : (i : ℕ) → i < 1024 → bit_of y t i ≡ has key 0 i
  unfolding y made
  items i h = has_copy x.words (t * 18) key 0 i h (let a = words_long in omega arith)

  words-other : (i : ℕ) → (i < t * 18) ⊎ (t * 18 + 16 ≤ i) → get_or y.words i 0 ≡ get_or x.words i 0
  unfolding y made
  words-other i h = write_out x.words (t * 18) (λ k. get_or key (0 + k) 0) 16 i h

  bits_other : (i : ℕ) → 1024 ≤ i → bit_of y t i ≡ bit_of x t i
  unfolding y made
  bits_other i h = has_write_out x.words (t * 18) (λ k. get_or key (0 + k) 0) 16 (t * 18) i (inr (omega arith))

  word_in : (j : ℕ) → j < 16 → get_or y.words (t * 18 + j) 0 ≡ get_or key (0 + j) 0
  unfolding y made
  word_in j h = write_in x.words (t * 18) (λ k. get_or key (0 + k) 0) 16 j h (let a = words_long in omega arith)

  row_other : (s : ℕ) → s ≢ t → SameRow s y x
  row_other s d = record {
    cell = λ j h. cells-other (s * 128 + j) (λ e. d (omega arith));
    word = λ j h. words-other (s * 18 + j) (elim (dec_lt s t) [ yes p ↦ inl (omega arith) | no p ↦ inr (omega arith) ]);
  }

  old : LaidSet n x t
  old = 𝓛.each t l

  seen_here : set_seen n y t ≡ unexpanded k
  seen_here =
      let ker : kernel_seen n y.words (t * 18) ≡ k =
      kernel_cong n y.words (t * 18) key 0 (λ i h. items i (let f = 𝓛.few_rules in omega arith)) in
      let ts : transitions_seen y t ≡ [] =
      transitions-none y t (λ j p q. cells-other (t * 128 + j) (λ e. omega arith) ∙ old.bare (omega arith) j p q) in
      let rs : reductions_seen n y t ≡ [] =
      reductions-none n y t
      (λ r h. let f = 𝓛.few_rules in bits_other (1024 + r) (omega arith) ∙ old.idle (omega arith) r (omega arith)) in
      λ i. record { state = state_of (mark i); kernel = ker i; transitions = ts i; reductions = rs i; accepts = eqb (mark i) 3 }

  laid-here : LaidSet n y t
  laid-here = record {
    mark = omega (arith, mark);
    words = λ j h. elim (dec_lt j 16) [
      | yes p ↦ subst (λ w. w < 2 ^ 64) (sym (word_in j p)) (fits j p)
      | no p ↦ subst (λ w. w < 2 ^ 64) (sym (words-other (t * 18 + j) (inr (omega arith)))) (old.words j h)
    ];
    items = λ i g h. items i h ∙ within i g h;
    reductions = λ r g h. bits_other (1024 + r) (omega arith) ∙ old.reductions r g h;
    bare = λ z j p q. cells-other (t * 128 + j) (λ e. omega arith) ∙ old.bare (omega arith) j p q;
    idle = λ z r h. bits_other (1024 + r) (omega arith) ∙ old.idle (omega arith) r h;
    unused = λ z. absurd (omega (arith, mark, z));
  }

  pub made-sets : SetsBecome S n x (made t key x) (set (view_sets S n x) t (unexpanded k))
  unfolding y
  made-sets = record {
    laid = record {
      few_rules = 𝓛.few_rules;
      cells = unfold made in subst (λ q. S * 128 ≤ q) (sym (length-set x.cells (t * 128) 1)) 𝓛.cells;
      words = unfold made in subst (λ q. S * 18 ≤ q) (sym (length_write x.words (t * 18) (λ k. get_or key (0 + k) 0) 16)) 𝓛.words;
      each = λ s h. elim (ℕ_discrete s t) [
        | yes e ↦ subst (λ s. LaidSet n y s) (sym e) laid-here
        | no d ↦ row_laid n s y x (row_other s d) (𝓛.each s h)
      ];
    };
    seen = sym (set_tab S t (set_seen n x) (set_seen n y) (unexpanded k) free_set l seen_here
        (λ j h d. row_seen n j y x 𝓛.few_rules (row_other j d)));
    cells = λ i h. cells-other i (λ e. omega arith);
    words = λ i h. words-other i (inr (omega arith));
  }

-- ---- the answer

module _ (rs : List ℕ) (x : Sets) (key : List ℕ) (fits : Words key 0) (𝓐 : Asked rs x key) where
  abbrev S : ℕ
  S = sets_in rs

  abbrev n : ℕ
  n = rules_in rs

  abbrev ss : List SetPlace
  ss = view_sets S n x

  abbrev wanted : List Item
  wanted = kernel_seen n key 0

  abbrev found-there : Found
  found-there = record { sets = ss; at = set_with ss wanted }

  abbrev found-made : Found
  found-made = record { sets = set ss (lowest_free ss) (unexpanded wanted); at = lowest_free ss }

  is_set : kernel_at S n x.words wanted ≡ set_with ss wanted
  is_set = kernel-set S n x wanted 𝓐.laid 𝓐.some

  pub answer-old : (r : ℕ) → r ≡ kernel_at S n x.words wanted → r ≢ 0 → Answered S n x x wanted r
  unfolding when
  answer-old r e d =
      let o : set_with ss wanted ≡ r = sym (e ∙ is_set) in
      let b : ltb 0 (set_with ss wanted) ≡ true = lt-ltb 0 (set_with ss wanted) (omega arith) in
      let f : found ss wanted ≡ found-there = ap (λ b. when b found-there found-made) b in
      record {
        at = sym o ∙ ap (λ a. a.at) (sym f);
        sets = record { laid = 𝓐.laid; seen = ap (λ a. a.sets) (sym f); cells = λ i h. refl; words = λ i h. refl };
      }

  answer-new : (r : ℕ) → set_with ss wanted ≡ 0 → r ≡ lowest_free ss → Answered S n x (made r key x) wanted r
  unfolding when
  answer-new r o r₁ =
      let b : ltb 0 (set_with ss wanted) ≡ false = le-ltb 0 (set_with ss wanted) (omega arith) in
      let (free, inside) = lowest_free_lem ss (𝓐.room o) in
      let l : r < S = omega (arith, length_tab S (set_seen n x)) in
      let state : state_of (cell x r 0) ≡ 0 = ap (λ p. p.state) (sym (set_read S n x r l)) ∙ ap (λ s. (set_at ss s).state) r₁ ∙ free in
      let f : found ss wanted ≡ found-made = ap (λ b. when b found-there found-made) b in
      let sets_are = ap (λ t. set ss t (unexpanded wanted)) r₁ ∙ ap (λ a. a.sets) (sym f) in
      record {
        at = r₁ ∙ ap (λ a. a.at) (sym f);
        sets = subst (λ ss. SetsBecome S n x (made r key x) ss) sets_are
            (made-sets S n x key fits 𝓐.laid 𝓐.key_within r l (state_free (cell x r 0) state));
      }

  pub answer-made : {o T r : ℕ} {y : Sets} → o ≡ kernel_at S n x.words wanted → o ≡ 0 → T ≡ S
      → InTables T x.cells (λ t. lowest_free t.sets) r → y ≡ made r key x → Answered S n x y wanted r
  answer-made {r = r} e z size q h =
      subst (λ y. Answered S n x y wanted r) (sym h) (answer-new r (sym (e ∙ is_set) ∙ z) (lowest-is n x size q))
