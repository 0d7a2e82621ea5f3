-- Set s with its row, its reductions and its mark written is the model's expanded set. Assumes nothing.
use mathlib.Core.Bool.{Bool, true, false}
use mathlib.Core.List.{List}
use mathlib.Core.Path.{◌≡◌, refl, sym, ap, subst, ◌∙◌}
use mathlib.Core.Logic.{◌≢◌, ◌⊎◌, inl, inr}
use Prim.Native.Nat.{ℕ, ◌+◌, ◌*◌, ◌/◌, ◌%◌, ◌^◌, ◌≤◌, ◌<◌}
use native.Mathlib.Decide.{ℕ_discrete, dec_lt}
use native.Mathlib.Omega.{arith}
use lib.Dec.{eqb, leb→le}
use lib.ListN.{length, get_or, set}
use lib.Seq.{get_or-set_same, get_or-set_other}
use Rattle.laws.specs.Choice.{when}
use Rattle.laws.proofs.Tables.{length_tab}
use Rattle.laws.proofs.Chosen.{set_tab}
use Rattle.kernels.specs.Bit.{bit}
use Rattle.kernels.specs.Write.{write_words}
use Rattle.kernels.specs.Kernel.{has}
use Rattle.kernels.proofs.Write.{length_write, write_in, write_out, write_none, write_more}
use Rattle.theory.specs.Table.{EXPANDED, RulePlace, SetPlace, free_set, set_at, target}
use Rattle.theory.specs.Expansion.{closure, symbols, Led, leading, filled, expanded, grown}
use Rattle.theory.proofs.Leading.{lookup, Room}
use Rattle.theory.proofs.Grown.{grown-leads, grown-at}
use Rattle.theory.proofs.FormGrown.{grown-in_form}
use Rattle.table.specs.Layout.{Mem, Sets, sets, sets_in, rules_in, cell, bit_of, state_of, rule_seen, kernel_seen, transitions_seen, reductions_seen, set_seen, view_rules, view}
use Rattle.table.specs.Laid.{LaidSet}
use Rattle.table.proofs.Read.{set_read}
use Rattle.table.proofs.Rows.{SameRow, row_seen, row_laid, kernel_cong}
use Rattle.closure.specs.Walk.{HoldsCompleted}
use Rattle.closure.specs.declared.walks.Completed.{Completed}
use Rattle.closure.proofs.Written.{reductions-within, reductions-written}
use Rattle.lookup.specs.Lookup.{SetsBecome}
use Rattle.expansion.specs.Inner.{items_in, sets_seen, Leadable, led_from, LedTo, full_row, Growable, Grew}
use Rattle.expansion.proofs.Closed.{closed-used, closed-inside, closed_is, closed-ready}
use Rattle.expansion.proofs.RowTransitions.{row-transitions}

-- the code's two stores are the words written
pub fill_end : (s : ℕ) (row reductions cells ws : List ℕ) {cells' : List ℕ} → cells' ≡ write_words cells (s * 128) (λ k. get_or row k 0) 128
    → sets cells' (set (set ws (s * 18 + 16) (get_or reductions 0 0)) (s * 18 + 17) (get_or reductions 1 0)) ≡ full_row s row reductions (sets cells ws)
unfolding full_row
fill_end s row reductions cells ws e = λ i. record { cells = e i; words = two i }
  where
    two : set (set ws (s * 18 + 16) (get_or reductions 0 0)) (s * 18 + 17) (get_or reductions 1 0) ≡ write_words ws (s * 18 + 16) (λ k. get_or reductions k 0) 2
    two =
        let a : s * 18 + 16 ≡ s * 18 + 16 + 0 = omega arith in
        let b : s * 18 + 17 ≡ s * 18 + 16 + 1 = omega arith in
        (λ i. set (set ws (a i) (get_or reductions 0 0)) (b i) (get_or reductions 1 0))
        ∙ write_more ws (s * 18 + 16) (λ k. get_or reductions k 0) 1 (write_more ws (s * 18 + 16) (λ k. get_or reductions k 0) 0 (sym (write_none ws (s * 18 + 16) (λ k. get_or reductions k 0))))

-- the mark of an expanded set
mark-state : (b : Bool) → state_of (when b 3 2) ≡ EXPANDED
unfolding when
mark-state true = refl
mark-state false = refl

mark-accepts : (b : Bool) → eqb (when b 3 2) 3 ≡ b
unfolding when
mark-accepts true = refl
mark-accepts false = refl

mark_range : (b : Bool) → (2 ≤ when b 3 2) × (when b 3 2 ≤ 3)
unfolding when
mark_range true = (omega arith, omega arith)
mark_range false = (omega arith, omega arith)

module _ (m : Mem) (s : ℕ) (c bits : List ℕ) (𝓖 : Growable m s c bits) where
  abbrev rs : List ℕ
  rs = m.rules

  abbrev S : ℕ
  S = sets_in rs

  abbrev n : ℕ
  n = rules_in rs

  abbrev vs : List RulePlace
  vs = view_rules rs

  abbrev ss : List SetPlace
  ss = sets_seen rs m.sets

  few : n ≤ 128
  few = 𝓖.closed.is.formed.laid.sized.few_rules

  inside : s < S
  inside = closed-inside m s 𝓖.closed.is

  closure-is : items_in rs c ≡ closure vs (set_at ss s).kernel
  closure-is = closed_is m s c 𝓖.closed

  pub grow_leads : Leadable rs m.sets c bits
  unfolding Room
  grow_leads = record {
    ready = closed-ready m s c 𝓖.closed;
    symbols = 𝓖.symbols;
    room = subst (λ c. Room vs c (symbols vs c) ss) (sym closure-is) (leb→le _ _ 𝓖.room);
  }

  -- what the model makes
  made : Led
  made = leading vs (closure vs (set_at ss s).kernel) (symbols vs (closure vs (set_at ss s).kernel)) ss

  full : SetPlace
  full = filled vs (set_at ss s).kernel (closure vs (set_at ss s).kernel) made.transitions

  led_is : led_from rs m.sets c ≡ made
  unfolding led_from made
  led_is = ap (λ c. leading vs c (symbols vs c) ss) closure-is

  module _ {x : Sets} {row : List ℕ} (𝓛 : LedTo rs m.sets x c row) {done : Completed} (𝓒 : HoldsCompleted vs (items_in rs c) done)
      {mark : ℕ} (e : mark ≡ when done.accepts 3 2) where
    y : Sets
    y = full_row s (set row 0 mark) done.reductions x

    sets-become : SetsBecome S n m.sets x made.sets
    sets-become = subst (λ (a : Led). SetsBecome S n m.sets x a.sets) led_is 𝓛.sets

    completed : HoldsCompleted vs (closure vs (set_at ss s).kernel) done
    completed = subst (λ c. HoldsCompleted vs c done) closure-is 𝓒

    old : LaidSet n x s
    old = sets-become.laid.each s inside

    cells-long : s * 128 + 128 ≤ length x.cells
    cells-long = let a = sets-become.laid.cells in let l = inside in omega arith

    words_long : s * 18 + 18 ≤ length x.words
    words_long = let a = sets-become.laid.words in let l = inside in omega arith

    -- the set's own cells and words, and all others
    cells_in : (k : ℕ) → k < 128 → cell y s k ≡ get_or (set row 0 mark) k 0
    unfolding y full_row
    cells_in k l = write_in x.cells (s * 128) (λ k. get_or (set row 0 mark) k 0) 128 k l cells-long

    cells_out : (i : ℕ) → (i < s * 128) ⊎ (s * 128 + 128 ≤ i) → get_or y.cells i 0 ≡ get_or x.cells i 0
    unfolding y full_row
    cells_out i h = write_out x.cells (s * 128) (λ k. get_or (set row 0 mark) k 0) 128 i h

    words-in : (k : ℕ) → k < 2 → get_or y.words (s * 18 + 16 + k) 0 ≡ get_or done.reductions k 0
    unfolding y full_row
    words-in k l = write_in x.words (s * 18 + 16) (λ k. get_or done.reductions k 0) 2 k l (let a = words_long in omega arith)

    words-out : (i : ℕ) → (i < s * 18 + 16) ⊎ (s * 18 + 16 + 2 ≤ i) → get_or y.words i 0 ≡ get_or x.words i 0
    unfolding y full_row
    words-out i h = write_out x.words (s * 18 + 16) (λ k. get_or done.reductions k 0) 2 i h

    items : (i : ℕ) → i < 1024 → bit_of y s i ≡ bit_of x s i
    unfolding has
    items i h = ap (λ w. bit w (i % 64)) (words-out (s * 18 + i / 64) (inl (omega arith)))

    reductions : (r : ℕ) → r < 128 → bit_of y s (1024 + r) ≡ has done.reductions 0 r
    unfolding has
    reductions r h =
        let a : s * 18 + (1024 + r) / 64 ≡ s * 18 + 16 + r / 64 = omega arith in
        let b : (1024 + r) % 64 ≡ r % 64 = omega arith in
        let d : r / 64 ≡ 0 + r / 64 = omega arith in
        (λ i. bit (get_or y.words (a i) 0) (b i)) ∙ ap (λ w. bit w (r % 64)) (words-in (r / 64) (omega arith) ∙ ap (λ k. get_or done.reductions k 0) d)

    row_other : (t : ℕ) → t ≢ s → SameRow t y x
    row_other t d = record {
      cell = λ k h. cells_out (t * 128 + k) (elim (dec_lt t s) [ yes p ↦ inl (omega arith) | no p ↦ inr (omega arith) ]);
      word = λ k h. words-out (t * 18 + k) (elim (dec_lt t s) [ yes p ↦ inl (omega arith) | no p ↦ inr (omega arith) ]);
    }

    mark-is : cell y s 0 ≡ when done.accepts 3 2
    mark-is = cells_in 0 (omega arith) ∙ get_or-set_same row 0 mark 0 (omega (arith, 𝓛.long)) ∙ e

    -- its kernel stayed
    kernel-is : kernel_seen n y.words (s * 18) ≡ (set_at ss s).kernel
    unfolding made
    kernel-is =
        kernel_cong n y.words (s * 18) x.words (s * 18) (λ i h. items i (omega (arith, few)))
        ∙ ap (λ p. p.kernel) (sym (set_read S n x s inside)) ∙ ap (λ ss. (set_at ss s).kernel) sets-become.seen
        ∙ ap (λ p. p.kernel) ((grown-leads (view m) 𝓖.closed.is.formed.form s 𝓖.closed.is.bare 𝓖.room).kept.stays s (closed-used m s 𝓖.closed.is))

    -- its transitions are those that were found
    at : set_at (grown (view m) s).table.sets s ≡ full
    unfolding full made
    at = grown-at (view m) 𝓖.closed.is.formed.form s 𝓖.closed.is.bare 𝓖.room

    targets : (k : ℕ) → 1 ≤ k → k < 128 → cell y s k ≡ target (grown (view m) s).table.sets s k
    unfolding lookup full
    targets k p q =
        cells_in k q ∙ get_or-set_other row 0 k mark 0 (λ z. omega arith) ∙ 𝓛.targets k ∙ ap (λ (a : Led). lookup a.transitions k) led_is
        ∙ ap (λ p. lookup p.transitions k) (sym at)

    transitions-are : transitions_seen y s ≡ full.transitions
    unfolding transitions_seen
    transitions-are =
        row-transitions (grown (view m) s).table (grown-in_form (view m) 𝓖.closed.is.formed.form s 𝓖.closed.is.bare 𝓖.room) s (cell y s) targets
        ∙ ap (λ p. p.transitions) at

    seen_here : set_seen n y s ≡ full
    unfolding full
    seen_here =
        let st : state_of (cell y s 0) ≡ EXPANDED = ap state_of mark-is ∙ mark-state done.accepts in
        let ac : eqb (cell y s 0) 3 ≡ full.accepts = ap (λ k. eqb k 3) mark-is ∙ mark-accepts done.accepts ∙ completed.accepts in
        let size : length vs ≡ n = length_tab n (rule_seen rs) in
        let rd : reductions_seen n y s ≡ full.reductions =
        subst (λ n. reductions_seen n y s ≡ full.reductions) size (reductions-written completed y s words-in (omega (arith, few))) in
        λ i. record { state = st i; kernel = kernel-is i; transitions = transitions-are i; reductions = rd i; accepts = ac i }

    module _ (fits : (i : ℕ) → get_or y.words i 0 < 2 ^ 64) where
      laid-here : LaidSet n y s
      laid-here =
          let (low, high) = mark_range done.accepts in
          let z = mark-is in
          record {
            mark = omega arith;
            words = λ k h. fits (s * 18 + k);
            items = λ i g h. items i h ∙ old.items i g h;
            reductions = λ r g h. reductions r h ∙ reductions-within completed r (omega (arith, length_tab n (rule_seen rs)));
            bare = λ q. absurd (omega arith);
            idle = λ q. absurd (omega arith);
            unused = λ q. absurd (omega arith);
          }

      grown-sets : SetsBecome S n m.sets y (set made.sets s full)
      grown-sets = record {
        laid = record {
          few_rules = sets-become.laid.few_rules;
          cells = unfold y in unfold full_row in subst (λ q. S * 128 ≤ q) (sym (length_write x.cells (s * 128) (λ k. get_or (set row 0 mark) k 0) 128)) sets-become.laid.cells;
          words = unfold y in unfold full_row in subst (λ q. S * 18 ≤ q) (sym (length_write x.words (s * 18 + 16) (λ k. get_or done.reductions k 0) 2)) sets-become.laid.words;
          each = λ t h. elim (ℕ_discrete t s) [
            | yes q ↦ subst (λ t. LaidSet n y t) (sym q) laid-here
            | no d ↦ row_laid n t y x (row_other t d) (sets-become.laid.each t h)
          ];
        };
        seen = sym (ap (λ ss. set ss s full) (sym sets-become.seen)
            ∙ set_tab S s (set_seen n x) (set_seen n y) full free_set inside seen_here (λ j h d. row_seen n j y x sets-become.laid.few_rules (row_other j d)));
        cells = λ i h. cells_out i (inr (let l = inside in omega arith)) ∙ sets-become.cells i h;
        words = λ i h. words-out i (inr (let l = inside in omega arith)) ∙ sets-become.words i h;
      }

    -- as the code comes to it
    pub grow-end : {x' : Sets} → x' ≡ full_row s (set row 0 mark) done.reductions x → ((i : ℕ) → get_or x'.words i 0 < 2 ^ 64) → Grew rs m.sets x' s
    unfolding y made full
    grow-end q fits =
        subst (λ (z : Sets). SetsBecome S n m.sets z (expanded vs ss s)) (sym q) (grown-sets (subst (λ (z : Sets). (i : ℕ) → get_or z.words i 0 < 2 ^ 64) q fits))
