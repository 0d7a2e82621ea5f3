-- What the walks over the numbers list is what `L` prints of the table that they hold. Assumes nothing.
use mathlib.Core.Bool.{false}
use mathlib.Core.Path.{◌≡◌, refl, sym, ap, ap₂, ◌∙◌}
use mathlib.Core.List.{List, [], ◌∷◌, ◌++◌, map}
use Prim.Native.Nat.{ℕ, zero, suc, ◌+◌, ◌*◌, ◌/◌, ◌%◌, ◌≤◌, ◌<◌}
use native.Mathlib.Omega.{arith}
use lib.Dec.{eqb, ltb, leb}
use lib.ListN.{get_or}
use borrow.Author.Tests.{lt-ltb, le-leb}
use Rattle.laws.specs.Choice.{when}
use Rattle.laws.specs.Lists.{joinMap, keep, up_from}
use Rattle.laws.proofs.Tables.{length_tab}
use Rattle.kernels.specs.Kernel.{holds}
use Rattle.kernels.proofs.Kernel.{has_on}
use Rattle.theory.specs.Table.{EXPANDED, Item, SetPlace, item, set_at, all_items}
use Rattle.table.specs.Layout.{Sets, Mem, sets_in, rules_in, state_of, transition, kernel_seen, transitions_seen, reductions_seen, set_seen, view_sets, view}
use Rattle.table.specs.Laid.{LaidSet, Laid}
use Rattle.table.proofs.Read.{set_read}
use Rattle.text.specs.Text.{SPACE, NEWLINE, decimal, spaced}
use Rattle.listing.specs.Printed.{set_text, is_expanded, item_text, transition_text, contents, kernel_text, transitions_text, reductions_text, accept_text, body, listing}
use Rattle.listing.specs.Walk.{listed, used, entry_of, item_of, leads, transition_of, reduction_of, contents_of, expanded_of, body_of}
use Rattle.listing.proofs.Listed.{listed_skip, listed_below, listed_cong, keep_map, join_map}

-- ---- every item, by its number

up_add : (a m n : ℕ) → up_from a (m + n) ≡ up_from a m ++ up_from (a + m) n
up_add a zero n = (λ i. up_from (p i) (q i))
  where
    p : a ≡ a + 0
    p = omega arith

    q : 0 + n ≡ n
    q = omega arith
up_add a (suc m) n =
    let e : suc m + n ≡ suc (m + n) = omega arith in
    let g : suc a + m ≡ a + suc m = omega arith in
    ap (up_from a) e ∙ ap (λ l. a ∷ l) (up_add (suc a) m n ∙ ap (λ x. up_from (suc a) m ++ up_from x n) g)

abbrev item_at : ℕ → Item
item_at k = item (k / 8) (k % 8)

item-at : (r d : ℕ) → d < 8 → item_at (r * 8 + d) ≡ item r d
item-at r d l =
    let e : (r * 8 + d) / 8 ≡ r = omega arith in
    let f : (r * 8 + d) % 8 ≡ d = omega arith in
    λ i. item (e i) (f i)

map-append : (f : ℕ → Item) (l m : List ℕ) → map f (l ++ m) ≡ map f l ++ map f m
map-append f [] m = refl
map-append f (x ∷ l) m = ap (λ r. f x ∷ r) (map-append f l m)

-- the items of rule r
map-rule : (r d n : ℕ) → d + n ≤ 8 → map item_at (up_from (r * 8 + d) n) ≡ map (item r) (up_from d n)
map-rule r d zero l = refl
map-rule r d (suc n) l =
    let e : suc (r * 8 + d) ≡ r * 8 + suc d = omega arith in
    ap₂ (λ x l. x ∷ l) (item-at r d (omega arith)) (ap (λ k. map item_at (up_from k n)) e ∙ map-rule r (suc d) n (omega arith))

all_from : (r n : ℕ) → joinMap (λ r. map (item r) (up_from 0 8)) (up_from r n) ≡ map item_at (up_from (r * 8) (n * 8))
all_from r zero = refl
all_from r (suc n) =
    let e : 8 + n * 8 ≡ suc n * 8 = omega arith in
    let f : suc r * 8 ≡ r * 8 + 8 = omega arith in
    let g : r * 8 + 0 ≡ r * 8 = omega arith in
    ap₂ (λ a b. a ++ b) (sym (map-rule r 0 8 (omega arith)) ∙ ap (λ k. map item_at (up_from k 8)) g) (all_from (suc r) n ∙ ap (λ k. map item_at (up_from k (n * 8))) f)
    ∙ sym (map-append item_at (up_from (r * 8) 8) (up_from (r * 8 + 8) (n * 8)))
    ∙ ap (map item_at) (sym (up_add (r * 8) 8 (n * 8)) ∙ ap (up_from (r * 8)) e)

all-items : (n : ℕ) → all_items n ≡ map item_at (up_from 0 (n * 8))
all-items n = all_from 0 n

-- ---- the parts of a set

no_bit : {x : ℕ} → x ≡ 0 → eqb x 1 ≡ false
no_bit e = ap (λ x. eqb x 1) e

transitions-listed : (x : Sets) (s : ℕ) → listed (leads x.cells s) (transition_of x.cells s) 1 128 ≡ joinMap transition_text (transitions_seen x s)
unfolding listed transition_of transitions_seen
transitions-listed x s = sym (join_map (λ k. transition k (get_or x.cells (s * 128 + k) 0)) transition_text (keep (leads x.cells s) (up_from 1 127)))

module _ {n : ℕ} {x : Sets} {s : ℕ} (few : n ≤ 128) (l : LaidSet n x s) where
  kernel-listed : listed (holds x.words (s * 18)) item_of 0 1024 ≡ joinMap item_text (kernel_seen n x.words (s * 18))
  unfolding kernel_seen item_of
  kernel-listed =
      let ws = x.words in
      let at = s * 18 in
      let whole : (k : ℕ) → holds ws at (k / 8 * 8 + k % 8) ≡ holds ws at k = λ k. let e : k / 8 * 8 + k % 8 ≡ k = omega arith in ap (holds ws at) e in
      sym (listed_skip (holds ws at) item_of 0 (n * 8) 1024 (omega arith) (omega arith) (λ k g h. no_bit (l.items k g h)))
      ∙ listed_cong (holds ws at) (λ k. holds ws at (k / 8 * 8 + k % 8)) item_of item_of 0 (n * 8) (λ k g h. sym (whole k)) (λ k g h. refl)
      ∙ listed_below (λ k. holds ws at (k / 8 * 8 + k % 8)) item_of (n * 8)
      ∙ sym (join_map item_at item_text (keep (λ k. holds ws at (k / 8 * 8 + k % 8)) (up_from 0 (n * 8))))
      ∙ ap (joinMap item_text) (sym (keep_map item_at (λ i. holds ws at (i.rule * 8 + i.dot)) (up_from 0 (n * 8))) ∙ ap (keep (λ i. holds ws at (i.rule * 8 + i.dot))) (sym (all-items n)))

  reductions-listed : listed (holds x.words (s * 18 + 16)) reduction_of 0 128 ≡ spaced (reductions_seen n x s)
  unfolding spaced reductions_seen reduction_of
  reductions-listed =
      let ws = x.words in
      let at = s * 18 in
      let same : (r : ℕ) → holds ws (at + 16) r ≡ holds ws at (1024 + r) = λ r. ap (λ b. eqb b 1) (has_on ws at 16 r) in
      listed_cong (holds ws (at + 16)) (λ r. holds ws at (1024 + r)) reduction_of reduction_of 0 128 (λ r g h. same r) (λ r g h. refl)
      ∙ sym (listed_skip (λ r. holds ws at (1024 + r)) reduction_of 0 n 128 (omega arith) few (λ r g h. no_bit (l.reductions r g h)))
      ∙ listed_below (λ r. holds ws at (1024 + r)) reduction_of n

-- ---- marks

used-state : (m : ℕ) → ltb 0 m ≡ ltb 0 (state_of m)
used-state zero = refl
used-state (suc zero) = refl
used-state (suc (suc m)) = lt-ltb 0 (suc (suc m)) (omega arith)

expanded-state : (m : ℕ) → leb 2 m ≡ eqb (state_of m) EXPANDED
expanded-state zero = refl
expanded-state (suc zero) = refl
expanded-state (suc (suc m)) = le-leb 2 (suc (suc m)) (omega arith)

-- ---- a set's body

body_of-place : {n : ℕ} {x : Sets} {s : ℕ} (p : SetPlace) → n ≤ 128 → LaidSet n x s → p ≡ set_seen n x s → body_of x.cells x.words s
    ≡ 83 ∷ SPACE ∷ (decimal s ++ (kernel_text p.kernel
    ++ (when (is_expanded p) (transitions_text p.transitions ++ (reductions_text p.reductions ++ accept_text p.accepts)) [] ++ (NEWLINE ∷ []))))
unfolding body_of expanded_of kernel_text transitions_text reductions_text
body_of-place {n} {x} {s} p few l e =
    let k : listed (holds x.words (s * 18)) item_of 0 1024 ≡ joinMap item_text p.kernel = kernel-listed few l ∙ ap (λ p. joinMap item_text p.kernel) (sym e) in
    let t : listed (leads x.cells s) (transition_of x.cells s) 1 128 ≡ joinMap transition_text p.transitions = transitions-listed x s ∙ ap (λ p. joinMap transition_text p.transitions) (sym e) in
    let r : listed (holds x.words (s * 18 + 16)) reduction_of 0 128 ≡ spaced p.reductions = reductions-listed few l ∙ ap (λ p. spaced p.reductions) (sym e) in
    let a : eqb (get_or x.cells (s * 128 + 0) 0) 3 ≡ p.accepts = ap (λ p. p.accepts) (sym e) in
    let m : leb 2 (get_or x.cells (s * 128 + 0) 0) ≡ is_expanded p = expanded-state (get_or x.cells (s * 128 + 0) 0) ∙ ap is_expanded (sym e) in
    λ i. 83 ∷ SPACE ∷ (decimal s ++ (SPACE ∷ 75 ∷ (k i
    ++ (when (m i) (SPACE ∷ 84 ∷ (t i ++ (SPACE ∷ 82 ∷ (r i ++ accept_text (a i))))) [] ++ (NEWLINE ∷ [])))))

pub body-seen : (m : Mem) (s : ℕ) → Laid m → s < sets_in m.rules → body_of m.sets.cells m.sets.words s ≡ body (view m) s
unfolding body
body-seen m s l h =
    body_of-place (set_at (view_sets (sets_in m.rules) (rules_in m.rules) m.sets) s) l.sized.few_rules (l.each_set s h)
    (set_read (sets_in m.rules) (rules_in m.rules) m.sets s h)

-- ---- the contents line

pub contents-seen : (m : Mem) → contents_of m.sets.cells (sets_in m.rules) ≡ contents (view m)
unfolding contents_of contents entry_of
contents-seen m =
    let S = sets_in m.rules in
    let x = m.sets in
    let ss = view_sets S (rules_in m.rules) x in
    let place : (s : ℕ) → s < S → set_at ss s ≡ set_seen (rules_in m.rules) x s = λ s h. set_read S (rules_in m.rules) x s h in
    ap (λ t. 67 ∷ (t ++ (NEWLINE ∷ [])))
    (listed_cong (used x.cells) (λ s. ltb 0 (set_at ss s).state) (entry_of x.cells) (λ s. set_text s (is_expanded (set_at ss s))) 0 S
    (λ s g h. used-state (get_or x.cells (s * 128 + 0) 0) ∙ ap (λ p. ltb 0 p.state) (sym (place s h)))
    (λ s g h. ap (set_text s) (expanded-state (get_or x.cells (s * 128 + 0) 0) ∙ ap is_expanded (sym (place s h))))
    ∙ listed_below (λ s. ltb 0 (set_at ss s).state) (λ s. set_text s (is_expanded (set_at ss s))) S
    ∙ ap (λ k. joinMap (λ s. set_text s (is_expanded (set_at ss s))) (keep (λ s. ltb 0 (set_at ss s).state) (up_from 0 k))) (sym (length_tab S (set_seen (rules_in m.rules) x))))

-- ---- the whole

pub listing-seen : (m : Mem) → contents (view m) ++ listed (used m.sets.cells) (body (view m)) 0 (sets_in m.rules) ≡ listing (view m)
unfolding listing
listing-seen m =
    let S = sets_in m.rules in
    let x = m.sets in
    let ss = view_sets S (rules_in m.rules) x in
    ap (λ l. contents (view m) ++ l)
    (listed_cong (used x.cells) (λ s. ltb 0 (set_at ss s).state) (body (view m)) (body (view m)) 0 S
    (λ s g h. used-state (get_or x.cells (s * 128 + 0) 0) ∙ ap (λ p. ltb 0 p.state) (sym (set_read S (rules_in m.rules) x s h)))
    (λ s g h. refl)
    ∙ listed_below (λ s. ltb 0 (set_at ss s).state) (body (view m)) S
    ∙ ap (λ k. joinMap (body (view m)) (keep (λ s. ltb 0 (set_at ss s).state) (up_from 0 k))) (sym (length_tab S (set_seen (rules_in m.rules) x))))
