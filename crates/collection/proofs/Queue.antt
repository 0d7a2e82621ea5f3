-- Sets that are marked and queued: none, one, and many one after the other. Assumes nothing.
use mathlib.Core.Path.{◌≡◌, sym, ap, ◌∙◌, subst}
use mathlib.Core.Logic.{inl, inr, ⊎_elim}
use mathlib.Core.Bool.{Bool, false}
use mathlib.Core.List.{List}
use Prim.Native.Nat.{ℕ, ◌+◌, ◌-◌, ◌*◌, ◌/◌, ◌<◌}
use native.Mathlib.Nat.{le_trans, lt_of_lt_of_le}
use native.Mathlib.Decide.{ℕ_discrete}
use native.Mathlib.Omega.{arith}
use borrow.Author.Tests.{eqb-false}
use lib.ListN.{length, get_or, set, length-set, take, drop}
use lib.Seq.{get_or-set_same, get_or-set_other}
use Rattle.std.proofs.lemmas.List.{get_or-take, get_or-drop, length-take}
use Rattle.kernels.specs.Kernel.{has, holds, put}
use Rattle.kernels.specs.Walk.{how_many}
use Rattle.kernels.proofs.Walk.{many_le, many-put}
use Rattle.kernels.proofs.Kernel.{has_lt, has-put-same, has-put-other}
use Rattle.collection.specs.Reach.{cell_of, Queued, Adds}

-- what the test of a mark says
pub not_marked : {b : Bool} (marks : List ℕ) (t : ℕ) → b ≡ holds marks 0 t → b ≡ false → has marks 0 t ≡ 0
not_marked marks t e h = let d = eqb-false (has marks 0 t) 1 (sym e ∙ h) in omega (arith, has_lt marks 0 t)

-- one that is not marked yet
module _ {t : ℕ} {marks queue : List ℕ} {n : ℕ} (q : Queued marks queue n) (h : has marks 0 t ≡ 0) (low : t < 256) (there : 0 + t / 64 < length marks) where
  many_more : how_many 256 (has (put marks 0 t) 0) ≡ how_many 256 (has marks 0) + 1
  many_more = many-put (has (put marks 0 t) 0) (has marks 0) t 256 low h (has-put-same marks 0 t there) (has-put-other marks 0 t there)

  -- the queue has room for a set that is not in it
  pub new-fits : n < 256
  new-fits = omega (arith, q.once, many_more, many_le 256 (has (put marks 0 t) 0) (has_lt (put marks 0 t) 0))

  -- marks stay
  stays : (s : ℕ) → has marks 0 s ≡ 1 → has (put marks 0 t) 0 s ≡ 1
  stays s m = elim (ℕ_discrete s t) [
    | yes e ↦ ap (has (put marks 0 t) 0) e ∙ has-put-same marks 0 t there
    | no d ↦ has-put-other marks 0 t there s d ∙ m
  ]

  put-adds : n < length queue → Adds 1 (λ k. t) marks queue n (put marks 0 t) (set queue n t) (n + 1)
  put-adds long = record {
    queued = record {
      start = stays 0 q.start;
      room = omega (arith, q.room, length-set queue n t);
      once = omega (arith, q.once, many_more);
      marked = λ j l. elim (ℕ_discrete j n) [
        | yes e ↦ ap (has (put marks 0 t) 0) (ap (λ j. get_or (set queue n t) j 0) e ∙ get_or-set_same queue n t 0 long) ∙ has-put-same marks 0 t there
        | no d ↦ ap (has (put marks 0 t) 0) (get_or-set_other queue n j t 0 d) ∙ stays (get_or queue j 0) (q.marked j (omega arith))
      ];
      listed = λ s m. elim (ℕ_discrete s t) [
        | yes e ↦ (n, omega arith, get_or-set_same queue n t 0 long ∙ sym e)
        | no d ↦ let (j, l, e) = q.listed s (sym (has-put-other marks 0 t there s d) ∙ m) in (j, omega arith, get_or-set_other queue n j t 0 (λ z. omega arith) ∙ e)
      ];
    };
    more = omega arith;
    kept = λ j l. get_or-set_other queue n j t 0 (λ e. omega arith);
    there = λ j l. has-put-same marks 0 t there;
    only = λ s m. elim (ℕ_discrete s t) [ yes e ↦ inr (0, omega arith, sym e) | no d ↦ inl (sym (has-put-other marks 0 t there s d) ∙ m) ];
  }

  pub adds-new : {marks' : List ℕ} → marks' ≡ put marks 0 t → Adds 1 (λ k. t) marks queue n marks' (set queue n t) (n + 1)
  adds-new e = subst (λ m. Adds 1 (λ k. t) marks queue n m (set queue n t) (n + 1)) (sym e) (put-adds (lt_of_lt_of_le new-fits q.room))

-- marks stay
pub adds_keep : {k : ℕ} {f : ℕ → ℕ} {a x b y : List ℕ} {l m : ℕ} → Queued a x l → Adds k f a x l b y m → (s : ℕ) → has a 0 s ≡ 1 → has b 0 s ≡ 1
adds_keep {b = b} q p s h =
    let (j, i, e) = q.listed s h in
    subst (λ s. has b 0 s ≡ 1) (p.kept j i ∙ e) (p.queued.marked j (omega (arith, p.more)))

-- many, and one more behind them
pub adds-next : {k : ℕ} (f : ℕ → ℕ) {a x b y c z : List ℕ} {l m n t : ℕ} → Adds k f a x l b y m → t ≡ f k → Adds 1 (λ j. t) b y m c z n → Adds (k + 1) f a x l c z n
adds-next {k} f {c = c} p e q = record {
  queued = q.queued;
  more = le_trans p.more q.more;
  kept = λ j h. q.kept j (omega (arith, p.more)) ∙ p.kept j h;
  there = λ j h. elim (ℕ_discrete j k) [ yes d ↦ ap (has c 0) (ap f d ∙ sym e) ∙ q.there 0 (omega arith) | no d ↦ adds_keep p.queued q (f j) (p.there j (omega arith)) ];
  only = λ s h. ⊎_elim (λ d. ⊎_elim inl (λ (j, i, d). inr (j, omega arith, d)) (p.only s d)) (λ (j, i, d). inr (k, omega arith, sym e ∙ d)) (q.only s h);
}

-- the targets of set s, as the code cuts them out of its row
pub target-at : (cells : List ℕ) (s k : ℕ) → k < length (take (s * 128 + 128 - (s * 128 + 1)) (drop (s * 128 + 1) cells))
    → get_or (take (s * 128 + 128 - (s * 128 + 1)) (drop (s * 128 + 1) cells)) k 0 ≡ cell_of cells s (k + 1)
target-at cells s k l =
    let n = s * 128 + 128 - (s * 128 + 1) in
    get_or-take n (drop (s * 128 + 1) cells) k 0 (omega (arith, length-take n (drop (s * 128 + 1) cells))) ∙ get_or-drop (s * 128 + 1) cells k 0 ∙ ap (λ p. get_or cells p 0) (omega arith)
