-- What is said of the keys holds of every list that has the same ones. Assumes nothing.
use mathlib.Core.Path.{◌≡◌, sym, ap, subst}
use mathlib.Core.List.{List}
use Prim.Native.Nat.{ℕ, ◌-◌, ◌/◌, ◌%◌, ◌<◌}
use native.Mathlib.Omega.{arith}
use Rattle.leftmost.specs.Within.{Spans}
use Rattle.spans.specs.Area.{key_at, end_at, Place}
use Rattle.spans.specs.Gathered.{First, Ascending, Shows}

pub record SameKeys (a b : List ℕ) (count : ℕ) : Type 0 where
  pub each : (e : ℕ) → e < count → key_at b e ≡ key_at a e

module _ {a b : List ℕ} {count : ℕ} (same : SameKeys a b count) where
  pub other_way : SameKeys b a count
  other_way = record { each = λ e h. sym (same.each e h) }

  pub same-ascending : Ascending a count → Ascending b count
  same-ascending ascending e f h l = omega (arith, ascending e f h l, same.each e (omega arith), same.each f l)

  end_same : (e : ℕ) → e < count → end_at b e ≡ end_at a e
  end_same e h = ap (λ k. k / 65536) (same.each e h)

  pub same_first : {j f : ℕ} → First a count j f → First b count j f
  same_first p = record {
    inside = p.inside;
    before = λ e h. omega (arith, p.before e h, end_same e (omega (arith, p.inside)));
    after = λ e h l. omega (arith, p.after e h l, end_same e l);
  }

  pub same_place_lem : {e x i j : ℕ} → e < count → Place a e x i j → Place b e x i j
  same_place_lem {e} h p =
      let q = same.each e h in
      record { symbol = omega (arith, p.symbol); start = omega (arith, p.start); ends = omega (arith, p.ends) }

  pub same-shows : {S : Spans} → Shows S a count → Shows S b count
  same-shows {S} s = record {
    every = λ x i j h. let (e, l, p) = s.every x i j h in (e, l, same_place_lem l p);
    only = λ e h. subst (λ k. S (k % 256) (255 - k / 256 % 256) (k / 65536)) (sym (same.each e h)) (s.only e h);
  }
