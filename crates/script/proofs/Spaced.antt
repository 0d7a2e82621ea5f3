-- Numbers after single spaces: a text is read as them in one way only, and one at a time. Assumes nothing.
use mathlib.Core.Bool.{false}
use mathlib.Core.Path.{◌≡◌, refl, sym, ap, ap₂, ◌∙◌, subst}
use mathlib.Core.Logic.{⊎_elim}
use mathlib.Core.List.Memᴰ
use mathlib.Core.List.Memᴰ.{head as here}
use mathlib.Core.List.Memᴰ.{tail as there}
use mathlib.Core.List.{List, [], ◌∷◌, ◌++◌, append_assoc, append-nil, tail-eq_of_cons-eq, Memᴰ as In}
use Rattle.std.specs.Prelude.{Option, Some, None}
use Prim.Native.Nat.{ℕ, ◌+◌, ◌≤◌, ◌<◌}
use native.Mathlib.Numerals.{add-one}
use native.Mathlib.Omega.{arith}
use lib.ListN.{length, get_or, take, drop, set}
use lib.Seq.{take-suc-set}
use Rattle.laws.specs.Choice.{◌and◌}
use Rattle.text.specs.Text.{SPACE, NEWLINE, is_digit, decimal, spaced}
use Rattle.script.specs.Written.{AtLineEnd, Numbered, Starts}
use Rattle.script.specs.Reading.{NumberIs, NumberAt, LineEndIs, LineEndAt, NumbersAt}
use Rattle.script.specs.declared.cursor.Cursor.{Cursor}
use Rattle.text.proofs.Decimal.{apart_one}

-- ---- the first number

pub starts-one : {t : List ℕ} {m n : ℕ} {r s : List ℕ} → Starts t m r → Starts t n s → (m ≡ n) × (r ≡ s)
starts-one {m = m} {n} {r} {s} a b = apart_one m n r s a.small b.small a.ends b.ends (tail-eq_of_cons-eq (sym a.is ∙ b.is))

-- what is at a line's end starts with no digit and no space
no_digit-ends : (t : List ℕ) → AtLineEnd t → is_digit (get_or t 0 0) ≡ false
unfolding is_digit ◌and◌
no_digit-ends [] e = refl
no_digit-ends (b ∷ t) e = ap is_digit e

no_space_ends : {t r : List ℕ} → t ≡ SPACE ∷ r → AtLineEnd t → ⊥
no_space_ends e h = omega (arith, h, ap (λ l. get_or l 0 NEWLINE) e)

spaced-ends : (ns rest : List ℕ) → AtLineEnd rest → is_digit (get_or (spaced ns ++ rest) 0 0) ≡ false
unfolding spaced is_digit ◌and◌
spaced-ends [] rest e = no_digit-ends rest e
spaced-ends (n ∷ ns) rest e = refl

spaced-cons : (n : ℕ) (ns rest : List ℕ) → spaced (n ∷ ns) ++ rest ≡ SPACE ∷ (decimal n ++ (spaced ns ++ rest))
unfolding spaced
spaced-cons n ns rest = append_assoc (SPACE ∷ decimal n) (spaced ns) rest

first-starts : {t : List ℕ} {n : ℕ} {ns rest : List ℕ} → Numbered t (n ∷ ns) rest → Starts t n (spaced ns ++ rest)
first-starts {n = n} {ns} {rest} h = record { is = h.is ∙ spaced-cons n ns rest; small = h.small n (here refl); ends = spaced-ends ns rest h.ends }

others : {t : List ℕ} {n : ℕ} {ns rest : List ℕ} → Numbered t (n ∷ ns) rest → Numbered (spaced ns ++ rest) ns rest
others h = record { is = refl; small = λ k m. h.small k (there m); ends = h.ends }

-- ---- all of them

-- no number is left exactly at the line's end
none-ends : {t rest : List ℕ} → Numbered t [] rest → AtLineEnd t
unfolding spaced
none-ends h = subst AtLineEnd (sym h.is) h.ends

some_goes_on : {t : List ℕ} {n : ℕ} {ns rest : List ℕ} → Numbered t (n ∷ ns) rest → AtLineEnd t → ⊥
some_goes_on {n = n} {ns} {rest} h = no_space_ends (h.is ∙ spaced-cons n ns rest)

-- a text is read as numbers up to the line's end in one way only
pub numbered-one : (ms ns : List ℕ) {t r s : List ℕ} → Numbered t ms r → Numbered t ns s → (ms ≡ ns) × (r ≡ s)
unfolding spaced
numbered-one [] [] a b = (refl, sym a.is ∙ b.is)
numbered-one [] (n ∷ ns) a b = absurd (some_goes_on b (none-ends a))
numbered-one (m ∷ ms) [] a b = absurd (some_goes_on a (none-ends b))
numbered-one (m ∷ ms) (n ∷ ns) {r} a b =
    let (e, f) = starts-one (first-starts a) (first-starts b) in
    let (g, h) = numbered-one ms ns (subst (λ t. Numbered t ms r) f (others a)) (others b) in
    (ap₂ (λ x l. x ∷ l) e g, h)

-- ---- one at a time: n of them are read up to `at`, and are in the buffer

spaced_snoc : (ms : List ℕ) (n : ℕ) → spaced (ms ++ (n ∷ [])) ≡ spaced ms ++ (SPACE ∷ decimal n)
unfolding spaced
spaced_snoc [] n = append-nil (SPACE ∷ decimal n)
spaced_snoc (m ∷ ms) n = ap (λ l. SPACE ∷ (decimal m ++ l)) (spaced_snoc ms n) ∙ sym (append_assoc (SPACE ∷ decimal m) (spaced ms) (SPACE ∷ decimal n))

pub record Passed (line : List ℕ) (start at : ℕ) (out : List ℕ) (n : ℕ) : Type 0 where
  pub is : drop start line ≡ spaced (take n out) ++ drop at line
  pub small : (k : ℕ) → In k (take n out) → k ≤ 9999
  -- whatever numbers the whole text is read as, n of them are passed
  pub only : (ns rest : List ℕ) → Numbered (drop start line) ns rest → (ms : List ℕ) × Numbered (drop at line) ms rest × (length ns ≡ n + length ms)

pub passed_none : (line : List ℕ) (start : ℕ) (out : List ℕ) → Passed line start start out 0
unfolding spaced
passed_none line start out = record { is = refl; small = λ k m. absurd (Memᴰ.not-nil m); only = λ ns rest h. (ns, h, omega arith) }

module _ {line : List ℕ} {start at : ℕ} {out : List ℕ} {n : ℕ} (p : Passed line start at out n) where
  pub passed-more : {x : ℕ} {after : Cursor} → n < length out → NumberIs line at x after → Passed line start after.at (set out n x) (n + 1)
  unfolding spaced
  passed-more {x} {after} l r =
      let e : take (n + 1) (set out n x) ≡ take n out ++ (x ∷ []) = ap (λ k. take k (set out n x)) (add-one n) ∙ take-suc-set out n x l in
      record {
        is = p.is ∙ ap (λ t. spaced (take n out) ++ t) r.starts.is ∙ sym (append_assoc (spaced (take n out)) (SPACE ∷ decimal x) (drop after.at line))
            ∙ ap (λ t. t ++ drop after.at line) (sym (spaced_snoc (take n out) x) ∙ ap spaced (sym e));
        small = λ k m. ⊎_elim (p.small k) (λ q. subst (λ j. j ≤ 9999) (sym (Memᴰ.eq_of_singleton q)) r.starts.small) (Memᴰ.append_cases (take n out) (subst (λ l. In k l) e m));
        only = λ ns rest h. let (ms, q, s) = p.only ns rest h in next ms q s;
      }
    where
      next : {k : ℕ} {rest : List ℕ} (ms : List ℕ) → Numbered (drop at line) ms rest → k ≡ n + length ms
          → (ms : List ℕ) × Numbered (drop after.at line) ms rest × (k ≡ n + 1 + length ms)
      next [] q s = absurd (no_space_ends r.starts.is (none-ends q))
      next {rest = rest} (m ∷ ms) q s =
          let (e, f) = starts-one (first-starts q) r.starts in
          (ms, subst (λ t. Numbered t ms rest) f (others q), omega arith)

  -- the loop's ways out: at the line's end, at a number that there is no room for, and at what is no number
  pub passed-end : {after : Cursor} → n ≤ length out → LineEndIs line at after → NumbersAt line start out (Some (n, after))
  unfolding NumbersAt
  passed-end l e = record { room = l; rest = drop at line; numbered = record { is = p.is; small = p.small; ends = e.ends }; past = e.past }

  pub passed-all : {after : Cursor} → n ≡ length out → LineEndIs line at after → NumbersAt line start out (Some (length out, after))
  passed-all {after} l e = subst (λ n. NumbersAt line start out (Some (n, after))) l (passed-end (omega arith) e)

  pub passed-full : {r : Option (ℕ × Cursor)} → length out ≤ n → LineEndAt line at None → r ≡ None → NumbersAt line start out r
  unfolding LineEndAt NumbersAt
  passed-full l f e = subst (λ r. NumbersAt line start out r) (sym e) (λ ns rest h k. let (ms, q, s) = p.only ns rest h in some ns ms k q s)
    where
      some : (ns ms : List ℕ) {rest : List ℕ} → length ns ≤ length out → Numbered (drop at line) ms rest → length ns ≡ n + length ms → ⊥
      some ns [] k q s = f (none-ends q)
      some ns (m ∷ ms) k q s = omega arith

  pub passed-stuck : {r : Option (ℕ × Cursor)} → LineEndAt line at None → NumberAt line at None → r ≡ None → NumbersAt line start out r
  unfolding LineEndAt NumberAt NumbersAt
  passed-stuck f g e = subst (λ r. NumbersAt line start out r) (sym e) (λ ns rest h k. let (ms, q, s) = p.only ns rest h in some ms q)
    where
      some : (ms : List ℕ) {rest : List ℕ} → Numbered (drop at line) ms rest → ⊥
      some [] q = f (none-ends q)
      some (m ∷ ms) {rest} q = g m (spaced ms ++ rest) (first-starts q)
