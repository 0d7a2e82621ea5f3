-- Texts of numbers that pass, one after the other: a loop's start, turn and end, how long they get, and when two walks list the
-- same. Assumes nothing.
use mathlib.Core.Bool.{Bool, true, false}
use mathlib.Core.Path.{◌≡◌, refl, sym, ap, ap₂, ◌∙◌}
use mathlib.Core.List.Memᴰ.{head as here}
use mathlib.Core.List.Memᴰ.{tail as there}
use mathlib.Core.List.{List, [], ◌∷◌, ◌++◌, map, append_assoc, append-nil, Memᴰ as In}
use Prim.Native.Nat.{ℕ, zero, suc, ◌+◌, ◌-◌, ◌*◌, ◌≤◌, ◌<◌}
use native.Mathlib.Nat.{mul-suc}
use native.Mathlib.Omega.{arith}
use lib.ListN.{length, length-append}
use Rattle.laws.specs.Choice.{when}
use Rattle.laws.specs.Lists.{consIf, joinMap, keep, up_from}
use Rattle.laws.proofs.Choice.{when-cases}
use Rattle.laws.proofs.Lists.{in_keep, in_up}
use Rattle.laws.proofs.Chosen.{keep_cong}
use Rattle.listing.specs.Walk.{listed}

-- ---- lists put together

up_snoc : (a n : ℕ) → up_from a (suc n) ≡ up_from a n ++ ((a + n) ∷ [])
up_snoc a zero = let e : a ≡ a + 0 = omega arith in ap (λ x. x ∷ []) e
up_snoc a (suc n) =
    let e : suc a + n ≡ a + suc n = omega arith in
    ap (λ l. a ∷ l) (up_snoc (suc a) n ∙ ap (λ x. up_from (suc a) n ++ (x ∷ [])) e)

module _ {A : Type 0} where
  keep_append : (p : A → Bool) (l m : List A) → keep p (l ++ m) ≡ keep p l ++ keep p m
  unfolding when
  keep_append p [] m = refl
  keep_append p (x ∷ l) m = go (p x) (keep_append p l m)
    where
      go : (b : Bool) → keep p (l ++ m) ≡ keep p l ++ keep p m → consIf b x (keep p (l ++ m)) ≡ consIf b x (keep p l) ++ keep p m
      go true e = ap (λ r. x ∷ r) e
      go false e = e

module _ {A B : Type 0} where
  join_append : (f : A → List B) (l m : List A) → joinMap f (l ++ m) ≡ joinMap f l ++ joinMap f m
  join_append f [] m = refl
  join_append f (x ∷ l) m = ap (λ r. f x ++ r) (join_append f l m) ∙ sym (append_assoc (f x) (joinMap f l) (joinMap f m))

  pub join_cong : (f g : A → List B) (l : List A) → ((x : A) → In x l → f x ≡ g x) → joinMap f l ≡ joinMap g l
  join_cong f g [] h = refl
  join_cong f g (x ∷ l) h = ap₂ (λ a b. a ++ b) (h x (here refl)) (join_cong f g l (λ y m. h y (there m)))

-- ---- a walk

module _ (p : ℕ → Bool) (f : ℕ → List ℕ) (a : ℕ) where
  pub listed-none : listed p f a a ≡ []
  unfolding listed
  listed-none = let e : a - a ≡ 0 = omega arith in ap (λ n. joinMap f (keep p (up_from a n))) e

  pub listed_turn : (b : ℕ) → a ≤ b → listed p f a (b + 1) ≡ listed p f a b ++ when (p b) (f b) []
  unfolding listed when
  listed_turn b l =
      let e : b + 1 - a ≡ suc (b - a) = omega arith in
      let g : a + (b - a) ≡ b = omega arith in
      ap (λ n. joinMap f (keep p (up_from a n))) e ∙ ap (λ l. joinMap f (keep p l)) (up_snoc a (b - a) ∙ ap (λ x. up_from a (b - a) ++ (x ∷ [])) g)
      ∙ ap (joinMap f) (keep_append p (up_from a (b - a)) (b ∷ [])) ∙ join_append f (keep p (up_from a (b - a))) (keep p (b ∷ []))
      ∙ ap (λ l. joinMap f (keep p (up_from a (b - a))) ++ l) (go (p b))
    where
      go : (t : Bool) → joinMap f (consIf t b []) ≡ when t (f b) []
      go true = append-nil (f b)
      go false = refl

  pub listed_yes : {b : ℕ} → a ≤ b → p b ≡ true → listed p f a b ++ f b ≡ listed p f a (b + 1)
  unfolding when
  listed_yes {b} l e = ap (λ t. listed p f a b ++ when t (f b) []) (sym e) ∙ sym (listed_turn b l)

  pub listed_no : {b : ℕ} → a ≤ b → p b ≡ false → listed p f a b ≡ listed p f a (b + 1)
  unfolding when
  listed_no {b} l e = sym (append-nil (listed p f a b)) ∙ ap (λ t. listed p f a b ++ when t (f b) []) (sym e) ∙ sym (listed_turn b l)

  -- over numbers of which none passes
  pub listed_skip : (b c : ℕ) → a ≤ b → b ≤ c → ((k : ℕ) → b ≤ k → k < c → p k ≡ false) → listed p f a b ≡ listed p f a c
  listed_skip b c l m none = let e : b + (c - b) ≡ c = omega arith in go (c - b) (λ k g h. none k g (omega arith)) ∙ ap (listed p f a) e
    where
      go : (n : ℕ) → ((k : ℕ) → b ≤ k → k < b + n → p k ≡ false) → listed p f a b ≡ listed p f a (b + n)
      go zero h = let e : b ≡ b + 0 = omega arith in ap (listed p f a) e
      go (suc n) h =
          let e : b + n + 1 ≡ b + suc n = omega arith in
          go n (λ k i j. h k i (omega arith)) ∙ listed_no (omega arith) (h (b + n) (omega arith) (omega arith)) ∙ ap (listed p f a) e

  pub listed-length : (m b : ℕ) → a ≤ b → ((k : ℕ) → a ≤ k → k < b → length (f k) ≤ m) → length (listed p f a b) ≤ m * (b - a)
  unfolding listed
  listed-length m b l h = go (b - a) a (λ k i j. h k i (omega arith))
    where
      go : (n i : ℕ) → ((k : ℕ) → i ≤ k → k < i + n → length (f k) ≤ m) → length (joinMap f (keep p (up_from i n))) ≤ m * n
      go zero i g = omega arith
      go (suc n) i g =
          let r : length (joinMap f (keep p (up_from (suc i) n))) ≤ m * n = go n (suc i) (λ k u v. g k (omega arith) (omega arith)) in
          let z : m * suc n ≡ m * n + m = mul-suc m n in
          when-cases (λ (l : List ℕ). length (joinMap f l) ≤ m * suc n) (p i)
          (λ e. omega (arith, length-append (f i) (joinMap f (keep p (up_from (suc i) n))), g i (omega arith) (omega arith)))
          (λ e. omega arith)

pub listed_below : (p : ℕ → Bool) (f : ℕ → List ℕ) (b : ℕ) → listed p f 0 b ≡ joinMap f (keep p (up_from 0 b))
unfolding listed
listed_below p f b = let e : b - 0 ≡ b = omega arith in ap (λ n. joinMap f (keep p (up_from 0 n))) e

-- two walks list the same
pub listed_cong : (p q : ℕ → Bool) (f g : ℕ → List ℕ) (a b : ℕ) → ((k : ℕ) → a ≤ k → k < b → p k ≡ q k) → ((k : ℕ) → a ≤ k → k < b → f k ≡ g k)
    → listed p f a b ≡ listed q g a b
unfolding listed
listed_cong p q f g a b h e =
    ap (joinMap f) (keep_cong p q (up_from a (b - a)) (λ k m. let (u, v) = (in_up a (b - a)).0 m in h k u (omega arith)))
    ∙ join_cong f g (keep q (up_from a (b - a))) (λ k m. let (u, v) = (in_up a (b - a)).0 ((in_keep q (up_from a (b - a))).0 m).0 in e k u (omega arith))

-- ---- lists of other things, numbered

module _ {A : Type 0} where
  pub keep_map : (h : ℕ → A) (p : A → Bool) (l : List ℕ) → keep p (map h l) ≡ map h (keep (λ k. p (h k)) l)
  unfolding when
  keep_map h p [] = refl
  keep_map h p (x ∷ l) = go (p (h x)) (keep_map h p l)
    where
      go : (b : Bool) → keep p (map h l) ≡ map h (keep (λ k. p (h k)) l) → consIf b (h x) (keep p (map h l)) ≡ map h (consIf b x (keep (λ k. p (h k)) l))
      go true e = ap (λ r. h x ∷ r) e
      go false e = e

  pub join_map : (h : ℕ → A) (f : A → List ℕ) (l : List ℕ) → joinMap f (map h l) ≡ joinMap (λ k. f (h k)) l
  join_map h f [] = refl
  join_map h f (x ∷ l) = ap (λ r. f (h x) ++ r) (join_map h f l)
