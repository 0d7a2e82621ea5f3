-- A part of a list written anew: what stands in it, and what is left alone. Assumes nothing.
use mathlib.Core.Path.{◌≡◌, refl, sym, ap, ◌∙◌}
use mathlib.Core.Logic.{◌⊎◌, inl, inr}
use mathlib.Core.List.{List}
use Prim.Native.Nat.{ℕ, zero, suc, ◌+◌, ◌≤◌, ◌<◌}
use native.Mathlib.Nat.{not-suc-le-zero}
use native.Mathlib.Omega.{arith}
use native.Mathlib.Decide.{ℕ_discrete}
use lib.ListN.{length, get_or, set, length-set}
use lib.Seq.{get_or-set_same, get_or-set_other}
use Rattle.laws.specs.Loops.{up_to}
use Rattle.laws.proofs.Loops.{up_to-more}
use Rattle.kernels.specs.Write.{write_words}

module _ (ws : List ℕ) (at : ℕ) (f : ℕ → ℕ) where
  pub write_none : write_words ws at f 0 ≡ ws
  unfolding write_words up_to
  write_none = refl

  -- a turn of the loop that writes, and its end
  pub write_more : (n : ℕ) {x : List ℕ} → x ≡ write_words ws at f n → set x (at + n) (f n) ≡ write_words ws at f (n + 1)
  unfolding write_words
  write_more n h = ap (λ l. set l (at + n) (f n)) h ∙ sym (up_to-more (λ k l. set l (at + k) (f k)) ws n)

  pub write_end : {x : List ℕ} {i n : ℕ} → i ≡ n → x ≡ write_words ws at f i → x ≡ write_words ws at f n
  write_end e h = h ∙ ap (write_words ws at f) e

  pub length_write : (n : ℕ) → length (write_words ws at f n) ≡ length ws
  unfolding write_words up_to
  length_write zero = refl
  length_write (suc n) = length-set (write_words ws at f n) (at + n) (f n) ∙ length_write n

  pub write_in : (n j : ℕ) → j < n → at + n ≤ length ws → get_or (write_words ws at f n) (at + j) 0 ≡ f j
  unfolding write_words up_to
  write_in zero j l h = absurd (not-suc-le-zero l)
  write_in (suc n) j l h = go (ℕ_discrete j n) (λ m. write_in n j m (omega arith))
    where
      go : Dec (j ≡ n) → (j < n → get_or (write_words ws at f n) (at + j) 0 ≡ f j)
          → get_or (set (write_words ws at f n) (at + n) (f n)) (at + j) 0 ≡ f j
      go (yes e) ih = rw e (get_or-set_same (write_words ws at f n) (at + n) (f n) 0 (omega (arith, length_write n)))
      go (no g) ih = get_or-set_other (write_words ws at f n) (at + n) (at + j) (f n) 0 (omega arith) ∙ ih (omega arith)

  pub write_out : (n p : ℕ) → (p < at) ⊎ (at + n ≤ p) → get_or (write_words ws at f n) p 0 ≡ get_or ws p 0
  unfolding write_words up_to
  write_out zero p h = refl
  write_out (suc n) p (inl h) = get_or-set_other (write_words ws at f n) (at + n) p (f n) 0 (omega arith) ∙ write_out n p (inl h)
  write_out (suc n) p (inr h) =
      get_or-set_other (write_words ws at f n) (at + n) p (f n) 0 (omega arith) ∙ write_out n p (inr (omega arith))
