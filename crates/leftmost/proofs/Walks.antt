-- Leftmost derivation of forms, and by places of the line, are the same. Assumes nothing.
use mathlib.Core.Path.{◌≡◌, refl, sym, ◌∙◌, ap, subst}
use mathlib.Core.Logic.{◌↔◌}
use mathlib.Core.List.{List, [], ◌∷◌, ◌++◌, append_assoc, append-nil}
use Prim.Native.Nat.{ℕ, suc, ◌≤◌, ◌<◌}
use native.Mathlib.Omega.{arith}
use lib.Dec.{T}
use lib.ListN.{length, get_or, take, length-append}
use lib.Seq.{take-suc, take-length, get_or-append_seam, get_or-take, length-take-le}
use Rattle.symbols.specs.Symbol.{nonterminal}
use Rattle.theory.specs.Derivation.{Grammar}
use Rattle.leftmost.specs.Leftmost.{Tokens, Leftmost}
use Rattle.leftmost.specs.Leftmost.Leftmost.{none, step}
use Rattle.leftmost.specs.Within.{Spans, Spells}
use Rattle.leftmost.specs.Within.Spells.{stop, token, apply}
use Rattle.leftmost.proofs.Parts.{not_both, split}

-- the left symbols of current rules are non-terminals, as they are on every made table
pub record Lefts (G : Grammar) : Type 0 where
  pub of : (r : ℕ) → T (G.current r) → T (nonterminal (G.left r))

-- every span of a non-terminal
abbrev pub Any : Spans
Any x i j = T (nonterminal x)

-- ---- from places to forms

leftmost_on : {G : Grammar} {f g w rs qs : List ℕ} → Leftmost G f rs g → Leftmost G g qs w → Leftmost G f (rs ++ qs) w
leftmost_on none d = d
leftmost_on (step before after r t c e a) d = step before after r t c e (leftmost_on a d)

tokens-take : (line : List ℕ) → Tokens line → (i : ℕ) → i ≤ length line → Tokens (take i line)
tokens-take line t i h k l =
    let m : k < i = omega (arith, length-take-le i line h) in
    rw (get_or-take i line k 0 m) (t k (omega arith))

module _ {G : Grammar} {line : List ℕ} {S : Spans} where
  inside : {xs rs : List ℕ} {i j : ℕ} → Spells G line S xs i j rs → i ≤ length line → j ≤ length line
  inside stop h = h
  inside (token t k e s) h = inside s k
  inside (apply r c l z d s e) h = inside s (inside d h)

  forms : Tokens line → {xs rs : List ℕ} {i j : ℕ} → Spells G line S xs i j rs → i ≤ length line
      → (rest : List ℕ) → Leftmost G (take i line ++ (xs ++ rest)) rs (take j line ++ rest)
  forms t stop h rest = none
  forms t (token {x = x} {i = i} {j = j} {xs = xs} {rs = rs} c k e s) h rest =
      let q : take (suc i) line ++ (xs ++ rest) ≡ take i line ++ (x ∷ (xs ++ rest)) =
      ap (λ l. l ++ (xs ++ rest)) (take-suc line i 0 k) ∙ append_assoc (take i line) (get_or line i 0 ∷ []) (xs ++ rest)
      ∙ ap (λ y. take i line ++ (y ∷ (xs ++ rest))) e in
      subst (λ f. Leftmost G f rs (take j line ++ rest)) q (forms t s k rest)
  forms t (apply {x = x} {i = i} {j = j} {xs = xs} {rs = rs} r c l z d s e) h rest =
      step (take i line) (xs ++ rest) r (tokens-take line t i h) c (ap (λ y. take i line ++ (y ∷ (xs ++ rest))) l)
      (subst (λ ps. Leftmost G (take i line ++ (G.right r ++ (xs ++ rest))) ps (take j line ++ rest)) e
      (leftmost_on (forms t d h (xs ++ rest)) (forms t s (inside d h) rest)))

  -- what is spelled within any spans is a leftmost derivation
  pub spells_leftmost : Tokens line → (xs rs : List ℕ) → Spells G line S xs 0 (length line) rs → Leftmost G xs rs line
  spells_leftmost t xs rs s =
      subst (λ w. Leftmost G xs rs w) (append-nil (take (length line) line) ∙ take-length line)
      (subst (λ f. Leftmost G f rs (take (length line) line ++ [])) (append-nil xs) (forms t s (omega arith) []))

-- ---- from forms to places

-- tokens at the front of a form are those of the line; another form may stand after them
record After (G : Grammar) (line before ys : List ℕ) (i j : ℕ) (rs : List ℕ) : Type 0 where
  at : ℕ
  spells : Spells G line Any ys at j rs
  put : (zs qs : List ℕ) → Spells G line Any zs at j qs → Spells G line Any (before ++ zs) i j qs

module _ {G : Grammar} {line : List ℕ} where
  after : (before : List ℕ) → Tokens before → {ys rs : List ℕ} {i j : ℕ} → Spells G line Any (before ++ ys) i j rs
      → After G line before ys i j rs
  after [] t {i = i} s = record { at = i; spells = s; put = λ zs qs z. z }
  after (x ∷ before) t (token c h e s) =
      let a = after before (λ i k. t (suc i) (omega arith)) s in
      record { at = a.at; spells = a.spells; put = λ zs qs z. token c h e (a.put zs qs z) }
  after (x ∷ before) t (apply r c l z d s e) = absurd (not_both x (t 0 (omega arith)) z)

  tokens_spell : (p v : List ℕ) → p ++ v ≡ line → Tokens v → Spells G line Any v (length p) (length line) []
  tokens_spell p [] e t = subst (λ j. Spells G line Any [] (length p) j []) (ap length (sym (append-nil p) ∙ e)) stop
  tokens_spell p (x ∷ v) e t =
      let h : length p < length line = omega (arith, length-append p (x ∷ v), ap length e) in
      let n : length (p ++ (x ∷ [])) ≡ suc (length p) = omega (arith, length-append p (x ∷ [])) in
      token (t 0 (omega arith)) h (subst (λ l. get_or l (length p) 0 ≡ x) e (get_or-append_seam p x v 0))
      (subst (λ k. Spells G line Any v k (length line) []) n
      (tokens_spell (p ++ (x ∷ [])) v (append_assoc p (x ∷ []) v ∙ e) (λ i k. t (suc i) (omega arith))))

  walks : Lefts G → Tokens line → {f rs w : List ℕ} → Leftmost G f rs w → w ≡ line → Spells G line Any f 0 (length line) rs
  walks lefts t none e = subst (λ f. Spells G line Any f 0 (length line) []) (sym e) (tokens_spell [] line refl t)
  walks lefts t (step {rs = rs} before rest r b c e d) q =
      let a = after before b (walks lefts t d q) in
      let p = split (G.right r) rest a.spells in
      subst (λ f. Spells G line Any f 0 (length line) (r ∷ rs)) e
      (a.put (G.left r ∷ rest) (r ∷ rs) (apply r c refl (lefts.of r c) p.fronts p.backs p.joined))

  -- the whole line
  pub leftmost_spells : Lefts G → Tokens line → (xs rs : List ℕ) → Leftmost G xs rs line ↔ Spells G line Any xs 0 (length line) rs
  leftmost_spells lefts t xs rs = (λ d. walks lefts t d refl, spells_leftmost t xs rs)
