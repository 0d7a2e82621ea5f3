-- A derivation of two forms in a row is one of each in a row; and what else is seen from a derivation's shape. Assumes nothing.
use mathlib.Core.Path.{◌≡◌, refl, sym, ◌∙◌, ap}
use mathlib.Core.List.{List, [], ◌∷◌, ◌++◌, append_assoc}
use Prim.Native.Nat.{ℕ, ◌≤◌}
use native.Mathlib.Omega.{arith}
use lib.Dec.{T}
use Rattle.symbols.specs.Symbol.{terminal, nonterminal}
use Rattle.theory.specs.Derivation.{Grammar}
use Rattle.theory.proofs.Symbols.{is-terminal, is-nonterminal}
use Rattle.leftmost.specs.Within.{Spans, Spells}
use Rattle.leftmost.specs.Within.Spells.{stop, token, apply}

-- a symbol is not both
pub not_both : (x : ℕ) → T (terminal x) → T (nonterminal x) → ⊥
not_both x t n =
    let (a, b) = (is-terminal x).0 t in
    let (c, d) = (is-nonterminal x).0 n in
    omega arith

-- where the first form ends, and the rules of each
pub record Split (G : Grammar) (line : List ℕ) (S : Spans) (xs ys : List ℕ) (i j : ℕ) (rs : List ℕ) : Type 0 where
  pub mid : ℕ
  pub front : List ℕ
  pub back : List ℕ
  pub fronts : Spells G line S xs i mid front
  pub backs : Spells G line S ys mid j back
  pub joined : front ++ back ≡ rs

module _ {G : Grammar} {line : List ℕ} {S : Spans} where
  pub join : {xs ys rs qs : List ℕ} {i m j : ℕ} → Spells G line S xs i m rs → Spells G line S ys m j qs
      → Spells G line S (xs ++ ys) i j (rs ++ qs)
  join stop s = s
  join (token t h e d) s = token t h e (join d s)
  join {qs = qs} (apply {ps = ps} {qs = us} r c l z d b e) s =
      apply r c l z d (join b s) (sym (append_assoc ps us qs) ∙ ap (λ v. v ++ qs) e)

  pub split : (xs ys : List ℕ) {rs : List ℕ} {i j : ℕ} → Spells G line S (xs ++ ys) i j rs → Split G line S xs ys i j rs
  split [] ys {rs = rs} {i = i} s = record { mid = i; front = []; back = rs; fronts = stop; backs = s; joined = refl }
  split (x ∷ xs) ys (token t h e s) =
      let p = split xs ys s in
      record { mid = p.mid; front = p.front; back = p.back; fronts = token t h e p.fronts; backs = p.backs; joined = p.joined }
  split (x ∷ xs) ys (apply {ps = ps} r c l z d s e) =
      let p = split xs ys s in
      record {
        mid = p.mid;
        front = r ∷ (ps ++ p.front);
        back = p.back;
        fronts = apply r c l z d p.fronts refl;
        backs = p.backs;
        joined = ap (λ v. r ∷ v) (append_assoc ps p.front p.back ∙ ap (λ v. ps ++ v) p.joined ∙ e);
      }

  -- a derivation goes forward
  pub forward : {xs rs : List ℕ} {i j : ℕ} → Spells G line S xs i j rs → i ≤ j
  forward stop = omega arith
  forward (token t h e s) = let l = forward s in omega arith
  forward (apply r c l z d s e) = let a = forward d in let b = forward s in omega arith

  -- of no symbols it has no rules
  pub no_rules : {rs : List ℕ} {i j : ℕ} → Spells G line S [] i j rs → rs ≡ []
  no_rules stop = refl

  -- more spans allow more
  pub more_spans : {R : Spans} → ((x i j : ℕ) → S x i j → R x i j) → {xs rs : List ℕ} {i j : ℕ} → Spells G line S xs i j rs
      → Spells G line R xs i j rs
  more_spans h stop = stop
  more_spans h (token t l e s) = token t l e (more_spans h s)
  more_spans h (apply r c l z d s e) = apply r c l (h _ _ _ z) (more_spans h d) (more_spans h s) e
