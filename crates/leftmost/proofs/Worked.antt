-- The definitions tried on small lines: 01's list (rules 0 to 4), a loop, empties, equal lengths settled by rule number, the empty line,
-- and buffers too short. The model is computed, and what it gives is the first of the fewest by the definitions. Then spans that are not
-- closed, where the first within is another. Assumes nothing.
use mathlib.Core.Path.{◌≡◌, refl, sym, ◌∙◌, ap}
use mathlib.Core.Logic.{inl}
use mathlib.Core.Bool.{Bool, true}
use mathlib.Core.List.{List, [], ◌∷◌, append-nil, map}
use Prim.Native.Nat.{ℕ, zero, suc, ◌≤◌, ◌<◌}
use native.Mathlib.Omega.{arith}
use lib.Dec.{T, eqb, ltb}
use lib.ListN.{length, get_or}
use Rattle.laws.specs.Choice.{◌and◌, ◌or◌, when}
use Rattle.laws.proofs.Tests.{and_both, ltb_iff}
use Rattle.symbols.specs.Symbol.{START, terminal, nonterminal}
use Rattle.theory.specs.Derivation.{Grammar}
use Rattle.leftmost.specs.Leftmost.{Tokens, Leftmost, First}
use Rattle.leftmost.specs.Within.{Spans, Spells, FirstWithin}
use Rattle.leftmost.specs.Within.Spells.{stop, token, apply}
use Rattle.leftmost.specs.Model.{Found, derivation, fewestFrom, listed, walk, by_the_rule, lowest, or_else, put}
use Rattle.leftmost.specs.Model.Found.{nothing, some}
use Rattle.leftmost.proofs.Walks.{Lefts}
use Rattle.leftmost.proofs.Fewest.{Placed, model-lists, model-nothing}

record Rule : Type 0 where
  left : ℕ
  right : List ℕ

rule : ℕ → List ℕ → Rule
rule x w = record { left = x; right = w }

-- rules numbered from 0, all current
grammar_of : List Rule → Grammar
unfolding rule
grammar_of R = record { left = λ r. (get_or R r (rule 0 [])).left; right = λ r. (get_or R r (rule 0 [])).right; current = λ r. ltb r (length R) }

-- 64 → 65, 65 → 66, 65 → 65 4 66, 66 → 1 3, 66 → 2 3
list : List Rule
list = rule 64 (65 ∷ []) ∷ rule 65 (66 ∷ []) ∷ rule 65 (65 ∷ 4 ∷ 66 ∷ []) ∷ rule 66 (1 ∷ 3 ∷ []) ∷ rule 66 (2 ∷ 3 ∷ []) ∷ []

-- 64 → 65, 65 → 65, 65 → 1
loop : List Rule
loop = rule 64 (65 ∷ []) ∷ rule 65 (65 ∷ []) ∷ rule 65 (1 ∷ []) ∷ []

-- 64 → 66, 66 → 1 66 65, 66 → nothing, 65 → nothing
empties : List Rule
empties = rule 64 (66 ∷ []) ∷ rule 66 (1 ∷ 66 ∷ 65 ∷ []) ∷ rule 66 [] ∷ rule 65 [] ∷ []

-- 64 → 65, 65 → 1, 65 → 65 65: three ways to group, of one length
pairs : List Rule
pairs = rule 64 (65 ∷ []) ∷ rule 65 (1 ∷ []) ∷ rule 65 (65 ∷ 65 ∷ []) ∷ []

-- 64 → 65, 64 → 66, 65 → 1, 66 → 1: two lists of one length, the other first rule
twice : List Rule
twice = rule 64 (65 ∷ []) ∷ rule 64 (66 ∷ []) ∷ rule 65 (1 ∷ []) ∷ rule 66 (1 ∷ []) ∷ []

record Case : Type 0 where
  rules : List Rule
  line : List ℕ
  most : ℕ
  found : Found

cases : List Case
unfolding list loop empties pairs twice
cases =
    record { rules = list; line = 1 ∷ 3 ∷ []; most = 8; found = some (0 ∷ 1 ∷ 3 ∷ []) }
    ∷ record { rules = list; line = 1 ∷ 3 ∷ 4 ∷ 2 ∷ 3 ∷ []; most = 5; found = some (0 ∷ 2 ∷ 1 ∷ 3 ∷ 4 ∷ []) }
    ∷ record { rules = list; line = 1 ∷ 3 ∷ 4 ∷ 2 ∷ 3 ∷ []; most = 4; found = nothing }
    ∷ record { rules = list; line = 1 ∷ []; most = 4; found = nothing }
    ∷ record { rules = loop; line = 1 ∷ []; most = 4; found = some (0 ∷ 2 ∷ []) }
    ∷ record { rules = empties; line = 1 ∷ 1 ∷ []; most = 6; found = some (0 ∷ 1 ∷ 1 ∷ 2 ∷ 3 ∷ 3 ∷ []) }
    ∷ record { rules = pairs; line = 1 ∷ 1 ∷ 1 ∷ []; most = 6; found = some (0 ∷ 2 ∷ 1 ∷ 2 ∷ 1 ∷ 1 ∷ []) }
    ∷ record { rules = twice; line = 1 ∷ []; most = 2; found = some (0 ∷ 2 ∷ []) }
    ∷ record { rules = rule 64 [] ∷ []; line = []; most = 1; found = some (0 ∷ []) }
    ∷ record { rules = rule 64 [] ∷ []; line = []; most = 0; found = nothing }
    ∷ []

-- ---- what a case says

Says : Case → Found → Type 0
Says c (some rs) = First (grammar_of c.rules) c.line rs × (length rs ≤ c.most)
Says c nothing = (qs : List ℕ) → Leftmost (grammar_of c.rules) (START ∷ []) qs c.line → c.most < length qs

-- the left symbols are non-terminals
all_left : List Rule → Bool
all_left [] = true
all_left (r ∷ R) = let rest = all_left R in nonterminal r.left and rest

-- the line's symbols are terminals
all_tokens : List ℕ → Bool
all_tokens [] = true
all_tokens (x ∷ w) = let rest = all_tokens w in terminal x and rest

lefts : (R : List Rule) → T (all_left R) → Lefts (grammar_of R)
unfolding grammar_of all_left
lefts R a = record { of = λ r c. go R a r ((ltb_iff r (length R)).0 c) }
  where
    go : (R : List Rule) → T (all_left R) → (r : ℕ) → r < length R → T (nonterminal (get_or R r (rule 0 [])).left)
    go [] a r h = absurd (omega arith)
    go (x ∷ R) a zero h = ((and_both (nonterminal x.left) (all_left R)).0 a).0
    go (x ∷ R) a (suc r) h = go R ((and_both (nonterminal x.left) (all_left R)).0 a).1 r (omega arith)

placed : (R : List Rule) → Placed (grammar_of R) (length R)
unfolding grammar_of
placed R = record { below = λ r c. (ltb_iff r (length R)).0 c }

tokens : (w : List ℕ) → T (all_tokens w) → Tokens w
unfolding all_tokens
tokens [] a i h = absurd (omega arith)
tokens (x ∷ w) a zero h = ((and_both (terminal x) (all_tokens w)).0 a).0
tokens (x ∷ w) a (suc i) h = tokens w ((and_both (terminal x) (all_tokens w)).0 a).1 i (omega arith)

-- ---- every case

modelled : Case → Found
modelled c = derivation (grammar_of c.rules) (length c.rules) c.line c.most

-- what the model gives is so
model_says : (c : Case) → T (all_left c.rules) → T (all_tokens c.line) → (d : Found) → modelled c ≡ d → Says c d
unfolding Says modelled
model_says c a b (some rs) e = (model-lists (lefts c.rules a) (placed c.rules) c.line (tokens c.line b) c.most rs).0 e
model_says c a b nothing e = (model-nothing (lefts c.rules a) (placed c.rules) c.line (tokens c.line b) c.most).0 e

-- each case computed, and of rules and tokens as they should be
computed : map modelled cases ≡ map (λ c. c.found) cases
unfolding cases modelled grammar_of rule list loop empties pairs twice
    derivation fewestFrom listed walk by_the_rule lowest or_else put ◌and◌ when terminal
computed = refl

all_sane : List Case → Bool
all_sane [] = true
all_sane (c ∷ cs) = let rest = all_sane cs in (all_left c.rules and all_tokens c.line) and rest

sane : T (all_sane cases)
unfolding all_sane cases all_left all_tokens rule list loop empties pairs twice ◌and◌ terminal nonterminal
sane = tt

All : List Case → Type 0
All [] = Unit {0}
All (c ∷ cs) = Says c c.found × All cs

all_said : (cs : List Case) → map modelled cs ≡ map (λ c. c.found) cs → T (all_sane cs) → All cs
unfolding All all_sane
all_said [] e a = tt
all_said (c ∷ cs) e a =
    let (b, rest) = (and_both (all_left c.rules and all_tokens c.line) (all_sane cs)).0 a in
    let (l, k) = (and_both (all_left c.rules) (all_tokens c.line)).0 b in
    let here : modelled c ≡ c.found = cc in
    let there : map modelled cs ≡ map (λ c. c.found) cs = cc in
    (model_says c l k c.found here, all_said cs there rest)

worked : All cases
worked = all_said cases computed sane

-- ---- spans that are not closed: of `twice` over the line 1, all but those of 65

Without65 : Spans
Without65 x i j = T (eqb x 64 or eqb x 66)

-- what derives by `twice` within them
abbrev Left : List ℕ → List ℕ → Type 0
Left xs qs = Spells (grammar_of twice) (1 ∷ []) Without65 xs 0 1 qs

by-none : {qs : List ℕ} → Left (65 ∷ []) qs → ⊥
unfolding Without65 ◌or◌ terminal ◌and◌
by-none (token t h e s) = t
by-none (apply r c l z d s e) = z

by_token : {qs : List ℕ} → Left (1 ∷ []) qs → [] ≡ qs
unfolding Without65 ◌or◌
by_token (token t h e stop) = refl
by_token (apply r c l z d s e) = absurd z

by_3 : {qs : List ℕ} → Left (66 ∷ []) qs → (3 ∷ []) ≡ qs
unfolding grammar_of twice rule terminal ◌and◌
by_3 (token t h e s) = absurd t
by_3 (apply zero c l z d s e) = absurd (omega arith)
by_3 (apply (suc zero) c l z d s e) = absurd (omega arith)
by_3 (apply (suc (suc zero)) c l z d s e) = absurd (omega arith)
by_3 (apply {ps = ps} (suc (suc (suc zero))) c l z d stop e) = ap (λ v. 3 ∷ v) (by_token d ∙ sym (append-nil ps) ∙ e)
by_3 (apply (suc (suc (suc (suc r)))) c l z d s e) = absurd (let h = (ltb_iff (suc (suc (suc (suc r)))) 4).0 c in omega arith)

by_1_and_3 : {qs : List ℕ} → Left (64 ∷ []) qs → (1 ∷ 3 ∷ []) ≡ qs
unfolding grammar_of twice rule terminal ◌and◌
by_1_and_3 (token t h e s) = absurd t
by_1_and_3 (apply zero c l z d stop e) = absurd (by-none d)
by_1_and_3 (apply {ps = ps} (suc zero) c l z d stop e) = ap (λ v. 1 ∷ v) (by_3 d ∙ sym (append-nil ps) ∙ e)
by_1_and_3 (apply (suc (suc zero)) c l z d s e) = absurd (omega arith)
by_1_and_3 (apply (suc (suc (suc zero))) c l z d s e) = absurd (omega arith)
by_1_and_3 (apply (suc (suc (suc (suc r)))) c l z d s e) = absurd (let h = (ltb_iff (suc (suc (suc (suc r)))) 4).0 c in omega arith)

-- 1 3 is the first within, where 0 2 is the first of all
unclosed : FirstWithin (grammar_of twice) (1 ∷ []) Without65 (1 ∷ 3 ∷ [])
unfolding grammar_of twice rule Without65 ◌or◌ terminal ◌and◌
unclosed = record {
  spells = apply 1 tt refl tt (apply 3 tt refl tt (token {i = 0} tt (omega arith) refl stop) stop refl) stop refl;
  least = λ qs s. let e = ap length (by_1_and_3 s) in omega arith;
  first = λ qs s e. inl (by_1_and_3 s);
}
