-- What `L` prints, in 01's words ("The program"). Assumes nothing.
use Rattle.std.specs.Prelude.{Bool, List, [], ◌∷◌, ◌++◌, ℕ, eqb, ltb, length}
use Rattle.laws.specs.Choice.{when}
use Rattle.laws.specs.Lists.{joinMap, keep, up_from}
use Rattle.theory.specs.Table.{EXPANDED, Item, Transition, SetPlace, Table, set_at}
use Rattle.text.specs.Text.{SPACE, NEWLINE, digit, decimal, spaced}

-- the sets in use, ascending
abbrev pub sets_listed : Table → List ℕ
sets_listed t = keep (λ s. ltb 0 (set_at t.sets s).state) (up_from 0 (length t.sets))

abbrev pub is_expanded : SetPlace → Bool
is_expanded p = eqb p.state EXPANDED

-- "each set in use, e expanded or u not"
abbrev pub set_text : ℕ → Bool → List ℕ
set_text s expanded = SPACE ∷ (decimal s ++ (when expanded 101 117 ∷ []))

-- "the contents line `C` (each set in use, e expanded or u not)"
unfoldable pub contents : Table → List ℕ
contents t = 67 ∷ (joinMap (λ s. set_text s (is_expanded (set_at t.sets s))) (sets_listed t) ++ (NEWLINE ∷ []))

-- "rule.dot"
abbrev pub item_text : Item → List ℕ
item_text i = SPACE ∷ (decimal i.rule ++ (46 ∷ decimal i.dot))

-- "symbol>target"
abbrev pub transition_text : Transition → List ℕ
transition_text a = SPACE ∷ (decimal a.on ++ (62 ∷ decimal a.to))

-- "`K` kernel as rule.dot"
unfoldable pub kernel_text : List Item → List ℕ
kernel_text k = SPACE ∷ 75 ∷ joinMap item_text k

-- "`T` symbol>target"
unfoldable pub transitions_text : List Transition → List ℕ
transitions_text ts = SPACE ∷ 84 ∷ joinMap transition_text ts

-- "`R` reductions"
unfoldable pub reductions_text : List ℕ → List ℕ
reductions_text rs = SPACE ∷ 82 ∷ spaced rs

-- "`A` 1 or 0"
unfoldable pub accept_text : Bool → List ℕ
accept_text b = SPACE ∷ 65 ∷ SPACE ∷ digit (when b 1 0) ∷ []

-- "`S`, number, `K` kernel as rule.dot, and if expanded `T` symbol>target, `R` reductions, `A` 1 or 0; all ascending"
unfoldable pub body : Table → ℕ → List ℕ
body t s =
    let p = set_at t.sets s in
    let rest = transitions_text p.transitions ++ (reductions_text p.reductions ++ accept_text p.accepts) in
    83 ∷ SPACE ∷ (decimal s ++ (kernel_text p.kernel ++ (when (is_expanded p) rest [] ++ (NEWLINE ∷ []))))

-- "`L` prints the contents line .., then one body per set"
unfoldable pub listing : Table → List ℕ
listing t = contents t ++ joinMap (body t) (sets_listed t)
