-- What the reader prints for an answer: one line. Assumes nothing.
use Rattle.std.specs.Prelude.{Bool, List, [], ◌∷◌, ◌++◌, ℕ, eqb}
use Rattle.laws.specs.Choice.{◌or◌, when}
use Rattle.symbols.specs.Answer.{DONE, ACCEPT, REJECT, NO_SETS, NO_LINKS}
use Rattle.text.specs.Text.{NEWLINE, decimal, spaced}

-- numbers with a single space between them, on a line
unfoldable pub line_of : ℕ → List ℕ → List ℕ
line_of a ns = decimal a ++ (spaced ns ++ (NEWLINE ∷ []))

-- "`N` .. prints the answer"; "Other refusals print the number alone"
unfoldable pub answer_line : ℕ → List ℕ
answer_line a = line_of a []

-- "`A` .. `D` .. prints the answer, and on 0 the rule number"
unfoldable pub change_line : (answer rule : ℕ) → List ℕ
change_line a r = line_of a (when (eqb a DONE) (r ∷ []) [])

unfoldable pub past_checks : ℕ → Bool
past_checks a = eqb a ACCEPT or eqb a REJECT or eqb a NO_SETS or eqb a NO_LINKS

-- "`P tokens..`; prints answer, links, sets in use, also on 20 and 21"
unfoldable pub parse_line : (answer links sets : ℕ) → List ℕ
parse_line a l s = line_of a (when (past_checks a) (l ∷ s ∷ []) [])

-- "`G` collect, `R` restart; answer and sets in use"
unfoldable pub collect_line : (answer sets : ℕ) → List ℕ
collect_line a s = line_of a (when (eqb a DONE) (s ∷ []) [])
