-- What is printed for a reply. Assumes nothing.
use Rattle.std.specs.Prelude.{List, ℕ, ◌≤◌}
use Rattle.symbols.specs.Answer.{number_of, answer_of, number_with, answer_of_parse, links_with}
use Rattle.theory.specs.Table.{Table}
use Rattle.table.specs.Layout.{Mem}
use Rattle.table.specs.Laid.{Laid}
use Rattle.replies.specs.Printed.{answer_line, change_line, parse_line, collect_line}
use Rattle.listing.specs.Printed.{listing}
use Rattle.replies.specs.declared.Reply.{Reply}
use Rattle.replies.specs.declared.Reply.TheVariants.{Alone, Change, Parse, Collect, Listing}

-- the text of a reply about the table t
abbrev pub text_of : Table → Reply → List ℕ
text_of t (Alone r) = answer_line (number_of (answer_of r))
text_of t (Change r) = change_line (number_of (answer_of r)) (number_with r)
text_of t (Parse r s) = parse_line (number_of (answer_of_parse r)) (links_with r) s
text_of t (Collect r s) = collect_line (number_of (answer_of r)) s
text_of t Listing = listing t

-- a reply whose numbers have four digits at most; a listing is one of numbers that are laid out
abbrev pub Printable : Mem → Reply → Type 0
Printable m (Alone r) = Unit {0}
Printable m (Change r) = number_with r ≤ 9999
Printable m (Parse r s) = (links_with r ≤ 9999) × (s ≤ 9999)
Printable m (Collect r s) = s ≤ 9999
Printable m Listing = Laid m
