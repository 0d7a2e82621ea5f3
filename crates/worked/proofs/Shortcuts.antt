-- Each shortcut that goes wrong does: the model prints what is right, the shortcut prints something else, both computed by the
-- checker. Assumes nothing.
use mathlib.Core.Path.{◌≡◌, refl}
use mathlib.Core.Bool.{true, not}
use mathlib.Core.List.{map}
use Rattle.laws.specs.Choice.{when, ◌and◌, ◌or◌}
use Rattle.laws.specs.Loops.{times, all_below, any_below}
use Rattle.laws.specs.Lists.{allIn, same_list}
use Rattle.symbols.specs.Symbol.{terminal, nonterminal, on_right, all_on_right, rule_answer}
use Rattle.theory.specs.Calls.{all_tokens, pools_in_range}
use Rattle.worked.specs.Script.{run, run_by}
use Rattle.worked.specs.Shortcuts.{last, shortcuts}

pub right : map (λ s. last (run s.script)) shortcuts ≡ map (λ s. s.right) shortcuts
unfolding when ◌and◌ ◌or◌ times all_below any_below terminal nonterminal on_right all_on_right rule_answer all_tokens pools_in_range
right = refl

pub wrong : map (λ s. last (run_by s.reader s.script)) shortcuts ≡ map (λ s. s.wrong) shortcuts
unfolding when ◌and◌ ◌or◌ times all_below any_below terminal nonterminal on_right all_on_right rule_answer all_tokens pools_in_range
wrong = refl

pub differ : allIn (λ s. not (same_list s.right s.wrong)) shortcuts ≡ true
unfolding ◌and◌
differ = refl
