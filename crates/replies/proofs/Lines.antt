-- The lines of answers, number by number as they are put. Assumes nothing.
use native.Mathlib.Numerals.{unary_clauses}
use borrow.Author.Tests.{eq-eqb, ne_eqb}
use Rattle.std.proofs.Common.{arith, rules, ◌≡◌, refl, sym, ap, ◌∙◌, Bool, true, false, List, [], ◌∷◌, ◌++◌, ℕ, ◌+◌, ◌<◌, length, get_or, take}
use Rattle.std.proofs.lemmas.List.{append_assoc, append-nil}
use Rattle.std.proofs.Math.Seq.{take-suc}
use Rattle.laws.specs.Choice.{◌or◌}
use Rattle.laws.specs.Lists.{joinMap}
use Rattle.laws.proofs.Choice.{when_yes, when_no}
use Rattle.text.specs.Text.{SPACE, decimal, spaced}
use Rattle.text.specs.Puts.{Adds}
use Rattle.text.specs.declared.Text.{Text}
use Rattle.text.proofs.Putting.{adds_then, adds_as}
use Rattle.std.specs.Prelude.{Ok}
use Rattle.laws.specs.Choice.{when}
use Rattle.symbols.specs.declared.verdict.Verdict.{Verdict}
use Rattle.symbols.specs.Answer.{Answer, refusal_number, number_of, answer_of_parse}
use Rattle.symbols.specs.declared.refusal.Refusal.{Refusal}
use Rattle.symbols.specs.declared.refusal.Refusal.TheVariants.{BadPool, BadTable, BadLeft, LongRight, BadSymbol, There, NotThere, NoRules, LongLine, BadToken, NoSets, NoLinks, Malformed}
use Rattle.symbols.proofs.Answers.{refusal_high}
use lib.Dec.{eqb}
use mathlib.Core.Logic.{◌⊎◌, inl, inr}
use Rattle.replies.specs.Printed.{line_of, answer_line, change_line, past_checks, parse_line, collect_line}

-- ---- numbers after the first, each after a space

join_snoc : (f : ℕ → List ℕ) (l : List ℕ) (x : ℕ) → joinMap f l ++ f x ≡ joinMap f (l ++ (x ∷ []))
join_snoc f [] x = sym (append-nil (f x))
join_snoc f (y ∷ l) x = append_assoc (f y) (joinMap f l) (f x) ∙ ap (λ t. f y ++ t) (join_snoc f l x)

pub one_more : (ns : List ℕ) {i : ℕ} {a b c : Text} → i < length ns → Adds a b (spaced (take i ns)) → Adds b c (SPACE ∷ decimal (get_or ns i 0))
    → Adds a c (spaced (take (i + 1) ns))
unfolding spaced
one_more ns {i} l p q =
    let next : take (i + 1) ns ≡ take i ns ++ (get_or ns i 0 ∷ []) = simp unary_clauses (take-suc ns i 0 l) in
    adds_as (join_snoc (λ n. SPACE ∷ decimal n) (take i ns) (get_or ns i 0) ∙ ap (joinMap (λ n. SPACE ∷ decimal n)) (sym next)) (adds_then p q)

-- ---- the lines of answers

pub change_done : {a : ℕ} (r : ℕ) → a ≡ 0 → line_of a (r ∷ []) ≡ change_line a r
unfolding change_line
change_done {a} r e = ap (line_of a) (when_yes [] (eq-eqb a 0 e) refl)

-- a refusal's number is none of those that numbers follow, but for NO-SETS and NO-LINKS in Parse's line
other_than : (e : Refusal) {n : ℕ} → n < 10 → eqb (refusal_number e) n ≡ false
other_than e {n} l = ne_eqb _ _ (λ h. let high = refusal_high e in absurd (omega (arith, h, high)))

pub change_refused : (e : Refusal) (r : ℕ) → answer_line (refusal_number e) ≡ change_line (refusal_number e) r
unfolding change_line answer_line
change_refused e r = ap (line_of (refusal_number e)) (when_no (r ∷ []) (other_than e (search rules)) refl)

pub collect-done : {a : ℕ} (s : ℕ) → a ≡ 0 → line_of a (s ∷ []) ≡ collect_line a s
unfolding collect_line
collect-done {a} s e = ap (line_of a) (when_yes [] (eq-eqb a 0 e) refl)

pub collect-refused : (s : ℕ) (e : Refusal) → answer_line (refusal_number e) ≡ collect_line (refusal_number e) s
unfolding collect_line answer_line
collect-refused s e = ap (line_of (refusal_number e)) (when_no (s ∷ []) (other_than e (search rules)) refl)

pub parse_shown : (a l s : ℕ) {b : Bool} → b ≡ past_checks a → b ≡ true → line_of a (l ∷ s ∷ []) ≡ parse_line a l s
unfolding parse_line
parse_shown a l s e h = ap (line_of a) (when_yes [] (sym e ∙ h) refl)

verdict_shown : (b : Bool) → past_checks (number_of (when b Answer.Accept Answer.Reject)) ≡ true
unfolding past_checks ◌or◌ when
verdict_shown true = refl
verdict_shown false = refl

pub parse_verdict : (v : Verdict) (s : ℕ) {a : ℕ} → a ≡ number_of (answer_of_parse (Ok v)) → line_of a (v.links ∷ s ∷ []) ≡ parse_line (number_of (answer_of_parse (Ok v))) v.links s
parse_verdict v s e = ap (λ n. line_of n (v.links ∷ s ∷ [])) e ∙ parse_shown _ v.links s refl (verdict_shown v.accepts)

pub parse-refused : (a l s : ℕ) {b : Bool} → b ≡ past_checks a → b ≡ false → answer_line a ≡ parse_line a l s
unfolding parse_line answer_line
parse-refused a l s e h = ap (line_of a) (when_no (l ∷ s ∷ []) (sym e ∙ h) refl)

-- ---- the refusals that Parse gives after its checks

past_of : (n : ℕ) → (n ≡ 20) ⊎ (n ≡ 21) → true ≡ past_checks n
unfolding past_checks ◌or◌
past_of n (inl e) = ap past_checks (sym e)
past_of n (inr e) = ap past_checks (sym e)

pub past_these : (e : Refusal) → (e ≡ NoSets) ⊎ (e ≡ NoLinks) → true ≡ past_checks (refusal_number e)
past_these e (inl h) = past_of _ (inl (ap refusal_number h))
past_these e (inr h) = past_of _ (inr (ap refusal_number h))

pub past_no_other : (e : Refusal) → (e ≡ NoSets → ⊥) → (e ≡ NoLinks → ⊥) → false ≡ past_checks (refusal_number e)
unfolding past_checks ◌or◌
past_no_other BadPool p q = refl
past_no_other BadTable p q = refl
past_no_other BadLeft p q = refl
past_no_other LongRight p q = refl
past_no_other BadSymbol p q = refl
past_no_other There p q = refl
past_no_other NotThere p q = refl
past_no_other NoRules p q = refl
past_no_other LongLine p q = refl
past_no_other BadToken p q = refl
past_no_other NoSets p q = absurd (p refl)
past_no_other NoLinks p q = absurd (q refl)
past_no_other Malformed p q = refl
