-- What Parse promises follows from its checks and from the steps that it did. Assumes nothing.
use mathlib.Core.Bool.{Bool, true, false}
use mathlib.Core.Path.{◌≡◌, refl, sym, ◌∙◌, ap, subst}
use mathlib.Core.Logic.{◌↔◌, inl, inr, ⊎_elim}
use mathlib.Core.List.{List, ◌++◌}
use Prim.Native.Nat.{ℕ, ◌+◌, ◌-◌, ◌≤◌, ◌<◌}
use native.Mathlib.Omega.{arith}
use lib.Dec.{T, leb, leb→le, le→leb}
use lib.ListN.{length, get_or, take, drop}
use lib.Seq.{length-take-le, take_at, drop_at, get_or-drop}
use Rattle.std.specs.Prelude.{IsTrue, EachIndex, slice_index}
use Rattle.laws.proofs.Choice.{when-cases}
use Rattle.std.specs.Prelude.{Result, Ok, Err}
use Rattle.symbols.specs.declared.refusal.Refusal.{Refusal as Reason}
use Rattle.symbols.specs.declared.verdict.Verdict.{Verdict}
use Rattle.symbols.specs.Answer.{refusal_number, number_of, answer_of_parse, links_with}
use Rattle.theory.specs.Table.{Table}
use Rattle.theory.specs.Form.{InForm, in_form}
use Rattle.theory.specs.Parse.{Outcome, outcome}
use Rattle.theory.specs.Calls.{refused, checked, parse, all_tokens}
use Rattle.theory.proofs.Form.{in_form_lem}
use Rattle.theory.proofs.Checks.{Parsed, parsed}
use Rattle.theory.proofs.Checks.Parsed.{bad_table as p-table, bad_pool as p-pool, long_line as p-line, bad_token as p-token, read as p-read}
use Rattle.theory.proofs.Parsing.{Answered, parsing-answers}
use Rattle.theory.proofs.Parsing.Answered.{verdict_given, no_room}
use Rattle.theory.proofs.ParseCall.{past_checks_lem, outcome_of_steps}
use Rattle.table.specs.Layout.{Mem, view}
use Rattle.table.specs.Laid.{Formed}
use Rattle.table.specs.Becomes.{Becomes}
use Rattle.links.specs.Records.{numbers_for}
use Rattle.links.specs.Held.{Cleared}
use Rattle.laws.proofs.Tests.{all-below, passes, fails}
use Rattle.symbols.specs.Symbol.{terminal}
use Rattle.positions.specs.Reading.{Readable, Reads}
use Rattle.positions.proofs.Kept.{kept-none}
use Rattle.recogniser.specs.Parse.{lent_parse, Past, Parses}
use Rattle.recogniser.specs.Reading.{ReadsOver}
use Rattle.recogniser.specs.Check.{Refusal}
use Rattle.recogniser.specs.Check.Refusal.{bad_table, bad_pool, long_line, bad_token}

between : {a : ℕ} → Past a → 2 < a → a < 20 → ⊥
between q h k = ⊎_elim (λ e. omega arith) (⊎_elim (λ e. omega arith) (⊎_elim (λ e. omega arith) (λ e. omega arith))) q

-- ---- the pool's part of the link buffer: lent, given back, cleared

pub part_length : (n : ℕ) (b : List ℕ) → n ≤ length b → n ≡ length (take n b)
part_length n b h = sym (length-take-le n b h)

pub part-roomy : (n : ℕ) (b : List ℕ) → n ≤ length b → n ≤ length (take n b)
part-roomy n b h = omega (arith, part_length n b h)

-- given back as the list y
pub part_read : {pool : ℕ} {line : List ℕ} {m n : Mem} {b : List ℕ} {v : Result Verdict Reason} (y : List ℕ) → numbers_for pool ≤ length b
    → length y ≡ length (take (numbers_for pool) b) → Reads pool line m n y v → ReadsOver pool line m n b (y ++ drop (numbers_for pool) b) v
part_read {pool} {line} {m} {n} {b} {v} y r l s = record {
  reads = subst (λ y. Reads pool line m n y v) (sym (take_at y _ _ whole)) s;
  beyond = drop_at y _ _ whole;
}
  where
    whole : length y ≡ numbers_for pool
    whole = l ∙ length-take-le (numbers_for pool) b r

-- what is cleared since a change within the part is cleared since before it
cleared_since : {n : ℕ} {b c d : List ℕ} → drop n c ≡ drop n b → Cleared n c d → Cleared n b d
cleared_since {n} {b} {c} e z = record { low = z.low; high = λ i h. z.high i h ∙ same i h }
  where
    same : (i : ℕ) → n ≤ i → get_or c i 0 ≡ get_or b i 0
    same i h =
        let k : n + (i - n) ≡ i = omega arith in
        subst (λ i. get_or c i 0 ≡ get_or b i 0) k
        (sym (get_or-drop n c (i - n) 0) ∙ ap (λ l. get_or l (i - n) 0) e ∙ get_or-drop n b (i - n) 0)

-- ---- the tokens

true_of : (b : Bool) → T b → b ≡ true
true_of true t = refl
true_of false t = absurd t

same_test : (a b : Bool) → (a ≡ true → T b) → (T b → a ≡ true) → a ≡ b
same_test true true f g = refl
same_test true false f g = absurd (f refl)
same_test false true f g = g tt
same_test false false f g = refl

pub each-token : (b : Bool) (line : List ℕ) → IsTrue b ↔ EachIndex line (λ k. IsTrue (terminal (slice_index line k))) → b ≡ all_tokens line
unfolding all_tokens
each-token b line e =
    let each = all-below (length line) (λ k. terminal (get_or line k 0)) in
    same_test b _ (λ h. each.1 (λ k l. passes (e.0 h k l))) (λ t. e.1 (λ k l. true_of _ (each.0 t k l)))

-- ---- a refusal

module _ (m : Mem) (pool : ℕ) (line b : List ℕ) where
  abbrev t : Table
  t = view m

  roomy : numbers_for pool ≤ length b → lent_parse b pool line t ≡ parse t pool line
  roomy h = when-cases (λ o. o ≡ parse t pool line) (leb (numbers_for pool) (length b)) (λ e. refl) (λ e. absurd (fails e (le→leb _ _ h)))

  -- a table in form passes the first check
  passed : InForm t → (o : Outcome) → checked t o ≡ o
  passed 𝓕 o = when-cases (λ q. q ≡ o) (in_form t) (λ e. refl) (λ e. absurd (fails e ((in_form_lem t).1 𝓕)))

  lent_refused : {a : Reason} → Refusal m (length b) pool line a → Formed m → lent_parse b pool line t ≡ refused (refusal_number a) t
  lent_refused (bad_table f) 𝓕 = absurd (f 𝓕)
  lent_refused (bad_pool f w) 𝓕 =
      when-cases (λ o. o ≡ refused 10 t) (leb (numbers_for pool) (length b))
      (λ e. go (leb→le (numbers_for pool) (length b) (subst T (sym e) tt)) (parsed t pool line)) (λ e. passed f.form (refused 10 t))
    where
      go : {o : Outcome} → numbers_for pool ≤ length b → Parsed t pool line o → o ≡ refused 10 t
      go h (p-table g) = absurd (g f.form)
      go h (p-pool g k) = refl
      go h (p-line g k n) = absurd (w (omega arith, h))
      go h (p-token g k n d) = absurd (w (omega arith, h))
      go h (p-read g k n d) = absurd (w (omega arith, h))
  lent_refused (long_line f (h, r) l) 𝓕 = roomy r ∙ go (parsed t pool line)
    where
      go : {o : Outcome} → Parsed t pool line o → o ≡ refused 18 t
      go (p-table g) = absurd (g f.form)
      go (p-pool g k) = absurd (omega arith)
      go (p-line g k n) = refl
      go (p-token g k n d) = absurd (omega arith)
      go (p-read g k n d) = absurd (omega arith)
  lent_refused (bad_token f (h, r) l d) 𝓕 = roomy r ∙ go (parsed t pool line)
    where
      go : {o : Outcome} → Parsed t pool line o → o ≡ refused 19 t
      go (p-table g) = absurd (g f.form)
      go (p-pool g k) = absurd (omega arith)
      go (p-line g k n) = absurd (omega arith)
      go (p-token g k n e) = refl
      go (p-read g k n e) = absurd (d e)

  -- it leaves all untouched
  not_past : {a : Reason} → Refusal m (length b) pool line a → Past (refusal_number a) → ⊥
  not_past (bad_table f) q = between q (omega arith) (omega arith)
  not_past (bad_pool f w) q = between q (omega arith) (omega arith)
  not_past (long_line f h l) q = between q (omega arith) (omega arith)
  not_past (bad_token f h l d) q = between q (omega arith) (omega arith)

  bad_or : {a : Reason} → Refusal m (length b) pool line a → (Formed m → ⊥) → refusal_number a ≡ 11
  bad_or (bad_table f) d = refl
  bad_or (bad_pool f w) d = absurd (d f)
  bad_or (long_line f h l) d = absurd (d f)
  bad_or (bad_token f h l e) d = absurd (d f)

  pub parses-refused : {a : Reason} → Refusal m (length b) pool line a → Parses pool line m m b b (Err a)
  parses-refused r = record {
    promised = record {
      answer = λ 𝓕. ap (λ o. o.answer) (sym (lent_refused r 𝓕));
      number = λ 𝓕. ap (λ o. o.number) (sym (lent_refused r 𝓕));
      table = λ 𝓕. subst (λ o. Becomes m m o.table) (sym (lent_refused r 𝓕)) (kept-none 𝓕).becomes;
      no_table = λ d. (bad_or r d, refl, refl);
    };
    cleared = λ q. absurd (not_past r q);
    untouched = λ d. refl;
  }

  -- ---- a parse that got past its checks

  module _ (R : Readable pool line m (length b)) {n : Mem} {c : List ℕ} {v : Result Verdict Reason} (S : ReadsOver pool line m n b c v) where
    is : parse t pool line ≡ outcome (number_of (answer_of_parse v)) (links_with v) (view n)
    is = (outcome_of_steps t R.formed.form pool line R.fits _).1 S.reads.steps

    lent : lent_parse b pool line t ≡ outcome (number_of (answer_of_parse v)) (links_with v) (view n)
    lent = roomy R.roomy ∙ is

    past : Past (number_of (answer_of_parse v))
    past = go (subst (Answered line) (sym (past_checks_lem t R.formed.form pool line R.fits) ∙ is)
        (parsing-answers pool t line R.formed.form))
      where
        go : Answered line (outcome (number_of (answer_of_parse v)) (links_with v) (view n)) → Past (number_of (answer_of_parse v))
        go (verdict_given a z) = ⊎_elim inl (λ e. inr (inl e)) a
        go (no_room a z) = ⊎_elim (λ e. inr (inr (inl e))) (λ e. inr (inr (inr e))) a

    pub parses-read : {d : List ℕ} → Cleared (numbers_for pool) c d → Parses pool line m n b d v
    parses-read z = record {
      promised = record {
        answer = λ 𝓕. ap (λ o. o.answer) (sym lent);
        number = λ 𝓕. ap (λ o. o.number) (sym lent);
        table = λ 𝓕. subst (λ o. Becomes m n o.table) (sym lent) S.reads.kept.becomes;
        no_table = λ d. absurd (d R.formed);
      };
      cleared = λ q. cleared_since S.beyond z;
      untouched = λ d. absurd (d past);
    }
