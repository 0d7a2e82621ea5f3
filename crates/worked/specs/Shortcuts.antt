-- "Shortcuts that go wrong": each of 01's five as a reader that takes it, all else being the model's, and a script on which it goes
-- wrong. Assumes nothing.
use Rattle.std.specs.Prelude.{Bool, not, List, [], ◌∷◌, ◌++◌, ℕ, zero, suc, eqb, ltb, leb, length}
use Rattle.laws.specs.Choice.{◌and◌, when}
use Rattle.laws.specs.Loops.{tab}
use Rattle.laws.specs.Lists.{someIn, firstIn, addNew, joinMap}
use Rattle.symbols.specs.Symbol.{START, rule_answer}
use Rattle.theory.specs.Table.{CURRENT, WITHDRAWN, UNEXPANDED, EXPANDED, RulePlace, Item, Table, rule_at, set_at}
use Rattle.theory.specs.Expansion.{after, collected, expand}
use Rattle.theory.specs.Parse.{Link, same_link, nodes_at, ends, link_to, saturate, lowest_unexpanded, Settled, settled, settle, Outcome, outcome, shifts, accepting, turns}
use Rattle.theory.specs.Calls.{checked, refused, put_rule, is_rule, lowest_rule, is_there, is_full, all_tokens}
use Rattle.worked.specs.Script.{Command, Line, Reader, real}
use Rattle.worked.specs.Script.Command.{N, A, D, P}
use Rattle.worked.specs.Script.Line.{says, C, K, S}
use Rattle.worked.specs.Cases.{rules}

-- ---- "Giving a withdrawn number to another rule while a kept kernel names it."

-- a withdrawn rule that is equal takes its own number back, and any other rule the lowest number that is not current
abbrev takes_withdrawn : Table → ℕ → List ℕ → Outcome
takes_withdrawn t x w =
    let back = lowest_rule (is_rule WITHDRAWN x w) t.rules in
    let other = lowest_rule (λ p. not (eqb p.state CURRENT)) t.rules in
    let n = when (ltb back (length t.rules)) back other in
    outcome 0 n (put_rule t n (record { state = CURRENT; left = x; right = w }))

abbrev taking_withdrawn : Reader
taking_withdrawn = record {
  add = λ t x w.
      let fits = when (is_full t) (refused 17 t) (takes_withdrawn t x w) in
      let absent = when (is_there t x w) (refused 15 t) fits in
      checked t (when (eqb (rule_answer x w) 0) absent (refused (rule_answer x w) t));
  delete = real.delete;
  parse = real.parse;
}

-- ---- "Making unexpanded only the sets whose kernel names the left symbol; it is the closure that matters."

abbrev names : List RulePlace → ℕ → List Item → Bool
names rs x k = someIn (λ i. eqb (after rs i) x) k

-- what the change of a rule of x made unexpanded stays as it was where its kernel does not name x; a START rule changes set 0 alone
abbrev by_kernel : ℕ → Table → Outcome → Outcome
by_kernel x t o =
    outcome o.answer o.number (record {
      rules = o.table.rules;
      sets = tab (length t.sets) (λ s.
          let p = set_at t.sets s in
          let q = set_at o.table.sets s in
          when (eqb p.state EXPANDED and eqb q.state UNEXPANDED and not (names t.rules x p.kernel) and not (eqb x START)) p q);
    })

abbrev looking_at_kernels : Reader
looking_at_kernels = record { add = λ t x w. by_kernel x t (real.add t x w); delete = λ t x w. by_kernel x t (real.delete t x w); parse = real.parse }

-- ---- "Doing each node's reductions once. A link added later below it opens new paths."

-- the links that the reductions of the node at p with set u make
abbrev reductions_of : Table → List Link → ℕ → ℕ → List Link
reductions_of t ls p u =
    joinMap (λ r. let q = rule_at t.rules r in joinMap (link_to t.sets p q.left) (ends ls (length q.right) p u)) (set_at t.sets u).reductions

-- each node of an expanded set that is not among those done, in turn, n of them at most; the nodes done and the links
record Once : Type 0 where
  did : List ℕ
  links : List Link

abbrev saturate_once : ℕ → Table → ℕ → Once → Once
saturate_once zero t p a = a
saturate_once (suc n) t p a =
    let none = length t.sets in
    let u = firstIn (λ u. eqb (set_at t.sets u).state EXPANDED and not (someIn (eqb u) a.did)) none (nodes_at a.links p) in
    let more = saturate_once n t p (record { did = u ∷ a.did; links = addNew same_link a.links (reductions_of t a.links p u) }) in
    when (ltb u none) more a

abbrev settle_once : ℕ → ℕ → Table → ℕ → Once → Settled
settle_once zero pool t p a = settled 20 t a.links
settle_once (suc n) pool t p a =
    let m = saturate_once (turns t) t p a in
    let u = lowest_unexpanded t.sets m.links p in
    let e = expand t u in
    let again = settle_once n pool e.table p m in
    let expanding = when e.done again (settled 20 e.table m.links) in
    let in_pool = when (ltb u (length t.sets)) expanding (settled 0 t m.links) in
    when (ltb pool (length m.links)) (settled 21 t m.links) in_pool

-- Parse over another way to settle a position, and to settle the last one
abbrev parsing_by : (Table → ℕ → List Link → Settled) → (Table → ℕ → List Link → Settled) → ℕ → Table → ℕ → List Link → List ℕ → Outcome
parsing_by f g pool t p ls [] =
    let e = g t p ls in
    let verdict = outcome (when (accepting e.table e.links p) 1 2) (length e.links) e.table in
    when (eqb e.answer 0) verdict (outcome e.answer 0 e.table)
parsing_by f g pool t p ls (x ∷ w) =
    let e = f t p ls in
    let m = addNew same_link e.links (shifts e.table e.links p x) in
    let on = parsing_by f g pool e.table (suc p) m w in
    let in_pool = when (ltb pool (length m)) (outcome 21 0 e.table) on in
    let some = when (eqb (length m) (length e.links)) (outcome 2 (length m) e.table) in_pool in
    when (eqb e.answer 0) some (outcome e.answer 0 e.table)

-- the same with Parse's checks
abbrev parse_by : (ℕ → Table → ℕ → List Link → Settled) → (ℕ → Table → ℕ → List Link → Settled) → Table → ℕ → List ℕ → Outcome
parse_by f g t pool line =
    let read = parsing_by (f pool) (g pool) pool t 0 [] line in
    let tokens = when (all_tokens line) read (refused 19 t) in
    let short = when (leb (length line) 255) tokens (refused 18 t) in
    checked t (when (leb pool 4096) short (refused 10 t))

abbrev once : ℕ → Table → ℕ → List Link → Settled
once pool t p ls = settle_once (turns t) pool t p (record { did = []; links = ls })

abbrev reducing_once : Reader
reducing_once = record { add = real.add; delete = real.delete; parse = parse_by once once }

-- ---- "Testing the accept mark before the last position's sets are expanded."

abbrev unexpanded_last : ℕ → Table → ℕ → List Link → Settled
unexpanded_last pool t p ls = settled 0 t (saturate (suc pool) pool t p ls)

abbrev testing_early : Reader
testing_early = record { add = real.add; delete = real.delete; parse = parse_by (λ pool t p ls. settle (turns t) pool t p ls) unexpanded_last }

-- ---- "Freeing at once what a change made unreachable"

abbrev freed : Outcome → Outcome
freed o = when (eqb o.answer 0) (outcome 0 o.number (record { rules = o.table.rules; sets = (collected o.table).sets })) o

abbrev freeing_at_once : Reader
freeing_at_once = record { add = λ t x w. freed (real.add t x w); delete = λ t x w. freed (real.delete t x w); parse = real.parse }

-- ---- the scripts

-- a script whose last line the model and the shortcut print differently
pub record Shortcut : Type 0 where
  pub reader : Reader
  pub script : List Command
  pub right : List ℕ
  pub wrong : List ℕ

-- the numbers of the last line
abbrev said : Line → List ℕ
said (says ns) = ns
said (C marks) = []
said (K s k) = []
said (S s k ts rs a) = []

abbrev pub last : List Line → List ℕ
last [] = []
last (l ∷ []) = said l
last (l ∷ m ∷ ls) = last (m ∷ ls)

abbrev pub shortcuts : List Shortcut
shortcuts =
    -- 66→2 3 goes and 66→3 1 takes its number: the set after 2, which waits for a 3, is taken for the set after 3
    record {
      reader = taking_withdrawn;
      script = N 4 2 8 ∷ A 64 (66 ∷ []) ∷ A 66 (2 ∷ 3 ∷ []) ∷ P (2 ∷ 3 ∷ []) ∷ D 66 (2 ∷ 3 ∷ []) ∷ A 66 (3 ∷ 1 ∷ []) ∷ P (3 ∷ 1 ∷ []) ∷ [];
      right = 1 ∷ 3 ∷ 4 ∷ [];
      wrong = 2 ∷ 1 ∷ 4 ∷ [];
    }
    -- set 0's kernel names 65; 66 stands in its closure
    ∷ record {
      reader = looking_at_kernels;
      script = N 8 4 8 ∷ A 64 (65 ∷ []) ∷ A 65 (66 ∷ []) ∷ A 66 (1 ∷ []) ∷ P (1 ∷ []) ∷ A 66 (3 ∷ []) ∷ P (3 ∷ []) ∷ [];
      right = 1 ∷ 3 ∷ 5 ∷ [];
      wrong = 2 ∷ 0 ∷ 4 ∷ [];
    }
    -- E9, as first given
    ∷ record {
      reader = reducing_once;
      script = N 8 4 16 ∷ A 64 (66 ∷ []) ∷ A 66 (1 ∷ 66 ∷ 65 ∷ []) ∷ A 66 [] ∷ A 65 [] ∷ P (1 ∷ 1 ∷ []) ∷ [];
      right = 1 ∷ 10 ∷ 5 ∷ [];
      wrong = 2 ∷ 9 ∷ 5 ∷ [];
    }
    -- the accept mark of set 0 stands only once set 0 is expanded
    ∷ record {
      reader = testing_early;
      script = N 1 1 0 ∷ A 64 [] ∷ P [] ∷ [];
      right = 1 ∷ 0 ∷ 1 ∷ [];
      wrong = 2 ∷ 0 ∷ 1 ∷ [];
    }
    -- E5 must find sets 1, 3 and 4 again
    ∷ record {
      reader = freeing_at_once;
      script = N 8 5 16 ∷ (rules ++ (P (1 ∷ 3 ∷ []) ∷ D 66 (2 ∷ 3 ∷ []) ∷ P (2 ∷ 3 ∷ []) ∷ []));
      right = 2 ∷ 0 ∷ 7 ∷ [];
      wrong = 2 ∷ 0 ∷ 4 ∷ [];
    }
    ∷ []
