-- What the steps of a parse rely on at a position, and what they come to, in terms of theory's Steps. Assumes nothing.
use Rattle.std.specs.Prelude.{◌≡◌, List, [], ◌∷◌, ℕ, suc, ◌≤◌, Bool, true, false, Result, Ok, Err}
use Rattle.symbols.specs.Answer.{ACCEPT, NO_SETS, refusal_number, number_of, answer_of_parse, links_with}
use Rattle.symbols.specs.declared.refusal.Refusal.{Refusal}
use Rattle.symbols.specs.declared.verdict.Verdict.{Verdict}
use Rattle.theory.specs.Table.{Table}
use Rattle.theory.specs.Parse.{Link, outcome}
use Rattle.theory.specs.Steps.{Ready, Steps}
use Rattle.theory.specs.Reaches.{Reaches}
use Rattle.theory.specs.Answers.{Fits}
use Rattle.theory.proofs.Grounded.{Grounded}
use Rattle.table.specs.Layout.{Mem, sets_in, rules_in, view}
use Rattle.table.specs.Laid.{Formed}
use Rattle.table.specs.Becomes.{Becomes}
use Rattle.links.specs.declared.Here.{Here}
use Rattle.links.specs.declared.Counts.{Counts}
use Rattle.links.specs.declared.Links.{Links}
use Rattle.links.specs.Records.{numbers_for, Graph, graph, counts, links_in, links_of}
use Rattle.links.specs.Held.{Held}
use Rattle.links.specs.Lent.{graph_of}
use Rattle.saturation.specs.Ends.{next}

-- a position at hand: the table's numbers and the graph of links, which is valid for the table
pub record Stands (h : Here) (m : Mem) (x : Graph) : Type 0 where
  pub formed : Formed m
  pub sets : h.sets ≡ sets_in m.rules
  pub held : Held h x
  pub in_pool : x.over ≡ 0
  pub grounded : Grounded (view m) h.position (links_of x)

-- n is m after expansions: a table in form, of the same sizes, with what lies beyond the pools as it was
pub record Kept (m n : Mem) : Type 0 where
  pub formed : Formed n
  pub becomes : Becomes m n (view n)
  pub sets : sets_in n.rules ≡ sets_in m.rules
  pub rules : rules_in n.rules ≡ rules_in m.rules

-- a position settled: saturated within the pool from the links `from`, with none of its sets unexpanded
pub record Settles (h : Here) (m : Mem) (x : Graph) (n : Mem) (y : Graph) : Type 0 where
  pub kept : Kept m n
  pub stands : Stands h n y
  pub from : List Link
  pub ready : Ready h.size (view n) h.position from (links_of y)
  pub reaches : (w : List ℕ) → Reaches h.size (view m) h.position (links_of x) w (view n) h.position from w

-- a refusal, whatever tokens are to come
pub record Refuses (h : Here) (m : Mem) (x : Graph) (n : Mem) (a : ℕ) : Type 0 where
  pub kept : Kept m n
  pub refusal : NO_SETS ≤ a
  pub steps : (w : List ℕ) → Steps h.size (view m) h.position (links_of x) w (outcome a 0 (view n))

-- what steps 1 and 2 came to
abbrev pub SettlesOr : Here → Mem → Graph → Mem → Graph → Result (Unit {0}) Refusal → Type 0
SettlesOr h m x n y (Ok _) = Settles h m x n y
SettlesOr h m x n y (Err r) = Refuses h m x n (refusal_number r)

-- the next position, after the token k; its nodes are those from s on
pub record Advances (h : Here) (k : ℕ) (m : Mem) (x : Graph) (s : ℕ) (n : Mem) (y : Graph) : Type 0 where
  pub kept : Kept m n
  pub stands : Stands (next h s) n y
  pub reaches : (w : List ℕ) → Reaches h.size (view m) h.position (links_of x) (k ∷ w) (view n) (suc h.position) (links_of y) w

-- What the buffer b holds where a line is accepted: the graph of its last position, which the steps from position p with the links ls
-- and the tokens w to come have reached, and which the l links in b make ready
pub record Holds (pool : ℕ) (t : Table) (p : ℕ) (ls : List Link) (w : List ℕ) (n : Mem) (b : List ℕ) (l : ℕ) : Type 0 where
  pub last : Here
  pub at : List ℕ
  pub nodes : ℕ
  pub stands : Stands last n (graph b at (counts nodes l 0))
  pub from : List Link
  pub reaches : Reaches pool t p ls w (view n) last.position from []
  pub ready : Ready pool (view n) last.position from (links_in b l)

-- the end of a parse with the tokens w to come; b is the buffer that it leaves
pub record Finishes (h : Here) (w : List ℕ) (m : Mem) (x : Graph) (n : Mem) (b : List ℕ) (v : Result Verdict Refusal) : Type 0 where
  pub kept : Kept m n
  pub steps : Steps h.size (view m) h.position (links_of x) w (outcome (number_of (answer_of_parse v)) (links_with v) (view n))
  pub accepted : number_of (answer_of_parse v) ≡ ACCEPT → Holds h.size (view m) h.position (links_of x) w n b (links_with v)

-- what the steps of a position before the last came to: y is then at the next one, or no node takes the token and the parse has ended
abbrev pub AdvancesOr : Here → ℕ → Mem → Graph → Mem → Links → Result Bool Refusal → Type 0
AdvancesOr h k m x n y (Ok true) = (y.here ≡ next h y.here.start) × Advances h k m x y.here.start n (graph_of y)
AdvancesOr h k m x n y (Ok false) = (w : List ℕ) → Finishes h (k ∷ w) m x n y.buf.now (Ok (record { accepts = false; links = y.counts.links }))
AdvancesOr h k m x n y (Err r) = (w : List ℕ) → Finishes h (k ∷ w) m x n y.buf.now (Err r)

-- the same two of a settled position, whatever place it was settled from
abbrev pub MovesOn : Here → ℕ → Mem → Graph → Links → Result Bool Refusal → Type 0
MovesOn h k n y z a = (m : Mem) (x : Graph) → Settles h m x n y → AdvancesOr h k m x n z a

abbrev pub Judges : Here → Mem → List ℕ → Counts → Verdict → Type 0
Judges h n b c v = (m : Mem) (x : Graph) (at : List ℕ) → Settles h m x n (graph b at c) → Finishes h [] m x n b (Ok v)

-- what reading a line asks for: a table in form, room for the pool's records, and a line that Parse's checks let pass
pub record Readable (pool : ℕ) (line : List ℕ) (m : Mem) (room : ℕ) : Type 0 where
  pub formed : Formed m
  pub roomy : numbers_for pool ≤ room
  pub fits : Fits pool line

-- the whole line
pub record Reads (pool : ℕ) (line : List ℕ) (m n : Mem) (b : List ℕ) (v : Result Verdict Refusal) : Type 0 where
  pub kept : Kept m n
  pub steps : Steps pool (view m) 0 [] line (outcome (number_of (answer_of_parse v)) (links_with v) (view n))
  pub accepted : number_of (answer_of_parse v) ≡ ACCEPT → Holds pool (view m) 0 [] line n b (links_with v)
