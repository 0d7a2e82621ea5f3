-- The positions of a line one after the other: what holds at each, the first, the next, and the ends; and that on accept the buffer
-- holds the graph. Assumes nothing.
use mathlib.Core.Path.{◌≡◌, sym, ◌∙◌, ap, subst}
use mathlib.Core.List.{List, [], ◌∷◌}
use Prim.Native.Nat.{ℕ, suc, ◌+◌, ◌≤◌, ◌<◌}
use native.Mathlib.Numerals.{add-one}
use native.Mathlib.Omega.{arith}
use lib.Dec.{T}
use lib.ListN.{length, get_or, drop}
use lib.Seq.{drop-cons, drop-length}
use Rattle.laws.proofs.Tests.{tests, all-below}
use Rattle.symbols.specs.Answer.{ACCEPT, number_of, answer_of_parse, links_with}
use Rattle.symbols.specs.Symbol.{terminal}
use Rattle.theory.specs.Table.{Table}
use Rattle.theory.specs.Parse.{Link}
use Rattle.theory.specs.Reaches.{Reaches}
use Rattle.theory.specs.Reaches.Reaches.{there}
use Rattle.theory.specs.Calls.{all_tokens}
use Rattle.theory.proofs.Grounded.{Grounded, grounded}
use Rattle.theory.proofs.Reaching.{reaches-leads, reaches-on, reached_finished}
use Rattle.theory.proofs.Ends.{Finished}
use Rattle.table.specs.Layout.{Mem, sets_in, view}
use Rattle.table.specs.Laid.{Formed}
use Rattle.links.specs.declared.Here.{Here}
use Rattle.links.specs.declared.Counts.{Counts}
use Rattle.links.specs.Records.{Graph, graph, counts, links_in, links_of}
use Rattle.links.specs.Held.{Held}
use Rattle.std.specs.Prelude.{Result}
use Rattle.symbols.specs.declared.refusal.Refusal.{Refusal}
use Rattle.symbols.specs.declared.verdict.Verdict.{Verdict}
use Rattle.positions.specs.Reading.{Stands, Kept, Advances, Holds, Finishes, Reads}
use Rattle.positions.proofs.Kept.{kept-none, kept_trans}

abbrev pub here : ℕ → ℕ → ℕ → ℕ → Here
here p start size sets = record { position = p; start = start; size = size; sets = sets }

-- at position p: n and y are the table's numbers and the graph, m what the table's were at first
pub record At (size sets : ℕ) (line : List ℕ) (m : Mem) (p start : ℕ) (n : Mem) (y : Graph) : Type 0 where
  pub low : p ≤ length line
  pub kept : Kept m n
  pub stands : Stands (here p start size sets) n y
  pub reaches : Reaches size (view m) 0 [] line (view n) p (links_of y) (drop p line)

pub at_start : {size sets : ℕ} {line : List ℕ} {m : Mem} {b a : List ℕ} {c : Counts} → Formed m → sets ≡ sets_in m.rules
    → (c ≡ counts 1 0 0) × Held (here 0 0 size sets) (graph b a c) → At size sets line m 0 0 m (graph b a c)
unfolding links_in
at_start {size = size} {line = line} {m = m} {b = b} {c = c} f s (e, held) = record {
  low = omega arith;
  kept = kept-none f;
  stands = record {
    formed = f;
    sets = s;
    held = held;
    in_pool = ap (λ c. c.over) e;
    grounded = subst (Grounded _ 0) (sym none) (grounded _);
  };
  reaches = subst (λ l. Reaches size (view m) 0 [] line (view m) 0 l line) (sym none) there;
}
  where
    none : links_in b c.links ≡ []
    none = ap (λ c. links_in b c.links) e

-- what the buffer holds is reached from wherever the place is that the steps went on from
holds-from : {pool : ℕ} {t t' : Table} {p p' : ℕ} {ls ls' : List Link} {w w' : List ℕ} {n : Mem} {b : List ℕ} {l : ℕ}
    → Reaches pool t p ls w t' p' ls' w' → Holds pool t' p' ls' w' n b l → Holds pool t p ls w n b l
holds-from r h = record {
  last = h.last;
  at = h.at;
  nodes = h.nodes;
  stands = h.stands;
  from = h.from;
  reaches = reaches-on r h.reaches;
  ready = h.ready;
}

module _ {size sets : ℕ} {line : List ℕ} {m : Mem} {p start : ℕ} {n : Mem} {y : Graph} (I : At size sets line m p start n y) where
  -- what is reached with the tokens w to come, which are those of the line
  reached : {w : List ℕ} → drop p line ≡ w → Reaches size (view m) 0 [] line (view n) p (links_of y) w
  reached e = subst (Reaches size (view m) 0 [] line (view n) p (links_of y)) e I.reaches

  read_to-end : {w : List ℕ} {n' : Mem} {b : List ℕ} {v : Result Verdict Refusal} → drop p line ≡ w
      → Finishes (here p start size sets) w n y n' b v → Reads size line m n' b v
  read_to-end e f = record {
    kept = kept_trans I.kept f.kept;
    steps = reaches-leads (reached e) _ f.steps;
    accepted = λ a. holds-from (reached e) (f.accepted a);
  }

  module _ (l : p < length line) where
    pub at_next : {n' : Mem} {z : Graph} {s : ℕ} → Advances (here p start size sets) (get_or line p 0) n y s n' z
        → At size sets line m (p + 1) s n' z
    at_next {n'} {z} A = record {
      low = omega arith;
      kept = kept_trans I.kept A.kept;
      stands = A.stands;
      reaches = subst (λ i. Reaches size (view m) 0 [] line (view n') i (links_of z) (drop i line)) (sym (add-one p))
          (reaches-on (reached (drop-cons line p 0 l)) (A.reaches (drop (suc p) line)));
    }

    pub at-end : {n' : Mem} {b : List ℕ} {v : Result Verdict Refusal} → ((w : List ℕ) → Finishes (here p start size sets) (get_or line p 0 ∷ w) n y n' b v)
        → Reads size line m n' b v
    at-end F = read_to-end (drop-cons line p 0 l) (F (drop (suc p) line))

  pub at_last : length line ≤ p → {n' : Mem} {b : List ℕ} {v : Result Verdict Refusal} → Finishes (here p start size sets) [] n y n' b v
      → Reads size line m n' b v
  at_last l f = let low = I.low in let e : p ≡ length line = omega arith in read_to-end (ap (λ i. drop i line) e ∙ drop-length line) f

-- on accept the buffer holds exactly the links of the graph of the table left, and all sets of its nodes are expanded
pub holds-graph : {pool : ℕ} {line : List ℕ} {m n : Mem} {b : List ℕ} {v : Result Verdict Refusal} → Formed m → Reads pool line m n b v
    → number_of (answer_of_parse v) ≡ ACCEPT → Finished (view n) line (links_in b (links_with v))
holds-graph {line = line} f r a = let h = r.accepted a in reached_finished line f.form h.reaches h.ready

-- "each 1 to 63"
pub token-fits : (line : List ℕ) → T (all_tokens line) → (p : ℕ) → p < length line → (1 ≤ get_or line p 0) × (get_or line p 0 ≤ 63)
unfolding all_tokens terminal
token-fits line t p l = simp tests at ((all-below (length line) (λ i. terminal (get_or line i 0))).0 t p l)
