-- What the steps reach: whatever the steps from there come to, the steps from the start come to; and where the line's end is reached and
-- ready, the links at hand are exactly the graph of the table left. Assumes nothing.
use mathlib.Core.Path.{◌≡◌, refl}
use mathlib.Core.List.{List, []}
use Prim.Native.Nat.{ℕ, zero-le, ◌≤◌}
use lib.ListN.{length, drop}
use Rattle.theory.specs.Table.{Table}
use Rattle.theory.specs.Form.{InForm}
use Rattle.theory.specs.Parse.{Link, Outcome}
use Rattle.theory.specs.Steps.{Ready, Steps}
use Rattle.theory.specs.Steps.Steps.{expands, shifts}
use Rattle.theory.specs.Reaches.{Reaches}
use Rattle.theory.specs.Reaches.Reaches.{there, expands as expanding, shifts as shifting}
use Rattle.theory.proofs.FormGrown.{expand-in_form}
use Rattle.theory.proofs.Later.{expand-later}
use Rattle.theory.proofs.Grounded.{lowest_reach}
use Rattle.theory.proofs.Positions.{Position, first-position, saturated-position, later-position, shifted_position}
use Rattle.theory.proofs.Ends.{Finished, finished, none_after, expanded-here, reduces-here, 𝓙, head_of, end_of}

-- what the steps from the place that is reached come to, the steps from the first place come to
pub reaches-leads : {pool : ℕ} {t t' : Table} {p p' : ℕ} {ls ls' : List Link} {w w' : List ℕ}
    → Reaches pool t p ls w t' p' ls' w' → (o : Outcome) → Steps pool t' p' ls' w' o → Steps pool t p ls w o
reaches-leads there o s = s
reaches-leads (expanding a b c d r) o s = expands a b c d (reaches-leads r o s)
reaches-leads (shifting a b c d r) o s = shifts a b c d (reaches-leads r o s)

pub reaches-on : {pool : ℕ} {t t' t'' : Table} {p p' p'' : ℕ} {ls ls' ls'' : List Link} {w w' w'' : List ℕ}
    → Reaches pool t p ls w t' p' ls' w' → Reaches pool t' p' ls' w' t'' p'' ls'' w'' → Reaches pool t p ls w t'' p'' ls'' w''
reaches-on there s = s
reaches-on (expanding a b c d r) s = expanding a b c d (reaches-on r s)
reaches-on (shifting a b c d r) s = shifting a b c d (reaches-on r s)

-- a position of the line, with the links at hand
record Stood (line : List ℕ) (t : Table) (p : ℕ) (ls : List Link) (w : List ℕ) : Type 0 where
  form : InForm t
  position : Position t line p ls
  tokens : drop p line ≡ w
  low : p ≤ length line

stood : (line : List ℕ) {pool : ℕ} {t t' : Table} {p p' : ℕ} {ls ls' : List Link} {w w' : List ℕ}
    → Reaches pool t p ls w t' p' ls' w' → Stood line t p ls w → Stood line t' p' ls' w'
stood line there s = s
stood line {t = t} (expanding {u = u} a b c d r) s =
    let e = lowest_reach s.position.ground a c in
    stood line r (record {
      form = expand-in_form t s.form u e c.unexpanded;
      position = later-position s.form (expand-later t s.form u e c.unexpanded) (saturated-position s.position a);
      tokens = s.tokens;
      low = s.low;
    })
stood line {p = p} (shifting {x = x} {w = w} a b c d r) s =
    let (l, y, z) = head_of line p x w s.tokens in
    let expanded = expanded-here s.form s.position a in
    let reduces = reduces-here s.form s.position a in
    stood line r (record {
      form = s.form;
      position = shifted_position (𝓙 s.form s.position a) l y expanded reduces b;
      tokens = z;
      low = l;
    })

-- the end of the line, reached and ready: the links are exactly the graph's
pub reached_finished : (line : List ℕ) {pool p : ℕ} {t t' : Table} {ls m : List Link}
    → InForm t → Reaches pool t 0 [] line t' p ls [] → Ready pool t' p ls m → Finished t' line m
reached_finished line {p = p} {t = t} 𝓕 r ready =
    let s = stood line r (record { form = 𝓕; position = first-position t line; tokens = refl; low = zero-le }) in
    finished s.form s.position ready (none_after s.form s.position ready (end_of line p s.tokens s.low))
