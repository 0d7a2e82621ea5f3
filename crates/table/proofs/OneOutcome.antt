-- No second list of numbers fits a promise. Assumes nothing.
use mathlib.Core.List.{List}
use mathlib.Core.Path.{◌≡◌, sym, ◌∙◌}
use Prim.Native.Nat.{ℕ, ◌+◌, ◌*◌, ◌≤◌, ◌<◌}
use native.Mathlib.Decide.{dec_lt}
use native.Mathlib.Omega.{arith}
use lib.ListN.{length, get_or}
use lib.Seq.{ext_get_or}
use Rattle.theory.specs.Table.{Table}
use Rattle.table.specs.Layout.{Mem, sets_in, rules_in}
use Rattle.table.specs.Becomes.{Becomes}
use Rattle.table.proofs.Once.{Agree, agree}

-- the three slices of two memories are as long as each other
pub record SameLengths (a b : Mem) : Type 0 where
  pub rules : length a.rules ≡ length b.rules
  pub cells : length a.sets.cells ≡ length b.sets.cells
  pub words : length a.sets.words ≡ length b.sets.words

-- no second list of numbers fits
pub one_memory : (m a b : Mem) (t : Table) → Becomes m a t → Becomes m b t → SameLengths a b → a ≡ b
one_memory m a b t p q l =
    let g : Agree a b = agree a b p.laid q.laid (p.seen ∙ sym q.seen) in
    let es : sets_in a.rules ≡ sets_in b.rules = g.rules 0 (omega arith) in
    let er : rules_in a.rules ≡ rules_in b.rules = g.rules 1 (omega arith) in
    let r = slice (2 + rules_in a.rules * 10) a.rules b.rules m.rules l.rules g.rules p.rules (λ k h. q.rules k (omega arith)) in
    let c = slice (sets_in a.rules * 128) a.sets.cells b.sets.cells m.sets.cells l.cells g.cells p.cells (λ k h. q.cells k (omega arith)) in
    let w = slice (sets_in a.rules * 18) a.sets.words b.sets.words m.sets.words l.words g.words p.words (λ k h. q.words k (omega arith)) in
    λ i. record { rules = r i; sets = record { cells = c i; words = w i } }
  where
    -- two slices that agree up to n and from there on are as the old one was
    slice : (n : ℕ) (x y z : List ℕ) → length x ≡ length y → ((k : ℕ) → k < n → get_or x k 0 ≡ get_or y k 0)
        → ((k : ℕ) → n ≤ k → get_or x k 0 ≡ get_or z k 0) → ((k : ℕ) → n ≤ k → get_or y k 0 ≡ get_or z k 0) → x ≡ y
    slice n x y z e in_pool out₁ out₂ =
        ext_get_or 0 x y e (λ k l. elim (dec_lt k n) [ yes h ↦ in_pool k h | no h ↦ out₁ k (omega arith) ∙ sym (out₂ k (omega arith)) ])
