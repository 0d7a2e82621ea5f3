-- Link after link taken: the places have the keys of the links so far, and no others. Assumes nothing.
use mathlib.Core.Bool.{Bool, true, false}
use mathlib.Core.Path.{◌≡◌, refl, sym, subst}
use mathlib.Core.Logic.{⊎_elim}
use mathlib.Core.List.Memᴰ
use mathlib.Core.List.Memᴰ.{head as here}
use mathlib.Core.List.Memᴰ.{tail as there}
use mathlib.Core.List.{List, ◌∷◌}
use Prim.Native.Nat.{ℕ, ◌+◌}
use native.Mathlib.Numerals.{add-one}
use native.Mathlib.Omega.{arith}
use lib.Dec.{T}
use Rattle.laws.proofs.Tests.{passes, fails}
use Rattle.symbols.specs.Symbol.{nonterminal}
use Rattle.theory.specs.Parse.{Link}
use Rattle.links.specs.Records.{link_of, links_in}
use Rattle.spans.specs.Steps.{Has, Inserts, symbol_to, key_to, Takes, Of, Taken}

pub none_taken : (sy b a : List ℕ) → Taken sy (links_in b 0) a 0
unfolding links_in
none_taken sy b a = record {
  few = omega arith;
  ascending = λ e f h l. absurd (omega arith);
  every = λ l m t. absurd (Memᴰ.not-nil m);
  only = λ e h. absurd (omega arith);
}

older : {sy : List ℕ} {ls : List Link} {l : Link} {key : ℕ} → Of sy ls key → Of sy (l ∷ ls) key
older o = record { link = o.link; among = there o.among; span = o.span; is = o.is }

module _ {sy a : List ℕ} {count : ℕ} {ls : List Link} {l : Link} (taken : Taken sy ls a count) where
  taken_span : {c : List ℕ} {after : ℕ} → T (nonterminal (symbol_to sy l)) → Inserts a c count (key_to sy l) after → Taken sy (l ∷ ls) c after
  taken_span {c} {after} t i = record {
    few = omega (arith, taken.few, i.more);
    ascending = i.ascending;
    every = λ k m u. ⊎_elim
        (λ q. subst (λ k. Has c after (key_to sy k)) (sym q) i.there)
        (λ n. let h = taken.every k n u in subst (Has c after) h.is (i.held h.place h.inside))
        (Memᴰ.cases_cons m);
    only = λ e h. ⊎_elim
        (λ q. record { link = l; among = here refl; span = t; is = q })
        (λ g. subst (Of sy (l ∷ ls)) g.is (older (taken.only g.place g.inside)))
        (i.only e h);
  }

  taken_other : (T (nonterminal (symbol_to sy l)) → ⊥) → Taken sy (l ∷ ls) a count
  taken_other n = record {
    few = omega (arith, taken.few);
    ascending = taken.ascending;
    every = λ k m u. ⊎_elim
        (λ q. absurd (n (subst (λ k. T (nonterminal (symbol_to sy k))) q u)))
        (λ i. taken.every k i u)
        (Memᴰ.cases_cons m);
    only = λ e h. older (taken.only e h);
  }

  taken_more : {c : List ℕ} {after : ℕ} → Takes sy l a c count after → Taken sy (l ∷ ls) c after
  taken_more {c} {after} takes = go (nonterminal (symbol_to sy l)) refl
    where
      go : (b : Bool) → nonterminal (symbol_to sy l) ≡ b → Taken sy (l ∷ ls) c after
      go true e = taken_span (passes e) (takes.span (passes e))
      go false e =
          let (q, r) = takes.other (fails e) in
          subst (λ d. Taken sy (l ∷ ls) d after) (sym q) (subst (Taken sy (l ∷ ls) a) (sym r) (taken_other (fails e)))

pub link_taken : (b : List ℕ) (k : ℕ) {sy a c : List ℕ} {count after : ℕ} → Taken sy (links_in b k) a count → Takes sy (link_of b (k + 1)) a c count after
    → Taken sy (links_in b (k + 1)) c after
unfolding links_in
link_taken b k {sy} {a} {c} {count} {after} taken takes =
    subst (λ n. Taken sy (links_in b n) c after) (sym (add-one k))
    (taken_more taken (subst (λ n. Takes sy (link_of b n) a c count after) (add-one k) takes))
