-- What a shift leaves. Assumes nothing.
use mathlib.Core.Path.{◌≡◌, sym, ◌∙◌, ap, ap₂, subst}
use mathlib.Core.Logic.{inl, inr, ⊎_elim}
use mathlib.Core.List.Memᴰ
use mathlib.Core.List.{List, ◌∷◌, Memᴰ as In}
use Prim.Native.Nat.{ℕ, suc, ◌+◌, ◌≤◌, ◌<◌}
use native.Mathlib.Numerals.{add-one}
use native.Mathlib.Omega.{arith}
use lib.ListN.{length}
use Rattle.laws.specs.Lists.Distinct.{one_more}
use Rattle.theory.specs.Table.{automaton}
use Rattle.theory.specs.Parse.{Link, link, nodes_at}
use Rattle.theory.specs.Steps.{Shifted}
use Rattle.theory.proofs.Counting.{no_longer}
use Rattle.table.specs.Layout.{Mem, sets_in, cell, view}
use Rattle.table.specs.Laid.{Formed}
use Rattle.links.specs.declared.Here.{Here}
use Rattle.links.specs.Records.{in_set, Graph, links_of}
use Rattle.links.specs.Held.{Held}
use Rattle.links.proofs.Listed.{count, distinct, in_grown}
use Rattle.saturation.specs.Wanted.{ToSpan}
use Rattle.saturation.specs.Moves.{Does}
use Rattle.saturation.specs.Ends.{next, Shifts}
use Rattle.saturation.proofs.Nodes.{here_in, here_of, set-low}
use Rattle.saturation.proofs.Table.{goto-of, cell-of}

module _ {m : Mem} (F : Formed m) {h : Here} {x y : Graph} (H : Held h x) (few : h.sets ≡ sets_in m.rules) (fresh : x.over ≡ 0) (a : ℕ) (one : 1 ≤ a) (lt : a < 128)
    (D : Does (next h x.nodes) (ToSpan x.buf m.sets.cells (h.position + 1) a h.start x.nodes) x y) where
  New : Link → Type 0
  New l = (u : ℕ) × (s : ℕ) × In u (nodes_at (links_of x) h.position) × (automaton (view m)).Goto u a s × (l ≡ link (suc h.position) s h.position u)

  new_of : (l : Link) → ToSpan x.buf m.sets.cells (h.position + 1) a h.start x.nodes l → New l
  unfolding New
  new_of l w =
      let u = in_set x.buf w.m in (
        u,
        w.to.s,
        here_in H w.m w.low w.from,
        goto-of m F u a w.to.s (set-low H few w.m w.low) one lt w.to.is w.to.some,
        w.to.the ∙ ap₂ (λ i j. link i w.to.s j u) (add-one h.position) (H.core.here w.m w.low w.from),
      )

  span_of : (l : Link) → New l → ToSpan x.buf m.sets.cells (h.position + 1) a h.start x.nodes l
  unfolding New
  span_of l (u, s, i, g, e) =
      let (n, from, low, is) = here_of H i in record {
        m = n;
        from = from;
        low = low;
        to = record {
          s = s;
          is = ap (λ u. cell m.sets u a) is ∙ cell-of m F u a s (subst (λ u. u < sets_in m.rules) is (set-low H few n low)) one lt g;
          some = g.1;
          the = e ∙ (λ z. link (sym (add-one h.position) z) s (sym (H.core.here n low from) z) (sym is z));
        };
      }

  held_of : {n : List Link} → Shifted (view m) h.position a (links_of x) n → (l : Link) → In l (links_of y) → In l n
  unfolding New
  held_of S l i = (S.all l).1 (⊎_elim inl (λ w. inr (new_of l w)) (D.only l i))

  pub shifts : Shifts (view m) h a x y
  unfolding New
  shifts = record {
    held = D.held;
    whole = λ o. record {
      once = distinct y D.held.core;
      all = λ l. (
        λ i. ⊎_elim inl (λ w. inr (new_of l w)) (D.only l i),
        ⊎_elim (λ i. in_grown H.core D.grown i) (λ w. D.there o l (span_of l w)),
      );
    };
    more = λ o n S. ⊎_elim (λ q. absurd (q fresh)) (λ (e, l, w, out).
        let c : length (links_of y) ≡ y.links = count y.buf y.links in
        let k : length (l ∷ links_of y) ≤ length n = no_longer (one_more out (distinct y D.held.core)) n
        (λ b i. ⊎_elim (λ q. (S.all b).1 (inr (subst New (sym q) (new_of l w)))) (held_of S b) (Memᴰ.cases_cons i)) in
        omega arith) (D.full o);
  }
