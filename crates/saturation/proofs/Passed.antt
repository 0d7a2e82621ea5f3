-- A pass whose new links all came with their nodes leaves a saturated position; a link that did not fit, one that has too many.
-- Assumes nothing.
use mathlib.Core.Path.{◌≡◌, refl, sym, ◌∙◌, ap, ap₂, subst}
use mathlib.Core.Logic.{◌≢◌, ⊎_elim}
use mathlib.Core.List.Memᴰ
use mathlib.Core.List.{List, ◌∷◌, Memᴰ as In}
use Prim.Native.Nat.{ℕ, suc, ◌+◌, ◌≤◌, ◌<◌}
use native.Mathlib.Omega.{arith}
use lib.ListN.{length}
use Rattle.laws.specs.Lists.Distinct.{one_more}
use Rattle.theory.specs.Table.{Table, rule_at, set_at, automaton}
use Rattle.theory.specs.Parse.{Link, link}
use Rattle.theory.specs.Steps.{Linked, Noded, Path}
use Rattle.theory.specs.Steps.Linked.{given, reduced}
use Rattle.theory.specs.Steps.Noded.{root, source}
use Rattle.theory.specs.Steps.Path.{here, down}
use Rattle.theory.proofs.Counting.{no_longer}
use Rattle.table.specs.Layout.{Mem, sets_in, rule_number, cell, bit_of, view}
use Rattle.table.specs.Laid.{Formed}
use Rattle.links.specs.declared.Here.{Here}
use Rattle.links.specs.Records.{under, position, in_set, Graph, links_of}
use Rattle.links.specs.Held.{Edge, Held, Grown, Even}
use Rattle.links.proofs.Listed.{in_links, count, distinct, in_grown, grown_refl, grown_trans, from_start}
use Rattle.levels.specs.Reached.{Down}
use Rattle.levels.specs.Reached.Down.{stay, on}
use Rattle.saturation.specs.Wanted.{AtEvery}
use Rattle.saturation.specs.Moves.{Within, Works}
use Rattle.saturation.specs.Ends.{Saturates}
use Rattle.saturation.proofs.Nodes.{NodeAt, source-node}
use Rattle.saturation.proofs.Table.{cell-of, bit-of, left_in, left_is, length-is}

-- ---- a graph that has all that its reductions bring holds all that they make of the links ls

module _ {m : Mem} (F : Formed m) {h : Here} {x : Graph} (H : Held h x) (few : h.sets ≡ sets_in m.rules)
    (C : (l : Link) → AtEvery m h.position h.start x l → In l (links_of x)) (ls : List Link) (old_in : (l : Link) → In l ls → In l (links_of x)) where
  record PathTo (n k j t : ℕ) : Type 0 where
    end : ℕ
    path : Down x.buf x.links n k end
    inside : end < x.nodes
    at_position : position x.buf end ≡ j
    at_set : in_set x.buf end ≡ t

  cons : {n a k e : ℕ} → Edge x.buf x.links n a → Down x.buf x.links a k e → Down x.buf x.links n (suc k) e
  cons f stay = on stay f
  cons f (on q g) = on (cons f q) g

  first_edge : {n i u j v : ℕ} → n < x.nodes → position x.buf n ≡ i → in_set x.buf n ≡ u → In (link i u j v) (links_of x)
      → (a : ℕ) × Edge x.buf x.links n a × (a < x.nodes) × (position x.buf a ≡ j) × (in_set x.buf a ≡ v)
  first_edge l e f i =
      let (k, u, v, q) = (in_links x.buf x.links).0 i in (
        under x.buf k,
        record { k = k; some = u; inside = v; from = H.core.unique _ _ (H.core.source_in k u v) l (sym (ap (λ a. a.i) q) ∙ sym e) (sym (ap (λ a. a.s) q) ∙ sym f); to = refl },
        H.core.under_in k u v,
        sym (ap (λ a. a.j) q),
        sym (ap (λ a. a.t) q),
      )

  by-new : {u j v s : ℕ} (r : ℕ) (a : NodeAt x h.position u) → In r (set_at (view m).sets u).reductions
      → PathTo a.n (length (rule_at (view m).rules r).right) j v → (automaton (view m)).Goto v (rule_at (view m).rules r).left s → In (link h.position s j v) (links_of x)
  by-new {u} {j} {v} {s} r a d w g =
      let su : u < sets_in m.rules = (let l = H.core.in_sets a.n a.inside in let e = a.at_set in omega arith) in
      let sv : v < sets_in m.rules = (let l = H.core.in_sets w.end w.inside in let e = w.at_set in omega arith) in
      let (k, red) = bit-of m F u r su d in
      let lt : r < 128 = omega (arith, F.laid.sized.few_rules) in
      let (p, q) = left_in m F u r su lt red in
      C (link h.position s j v) (record {
        n = a.n;
        from = from_start x H.core a.n a.inside a.at_position;
        low = a.inside;
        by = record {
          r = r;
          low = lt;
          inside = lt;
          red = ap (λ u. bit_of m.sets u (1024 + r)) a.at_set ∙ red;
          by = record {
            end = w.end;
            path = subst (λ k. Down x.buf x.links a.n k w.end) (length-is m F r k) w.path;
            to = record {
              s = s;
              is = ap (λ v. cell m.sets v (rule_number m.rules r 1)) w.at_set
                  ∙ cell-of m F v (rule_number m.rules r 1) s sv p q (subst (λ a. (automaton (view m)).Goto v a s) (left_is m F r k) g);
              some = g.1;
              the = ap₂ (λ j v. link h.position s j v) (sym w.at_position) (sym w.at_set);
            };
          };
        };
      })

  mutual
    node_at : {u : ℕ} → Noded (view m) ls h.position u → NodeAt x h.position u
    node_at (root e) = record { n = 0; inside = H.core.some; at_position = H.core.root_position ∙ sym e; at_set = H.core.root_set }
    node_at (source q) = source-node H (linked-in q)

    pub linked-in : {l : Link} → Linked (view m) ls h.position l → In l (links_of x)
    linked-in (given i) = old_in _ i
    linked-in (reduced r n d q g e) = let a = node_at n in Memᴰ.cast (sym e) (by-new r a d (path-to a.inside a.at_position a.at_set q) g)

    path-to : {k i u j v n : ℕ} → n < x.nodes → position x.buf n ≡ i → in_set x.buf n ≡ u → Path (view m) ls h.position k i u j v → PathTo n k j v
    path-to {n = n} l e f here = record { end = n; path = stay; inside = l; at_position = e; at_set = f }
    path-to l e f (down q r) =
        let (a, g, i, y, z) = first_edge l e f (linked-in q) in
        let w = path-to i y z r in
        record { end = w.end; path = cons g w.path; inside = w.inside; at_position = w.at_position; at_set = w.at_set }

-- ---- saturation

-- passes so far
pub record Passing (t : Table) (h : Here) (x y : Graph) : Type 0 where
  pub held : Held h y
  pub grown : Grown x y
  pub keeps : (ls : List Link) → Within t h ls x → Within t h ls y

module _ {t : Table} {h : Here} where
  pub pass_start : (x : Graph) → Held h x → Passing t h x x
  pass_start x H = record { held = H; grown = grown_refl x; keeps = λ ls g. g }

  pub pass_next : {x y z : Graph} {W : Graph → Link → Type 0} → Passing t h x y → Works t h W y z → Passing t h x z
  pass_next D E = record { held = E.held; grown = grown_trans D.grown E.grown; keeps = λ ls g. E.keeps ls (D.keeps ls g) }

  within : {x y : Graph} → x.over ≡ 0 → Passing t h x y → Within t h (links_of x) y
  within {x} o D = D.keeps (links_of x) (record { below = λ l i. given i; full = λ q. absurd (q o) })

  -- a link did not fit: the links held and it are among the saturation
  pub pass_over : {x y z : Graph} {W : Graph → Link → Type 0} → x.over ≡ 0 → Passing t h x y → Works t h W y z → z.over ≢ 0 → Saturates t h x z
  pass_over {x} {y} {z} fresh D E o = record {
    held = E.held;
    whole = λ q. absurd (o q);
    more = λ _ n S.
        let G = within fresh (pass_next D E) in
        let (e, l, s, out) = G.full o in
        let c : length (links_of z) ≡ z.links = count z.buf z.links in
        let k : length (l ∷ links_of z) ≤ length n = no_longer (one_more out (distinct z E.held.core)) n
        (λ a i. ⊎_elim (λ q. (S.all a).1 (subst (Linked t (links_of x) h.position) (sym q) s)) (λ i. (S.all a).1 (G.below a i)) (Memᴰ.cases_cons i)) in
        omega arith;
  }

pub pass_last : {m : Mem} → Formed m → {h : Here} {x y z : Graph} → h.sets ≡ sets_in m.rules → Held h x → x.over ≡ 0 → Passing (view m) h x y
    → Works (view m) h (AtEvery m h.position h.start) y z → z.over ≡ 0 → Even y z → Saturates (view m) h x z
pass_last {m} F {h} {x} {y} {z} few H fresh D E o e = record {
  held = E.held;
  whole = λ _. record {
    once = distinct z E.held.core;
    all = λ l. (
      (within fresh (pass_next D E)).below l,
      linked-in F E.held few (E.there o e) (links_of x) (λ l i. in_grown H.core (grown_trans D.grown E.grown) i),
    );
  };
  more = λ q. absurd (q o);
}
