-- From a node to the nodes under it, from a level to the next, and k levels down. Assumes nothing.
use mathlib.Core.Path.{◌≡◌, refl, sym, ◌∙◌, ap, subst}
use mathlib.Core.Logic.{◌≢◌, ◌⊎◌, inr, ⊎_elim}
use mathlib.Core.List.{List}
use Prim.Native.Nat.{ℕ, zero, suc, ◌+◌, ◌-◌, ◌≤◌, ◌<◌}
use native.Mathlib.Decide.{ℕ_discrete}
use native.Mathlib.Numerals.{add-one}
use native.Mathlib.Omega.{arith}
use lib.ListN.{length, get_or, set}
use lib.Seq.{get_or-set_same}
use Rattle.links.specs.Records.{under, previous}
use Rattle.links.specs.Held.{Edge, Chained}
use Rattle.links.proofs.Chain.{Walk, walk_next, edge_at}
use Rattle.levels.specs.Lists.{listed, On, Listed, Made, OtherSame, Puts}
use Rattle.levels.specs.Reached.{Spread, Under, Down, Reached}
use Rattle.levels.specs.Reached.Down.{stay, on}

-- ---- the nodes under a node

-- in the midst of the walk, at link k
pub record Spreading (b : List ℕ) (links side nodes n k : ℕ) (w : List ℕ) (c : ℕ) (w' : List ℕ) (c' : ℕ) : Type 0 where
  pub walk : Walk b links n k (λ j. On w' side c' (under b j))
  pub made : Made w' side c' nodes
  pub old : (m : ℕ) → On w side c m → On w' side c' m
  pub only : (m : ℕ) → On w' side c' m → On w side c m ⊎ Edge b links n m
  pub other : OtherSame side w w'

module _ {b : List ℕ} {nodes links : ℕ} (C : Chained b nodes links) {side n : ℕ} {w : List ℕ} {c : ℕ} where
  pub under_low : {w' : List ℕ} {c' k m : ℕ} → Spreading b links side nodes n k w c w' c' → k ≢ 0 → m ≡ under b k → m < nodes
  under_low {k = k} S z e = let l = S.walk.below in let h = C.under_in k (omega arith) l in omega arith

  pub spread_next : {w' w'' : List ℕ} {c' c'' k k' m : ℕ} → Spreading b links side nodes n k w c w' c' → k ≢ 0 → m ≡ under b k → k' ≡ previous b k
      → Puts side nodes m w' c' w'' c'' → Spreading b links side nodes n k' w c w'' c''
  spread_next {w'' = w''} {c'' = c''} {m = m} S z f e P = record {
    walk = walk_next C (record { below = S.walk.below; is = S.walk.is; past = λ j u v s. P.old (under b j) (S.walk.past j u v s) }) z e
        (subst (On w'' side c'') f P.new);
    made = P.made;
    old = λ a o. P.old a (S.old a o);
    only = λ a o. ⊎_elim (S.only a) (λ q. inr (edge_at S.walk z a (sym f ∙ sym q))) (P.only a o);
    other = λ i l. P.other i l ∙ S.other i l;
  }

-- ---- the level under a level: of the first i of its n nodes

pub record Going (b : List ℕ) (links nodes : ℕ) (w : List ℕ) (from n i : ℕ) (w' : List ℕ) (side c : ℕ) : Type 0 where
  pub made : Made w' side c nodes
  pub all : (j m : ℕ) → j < i → Edge b links (listed w from j) m → On w' side c m
  pub only : (m : ℕ) → On w' side c m → (j : ℕ) × (j < n) × Edge b links (listed w from j) m
  pub same : (j : ℕ) → j < 4097 → listed w' from j ≡ listed w from j

module _ {b : List ℕ} {links nodes : ℕ} {w : List ℕ} {from n side : ℕ} where
  module _ {i c m : ℕ} {w' : List ℕ} (G : Going b links nodes w from n i w' side c) (i_low : i < n) (n_few : n ≤ 4097) (is : m ≡ listed w' from i) where
    the-node : m ≡ listed w from i
    the-node = is ∙ G.same i (omega arith)

    pub node-low : Listed w from n nodes → m < nodes
    node-low L = let h = L.inside i i_low in let e = the-node in omega arith

    pub go-next : {c' : ℕ} {w'' : List ℕ} → side ≤ 1 → from ≡ 1 - side → Spread b links side nodes m w' c w'' c' → Going b links nodes w from n (i + 1) w'' side c'
    go-next {w'' = w''} l f S = record {
      made = S.made;
      all = λ j a h e. elim (ℕ_discrete j i) [
        | yes z ↦ S.new a (subst (λ k. Edge b links k a) (ap (λ j. listed w from j) z ∙ sym the-node) e)
        | no z ↦ S.old a (G.all j a (omega arith) e)
      ];
      only = λ a o. ⊎_elim (G.only a) (λ e. (i, i_low, subst (λ k. Edge b links k a) the-node e)) (S.only a o);
      same = λ j h. ap (λ s. listed w'' s j) f ∙ S.other j h ∙ ap (λ s. listed w' s j) (sym f) ∙ G.same j h;
    }

  pub go_end : {i c : ℕ} {w' : List ℕ} → Going b links nodes w from n i w' side c → n ≤ i → Under b links nodes w from n w' side c
  go_end G l = record { list = G.made.list; all = λ j m h e. G.all j m (omega arith) e; only = G.only }

-- ---- k levels

down_back : {b : List ℕ} {links n k m : ℕ} → Down b links n (suc k) m → (a : ℕ) × Down b links n k a × Edge b links a m
down_back (on {a = a} p e) = (a, p, e)

down_zero : {b : List ℕ} {links n m : ℕ} → Down b links n zero m → m ≡ n
down_zero stay = refl

module _ {b : List ℕ} {links nodes n : ℕ} where
  pub reached-start : (w w' : List ℕ) → n < nodes → length w ≡ 12291 → w' ≡ set w 0 n → Reached b links nodes n 0 w' 0 1
  reached-start w w' h long is = record {
    list = record { inside = λ i l. let e = first i l in omega arith; once = λ i j l g. absurd (omega arith) };
    all = λ m d. record { i = 0; low = omega arith; is = first 0 (omega arith) ∙ sym (down_zero d) };
    only = λ m o. subst (Down b links n zero) (sym (first o.i o.low) ∙ o.is) stay;
  }
    where
      first : (i : ℕ) → i < 1 → listed w' 0 i ≡ n
      first i l = let z : i ≡ 0 = omega arith in ap (λ i. listed w' 0 i) z ∙ ap (λ w. get_or w 0 0) is ∙ get_or-set_same w 0 n 0 (omega arith)

  pub reached-next : {w w' : List ℕ} {k side c side' c' : ℕ} → Reached b links nodes n k w side c → Under b links nodes w side c w' side' c'
      → Reached b links nodes n (k + 1) w' side' c'
  reached-next {w} {w'} {k} {side} {c} {side'} {c'} R U = subst (λ k. Reached b links nodes n k w' side' c') (sym (add-one k)) (record {
    list = U.list;
    all = λ m d. let (a, q, e) = down_back d in let o = R.all a q in U.all o.i m o.low (subst (λ a. Edge b links a m) (sym o.is) e);
    only = λ m o. let (i, l, e) = U.only m o in on (R.only (listed w side i) (record { i = i; low = l; is = refl })) e;
  })
