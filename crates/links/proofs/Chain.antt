-- A walk along the chain of a node's links. Assumes nothing.
use mathlib.Core.Path.{◌≡◌, sym, ◌∙◌, ap, subst}
use mathlib.Core.Logic.{◌≢◌}
use mathlib.Core.List.{List}
use Prim.Native.Nat.{ℕ, ◌+◌, ◌*◌, ◌≤◌, ◌<◌}
use native.Mathlib.Decide.{ℕ_discrete, dec_lt}
use native.Mathlib.Omega.{arith}
use lib.ListN.{length}
use Rattle.links.specs.declared.Here.{Here}
use Rattle.links.specs.Records.{source, under, previous, last_link, Graph}
use Rattle.links.specs.Held.{Edge, Core, Chained}

-- the walk stands at link k, and Q holds of each link of n's that it passed
pub record Walk (b : List ℕ) (l n k : ℕ) (Q : ℕ → Type 0) : Type 0 where
  pub below : k ≤ l
  pub is : k ≢ 0 → source b k ≡ n
  pub past : (j : ℕ) → k < j → j ≤ l → source b j ≡ n → Q j

module _ {b : List ℕ} {nodes links : ℕ} (C : Chained b nodes links) {n : ℕ} {Q : ℕ → Type 0} where
  pub walk_start : {k : ℕ} → n < nodes → k ≡ last_link b n → Walk b links n k Q
  walk_start {k} h e =
      let l = C.lasts n h in
      let f = l.below in record {
        below = omega arith;
        is = λ z. ap (source b) e ∙ l.is (λ y. z (e ∙ y));
        past = λ j u v w. absurd (l.after j (omega arith) (omega arith) w);
      }

  pub walk_next : {k k' : ℕ} → Walk b links n k Q → k ≢ 0 → k' ≡ previous b k → Q k → Walk b links n k' Q
  walk_next {k} {k'} w z e q =
      let a = w.below in
      let l = C.chain k (omega arith) a in
      let f = l.below in
      let s : source b k ≡ n = w.is z in record {
        below = omega arith;
        is = λ y. ap (source b) e ∙ l.is (λ u. y (e ∙ u)) ∙ s;
        past = λ j u v t. elim (ℕ_discrete j k) [
          | yes d ↦ subst Q (sym d) q
          | no d ↦ elim (dec_lt k j) [ yes c ↦ w.past j c v t | no c ↦ absurd (l.after j (omega arith) (omega arith) (t ∙ sym s)) ]
        ];
      }

pub edge_at : {b : List ℕ} {l n k : ℕ} {Q : ℕ → Type 0} → Walk b l n k Q → k ≢ 0 → (m : ℕ) → under b k ≡ m → Edge b l n m
edge_at {k = k} w z m e = record { k = k; some = omega arith; inside = w.below; from = w.is z; to = e }

pub walk_end : {b : List ℕ} {l n k : ℕ} {Q : ℕ → Type 0} → Walk b l n k Q → k ≡ 0 → {m : ℕ} → ((j : ℕ) → under b j ≡ m → Q j → ⊥) → Edge b l n m → ⊥
walk_end w z f e = f e.k e.to (w.past e.k (let h = e.some in omega arith) e.inside e.from)

-- a node's record is inside
pub node-inside : {b : List ℕ} {nodes links : ℕ} → Chained b nodes links → {n : ℕ} → n < nodes → n * 6 + 5 < length b
node-inside C h = omega (arith, C.node_room)

pub chained : {h : Here} {x : Graph} → Core h x → Chained x.buf x.nodes x.links
chained C = record {
  link_room = omega (arith, C.fits, C.room);
  node_room = omega (arith, C.node_room, C.room);
  few = omega (arith, C.node_room, C.few);
  under_in = C.under_in;
  chain = C.chain;
  lasts = C.lasts;
}
