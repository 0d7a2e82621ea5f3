-- The graph of the root alone. Assumes nothing.
use mathlib.Core.Path.{◌≡◌, sym, ap, subst, ◌∙◌}
use mathlib.Core.List.{List}
use Prim.Native.Nat.{ℕ, ◌+◌, ◌*◌, ◌≤◌, ◌<◌}
use native.Mathlib.Omega.{arith}
use lib.ListN.{length, get_or, set, length-set}
use lib.Seq.{get_or-set_same}
use Rattle.links.specs.Records.{position, in_set, last_link, graph, counts, put_node}
use Rattle.links.specs.Held.{Last, Held}
use Rattle.links.proofs.Stored.{node-length, node-position, node-set, node-last}

module _ {b' a' : List ℕ} (b a : List ℕ) (size sets : ℕ) (room : (size + 1) * 6 ≤ length b) (few : size ≤ 4096) (wide : length a ≡ 256)
    (some_sets : 1 ≤ sets) (few_sets : sets ≤ 255) (is : b' ≡ put_node b 0 0 0) (at_is : a' ≡ set a 0 0) where
  at_root : (n : ℕ) → n < 1 → {v : ℕ} (f : List ℕ → ℕ → ℕ) → f (put_node b 0 0 0) 0 ≡ v → f b' n ≡ v
  at_root n l f e = let z : n ≡ 0 = omega arith in ap (f b') z ∙ ap (λ b. f b 0) is ∙ e

  in_0 : 0 * 6 + 5 < length b
  in_0 = omega arith

  position_0 : (n : ℕ) → n < 1 → position b' n ≡ 0
  position_0 n l = at_root n l position (node-position b 0 0 0 in_0)

  set_0 : (n : ℕ) → n < 1 → in_set b' n ≡ 0
  set_0 n l = at_root n l in_set (node-set b 0 0 0 in_0)

  last_0 : (n : ℕ) → n < 1 → last_link b' n ≡ 0
  last_0 n l = at_root n l last_link (node-last b 0 0 0 in_0)

  pub root_held : Held (record { position = 0; start = 0; size = size; sets = sets }) (graph b' a' (counts 1 0 0))
  root_held = record {
    core = record {
      room = omega (arith, ap length is, node-length b 0 0 0);
      few = few;
      wide = ap length at_is ∙ length-set a 0 0 ∙ wide;
      few_sets = few_sets;
      low = omega arith;
      fits = omega arith;
      some = omega arith;
      node_room = omega arith;
      begun = omega arith;
      source_in = λ k u v. absurd (omega arith);
      under_in = λ k u v. absurd (omega arith);
      chain = λ k u v. absurd (omega arith);
      lasts = λ n l. subst (λ c. Last b' n 1 c) (sym (last_0 n l)) (record { below = omega arith; is = λ z. absurd (omega arith); after = λ k u v. absurd (omega arith) });
      once = λ j k u v w. absurd (omega arith);
      root_position = position_0 0 (omega arith);
      root_set = set_0 0 (omega arith);
      here = λ n l u. position_0 n l;
      before = λ n l u. absurd (omega arith);
      found = λ n l u. let z : n ≡ 0 = omega arith in ap (λ t. get_or a' t 0) (set_0 n l) ∙ ap (λ a. get_or a 0 0) at_is ∙ get_or-set_same a 0 0 0 (omega arith) ∙ sym z;
      in_sets = λ n l. omega (arith, set_0 n l);
      unique = λ m n u v e f. omega arith;
    };
    few_nodes = omega arith;
    owned = λ n u v. absurd (omega arith);
  }
