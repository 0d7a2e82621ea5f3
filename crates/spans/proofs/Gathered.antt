-- What the steps of gathering come to. Assumes nothing.
use mathlib.Core.Path.{◌≡◌, refl, sym, ap, ◌∙◌, subst}
use mathlib.Core.Logic.{⊎_elim, inl}
use mathlib.Core.List.{List, Memᴰ as In}
use Prim.Native.Nat.{ℕ, ◌+◌, ◌≤◌, ◌<◌}
use native.Mathlib.Decide.{dec_lt}
use native.Mathlib.Omega.{arith}
use lib.Dec.{T}
use lib.ListN.{length}
use Rattle.symbols.specs.Symbol.{START, nonterminal}
use Rattle.kernels.specs.Write.{write_words}
use Rattle.kernels.proofs.Write.{length_write, write_in, write_out}
use Rattle.theory.specs.Table.{Table}
use Rattle.theory.specs.Parse.{Link, link}
use Rattle.theory.proofs.Symbols.{is-nonterminal}
use Rattle.table.specs.Layout.{mem, sets_in, view}
use Rattle.links.specs.Records.{source, under, position, in_set, links_in}
use Rattle.links.proofs.Listed.{in_links, count as links-count}
use Rattle.leftmost.specs.Within.{Spans}
use Rattle.leftmost.specs.Shown.{symbol_of, InHand}
use Rattle.leftmost.specs.Shown.InHand.{start, linked}
use Rattle.spans.specs.Area.{area_for, key_of, key_at, symbol_at, start_at, end_at, cost_at, choice_at, first_at, Place}
use Rattle.spans.specs.Gathered.{Graphed, First, Shows, Gathered}
use Rattle.spans.specs.Steps.{Symbols, Has, Inserts, Readable, symbol_to, Taken, Begun}
use Rattle.spans.proofs.Reached.{symbol-seen}
use Rattle.spans.proofs.SameKeys.{SameKeys, same-ascending, same_first, same-shows}
use Rattle.spans.proofs.Keys.{key_place}

-- costs and choices made zero leave the keys
pub cleared_keys : {c d f : List ℕ} {count : ℕ} → count ≤ 4097 → d ≡ write_words c 4097 (λ k. 0) count → f ≡ write_words d 8194 (λ k. 0) count
    → SameKeys c f count
cleared_keys {c} {d} {f} {count} few costs choices = record {
  each = λ e h.
      ap (λ f. key_at f e) choices ∙ write_out d 8194 (λ k. 0) count e (inl (omega arith)) ∙ ap (λ d. key_at d e) costs
      ∙ write_out c 4097 (λ k. 0) count e (inl (omega arith));
}

-- ---- the links in the buffer

module _ {rs ws : List ℕ} {n : ℕ} {b : List ℕ} {l : ℕ} (graphed : Graphed rs ws n b l) where
  node-low : (m : ℕ) → m < graphed.nodes → position b m ≤ n
  node-low m h =
      let core = graphed.held.core in
      elim (dec_lt m graphed.last.start) [
        | yes p ↦ omega (arith, core.before m h p, graphed.position)
        | no p ↦ omega (arith, core.here m h (omega arith), graphed.position)
      ]

  pub line_low : n ≤ 255
  line_low = omega (arith, graphed.held.core.low, graphed.position)

  pub few-links : l ≤ 4096
  few-links = omega (arith, graphed.held.core.few, graphed.held.core.fits)

  pub readable : (k : ℕ) → 1 ≤ k → k ≤ l → Readable b k
  readable k some h =
      let core = graphed.held.core in
      let above = core.source_in k some h in
      let below = core.under_in k some h in
      record {
        room = omega (arith, core.room, core.fits);
        source_room = omega (arith, core.room, core.node_room);
        under_room = omega (arith, core.room, core.node_room);
        end = omega (arith, node-low (source b k) above, line_low);
        start = omega (arith, node-low (under b k) below, line_low);
        set = omega (arith, core.in_sets (source b k) above, core.few_sets);
      }

  pub few_taken : {sy a : List ℕ} {count : ℕ} → Taken sy (links_in b l) a count → count ≤ 4096
  few_taken taken = omega (arith, taken.few, links-count b l, few-links)

  pub few_spans : {sy a c : List ℕ} {before key after : ℕ} → Taken sy (links_in b l) a before → Inserts a c before key after → after ≤ 4097
  few_spans taken inserts = omega (arith, inserts.more, few_taken taken)

  -- of a link in the buffer
  record InLine (a : Link) : Type 0 where
    end : a.i ≤ n
    start : a.j < 256
    set : a.s < sets_in rs

  in_line : {a : Link} → In a (links_in b l) → InLine a
  in_line {a} m =
      let (k, some, h, q) = (in_links b l).0 m in
      let core = graphed.held.core in
      let above = core.source_in k some h in
      let at-end : a.i ≡ position b (source b k) = ap (λ a. a.i) q in
      let at_start : a.j ≡ position b (under b k) = ap (λ a. a.j) q in
      let of_set : a.s ≡ in_set b (source b k) = ap (λ a. a.s) q in
      record {
        end = omega (arith, node-low (source b k) above);
        start = omega (arith, node-low (under b k) (core.under_in k some h), line_low);
        set = omega (arith, core.in_sets (source b k) above, graphed.sets);
      }

  -- ---- the spans

  module _ (cells line : List ℕ) (long : length line ≡ n) where
    abbrev t : Table
    t = view (mem rs cells ws)

    abbrev S : Spans
    S = InHand t line (links_in b l)

    shown-low : {x i j : ℕ} → S x i j → j ≤ n
    shown-low (start p q r) = omega arith
    shown-low (linked s u m q h) = (in_line m).end

    module _ {sy : List ℕ} (symbols : Symbols rs ws (sets_in rs) sy) where
      its_symbol : {a : Link} → In a (links_in b l) → symbol_to sy a ≡ symbol_of t a.s
      its_symbol {a} m = let h = (in_line m).set in symbols.each a.s h ∙ symbol-seen rs cells ws a.s h

      place_of : {c : List ℕ} {count : ℕ} {x i j : ℕ} → Has c count (key_of x i j) → x < 256 → i < 256 → (e : ℕ) × (e < count) × Place c e x i j
      place_of h p q = (h.place, h.inside, key_place h.is p q)

      module _ {a c : List ℕ} {before after : ℕ} (taken : Taken sy (links_in b l) a before) {key : ℕ}
          (its_key : key ≡ key_of START 0 n) (inserts : Inserts a c before key after) where
        few : after ≤ 4097
        few = few_spans taken inserts

        shows-every : {x i j : ℕ} → S x i j → (e : ℕ) × (e < after) × Place c e x i j
        shows-every {x} {i} {j} (start p q r) =
            let same : _ ≡ key_of x i j = its_key ∙ λ z. key_of (sym p z) (sym q z) ((sym long ∙ sym r) z) in
            place_of (subst (Has c after) same inserts.there) (omega arith) (omega arith)
        shows-every {x} {i} {j} (linked s u m q h) =
            let of : symbol_to sy (link j s i u) ≡ x = its_symbol m ∙ q in
            let old = taken.every (link j s i u) m (subst (λ x. T (nonterminal x)) (sym of) h) in
            let new : Has c after (key_of x i j) = subst (Has c after) (old.is ∙ (λ z. key_of (of z) i j)) (inserts.held old.place old.inside) in
            place_of new (omega (arith, ((is-nonterminal x).0 h).1)) (in_line m).start

        shown-at : {e x i j : ℕ} → Place c e x i j → S x i j
            → S (symbol_at c e) (start_at c e) (end_at c e)
        shown-at {e} {x} {i} p s =
            subst (λ x. S x (start_at c e) (end_at c e)) (sym p.symbol)
            (subst (λ i. S x i (end_at c e)) (sym p.start) (subst (S x i) (sym p.ends) s))

        shows-only : (e : ℕ) → e < after → S (symbol_at c e) (start_at c e) (end_at c e)
        shows-only e h = ⊎_elim
            (λ q. shown-at (key_place (q ∙ its_key) (omega arith) (omega arith)) (start refl refl (sym long)))
            (λ g.
            let o = taken.only g.place g.inside in
            let m = o.among in
            let low = ((is-nonterminal (symbol_to sy o.link)).0 o.span).1 in
            shown-at (key_place (sym g.is ∙ o.is) (omega arith) (in_line m).start)
            (linked o.link.s o.link.t m (sym (its_symbol m)) o.span))
            (inserts.only e h)

        shows : Shows S c after
        shows = record { every = λ x i j s. shows-every s; only = shows-only }

        -- ---- and what stands behind them

        module _ {d f g : List ℕ} (room : area_for n ≤ length a) (costs : d ≡ write_words c 4097 (λ k. 0) after)
            (choices : f ≡ write_words d 8194 (λ k. 0) after) (begun : Begun f g after (n + 2)) where
          long-c : length c ≡ length a
          long-c = inserts.long

          long-d : length d ≡ length a
          long-d = ap length costs ∙ length_write c 4097 (λ k. 0) after ∙ long-c

          long-f : length f ≡ length a
          long-f = ap length choices ∙ length_write d 8194 (λ k. 0) after ∙ long-d

          cost-zero : (e : ℕ) → e < after → cost_at g e ≡ 0
          cost-zero e h =
              begun.low (4097 + e) (omega (arith, few)) ∙ ap (λ f. cost_at f e) choices
              ∙ write_out d 8194 (λ k. 0) after (4097 + e) (inl (omega (arith, few))) ∙ ap (λ d. cost_at d e) costs
              ∙ write_in c 4097 (λ k. 0) after e h (omega (arith, few, long-c))

          choice-zero : (e : ℕ) → e < after → choice_at g e ≡ 0
          choice-zero e h =
              begun.low (8194 + e) (omega (arith, few)) ∙ ap (λ f. choice_at f e) choices
              ∙ write_in d 8194 (λ k. 0) after e h (omega (arith, few, long-d))

          keys-f : SameKeys c f after
          keys-f = cleared_keys few costs choices

          keys-g : SameKeys f g after
          keys-g = record { each = λ e h. begun.low e (omega (arith, few)) }

          shows-g : Shows S g after
          shows-g = same-shows keys-g (same-shows keys-f shows)

          first-g : (j : ℕ) → j ≤ n + 1 → First g after j (first_at g j)
          first-g j h = same_first keys-g (begun.firsts j (omega arith))

          -- no span ends behind the line
          last-g : first_at g (n + 1) ≡ after
          last-g =
              let p = first-g (n + 1) (omega arith) in
              elim (dec_lt (first_at g (n + 1)) after) [
                | yes h ↦ absurd (omega (arith, p.after (first_at g (n + 1)) (omega arith) h, shown-low (shows-g.only (first_at g (n + 1)) h)))
                | no h ↦ omega (arith, p.inside)
              ]

          pub gathered : Gathered n S g after
          gathered = record {
            ordered = record {
              short = line_low;
              room = omega (arith, begun.long, long-f);
              few = few;
              ascending = same-ascending keys-g (same-ascending keys-f inserts.ascending);
              firsts = first-g;
              last = last-g;
            };
            shows = shows-g;
            costs = cost-zero;
            choices = choice-zero;
          }
