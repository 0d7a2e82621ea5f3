-- An unexpanded set and the words of its closure: what the steps of its expansion rely on. Assumes nothing.
use mathlib.Core.List.{List, [], Memᴰ as In}
use mathlib.Core.Path.{◌≡◌, sym, ap, subst, ◌∙◌}
use mathlib.Core.Logic.{◌≢◌}
use Prim.Native.Nat.{ℕ, ◌+◌, ◌*◌, ◌≤◌, ◌<◌}
use native.Mathlib.Omega.{arith}
use lib.ListN.{length}
use Rattle.laws.proofs.Tables.{length_tab}
use Rattle.theory.specs.Table.{set_at}
use Rattle.theory.specs.Form.{InUse}
use Rattle.theory.specs.Expansion.{closure, moved, symbols}
use Rattle.theory.proofs.Sets.{used-inside}
use Rattle.theory.proofs.Formed.{ruled, ranged}
use Rattle.theory.proofs.Kernels.{moved-some}
use Rattle.table.specs.Layout.{Mem, sets_in, rules_in, set_seen, view_rules, view}
use Rattle.table.specs.Laid.{Within}
use Rattle.table.proofs.Read.{set_read}
use Rattle.table.proofs.Formed.{formed-rules}
use Rattle.expansion.specs.Expansion.{Unexpanded}
use Rattle.expansion.specs.Inner.{items_in, Ready, Countable, Closed}

module _ (m : Mem) (s : ℕ) (𝓤 : Unexpanded m s) where
  pub closed-used : InUse (view m).sets s
  closed-used z = let e = 𝓤.bare in omega arith

  pub closed-inside : s < sets_in m.rules
  closed-inside = omega (
    arith,
    used-inside (view m).sets s closed-used,
    length_tab (sets_in m.rules) (set_seen (rules_in m.rules) m.sets),
  )

  -- its kernel's words are there
  pub closed-words : s * 18 + 18 ≤ length m.sets.words
  closed-words = let l = closed-inside in omega (arith, 𝓤.formed.laid.sized.words)

  pub closed-within : Within (rules_in m.rules) m.sets.words (s * 18)
  closed-within = (𝓤.formed.laid.each_set s closed-inside).items

module _ (m : Mem) (s : ℕ) (c : List ℕ) (𝓒 : Closed m s c) where
  -- the words hold the closure of the model's kernel
  pub closed_is : items_in m.rules c ≡ closure (view_rules m.rules) (set_at (view m).sets s).kernel
  closed_is =
      𝓒.held.seen
      ∙ ap (λ p. closure (view_rules m.rules) p.kernel)
      (sym (set_read (sets_in m.rules) (rules_in m.rules) m.sets s (closed-inside m s 𝓒.is)))

  pub closed-ready : Ready m.rules m.sets c
  closed-ready =
      let f = 𝓒.is.formed in
      record {
        rules = formed-rules f;
        some_sets = f.laid.sized.some_sets;
        few_sets = f.laid.sized.few_sets;
        sets = record {
          few_rules = f.laid.sized.few_rules;
          cells = f.laid.sized.cells;
          words = f.laid.sized.words;
          each = f.laid.each_set;
        };
        start = f.form.start_used;
        within = 𝓒.held.within;
        some = subst (λ c. (y : ℕ) → In y (symbols (view_rules m.rules) c) → moved (view_rules m.rules) c y ≢ []) (sym closed_is)
            (moved-some (view_rules m.rules) (set_at (view m).sets s).kernel (ruled f.form) (ranged f.form s));
      }

pub closed_countable : (m : Mem) (s : ℕ) (c : List ℕ) → Unexpanded m s → Within (rules_in m.rules) c 0 → Countable m.rules m.sets.words c
closed_countable m s c 𝓤 within =
    let f = 𝓤.formed in
    record {
      rules = formed-rules f;
      kernels = record { words = f.laid.sized.words; each = λ t l. (f.laid.each_set t l).items };
      within = within;
    }
