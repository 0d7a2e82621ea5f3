-- What the steps of an expansion rely on, and what each leaves. c are the words of a closure. Assumes nothing.
use Rattle.std.specs.Prelude.{Bool, ◌≡◌, ◌≢◌, ℕ, ◌+◌, ◌*◌, ◌≤◌, T, eqb, length, get_or}
use mathlib.Core.List.{List, [], Memᴰ as In}
use Rattle.laws.specs.Lists.{keep}
use Rattle.kernels.specs.Write.{write_words}
use Rattle.theory.specs.Table.{Item, SetPlace}
use Rattle.theory.specs.Form.{InUse}
use Rattle.theory.specs.Expansion.{closure, moved, symbols, set_with, lowest_free, Led, leading, expanded, has_room}
use Rattle.theory.proofs.Leading.{lookup, lacking, Room}
use Rattle.table.specs.Layout.{Mem, Sets, sets_in, rules_in, kernel_seen, view_rules, view_sets, view}
use Rattle.table.specs.Laid.{FormedRules, Within, HoldsKernel}
use Rattle.closure.specs.Walk.{HoldsSymbols}
use Rattle.lookup.specs.Lookup.{kernel_at, HoldKernels, LaidSets, SetsBecome}
use Rattle.expansion.specs.Expansion.{Unexpanded}

-- the items that the closure's words hold, the symbols after their dots, and the sets that the slices hold
abbrev pub items_in : List ℕ → List ℕ → List Item
items_in rs c = kernel_seen (rules_in rs) c 0

abbrev pub symbols_in : List ℕ → List ℕ → List ℕ
symbols_in rs c = symbols (view_rules rs) (items_in rs c)

abbrev pub sets_seen : List ℕ → Sets → List SetPlace
sets_seen rs x = view_sets (sets_in rs) (rules_in rs) x

-- "the items with that dot moved over X are a kernel"
abbrev pub kernel_on : List ℕ → List ℕ → ℕ → List Item
kernel_on rs c y = moved (view_rules rs) (items_in rs c) y

-- the sets that symbols lead to, found or made among sets; how many of their kernels are in no set, and room for these
abbrev pub leading_in : List ℕ → List ℕ → List ℕ → List SetPlace → Led
leading_in rs c ys ss = leading (view_rules rs) (items_in rs c) ys ss

abbrev pub lacking_in : List ℕ → List ℕ → List ℕ → List SetPlace → ℕ
lacking_in rs c ys ss = lacking (view_rules rs) (items_in rs c) ys ss

abbrev pub RoomIn : List ℕ → List ℕ → List ℕ → List SetPlace → Type 0
RoomIn rs c ys ss = Room (view_rules rs) (items_in rs c) ys ss

-- rules, sets and closure are laid out, and no symbol leads to an empty kernel
pub record Ready (rs : List ℕ) (x : Sets) (c : List ℕ) : Type 0 where
  pub rules : FormedRules rs
  pub some_sets : 1 ≤ sets_in rs
  pub few_sets : sets_in rs ≤ 255
  pub sets : LaidSets (sets_in rs) (rules_in rs) x
  pub start : InUse (sets_seen rs x) 0
  pub within : Within (rules_in rs) c 0
  pub some : (y : ℕ) → In y (symbols_in rs c) → kernel_on rs c y ≢ []

-- rules, closure and the kernels in the sets' words are laid out
pub record Countable (rs ws c : List ℕ) : Type 0 where
  pub rules : FormedRules rs
  pub kernels : HoldKernels rs ws
  pub within : Within (rules_in rs) c 0

-- no set's words have the kernel to which the symbol y leads
abbrev pub is_missing : (rs ws c : List ℕ) (y : ℕ) → Bool
is_missing rs ws c y = eqb (kernel_at (sets_in rs) (rules_in rs) ws (kernel_on rs c y)) 0

-- for how many of the symbols
abbrev pub missing_in : (rs ws c ys : List ℕ) → ℕ
missing_in rs ws c ys = length (keep (is_missing rs ws c) ys)

-- there is room for the kernel to which the symbol y leads
pub record Aimed (rs : List ℕ) (x : Sets) (c : List ℕ) (y : ℕ) : Type 0 where
  pub ready : Ready rs x c
  pub symbol : In y (symbols_in rs c)
  pub room : set_with (sets_seen rs x) (kernel_on rs c y) ≡ 0 → lowest_free (sets_seen rs x) ≢ 0

-- there is room for the kernels to which all of them lead; ws are the symbols' bits
pub record Leadable (rs : List ℕ) (x : Sets) (c ws : List ℕ) : Type 0 where
  pub ready : Ready rs x c
  pub symbols : HoldsSymbols ws (view_rules rs) (items_in rs c)
  pub room : RoomIn rs c (symbols_in rs c) (sets_seen rs x)

-- the model's transitions, and the sets with those that were made
unfoldable pub led_from : List ℕ → Sets → List ℕ → Led
led_from rs x c = leading_in rs c (symbols_in rs c) (sets_seen rs x)

-- y are the sets afterwards, and the row has the target on each symbol
pub record LedTo (rs : List ℕ) (x y : Sets) (c row : List ℕ) : Type 0 where
  pub sets : SetsBecome (sets_in rs) (rules_in rs) x y (led_from rs x c).sets
  pub long : length row ≡ 128
  pub targets : (k : ℕ) → get_or row k 0 ≡ lookup (led_from rs x c).transitions k

-- set s with its row and its reductions
unfoldable pub full_row : ℕ → List ℕ → List ℕ → Sets → Sets
full_row s row reductions x = record {
  cells = write_words x.cells (s * 128) (λ k. get_or row k 0) 128;
  words = write_words x.words (s * 18 + 16) (λ k. get_or reductions k 0) 2;
}

-- set s is unexpanded, and the words c hold the closure of its kernel
pub record Closed (m : Mem) (s : ℕ) (c : List ℕ) : Type 0 where
  pub is : Unexpanded m s
  pub held : HoldsKernel (rules_in m.rules) c 0
      (closure (view_rules m.rules) (kernel_seen (rules_in m.rules) m.sets.words (s * 18)))

-- .. ws hold the symbols, and there is room for the sets that it leads to
pub record Growable (m : Mem) (s : ℕ) (c ws : List ℕ) : Type 0 where
  pub closed : Closed m s c
  pub symbols : HoldsSymbols ws (view_rules m.rules) (items_in m.rules c)
  pub room : T (has_room (view m) s)

-- y are the sets x with set s expanded
abbrev pub Grew : List ℕ → Sets → Sets → ℕ → Type 0
Grew rs x y s = SetsBecome (sets_in rs) (rules_in rs) x y (expanded (view_rules rs) (sets_seen rs x) s)
