-- The steps of gathering: the symbols of the sets, one key put among those that are there, a link taken, the first places. Assumes nothing.
use Rattle.std.specs.Prelude.{◌≡◌, ◌⊎◌, ℕ, ◌+◌, ◌-◌, ◌*◌, ◌≤◌, ◌<◌, T, length, get_or}
use mathlib.Core.List.{List, Memᴰ as In}
use Rattle.symbols.specs.Symbol.{nonterminal}
use Rattle.theory.specs.Parse.{Link}
use Rattle.leftmost.specs.Shown.{before_first}
use Rattle.table.specs.Layout.{sets_in, rules_in, kernel_seen, view_rules}
use Rattle.table.specs.Laid.{LaidRules, Within}
use Rattle.links.specs.Records.{source, under, position, in_set}
use Rattle.spans.specs.Area.{key_of, key_at, end_at, first_at}
use Rattle.spans.specs.Gathered.{First, Ascending}

-- ---- the symbols

-- rules as they are laid out, and kernels of these rules
pub record Kernels (rules words : List ℕ) : Type 0 where
  pub laid : LaidRules rules
  pub few_sets : sets_in rules ≤ 255
  pub long : sets_in rules * 18 ≤ length words
  pub within : (s : ℕ) → s < sets_in rules → Within (rules_in rules) words (s * 18)

-- the symbol that set s is reached by, read off these
unfoldable pub symbol_in : List ℕ → List ℕ → ℕ → ℕ
symbol_in rules words s = before_first (view_rules rules) (kernel_seen (rules_in rules) words (s * 18))

-- the list has the symbols of the sets below n
pub record Symbols (rules words : List ℕ) (n : ℕ) (l : List ℕ) : Type 0 where
  pub long : length l ≡ 256
  pub each : (s : ℕ) → s < n → get_or l s 0 ≡ symbol_in rules words s

-- ---- a key inserted

-- the key is at one of the places
pub record Has (a : List ℕ) (count key : ℕ) : Type 0 where
  pub place : ℕ
  pub inside : place < count
  pub is : key_at a place ≡ key

-- f is where the key belongs: the first place with a greater one
pub record Belongs (a : List ℕ) (count key f : ℕ) : Type 0 where
  pub inside : f ≤ count
  pub before : 0 < f → key_at a (f - 1) ≤ key
  pub after : (e : ℕ) → f ≤ e → e < count → key < key_at a e

-- the keys from f on, up to `count`, each one place up
pub record Opened (a b : List ℕ) (f count : ℕ) : Type 0 where
  pub long : length b ≡ length a
  pub low : (e : ℕ) → e ≤ f → key_at b e ≡ key_at a e
  pub high : (e : ℕ) → f < e → e ≤ count → key_at b e ≡ key_at a (e - 1)

-- the key is among the places, which are otherwise the same
pub record Inserts (a b : List ℕ) (count key after : ℕ) : Type 0 where
  pub long : length b ≡ length a
  pub more : after ≤ count + 1
  pub ascending : Ascending b after
  pub there : Has b after key
  pub held : (e : ℕ) → e < count → Has b after (key_at a e)
  pub only : (e : ℕ) → e < after → (key_at b e ≡ key) ⊎ Has a count (key_at b e)

-- ---- a link taken

-- link k and its two nodes are in the buffer, of positions and a set that fit a byte
pub record Readable (b : List ℕ) (k : ℕ) : Type 0 where
  pub room : k * 6 + 1 < length b
  pub source_room : source b k * 6 + 4 < length b
  pub under_room : under b k * 6 + 4 < length b
  pub end : position b (source b k) < 256
  pub start : position b (under b k) < 256
  pub set : in_set b (source b k) < 256

-- the symbol of a link, and its key
abbrev pub symbol_to : List ℕ → Link → ℕ
symbol_to symbols l = get_or symbols l.s 0

abbrev pub key_to : List ℕ → Link → ℕ
key_to symbols l = key_of (symbol_to symbols l) l.j l.i

-- a link over a non-terminal has its key inserted; another leaves everything as it was
pub record Takes (symbols : List ℕ) (l : Link) (a b : List ℕ) (count after : ℕ) : Type 0 where
  pub span : T (nonterminal (symbol_to symbols l)) → Inserts a b count (key_to symbols l) after
  pub other : (T (nonterminal (symbol_to symbols l)) → ⊥) → (b ≡ a) × (after ≡ count)

-- the key is that of one of these links, over a non-terminal
pub record Of (symbols : List ℕ) (ls : List Link) (key : ℕ) : Type 0 where
  pub link : Link
  pub among : In link ls
  pub span : T (nonterminal (symbol_to symbols link))
  pub is : key ≡ key_to symbols link

-- the places have the keys of these links, and no others
pub record Taken (symbols : List ℕ) (ls : List Link) (a : List ℕ) (count : ℕ) : Type 0 where
  pub few : count ≤ length ls
  pub ascending : Ascending a count
  pub every : (l : Link) → In l ls → T (nonterminal (symbol_to symbols l)) → Has a count (key_to symbols l)
  pub only : (e : ℕ) → e < count → Of symbols ls (key_at a e)

-- ---- the first places

-- the ends before e are below j
pub record Passed (a : List ℕ) (count j e : ℕ) : Type 0 where
  pub inside : e ≤ count
  pub before : (i : ℕ) → i < e → end_at a i < j

-- the first place of the ends below j is there; what stands before these numbers is as it was
pub record Begun (a b : List ℕ) (count j : ℕ) : Type 0 where
  pub long : length b ≡ length a
  pub low : (i : ℕ) → i < 12291 → get_or b i 0 ≡ get_or a i 0
  pub firsts : (k : ℕ) → k < j → First a count k (first_at b k)
