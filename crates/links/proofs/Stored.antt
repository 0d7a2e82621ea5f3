-- What stands in the buffer after a link or a node was put there. Assumes nothing.
use mathlib.Core.Path.{◌≡◌, ◌∙◌}
use mathlib.Core.Logic.{◌≢◌}
use mathlib.Core.List.{List}
use Prim.Native.Nat.{ℕ, ◌+◌, ◌*◌, ◌<◌}
use native.Mathlib.Omega.{arith}
use lib.ListN.{length, get_or, set, length-set}
use lib.Seq.{get_or-set_same, get_or-set_other}
use Rattle.links.specs.Records.{source, under, previous, position, in_set, last_link, put_node, put_link}

-- ---- a link

module _ (b : List ℕ) (n m k : ℕ) where
  abbrev b₁ : List ℕ
  b₁ = set b (k * 6) n

  abbrev b₂ : List ℕ
  b₂ = set b₁ (k * 6 + 1) m

  abbrev b₃ : List ℕ
  b₃ = set b₂ (k * 6 + 2) (last_link b n)

  pub put-length : length (put_link b n m k) ≡ length b
  unfolding put_link
  put-length = simp length-set

  put_other : (i : ℕ) → i ≢ k * 6 → i ≢ k * 6 + 1 → i ≢ k * 6 + 2 → i ≢ n * 6 + 5 → get_or (put_link b n m k) i 0 ≡ get_or b i 0
  unfolding put_link
  put_other i d₀ d₁ d₂ d₃ =
      get_or-set_other b₃ (n * 6 + 5) i k 0 d₃ ∙ get_or-set_other b₂ (k * 6 + 2) i (last_link b n) 0 d₂ ∙ get_or-set_other b₁ (k * 6 + 1) i m 0 d₁
      ∙ get_or-set_other b (k * 6) i n 0 d₀

  pub source-old : (j : ℕ) → j ≢ k → source (put_link b n m k) j ≡ source b j
  source-old j d = put_other (j * 6) (λ e. omega arith) (λ e. omega arith) (λ e. omega arith) (λ e. omega arith)

  pub under-old : (j : ℕ) → j ≢ k → under (put_link b n m k) j ≡ under b j
  under-old j d = put_other (j * 6 + 1) (λ e. omega arith) (λ e. omega arith) (λ e. omega arith) (λ e. omega arith)

  pub previous-old : (j : ℕ) → j ≢ k → previous (put_link b n m k) j ≡ previous b j
  previous-old j d = put_other (j * 6 + 2) (λ e. omega arith) (λ e. omega arith) (λ e. omega arith) (λ e. omega arith)

  pub last-old : (j : ℕ) → j ≢ n → last_link (put_link b n m k) j ≡ last_link b j
  last-old j d = put_other (j * 6 + 5) (λ e. omega arith) (λ e. omega arith) (λ e. omega arith) (λ e. omega arith)

  pub position-old : (j : ℕ) → position (put_link b n m k) j ≡ position b j
  position-old j = put_other (j * 6 + 3) (λ e. omega arith) (λ e. omega arith) (λ e. omega arith) (λ e. omega arith)

  pub set-old : (j : ℕ) → in_set (put_link b n m k) j ≡ in_set b j
  set-old j = put_other (j * 6 + 4) (λ e. omega arith) (λ e. omega arith) (λ e. omega arith) (λ e. omega arith)

  module _ (in_k : k * 6 + 5 < length b) where
    pub put-source : source (put_link b n m k) k ≡ n
    unfolding put_link
    put-source =
        get_or-set_other b₃ (n * 6 + 5) (k * 6) k 0 (λ e. omega arith) ∙ get_or-set_other b₂ (k * 6 + 2) (k * 6) (last_link b n) 0 (λ e. omega arith)
        ∙ get_or-set_other b₁ (k * 6 + 1) (k * 6) m 0 (λ e. omega arith) ∙ get_or-set_same b (k * 6) n 0 (omega arith)

    pub put_under : under (put_link b n m k) k ≡ m
    unfolding put_link
    put_under =
        get_or-set_other b₃ (n * 6 + 5) (k * 6 + 1) k 0 (λ e. omega arith) ∙ get_or-set_other b₂ (k * 6 + 2) (k * 6 + 1) (last_link b n) 0 (λ e. omega arith)
        ∙ get_or-set_same b₁ (k * 6 + 1) m 0 (simp length-set (omega arith))

    pub put-previous : previous (put_link b n m k) k ≡ last_link b n
    unfolding put_link
    put-previous =
        get_or-set_other b₃ (n * 6 + 5) (k * 6 + 2) k 0 (λ e. omega arith)
        ∙ get_or-set_same b₂ (k * 6 + 2) (last_link b n) 0 (simp length-set (omega arith))

  pub put_last : n * 6 + 5 < length b → last_link (put_link b n m k) n ≡ k
  unfolding put_link
  put_last in_n = get_or-set_same b₃ (n * 6 + 5) k 0 (simp length-set (omega arith))

-- ---- a node

module _ (b : List ℕ) (n p s : ℕ) where
  abbrev c₁ : List ℕ
  c₁ = set b (n * 6 + 3) p

  abbrev c₂ : List ℕ
  c₂ = set c₁ (n * 6 + 4) s

  pub node-length : length (put_node b n p s) ≡ length b
  unfolding put_node
  node-length = simp length-set

  node-other : (i : ℕ) → i ≢ n * 6 + 3 → i ≢ n * 6 + 4 → i ≢ n * 6 + 5 → get_or (put_node b n p s) i 0 ≡ get_or b i 0
  unfolding put_node
  node-other i d₀ d₁ d₂ = get_or-set_other c₂ (n * 6 + 5) i 0 0 d₂ ∙ get_or-set_other c₁ (n * 6 + 4) i s 0 d₁ ∙ get_or-set_other b (n * 6 + 3) i p 0 d₀

  pub node-source : (j : ℕ) → source (put_node b n p s) j ≡ source b j
  node-source j = node-other (j * 6) (λ e. omega arith) (λ e. omega arith) (λ e. omega arith)

  pub node-under : (j : ℕ) → under (put_node b n p s) j ≡ under b j
  node-under j = node-other (j * 6 + 1) (λ e. omega arith) (λ e. omega arith) (λ e. omega arith)

  pub node-previous : (j : ℕ) → previous (put_node b n p s) j ≡ previous b j
  node-previous j = node-other (j * 6 + 2) (λ e. omega arith) (λ e. omega arith) (λ e. omega arith)

  pub other-position : (j : ℕ) → j ≢ n → position (put_node b n p s) j ≡ position b j
  other-position j d = node-other (j * 6 + 3) (λ e. omega arith) (λ e. omega arith) (λ e. omega arith)

  pub other-set : (j : ℕ) → j ≢ n → in_set (put_node b n p s) j ≡ in_set b j
  other-set j d = node-other (j * 6 + 4) (λ e. omega arith) (λ e. omega arith) (λ e. omega arith)

  pub other_last : (j : ℕ) → j ≢ n → last_link (put_node b n p s) j ≡ last_link b j
  other_last j d = node-other (j * 6 + 5) (λ e. omega arith) (λ e. omega arith) (λ e. omega arith)

  module _ (in_n : n * 6 + 5 < length b) where
    pub node-position : position (put_node b n p s) n ≡ p
    unfolding put_node
    node-position =
        get_or-set_other c₂ (n * 6 + 5) (n * 6 + 3) 0 0 (λ e. omega arith) ∙ get_or-set_other c₁ (n * 6 + 4) (n * 6 + 3) s 0 (λ e. omega arith)
        ∙ get_or-set_same b (n * 6 + 3) p 0 (omega arith)

    pub node-set : in_set (put_node b n p s) n ≡ s
    unfolding put_node
    node-set =
        get_or-set_other c₂ (n * 6 + 5) (n * 6 + 4) 0 0 (λ e. omega arith)
        ∙ get_or-set_same c₁ (n * 6 + 4) s 0 (simp length-set (omega arith))

    pub node-last : last_link (put_node b n p s) n ≡ 0
    unfolding put_node
    node-last = get_or-set_same c₂ (n * 6 + 5) 0 0 (simp length-set (omega arith))
