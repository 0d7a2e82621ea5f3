-- E1 to E10 of 01: each script, and what it prints. Assumes nothing.
use Rattle.std.specs.Prelude.{List, [], ◌∷◌, ◌++◌, ℕ}
use Rattle.theory.specs.Table.{Item, Transition, item}
use Rattle.worked.specs.Script.{Command, Line}
use Rattle.worked.specs.Script.Command.{N, A, D, P, G, L}
use Rattle.worked.specs.Script.Mark.{e, u}
use Rattle.worked.specs.Script.Line.{says, C, K, S}

infix 90 ◌·◌
infix 90 ◌⇒◌
-- "rule.dot" and "symbol>target"
abbrev pub ◌·◌ : ℕ → ℕ → Item
r · d = item r d

abbrev pub ◌⇒◌ : ℕ → ℕ → Transition
x ⇒ s = record { on = x; to = s }

pub record Case : Type 0 where
  pub script : List Command
  pub prints : List Line

abbrev pub good : Line
good = says (0 ∷ [])

-- an accepted A or D, with the rule's number
abbrev pub rule : ℕ → Line
rule r = says (0 ∷ r ∷ [])

-- "1 STW, 2 SOG, 3 number, 4 slash"
abbrev pub rules : List Command
rules = A 64 (65 ∷ []) ∷ A 65 (66 ∷ []) ∷ A 65 (65 ∷ 4 ∷ 66 ∷ []) ∷ A 66 (1 ∷ 3 ∷ []) ∷ A 66 (2 ∷ 3 ∷ []) ∷ []

abbrev pub numbered : List Line
numbered = rule 0 ∷ rule 1 ∷ rule 2 ∷ rule 3 ∷ rule 4 ∷ []

-- the sets of E1 beside the start set
abbrev set1 : Line
set1 = S 1 (3 · 1 ∷ []) (3 ⇒ 5 ∷ []) [] 0

abbrev set2 : Line
set2 = K 2 (4 · 1 ∷ [])

abbrev set3 : Line
set3 = S 3 (0 · 1 ∷ 2 · 1 ∷ []) (4 ⇒ 6 ∷ []) [] 1

abbrev set4 : Line
set4 = S 4 (1 · 1 ∷ []) [] (1 ∷ []) 0

abbrev set5 : Line
set5 = S 5 (3 · 2 ∷ []) [] (3 ∷ []) 0

abbrev set6 : Line
set6 = K 6 (2 · 2 ∷ [])

abbrev pub cases : List Case
cases =
    -- E1 the parse above, and the listing whole. E4 then `D 66 2 3`: only set 0 becomes u. E5 then `P 2 3`: `2 0 7`.
    -- E6 then `G`: `0 6`; set 2 is gone
    record {
      script = N 8 8 16 ∷ (rules ++ (P (1 ∷ 3 ∷ []) ∷ L ∷ D 66 (2 ∷ 3 ∷ []) ∷ L ∷ P (2 ∷ 3 ∷ []) ∷ L ∷ G ∷ L ∷ []));
      prints = good ∷ (numbered ++ (says (1 ∷ 4 ∷ 7 ∷ [])
          ∷ C (e 0 ∷ e 1 ∷ u 2 ∷ e 3 ∷ e 4 ∷ e 5 ∷ u 6 ∷ [])
          ∷ S 0 (0 · 0 ∷ []) (1 ⇒ 1 ∷ 2 ⇒ 2 ∷ 65 ⇒ 3 ∷ 66 ⇒ 4 ∷ []) [] 0 ∷ set1 ∷ set2 ∷ set3 ∷ set4 ∷ set5 ∷ set6
          ∷ rule 4
          ∷ C (u 0 ∷ e 1 ∷ u 2 ∷ e 3 ∷ e 4 ∷ e 5 ∷ u 6 ∷ [])
          ∷ K 0 (0 · 0 ∷ []) ∷ set1 ∷ set2 ∷ set3 ∷ set4 ∷ set5 ∷ set6
          ∷ says (2 ∷ 0 ∷ 7 ∷ [])
          ∷ C (e 0 ∷ e 1 ∷ u 2 ∷ e 3 ∷ e 4 ∷ e 5 ∷ u 6 ∷ [])
          ∷ S 0 (0 · 0 ∷ []) (1 ⇒ 1 ∷ 65 ⇒ 3 ∷ 66 ⇒ 4 ∷ []) [] 0 ∷ set1 ∷ set2 ∷ set3 ∷ set4 ∷ set5 ∷ set6
          ∷ says (0 ∷ 6 ∷ [])
          ∷ C (e 0 ∷ e 1 ∷ e 3 ∷ e 4 ∷ e 5 ∷ u 6 ∷ [])
          ∷ S 0 (0 · 0 ∷ []) (1 ⇒ 1 ∷ 65 ⇒ 3 ∷ 66 ⇒ 4 ∷ []) [] 0 ∷ set1 ∷ set3 ∷ set4 ∷ set5 ∷ set6 ∷ []));
    }
    -- E2 with 3 links: 21. With 4: accept
    ∷ record { script = N 8 8 3 ∷ (rules ++ (P (1 ∷ 3 ∷ []) ∷ [])); prints = good ∷ (numbered ++ (says (21 ∷ 0 ∷ 6 ∷ []) ∷ [])) }
    ∷ record { script = N 8 8 4 ∷ (rules ++ (P (1 ∷ 3 ∷ []) ∷ [])); prints = good ∷ (numbered ++ (says (1 ∷ 4 ∷ 7 ∷ []) ∷ [])) }
    -- E3 with 6 sets: 20, set 3 unexpanded, 6 in use. With 7: accept
    ∷ record {
      script = N 6 8 16 ∷ (rules ++ (P (1 ∷ 3 ∷ []) ∷ L ∷ []));
      prints = good ∷ (numbered ++ (says (20 ∷ 0 ∷ 6 ∷ [])
          ∷ C (e 0 ∷ e 1 ∷ u 2 ∷ u 3 ∷ e 4 ∷ e 5 ∷ [])
          ∷ S 0 (0 · 0 ∷ []) (1 ⇒ 1 ∷ 2 ⇒ 2 ∷ 65 ⇒ 3 ∷ 66 ⇒ 4 ∷ []) [] 0 ∷ set1 ∷ set2 ∷ K 3 (0 · 1 ∷ 2 · 1 ∷ []) ∷ set4 ∷ set5 ∷ []));
    }
    ∷ record { script = N 7 8 16 ∷ (rules ++ (P (1 ∷ 3 ∷ []) ∷ [])); prints = good ∷ (numbered ++ (says (1 ∷ 4 ∷ 7 ∷ []) ∷ [])) }
    -- E7 five rule places: E4, then `A 66 3` gives number 4, sets 1 to 6 freed first
    ∷ record {
      script = N 8 5 16 ∷ (rules ++ (P (1 ∷ 3 ∷ []) ∷ D 66 (2 ∷ 3 ∷ []) ∷ L ∷ A 66 (3 ∷ []) ∷ L ∷ []));
      prints = good ∷ (numbered ++ (says (1 ∷ 4 ∷ 7 ∷ []) ∷ rule 4
          ∷ C (u 0 ∷ e 1 ∷ u 2 ∷ e 3 ∷ e 4 ∷ e 5 ∷ u 6 ∷ [])
          ∷ K 0 (0 · 0 ∷ []) ∷ set1 ∷ set2 ∷ set3 ∷ set4 ∷ set5 ∷ set6
          ∷ rule 4 ∷ C (u 0 ∷ []) ∷ K 0 (0 · 0 ∷ []) ∷ []));
    }
    -- E8 rules 64→65, 65→65, 65→1, line 1: accept, 2 links
    ∷ record {
      script = N 8 4 16 ∷ A 64 (65 ∷ []) ∷ A 65 (65 ∷ []) ∷ A 65 (1 ∷ []) ∷ P (1 ∷ []) ∷ [];
      prints = good ∷ rule 0 ∷ rule 1 ∷ rule 2 ∷ says (1 ∷ 2 ∷ 3 ∷ []) ∷ [];
    }
    -- E9 rules 64→66, 66→1 66 65, 66→nothing, 65→nothing: line 1 1 accepted; so too with 66→65 66 1 as the second
    ∷ record {
      script = N 8 4 16 ∷ A 64 (66 ∷ []) ∷ A 66 (1 ∷ 66 ∷ 65 ∷ []) ∷ A 66 [] ∷ A 65 [] ∷ P (1 ∷ 1 ∷ []) ∷ [];
      prints = good ∷ rule 0 ∷ rule 1 ∷ rule 2 ∷ rule 3 ∷ says (1 ∷ 10 ∷ 5 ∷ []) ∷ [];
    }
    ∷ record {
      script = N 8 4 16 ∷ A 64 (66 ∷ []) ∷ A 66 (65 ∷ 66 ∷ 1 ∷ []) ∷ A 66 [] ∷ A 65 [] ∷ P (1 ∷ 1 ∷ []) ∷ [];
      prints = good ∷ rule 0 ∷ rule 1 ∷ rule 2 ∷ rule 3 ∷ says (1 ∷ 10 ∷ 5 ∷ []) ∷ [];
    }
    -- E10 64→nothing: empty line accepted, 0 links, 1 set. No rules: empty line rejected
    ∷ record { script = N 1 1 0 ∷ A 64 [] ∷ P [] ∷ []; prints = good ∷ rule 0 ∷ says (1 ∷ 0 ∷ 1 ∷ []) ∷ [] }
    ∷ record { script = N 1 1 0 ∷ P [] ∷ []; prints = good ∷ says (2 ∷ 0 ∷ 1 ∷ []) ∷ [] }
    ∷ []
