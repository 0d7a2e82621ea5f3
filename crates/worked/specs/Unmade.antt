-- Tables in form that no call made, on which Add or Delete leaves the form: the form is kept on every table in form by New, Collect,
-- Restart and Parse, and by Add and Delete on the tables that calls make. Assumes nothing.
use Rattle.std.specs.Prelude.{false, List, [], ◌∷◌}
use Rattle.theory.specs.Table.{CURRENT, WITHDRAWN, EXPANDED, Table, unexpanded, item}
use Rattle.theory.specs.Made.{Call}
use Rattle.theory.specs.Made.Call.{add, delete}

pub record Unmade : Type 0 where
  pub table : Table
  pub call : Call

abbrev pub unmade : List Unmade
unmade =
    -- set 0 has the reduction 65→1 and no transition on 65, so it stays as it is when the rule is withdrawn
    record {
      table = record {
        rules = record { state = CURRENT; left = 65; right = 1 ∷ [] } ∷ [];
        sets = record { state = EXPANDED; kernel = []; transitions = []; reductions = 0 ∷ []; accepts = false } ∷ [];
      };
      call = delete 65 (1 ∷ []);
    }
    -- set 1 has the kernel that set 0 gets with the rule
    ∷ record {
      table = record { rules = record { state = WITHDRAWN; left = 64; right = 1 ∷ [] } ∷ []; sets = unexpanded [] ∷ unexpanded (item 0 0 ∷ []) ∷ [] };
      call = add 64 (1 ∷ []);
    }
    ∷ []
