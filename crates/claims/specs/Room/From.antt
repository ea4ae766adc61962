-- How many numbers the nodes of FROM take, by its tables, and how wide its scope is.
use Rattle.std.specs.Prelude.{ℕ, ◌+◌, ◌*◌, ◌≤◌, List, [], ◌∷◌}
use native.Mathlib.Omega.{arith}
use Rattle.rules.specs.Limits.{most_from_tables, most_columns}
use Rattle.rules.specs.Schema.{Catalog}
use Rattle.rules.specs.Ast.{From}
use Rattle.rules.specs.Sizes.{total}
use Rattle.rules.specs.Scope.{empty, width}
use Rattle.rules.specs.BuildFrom.{join_node, swap_targets, join_in_order, join_swapped, scan_of, build_from_clause}
use Rattle.claims.specs.Answers.{Ensures, weaken}
use Rattle.claims.specs.Reading.Limits.{from_tables}
use Rattle.claims.specs.Widths.Swapped.{swapped-length}
use Rattle.claims.specs.Widths.Labels.{merge-width}
use Rattle.claims.specs.Building.FromClause.{FromSteps, clause-by}
use Rattle.claims.specs.Room.Nodes.{rows_room, node_room, most_from_numbers, empty_row_room, table_room, join_room}

-- n numbers are enough for the nodes of the items: so many a table, less those of a join and a remap that the first needs
-- not; with no table it is one empty row
pub record FromFits (fs : List From) (n : ℕ) : Type 0 where
  pub row : empty_row_room ≤ n
  pub tables : table_room * total from_tables fs ≤ n + join_room

-- 4,087 are enough for 16 tables
pub from-fits : (fs : List From) → total from_tables fs ≤ most_from_tables → FromFits fs most_from_numbers
from-fits fs h = record { row = omega arith; tables = omega arith }

pub room-steps : (c : Catalog) → FromSteps c (λ f r. node_room r.node + join_room ≤ table_room * from_tables f)
unfolding from_tables node_room scan_of join_in_order join_swapped join_node swap_targets
room-steps c = record {
  tables = λ l n a t e. omega arith;
  joins = λ l j f g p d e h i b. omega arith;
  rights = λ l j f g p d e h i b.
      let v = width d.first.scope in
      omega (arith, swapped-length v (width d.second.scope), merge-width empty d.first.scope, b.within);
}

-- and they take no more
pub from_clause-room : (c : Catalog) (fs : List From) {n : ℕ} → FromFits fs n
    → Ensures (build_from_clause c fs) (λ f. (node_room f.node ≤ n) × (width f.scope ≤ most_columns))
unfolding build_from_clause total
from_clause-room c [] h = unfold node_room rows_room empty width in (omega (arith, h.row), omega arith)
from_clause-room c (f ∷ fs) h = weaken (build_from_clause c (f ∷ fs)) _ _ (λ r g. (omega (arith, g.0, h.tables), g.1))
    (clause-by (room-steps c)
    (λ gs s. (node_room s.node + join_room + table_room * total from_tables gs ≤ table_room * total from_tables (f ∷ fs))
    × (width s.scope ≤ most_columns))
    (λ g gs s r i k w. (unfold node_room in (omega (arith, i.0)), omega (arith, merge-width s.scope r.scope)))
    f fs λ r k w. (omega arith, omega (arith, merge-width empty r.scope)))
