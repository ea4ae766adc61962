-- The scope (planner.rs, Scope): which columns are visible, under which names. The Rust's two indexes of names are
-- searches of `columns` in order here, and its hash maps are lists.
use Rattle.std.specs.Prelude.{ℕ, zero, suc, ◌+◌, Bool, true, false, ◌&&◌, ◌||◌, List, [], ◌∷◌, ◌++◌, map, eqb, length, get_or}
use Rattle.std.proofs.Math.Option.{Option, none, some}
use Rattle.rules.specs.Refusals.{Reason, unknown_qualifier, unknown_column, ambiguous_column, constant_only}
use Rattle.rules.specs.Refusals.{not_aggregated}
use Rattle.rules.specs.Lists.{any, positions, is_empty, is_some}
use Rattle.rules.specs.Lines.{Word}
use Rattle.rules.specs.Schema.{Column, Table}
use Rattle.rules.specs.Ast.{Expr, Item}
use Rattle.rules.specs.Views.{as_column}
use Rattle.rules.specs.Equality.{same_name, equal}
use Rattle.rules.specs.Plan.{Label, nameless, unqualified, qualified, invert_remap}

-- an expression that a column holds: a group, an aggregate or, over a projection, an item
pub record Match : Type 0 where
  pub expr : Expr
  pub column : ℕ

pub record Scope : Type 0 where
  -- the visible columns by their labels, in the order of the rows; with none, only constants can be built
  pub columns : List Label
  -- the names that may qualify a column: tables by their aliases, or by their own names
  pub tables : List Word
  -- what an expression is looked up in before it is built; empty where nothing was aggregated below
  pub aggregates : List Match
  -- the columns that a projection passes on for HAVING and ORDER BY only; the last remap drops them
  pub hidden : List ℕ

-- Scope::new
unfoldable pub empty : Scope
empty = record { columns = []; tables = []; aggregates = []; hidden = [] }

unfoldable pub width : Scope → ℕ
width s = length s.columns

-- spawn: a child scope keeps the table names
unfoldable pub spawn : Scope → Scope
spawn s = record { columns = []; tables = s.tables; aggregates = []; hidden = [] }

unfoldable pub add_column : Label → Scope → Scope
add_column l s = record {
  columns = s.columns ++ (l ∷ []);
  tables = s.tables;
  aggregates = s.aggregates;
  hidden = s.hidden;
}

-- from_table, add_table: the table's columns under its name or its alias
unfoldable pub from_table : Word → Table → Scope
from_table n t = record {
  columns = map (λ (c : Column). qualified n c.name) t.columns;
  tables = n ∷ [];
  aggregates = [];
  hidden = [];
}

-- LOOKUP
unfoldable pub is_qualified : Word → Word → Label → Bool
is_qualified t n nameless = false
is_qualified t n (unqualified m) = false
is_qualified t n (qualified u m) = same_name u t && same_name m n

unfoldable pub is_named : Word → Label → Bool
is_named n nameless = false
is_named n (unqualified m) = same_name m n
is_named n (qualified u m) = same_name m n

-- a position, or why there is none
pub data Found : Type 0 where
  at : ℕ → Found
  missing : Reason → Found

unfoldable pub not_found : Scope → Found
not_found s = elim (is_empty s.aggregates) [ true ↦ missing unknown_column | false ↦ missing not_aggregated ]

-- A qualified name given twice means the last: in `SELECT *, 1` over columns p1, p1 both starred columns are the last.
unfoldable pub the_last : Scope → List ℕ → Found
the_last s [] = not_found s
the_last s (i ∷ []) = at i
the_last s (i ∷ (j ∷ r)) = the_last s (j ∷ r)

-- an unqualified name must be the only one
unfoldable pub the_only : Scope → List ℕ → Found
the_only s [] = not_found s
the_only s (i ∷ []) = at i
the_only s (i ∷ (j ∷ r)) = missing ambiguous_column

unfoldable pub lookup_named : Scope → Option Word → Word → Found
lookup_named s none n = the_only s (positions (is_named n) 0 s.columns)
lookup_named s (some t) n = elim (any (same_name t) s.tables) [
  | false ↦ missing unknown_qualifier
  | true ↦ the_last s (positions (is_qualified t n) 0 s.columns)
]

-- lookup_column
unfoldable pub lookup : Scope → Option Word → Word → Found
lookup s t n = elim (is_empty s.columns) [ true ↦ missing constant_only | false ↦ lookup_named s t n ]

-- AGGREGATES
-- the column of the first match that is equal
unfoldable pub match_at : List Match → Expr → Option ℕ
match_at [] e = none
match_at (m ∷ ms) e = elim (equal m.expr e) [ true ↦ some m.column | false ↦ match_at ms e ]

-- lookup_aggregate
unfoldable pub matched : Scope → Expr → Option ℕ
matched s e = match_at s.aggregates e

-- aggregates.entry(e).or_insert(i): the first of equals stays
unfoldable pub add_match : Expr → ℕ → Scope → Scope
add_match e i s = elim (is_some (matched s e)) [
  | true ↦ s
  | false ↦ record {
    columns = s.columns;
    tables = s.tables;
    aggregates = s.aggregates ++ (record { expr = e; column = i } ∷ []);
    hidden = s.hidden;
  }
]

unfoldable pub found_label : Scope → Found → Label
found_label s (at i) = get_or s.columns i nameless
found_label s (missing n) = nameless

-- The label that a column name passes on, and none for anything else: under GROUP BY t.a the column is still t.a, under
-- GROUP BY a + 1 it has no name. A name that is not found is refused when it is built.
unfoldable pub label_of : Scope → Expr → Label
label_of s e = elim (as_column e) [ some c ↦ found_label s (lookup s c.table c.name) | none ↦ nameless ]

-- add_aggregate, of an expression that the scope has not
unfoldable pub add_aggregate : Scope → Expr → Scope → Scope
add_aggregate parent e s = add_match e (width s) (add_column (label_of parent e) s)

unfoldable pub hide : Bool → ℕ → Scope → Scope
hide false i s = s
hide true i s = record {
  columns = s.columns;
  tables = s.tables;
  aggregates = s.aggregates;
  hidden = s.hidden ++ (i ∷ []);
}

-- the matches at a position, added at another
unfoldable pub add_matches : List Match → ℕ → ℕ → Scope → Scope
add_matches [] from to s = s
add_matches (m ∷ ms) from to s = elim (eqb m.column from) [
  | true ↦ add_matches ms from to (add_match m.expr to s)
  | false ↦ add_matches ms from to s
]

-- add_passthrough
unfoldable pub add_passthrough : Scope → ℕ → Bool → Scope → Scope
add_passthrough parent i h s =
    hide (h || any (eqb i) parent.hidden) (width s)
    (add_matches parent.aggregates i (width s) (add_column (get_or parent.columns i nameless) s))

-- MERGE
-- whether a table name is held by both
unfoldable pub shares : List Word → List Word → Bool
shares ts us = any (λ u. any (same_name u) ts) us

-- the matches of a scope whose columns now stand o further on
unfoldable pub shift : ℕ → List Match → Scope → Scope
shift o [] s = s
shift o (m ∷ ms) s = shift o ms (add_match m.expr (m.column + o) s)

-- merge, where no table name is held by both
unfoldable pub merge : Scope → Scope → Scope
merge s t = shift (width s) t.aggregates (record {
  columns = s.columns ++ t.columns;
  tables = s.tables ++ t.tables;
  aggregates = s.aggregates;
  hidden = s.hidden ++ map (λ i. i + width s) t.hidden;
})

-- PROJECT
unfoldable pub item_label : Scope → Expr → Option Word → Label
item_label s e none = label_of s e
item_label s e (some a) = unqualified a

-- Over aggregates an item's whole expression can be matched:
-- `SELECT a + 1 AS x .. GROUP BY a ORDER BY a + 1` sorts by x.
unfoldable pub project_one : Scope → Item → Scope → Scope
project_one s i c = elim (is_empty s.aggregates) [
  | true ↦ add_column (item_label s i.expr i.alias) c
  | false ↦ add_match i.expr (width c) (add_column (item_label s i.expr i.alias) c)
]

unfoldable pub project_all : Scope → List Item → Scope → Scope
project_all s [] c = c
project_all s (i ∷ is') c = project_all s is' (project_one s i c)

-- project
unfoldable pub project : Scope → List Item → Scope
project s is' = project_all s is' (spawn s)

-- REMAP
-- the sources passed through in order
unfoldable pub pass_all : Scope → List (Option ℕ) → Scope → Scope
pass_all s [] c = c
pass_all s (none ∷ r) c = pass_all s r c
pass_all s (some i ∷ r) c = pass_all s r (add_passthrough s i false c)

-- remap
unfoldable pub remap : Scope → List (Option ℕ) → Scope
remap s ts = pass_all s (invert_remap ts) (spawn s)

-- a target for each of n columns from i, none for a hidden one
unfoldable pub targets_from : List ℕ → ℕ → ℕ → ℕ → List (Option ℕ)
targets_from hs zero i t = []
targets_from hs (suc n) i t = elim (any (eqb i) hs) [
  | true ↦ none ∷ targets_from hs n (suc i) t
  | false ↦ some t ∷ targets_from hs n (suc i) (suc t)
]

-- remap_hidden: `SELECT id .. ORDER BY value` projects id and a hidden value, sorts by it, and then drops it
unfoldable pub remap_hidden : Scope → Option (List (Option ℕ))
remap_hidden s = elim (is_empty s.hidden) [ true ↦ none | false ↦ some (targets_from s.hidden (width s) 0 0) ]
