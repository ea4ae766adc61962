-- How far the rules have built a SELECT: the stages that were accepted, one clause after the other.
use Rattle.std.specs.Prelude.{◌≤◌, ◌≡◌, List}
use Rattle.rules.specs.Refusals.{ok}
use Rattle.rules.specs.Limits.{most_cells}
use Rattle.rules.specs.Schema.{Catalog}
use Rattle.rules.specs.Ast.{Item, Select}
use Rattle.rules.specs.Plan.{Built, Node}
use Rattle.rules.specs.Stage.{Stage}
use Rattle.rules.specs.BuildAggregate.{build_groups}
use Rattle.rules.specs.BuildFrom.{build_from_clause}
use Rattle.rules.specs.Items.{build_items}
use Rattle.rules.specs.BuildSelect.{build_where, later_of, functions_of, build_projection, build_having, build_order}
use Rattle.rules.specs.Sizes.{select_size}
use Rattle.claims.specs.Reading.Limits.{LimitedSelect}

-- FROM, over the catalog c
pub record AfterFrom (c : Catalog) (q : Select) (f : Stage) : Type 0 where
  pub few : select_size q ≤ most_cells
  pub limited : LimitedSelect q
  pub is : build_from_clause c q.from ≡ ok f

-- the items over it, and WHERE
pub record AfterWhere (c : Catalog) (q : Select) (is' : List Item) (w : Stage) : Type 0 where
  pub from : Stage
  pub past : AfterFrom c q from
  pub items : build_items q from.node ≡ ok is'
  pub is : build_where from q.filter ≡ ok w

-- groups and aggregates
pub record AfterGroups (c : Catalog) (q : Select) (is' : List Item) (a : Stage) : Type 0 where
  pub before : Stage
  pub past : AfterWhere c q is' before
  pub is : build_groups before q.group (functions_of is' (later_of q)) ≡ ok a

-- the projection
pub record AfterProjection (c : Catalog) (q : Select) (p : Stage) : Type 0 where
  pub items : List Item
  pub before : Stage
  pub past : AfterGroups c q items before
  pub is : build_projection before items (later_of q) ≡ ok p

-- HAVING
pub record AfterHaving (c : Catalog) (q : Select) (p : Stage) (h : Node Built) : Type 0 where
  pub past : AfterProjection c q p
  pub is : build_having p.node q.having p.scope ≡ ok h

-- ORDER
pub record AfterOrder (c : Catalog) (q : Select) (p : Stage) (o : Node Built) : Type 0 where
  pub before : Node Built
  pub past : AfterHaving c q p before
  pub is : build_order before q.order p.scope ≡ ok o
