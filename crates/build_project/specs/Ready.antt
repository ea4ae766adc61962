-- What a projection needs.
use Rattle.std.specs.Prelude.{ℕ, ◌+◌, ◌*◌, ◌≤◌, ◌<◌, ◌≡◌, false, List, map, ◌⊎◌, length}
use Rattle.rules.specs.Limits.{most_cells, most_columns}
use Rattle.rules.specs.Lists.{Bytes, is_empty}
use Rattle.rules.specs.Ast.{size}
use Rattle.rules.specs.Sizes.{total}
use Rattle.rules.specs.BuildSelect.{later_of}
use Rattle.ast.specs.Table.{table_size, tree_at}
use Rattle.scope.specs.Scopes.{scope_of, Valid, Plain}
use Rattle.scope.specs.declared.Scope.{Scope}
use Rattle.statement.specs.Access.{select_at}
use Rattle.plan.specs.Layout.{nodes_size, source_head, item_size}
use Rattle.plan.specs.Cells.{Room}
use Rattle.plan.specs.declared.nodes.Nodes.{Nodes}
use Rattle.build_projection.specs.Items.{item_of}
use Rattle.build_projection.specs.Pushes.{items_size}
use Rattle.build_projection.specs.declared.items.Item as listed
use Rattle.build_project.specs.Labels.{AliasesFit}

-- Of the items and the scope below them: nothing is hidden there, and nothing is matched, as in FROM, or something is, as
-- behind groups and aggregates.
pub record ItemsReady (c q : Bytes) (cells parts : List ℕ) (items : List listed.Item) (s : Scope) : Type 0 where
  pub valid : Valid s
  pub shown : s.hidden ≡ 0
  pub matched : Plain s ⊎ (is_empty (scope_of (tree_at c q cells) c q s).aggregates ≡ false)
  pub few : length items ≤ most_columns
  pub table : length cells ≡ table_size
  pub aliases : AliasesFit (map (item_of c q cells parts) items)

-- The expressions of HAVING and ORDER BY are within the limits.
abbrev pub LaterFew : Bytes → Bytes → List ℕ → List ℕ → Type 0
LaterFew c q cells parts = (froms : List ℕ) → total size (later_of (select_at c q cells froms parts)) ≤ most_cells

-- With that, there is room for three cells for each expression cell of the items, for the hidden columns' cells, and for
-- the record.
pub record ProjectionReady (c q : Bytes) (cells parts : List ℕ) (items : List listed.Item) (s : Scope) (n m : ℕ) (area : List ℕ)
    (u : Nodes) : Type 0 where
  pub items-ready : ItemsReady c q cells parts items s
  pub later : LaterFew c q cells parts
  pub room : Room n (3 * items_size c q cells parts items + most_columns) area
  pub space : u.used + source_head + item_size * most_columns ≤ length u.numbers.now
  pub most : length u.numbers.now ≤ nodes_size
  pub some-node : 0 < m
  pub few-nodes : m ≤ u.used
