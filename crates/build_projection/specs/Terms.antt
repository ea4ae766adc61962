-- The contract of the items: what is asked of the rows, the labels and the parts, and what is listed.
use Rattle.std.specs.Prelude.{ℕ, ◌*◌, ◌≤◌, ◌≡◌, Bool, true, false, List, map, length, take, Result}
use Rattle.rules.specs.Refusals.{Answer, ok, ◌>>=◌, at_most}
use Rattle.rules.specs.Limits.{most_columns, most_entries}
use Rattle.rules.specs.Lists.{Bytes}
use Rattle.rules.specs.Ast.{Item, Select}
use Rattle.rules.specs.Plan.{Built, Node, Label, labels}
use Rattle.rules.specs.Items.{expand_stars, build_items}
use Rattle.claims.specs.Answers.{All}
use Rattle.claims.specs.Refused.Qualified.{IsQualified}
use Rattle.ast.specs.Table.{row_size, statement_rows, table_size}
use Rattle.numbers.specs.declared.refusals.Refusal.{Refusal}
use Rattle.numbers.specs.Kept.{Kept}
use Rattle.scope.specs.Labels.{columns_of}
use Rattle.plan.specs.Emits.{result_by}
use Rattle.sections.specs.Layout.{section_at}
use Rattle.sections.specs.Access.{item_kind, group_kind, limit_kind}
use Rattle.statement.specs.Layout.{map_entries, to_group}
use Rattle.build_projection.specs.Items.{items_at, item_of}
use Rattle.build_projection.specs.declared.items.Item as listed

-- What holds of a SELECT that was read: the rows behind the statement's change nothing of its sections, and it has no
-- more items than may be. And of FROM: all its columns have a table.
pub record Ready (c q : Bytes) (cells parts ts labels : List ℕ) : Type 0 where
  pub sections : (x : List ℕ) → Kept 0 (row_size * statement_rows) cells x → length x ≡ table_size
      → (kind : ℕ) → kind ≤ limit_kind → section_at c q x parts kind ≡ section_at c q cells parts kind
  pub few : length (section_at c q cells parts item_kind) ≤ most_entries
  pub qualified : All IsQualified (columns_of c q ts labels)

-- the items, stars expanded or not
unfoldable pub chosen : Bool → List Label → List Item → List Item
chosen b ls is' = elim b [ true ↦ expand_stars ls is' | false ↦ is' ]

-- at most as many as may be
unfoldable pub counted : List Item → Answer (List Item)
counted is' = at_most most_columns (λ (i : Item). i.line) is' >>= λ u. ok is'

-- how many an answer has
unfoldable pub outcome_of : Answer (List Item) → Result ℕ Refusal
outcome_of = result_by length

-- what is answered; where it is accepted, what is listed is the items, and the statement's rows are as they were
pub record Answers (c q : Bytes) (cells cells' parts : List ℕ) (items' : List listed.Item) (a : Answer (List Item)) (r : Result ℕ Refusal) : Type 0 where
  pub answer : r ≡ outcome_of a
  pub kept : (is' : List Item) → a ≡ ok is' → Kept 0 (row_size * statement_rows) cells cells'
  pub items : (is' : List Item) → a ≡ ok is' → map (item_of c q cells' parts) (take (length is') items') ≡ is'

pub record ItemsExpanded (cells cells' parts ts labels : List ℕ) (items' : List listed.Item) (b : Bool) (r : Result ℕ Refusal) : Type 0 where
  pub is : (c q : Bytes) → Ready c q cells parts ts labels
      → Answers c q cells cells' parts items' (counted (chosen b (columns_of c q ts labels) (items_at c q cells parts))) r

-- of a SELECT d over FROM's node m
pub record ItemsBuilt (cells cells' parts ts labels' : List ℕ) (items' : List listed.Item) (r : Result ℕ Refusal) : Type 0 where
  pub is : (c q : Bytes) → Ready c q cells parts ts labels' → (d : Select) (m : Node Built)
      → d.items ≡ items_at c q cells parts
      → d.group ≡ map_entries to_group (section_at c q cells parts group_kind)
      → labels m ≡ columns_of c q ts labels'
      → Answers c q cells cells' parts items' (build_items d m) r
