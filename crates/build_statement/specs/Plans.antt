-- The contracts of building a statement: what is known of the slices and the nodes, and what a whole statement's answer and area are.
use Rattle.std.specs.Prelude.{ℕ, ◌≤◌, ◌≡◌, List, length}
use Rattle.rules.specs.Refusals.{Answer, ok}
use Rattle.rules.specs.Limits.{least_area}
use Rattle.rules.specs.Lists.{Bytes}
use Rattle.rules.specs.Plan.{Built, Plan}
use Rattle.rules.specs.Cells.{plan_cells}
use Rattle.rules.specs.Entry.{outcome}
use Rattle.claims.specs.Within.{TextsWithin}
use Rattle.schema.specs.Layout.{catalog_at}
use Rattle.statement.specs.Layout.{statement_at}
use Rattle.plan.specs.Layout.{nodes_size}
use Rattle.plan.specs.declared.nodes.Nodes.{Nodes}
use Rattle.plan.specs.Emits.{result_by, Written}

-- the numbers stand for a catalog and a statement that were read from the texts c and q, there is room for a plan, and none of it is in use
pub record Ready (c q : Bytes) (tables cells froms parts area : List ℕ) (nodes : Nodes) : Type 0 where
  pub within : TextsWithin c q (catalog_at c q tables) (statement_at c q cells froms parts)
  pub area_room : least_area ≤ length area
  pub nodes_room : length nodes.numbers.now ≡ nodes_size
  pub none : nodes.used ≡ 0

-- the number of cells, or the refusal
unfoldable pub planned_of : Answer (Plan Built) → Written
planned_of = result_by λ p. length (plan_cells p)

-- r is the answer a; where it is a plan the area is the rules' area at exit, else its numbers are not determined
pub record Plans (a : Answer (Plan Built)) (area area' : List ℕ) (r : Written) : Type 0 where
  pub answer : r ≡ planned_of a
  pub kept : length area' ≡ length area
  pub exit : (p : Plan Built) → a ≡ ok p → area' ≡ (outcome area a).area

-- another answer that is the same
pub plans-same : {a b : Answer (Plan Built)} {area area' : List ℕ} {r : Written} → b ≡ a → Plans a area area' r
    → Plans b area area' r
plans-same e h = rw e h
