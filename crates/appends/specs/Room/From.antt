-- The cells of FROM: at most three for each expression cell of its predicates. The numbers of its nodes: at most 272 a
-- table, less 265.
use Rattle.std.specs.Prelude.{ℕ, ◌+◌, ◌*◌, ◌≤◌, ◌≡◌, refl, Bool, false, List, [], ◌∷◌, ◌++◌}
use native.Mathlib.Omega.{arith}
use Rattle.std.proofs.Math.Option.{Option, none, some}
use Rattle.rules.specs.Lists.{given, concat}
use Rattle.rules.specs.Schema.{Catalog}
use Rattle.rules.specs.Ast.{Expr, From}
use Rattle.rules.specs.Plan.{Built, Node}
use Rattle.rules.specs.Plan as P
use Rattle.rules.specs.Cells.{Cell, count_all, expressions, cell_count}
use Rattle.rules.specs.Nodes.{NodeRecord}
use Rattle.rules.specs.Scope.{Scope}
use Rattle.rules.specs.BuildExpression.{build, build_option}
use Rattle.rules.specs.BuildFrom.{is_outer, Sides, scan_of, join_node, swap_targets, join_in_order, join_swapped}
use Rattle.rules.specs.BuildFrom.{build_from, build_from_clause}
use Rattle.rules.specs.Sizes.{total, option_size, from_size}
use Rattle.claims.specs.Answers.{Ensures, then, ensured, weaken}
use Rattle.claims.specs.Building.FromClause.{SidesBuilt, FromSteps, from-by, clause-by}
use Rattle.claims.specs.Reading.Limits.{from_tables}
use Rattle.claims.specs.Room.Nodes.{node_room, table_room, join_room}
use Rattle.claims.specs.Room.From.{room-steps}
use Rattle.appends.specs.Lists.Joined.{count-append}
use Rattle.appends.specs.From.Laid.{source_of, SourceLaid}
use Rattle.appends.specs.Room.Written.{written, written-whole}
use Rattle.appends.specs.Room.Select.{written-three}

-- an expression that may be missing
pub option-within : (s : Scope) (o : Option Expr)
    → Ensures (build_option s o) (λ x. count_all (given x) ≤ total (written s) (given o))
unfolding build_option given count_all total
option-within s none = omega arith
option-within s (some e) = then (build s e) _ _ _ (written-whole s e) λ b h. omega (arith, h)

pub option-three : (s : Scope) (o : Option Expr) → total (written s) (given o) ≤ 3 * option_size o
unfolding given total option_size
option-three s none = omega arith
option-three s (some e) = omega (arith, written-three s e)

-- CELLS
pub join_cells : (a b : Node Built) (x : Option Built) (o : Bool)
    → cell_count (P.join a b x o) ≡ cell_count a + cell_count b + count_all (given x)
unfolding cell_count expressions
join_cells a b x o = omega (
  arith,
  count-append (expressions a) (expressions b ++ given x),
  count-append (expressions b) (given x),
)

join-bare : (a b : Node Built) → cell_count (P.join a b none false) ≡ cell_count a + cell_count b
unfolding given count_all
join-bare a b = omega (arith, join_cells a b none false)

predicate-cells : (p : Option Expr) (d : Sides) → SidesBuilt p d → count_all (given d.predicate) ≤ 3 * option_size p
predicate-cells p d b = omega (
  arith,
  ensured (build_option d.scope p) _ (option-within d.scope p) d.predicate b.built,
  option-three d.scope p,
)

-- the two sides of a join and its predicate
sides-cells : (p : Option Expr) (d : Sides) (o : Bool) (m n : ℕ) → SidesBuilt p d → cell_count d.first.node ≤ m
    → cell_count d.second.node ≤ n → cell_count (join_node o d) ≤ m + n + 3 * option_size p
unfolding join_node
sides-cells p d o m n b h g =
    omega (arith, join_cells d.first.node d.second.node d.predicate o, predicate-cells p d b, h, g)

remap-cells : (n : Node Built) (ts : List (Option ℕ)) → cell_count (P.remap n ts) ≡ cell_count n
unfolding cell_count expressions
remap-cells n ts = refl

cell-steps : (c : Catalog) → FromSteps c (λ f r. cell_count r.node ≤ 3 * from_size f)
unfolding from_size scan_of join_in_order join_swapped
cell-steps c = record {
  tables = λ l n a t e. unfold cell_count expressions given count_all in (omega arith);
  joins = λ l j f g p d e h i b.
      omega (arith, sides-cells p d (is_outer j) (3 * from_size f) (3 * from_size g) b h i);
  rights = λ l j f g p d e h i b. omega (
    arith,
    sides-cells p d (is_outer j) (3 * from_size g) (3 * from_size f) b h i,
    remap-cells (join_node (is_outer j) d) (swap_targets d),
  );
}

-- an accepted item of FROM
pub item-cells : (c : Catalog) (f : From) → Ensures (build_from c f) (λ r. cell_count r.node ≤ 3 * from_size f)
item-cells c f = from-by (cell-steps c) f

-- and FROM
pub from-cells : (c : Catalog) (fs : List From)
    → Ensures (build_from_clause c fs) (λ f. cell_count f.node ≤ 3 * total from_size fs)
unfolding total
from-cells c [] = unfold build_from_clause cell_count expressions concat count_all in (omega arith)
from-cells c (f ∷ fs) = weaken (build_from_clause c (f ∷ fs)) _ _ (λ r g. omega (arith, g))
    (clause-by (cell-steps c) (λ gs s. cell_count s.node + 3 * total from_size gs ≤ 3 * total from_size (f ∷ fs))
    (λ g gs s r i k w. omega (arith, i, k, join-bare s.node r.node))
    f fs λ r k w. omega (arith, k))

-- the next cell behind an item whose first is i
pub item-next : (c : Catalog) (f : From) (s : Scope) (l i k : ℕ) (cs : List Cell) (rs : List NodeRecord) (j m : ℕ)
    → SourceLaid (build_from c f) s l i k cs rs j m → j ≤ i + 3 * from_size f
item-next c f s l i k cs rs j m h = omega (
  arith,
  h.lays.next,
  ensured (build_from c f) _ (item-cells c f) (source_of h.node s l) h.answer,
)

-- NUMBERS of an accepted item's nodes
pub item-numbers : (c : Catalog) (f : From) → Ensures (build_from c f) (λ r. node_room r.node + join_room ≤ table_room * from_tables f)
item-numbers c f = from-by (room-steps c) f
