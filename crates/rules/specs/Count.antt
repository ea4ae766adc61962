-- The count of a SELECT's cells, from statement and catalog alone ("The count is their sum"), and its bound.
use Rattle.std.specs.Prelude.{ℕ, ◌+◌, ◌*◌, true, false}
use Rattle.std.proofs.Math.Option.{Option, none, some}
use Rattle.rules.specs.Schema.{Catalog}
use Rattle.rules.specs.Ast.{Expr, star, column, literal, call, unary, binary, is, Exprs, nil, cons, Item, Select}
use Rattle.rules.specs.Views.{as_star, as_call}
use Rattle.rules.specs.Scope.{Scope, width, matched}
use Rattle.rules.specs.Cells.{added}
use Rattle.rules.specs.Sizes.{total, select_size}
use Rattle.rules.specs.Items.{stars_expand}
use Rattle.rules.specs.Order.{Use, over, argument_of, through, reads_of, uses_of}

-- a match is one cell
unfoldable pub pick_cost : Option ℕ → ℕ → ℕ
pick_cost (some i) k = 1
pick_cost none k = k

unfoldable mutual
  pub cost : Scope → Expr → ℕ
  cost s (star l) = pick_cost (matched s (star l)) 1
  cost s (column l t n) = pick_cost (matched s (column l t n)) 1
  cost s (literal l v) = pick_cost (matched s (literal l v)) 1
  cost s (call l n as') = pick_cost (matched s (call l n as')) (cost_first s as' + 1)
  cost s (unary l o a) = pick_cost (matched s (unary l o a)) (cost s a + 1)
  cost s (binary l o a b) = pick_cost (matched s (binary l o a b)) (cost s a + cost s b + added o)
  cost s (is l a v) = pick_cost (matched s (is l a v)) (cost s a + 1)

  pub cost_first : Scope → Exprs → ℕ
  cost_first s nil = 0
  cost_first s (cons a as') = cost s a

-- an aggregate costs its argument; `count`'s star is one constant
unfoldable pub argument_cost : Scope → Expr → ℕ
argument_cost s e = elim (as_call e) [ some c ↦ cost_first s c.arguments | none ↦ 0 ]

unfoldable pub use_cost : Use → ℕ
use_cost (over s e) = cost s e
use_cost (argument_of s e) = argument_cost s e
use_cost (through i) = 1

-- the count of a SELECT
unfoldable pub count_select : Catalog → Select → ℕ
count_select c q = total use_cost (uses_of c q)

-- THE BOUND
-- the columns that the stars expand to, over w columns
unfoldable pub item_starred : ℕ → Item → ℕ
item_starred w i = elim (as_star i.expr) [ some l ↦ w | none ↦ 0 ]

unfoldable pub starred : Catalog → Select → ℕ
starred c q = elim (stars_expand q) [
  | true ↦ total (item_starred (width (reads_of c q).from)) q.items
  | false ↦ 0
]

-- demand 3's bound: four for each expression cell of the statement, and one for each column that each star expands to
unfoldable pub bound_select : Catalog → Select → ℕ
bound_select c q = 4 * select_size q + starred c q
