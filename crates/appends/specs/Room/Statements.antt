-- The cells of INSERT's rows and of UPDATE's sets: at most three for each expression cell, and one more for each set. The
-- numbers of INSERT's rows and of its map.
use Rattle.std.specs.Prelude.{ℕ, ◌+◌, ◌*◌, ◌≤◌, ◌≡◌, List, [], ◌∷◌, map, length}
use Rattle.std.proofs.Common.{arith}
use Rattle.std.proofs.Math.Option.{Option, none, some}
use Rattle.rules.specs.Refusals.{ok, refuse}
use Rattle.rules.specs.Limits.{most_cells}
use Rattle.rules.specs.Schema.{Value, Column, default_at}
use Rattle.rules.specs.Ast.{Expr, Insert}
use Rattle.rules.specs.Ast as Ast
use Rattle.rules.specs.Plan.{Mapping}
use Rattle.rules.specs.Cells.{Cell, built_count, count_all}
use Rattle.rules.specs.Scope.{Scope, lookup}
use Rattle.rules.specs.BuildExpression.{found, build, each}
use Rattle.rules.specs.BuildStatement.{column_map, or_default, set_value, set_built}
use Rattle.rules.specs.Sizes.{total, option_size, rows_size, sets_size}
use Rattle.claims.specs.Answers.{Ensures, then, past, weaken, ensured}
use Rattle.claims.specs.Reading.Limits.{LimitedInsert}
use Rattle.claims.specs.Room.Nodes.{most_node_numbers, rows_room, map_room}
use Rattle.claims.specs.Room.Statements.{length-size, map-room}
use Rattle.appends.specs.Lists.Kinds.{emit_all, all-ok}
use Rattle.appends.specs.Room.Written.{written, written-whole}
use Rattle.appends.specs.Room.Select.{written-three}

-- EXPRESSIONS OVER ONE SCOPE: a filter, the values of INSERT's rows
pub exprs-within : (s : Scope) (es : List Expr) → Ensures (each (build s) es) (λ xs. count_all xs ≤ total (written s) es)
unfolding each count_all total
exprs-within s [] = omega arith
exprs-within s (e ∷ es) = then (build s e) _ _ _ (written-whole s e) λ x h.
    then (each (build s) es) _ _ _ (exprs-within s es) λ xs g. omega (arith, h, g)

-- SETS
default-within : (l : ℕ) (v : Option Value) → Ensures (or_default l v) (λ x. built_count x ≤ 1)
unfolding or_default refuse built_count
default-within l none = tt
default-within l (some v) = omega arith

set-within : (s : Scope) (cs : List Column) (l i : ℕ) (v : Option Expr)
    → Ensures (set_value s cs l i v) (λ x. built_count x ≤ 3 * option_size v + 1)
unfolding set_value option_size
set-within s cs l i (some e) = weaken (build s e) _ _ (λ x h. omega (arith, h, written-three s e)) (written-whole s e)
set-within s cs l i none =
    weaken (or_default l (default_at cs i)) _ _ (λ x h. omega (arith, h)) (default-within l (default_at cs i))

-- what is set so far
pub room-sets : (s : Scope) (cs : List Column) (xs : List Ast.Set)
    → Ensures (each (set_built s cs) xs) (λ us. count_all (map (λ u. u.1) us) ≤ 3 * sets_size xs + length xs)
unfolding each count_all sets_size total set_built
room-sets s cs [] = omega arith
room-sets s cs (x ∷ xs) =
    then (set_built s cs x) _ (λ u. built_count u.1 ≤ 3 * option_size x.value + 1) _
    (past (found x.line (lookup s none x.name)) _ _ λ i.
    then (set_value s cs x.line i x.value) _ _ _ (set-within s cs x.line i x.value) λ e h. h)
    λ u h. then (each (set_built s cs) xs) _ _ _ (room-sets s cs xs) λ us g. omega (arith, h, g)

-- the next cell behind an accepted row
pub row_next : (s : Scope) (n : ℕ) (es : List Expr) (xs : List Cell) (ns : List ℕ) (m : ℕ)
    → emit_all s n es ≡ ok (xs, ns, m) → m ≤ n + total (written s) es
row_next s n es xs ns m h =
    let a = all-ok s es n xs ns m h in
    omega (arith, a.next, ensured (each (build s) es) _ (exprs-within s es) a.built a.answer)

-- the numbers of its rows, whatever they are built to, and of its map
rows-length : (rs : List (List Expr)) → rows_room rs ≤ length rs + rows_size rs
unfolding rows_room rows_size total
rows-length [] = omega arith
rows-length (r ∷ rs) = omega (arith, length-size r, rows-length rs)

pub numbers-insert : (cs : List Column) (d : Insert) (m : Option (List Mapping)) → rows_size d.rows ≤ most_cells
    → LimitedInsert d → column_map cs d.columns ≡ ok m
    → (2 + rows_room d.rows) + (2 + map_room m) ≤ most_node_numbers
numbers-insert cs d m few limited e = omega (
  arith,
  few,
  limited.rows,
  rows-length d.rows,
  ensured (column_map cs d.columns) _ (map-room cs d.columns limited.columns) m e,
)
