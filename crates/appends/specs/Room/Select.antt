-- The cells that expressions append, accepted or refused: at most three for each of theirs, and one for a starred column.
use Rattle.std.specs.Prelude.{ℕ, ◌*◌, ◌≤◌, List}
use Rattle.std.proofs.Common.{arith}
use Rattle.rules.specs.Ast.{Expr, size}
use Rattle.rules.specs.Plan.{Label}
use Rattle.rules.specs.Scope.{Scope}
use Rattle.rules.specs.Items.{starred_column}
use Rattle.rules.specs.Sizes.{total}
use Rattle.claims.specs.Count.Totals.{total-most}
use Rattle.claims.specs.Count.Items.{starred-cost}
use Rattle.appends.specs.Room.Written.{written, written-cost, written-most}

-- an expression alone
pub written-three : (s : Scope) (e : Expr) → written s e ≤ 3 * size e
written-three s e = omega (arith, written-most s s e)

pub exprs-three : (s : Scope) (es : List Expr) → total (written s) es ≤ 3 * total size es
exprs-three s es = total-most (written s) size (written-three s) es

-- a starred column is one cell
pub starred-written : (g : Scope) (l : ℕ) (a : Label) → written g (starred_column l a).expr ≤ 1
starred-written g l a = omega (arith, starred-cost g l a, written-cost g (starred_column l a).expr)
