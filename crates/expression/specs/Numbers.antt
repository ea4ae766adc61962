-- What the answers about a constant's numbers mean.
use Rattle.std.specs.Prelude.{ℕ, ◌≡◌, refl, Option, Some, None}
use Rattle.std.proofs.Math.Option.{some}
use Rattle.rules.specs.Refusals as rule
use Rattle.rules.specs.Refusals.{Answer, ok, refused, ◌>>=◌, refuse}
use Rattle.rules.specs.Schema.{Value}
use Rattle.rules.specs.Ast.{Clause}
use Rattle.rules.specs.Plan.{Built, Node}
use Rattle.rules.specs.BuildExpression.{constant}
use Rattle.rules.specs.BuildSelect.{natural, build_rows}

-- for a clause at line l that refuses by r what is no number of 0 or more
unfoldable pub natural_of : rule.Reason → ℕ → Option ℕ → Answer ℕ
natural_of r l (Some n) = ok n
natural_of r l None = refuse r l

unfoldable pub natural_in : rule.Reason → ℕ → Answer Value → Answer ℕ
natural_in r l m = m >>= natural r l

-- OFFSET and LIMIT by the number of their constant
pub rows-built : (r : rule.Reason) (f : ℕ → Node Built → Node Built) (n : Node Built) (c : Clause)
    → build_rows r f n (some c) ≡ (natural_in r c.line (constant c.expr) >>= λ k. ok (f k n))
unfolding build_rows natural_in ◌>>=◌
rows-built r f n c = by (constant c.expr)
  where
    by : (m : Answer Value) → (m >>= λ v. natural r c.line v >>= λ k. ok (f k n))
        ≡ ((m >>= natural r c.line) >>= λ k. ok (f k n))
    by (ok v) = refl
    by (refused s) = refl
