-- A constant worked out from the statement's expression is what the Rust works out of the expression that it built.
use Rattle.std.specs.Prelude.{ℕ, ◌≡◌, refl}
use Rattle.std.proofs.Common.{arith, ◌∙◌}
use Rattle.rules.specs.Refusals.{constant_only, Answer, ok, refused, ◌>>=◌, refuse}
use Rattle.rules.specs.Lists.{is_empty}
use Rattle.rules.specs.Schema.{Value}
use Rattle.rules.specs.Ast.{Expr, not, or, eq, gt, lt, Binary, plain, ge, le, ne}
use Rattle.rules.specs.Plan.{Built, Expression, desugar_binary, desugar}
use Rattle.rules.specs.Plan as P
use Rattle.rules.specs.Scope.{empty, lookup, matched, match_at}
use Rattle.rules.specs.Arithmetic.{Worked, gives, fails}
use Rattle.rules.specs.Operators.{plain_of, binary_of, unary_of, root_of, is_of}
use Rattle.rules.specs.Evaluate.{worked_at, evaluate}
use Rattle.rules.specs.BuildExpression.{build, constant}
use Rattle.claims.specs.Answers.{ensured}
use Rattle.claims.specs.Building.Built.{Steps, build-by}
use Rattle.claims.specs.Values.Values.{◌and_then◌, ge-combined, le-combined, ne-combined}

-- evaluate(None): the operands first, left before right, both always; a column, which cannot arise, has no row
unfoldable pub evaluate_built : Expression → Worked
evaluate_built (P.constant v) = gives v
evaluate_built (P.column i) = fails constant_only
evaluate_built (P.unary o a) = evaluate_built a and_then λ v. unary_of o v
evaluate_built (P.binary o a b) = evaluate_built a and_then λ v. evaluate_built b and_then λ w. plain_of o v w
evaluate_built (P.is a v) = evaluate_built a and_then λ w. is_of v w

-- an answer without its line
unfoldable pub lineless : Answer Value → Worked
lineless (ok v) = gives v
lineless (refused r) = fails r.reason

-- ALONG A DO-BLOCK
lineless-at : (l : ℕ) (x : Worked) → lineless (worked_at l x) ≡ x
unfolding lineless worked_at refuse
lineless-at l (gives v) = refl
lineless-at l (fails k) = refl

lineless-then : (m : Answer Value) (f : Value → Answer Value) (g : Value → Worked)
    → ((v : Value) → lineless (f v) ≡ g v)
    → lineless (m >>= f) ≡ (lineless m and_then g)
unfolding lineless ◌>>=◌
lineless-then (ok v) f g h = h v
lineless-then (refused r) f g h = refl

-- OPERANDS WORKED OUT TWICE, as in `Or(GreaterThan(a, b), Equal(a, b))`, or once, as in `Not(Equal(a, b))`
twice : (f h k j : Value → Value → Worked) → ((v w : Value) → f v w ≡ (h v w and_then λ g. k v w and_then λ e. j g e))
    → (x y : Worked) → (x and_then λ v. y and_then λ w. f v w)
    ≡ ((x and_then λ v. y and_then λ w. h v w) and_then λ g. (x and_then λ v. y and_then λ w. k v w) and_then λ e. j g e)
twice f h k j p (gives v) (gives w) = p v w
twice f h k j p (gives v) (fails r) = refl
twice f h k j p (fails r) y = refl

once : (f h : Value → Value → Worked) (j : Value → Worked) → ((v w : Value) → f v w ≡ (h v w and_then j))
    → (x y : Worked) → (x and_then λ v. y and_then λ w. f v w) ≡ ((x and_then λ v. y and_then λ w. h v w) and_then j)
once f h j p (gives v) (gives w) = p v w
once f h j p (gives v) (fails r) = refl
once f h j p (fails r) y = refl

combined : (o : Binary) (x y : Expression)
    → (evaluate_built x and_then λ v. evaluate_built y and_then λ w. binary_of o v w) ≡ evaluate_built (desugar_binary o x y)
unfolding desugar_binary evaluate_built binary_of
combined (plain o) x y = refl
combined ge x y =
    twice (binary_of ge) (plain_of gt) (plain_of eq) (plain_of or) ge-combined (evaluate_built x) (evaluate_built y)
combined le x y =
    twice (binary_of le) (plain_of lt) (plain_of eq) (plain_of or) le-combined (evaluate_built x) (evaluate_built y)
combined ne x y = once (binary_of ne) (plain_of eq) (unary_of not) ne-combined (evaluate_built x) (evaluate_built y)

-- THE CLAIM
one : (l : ℕ) (f : Value → Worked) (a : Expr) {x : Worked} → lineless (evaluate a) ≡ x
    → lineless (evaluate a >>= λ v. worked_at l (f v)) ≡ (x and_then f)
one l f a h = lineless-then (evaluate a) _ f (λ v. lineless-at l (f v)) ∙ rw h

two : (l : ℕ) (f : Value → Value → Worked) (a b : Expr) {x y : Worked} → lineless (evaluate a) ≡ x
    → lineless (evaluate b) ≡ y
    → lineless (evaluate a >>= λ v. evaluate b >>= λ w. worked_at l (f v w)) ≡ (x and_then λ v. y and_then λ w. f v w)
two l f a b {x} {y} h g = lineless-then (evaluate a) _ (λ v. y and_then λ w. f v w) (λ v. one l (f v) b g) ∙ rw h

built-steps : Steps empty (λ e x. lineless (evaluate e) ≡ evaluate_built (desugar x))
unfolding matched empty match_at lookup is_empty evaluate desugar evaluate_built unary_of
built-steps = record {
  matches = λ e i u. grind arith;
  columns = λ l t n i u f. grind arith;
  literals = λ l v u. unfold lineless in refl;
  roots = λ l n a x u e h. one l (λ v. root_of v) a h;
  unaries = λ l o a x u h. one l (λ v. unary_of o v) a h;
  binaries = λ l o a b x y u h g. two l (binary_of o) a b h g ∙ combined o (desugar x) (desugar y);
  tests = λ l a v x u e h. one l (λ w. is_of v w) a h;
}

-- A constant worked out from the statement is what working out its built expression gives.
pub constant-built : (e : Expr) (x : Built) → build empty e ≡ ok x → lineless (evaluate e) ≡ evaluate_built (desugar x)
constant-built e x h =
    ensured (build empty e) (λ y. lineless (evaluate e) ≡ evaluate_built (desugar y)) (build-by built-steps e) x h

-- build_constant_value: what is not built is refused as it is, and what is built is worked out.
pub constant-worked : (e : Expr) (x : Built) → build empty e ≡ ok x → lineless (constant e) ≡ evaluate_built (desugar x)
unfolding constant ◌>>=◌
constant-worked e x h = rw (constant, h) (constant-built e x h)
