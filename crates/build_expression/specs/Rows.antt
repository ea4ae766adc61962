-- What each kind of record appends behind its operands, as one equation about the tree at its row; and how many cells that
-- is at most.
use Rattle.std.specs.Prelude.{ℕ, ◌+◌, ◌*◌, ◌≤◌, ◌<◌, pred, ◌≡◌, refl, Bool, true, false, not, List, [], ◌∷◌}
use Rattle.std.proofs.Common.{arith, ◌∙◌}
use Rattle.std.proofs.Math.Option.{Option, none}
use Rattle.rules.specs.Refusals.{ok, refused, ◌>>=◌, refuse, refuse_if, invalid_is}
use Rattle.rules.specs.Lists.{same}
use Rattle.rules.specs.Lines.{Word, bytes}
use Rattle.rules.specs.Schema.{Value}
use Rattle.rules.specs.Ast.{Unary, sqrt, Binary, Expr, column, call, unary, binary, is, nil, cons, size}
use Rattle.rules.specs.Cells.{Cell, added, operator}
use Rattle.rules.specs.Cells as C
use Rattle.rules.specs.Scope.{Scope, Found, lookup, matched}
use Rattle.rules.specs.BuildExpression.{found, is_null_or_nan, build}
use Rattle.claims.specs.Answers.{ensured}
use Rattle.claims.specs.Cells.Length.{count-positive}
use Rattle.appends.specs.Expressions.Emit.{emit, emitted-ok}
use Rattle.appends.specs.Expressions.Constructors.{or_column, with_cell, with_operator, argument-one}
use Rattle.appends.specs.Expressions.Constructors.{emit-column, emit-call, emit-unary, emit-binary, emit-is}
use Rattle.appends.specs.Room.Written.{written-whole, written-most}
use Rattle.plan.specs.Emits.{Emitting, after, joined}

-- a column that is looked up
unfoldable pub column_step : ℕ → ℕ → Found → Emitting
column_step n l f = found l f >>= λ i. ok (C.column i ∷ [], n + 1)

unfoldable pub literal_step : ℕ → Value → Emitting
literal_step n v = ok (C.constant v ∷ [], n + 1)

-- BEHIND THE OPERANDS, the next cell m and, behind a second operand, k
unfoldable pub unary_step : Unary → ℕ → Emitting
unary_step o m = ok (C.unary o (pred m) ∷ [], m + 1)

unfoldable pub is_step : ℕ → Value → ℕ → Emitting
is_step l v m = refuse_if (not (is_null_or_nan v)) invalid_is l >>= λ u. ok (C.is (pred m) v ∷ [], m + 1)

unfoldable pub binary_step : Binary → ℕ → ℕ → Emitting
binary_step o m k = ok (operator o k (pred m) (pred k), k + added o)

with_cell_lem : (g : ℕ → Cell) (r : Emitting) → (r >>= with_cell g) ≡ joined r (λ m. ok (g (pred m) ∷ [], m + 1))
unfolding ◌>>=◌ with_cell joined after
with_cell_lem g (ok p) = refl
with_cell_lem g (refused w) = refl

with-test : (b : Bool) (l : ℕ) (g : ℕ → Cell) (r : Emitting)
    → (r >>= λ p. refuse_if b invalid_is l >>= λ u. with_cell g p)
    ≡ joined r (λ m. refuse_if b invalid_is l >>= λ u. ok (g (pred m) ∷ [], m + 1))
unfolding ◌>>=◌ with_cell joined after refuse_if refuse
with-test true l g (ok p) = refl
with-test false l g (ok p) = refl
with-test b l g (refused w) = refl

with-operator : (o : Binary) (r : Emitting) (f : ℕ → Emitting)
    → (r >>= λ p. f p.1 >>= with_operator o p) ≡ joined r (λ m. joined (f m) (binary_step o m))
unfolding ◌>>=◌ with_operator joined after binary_step
with-operator o (ok p) f = go (f p.1)
  where
    go : (s : Emitting) → (s >>= with_operator o p) ≡ after p.0 (joined s (binary_step o p.1))
    go (ok q) = refl
    go (refused w) = refl
with-operator o (refused w) f = refl

module _ (s : Scope) (n l : ℕ) where
  pub column-is : (t : Option Word) (w : Word) → matched s (column l t w) ≡ none
      → emit s n (column l t w) ≡ column_step n l (lookup s t w)
  unfolding or_column column_step
  column-is t w h = emit-column s n l t w ∙ rw h

  pub unary-is : (o : Unary) (a : Expr) → matched s (unary l o a) ≡ none
      → emit s n (unary l o a) ≡ joined (emit s n a) (unary_step o)
  unfolding or_column unary_step
  unary-is o a h = emit-unary s n l o a ∙ rw h (with_cell_lem (C.unary o) (emit s n a))

  pub root_is : (w : Word) (a : Expr) → same w.bytes (bytes "sqrt") ≡ true → matched s (call l w (cons a nil)) ≡ none
      → emit s n (call l w (cons a nil)) ≡ joined (emit s n a) (unary_step sqrt)
  unfolding or_column refuse_if ◌>>=◌ unary_step
  root_is w a t h = emit-call s n l w (cons a nil)
      ∙ rw (h, t, argument-one s n l a) (with_cell_lem (C.unary sqrt) (emit s n a))

  pub is-is : (a : Expr) (v : Value) → matched s (is l a v) ≡ none
      → emit s n (is l a v) ≡ joined (emit s n a) (is_step l v)
  unfolding or_column is_step
  is-is a v h = emit-is s n l a v ∙ rw h (with-test (not (is_null_or_nan v)) l (λ x. C.is x v) (emit s n a))

  pub binary-is : (o : Binary) (a b : Expr) → matched s (binary l o a b) ≡ none
      → emit s n (binary l o a b) ≡ joined (emit s n a) (λ m. joined (emit s m b) (binary_step o m))
  unfolding or_column
  binary-is o a b h = emit-binary s n l o a b ∙ rw h (with-operator o (emit s n a) (λ m. emit s m b))

-- HOW MANY CELLS
-- an accepted expression is at least one cell, and at most three for each expression cell
pub record Within (n m : ℕ) (e : Expr) : Type 0 where
  pub some' : n < m
  pub most : m ≤ n + 3 * size e

pub emit-within : (s : Scope) (n : ℕ) (e : Expr) (xs : List Cell) (m : ℕ) → emit s n e ≡ ok (xs, m) → Within n m e
unfolding emit
emit-within s n e xs m h =
    let o = emitted-ok (build s e) n xs m h in
    let w = ensured (build s e) _ (written-whole s e) o.built o.answer in
    record {
      some' = omega (arith, o.next, count-positive o.built);
      most = omega (arith, o.next, w, written-most s s e);
    }
