-- An aggregate function appended: its argument, one constant for `count`'s star.
use Rattle.std.specs.Prelude.{ℕ, ◌+◌, pred, ◌≡◌, refl, true, false, ◌&&◌, List, [], ◌∷◌}
use Rattle.std.proofs.Math.Option.{some}
use Rattle.rules.specs.Refusals.{Refusal, Answer, ok, refused, ◌>>=◌, refuse, argument_count, nested_aggregate}
use Rattle.rules.specs.Lists.{named, is_some}
use Rattle.rules.specs.Lines.{Word}
use Rattle.rules.specs.Schema.{bool}
use Rattle.rules.specs.Ast.{Expr, star, call, Exprs, nil, cons, line_of}
use Rattle.rules.specs.Views.{as_star, as_call}
use Rattle.rules.specs.Plan.{Aggregate, count}
use Rattle.rules.specs.Cells.{Cell, built_count, root, cells}
use Rattle.rules.specs.Cells as C
use Rattle.rules.specs.Scope.{Scope}
use Rattle.rules.specs.BuildExpression.{build}
use Rattle.rules.specs.BuildAggregate.{aggregates, contains, is_count, argument, aggregate_of, build_function}
use Rattle.appends.specs.Answers.{refuse_if-passed, refuse_if-refused}
use Rattle.appends.specs.Expressions.Emit.{emitted, emit, emitted-ok, emitted-refused}
use Rattle.appends.specs.Lists.Each.{entry_of, emit_entry}
use Rattle.appends.specs.Lists.Entry.{emit_second}

-- ARGUMENTS
unfoldable pub emit_operand : Scope → ℕ → Aggregate → Expr → Answer (List Cell × ℕ)
emit_operand s n g a = emitted n (argument s g a)

pub operand-star : (s : Scope) (n l : ℕ) → emit_operand s n count (star l) ≡ ok (C.constant (bool true) ∷ [], n + 1)
unfolding emit_operand emitted argument is_count is_some as_star ◌>>=◌ cells built_count
operand-star s n l = refl

operand-built : (s : Scope) (g : Aggregate) (a : Expr) → (is_count g && is_some (as_star a)) ≡ false
    → argument s g a ≡ build s a
unfolding argument
operand-built s g a e = rw (e, argument)

-- any other argument, and any other function's
pub operand-other : (s : Scope) (n : ℕ) (g : Aggregate) (a : Expr) → (is_count g && is_some (as_star a)) ≡ false
    → emit_operand s n g a ≡ emit s n a
unfolding emit_operand emit
operand-other s n g a e = rw (operand-built s g a e)

-- FUNCTIONS
by_name : (s : Scope) (l : ℕ) (w : Word) (g : Aggregate) (as' : Exprs) → named aggregates w.bytes ≡ some g
    → build_function s (call l w as') ≡ aggregate_of s l g as'
unfolding build_function as_call line_of
by_name s l w g as' h = rw (h, build_function)

one_argument : (s : Scope) (l : ℕ) (g : Aggregate) (a : Expr) → contains a ≡ false
    → aggregate_of s l g (cons a nil) ≡ argument s g a >>= λ x. ok (g, x)
unfolding aggregate_of
one_argument s l g a e = refuse_if-passed _ _ l _ e

pub function-step : (s : Scope) (n l : ℕ) (w : Word) (g : Aggregate) (a : Expr) (xs : List Cell) (m : ℕ)
    → named aggregates w.bytes ≡ some g → contains a ≡ false → emit_operand s n g a ≡ ok (xs, m)
    → emit_second (build_function s) n (call l w (cons a nil)) ≡ ok (xs, (g, pred m), m)
unfolding emit_second emit_entry entry_of emit_operand ◌>>=◌
function-step s n l w g a xs m h c e =
    let o = emitted-ok (argument s g a) n xs m e in
    rw (by_name s l w g (cons a nil) h, one_argument s l g a c, o.answer, o.cells, o.root, o.next)

pub function-argument : (s : Scope) (n l : ℕ) (w : Word) (g : Aggregate) (a : Expr) (r : Refusal)
    → named aggregates w.bytes ≡ some g → contains a ≡ false → emit_operand s n g a ≡ refused r
    → emit_second (build_function s) n (call l w (cons a nil)) ≡ refused r
unfolding emit_second emit_entry emit_operand ◌>>=◌
function-argument s n l w g a r h c e =
    rw (by_name s l w g (cons a nil) h, one_argument s l g a c, emitted-refused (argument s g a) n r e)

pub function-nested : (s : Scope) (n l : ℕ) (w : Word) (g : Aggregate) (a : Expr) → named aggregates w.bytes ≡ some g
    → contains a ≡ true → emit_second (build_function s) n (call l w (cons a nil)) ≡ refuse nested_aggregate l
unfolding emit_second emit_entry aggregate_of refuse ◌>>=◌
function-nested s n l w g a h c =
    let e : aggregate_of s l g (cons a nil) ≡ refuse nested_aggregate l = refuse_if-refused _ _ l _ c in
    rw (by_name s l w g (cons a nil) h, e)

pub function-none : (s : Scope) (n l : ℕ) (w : Word) (g : Aggregate) → named aggregates w.bytes ≡ some g
    → emit_second (build_function s) n (call l w nil) ≡ refuse argument_count l
unfolding emit_second emit_entry aggregate_of refuse ◌>>=◌
function-none s n l w g h = rw (by_name s l w g nil h)

pub function-more : (s : Scope) (n l : ℕ) (w : Word) (g : Aggregate) (a b : Expr) (bs : Exprs)
    → named aggregates w.bytes ≡ some g
    → emit_second (build_function s) n (call l w (cons a (cons b bs))) ≡ refuse argument_count l
unfolding emit_second emit_entry aggregate_of refuse ◌>>=◌
function-more s n l w g a b bs h = rw (by_name s l w g (cons a (cons b bs)) h)
