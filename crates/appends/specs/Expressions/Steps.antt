-- What an expression appends: a match, a literal; and the stars and calls that are refused.
use Rattle.std.specs.Prelude.{ℕ, ◌+◌, ◌≡◌, refl, Bool, true, false, List, [], ◌∷◌}
use Rattle.std.proofs.Common.{◌∙◌}
use Rattle.std.proofs.Math.Bool.{not}
use Rattle.std.proofs.Math.Option.{none, some}
use Rattle.rules.specs.Refusals.{ok, ◌>>=◌, refuse, refuse_if, unsupported_star}
use Rattle.rules.specs.Refusals.{unknown_function}
use Rattle.rules.specs.Lists.{same}
use Rattle.rules.specs.Lines.{Word, bytes}
use Rattle.rules.specs.Schema.{Value}
use Rattle.rules.specs.Ast.{sqrt, Expr, star, column, literal, call, unary, binary, is, Exprs, nil, cons}
use Rattle.rules.specs.Cells.{Cell}
use Rattle.rules.specs.Cells as C
use Rattle.rules.specs.Scope.{Scope, matched}
use Rattle.appends.specs.Expressions.Emit.{emit}
use Rattle.appends.specs.Expressions.Constructors.{or_column, with_cell, emit_argument, argument-none}
use Rattle.appends.specs.Expressions.Constructors.{argument-more, emit-star, emit-column}
use Rattle.appends.specs.Expressions.Constructors.{emit-literal, emit-call, emit-unary, emit-binary, emit-is}

-- a match comes first
pub match-step : (s : Scope) (n : ℕ) (e : Expr) (i : ℕ) → matched s e ≡ some i
    → emit s n e ≡ ok (C.column i ∷ [], n + 1)
unfolding or_column
match-step s n (star l) i h = emit-star s n l ∙ rw h
match-step s n (column l t w) i h = emit-column s n l t w ∙ rw h
match-step s n (literal l v) i h = emit-literal s n l v ∙ rw h
match-step s n (call l w as') i h = emit-call s n l w as' ∙ rw h
match-step s n (unary l o a) i h = emit-unary s n l o a ∙ rw h
match-step s n (binary l o a b) i h = emit-binary s n l o a b ∙ rw h
match-step s n (is l a v) i h = emit-is s n l a v ∙ rw h

pub star-refused : (s : Scope) (n l : ℕ) → matched s (star l) ≡ none → emit s n (star l) ≡ refuse unsupported_star l
unfolding or_column
star-refused s n l h = emit-star s n l ∙ rw h

-- LITERALS
pub literal-step : (s : Scope) (n l : ℕ) (v : Value) → matched s (literal l v) ≡ none
    → emit s n (literal l v) ≡ ok (C.constant v ∷ [], n + 1)
unfolding or_column
literal-step s n l v h = emit-literal s n l v ∙ rw h

-- CALLS
pub call-refused : (s : Scope) (n l : ℕ) (w : Word) (as' : Exprs) → matched s (call l w as') ≡ none
    → same w.bytes (bytes "sqrt") ≡ false → emit s n (call l w as') ≡ refuse unknown_function l
unfolding or_column refuse_if refuse not ◌>>=◌
call-refused s n l w as' h t = emit-call s n l w as' ∙ rw (h, t)

-- refused for its arguments, by any name
call-arguments : (s : Scope) (n l : ℕ) (w : Word) (as' : Exprs) → matched s (call l w as') ≡ none
    → emit_argument s n l as' ≡ refuse unknown_function l → emit s n (call l w as') ≡ refuse unknown_function l
unfolding or_column refuse_if refuse ◌>>=◌
call-arguments s n l w as' h e = emit-call s n l w as' ∙ rw (h, e) (go (not (same w.bytes (bytes "sqrt"))))
  where
    go : (b : Bool) → (refuse_if b unknown_function l
        >>= λ u. refuse {A = List Cell × ℕ} unknown_function l >>= with_cell (C.unary sqrt)) ≡ refuse unknown_function l
    go true = refl
    go false = refl

pub call_none : (s : Scope) (n l : ℕ) (w : Word) → matched s (call l w nil) ≡ none
    → emit s n (call l w nil) ≡ refuse unknown_function l
call_none s n l w h = call-arguments s n l w nil h (argument-none s n l)

pub call-more : (s : Scope) (n l : ℕ) (w : Word) (a b : Expr) (bs : Exprs)
    → matched s (call l w (cons a (cons b bs))) ≡ none
    → emit s n (call l w (cons a (cons b bs))) ≡ refuse unknown_function l
call-more s n l w a b bs h = call-arguments s n l w (cons a (cons b bs)) h (argument-more s n l a b bs)
