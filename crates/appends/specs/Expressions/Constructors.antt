-- What each kind of expression appends, as one equation.
use Rattle.std.specs.Prelude.{ℕ, ◌+◌, pred, ◌≡◌, refl, Bool, true, false, not, List, [], ◌∷◌, ◌++◌}
use Rattle.std.proofs.Common.{arith, ap, ◌∙◌}
use Rattle.std.proofs.Math.Option.{Option, none, some}
use Rattle.rules.specs.Refusals.{Answer, ok, refused, ◌>>=◌, refuse, refuse_if, unsupported_star, unknown_function}
use Rattle.rules.specs.Refusals.{invalid_is}
use Rattle.rules.specs.Lists.{same}
use Rattle.rules.specs.Lines.{Word, bytes}
use Rattle.rules.specs.Schema.{Value}
use Rattle.rules.specs.Ast.{Unary, sqrt, Binary, Expr, star, column, literal, call, unary, binary, is, Exprs, nil, cons}
use Rattle.rules.specs.Plan.{Built}
use Rattle.rules.specs.Plan as P
use Rattle.rules.specs.Cells.{Cell, added, built_count, root, operator, cells}
use Rattle.rules.specs.Cells as C
use Rattle.rules.specs.Scope.{Scope, Found, at, missing, lookup, matched}
use Rattle.rules.specs.BuildExpression.{found, pick_matched, or_matched, is_null_or_nan, only_argument, build, build_argument}
use Rattle.appends.specs.Expressions.Emit.{emitted, emit, pair_ok}

-- a match is one column
unfoldable pub or_column : ℕ → Option ℕ → Answer (List Cell × ℕ) → Answer (List Cell × ℕ)
or_column n (some i) r = ok (C.column i ∷ [], n + 1)
or_column n none r = r

-- one cell behind an operand's
unfoldable pub with_cell : (ℕ → Cell) → (List Cell × ℕ) → Answer (List Cell × ℕ)
with_cell c p = ok (p.0 ++ (c (pred p.1) ∷ []), p.1 + 1)

-- the cells of an operator behind those of its operands
unfoldable pub with_operator : Binary → (List Cell × ℕ) → (List Cell × ℕ) → Answer (List Cell × ℕ)
with_operator o p q = ok (p.0 ++ (q.0 ++ operator o q.1 (pred p.1) (pred q.1)), q.1 + added o)

-- the one argument of `sqrt`
unfoldable pub emit_argument : Scope → ℕ → ℕ → Exprs → Answer (List Cell × ℕ)
emit_argument s n l as' = emitted n (build_argument s l as')

matched-law : (s : Scope) (n : ℕ) (e : Expr) (r : Answer Built)
    → emitted n (or_matched s e r) ≡ or_column n (matched s e) (emitted n r)
unfolding or_matched emitted ◌>>=◌ pick_matched or_column cells built_count
matched-law s n e r = go (matched s e)
  where
    go : (o : Option ℕ) → emitted n (pick_matched o r) ≡ or_column n o (emitted n r)
    go none = refl
    go (some i) = refl

unary-law : (n : ℕ) (o : Unary) (r : Answer Built)
    → emitted n (r >>= λ x. ok (P.unary o x)) ≡ emitted n r >>= with_cell (C.unary o)
unfolding emitted ◌>>=◌ with_cell cells built_count root
unary-law n o (ok a) = let e : n + (built_count a + 1) ≡ n + built_count a + 1 = omega arith in pair_ok refl e
unary-law n o (refused w) = refl

binary-law : (n : ℕ) (o : Binary) (r t : Answer Built) → emitted n (r >>= λ x. t >>= λ y. ok (P.binary o x y))
    ≡ emitted n r >>= λ p. emitted p.1 t >>= with_operator o p
unfolding emitted ◌>>=◌ with_operator cells built_count root
binary-law n o (ok a) (ok b) =
    let e : n + (built_count a + built_count b + added o) ≡ n + built_count a + built_count b + added o = omega arith in
    pair_ok refl e
binary-law n o (ok a) (refused w) = refl
binary-law n o (refused w) t = refl

is-law : (n l : ℕ) (v : Value) (b : Bool) (r : Answer Built)
    → emitted n (r >>= λ x. refuse_if b invalid_is l >>= λ u. ok (P.is x v))
    ≡ emitted n r >>= λ p. refuse_if b invalid_is l >>= λ u. with_cell (λ x. C.is x v) p
unfolding emitted ◌>>=◌ with_cell refuse_if refuse cells built_count root
is-law n l v false (ok a) = let e : n + (built_count a + 1) ≡ n + built_count a + 1 = omega arith in pair_ok refl e
is-law n l v true (ok a) = refl
is-law n l v b (refused w) = refl

call-law : (n l : ℕ) (b : Bool) (r : Answer Built)
    → emitted n (refuse_if b unknown_function l >>= λ u. r >>= λ x. ok (P.unary sqrt x))
    ≡ refuse_if b unknown_function l >>= λ u. emitted n r >>= with_cell (C.unary sqrt)
unfolding emitted refuse_if refuse ◌>>=◌
call-law n l true r = refl
call-law n l false r = unary-law n sqrt r

column-law : (n l : ℕ) (f : Found)
    → emitted n (found l f >>= λ i. ok (P.column i)) ≡ found l f >>= λ i. ok (C.column i ∷ [], n + 1)
unfolding emitted found refuse ◌>>=◌ cells built_count
column-law n l (at i) = refl
column-law n l (missing w) = refl

pub emit-star : (s : Scope) (n l : ℕ) → emit s n (star l) ≡ or_column n (matched s (star l)) (refuse unsupported_star l)
unfolding emit build refuse emitted ◌>>=◌
emit-star s n l = matched-law s n (star l) (refuse unsupported_star l)

pub emit-column : (s : Scope) (n l : ℕ) (t : Option Word) (w : Word) → emit s n (column l t w)
    ≡ or_column n (matched s (column l t w)) (found l (lookup s t w) >>= λ i. ok (C.column i ∷ [], n + 1))
unfolding emit build
emit-column s n l t w = matched-law s n (column l t w) _ ∙ ap (or_column n _) (column-law n l (lookup s t w))

pub emit-literal : (s : Scope) (n l : ℕ) (v : Value)
    → emit s n (literal l v) ≡ or_column n (matched s (literal l v)) (ok (C.constant v ∷ [], n + 1))
unfolding emit build emitted ◌>>=◌ cells built_count
emit-literal s n l v = matched-law s n (literal l v) (ok (P.constant v))

pub emit-call : (s : Scope) (n l : ℕ) (w : Word) (as' : Exprs) → emit s n (call l w as')
    ≡ or_column n (matched s (call l w as')) (refuse_if (not (same w.bytes (bytes "sqrt"))) unknown_function l
    >>= λ u. emit_argument s n l as' >>= with_cell (C.unary sqrt))
unfolding emit build emit_argument
emit-call s n l w as' = matched-law s n (call l w as') _ ∙ ap (or_column n _) (call-law n l _ (build_argument s l as'))

pub emit-unary : (s : Scope) (n l : ℕ) (o : Unary) (a : Expr)
    → emit s n (unary l o a) ≡ or_column n (matched s (unary l o a)) (emit s n a >>= with_cell (C.unary o))
unfolding emit build
emit-unary s n l o a = matched-law s n (unary l o a) _ ∙ ap (or_column n _) (unary-law n o (build s a))

pub emit-binary : (s : Scope) (n l : ℕ) (o : Binary) (a b : Expr) → emit s n (binary l o a b)
    ≡ or_column n (matched s (binary l o a b)) (emit s n a >>= λ p. emit s p.1 b >>= with_operator o p)
unfolding emit build
emit-binary s n l o a b =
    matched-law s n (binary l o a b) _ ∙ ap (or_column n _) (binary-law n o (build s a) (build s b))

pub emit-is : (s : Scope) (n l : ℕ) (a : Expr) (v : Value) → emit s n (is l a v) ≡ or_column n (matched s (is l a v))
    (emit s n a >>= λ p. refuse_if (not (is_null_or_nan v)) invalid_is l >>= λ u. with_cell (λ x. C.is x v) p)
unfolding emit build
emit-is s n l a v = matched-law s n (is l a v) _ ∙ ap (or_column n _) (is-law n l v _ (build s a))

-- `sqrt` takes exactly one argument
pub argument-none : (s : Scope) (n l : ℕ) → emit_argument s n l nil ≡ refuse unknown_function l
unfolding emit_argument emitted build_argument refuse ◌>>=◌
argument-none s n l = refl

pub argument-one : (s : Scope) (n l : ℕ) (a : Expr) → emit_argument s n l (cons a nil) ≡ emit s n a
unfolding emit_argument emit build_argument only_argument
argument-one s n l a = refl

pub argument-more : (s : Scope) (n l : ℕ) (a b : Expr) (bs : Exprs)
    → emit_argument s n l (cons a (cons b bs)) ≡ refuse unknown_function l
unfolding emit_argument emitted build_argument only_argument refuse ◌>>=◌
argument-more s n l a b bs = refl
