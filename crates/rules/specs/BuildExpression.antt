-- Expressions resolved over a scope (planner.rs, build_expression and build_constant_value).
use Rattle.std.specs.Prelude.{ℕ, ◌%◌, ◌^◌, Bool, true, false, not, List, [], ◌∷◌, ltb}
use Rattle.std.proofs.Math.Option.{Option, none, some}
use Rattle.rules.specs.Refusals.{Answer, ok, ◌>>=◌, ◌>>◌, refuse, refuse_if, unsupported_star, unknown_function}
use Rattle.rules.specs.Refusals.{invalid_is}
use Rattle.rules.specs.Lists.{same, map_option}
use Rattle.rules.specs.Lines.{bytes}
use Rattle.rules.specs.Schema.{Value, null, bool, int, float, text}
use Rattle.rules.specs.Ast.{Expr, star, column, literal, call, unary, binary, is, Exprs, nil, cons, Clause}
use Rattle.rules.specs.Ast as Ast
use Rattle.rules.specs.Plan.{Built}
use Rattle.rules.specs.Plan as P
use Rattle.rules.specs.Scope.{Scope, empty, Found, at, missing, lookup, matched}
use Rattle.rules.specs.Evaluate.{evaluate}

-- `lookup_column(..)?`, for a record at line l
unfoldable pub found : ℕ → Found → Answer ℕ
found l (at i) = ok i
found l (missing n) = refuse n l

-- a match comes first, and is one column
unfoldable pub pick_matched : Option ℕ → Answer Built → Answer Built
pick_matched (some i) r = ok (P.column i)
pick_matched none r = r

unfoldable pub or_matched : Scope → Expr → Answer Built → Answer Built
or_matched s e r = pick_matched (matched s e) r

-- what `is` compares with: null, or a NaN
unfoldable pub is_null_or_nan : Value → Bool
is_null_or_nan null = true
is_null_or_nan (bool b) = false
is_null_or_nan (int n) = false
is_null_or_nan (float b) = ltb 0x7ff0000000000000 (b % 2 ^ 63)
is_null_or_nan (text w) = false

-- no second argument is taken
unfoldable pub only_argument : ℕ → Exprs → Answer Built → Answer Built
only_argument l nil r = r
only_argument l (cons b bs) r = refuse unknown_function l

-- build_expression; `ge`, `le` and `ne` stay, for `desugar` and for the shared cells
unfoldable mutual
  pub build : Scope → Expr → Answer Built
  build s (star l) = or_matched s (star l) (refuse unsupported_star l)
  build s (column l t n) = or_matched s (column l t n) do
    i ← found l (lookup s t n)
    ok (P.column i)
  build s (literal l v) = or_matched s (literal l v) (ok (P.constant v))
  build s (call l n as') = or_matched s (call l n as') do
    refuse_if (not (same n.bytes (bytes "sqrt"))) unknown_function l
    x ← build_argument s l as'
    ok (P.unary Ast.sqrt x)
  build s (unary l o a) = or_matched s (unary l o a) do
    x ← build s a
    ok (P.unary o x)
  build s (binary l o a b) = or_matched s (binary l o a b) do
    x ← build s a
    y ← build s b
    ok (P.binary o x y)
  build s (is l a v) = or_matched s (is l a v) do
    x ← build s a
    refuse_if (not (is_null_or_nan v)) invalid_is l
    ok (P.is x v)

  -- the one argument of `sqrt`
  pub build_argument : Scope → ℕ → Exprs → Answer Built
  build_argument s l nil = refuse unknown_function l
  build_argument s l (cons a as') = only_argument l as' (build s a)

-- each in turn, up to the first refusal
unfoldable pub each : {A B : Type 0} → (A → Answer B) → List A → Answer (List B)
each f [] = ok []
each f (a ∷ as') = do
  b ← f a
  bs ← each f as'
  ok (b ∷ bs)

unfoldable pub build_option : Scope → Option Expr → Answer (Option Built)
build_option s none = ok none
build_option s (some e) = do
  x ← build s e
  ok (some x)

unfoldable pub clause_expr : Option Clause → Option Expr
clause_expr c = map_option (λ (d : Clause). d.expr) c

-- build_constant_value. The Rust works out what it built; that this is the same is the claim `constant-built`.
unfoldable pub constant : Expr → Answer Value
constant e = do
  x ← build empty e
  evaluate e
