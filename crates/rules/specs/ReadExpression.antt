-- Expressions from their records, root first ("Expressions stand root first").
use Rattle.std.specs.Prelude.{ℕ, zero, suc, true, false, List, [], ◌∷◌, ltb}
use Rattle.std.proofs.Math.Option.{Option, none, some}
use Rattle.rules.specs.Refusals.{wrong_record, limit_passed, ok, refused}
use Rattle.rules.specs.Limits.{most_cells, most_depth}
use Rattle.rules.specs.Lists.{Bytes, map_option}
use Rattle.rules.specs.Lines.{Word, bytes}
use Rattle.rules.specs.Schema.{Value}
use Rattle.rules.specs.Ast.{Unary, not, fact, ident, neg}
use Rattle.rules.specs.Ast.{and, or, eq, gt, lt, add, div, pow, mul, rem, sub, like}
use Rattle.rules.specs.Ast.{Binary, plain, ge, le, ne, Expr, star, column, literal, call, unary, binary, is}
use Rattle.rules.specs.Ast.{Exprs, nil, cons, Clause}
use Rattle.rules.specs.Reader.{Place, Read, stop, give, ◌>>=◌, line_here, next, rest, at, line_number, one_of, name}
use Rattle.rules.specs.Reader.{word, count_field, no_field, one_field, both, two_fields, literals, literal_here}

-- what one record says
pub data Head : Type 0 where
  star_head is_head : Head
  column_head : Option Word → Word → Head
  value_head : Value → Head
  call_head : Word → ℕ → Head
  unary_head : Unary → Head
  binary_head : Binary → Head

unfoldable pub operators : List (Bytes × Head)
operators =
    (bytes "and", binary_head (plain and)) ∷ (bytes "not", unary_head not) ∷ (bytes "or", binary_head (plain or))
    ∷ (bytes "eq", binary_head (plain eq)) ∷ (bytes "gt", binary_head (plain gt)) ∷ (bytes "ge", binary_head ge)
    ∷ (bytes "is", is_head) ∷ (bytes "lt", binary_head (plain lt)) ∷ (bytes "le", binary_head le)
    ∷ (bytes "ne", binary_head ne) ∷ (bytes "add", binary_head (plain add)) ∷ (bytes "div", binary_head (plain div))
    ∷ (bytes "pow", binary_head (plain pow)) ∷ (bytes "fact", unary_head fact) ∷ (bytes "ident", unary_head ident)
    ∷ (bytes "mul", binary_head (plain mul)) ∷ (bytes "neg", unary_head neg) ∷ (bytes "rem", binary_head (plain rem))
    ∷ (bytes "sub", binary_head (plain sub)) ∷ (bytes "like", binary_head (plain like)) ∷ []

-- a name, or a table and a name
unfoldable pub column_fields : List Word → Option Head
column_fields [] = none
column_fields (w ∷ []) = map_option (column_head none) (name w)
column_fields (w ∷ (v ∷ [])) = map_option (λ (r : Word × Word). column_head (some r.0) r.1) (both (name w) (name v))
column_fields (w ∷ (v ∷ (u ∷ r))) = none

-- a function's name, and how many arguments follow
unfoldable pub call_fields : List Word → Option Head
call_fields r = map_option (λ (q : Word × ℕ). call_head q.0 q.1) (two_fields name count_field r)

-- literal records as expressions
unfoldable pub value_heads : List (Bytes × (List Word → Option Value)) → List (Bytes × (List Word → Option Head))
value_heads [] = []
value_heads (e ∷ es) = (e.0, λ r. map_option value_head (e.1 r)) ∷ value_heads es

unfoldable pub heads : List (Bytes × (List Word → Option Head))
heads =
    (bytes "op", one_field (word operators))
    ∷ (bytes "col", column_fields)
    ∷ (bytes "fn", call_fields)
    ∷ (bytes "star", λ r. map_option (λ u. star_head) (no_field r))
    ∷ value_heads literals

-- one more expression record
unfoldable pub counted : Place → Place
counted p = record {
  text = p.text;
  left = p.left;
  address = p.address;
  line = p.line;
  cells = suc p.cells;
  tables = p.tables;
}

-- the expression record here: 2, then 3 where it is one too many
unfoldable pub head_here : Read Head
head_here p = elim (one_of heads (line_here p)) [
  | none ↦ stop wrong_record p
  | some h ↦ elim (ltb p.cells most_cells) [ true ↦ ok (h, next (counted p)) | false ↦ stop limit_passed p ]
]

-- n in a row
unfoldable pub times : ℕ → Read Expr → Read Exprs
times zero e = give nil
times (suc n) e = do
  a ← e
  as' ← times n e
  give (cons a as')

-- an expression by its first record, its operands read by e
unfoldable pub operands : Head → ℕ → Read Expr → Read Expr
operands star_head l e = give (star l)
operands (column_head t n) l e = give (column l t n)
operands (value_head v) l e = give (literal l v)
operands (call_head n k) l e = do
  as' ← times k e
  give (call l n as')
operands (unary_head o) l e = do
  a ← e
  give (unary l o a)
operands (binary_head o) l e = do
  a ← e
  b ← e
  give (binary l o a b)
operands is_head l e = do
  a ← e
  v ← literal_here
  give (is l a v)

-- 3 at an expression record, at a line that was read
unfoldable pub too_deep : ℕ → Read Expr
too_deep l p = refused (record { reason = limit_passed; text = p.text; line = l })

-- an expression of at most this depth (a leaf is 1)
unfoldable pub deep : ℕ → Read Expr
deep zero = do
  l ← line_number
  h ← head_here
  too_deep l
deep (suc d) = do
  l ← line_number
  h ← head_here
  operands h l (deep d)

unfoldable pub expression : Read Expr
expression = deep most_depth

-- a record with no other field, and the expression behind it; it may be missing
unfoldable pub clause : Bytes → Read (Option Clause)
clause k p = elim (at k p) [
  | false ↦ ok (none, p)
  | true ↦ elim (no_field (rest p)) [
    | none ↦ stop wrong_record p
    | some u ↦ (do
      e ← expression
      give (some (record { line = p.line; expr = e }))) (next p)
  ]
]
