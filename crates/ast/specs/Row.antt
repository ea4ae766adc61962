-- The numbers of a row by name, and the tree at a row by the kind of its record: in every table and at every row.
use Rattle.std.specs.Prelude.{ℕ, suc, ◌+◌, ◌≤◌, ◌<◌, ◌≡◌, refl, Bool, true, false, List, [], ◌∷◌, eqb, ltb}
use Rattle.std.proofs.Common.{arith, sym, ap, ◌∙◌, ltb-true, ltb-false}
use Rattle.std.proofs.Math.Option.{none, some}
use Rattle.rules.specs.Lists.{Bytes}
use Rattle.rules.specs.Lines.{Word}
use Rattle.rules.specs.Places.{word_at}
use Rattle.rules.specs.Codes.{unary_code, plain_code, binary_code}
use Rattle.rules.specs.Schema.{Value}
use Rattle.rules.specs.Ast.{Unary, not, fact, ident, neg, sqrt, Plain, and, or, eq, gt, lt, add, div, pow, mul, rem, sub, like, Binary, plain, ge, le, ne}
use Rattle.rules.specs.Ast.{Expr, star, column, literal, call, unary, binary, is, line_of}
use Rattle.numbers.specs.Codes.{or_least, count_from, coded, coded-map, coded-least, least-below, least_above, least-between}
use Rattle.numbers.specs.Literals.{literal_value, numbered, numbered-value}
use Rattle.numbers.specs.Values.{value_at}
use Rattle.numbers.specs.declared.literals.Literal.{Literal}
use Rattle.ast.specs.Table.{at, rows_at, unary_at, binary_at, arguments_at, tree_by, tree_at}
use Rattle.ast.specs.Operands.{kind_of, kind_at, kind-at, tree-column, tree-qualified, tree-call, tree-unary}
use Rattle.ast.specs.Operands.{tree-binary, tree_is, tree-literal, tree-at}
use Rattle.ast.specs.declared.row.Kind.{Kind}
use Rattle.ast.specs.declared.row.Kind.TheVariants as K

-- THE NUMBERS
abbrev pub line_at : List ℕ → ℕ → ℕ
line_at t r = at t r 1

-- the operator's number, and the number of a call's arguments
abbrev pub operator_at : List ℕ → ℕ → ℕ
operator_at t r = at t r 3

abbrev pub argument_count : List ℕ → ℕ → ℕ
argument_count t r = at t r 3

-- a column's or a function's name, and the table's name that qualifies a column
abbrev pub name_address : List ℕ → ℕ → ℕ
name_address t r = at t r 4

abbrev pub name_length : List ℕ → ℕ → ℕ
name_length t r = at t r 5

abbrev pub qualifier_address : List ℕ → ℕ → ℕ
qualifier_address t r = at t r 6

abbrev pub qualifier_length : List ℕ → ℕ → ℕ
qualifier_length t r = at t r 7

abbrev pub row_name : Bytes → Bytes → List ℕ → ℕ → Word
row_name c q t r = word_at c q (name_address t r) (name_length t r)

abbrev pub row_qualifier : Bytes → Bytes → List ℕ → ℕ → Word
row_qualifier c q t r = word_at c q (qualifier_address t r) (qualifier_length t r)

-- a literal's number for its kind, and its two numbers
abbrev pub literal_number : List ℕ → ℕ → ℕ
literal_number t r = at t r 3

abbrev pub literal_first : List ℕ → ℕ → ℕ
literal_first t r = at t r 4

abbrev pub literal_second : List ℕ → ℕ → ℕ
literal_second t r = at t r 5

abbrev pub row_literal : Bytes → Bytes → List ℕ → ℕ → Value
row_literal c q t r = value_at c q (literal_number t r) (literal_first t r) (literal_second t r)

-- the rows of the first operand and of the second
abbrev pub first_operand : ℕ → ℕ
first_operand r = suc r

abbrev pub second_operand : List ℕ → ℕ → ℕ
second_operand t r = first_operand r + rows_at t (first_operand r)

-- KINDS
unfoldable pub number_of : Kind → ℕ
number_of K.Star = 1
number_of K.Column = 2
number_of K.Qualified = 3
number_of K.Call = 4
number_of K.Unary = 5
number_of K.Binary = 6
number_of K.Is = 7
number_of K.Literal = 8

-- what a row of a kind stands for, its operands read by f
unfoldable pub tree_of : (ℕ → Expr) → Kind → Bytes → Bytes → List ℕ → ℕ → Expr
tree_of f K.Star c q t r = star (line_at t r)
tree_of f K.Column c q t r = column (line_at t r) none (row_name c q t r)
tree_of f K.Qualified c q t r = column (line_at t r) (some (row_qualifier c q t r)) (row_name c q t r)
tree_of f K.Call c q t r = call (line_at t r) (row_name c q t r) (arguments_at f t (argument_count t r) (first_operand r))
tree_of f K.Unary c q t r = unary (line_at t r) (unary_at (operator_at t r)) (f (first_operand r))
tree_of f K.Binary c q t r =
    binary (line_at t r) (binary_at (operator_at t r)) (f (first_operand r)) (f (second_operand t r))
tree_of f K.Is c q t r = is (line_at t r) (f (first_operand r)) (row_literal c q t r)
tree_of f K.Literal c q t r = literal (line_at t r) (row_literal c q t r)

-- the number k at a row: a kind's, or none
module _ (t : List ℕ) (r k : ℕ) (e : k ≡ at t r 0) where
  pub kind-within : 1 ≤ k → k ≤ 8 → k ≡ kind_at t r
  unfolding kind_at
  kind-within l m = rw (← e) (sym (least-between 1 8 k l m))

  pub kind-other : (1 < k → 8 < k) → 1 ≡ kind_at t r
  unfolding kind_at
  kind-other h = rw (← e) (sym (go (ltb 1 k) refl))
    where
      go : (b : Bool) → ltb 1 k ≡ b → or_least 1 8 k ≡ 1
      go true g = least_above 1 8 k (omega (arith, ltb-true 1 k g)) (h (ltb-true 1 k g))
      go false g = low k (ltb-false 1 k g)
        where
          low : (n : ℕ) → n ≤ 1 → or_least 1 8 n ≡ 1
          low n l = go' (ltb n 1) refl
            where
              go' : (b : Bool) → ltb n 1 ≡ b → or_least 1 8 n ≡ 1
              go' true f = least-below 1 8 n (ltb-true n 1 f)
              go' false f = least-between 1 8 n (ltb-false n 1 f) (omega (arith, l)) ∙ omega (arith, l, ltb-false n 1 f)

-- LINES
All : ℕ → List ℕ → Type 0
All l [] = Unit {0}
All l (x ∷ xs) = (x ≡ l) × All l xs

all_same : (l : ℕ) (xs : List ℕ) (n k : ℕ) → All l xs → coded l xs n k ≡ l
unfolding coded All
all_same l [] n k h = refl
all_same l (x ∷ xs) n k h = pick (eqb n k) (all_same l xs (suc n) k h.1)
  where
    pick : (b : Bool) → coded l xs (suc n) k ≡ l → elim b [ true ↦ x | false ↦ coded l xs (suc n) k ] ≡ l
    pick true e = h.0
    pick false e = e

line-by : (f : ℕ → Expr) (c q : Bytes) (t : List ℕ) (r : ℕ) → line_of (tree_by f c q t r) ≡ line_at t r
unfolding tree_by line_of All
line-by f c q t r =
    let l = line_at t r in
    coded-map line_of _ _ 1 (at t r 0) ∙ all_same l (l ∷ l ∷ l ∷ l ∷ l ∷ l ∷ l ∷ l ∷ []) 1 (at t r 0)
    (refl, (refl, (refl, (refl, (refl, (refl, (refl, (refl, tt))))))))

pub line-of : (c q : Bytes) (t : List ℕ) (r : ℕ) → line_of (tree_at c q t r) ≡ line_at t r
line-of c q t r = ap line_of (tree-at c q t r) ∙ line-by (tree_at c q t) c q t r

-- THE TREE BY ITS KIND
star-only : (e : Expr) → kind_of e ≡ 1 → e ≡ star (line_of e)
unfolding kind_of line_of
star-only (star l) h = refl
star-only (column l none n) h = absurd (omega arith)
star-only (column l (some t) n) h = absurd (omega arith)
star-only (literal l v) h = absurd (omega arith)
star-only (call l n as') h = absurd (omega arith)
star-only (unary l o a) h = absurd (omega arith)
star-only (binary l o a b) h = absurd (omega arith)
star-only (is l a v) h = absurd (omega arith)

module _ (f : ℕ → Expr) (c q : Bytes) (t : List ℕ) (r : ℕ) where
  pub tree-star : kind_at t r ≡ 1 → tree_by f c q t r ≡ star (line_at t r)
  tree-star h = star-only _ (kind-at f c q t r ∙ h) ∙ ap star (line-by f c q t r)

  pub by_kind : (k : Kind) → number_of k ≡ kind_at t r → tree_by f c q t r ≡ tree_of f k c q t r
  unfolding number_of tree_of
  by_kind K.Star h = tree-star (sym h)
  by_kind K.Column h = tree-column f c q t r (sym h)
  by_kind K.Qualified h = tree-qualified f c q t r (sym h)
  by_kind K.Call h = tree-call f c q t r (sym h)
  by_kind K.Unary h = tree-unary f c q t r (sym h)
  by_kind K.Binary h = tree-binary f c q t r (sym h)
  by_kind K.Is h = tree_is f c q t r (sym h)
  by_kind K.Literal h = tree-literal f c q t r (sym h)

-- the tree at a row whose record has the kind k
module _ (c q : Bytes) (t : List ℕ) (r : ℕ) (k : Kind) (h : number_of k ≡ kind_at t r) where
  pub row-tree : tree_at c q t r ≡ tree_of (tree_at c q t) k c q t r
  row-tree = tree-at c q t r ∙ by_kind (tree_at c q t) c q t r k h

  pub star-row : k ≡ K.Star → tree_at c q t r ≡ star (line_at t r)
  unfolding tree_of
  star-row e = row-tree ∙ rw e

  pub column-row : k ≡ K.Column → tree_at c q t r ≡ column (line_at t r) none (row_name c q t r)
  unfolding tree_of
  column-row e = row-tree ∙ rw e

  pub qualified-row : k ≡ K.Qualified
      → tree_at c q t r ≡ column (line_at t r) (some (row_qualifier c q t r)) (row_name c q t r)
  unfolding tree_of
  qualified-row e = row-tree ∙ rw e

  pub call-row : k ≡ K.Call → tree_at c q t r ≡ call (line_at t r) (row_name c q t r)
      (arguments_at (tree_at c q t) t (argument_count t r) (first_operand r))
  unfolding tree_of
  call-row e = row-tree ∙ rw e

  pub unary-row : k ≡ K.Unary
      → tree_at c q t r ≡ unary (line_at t r) (unary_at (operator_at t r)) (tree_at c q t (first_operand r))
  unfolding tree_of
  unary-row e = row-tree ∙ rw e

  pub binary-row : k ≡ K.Binary → tree_at c q t r
      ≡ binary (line_at t r) (binary_at (operator_at t r)) (tree_at c q t (first_operand r)) (tree_at c q t (second_operand t r))
  unfolding tree_of
  binary-row e = row-tree ∙ rw e

  pub is_row : k ≡ K.Is → tree_at c q t r ≡ is (line_at t r) (tree_at c q t (first_operand r)) (row_literal c q t r)
  unfolding tree_of
  is_row e = row-tree ∙ rw e

  pub literal-row : k ≡ K.Literal → tree_at c q t r ≡ literal (line_at t r) (row_literal c q t r)
  unfolding tree_of
  literal-row e = row-tree ∙ rw e

-- OPERATORS BY THEIR CODES
pub unary-code : (k : ℕ) → unary_code (unary_at k) ≡ or_least 8 12 k
unfolding unary_at unary_code count_from
unary-code k = coded-map unary_code _ _ 8 k ∙ coded-least 4 8 k

pub binary-code : (k : ℕ) → binary_code (binary_at k) ≡ or_least 16 30 k
unfolding binary_at binary_code plain_code count_from
binary-code k = coded-map binary_code _ _ 16 k ∙ coded-least 14 16 k

-- each operator is that of its code
pub unary-back : (o : Unary) → unary_at (unary_code o) ≡ o
unfolding unary_at unary_code coded
unary-back not = refl
unary-back fact = refl
unary-back ident = refl
unary-back neg = refl
unary-back sqrt = refl

plain_back : (o : Plain) → binary_at (plain_code o) ≡ plain o
unfolding binary_at plain_code coded
plain_back and = refl
plain_back or = refl
plain_back eq = refl
plain_back gt = refl
plain_back lt = refl
plain_back add = refl
plain_back div = refl
plain_back pow = refl
plain_back mul = refl
plain_back rem = refl
plain_back sub = refl
plain_back like = refl

pub binary-back : (o : Binary) → binary_at (binary_code o) ≡ o
unfolding binary_code binary_at coded
binary-back (plain o) = plain_back o
binary-back ge = refl
binary-back le = refl
binary-back ne = refl

-- LITERALS
abbrev pub literal_at : List ℕ → ℕ → Literal
literal_at t r = numbered (literal_number t r) (literal_first t r) (literal_second t r)

-- what was read from a row is its literal
pub row-literal : (c q : Bytes) (t : List ℕ) (r : ℕ) {l : Literal} → l ≡ literal_at t r → literal_value c q l ≡ row_literal c q t r
row-literal c q t r e = rw e (sym (numbered-value c q _ _ _))
