-- The depth of an expression: reading accepts none deeper than 32.
use Prim.Native.Nat.{ℕ, zero, suc, ◌≤◌, max}
use Rattle.std.proofs.Common.{arith}
use Rattle.rules.specs.Limits.{most_depth}
use Rattle.rules.specs.Lines.{Word}
use Rattle.rules.specs.Schema.{Value}
use Rattle.rules.specs.Ast.{Expr, star, column, literal, call, unary, binary, is, Exprs, nil, cons, list_of}
use Rattle.rules.specs.Reader.{Place, Read, line_number}
use Rattle.rules.specs.ReadExpression.{Head, star_head, is_head, column_head, value_head, call_head, unary_head, binary_head}
use Rattle.rules.specs.ReadExpression.{head_here, times, operands, too_deep, deep, expression}
use Rattle.rules.specs.Reader.{literal_here}
use Rattle.claims.specs.Answers.{All}
use Rattle.claims.specs.Reading.Sound.{Sound, Gives, gives_then, gives-give, gives_line}
use Rattle.claims.specs.Reading.Expression.{gives_head, gives-literal, gives-times}

-- a leaf's is 1
unfoldable mutual
  pub depth : Expr → ℕ
  depth (star l) = 1
  depth (column l t n) = 1
  depth (literal l v) = 1
  depth (call l n as') = suc (depth_all as')
  depth (unary l o a) = suc (depth a)
  depth (binary l o a b) = suc (max (depth a) (depth b))
  depth (is l a v) = suc (depth a)

  pub depth_all : Exprs → ℕ
  depth_all nil = 0
  depth_all (cons a as') = max (depth a) (depth_all as')

-- no deeper than d
abbrev Within : ℕ → Expr → Type 0
Within d e = depth e ≤ d

all-within : (d : ℕ) (es : Exprs) → All (Within d) (list_of es) → depth_all es ≤ d
unfolding depth list_of All
all-within d nil h = omega arith
all-within d (cons e es) h = omega (arith, h.0, all-within d es h.1)

module _ {F : Word → Type 0} {Q : Value → Type 0} {N : Word → Type 0} {I : Place → Type 0} (s : Sound F Q N I) where
  depth-operands : (e : Read Expr) (d : ℕ) → Gives I e (Within d) → (h : Head) (l : ℕ)
      → Gives I (operands h l e) (Within (suc d))
  unfolding operands depth
  depth-operands e d h star_head l = gives-give s _ _ (omega arith)
  depth-operands e d h (column_head q n) l = gives-give s _ _ (omega arith)
  depth-operands e d h (value_head v) l = gives-give s _ _ (omega arith)
  depth-operands e d h (call_head n k) l = gives_then s (times k e) _ _ _ (gives-times s e (Within d) h k) λ as' g.
      gives-give s _ _ (omega (arith, all-within d as' g))
  depth-operands e d h (unary_head o) l = gives_then s e _ _ _ h λ a g. gives-give s _ _ (omega (arith, g))
  depth-operands e d h (binary_head o) l =
      gives_then s e _ _ _ h λ a g. gives_then s e _ _ _ h λ b k. gives-give s _ _ (omega (arith, g, k))
  depth-operands e d h is_head l = gives_then s e _ _ _ h λ a g.
      gives_then s literal_here _ _ _ (gives-literal s) λ v k. gives-give s _ _ (omega (arith, g))

  depth-deep : (d : ℕ) → Gives I (deep d) (Within d)
  unfolding deep too_deep
  depth-deep zero = gives_then s line_number _ _ _ (gives_line s) λ l u.
      gives_then s head_here _ _ _ (gives_head s) λ h w p i. tt
  depth-deep (suc d) = gives_then s line_number _ _ _ (gives_line s) λ l u.
      gives_then s head_here _ _ _ (gives_head s) λ h w. depth-operands (deep d) d (depth-deep d) h l

  -- any expression
  pub depth-expression : Gives I expression (λ e. depth e ≤ most_depth)
  unfolding expression
  depth-expression = depth-deep most_depth
