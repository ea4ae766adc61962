-- The literals and names of an expression that is read have their properties.
use Prim.Native.Nat.{ℕ, zero, suc}
use Rattle.std.specs.Prelude.{ltb}
use Rattle.rules.specs.Limits.{most_cells, most_depth}
use Rattle.rules.specs.Lines.{Word}
use Rattle.rules.specs.Schema.{Value}
use Rattle.rules.specs.Ast.{Expr, Exprs, nil, cons, list_of}
use Rattle.rules.specs.Reader.{Place, Read, stop, line_here, line_number, one_of, literals, literal_here}
use Rattle.rules.specs.ReadExpression.{Head, star_head, is_head, column_head, value_head, call_head, unary_head, binary_head, heads, head_here, times, operands, too_deep, deep, expression}
use Rattle.claims.specs.Answers.{All}
use Rattle.claims.specs.Reading.Rules.{reads-test, reads-option, reads_fit}
use Rattle.claims.specs.Reading.Has.{ExprHas, ExprsHave}
use Rattle.claims.specs.Reading.Sound.{Sound, Gives, gives_then, gives-give, gives_line, one_of-has}
use Rattle.claims.specs.Reading.Records.{HeadHas, makes-literals, makes-heads}

module _ {F : Word → Type 0} {Q : Value → Type 0} {N : Word → Type 0} {I : Place → Type 0} (s : Sound F Q N I) where
  pub gives_head : Gives I head_here (HeadHas Q N)
  unfolding head_here stop
  gives_head p i = reads-option (one_of heads (line_here p)) _ _ _ tt λ h e. reads-test (ltb p.cells most_cells) _ _ _
      (λ b. (one_of-has s _ heads (makes-heads s) p i h e, s.next _ (s.counted p i))) (λ b. tt)

  pub gives-literal : Gives I literal_here Q
  unfolding literal_here
  gives-literal p i = reads_fit (one_of literals (line_here p)) p _ λ v e. (one_of-has s _ literals (makes-literals s) p i v e, s.next p i)

  -- n in a row, each with what the reader gives
  pub gives-times : (e : Read Expr) (E : Expr → Type 0) → Gives I e E → (n : ℕ) → Gives I (times n e) (λ es. All E (list_of es))
  unfolding times list_of All
  gives-times e E h zero = gives-give s nil _ tt
  gives-times e E h (suc n) = gives_then s e _ _ _ h λ a g. gives_then s (times n e) _ _ _ (gives-times e E h n) λ as' k. gives-give s (cons a as') _ (g, k)

  abbrev Has : Expr → Type 0
  Has e = ExprHas Q N e

  all_have : (es : Exprs) → All Has (list_of es) → ExprsHave Q N es
  unfolding ExprHas list_of All
  all_have nil h = tt
  all_have (cons e es) h = (h.0, all_have es h.1)

  gives-operands : (e : Read Expr) → Gives I e Has → (h : Head) (l : ℕ) → HeadHas Q N h → Gives I (operands h l e) Has
  unfolding operands HeadHas ExprHas
  gives-operands e h star_head l w = gives-give s _ Has tt
  gives-operands e h (column_head q n) l w = gives-give s _ Has w
  gives-operands e h (value_head v) l w = gives-give s _ Has w
  gives-operands e h (call_head n k) l w = gives_then s (times k e) _ _ _ (gives-times e Has h k) λ as' g. gives-give s _ Has (w, all_have as' g)
  gives-operands e h (unary_head o) l w = gives_then s e _ _ _ h λ a g. gives-give s _ Has g
  gives-operands e h (binary_head o) l w = gives_then s e _ _ _ h λ a g. gives_then s e _ _ _ h λ b k. gives-give s _ Has (g, k)
  gives-operands e h is_head l w = gives_then s e _ _ _ h λ a g. gives_then s literal_here _ _ _ gives-literal λ v k. gives-give s _ Has (g, k)

  gives-deep : (d : ℕ) → Gives I (deep d) Has
  unfolding deep too_deep
  gives-deep zero = gives_then s line_number _ _ _ (gives_line s) λ l u. gives_then s head_here _ _ _ gives_head λ h w p i. tt
  gives-deep (suc d) = gives_then s line_number _ _ _ (gives_line s) λ l u. gives_then s head_here _ _ _ gives_head λ h w. gives-operands (deep d) (gives-deep d) h l w

  -- any expression
  pub gives-expression : Gives I expression (ExprHas Q N)
  unfolding expression
  gives-expression = gives-deep most_depth
