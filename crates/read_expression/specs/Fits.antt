-- Expressions that a table of 32-bit numbers can hold: their words stand in the texts, and their integers have 64 bits.
use Rattle.std.proofs.Math.Option.{Option, none, some}
use Rattle.rules.specs.Lists.{Bytes}
use Rattle.rules.specs.Lines.{Word}
use Rattle.rules.specs.Ast.{Expr, star, column, literal, call, unary, binary, is, Exprs, nil, cons}
use Rattle.rules.specs.ReadExpression.{Head, star_head, is_head, column_head, value_head, call_head, unary_head, binary_head}
use Rattle.numbers.specs.Values.{WordFits, ValueFits}

unfoldable pub ColumnFits : Bytes → Bytes → Option Word → Word → Type 0
ColumnFits c q none n = WordFits c q n
ColumnFits c q (some t) n = WordFits c q t × WordFits c q n

-- what a record says
unfoldable pub HeadFits : Bytes → Bytes → Head → Type 0
HeadFits c q star_head = Unit {0}
HeadFits c q is_head = Unit {0}
HeadFits c q (column_head t n) = ColumnFits c q t n
HeadFits c q (value_head v) = ValueFits c q v
HeadFits c q (call_head n k) = WordFits c q n
HeadFits c q (unary_head o) = Unit {0}
HeadFits c q (binary_head o) = Unit {0}

unfoldable mutual
  pub Fits : Bytes → Bytes → Expr → Type 0
  Fits c q (star l) = Unit {0}
  Fits c q (column l t w) = ColumnFits c q t w
  Fits c q (literal l v) = ValueFits c q v
  Fits c q (call l w as') = WordFits c q w × FitsAll c q as'
  Fits c q (unary l o a) = Fits c q a
  Fits c q (binary l o a b) = Fits c q a × Fits c q b
  Fits c q (is l a v) = Fits c q a × ValueFits c q v

  pub FitsAll : Bytes → Bytes → Exprs → Type 0
  FitsAll c q nil = Unit {0}
  FitsAll c q (cons a as') = Fits c q a × FitsAll c q as'
