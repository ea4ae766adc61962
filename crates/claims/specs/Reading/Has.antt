-- Properties of values and of names, said of every one in an expression, a statement and a table of the catalog.
use Rattle.rules.specs.Lines.{Word}
use Rattle.rules.specs.Schema.{Value, Column, Table}
use Rattle.rules.specs.Ast.{Expr, star, column, literal, call, unary, binary, is, Exprs, nil, cons, From, table, join, Item, Key, Select, Named, NewColumn, Statement, select, delete, insert, update, create, drop, other}
use Rattle.rules.specs.Ast as Ast
use Rattle.rules.specs.BuildExpression.{clause_expr}
use Rattle.claims.specs.Answers.{Any, All, Given}

module _ (Q : Value → Type 0) (N : Word → Type 0) where
  -- an expression's literals have Q, and its names N
  unfoldable mutual
    pub ExprHas : Expr → Type 0
    ExprHas (star l) = Unit {0}
    ExprHas (column l q n) = Given N q × N n
    ExprHas (literal l v) = Q v
    ExprHas (call l n as') = N n × ExprsHave as'
    ExprHas (unary l o a) = ExprHas a
    ExprHas (binary l o a b) = ExprHas a × ExprHas b
    ExprHas (is l a v) = ExprHas a × Q v

    pub ExprsHave : Exprs → Type 0
    ExprsHave nil = Unit {0}
    ExprsHave (cons a as') = ExprHas a × ExprsHave as'

  -- a column's default has Q, and its name N
  abbrev pub ColumnHas : Column → Type 0
  ColumnHas c = N c.name × Given Q c.default

  abbrev pub TableHas : Table → Type 0
  TableHas t = N t.name × All ColumnHas t.columns

-- its literals have Q, whatever its names
abbrev pub Literals : (Value → Type 0) → Expr → Type 0
Literals Q e = ExprHas Q Any e

module _ (E : Expr → Type 0) (N : Word → Type 0) where
  -- the predicates of a FROM item have E, and its names N
  unfoldable pub FromHas : From → Type 0
  FromHas (table l n a) = N n × Given N a
  FromHas (join l j a b p) = FromHas a × FromHas b × Given E p

  pub record SelectHas (q : Select) : Type 0 where
    pub items : All (λ (i : Item). E i.expr × Given N i.alias) q.items
    pub from : All FromHas q.from
    pub filter : Given E (clause_expr q.filter)
    pub group : All E q.group
    pub having : Given E (clause_expr q.having)
    pub order : All (λ (k : Key). E k.expr) q.order
    pub offset : Given E (clause_expr q.offset)
    pub limit : Given E (clause_expr q.limit)

  -- every expression of a statement has E, and every other name N
  abbrev pub StatementHas : Statement → Type 0
  StatementHas (select q) = SelectHas q
  StatementHas (delete d) = N d.table × Given E (clause_expr d.filter)
  StatementHas (insert d) = N d.table × Given (All (λ (n : Named). N n.name)) d.columns × All (All E) d.rows
  StatementHas (update d) = N d.table × All (λ (x : Ast.Set). N x.name × Given E x.value) d.sets × Given E (clause_expr d.filter)
  StatementHas (create d) = N d.name × All (λ (c : NewColumn). N c.name × Given N c.reference × Given E c.default) d.columns
  StatementHas (drop d) = N d.name
  StatementHas (other l) = Unit {0}
