-- The statement tree (ast.rs). Each expression carries the line of its record, and each name its place in the text.
use Rattle.std.specs.Prelude.{ℕ, suc, ◌+◌, Bool, List, [], ◌∷◌}
use Rattle.std.proofs.Math.Option.{Option}
use Rattle.rules.specs.Lines.{Word}
use Rattle.rules.specs.Schema.{Value, Datatype}

pub data Unary : Type 0 where
  not fact ident neg sqrt : Unary

-- the binary operators that a plan has
pub data Plain : Type 0 where
  and or eq gt lt add div pow mul rem sub like : Plain

-- those that a statement has
pub data Binary : Type 0 where
  plain : Plain → Binary
  ge le ne : Binary

mutual
  pub data Expr : Type 0 where
    star : ℕ → Expr
    column : ℕ → Option Word → Word → Expr
    literal : ℕ → Value → Expr
    call : ℕ → Word → Exprs → Expr
    unary : ℕ → Unary → Expr → Expr
    binary : ℕ → Binary → Expr → Expr → Expr
    is : ℕ → Expr → Value → Expr

  pub data Exprs : Type 0 where
    nil : Exprs
    cons : Expr → Exprs → Exprs

pub data Join : Type 0 where
  cross inner left right : Join

pub data From : Type 0 where
  table : ℕ → Word → Option Word → From
  join : ℕ → Join → From → From → Option Expr → From

pub record Item : Type 0 where
  pub line : ℕ
  pub expr : Expr
  pub alias : Option Word

pub record Key : Type 0 where
  pub expr : Expr
  pub descending : Bool

-- a clause with one expression, and the line of its record
pub record Clause : Type 0 where
  pub line : ℕ
  pub expr : Expr

pub record Select : Type 0 where
  pub items : List Item
  pub from : List From
  pub filter : Option Clause
  pub group : List Expr
  pub having : Option Clause
  pub order : List Key
  pub offset : Option Clause
  pub limit : Option Clause

pub record Delete : Type 0 where
  pub line : ℕ
  pub table : Word
  pub filter : Option Clause

-- a name with the line of its record
pub record Named : Type 0 where
  pub line : ℕ
  pub name : Word

pub record Insert : Type 0 where
  pub line : ℕ
  pub table : Word
  pub columns : Option (List Named)
  pub rows : List (List Expr)

-- a column set to an expression, or to its default
pub record Set : Type 0 where
  pub line : ℕ
  pub name : Word
  pub value : Option Expr

pub record Update : Type 0 where
  pub line : ℕ
  pub table : Word
  pub sets : List Set
  pub filter : Option Clause

pub record NewColumn : Type 0 where
  pub line : ℕ
  pub name : Word
  pub type : Datatype
  pub key : Bool
  pub nullable : Option Bool
  pub unique : Bool
  pub index : Bool
  pub default : Option Expr
  pub reference : Option Word

pub record Create : Type 0 where
  pub line : ℕ
  pub name : Word
  pub columns : List NewColumn

pub record Drop : Type 0 where
  pub name : Word
  pub if_exists : Bool

-- `other` is Begin, Commit, Rollback or Explain
pub data Statement : Type 0 where
  select : Select → Statement
  delete : Delete → Statement
  insert : Insert → Statement
  update : Update → Statement
  create : Create → Statement
  drop : Drop → Statement
  other : ℕ → Statement

unfoldable pub list_of : Exprs → List Expr
list_of nil = []
list_of (cons e es) = e ∷ list_of es

unfoldable pub line_of : Expr → ℕ
line_of (star l) = l
line_of (column l t n) = l
line_of (literal l v) = l
line_of (call l n as') = l
line_of (unary l o a) = l
line_of (binary l o a b) = l
line_of (is l a v) = l

-- the expression cells that the limit of 512 counts
unfoldable mutual
  pub size : Expr → ℕ
  size (star l) = 1
  size (column l t n) = 1
  size (literal l v) = 1
  size (call l n as') = suc (size_all as')
  size (unary l o a) = suc (size a)
  size (binary l o a b) = suc (size a + size b)
  size (is l a v) = suc (size a)

  pub size_all : Exprs → ℕ
  size_all nil = 0
  size_all (cons a as') = size a + size_all as'
