-- The expression cells of a statement: those that the limit of 512 counts.
use Rattle.std.specs.Prelude.{ℕ, ◌+◌, List, [], ◌∷◌}
use Rattle.std.proofs.Math.Option.{Option, none, some}
use Rattle.rules.specs.Ast.{Expr, size, From, Item, Key, Clause, Select, Set, NewColumn}
use Rattle.rules.specs.Ast.{Statement}
use Rattle.rules.specs.Ast as Ast
use Rattle.rules.specs.BuildExpression.{clause_expr}

-- a number for each, summed
unfoldable pub total : {A : Type 0} → (A → ℕ) → List A → ℕ
total f [] = 0
total f (a ∷ as') = f a + total f as'

unfoldable pub option_size : Option Expr → ℕ
option_size none = 0
option_size (some e) = size e

unfoldable pub clause_size : Option Clause → ℕ
clause_size c = option_size (clause_expr c)

unfoldable pub from_size : From → ℕ
from_size (Ast.table l n a) = 0
from_size (Ast.join l j a b p) = from_size a + from_size b + option_size p

unfoldable pub items_size : List Item → ℕ
items_size is' = total (λ (i : Item). size i.expr) is'

unfoldable pub keys_size : List Key → ℕ
keys_size ks = total (λ (k : Key). size k.expr) ks

unfoldable pub select_size : Select → ℕ
select_size q =
    items_size q.items + total from_size q.from + clause_size q.filter + total size q.group
    + clause_size q.having + keys_size q.order + clause_size q.offset + clause_size q.limit

unfoldable pub rows_size : List (List Expr) → ℕ
rows_size rs = total (total size) rs

unfoldable pub sets_size : List Set → ℕ
sets_size xs = total (λ (x : Set). option_size x.value) xs

unfoldable pub columns_size : List NewColumn → ℕ
columns_size cs = total (λ (c : NewColumn). option_size c.default) cs

unfoldable pub statement_size : Statement → ℕ
statement_size (Ast.select q) = select_size q
statement_size (Ast.delete d) = clause_size d.filter
statement_size (Ast.insert d) = rows_size d.rows
statement_size (Ast.update d) = sets_size d.sets + clause_size d.filter
statement_size (Ast.create d) = columns_size d.columns
statement_size (Ast.drop d) = 0
statement_size (Ast.other l) = 0
