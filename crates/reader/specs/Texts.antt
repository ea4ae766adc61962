-- Both texts read, beside the rules' entry: the same, but for the area and the plan.
use Rattle.std.specs.Prelude.{ℕ, true, false, ltb, length}
use Rattle.rules.specs.Refusals.{catalog, statement, other_statement, limit_passed, Answer, ok, refused, refuse, ◌>>=◌}
use Rattle.rules.specs.Limits.{most_bytes}
use Rattle.rules.specs.Lists.{Bytes}
use Rattle.rules.specs.Schema.{Catalog}
use Rattle.rules.specs.Ast.{Statement}
use Rattle.rules.specs.Ast as Ast
use Rattle.rules.specs.ReadCatalog.{read_catalog}
use Rattle.rules.specs.ReadStatement.{read_statement}

-- a statement's kind, as in a plan's numbers (planCode); 7 for `other`
unfoldable pub kind_of : Statement → ℕ
kind_of (Ast.select s) = 1
kind_of (Ast.create d) = 2
kind_of (Ast.drop d) = 3
kind_of (Ast.delete d) = 4
kind_of (Ast.insert d) = 5
kind_of (Ast.update d) = 6
kind_of (Ast.other l) = 7

-- 4 for `other`, at its line
unfoldable pub not_other : Statement → Answer Statement
not_other (Ast.select s) = ok (Ast.select s)
not_other (Ast.create d) = ok (Ast.create d)
not_other (Ast.drop d) = ok (Ast.drop d)
not_other (Ast.delete d) = ok (Ast.delete d)
not_other (Ast.insert d) = ok (Ast.insert d)
not_other (Ast.update d) = ok (Ast.update d)
not_other (Ast.other l) = refuse other_statement l

-- both texts, the catalog first
unfoldable pub both_of : Bytes → Bytes → Answer (Catalog × Statement)
both_of c q = do
  ts ← read_catalog c
  s ← read_statement q
  s' ← not_other s
  ok (ts, s')

-- 3 a text too long, then the texts
unfoldable pub read_texts : Bytes → Bytes → Answer (Catalog × Statement)
read_texts c q = elim (ltb most_bytes (length c)) [
  | true ↦ refused (record { reason = limit_passed; text = catalog; line = 0 })
  | false ↦ elim (ltb most_bytes (length q)) [
    | true ↦ refused (record { reason = limit_passed; text = statement; line = 0 })
    | false ↦ both_of c q
  ]
]
