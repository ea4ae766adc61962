-- The statements as sections: what the rules read behind a statement's first record.
use Rattle.std.specs.Prelude.{ℕ, List, [], ◌∷◌}
use Rattle.rules.specs.Ast.{Select, Insert, Update, Delete, Create, Statement}
use Rattle.rules.specs.Ast as Ast
use Rattle.rules.specs.Lines.{Word}
use Rattle.rules.specs.Reader.{Read, give, ◌>>=◌, turns}
use Rattle.rules.specs.ReadStatement.{froms, StatementHead, select_head, other_head, delete_head, insert_head, update_head, create_head, drop_head}
use Rattle.entries.specs.Entries.{Entry, section, some_section}
use Rattle.statement.specs.Layout.{select_of, insert_of, update_of, delete_of, create_of}

unfoldable pub select_sections : Read Select
select_sections = do
  is' ← some_section 0
  fs ← turns froms
  w ← section 1
  gs ← section 2
  h ← section 3
  os ← section 4
  o ← section 5
  l ← section 6
  give (select_of is' fs w gs h os o l)

-- the names behind a `columns`
unfoldable pub names_behind : List Entry → Read (List Entry)
names_behind [] = give []
names_behind (c ∷ cs) = section 8

unfoldable pub insert_sections : ℕ → Word → Read Insert
insert_sections l n = do
  cs ← section 7
  ns ← names_behind cs
  rs ← some_section 9
  give (insert_of l n cs ns rs)

unfoldable pub update_sections : ℕ → Word → Read Update
update_sections l n = do
  xs ← some_section 10
  w ← section 1
  give (update_of l n xs w)

unfoldable pub delete_sections : ℕ → Word → Read Delete
delete_sections l n = do
  w ← section 1
  give (delete_of l n w)

unfoldable pub create_sections : ℕ → Word → Read Create
create_sections l n = do
  cs ← section 11
  give (create_of l n cs)

unfoldable pub sections_of : StatementHead → ℕ → Read Statement
sections_of select_head l = do
  s ← select_sections
  give (Ast.select s)
sections_of (delete_head n) l = do
  d ← delete_sections l n
  give (Ast.delete d)
sections_of (insert_head n) l = do
  d ← insert_sections l n
  give (Ast.insert d)
sections_of (update_head n) l = do
  d ← update_sections l n
  give (Ast.update d)
sections_of (create_head n) l = do
  d ← create_sections l n
  give (Ast.create d)
sections_of (drop_head n y) l = give (Ast.drop (record { name = n; if_exists = y }))
sections_of other_head l = give (Ast.other l)
