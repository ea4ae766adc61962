-- The statements that the rules read are the statements read by sections.
use Rattle.std.specs.Prelude.{ℕ, ◌≡◌, refl}
use Rattle.std.proofs.Common.{arith}
use Rattle.rules.specs.Refusals.{ok}
use Rattle.rules.specs.Lists.{Bytes}
use Rattle.rules.specs.Ast.{Statement}
use Rattle.rules.specs.Lines.{Word, bytes}
use Rattle.rules.specs.Sizes.{statement_size}
use Rattle.rules.specs.Reader.{Place, give, ◌>>=◌, ◌>>◌, line_number, record', no_field, nothing_left}
use Rattle.rules.specs.ReadStatement.{select_body, delete_body, insert_body, update_body, create_body, StatementHead, select_head, other_head, delete_head, insert_head, update_head, create_head, drop_head, statement_body, statement_here, statement_records}
use Rattle.claims.specs.Answers.{ensured}
use Rattle.claims.specs.Reading.Limits.{statement-counted}
use Rattle.text.specs.Reading.{place}
use Rattle.read_expression.specs.Reading.{here}
use Rattle.statement.specs.Layout.{select_of, insert_of, update_of, delete_of, create_of}
use Rattle.statement.specs.Bodies.{select_sections, insert_sections, update_sections, delete_sections, create_sections, sections_of}
use Rattle.statement.specs.Mapped.{regroup, mapped-steps}
use Rattle.statement.specs.RulesSections.{items-are, groups-are, keys-are, names-behind, rows_are, columns-are, sets-are, where-is, having-is, offset-is, limit_is}

select-is : select_body ≡ select_sections
unfolding select_body select_sections select_of
select-is = simp (items-are, where-is, groups-are, having-is, keys-are, offset-is, limit_is, mapped-steps)

delete-is : (l : ℕ) (n : Word) → delete_body l n ≡ delete_sections l n
unfolding delete_body delete_sections delete_of
delete-is l n = simp (where-is, mapped-steps)

insert-is : (l : ℕ) (n : Word) → insert_body l n ≡ insert_sections l n
unfolding insert_body insert_sections insert_of
insert-is l n = simp (names-behind, rows_are, regroup, mapped-steps)

update-is : (l : ℕ) (n : Word) → update_body l n ≡ update_sections l n
unfolding update_body update_sections update_of
update-is l n = simp (sets-are, where-is, mapped-steps)

create-is : (l : ℕ) (n : Word) → create_body l n ≡ create_sections l n
unfolding create_body create_sections create_of
create-is l n = simp (columns-are, mapped-steps)

-- What follows a statement's first record.
body-read : (h : StatementHead) (l : ℕ) → statement_body h l ≡ sections_of h l
unfolding statement_body sections_of
body-read select_head l = rw select-is
body-read (delete_head n) l = rw delete-is
body-read (insert_head n) l = rw insert-is
body-read (update_head n) l = rw update-is
body-read (create_head n) l = rw create-is
body-read (drop_head n y) l = refl
body-read other_head l = refl

-- A whole statement.
pub records-are : (p : Place) → statement_records p ≡ (do
  l ← line_number
  h ← statement_here
  s ← sections_of h l
  record' (bytes "end") no_field
  nothing_left
  give s) p
unfolding statement_records
records-are p = simp body-read

-- Behind a whole statement there are as many rows as it has expression records.
pub statement-cells : (t : Bytes) (s : Statement) (p l c k : ℕ) → statement_records (here t 0 1 0 0) ≡ ok (s, here t p l c k) → c ≡ statement_size s
unfolding place
statement-cells t s p l c k e = omega (arith, ensured (statement_records (here t 0 1 0 0)) _ (statement-counted (here t 0 1 0 0) tt) (s, here t p l c k) e)
