-- `read_body`: by the kind.
use mathlib.Core.Path.{refl}
use mathlib.Core.Logic.{inl, inr}
use Rattle.numbers.specs.Codes.{coded}
use Rattle.statement.specs.FirstRecord.{head_of}
use Rattle.statement.specs.BodyReads.{delete-read, create-read, drop-read, other-read}
use Rattle.statement.proofs.bodies.read_body.Goals as goal

pub read_select-requires : goal.read_select-requires
read_select-requires c = rw c.second_line-at.ensures (record { position = c.requires; line = refl; rows = refl })

pub read_insert-requires : goal.read_insert-requires
read_insert-requires c = rw c.second_line-at.ensures (record { position = c.requires; line = refl; rows = refl })

pub read_update-requires : goal.read_update-requires
read_update-requires c = rw c.second_line-at.ensures (record { position = c.requires; line = refl; rows = refl })

pub returns-in-Select : goal.returns-in-Select
unfolding head_of coded
returns-in-Select c = λ n y. rw c.in-Select.is (rw c.second_line-at.ensures at c.read_select.ensures)

pub returns-in-Create : goal.returns-in-Create
unfolding head_of coded
returns-in-Create c = λ n y. rw c.in-Create.is (create-read _ _ _ _ _ _ _ _ (rw c.second_line-at.ensures at (c.read_section.ensures 0)) n)

pub returns-in-Delete : goal.returns-in-Delete
unfolding head_of coded
returns-in-Delete c = λ n y. rw c.in-Delete.is (delete-read _ _ _ _ _ _ _ _ (rw c.second_line-at.ensures at (c.read_section-in-Delete.ensures 0)) n)

pub returns-in-Insert : goal.returns-in-Insert
unfolding head_of coded
returns-in-Insert c = λ n y. rw c.in-Insert.is (rw c.second_line-at.ensures at (c.read_insert.ensures n c.args.froms.now))

pub returns-in-Update : goal.returns-in-Update
unfolding head_of coded
returns-in-Update c = λ n y. rw c.in-Update.is (rw c.second_line-at.ensures at (c.read_update.ensures n c.args.froms.now))

pub returns-in-Drop : goal.returns-in-Drop
unfolding head_of coded
returns-in-Drop c = λ n y. rw c.second_line-at.ensures (elim c.in-Drop.is [
  | inl e ↦ rw e (drop-read _ _ _ _ _ c.requires n y)
  | inr e ↦ rw e (other-read _ _ _ _ _ c.requires)
])
