-- `building::build_kind`: each kind of statement is built as the rules build it; any other is refused.
use mathlib.Core.Path.{sym, ◌∙◌}
use Rattle.build_statement.specs.Kinds.{drop-built, delete-ready, delete-built, insert-ready, insert-built, update-ready, update-built}
use Rattle.build_statement.specs.Columns.{create-ready, create-built}
use Rattle.planner.specs.Kinds.{ready, plans-as, select-any, select-built, other-plans}
use Rattle.planner.proofs.building.build_kind.Goals as goal

pub build_select-requires : goal.build_select-requires
build_select-requires c = select-any _ _ _ _ _ (sym c.in-Select.is ∙ c.kind_of-kind.ensures) c.requires.statement_ready c.requires.free

pub build_create_table-requires : goal.build_create_table-requires
build_create_table-requires c = create-ready _ _ _ _ _ (sym c.in-Create.is ∙ c.kind_of-kind.ensures) (ready c.requires.statement_ready c.requires.free)

pub build_delete-requires : goal.build_delete-requires
build_delete-requires c = delete-ready _ _ _ _ _ (sym c.in-Delete.is ∙ c.kind_of-kind.ensures) (ready c.requires.statement_ready c.requires.free)

pub build_insert-requires : goal.build_insert-requires
build_insert-requires c = insert-ready _ _ _ _ _ (sym c.in-Insert.is ∙ c.kind_of-kind.ensures) (ready c.requires.statement_ready c.requires.free)

pub build_update-requires : goal.build_update-requires
build_update-requires c = update-ready _ _ _ _ _ (sym c.in-Update.is ∙ c.kind_of-kind.ensures) (ready c.requires.statement_ready c.requires.free)

pub returns-in-Select : goal.returns-in-Select
returns-in-Select c = plans-as (select-built _ _ _ _ _ (sym c.in-Select.is ∙ c.kind_of-kind.ensures) _) c.build_select.ensures

pub returns-in-Create : goal.returns-in-Create
returns-in-Create c = plans-as (create-built _ _ _ _ _ (sym c.in-Create.is ∙ c.kind_of-kind.ensures) _) c.build_create_table.ensures

pub returns-in-Drop : goal.returns-in-Drop
returns-in-Drop c = plans-as (drop-built _ _ _ _ _ _ (sym c.in-Drop.is ∙ c.kind_of-kind.ensures)) c.build_drop_table.ensures

pub returns-in-Delete : goal.returns-in-Delete
returns-in-Delete c = plans-as (delete-built _ _ _ _ _ (sym c.in-Delete.is ∙ c.kind_of-kind.ensures) _) c.build_delete.ensures

pub returns-in-Insert : goal.returns-in-Insert
returns-in-Insert c = plans-as (insert-built _ _ _ _ _ (sym c.in-Insert.is ∙ c.kind_of-kind.ensures) _) c.build_insert.ensures

pub returns-in-Update : goal.returns-in-Update
returns-in-Update c = plans-as (update-built _ _ _ _ _ (sym c.in-Update.is ∙ c.kind_of-kind.ensures) _) c.build_update.ensures

pub returns-in-Other : goal.returns-in-Other
returns-in-Other c = rw c.at.ensures (other-plans _ _ _ _ _ _ (sym c.in-Other.is ∙ c.kind_of-kind.ensures) c.line.ensures)
