-- `read_column`: the rest from here is this column and the rest behind it, or what ends the run.
use native.Mathlib.Omega.{arith}
use mathlib.Core.Path.{refl, ap, ◌∙◌}
use Rattle.std.specs.Prelude.{Ok}
use Rattle.rules.specs.Area.{flag}
use Rattle.std.proofs.lemmas.Result.{err_from_is_err_and}
use Rattle.schema.proofs.ColumnReads.{column-end, column-wrong, column-next, column-limit, column-default, column-room, column-read}
use Rattle.schema.proofs.read.read_column.Goals as goal

pub returns-in_err-c : goal.returns-in_err-c
returns-in_err-c c = let p = err_from_is_err_and c.from_residual.result c.from_residual.ensures.1 in rw (p.1, p.2) (column-wrong c.requires c.column_record.ensures c.in_err-c.was)

pub returns-in_default : goal.returns-in_default
returns-in_default c = column-end c.requires c.column_record.ensures (c.in_ok-c.was ∙ ap Ok c.in_default.is)

pub returns-then-index-ge-MOST_TABLE_COLUMNS : goal.returns-then-index-ge-MOST_TABLE_COLUMNS
returns-then-index-ge-MOST_TABLE_COLUMNS c = rw c.at.ensures (column-limit c.requires c.column_record.ensures (c.in_ok-c.was ∙ ap Ok c.in-Some.is) c.if-index-ge-MOST_TABLE_COLUMNS.true)

pub default_record-requires : goal.default_record-requires
default_record-requires c = record { position = column-next c.requires c.column_record.ensures (c.in_ok-c.was ∙ ap Ok c.in-Some.is); fields = c.fields-f.ensures }

pub returns-in_default-default_record : goal.returns-in_default-default_record
returns-in_default-default_record c = rw c.at-in_default-default_record.ensures (column-default c.requires c.column_record.ensures (c.in_ok-c.was ∙ ap Ok c.in-Some.is) c.if-index-ge-MOST_TABLE_COLUMNS.false _ c.default_record.ensures c.in_default-default_record.is)

pub put-requires : goal.put-requires
put-requires c = omega (arith, column-room c.requires c.column_record.ensures (c.in_ok-c.was ∙ ap Ok c.in-Some.is) c.if-index-ge-MOST_TABLE_COLUMNS.false _ c.default_record.ensures c.in-Some-default_record.is)

pub put_given-requires : goal.put_given-requires
put_given-requires c = omega (arith, column-room c.requires c.column_record.ensures (c.in_ok-c.was ∙ ap Ok c.in-Some.is) c.if-index-ge-MOST_TABLE_COLUMNS.false _ c.default_record.ensures c.in-Some-default_record.is, c.put.auto.s)

pub returns : goal.returns
unfolding flag
returns c = column-read c.requires c.column_record.ensures (c.in_ok-c.was ∙ ap Ok c.in-Some.is) c.if-index-ge-MOST_TABLE_COLUMNS.false _ c.default_record.ensures c.in-Some-default_record.is refl (rw (c.column_start-i.ensures, c.from-datatype.ensures, c.from-nullable.ensures) at c.put.ensures) c.put.auto.s (rw c.column_start-i.ensures at c.put_given.ensures) c.fields-f.ensures.next
