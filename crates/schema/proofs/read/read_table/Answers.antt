-- `read_table`: the rest from here is this table and the rest behind it, or a refusal.
use mathlib.Core.Path.{refl}
use Rattle.std.proofs.lemmas.Result.{err_from_is_err_and}
use Rattle.schema.specs.Tables.{table-wrong, table-limit, columns-ready, table-columns-refused, table-key, table-read}
use Rattle.schema.proofs.read.read_table.Goals as goal

pub returns-in_default : goal.returns-in_default
returns-in_default c = rw c.at.ensures (table-wrong c.requires c.table_record.ensures c.in_default.is)

pub returns-then-index-ge-MOST_TABLES : goal.returns-then-index-ge-MOST_TABLES
returns-then-index-ge-MOST_TABLES c = rw c.at-then-index-ge-MOST_TABLES.ensures (table-limit c.requires c.table_record.ensures c.in-Some.is c.if-index-ge-MOST_TABLES.true)

pub read_columns-requires : goal.read_columns-requires
read_columns-requires c = columns-ready c.requires c.table_record.ensures c.in-Some.is c.if-index-ge-MOST_TABLES.false

pub returns-in_err-run : goal.returns-in_err-run
returns-in_err-run c = let p = err_from_is_err_and c.from_residual.result c.from_residual.ensures.1 in rw (p.1, p.2) (table-columns-refused c.requires c.table_record.ensures c.in-Some.is c.if-index-ge-MOST_TABLES.false c.read_columns.ensures c.in_err-run.was)

pub returns-then-run-h : goal.returns-then-run-h
returns-then-run-h c = rw c.at-then-run-h.ensures (table-key c.requires c.table_record.ensures c.in-Some.is c.if-index-ge-MOST_TABLES.false c.read_columns.ensures c.in_ok-run.was c.if-run-h.true)

pub returns : goal.returns
returns c = table-read c.requires c.table_record.ensures c.in-Some.is c.if-index-ge-MOST_TABLES.false c.read_columns.ensures c.in_ok-run.was c.if-run-h.false refl c.read_columns.auto.tables (rw c.table_start-i.ensures at c.put.ensures)
