-- Document 01's limits ("Most allowed"), and the plan area's least length.
use Rattle.std.specs.Prelude.{ℕ}

abbrev pub most_bytes : ℕ
most_bytes = 65536

abbrev pub most_name_bytes : ℕ
most_name_bytes = 64

abbrev pub most_tables : ℕ
most_tables = 32

-- in a table of the catalog, and in CREATE
abbrev pub most_table_columns : ℕ
most_table_columns = 64

abbrev pub most_from_tables : ℕ
most_from_tables = 16

-- expression cells of a statement
abbrev pub most_cells : ℕ
most_cells = 512

abbrev pub most_depth : ℕ
most_depth = 32

-- items, group expressions, order keys, inserted names and sets, of each
abbrev pub most_entries : ℕ
most_entries = 64

abbrev pub most_rows : ℕ
most_rows = 256

-- columns in any scope, and items after star expansion
abbrev pub most_columns : ℕ
most_columns = 256

abbrev pub least_area : ℕ
least_area = 16384
