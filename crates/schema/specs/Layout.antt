-- The catalog as numbers of 32 bits, and the catalog that such numbers stand for, whatever they are.
--
-- Number 0 is how many tables there are, at most 32. Table i is the five numbers from 1 + 5 * i on: the name's address and
-- length, the key position, the number of its first column, how many columns it has. Columns are numbered through all tables.
-- Column j is the eight numbers from 161 + 8 * j on: the name's address and length, the type (1 bool, 2 int, 3 float, 4 text),
-- 1 if it is nullable, the default's kind (0 none, 1 null, 2 bool, 3 int, 4 float, 5 text) and its two numbers, and 0. The two
-- numbers are a flag, 64 bits (low half first), or an address and a length.
use Rattle.std.specs.Prelude.{ℕ, zero, suc, ◌+◌, ◌*◌, List, [], ◌∷◌, get_or}
use Rattle.rules.specs.Lists.{Bytes}
use Rattle.rules.specs.Schema.{Column, Table, Catalog}
use Rattle.rules.specs.Places.{word_at}
use Rattle.numbers.specs.Values.{is_one, type_at, default_of}

-- how many numbers there are
abbrev pub numbers : ℕ
numbers = 16545

-- where a table's numbers start, and a column's
abbrev pub table_start : ℕ → ℕ
table_start i = 1 + 5 * i

abbrev pub column_start : ℕ → ℕ
column_start j = 161 + 8 * j

-- the column whose numbers start at i
unfoldable pub column_of : Bytes → Bytes → List ℕ → ℕ → Column
column_of c q s i = record {
  name = word_at c q (get_or s i 0) (get_or s (i + 1) 0);
  type = type_at (get_or s (i + 2) 0);
  nullable = is_one (get_or s (i + 3) 0);
  default = default_of c q (get_or s (i + 4) 0) (get_or s (i + 5) 0) (get_or s (i + 6) 0);
}

-- n columns from the j-th on
unfoldable pub columns_at : Bytes → Bytes → List ℕ → ℕ → ℕ → List Column
columns_at c q s j zero = []
columns_at c q s j (suc n) = column_of c q s (column_start j) ∷ columns_at c q s (suc j) n

-- the i-th table
unfoldable pub table_at : Bytes → Bytes → List ℕ → ℕ → Table
table_at c q s i = record {
  name = word_at c q (get_or s (table_start i) 0) (get_or s (table_start i + 1) 0);
  key = get_or s (table_start i + 2) 0;
  columns = columns_at c q s (get_or s (table_start i + 3) 0) (get_or s (table_start i + 4) 0);
}

-- n tables from the i-th on
unfoldable pub tables_at : Bytes → Bytes → List ℕ → ℕ → ℕ → List Table
tables_at c q s i zero = []
tables_at c q s i (suc n) = table_at c q s i ∷ tables_at c q s (suc i) n

-- the catalog that the numbers s stand for
unfoldable pub catalog_at : Bytes → Bytes → List ℕ → Catalog
catalog_at c q s = tables_at c q s 0 (get_or s 0 0)
