-- What reading a section leaves in the slices: numbers that stand for what was read, whatever is written behind them later.
use Rattle.std.specs.Prelude.{ℕ, ◌+◌, ◌*◌, ◌≤◌, ◌≡◌, List, length}
use Rattle.rules.specs.Lists.{Bytes}
use Rattle.numbers.specs.Kept.{Kept}
use Rattle.ast.specs.Table.{row_size}
use Rattle.entries.specs.Entries.{Entry, most_of}
use Rattle.sections.specs.Layout.{start_of, section_at}

-- the number behind the last that a section may have
unfoldable pub end_of : ℕ → ℕ
end_of kind = start_of kind + 1 + 12 * most_of kind

-- a section that was read from row c on to row c'
pub record SectionRead (t : Bytes) (kind c : ℕ) (cells cells' parts parts' : List ℕ) (c' : ℕ) (xs : List Entry) : Type 0 where
  pub is : (cells'' parts'' : List ℕ) → Kept 0 (row_size * c') cells' cells'' → Kept 0 (end_of kind) parts' parts''
      → (b : Bytes) → section_at b t cells'' parts'' kind ≡ xs
  pub most : length xs ≤ most_of kind
  pub cells-kept : Kept 0 (row_size * c) cells cells'
  pub parts-kept : Kept 0 (start_of kind) parts parts'
