-- What reading FROM leaves in the slices: rows that stand for what was read, whatever is written behind them later.
use Rattle.std.specs.Prelude.{ℕ, ◌*◌, ◌≤◌, ◌≡◌, List, Result, Ok, Err}
use Rattle.rules.specs.Refusals.{statement, ok, refused}
use Rattle.rules.specs.Lists.{Bytes}
use Rattle.rules.specs.Ast.{From}
use Rattle.rules.specs.Reader.{turns}
use Rattle.rules.specs.ReadStatement.{froms}
use Rattle.numbers.specs.declared.refusals.Refusal as code
use Rattle.numbers.specs.Reasons.{told}
use Rattle.numbers.specs.Kept.{Kept}
use Rattle.ast.specs.Table.{row_size}
use Rattle.read_expression.specs.Reading.{here, Position}
use Rattle.from.specs.Layout.{froms_at}
use Rattle.from.specs.declared.Froms.{Froms}

-- FROM, read from row c on to row c', with k tables and in n FROM rows
pub record FromsTook (t : Bytes) (p l c : ℕ) (cells cells' rows' : List ℕ) (p' l' c' k n : ℕ) : Type 0 where
  pub value : List From
  pub is : turns froms (here t p l c 0) ≡ ok (value, here t p' l' c' k)
  pub position : Position t p' l' c'
  pub moved : p ≤ p'
  pub more : c ≤ c'
  pub few : n ≤ 31
  pub stand : (cells'' : List ℕ) → Kept 0 (row_size * c') cells' cells'' → (b : Bytes) → froms_at b t cells'' rows' n ≡ value
  pub cells-kept : Kept 0 (row_size * c) cells cells'

unfoldable pub FromsRead : (t : Bytes) (p l c : ℕ) (cells cells' rows' : List ℕ) → Result Froms code.Refusal → Type 0
FromsRead t p l c cells cells' rows' (Ok f) = FromsTook t p l c cells cells' rows' f.at.position f.at.line f.at.rows f.tables f.rows
FromsRead t p l c cells cells' rows' (Err w) = turns froms (here t p l c 0) ≡ refused (told statement w)
