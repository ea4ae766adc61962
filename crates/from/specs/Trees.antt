-- One tree of FROM: the contracts of reading it and of closing a join.
use Rattle.std.specs.Prelude as std
use Rattle.std.specs.Prelude.{ℕ, ◌+◌, ◌*◌, ◌≤◌, ◌<◌, ◌≡◌, List, [], ◌∷◌, length, Result, Ok, Err}
use Rattle.std.proofs.Math.Option.{Option}
use Rattle.std.proofs.lemmas.List.Edits.{sets}
use Rattle.rules.specs.Limits.{most_from_tables}
use Rattle.rules.specs.Refusals.{statement, ok, refused}
use Rattle.rules.specs.Lists.{Bytes}
use Rattle.rules.specs.Ast.{Expr, From}
use Rattle.rules.specs.Reader.{turns}
use Rattle.rules.specs.ReadStatement.{from_tree}
use Rattle.numbers.specs.declared.refusals.Refusal as code
use Rattle.numbers.specs.Reasons.{told}
use Rattle.numbers.specs.Kept.{Kept}
use Rattle.ast.specs.Table.{row_size}
use Rattle.read_expression.specs.Reading.{here, Position}
use Rattle.from.specs.Layout.{predicate_at, trees_before}
use Rattle.from.specs.Rows.{sides_before}
use Rattle.from.specs.Numbers.{number_of}
use Rattle.numbers.specs.declared.refusals.Reason.TheVariants.{LimitPassed}
use Rattle.text.specs.declared.places.Place.{Place}
use Rattle.from.specs.Records.{alias_first, alias_second}
use Rattle.from.specs.declared.Froms.{Froms}
use Rattle.from.specs.declared.Open.{Open}

-- a join closed in FROM row n: its row is written, and stands for its predicate e, whatever is written behind that later
pub record Closed (t : Bytes) (c n : ℕ) (v : Open) (cells cells' rows rows' : List ℕ) (c' : ℕ) (e : Option Expr) : Type 0 where
  pub number : ℕ
  pub written : rows' ≡ sets rows (row_size * n) (number_of v.kind ∷ v.line ∷ number ∷ 0 ∷ 0 ∷ 0 ∷ 0 ∷ sides_before rows n ∷ [])
  pub stands : (cells'' : List ℕ) → Kept 0 (row_size * c') cells' cells'' → (b : Bytes) → predicate_at b t cells'' number ≡ e
  pub cells-kept : Kept 0 (row_size * c) cells cells'

-- A table more in FROM, whose record ends at e, where there may be one more: its row, and what stands behind it.
unfoldable pub TableAdded : (f : Froms) (e : ℕ) (name : Place) (alias : std.Option Place) (rows rows' : List ℕ) → Result Froms code.Refusal → Type 0
TableAdded f e name alias rows rows' (Ok g) = (f.tables < most_from_tables) × (rows' ≡ sets rows (row_size * f.rows) (1 ∷ f.at.line ∷ 0 ∷ name.address ∷ name.length ∷ alias_first alias ∷ alias_second alias ∷ 0 ∷ []))
    × (g ≡ record { at = record { position = e; line = f.at.line + 1; rows = f.at.rows }; tables = f.tables + 1; rows = f.rows + 1 })
TableAdded f e name alias rows rows' (Err w) = (most_from_tables ≤ f.tables) × (rows' ≡ rows) × (w ≡ record { reason = LimitPassed; line = f.at.line })

-- a tree that was read behind k tables and n FROM rows: it stands before the trees of those rows
pub record TreeTook (t : Bytes) (p l c k n : ℕ) (cells cells' rows rows' : List ℕ) (p' l' c' k' n' : ℕ) : Type 0 where
  pub value : From
  pub is : turns from_tree (here t p l c k) ≡ ok (value, here t p' l' c' k')
  pub position : Position t p' l' c'
  pub moved : p < p'
  pub more : c ≤ c'
  pub tables : k' ≤ most_from_tables
  pub count : n' + 1 + 2 * k ≡ n + 2 * k'
  pub stand : (cells'' : List ℕ) → Kept 0 (row_size * c') cells' cells'' → (b : Bytes)
      → trees_before b t cells'' rows' n' ≡ value ∷ trees_before b t cells'' rows n
  pub cells-kept : Kept 0 (row_size * c) cells cells'

unfoldable pub TreeRead : (t : Bytes) (p l c k n : ℕ) (cells cells' rows rows' : List ℕ) → Result Froms code.Refusal → Type 0
TreeRead t p l c k n cells cells' rows rows' (Ok f) = TreeTook t p l c k n cells cells' rows rows' f.at.position f.at.line f.at.rows f.tables f.rows
TreeRead t p l c k n cells cells' rows rows' (Err w) = turns from_tree (here t p l c k) ≡ refused (told statement w)

-- a tree may stand here, and its rows have room
pub record TreeReady (t : Bytes) (p l c k n : ℕ) : Type 0 where
  pub position : Position t p l c
  pub tables : k ≤ most_from_tables
  pub count : n ≤ 2 * k
