-- A statement as it was read, by its kind: its own numbers by name, and its sections.
use Rattle.std.specs.Prelude.{ℕ, ◌≡◌, List, [], ◌∷◌, get_or}
use Rattle.std.specs.Prelude as std
use Rattle.std.proofs.Common.{ap, ◌∙◌}
use Rattle.std.proofs.Math.Path.{sym}
use Rattle.rules.specs.Lists.{Bytes}
use Rattle.rules.specs.Lines.{Word}
use Rattle.rules.specs.Places.{word_at}
use Rattle.rules.specs.Ast.{Select, Statement}
use Rattle.rules.specs.Ast as Ast
use Rattle.numbers.specs.Codes.{coded}
use Rattle.numbers.specs.Values.{is_one}
use Rattle.numbers.specs.Codes.{coded-map}
use Rattle.text.specs.declared.places.Place.{Place}
use Rattle.entries.specs.Entries.{Entry}
use Rattle.sections.specs.Layout.{section_at}
use Rattle.sections.specs.Access.{item_kind, where_kind, group_kind, having_kind, order_kind, offset_kind, limit_kind}
use Rattle.sections.specs.Access.{columns_kind, name_kind, row_kind, set_kind, column_kind}
use Rattle.from.specs.Layout.{froms_at}
use Rattle.statement.specs.Layout.{select_of, insert_of, update_of, delete_of, create_of, statement_at}
use Rattle.statement.specs.declared.access.Kind.{Kind}
use Rattle.statement.specs.declared.access.Kind.TheVariants as K

-- the place of a name that has to be there; of no bytes where there is none
unfoldable pub name_or : std.Option Place → Place
name_or std.None = record { address = 0; length = 0 }
name_or (std.Some p) = p

-- NUMBERS
module _ (parts : List ℕ) where
  abbrev pub kind_number : ℕ
  kind_number = get_or parts 0 0

  abbrev pub line_at : ℕ
  line_at = get_or parts 1 0

  abbrev pub name_address : ℕ
  name_address = get_or parts 2 0

  abbrev pub name_length : ℕ
  name_length = get_or parts 3 0

  abbrev pub drop_flag : ℕ
  drop_flag = get_or parts 4 0

  abbrev pub from_rows : ℕ
  from_rows = get_or parts 2367 0

-- KINDS
unfoldable pub kind_of : ℕ → Kind
kind_of k = coded K.Other (K.Select ∷ K.Create ∷ K.Drop ∷ K.Delete ∷ K.Insert ∷ K.Update ∷ []) 1 k

-- THE STATEMENT
module _ (b q : Bytes) (cells froms parts : List ℕ) where
  -- a section, by its kind
  abbrev pub section : ℕ → List Entry
  section k = section_at b q cells parts k

  -- the statement's name
  abbrev pub name_word : Word
  name_word = word_at b q (name_address parts) (name_length parts)

  -- the SELECT that the numbers stand for
  unfoldable pub select_at : Select
  select_at = select_of (section item_kind) (froms_at b q cells froms (from_rows parts)) (section where_kind)
      (section group_kind) (section having_kind) (section order_kind) (section offset_kind) (section limit_kind)

  -- what a statement of a kind is
  unfoldable pub statement_of : Kind → Statement
  statement_of K.Select = Ast.select select_at
  statement_of K.Create = Ast.create (create_of (line_at parts) name_word (section column_kind))
  statement_of K.Drop = Ast.drop (record { name = name_word; if_exists = is_one (drop_flag parts) })
  statement_of K.Delete = Ast.delete (delete_of (line_at parts) name_word (section where_kind))
  statement_of K.Insert = Ast.insert (insert_of (line_at parts) name_word (section columns_kind) (section name_kind)
      (section row_kind))
  statement_of K.Update = Ast.update (update_of (line_at parts) name_word (section set_kind) (section where_kind))
  statement_of K.Other = Ast.other (line_at parts)

  by_number : statement_at b q cells froms parts ≡ statement_of (kind_of (kind_number parts))
  unfolding statement_at select_at statement_of kind_of
  by_number = sym (coded-map statement_of _ _ 1 (get_or parts 0 0))

  -- the statement, by its kind
  pub statement-kind : (k : Kind) → k ≡ kind_of (kind_number parts) → statement_at b q cells froms parts ≡ statement_of k
  statement-kind k h = by_number ∙ ap statement_of (sym h)
