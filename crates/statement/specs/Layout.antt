-- A statement as numbers of 32 bits in three slices, and the statement that such numbers stand for, whatever they are: `cells`, the
-- rows of its expressions (crate ast), `froms`, those of its FROM items (crate from), and `parts`.
--
-- The parts start with eight numbers: 0 the statement's kind (1 select, 2 create, 3 drop, 4 delete, 5 insert, 6 update, 7 other),
-- 1 the line of its first record, 2 3 its name's address and length, 4 the flag of `drop` (1 yes). Then come the sections (crate
-- sections). Behind those of a SELECT, number 2367 is how many FROM rows there are.
use Rattle.std.specs.Prelude.{ℕ, Bool, true, false, List, [], ◌∷◌, get_or}
use Rattle.std.proofs.Math.Option.{Option, none, some}
use Rattle.rules.specs.Lists.{Bytes, or_else}
use Rattle.rules.specs.Lines.{Word}
use Rattle.rules.specs.Places.{word_at}
use Rattle.rules.specs.Ast.{Expr, star, Exprs, nil, cons, From, Item, Key, Clause, Select, Delete, Named, Insert, Set, Update, NewColumn, Create, Statement, list_of}
use Rattle.rules.specs.Ast as Ast
use Rattle.numbers.specs.Codes.{coded}
use Rattle.numbers.specs.Values.{is_one, type_at}
use Rattle.entries.specs.Entries.{Entry}
use Rattle.sections.specs.Layout.{section_at}
use Rattle.from.specs.Layout.{froms_at}

-- WHAT ENTRIES STAND FOR
unfoldable pub first_or : Exprs → Expr
first_or nil = star 0
first_or (cons e es) = e

unfoldable pub first_of : Exprs → Option Expr
first_of nil = none
first_of (cons e es) = some e

unfoldable pub word_or : Option Word → Word
word_or w = or_else w (record { bytes = []; start = 0 })

unfoldable pub map_entries : {A : Type 0} → (Entry → A) → List Entry → List A
map_entries f [] = []
map_entries f (e ∷ es) = f e ∷ map_entries f es

unfoldable pub to_item : Entry → Item
to_item e = record { line = e.line; expr = first_or e.exprs; alias = e.head.name }

unfoldable pub to_group : Entry → Expr
to_group e = first_or e.exprs

unfoldable pub to_key : Entry → Key
to_key e = record { expr = first_or e.exprs; descending = is_one e.head.code }

unfoldable pub to_clause : List Entry → Option Clause
to_clause [] = none
to_clause (e ∷ es) = some (record { line = e.line; expr = first_or e.exprs })

unfoldable pub to_named : Entry → Named
to_named e = record { line = e.line; name = word_or e.head.name }

-- the inserted names, where there is a `columns`
unfoldable pub to_names : List Entry → List Entry → Option (List Named)
to_names [] ns = none
to_names (e ∷ es) ns = some (map_entries to_named ns)

unfoldable pub to_row : Entry → List Expr
to_row e = list_of e.exprs

unfoldable pub to_set : Entry → Set
to_set e = record { line = e.line; name = word_or e.head.name; value = first_of e.exprs }

unfoldable pub to_null : ℕ → Option Bool
to_null k = coded none (some true ∷ some false ∷ []) 1 k

unfoldable pub to_column : Entry → NewColumn
to_column e = record {
  line = e.line;
  name = word_or e.head.name;
  type = type_at e.head.code;
  key = is_one e.head.key;
  nullable = to_null e.head.nullable;
  unique = is_one e.head.unique;
  index = is_one e.head.index;
  default = first_of e.exprs;
  reference = e.head.reference;
}

-- STATEMENTS
-- a statement of its sections
unfoldable pub select_of : List Entry → List From → List Entry → List Entry → List Entry → List Entry → List Entry → List Entry → Select
select_of is' fs w gs h os o l = record {
  items = map_entries to_item is';
  from = fs;
  filter = to_clause w;
  group = map_entries to_group gs;
  having = to_clause h;
  order = map_entries to_key os;
  offset = to_clause o;
  limit = to_clause l;
}

unfoldable pub insert_of : ℕ → Word → List Entry → List Entry → List Entry → Insert
insert_of l n cs ns rs = record { line = l; table = n; columns = to_names cs ns; rows = map_entries to_row rs }

unfoldable pub update_of : ℕ → Word → List Entry → List Entry → Update
update_of l n xs w = record { line = l; table = n; sets = map_entries to_set xs; filter = to_clause w }

unfoldable pub delete_of : ℕ → Word → List Entry → Delete
delete_of l n w = record { line = l; table = n; filter = to_clause w }

unfoldable pub create_of : ℕ → Word → List Entry → Create
create_of l n cs = record { line = l; name = n; columns = map_entries to_column cs }

-- the statement that the numbers stand for
module _ (b q : Bytes) (cells froms parts : List ℕ) where
  abbrev entries_of : ℕ → List Entry
  entries_of k = section_at b q cells parts k

  abbrev line_here : ℕ
  line_here = get_or parts 1 0

  abbrev name_here : Word
  name_here = word_at b q (get_or parts 2 0) (get_or parts 3 0)

  unfoldable pub statement_at : Statement
  statement_at = coded (Ast.other line_here) (
      Ast.select (select_of (entries_of 0) (froms_at b q cells froms (get_or parts 2367 0)) (entries_of 1) (entries_of 2) (entries_of 3) (entries_of 4) (entries_of 5) (entries_of 6))
      ∷ Ast.create (create_of line_here name_here (entries_of 11))
      ∷ Ast.drop (record { name = name_here; if_exists = is_one (get_or parts 4 0) })
      ∷ Ast.delete (delete_of line_here name_here (entries_of 1))
      ∷ Ast.insert (insert_of line_here name_here (entries_of 7) (entries_of 8) (entries_of 9))
      ∷ Ast.update (update_of line_here name_here (entries_of 10) (entries_of 1))
      ∷ []
      ) 1 (get_or parts 0 0)
