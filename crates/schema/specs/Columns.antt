-- A table's columns: what the rules make of the one that stands here and of the rest, and what stands in the numbers.
--
-- Here and in ColumnRuns, Tables, TableRuns: t is the text, s the numbers, p a position in the text and l its line, f the number
-- of a table's first column among all, n how many columns of the table, or how many tables, stand before p.
use Rattle.std.specs.Prelude.{ℕ, suc, ◌+◌, ◌*◌, ◌≤◌, ◌<◌, ◌≡◌, Bool, true, false, List, [], ◌∷◌, length, Result, Ok, Err, Some, None}
use Rattle.std.specs.Prelude as std
use native.Mathlib.Omega.{arith}
use Rattle.std.proofs.Math.Path.{refl}
use Rattle.std.proofs.Common.{◌∙◌}
use Rattle.std.proofs.Math.Option.{Option, none, some}
use Rattle.rules.specs.Refusals.{catalog, wrong_record, limit_passed, Refusal, Answer, ok, refused}
use Rattle.rules.specs.Limits.{most_table_columns}
use Rattle.rules.specs.Lists.{Bytes}
use Rattle.rules.specs.Lines.{Word, bytes}
use Rattle.rules.specs.Schema.{Value, Datatype, Column}
use Rattle.rules.specs.Reader.{Place, Read, at, rest, line_here, next, stop, give, fit, many, one_of, literals}
use Rattle.rules.specs.ReadColumn.{column_fields}
use Rattle.rules.specs.ReadCatalog.{default_records, default_here, column_body}
use Rattle.text.specs.Lines.{line_end, line-most}
use Rattle.schema.specs.Layout.{column_start, column_of}
use Rattle.schema.specs.Records.{Position, here, column_here}
use Rattle.text.specs.Answers.{bind_ok, bind-no, within-wrong, within-limit, within-ok, prefixed, give-first}
use Rattle.numbers.specs.Kept.{Kept}
use Rattle.schema.specs.Room.{least_column, numbers_for}
use Rattle.numbers.specs.declared.refusals.Refusal as code
use Rattle.numbers.specs.Reasons.{told}

-- THE RULES
-- the columns that stand here, n before them
unfoldable pub columns : ℕ → ℕ → Read (List Column)
columns fuel n = many (bytes "column") column_fields most_table_columns column_body fuel n

here-none : (p : Place) → column_here p ≡ none → at (bytes "column") p ≡ false
unfolding column_here
here-none p e = go (at (bytes "column") p) refl
  where
    go : (b : Bool) → at (bytes "column") p ≡ b → at (bytes "column") p ≡ false
    go false h = h
    go true h = absurd (let x : some (column_fields (rest p)) ≡ none = (rw (column_here, h) at e) in grind arith)

here-some : (p : Place) (o : Option (Word × Datatype × Bool)) → column_here p ≡ some o → (at (bytes "column") p ≡ true) × (column_fields (rest p) ≡ o)
unfolding column_here
here-some p o e = go (at (bytes "column") p) refl
  where
    go : (b : Bool) → at (bytes "column") p ≡ b → (at (bytes "column") p ≡ true) × (column_fields (rest p) ≡ o)
    go false h = absurd (let x : none ≡ some o = (rw (column_here, h) at e) in grind arith)
    go true h = let x : some (column_fields (rest p)) ≡ some o = (rw (column_here, h) at e) in (h, cc)

module _ (p : Place) (fuel n : ℕ) where
  pub columns-end : column_here p ≡ none → columns (suc fuel) n p ≡ ok ([], p)
  unfolding columns many
  columns-end e = rw (many, here-none p e)

  module _ (o : Option (Word × Datatype × Bool)) (e : column_here p ≡ some o) where
    pub columns-wrong : o ≡ none → columns (suc fuel) n p ≡ stop wrong_record p
    unfolding columns many stop
    columns-wrong z = rw (many, (here-some p o e).0) (bind-no _ _ p _ (within-wrong column_fields n most_table_columns p ((here-some p o e).1 ∙ z)))

    module _ (h : Word × Datatype × Bool) (z : o ≡ some h) where
      pub columns-limit : most_table_columns ≤ n → columns (suc fuel) n p ≡ stop limit_passed p
      unfolding columns many stop
      columns-limit l = rw (many, (here-some p o e).0) (bind-no _ _ p _ (within-limit column_fields n most_table_columns p h ((here-some p o e).1 ∙ z) l))

      module _ (l : n < most_table_columns) where
        pub columns-no : (r : Refusal) → column_body p.line h (next p) ≡ refused r → columns (suc fuel) n p ≡ refused r
        unfolding columns many
        columns-no r x = rw (many, (here-some p o e).0) (bind_ok _ _ p _ _ (within-ok column_fields n most_table_columns p h ((here-some p o e).1 ∙ z) l) ∙ bind-no _ _ (next p) r x)

        pub columns-on : (a : Column) (p' : Place) → column_body p.line h (next p) ≡ ok (a, p') → columns (suc fuel) n p ≡ prefixed (a ∷ []) (columns fuel (suc n) p')
        unfolding columns many
        columns-on a p' x = rw (many, (here-some p o e).0)
            (bind_ok _ _ p _ _ (within-ok column_fields n most_table_columns p h ((here-some p o e).1 ∙ z) l) ∙ bind_ok _ _ (next p) a p' x ∙ give-first _ a p')

module _ (l : ℕ) (h : Word × Datatype × Bool) (p : Place) where
  pub body-no : one_of (default_records literals) (line_here p) ≡ none → column_body l h p ≡ stop wrong_record p
  unfolding column_body default_here fit stop
  body-no e = bind-no _ _ p _ (rw e)

  pub body_ok : (d : Option Value) → one_of (default_records literals) (line_here p) ≡ some d
      → column_body l h p ≡ ok (record { name = h.0; type = h.1; nullable = h.2; default = d }, next p)
  unfolding column_body default_here fit give
  body_ok d e = bind_ok _ _ p d (next p) (rw e)

-- ONE COLUMN
-- A table's n-th column may stand at p; all columns before it, each of so many bytes at least, lie before p.
pub record ColumnReady (t : Bytes) (s : List ℕ) (p l f n : ℕ) : Type 0 where
  pub place : Position t p
  pub line : l ≤ p + 1
  pub room : numbers_for (length t) ≤ length s
  pub behind : least_column * (f + n) ≤ p
  pub first : f ≤ 31 * most_table_columns
  pub most : n ≤ most_table_columns

-- what reading has come to: the columns behind this one, or the end
unfoldable pub columns_from : Bytes → Bytes → List ℕ → ℕ → ℕ → ℕ → ℕ → ℕ → Result (std.Option ℕ) code.Refusal → Answer (List Column × Place)
columns_from t q s p l f n fuel (Ok (Some e)) = prefixed (column_of t q s (column_start (f + n)) ∷ []) (columns fuel (suc n) (here t e (l + 2)))
columns_from t q s p l f n fuel (Ok None) = ok ([], here t p l)
columns_from t q s p l f n fuel (Err w) = refused (told catalog w)

unfoldable pub ColumnMoves : Bytes → ℕ → ℕ → Result (std.Option ℕ) code.Refusal → Type 0
ColumnMoves t p n (Ok (Some e)) = (n < most_table_columns) × (p + least_column ≤ e) × (e ≤ length t)
ColumnMoves t p n (Ok None) = Unit
ColumnMoves t p n (Err w) = Unit

pub record ColumnRead (t : Bytes) (p l f n : ℕ) (s s' : List ℕ) (r : Result (std.Option ℕ) code.Refusal) : Type 0 where
  pub says : (q : Bytes) (fuel : ℕ) → columns_from t q s' p l f n fuel r ≡ columns (suc fuel) n (here t p l)
  pub kept : Kept 0 (column_start (f + n)) s s'
  pub moves : ColumnMoves t p n r

pub line-position : (t : Bytes) (p e : ℕ) → Position t p → e ≡ line_end t p → Position t e
line-position t p e w z = record { short = w.short; within = omega (arith, line-most t p, w.within) }
