-- A catalog's and a statement's text is refused with 2 or 3 alone, in itself.
use Prim.Native.Nat.{ℕ, zero, suc}
use Rattle.std.specs.Prelude.{refl, Bool, true, false, not, List, [], ◌∷◌, ltb, length}
use Rattle.std.proofs.Math.Option.{Option, none, some}
use Rattle.rules.specs.Refusals.{Text, catalog, statement, wrong_record, limit_passed, Answer, ok, refused}
use Rattle.rules.specs.Limits.{most_tables, most_table_columns, most_entries, most_rows, most_from_tables, most_cells}
use Rattle.rules.specs.Limits.{most_depth}
use Rattle.rules.specs.Lists.{Bytes, same, any}
use Rattle.rules.specs.Lines.{Word, bytes}
use Rattle.rules.specs.Schema.{Datatype, Column}
use Rattle.rules.specs.Ast.{Expr, cons, nil, From, Clause}
use Rattle.rules.specs.Reader.{◌>>=◌, Place, Read, start, stop, give, line_here, next, key, rest, at, one_of, no_field}
use Rattle.rules.specs.Reader.{one_field, optional_name, word, name, count_field, literals, literal_here, nothing_left}
use Rattle.rules.specs.Reader.{value_of}
use Rattle.rules.specs.ReadExpression.{Head, star_head, is_head, column_head, value_head, call_head, unary_head, binary_head}
use Rattle.rules.specs.ReadExpression.{heads, counted, head_here, times, operands, too_deep, deep, expression, clause}
use Rattle.rules.specs.ReadColumn.{new_column_fields, column_fields}
use Rattle.rules.specs.ReadStatement as S
use Rattle.rules.specs.ReadStatement.{read_statement}
use Rattle.rules.specs.ReadCatalog as C
use Rattle.rules.specs.ReadCatalog.{read_catalog}
use Rattle.claims.specs.Cases.{either_way}
use Rattle.claims.specs.Refused.Refuses.{Refuses, accepted, refused-with, Among}
use Rattle.claims.specs.Refused.Reading.{Stays, InText, gives, wrong, past-limit, after, past, fit_stays}
use Rattle.claims.specs.Refused.Reading.{records, line-numbers, within, turned, optionals, at_least, run}

-- EXPRESSIONS
literal-in-text : InText literal_here
unfolding literal_here
literal-in-text = record { from = λ p. fit_stays (one_of literals (line_here p)) p }

head-in-text : InText head_here
unfolding head_here stop next counted
head-in-text = record { from = λ p. go p (one_of heads (line_here p)) }
  where
    go : (p : Place) (o : Option Head) → Stays {A = Head} p.text (elim o [
      | none ↦ stop wrong_record p
      | some h ↦ elim (ltb p.cells most_cells) [ true ↦ ok (h, next (counted p)) | false ↦ stop limit_passed p ]
    ])
    go p none = wrong
    go p (some h) = either_way (Stays {A = Head} p.text) (ltb p.cells most_cells) _ _ refl past-limit

module _ {e : Read Expr} (h : InText e) where
  times-in-text : (n : ℕ) → InText (times n e)
  unfolding times
  times-in-text zero = gives nil
  times-in-text (suc n) = after h λ a. after (times-in-text n) λ as'. gives (cons a as')

  operands-in-text : (x : Head) (l : ℕ) → InText (operands x l e)
  unfolding operands
  operands-in-text star_head l = gives _
  operands-in-text (column_head t n) l = gives _
  operands-in-text (value_head v) l = gives _
  operands-in-text (call_head n k) l = after (times-in-text k) λ as'. gives _
  operands-in-text (unary_head o) l = after h λ a. gives _
  operands-in-text (binary_head o) l = after h λ a. after h λ b. gives _
  operands-in-text is_head l = after h λ a. after literal-in-text λ v. gives _

deep-in-text : (d : ℕ) → InText (deep d)
unfolding deep too_deep
deep-in-text zero = after line-numbers λ l. after head-in-text λ h. record { from = λ p. past-limit }
deep-in-text (suc d) = after line-numbers λ l. after head-in-text λ h. operands-in-text (deep-in-text d) h l

expression-in-text : InText expression
unfolding expression
expression-in-text = deep-in-text most_depth

clause-in-text : (k : Bytes) → InText (clause k)
unfolding clause stop next
clause-in-text k = record { from = λ p. either_way (Stays p.text) (at k p) _ _ (go p (no_field (rest p))) refl }
  where
    go : (p : Place) (o : Option (Unit {0})) → Stays {A = Option Clause} p.text (elim o [
      | none ↦ stop wrong_record p
      | some u ↦ (expression >>= λ e. give (some (record { line = p.line; expr = e }))) (next p)
    ])
    go p none = wrong
    go p (some u) = (after expression-in-text (λ e. gives _)).from (next p)

-- FROM
from-here : InText S.from_here
unfolding S.from_here stop next S.tabled
from-here = record { from = λ p. go p (one_of S.from_heads (line_here p)) }
  where
    go : (p : Place) (o : Option S.FromHead) → Stays {A = S.FromHead} p.text (elim o [
      | none ↦ stop wrong_record p
      | some (S.table_head n a) ↦ elim (ltb p.tables most_from_tables) [
        | true ↦ ok (S.table_head n a, next (S.tabled p))
        | false ↦ stop limit_passed p
      ]
      | some (S.join_head j o) ↦ ok (S.join_head j o, next p)
    ])
    go p none = wrong
    go p (some (S.table_head n a)) =
        either_way (Stays {A = S.FromHead} p.text) (ltb p.tables most_from_tables) _ _ refl past-limit
    go p (some (S.join_head j o)) = refl

from-body : {f : Read From} → InText f → (x : S.FromHead) (l : ℕ) → InText (S.from_body x l f)
unfolding S.from_body
from-body h (S.table_head n a) l = gives _
from-body h (S.join_head j o) l = after h λ a. after h λ b. after (optionals o expression-in-text) λ e. gives _

from-tree : (fuel : ℕ) → InText (S.from_tree fuel)
unfolding S.from_tree stop
from-tree zero = record { from = λ p. wrong }
from-tree (suc fuel) = after line-numbers λ l. after from-here λ h. from-body (from-tree fuel) h l

froms : (fuel : ℕ) → InText (S.froms fuel)
unfolding S.froms
froms zero = gives []
froms (suc fuel) = record {
  from = λ p.
      either_way (Stays p.text) (any (same (key p)) (bytes "from" ∷ bytes "join" ∷ [])) _ _
      ((after (turned from-tree) λ f. after (froms fuel) λ fs. gives (f ∷ fs)).from p)
      refl;
}

-- STATEMENTS
select-body : InText S.select_body
unfolding S.select_body S.item_body S.group_body S.order_body
select-body =
    after (at_least (bytes "item") (run (bytes "item") optional_name most_entries λ l a.
    after expression-in-text λ e. gives _)) λ is'.
    after (turned froms) λ fs.
    after (clause-in-text (bytes "where")) λ w.
    after (run (bytes "group") no_field most_entries λ l u. expression-in-text) λ gs.
    after (clause-in-text (bytes "having")) λ h.
    after (run (bytes "order") (one_field (word S.directions)) most_entries λ l d.
    after expression-in-text λ e. gives _) λ os.
    after (clause-in-text (bytes "offset")) λ o.
    after (clause-in-text (bytes "limit")) λ l.
    gives _

delete-body : (l : ℕ) (n : Word) → InText (S.delete_body l n)
unfolding S.delete_body
delete-body l n = after (clause-in-text (bytes "where")) λ w. gives _

columns-here : InText S.columns_here
unfolding S.columns_here S.name_body
columns-here = record {
  from = λ p. either_way (Stays p.text) (at (bytes "columns") p) _ _
      ((past (records (bytes "columns") no_field)
      (after (run (bytes "name") (one_field name) most_entries λ l n. gives _) λ ns. gives (some ns))).from p)
      refl;
}

insert-body : (l : ℕ) (n : Word) → InText (S.insert_body l n)
unfolding S.insert_body S.row_body
insert-body l n =
    after columns-here λ cs.
    after (at_least (bytes "row") (run (bytes "row") (one_field count_field) most_rows λ l₁ k.
    after (times-in-text expression-in-text k) λ es. gives _)) λ rs.
    gives _

sets : (fuel n : ℕ) (b : Option Bytes) → InText (S.sets fuel n b)
unfolding S.sets
sets zero n b = gives []
sets (suc fuel) n b = record {
  from = λ p. either_way (Stays p.text) (at (bytes "set") p) _ _
      ((after (within (S.rising_set b) n most_entries) λ h.
      after (optionals (not h.1.1) expression-in-text) λ e.
      after (sets fuel (suc n) (some h.1.0.bytes)) λ xs.
      gives _).from p)
      refl;
}

update-body : (l : ℕ) (n : Word) → InText (S.update_body l n)
unfolding S.update_body
update-body l n =
    after (at_least (bytes "set") (turned λ k. sets k 0 none)) λ xs.
    after (clause-in-text (bytes "where")) λ w.
    gives _

create-body : (l : ℕ) (n : Word) → InText (S.create_body l n)
unfolding S.create_body S.column_body
create-body l n =
    after (run (bytes "column") new_column_fields most_table_columns λ l₁ c.
    after (optionals c.default expression-in-text) λ d. gives _) λ cs.
    gives _

statement-body : (h : S.StatementHead) (l : ℕ) → InText (S.statement_body h l)
unfolding S.statement_body
statement-body S.select_head l = after select-body λ s. gives _
statement-body (S.delete_head n) l = after (delete-body l n) λ d. gives _
statement-body (S.insert_head n) l = after (insert-body l n) λ d. gives _
statement-body (S.update_head n) l = after (update-body l n) λ d. gives _
statement-body (S.create_head n) l = after (create-body l n) λ d. gives _
statement-body (S.drop_head n y) l = gives _
statement-body S.other_head l = gives _

-- at the end of the text, or not
either_end : {A : Type 0} (Q : A → Type 0) (xs : Bytes) (a b : A) → Q a → Q b → Q (elim xs [ [] ↦ a | x ∷ ys ↦ b ])
either_end Q [] a b h g = h
either_end Q (x ∷ xs) a b h g = g

nothing_left_lem : InText nothing_left
unfolding nothing_left stop
nothing_left_lem = record { from = λ p. either_end (Stays p.text) p.left _ _ refl wrong }

statement-records : InText S.statement_records
unfolding S.statement_records S.statement_here
statement-records =
    after line-numbers λ l.
    after (record { from = λ p. fit_stays (one_of S.statement_heads (line_here p)) p }) λ h.
    after (statement-body h l) λ s.
    past (records (bytes "end") no_field) (past nothing_left_lem (gives s))

-- CATALOG
column-body : (l : ℕ) (c : Word × Datatype × Bool) → InText (C.column_body l c)
unfolding C.column_body C.default_here
column-body l c =
    after (record { from = λ p. fit_stays (one_of (C.default_records literals) (line_here p)) p }) λ d. gives _

key_fits_lem : (l k : ℕ) (cs : List Column) → InText (C.key_fits l k cs)
unfolding C.key_fits
key_fits_lem l k cs = record { from = λ p. either_way (Stays p.text) (ltb k (length cs)) _ _ refl wrong }

tables : (fuel n : ℕ) (ns : List Bytes) → InText (C.tables fuel n ns)
unfolding C.tables stop
tables zero n ns = gives []
tables (suc fuel) n ns = record {
  from = λ p. either_end (Stays p.text) p.left _ _ refl
      (either_way (Stays p.text) (at (bytes "table") p) _ _
      ((after (within (C.table_fields ns) n most_tables) λ h.
      after (run (bytes "column") column_fields most_table_columns column-body) λ cs.
      past (key_fits_lem h.0 h.1.1 cs)
      (after (tables fuel (suc n) (h.1.0.bytes ∷ ns)) λ ts. gives _)).from p)
      wrong);
}

-- THE TEXTS
value-among : {A : Type 0} {t : Text} (x : Answer (A × Place)) → Stays t x → Refuses (value_of x) (Among t (2 ∷ 3 ∷ []))
unfolding value_of
value-among (ok r) h = accepted
value-among (refused r) h = refused-with h

pub statement-text : (q : Bytes) → Refuses (read_statement q) (Among statement (2 ∷ 3 ∷ []))
unfolding read_statement start
statement-text q = value-among _ (statement-records.from (start statement q))

pub catalog-text : (c : Bytes) → Refuses (read_catalog c) (Among catalog (2 ∷ 3 ∷ []))
unfolding read_catalog start
catalog-text c = value-among _ ((turned (λ k. tables k 0 [])).from (start catalog c))
