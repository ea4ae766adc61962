-- A statement that is read keeps to the limits.
use Rattle.std.specs.Prelude.{ℕ, zero, suc, ◌+◌, ◌≤◌, ◌≡◌, refl, Bool, true, false, List, [], ◌∷◌, ltb, length}
use Rattle.std.proofs.Common.{arith, ap, ltb-true}
use Rattle.std.proofs.Math.Option.{Option, none, some}
use Rattle.rules.specs.Refusals.{statement, limit_passed, Answer, ok, refused, ◌>>=◌}
use Rattle.rules.specs.Limits.{most_cells, most_from_tables, most_entries, most_rows, most_table_columns}
use Rattle.rules.specs.Lists.{Bytes, same, any}
use Rattle.rules.specs.Lines.{Word, bytes}
use Rattle.rules.specs.Ast.{Exprs, nil, cons, size, size_all, list_of, From, table, join, Item, Key, Select, Delete, Named, Insert, Update, NewColumn, Create, Statement, select, delete, insert, update, create, drop, other}
use Rattle.rules.specs.Sizes.{total, option_size, clause_size, from_size, items_size, keys_size, select_size, rows_size, sets_size, columns_size, statement_size}
use Rattle.rules.specs.Reader.{Place, Read, start, stop, line_here, next, key, at, line_number, one_of, nothing_left, value_of}
use Rattle.rules.specs.ReadExpression.{expression}
use Rattle.rules.specs.ReadColumn.{ColumnHead}
use Rattle.rules.specs.ReadStatement.{FromHead, table_head, join_head, from_heads, tabled, from_here, from_body, from_tree, froms, item_body, group_body, order_body, select_body, delete_body, name_body, row_body, columns_here, insert_body, sets, update_body, new_column, column_body, create_body, StatementHead, select_head, other_head, delete_head, insert_head, update_head, create_head, drop_head, statement_body, statement_here, statement_heads, statement_records, read_statement}
use Rattle.claims.specs.Answers.{Ensures, weaken, Given}
use Rattle.claims.specs.Reading.Rules.{Reaches, Reads, Anywhere, reads-by, reads-into, reads-next, reads-give, reads-stop, reads-test, reads-option, reads-list, reads_fit, reads-record, reads-within, reads-turns, reads-at_least_one, reads-value}
use Rattle.claims.specs.Reading.Cells.{Grown, ◌⨟◌, few, Adds, stays, passes, after, adds-times, adds-expression, adds-optional, adds-clause, adds_run}

-- the tables of a FROM item
unfoldable pub from_tables : From → ℕ
from_tables (table l n a) = 1
from_tables (join l j a b p) = from_tables a + from_tables b

pub record LimitedSelect (q : Select) : Type 0 where
  pub items : length q.items ≤ most_entries
  pub from : total from_tables q.from ≤ most_from_tables
  pub group : length q.group ≤ most_entries
  pub order : length q.order ≤ most_entries

pub record LimitedInsert (d : Insert) : Type 0 where
  pub rows : length d.rows ≤ most_rows
  pub columns : Given (λ (ns : List Named). length ns ≤ most_entries) d.columns

-- the limits on how many records of a kind a statement has
abbrev pub Limited : Statement → Type 0
Limited (select q) = LimitedSelect q
Limited (delete d) = Unit {0}
Limited (insert d) = LimitedInsert d
Limited (update d) = length d.sets ≤ most_entries
Limited (create d) = length d.columns ≤ most_table_columns
Limited (drop d) = Unit {0}
Limited (other l) = Unit {0}

-- FROM
head_tables : FromHead → ℕ
head_tables (table_head n a) = 1
head_tables (join_head j o) = 0

-- a FROM item counts its tables, and the cells of its predicates
abbrev Joins : Read From → Type 0
Joins f = Reads Anywhere f (λ p a q. Grown (from_size a) (from_tables a) p q)

from-head : Reads Anywhere from_here (λ p h q. Grown 0 (head_tables h) p q)
unfolding from_here head_tables next tabled stop
from-head p u = reads-option (one_of from_heads (line_here p)) _ _ _ tt λ h e. elim h as (λ k. Reaches (elim k as (λ x. Answer (FromHead × Place)) [
  | table_head n a ↦ elim (ltb p.tables most_from_tables) [ true ↦ ok (table_head n a, next (tabled p)) | false ↦ stop limit_passed p ]
  | join_head j o ↦ ok (join_head j o, next p)
]) (λ a q. Grown 0 (head_tables a) p q)) [
  | table_head n a ↦ reads-test (ltb p.tables most_from_tables) _ _ _ (λ t. omega (arith, ltb-true p.tables most_from_tables t)) (λ t. tt)
  | join_head j o ↦ passes p
]

from-body : (h : FromHead) (l : ℕ) (f : Read From) → Joins f → (p q : Place) → Grown 0 (head_tables h) p q → Reaches (from_body h l f q) (λ a. Grown (from_size a) (from_tables a) p)
unfolding from_body from_size from_tables head_tables
from-body (table_head n a) l f k p q g = reads-give _ q _ g
from-body (join_head j o) l f k p q g = reads-by _ _ _ _ k tt λ a r m. reads-by _ _ _ _ k tt λ b s m'. reads-by _ _ _ _ (adds-optional o) tt λ e t m''. reads-give _ t _ (omega arith)

from-tree : (fuel : ℕ) → Joins (from_tree fuel)
unfolding from_tree line_number
from-tree zero p u = reads-stop _ p _
from-tree (suc fuel) p u = reads-into _ _ p _ (reads-by _ _ _ _ from-head tt λ h q g. from-body h p.line (from_tree fuel) (from-tree fuel) p q g)

from_list : (fuel : ℕ) → Reads Anywhere (froms fuel) (λ p fs q. Grown (total from_size fs) (total from_tables fs) p q)
unfolding froms total
from_list zero p u = reads-give [] p _ (stays p)
from_list (suc fuel) p u = reads-test (any (same (key p)) (bytes "from" ∷ bytes "join" ∷ [])) _ _ _
    (λ t. reads-by _ _ _ _ (reads-turns _ _ from-tree) tt λ a q g. reads-by _ _ _ _ (from_list fuel) tt λ as' r h. reads-give (a ∷ as') r _ (omega arith))
    (λ t. stays p)

-- SELECT
adds-item : (l : ℕ) (a : Option Word) → Adds (λ (i : Item). size i.expr) (item_body l a)
unfolding item_body
adds-item l a p u = reads-by _ _ _ _ adds-expression tt λ e q g. reads-give _ q _ g

adds-group : (l : ℕ) (u : Unit {0}) → Adds size (group_body l u)
unfolding group_body
adds-group l u = adds-expression

adds-order : (l : ℕ) (d : Bool) → Adds (λ (k : Key). size k.expr) (order_body l d)
unfolding order_body
adds-order l d p u = reads-by _ _ _ _ adds-expression tt λ e q g. reads-give _ q _ g

-- what a body reads counts its cells, and is within the limits, in cells and by L
abbrev Keeps : {A : Type 0} → (A → ℕ) → (A → Type 0) → Read A → Type 0
Keeps c L m = Reads Anywhere m (λ p a q. (q.cells ≡ p.cells + c a) × (c a ≤ most_cells) × L a)

limited-select : Keeps select_size LimitedSelect select_body
unfolding select_body select_size items_size keys_size
limited-select p u =
    reads-by _ _ _ _ (reads-at_least_one _ _ _ (adds_run _ _ _ _ _ adds-item)) tt λ is' p₁ h₁.
    reads-by _ _ _ _ (reads-turns _ _ from_list) tt λ fs p₂ h₂.
    reads-by _ _ _ _ (adds-clause _) tt λ w p₃ h₃.
    reads-by _ _ _ _ (adds_run _ _ _ _ _ adds-group) tt λ gs p₄ h₄.
    reads-by _ _ _ _ (adds-clause _) tt λ h p₅ h₅.
    reads-by _ _ _ _ (adds_run _ _ _ _ _ adds-order) tt λ os p₆ h₆.
    reads-by _ _ _ _ (adds-clause _) tt λ o p₇ h₇.
    reads-by _ _ _ _ (adds-clause _) tt λ l p₈ h₈.
    let g = h₁.0 ⨟ h₂ ⨟ h₃ ⨟ h₄.0 ⨟ h₅ ⨟ h₆.0 ⨟ h₇ ⨟ h₈ in
    reads-give _ p₈ _ (g.cells, (few g).0, record { items = h₁.1; from = (few h₂).1; group = h₄.1; order = h₆.1 })

-- DELETE
limited-delete : (l : ℕ) (n : Word) → Keeps (λ (d : Delete). clause_size d.filter) (λ d. Unit {0}) (delete_body l n)
unfolding delete_body
limited-delete l n p u = reads-by _ _ _ _ (adds-clause _) tt λ w q h. reads-give _ q _ (omega arith)

-- INSERT
adds-name : (l : ℕ) (n : Word) → Adds (λ (m : Named). 0) (name_body l n)
unfolding name_body
adds-name l n p u = reads-give _ p _ (stays p)

-- the expressions of a row, as a list
size-list : (es : Exprs) → total size (list_of es) ≡ size_all es
unfolding total list_of size_all
size-list nil = refl
size-list (cons e es) = rw (size-list es)

adds-row : (l n : ℕ) → Adds (total size) (row_body l n)
unfolding row_body
adds-row l n p u = reads-by _ _ _ _ (adds-times expression adds-expression n) tt λ es q h. reads-give _ q _ (omega (arith, size-list es))

-- names count nothing
no_cells : {A : Type 0} (as' : List A) → total (λ a. 0) as' ≡ 0
unfolding total
no_cells [] = refl
no_cells (a ∷ as') = rw (no_cells as')

few-names : Reads Anywhere columns_here (λ p cs q. Grown 0 0 p q × Given (λ ns. length ns ≤ most_entries) cs)
unfolding columns_here Given
few-names p u = reads-test (at (bytes "columns") p) _ _ _
    (λ t. reads-next _ _ p _ _ (reads-record _ _ p (λ u q. Grown 0 0 p q) λ u e. passes p) λ u q g.
    reads-by _ _ _ _ (adds_run _ _ _ _ _ adds-name) tt λ ns r h. reads-give _ r _ (rw (no_cells ns) at (g ⨟ h.0), h.1))
    (λ t. (stays p, tt))

limited-insert : (l : ℕ) (n : Word) → Keeps (λ (d : Insert). rows_size d.rows) LimitedInsert (insert_body l n)
unfolding insert_body rows_size
limited-insert l n p u =
    reads-by _ _ _ _ few-names tt λ cs q g.
    reads-by _ _ _ _ (reads-at_least_one _ _ _ (adds_run _ _ _ _ _ adds-row)) tt λ rs r h.
    reads-give _ r _ (omega arith, omega arith, record { rows = h.1; columns = g.1 })

-- UPDATE
adds-sets : (fuel n : ℕ) (b : Option Bytes) → n ≤ most_entries → Reads Anywhere (sets fuel n b) (λ p xs q. Grown (sets_size xs) 0 p q × (n + length xs ≤ most_entries))
unfolding sets sets_size total
adds-sets zero n b k p u = reads-give [] p _ (stays p, omega arith)
adds-sets (suc fuel) n b k p u = reads-test (at (bytes "set") p) _ _ _
    (λ t. reads-into _ _ p _ (reads-within _ _ _ p _ λ h e m. reads-by _ _ _ _ (adds-optional _) tt λ a q g.
    reads-by _ _ _ _ (adds-sets fuel (suc n) (some h.0.bytes) m) tt λ xs r u. reads-give _ r _ (omega (arith, after p g))))
    (λ t. (stays p, omega arith))

limited-update : (l : ℕ) (n : Word) → Keeps (λ (d : Update). sets_size d.sets + clause_size d.filter) (λ d. length d.sets ≤ most_entries) (update_body l n)
unfolding update_body
limited-update l n p u =
    reads-by _ _ _ _ (reads-at_least_one _ _ _ (reads-turns _ _ λ k. adds-sets k 0 none (omega arith))) tt λ xs q g.
    reads-by _ _ _ _ (adds-clause _) tt λ w r h. reads-give _ r _ (omega arith)

-- CREATE
adds-column : (l : ℕ) (c : ColumnHead) → Adds (λ (n : NewColumn). option_size n.default) (column_body l c)
unfolding column_body new_column
adds-column l c p u = reads-by _ _ _ _ (adds-optional _) tt λ d q h. reads-give _ q _ h

limited-create : (l : ℕ) (n : Word) → Keeps (λ (d : Create). columns_size d.columns) (λ d. length d.columns ≤ most_table_columns) (create_body l n)
unfolding create_body columns_size
limited-create l n p u = reads-by _ _ _ _ (adds_run _ _ _ _ _ adds-column) tt λ cs q h. reads-give _ q _ (omega arith)

-- STATEMENTS
limited-body : (h : StatementHead) (l : ℕ) → Keeps statement_size Limited (statement_body h l)
unfolding statement_body statement_size
limited-body select_head l p u = reads-by _ _ _ _ limited-select tt λ s q h. reads-give _ q _ h
limited-body other_head l p u = reads-give _ p _ (omega arith)
limited-body (delete_head n) l p u = reads-by _ _ _ _ (limited-delete l n) tt λ d q h. reads-give _ q _ h
limited-body (insert_head n) l p u = reads-by _ _ _ _ (limited-insert l n) tt λ d q h. reads-give _ q _ h
limited-body (update_head n) l p u = reads-by _ _ _ _ (limited-update l n) tt λ d q h. reads-give _ q _ h
limited-body (create_head n) l p u = reads-by _ _ _ _ (limited-create l n) tt λ d q h. reads-give _ q _ h
limited-body (drop_head n y) l p u = reads-give _ p _ (omega arith)

limited-records : Keeps statement_size Limited statement_records
unfolding statement_records line_number statement_here nothing_left stop next
limited-records p u = reads-into _ _ p _
    (reads-into _ _ p _ (reads_fit (one_of statement_heads (line_here p)) p _ λ h e.
    reads-by _ _ _ _ (limited-body h p.line) tt λ s q g.
    reads-next _ _ q _ _ (reads-record _ _ q (λ u r. Grown 0 0 q r) λ u e. passes q) λ u r v.
    reads-next _ _ r (λ w t. Grown 0 0 r t) _ (reads-list r.left _ _ _ (stays r) tt) λ w t k. reads-give s t _ (omega arith, g.1, g.2)))

-- Reading a statement counts exactly its cells.
pub statement-counted : Reads Anywhere statement_records (λ p s q. q.cells ≡ p.cells + statement_size s)
statement-counted p u = weaken (statement_records p) _ _ (λ r h. h.0) (limited-records p u)

-- A statement that is read has at most 512 cells, and of each kind of record no more than the limit.
pub statement-limited : (t : Bytes) → Ensures (read_statement t) (λ s. (statement_size s ≤ most_cells) × Limited s)
unfolding read_statement start
statement-limited t = reads-value (statement_records (start statement t)) _ (weaken (statement_records (start statement t)) _ _ (λ r h. (h.1, h.2)) (limited-records (start statement t) tt))

-- the expression records of a statement's text, as reading counts them against the limit of 512
unfoldable pub expression_cells : Bytes → Answer ℕ
expression_cells t = statement_records (start statement t) >>= λ r. ok r.1.cells

-- they are the expression cells of the statement that is read
pub expression-cells : (t : Bytes) (s : Statement) → read_statement t ≡ ok s → expression_cells t ≡ ok (statement_size s)
unfolding expression_cells read_statement value_of start ◌>>=◌
expression-cells t s = go (statement_records (start statement t)) (statement-counted (start statement t) tt)
  where
    go : (m : Answer (Statement × Place)) → Ensures m (λ r. r.1.cells ≡ 0 + statement_size r.0) → value_of m ≡ ok s
        → (m >>= λ r. ok r.1.cells) ≡ ok (statement_size s)
    go (ok r) h e =
        let p : r.0 ≡ s = cc in
        let n : r.1.cells ≡ statement_size s = omega (arith, h, ap statement_size p) in
        ap (λ (k : ℕ). ok k) n
    go (refused r) h e = grind arith
