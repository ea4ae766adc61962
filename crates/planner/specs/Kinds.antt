-- A statement that was read: what is known of it, and what is built of it by its kind.
use Rattle.std.specs.Prelude.{ℕ, ◌≤◌, ◌≡◌, Bool, true, false, List, leb, length, Err}
use denote.Enum.Bare.{sameb}
use Rattle.std.proofs.Math.Path.{refl, sym, ap}
use Rattle.std.proofs.Common.{leb-true}
use Rattle.std.proofs.lemmas.Bool.{false≢true}
use Rattle.rules.specs.Refusals.{Answer, other_statement}
use Rattle.rules.specs.Plan.{Built, Plan}
use Rattle.text.specs.declared.places.Texts.{Texts}
use Rattle.rules.specs.Limits.{least_area}
use Rattle.rules.specs.Lists.{Bytes}
use Rattle.rules.specs.Schema.{Catalog}
use Rattle.rules.specs.Ast as Ast
use Rattle.rules.specs.BuildSelect.{build_select}
use Rattle.rules.specs.BuildStatement.{build_statement}
use Rattle.claims.specs.Within.{TextsWithin}
use Rattle.schema.specs.Layout.{catalog_at}
use Rattle.statement.specs.Layout.{statement_at}
use Rattle.statement.specs.Access.{kind_number, line_at, from_rows, kind_of, select_at, statement_of, statement-kind}
use Rattle.statement.specs.Stays.{SectionsStay}
use Rattle.statement.specs.contracts.access.Kind.{the_type}
use Rattle.statement.specs.declared.access.Kind.{Kind}
use Rattle.statement.specs.declared.access.Kind.TheVariants as K
use Rattle.plan.specs.Emits.{Written}
use Rattle.plan.specs.declared.nodes.Nodes.{Nodes}
use Rattle.numbers.specs.Reasons.{named}
use Rattle.numbers.specs.declared.refusals.Reason.TheVariants as Re
use Rattle.build_statement.specs.Plans.{Ready, Plans}
use Rattle.build_statement.specs.Kinds.{Free}
use Rattle.build_statement.specs.Ends.{not-planned}
use Rattle.build_select.specs.Held.{SelectRoom, plans-after}
use Rattle.build_select.specs.Tables.{any-tables, one_table_size, one_table}
use Rattle.build_select.specs.Sources.{SelectReady}

-- the numbers stand for a catalog and a statement that were read from the texts c and q
pub record StatementReady (c q : Bytes) (tables cells froms parts : List ℕ) : Type 0 where
  pub within : TextsWithin c q (catalog_at c q tables) (statement_at c q cells froms parts)
  pub stay : K.Select ≡ kind_of (kind_number parts) → SectionsStay q cells parts

-- what the rules build of the statement that stands in the numbers, over the catalog that does
abbrev pub statement_plan : Texts → (tables cells froms parts : List ℕ) → Answer (Plan Built)
statement_plan x tables cells froms parts = build_statement (catalog_at x.catalog.now x.statement.now tables) (statement_at x.catalog.now x.statement.now cells froms parts)

-- A SELECT OVER AT MOST ONE TABLE
unfoldable pub one_table_of : Kind → ℕ → Bool
one_table_of K.Select n = leb n 1
one_table_of K.Create n = false
one_table_of K.Drop n = false
one_table_of K.Delete n = false
one_table_of K.Insert n = false
one_table_of K.Update n = false
one_table_of K.Other n = false

abbrev pub has_one_table : List ℕ → Bool
has_one_table parts = one_table_of (kind_of (kind_number parts)) (from_rows parts)

-- few rows where the kind is SELECT
pub one-table-select : (k : Kind) (n : ℕ) → sameb the_type k K.Select ≡ true → leb n 1 ≡ one_table_of k n
unfolding one_table_of
one-table-select K.Select n h = refl
one-table-select K.Create n h = absurd (false≢true h)
one-table-select K.Drop n h = absurd (false≢true h)
one-table-select K.Delete n h = absurd (false≢true h)
one-table-select K.Insert n h = absurd (false≢true h)
one-table-select K.Update n h = absurd (false≢true h)
one-table-select K.Other n h = absurd (false≢true h)

-- none where it is another
pub one-table-other : (k : Kind) (n : ℕ) → sameb the_type k K.Select ≡ false → false ≡ one_table_of k n
unfolding one_table_of
one-table-other K.Select n h = absurd (false≢true (sym h))
one-table-other K.Create n h = refl
one-table-other K.Drop n h = refl
one-table-other K.Delete n h = refl
one-table-other K.Insert n h = refl
one-table-other K.Update n h = refl
one-table-other K.Other n h = refl

pub one-table-by : (parts : List ℕ) {k : Kind} {n : ℕ} → k ≡ kind_of (kind_number parts) → n ≡ from_rows parts
    → one_table_of k n ≡ has_one_table parts
one-table-by parts e f = cc

record OneTable (parts : List ℕ) : Type 0 where
  pub select : K.Select ≡ kind_of (kind_number parts)
  pub rows : from_rows parts ≤ 1

has-one-table : (parts : List ℕ) → has_one_table parts ≡ true → OneTable parts
unfolding one_table_of
has-one-table parts e = go (kind_of (kind_number parts)) refl e
  where
    go : (k : Kind) → k ≡ kind_of (kind_number parts) → one_table_of k (from_rows parts) ≡ true → OneTable parts
    go K.Select z h = record { select = z; rows = leb-true (from_rows parts) 1 h }
    go K.Create z h = absurd (false≢true h)
    go K.Drop z h = absurd (false≢true h)
    go K.Delete z h = absurd (false≢true h)
    go K.Insert z h = absurd (false≢true h)
    go K.Update z h = absurd (false≢true h)
    go K.Other z h = absurd (false≢true h)

-- with room for a plan
pub ready : {c q : Bytes} {tables cells froms parts area : List ℕ} {nodes : Nodes} → StatementReady c q tables cells froms parts
    → Free area nodes → Ready c q tables cells froms parts area nodes
ready h f = record { within = h.within; area_room = f.area_room; nodes_room = f.nodes_room; none = f.none }

-- built as another answer is
pub plans-as : {a b : _} {area area' : List ℕ} {r : Written} → a ≡ b → Plans b area area' r → Plans a area area' r
plans-as {area = area} e p = plans-after {area' = area} refl e p

module _ (c q : Bytes) (cells froms parts : List ℕ) where
  -- SELECT
  module _ (e : K.Select ≡ kind_of (kind_number parts)) where
    select-is : statement_at c q cells froms parts ≡ Ast.select (select_at c q cells froms parts)
    unfolding statement_of
    select-is = statement-kind c q cells froms parts K.Select e

    select-ready : {tables area : List ℕ} {nodes : Nodes} → StatementReady c q tables cells froms parts
        → SelectRoom (select_at c q cells froms parts) area nodes → nodes.used ≡ 0
        → SelectReady c q tables cells froms parts area nodes
    select-ready h f z = record { within = rw select-is at h.within; stay = h.stay e; free = f; none = z }

    pub select-any : {tables area : List ℕ} {nodes : Nodes} → StatementReady c q tables cells froms parts
        → Free area nodes → SelectReady c q tables cells froms parts area nodes
    select-any h f = select-ready h (any-tables (rw select-is at h.within) f.area_room f.nodes_room) f.none

    pub select-built : (ts : Catalog) → build_statement ts (statement_at c q cells froms parts)
        ≡ build_select ts (select_at c q cells froms parts)
    unfolding build_statement
    select-built ts = ap (build_statement ts) select-is

  -- SELECT over at most one table
  module _ (e : has_one_table parts ≡ true) where
    pub one-table-ready : {tables area : List ℕ} {nodes : Nodes} → StatementReady c q tables cells froms parts
        → least_area ≤ length area → length nodes.numbers.now ≡ one_table_size → nodes.used ≡ 0
        → SelectReady c q tables cells froms parts area nodes
    one-table-ready h a n z =
        let o = has-one-table parts e in
        select-ready o.select h (one_table c q cells froms parts o.rows a n) z

    pub one-table-built : (ts : Catalog) → build_statement ts (statement_at c q cells froms parts)
        ≡ build_select ts (select_at c q cells froms parts)
    one-table-built = select-built (has-one-table parts e).select

  -- none of the six
  pub other-plans : {area : List ℕ} {l : ℕ} (ts : Catalog) → K.Other ≡ kind_of (kind_number parts) → l ≡ line_at parts
      → Plans (build_statement ts (statement_at c q cells froms parts)) area area
      (Err (record { reason = Re.OtherStatement; line = l }))
  unfolding statement_of build_statement named
  other-plans {l = l} ts e f = not-planned other_statement (line_at parts) Re.OtherStatement l refl refl f
      (ap (build_statement ts) (statement-kind c q cells froms parts K.Other e))
