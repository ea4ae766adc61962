-- Each kind of statement by the numbers it was read to, and what is known of it and of the room for its plan.
use Rattle.std.specs.Prelude.{ℕ, ◌≤◌, ◌≡◌, List, length}
use Rattle.std.proofs.Common.{arith}
use Rattle.std.proofs.Math.Path.{ap}
use Rattle.rules.specs.Limits.{least_area}
use Rattle.rules.specs.Lists.{Bytes}
use Rattle.rules.specs.Lines.{Word}
use Rattle.rules.specs.Places.{word_at}
use Rattle.rules.specs.Refusals.{ok}
use Rattle.rules.specs.Schema.{Catalog}
use Rattle.rules.specs.Ast.{Delete, Insert, Update, Statement}
use Rattle.rules.specs.Ast as Ast
use Rattle.rules.specs.Plan as P
use Rattle.rules.specs.BuildStatement.{build_delete, build_insert, build_update, build_statement}
use Rattle.claims.specs.Within.{TextsWithin}
use Rattle.numbers.specs.Values.{is_one}
use Rattle.schema.specs.Layout.{catalog_at}
use Rattle.sections.specs.Layout.{section_at}
use Rattle.sections.specs.Access.{where_kind, columns_kind, name_kind, row_kind, set_kind}
use Rattle.statement.specs.Layout.{delete_of, insert_of, update_of, statement_at}
use Rattle.statement.specs.Access.{kind_number, line_at, name_address, name_length, drop_flag, kind_of, statement_of, statement-kind}
use Rattle.statement.specs.declared.access.Kind.TheVariants as K
use Rattle.plan.specs.Layout.{nodes_size}
use Rattle.plan.specs.declared.nodes.Nodes.{Nodes}
use Rattle.build_statement.specs.Plans.{Ready}

-- there is room for a plan, and none of it is in use
pub record Free (area : List ℕ) (nodes : Nodes) : Type 0 where
  pub area_room : least_area ≤ length area
  pub nodes_room : length nodes.numbers.now ≡ nodes_size
  pub none : nodes.used ≡ 0

-- and there still is where the area's length is kept
pub free-kept : {area area' : List ℕ} {nodes : Nodes} → Free area nodes → length area' ≡ length area → Free area' nodes
free-kept f e = record { area_room = omega (arith, f.area_room, e); nodes_room = f.nodes_room; none = f.none }

-- and the catalog's numbers and the statement s were read from the texts c and q
pub record ReadyFor (c q : Bytes) (tables : List ℕ) (s : Statement) (area : List ℕ) (nodes : Nodes) : Type 0 where
  pub within : TextsWithin c q (catalog_at c q tables) s
  pub free : Free area nodes

-- the name of the statement's table
abbrev pub name_of : Bytes → Bytes → List ℕ → Word
name_of c q parts = word_at c q (name_address parts) (name_length parts)

-- the statements that the numbers stand for
abbrev pub delete_at : Bytes → Bytes → List ℕ → List ℕ → Delete
delete_at c q cells parts = delete_of (line_at parts) (name_of c q parts) (section_at c q cells parts where_kind)

abbrev pub insert_at : Bytes → Bytes → List ℕ → List ℕ → Insert
insert_at c q cells parts = insert_of (line_at parts) (name_of c q parts) (section_at c q cells parts columns_kind)
    (section_at c q cells parts name_kind) (section_at c q cells parts row_kind)

abbrev pub update_at : Bytes → Bytes → List ℕ → List ℕ → Update
update_at c q cells parts =
    update_of (line_at parts) (name_of c q parts) (section_at c q cells parts set_kind) (section_at c q cells parts where_kind)

-- FROM WHAT WAS READ
pub ready-free : {c q : Bytes} {tables cells froms parts area : List ℕ} {nodes : Nodes}
    → Ready c q tables cells froms parts area nodes → Free area nodes
ready-free h = record { area_room = h.area_room; nodes_room = h.nodes_room; none = h.none }

ready_for : {c q : Bytes} {tables cells froms parts area : List ℕ} {nodes : Nodes} (s : Statement)
    → Ready c q tables cells froms parts area nodes → statement_at c q cells froms parts ≡ s
    → ReadyFor c q tables s area nodes
ready_for s h e = record { within = rw e at h.within; free = ready-free h }

-- each statement by its kind, what is known of it, and what is built of it
module _ (c q : Bytes) (cells froms parts : List ℕ) where
  pub drop-built : (ts : Catalog) → K.Drop ≡ kind_of (kind_number parts)
      → build_statement ts (statement_at c q cells froms parts) ≡ ok (P.drop (name_of c q parts) (is_one (drop_flag parts)))
  unfolding statement_of build_statement
  drop-built ts e = ap (build_statement ts) (statement-kind c q cells froms parts K.Drop e)

  module _ (e : K.Delete ≡ kind_of (kind_number parts)) where
    delete-is : statement_at c q cells froms parts ≡ Ast.delete (delete_at c q cells parts)
    unfolding statement_of
    delete-is = statement-kind c q cells froms parts K.Delete e

    pub delete-ready : {tables area : List ℕ} {nodes : Nodes} → Ready c q tables cells froms parts area nodes
        → ReadyFor c q tables (Ast.delete (delete_at c q cells parts)) area nodes
    delete-ready h = ready_for _ h delete-is

    pub delete-built : (ts : Catalog)
        → build_statement ts (statement_at c q cells froms parts) ≡ build_delete ts (delete_at c q cells parts)
    unfolding build_statement
    delete-built ts = ap (build_statement ts) delete-is

  module _ (e : K.Insert ≡ kind_of (kind_number parts)) where
    insert-is : statement_at c q cells froms parts ≡ Ast.insert (insert_at c q cells parts)
    unfolding statement_of
    insert-is = statement-kind c q cells froms parts K.Insert e

    pub insert-ready : {tables area : List ℕ} {nodes : Nodes} → Ready c q tables cells froms parts area nodes
        → ReadyFor c q tables (Ast.insert (insert_at c q cells parts)) area nodes
    insert-ready h = ready_for _ h insert-is

    pub insert-built : (ts : Catalog)
        → build_statement ts (statement_at c q cells froms parts) ≡ build_insert ts (insert_at c q cells parts)
    unfolding build_statement
    insert-built ts = ap (build_statement ts) insert-is

  module _ (e : K.Update ≡ kind_of (kind_number parts)) where
    update-is : statement_at c q cells froms parts ≡ Ast.update (update_at c q cells parts)
    unfolding statement_of
    update-is = statement-kind c q cells froms parts K.Update e

    pub update-ready : {tables area : List ℕ} {nodes : Nodes} → Ready c q tables cells froms parts area nodes
        → ReadyFor c q tables (Ast.update (update_at c q cells parts)) area nodes
    update-ready h = ready_for _ h update-is

    pub update-built : (ts : Catalog)
        → build_statement ts (statement_at c q cells froms parts) ≡ build_update ts (update_at c q cells parts)
    unfolding build_statement
    update-built ts = ap (build_statement ts) update-is
