-- The items of a SELECT over FROM's scope, stars expanded into rows behind the statement's, and WHERE.
use Rattle.std.specs.Prelude.{ℕ, ◌*◌, ◌≡◌, List, map, length, take, Result, Ok, Err, Option}
use Rattle.std.proofs.Common.{arith, sym, ap, ◌∙◌}
use Rattle.std.proofs.Math.Path.{refl}
use Rattle.rules.specs.Refusals.{Answer, ok, refused}
use Rattle.rules.specs.Lists.{Bytes}
use Rattle.rules.specs.Ast.{Item, Select}
use Rattle.rules.specs.Sizes.{clause_size}
use Rattle.rules.specs.Scope as rules
use Rattle.rules.specs.Items.{build_items}
use Rattle.rules.specs.BuildSelect.{build_where}
use Rattle.appends.specs.From.Laid.{stage_of}
use Rattle.appends.specs.Select.Stages as stages
use Rattle.appends.specs.Select.Stages.{select_items, select_where, select_groups}
use Rattle.ast.specs.Table.{table_size, tree_at}
use Rattle.scope.specs.Scopes.{scope_of, plain-scope, labels_of, table_numbers}
use Rattle.scope.specs.declared.Scope.{Scope}
use Rattle.sections.specs.Layout.{section_at}
use Rattle.sections.specs.Access.{item_kind, where_kind}
use Rattle.statement.specs.Layout.{select_of, to_item}
use Rattle.statement.specs.Access.{select_at}
use Rattle.statement.specs.EntryAccess.{clause_at, clause_of, map-length}
use Rattle.statement.specs.declared.access.Clause.{Clause}
use Rattle.plan.specs.Layout.{filter_size}
use Rattle.plan.specs.Cells.{Room}
use Rattle.numbers.specs.declared.refusals.Refusal.{Refusal}
use Rattle.plan.specs.Emits.{Written}
use Rattle.plan.specs.Steps.{RefusedWith, refused-on, Steps}
use Rattle.plan.specs.declared.nodes.Nodes.{Nodes}
use Rattle.plan.specs.declared.steps.Step.{Step}
use Rattle.build_expression.specs.Builds.{scope_at}
use Rattle.build_clauses.specs.Follows.{Follows}
use Rattle.build_statement.specs.Plans.{Plans}
use Rattle.build_projection.specs.Items.{items_at, item_of}
use Rattle.build_projection.specs.Terms.{Ready, Answers, ItemsBuilt, outcome_of}
use Rattle.build_projection.specs.declared.items.Item as stored
use Rattle.build_select.specs.Rooms as rooms
use Rattle.build_select.specs.Held.{HeldOn, held-cells, held-numbers, held-follows, step-on, step-stop}
use Rattle.build_select.specs.Held.{plans-refused, plans-after}
use Rattle.build_select.specs.States.{clause-read, read_kept, FromState, ItemsState, WhereState}

-- THE ITEMS
-- what an answer gave, by its numbers
pub record Listed (a : Answer (List Item)) (n : ℕ) : Type 0 where
  pub items : List Item
  pub is : a ≡ ok items
  pub count : n ≡ length items

listed : (a : Answer (List Item)) (n : ℕ) → ◌≡◌ {A = Result ℕ Refusal} (Ok n) (outcome_of a) → Listed a n
unfolding outcome_of
listed (ok xs) n e = record { items = xs; is = refl; count = cc }
listed (refused w) n e = grind arith

not_listed : (a : Answer (List Item)) (x : Refusal) → ◌≡◌ {A = Result ℕ Refusal} (Err x) (outcome_of a) → RefusedWith a x
unfolding outcome_of
not_listed (ok xs) x e = grind arith
not_listed (refused w) x e = record { why = w; is = refl; refusal = cc }

module _ {c q : Bytes} {cells parts : List ℕ} {scope : Scope} {i : Step} {area : List ℕ} {nodes : Nodes}
    (h : FromState c q cells parts scope i area nodes) where
  abbrev d : Select
  d = select_at c q cells h.froms parts

  ready : Ready c q cells parts (table_numbers scope) (labels_of scope)
  unfolding select_at select_of
  ready = record {
    sections = λ x e l kind o. h.stay.same x e c kind o;
    few = omega (arith, map-length to_item (section_at c q cells parts item_kind), h.past.limited.items);
    qualified = h.qualified;
  }

  answers : {cells' : List ℕ} {items' : List stored.Item} {r : Result ℕ Refusal}
      → ItemsBuilt cells cells' parts (table_numbers scope) (labels_of scope) items' r
      → Answers c q cells cells' parts items' (build_items d h.stage.node) r
  unfolding select_at select_of items_at
  answers b = b.is c q ready d h.stage.node refl refl h.labels

  pub items-stop : {cells' : List ℕ} {items' : List stored.Item} {x : Refusal}
      → ItemsBuilt cells cells' parts (table_numbers scope) (labels_of scope) items' (Err x)
      → Plans (select_items d h.stage) area area (Err x)
  items-stop {x = x} b = plans-refused
      (refused-on (not_listed _ x (answers b).answer) (stages.items_refused d h.stage)) refl

  module _ {cells' : List ℕ} {items' : List stored.Item} {w : ℕ}
      (b : ItemsBuilt cells cells' parts (table_numbers scope) (labels_of scope) items' (Ok w)) where
    -- what was listed
    those : Listed (build_items d h.stage.node) w
    those = listed _ w (answers b).answer

    abbrev items_here : List Item
    items_here = map (item_of c q cells' parts) (take w items')

    items-are : items_here ≡ those.items
    items-are = ap (λ (j : ℕ). map (item_of c q cells' parts) (take j items')) those.count
        ∙ (answers b).items those.items those.is

    listed-is : build_items d h.stage.node ≡ ok items_here
    listed-is = those.is ∙ ap ok (sym items-are)

    pub items-state : length cells' ≡ table_size → ItemsState c q cells' parts (take w items') scope i area nodes
    items-state l = record {
      catalog = h.catalog;
      select = d;
      stage = h.stage;
      past = h.past;
      is = listed-is;
      read = read_kept h.froms h.stay ((answers b).kept those.items those.is) l;
      scoped = record {
        valid = h.scoped.valid;
        hidden = h.scoped.hidden;
        is = h.scoped.is ∙ plain-scope (tree_at c q cells) c q scope h.plain
            ∙ sym (plain-scope (tree_at c q cells') c q scope h.plain);
      };
      plain = h.plain;
      within = h.within;
      held = h.held;
    }

    pub items-plans : (l : length cells' ≡ table_size) {area' : List ℕ} {x : Written}
        → Plans (select_where (items-state l).select (items-state l).stage items_here) area area' x
        → Plans (select_items d h.stage) area area' x
    unfolding items-state
    items-plans l p = plans-after {area' = area} refl (stages.items-step d h.stage items_here listed-is) p

    -- by another list that is the same
    pub items-on : {xs : List stored.Item} → xs ≡ take w items' → length cells' ≡ table_size
        → ItemsState c q cells' parts xs scope i area nodes
    items-on z l = rw z (items-state l)

    pub items-goes : {xs : List stored.Item} {area' : List ℕ} {x : Written} → xs ≡ take w items' → length cells' ≡ table_size
        → ((s : ItemsState c q cells' parts xs scope i area nodes)
        → Plans (select_where s.select s.stage (map (item_of c q cells' parts) xs)) area area' x)
        → Plans (select_items d h.stage) area area' x
    items-goes z l f = items-plans l ((rw z at f) (items-state l))

-- WHERE
module _ {c q : Bytes} {cells parts : List ℕ} {items : List stored.Item} {scope : Scope} {i : Step} {area : List ℕ} {nodes : Nodes}
    (h : ItemsState c q cells parts items scope i area nodes) {w : Option Clause}
    (hw : w ≡ clause_at parts where_kind) where
  filter-is : h.select.filter ≡ clause_of c q cells w
  filter-is = h.read.filter ∙ clause-read c q cells parts where_kind h.read.table hw

  abbrev lent : rules.Scope
  lent = scope_at c q cells (labels_of scope) (take scope.width scope.matches) (table_numbers scope) scope.hidden

  scope-is : h.stage.scope ≡ lent
  unfolding scope_of
  scope-is = h.scoped.is

  pub where-room : Room i.cell (3 * clause_size (clause_of c q cells w)) area
  where-room = rw (held-cells h.held, filter-is) at (rooms.where-room h.past {area = area} h.held.free.area_room)

  pub where-follows : Follows filter_size i.node nodes
  where-follows = held-follows h.held
      (omega (arith, held-numbers h.held, rooms.where-numbers h.past h.held.free.fits, h.held.free.later))

  abbrev WhereSteps : List ℕ → Nodes → Result Step Refusal → Type 0
  WhereSteps area₁ nodes₁ r = Steps (λ d. stage_of d lent) (λ d. build_where (stage_of d lent) (clause_of c q cells w)) i.cell i.node
      area nodes area₁ nodes₁ r

  step : {area₁ : List ℕ} {nodes₁ : Nodes} (r : Result Step Refusal) → WhereSteps area₁ nodes₁ r
      → Steps (λ d. stage_of d h.stage.scope) (λ d. build_where (stage_of d h.stage.scope) h.select.filter) i.cell i.node
      area nodes area₁ nodes₁ r
  step r s = rw (filter-is, scope-is) s

  abbrev listed_items : List Item
  listed_items = map (item_of c q cells parts) items

  pub where-stop : {area₁ : List ℕ} {nodes₁ : Nodes} {x : Refusal} → WhereSteps area₁ nodes₁ (Err x)
      → Plans (select_where h.select h.stage listed_items) area area₁ (Err x)
  where-stop {x = x} s = plans-refused (refused-on (step-stop h.held (step (Err x) s) x refl)
      (stages.where-refused h.select h.stage listed_items)) s.kept

  module _ {area₁ : List ℕ} {nodes₁ : Nodes} {p : Step} (s : WhereSteps area₁ nodes₁ (Ok p)) where
    on : HeldOn h.select (λ d. stage_of d h.stage.scope) (build_where h.stage h.select.filter) p area₁ nodes₁
    on = step-on h.held (step (Ok p) s) p refl

    pub where-state : WhereState c q cells parts items scope p area₁ nodes₁
    where-state = record {
      catalog = h.catalog;
      select = h.select;
      stage = stage_of on.node h.stage.scope;
      past = record { from = h.stage; past = h.past; items = h.is; is = on.answer };
      read = h.read;
      scoped = h.scoped;
      plain = h.plain;
      within = h.within;
      held = on.held;
    }

    pub where-plans : {area₂ : List ℕ} {x : Written}
        → Plans (select_groups where-state.select listed_items where-state.stage) area₁ area₂ x
        → Plans (select_where h.select h.stage listed_items) area area₂ x
    unfolding where-state
    where-plans i = plans-after {area' = area₁} s.kept
        (stages.where-step h.select h.stage listed_items (stage_of on.node h.stage.scope) on.answer) i
