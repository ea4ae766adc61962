-- HAVING and ORDER of a SELECT, over the projected scope.
use Rattle.std.specs.Prelude.{ℕ, ◌+◌, ◌*◌, ◌≡◌, refl, List, length, take, Result, Ok, Err, Option}
use Rattle.std.proofs.Common.{arith, ap, ◌∙◌}
use Rattle.rules.specs.Lists.{Bytes}
use Rattle.rules.specs.Sizes.{clause_size, keys_size}
use Rattle.rules.specs.Scope as rules
use Rattle.rules.specs.BuildSelect.{build_having, build_order}
use Rattle.appends.specs.Select.Stages as stages
use Rattle.appends.specs.Select.Stages.{select_having, select_order, select_offset}
use Rattle.scope.specs.Scopes.{scope_of, labels_of, table_numbers}
use Rattle.scope.specs.declared.Scope.{Scope}
use Rattle.sections.specs.Layout.{section_at}
use Rattle.sections.specs.Access.{having_kind, order_kind}
use Rattle.statement.specs.Layout.{map_entries, to_key}
use Rattle.statement.specs.EntryAccess.{clause_at, clause_of}
use Rattle.statement.specs.declared.access.Clause.{Clause}
use Rattle.plan.specs.Layout.{filter_size, source_head, key_size}
use Rattle.plan.specs.Cells.{Room}
use Rattle.numbers.specs.declared.refusals.Refusal.{Refusal}
use Rattle.plan.specs.Emits.{Written}
use Rattle.plan.specs.Steps.{refused-on, Steps}
use Rattle.plan.specs.declared.nodes.Nodes.{Nodes}
use Rattle.plan.specs.declared.steps.Step.{Step}
use Rattle.build_expression.specs.Builds.{scope_at}
use Rattle.build_clauses.specs.Follows.{Follows}
use Rattle.build_statement.specs.Plans.{Plans}
use Rattle.build_select.specs.History.{AfterHaving}
use Rattle.build_select.specs.Rooms as rooms
use Rattle.build_select.specs.Held.{HeldOn, held-cells, held-numbers, held-follows, step-on, step-stop, plans-refused}
use Rattle.build_select.specs.Held.{plans-after}
use Rattle.build_select.specs.States.{clause-read, ProjectionState, OrderState}

module _ {c q : Bytes} {cells parts : List ℕ} {scope : Scope} {i : Step} {area : List ℕ} {nodes : Nodes}
    (h : ProjectionState c q cells parts scope i area nodes) {w : Option Clause}
    (hw : w ≡ clause_at parts having_kind) where
  having-is : h.select.having ≡ clause_of c q cells w
  having-is = h.read.having ∙ clause-read c q cells parts having_kind h.read.table hw

  -- the scope of lent arrays
  abbrev lent : rules.Scope
  lent = scope_at c q cells (labels_of scope) (take scope.width scope.matches) (table_numbers scope) scope.hidden

  scope-is : h.stage.scope ≡ lent
  unfolding scope_of
  scope-is = h.scoped.is

  pub having-room : Room i.cell (3 * clause_size (clause_of c q cells w)) area
  having-room = rw (held-cells h.held, having-is) at (rooms.having-room h.past {area = area} h.held.free.area_room)

  pub having-follows : Follows filter_size i.node nodes
  having-follows = held-follows h.held
      (omega (arith, held-numbers h.held, rooms.having-numbers h.past h.held.free.fits, h.held.free.later))

  abbrev HavingSteps : List ℕ → Nodes → Result Step Refusal → Type 0
  HavingSteps area₁ nodes₁ r =
      Steps (λ d. d) (λ d. build_having d (clause_of c q cells w) lent) i.cell i.node area nodes area₁ nodes₁ r

  having-step : {area₁ : List ℕ} {nodes₁ : Nodes} (r : Result Step Refusal) → HavingSteps area₁ nodes₁ r
      → Steps (λ d. d) (λ d. build_having d h.select.having h.stage.scope) i.cell i.node area nodes area₁ nodes₁ r
  having-step r s = rw (having-is, scope-is) s

  pub having-stop : {area₁ : List ℕ} {nodes₁ : Nodes} {x : Refusal} → HavingSteps area₁ nodes₁ (Err x)
      → Plans (select_having h.select h.stage) area area₁ (Err x)
  having-stop {x = x} s = plans-refused
      (refused-on (step-stop h.held (having-step (Err x) s) x refl) (stages.having-refused h.select h.stage)) s.kept

  module _ {area₁ : List ℕ} {nodes₁ : Nodes} {p : Step} (s : HavingSteps area₁ nodes₁ (Ok p)) where
    on : HeldOn h.select (λ d. d) (build_having h.stage.node h.select.having h.stage.scope) p area₁ nodes₁
    on = step-on h.held (having-step (Ok p) s) p refl

    after : AfterHaving h.catalog h.select h.stage on.node
    after = record { past = h.past; is = on.answer }

    pub order-room : Room p.cell (3 * keys_size (map_entries to_key (section_at c q cells parts order_kind))) area₁
    order-room = rw (held-cells on.held, h.read.order) at (rooms.order-room after {area = area₁} on.held.free.area_room)

    pub order-follows : Follows (source_head + key_size * length (map_entries to_key (section_at c q cells parts order_kind)))
        p.node nodes₁
    order-follows = held-follows on.held (omega (
      arith,
      held-numbers on.held,
      rooms.order-numbers after on.held.free.fits,
      ap length h.read.order,
      on.held.free.later,
    ))

    abbrev OrderSteps : List ℕ → Nodes → Result Step Refusal → Type 0
    OrderSteps area₂ nodes₂ r = Steps (λ d. d)
        (λ d. build_order d (map_entries to_key
        (section_at c q cells parts order_kind)) lent) p.cell p.node area₁ nodes₁
        area₂ nodes₂ r

    order-step : {area₂ : List ℕ} {nodes₂ : Nodes} (r : Result Step Refusal) → OrderSteps area₂ nodes₂ r
        → Steps (λ d. d) (λ d. build_order d h.select.order h.stage.scope) p.cell p.node area₁ nodes₁ area₂ nodes₂ r
    order-step r t = rw (h.read.order, scope-is) t

    having-on : select_having h.select h.stage ≡ select_order h.select h.stage on.node
    having-on = stages.having-step h.select h.stage on.node on.answer

    pub order-stop : {area₂ : List ℕ} {nodes₂ : Nodes} {x : Refusal} → OrderSteps area₂ nodes₂ (Err x)
        → Plans (select_having h.select h.stage) area area₂ (Err x)
    order-stop {x = x} t = plans-after {area' = area₁} s.kept having-on (plans-refused
        (refused-on (step-stop on.held (order-step (Err x) t) x refl) (stages.order-refused h.select h.stage on.node))
        t.kept)

    module _ {area₂ : List ℕ} {nodes₂ : Nodes} {y : Step} (t : OrderSteps area₂ nodes₂ (Ok y)) where
      pub order-state : OrderState c q cells parts scope y area₂ nodes₂
      order-state =
          let o = step-on on.held (order-step (Ok y) t) y refl in
          record {
            catalog = h.catalog;
            select = h.select;
            stage = h.stage;
            node = o.node;
            past = record { before = on.node; past = after; is = o.answer };
            read = h.read;
            scoped = h.scoped;
            held = o.held;
          }

      pub order-plans : {area₃ : List ℕ} {x : Written}
          → Plans (select_offset order-state.select order-state.stage order-state.node) area₂ area₃ x
          → Plans (select_having h.select h.stage) area area₃ x
      unfolding order-state
      order-plans p = plans-after {area' = area₂} (t.kept ∙ s.kept)
          (having-on ∙ stages.order-step h.select h.stage on.node order-state.node order-state.past.is) p
