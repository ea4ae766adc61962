-- OFFSET, LIMIT, the last remap and the end of a SELECT's plan.
use Rattle.std.specs.Prelude.{ℕ, ◌+◌, ◌≤◌, ◌≡◌, List, [], length, Ok, Err, Result}
use Rattle.std.specs.Prelude as std
use Rattle.std.proofs.Common.{arith, ap, ◌∙◌}
use Rattle.std.proofs.Math.Path.{refl}
use Rattle.std.proofs.Math.Option.{Option, none, some}
use Rattle.rules.specs.Refusals.{Answer, ok, invalid_offset, invalid_limit}
use Rattle.rules.specs.Lists.{Bytes}
use Rattle.rules.specs.Ast.{Select}
use Rattle.rules.specs.Plan.{Built, Node, Plan}
use Rattle.rules.specs.Plan as P
use Rattle.rules.specs.Cells.{expressions, cell_count}
use Rattle.rules.specs.Scope as rules
use Rattle.rules.specs.Scope.{remap_hidden}
use Rattle.rules.specs.BuildSelect.{build_rows, build_remap}
use Rattle.appends.specs.Answers.{ok_same}
use Rattle.appends.specs.Area.{select-area, select-count}
use Rattle.appends.specs.Select.Stages as stages
use Rattle.appends.specs.Select.Stages.{select_remap, select_limit, select_offset}
use Rattle.ast.specs.Table.{tree_at}
use Rattle.scope.specs.Scopes.{scope_of}
use Rattle.scope.specs.declared.Scope.{Scope}
use Rattle.plan.specs.Layout.{most_plan_cells, nodes_size, plan_size, rows_size, source_head, select_code}
use Rattle.plan.specs.Pushed.{pushed-none}
use Rattle.plan.specs.Finished.{finished}
use Rattle.plan.specs.Exit.{pieces, select-exit}
use Rattle.numbers.specs.declared.refusals.Refusal.{Refusal}
use Rattle.plan.specs.Emits.{Written}
use Rattle.plan.specs.Steps.{refused-on, Steps}
use Rattle.plan.specs.declared.nodes.Nodes.{Nodes}
use Rattle.plan.specs.declared.steps.Step.{Step}
use Rattle.sections.specs.Access.{offset_kind, limit_kind}
use Rattle.statement.specs.EntryAccess.{clause_at, clause_of}
use Rattle.statement.specs.declared.access.Clause.{Clause}
use Rattle.build_from.specs.Merges.{scope-width}
use Rattle.build_clauses.specs.Follows.{Follows}
use Rattle.build_statement.specs.Plans.{Plans}
use Rattle.build_statement.specs.Ends.{planned}
use Rattle.build_select.specs.Rooms as rooms
use Rattle.build_select.specs.Held.{Held, HeldOn, held-cells, held-numbers, held-follows, step-on, step-stop, plans-refused}
use Rattle.build_select.specs.Held.{plans-after}
use Rattle.build_select.specs.States.{clause-read, OrderState, OffsetState, LimitState}

-- THE END: all of a plan stands
module _ {q : Select} {d : Node Built} {i : Step} {area : List ℕ} {nodes : Nodes} (h : Held q d i area nodes) where
  pub end-room : i.cell ≤ most_plan_cells
      → (plan_size ≤ length area) × (i.cell ≤ most_plan_cells) × (nodes.used ≤ nodes.used) × (nodes.used ≤ nodes_size)
      × (nodes.used ≤ length nodes.numbers.now)
  end-room l =
      let a = h.standing.stands.records.appended in
      let e = h.standing.stands.records.kept.all in (
        omega (arith, h.free.area_room),
        l,
        omega arith,
        omega (arith, a.fits, e, h.free.most),
        omega (arith, a.fits, e),
      )

  pub select-ends : {a : Answer (Plan Built)} {area' : List ℕ} → i.cell ≤ most_plan_cells → a ≡ ok (P.select d)
      → length area' ≡ length area → area' ≡ finished select_code i.cell i.node nodes.used nodes.used nodes.numbers.now area
      → Plans a area area' (Ok i.cell)
  select-ends {a} {area'} l e f z =
      let s = h.standing in
      let a = s.stands.records in
      let ps = pieces {cs = s.cells} {n = i.cell} {t = area} s.records [] h.area₀ s.kept
      (omega (arith, l, h.free.area_room)) s.stands.cells s.none a
      (pushed-none nodes (omega (arith, a.appended.fits, a.kept.all))) in
      planned (P.select d) e (select-count d s.cells s.records i.cell i.node s.lays) f
      (z ∙ select-exit s.cells s.records i.cell i.node nodes.used nodes.used nodes.numbers.now area area refl d
      (select-area d s.cells s.records i.cell i.node s.lays) ps)

-- THE LAST REMAP
-- it appends no cell
remap-cells : (d : Node Built) (s : rules.Scope) → cell_count (build_remap d s) ≡ cell_count d
unfolding build_remap
remap-cells d s = go (remap_hidden s)
  where
    go : (o : Option (List (Option ℕ))) → cell_count (elim o [ none ↦ d | some ts ↦ P.remap d ts ]) ≡ cell_count d
    go none = refl
    go (some ts) = unfold cell_count expressions in refl

module _ {scope : Scope} {i : Step} {area : List ℕ} {nodes : Nodes} (h : LimitState scope i area nodes) where
  pub end-cells : i.cell ≤ most_plan_cells
  end-cells = omega (arith, held-cells h.held, rooms.limit-cells h.past h.offset h.is)

  pub remap-follows : Follows (source_head + scope.width) i.node nodes
  remap-follows = held-follows h.held (omega (
    arith,
    held-numbers h.held,
    rooms.remap-numbers h.past h.offset h.is h.held.free.fits,
    h.held.free.later,
    scope-wide,
  ))
    where
      scope-wide : rules.width h.stage.scope ≡ scope.width
      scope-wide = ap rules.width h.scoped.is ∙ scope-width _ _ _ scope h.scoped.valid

  abbrev c : Bytes
  c = h.texts.0

  abbrev q : Bytes
  q = h.texts.1

  module _ {nodes' : Nodes} {p : Step} (s : Steps (λ d. d)
      (λ d. ok (build_remap d (scope_of (tree_at c q h.cells) c q scope))) i.cell i.node area nodes area nodes'
      (Ok p)) where
    on : HeldOn h.select (λ d. d) (ok (build_remap h.node (scope_of (tree_at c q h.cells) c q scope))) p area nodes'
    on = step-on h.held s p refl

    node-is : build_remap h.node h.stage.scope ≡ on.node
    node-is = ap (build_remap h.node) h.scoped.is ∙ ok_same on.answer

    remapped-cells : p.cell ≤ most_plan_cells
    remapped-cells = omega (
      arith,
      end-cells,
      held-cells h.held,
      held-cells on.held,
      remap-cells h.node h.stage.scope,
      ap cell_count node-is,
    )

    pub remapped-room : (plan_size ≤ length area) × (p.cell ≤ most_plan_cells) × (nodes'.used ≤ nodes'.used)
        × (nodes'.used ≤ nodes_size) × (nodes'.used ≤ length nodes'.numbers.now)
    remapped-room = end-room on.held remapped-cells

    pub remapped-plans : {area' : List ℕ} → length area' ≡ length area
        → area' ≡ finished select_code p.cell p.node nodes'.used nodes'.used nodes'.numbers.now area
        → Plans (select_remap h.select h.stage h.node) area area' (Ok p.cell)
    unfolding select_remap
    remapped-plans f z = select-ends on.held remapped-cells (ap (λ (d : Node Built). ok (P.select d)) node-is) f z

-- LIMIT
module _ {c q : Bytes} {cells parts : List ℕ} {scope : Scope} {i : Step} {area : List ℕ} {nodes : Nodes}
    (h : OffsetState c q cells parts scope i area nodes) where
  pub limit-follows : Follows rows_size i.node nodes
  limit-follows = held-follows h.held
      (omega (arith, held-numbers h.held, rooms.limit-numbers h.past h.is h.held.free.fits, h.held.free.later))

  limit-clause : {z : std.Option Clause} → z ≡ clause_at parts limit_kind → h.select.limit ≡ clause_of c q cells z
  limit-clause hz = h.read.limit ∙ clause-read c q cells parts limit_kind h.read.table hz

  abbrev LimitSteps : std.Option Clause → Nodes → Result Step Refusal → Type 0
  LimitSteps z nodes' r = Steps (λ d. d) (λ d. build_rows invalid_limit (λ i t. P.limit t i) d (clause_of c q cells z)) i.cell i.node area nodes area nodes' r

  limit-step : {z : std.Option Clause} → z ≡ clause_at parts limit_kind → {nodes' : Nodes} (r : Result Step Refusal) → LimitSteps z nodes' r
      → Steps (λ d. d) (λ d. build_rows invalid_limit (λ i t. P.limit t i) d h.select.limit) i.cell i.node area nodes area nodes' r
  limit-step hz r t = rw (limit-clause hz) t

  module _ {z : std.Option Clause} (hz : z ≡ clause_at parts limit_kind) {nodes' : Nodes} where
    pub limit-stop : {x : Refusal} → LimitSteps z nodes' (Err x) → Plans (select_limit h.select h.stage h.node) area area (Err x)
    limit-stop {x} t = plans-refused
        (refused-on (step-stop h.held (limit-step hz (Err x) t) x refl)
        (stages.limit-refused h.select h.stage h.node)) refl

    pub limit-on : {p : Step} → LimitSteps z nodes' (Ok p) → LimitState scope p area nodes'
    limit-on {p} t =
        let o = step-on h.held (limit-step hz (Ok p) t) p refl in
        record {
          texts = (c, q);
          cells = cells;
          catalog = h.catalog;
          select = h.select;
          stage = h.stage;
          ordered = h.ordered;
          before = h.node;
          node = o.node;
          past = h.past;
          offset = h.is;
          is = o.answer;
          scoped = h.scoped;
          held = o.held;
        }

    pub limit-plans : {p : Step} (t : LimitSteps z nodes' (Ok p)) {area' : List ℕ} {x : Written}
        → Plans (select_remap (limit-on t).select (limit-on t).stage (limit-on t).node) area area' x
        → Plans (select_limit h.select h.stage h.node) area area' x
    unfolding limit-on
    limit-plans t p = plans-after refl
        (stages.limit-step h.select h.stage h.node (limit-on t).node (limit-on t).is) p

-- OFFSET
module _ {c q : Bytes} {cells parts : List ℕ} {scope : Scope} {i : Step} {area : List ℕ} {nodes : Nodes}
    (h : OrderState c q cells parts scope i area nodes) where
  pub offset-follows : Follows rows_size i.node nodes
  offset-follows = held-follows h.held
      (omega (arith, held-numbers h.held, rooms.offset-numbers h.past h.held.free.fits, h.held.free.later))

  offset-clause : {z : std.Option Clause} → z ≡ clause_at parts offset_kind → h.select.offset ≡ clause_of c q cells z
  offset-clause hz = h.read.offset ∙ clause-read c q cells parts offset_kind h.read.table hz

  abbrev OffsetSteps : std.Option Clause → Nodes → Result Step Refusal → Type 0
  OffsetSteps z nodes' r = Steps (λ d. d) (λ d. build_rows invalid_offset (λ i t. P.offset t i) d (clause_of c q cells z)) i.cell i.node area nodes area nodes' r

  offset_step : {z : std.Option Clause} → z ≡ clause_at parts offset_kind → {nodes' : Nodes} (r : Result Step Refusal) → OffsetSteps z nodes' r
      → Steps (λ d. d) (λ d. build_rows invalid_offset (λ i t. P.offset t i) d h.select.offset) i.cell i.node area nodes area nodes' r
  offset_step hz r t = rw (offset-clause hz) t

  module _ {z : std.Option Clause} (hz : z ≡ clause_at parts offset_kind) {nodes' : Nodes} where
    pub offset-stop : {x : Refusal} → OffsetSteps z nodes' (Err x) → Plans (select_offset h.select h.stage h.node) area area (Err x)
    offset-stop {x} t = plans-refused
        (refused-on (step-stop h.held (offset_step hz (Err x) t) x refl)
        (stages.offset-refused h.select h.stage h.node)) refl

    pub offset-on : {p : Step} → OffsetSteps z nodes' (Ok p) → OffsetState c q cells parts scope p area nodes'
    offset-on {p} t =
        let o = step-on h.held (offset_step hz (Ok p) t) p refl in
        record {
          catalog = h.catalog;
          select = h.select;
          stage = h.stage;
          ordered = h.node;
          node = o.node;
          past = h.past;
          is = o.answer;
          read = h.read;
          scoped = h.scoped;
          held = o.held;
        }

    pub offset-plans : {p : Step} (t : OffsetSteps z nodes' (Ok p)) {area' : List ℕ} {x : Written}
        → Plans (select_limit (offset-on t).select (offset-on t).stage (offset-on t).node) area area' x
        → Plans (select_offset h.select h.stage h.node) area area' x
    unfolding offset-on
    offset-plans t p = plans-after refl
        (stages.offset_step h.select h.stage h.node (offset-on t).node (offset-on t).is) p
