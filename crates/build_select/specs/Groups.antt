-- Groups and the projection of a SELECT, behind WHERE.
use Rattle.std.specs.Prelude.{ℕ, zero, suc, ◌+◌, ◌*◌, ◌≤◌, ◌≡◌, Bool, true, false, ◌⊎◌, length, Result, Ok, Err}
use Rattle.std.proofs.Common.{arith, ◌∙◌, inl, inr}
use Rattle.std.proofs.Math.Path.{refl, sym, ap}
use Rattle.std.proofs.lemmas.Bool.{false≢true}
use mathlib.Core.List.{List, [], ◌∷◌, ◌++◌, map}
use Rattle.std.proofs.lemmas.List.{length-map}
use Rattle.rules.specs.Refusals.{Answer}
use Rattle.rules.specs.Limits.{most_cells, most_columns, most_entries}
use Rattle.rules.specs.Lists.{Bytes, is_some, is_empty}
use Rattle.rules.specs.Ast.{Expr, size, Item, Select}
use Rattle.rules.specs.Sizes.{total, items_size}
use Rattle.rules.specs.Plan.{Built, Node}
use Rattle.rules.specs.Scope as rules
use Rattle.rules.specs.Scope.{matched, add_match, add_column, add_aggregate, spawn}
use Rattle.rules.specs.Stage.{Stage}
use Rattle.rules.specs.BuildAggregate.{Retained, keep, retain, retain_groups, retain_functions, build_aggregate, aggregated, build_groups}
use Rattle.rules.specs.BuildSelect.{later_of, functions_of, build_projection}
use Rattle.claims.specs.Answers.{Ensures, past, ensured}
use Rattle.claims.specs.Count.Totals.{total-map}
use Rattle.claims.specs.Cases.{either_way, tested}
use Rattle.appends.specs.From.Laid.{stage_of}
use Rattle.appends.specs.Select.Stages as stages
use Rattle.appends.specs.Select.Stages.{select_groups, select_projection, select_having}
use Rattle.ast.specs.Table.{tree_at}
use Rattle.scope.specs.Scopes.{up_to, scope_of, scope_from, Plain}
use Rattle.scope.specs.declared.Scope.{Scope}
use Rattle.statement.specs.Layout.{select_of}
use Rattle.statement.specs.Access.{select_at}
use Rattle.plan.specs.Layout.{aggregate_head, function_size, source_head, item_size}
use Rattle.plan.specs.Cells.{Room}
use Rattle.numbers.specs.declared.refusals.Refusal.{Refusal}
use Rattle.plan.specs.Emits.{Written}
use Rattle.plan.specs.Steps.{refused-on, Steps, step-done, step-refused}
use Rattle.plan.specs.declared.nodes.Nodes.{Nodes}
use Rattle.plan.specs.declared.steps.Step.{Step}
use Rattle.stage.specs.Stages.{StageBuilt}
use Rattle.stage.specs.declared.Stage as code
use Rattle.build_groups.specs.Rows.{groups_at, functions_at, select-groups, select-functions}
use Rattle.build_groups.specs.Stages.{groups_stage, GroupsBuilt}
use Rattle.build_groups.specs.Terms.{GroupsReady}
use Rattle.build_project.specs.Names.{aliases-fit}
use Rattle.build_project.specs.Ready.{ProjectionReady}
use Rattle.build_projection.specs.Pushes as pushes
use Rattle.build_statement.specs.Plans.{Plans}
use Rattle.build_projection.specs.Items.{item_of}
use Rattle.build_projection.specs.declared.items.Item as listed
use Rattle.build_select.specs.History.{AfterGroups}
use Rattle.build_select.specs.Rooms as rooms
use Rattle.build_select.specs.Held.{HeldOn, held-cells, held-numbers, held-some, held-few, step-on, step-stop}
use Rattle.build_select.specs.Held.{plans-refused, plans-after}
use Rattle.build_select.specs.States.{Read, WhereState, ProjectionState}

-- WHAT A STAGE GAVE, as a step
module _ {c q : Bytes} {cells : List ℕ} {a : Node Built → Answer Stage} {i : Step} {area : List ℕ} {nodes : Nodes}
    {area' : List ℕ} {nodes' : Nodes} where
  pub stage-done : {x : code.Stage} → StageBuilt c q cells a i.cell i.node area nodes area' nodes' (Ok x)
      → Steps (λ d. stage_of d (scope_of (tree_at c q cells) c q x.scope)) a i.cell i.node area nodes area' nodes' (Ok x.at)
  stage-done h = step-done h.kept h.kept-nodes h.is.taken

  pub stage-refused : {w : Refusal} → StageBuilt c q cells a i.cell i.node area nodes area' nodes' (Err w) → (t : rules.Scope)
      → Steps (λ d. stage_of d t) a i.cell i.node area nodes area' nodes' (Err w)
  stage-refused h t = step-refused h.kept h.kept-nodes h.is

-- THE SELECT BY ITS ROWS
module _ {c q : Bytes} {cells parts : List ℕ} {d : Select} (r : Read c q cells parts d) (froms : List ℕ) where
  pub read-group : (select_at c q cells froms parts).group ≡ d.group
  unfolding select_at select_of
  read-group = sym r.group

  pub read-later : later_of (select_at c q cells froms parts) ≡ later_of d
  unfolding later_of select_at select_of
  read-later = rw (r.having, r.order)

  read-functions : functions_of (select_at c q cells froms parts).items (later_of (select_at c q cells froms parts))
      ≡ functions_of d.items (later_of d)
  unfolding select_at select_of
  read-functions = rw (read-later, r.items)

-- NOTHING IS HIDDEN among groups and aggregates
retain-shown : (p : rules.Scope) (es : List Expr) (s : rules.Scope) → s.hidden ≡ [] → (retain p es s).scope.hidden ≡ []
unfolding retain keep add_aggregate add_match add_column
retain-shown p [] s h = h
retain-shown p (e ∷ es) s h = either_way (λ (r : Retained). r.scope.hidden ≡ []) (is_some (matched s e)) _ _
    (retain-shown p es s h) (retain-shown p es (add_aggregate p e s) (added-shown p e s h))
  where
    added-shown : (p : rules.Scope) (e : Expr) (s : rules.Scope) → s.hidden ≡ [] → (add_aggregate p e s).hidden ≡ []
    added-shown p e s h = either_way (λ (t : rules.Scope). t.hidden ≡ []) (is_some (matched (add_column (rules.label_of p e) s) e)) _ _ h h

groups-shown : (w : Stage) (gs fs : List Expr) → w.scope.hidden ≡ []
    → Ensures (build_groups w gs fs) (λ a. a.scope.hidden ≡ [])
unfolding build_groups build_aggregate retain_functions retain_groups spawn
groups-shown w gs fs h = tested (aggregated gs fs) _ _ _
    (past _ _ _ λ xs. past _ _ _ λ ys. past _ _ _ λ u.
    retain-shown w.scope fs _ (retain-shown w.scope gs (spawn w.scope) refl)) h

up_none : (i n : ℕ) → up_to i n ≡ [] → n ≡ 0
unfolding up_to
up_none i zero h = refl
up_none i (suc n) h = absurd (let z : suc (length (up_to (suc i) n)) ≡ 0 = ap length h in omega arith)

shown-scope : (c q : Bytes) (cells : List ℕ) (x : Scope) → (scope_of (tree_at c q cells) c q x).hidden ≡ [] → x.hidden ≡ 0
unfolding scope_of scope_from
shown-scope c q cells x h = up_none _ x.hidden h

scope-shown : (c q : Bytes) (cells : List ℕ) (x : Scope) → x.hidden ≡ 0 → (scope_of (tree_at c q cells) c q x).hidden ≡ []
unfolding scope_of scope_from up_to
scope-shown c q cells x h = rw h

-- SOMETHING IS MATCHED among groups and aggregates
one_more : {A : Type 0} (xs : List A) (x : A) → is_empty (xs ++ (x ∷ [])) ≡ false
unfolding is_empty
one_more [] x = refl
one_more (y ∷ ys) x = refl

added-matched : (p : rules.Scope) (e : Expr) (s : rules.Scope) → (is_some (matched s e) ≡ true → is_empty s.aggregates ≡ false)
    → is_empty (add_aggregate p e s).aggregates ≡ false
unfolding add_aggregate add_match add_column matched
added-matched p e s h = go (is_some (matched s e)) refl
  where
    go : (b : Bool) → is_some (matched s e) ≡ b → is_empty (add_aggregate p e s).aggregates ≡ false
    go true z = rw (add_aggregate, add_match, z) (h z)
    go false z = rw (add_aggregate, add_match, z) (one_more s.aggregates _)

none-matched : (s : rules.Scope) (e : Expr) → s.aggregates ≡ [] → is_some (matched s e) ≡ false
unfolding matched rules.match_at is_some
none-matched s e h = rw h

retain-matched : (p : rules.Scope) (es : List Expr) (s : rules.Scope) → is_empty s.aggregates ≡ false
    → is_empty (retain p es s).scope.aggregates ≡ false
unfolding retain keep
retain-matched p [] s h = h
retain-matched p (e ∷ es) s h = either_way (λ (r : Retained). is_empty r.scope.aggregates ≡ false) (is_some (matched s e)) _ _
    (retain-matched p es s h) (retain-matched p es (add_aggregate p e s) (added-matched p e s (λ z. h)))

retain-first : (p : rules.Scope) (e : Expr) (es : List Expr) (s : rules.Scope) → s.aggregates ≡ []
    → is_empty (retain p (e ∷ es) s).scope.aggregates ≡ false
unfolding retain keep
retain-first p e es s h =
    let z = none-matched s e h in
    rw (retain, z) (retain-matched p es (add_aggregate p e s)
    (added-matched p e s (λ t. absurd (false≢true (sym z ∙ t)))))

groups-matched : (w : Stage) (gs fs : List Expr) → aggregated gs fs ≡ true
    → Ensures (build_groups w gs fs) (λ a. is_empty a.scope.aggregates ≡ false)
unfolding build_groups build_aggregate retain_functions retain_groups retain spawn
groups-matched w gs fs h = rw (build_groups, h)
    (past _ _ _ λ xs. past _ _ _ λ ys. past _ _ _ λ u. go gs fs h)
  where
    go : (gs fs : List Expr) → aggregated gs fs ≡ true
        → is_empty (retain w.scope fs (retain w.scope gs (spawn w.scope)).scope).scope.aggregates ≡ false
    go [] [] z = absurd (false≢true (unfold aggregated is_empty in z))
    go [] (f ∷ fs) z = retain-first w.scope f fs (spawn w.scope) refl
    go (g ∷ gs) fs z = retain-matched w.scope fs _ (retain-first w.scope g gs (spawn w.scope) refl)

-- GROUPS
module _ {c q : Bytes} {cells parts : List ℕ} {items : List listed.Item} {scope : Scope} {i : Step} {area : List ℕ} {nodes : Nodes}
    (h : WhereState c q cells parts items scope i area nodes) (froms : List ℕ) where
  abbrev groups_here : List Expr
  groups_here = (select_at c q cells froms parts).group

  abbrev functions_here : List Expr
  functions_here = functions_of (select_at c q cells froms parts).items (later_of (select_at c q cells froms parts))

  abbrev items_here : List Item
  items_here = map (item_of c q cells parts) items

  functions-are : functions_here ≡ functions_of items_here (later_of h.select)
  functions-are = read-functions h.read froms ∙ sym (rooms.functions-same h.past)

  groups-few : length groups_here ≤ most_entries
  groups-few = omega (arith, ap length (read-group h.read froms), h.past.past.limited.group)

  functions-few : length functions_here ≤ most_cells
  functions-few = omega (arith, ap length (read-functions h.read froms), rooms.functions-few h.past)

  groups-room : Room i.cell (3 * (total size groups_here + total size functions_here)) area
  groups-room = rw (read-functions h.read froms, read-group h.read froms, ← held-cells h.held)
      (rooms.groups-room h.past {area = area} h.held.free.area_room)

  groups-numbers : nodes.used + aggregate_head + length groups_here + function_size * length functions_here ≤ length nodes.numbers.now
  groups-numbers = omega (
    arith,
    ap length (read-group h.read froms),
    ap length (read-functions h.read froms),
    rooms.groups-numbers h.past h.held.free.fits,
    held-numbers h.held,
    h.held.free.later,
  )

  pub groups-ready : GroupsReady c q cells parts scope i.cell i.node area nodes
  groups-ready = record {
    valid = h.scoped.valid;
    hidden = h.scoped.hidden;
    table = h.read.table;
    few-groups = rw (← select-groups c q cells froms parts) groups-few;
    few-functions = rw (← select-functions c q cells froms parts) functions-few;
    room = rw (← select-groups c q cells froms parts, ← select-functions c q cells froms parts) groups-room;
    nodes-room = rw (← select-groups c q cells froms parts, ← select-functions c q cells froms parts) groups-numbers;
    nodes-most = h.held.free.most;
    source = held-some h.held;
    in_use = held-few h.held;
  }

  abbrev Grouped : List ℕ → Nodes → Result code.Stage Refusal → Type 0
  Grouped area₁ nodes₁ r = GroupsBuilt c q cells scope (groups_at c q cells parts) (functions_at c q cells parts) i.cell i.node
      area nodes area₁ nodes₁ r

  built : {area₁ : List ℕ} {nodes₁ : Nodes} (r : Result code.Stage Refusal) → Grouped area₁ nodes₁ r
      → StageBuilt c q cells (groups_stage c q cells scope groups_here functions_here) i.cell i.node area nodes area₁ nodes₁ r
  built r b = rw (select-functions c q cells froms parts, select-groups c q cells froms parts) b.stage

  grouped : {area₁ : List ℕ} {nodes₁ : Nodes} (r : Result code.Stage Refusal) → Grouped area₁ nodes₁ r → StageBuilt c q cells
      (λ d. build_groups (stage_of d h.stage.scope) h.select.group (functions_of items_here
      (later_of h.select))) i.cell i.node
      area nodes area₁ nodes₁ r
  grouped r b = rw (h.scoped.is, ← functions-are, ← read-group h.read froms) (built r b)

  pub groups-stop : {area₁ : List ℕ} {nodes₁ : Nodes} {w : Refusal} → Grouped area₁ nodes₁ (Err w)
      → Plans (select_groups h.select items_here h.stage) area area₁ (Err w)
  groups-stop {w = w} b = plans-refused
      (refused-on (step-stop h.held (stage-refused (grouped (Err w) b) h.stage.scope) w refl)
      (stages.groups-refused h.select items_here h.stage)) b.stage.kept

  module _ {area₁ : List ℕ} {nodes₁ : Nodes} {x : code.Stage} (b : Grouped area₁ nodes₁ (Ok x)) where
    s : StageBuilt c q cells (groups_stage c q cells scope groups_here functions_here) i.cell i.node area nodes area₁ nodes₁ (Ok x)
    s = built (Ok x) b

    same : aggregated groups_here functions_here ≡ false → x.scope ≡ scope
    same = rw (select-functions c q cells froms parts, select-groups c q cells froms parts) b.same

    on : HeldOn h.select (λ d. stage_of d (scope_of (tree_at c q cells) c q x.scope))
        (build_groups h.stage h.select.group (functions_of items_here (later_of h.select))) x.at
        area₁ nodes₁
    on = step-on h.held (stage-done (grouped (Ok x) b)) x.at refl

    abbrev a : Stage
    a = stage_of on.node (scope_of (tree_at c q cells) c q x.scope)

    after : AfterGroups h.catalog h.select items_here a
    after = record { before = h.stage; past = h.past; is = on.answer }

    grouped-shown : x.scope.hidden ≡ 0
    grouped-shown = shown-scope c q cells x.scope (ensured _ _
        (groups-shown h.stage h.select.group (functions_of items_here (later_of h.select))
        (ap (λ (t : rules.Scope). t.hidden) h.scoped.is ∙ scope-shown c q cells scope h.plain.shown)) a on.answer)

    -- nothing is matched, or something is
    grouped-matched : Plain x.scope ⊎ (is_empty (scope_of (tree_at c q cells) c q x.scope).aggregates ≡ false)
    grouped-matched = go (aggregated groups_here functions_here) refl
      where
        go : (b : Bool) → aggregated groups_here functions_here ≡ b
            → Plain x.scope ⊎ (is_empty (scope_of (tree_at c q cells) c q x.scope).aggregates ≡ false)
        go false y = inl (rw (same y) h.plain)
        go true y = inr (ensured _ _ (groups-matched h.stage h.select.group (functions_of items_here (later_of h.select))
            (sym (ap (λ (us : List Expr). aggregated us (functions_of items_here (later_of h.select)))
            (read-group h.read froms))
            ∙ sym (ap (aggregated groups_here) functions-are) ∙ y)) a on.answer)

    projection-few : length items ≤ most_columns
    projection-few = omega (arith, rooms.items-few after, length-map items (item_of c q cells parts))

    projection-room : Room x.at.cell (3 * items_size items_here + most_columns) area₁
    projection-room = rw (held-cells on.held)
        at (rooms.items-room after {area = area₁} on.held.free.area_room)

    projection-numbers : nodes₁.used + source_head + item_size * most_columns ≤ length nodes₁.numbers.now
    projection-numbers = omega (
      arith,
      rooms.items-numbers after on.held.free.fits,
      held-numbers on.held,
      on.held.free.later,
    )

    pub projection-ready : ProjectionReady c q cells parts items x.scope x.at.cell x.at.node area₁ nodes₁
    unfolding pushes.items_size items_size
    projection-ready = record {
      items-ready = record {
        valid = s.is.valid;
        shown = grouped-shown;
        matched = grouped-matched;
        few = projection-few;
        table = h.read.table;
        aliases = aliases-fit c q h.select h.past.from.node items_here h.within.short h.within.parts
            h.past.items;
      };
      later = λ gs. omega (arith, ap (total size) (read-later h.read gs), rooms.later-few after);
      room = rw (total-map (λ (i : Item). size i.expr) (item_of c q cells parts) items) at projection-room;
      space = projection-numbers;
      most = on.held.free.most;
      some-node = held-some on.held;
      few-nodes = held-few on.held;
    }

    -- THE PROJECTION
    abbrev Projected : List ℕ → Nodes → Result code.Stage Refusal → Type 0
    Projected area₂ nodes₂ r = StageBuilt c q cells
        (λ d. build_projection (stage_of d (scope_of (tree_at c q cells) c q x.scope)) items_here
        (later_of (select_at c q cells froms parts))) x.at.cell x.at.node area₁ nodes₁ area₂ nodes₂ r

    projected : {area₂ : List ℕ} {nodes₂ : Nodes} (r : Result code.Stage Refusal) → Projected area₂ nodes₂ r → StageBuilt c q cells
        (λ d. build_projection (stage_of d (scope_of (tree_at c q cells) c q x.scope)) items_here (later_of h.select))
        x.at.cell x.at.node area₁ nodes₁ area₂ nodes₂ r
    projected r t = rw (← read-later h.read froms) t

    groups-on : select_groups h.select items_here h.stage ≡ select_projection h.select items_here a
    groups-on = stages.groups-step h.select items_here h.stage a on.answer

    pub projection-stop : {area₂ : List ℕ} {nodes₂ : Nodes} {w : Refusal} → Projected area₂ nodes₂ (Err w)
        → Plans (select_groups h.select items_here h.stage) area area₂ (Err w)
    projection-stop {w = w} t = plans-after {area' = area₁} s.kept groups-on (plans-refused
        (refused-on (step-stop on.held (stage-refused (projected (Err w) t) h.stage.scope) w refl)
        (stages.projection-refused h.select items_here a)) t.kept)

    module _ {area₂ : List ℕ} {nodes₂ : Nodes} {y : code.Stage} (t : Projected area₂ nodes₂ (Ok y)) where
      on₂ : HeldOn h.select (λ d. stage_of d (scope_of (tree_at c q cells) c q y.scope))
          (build_projection a items_here (later_of h.select)) y.at area₂ nodes₂
      on₂ = step-on on.held (stage-done (projected (Ok y) t)) y.at refl

      pub projection-state : ProjectionState c q cells parts y.scope y.at area₂ nodes₂
      projection-state = record {
        catalog = h.catalog;
        select = h.select;
        stage = stage_of on₂.node (scope_of (tree_at c q cells) c q y.scope);
        past = record { items = items_here; before = a; past = after; is = on₂.answer };
        read = h.read;
        scoped = record { valid = t.is.valid; hidden = t.is.hidden; is = refl };
        held = on₂.held;
      }

      pub projection-plans : {area₃ : List ℕ} {r : Written}
          → Plans (select_having projection-state.select projection-state.stage) area₂ area₃ r
          → Plans (select_groups h.select items_here h.stage) area area₃ r
      unfolding projection-state
      projection-plans p = plans-after {area' = area₂} (t.kept ∙ s.kept)
          (groups-on ∙ stages.projection-step h.select items_here a
          (stage_of on₂.node (scope_of (tree_at c q cells) c q y.scope)) on₂.answer) p
