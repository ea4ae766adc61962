-- Room for the next clause of a SELECT, from how far it was built: three cells for each of its expression cells, and the
-- numbers of its record.
use Rattle.std.specs.Prelude.{ℕ, ◌+◌, ◌*◌, ◌≤◌, ◌≡◌}
use native.Mathlib.Omega.{arith}
use Rattle.std.proofs.Math.Path.{refl, ap}
use Rattle.std.proofs.Common.{◌∙◌}
use mathlib.Core.List.{List, [], ◌∷◌}
use Rattle.std.proofs.Math.Option.{Option, none, some}
use Rattle.std.proofs.Math.ListN.{length}
use Rattle.rules.specs.Refusals.{Reason, ok, invalid_offset, invalid_limit}
use Rattle.rules.specs.Limits.{most_cells, most_columns, least_area}
use Rattle.rules.specs.Schema.{Catalog}
use Rattle.rules.specs.Ast.{size, Item, Clause, Select}
use Rattle.rules.specs.Plan.{Built, Node, labels}
use Rattle.rules.specs.Plan as P
use Rattle.rules.specs.Cells.{expressions, cell_count}
use Rattle.rules.specs.Scope.{Scope, spawn, width}
use Rattle.rules.specs.BuildExpression.{clause_expr, constant}
use Rattle.rules.specs.Stage.{Stage}
use Rattle.rules.specs.BuildAggregate.{retain_groups, retain_functions, build_groups}
use Rattle.rules.specs.BuildFrom.{build_from_clause}
use Rattle.rules.specs.Items.{build_items}
use Rattle.rules.specs.BuildSelect.{build_where, later_of, functions_of, natural, build_rows}
use Rattle.rules.specs.Sizes.{total, from_size, clause_size, items_size, keys_size, select_size}
use Rattle.rules.specs.Count.{argument_cost}
use Rattle.claims.specs.Answers.{Ensures, past, ensured}
use Rattle.claims.specs.Count.Totals.{total-most}
use Rattle.claims.specs.Count.Arguments.{arguments_cost, arguments-most}
use Rattle.claims.specs.Count.Stars.{expanded-items}
use Rattle.claims.specs.Count.Uses.{items_arguments, retain-most, functions-total}
use Rattle.claims.specs.Room.Nodes.{most_later_numbers, node_room}
use Rattle.claims.specs.Room.From.{FromFits}
use Rattle.claims.specs.Room.Select.{from_at_lem, where-at}
use Rattle.appends.specs.Scopes.Stars.{stars-functions}
use Rattle.appends.specs.Room.Written.{written}
use Rattle.appends.specs.Room.Select.{exprs-three}
use Rattle.appends.specs.Room.From.{option-three, from-cells}
use Rattle.appends.specs.Room.Stages.{groups_written, where-cells, groups-cells}
use Rattle.appends.specs.Room.Clauses.{room-where, room-groups, room-having, room-order, room_whole}
use Rattle.appends.specs.Room.Records.{functions-length, numbers-where, numbers-items, numbers-having, numbers-order}
use Rattle.appends.specs.Room.Records.{numbers-offset, numbers-limit, numbers-remap}
use Rattle.plan.specs.Layout.{most_plan_cells, aggregate_head, function_size, filter_size, source_head, item_size, key_size, rows_size}
use Rattle.plan.specs.Cells.{Room}
use Rattle.build_select.specs.Sizes.{later-sizes, functions-sizes, expanded-sizes, expanded-none}
use Rattle.build_select.specs.History.{AfterFrom, AfterWhere, AfterGroups, AfterProjection, AfterHaving, AfterOrder}

-- the cells that the least area has room for
abbrev area_cells : ℕ
area_cells = 4094

-- OFFSET and LIMIT append no cell
rows-cells : (r : Reason) (f : ℕ → Node Built → Node Built) → ((k : ℕ) (n : Node Built) → cell_count (f k n) ≡ cell_count n)
    → (n : Node Built) (c : Option Clause) → Ensures (build_rows r f n c) (λ m. cell_count m ≡ cell_count n)
unfolding build_rows
rows-cells r f h n none = refl
rows-cells r f h n (some c) = past (constant c.expr) _ _ λ v. past (natural r c.line v) _ _ λ k. h k n

-- behind the cells of a plan there is room for three more for each expression cell of a statement
clause-room : {n : ℕ} {area : List ℕ} (s : ℕ) → n ≤ most_plan_cells → s ≤ most_cells → least_area ≤ length area
    → Room n (3 * s) area
clause-room s h g l = record { counted = omega arith; held = omega arith }

module _ {c : Catalog} {q : Select} where
  -- WHERE
  module _ {f : Stage} (h : AfterFrom c q f) where
    filter-few : clause_size q.filter ≤ most_cells
    unfolding select_size
    filter-few = omega (arith, h.few)

    pub where-room : {area : List ℕ} → least_area ≤ length area → Room (cell_count f.node) (3 * clause_size q.filter) area
    where-room l = clause-room (clause_size q.filter) (omega (arith, room-where c q h.few f h.is)) filter-few l

    pub where-numbers : {most : ℕ} → FromFits q.from most → node_room f.node + filter_size ≤ most + most_later_numbers
    where-numbers fits = numbers-where c q h.few h.limited fits f h.is

  -- GROUPS
  module _ {is' : List Item} {w : Stage} (h : AfterWhere c q is' w) where
    abbrev f : Stage
    f = h.from

    abbrev some-cells : select_size q ≤ most_cells
    some-cells = h.past.few

    -- the aggregates of the items as they are given
    pub functions-same : functions_of is' (later_of q) ≡ functions_of q.items (later_of q)
    functions-same =
        let e = ensured (build_items q f.node) _ (expanded-items q f.node) is' h.items in
        ap (λ (us : List Item). functions_of us (later_of q)) e.0 ∙ stars-functions q (labels f.node) (later_of q)

    groups-few : total size q.group + total size (functions_of q.items (later_of q)) ≤ most_cells
    unfolding select_size
    groups-few = omega (arith, some-cells, functions-sizes q, later-sizes q)

    pub groups-room : {area : List ℕ} → least_area ≤ length area
        → Room (cell_count w.node) (3 * (total size q.group + total size (functions_of q.items (later_of q)))) area
    groups-room l = clause-room _
        (omega (arith, room-groups c q some-cells f h.past.is is' h.items w h.is)) groups-few l

    pub functions-few : length (functions_of q.items (later_of q)) ≤ most_cells
    functions-few = omega (
      arith,
      some-cells,
      ap length functions-same,
      functions-length q f.node is' h.items,
    )

    pub groups-numbers : {most : ℕ} → FromFits q.from most → node_room w.node + aggregate_head + length q.group
        + function_size * length (functions_of q.items (later_of q)) ≤ most + most_later_numbers
    groups-numbers fits =
        let r = ensured (build_from_clause c q.from) _ (from_at_lem c q.from fits) f h.past.is in
        let s = ensured (build_where f q.filter) _ (where-at f r q.filter) w h.is in
        omega (arith, s.nodes, h.past.limited.group, functions-few)

    -- the cells so far
    cells-where : cell_count w.node ≤ 3 * total from_size q.from + 3 * clause_size q.filter
    unfolding clause_size
    cells-where = omega (
      arith,
      ensured (build_from_clause c q.from) _ (from-cells c q.from) f h.past.is,
      (ensured (build_where f q.filter) _ (where-cells f q.filter) w h.is).0,
      option-three f.scope (clause_expr q.filter),
    )

    -- the aggregates of an item cost three cells less than three for each of its own
    items-arguments : (s : Scope) (is'' : List Item) → items_arguments s is'' + 3 * length is'' ≤ 3 * items_size is''
    unfolding items_size total
    items-arguments s [] = omega arith
    items-arguments s (i ∷ is'') = omega (arith, arguments-most s i.expr, items-arguments s is'')

    arguments-three : (s : Scope) → total (argument_cost s) (functions_of q.items (later_of q)) + 3 * length q.items
        ≤ 3 * items_size q.items + 3 * total size (later_of q)
    arguments-three s = omega (
      arith,
      functions-total s q.items (later_of q),
      items-arguments s q.items,
      total-most (arguments_cost s) size (λ e. omega (arith, arguments-most s e)) (later_of q),
    )

    written-three : (s : Scope) → groups_written s q.group (functions_of is' (later_of q)) + 3 * length q.items
        ≤ 3 * total size q.group + 3 * items_size q.items + 3 * total size (later_of q)
    unfolding groups_written retain_groups retain_functions
    written-three s = omega (
      arith,
      retain-most (written s) s q.group (spawn s),
      retain-most (argument_cost s) s (functions_of is' (later_of q)) (retain_groups s q.group).scope,
      exprs-three s q.group,
      ap (total (argument_cost s)) functions-same,
      arguments-three s,
    )

  -- ITEMS
  module _ {is' : List Item} {a : Stage} (h : AfterGroups c q is' a) where
    abbrev w : Stage
    w = h.before

    cells-groups : cell_count a.node + 3 * length q.items ≤ 3 * most_cells
    unfolding select_size
    cells-groups = omega (
      arith,
      h.past.past.few,
      cells-where h.past,
      written-three h.past w.scope,
      later-sizes q,
      ensured (build_groups w q.group (functions_of is' (later_of q))) _
          (groups-cells w q.group (functions_of is' (later_of q))) a h.is,
    )

    pub items-few : length is' ≤ most_columns
    items-few = (ensured (build_items q h.past.from.node) _ (expanded-items q h.past.from.node) is' h.past.items).1

    -- each starred column is one more
    items-sizes : items_size is' + length q.items ≤ items_size q.items + length is'
    items-sizes =
        let e = ensured (build_items q h.past.from.node) _ (expanded-items q h.past.from.node) is' h.past.items in
        rw (← e.0) at (expanded-sizes q (labels h.past.from.node))

    items-none : q.items ≡ [] → items_size is' ≡ 0
    items-none z =
        let e = ensured (build_items q h.past.from.node) _ (expanded-items q h.past.from.node) is' h.past.items in
        rw (← e.0) at (expanded-none q (labels h.past.from.node) z)

    items-most : cell_count a.node + (3 * items_size is' + most_columns) ≤ area_cells
    unfolding select_size
    items-most = go q.items refl
      where
        go : (us : List Item) → q.items ≡ us → cell_count a.node + (3 * items_size is' + most_columns) ≤ area_cells
        go [] z = omega (arith, cells-groups, items-none z)
        go (u ∷ us) z =
            let l : 1 ≤ length q.items = rw z (omega arith) in
            omega (arith, h.past.past.few, cells-groups, items-few, items-sizes, l)

    pub items-room : {area : List ℕ} → least_area ≤ length area
        → Room (cell_count a.node) (3 * items_size is' + most_columns) area
    items-room l = record { counted = omega (arith, items-most); held = omega (arith, items-most, l) }

    pub later-few : total size (later_of q) ≤ most_cells
    unfolding select_size
    later-few = omega (arith, h.past.past.few, later-sizes q)

    pub items-numbers : {most : ℕ} → FromFits q.from most
        → node_room a.node + source_head + item_size * most_columns ≤ most + most_later_numbers
    items-numbers fits = omega (
      arith,
      numbers-items c q h.past.past.few h.past.past.limited fits h.past.from
          h.past.past.is is' h.past.items w h.past.is a h.is,
    )

  -- HAVING
  module _ {p : Stage} (h : AfterProjection c q p) where
    abbrev g : AfterGroups c q h.items h.before
    g = h.past

    pub having-room : {area : List ℕ} → least_area ≤ length area
        → Room (cell_count p.node) (3 * clause_size q.having) area
    unfolding select_size
    having-room l = clause-room (clause_size q.having)
        (omega (
          arith,
          room-having c q g.past.past.few g.past.from g.past.past.is h.items g.past.items
              g.before g.past.is h.before g.is p h.is,
        ))
        (omega (arith, g.past.past.few)) l

    pub having-numbers : {most : ℕ} → FromFits q.from most → node_room p.node + filter_size ≤ most + most_later_numbers
    having-numbers fits = numbers-having c q g.past.past.few g.past.past.limited fits g.past.from g.past.past.is
        h.items g.past.items g.before g.past.is h.before g.is p h.is

  -- ORDER
  module _ {p : Stage} {d : Node Built} (h : AfterHaving c q p d) where
    abbrev e : AfterProjection c q p
    e = h.past

    pub order-room : {area : List ℕ} → least_area ≤ length area → Room (cell_count d) (3 * keys_size q.order) area
    unfolding select_size
    order-room l = clause-room (keys_size q.order)
        (omega (
          arith,
          room-order c q e.past.past.past.few e.past.past.from e.past.past.past.is e.items
              e.past.past.items e.past.before e.past.past.is e.before e.past.is p e.is d h.is,
        ))
        (omega (arith, e.past.past.past.few)) l

    pub order-numbers : {most : ℕ} → FromFits q.from most
        → node_room d + source_head + key_size * length q.order ≤ most + most_later_numbers
    order-numbers fits = omega (
      arith,
      numbers-order c q e.past.past.past.few e.past.past.past.limited fits
          e.past.past.from e.past.past.past.is e.items e.past.past.items e.past.before
          e.past.past.is e.before e.past.is p e.is d h.is,
    )

  -- OFFSET, LIMIT, the last remap
  module _ {p : Stage} {o : Node Built} (h : AfterOrder c q p o) where
    abbrev having : AfterHaving c q p h.before
    having = h.past

    abbrev at : AfterProjection c q p
    at = h.past.past

    pub whole_cells : cell_count o ≤ most_plan_cells
    whole_cells = room_whole c q at.past.past.past.few at.past.past.from at.past.past.past.is at.items
        at.past.past.items at.past.before at.past.past.is at.before at.past.is p at.is h.before
        having.is o h.is

    pub offset-numbers : {most : ℕ} → FromFits q.from most → node_room o + rows_size ≤ most + most_later_numbers
    offset-numbers fits = numbers-offset c q at.past.past.past.few at.past.past.past.limited fits at.past.past.from
        at.past.past.past.is at.items at.past.past.items at.past.before at.past.past.is at.before
        at.past.is p at.is h.before having.is o h.is

    module _ {n : Node Built} (i : build_rows invalid_offset (λ k t. P.offset t k) o q.offset ≡ ok n) where
      pub offset-cells : cell_count n ≡ cell_count o
      offset-cells = ensured (build_rows invalid_offset (λ k t. P.offset t k) o q.offset) _
          (rows-cells invalid_offset (λ k t. P.offset t k)
          (λ k t. unfold cell_count expressions in refl) o q.offset) n i

      pub limit-numbers : {most : ℕ} → FromFits q.from most → node_room n + rows_size ≤ most + most_later_numbers
      limit-numbers fits = numbers-limit c q at.past.past.past.few at.past.past.past.limited fits at.past.past.from
          at.past.past.past.is at.items at.past.past.items at.past.before at.past.past.is
          at.before at.past.is p at.is h.before having.is o h.is n i

      module _ {m : Node Built} (j : build_rows invalid_limit (λ k t. P.limit t k) n q.limit ≡ ok m) where
        pub limit-cells : cell_count m ≤ most_plan_cells
        limit-cells = omega (
          arith,
          whole_cells,
          offset-cells,
          ensured (build_rows invalid_limit (λ k t. P.limit t k) n q.limit) _
              (rows-cells invalid_limit (λ k t. P.limit t k)
              (λ k t. unfold cell_count expressions in refl) n q.limit) m j,
        )

        pub remap-numbers : {most : ℕ} → FromFits q.from most
            → node_room m + source_head + width p.scope ≤ most + most_later_numbers
        remap-numbers fits = omega (
          arith,
          numbers-remap c q at.past.past.past.few at.past.past.past.limited fits
              at.past.past.from at.past.past.past.is at.items at.past.past.items at.past.before
              at.past.past.is at.before at.past.is p at.is h.before having.is o h.is n i m j,
        )
