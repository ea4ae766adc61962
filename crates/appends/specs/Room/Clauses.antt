-- Room for the cells of a SELECT, clause by clause: those of the clauses before, and all that the next one may append,
-- are within the most cells of a plan, whether or not that clause is accepted.
use Rattle.std.specs.Prelude.{ℕ, ◌+◌, ◌*◌, ◌≤◌, ◌≡◌, List, length}
use native.Mathlib.Omega.{arith}
use Rattle.std.proofs.Common.{ap}
use Rattle.std.proofs.Math.Option.{Option}
use Rattle.rules.specs.Refusals.{ok}
use Rattle.rules.specs.Limits.{most_cells, most_columns}
use Rattle.rules.specs.Lists.{given}
use Rattle.rules.specs.Schema.{Catalog}
use Rattle.rules.specs.Ast.{Expr, size, Item, Key, Select}
use Rattle.rules.specs.Plan.{Built, Node, labels}
use Rattle.rules.specs.Cells.{cell_count}
use Rattle.rules.specs.Scope.{Scope, spawn}
use Rattle.rules.specs.BuildExpression.{clause_expr}
use Rattle.rules.specs.Stage.{Stage}
use Rattle.rules.specs.BuildAggregate.{retain_groups, retain_functions, build_groups}
use Rattle.rules.specs.BuildFrom.{build_from_clause}
use Rattle.rules.specs.Items.{expanded_items, build_items}
use Rattle.rules.specs.BuildSelect.{build_where, later_of, functions_of, build_projection, build_having, build_order}
use Rattle.rules.specs.Sizes.{total, option_size, clause_size, from_size, items_size, keys_size, select_size}
use Rattle.rules.specs.Count.{argument_cost}
use Rattle.claims.specs.Answers.{ensured, all-every}
use Rattle.claims.specs.Count.Totals.{all_most}
use Rattle.claims.specs.Count.Arguments.{arguments_cost}
use Rattle.claims.specs.Count.Hidden.{hidden-most}
use Rattle.claims.specs.Count.Stars.{starred-most, expanded-items}
use Rattle.claims.specs.Count.Uses.{items_arguments, retain-most, later-total, given-size, functions-total}
use Rattle.claims.specs.Count.Items.{items-bound}
use Rattle.claims.specs.Room.Nodes.{most_plan_cells}
use Rattle.appends.specs.Room.Written.{written, written-most}
use Rattle.appends.specs.Room.Select.{exprs-three, starred-written}
use Rattle.appends.specs.Room.From.{option-three, from-cells}
use Rattle.appends.specs.Room.Stages.{groups_written, items_written, keys_written, where-cells, groups-cells}
use Rattle.appends.specs.Room.Stages.{projection-cells, having-cells, order-cells}

-- WHAT A CLAUSE APPENDS, AT MOST
groups-three : (s : Scope) (gs fs : List Expr)
    → groups_written s gs fs ≤ 3 * total size gs + total (argument_cost s) fs
unfolding groups_written retain_groups retain_functions
groups-three s gs fs = omega (
  arith,
  retain-most (written s) s gs (spawn s),
  retain-most (argument_cost s) s fs (retain_groups s gs).scope,
  exprs-three s gs,
)

-- items over one scope, the arguments of their aggregates over another
items-three : (q : Select) (n : Node Built) (is' : List Item) (g s : Scope) → build_items q n ≡ ok is'
    → items_written g is' (later_of q) + items_arguments s is' ≤ 3 * items_size q.items + most_columns + total size (later_of q)
unfolding items_written
items-three q n is' g s e =
    let h = ensured (build_items q n) _ (expanded-items q n) is' e in
    omega (
      arith,
      h.1,
      ap length h.0,
      starred-most q (labels n),
      rw (← h.0) at (items-bound (written g) (starred-written g) s q (labels n)
          (all-every _ (λ i. written-most g s i.expr) (expanded_items q (labels n)))),
      hidden-most g is' (later_of q),
    )

-- HAVING and ORDER over one scope, the arguments of their aggregates over another
having-three : (p s : Scope) (o : Option Expr)
    → total (written p) (given o) + total (arguments_cost s) (given o) ≤ 3 * option_size o
having-three p s o = omega (
  arith,
  given-size o,
  all_most (written p) (arguments_cost s) size (given o) (all-every _ (λ e. written-most p s e) (given o)),
)

order-three : (p s : Scope) (ks : List Key)
    → keys_written p ks + total (λ (k : Key). arguments_cost s k.expr) ks ≤ 3 * keys_size ks
unfolding keys_written keys_size
order-three p s ks = all_most (λ (k : Key). written p k.expr) (λ (k : Key). arguments_cost s k.expr)
    (λ (k : Key). size k.expr) ks (all-every _ (λ k. written-most p s k.expr) ks)

-- SELECT
module _ (c : Catalog) (q : Select) (few : select_size q ≤ most_cells) where
  -- what the limit of 512 counts
  sizes : items_size q.items + total from_size q.from + option_size (clause_expr q.filter) + total size q.group
      + option_size (clause_expr q.having) + keys_size q.order ≤ most_cells
  unfolding select_size clause_size
  sizes = omega (arith, few)

  -- the cells of HAVING and ORDER
  later-sizes : total size (later_of q) ≡ option_size (clause_expr q.having) + keys_size q.order
  unfolding keys_size
  later-sizes = omega (arith, later-total size q, given-size (clause_expr q.having))

  pub room-from : 3 * total from_size q.from ≤ most_plan_cells
  room-from = omega (arith, sizes)

  module _ (f : Stage) (ef : build_from_clause c q.from ≡ ok f) where
    cells-from : cell_count f.node ≤ 3 * total from_size q.from
    cells-from = ensured (build_from_clause c q.from) _ (from-cells c q.from) f ef

    pub room-where : cell_count f.node + total (written f.scope) (given (clause_expr q.filter)) ≤ most_plan_cells
    room-where = omega (arith, sizes, cells-from, option-three f.scope (clause_expr q.filter))

    module _ (is' : List Item) (ei : build_items q f.node ≡ ok is') (w : Stage)
        (ew : build_where f q.filter ≡ ok w) where
      abbrev before : ℕ
      before = 3 * total from_size q.from + 3 * option_size (clause_expr q.filter)

      cells-where : cell_count w.node ≤ before
      cells-where = omega (
        arith,
        cells-from,
        (ensured (build_where f q.filter) _ (where-cells f q.filter) w ew).0,
        option-three f.scope (clause_expr q.filter),
      )

      -- the arguments of all aggregates, over the scope of FROM
      arguments : ℕ
      arguments = items_arguments w.scope is' + total (arguments_cost w.scope) (later_of q)

      groups-written : groups_written w.scope q.group (functions_of is' (later_of q))
          ≤ 3 * total size q.group + arguments
      unfolding arguments
      groups-written = omega (
        arith,
        groups-three w.scope q.group (functions_of is' (later_of q)),
        functions-total w.scope is' (later_of q),
      )

      -- the arguments of HAVING's and ORDER's aggregates, with what these are over a scope
      later-written : (p : Scope) → total (written p) (given (clause_expr q.having)) + keys_written p q.order
          + total (arguments_cost w.scope) (later_of q)
          ≤ 3 * option_size (clause_expr q.having) + 3 * keys_size q.order
      later-written p = omega (
        arith,
        later-total (arguments_cost w.scope) q,
        having-three p w.scope (clause_expr q.having),
        order-three p w.scope q.order,
      )

      -- the items over a scope, with all arguments
      items-written : (g : Scope) → items_written g is' (later_of q) + arguments
          ≤ 3 * items_size q.items + most_columns + total size (later_of q)
          + total (arguments_cost w.scope) (later_of q)
      unfolding arguments
      items-written g = omega (arith, items-three q f.node is' g w.scope ei)

      pub room-groups : cell_count w.node + groups_written w.scope q.group (functions_of is' (later_of q))
          ≤ most_plan_cells
      room-groups = omega (
        arith,
        sizes,
        later-sizes,
        cells-where,
        groups-written,
        items-written w.scope,
        later-written w.scope,
      )

      module _ (a : Stage) (ea : build_groups w q.group (functions_of is' (later_of q)) ≡ ok a) where
        cells-groups : cell_count a.node ≤ before + 3 * total size q.group + arguments
        cells-groups = omega (
          arith,
          cells-where,
          groups-written,
          ensured (build_groups w q.group (functions_of is' (later_of q))) _
              (groups-cells w q.group (functions_of is' (later_of q))) a ea,
        )

        module _ (p : Stage) (ep : build_projection a is' (later_of q) ≡ ok p) where
          cells-items : cell_count p.node ≤ before + 3 * total size q.group + 3 * items_size q.items
              + most_columns + total size (later_of q) + total (arguments_cost w.scope) (later_of q)
          cells-items = omega (
            arith,
            cells-groups,
            items-written a.scope,
            ensured (build_projection a is' (later_of q)) _ (projection-cells a is' (later_of q)) p ep,
          )

          -- HAVING and ORDER together
          room-later : cell_count p.node + total (written p.scope) (given (clause_expr q.having))
              + keys_written p.scope q.order ≤ most_plan_cells
          room-later = omega (arith, sizes, later-sizes, cells-items, later-written p.scope)

          pub room-having : cell_count p.node + total (written p.scope) (given (clause_expr q.having))
              ≤ most_plan_cells
          room-having = omega (arith, room-later)

          module _ (h : Node Built) (eh : build_having p.node q.having p.scope ≡ ok h) where
            pub room-order : cell_count h + keys_written p.scope q.order ≤ most_plan_cells
            room-order = omega (
              arith,
              room-later,
              ensured (build_having p.node q.having p.scope) _ (having-cells p.node q.having p.scope)
                  h eh,
            )

            -- OFFSET, LIMIT and the last remap append none
            pub room_whole : (o : Node Built) → build_order h q.order p.scope ≡ ok o → cell_count o ≤ most_plan_cells
            room_whole o eo = omega (
              arith,
              room-order,
              ensured (build_order h q.order p.scope) _ (order-cells h q.order p.scope) o eo,
            )
