-- Room for the node records of a SELECT, clause by clause: the numbers of the nodes before, and all that the next record
-- may take, are within what is enough for its FROM and the most of the others, whether or not that clause is accepted.
use Rattle.std.specs.Prelude.{ℕ, ◌+◌, ◌*◌, ◌≤◌, ◌≡◌, List, ◌++◌, map, length}
use Rattle.std.proofs.Common.{arith, ap, ◌∙◌}
use Rattle.rules.specs.Refusals.{ok, invalid_offset, invalid_limit}
use Rattle.rules.specs.Limits.{most_cells, most_columns}
use Rattle.rules.specs.Schema.{Catalog}
use Rattle.rules.specs.Ast.{size, Item, Select}
use Rattle.rules.specs.Plan.{Built, Node, labels}
use Rattle.rules.specs.Plan as P
use Rattle.rules.specs.Scope.{width}
use Rattle.rules.specs.BuildExpression.{clause_expr}
use Rattle.rules.specs.Stage.{Stage}
use Rattle.rules.specs.BuildAggregate.{build_groups}
use Rattle.rules.specs.BuildFrom.{build_from_clause}
use Rattle.rules.specs.Items.{build_items}
use Rattle.rules.specs.BuildSelect.{build_where, later_of, functions_of, build_projection, build_having, build_order, build_rows}
use Rattle.rules.specs.Sizes.{clause_size, items_size, keys_size, select_size}
use Rattle.claims.specs.Answers.{ensured}
use Rattle.claims.specs.Count.Totals.{total-append, total-map}
use Rattle.claims.specs.Count.Stars.{expanded-items}
use Rattle.claims.specs.Count.Uses.{later-total, given-size}
use Rattle.claims.specs.Reading.Limits.{LimitedSelect}
use Rattle.claims.specs.Room.Nodes.{most_later_numbers, filter_numbers, most_group_numbers, most_item_numbers}
use Rattle.claims.specs.Room.Nodes.{most_key_numbers, row_count_numbers, node_room}
use Rattle.claims.specs.Room.From.{FromFits}
use Rattle.claims.specs.Room.Select.{RoomAt, from_at_lem, where-at, groups-at, projection-at, width-at, having-room}
use Rattle.claims.specs.Room.Select.{order-room, rows-room, offset-room, limit-room}
use Rattle.appends.specs.Scopes.Stars.{collect_each-size, stars-functions}

-- THE NEXT RECORD
abbrev pub item_record : ℕ → ℕ
item_record k = 3 + 3 * k

abbrev pub key_record : ℕ → ℕ
key_record k = 3 + 2 * k

abbrev pub remap_record : ℕ → ℕ
remap_record k = 3 + k

-- a SELECT's aggregates are at most its expression cells
pub functions-length : (q : Select) (n : Node Built) (is' : List Item) → build_items q n ≡ ok is'
    → length (functions_of is' (later_of q)) ≤ select_size q
unfolding functions_of items_size keys_size clause_size select_size
functions-length q n is' e =
    let h = ensured (build_items q n) _ (expanded-items q n) is' e in
    let es = map (λ (i : Item). i.expr) q.items in
    let y : functions_of is' (later_of q) ≡ functions_of q.items (later_of q) =
    ap (λ (us : List Item). functions_of us (later_of q)) h.0 ∙ stars-functions q (labels n) (later_of q) in
    let z : length (functions_of is' (later_of q)) ≡ length (functions_of q.items (later_of q)) = ap length y in
    omega (
      arith,
      z,
      collect_each-size (es ++ later_of q),
      total-append size es (later_of q),
      total-map size (λ (i : Item). i.expr) q.items,
      later-total size q,
      given-size (clause_expr q.having),
    )

-- SELECT
module _ (c : Catalog) (q : Select) (few : select_size q ≤ most_cells) (limited : LimitedSelect q) {most : ℕ}
    (fits : FromFits q.from most) where
  module _ (f : Stage) (ef : build_from_clause c q.from ≡ ok f) where
    at_from : RoomAt most f
    at_from = ensured (build_from_clause c q.from) _ (from_at_lem c q.from fits) f ef

    pub numbers-where : node_room f.node + filter_numbers ≤ most + most_later_numbers
    numbers-where = omega (arith, at_from.nodes)

    module _ (is' : List Item) (ei : build_items q f.node ≡ ok is') (w : Stage)
        (ew : build_where f q.filter ≡ ok w) where
      at-where : RoomAt (most + filter_numbers) w
      at-where = ensured (build_where f q.filter) _ (where-at f at_from q.filter) w ew

      module _ (a : Stage) (ea : build_groups w q.group (functions_of is' (later_of q)) ≡ ok a) where
        at-groups : RoomAt (most + filter_numbers + most_group_numbers) a
        at-groups = ensured (build_groups w q.group (functions_of is' (later_of q))) _
            (groups-at w at-where q.group (functions_of is' (later_of q))) a ea

        pub numbers-items : node_room a.node + item_record most_columns ≤ most + most_later_numbers
        numbers-items = omega (arith, at-groups.nodes)

        module _ (p : Stage) (ep : build_projection a is' (later_of q) ≡ ok p) where
          at-items : RoomAt (most + filter_numbers + most_group_numbers + most_item_numbers) p
          at-items = ensured (build_projection a is' (later_of q)) _
              (projection-at a at-groups is' (later_of q)
              (ensured (build_items q f.node) _ (expanded-items q f.node) is' ei).1) p ep

          pub numbers-having : node_room p.node + filter_numbers ≤ most + most_later_numbers
          numbers-having = omega (arith, at-items.nodes)

          module _ (h : Node Built) (eh : build_having p.node q.having p.scope ≡ ok h) where
            having-nodes : node_room h ≤ node_room p.node + filter_numbers
            having-nodes = ensured (build_having p.node q.having p.scope) _
                (having-room p.node q.having p.scope) h eh

            pub numbers-order : node_room h + key_record (length q.order) ≤ most + most_later_numbers
            numbers-order = omega (arith, at-items.nodes, having-nodes, limited.order)

            module _ (o : Node Built) (eo : build_order h q.order p.scope ≡ ok o) where
              order-nodes : node_room o ≤ node_room h + most_key_numbers
              order-nodes = ensured (build_order h q.order p.scope) _
                  (order-room h q.order p.scope limited.order) o eo

              pub numbers-offset : node_room o + row_count_numbers ≤ most + most_later_numbers
              numbers-offset = omega (arith, at-items.nodes, having-nodes, order-nodes)

              module _ (n : Node Built) (en : build_rows invalid_offset (λ k t. P.offset t k) o q.offset ≡ ok n) where
                offset-nodes : node_room n ≤ node_room o + row_count_numbers
                offset-nodes = ensured (build_rows invalid_offset (λ k t. P.offset t k) o q.offset) _
                    (rows-room invalid_offset (λ k t. P.offset t k) offset-room o q.offset) n en

                pub numbers-limit : node_room n + row_count_numbers ≤ most + most_later_numbers
                numbers-limit = omega (arith, at-items.nodes, having-nodes, order-nodes, offset-nodes)

                module _ (m : Node Built) (em : build_rows invalid_limit (λ k t. P.limit t k) n q.limit ≡ ok m) where
                  limit-nodes : node_room m ≤ node_room n + row_count_numbers
                  limit-nodes = ensured (build_rows invalid_limit (λ k t. P.limit t k) n q.limit) _
                      (rows-room invalid_limit (λ k t. P.limit t k) limit-room n q.limit) m em

                  pub numbers-remap : node_room m + remap_record (width p.scope) ≤ most + most_later_numbers
                  numbers-remap = omega (
                    arith,
                    at-items.nodes,
                    having-nodes,
                    order-nodes,
                    offset-nodes,
                    limit-nodes,
                    width-at p at-items,
                  )
