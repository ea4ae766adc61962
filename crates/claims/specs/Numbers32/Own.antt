-- A statement's own numbers are of 32 bits.
use Prim.Native.Nat.{ℕ, ◌≤◌}
use native.Mathlib.Omega.{arith}
use Rattle.std.specs.Prelude.{List, [], ◌∷◌, length}
use Rattle.std.proofs.Math.Option.{Option, none, some}
use Rattle.rules.specs.Limits.{least_area}
use Rattle.rules.specs.Schema.{Value, Datatype, boolean, integer, floating, string, Catalog}
use Rattle.rules.specs.Plan.{Built, TablePosition, cindex, ValuePosition, vindex, Mapping, Made, Plan}
use Rattle.rules.specs.Plan as P
use Rattle.rules.specs.Cells.{expressions, plan_expressions, cell_count, number_second, number_node, number_plan}
use Rattle.rules.specs.Area.{span, option_span, mapping_numbers, map_numbers, set_numbers, type_code, default_numbers}
use Rattle.rules.specs.Area.{made_numbers, own_numbers}
use Rattle.claims.specs.Answers.{All, Given, all_append, all_right, all-weaken, all_map}
use Rattle.claims.specs.Lists.{all_both, all-concat, map-all}
use Rattle.claims.specs.Cells.Roots.{second-kept}
use Rattle.claims.specs.Reading.Catalog.{LimitedTable}
use Rattle.claims.specs.Widths.Bounded.{PlanBounded}
use Rattle.claims.specs.Room.Nodes.{second-size, map_room, own_room}
use Rattle.claims.specs.Building.Has.{MadeHas, PlanHas}
use Rattle.claims.specs.Building.Positions.{ColumnBelow, ValueBelow, Mapped}
use Rattle.claims.specs.Words.Ends.{Ends, EndsValue}
use Rattle.claims.specs.Numbers32.Cells.{Small, flag_small, span_small, option_span-small, value-small}
use Rattle.claims.specs.Numbers32.Nodes.{Few}
use Rattle.claims.specs.Numbers32.Widths.{table-limited}

-- CREATE
type-small : (t : Datatype) → Small (type_code t)
unfolding type_code
type-small boolean = omega arith
type-small integer = omega arith
type-small floating = omega arith
type-small string = omega arith

default-small : (d : Option Value) → Given EndsValue d → All Small (default_numbers d)
unfolding default_numbers Given All
default-small none h = (omega arith, (omega arith, (omega arith, (omega arith, tt))))
default-small (some v) h = value-small v h

made-small : (c : Made) → MadeHas EndsValue Ends c → All Small (made_numbers c)
unfolding made_numbers All
made-small c h = all_append Small (span c.name) _ (span_small c.name h.1) (
  type-small c.type,
  (
    flag_small c.nullable,
    (
      flag_small c.unique,
      (
        flag_small c.index,
        all_append Small (option_span c.reference) _ (option_span-small c.reference h.2)
            (default-small c.default h.0),
      ),
    ),
  ),
)

-- INSERT AND UPDATE
mapping-small : (w n : ℕ) → w ≤ least_area → n ≤ least_area → (m : Mapping)
    → ColumnBelow w m.column × ValueBelow n m.value → All Small (mapping_numbers m)
unfolding mapping_numbers ColumnBelow ValueBelow All
mapping-small w n k l m = go m.column m.value
  where
    go : (i : TablePosition) (j : ValuePosition) → ColumnBelow w i × ValueBelow n j
        → All Small (mapping_numbers (record { column = i; value = j }))
    go (cindex i) (vindex j) h = (omega arith, (omega arith, tt))

map-small : (w : ℕ) → w ≤ least_area → (m : Option (List Mapping)) → map_room m ≤ least_area → Given (Mapped w) m
    → All Small (map_numbers m)
unfolding map_numbers map_room Given All
map-small w k none l h = (omega arith, tt)
map-small w k (some m) l h = (
  omega arith,
  all-concat Small _
      (all_map (All Small) mapping_numbers _ (mapping-small w (length m) k (omega arith)) m h),
)

sets-small : (xs : List (ℕ × ℕ)) → All (λ x. Small x.0 × Small x.1) xs → All Small (set_numbers xs)
unfolding set_numbers All
sets-small [] h = tt
sets-small (x ∷ xs) h = (h.0.0, (h.0.1, sets-small xs h.1))

module _ (ts : Catalog) (limited : All LimitedTable ts) where
  -- the own numbers of a plan that fits in the area
  pub own-small : (p : Plan Built) → own_room p ≤ least_area → PlanHas EndsValue Ends ts p → PlanBounded p
      → All Few (plan_expressions (number_plan p)) → All Small (own_numbers (number_plan p))
  unfolding own_numbers number_plan own_room PlanHas plan_expressions All
  own-small (P.select n) l h b e = tt
  own-small (P.delete t n) l h b e =
      all_append Small (span t.name) _ (span_small t.name h.2)
      (omega (arith, table-limited ts limited t h.0), tt)
  own-small (P.insert t m n) l h b e =
      all_append Small (span t.name) _ (span_small t.name h.3)
      (map-small (length t.columns) (omega (arith, table-limited ts limited t h.0)) m (omega arith) h.2)
  own-small (P.update t n xs) l h b e =
      let k = table-limited ts limited t h.0 in
      let ys = number_second (cell_count n) xs in
      all_append Small (span t.name) _ (span_small t.name h.3) (
        omega (arith, k.0, k.1),
        (
          omega (arith, second-size (cell_count n) xs),
          sets-small ys
              (all_both _ _ ys (second-kept Small xs (cell_count n)
              (all-weaken _ _ (λ x g. omega (arith, g.0, k.1)) xs b.1))
              (all-weaken _ _ (λ x g. omega arith) ys
              (map-all Few (λ (x : ℕ × ℕ). x.1) ys (all_right Few (expressions (number_node 0 n)) _ e)))),
        ),
      )
  own-small (P.create n k cs) l h b e = all_append Small (span n) _ (span_small n h.2)
      (omega (arith, h.0), (omega arith, all-concat Small _ (all_map (All Small) made_numbers _ made-small cs h.1)))
  own-small (P.drop n y) l h b e = all_append Small (span n) _ (span_small n h) (flag_small y, tt)
