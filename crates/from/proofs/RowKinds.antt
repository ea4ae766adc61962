-- The tree at a row by its kind, in all rows and at every row.
use Prim.Native.Nat.{ℕ, zero, suc}
use Rattle.std.proofs.Common.{sub-one, sym, ◌∙◌}
use Rattle.std.specs.Prelude.{◌≡◌, List}
use Rattle.rules.specs.Lists.{Bytes}
use Rattle.rules.specs.Ast.{From}
use Rattle.ast.specs.Table.{at}
use Rattle.numbers.specs.Codes.{coded-map}
use Rattle.from.specs.Layout.{table_by, row_by, table_at, row_at, from_at}
use Rattle.from.specs.Roots.{from_first, from_next}
use Rattle.from.specs.declared.row.Kind.{Kind}
use Rattle.from.specs.Access.{predicate-at, kind_of, kind_at, row_of, left_side, right_side}

module _ (b q : Bytes) (cells froms : List ℕ) where
  by_number : (r : ℕ) (u v : From) → row_at b q cells froms r u v ≡ row_of b q cells froms (kind_of (at froms r 0)) r u v
  unfolding row_at row_by table_by kind_of row_of
  by_number r u v = rw (predicate-at b q cells (at froms r 2))
      (sym (coded-map (λ (k : Kind). row_of b q cells froms k r u v) _ _ 1 (at froms r 0)))

  by_kind : (r : ℕ) → from_at b q cells froms r ≡ row_of b q cells froms (kind_at froms r) r (left_side b q cells froms r) (right_side b q cells froms r)
  unfolding kind_at table_at table_by row_of
  by_kind zero = from_first b q cells froms
  by_kind (suc r) = from_next b q cells froms r ∙ rw (sub-one (suc r)) (by_number (suc r) _ _)

  -- the tree at a row of the kind k
  pub from-kind : (r : ℕ) (k : Kind) → k ≡ kind_at froms r
      → from_at b q cells froms r ≡ row_of b q cells froms k r (left_side b q cells froms r) (right_side b q cells froms r)
  from-kind r k h = by_kind r ∙ rw (← h)
