-- INSERT, appended: its column map, then its rows of values.
use Rattle.std.specs.Prelude.{ℕ, suc, ◌+◌, true, false, List, [], ◌∷◌, ◌++◌}
use Rattle.std.proofs.Common.{arith, ◌∙◌}
use Rattle.std.proofs.Math.Path.{◌≡◌, refl, ap}
use Rattle.std.proofs.Math.Option.{Option, none, some}
use Rattle.rules.specs.Refusals.{Refusal, Answer, ok, refused, ◌>>=◌, refuse, refuse_if, unknown_insert_column}
use Rattle.rules.specs.Refusals.{repeated_insert_column}
use Rattle.rules.specs.Lists.{concat}
use Rattle.rules.specs.Schema.{Column, Catalog, Table, must_get_table}
use Rattle.rules.specs.Ast.{Expr, Named, Insert}
use Rattle.rules.specs.Plan.{Built, Node, TablePosition, vindex, Mapping}
use Rattle.rules.specs.Plan as P
use Rattle.rules.specs.Cells.{Cell, count_all, cells_all, roots, number_rows}
use Rattle.rules.specs.Nodes.{values}
use Rattle.rules.specs.Area.{span, map_numbers, plan_numbers}
use Rattle.rules.specs.Scope.{Scope, empty}
use Rattle.rules.specs.BuildExpression.{build, each}
use Rattle.rules.specs.BuildStatement.{mapped, table_position, map_column, map_from, column_map, build_insert}
use Rattle.appends.specs.Answers.{bind_ok, bind-refused, ok-not-refused}
use Rattle.appends.specs.Lists.Joined.{count-append, cells-append}
use Rattle.appends.specs.Lists.Each.{Entries, entries-same, joined, after}
use Rattle.appends.specs.Lists.Kinds.{emit_all, all-ok, all-refused}
use Rattle.appends.specs.Nodes.Lays.{Lays}
use Rattle.appends.specs.Nodes.Kinds.{lays-values}
use Rattle.appends.specs.Area.{area_of, insert-area}

-- THE COLUMN MAP: the mapping so far is m, and v names stood before
module _ (cs : List Column) (n : Named) (ns : List Named) (v : ℕ) (m : List Mapping) where
  pub map-unknown : table_position cs n.name ≡ none → map_from cs (n ∷ ns) v m ≡ refuse unknown_insert_column n.line
  unfolding map_from map_column refuse ◌>>=◌
  map-unknown e = rw e

  module _ (c : TablePosition) (e : table_position cs n.name ≡ some c) where
    pub map-repeated : mapped c m ≡ true → map_from cs (n ∷ ns) v m ≡ refuse repeated_insert_column n.line
    unfolding map_from map_column refuse refuse_if ◌>>=◌
    map-repeated f = rw (e, f)

    pub map-step : mapped c m ≡ false
        → map_from cs (n ∷ ns) v m ≡ map_from cs ns (suc v) (m ++ (record { column = c; value = vindex v } ∷ []))
    unfolding map_from map_column refuse refuse_if ◌>>=◌
    map-step f = rw (e, f)

pub map-done : (cs : List Column) (v : ℕ) (m : List Mapping) → map_from cs [] v m ≡ ok m
unfolding map_from
map-done cs v m = refl

-- ROWS
unfoldable pub rows_entries : ℕ → List (List Built) → Entries (List ℕ)
rows_entries n vs = (cells_all n (concat vs), number_rows n vs, n + count_all (concat vs))

unfoldable pub emit_rows : Scope → ℕ → List (List Expr) → Answer (Entries (List ℕ))
emit_rows s n rs = each (each (build s)) rs >>= λ vs. ok (rows_entries n vs)

pub rows_end : (s : Scope) (n : ℕ) → emit_rows s n [] ≡ ok ([], [], n)
unfolding emit_rows rows_entries each concat cells_all count_all number_rows ◌>>=◌
rows_end s n = ap ok (entries-same refl refl (omega arith))

pub rows_step : (s : Scope) (n : ℕ) (r : List Expr) (rs : List (List Expr)) (xs : List Cell) (ns : List ℕ) (m : ℕ)
    → emit_all s n r ≡ ok (xs, ns, m) → emit_rows s n (r ∷ rs) ≡ after (xs, ns ∷ [], m) (emit_rows s m rs)
unfolding emit_rows rows_entries each concat number_rows after joined ◌>>=◌
rows_step s n r rs xs ns m e =
    let a = all-ok s r n xs ns m e in
    rw a.answer (go a.built a.cells a.numbers a.next (each (each (build s)) rs))
  where
    go : (vs : List Built) → cells_all n vs ≡ xs → roots n vs ≡ ns → n + count_all vs ≡ m
        → (t : Answer (List (List Built)))
        → ((t >>= λ ws. ok (vs ∷ ws)) >>= λ ws. ok (rows_entries n ws))
        ≡ ((t >>= λ ws. ok (rows_entries m ws)) >>= λ p. ok (joined (xs, ns ∷ [], m) p))
    go vs f g h (ok ws) = ap ok (entries-same (rw (cells-append vs (concat ws) n, f, h)) (rw (g, h))
        (rw (count-append vs (concat ws)) (omega (arith, h))))
    go vs f g h (refused w) = refl

pub rows-refused : (s : Scope) (n : ℕ) (r : List Expr) (rs : List (List Expr)) (w : Refusal) → emit_all s n r ≡ refused w
    → emit_rows s n (r ∷ rs) ≡ refused w
unfolding emit_rows each ◌>>=◌
rows-refused s n r rs w e = rw (all-refused s r n w e)

-- THE WHOLE
-- an INSERT into t by the map o, its rows' cells xs, z of them
pub record InsertLaid (c : Catalog) (d : Insert) (t : Table) (o : Option (List Mapping)) (xs : List Cell)
    (ns : List (List ℕ)) (z : ℕ) : Type 0 where
  pub node : Node Built
  pub answer : build_insert c d ≡ ok (P.insert t o node)
  pub lays : Lays 0 0 node xs (values ns ∷ []) z 1
  pub area : plan_numbers (P.insert t o node) ≡ area_of 5 xs (values ns ∷ []) (span t.name ++ map_numbers o) z 1

module _ (c : Catalog) (d : Insert) where
  pub insert-table : (w : Refusal) → must_get_table c d.line d.table ≡ refused w → build_insert c d ≡ refused w
  unfolding build_insert
  insert-table w e = bind-refused _ _ w e

  module _ (t : Table) (e : must_get_table c d.line d.table ≡ ok t) where
    pub insert-map : (w : Refusal) → column_map t.columns d.columns ≡ refused w → build_insert c d ≡ refused w
    unfolding build_insert
    insert-map w f = bind_ok _ _ t e ∙ bind-refused _ _ w f

    module _ (o : Option (List Mapping)) (f : column_map t.columns d.columns ≡ ok o) where
      pub insert-rows : (w : Refusal) → emit_rows empty 0 d.rows ≡ refused w → build_insert c d ≡ refused w
      unfolding build_insert emit_rows ◌>>=◌
      insert-rows w g =
          bind_ok _ _ t e ∙ bind_ok _ _ o f ∙ bind-refused _ _ w (go (each (each (build empty)) d.rows) g)
        where
          go : (r : Answer (List (List Built))) → (r >>= λ vs. ok (rows_entries 0 vs)) ≡ refused w → r ≡ refused w
          go (ok vs) h = ok-not-refused (rows_entries 0 vs) w h
          go (refused v) h = let q : v ≡ w = cc in ap refused q

      pub insert-step : (xs : List Cell) (ns : List (List ℕ)) (z : ℕ) → emit_rows empty 0 d.rows ≡ ok (xs, ns, z)
          → InsertLaid c d t o xs ns z
      unfolding build_insert emit_rows rows_entries ◌>>=◌
      insert-step xs ns z g = go (each (each (build empty)) d.rows) refl g
        where
          go : (r : Answer (List (List Built))) → each (each (build empty)) d.rows ≡ r
              → (r >>= λ vs. ok (rows_entries 0 vs)) ≡ ok (xs, ns, z) → InsertLaid c d t o xs ns z
          go (ok vs) y h =
              let q : ◌≡◌ {A = Entries (List ℕ)} (rows_entries 0 vs) (xs, ns, z) = cc in
              let l = lays-values 0 0 vs xs ns z (record { cells = ap (λ u. u.0) q; next = ap (λ u. u.2) q })
              (ap (λ u. u.1) q) in
              record {
                node = P.values vs;
                answer = bind_ok _ _ t e ∙ bind_ok _ _ o f ∙ bind_ok _ _ vs y;
                lays = l;
                area = insert-area (P.values vs) xs (values ns ∷ []) z 1 l t o;
              }
          go (refused w) y h = grind arith
