-- INSERT: the plan at the end, and its answer.
use Rattle.std.specs.Prelude.{ℕ, ◌+◌, ◌*◌, ◌≤◌, ◌≡◌, Result, Ok, Err}
use Rattle.std.specs.Prelude as std
use native.Mathlib.Omega.{arith}
use Rattle.std.proofs.Math.Path.{refl}
use Rattle.std.proofs.Common.{sym, ap, ◌∙◌}
use mathlib.Core.List.{List, [], ◌∷◌}
use Rattle.std.proofs.Math.Option.{Option}
use Rattle.std.proofs.Math.ListN.{length}
use Rattle.rules.specs.Refusals.{ok}
use Rattle.rules.specs.Limits.{most_cells, most_entries, least_area}
use Rattle.rules.specs.Lists.{Bytes}
use Rattle.rules.specs.Places.{bytes_at, word_at}
use Rattle.rules.specs.Schema.{Table, Catalog, named_by, must_get_table}
use Rattle.rules.specs.Ast.{Expr, Named, Insert}
use Rattle.rules.specs.Ast as Ast
use Rattle.rules.specs.Sizes.{rows_size}
use Rattle.rules.specs.Plan.{Node, Mapping}
use Rattle.rules.specs.Plan as P
use Rattle.rules.specs.Nodes.{values}
use Rattle.rules.specs.Area.{span, own_numbers}
use Rattle.rules.specs.Scope.{empty}
use Rattle.rules.specs.BuildStatement.{column_map, build_insert}
use Rattle.claims.specs.Answers.{Given}
use Rattle.claims.specs.Within.{insert-few}
use Rattle.claims.specs.Room.Nodes.{rows_room}
use Rattle.appends.specs.Statements.Insert.{emit_rows, insert-table, insert-map, insert-rows, insert-step}
use Rattle.appends.specs.Room.Statements.{numbers-insert}
use Rattle.schema.specs.Layout.{table_at, catalog_at}
use Rattle.statement.specs.Layout.{insert_of}
use Rattle.statement.specs.Access.{line_at, name_address, name_length}
use Rattle.plan.specs.Layout.{record_head, plan_size, most_plan_cells, nodes_size, insert_code}
use Rattle.plan.specs.Pushed.{Pushed}
use Rattle.plan.specs.Places.{place_numbers}
use Rattle.plan.specs.declared.nodes.Nodes.{Nodes}
use Rattle.text.specs.declared.places.Place.{Place}
use Rattle.plan.specs.Cells.{Room}
use Rattle.plan.specs.Finished.{finished}
use Rattle.plan.specs.Exit.{pieces, insert-exit}
use Rattle.plan.specs.Steps.{RefusedWith}
use Rattle.plan.specs.Emits.{Written}
use Rattle.numbers.specs.declared.refusals.Refusal.{Refusal}
use Rattle.build_statement.specs.Plans.{Plans}
use Rattle.build_statement.specs.Kinds.{Free, ReadyFor, name_of, insert_at}
use Rattle.build_statement.specs.Ends.{span-at, plan-count, planned, refused-at}
use Rattle.schema.specs.Search.{TablePosition}
use Rattle.build_statement.specs.Tables.{table_named, table-missing, table-is}
use Rattle.build_insert.specs.Map.{map_of, MapsAs, Maps, given_names}
use Rattle.build_insert.specs.Lists.{values_node, Listed, Lists, was-done, was-refused}
use Rattle.build_insert.specs.Rows.{rows_at, RowsFit, rows_take}
use Rattle.build_insert.specs.Own.{own_count, own-count, MapFits, some-own}

-- THE END: m cells stand in the area, and the node's numbers are those of s; area' is the plan's, of a table under the name
-- that is the n bytes at a, by the map o
pub record InsertEnds (c q : Bytes) (a n : ℕ) (o : Option (List Mapping)) (m : ℕ) (s t : Nodes) (area area' : List ℕ) : Type 0 where
  pub own : (b : Table) (d : Node ℕ) → b.name ≡ word_at c q a n → Pushed (own_numbers (P.insert b o d)) s t
  pub is : area' ≡ finished insert_code m 1 s.used t.used t.numbers.now area

module _ (c q : Bytes) (a n m : ℕ) {p : Place} (o : Option (List Mapping)) {s t : Nodes}
    (g : (b : Table) (d : Node ℕ) → span b.name ≡ place_numbers p → Pushed (own_numbers (P.insert b o d)) s t) where
  pub insert-room : (area : List ℕ) → least_area ≤ length area → length s.numbers.now ≡ nodes_size → m ≤ most_plan_cells
      → (plan_size ≤ length area) × (m ≤ most_plan_cells) × (s.used ≤ t.used) × (t.used ≤ nodes_size)
      × (t.used ≤ length t.numbers.now)
  insert-room area h f w =
      let x = (some-own o p g).appended in (
        omega (arith, h),
        w,
        omega (arith, x.next),
        omega (arith, x.fits, f),
        omega (arith, x.fits, x.all),
      )

  pub insert-ends : {area area' : List ℕ} → p.address ≡ a → p.length ≡ length (bytes_at c q a n)
      → area' ≡ finished insert_code m 1 s.used t.used t.numbers.now area → InsertEnds c q a n o m s t area area'
  insert-ends ha hl z = record { own = λ b d h. g b d (ap span h ∙ span-at c q a n ha hl); is = z }

-- THE ROWS
-- there is room for the rows rs and the map o
pub record InsertFits (rs : List (List Expr)) (o : Option (List Mapping)) : Type 0 where
  pub few : rows_size rs ≤ most_cells
  pub numbers : record_head + rows_room rs + own_count o ≤ nodes_size

-- r and area' are the plan's of every INSERT into a table under that name that has the map o and the rows rs
pub record RowsPlanned (c q : Bytes) (a n : ℕ) (o : Option (List Mapping)) (rs : List (List Expr)) (area area' : List ℕ)
    (r : Written) : Type 0 where
  pub is : (ts : Catalog) (d : Insert) (t : Table) → must_get_table ts d.line d.table ≡ ok t
      → t.name ≡ word_at c q a n → column_map t.columns d.columns ≡ ok o → d.rows ≡ rs
      → Plans (build_insert ts d) area area' r

module _ {rs : List (List Expr)} {o : Option (List Mapping)} {area : List ℕ} {s : Nodes} (f : Free area s)
    (i : InsertFits rs o) where
  pub rows-room : Room 0 (3 * rows_size rs) area
  rows-room = record { counted = omega (arith, i.few); held = omega (arith, i.few, f.area_room) }

  pub rows_fit : RowsFit rs s
  rows_fit = record { numbers = omega (arith, i.numbers, f.nodes_room, f.none); all = f.nodes_room }

  module _ {area₁ : List ℕ} {t : Nodes} {x : Listed}
      (h : Lists values_node (emit_rows empty 0 rs) 0 area area₁ s t x) where
    pub rows-refused : (c q : Bytes) (a n : ℕ) (b : Refusal) → x ≡ Err b → RowsPlanned c q a n o rs area area₁ (Err b)
    rows-refused c q a n b e =
        let v = was-refused values_node h b e in
        record {
          is = λ ts d t g w u s. refused-at v.why h.kept (ap Err v.refusal)
              (insert-rows ts d t g o u v.why (ap (emit_rows empty 0) s ∙ v.is));
        }

    module _ (m : ℕ) (e : x ≡ Ok m) where
      pub rows-most : m ≤ most_plan_cells
      rows-most =
          let v = was-done values_node h m e in
          omega (arith, i.few, (rows_take rs v.cells v.entry m v.is).cells)

      pub rows-area : least_area ≤ length area₁
      rows-area = omega (arith, h.kept, f.area_room)

      pub rows-map : MapFits o t
      rows-map =
          let v = was-done values_node h m e in
          let u = rows_take rs v.cells v.entry m v.is in
          record {
            numbers = omega (
              arith,
              i.numbers,
              v.numbers.appended.next,
              u.numbers,
              h.all.all,
              f.nodes_room,
              f.none,
            );
            all = h.all.all ∙ f.nodes_room;
          }

      pub rows-planned : (c q : Bytes) (a n : ℕ) {area₂ : List ℕ} {v : Nodes} → length area₂ ≡ length area₁
          → InsertEnds c q a n o m t v area₁ area₂ → RowsPlanned c q a n o rs area area₂ (Ok m)
      rows-planned c q a n {v = w} l z =
          let v = was-done values_node h m e in
          record {
            is = λ ts d b g y u k.
                let p : Node ℕ = P.values [] in
                let j = insert-step ts d b g o u v.cells v.entry m (ap (emit_rows empty 0) k ∙ v.is) in
                let ps = pieces {cs = v.cells} {n = m} {t = area₁} (values v.entry ∷ []) (own_numbers (P.insert b o p)) area
                h.kept (omega (arith, rows-most, rows-area)) v.stand f.none v.numbers (z.own b p y) in
                planned (P.insert b o j.node) j.answer (plan-count _ _ _ _ _ m 1 j.area) (l ∙ h.kept)
                (z.is ∙ insert-exit v.cells (values v.entry ∷ []) m 1 t.used w.used w.numbers.now area₁ area
                (sym h.kept) b o j.node p j.area ps);
          }

-- THE ANSWER
module _ (c q : Bytes) (tables cells parts : List ℕ) {area : List ℕ} {nodes : Nodes}
    (h : ReadyFor c q tables (Ast.insert (insert_at c q cells parts)) area nodes) where
  pub insert-names : (l : ℕ) → l ≡ most_entries
      → Given (λ (ns : List Named). length ns ≤ l) (given_names c q cells parts)
  unfolding insert_of
  insert-names l e =
      let k : Given (λ (ns : List Named). length ns ≤ most_entries) (given_names c q cells parts) = h.within.counts.columns in
      rw e k

  module _ (a n l : ℕ) (ha : a ≡ name_address parts) (hn : n ≡ name_length parts) (hl : l ≡ line_at parts)
      {r : Result ℕ Refusal} (f : TablePosition c q tables (bytes_at c q a n) l r) where
    name-is : word_at c q a n ≡ name_of c q parts
    name-is = λ j. word_at c q (ha j) (hn j)

    pub insert-unknown : (v : Refusal) → r ≡ Err v
        → Plans (build_insert (catalog_at c q tables) (insert_at c q cells parts)) area area (Err v)
    unfolding insert_of
    insert-unknown v e =
        let k = rw (name-is, hl) at (table-missing c q tables a n l f v e) in
        refused-at k.why refl (ap Err k.refusal)
        (insert-table (catalog_at c q tables) (insert_at c q cells parts) _ k.is)

    module _ (i : ℕ) (e : r ≡ Ok i) where
      abbrev t : Table
      t = table_named c q tables i a n

      has : must_get_table (catalog_at c q tables) (line_at parts) (name_of c q parts) ≡ ok t
      has = (λ j. must_get_table (catalog_at c q tables) (sym hl j) (sym name-is j)) ∙ table-is c q tables a n l f i e

      module _ {ps ps' : List ℕ} {x : Result (std.Option ℕ) Refusal}
          (p : Maps (column_map (table_at c q tables i).columns (given_names c q cells parts)) ps ps' x) where
        pub insert-map-refused : (y : Refusal) → x ≡ Err y
            → Plans (build_insert (catalog_at c q tables) (insert_at c q cells parts)) area area (Err y)
        unfolding insert_of MapsAs named_by
        insert-map-refused y g =
            let w : RefusedWith (column_map t.columns (given_names c q cells parts)) y = rw g at p.is in
            refused-at w.why refl (ap Err w.refusal)
            (insert-map (catalog_at c q tables) (insert_at c q cells parts) t has w.why w.is)

        module _ (m : std.Option ℕ) (g : x ≡ Ok m) where
          abbrev map : Option (List Mapping)
          map = map_of ps' m

          map_is : column_map t.columns (insert_at c q cells parts).columns ≡ ok map
          unfolding insert_of MapsAs named_by
          map_is = rw g at p.is

          pub insert-fits : InsertFits (rows_at c q cells parts) map
          unfolding insert_of
          insert-fits =
              let d = insert_at c q cells parts in
              let few = insert-few h.within in
              record {
                few = few;
                numbers = omega (
                  arith,
                  numbers-insert t.columns d map few h.within.counts map_is,
                  own-count map,
                );
              }

          pub insert-planned : {area' : List ℕ} {y : Written} → RowsPlanned c q a n map (rows_at c q cells parts) area area' y
              → Plans (build_insert (catalog_at c q tables) (insert_at c q cells parts)) area area' y
          unfolding insert_of named_by
          insert-planned s = s.is (catalog_at c q tables) (insert_at c q cells parts) t has refl map_is refl
