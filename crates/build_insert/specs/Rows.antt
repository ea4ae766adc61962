-- The rows of INSERT, one behind the other, and their values node.
use Prim.Native.Nat.{ℕ, suc, ◌+◌, ◌-◌, ◌*◌, ◌≤◌, ◌<◌}
use Rattle.std.proofs.Common.{arith, add-one, sym, ◌∙◌, drop_of_length-le}
use Rattle.std.specs.Prelude.{◌≡◌, refl, drop, Ok, Err}
use Rattle.std.proofs.Math.Path.{ap}
use mathlib.Core.List.{List, [], ◌∷◌, append-nil}
use Rattle.std.proofs.Math.ListN.{length}
use Rattle.rules.specs.Refusals.{Answer, ok, refused, ◌>>=◌}
use Rattle.rules.specs.Lists.{Bytes, concat}
use Rattle.rules.specs.Ast.{Expr, size}
use Rattle.rules.specs.Sizes.{total, rows_size}
use Rattle.rules.specs.Plan.{Built}
use Rattle.rules.specs.Plan as P
use Rattle.rules.specs.Cells.{Cell, count_all, number_rows, number_node}
use Rattle.rules.specs.Nodes.{values}
use Rattle.rules.specs.Area.{row_numbers, sized, record_numbers}
use Rattle.rules.specs.Scope.{empty}
use Rattle.rules.specs.BuildExpression.{build, each}
use Rattle.claims.specs.Answers.{Ensures, then, ensured, each-length}
use Rattle.claims.specs.Room.Nodes.{rows_room, node_room, rows-size, number-room}
use Rattle.appends.specs.Answers.{ok_same, ok-not-refused}
use Rattle.appends.specs.Area.{records_numbers}
use Rattle.appends.specs.Lists.Joined.{count-append}
use Rattle.appends.specs.Lists.Each.{Entries, after, after-after, after-refused, joined}
use Rattle.appends.specs.Lists.Kinds.{emit_all}
use Rattle.appends.specs.Statements.Insert.{rows_entries, emit_rows, rows_end, rows_step, rows-refused}
use Rattle.appends.specs.Room.Written.{written}
use Rattle.appends.specs.Room.Select.{exprs-three}
use Rattle.appends.specs.Room.Statements.{exprs-within, row_next}
use Rattle.ast.specs.Table.{tree_at}
use Rattle.sections.specs.Layout.{section_at}
use Rattle.sections.specs.Access.{row_kind, numbers_at, after-drop}
use Rattle.sections.specs.Expressions.{list_length}
use Rattle.sections.specs.declared.entry.Entry.{Entry}
use Rattle.statement.specs.Layout.{map_entries, to_row}
use Rattle.statement.specs.EntryAccess.{map-length, row_at}
use Rattle.plan.specs.Layout.{record_head, length_place, nodes_size}
use Rattle.plan.specs.Cells.{Room}
use Rattle.plan.specs.Pushed.{Kept, Pushed, Stored, Countable, kept-on}
use Rattle.plan.specs.declared.nodes.Nodes.{Nodes}
use Rattle.plan.specs.Records.{opened, ended, opened-room, records-first}
use Rattle.plan.specs.Parts.{rows_on, values-rows}
use Rattle.plan.specs.Room.{values-in-use}
use Rattle.build_insert.specs.Lists.{one_row, values_node, Stands, Listed, Lists, lists-done, lists-refused}
use Rattle.build_insert.specs.Lists.{was-done, was-refused, SoFar, so-far-none, so_far_more, so-far-stop, so-far-all}
use Rattle.build_insert.specs.Values.{values_at, all-length}
use Rattle.numbers.specs.declared.refusals.Refusal.{Refusal}

-- the statement's rows
abbrev pub rows_at : Bytes → Bytes → List ℕ → List ℕ → List (List Expr)
rows_at c q cells parts = map_entries to_row (section_at c q cells parts row_kind)

-- ALL ROWS: those from the i-th on are to come
pub record RowsSoFar (c q : Bytes) (cells parts area₀ : List ℕ) (s : Nodes) (i m : ℕ) (area : List ℕ) (t : Nodes) : Type 0 where
  pub within : i ≤ length (section_at c q cells parts row_kind)
  pub room : Room m (3 * rows_size (drop i (rows_at c q cells parts))) area
  pub space : t.used + rows_room (drop i (rows_at c q cells parts)) ≤ length t.numbers.now
  pub so_far : SoFar row_numbers (emit_rows empty 0 (rows_at c q cells parts))
      (λ x. emit_rows empty x (drop i (rows_at c q cells parts))) 0 area₀ s m area t

pub rows_none : (c q : Bytes) (cells parts area : List ℕ) (s : Nodes)
    → Room 0 (3 * rows_size (rows_at c q cells parts)) area
    → s.used + rows_room (rows_at c q cells parts) ≤ length s.numbers.now → RowsSoFar c q cells parts area s 0 0 area s
unfolding row_numbers
rows_none c q cells parts area s h l = record {
  within = omega arith;
  room = h;
  space = l;
  so_far = so-far-none row_numbers (λ x. emit_rows empty x (rows_at c q cells parts)) 0 area s refl (omega (arith, l));
}

module _ {c q : Bytes} {cells parts area₀ : List ℕ} {s₀ : Nodes} {i m : ℕ} {area : List ℕ} {t : Nodes}
    (s : RowsSoFar c q cells parts area₀ s₀ i m area t) where
  abbrev following : ℕ → Answer (Entries (List ℕ))
  following x = emit_rows empty x (drop i (rows_at c q cells parts))

  pub rows-kept : length area ≡ length area₀
  rows-kept = s.so_far.kept

  pub rows_all : Kept s₀ t
  rows_all = s.so_far.numbers.kept

  pub rows-done : (n : ℕ) → n ≡ length (section_at c q cells parts row_kind) → n ≤ i
      → Lists row_numbers (emit_rows empty 0 (rows_at c q cells parts)) 0 area₀ area s₀ t (Ok m)
  rows-done n e l =
      let z : drop i (rows_at c q cells parts) ≡ [] = drop_of_length-le (rows_at c q cells parts) {i = i}
      (omega (arith, map-length to_row (section_at c q cells parts row_kind), e, l)) in
      so-far-all row_numbers following s.so_far (ap (emit_rows empty m) z ∙ rows_end empty m)

  module _ (e : Entry) (g : e ≡ numbers_at parts row_kind i) (l : i < length (section_at c q cells parts row_kind)) where
    abbrev row : List Expr
    row = values_at c q cells e.expressions e.row

    row_here_lem : drop i (rows_at c q cells parts) ≡ row ∷ drop (suc i) (rows_at c q cells parts)
    row_here_lem = after-drop i (rows_at c q cells parts) row (row_at c q cells parts row_kind i e g l)

    row-size : rows_size (drop i (rows_at c q cells parts))
        ≡ total size row + rows_size (drop (suc i) (rows_at c q cells parts))
    unfolding rows_size total
    row-size = ap rows_size row_here_lem

    row-numbers : rows_room (drop i (rows_at c q cells parts))
        ≡ suc e.expressions + rows_room (drop (suc i) (rows_at c q cells parts))
    unfolding rows_room
    row-numbers = ap rows_room row_here_lem
        ∙ rw (list_length (tree_at c q cells) cells e.expressions e.row)

    pub rows-room : Room m (3 * total size row) area
    rows-room = record {
      counted = omega (arith, row-size, s.room.counted);
      held = omega (arith, row-size, s.room.held);
    }

    pub rows-space : t.used + 1 + e.expressions ≤ length t.numbers.now
    rows-space = omega (arith, row-numbers, s.space)

    module _ {area' : List ℕ} {u : Nodes} {x : Listed} (h : Lists one_row (emit_all empty m row) m area area' t u x) where
      pub rows-stop : (b : Refusal) → x ≡ Err b
          → Lists row_numbers (emit_rows empty 0 (rows_at c q cells parts)) 0 area₀ area' s₀ u (Err b)
      rows-stop b f = (lists-refused row_numbers (h.kept ∙ rows-kept) (kept-on rows_all h.all)
          (so-far-stop row_numbers following s.so_far (was-refused one_row h b f) (λ w o.
          ap (λ rs. after (s.so_far.cells, s.so_far.entries, m) (emit_rows empty m rs)) row_here_lem
          ∙ ap (after (s.so_far.cells, s.so_far.entries, m))
          (rows-refused empty m row (drop (suc i) (rows_at c q cells parts)) w o)
          ∙ after-refused (s.so_far.cells, s.so_far.entries, m) w)))

      pub rows_more : (m' : ℕ) → x ≡ Ok m' → RowsSoFar c q cells parts area₀ s₀ (i + 1) m' area' u
      unfolding joined
      rows_more m' f =
          let d = was-done one_row h m' f in
          let o = row_next empty m row d.cells d.entry m' d.is in
          let w = exprs-three empty row in
          let y : length d.entry ≡ e.expressions =
          all-length empty m row d.cells d.entry m' d.is
          ∙ list_length (tree_at c q cells) cells e.expressions e.row in
          let z : length (one_row d.entry) ≡ suc (length d.entry) = one-row d.entry in
          rw (add-one i) (record {
            within = omega (arith, l);
            room = record {
              counted = omega (arith, row-size, o, w, s.room.counted);
              held = omega (arith, row-size, o, w, s.room.held, h.kept);
            };
            space = omega (arith, row-numbers, s.space, d.numbers.appended.next, z, y, h.all.all);
            so_far = so_far_more row_numbers following s.so_far
                (λ x. emit_rows empty x (drop (suc i) (rows_at c q cells parts))) h.kept d
                (ap (λ rs. after (s.so_far.cells, s.so_far.entries, m) (emit_rows empty m rs)) row_here_lem
                ∙ ap (after (s.so_far.cells, s.so_far.entries, m))
                (rows_step empty m row (drop (suc i) (rows_at c q cells parts)) d.cells d.entry m' d.is)
                ∙ after-after (s.so_far.cells, s.so_far.entries, m) (d.cells, d.entry ∷ [], m') _)
                (rows_on s.so_far.entries (d.entry ∷ []) s.so_far.numbers d.numbers);
          })
        where
          one-row : (ns : List ℕ) → length (one_row ns) ≡ suc (length ns)
          one-row ns = unfold rows_room in (omega (arith, rows-size (ns ∷ [])))

-- what accepted rows take: their cells, and the numbers of their node
pub record RowsTake (rs : List (List Expr)) (ns : List (List ℕ)) (m : ℕ) : Type 0 where
  pub cells : m ≤ 3 * rows_size rs
  pub numbers : length (values_node ns) ≡ record_head + rows_room rs

rows-within : (rs : List (List Expr))
    → Ensures (each (each (build empty)) rs) (λ vs. (count_all (concat vs) ≤ 3 * rows_size rs) × (rows_room vs ≡ rows_room rs))
unfolding each concat count_all rows_room rows_size total
rows-within [] = (omega arith, refl)
rows-within (r ∷ rs) =
    then (each (build empty) r) _ (λ v. (count_all v ≤ 3 * total size r) × (length v ≡ length r)) _ row_within λ v h.
    then (each (each (build empty)) rs) _ _ _ (rows-within rs) λ vs g.
    (omega (arith, h.0, g.0, count-append v (concat vs)), omega (arith, h.1, g.1))
  where
    row_within : Ensures (each (build empty) r) (λ v. (count_all v ≤ 3 * total size r) × (length v ≡ length r))
    row_within = go (each (build empty) r) (exprs-within empty r) (each-length (build empty) r)
      where
        go : (a : Answer (List Built)) → Ensures a (λ v. count_all v ≤ total (written empty) r) → Ensures a (λ v. length v ≡ length r)
            → Ensures a (λ v. (count_all v ≤ 3 * total size r) × (length v ≡ length r))
        go (ok v) h g = (omega (arith, h, exprs-three empty r), g)
        go (refused w) h g = tt

rows_same : (vs : List (List Built)) → rows_room (number_rows 0 vs) ≡ rows_room vs
unfolding node_room number_node
rows_same vs = omega (arith, number-room (P.values vs) 0)

node-size : (ns : List (List ℕ)) → length (values_node ns) ≡ record_head + length (row_numbers ns)
unfolding records_numbers record_numbers sized concat
node-size ns =
    let z : length (values_node ns) ≡ suc (suc (length (row_numbers ns))) = ap length (append-nil (record_numbers (values ns))) in
    omega (arith, z)

pub rows_take : (rs : List (List Expr)) (xs : List Cell) (ns : List (List ℕ)) (m : ℕ)
    → emit_rows empty 0 rs ≡ ok (xs, ns, m) → RowsTake rs ns m
unfolding emit_rows rows_entries ◌>>=◌
rows_take rs xs ns m h = go (each (each (build empty)) rs) refl h
  where
    go : (a : Answer (List (List Built))) → each (each (build empty)) rs ≡ a
        → (a >>= λ vs. ok (rows_entries 0 vs)) ≡ ok (xs, ns, m) → RowsTake rs ns m
    go (ok vs) f g =
        let w = ensured (each (each (build empty)) rs) _ (rows-within rs) vs f in
        let y : number_rows 0 vs ≡ ns = ap (λ p. p.1) (ok_same g) in
        let z : 0 + count_all (concat vs) ≡ m = ap (λ p. p.2) (ok_same g) in
        let u : rows_room ns ≡ rows_room rs = sym (ap rows_room y) ∙ rows_same vs ∙ w.1 in
        record { cells = omega (arith, z, w.0); numbers = omega (arith, node-size ns, rows-size ns, u) }
    go (refused w) f g = ok-not-refused _ w (sym g)

-- THE NODE
-- there is room for it
pub record RowsFit (rs : List (List Expr)) (s : Nodes) : Type 0 where
  pub numbers : s.used + record_head + rows_room rs ≤ length s.numbers.now
  pub all : length s.numbers.now ≡ nodes_size

module _ {rs : List (List Expr)} {s t : Nodes} (f : RowsFit rs s) (b : Pushed (opened (values [])) s t) where
  pub node-room : t.used + rows_room rs ≤ length t.numbers.now
  node-room = omega (arith, f.numbers, values-in-use b, b.kept.all)

  module _ {a : Answer (Entries (List ℕ))} {area area' : List ℕ} {u : Nodes} {x : Listed}
      (h : Lists row_numbers a 0 area area' t u x) where
    pub node-refused : (v : Refusal) → x ≡ Err v → Lists values_node a 0 area area' s u (Err v)
    node-refused v e = lists-refused values_node h.kept (kept-on b.kept h.all) (was-refused row_numbers h v e)

    module _ (m : ℕ) (e : x ≡ Ok m) where
      open-rows : (d : Stands row_numbers a 0 area area' t u m) → Pushed (opened (values d.entry)) s u
      open-rows d = values-rows [] d.entry b d.numbers

      pub node_end : Countable (s.used + length_place) u
      node_end =
          let p = open-rows (was-done row_numbers h m e) in
          opened-room (values (was-done row_numbers h m e).entry) p (omega (arith, p.appended.fits, f.all))

      pub node_lists : {v : Nodes} → Stored (s.used + length_place) (u.used - (s.used + record_head)) u v
          → Lists values_node a 0 area area' s v (Ok m)
      node_lists g =
          let d = was-done row_numbers h m e in
          lists-done values_node h.kept (record {
            cells = d.cells;
            entry = d.entry;
            is = d.is;
            stand = d.stand;
            numbers = records-first (values d.entry) (ended (values d.entry) (open-rows d) g);
          })
