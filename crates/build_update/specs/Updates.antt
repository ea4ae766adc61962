-- UPDATE: the plan behind its filter, and its answer.
use Prim.Native.Nat.{ℕ, ◌+◌, ◌*◌, ◌≤◌}
use Rattle.std.proofs.Common.{arith, ◌∙◌}
use Rattle.std.specs.Prelude.{◌≡◌, length, Result, Ok, Err}
use Rattle.std.proofs.Math.Path.{refl, sym, ap}
use mathlib.Core.List.{List, [], ◌∷◌, ◌++◌, append_assoc}
use Rattle.std.proofs.Math.Option.{Option, none}
use Rattle.std.proofs.Math.ListN.{take}
use Rattle.rules.specs.Refusals.{ok, refused}
use Rattle.rules.specs.Lists.{Bytes}
use Rattle.rules.specs.Places.{bytes_at}
use Rattle.rules.specs.Schema.{Column, Table, named_by}
use Rattle.rules.specs.Limits.{most_cells, most_entries}
use Rattle.rules.specs.Ast as Ast
use Rattle.rules.specs.Plan.{Built, Node}
use Rattle.rules.specs.Plan as P
use Rattle.rules.specs.Cells.{Cell}
use Rattle.rules.specs.Nodes.{scan}
use Rattle.rules.specs.Area.{span, option_number, set_numbers, own_numbers, plan_numbers}
use Rattle.rules.specs.Scope as rules
use Rattle.rules.specs.Entry.{outcome}
use Rattle.rules.specs.BuildStatement.{table_scope, set_built, build_update}
use Rattle.rules.specs.Sizes.{clause_size, sets_size}
use Rattle.claims.specs.Within.{update-few}
use Rattle.appends.specs.Answers.{ok_same, ok-not-refused}
use Rattle.appends.specs.Area.{cells_numbers, cells-numbers-append, area_of}
use Rattle.appends.specs.Lists.Each.{Entries}
use Rattle.appends.specs.Lists.Kinds.{emit_seconds}
use Rattle.appends.specs.Statements.Update as U
use Rattle.schema.specs.Layout.{table_at, catalog_at}
use Rattle.scope.specs.Scopes.{labels_of, table_numbers, scope_of}
use Rattle.statement.specs.Layout.{update_of}
use Rattle.plan.specs.Layout.{cells_end, own_head, set_size, update_code, plan_size, most_plan_cells, nodes_size}
use Rattle.plan.specs.Pushed.{Pushed}
use Rattle.plan.specs.Places.{place_numbers}
use Rattle.plan.specs.declared.nodes.Nodes.{Nodes}
use Rattle.text.specs.declared.places.Place.{Place}
use Rattle.plan.specs.Cells.{Room}
use Rattle.plan.specs.Emits.{Written}
use Rattle.plan.specs.Own as O
use Rattle.plan.specs.Own.{updating, update-whole}
use Rattle.plan.specs.Finished.{finished}
use Rattle.plan.specs.Exit.{pieces, update-exit}
use Rattle.numbers.specs.Options.{option_of}
use Rattle.numbers.specs.declared.refusals.Refusal.{Refusal}
use Rattle.build_expression.specs.Builds.{scope_at}
use Rattle.build_statement.specs.Plans.{Plans}
use Rattle.build_statement.specs.Kinds.{Free, free-kept, ReadyFor, update_at}
use Rattle.build_statement.specs.Ends.{span-at, finish-room, plan-count, planned, refused-at}
use Rattle.build_statement.specs.Tables.{table_named}
use Rattle.build_statement.specs.Scans.{Scanned, scan-record, scan-in-use, scan-kept}
use Rattle.build_statement.specs.Targets.{TargetReady, TargetBuilt, TargetStands, target-stands, target-refused, filter-taken}
use Rattle.build_statement.specs.declared.target.Target.{Target}
use Rattle.build_update.specs.Writes.{Setting, written_of, Writes, was-done, was-refused}
use Rattle.build_update.specs.SoFar.{sets_at, sets-count, sets-most}

-- behind m cells there is room for the sets xs
pub record FewSets (m : ℕ) (xs : List Ast.Set) : Type 0 where
  pub counted : length xs ≤ most_entries
  pub cells : m + (3 * sets_size xs + length xs) ≤ most_plan_cells

-- BEHIND THE FILTER, whose root is o: m cells stand in the area, and area' is the plan's, of the table t, where the sets'
-- answer a is accepted
pub record UpdateEnds (a : Setting) (t : Table) (o : Option ℕ) (m : ℕ) (area area' : List ℕ) (x : Written) : Type 0 where
  pub answer : x ≡ written_of a
  pub kept : length area' ≡ length area
  pub exit : (p : Entries (ℕ × ℕ)) → a ≡ ok p → (xs : List Cell) (before : List ℕ) (d : Node Built)
      (us : List (ℕ × Built)) → length area ≡ length before
      → take (cells_end m) area ≡ take (cells_end 0) before ++ cells_numbers xs
      → plan_numbers (P.update t d us) ≡ area_of update_code (xs ++ p.0) (scan t none o ∷ [])
      (span t.name ++ (t.key ∷ length p.1 ∷ set_numbers p.1)) p.2 1
      → area' ≡ (outcome before (ok (P.update t d us))).area

-- what is pushed behind the scan, before the sets
abbrev Owned : Place → ℕ → ℕ → Nodes → Nodes → Type 0
Owned p y v s t = (b : Table) → span b.name ≡ place_numbers p → b.key ≡ y → Pushed (updating b v []) s t

module _ (c q : Bytes) (tables : List ℕ) (i a n : ℕ) (o : Option ℕ) {p : Place} {area : List ℕ} {s₁ s₂ : Nodes}
    (f : Free area s₁) (ha : p.address ≡ a) (hl : p.length ≡ length (bytes_at c q a n)) (h : Scanned p o s₁ s₂) where
  pub update-head-room : s₂.used + own_head ≤ length s₂.numbers.now
  update-head-room = omega (
    arith,
    scan-in-use c q tables i a n o ha hl h,
    (scan-kept c q tables i a n o ha hl h).all,
    f.nodes_room,
    f.none,
  )

  module _ (v : ℕ) {y : ℕ} {s₃ : Nodes} (hy : (c q : Bytes) → y ≡ (table_at c q tables i).key)
      (g : Owned p y v s₂ s₃) where
    head : Pushed (updating (table_named c q tables i a n) v []) s₂ s₃
    unfolding named_by
    head = g (table_named c q tables i a n) (span-at c q a n ha hl) (sym (hy c q))

    head-in-use : s₃.used ≡ s₂.used + own_head
    unfolding updating span set_numbers
    head-in-use = head.appended.next

    all-nodes : length s₃.numbers.now ≡ nodes_size
    all-nodes = head.kept.all ∙ (scan-kept c q tables i a n o ha hl h).all ∙ f.nodes_room

    module _ (m : ℕ) {xs : List Ast.Set} (few : FewSets m xs) where
      pub sets-cells-room : Room m (3 * sets_size xs + length xs) area
      sets-cells-room = record {
        counted = omega (arith, few.cells);
        held = omega (arith, few.cells, f.area_room);
      }

      pub sets-numbers-room : s₃.used + set_size * length xs ≤ length s₃.numbers.now
      sets-numbers-room = omega (
        arith,
        few.counted,
        head-in-use,
        all-nodes,
        scan-in-use c q tables i a n o ha hl h,
        f.none,
      )

      module _ (s : rules.Scope) (cs : List Column) (hv : v ≡ length xs) {area₂ : List ℕ} {s₄ : Nodes} {r : Written}
          (w : Writes (emit_seconds (set_built s cs) m xs) m area area₂ s₃ s₄ r) where
        pub update-stops : (x : Refusal) → r ≡ Err x
            → UpdateEnds (emit_seconds (set_built s cs) m xs) (table_named c q tables i a n) o m area area₂ (Err x)
        unfolding written_of
        update-stops x e =
            let b = was-refused w x e in
            record {
              answer = ap Err b.refusal ∙ sym (ap written_of b.is);
              kept = w.area_kept;
              exit = λ p d. ok-not-refused _ _ (sym d ∙ b.is);
            }

        module _ (z : ℕ) (d : r ≡ Ok z) where
          own : Pushed (own_numbers (P.update (table_named c q tables i a n) (P.values []) (was-done w z d).entries.1)) s₂ s₄
          own =
              let b = was-done w z d in
              update-whole (table_named c q tables i a n) (P.values []) v b.entries.1
              (hv ∙ sym (sets-count s cs m xs b.entries b.ok-is))
              (O.update-sets (table_named c q tables i a n) v [] b.entries.1 head b.numbers)

          few-cells : z ≤ most_plan_cells
          few-cells =
              let b = was-done w z d in
              omega (arith, few.cells, b.next, sets-most s cs m xs b.entries b.ok-is)

          pub update-room
              : (plan_size ≤ length area₂) × (z ≤ most_plan_cells) × (s₂.used ≤ s₄.used) × (s₄.used ≤ nodes_size)
              × (s₄.used ≤ length s₄.numbers.now)
          update-room =
              finish-room (free-kept f w.area_kept) (scan-kept c q tables i a n o ha hl h) own few-cells

          pub update-ends : {area' : List ℕ} → length area' ≡ length area₂
              → area' ≡ finished update_code z 1 s₂.used s₄.used s₄.numbers.now area₂
              → UpdateEnds (emit_seconds (set_built s cs) m xs) (table_named c q tables i a n) o m area area' (Ok z)
          unfolding written_of
          update-ends l' u =
              let t : Table = table_named c q tables i a n in
              let b = was-done w z d in
              record {
                answer = ap Ok (sym b.next) ∙ sym (ap written_of b.ok-is);
                kept = l' ∙ w.area_kept;
                exit = λ p x ys before d us e₂ e₃ e₄.
                    let same : b.entries ≡ p = ok_same (sym b.ok-is ∙ x) in
                    let node : Node ℕ = P.values [] in
                    let bs = b.entries.1 in
                    let stand : take (cells_end z) area₂ ≡ take (cells_end 0) before ++ cells_numbers (ys ++ b.entries.0) =
                    b.cells ∙ rw (e₃, cells-numbers-append ys b.entries.0, append_assoc) in
                    let ps = pieces {cs = ys ++ b.entries.0} {n = z} {t = area₂} (scan t none o ∷ [])
                    (own_numbers (P.update t node bs)) before (w.area_kept ∙ e₂)
                    (omega (arith, few-cells, f.area_room, w.area_kept)) stand f.none
                    (scan-record c q tables i a n o ha hl h) own in
                    u ∙ update-exit (ys ++ b.entries.0) (scan t none o ∷ []) z 1 s₂.used s₄.used s₄.numbers.now area₂ before
                    (sym (w.area_kept ∙ e₂)) t d us node bs (rw (← same, b.next) at e₄) ps;
              }

-- THE ANSWER
module _ (c q : Bytes) (tables cells parts : List ℕ) {area : List ℕ} {nodes : Nodes}
    (h : ReadyFor c q tables (Ast.update (update_at c q cells parts)) area nodes) where
  few : sets_size (update_at c q cells parts).sets + clause_size (update_at c q cells parts).filter ≤ most_cells
  few = update-few h.within

  pub update-target : TargetReady c q tables cells parts area
  unfolding update_of
  update-target = record {
    statement = Ast.update (update_at c q cells parts);
    within = h.within;
    named = h.within.parts.0;
    few = omega (arith, few);
    area_room = h.free.area_room;
  }

  module _ {area₁ : List ℕ} {x : Result Target Refusal} (b : TargetBuilt c q tables cells parts area area₁ x) where
    pub update-refused : (v : Refusal) → x ≡ Err v
        → Plans (build_update (catalog_at c q tables) (update_at c q cells parts)) area area₁ (Err v)
    unfolding update_of
    update-refused v e =
        let k = target-refused c q tables cells parts b v e
        (λ w z. U.update-table (catalog_at c q tables) (update_at c q cells parts) w z)
        (λ t y w z. U.update-where (catalog_at c q tables) (update_at c q cells parts) t y w z) in
        refused-at k.why b.kept (ap Err k.refusal) k.is

    module _ (t : Target) (e : x ≡ Ok t) where
      abbrev here : Table
      here = table_named c q tables t.table t.name.address t.name.length

      stands : TargetStands c q tables cells parts area area₁ t
      stands = target-stands c q tables cells parts b t e

      pub update-few-sets : FewSets t.filter.cell (sets_at c q cells parts)
      unfolding update_of clause_size
      update-few-sets = record {
        counted = h.within.counts;
        cells = omega (arith, few, (filter-taken c q tables cells parts stands).most, h.within.counts);
      }

      pub update-root : option_number (option_of t.filter.root) ≤ t.filter.cell
      update-root = stands.filter.behind

      pub update-planned : {area₂ : List ℕ} {y : Written}
          → ((k : ℕ) → UpdateEnds
          (emit_seconds (set_built
          (scope_at c q cells (labels_of t.scope) (take t.scope.width t.scope.matches) (table_numbers t.scope) k)
          (table_at c q tables t.table).columns) t.filter.cell (sets_at c q cells parts))
          here (option_of t.filter.root) t.filter.cell area₁ area₂ y)
          → Plans (build_update (catalog_at c q tables) (update_at c q cells parts)) area area₂ y
      unfolding update_of scope_of named_by written_of
      update-planned {area₂} {y} d = go (emit_seconds (set_built (table_scope here) here.columns) t.filter.cell (sets_at c q cells parts)) refl
        where
          ended : UpdateEnds (emit_seconds (set_built (table_scope here) here.columns) t.filter.cell (sets_at c q cells parts))
              here (option_of t.filter.root) t.filter.cell area₁ area₂ y
          ended = rw (← stands.scope) (d t.scope.hidden)

          go : (u : Setting)
              → emit_seconds (set_built (table_scope here) here.columns) t.filter.cell (sets_at c q cells parts) ≡ u
              → Plans (build_update (catalog_at c q tables) (update_at c q cells parts)) area area₂ y
          go (ok p) j =
              let f = stands.filter in
              let k = U.update-step (catalog_at c q tables) (update_at c q cells parts) here stands.table f.cells (option_of t.filter.root) t.filter.cell
              f.is p.0 p.1 p.2 j in
              rw (ended.answer ∙ ap written_of j)
              (planned (P.update here k.node k.sets) k.answer (plan-count _ _ _ _ _ p.2 1 k.area)
              (ended.kept ∙ b.kept)
              (ended.exit p j f.cells area k.node k.sets b.kept f.stands k.area))
          go (refused w) j =
              let f = stands.filter in
              refused-at w (ended.kept ∙ b.kept) (ended.answer ∙ ap written_of j)
              (U.update-sets (catalog_at c q tables) (update_at c q cells parts) here stands.table f.cells (option_of t.filter.root) t.filter.cell f.is w j)
