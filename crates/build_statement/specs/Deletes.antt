-- DELETE: the plan at the end, and its answer.
use Rattle.std.specs.Prelude.{ℕ, ◌+◌, ◌≤◌, ◌≡◌, List, [], ◌∷◌, ◌++◌, length, take, Result, Ok, Err}
use Rattle.std.proofs.Common.{arith, sym, ◌∙◌}
use Rattle.std.proofs.Math.Path.{ap}
use Rattle.std.proofs.Math.Option.{Option, none}
use Rattle.rules.specs.Refusals.{ok}
use Rattle.rules.specs.Lists.{Bytes}
use Rattle.rules.specs.Places.{bytes_at}
use Rattle.rules.specs.Schema.{Table, named_by}
use Rattle.rules.specs.Limits.{most_cells}
use Rattle.rules.specs.Ast as Ast
use Rattle.rules.specs.Plan.{Built, Node}
use Rattle.rules.specs.Plan as P
use Rattle.rules.specs.Cells.{Cell}
use Rattle.rules.specs.Nodes.{scan}
use Rattle.rules.specs.Area.{span, option_number, own_numbers, plan_numbers}
use Rattle.rules.specs.Entry.{outcome}
use Rattle.rules.specs.BuildStatement.{build_delete}
use Rattle.rules.specs.Sizes.{clause_size}
use Rattle.claims.specs.Within.{delete-few}
use Rattle.appends.specs.Area.{cells_numbers, area_of}
use Rattle.appends.specs.Statements.Delete.{delete-table, delete-where, delete-step}
use Rattle.schema.specs.Layout.{table_at, catalog_at}
use Rattle.statement.specs.Layout.{delete_of}
use Rattle.text.specs.declared.places.Place.{Place}
use Rattle.plan.specs.Layout.{cells_end, own_size, delete_code, plan_size, most_plan_cells, nodes_size}
use Rattle.plan.specs.Pushed.{Pushed}
use Rattle.plan.specs.Places.{place_numbers}
use Rattle.plan.specs.declared.nodes.Nodes.{Nodes}
use Rattle.numbers.specs.Options.{option_of}
use Rattle.plan.specs.Finished.{finished}
use Rattle.plan.specs.Exit.{pieces, delete-exit}
use Rattle.numbers.specs.declared.refusals.Refusal.{Refusal}
use Rattle.build_statement.specs.Plans.{Plans}
use Rattle.build_statement.specs.Kinds.{Free, ReadyFor, delete_at}
use Rattle.build_statement.specs.Ends.{span-at, finish-room, plan-count, planned, refused-at}
use Rattle.build_statement.specs.Tables.{table_named}
use Rattle.build_statement.specs.Scans.{Scanned, scan-record, scan-in-use, scan-kept}
use Rattle.build_statement.specs.Targets.{TargetReady, TargetBuilt, target-stands, target-refused, filter-taken}
use Rattle.build_statement.specs.declared.target.Target.{Target}

-- THE END: m cells stand in the area, and area' is the plan's, of the i-th table under the name that is the n bytes at a, its
-- filter's root o
pub record DeleteEnds (c q : Bytes) (tables : List ℕ) (i a n : ℕ) (o : Option ℕ) (m : ℕ) (area area' : List ℕ) : Type 0 where
  pub is : (xs : List Cell) (before : List ℕ) (d : Node Built) → length area ≡ length before
      → take (cells_end m) area ≡ take (cells_end 0) before ++ cells_numbers xs
      → plan_numbers (P.delete (table_named c q tables i a n) d)
      ≡ area_of delete_code xs (scan (table_named c q tables i a n) none o ∷ [])
      (span (table_named c q tables i a n).name ++ ((table_named c q tables i a n).key ∷ [])) m 1
      → area' ≡ (outcome before (ok (P.delete (table_named c q tables i a n) d))).area

-- what is pushed behind the scan
abbrev Owned : Place → ℕ → Nodes → Nodes → Type 0
Owned p y s t = (b : Table) (d : Node ℕ) → span b.name ≡ place_numbers p → b.key ≡ y
    → Pushed (own_numbers (P.delete b d)) s t

module _ (c q : Bytes) (tables : List ℕ) (i a n : ℕ) (x : Option ℕ) {p : Place} {area : List ℕ} {s t : Nodes}
    (f : Free area s) (ha : p.address ≡ a) (hl : p.length ≡ length (bytes_at c q a n)) (h : Scanned p x s t) where
  pub delete-own-room : t.used + own_size ≤ length t.numbers.now
  delete-own-room = omega (
    arith,
    scan-in-use c q tables i a n x ha hl h,
    (scan-kept c q tables i a n x ha hl h).all,
    f.nodes_room,
    f.none,
  )

  module _ {y : ℕ} {u : Nodes} (hy : (c q : Bytes) → y ≡ (table_at c q tables i).key) (g : Owned p y t u) where
    own : (d : Node ℕ) → Pushed (own_numbers (P.delete (table_named c q tables i a n) d)) t u
    unfolding named_by
    own d = g (table_named c q tables i a n) d (span-at c q a n ha hl) (sym (hy c q))

    pub delete-room : {m : ℕ} → m ≤ most_plan_cells
        → (plan_size ≤ length area) × (m ≤ most_plan_cells) × (t.used ≤ u.used) × (u.used ≤ nodes_size)
        × (u.used ≤ length u.numbers.now)
    delete-room w = finish-room f (scan-kept c q tables i a n x ha hl h) (own (P.values [])) w

    pub delete-ends : (m : ℕ) {area' : List ℕ} → m ≤ most_plan_cells
        → area' ≡ finished delete_code m 1 t.used u.used u.numbers.now area → DeleteEnds c q tables i a n x m area area'
    delete-ends m w z = record {
      is = λ xs before d e₂ e₃ e₄.
          let b = table_named c q tables i a n in
          let v : Node ℕ = P.values [] in
          let ps = pieces {cs = xs} {n = m} {t = area} (scan b none x ∷ []) (own_numbers (P.delete b v)) before e₂
          (omega (arith, w, f.area_room)) e₃ f.none (scan-record c q tables i a n x ha hl h) (own v) in
          z ∙ delete-exit xs (scan b none x ∷ []) m 1 t.used u.used u.numbers.now area before (sym e₂) b d v e₄ ps;
    }

-- THE ANSWER
module _ (c q : Bytes) (tables cells parts : List ℕ) {area : List ℕ} {nodes : Nodes}
    (h : ReadyFor c q tables (Ast.delete (delete_at c q cells parts)) area nodes) where
  few : clause_size (delete_at c q cells parts).filter ≤ most_cells
  few = delete-few h.within

  pub delete-target : TargetReady c q tables cells parts area
  unfolding delete_of
  delete-target = record {
    statement = Ast.delete (delete_at c q cells parts);
    within = h.within;
    named = h.within.parts.0;
    few = few;
    area_room = h.free.area_room;
  }

  module _ {area₁ : List ℕ} {x : Result Target Refusal} (b : TargetBuilt c q tables cells parts area area₁ x) where
    pub delete-refused : (v : Refusal) → x ≡ Err v
        → Plans (build_delete (catalog_at c q tables) (delete_at c q cells parts)) area area₁ (Err v)
    unfolding delete_of
    delete-refused v e =
        let k = target-refused c q tables cells parts b v e
        (λ w z. delete-table (catalog_at c q tables) (delete_at c q cells parts) w z)
        (λ t y w z. delete-where (catalog_at c q tables) (delete_at c q cells parts) t y w z) in
        refused-at k.why b.kept (ap Err k.refusal) k.is

    module _ (t : Target) (e : x ≡ Ok t) where
      pub delete-most : t.filter.cell ≤ most_plan_cells
      unfolding clause_size delete_of
      delete-most = omega (arith, few, (filter-taken c q tables cells parts (target-stands c q tables cells parts b t e)).most)

      pub delete-root : option_number (option_of t.filter.root) ≤ t.filter.cell
      delete-root = (target-stands c q tables cells parts b t e).filter.behind

      pub delete-planned : {area₂ : List ℕ} → length area₂ ≡ length area₁
          → DeleteEnds c q tables t.table t.name.address t.name.length (option_of t.filter.root) t.filter.cell area₁ area₂
          → Plans (build_delete (catalog_at c q tables) (delete_at c q cells parts)) area area₂ (Ok t.filter.cell)
      unfolding delete_of
      delete-planned l d =
          let k = target-stands c q tables cells parts b t e in
          let p = k.filter in
          let s = delete-step (catalog_at c q tables) (delete_at c q cells parts) _ k.table p.cells (option_of t.filter.root) t.filter.cell p.is in
          planned (P.delete (table_named c q tables t.table t.name.address t.name.length) s.node) s.answer
          (plan-count _ _ _ _ _ t.filter.cell 1 s.area) (l ∙ b.kept)
          (d.is p.cells area s.node b.kept p.stands s.area)
