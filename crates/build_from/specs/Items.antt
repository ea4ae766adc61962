-- A FROM item by its row: a table, or a join whose sides are the items in the rows before it; and the room for each.
use Rattle.std.specs.Prelude.{ℕ, ◌+◌, ◌*◌, ◌≤◌, ◌≡◌, refl, Bool, true, false, List, Result, Ok, Err}
use Rattle.std.proofs.Common.{arith, ◌∙◌}
use Rattle.std.proofs.Math.Option.{Option}
use Rattle.rules.specs.Lists.{Bytes}
use Rattle.rules.specs.Lines.{Word}
use Rattle.rules.specs.Schema.{Catalog}
use Rattle.rules.specs.Ast.{Expr, Join, From}
use Rattle.rules.specs.Ast as Ast
use Rattle.rules.specs.Scope as rules
use Rattle.rules.specs.BuildFrom.{is_right, build_sides, build_from}
use Rattle.rules.specs.Sizes.{from_size, option_size}
use Rattle.claims.specs.Answers.{ensured}
use Rattle.claims.specs.Reading.Limits.{from_tables}
use Rattle.claims.specs.Reading.Has.{FromHas}
use Rattle.claims.specs.Room.Nodes.{table_room, join_room}
use Rattle.appends.specs.From.Laid.{source_of}
use Rattle.appends.specs.From.Sides.{sides_first, sides-second}
use Rattle.appends.specs.Room.From.{item-next, item-numbers}
use Rattle.numbers.specs.declared.refusals.Refusal.{Refusal}
use Rattle.ast.specs.Table.{tree_at}
use Rattle.schema.specs.Layout.{catalog_at}
use Rattle.scope.specs.Scopes.{scope_of}
use Rattle.from.specs.Layout.{from_at}
use Rattle.from.specs.Access.{line_at, kind_at, left_side, right_side}
use Rattle.from.specs.declared.row.Kind.TheVariants as K
use Rattle.plan.specs.Pushed.{kept-on}
use Rattle.plan.specs.Room.{laid-in-use}
use Rattle.plan.specs.declared.nodes.Nodes.{Nodes}
use Rattle.plan.specs.declared.steps.Step.{Step}
use Rattle.plan.specs.Steps.{RefusedWith, refused-on}
use Rattle.build_from.specs.Sources.{Laid, ItemRoom, Accepted, Builds}
use Rattle.build_from.specs.Tables.{table_row}
use Rattle.build_from.specs.Merges.{merge-empty}
use Rattle.build_from.specs.Predicates.{predicate_in}
use Rattle.build_from.specs.Rows.{join_at, first_of, second_of, SideRows, from-table, from-join}
use Rattle.build_from.specs.Rows.{first-tree, second-tree}
use Rattle.build_from.specs.Joins.{JoinRoom, OrderIn, Joins, sides-refused}
use Rattle.build_from.specs.declared.Source.{Source}

-- SIZES
-- f is a join of x and y, in whichever order, with the predicate o
pub record SidesOf (f x y : From) (o : Option Expr) : Type 1 where
  pub tables : from_tables f ≡ from_tables x + from_tables y
  pub cells : from_size f ≡ from_size x + from_size y + option_size o
  pub parts : (E : Expr → Type 0) (N : Word → Type 0) → FromHas E N f → FromHas E N x × FromHas E N y

sides-of : (l : ℕ) (j : Join) (f g : From) (o : Option Expr) (b : Bool)
    → SidesOf (Ast.join l j f g o) (first_of b f g) (second_of b f g) o
unfolding from_tables from_size FromHas first_of second_of
sides-of l j f g o false = record { tables = refl; cells = refl; parts = λ E N h. (h.0, h.1) }
sides-of l j f g o true = record { tables = omega arith; cells = omega arith; parts = λ E N h. (h.1, h.0) }

-- how far an accepted item goes
pub laid_cells : (cat : Catalog) (f : From) {s : rules.Scope} {l : ℕ} {i : Step} {area : List ℕ} {nodes : Nodes} {j : Step}
    {area' : List ℕ} {nodes' : Nodes} → Laid (build_from cat f) s l i area nodes j area' nodes'
    → j.cell ≤ i.cell + 3 * from_size f
laid_cells cat f {s} {l} {i} {j = j} h = item-next cat f s l i.cell i.node h.cells h.records j.cell j.node h.is

pub laid-numbers : (cat : Catalog) (f : From) {s : rules.Scope} {l : ℕ} {i : Step} {area : List ℕ} {nodes : Nodes} {j : Step}
    {area' : List ℕ} {nodes' : Nodes} → Laid (build_from cat f) s l i area nodes j area' nodes'
    → nodes'.used + join_room ≤ nodes.used + table_room * from_tables f
laid-numbers cat f {s} {l} {i} {j = j} h = omega (
  arith,
  laid-in-use i.cell i.node h.is.node h.cells h.records j.cell j.node h.is.lays h.stands.records,
  ensured (build_from cat f) _ (item-numbers cat f) (source_of h.is.node s l) h.is.answer,
)

module _ (c q : Bytes) (ts cells froms : List ℕ) (r : ℕ) {i : Step} {area : List ℕ} {nodes : Nodes} where
  -- TABLES
  module _ (e : kind_at froms r ≡ K.Table) where
    pub item-table-room : ItemRoom c q ts (from_at c q cells froms r) i area nodes
        → ItemRoom c q ts (table_row c q froms r) i area nodes
    item-table-room h = rw (from-table c q cells froms r e) at h

    pub item-table : {area' : List ℕ} {nodes' : Nodes} {x : Result Source Refusal}
        → Builds c q ts cells (table_row c q froms r) i area nodes area' nodes' x
        → Builds c q ts cells (from_at c q cells froms r) i area nodes area' nodes' x
    item-table h = rw (from-table c q cells froms r e) h

  -- JOINS
  module _ (h : ItemRoom c q ts (from_at c q cells froms r) i area nodes) {x y : ℕ} (s : SideRows froms r x y) where
    sides : SidesOf (from_at c q cells froms r) (from_at c q cells froms x) (from_at c q cells froms y)
        (predicate_in c q cells froms r)
    sides = rw (from-join c q cells froms r s.join, first-tree c q cells froms r s, second-tree c q cells froms r s)
        (sides-of (line_at froms r) (join_at froms r) (left_side c q cells froms r) (right_side c q cells froms r)
        (predicate_in c q cells froms r) (is_right (join_at froms r)))

    pub first-room : ItemRoom c q ts (from_at c q cells froms x) i area nodes
    first-room = record {
      statement = h.statement;
      within = h.within;
      parts = (sides.parts _ _ h.parts).0;
      tables = omega (arith, h.tables, sides.tables);
      cells = record {
        counted = omega (arith, h.cells.counted, sides.cells);
        held = omega (arith, h.cells.held, sides.cells);
      };
      numbers = omega (arith, h.numbers, sides.tables);
      most = h.most;
      few = h.few;
    }

    -- a refusal of the first side
    whole-refused : {w : Refusal} → RefusedWith (build_sides (predicate_in c q cells froms r)
        (build_from (catalog_at c q ts) (from_at c q cells froms x)) (build_from (catalog_at c q ts)
        (from_at c q cells froms y)))
        w → RefusedWith (build_from (catalog_at c q ts) (from_at c q cells froms r)) w
    whole-refused d = rw (from-join c q cells froms r s.join)
        (refused-on (rw (first-tree c q cells froms r s, second-tree c q cells froms r s) at d)
        (sides-refused (catalog_at c q ts) (line_at froms r) (join_at froms r) (left_side c q cells froms r)
        (right_side c q cells froms r) (predicate_in c q cells froms r)))

    pub first-refused : {area₁ : List ℕ} {nodes₁ : Nodes} {w : Refusal}
        → Builds c q ts cells (from_at c q cells froms x) i area nodes area₁ nodes₁ (Err w)
        → Builds c q ts cells (from_at c q cells froms r) i area nodes area₁ nodes₁ (Err w)
    first-refused d = record {
      kept = d.kept;
      kept-nodes = d.kept-nodes;
      is = whole-refused (refused-on d.is (sides_first (predicate_in c q cells froms r) _ _));
    }

    module _ {area₁ : List ℕ} {nodes₁ : Nodes} {a : Source}
        (d : Builds c q ts cells (from_at c q cells froms x) i area nodes area₁ nodes₁ (Ok a)) where
      abbrev built : Accepted c q ts cells (from_at c q cells froms x) i area nodes area₁ nodes₁ a
      built = d.is

      pub second-room : ItemRoom c q ts (from_at c q cells froms y) a.at area₁ nodes₁
      second-room =
          let i = laid_cells (catalog_at c q ts) (from_at c q cells froms x) built.laid in
          let j = laid-numbers (catalog_at c q ts) (from_at c q cells froms x) built.laid in
          record {
            statement = h.statement;
            within = h.within;
            parts = (sides.parts _ _ h.parts).1;
            tables = omega (arith, h.tables, sides.tables);
            cells = record {
              counted = omega (arith, h.cells.counted, sides.cells, i);
              held = omega (arith, h.cells.held, sides.cells, i, d.kept);
            };
            numbers = omega (arith, h.numbers, sides.tables, j, d.kept-nodes.all);
            most = omega (arith, h.most, d.kept-nodes.all);
            few = built.few;
          }

      pub second-refused : {area₂ : List ℕ} {nodes₂ : Nodes} {w : Refusal}
          → Builds c q ts cells (from_at c q cells froms y) a.at area₁ nodes₁ area₂ nodes₂ (Err w)
          → Builds c q ts cells (from_at c q cells froms r) i area nodes area₂ nodes₂ (Err w)
      second-refused e = record {
        kept = e.kept ∙ d.kept;
        kept-nodes = kept-on d.kept-nodes e.kept-nodes;
        is = whole-refused (refused-on e.is
            (sides-second (predicate_in c q cells froms r) _ _ (scope_of
            (tree_at c q cells) c q a.scope) a.line i.cell i.node
            built.laid.cells built.laid.records a.at.cell a.at.node built.laid.is
            (scope_of (tree_at c q cells) c q a.scope)
            (merge-empty (tree_at c q cells) c q a.scope a.line built.valid built.plain)));
      }

      module _ {area₂ : List ℕ} {nodes₂ : Nodes} {b : Source}
          (e : Builds c q ts cells (from_at c q cells froms y) a.at area₁ nodes₁ area₂ nodes₂ (Ok b)) where
        abbrev other : Accepted c q ts cells (from_at c q cells froms y) a.at area₁ nodes₁ area₂ nodes₂ b
        other = e.is

        pub join-room : JoinRoom c q cells froms r a b area₂ nodes₂
        join-room =
            let i = laid_cells (catalog_at c q ts) (from_at c q cells froms x) built.laid in
            let j = laid-numbers (catalog_at c q ts) (from_at c q cells froms x) built.laid in
            let i' = laid_cells (catalog_at c q ts) (from_at c q cells froms y) other.laid in
            let j' = laid-numbers (catalog_at c q ts) (from_at c q cells froms y) other.laid in
            record {
              scopes = record {
                valid = built.valid;
                plain = built.plain;
                other = other.valid;
                other-plain = other.plain;
                tables = omega (arith, built.count, other.count, sides.tables, h.tables);
              };
              room = record {
                counted = omega (arith, h.cells.counted, sides.cells, i, i');
                held = omega (arith, h.cells.held, sides.cells, i, i', d.kept, e.kept);
              };
              numbers = omega (arith, h.numbers, sides.tables, j, j', d.kept-nodes.all, e.kept-nodes.all);
              most = omega (arith, h.most, d.kept-nodes.all, e.kept-nodes.all);
              first = omega (arith, built.more);
              second = omega (arith, other.more);
              few = other.few;
            }

        both-in : OrderIn c q cells froms r (catalog_at c q ts) (left_side c q cells froms r) (right_side c q cells froms r)
            a b i area nodes area₂ nodes₂
        both-in = rw (← first-tree c q cells froms r s, ← second-tree c q cells froms r s)
            (record { area₁ = area₁; nodes₁ = nodes₁; first = built.laid; second = other.laid })

        pub item-join : {area₃ : List ℕ} {nodes₃ : Nodes} (z : Result Source Refusal)
            → Joins c q cells froms r a b area₂ nodes₂ area₃ nodes₃ z
            → Builds c q ts cells (from_at c q cells froms r) i area nodes area₃ nodes₃ z
        item-join (Err w) g = record {
          kept = g.kept ∙ e.kept ∙ d.kept;
          kept-nodes = kept-on d.kept-nodes (kept-on e.kept-nodes g.kept-nodes);
          is = rw (from-join c q cells froms r s.join) (g.is (catalog_at c q ts) _ _ i area nodes both-in);
        }
        item-join (Ok z) g = record {
          kept = g.kept ∙ e.kept ∙ d.kept;
          kept-nodes = kept-on d.kept-nodes (kept-on e.kept-nodes g.kept-nodes);
          is = record {
            valid = g.is.valid;
            plain = g.is.plain;
            count = omega (arith, g.is.count, built.count, other.count, sides.tables);
            more = omega (arith, g.is.more, other.more, built.more);
            few = g.is.few;
            laid = rw (from-join c q cells froms r s.join) (g.is.laid (catalog_at c q ts) _ _ i area nodes both-in);
          };
        }
