-- FROM of a SELECT: what is known of a SELECT that was read, and what stands behind its FROM.
use Rattle.std.specs.Prelude.{ℕ, ◌≡◌, refl, List, length, Ok, Err}
use Rattle.std.proofs.Common.{arith}
use Rattle.rules.specs.Lists.{Bytes}
use Rattle.rules.specs.Ast.{Select}
use Rattle.rules.specs.Ast as Ast
use Rattle.rules.specs.BuildSelect.{build_select}
use Rattle.claims.specs.Within.{TextsWithin, select-few, select-counts, select-parts}
use Rattle.claims.specs.Room.From.{FromFits}
use Rattle.appends.specs.From.Laid.{stage_of}
use Rattle.appends.specs.Select.Stages as stages
use Rattle.appends.specs.Select.Stages.{select_items}
use Rattle.ast.specs.Table.{tree_at}
use Rattle.schema.specs.Layout.{catalog_at}
use Rattle.scope.specs.Scopes.{scope_of}
use Rattle.from.specs.Layout.{froms_at}
use Rattle.statement.specs.Layout.{select_of}
use Rattle.statement.specs.Access.{from_rows, select_at}
use Rattle.statement.specs.Stays.{SectionsStay}
use Rattle.numbers.specs.declared.refusals.Refusal.{Refusal}
use Rattle.plan.specs.Emits.{Written}
use Rattle.plan.specs.declared.nodes.Nodes.{Nodes}
use Rattle.plan.specs.Steps.{refused-on}
use Rattle.build_from.specs.Clause.{ClauseRoom, clause-room, ClauseBuilds}
use Rattle.stage.specs.declared.Stage.{Stage}
use Rattle.build_statement.specs.Plans.{Plans}
use Rattle.build_select.specs.Held.{SelectRoom, room-kept, plans-refused, plans-after}
use Rattle.build_select.specs.States.{FromState}

-- the numbers stand for a catalog and a SELECT that were read from the texts c and q, whose sections stay as they are when
-- rows behind the statement's are written, and there is room for a plan
pub record SelectReady (c q : Bytes) (tables cells froms parts area : List ℕ) (nodes : Nodes) : Type 0 where
  pub within : TextsWithin c q (catalog_at c q tables) (Ast.select (select_at c q cells froms parts))
  pub stay : SectionsStay q cells parts
  pub free : SelectRoom (select_at c q cells froms parts) area nodes
  pub none : nodes.used ≡ 0

module _ {c q : Bytes} {tables cells froms parts area : List ℕ} {nodes : Nodes}
    (h : SelectReady c q tables cells froms parts area nodes) {rows : ℕ} (hr : rows ≡ from_rows parts) where
  abbrev d : Select
  d = select_at c q cells froms parts

  from_is : d.from ≡ froms_at c q cells froms rows
  unfolding select_at select_of
  from_is = rw hr

  from-fits : FromFits d.from (length nodes.numbers.now)
  from-fits = record { row = omega (arith, h.free.fits.row, h.free.later); tables = omega (arith, h.free.fits.tables, h.free.later) }

  pub source-room : ClauseRoom c q tables (froms_at c q cells froms rows) area nodes
  source-room = clause-room d h.within from_is h.free.area_room from-fits h.free.most h.none

  pub source-stop : {area₁ : List ℕ} {nodes₁ : Nodes} {w : Refusal}
      → ClauseBuilds c q tables cells (froms_at c q cells froms rows) area nodes area₁ nodes₁ (Err w)
      → Plans (build_select (catalog_at c q tables) d) area area₁ (Err w)
  source-stop b = plans-refused (refused-on (rw from_is b.is) (stages.from-refused (catalog_at c q tables) d)) b.kept

  module _ {area₁ : List ℕ} {nodes₁ : Nodes} {x : Stage}
      (b : ClauseBuilds c q tables cells (froms_at c q cells froms rows) area nodes area₁ nodes₁ (Ok x)) where
    pub source-state : FromState c q cells parts x.scope x.at area₁ nodes₁
    source-state =
        let a = b.is in
        record {
          catalog = catalog_at c q tables;
          froms = froms;
          stage = stage_of a.node (scope_of (tree_at c q cells) c q x.scope);
          past = record { few = select-few h.within; limited = select-counts h.within; is = rw from_is a.is };
          scoped = record { valid = a.valid; hidden = omega (arith, a.plain.shown); is = refl };
          plain = a.plain;
          labels = a.labelled;
          qualified = a.qualified;
          within = record { short = h.within.short_statement; parts = select-parts h.within };
          stay = h.stay;
          held = record {
            area₀ = area;
            nodes₀ = nodes;
            standing = a.standing;
            free = room-kept h.free b.kept b.kept-nodes;
          };
        }

    pub source-plans : {area₂ : List ℕ} {r : Written}
        → Plans (select_items (select_at c q cells source-state.froms parts) source-state.stage) area₁ area₂ r
        → Plans (build_select (catalog_at c q tables) d) area area₂ r
    unfolding source-state
    source-plans p = plans-after {area' = area₁} b.kept
        (stages.from_step (catalog_at c q tables) d _ source-state.past.is) p
