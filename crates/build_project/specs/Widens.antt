-- The hidden columns behind a projection's items: the projected scope with them, their cells and their parts.
use Rattle.std.specs.Prelude.{ℕ, ◌+◌, ◌-◌, ◌*◌, ◌≤◌, ◌≡◌, refl, length, take, Result, MatchResult, Ok, Err}
use Rattle.std.proofs.Common.{arith, sym, ◌∙◌, length-take-le}
use Rattle.std.proofs.Math.Path.{ap}
use mathlib.Core.List.{List, [], ◌++◌, map}
use Rattle.std.proofs.lemmas.List.{length-map}
use Rattle.rules.specs.Limits.{most_columns}
use Rattle.rules.specs.Lists.{Bytes}
use Rattle.rules.specs.Cells.{column}
use Rattle.rules.specs.Area.{item_numbers}
use Rattle.rules.specs.Scope as rules
use Rattle.rules.specs.Hidden.{HiddenColumn, Hidden, hidden_of, projected}
use Rattle.rules.specs.BuildSelect.{later_of}
use Rattle.appends.specs.Area.{cells_numbers}
use Rattle.numbers.specs.declared.refusals.Refusal.{Refusal}
use Rattle.ast.specs.Table.{tree_at}
use Rattle.scope.specs.Scopes.{scope_from, scope_of, labels_of, table_numbers, Valid}
use Rattle.scope.specs.declared.Scope.{Scope}
use Rattle.statement.specs.Access.{select_at}
use Rattle.plan.specs.Layout.{cells_end, item_size}
use Rattle.plan.specs.Cells.{Room}
use Rattle.plan.specs.Pushed.{Kept, kept-all, Pushed}
use Rattle.plan.specs.declared.nodes.Nodes.{Nodes}
use Rattle.build_hidden.specs.Terms.{Hides, Exceeds, HiddenAs, HiddenBuilt, shown_of}
use Rattle.build_expression.specs.Builds.{scope_at}
use Rattle.build_projection.specs.Items.{item_of}
use Rattle.build_projection.specs.declared.items.Item as listed
use Rattle.build_project.specs.Ready.{ItemsReady, LaterFew}
use Rattle.build_project.specs.Projected.{ScopeProjected}
use Rattle.build_project.specs.Hidden.{column_parts, ColumnsPut, positions_of}

-- there is room for the hidden columns behind n cells and the numbers of u
pub record HiddenReady (c q : Bytes) (cells parts : List ℕ) (items : List listed.Item) (s : Scope) (n : ℕ) (area : List ℕ) (u : Nodes) : Type 0 where
  pub items-ready : ItemsReady c q cells parts items s
  pub later : LaterFew c q cells parts
  pub room : Room n most_columns area
  pub space : u.used + item_size * (most_columns - length items) ≤ length u.numbers.now

-- the rules' hidden columns
abbrev pub hidden_at : Bytes → Bytes → (cells parts : List ℕ) (items : List listed.Item) → Scope → (froms : List ℕ) → Hidden
hidden_at c q cells parts items s froms = projected (scope_of (tree_at c q cells) c q s) (map (item_of c q cells parts) items)
    (later_of (select_at c q cells froms parts))

-- the scope x with them, their cells from the n-th on, and their parts
pub record Widened (c q : Bytes) (t : List ℕ) (g : Hidden) (w n : ℕ) (area area' : List ℕ) (u v : Nodes) (x : Scope)
    : Type 0 where
  pub scope-is : scope_of (tree_at c q t) c q x ≡ g.scope
  pub few : length g.columns ≤ most_columns - w
  pub count : x.hidden ≡ length g.columns
  pub stand : take (cells_end (n + x.hidden)) area'
      ≡ take (cells_end n) area ++ cells_numbers (map column (positions_of g.columns))
  pub parts : Pushed (item_numbers (column_parts n (positions_of g.columns))) u v

pub record Accepted (c q : Bytes) (cells parts : List ℕ) (items : List listed.Item) (s : Scope) (n : ℕ) (area area' : List ℕ) (u v : Nodes)
    (x : Scope) : Type 0 where
  pub valid : Valid x
  pub hidden : x.hidden ≤ x.width
  pub few : x.hidden ≤ most_columns - length items
  pub widened : (froms : List ℕ) → Widened c q cells (hidden_at c q cells parts items s froms) (length items) n area area'
      u v x

pub record HiddenPut (c q : Bytes) (cells parts : List ℕ) (items : List listed.Item) (s : Scope) (n : ℕ) (area area' : List ℕ) (u v : Nodes)
    (r : Result Scope Refusal) : Type 0 where
  pub kept : length area' ≡ length area
  pub kept-nodes : Kept u v
  pub is : MatchResult r (Accepted c q cells parts items s n area area' u v)
      (λ w. (froms : List ℕ) → Exceeds (hidden_at c q cells parts items s froms) (length items) w)

-- THE HIDDEN COLUMNS
module _ {c q : Bytes} {t parts : List ℕ} {items : List listed.Item} {s : Scope} (f : ItemsReady c q t parts items s) {child : Scope}
    (p : ScopeProjected c q t parts items s child) where
  hidden-same : (froms : List ℕ)
      → hidden_of (scope_at c q t (labels_of s) (take s.width s.matches) (table_numbers s) s.hidden)
      (later_of (select_at c q t froms parts)) (shown_of c q t child) ≡ hidden_at c q t parts items s froms
  unfolding projected scope_of scope_from
  hidden-same froms =
      ap (λ (y : rules.Scope). hidden_of (scope_of (tree_at c q t) c q s) (later_of (select_at c q t froms parts))
      (record { scope = y; columns = [] })) p.is

  abbrev Built : List ℕ → List ℕ → Result Scope Refusal → Type 0
  Built positions positions' r = HiddenBuilt c q t parts (labels_of s) (take s.width s.matches) (table_numbers s) child
      positions positions' r

  hidden-as : {positions positions' : List ℕ} (r : Result Scope Refusal) → Built positions positions' r → (froms : List ℕ)
      → HiddenAs c q t child (hidden_at c q t parts items s froms) positions positions' r
  hidden-as r b froms = rw (← hidden-same froms) (b.is froms s.hidden)

  pub hidden-wide : {positions positions' : List ℕ} {w : Refusal} → Built positions positions' (Err w)
      → (n : ℕ) (area : List ℕ) (u : Nodes) → HiddenPut c q t parts items s n area area u u (Err w)
  hidden-wide {w = w} b n area u = record {
    kept = refl;
    kept-nodes = kept-all u;
    is = λ froms. rw (← p.width) ((hidden-as (Err w) b froms).is);
  }

  module _ {positions positions' : List ℕ} {r : Scope} (b : Built positions positions' (Ok r)) where
    pub hidden-few : r.hidden ≤ most_columns - length items
    hidden-few =
        let a = (hidden-as (Ok r) b []).is in
        omega (arith, a.width, a.valid.width, p.width)

    pub hidden-within : length positions ≡ most_columns → r.hidden ≤ length positions'
    hidden-within l = omega (arith, hidden-few, (hidden-as (Ok r) b []).kept, l)

    pub hidden-count : length positions ≡ most_columns → r.hidden ≡ length (take r.hidden positions')
    hidden-count l = sym (length-take-le r.hidden positions' (hidden-within l))

    module _ {n : ℕ} {area : List ℕ} {u : Nodes} (g : HiddenReady c q t parts items s n area u) where
      pub put-ready : length positions ≡ most_columns
          → Room n (length (take r.hidden positions')) area
          × (u.used + item_size * length (take r.hidden positions') ≤ length u.numbers.now)
      put-ready l = rw (← hidden-count l) (
        record {
          counted = omega (arith, hidden-few, g.room.counted);
          held = omega (arith, hidden-few, g.room.held);
        },
        omega (arith, hidden-few, g.space),
      )

    module _ {n : ℕ} {area area' ps : List ℕ} {u v : Nodes} (ex : ps ≡ take r.hidden positions')
        (put : ColumnsPut ps n area area' u v) where
      widen : (g : Hidden) → Hides c q t g positions' r → Widened c q t g (length items) n area area' u v r
      widen g d =
          let ep : positions_of g.columns ≡ ps = d.numbers ∙ sym ex in
          let l : length ps ≡ length g.columns =
          ap length (sym ep) ∙ length-map g.columns (λ (h : HiddenColumn). h.position) in
          let z = length-map ps column in
          let y : n + length (map column ps) ≡ n + r.hidden = omega (arith, z, l, d.count) in
          record {
            scope-is = d.is;
            few = omega (arith, d.count, hidden-few);
            count = omega (arith, d.count);
            stand = rw (ep, ← y) put.cells.cells;
            parts = rw ep put.parts;
          }

      pub hidden-done : HiddenPut c q t parts items s n area area' u v (Ok r)
      hidden-done =
          let a = (hidden-as (Ok r) b []).is in
          record {
            kept = put.cells.kept;
            kept-nodes = put.parts.kept;
            is = record {
              valid = a.valid;
              hidden = omega (arith, a.width);
              few = hidden-few;
              widened = λ froms. widen _ (hidden-as (Ok r) b froms).is.hides;
            };
          }
