-- The stage of groups and aggregates: what the aggregate node appends and the scope it leaves, or its refusal.
use Prim.Native.Nat.{ℕ, pred, ◌+◌, ◌-◌, ◌≤◌, ◌<◌}
use Rattle.std.proofs.Common.{arith, sym, ap, ◌∙◌, append-nil, length-append}
use Rattle.std.proofs.Math.Numerals.{sub-one}
use Rattle.std.specs.Prelude.{◌≡◌, refl, true, false, List, [], ◌∷◌, ◌++◌, map, length, take, Result, IfOk, Ok, Err}
use Rattle.std.proofs.lemmas.Bool.{false≢true}
use Rattle.std.proofs.lemmas.List.{length-map}
use Rattle.rules.specs.Refusals.{Answer, ◌>>=◌}
use Rattle.rules.specs.Limits.{most_columns, most_entries, most_cells}
use Rattle.rules.specs.Lists.{Bytes, is_empty}
use Rattle.rules.specs.Ast.{Expr, size}
use Rattle.rules.specs.Plan.{Built, Aggregate, Node}
use Rattle.rules.specs.Stage as stages
use Rattle.rules.specs.Scope as rules
use Rattle.rules.specs.Cells.{Cell}
use Rattle.rules.specs.Nodes.{NodeRecord, aggregate}
use Rattle.rules.specs.BuildAggregate.{Retained, retain_groups, retain_functions, aggregated, build_groups}
use Rattle.rules.specs.Sizes.{total}
use Rattle.claims.specs.Count.Totals.{total-map}
use Rattle.appends.specs.From.Laid.{stage_of, StageLaid}
use Rattle.appends.specs.Select.Groups.{groups_none}
use Rattle.numbers.specs.declared.refusals.Refusal.{Refusal}
use Rattle.ast.specs.Table.{tree_at}
use Rattle.ast.specs.Listed.{rows_in, Listed, listed-first}
use Rattle.ast.specs.declared.buffer.Rows.{Rows}
use Rattle.scope.specs.Scopes.{scope_of, Valid, labels_of, table_numbers}
use Rattle.scope.specs.Aggregates.{retain-groups, retain-functions}
use Rattle.scope.specs.AddAggregates.{AggregatesAdded, added-functions}
use Rattle.scope.specs.declared.Scope.{Scope}
use Rattle.sections.specs.Access.{group_kind}
use Rattle.plan.specs.Emits.{Written}
use Rattle.plan.specs.Pushed.{kept-all}
use Rattle.plan.specs.declared.nodes.Nodes.{Nodes}
use Rattle.plan.specs.Steps.{refused-on, Lies, stage-lies, stands-none, stands_one}
use Rattle.build_aggregate.specs.Functions.{step_of}
use Rattle.build_aggregate.specs.Entries.{gave, gave-refused}
use Rattle.build_aggregate.specs.Nodes.{aggregate_step, NodeBuilt}
use Rattle.stage.specs.Stages.{StageBuilt}
use Rattle.stage.specs.declared.Stage.{Stage}
use Rattle.build_groups.specs.Aggregates.{step-parts, stage-built, stage-refused}
use Rattle.build_groups.specs.Rows.{groups_at, functions_at, section_rows, function_rows, group-trees, function-trees}
use Rattle.build_groups.specs.Terms.{retained_groups, retained_functions, GroupsReady, AggregateReady}

-- whether there are groups or functions
pub aggregated-some : (gs fs : List Expr) → 0 < length gs + length fs → aggregated gs fs ≡ true
unfolding aggregated is_empty
aggregated-some [] [] h = absurd (omega arith)
aggregated-some [] (f ∷ fs) h = refl
aggregated-some (g ∷ gs) fs h = refl

pub aggregated-none : (gs fs : List Expr) → length gs + length fs ≡ 0 → aggregated gs fs ≡ false
unfolding aggregated is_empty
aggregated-none [] [] h = refl
aggregated-none [] (f ∷ fs) h = absurd (omega arith)
aggregated-none (g ∷ gs) fs h = absurd (omega arith)

-- the stage over a scope
abbrev pub groups_stage : Bytes → Bytes → List ℕ → Scope → List Expr → List Expr → Node Built → Answer stages.Stage
groups_stage c q cells s gs fs d = build_groups (stage_of d (scope_of (tree_at c q cells) c q s)) gs fs

-- over rows of groups and functions, one at least
abbrev pub StageOver : Bytes → Bytes → List ℕ → Scope → List ℕ → List ℕ → ℕ → ℕ → List ℕ → Nodes → List ℕ → Nodes
    → Result Stage Refusal → Type 0
StageOver c q cells s gs fs n m area u area' v r = 0 < length gs + length fs
    → StageBuilt c q cells (groups_stage c q cells s (map (tree_at c q cells) gs) (map (tree_at c q cells) fs)) n m area u
    area' v r

-- the stage, and where nothing is aggregated the scope as it was
pub record GroupsBuilt (c q : Bytes) (cells : List ℕ) (s : Scope) (gs fs : List Expr) (n m : ℕ) (area : List ℕ)
    (u : Nodes) (area' : List ℕ) (v : Nodes) (r : Result Stage Refusal) : Type 0 where
  pub stage : StageBuilt c q cells (groups_stage c q cells s gs fs) n m area u area' v r
  pub same : aggregated gs fs ≡ false → IfOk r (λ x. x.scope ≡ s)

-- none: all is as it was
pub none-built : (c q : Bytes) (cells : List ℕ) (s : Scope) (gs fs : List Expr) (n m : ℕ) (area : List ℕ)
    (u : Nodes) → Valid s → s.hidden ≤ s.width → u.used ≤ length u.numbers.now → length gs + length fs ≡ 0
    → StageBuilt c q cells (groups_stage c q cells s gs fs) n m area u area u
    (Ok (record { scope = s; at = record { cell = n; node = m } }))
none-built c q cells s gs fs n m area u v h i e = record {
  kept = refl;
  kept-nodes = kept-all u;
  is = record {
    valid = v;
    hidden = h;
    taken = record {
      cells = [];
      records = [];
      lies = λ d cs rs y. rw (append-nil cs, append-nil rs) (stage-lies
          (groups_none 0 0 d cs rs n m y gs fs (scope_of (tree_at c q cells) c q s) (aggregated-none gs fs e)));
      stands = stands-none n area u i;
    };
  };
}

-- the scope and the source said otherwise
lies-as : {a : Answer stages.Stage} {u v : rules.Scope} {cs : List Cell} (rs : List NodeRecord) {i j p m : ℕ}
    (as' : List ℕ) (bs : List (Aggregate × ℕ)) → v ≡ u → j ≡ i
    → StageLaid a u 0 0 cs (rs ++ (aggregate i as' bs ∷ [])) p m
    → Lies (λ d. stage_of d v) a cs (rs ++ (aggregate j as' bs ∷ [])) p m
lies-as rs as' bs e f h = rw (e, f) (stage-lies h)

-- an accepted node has at most the most columns
pub built-few : {c q : Bytes} {cells : List ℕ} (s : Scope) {xs ys : List ℕ} {source n : ℕ}
    {area area' : List ℕ} {u v : Nodes} {p : ℕ}
    → NodeBuilt c q cells (labels_of s) (take s.width s.matches) (table_numbers s) xs ys source n area area' u v (Ok p)
    → length xs + length ys ≤ most_columns
unfolding scope_of
built-few {c} {q} {cells} s {xs} {ys} {n = n} {p = p} b =
    let tree = tree_at c q cells in
    let o = gave p (b.is s.hidden) refl in
    let w = step-parts (scope_of tree c q s) n (map tree xs) (map tree ys) o.cells o.entry.0 o.entry.1 p
    o.is in
    omega (arith, w.few, length-append (map tree xs) (map tree ys), length-map xs tree, length-map ys tree)

-- some: by the node over the rows that are retained
module _ {c q : Bytes} {cells : List ℕ} (s : Scope) (gs fs : List ℕ) (t : 0 < length gs + length fs) (n m : ℕ)
    {xs ys : List ℕ} {source : ℕ} {area area' : List ℕ} {u v : Nodes} {x : Written}
    (b : NodeBuilt c q cells (labels_of s) (take s.width s.matches) (table_numbers s) xs ys source n area area' u v x)
    (eg : xs ≡ retained_groups (tree_at c q cells) gs) (ef : ys ≡ retained_functions (tree_at c q cells) gs fs) where
  abbrev tree : ℕ → Expr
  tree = tree_at c q cells

  abbrev over : rules.Scope
  over = scope_of (tree_at c q cells) c q s

  some-here : aggregated (map tree gs) (map tree fs) ≡ true
  some-here = aggregated-some _ _ (omega (arith, t, length-map gs tree, length-map fs tree))

  -- the step over what the rules retain
  step-here : aggregate_step over n (map tree xs) (map tree ys)
      ≡ aggregate_step over n (retain_groups over (map tree gs)).exprs (retain_functions over (map tree gs) (map tree fs)).exprs
  step-here =
      rw (
        ap (λ (z : Retained). z.exprs) (retain-groups over tree gs),
        ap (λ (z : Retained). z.exprs) (retain-functions over tree gs fs),
        eg,
        ef,
      )

  pub built-refused : {z : Refusal} → x ≡ Err z
      → StageBuilt c q cells (groups_stage c q cells s (map tree gs) (map tree fs)) n m area u area' v (Err z)
  unfolding scope_of
  built-refused {z} e =
      let l = b.is s.hidden in
      record {
        kept = l.emits.kept;
        kept-nodes = l.kept;
        is = λ d cs rs y. refused-on (gave-refused z l e) λ w i.
            stage-refused over (map tree gs) (map tree fs) some-here d cs rs n m y w (sym step-here ∙ i);
      }

  pub built-done : {p : ℕ} → x ≡ Ok p → source ≡ m - 1 → {rows : List ℕ} {r : Scope}
      → rows ≡ retained_groups tree gs ++ retained_functions tree gs fs → AggregatesAdded c q cells s rows r
      → StageBuilt c q cells (groups_stage c q cells s (map tree gs) (map tree fs)) n m area u area' v
      (Ok (record { scope = r; at = record { cell = p; node = m + 1 } }))
  unfolding scope_of step_of ◌>>=◌
  built-done {p} e es er a =
      let l = b.is s.hidden in
      let o = gave p l e in
      let z : source ≡ pred m = es ∙ sub-one m in
      let f = added-functions gs fs a er in
      record {
        kept = l.emits.kept;
        kept-nodes = l.kept;
        is = record {
          valid = a.valid;
          hidden = omega (arith, a.shown);
          taken = record {
            cells = o.cells;
            records = aggregate source o.entry.0 o.entry.1 ∷ [];
            lies = λ d cs rs y. lies-as rs o.entry.0 o.entry.1 f z
                (stage-built over (map tree gs) (map tree fs) some-here d cs rs n m y o.cells o.entry.0 o.entry.1 p (sym step-here ∙ o.is));
            stands = stands_one (aggregate source o.entry.0 o.entry.1)
                (l.emits.cells o.cells p (ap step_of o.is)) (l.numbers o.cells o.entry p o.is);
          };
        };
      }

-- FROM THE SELECT'S ROWS
module _ {c q : Bytes} {cells parts : List ℕ} {s : Scope} {n m : ℕ} {area : List ℕ} {u : Nodes}
    (h : GroupsReady c q cells parts s n m area u) where
  group-rows : map (tree_at c q cells) (section_rows parts group_kind) ≡ groups_at c q cells parts
  group-rows = group-trees c q cells (omega (arith, h.table)) parts

  rows-of-functions : map (tree_at c q cells) (function_rows c q cells parts) ≡ functions_at c q cells parts
  rows-of-functions = function-trees c q cells (omega (arith, h.table)) parts

  groups-number : length (section_rows parts group_kind) ≡ length (groups_at c q cells parts)
  groups-number = sym (length-map (section_rows parts group_kind) (tree_at c q cells)) ∙ ap length group-rows

  functions-number : length (function_rows c q cells parts) ≡ length (functions_at c q cells parts)
  functions-number = sym (length-map (function_rows c q cells parts) (tree_at c q cells)) ∙ ap length rows-of-functions

  -- there is room for the rows
  pub groups-fit : length (section_rows parts group_kind) ≤ most_entries
  groups-fit = omega (arith, groups-number, h.few-groups)

  pub functions-fit : length (function_rows c q cells parts) ≤ most_cells
  functions-fit = omega (arith, functions-number, h.few-functions)

  module _ {g₀ g f₀ f : Rows} (y : g₀.used ≡ 0) (a : Listed (section_rows parts group_kind) g₀ g)
      (z : f₀.used ≡ 0) (b : Listed (function_rows c q cells parts) f₀ f) where
    pub none-stage : g.used + f.used ≡ 0
        → GroupsBuilt c q cells s (groups_at c q cells parts) (functions_at c q cells parts) n m area u area u
        (Ok (record { scope = s; at = record { cell = n; node = m } }))
    none-stage e = record {
      stage = none-built c q cells s _ _ n m area u h.valid h.hidden
          (omega (arith, h.nodes-room)) (omega (arith, e, y, a.used, z, b.used, groups-number, functions-number));
      same = λ v. refl;
    }

    groups-are : rows_in g ≡ section_rows parts group_kind
    groups-are = listed-first y a

    functions-are : rows_in f ≡ function_rows c q cells parts
    functions-are = listed-first z b

    total-groups : total (λ r. size (tree_at c q cells r)) (section_rows parts group_kind) ≡ total size (groups_at c q cells parts)
    total-groups = sym (total-map size (tree_at c q cells) (section_rows parts group_kind)) ∙ ap (total size) group-rows

    total-functions : total (λ r. size (tree_at c q cells r)) (function_rows c q cells parts)
        ≡ total size (functions_at c q cells parts)
    total-functions =
        sym (total-map size (tree_at c q cells) (function_rows c q cells parts)) ∙ ap (total size) rows-of-functions

    pub some-ready : (g.used + f.used ≡ 0 → ⊥) → AggregateReady c q cells s (rows_in g) (rows_in f) n m area u
    some-ready e = rw (groups-are, functions-are) (record {
      valid = h.valid;
      table = h.table;
      some-rows = omega (arith, e, y, a.used, z, b.used);
      few-groups = groups-fit;
      few-functions = functions-fit;
      room = rw (total-groups, total-functions) h.room;
      nodes-room = rw (groups-number, functions-number) h.nodes-room;
      nodes-most = h.nodes-most;
      source = h.source;
      in_use = h.in_use;
    })

    pub some-stage : {area' : List ℕ} {v : Nodes} {r : Result Stage Refusal} → (g.used + f.used ≡ 0 → ⊥)
        → StageBuilt c q cells (groups_stage c q cells s (map (tree_at c q cells) (rows_in g))
        (map (tree_at c q cells) (rows_in f))) n m area u area' v r
        → GroupsBuilt c q cells s (groups_at c q cells parts) (functions_at c q cells parts) n m area u area' v r
    some-stage e x = record {
      stage = rw (groups-are, functions-are, group-rows, rows-of-functions) at x;
      same = λ v. absurd (false≢true (sym v ∙ aggregated-some (groups_at c q cells parts) (functions_at c q cells parts)
          (omega (arith, e, y, a.used, z, b.used, groups-number, functions-number))));
    }
