-- The projection, HAVING, ORDER, OFFSET, LIMIT and the last remap keep a SELECT's node bounded.
use Rattle.std.specs.Prelude.{ℕ, zero, suc, ◌+◌, ◌-◌, ◌≡◌, refl, Bool, true, false, List, [], ◌∷◌, ◌++◌, map, eqb, length}
use Rattle.std.proofs.Common.{arith, ap, ◌∙◌, length-append}
use Rattle.std.proofs.Math.Option.{Option, none, some}
use Rattle.std.proofs.lemmas.List.{length-map}
use Rattle.rules.specs.Refusals.{Reason, refuse_if, at_most, having_without_aggregate, invalid_offset, invalid_limit}
use Rattle.rules.specs.Limits.{most_columns}
use Rattle.rules.specs.Lists.{any, is_empty}
use Rattle.rules.specs.Lines.{Word}
use Rattle.rules.specs.Schema.{Catalog}
use Rattle.rules.specs.Ast.{Expr, Item, Key, Clause, Select}
use Rattle.rules.specs.Plan.{Built, Node, column_count}
use Rattle.rules.specs.Plan as P
use Rattle.rules.specs.Scope.{Scope, width, targets_from, remap_hidden}
use Rattle.rules.specs.BuildExpression.{build, each, constant}
use Rattle.rules.specs.Stage.{Stage}
use Rattle.rules.specs.BuildAggregate.{build_groups}
use Rattle.rules.specs.BuildFrom.{build_from_clause}
use Rattle.rules.specs.Items.{is_lone, build_items}
use Rattle.rules.specs.Hidden.{HiddenColumn, Hidden, projected}
use Rattle.rules.specs.BuildSelect.{build_where, item_built, hidden_built, project_items, build_projection, build_having}
use Rattle.rules.specs.BuildSelect.{key_built, build_order, natural, build_rows, build_remap, build_select}
use Rattle.claims.specs.Answers.{Ensures, then, All, all_append, all_map, each-ensures, past}
use Rattle.claims.specs.Cases.{tested}
use Rattle.claims.specs.Widths.Below.{Below}
use Rattle.claims.specs.Widths.Scopes.{Wide, wide-width, wide_is}
use Rattle.claims.specs.Widths.Bounded.{Bounded, PlanBounded, BoundedStage, stage-wide, wide-build}
use Rattle.claims.specs.Widths.FromStages.{from-stage, where-stage, group-stage}
use Rattle.claims.specs.Widths.HiddenStages.{HiddenStage, projected-stage}

-- ITEMS
item-below : (w : ℕ) (s : Scope) (i : Item) → Wide w s → Ensures (item_built s i) (λ x. Below w x.0)
unfolding item_built
item-below w s i h = then (build s i.expr) _ _ _ (wide-build w s i.expr h) λ b p. p

project-stage : (f : Stage) (k : ℕ) (xs : List (Built × Option Word)) (d : Hidden) → BoundedStage f
    → All (λ x. Below (column_count f.node) x.0) xs → length xs ≡ k → HiddenStage k (column_count f.node) d
    → BoundedStage (record { node = P.project f.node (xs ++ map hidden_built d.columns); scope = d.scope })
unfolding BoundedStage HiddenStage Bounded column_count hidden_built Below
project-stage f k xs d h hx e hd = (
  (h.0, all_append _ xs _ hx (all_map _ hidden_built _ (λ c p. p) d.columns hd.1)),
  wide_is (k + length d.columns) _ _ (rw (length-append, length-map) (omega arith)) hd.0,
)

items-stage : (f : Stage) (is' : List Item) (later : List Expr) → BoundedStage f
    → Ensures (project_items f is' later) BoundedStage
unfolding project_items
items-stage f is' later h =
    let w = column_count f.node in
    let s = f.scope in
    let d = projected s is' later in
    then (each (item_built s) is') _ _ _
    (each-ensures (item_built s) _ (λ i. item-below w s i (stage-wide f h)) is') λ xs hx.
    past (at_most (most_columns - length is') (λ (c : HiddenColumn). c.line) d.columns) _ _ λ u.
    project-stage f (length is') xs d h hx.0 hx.1 (projected-stage w s is' later (stage-wide f h))

pub projection-stage : (f : Stage) (is' : List Item) (later : List Expr) → BoundedStage f
    → Ensures (build_projection f is' later) BoundedStage
unfolding build_projection
projection-stage f is' later h = tested (is_lone is') _ _ _ h (items-stage f is' later h)

-- HAVING AND ORDER
-- a node with a scope
abbrev Under : Scope → Node Built → Type 0
Under s n = BoundedStage (record { node = n; scope = s })

having-stage : (n : Node Built) (c : Option Clause) (s : Scope) → Under s n → Ensures (build_having n c s) (Under s)
unfolding build_having BoundedStage Bounded column_count
having-stage n none s h = h
having-stage n (some c) s h =
    past (refuse_if (is_empty s.aggregates) having_without_aggregate c.line) _ _ λ u.
    then (build s c.expr) _ _ _ (wide-build (column_count n) s c.expr h.1) λ x p. ((h.0, p), h.1)

key_below : (w : ℕ) (s : Scope) (k : Key) → Wide w s → Ensures (key_built s k) (λ x. Below w x.0)
unfolding key_built
key_below w s k h = then (build s k.expr) _ _ _ (wide-build w s k.expr h) λ b p. p

order-stage : (n : Node Built) (ks : List Key) (s : Scope) → Under s n → Ensures (build_order n ks s) (Under s)
unfolding build_order BoundedStage Bounded column_count
order-stage n [] s h = h
order-stage n (k ∷ ks) s h =
    then (each (key_built s) (k ∷ ks)) _ _ _
    (each-ensures (key_built s) _ (λ j. key_below (column_count n) s j h.1) (k ∷ ks)) λ xs hx.
    ((h.0, hx.0), h.1)

-- OFFSET AND LIMIT
rows-stage : (r : Reason) (f : ℕ → Node Built → Node Built) (s : Scope)
    → ((k : ℕ) (n : Node Built) → Under s n → Under s (f k n))
    → (n : Node Built) (c : Option Clause) → Under s n → Ensures (build_rows r f n c) (Under s)
unfolding build_rows
rows-stage r f s k n none h = h
rows-stage r f s k n (some c) h =
    past (constant c.expr) _ _ λ v.
    past (natural r c.line v) _ _ λ m. k m n h

offset-stage : (s : Scope) (k : ℕ) (n : Node Built) → Under s n → Under s (P.offset n k)
unfolding BoundedStage Bounded column_count
offset-stage s k n h = h

limit-stage : (s : Scope) (k : ℕ) (n : Node Built) → Under s n → Under s (P.limit n k)
unfolding BoundedStage Bounded column_count
limit-stage s k n h = h

-- REMAP
pub targets-length : (hs : List ℕ) (n i t : ℕ) → length (targets_from hs n i t) ≡ n
unfolding targets_from
targets-length hs zero i t = refl
targets-length hs (suc n) i t =
    go (any (eqb i) hs) (targets-length hs n (suc i) t) (targets-length hs n (suc i) (suc t))
  where
    go : (b : Bool) → length (targets_from hs n (suc i) t) ≡ n → length (targets_from hs n (suc i) (suc t)) ≡ n
        → length {A = Option ℕ} (elim b [
          | true ↦ none ∷ targets_from hs n (suc i) t
          | false ↦ some t ∷ targets_from hs n (suc i) (suc t)
        ]) ≡ suc n
    go true p q = ap suc p
    go false p q = ap suc q

-- the last remap, or none
pub remapped : (Q : Node Built → Type 0) (n : Node Built) (s : Scope) → Q n
    → Q (P.remap n (targets_from s.hidden (width s) 0 0)) → Q (build_remap n s)
unfolding build_remap remap_hidden
remapped Q n s h g = go (is_empty s.hidden)
  where
    go : (b : Bool) → Q (elim (elim b as (λ x. Option (List (Option ℕ))) [
      | true ↦ none
      | false ↦ some (targets_from s.hidden (width s) 0 0)
    ]) [ none ↦ n | some ts ↦ P.remap n ts ])
    go true = h
    go false = g

remap-bounded : (n : Node Built) (s : Scope) → Under s n → Bounded (build_remap n s)
unfolding BoundedStage Bounded
remap-bounded n s h =
    remapped Bounded n s h.0 (h.0, targets-length s.hidden (width s) 0 0 ∙ wide-width (column_count n) s h.1)

-- every column number of a SELECT's plan is below the width that its expression reads
pub select-bounded : (c : Catalog) (q : Select) → Ensures (build_select c q) PlanBounded
unfolding build_select
select-bounded c q =
    then (build_from_clause c q.from) _ _ _ (from-stage c q.from) λ f hf.
    past (build_items q f.node) _ _ λ is'.
    then (build_where f q.filter) _ _ _ (where-stage f q.filter hf) λ w hw.
    then (build_groups w q.group _) _ _ _ (group-stage w q.group _ hw) λ a ha.
    then (build_projection a is' _) _ _ _ (projection-stage a is' _ ha) λ p hp.
    let s = p.scope in
    then (build_having p.node q.having s) _ _ _ (having-stage p.node q.having s hp) λ h hh.
    then (build_order h q.order s) _ _ _ (order-stage h q.order s hh) λ o ho.
    then (build_rows invalid_offset (λ k m. P.offset m k) o q.offset) _ _ _
    (rows-stage invalid_offset _ s (offset-stage s) o q.offset ho) λ n hn.
    then (build_rows invalid_limit (λ k m. P.limit m k) n q.limit) _ _ _
    (rows-stage invalid_limit _ s (limit-stage s) n q.limit hn) λ m hm.
    remap-bounded m s hm
