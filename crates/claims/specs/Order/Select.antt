-- An accepted SELECT's plan has the expressions of `uses_of`, in its order.
use Rattle.std.specs.Prelude.{ℕ, ◌-◌, ◌≡◌, refl, Bool, true, false, length}
use Rattle.std.proofs.Common.{ap, ◌∙◌}
use mathlib.Core.List.{List, [], ◌∷◌, ◌++◌, map, append_assoc, append-nil}
use Rattle.std.proofs.Math.Option.{Option, none, some}
use Rattle.std.proofs.lemmas.List.{map-append}
use Rattle.std.proofs.lemmas.Simd.{map-map}
use Rattle.rules.specs.Refusals.{ok, ◌>>=◌, Reason, refuse_if, at_most, having_without_aggregate, invalid_offset, invalid_limit}
use Rattle.rules.specs.Limits.{most_columns}
use Rattle.rules.specs.Lists.{given, is_empty, map_option}
use Rattle.rules.specs.Schema.{Catalog}
use Rattle.rules.specs.Ast.{Expr, line_of, Item, Key, Clause, Select}
use Rattle.rules.specs.Plan.{Built, Node, Plan, labels, column_count}
use Rattle.rules.specs.Plan as P
use Rattle.rules.specs.Scope.{Scope, empty, remap_hidden}
use Rattle.rules.specs.BuildExpression.{build, each, build_option, clause_expr, constant}
use Rattle.rules.specs.Stage.{Stage}
use Rattle.rules.specs.BuildAggregate.{build_function, retain_groups, retain_functions, aggregated, build_aggregate, build_groups}
use Rattle.rules.specs.BuildFrom.{build_from_clause}
use Rattle.rules.specs.Items.{is_lone, plain_star, expanded_items, stars_have_columns, build_items}
use Rattle.rules.specs.Hidden.{HiddenColumn, projected}
use Rattle.rules.specs.BuildSelect.{filtered, build_where, later_of, functions_of, item_built, hidden_built, project_items, build_projection}
use Rattle.rules.specs.BuildSelect.{build_having, key_built, build_order, natural, build_rows, build_remap, build_select}
use Rattle.rules.specs.Cells.{expressions, plan_expressions}
use Rattle.rules.specs.Order.{Use, over, argument_of, through, build_use, from_scope, group_scope, item_scope, Reads, reads_of}
use Rattle.rules.specs.Order.{group_uses, item_uses, uses_over, uses_of}
use Rattle.claims.specs.Answers.{Ensures, then, both, past, known, ensures}
use Rattle.claims.specs.Widths.Labels.{from-labels}
use Rattle.claims.specs.Order.Builds.{Builds, builds-one, builds-append, each-builds, all-builds, over-builds, option-builds}
use Rattle.claims.specs.Order.From.{StageLaid, from_clause-laid}

-- the expressions of a SELECT's clauses are built in document 01's order
unfoldable pub InOrder : Catalog → Select → Plan Built → Type 0
InOrder c q p = Builds (uses_of c q) (plan_expressions p)

-- of a node: these uses are built as its expressions
abbrev NodeLaid : List Use → Node Built → Type 0
NodeLaid us n = Builds us (expressions n)

-- WHERE
where-laid : (s : Scope) (us : List Use) (f : Stage) (c : Option Clause) → StageLaid s us f
    → Ensures (build_where f c) (StageLaid s (us ++ map (over s) (given (clause_expr c))))
unfolding build_where
where-laid s us f c h = then (build_option f.scope (clause_expr c)) _ _ _ (option-builds f.scope (clause_expr c)) λ x g.
    record { scoped = h.scoped; builds = rw (← h.scoped) (go x g) }
  where
    go : (x : Option Built) → Builds (map (over f.scope) (given (clause_expr c))) (given x)
        → Builds (us ++ map (over f.scope) (given (clause_expr c))) (expressions (filtered f.node x))
    go none g = unfold filtered given in (rw append-nil at (builds-append us _ _ _ h.builds g))
    go (some x) g = unfold filtered expressions given in (builds-append us _ _ _ h.builds g)

-- GROUPS AND AGGREGATES
function-builds : (s : Scope) (e : Expr) → Ensures (build_function s e) (λ f. build_use (argument_of s e) ≡ ok f.1)
unfolding build_use ◌>>=◌
function-builds s e = ensures (build_function s e) _ λ f h. rw h

groups-laid : (s : Scope) (us : List Use) (f : Stage) (gs fs : List Expr) → StageLaid s us f
    → Ensures (build_groups f gs fs) (StageLaid (group_scope s gs fs) (us ++ group_uses s gs fs))
unfolding build_groups build_aggregate group_scope group_uses
groups-laid s us f gs fs h = rw (← h.scoped) (go (aggregated gs fs))
  where
    t : Scope
    t = f.scope

    go : (b : Bool) → Ensures (elim b [ true ↦ build_aggregate f.node gs fs t | false ↦ ok f ])
        (StageLaid (elim b [ true ↦ (retain_functions t gs fs).scope | false ↦ t ])
        (us ++ (elim b [ true ↦ map (over t) (retain_groups t gs).exprs ++ map (argument_of t) (retain_functions t gs fs).exprs | false ↦ [] ])))
    go false = record { scoped = refl; builds = rw append-nil h.builds }
    go true =
        then (each (build t) (retain_groups t gs).exprs) _ _ _ (over-builds t (retain_groups t gs).exprs) λ xs a.
        then (each (build_function t) (retain_functions t gs fs).exprs) _ _ _
        (each-builds (argument_of t) (build_function t) (λ y. y.1) (function-builds t) (retain_functions t gs fs).exprs) λ ys b.
        past (at_most most_columns line_of ((retain_groups t gs).exprs ++ (retain_functions t gs fs).exprs)) _ _ λ u.
        record { scoped = refl; builds = unfold expressions in (builds-append us _ _ _ h.builds (builds-append _ _ _ _ a b)) }

-- ITEMS
item-builds : (s : Scope) (i : Item) → Ensures (item_built s i) (λ x. build_use (over s i.expr) ≡ ok x.0)
unfolding item_built build_use
item-builds s i = known (build s i.expr) _ _ λ x e. e

hidden-builds : (h : HiddenColumn) → build_use (through h.position) ≡ ok (hidden_built h).0
unfolding build_use hidden_built
hidden-builds h = refl

items-laid : (s : Scope) (us : List Use) (f : Stage) (is' : List Item) (later : List Expr) → StageLaid s us f
    → Ensures (build_projection f is' later) (StageLaid (item_scope s is' later) (us ++ item_uses s is' later))
unfolding build_projection project_items item_scope item_uses
items-laid s us f is' later h = rw (← h.scoped) (go (is_lone is'))
  where
    t : Scope
    t = f.scope

    cs : List HiddenColumn
    cs = (projected t is' later).columns

    go : (b : Bool) → Ensures (elim b [ true ↦ ok f | false ↦ project_items f is' later ])
        (StageLaid (elim b [ true ↦ t | false ↦ (projected t is' later).scope ])
        (us ++ (elim b [ true ↦ [] | false ↦ map (λ (i : Item). over t i.expr) is' ++ map (λ (c : HiddenColumn). through c.position) cs ])))
    go true = record { scoped = refl; builds = rw append-nil h.builds }
    go false =
        then (each (item_built t) is') _ _ _ (each-builds (λ (i : Item). over t i.expr) (item_built t) (λ x. x.0) (item-builds t) is') λ xs a.
        past (at_most (most_columns - length is') (λ (c : HiddenColumn). c.line) cs) _ _ λ u.
        record {
          scoped = refl;
          builds = unfold expressions in (rw (map-append, map-map) (builds-append us _ _ _ h.builds (builds-append _ _ _ _ a
              (all-builds (λ (c : HiddenColumn). through c.position) (λ c. (hidden_built c).0) hidden-builds cs))));
        }

-- HAVING, ORDER, OFFSET AND LIMIT
having-laid : (s : Scope) (us : List Use) (n : Node Built) (c : Option Clause) → NodeLaid us n
    → Ensures (build_having n c s) (NodeLaid (us ++ map (over s) (given (clause_expr c))))
unfolding build_having clause_expr map_option given expressions build_use
having-laid s us n none h = rw append-nil h
having-laid s us n (some c) h =
    past (refuse_if (is_empty s.aggregates) having_without_aggregate c.line) _ _ λ u.
    known (build s c.expr) _ _ λ x e.
    builds-append us _ _ _ h (builds-one (over s c.expr) x e)

key-builds : (s : Scope) (k : Key) → Ensures (key_built s k) (λ x. build_use (over s k.expr) ≡ ok x.0)
unfolding key_built build_use
key-builds s k = known (build s k.expr) _ _ λ x e. e

order-laid : (s : Scope) (us : List Use) (n : Node Built) (ks : List Key) → NodeLaid us n
    → Ensures (build_order n ks s) (NodeLaid (us ++ map (λ (k : Key). over s k.expr) ks))
unfolding build_order expressions
order-laid s us n [] h = rw append-nil h
order-laid s us n (k ∷ ks) h =
    then (each (key_built s) (k ∷ ks)) _ _ _
    (each-builds (λ (j : Key). over s j.expr) (key_built s) (λ x. x.0) (key-builds s) (k ∷ ks)) λ xs a. builds-append us _ _ _ h a

rows-laid : (r : Reason) (f : ℕ → Node Built → Node Built) → ((k : ℕ) (n : Node Built) → expressions (f k n) ≡ expressions n)
    → (us : List Use) (n : Node Built) (c : Option Clause) → NodeLaid us n → Ensures (build_rows r f n c) (NodeLaid us)
unfolding build_rows
rows-laid r f k us n none h = h
rows-laid r f k us n (some c) h =
    past (constant c.expr) _ _ λ v. past (natural r c.line v) _ _ λ m. rw (k m n) h

remap-laid : (us : List Use) (n : Node Built) (s : Scope) → NodeLaid us n → NodeLaid us (build_remap n s)
unfolding build_remap
remap-laid us n s h = go (remap_hidden s)
  where
    go : (o : Option (List (Option ℕ))) → NodeLaid us (elim o [ none ↦ n | some ts ↦ P.remap n ts ])
    go none = h
    go (some ts) = unfold expressions in h

-- THE WHOLE
pub items-known : (q : Select) (n : Node Built) → Ensures (build_items q n) (λ is'. is' ≡ expanded_items q (labels n))
unfolding build_items
items-known q n =
    past (stars_have_columns (plain_star q.items) (column_count n)) _ _ λ u.
    past (at_most most_columns (λ (i : Item). i.line) (expanded_items q (labels n))) _ _ λ v. refl

six : {A : Type 0} (a b c d e f : List A) → ((((a ++ b) ++ c) ++ d) ++ e) ++ f ≡ a ++ (b ++ (c ++ (d ++ (e ++ f))))
six a b c d e f = simp append_assoc

-- the scopes of building are those that statement and catalog give
reads_known : (c : Catalog) (q : Select) (is' : List Item) (p : Scope) → is' ≡ expanded_items q (from_scope c q.from empty).columns
    → p ≡ item_scope (group_scope (from_scope c q.from empty) q.group (functions_of is' (later_of q))) is' (later_of q)
    → ◌≡◌ {A = Reads} (record {
      from = from_scope c q.from empty;
      items = is';
      groups = group_scope (from_scope c q.from empty) q.group (functions_of is' (later_of q));
      projection = p;
    }) (reads_of c q)
unfolding reads_of
reads_known c q is' p hi hp = rw (hp, hi)

pub in_order : (c : Catalog) (q : Select) → Ensures (build_select c q) (InOrder c q)
unfolding build_select InOrder uses_of uses_over plan_expressions expressions
in_order c q =
    then (build_from_clause c q.from) _ _ _ (both (build_from_clause c q.from) _ _ (from_clause-laid c q.from) (from-labels c q.from)) λ f hf.
    then (build_items q f.node) _ _ _ (items-known q f.node) λ is' hi.
    then (build_where f q.filter) _ _ _ (where-laid _ _ f q.filter hf.0) λ w hw.
    then (build_groups w q.group (functions_of is' (later_of q))) _ _ _ (groups-laid _ _ w q.group _ hw) λ a ha.
    then (build_projection a is' (later_of q)) _ _ _ (items-laid _ _ a is' (later_of q) ha) λ p hp.
    then (build_having p.node q.having p.scope) _ _ _ (having-laid p.scope _ p.node q.having hp.builds) λ h hh.
    then (build_order h q.order p.scope) _ _ _ (order-laid p.scope _ h q.order hh) λ o ho.
    then (build_rows invalid_offset (λ k m. P.offset m k) o q.offset) _ _ _ (rows-laid invalid_offset _ (λ k m. refl) _ o q.offset ho) λ n hn.
    then (build_rows invalid_limit (λ k m. P.limit m k) n q.limit) _ _ _ (rows-laid invalid_limit _ (λ k m. refl) _ n q.limit hn) λ m hm.
    let i : is' ≡ expanded_items q (from_scope c q.from empty).columns = hi
    ∙ (ap (expanded_items q) hf.1 ∙ ap (λ (t : Scope). expanded_items q t.columns) hf.0.scoped) in
    rw (← reads_known c q is' p.scope i hp.scoped) (remap-laid _ m p.scope (rw six at hm))
