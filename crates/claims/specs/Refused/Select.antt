-- Which refusals are possible for a SELECT, by document 01's numbers.
use Rattle.std.specs.Prelude.{ℕ, ◌+◌, ◌-◌, refl, ◌&&◌, List, [], ◌∷◌, ◌++◌, eqb, ltb, length, pos, negsuc}
use Rattle.std.proofs.Math.Option.{Option, none, some}
use Rattle.rules.specs.Refusals.{statement, Reason, refusal_number, limit_passed, duplicate_table, unknown_function}
use Rattle.rules.specs.Refusals.{argument_count, nested_aggregate, star_without_from, having_without_aggregate, invalid_offset}
use Rattle.rules.specs.Refusals.{invalid_limit, Answer, refuse}
use Rattle.rules.specs.Limits.{most_columns}
use Rattle.rules.specs.Lists.{any, is_empty, is_some, named}
use Rattle.rules.specs.Schema.{Value, null, bool, int, float, text, Catalog}
use Rattle.rules.specs.Ast.{Expr, Exprs, nil, cons, line_of, From, Item, Key, Clause, Select}
use Rattle.rules.specs.Ast as Ast
use Rattle.rules.specs.Views.{Call, as_star, as_call}
use Rattle.rules.specs.Plan.{Built, Aggregate, Node, column_count, labels}
use Rattle.rules.specs.Plan as P
use Rattle.rules.specs.Scope.{Scope, empty, width, shares}
use Rattle.rules.specs.BuildExpression.{clause_expr, constant}
use Rattle.rules.specs.Stage.{Stage}
use Rattle.rules.specs.BuildFrom.{Source, merge_into, is_right, build_sides, build_join, build_from, build_later_items}
use Rattle.rules.specs.BuildFrom.{build_from_clause}
use Rattle.rules.specs.BuildAggregate.{aggregates, contains, is_count, argument, aggregate_of, build_function}
use Rattle.rules.specs.BuildAggregate.{retain_groups, retain_functions, build_aggregate, aggregated, build_groups}
use Rattle.rules.specs.Items.{plain_star, is_lone, expanded_items, stars_have_columns, build_items}
use Rattle.rules.specs.Hidden.{HiddenColumn, projected}
use Rattle.rules.specs.BuildSelect.{build_where, later_of, functions_of, item_built, project_items, build_projection}
use Rattle.rules.specs.BuildSelect.{build_having, key_built, build_order, natural, build_rows, build_select}
use Rattle.claims.specs.Refused.Refuses.{Refuses, accepted, first, each-refuses, if-refuses, Has, Among}
use Rattle.claims.specs.Refused.Refuses.{among-more, refuse-among, if-among, limit-among as most-among}
use Rattle.claims.specs.Refused.Expressions.{any_scope, build-any, option-among, constant_numbers, constant-among}
use Rattle.claims.specs.Refused.Statements.{table-among}

-- FROM
abbrev from_numbers : List ℕ
from_numbers = 3 ∷ 5 ∷ 6 ∷ 7 ∷ 8 ∷ 9 ∷ 10 ∷ 11 ∷ 12 ∷ 13 ∷ 29 ∷ []

merge-among : (s : Scope) (f : Source) → Refuses (merge_into s f) (Among statement from_numbers)
unfolding merge_into refusal_number any
merge-among s f =
    first (if-among (shares s.tables f.scope.tables) duplicate_table f.line refl) λ u e.
    first (if-among (ltb most_columns (width s + width f.scope)) limit_passed f.line refl) λ v e₁.
    accepted

sides-among : (p : Option Expr) {a b : Answer Source} → Refuses a (Among statement from_numbers)
    → Refuses b (Among statement from_numbers)
    → Refuses (build_sides p a b) (Among statement from_numbers)
unfolding build_sides any
sides-among p h g =
    first h λ a e.
    first (merge-among empty a) λ s e₁.
    first g λ b e₂.
    first (merge-among s b) λ t e₃.
    first (among-more refl (option-among t (build-any t) p)) λ x e₄.
    accepted

from-among : (c : Catalog) (f : From) → Refuses (build_from c f) (Among statement from_numbers)
unfolding build_from build_join any
from-among c (Ast.table l n a) = first (among-more refl (table-among c l n)) λ t e. accepted
from-among c (Ast.join l j a b p) = if-refuses (is_right j)
    (first (sides-among p (from-among c b) (from-among c a)) λ d e. accepted)
    (first (sides-among p (from-among c a) (from-among c b)) λ d e. accepted)

later-among : (c : Catalog) (fs : List From) (r : Stage)
    → Refuses (build_later_items c fs r) (Among statement from_numbers)
unfolding build_later_items
later-among c [] r = accepted
later-among c (f ∷ fs) r =
    first (from-among c f) λ g e. first (merge-among r.scope g) λ t e₁. later-among c fs _

clause-among : (c : Catalog) (fs : List From) → Refuses (build_from_clause c fs) (Among statement from_numbers)
unfolding build_from_clause
clause-among c [] = accepted
clause-among c (f ∷ fs) = first (from-among c f) λ g e. first (merge-among empty g) λ t e₁. later-among c fs _

-- ITEMS
pub stars-among : (o : Option ℕ) (w : ℕ) → Refuses (stars_have_columns o w) (Among statement (16 ∷ []))
unfolding stars_have_columns refusal_number any
stars-among none w = accepted
stars-among (some l) w = if-among (eqb w 0) star_without_from l refl

items-among : (q : Select) (n : Node Built) → Refuses (build_items q n) (Among statement (3 ∷ 16 ∷ []))
unfolding build_items any
items-among q n =
    first (among-more refl (stars-among (plain_star q.items) (column_count n))) λ u e.
    first (most-among most_columns (λ (i : Item). i.line) (expanded_items q (labels n)) refl) λ v e₁.
    accepted

-- WHERE
pub where-among : (f : Stage) (o : Option Clause) → Refuses (build_where f o) (Among statement any_scope)
unfolding build_where
where-among f o = first (option-among f.scope (build-any f.scope) (clause_expr o)) λ x e. accepted

-- GROUPS AND AGGREGATES
abbrev pub function_numbers : List ℕ
function_numbers = 7 ∷ 8 ∷ 9 ∷ 10 ∷ 11 ∷ 12 ∷ 13 ∷ 14 ∷ 15 ∷ 29 ∷ []

abbrev group_numbers : List ℕ
group_numbers = 3 ∷ function_numbers

aggregate-among : (s : Scope) (l : ℕ) (g : Aggregate) (as' : Exprs)
    → Refuses (aggregate_of s l g as') (Among statement function_numbers)
unfolding aggregate_of argument refusal_number any
aggregate-among s l g nil = refuse-among argument_count l refl
aggregate-among s l g (cons a (cons b bs)) = refuse-among argument_count l refl
aggregate-among s l g (cons a nil) =
    first (if-among (contains a) nested_aggregate l refl) λ u e.
    first (if-refuses (is_count g && is_some (as_star a)) accepted (among-more refl (build-any s a))) λ x e₁.
    accepted

pub function-among : (s : Scope) (e : Expr) → Refuses (build_function s e) (Among statement function_numbers)
unfolding build_function refusal_number any
function-among s e = called (as_call e)
  where
    known : (c : Call) (o : Option Aggregate) → Refuses {A = Aggregate × Built} (elim o [
      | none ↦ refuse unknown_function (line_of e)
      | some g ↦ aggregate_of s (line_of e) g c.arguments
    ]) (Among statement function_numbers)
    known c none = refuse-among unknown_function (line_of e) refl
    known c (some g) = aggregate-among s (line_of e) g c.arguments

    called : (o : Option Call) → Refuses {A = Aggregate × Built} (elim o [
      | none ↦ refuse unknown_function (line_of e)
      | some c ↦ elim (named aggregates c.name.bytes) [
        | none ↦ refuse unknown_function (line_of e)
        | some g ↦ aggregate_of s (line_of e) g c.arguments
      ]
    ]) (Among statement function_numbers)
    called none = refuse-among unknown_function (line_of e) refl
    called (some c) = known c (named aggregates c.name.bytes)

groups-among : (f : Stage) (gs fs : List Expr) → Refuses (build_groups f gs fs) (Among statement group_numbers)
unfolding build_groups build_aggregate any
groups-among f gs fs =
    let xs = (retain_groups f.scope gs).exprs in
    let ys = (retain_functions f.scope gs fs).exprs in
    if-refuses (aggregated gs fs)
    (first (among-more refl (each-refuses (build-any f.scope) xs)) λ bs e.
    first (among-more refl (each-refuses (function-among f.scope) ys)) λ as' e₁.
    first (most-among most_columns line_of (xs ++ ys) refl) λ u e₂.
    accepted)
    accepted

-- PROJECTION
abbrev item_numbers : List ℕ
item_numbers = 3 ∷ 7 ∷ 8 ∷ 9 ∷ 10 ∷ 11 ∷ 12 ∷ 13 ∷ 29 ∷ []

projection-among : (f : Stage) (is' : List Item) (later : List Expr)
    → Refuses (build_projection f is' later) (Among statement item_numbers)
unfolding build_projection project_items item_built any
projection-among f is' later =
    let hs = (projected f.scope is' later).columns in
    if-refuses (is_lone is') accepted
    (first (among-more refl (each-refuses (λ i. first (build-any f.scope i.expr) λ x e. accepted) is')) λ xs e.
    first (most-among (most_columns - length is') (λ (c : HiddenColumn). c.line) hs refl) λ u e₁.
    accepted)

-- HAVING AND ORDER
abbrev having_numbers : List ℕ
having_numbers = 7 ∷ 8 ∷ 9 ∷ 10 ∷ 11 ∷ 12 ∷ 13 ∷ 17 ∷ 29 ∷ []

pub having-among : (n : Node Built) (o : Option Clause) (s : Scope)
    → Refuses (build_having n o s) (Among statement having_numbers)
unfolding build_having refusal_number any
having-among n none s = accepted
having-among n (some c) s =
    first (if-among (is_empty s.aggregates) having_without_aggregate c.line refl) λ u e.
    first (among-more refl (build-any s c.expr)) λ x e₁.
    accepted

pub order-among : (n : Node Built) (ks : List Key) (s : Scope) → Refuses (build_order n ks s) (Among statement any_scope)
unfolding build_order key_built
order-among n [] s = accepted
order-among n (k ∷ ks) s =
    first (each-refuses (λ k₁. first (build-any s k₁.expr) λ x e. accepted) (k ∷ ks)) λ xs e. accepted

-- OFFSET AND LIMIT
natural-among : {ns : List ℕ} (r : Reason) (l : ℕ) (v : Value) → Has ns (refusal_number r)
    → Refuses (natural r l v) (Among statement ns)
unfolding natural
natural-among r l null h = refuse-among r l h
natural-among r l (bool b) h = refuse-among r l h
natural-among r l (int (pos n)) h = accepted
natural-among r l (int (negsuc n)) h = refuse-among r l h
natural-among r l (float b) h = refuse-among r l h
natural-among r l (text w) h = refuse-among r l h

rows-among : {ns : List ℕ} (r : Reason) (f : ℕ → Node Built → Node Built) (n : Node Built) (o : Option Clause)
    → Has ns (refusal_number r)
    → ((e : Expr) → Refuses (constant e) (Among statement ns)) → Refuses (build_rows r f n o) (Among statement ns)
unfolding build_rows
rows-among r f n none h k = accepted
rows-among r f n (some c) h k = first (k c.expr) λ v e. first (natural-among r c.line v h) λ m e₁. accepted

pub offset-among : (n : Node Built) (o : Option Clause)
    → Refuses (build_rows invalid_offset (λ k m. P.offset m k) n o) (Among statement (18 ∷ constant_numbers))
unfolding refusal_number any
offset-among n o = rows-among invalid_offset _ n o refl λ e. among-more refl (constant-among e)

pub limit-among : (n : Node Built) (o : Option Clause)
    → Refuses (build_rows invalid_limit (λ k m. P.limit m k) n o) (Among statement (19 ∷ constant_numbers))
unfolding refusal_number any
limit-among n o = rows-among invalid_limit _ n o refl λ e. among-more refl (constant-among e)

-- SELECT
pub select-refusals : (c : Catalog) (q : Select)
    → Refuses (build_select c q) (Among statement (
    3 ∷ 5 ∷ 6 ∷ 7 ∷ 8 ∷ 9 ∷ 10 ∷ 11 ∷ 12 ∷ 13 ∷ 14 ∷ 15 ∷ 16 ∷ 17 ∷ 18 ∷ 19 ∷ 25 ∷ 26 ∷ 27 ∷ 28 ∷ 29 ∷ []))
unfolding build_select any
select-refusals c q =
    first (among-more refl (clause-among c q.from)) λ f e.
    first (among-more refl (items-among q f.node)) λ is' e₁.
    first (among-more refl (where-among f q.filter)) λ w e₂.
    first (among-more refl (groups-among w q.group (functions_of is' (later_of q)))) λ a e₃.
    first (among-more refl (projection-among a is' (later_of q))) λ p e₄.
    first (among-more refl (having-among p.node q.having p.scope)) λ h e₅.
    first (among-more refl (order-among h q.order p.scope)) λ o e₆.
    first (among-more refl (offset-among o q.offset)) λ n e₇.
    first (among-more refl (limit-among n q.limit)) λ m e₈.
    accepted
