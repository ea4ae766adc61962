-- SELECT from each clause on: an accepted clause goes on to the next, a refused one ends the whole.
use Rattle.std.specs.Prelude.{◌≡◌, List}
use Rattle.rules.specs.Refusals.{Refusal, Answer, ok, refused, ◌>>=◌, invalid_offset, invalid_limit}
use Rattle.rules.specs.Schema.{Catalog}
use Rattle.rules.specs.Ast.{Item, Select}
use Rattle.rules.specs.Plan.{Built, Node, Plan}
use Rattle.rules.specs.Plan as P
use Rattle.rules.specs.Stage.{Stage}
use Rattle.rules.specs.BuildAggregate.{build_groups}
use Rattle.rules.specs.BuildFrom.{build_from_clause}
use Rattle.rules.specs.Items.{build_items}
use Rattle.rules.specs.BuildSelect.{build_where, later_of, functions_of, build_projection, build_having, build_order}
use Rattle.rules.specs.BuildSelect.{build_rows, build_remap, build_select}
use Rattle.appends.specs.Answers.{bind_ok, bind-refused}

-- build_select from a clause on, over what the clauses before it gave
module _ (q : Select) where
  unfoldable pub select_remap : Stage → Node Built → Answer (Plan Built)
  select_remap p m = ok (P.select (build_remap m p.scope))

  unfoldable pub select_limit : Stage → Node Built → Answer (Plan Built)
  select_limit p n = do
    m ← build_rows invalid_limit (λ k t. P.limit t k) n q.limit
    select_remap p m

  unfoldable pub select_offset : Stage → Node Built → Answer (Plan Built)
  select_offset p o = do
    n ← build_rows invalid_offset (λ k t. P.offset t k) o q.offset
    select_limit p n

  unfoldable pub select_order : Stage → Node Built → Answer (Plan Built)
  select_order p h = do
    o ← build_order h q.order p.scope
    select_offset p o

  unfoldable pub select_having : Stage → Answer (Plan Built)
  select_having p = do
    h ← build_having p.node q.having p.scope
    select_order p h

  unfoldable pub select_projection : List Item → Stage → Answer (Plan Built)
  select_projection is' a = do
    p ← build_projection a is' (later_of q)
    select_having p

  unfoldable pub select_groups : List Item → Stage → Answer (Plan Built)
  select_groups is' w = do
    a ← build_groups w q.group (functions_of is' (later_of q))
    select_projection is' a

  unfoldable pub select_where : Stage → List Item → Answer (Plan Built)
  select_where f is' = do
    w ← build_where f q.filter
    select_groups is' w

  unfoldable pub select_items : Stage → Answer (Plan Built)
  select_items f = do
    is' ← build_items q f.node
    select_where f is'

-- FROM
module _ (c : Catalog) (q : Select) where
  pub from_step : (f : Stage) → build_from_clause c q.from ≡ ok f → build_select c q ≡ select_items q f
  unfolding build_select select_items select_where select_groups select_projection select_having select_order select_offset
      select_limit select_remap
  from_step f e = bind_ok _ _ f e

  pub from-refused : (r : Refusal) → build_from_clause c q.from ≡ refused r → build_select c q ≡ refused r
  unfolding build_select
  from-refused r e = bind-refused _ _ r e

-- THE LATER CLAUSES
module _ (q : Select) where
  pub items-step : (f : Stage) (is' : List Item) → build_items q f.node ≡ ok is'
      → select_items q f ≡ select_where q f is'
  unfolding select_items
  items-step f is' e = bind_ok _ _ is' e

  pub items_refused : (f : Stage) (r : Refusal) → build_items q f.node ≡ refused r
      → select_items q f ≡ refused r
  unfolding select_items
  items_refused f r e = bind-refused _ _ r e

  pub where-step : (f : Stage) (is' : List Item) (w : Stage) → build_where f q.filter ≡ ok w
      → select_where q f is' ≡ select_groups q is' w
  unfolding select_where
  where-step f is' w e = bind_ok _ _ w e

  pub where-refused : (f : Stage) (is' : List Item) (r : Refusal) → build_where f q.filter ≡ refused r
      → select_where q f is' ≡ refused r
  unfolding select_where
  where-refused f is' r e = bind-refused _ _ r e

  pub groups-step : (is' : List Item) (w a : Stage) → build_groups w q.group (functions_of is' (later_of q)) ≡ ok a
      → select_groups q is' w ≡ select_projection q is' a
  unfolding select_groups
  groups-step is' w a e = bind_ok _ _ a e

  pub groups-refused : (is' : List Item) (w : Stage) (r : Refusal)
      → build_groups w q.group (functions_of is' (later_of q)) ≡ refused r → select_groups q is' w ≡ refused r
  unfolding select_groups
  groups-refused is' w r e = bind-refused _ _ r e

  pub projection-step : (is' : List Item) (a p : Stage) → build_projection a is' (later_of q) ≡ ok p
      → select_projection q is' a ≡ select_having q p
  unfolding select_projection
  projection-step is' a p e = bind_ok _ _ p e

  pub projection-refused : (is' : List Item) (a : Stage) (r : Refusal) → build_projection a is' (later_of q) ≡ refused r
      → select_projection q is' a ≡ refused r
  unfolding select_projection
  projection-refused is' a r e = bind-refused _ _ r e

  pub having-step : (p : Stage) (h : Node Built) → build_having p.node q.having p.scope ≡ ok h
      → select_having q p ≡ select_order q p h
  unfolding select_having
  having-step p h e = bind_ok _ _ h e

  pub having-refused : (p : Stage) (r : Refusal) → build_having p.node q.having p.scope ≡ refused r
      → select_having q p ≡ refused r
  unfolding select_having
  having-refused p r e = bind-refused _ _ r e

  pub order-step : (p : Stage) (h o : Node Built) → build_order h q.order p.scope ≡ ok o
      → select_order q p h ≡ select_offset q p o
  unfolding select_order
  order-step p h o e = bind_ok _ _ o e

  pub order-refused : (p : Stage) (h : Node Built) (r : Refusal) → build_order h q.order p.scope ≡ refused r
      → select_order q p h ≡ refused r
  unfolding select_order
  order-refused p h r e = bind-refused _ _ r e

  pub offset_step : (p : Stage) (o n : Node Built)
      → build_rows invalid_offset (λ k t. P.offset t k) o q.offset ≡ ok n → select_offset q p o ≡ select_limit q p n
  unfolding select_offset
  offset_step p o n e = bind_ok _ _ n e

  pub offset-refused : (p : Stage) (o : Node Built) (r : Refusal)
      → build_rows invalid_offset (λ k t. P.offset t k) o q.offset ≡ refused r → select_offset q p o ≡ refused r
  unfolding select_offset
  offset-refused p o r e = bind-refused _ _ r e

  pub limit-step : (p : Stage) (n m : Node Built) → build_rows invalid_limit (λ k t. P.limit t k) n q.limit ≡ ok m
      → select_limit q p n ≡ select_remap q p m
  unfolding select_limit
  limit-step p n m e = bind_ok _ _ m e

  pub limit-refused : (p : Stage) (n : Node Built) (r : Refusal)
      → build_rows invalid_limit (λ k t. P.limit t k) n q.limit ≡ refused r → select_limit q p n ≡ refused r
  unfolding select_limit
  limit-refused p n r e = bind-refused _ _ r e
