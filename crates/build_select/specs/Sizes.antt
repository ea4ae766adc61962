-- Sizes of a SELECT's expressions: its aggregates are parts of the others, and star expansion adds one for each column.
use Rattle.std.specs.Prelude.{ℕ, suc, ◌+◌, ◌≤◌, ◌≡◌, refl, List, [], ◌∷◌, ◌++◌, map, length}
use Rattle.std.proofs.Common.{arith, length-append}
use Rattle.std.proofs.Math.Option.{Option, none, some}
use Rattle.std.proofs.lemmas.List.{length-map}
use Rattle.rules.specs.Ast.{Expr, star, column, literal, call, unary, binary, is, Exprs, nil, cons, size, size_all, Item}
use Rattle.rules.specs.Ast.{Select}
use Rattle.rules.specs.Views.{as_star}
use Rattle.rules.specs.Plan.{Label, nameless, unqualified, qualified}
use Rattle.rules.specs.BuildExpression.{clause_expr}
use Rattle.rules.specs.BuildAggregate.{is_aggregate, collect, collect_all, collect_each}
use Rattle.rules.specs.Items.{starred_column, expand_stars, stars_expand, expanded_items}
use Rattle.rules.specs.BuildSelect.{later_of, functions_of}
use Rattle.rules.specs.Sizes.{total, clause_size, items_size, keys_size}
use Rattle.claims.specs.Cases.{either_way}
use Rattle.claims.specs.Count.Totals.{total-append, total-map}
use Rattle.claims.specs.Count.Uses.{later-total, given-size}
use Rattle.claims.specs.Reading.Capped.{size-positive}

-- AGGREGATES
mutual
  unfolding collect size total

  collect-total : (e : Expr) → total size (collect e) ≤ size e
  collect-total (star l) = omega arith
  collect-total (column l t n) = omega arith
  collect-total (literal l v) = omega arith
  collect-total (call l n as') = either_way (λ es. total size es ≤ suc (size_all as')) (is_aggregate n.bytes)
      (call l n as' ∷ []) (collect_all as') (omega arith) (omega (arith, all-total as'))
  collect-total (unary l o a) = omega (arith, collect-total a)
  collect-total (binary l o a b) =
      omega (arith, total-append size (collect a) (collect b), collect-total a, collect-total b)
  collect-total (is l a v) = omega (arith, collect-total a)

  all-total : (as' : Exprs) → total size (collect_all as') ≤ size_all as'
  all-total nil = omega arith
  all-total (cons a as') =
      omega (arith, total-append size (collect a) (collect_all as'), collect-total a, all-total as')

each-total : (es : List Expr) → total size (collect_each es) ≤ total size es
unfolding collect_each total
each-total [] = omega arith
each-total (e ∷ es) =
    omega (arith, total-append size (collect e) (collect_each es), collect-total e, each-total es)

-- the expressions of HAVING and ORDER
pub later-sizes : (q : Select) → total size (later_of q) ≡ clause_size q.having + keys_size q.order
unfolding keys_size clause_size
later-sizes q = omega (arith, later-total size q, given-size (clause_expr q.having))

pub functions-sizes : (q : Select)
    → total size (functions_of q.items (later_of q)) ≤ items_size q.items + total size (later_of q)
unfolding functions_of items_size
functions-sizes q =
    let es = map (λ (i : Item). i.expr) q.items in
    omega (
      arith,
      each-total (es ++ later_of q),
      total-append size es (later_of q),
      total-map size (λ (i : Item). i.expr) q.items,
    )

-- STARS
starred-size : (l : ℕ) (a : Label) → size (starred_column l a).expr ≡ 1
unfolding starred_column size
starred-size l nameless = refl
starred-size l (unqualified n) = refl
starred-size l (qualified t n) = refl

starred-sizes : (l : ℕ) (ls : List Label)
    → total (λ (i : Item). size i.expr) (map (starred_column l) ls) ≡ length ls
unfolding total
starred-sizes l [] = refl
starred-sizes l (a ∷ ls) = omega (arith, starred-size l a, starred-sizes l ls)

stars-sizes : (ls : List Label) (is' : List Item)
    → items_size (expand_stars ls is') + length is' ≤ items_size is' + length (expand_stars ls is')
unfolding expand_stars items_size total
stars-sizes ls [] = omega arith
stars-sizes ls (i ∷ is') = go (as_star i.expr) (stars-sizes ls is')
  where
    go : (o : Option ℕ) → items_size (expand_stars ls is') + length is' ≤ items_size is' + length (expand_stars ls is')
        → items_size (elim o [
          | some l ↦ map (starred_column l) ls ++ expand_stars ls is'
          | none ↦ i ∷ expand_stars ls is'
        ]) + suc (length is') ≤ size i.expr + items_size is' + length {A = Item} (elim o [
          | some l ↦ map (starred_column l) ls ++ expand_stars ls is'
          | none ↦ i ∷ expand_stars ls is'
        ])
    go none h = omega (arith, h)
    go (some l) h = omega (
      arith,
      h,
      total-append (λ (j : Item). size j.expr) (map (starred_column l) ls) (expand_stars ls is'),
      starred-sizes l ls,
      length-append (map (starred_column l) ls) (expand_stars ls is'),
      length-map ls (starred_column l),
      size-positive i.expr,
    )

pub expanded-sizes : (q : Select) (ls : List Label)
    → items_size (expanded_items q ls) + length q.items ≤ items_size q.items + length (expanded_items q ls)
unfolding expanded_items
expanded-sizes q ls =
    either_way (λ is'. items_size is' + length q.items ≤ items_size q.items + length is') (stars_expand q)
    (expand_stars ls q.items) q.items (stars-sizes ls q.items) (omega arith)

pub expanded-none : (q : Select) (ls : List Label) → q.items ≡ [] → items_size (expanded_items q ls) ≡ 0
unfolding expanded_items expand_stars items_size total
expanded-none q ls e = either_way (λ is'. items_size is' ≡ 0) (stars_expand q) (expand_stars ls q.items) q.items
    (rw e) (rw e)
