-- The aggregates of the items: at most as many as their expression cells, and the same when stars are expanded.
use Rattle.std.specs.Prelude.{ℕ, suc, ◌≤◌, ◌≡◌, refl, List, [], ◌∷◌, ◌++◌, map, length}
use Rattle.std.proofs.Common.{arith, ap, append_assoc, length-append}
use Rattle.std.proofs.Math.Option.{Option, none, some}
use Rattle.rules.specs.Ast.{Expr, star, column, literal, call, unary, binary, is, Exprs, nil, cons, size, size_all, Item}
use Rattle.rules.specs.Ast.{Select}
use Rattle.rules.specs.Views.{as_star}
use Rattle.rules.specs.Plan.{Label, nameless, unqualified, qualified}
use Rattle.rules.specs.BuildAggregate.{is_aggregate, collect, collect_all, collect_each}
use Rattle.rules.specs.Items.{starred_column, expand_stars, stars_expand, expanded_items}
use Rattle.rules.specs.BuildSelect.{functions_of}
use Rattle.rules.specs.Sizes.{total}
use Rattle.claims.specs.Cases.{either_way}
use Rattle.std.proofs.lemmas.List.{map-append}

-- HOW MANY
mutual
  unfolding collect size

  pub collect-size : (e : Expr) → length (collect e) ≤ size e
  collect-size (star l) = omega arith
  collect-size (column l t n) = omega arith
  collect-size (literal l v) = omega arith
  collect-size (call l n as') = either_way (λ es. length es ≤ suc (size_all as')) (is_aggregate n.bytes)
      (call l n as' ∷ []) (collect_all as') (omega arith) (omega (arith, collect_all-size as'))
  collect-size (unary l o a) = omega (arith, collect-size a)
  collect-size (binary l o a b) = omega (arith, length-append (collect a) (collect b), collect-size a, collect-size b)
  collect-size (is l a v) = omega (arith, collect-size a)

  collect_all-size : (as' : Exprs) → length (collect_all as') ≤ size_all as'
  collect_all-size nil = omega arith
  collect_all-size (cons a as') =
      omega (arith, length-append (collect a) (collect_all as'), collect-size a, collect_all-size as')

pub collect_each-size : (es : List Expr) → length (collect_each es) ≤ total size es
unfolding collect_each total
collect_each-size [] = omega arith
collect_each-size (e ∷ es) =
    omega (arith, length-append (collect e) (collect_each es), collect-size e, collect_each-size es)

-- STARS
pub collect_each-append : (xs ys : List Expr) → collect_each (xs ++ ys) ≡ collect_each xs ++ collect_each ys
unfolding collect_each
collect_each-append [] ys = refl
collect_each-append (x ∷ xs) ys = rw (collect_each-append xs ys, append_assoc)

star-collects : (e : Expr) (l : ℕ) → as_star e ≡ some l → collect e ≡ []
unfolding collect as_star
star-collects (star k) l h = refl
star-collects (column k t n) l h = refl
star-collects (literal k v) l h = refl
star-collects (call k n as') l h = grind arith
star-collects (unary k o a) l h = grind arith
star-collects (binary k o a b) l h = grind arith
star-collects (is k a v) l h = grind arith

starred-collects : (l : ℕ) (a : Label) → collect (starred_column l a).expr ≡ []
unfolding collect starred_column
starred-collects l nameless = refl
starred-collects l (unqualified n) = refl
starred-collects l (qualified t n) = refl

-- the expressions of items
abbrev pub exprs_of : List Item → List Expr
exprs_of is' = map (λ (i : Item). i.expr) is'

starred-collect : (l : ℕ) (ls : List Label) → collect_each (exprs_of (map (starred_column l) ls)) ≡ []
unfolding collect_each
starred-collect l [] = refl
starred-collect l (a ∷ ls) = rw (starred-collects l a) (starred-collect l ls)

stars-collect : (ls : List Label) (is' : List Item)
    → collect_each (exprs_of (expand_stars ls is')) ≡ collect_each (exprs_of is')
unfolding expand_stars collect_each
stars-collect ls [] = refl
stars-collect ls (i ∷ is') = go (as_star i.expr) refl (stars-collect ls is')
  where
    go : (o : Option ℕ) → as_star i.expr ≡ o → collect_each (exprs_of (expand_stars ls is')) ≡ collect_each (exprs_of is')
        → collect_each (exprs_of (elim o [
          | some l ↦ map (starred_column l) ls ++ expand_stars ls is'
          | none ↦ i ∷ expand_stars ls is'
        ])) ≡ collect i.expr ++ collect_each (exprs_of is')
    go none e h = ap (λ r. collect i.expr ++ r) h
    go (some l) e h =
        rw (
          map-append (λ (j : Item). j.expr) (map (starred_column l) ls) (expand_stars ls is'),
          collect_each-append (exprs_of (map (starred_column l) ls)) (exprs_of (expand_stars ls is')),
          starred-collect l ls,
          star-collects i.expr l e,
        ) h

-- star expansion changes no aggregate
pub stars-functions : (q : Select) (ls : List Label) (later : List Expr)
    → functions_of (expanded_items q ls) later ≡ functions_of q.items later
unfolding functions_of expanded_items
stars-functions q ls later =
    either_way (λ is'. collect_each (exprs_of is' ++ later) ≡ collect_each (exprs_of q.items ++ later)) (stars_expand q)
    (expand_stars ls q.items) q.items
    (rw (
      collect_each-append (exprs_of (expand_stars ls q.items)) later,
      collect_each-append (exprs_of q.items) later,
      stars-collect ls q.items,
    ))
    refl
