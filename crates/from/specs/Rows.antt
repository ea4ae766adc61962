-- FROM rows: what the numbers of a row that is written say of the trees of the rows.
use Prim.Native.Nat.{ℕ, zero, suc, ◌+◌, ◌*◌, ◌-◌, ◌≤◌, ◌<◌}
use Rattle.std.proofs.Common.{arith, sym, ◌∙◌}
use Rattle.std.specs.Prelude.{◌≡◌, List, [], ◌∷◌, map, length, get_or}
use Rattle.std.proofs.Math.Path.{refl, ap}
use Rattle.std.proofs.Math.Option.{Option}
use Rattle.std.proofs.lemmas.List.Edits.{sets}
use Rattle.rules.specs.Lists.{Bytes}
use Rattle.rules.specs.Places.{word_at}
use Rattle.rules.specs.Ast.{Expr, Join, cross, inner, left, right, From, table, join}
use Rattle.numbers.specs.Stores.{stored-sets}
use Rattle.numbers.specs.Codes.{coded}
use Rattle.numbers.specs.Kept.{Kept, kept-sets-behind}
use Rattle.ast.specs.Table.{row_size, at}
use Rattle.ast.specs.Names.{name_at}
use Rattle.from.specs.Layout.{size_at, first_at, left_at, roots_in, roots_before, predicate_at, table_by, row_by, table_at}
use Rattle.from.specs.Layout.{row_at, tree_in, from_at, trees_before}
use Rattle.from.specs.Roots.{first-most, left-most, left-all, from_first, from_next, trees-next, sides-of}
use Rattle.from.specs.Records.{join_number}

-- how many rows the two trees have that end before row n: the sides of a join there
unfoldable pub sides_before : List ℕ → ℕ → ℕ
sides_before rows n = n - first_at rows (left_at rows n)

module _ (rows : List ℕ) (n : ℕ) where
  -- by the left one's root and its first row
  pub sides-room : (l f : ℕ) → l ≡ left_at rows n → f ≡ first_at rows l → f ≤ n
  sides-room l f e g = omega (arith, e, g, first-most rows l, left-all rows n)

  pub sides-is : (l f : ℕ) → l ≡ left_at rows n → f ≡ first_at rows l → n - f ≡ sides_before rows n
  unfolding sides_before
  sides-is l f e g = ap (λ x. n - x) (g ∙ ap (first_at rows) e)

  sides-past : n - sides_before rows n ≡ first_at rows (left_at rows n)
  unfolding sides_before
  sides-past = omega (arith, first-most rows (left_at rows n), left-all rows n)

-- ROWS THAT ARE KEPT
module _ (rows rows' : List ℕ) (n : ℕ) (h : Kept 0 (row_size * n) rows rows') where
  at-kept : (r k : ℕ) → r < n → k < 8 → at rows' r k ≡ at rows r k
  at-kept r k l m = unfold at in h.same (row_size * r + k) (omega arith) (omega arith)

  first-kept : (r : ℕ) → r < n → first_at rows' r ≡ first_at rows r
  unfolding first_at size_at
  first-kept r l = rw (at-kept r 7 l (omega arith))

  left-kept : (r : ℕ) → r < n → left_at rows' (suc r) ≡ left_at rows (suc r)
  unfolding left_at size_at
  left-kept r l = rw (at-kept r 7 l (omega arith))

  module _ (b q : Bytes) (cells : List ℕ) where
    table_kept : (r : ℕ) → r < n → table_at b q cells rows' r ≡ table_at b q cells rows r
    unfolding table_at
    table_kept r l =
        rw (
          at-kept r 1 l (omega arith),
          at-kept r 3 l (omega arith),
          at-kept r 4 l (omega arith),
          at-kept r 5 l (omega arith),
          at-kept r 6 l (omega arith),
        )

    row_kept : (r : ℕ) (u v : From) → r < n → row_at b q cells rows' r u v ≡ row_at b q cells rows r u v
    unfolding row_at
    row_kept r u v l =
        rw (
          at-kept r 0 l (omega arith),
          at-kept r 1 l (omega arith),
          at-kept r 2 l (omega arith),
          at-kept r 3 l (omega arith),
          at-kept r 4 l (omega arith),
          at-kept r 5 l (omega arith),
          at-kept r 6 l (omega arith),
        )

    tree-kept : (m r : ℕ) → r < n → tree_in b q cells rows' m r ≡ tree_in b q cells rows m r
    unfolding tree_in
    tree-kept zero r l = table_kept r l
    tree-kept (suc m) zero l = table_kept zero l
    tree-kept (suc m) (suc r) l =
        rw (
          left-kept r (omega arith),
          tree-kept m (left_at rows (suc r)) (omega (arith, left-most rows r)),
          tree-kept m r (omega arith),
        ) (row_kept (suc r) _ _ l)

    from-kept : (r : ℕ) → r < n → from_at b q cells rows' r ≡ from_at b q cells rows r
    unfolding from_at
    from-kept r l = tree-kept r r l

    trees-in-kept : (m r : ℕ) → r ≤ n → map (from_at b q cells rows') (roots_in rows' m r)
        ≡ map (from_at b q cells rows) (roots_in rows m r)
    unfolding roots_in
    trees-in-kept zero r l = refl
    trees-in-kept (suc m) zero l = refl
    trees-in-kept (suc m) (suc r) l =
        rw (
          from-kept r (omega arith),
          first-kept r (omega arith),
          trees-in-kept m (first_at rows r) (omega (arith, first-most rows r)),
        )

    trees-kept : (r : ℕ) → r ≤ n → trees_before b q cells rows' r ≡ trees_before b q cells rows r
    unfolding trees_before roots_before
    trees-kept r l = trees-in-kept r r l

-- ONE ROW MORE
module _ (rows rows' : List ℕ) (n k l x a m c d s : ℕ) (room : row_size * n + row_size ≤ length rows)
    (e : rows' ≡ sets rows (row_size * n) (k ∷ l ∷ x ∷ a ∷ m ∷ c ∷ d ∷ s ∷ [])) where
  numbers : (i : ℕ) → i < 8 → at rows' n i ≡ get_or (k ∷ l ∷ x ∷ a ∷ m ∷ c ∷ d ∷ s ∷ []) i 0
  unfolding at
  numbers i h = rw e ((stored-sets rows (row_size * n) (k ∷ l ∷ x ∷ a ∷ m ∷ c ∷ d ∷ s ∷ []) (omega arith)).at i (omega arith))

  earlier : Kept 0 (row_size * n) rows rows'
  earlier = rw e (kept-sets-behind rows (row_size * n) (k ∷ l ∷ x ∷ a ∷ m ∷ c ∷ d ∷ s ∷ []) 0 (row_size * n) (omega arith))

  first-is : first_at rows' n ≡ n - s
  unfolding first_at size_at
  first-is = rw (numbers 7 (omega arith)) (omega arith)

  module _ (b q : Bytes) (cells : List ℕ) where
    table_is : table_at b q cells rows' n ≡ table_by b q cells l a m c d
    unfolding table_at
    table_is =
        rw (
          numbers 1 (omega arith),
          numbers 3 (omega arith),
          numbers 4 (omega arith),
          numbers 5 (omega arith),
          numbers 6 (omega arith),
        )

    row_is : (u v : From) → row_at b q cells rows' n u v ≡ row_by b q cells k l x a m c d u v
    unfolding row_at
    row_is u v =
        rw (
          numbers 0 (omega arith),
          numbers 1 (omega arith),
          numbers 2 (omega arith),
          numbers 3 (omega arith),
          numbers 4 (omega arith),
          numbers 5 (omega arith),
          numbers 6 (omega arith),
        )

    -- the trees before the tree of this row are those of the rows before its first
    rest-is : (f : ℕ) → n - s ≡ f → f ≤ n → trees_before b q cells rows' (suc n)
        ≡ from_at b q cells rows' n ∷ trees_before b q cells rows f
    rest-is f z h = trees-next b q cells rows' n ∙ rw (first-is, z, trees-kept rows rows' n earlier b q cells f h)

    pub table-row : k ≡ 1 → s ≡ 0 → trees_before b q cells rows' (suc n)
        ≡ table l (word_at b q a m) (name_at b q c d) ∷ trees_before b q cells rows n
    table-row z y = rest-is n (omega arith) (omega arith) ∙ ap (λ f. f ∷ trees_before b q cells rows n) (go n refl)
      where
        one : (u v : From) → row_by b q cells k l x a m c d u v ≡ table l (word_at b q a m) (name_at b q c d)
        one u v = unfold row_by table_by coded in rw z

        go : (i : ℕ) → n ≡ i → from_at b q cells rows' n ≡ table l (word_at b q a m) (name_at b q c d)
        go zero w = ap (from_at b q cells rows') w ∙ from_first b q cells rows' ∙ ap (table_at b q cells rows') (sym w)
            ∙ table_is ∙ (unfold table_by in refl)
        go (suc i) w = ap (from_at b q cells rows') w ∙ from_next b q cells rows' i
            ∙ ap (λ r. row_at b q cells rows' r (from_at b q cells rows' (left_at rows' (suc i)))
            (from_at b q cells rows' i)) (sym w) ∙ row_is _ _ ∙ one _ _

    pub join-row : (j : Join) (v y : From) (fs : List From) (o : Option Expr) → k ≡ join_number j
        → s ≡ sides_before rows n → trees_before b q cells rows n ≡ y ∷ v ∷ fs → predicate_at b q cells x ≡ o
        → trees_before b q cells rows' (suc n) ≡ join l j v y o ∷ fs
    unfolding row_by coded join_number
    join-row j v y fs o z w h g =
        let p = sides-of b q cells rows n v y fs h in
        let i = p.root in
        let i< : i < n = omega (arith, p.is) in
        let few = left-most rows i in
        let kept = from-kept rows rows' n earlier b q cells in
        let first : first_at rows (left_at rows n) ≡ first_at rows (left_at rows (suc i)) =
        ap (λ r. first_at rows (left_at rows r)) p.is in
        let low = first-most rows (left_at rows (suc i)) in
        let u : n - s ≡ first_at rows (left_at rows (suc i)) = omega (arith, w, sides-past rows n, first) in
        let sides : row_at b q cells rows' (suc i) (from_at b q cells rows' (left_at rows' (suc i)))
        (from_at b q cells rows' i) ≡ row_at b q cells rows' (suc i) v y =
        rw (
          left-kept rows rows' n earlier i i<,
          kept (left_at rows (suc i)) (omega (arith, few, i<)),
          kept i i<,
          p.left,
          p.right,
        ) in
        let root = ap (from_at b q cells rows') p.is ∙ from_next b q cells rows' i ∙ sides
        ∙ ap (λ r. row_at b q cells rows' r v y) (sym p.is) ∙ row_is v y ∙ one j z in
        rest-is (first_at rows (left_at rows (suc i))) u (omega (arith, low, few, i<)) ∙ rw (root, p.rest)
      where
        one : (j : Join) → k ≡ join_number j → row_by b q cells k l x a m c d v y ≡ join l j v y o
        one cross z = rw (z, g)
        one inner z = rw (z, g)
        one left z = rw (z, g)
        one right z = rw (z, g)
