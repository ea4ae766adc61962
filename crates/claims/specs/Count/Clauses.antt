-- The uses of a SELECT's expressions, clause by clause, are within four for each expression cell and one for each starred
-- column, by a number w of an expression over a scope that is at most three for each expression cell.
use Rattle.std.specs.Prelude.{ℕ, ◌+◌, ◌*◌, ◌≤◌, ◌≡◌, refl, length}
use native.Mathlib.Omega.{arith}
use Rattle.std.proofs.Math.Bool.{true, false}
use mathlib.Core.List.{List, [], ◌∷◌, ◌++◌, map}
use Rattle.std.proofs.Math.Option.{Option, none, some}
use Rattle.rules.specs.Lists.{given, concat}
use Rattle.rules.specs.Schema.{Catalog}
use Rattle.rules.specs.Ast.{Expr, size, From, Key, Select}
use Rattle.rules.specs.Ast as Ast
use Rattle.rules.specs.Scope.{Scope, spawn, width}
use Rattle.rules.specs.BuildExpression.{clause_expr}
use Rattle.rules.specs.BuildAggregate.{retain, retain_groups, retain_functions, aggregated}
use Rattle.rules.specs.BuildFrom.{is_right}
use Rattle.rules.specs.Plan.{Label}
use Rattle.rules.specs.Items.{starred_column, expanded_items}
use Rattle.rules.specs.BuildSelect.{later_of, functions_of}
use Rattle.rules.specs.Sizes.{total, option_size, clause_size, from_size, keys_size, select_size}
use Rattle.rules.specs.Order.{Use, over, argument_of, predicate_scope, scope_of, Reads, reads_of, join_uses, group_uses}
use Rattle.rules.specs.Order.{item_uses, uses_over, uses_of}
use Rattle.rules.specs.Count.{argument_cost, starred, bound_select}
use Rattle.claims.specs.Answers.{All, all_left, all_right, all-weaken}
use Rattle.claims.specs.Cases.{either_way}
use Rattle.claims.specs.Lists.{map-all}
use Rattle.claims.specs.Count.Totals.{total-append, total-most, all_most}
use Rattle.claims.specs.Count.Stars.{starred_over}
use Rattle.claims.specs.Count.Arguments.{arguments_cost}
use Rattle.claims.specs.Count.Uses.{retain-most, later-total, given-size, functions-total}
use Rattle.claims.specs.Count.Uses.{use_by, over-total, argument_of-total, keys-total}
use Rattle.claims.specs.Count.Items.{items-most}

total-six : {A : Type 0} (f : A → ℕ) (a b c d e g : List A)
    → total f (a ++ (b ++ (c ++ (d ++ (e ++ g)))))
    ≡ total f a + total f b + total f c + total f d + total f e + total f g
total-six f a b c d e g = simp total-append (omega arith)

module _ (w : Scope → Expr → ℕ) (most : (s : Scope) (e : Expr) → w s e ≤ 3 * size e) where
  pub option-three : (s : Scope) (o : Option Expr) → total (use_by w) (map (over s) (given o)) ≤ 3 * option_size o
  unfolding given total option_size use_by
  option-three s none = omega arith
  option-three s (some e) = omega (arith, most s e)

  -- FROM AND GROUPS
  joins-three : (c : Catalog) (f : From) → total (use_by w) (join_uses c f) ≤ 3 * from_size f
  unfolding join_uses from_size
  joins-three c (Ast.table l n a) = unfold total in (omega arith)
  joins-three c (Ast.join l j a b p) =
      let s = predicate_scope j (scope_of c a) (scope_of c b) in
      let sides : List Use = elim (is_right j) [
        | true ↦ join_uses c b ++ join_uses c a
        | false ↦ join_uses c a ++ join_uses c b
      ] in
      omega (
        arith,
        total-append (use_by w) sides (map (over s) (given p)),
        option-three s p,
        either_way (λ us. total (use_by w) us ≤ 3 * from_size a + 3 * from_size b) (is_right j)
            (join_uses c b ++ join_uses c a) (join_uses c a ++ join_uses c b)
            (omega (arith, total-append (use_by w) (join_uses c b) (join_uses c a), joins-three c a, joins-three c b))
            (omega (arith, total-append (use_by w) (join_uses c a) (join_uses c b), joins-three c a, joins-three c b)),
      )

  from-three : (c : Catalog) (fs : List From)
      → total (use_by w) (concat (map (join_uses c) fs)) ≤ 3 * total from_size fs
  unfolding total concat
  from-three c [] = omega arith
  from-three c (f ∷ fs) = omega (
    arith,
    total-append (use_by w) (join_uses c f) (concat (map (join_uses c) fs)),
    joins-three c f,
    from-three c fs,
  )

  groups-most : (s : Scope) (gs fs : List Expr)
      → total (use_by w) (group_uses s gs fs) ≤ 3 * total size gs + total (argument_cost s) fs
  unfolding group_uses retain_groups retain_functions
  groups-most s gs fs =
      let g = retain s gs (spawn s) in
      let f = retain s fs g.scope in
      either_way (λ us. total (use_by w) us ≤ 3 * total size gs + total (argument_cost s) fs) (aggregated gs fs) _ _
      (omega (
        arith,
        total-append (use_by w) (map (over s) g.exprs) (map (argument_of s) f.exprs),
        over-total w s g.exprs,
        argument_of-total w s f.exprs,
        retain-most (w s) s gs (spawn s),
        retain-most (argument_cost s) s fs g.scope,
        total-most (w s) size (most s) gs,
      ))
      (unfold total in (omega arith))

  module _ (one : (g : Scope) (l : ℕ) (a : Label) → w g (starred_column l a).expr ≤ 1) (P : Use → Type 0)
      (three : (g s : Scope) (e : Expr) → P (over g e) → w g e + arguments_cost s e ≤ 3 * size e) where
    -- HAVING AND ORDER: over one scope, their aggregates' arguments over another
    having-most : (p s : Scope) (o : Option Expr) → All P (map (over p) (given o))
        → total (use_by w) (map (over p) (given o)) + total (arguments_cost s) (given o) ≤ 3 * option_size o
    unfolding given total option_size use_by All
    having-most p s none h = omega arith
    having-most p s (some e) h = omega (arith, three p s e h.0)

    order-most : (p s : Scope) (ks : List Key) → All P (map (λ (k : Key). over p k.expr) ks)
        → total (use_by w) (map (λ (k : Key). over p k.expr) ks) + total (λ (k : Key). arguments_cost s k.expr) ks
        ≤ 3 * keys_size ks
    unfolding keys_size
    order-most p s ks h = omega (
      arith,
      keys-total w p ks,
      all_most (λ (k : Key). w p k.expr) (λ (k : Key). arguments_cost s k.expr)
          (λ (k : Key). size k.expr) ks
          (all-weaken _ _ (λ k. three p s k.expr) ks (map-all P (λ (k : Key). over p k.expr) ks h)),
    )

    -- the clauses' bounds, added up
    over-most : (c : Catalog) (q : Select) (r : Reads) (ls : List Label) → r.items ≡ expanded_items q ls
        → All P (uses_over c q r) → total (use_by w) (uses_over c q r) ≤ 4 * select_size q + starred_over q (length ls)
    unfolding uses_over select_size clause_size keys_size
    over-most c q r ls e h =
        let joins = concat (map (join_uses c) q.from) in
        let filters = map (over r.from) (given (clause_expr q.filter)) in
        let groups = group_uses r.from q.group (functions_of r.items (later_of q)) in
        let items = item_uses r.groups r.items (later_of q) in
        let havings = map (over r.projection) (given (clause_expr q.having)) in
        let orders = map (λ (k : Key). over r.projection k.expr) q.order in
        let h₁ = all_right P groups _ (all_right P filters _ (all_right P joins _ h)) in
        let h₂ = all_right P items _ h₁ in
        omega (
          arith,
          total-six (use_by w) joins filters groups items havings orders,
          from-three c q.from,
          option-three r.from (clause_expr q.filter),
          groups-most r.from q.group (functions_of r.items (later_of q)),
          functions-total r.from r.items (later_of q),
          items-most w one P three q ls r.items (later_of q) r.groups r.from e (all_left P items _ h₁),
          having-most r.projection r.from (clause_expr q.having) (all_left P havings orders h₂),
          order-most r.projection r.from q.order (all_right P havings orders h₂),
          later-total size q,
          given-size (clause_expr q.having),
          later-total (arguments_cost r.from) q,
        )

    -- all of a SELECT's uses
    pub uses-bound : (c : Catalog) (q : Select) → All P (uses_of c q) → total (use_by w) (uses_of c q) ≤ bound_select c q
    unfolding uses_of bound_select starred starred_over width
    uses-bound c q h = over-most c q (reads_of c q) (reads_of c q).from.columns (unfold reads_of in refl) h
