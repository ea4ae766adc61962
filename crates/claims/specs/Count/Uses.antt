-- What the uses of a SELECT's expressions count for, by a number w of an expression over a scope: sums over its clauses.
use Rattle.std.specs.Prelude.{ℕ, ◌+◌, ◌≤◌, ◌≡◌, length}
use Rattle.std.proofs.Common.{arith, ◌∙◌}
use Rattle.std.proofs.Math.Path.{refl}
use mathlib.Core.List.{List, [], ◌∷◌, ◌++◌, map}
use Rattle.std.proofs.Math.Option.{Option, none, some}
use Rattle.rules.specs.Lists.{given, is_some}
use Rattle.rules.specs.Ast.{Expr, size, Item, Key, Select}
use Rattle.rules.specs.Scope.{Scope, matched, add_aggregate}
use Rattle.rules.specs.BuildExpression.{clause_expr}
use Rattle.rules.specs.BuildAggregate.{Retained, keep, retain}
use Rattle.rules.specs.Hidden.{HiddenColumn}
use Rattle.rules.specs.BuildSelect.{later_of, functions_of}
use Rattle.rules.specs.Sizes.{total, option_size}
use Rattle.rules.specs.Order.{Use, over, argument_of, through}
use Rattle.rules.specs.Count.{cost, argument_cost, use_cost}
use Rattle.claims.specs.Cases.{either_way}
use Rattle.claims.specs.Count.Totals.{total-append, total-map}
use Rattle.claims.specs.Count.Arguments.{arguments_cost, arguments-total}

-- what the arguments of the items' aggregates cost
abbrev pub items_arguments : Scope → List Item → ℕ
items_arguments s is' = total (λ (i : Item). arguments_cost s i.expr) is'

-- of equal expressions one is kept
pub retain-most : (f : Expr → ℕ) (p : Scope) (es : List Expr) (c : Scope) → total f (retain p es c).exprs ≤ total f es
unfolding retain keep total
retain-most f p [] c = omega arith
retain-most f p (e ∷ es) c =
    either_way (λ (r : Retained). total f r.exprs ≤ f e + total f es) (is_some (matched c e)) _ _
    (omega (arith, retain-most f p es c)) (omega (arith, retain-most f p es (add_aggregate p e c)))

-- a number for each expression of HAVING and ORDER
pub later-total : (f : Expr → ℕ) (q : Select)
    → total f (later_of q) ≡ total f (given (clause_expr q.having)) + total (λ (k : Key). f k.expr) q.order
unfolding later_of
later-total f q =
    total-append f (given (clause_expr q.having)) _ ∙ rw (total-map f (λ (k : Key). k.expr) q.order)

pub given-size : (e : Option Expr) → total size (given e) ≡ option_size e
unfolding given total option_size
given-size none = refl
given-size (some e) = omega arith

pub functions-total : (s : Scope) (is' : List Item) (later : List Expr)
    → total (argument_cost s) (functions_of is' later) ≡ items_arguments s is' + total (arguments_cost s) later
unfolding functions_of
functions-total s is' later = arguments-total s (map (λ (i : Item). i.expr) is' ++ later)
    ∙ (total-append (arguments_cost s) (map (λ (i : Item). i.expr) is') later
    ∙ rw (total-map (arguments_cost s) (λ (i : Item). i.expr) is'))

-- USES
module _ (w : Scope → Expr → ℕ) where
  unfoldable pub use_by : Use → ℕ
  use_by (over s e) = w s e
  use_by (argument_of s e) = argument_cost s e
  use_by (through i) = 1

  -- the uses of expressions over one scope count what those do
  pub over-total : (s : Scope) (es : List Expr) → total use_by (map (over s) es) ≡ total (w s) es
  unfolding total use_by
  over-total s [] = refl
  over-total s (e ∷ es) = omega (arith, over-total s es)

  pub argument_of-total : (s : Scope) (es : List Expr) → total use_by (map (argument_of s) es) ≡ total (argument_cost s) es
  unfolding total use_by
  argument_of-total s [] = refl
  argument_of-total s (e ∷ es) = omega (arith, argument_of-total s es)

  pub keys-total : (s : Scope) (ks : List Key)
      → total use_by (map (λ (k : Key). over s k.expr) ks) ≡ total (λ (k : Key). w s k.expr) ks
  unfolding total use_by
  keys-total s [] = refl
  keys-total s (k ∷ ks) = omega (arith, keys-total s ks)

  pub items-total : (g : Scope) (is' : List Item)
      → total use_by (map (λ (i : Item). over g i.expr) is') ≡ total (λ (i : Item). w g i.expr) is'
  unfolding total use_by
  items-total g [] = refl
  items-total g (i ∷ is') = omega (arith, items-total g is')

  pub hidden-total : (cs : List HiddenColumn)
      → total use_by (map (λ (c : HiddenColumn). through c.position) cs) ≡ length cs
  unfolding total use_by
  hidden-total [] = refl
  hidden-total (c ∷ cs) = omega (arith, hidden-total cs)

-- by what they cost
pub cost-total : (us : List Use) → total use_cost us ≡ total (use_by cost) us
unfolding total
cost-total [] = refl
cost-total (u ∷ us) = omega (arith, each u, cost-total us)
  where
    each : (v : Use) → use_cost v ≡ use_by cost v
    each (over s e) = unfold use_cost use_by in refl
    each (argument_of s e) = unfold use_cost use_by in refl
    each (through i) = unfold use_cost use_by in refl
