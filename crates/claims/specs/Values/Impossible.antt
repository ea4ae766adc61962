-- The refusals that rules give for cases which cannot arise: a constant's value, an aggregate function.
use Rattle.std.specs.Prelude.{ℕ, ◌≡◌, refl, true, false, List, [], ◌∷◌}
use Rattle.std.proofs.Common.{arith, inl, inr}
use Rattle.std.proofs.lemmas.Bool.{false≢true}
use Rattle.std.proofs.Math.Option.{Option, none, some}
use Rattle.rules.specs.Refusals.{statement, Reason, refusal_number, Refusal, ok, refused, refuse}
use Rattle.rules.specs.Lists.{named, any, is_some, is_empty}
use Rattle.rules.specs.Lines.{Word}
use Rattle.rules.specs.Schema.{Value, null, bool, int, float, text}
use Rattle.rules.specs.Ast.{Expr, star, column, literal, call, unary, binary, is, Exprs, nil, cons, line_of, Item}
use Rattle.rules.specs.Views.{as_call}
use Rattle.rules.specs.Plan.{Built, Aggregate}
use Rattle.rules.specs.Scope.{Scope, empty, lookup, matched, match_at}
use Rattle.rules.specs.Arithmetic.{Worked, gives, fails}
use Rattle.rules.specs.Operators.{is_of}
use Rattle.rules.specs.Evaluate.{worked_at, evaluate}
use Rattle.rules.specs.BuildExpression.{is_null_or_nan, build}
use Rattle.rules.specs.BuildAggregate.{aggregates, is_aggregate, collect, collect_all, collect_each, aggregate_of}
use Rattle.rules.specs.BuildAggregate.{build_function, retain, retain_groups, retain_functions}
use Rattle.rules.specs.BuildSelect.{functions_of}
use Rattle.claims.specs.Answers.{ensured, Any, All, all_append}
use Rattle.claims.specs.Values.Outcomes.{Unworked, Outcome, Kept, unary-outcome, binary-outcome, root-outcome}
use Rattle.claims.specs.Values.Outcomes.{nan-outcome}
use Rattle.claims.specs.Building.Built.{Steps, build-by}
use Rattle.claims.specs.Building.Groups.{all_retained}
use Rattle.claims.specs.Refused.Refuses.{Refuses, accepted, refused-with, first, refuses-weaken, Has, Among}

-- CONSTANTS
-- a value that is not worked out, at a line of the statement
abbrev Valued : Refusal → Type 0
Valued r = Unworked r.reason × (r.text ≡ statement)

any-kept : Kept Any
any-kept = record { nulls = tt; truths = λ a. tt; within = λ z h. tt; remainders = λ m n h. tt; floats = λ b h. tt }

worked-refused : (l : ℕ) (x : Worked) → Outcome Any x → Refuses (worked_at l x) Valued
unfolding worked_at refuse
worked-refused l (gives v) h = accepted
worked-refused l (fails k) h = refused-with (h, refl)

is-outcome : (v w : Value) → is_null_or_nan v ≡ true → Outcome Any (is_of v w)
unfolding is_null_or_nan is_of
is-outcome null w e = tt
is-outcome (bool b) w e = absurd (false≢true e)
is-outcome (int n) w e = absurd (false≢true e)
is-outcome (float x) w e = nan-outcome Any any-kept w
is-outcome (text t) w e = absurd (false≢true e)

-- what building over an empty scope rules out
refusal-steps : Steps empty (λ e x. Refuses (evaluate e) Valued)
unfolding matched empty match_at evaluate lookup is_empty
refusal-steps = record {
  matches = λ e i u. grind arith;
  columns = λ l q n i u f. grind arith;
  literals = λ l v u. accepted;
  roots = λ l n a x u e h. first h λ v p. worked-refused l _ (root-outcome Any any-kept v);
  unaries = λ l o a x u h. first h λ v p. worked-refused l _ (unary-outcome Any any-kept o v tt);
  binaries = λ l o a b x y u h g. first h λ v p. first g λ w q.
      worked-refused l _ (binary-outcome Any any-kept o v w tt);
  tests = λ l a v x u e h. first h λ w p. worked-refused l _ (is-outcome v w e);
}

working-out : (e : Expr) (b : Built) → build empty e ≡ ok b → Refuses (evaluate e) Valued
working-out e b p = ensured (build empty e) (λ x. Refuses (evaluate e) Valued) (build-by refusal-steps e) b p

-- A constant expression that was built is refused for its values alone ..
pub constant-refusals : (e : Expr) (b : Built) → build empty e ≡ ok b
    → (r : Refusal) → evaluate e ≡ refused r → Unworked r.reason
constant-refusals e b p r q = ((working-out e b p).refusal r q).0

unworked-has : (k : Reason) → Unworked k → Has (25 ∷ 26 ∷ 27 ∷ 28 ∷ []) (refusal_number k)
unfolding refusal_number any
unworked-has k (inl e) = rw e refl
unworked-has k (inr (inl e)) = rw e refl
unworked-has k (inr (inr (inl e))) = rw e refl
unworked-has k (inr (inr (inr e))) = rw e refl

-- .. which is with 25 to 28.
pub constant-numbers : (e : Expr) (b : Built) → build empty e ≡ ok b
    → Refuses (evaluate e) (Among statement (25 ∷ 26 ∷ 27 ∷ 28 ∷ []))
constant-numbers e b p =
    refuses-weaken (λ r h. record { number = unworked-has r.reason h.0; text = h.1 }) (working-out e b p)

-- AGGREGATES
-- a call whose name is an aggregate's
pub record IsAggregateCall (e : Expr) : Type 0 where
  pub line : ℕ
  pub name : Word
  pub arguments : Exprs
  pub aggregate : Aggregate
  pub calls : e ≡ call line name arguments
  pub names : named aggregates name.bytes ≡ some aggregate

-- such a call is built as its aggregate
pub build-call : (s : Scope) (e : Expr) (c : IsAggregateCall e)
    → build_function s e ≡ aggregate_of s c.line c.aggregate c.arguments
unfolding build_function as_call line_of
build-call s e c = rw c.calls (rw (c.names, build_function))

call-collected : (l : ℕ) (n : Word) (as' : Exprs) (o : Option Aggregate) → named aggregates n.bytes ≡ o
    → All IsAggregateCall (collect_all as')
    → All IsAggregateCall (elim (is_some o) [ true ↦ call l n as' ∷ [] | false ↦ collect_all as' ])
unfolding is_some All
call-collected l n as' none e h = h
call-collected l n as' (some g) e h =
    (record { line = l; name = n; arguments = as'; aggregate = g; calls = refl; names = e }, tt)

-- `collect` gives such calls alone
mutual
  unfolding collect is_aggregate All

  pub collect-calls : (e : Expr) → All IsAggregateCall (collect e)
  collect-calls (star l) = tt
  collect-calls (column l t n) = tt
  collect-calls (literal l v) = tt
  collect-calls (call l n as') = call-collected l n as' (named aggregates n.bytes) refl (collect-all-calls as')
  collect-calls (unary l o a) = collect-calls a
  collect-calls (binary l o a b) =
      all_append IsAggregateCall (collect a) (collect b) (collect-calls a) (collect-calls b)
  collect-calls (is l a v) = collect-calls a

  collect-all-calls : (as' : Exprs) → All IsAggregateCall (collect_all as')
  collect-all-calls nil = tt
  collect-all-calls (cons a as') =
      all_append IsAggregateCall (collect a) (collect_all as') (collect-calls a) (collect-all-calls as')

collect-each-calls : (es : List Expr) → All IsAggregateCall (collect_each es)
unfolding collect_each All
collect-each-calls [] = tt
collect-each-calls (e ∷ es) =
    all_append IsAggregateCall (collect e) (collect_each es) (collect-calls e) (collect-each-calls es)

pub retained-calls : (parent : Scope) (es : List Expr) (c : Scope)
    → All IsAggregateCall (retain parent (collect_each es) c).exprs
retained-calls parent es c = all_retained IsAggregateCall parent (collect_each es) c (collect-each-calls es)

-- and so are the functions that a SELECT builds: `build_function` itself gives none of them 13
pub function-calls : (s : Scope) (gs : List Expr) (is' : List Item) (later : List Expr)
    → All IsAggregateCall (retain_functions s gs (functions_of is' later)).exprs
unfolding retain_functions functions_of
function-calls s gs is' later = retained-calls s _ (retain_groups s gs).scope
