-- What is built of an expression, and a constant's value, have what the expression's literals have.
use Rattle.std.specs.Prelude.{ℕ, true}
use Rattle.std.proofs.Math.Option.{Option, none, some}
use Rattle.rules.specs.Refusals.{refuse}
use Rattle.rules.specs.Schema.{Value, null, bool, int, float, text}
use Rattle.rules.specs.Ast.{Expr, star, column, literal, call, unary, binary, is, Exprs, nil, cons}
use Rattle.rules.specs.Arithmetic.{Worked, gives, fails}
use Rattle.rules.specs.Operators.{is_of, is_nan}
use Rattle.rules.specs.Evaluate.{worked_at, evaluate, evaluate_root}
use Rattle.rules.specs.Scope.{Scope, empty}
use Rattle.rules.specs.BuildExpression.{build, build_option, constant}
use Rattle.rules.specs.BuildAggregate.{build_function}
use Rattle.claims.specs.Answers.{Ensures, then, weaken, refusing, past, Any, Given}
use Rattle.claims.specs.Values.Outcomes.{Outcome, Kept, unary-outcome, binary-outcome, root-outcome, nan-outcome}
use Rattle.claims.specs.Reading.Has.{ExprHas, ExprsHave, Literals}
use Rattle.claims.specs.Building.Built.{Steps, build-by, function-by}
use Rattle.claims.specs.Building.Has.{TreeHas}

-- BUILT
module _ (Q : Value → Type 0) where
  has-steps : (s : Scope) → Steps s (λ e x. Literals Q e → TreeHas Q x)
  unfolding ExprHas TreeHas
  has-steps s = record {
    matches = λ e i u h. tt;
    columns = λ l q n i u f h. tt;
    literals = λ l v u h. h;
    roots = λ l n a x u e g h. g h.1.0;
    unaries = λ l o a x u g h. g h;
    binaries = λ l o a b x y u f g h. (f h.0, g h.1);
    tests = λ l a v x u e g h. (g h.0, e, h.1);
  }

  pub build-has : (s : Scope) (e : Expr) → Literals Q e → Ensures (build s e) (TreeHas Q)
  build-has s e h = weaken (build s e) _ _ (λ x g. g h) (build-by (has-steps s) e)

  -- an expression that may be missing
  pub option-has : (s : Scope) (o : Option Expr) → Given (Literals Q) o → Ensures (build_option s o) (Given (TreeHas Q))
  unfolding build_option Given
  option-has s none h = tt
  option-has s (some e) h = then (build s e) _ (TreeHas Q) _ (build-has s e h) λ x g. g

  -- an aggregate function
  pub function-has : Kept Q → (s : Scope) (e : Expr) → Literals Q e → Ensures (build_function s e) (λ f. TreeHas Q f.1)
  unfolding ExprHas TreeHas
  function-has k s e h = weaken (build_function s e) _ _ (λ f g. g h)
      (function-by s (λ e x. Literals Q e → TreeHas Q x) (λ l h. k.truths true) (build-by (has-steps s)) (λ e x. Literals Q e → TreeHas Q x) (λ l n a x g h. g h.1.0) e)

-- CONSTANTS
module _ {Q : Value → Type 0} (k : Kept Q) where
  worked-has : (l : ℕ) (x : Worked) → Outcome Q x → Ensures (worked_at l x) Q
  unfolding worked_at refuse
  worked-has l (gives v) h = h
  worked-has l (fails r) h = tt

  is-has : (l : ℕ) (v w : Value) → Ensures (worked_at l (is_of v w)) Q
  unfolding is_of worked_at refuse
  is-has l null w = k.truths _
  is-has l (bool a) w = tt
  is-has l (int n) w = tt
  is-has l (float x) w = worked-has l (is_nan w) (nan-outcome Q k w)
  is-has l (text t) w = tt

  mutual
    unfolding evaluate ExprHas

    pub evaluate-has : (e : Expr) → Literals Q e → Ensures (evaluate e) Q
    evaluate-has (star l) h = refusing _ l Q
    evaluate-has (column l t n) h = refusing _ l Q
    evaluate-has (literal l v) h = h
    evaluate-has (call l n as') h = root-has l as' h.1
    evaluate-has (unary l o a) h = then (evaluate a) _ Q Q (evaluate-has a h) λ v g. worked-has l _ (unary-outcome Q k o v g)
    evaluate-has (binary l o a b) h = then (evaluate a) _ Q Q (evaluate-has a h.0) λ v g. past (evaluate b) _ Q λ w. worked-has l _ (binary-outcome Q k o v w g)
    evaluate-has (is l a v) h = past (evaluate a) _ Q λ w. is-has l v w

    root-has : (l : ℕ) (es : Exprs) → ExprsHave Q Any es → Ensures (evaluate_root l es) Q
    root-has l nil h = refusing _ l Q
    root-has l (cons a as') h = past (evaluate a) _ Q λ v. worked-has l _ (root-outcome Q k v)

  -- a constant's value
  pub constant-has : (e : Expr) → Literals Q e → Ensures (constant e) Q
  unfolding constant
  constant-has e h = past (build empty e) _ Q λ x. evaluate-has e h
