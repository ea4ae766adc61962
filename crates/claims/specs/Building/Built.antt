-- What each step of resolving an expression keeps, an accepted one has; and so an aggregate's argument.
use Rattle.std.specs.Prelude.{ℕ, ◌≡◌, Bool, ◌&&◌, not}
use Rattle.std.proofs.Math.Path.{refl}
use Rattle.std.proofs.Math.Bool.{true, false}
use Rattle.std.proofs.lemmas.Bool.{not-false}
use Rattle.std.proofs.Math.Option.{Option, none, some}
use Rattle.rules.specs.Refusals.{Answer, ok, ◌>>=◌, refuse, unsupported_star, unknown_function, invalid_is, argument_count, nested_aggregate}
use Rattle.rules.specs.Lists.{same, named, is_some}
use Rattle.rules.specs.Lines.{Word, bytes}
use Rattle.rules.specs.Schema.{Value, bool}
use Rattle.rules.specs.Ast.{Expr, star, column, literal, call, unary, binary, is, Exprs, nil, cons, line_of, Unary, Binary}
use Rattle.rules.specs.Ast as Ast
use Rattle.rules.specs.Views.{as_star, as_call}
use Rattle.rules.specs.Plan.{Built, Aggregate}
use Rattle.rules.specs.Plan as P
use Rattle.rules.specs.Scope.{Scope, Found, at, missing, lookup, matched}
use Rattle.rules.specs.BuildExpression.{found, pick_matched, or_matched, is_null_or_nan, only_argument, build, build_argument}
use Rattle.rules.specs.BuildAggregate.{aggregates, contains, is_count, argument, aggregate_of, build_function}
use Rattle.claims.specs.Answers.{Ensures, then, refusing}
use Rattle.claims.specs.Cases.{guarded}

-- R of an expression and what is built of it: where the scope has a match, and of each kind where it has none
pub record Steps (s : Scope) (R : Expr → Built → Type 0) : Type 0 where
  pub matches : (e : Expr) (i : ℕ) → matched s e ≡ some i → R e (P.column i)
  pub columns : (l : ℕ) (q : Option Word) (n : Word) (i : ℕ) → matched s (column l q n) ≡ none → lookup s q n ≡ at i → R (column l q n) (P.column i)
  pub literals : (l : ℕ) (v : Value) → matched s (literal l v) ≡ none → R (literal l v) (P.constant v)
  pub roots : (l : ℕ) (n : Word) (a : Expr) (x : Built) → matched s (call l n (cons a nil)) ≡ none → same n.bytes (bytes "sqrt") ≡ true → R a x → R (call l n (cons a nil)) (P.unary Ast.sqrt x)
  pub unaries : (l : ℕ) (o : Unary) (a : Expr) (x : Built) → matched s (unary l o a) ≡ none → R a x → R (unary l o a) (P.unary o x)
  pub binaries : (l : ℕ) (o : Binary) (a b : Expr) (x y : Built) → matched s (binary l o a b) ≡ none → R a x → R b y → R (binary l o a b) (P.binary o x y)
  pub tests : (l : ℕ) (a : Expr) (v : Value) (x : Built) → matched s (is l a v) ≡ none → is_null_or_nan v ≡ true → R a x → R (is l a v) (P.is x v)

when-found : (l : ℕ) (f : Found) → Ensures (found l f) (λ i. f ≡ at i)
unfolding found
when-found l (at i) = refl
when-found l (missing r) = refusing r l _

module _ {s : Scope} {R : Expr → Built → Type 0} (k : Steps s R) where
  picked : (e : Expr) (m : Answer Built) → (matched s e ≡ none → Ensures m (R e)) → Ensures (or_matched s e m) (R e)
  unfolding or_matched pick_matched
  picked e m h = go (matched s e) refl
    where
      go : (o : Option ℕ) → matched s e ≡ o → Ensures (pick_matched o m) (R e)
      go none u = h u
      go (some i) u = k.matches e i u

  mutual
    unfolding build build_argument only_argument

    -- an accepted expression
    pub build-by : (e : Expr) → Ensures (build s e) (R e)
    build-by (star l) = picked (star l) _ λ u. refusing unsupported_star l _
    build-by (column l q n) = picked (column l q n) _ λ u.
        then (found l (lookup s q n)) _ _ _ (when-found l (lookup s q n)) λ i e. k.columns l q n i u e
    build-by (literal l v) = picked (literal l v) _ λ u. k.literals l v u
    build-by (call l n as') = picked (call l n as') _ λ u.
        guarded (not (same n.bytes (bytes "sqrt"))) unknown_function l _ _ λ e. root_by l n as' u (not-false _ e)
    build-by (unary l o a) = picked (unary l o a) _ λ u. then (build s a) _ _ _ (build-by a) λ x g. k.unaries l o a x u g
    build-by (binary l o a b) = picked (binary l o a b) _ λ u.
        then (build s a) _ _ _ (build-by a) λ x g. then (build s b) _ _ _ (build-by b) λ y h. k.binaries l o a b x y u g h
    build-by (is l a v) = picked (is l a v) _ λ u.
        then (build s a) _ _ _ (build-by a) λ x g.
        guarded (not (is_null_or_nan v)) invalid_is l _ _ λ e. k.tests l a v x u (not-false _ e) g

    root_by : (l : ℕ) (n : Word) (as' : Exprs) → matched s (call l n as') ≡ none → same n.bytes (bytes "sqrt") ≡ true
        → Ensures (build_argument s l as' >>= λ x. ok (P.unary Ast.sqrt x)) (R (call l n as'))
    root_by l n nil u e = then (build_argument s l nil) _ (λ x. ⊥) _ (refusing unknown_function l _) λ x f. absurd f
    root_by l n (cons a nil) u e = then (build s a) _ _ _ (build-by a) λ x g. k.roots l n a x u e g
    root_by l n (cons a (cons b bs)) u e =
        then (build_argument s l (cons a (cons b bs))) _ (λ x. ⊥) _ (refusing unknown_function l _) λ x f. absurd f

-- AGGREGATES
module _ (s : Scope) (R : Expr → Built → Type 0) (stars : (l : ℕ) → R (star l) (P.constant (bool true)))
    (builds : (e : Expr) → Ensures (build s e) (R e)) where
  argument-by : (g : Aggregate) (e : Expr) → Ensures (argument s g e) (R e)
  unfolding argument is_some as_star
  argument-by g e = go (is_count g) e
    where
      go : (c : Bool) (a : Expr)
          → Ensures (elim (c && is_some (as_star a)) [ true ↦ ok (P.constant (bool true)) | false ↦ build s a ]) (R a)
      go false a = builds a
      go true (star l) = stars l
      go true (column l q n) = builds (column l q n)
      go true (literal l v) = builds (literal l v)
      go true (call l n as') = builds (call l n as')
      go true (unary l o a) = builds (unary l o a)
      go true (binary l o a b) = builds (binary l o a b)
      go true (is l a v) = builds (is l a v)

  -- an accepted function's argument
  pub function-by : (T : Expr → Built → Type 0)
      → ((l : ℕ) (n : Word) (a : Expr) (x : Built) → R a x → T (call l n (cons a nil)) x)
      → (e : Expr) → Ensures (build_function s e) (λ f. T e f.1)
  unfolding build_function aggregate_of as_call line_of
  function-by T k (star l) = refusing unknown_function l _
  function-by T k (column l q n) = refusing unknown_function l _
  function-by T k (literal l v) = refusing unknown_function l _
  function-by T k (call l n as') = named_by (named aggregates n.bytes) as'
    where
      named_by : (o : Option Aggregate) (es : Exprs)
          → Ensures {A = Aggregate × Built} (elim o [ none ↦ refuse unknown_function l | some g ↦ aggregate_of s l g es ])
          (λ f. T (call l n es) f.1)
      named_by none es = refusing unknown_function l _
      named_by (some g) nil = refusing argument_count l _
      named_by (some g) (cons a nil) = guarded (contains a) nested_aggregate l _ _ λ e.
          then (argument s g a) _ _ _ (argument-by g a) λ x h. k l n a x h
      named_by (some g) (cons a (cons b bs)) = refusing argument_count l _
  function-by T k (unary l o a) = refusing unknown_function l _
  function-by T k (binary l o a b) = refusing unknown_function l _
  function-by T k (is l a v) = refusing unknown_function l _
