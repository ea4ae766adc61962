-- The value of an expression by its root and the values of its operands, as the code holds them.
use mathlib.Core.Path.{◌≡◌, refl, sym, ap, ◌∙◌}
use Prim.Native.Nat.{ℕ}
use native.Mathlib.Omega.{arith}
use Rattle.rules.specs.Arithmetic.{Worked, gives, fails}
use Rattle.rules.specs.Ast.{Unary, sqrt, Binary, Expr, star, column, literal, call, unary, binary, is, Exprs, nil, cons}
use Rattle.rules.specs.Evaluate.{worked_at, evaluate, evaluate_root}
use Rattle.rules.specs.Lines.{Word}
use Rattle.rules.specs.Operators.{unary_of, binary_of, root_of, is_of}
use Rattle.rules.specs.Refusals.{Answer, ok, refused, Refusal, ◌>>=◌, refuse}
use Rattle.rules.specs.Schema.{Value}
use Rattle.value.proofs.Given.{unary-gives, binary-gives, is-gives}
use Rattle.value.proofs.Held.{unary-held, binary-held, is_held}
use Rattle.value.specs.Values.{held}
use Rattle.ast.specs.Operands.{operands_of, kind_of}
use Rattle.expression.specs.Answers.{map_answer}

-- ANSWERS
differ : {X : Type 0} (u : Value) (r : Refusal) → ok u ≡ refused r → X
differ u r e = grind arith

bind-refused : {A B : Type 0} (f : A → Answer B) (m : Answer A) (r : Refusal) → m ≡ refused r → (m >>= f) ≡ refused r
unfolding ◌>>=◌
bind-refused f m r e = ap (λ (n : Answer _). n >>= f) e

-- where the code's answer is a refusal, it is the rules'
pub held-refused : (m : Answer Value) (r : Refusal) → refused r ≡ map_answer held m → m ≡ refused r
unfolding map_answer
held-refused (ok v) r e = differ _ _ (sym e)
held-refused (refused s) r e = sym e

-- an operator's values are held as they are
worked-held : (l : ℕ) (w : Worked) → ((u : Value) → w ≡ gives u → held u ≡ u) → map_answer held (worked_at l w) ≡ worked_at l w
unfolding map_answer worked_at refuse
worked-held l (gives v) h = ap ok (h v refl)
worked-held l (fails n) h = refl

bound-held : (m : Answer Value) (f : Value → Answer Value) → ((v : Value) → map_answer held (f v) ≡ f v) → map_answer held (m >>= f) ≡ (m >>= f)
unfolding map_answer ◌>>=◌
bound-held (ok v) f h = h v
bound-held (refused r) f h = refl

-- OPERANDS WITH VALUES, u and x as the code holds them
one : (l : ℕ) (o : Value → Worked) → ((v : Value) → o (held v) ≡ o v) → ((v x : Value) → o v ≡ gives x → held x ≡ x)
    → (m : Answer Value) (u : Value) → ok u ≡ map_answer held m → worked_at l (o u) ≡ map_answer held (m >>= λ v. worked_at l (o v))
unfolding map_answer ◌>>=◌
one l o ho go (ok v) u h = let g : u ≡ held v = cc in ap (worked_at l) (ap o g ∙ ho v) ∙ sym (worked-held l (o v) (go v))
one l o ho go (refused r) u h = differ u r h

two : (l : ℕ) (o : Binary) (m n : Answer Value) (u x : Value) → ok u ≡ map_answer held m → ok x ≡ map_answer held n
    → worked_at l (binary_of o u x) ≡ map_answer held (m >>= λ v. n >>= λ w. worked_at l (binary_of o v w))
unfolding map_answer ◌>>=◌
two l o (ok v) (ok w) u x h k =
    let g : u ≡ held v = cc in
    let f : x ≡ held w = cc in
    ap (worked_at l) ((λ i. binary_of o (g i) (f i)) ∙ binary-held o v w) ∙ sym (worked-held l (binary_of o v w) (binary-gives o v w))
two l o (ok v) (refused r) u x h k = differ x r k
two l o (refused r) n u x h k = differ u r h

module _ (l : ℕ) (a : Expr) (u : Value) (h : ok u ≡ map_answer held (evaluate a)) where
  pub unary-step : (o : Unary) → worked_at l (unary_of o u) ≡ map_answer held (evaluate (unary l o a))
  unfolding evaluate
  unary-step o = one l (unary_of o) (unary-held o) (unary-gives o) (evaluate a) u h

  pub root-step : (n : Word) (as' : Exprs) → worked_at l (unary_of sqrt u) ≡ map_answer held (evaluate (call l n (cons a as')))
  unfolding evaluate evaluate_root unary_of
  root-step n as' = unary-step sqrt

  pub is-step : (w : Value) → worked_at l (is_of w u) ≡ map_answer held (evaluate (is l a w))
  unfolding evaluate
  is-step w = one l (is_of w) (is_held w) (is-gives w) (evaluate a) u h

  pub binary-step : (o : Binary) (b : Expr) (x : Value) → ok x ≡ map_answer held (evaluate b) → worked_at l (binary_of o u x) ≡ map_answer held (evaluate (binary l o a b))
  unfolding evaluate
  binary-step o b x k = two l o (evaluate a) (evaluate b) u x h k

  -- the right operand refused
  pub second-refused : (o : Binary) (b : Expr) (r : Refusal) → evaluate b ≡ refused r → evaluate (binary l o a b) ≡ refused r
  unfolding evaluate map_answer ◌>>=◌
  second-refused o b r e = by (evaluate a) h
    where
      by : (m : Answer Value) → ok u ≡ map_answer held m → (m >>= λ v. evaluate b >>= λ w. worked_at l (binary_of o v w)) ≡ refused r
      by (ok v) k = bind-refused _ (evaluate b) r e
      by (refused s) k = differ u s k

-- THE FIRST OPERAND REFUSED
none_first : {X : Type 0} {a : Expr} {as' : Exprs} → nil ≡ cons a as' → X
none_first e = grind arith

pub first-refused : (x a : Expr) (as' : Exprs) (r : Refusal) → operands_of x ≡ cons a as' → evaluate a ≡ refused r → evaluate x ≡ refused r
unfolding operands_of evaluate evaluate_root
first-refused (star l) a as' r e h = none_first e
first-refused (column l t n) a as' r e h = none_first e
first-refused (literal l v) a as' r e h = none_first e
first-refused (call l n nil) a as' r e h = none_first e
first-refused (call l n (cons b bs)) a as' r e h = let g : b ≡ a = cc in bind-refused _ (evaluate b) r (ap evaluate g ∙ h)
first-refused (unary l o b) a as' r e h = let g : b ≡ a = cc in bind-refused _ (evaluate b) r (ap evaluate g ∙ h)
first-refused (binary l o b d) a as' r e h = let g : b ≡ a = cc in bind-refused _ (evaluate b) r (ap evaluate g ∙ h)
first-refused (is l b v) a as' r e h = let g : b ≡ a = cc in bind-refused _ (evaluate b) r (ap evaluate g ∙ h)

-- CONSTANTS
-- but for a bare literal, every value is held as it is
pub constant-held : (x : Expr) → (kind_of x ≡ 8 → ⊥) → map_answer held (evaluate x) ≡ evaluate x
unfolding kind_of evaluate evaluate_root map_answer unary_of refuse
constant-held (star l) h = refl
constant-held (column l t n) h = refl
constant-held (literal l v) h = absurd (h refl)
constant-held (call l n nil) h = refl
constant-held (call l n (cons a as')) h = bound-held (evaluate a) _ (λ v. worked-held l (root_of v) (unary-gives sqrt v))
constant-held (unary l o a) h = bound-held (evaluate a) _ (λ v. worked-held l (unary_of o v) (unary-gives o v))
constant-held (binary l o a b) h = bound-held (evaluate a) _ (λ v. bound-held (evaluate b) _ (λ w. worked-held l (binary_of o v w) (binary-gives o v w)))
constant-held (is l a v) h = bound-held (evaluate a) _ (λ w. worked-held l (is_of v w) (is-gives v w))
