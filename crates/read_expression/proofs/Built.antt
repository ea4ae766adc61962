-- An expression by its first record and its operands: what the rules read, its rows, and what it needs to be read back.
use Rattle.std.specs.Prelude.{ℕ, suc, ◌≡◌, refl, ◌++◌}
use Rattle.std.proofs.Common.{arith, add-zero, sym, ◌∙◌, append-nil}
use Rattle.std.proofs.Math.Path.{ap}
use Rattle.rules.specs.Refusals.{Refusal, Answer, ok, refused}
use Rattle.rules.specs.Lists.{Bytes}
use Rattle.rules.specs.Schema.{Value}
use Rattle.rules.specs.Ast.{Expr, star, column, literal, call, unary, binary, is, Exprs, nil, cons, size, size_all}
use Rattle.rules.specs.Reader.{Place, Read, give, literal_here, ◌>>=◌}
use Rattle.rules.specs.ReadExpression.{Head, star_head, is_head, column_head, value_head, call_head, unary_head, binary_head, times, operands}
use Rattle.text.specs.Answers.{bind_ok, bind-no}
use Rattle.read_expression.specs.Encode.{head_numbers, is_numbers, arity, row_of, count_of, encode, encode_all}
use Rattle.read_expression.specs.Fits.{HeadFits, Fits, FitsAll}
use Rattle.read_expression.specs.Times.{joined, before, times-end, times-no, times-on, ok_same, ok-not}

-- the expression of a record other than an `is`; a star where it has too few operands
unfoldable pub build : Head → ℕ → Exprs → Expr
build star_head l as' = star l
build (column_head t n) l as' = column l t n
build (value_head v) l as' = literal l v
build (call_head n k) l as' = call l n as'
build (unary_head o) l nil = star l
build (unary_head o) l (cons a as') = unary l o a
build (binary_head o) l nil = star l
build (binary_head o) l (cons a nil) = star l
build (binary_head o) l (cons a (cons b as')) = binary l o a b
build is_head l as' = star l

-- its row stands before those of its operands
pub record Built (h : Head) (l : ℕ) (as' : Exprs) (e : Expr) : Type 0 where
  pub rows : encode e ≡ row_of l (suc (size_all as')) (head_numbers h) ++ encode_all as'
  pub size : size e ≡ suc (size_all as')
  pub fits : (b t : Bytes) → HeadFits b t h → FitsAll b t as' → Fits b t e

pub built : (h : Head) (l : ℕ) (as' : Exprs) → (h ≡ is_head → ⊥) → count_of as' ≡ arity h → Built h l as' (build h l as')
unfolding build encode encode_all arity count_of size size_all Fits FitsAll HeadFits
built star_head l nil n s = record { rows = sym (append-nil _); size = refl; fits = λ b t f g. tt }
built star_head l (cons a as') n s = absurd (omega arith)
built (column_head w m) l nil n s = record { rows = sym (append-nil _); size = refl; fits = λ b t f g. f }
built (column_head w m) l (cons a as') n s = absurd (omega arith)
built (value_head v) l nil n s = record { rows = sym (append-nil _); size = refl; fits = λ b t f g. f }
built (value_head v) l (cons a as') n s = absurd (omega arith)
built is_head l as' n s = absurd (n refl)
built (call_head m k) l as' n s = record { rows = rw s; size = refl; fits = λ b t f g. (f, g) }
built (unary_head o) l nil n s = absurd (omega arith)
built (unary_head o) l (cons a nil) n s =
    record {
      rows = rw (append-nil (encode a), add-zero (size a));
      size = rw (add-zero (size a));
      fits = λ b t f g. g.0;
    }
built (unary_head o) l (cons a (cons b as')) n s = absurd (omega arith)
built (binary_head o) l nil n s = absurd (omega arith)
built (binary_head o) l (cons a nil) n s = absurd (omega arith)
built (binary_head o) l (cons a (cons b nil)) n s =
    record {
      rows = rw (append-nil (encode b), add-zero (size b));
      size = rw (add-zero (size b));
      fits = λ b' t f g. (g.0, g.1.0);
    }
built (binary_head o) l (cons a (cons b (cons x as'))) n s = absurd (omega arith)

-- OPERANDS BY NUMBER
unfoldable mapped : (Exprs → Expr) → Answer (Exprs × Place) → Answer (Expr × Place)
mapped f (ok r) = ok (f r.0, r.1)
mapped f (refused x) = refused x

operands-build : (h : Head) (l : ℕ) (e : Read Expr) (p : Place) → (h ≡ is_head → ⊥) → operands h l e p ≡ mapped (build h l) (times (arity h) e p)
unfolding operands mapped build times arity give ◌>>=◌
operands-build star_head l e p n = refl
operands-build (column_head t m) l e p n = refl
operands-build (value_head v) l e p n = refl
operands-build is_head l e p n = absurd (n refl)
operands-build (call_head m k) l e p n = go (times k e p)
  where
    go : (x : Answer (Exprs × Place)) → elim x as (λ y. Answer (Expr × Place)) [ ok r ↦ ok (call l m r.0, r.1) | refused r ↦ refused r ] ≡ mapped (call l m) x
    go (ok r) = refl
    go (refused r) = refl
operands-build (unary_head o) l e p n = go (e p)
  where
    go : (x : Answer (Expr × Place)) → elim x as (λ y. Answer (Expr × Place)) [ ok r ↦ ok (unary l o r.0, r.1) | refused r ↦ refused r ]
        ≡ mapped (build (unary_head o) l) (elim x [ ok r ↦ ok (cons r.0 nil, r.1) | refused r ↦ refused r ])
    go (ok r) = refl
    go (refused r) = refl
operands-build (binary_head o) l e p n = go (e p)
  where
    second : (a : Expr) (x : Answer (Expr × Place)) → elim x as (λ y. Answer (Expr × Place)) [ ok r ↦ ok (binary l o a r.0, r.1) | refused r ↦ refused r ]
        ≡ mapped (build (binary_head o) l) (elim (elim x as (λ y. Answer (Exprs × Place)) [ ok r ↦ ok (cons r.0 nil, r.1) | refused r ↦ refused r ]) as (λ y. Answer (Exprs × Place)) [ ok r ↦ ok (cons a r.0, r.1) | refused r ↦ refused r ])
    second a (ok r) = refl
    second a (refused r) = refl

    go : (x : Answer (Expr × Place)) → elim x as (λ y. Answer (Expr × Place)) [ ok r ↦ elim (e r.1) [ ok s ↦ ok (binary l o r.0 s.0, s.1) | refused s ↦ refused s ] | refused r ↦ refused r ]
        ≡ mapped (build (binary_head o) l) (elim x [ ok r ↦ elim (elim (e r.1) as (λ y. Answer (Exprs × Place)) [ ok s ↦ ok (cons s.0 nil, s.1) | refused s ↦ refused s ]) as (λ y. Answer (Exprs × Place)) [ ok s ↦ ok (cons r.0 s.0, s.1) | refused s ↦ refused s ] | refused r ↦ refused r ])
    go (ok r) = second r.0 (e r.1)
    go (refused r) = refl

pub operands-ok : (h : Head) (l : ℕ) (e : Read Expr) (p q : Place) (as' : Exprs) → (h ≡ is_head → ⊥) → times (arity h) e p ≡ ok (as', q) → operands h l e p ≡ ok (build h l as', q)
unfolding mapped
operands-ok h l e p q as' n g = operands-build h l e p n ∙ rw g

-- AN `IS`
-- one expression
module _ (e : Read Expr) (p : Place) where
  one_on : (a : Expr) (q : Place) → e p ≡ ok (a, q) → times 1 e p ≡ ok (cons a nil, q)
  unfolding before joined
  one_on a q g = times-on 1 e p (omega arith) a q g ∙ ap (before (cons a nil)) (times-end _ e q refl)

  pub one_ok : (q : Place) (as' : Exprs) → times 1 e p ≡ ok (as', q) → (a : Expr) × (as' ≡ cons a nil) × (e p ≡ ok (a, q))
  one_ok q as' h = go (e p) refl
    where
      go : (x : Answer (Expr × Place)) → e p ≡ x → (a : Expr) × (as' ≡ cons a nil) × (e p ≡ ok (a, q))
      go (ok s) g = let v = ok_same (sym h ∙ one_on s.0 s.1 g) in (s.0, v.0, rw v.1 g)
      go (refused x) g = absurd (ok-not (sym h ∙ times-no 1 e p (omega arith) x g))

  one-no : (x : Refusal) → times 1 e p ≡ refused x → e p ≡ refused x
  one-no x h = go (e p) refl
    where
      go : (y : Answer (Expr × Place)) → e p ≡ y → e p ≡ refused x
      go (ok s) g = absurd (ok-not (sym (one_on s.0 s.1 g) ∙ h))
      go (refused y) g = let w : refused y ≡ refused x = sym (times-no 1 e p (omega arith) y g) ∙ h in let z : y ≡ x = cc in rw z at g

  -- its operand, then its literal
  module _ (l : ℕ) (q : Place) (a : Expr) (h : e p ≡ ok (a, q)) where
    pub is-wrong : (x : Refusal) → literal_here q ≡ refused x → operands is_head l e p ≡ refused x
    unfolding operands
    is-wrong x g = bind_ok e _ p a q h ∙ bind-no literal_here _ q x g

    pub is_read : (v : Value) (r : Place) → literal_here q ≡ ok (v, r) → operands is_head l e p ≡ ok (is l a v, r)
    unfolding operands give
    is_read v r g = bind_ok e _ p a q h ∙ bind_ok literal_here _ q v r g

pub operands-no : (h : Head) (l : ℕ) (e : Read Expr) (p : Place) (x : Refusal) → times (arity h) e p ≡ refused x → operands h l e p ≡ refused x
unfolding mapped arity
operands-no is_head l e p x g = unfold operands in bind-no e _ p x (one-no e p x g)
operands-no star_head l e p x g = operands-build star_head l e p (λ j. grind arith) ∙ rw g
operands-no (column_head t n) l e p x g = operands-build (column_head t n) l e p (λ j. grind arith) ∙ rw g
operands-no (value_head v) l e p x g = operands-build (value_head v) l e p (λ j. grind arith) ∙ rw g
operands-no (call_head n k) l e p x g = operands-build (call_head n k) l e p (λ j. grind arith) ∙ rw g
operands-no (unary_head o) l e p x g = operands-build (unary_head o) l e p (λ j. grind arith) ∙ rw g
operands-no (binary_head o) l e p x g = operands-build (binary_head o) l e p (λ j. grind arith) ∙ rw g

pub is-built : (l : ℕ) (a : Expr) (v : Value) → encode (is l a v) ≡ row_of l (suc (size a)) (is_numbers v) ++ encode a
unfolding encode
is-built l a v = refl
