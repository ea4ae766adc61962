-- Expressions in a row: one after the other, by a loop over them.
use Prim.Native.Nat.{ℕ, zero, suc, ◌+◌, ◌-◌, ◌<◌}
use Rattle.std.proofs.Common.{arith, sym, ◌∙◌, append_assoc}
use Rattle.std.specs.Prelude.{◌≡◌, refl, ◌++◌}
use Rattle.std.proofs.Math.Path.{ap}
use Rattle.rules.specs.Refusals.{Refusal, Answer, ok, refused}
use Rattle.rules.specs.Ast.{Expr, Exprs, nil, cons, size_all}
use Rattle.rules.specs.Reader.{Place, Read, give, ◌>>=◌}
use Rattle.rules.specs.ReadExpression.{times}
use Rattle.rules.specs.Lists.{Bytes}
use Rattle.text.specs.Answers.{bind_ok, bind-no}
use Rattle.read_expression.specs.Encode.{count_of, encode, encode_all}
use Rattle.read_expression.specs.Fits.{FitsAll}

-- ONE RUN BEHIND ANOTHER
unfoldable pub joined : Exprs → Exprs → Exprs
joined nil es = es
joined (cons a as') es = cons a (joined as' es)

joined-assoc : (as' bs cs : Exprs) → joined (joined as' bs) cs ≡ joined as' (joined bs cs)
unfolding joined
joined-assoc nil bs cs = refl
joined-assoc (cons a as') bs cs = ap (cons a) (joined-assoc as' bs cs)

pub joined-none : (as' : Exprs) → joined as' nil ≡ as'
unfolding joined
joined-none nil = refl
joined-none (cons a as') = ap (cons a) (joined-none as')

pub joined-encode : (as' bs : Exprs) → encode_all (joined as' bs) ≡ encode_all as' ++ encode_all bs
unfolding joined encode_all
joined-encode nil bs = refl
joined-encode (cons a as') bs = ap (λ x. encode a ++ x) (joined-encode as' bs) ∙ sym (append_assoc (encode a) (encode_all as') (encode_all bs))

pub joined-size : (as' bs : Exprs) → size_all (joined as' bs) ≡ size_all as' + size_all bs
unfolding joined size_all
joined-size nil bs = omega arith
joined-size (cons a as') bs = omega (arith, joined-size as' bs)

pub joined-fits : (b t : Bytes) (as' bs : Exprs) → FitsAll b t as' → FitsAll b t bs → FitsAll b t (joined as' bs)
unfolding joined FitsAll
joined-fits b t nil bs f g = g
joined-fits b t (cons a as') bs f g = (f.0, joined-fits b t as' bs f.1 g)

-- expressions put before those that are read
unfoldable pub before : Exprs → Answer (Exprs × Place) → Answer (Exprs × Place)
before as' (ok r) = ok (joined as' r.0, r.1)
before as' (refused r) = refused r

pub before-none : (x : Answer (Exprs × Place)) → before nil x ≡ x
unfolding before joined
before-none (ok r) = refl
before-none (refused r) = refl

pub before-twice : (as' bs : Exprs) (x : Answer (Exprs × Place)) → before as' (before bs x) ≡ before (joined as' bs) x
unfolding before
before-twice as' bs (ok r) = rw (joined-assoc as' bs r.0)
before-twice as' bs (refused r) = refl

-- THE RULE
module _ (n : ℕ) (e : Read Expr) (p : Place) where
  pub times-end : n ≡ 0 → times n e p ≡ ok (nil, p)
  unfolding times give
  times-end z = rw z

  module _ (h : 0 < n) where
    some_left : n ≡ suc (n - 1)
    some_left = omega (arith, h)

    times_more : times n e p ≡ (e >>= λ a. times (n - 1) e >>= λ as'. give (cons a as')) p
    unfolding times
    times_more = ap (λ m. times m e p) some_left

    pub times-no : (x : Refusal) → e p ≡ refused x → times n e p ≡ refused x
    times-no x f = times_more ∙ bind-no e _ p x f

    pub times-on : (a : Expr) (q : Place) → e p ≡ ok (a, q) → times n e p ≡ before (cons a nil) (times (n - 1) e q)
    times-on a q f = times_more ∙ bind_ok e _ p a q f ∙ go (times (n - 1) e q) refl
      where
        go : (x : Answer (Exprs × Place)) → times (n - 1) e q ≡ x → (times (n - 1) e >>= λ as'. give (cons a as')) q ≡ before (cons a nil) (times (n - 1) e q)
        go (ok r) g = unfold before joined give in bind_ok (times (n - 1) e) _ q _ _ g ∙ rw g
        go (refused r) g = unfold before in bind-no (times (n - 1) e) _ q r g ∙ rw g

-- ANSWERS THAT ARE THE SAME
first-of : {A : Type 0} → A → Answer (A × Place) → A
first-of d (ok r) = r.0
first-of d (refused x) = d

place_of : {A : Type 0} → Place → Answer (A × Place) → Place
place_of d (ok r) = r.1
place_of d (refused x) = d

pub ok_same : {A : Type 0} {x y : A} {p q : Place} → ◌≡◌ {A = Answer (A × Place)} (ok (x, p)) (ok (y, q)) → (x ≡ y) × (p ≡ q)
unfolding first-of place_of
ok_same {x = x} {p = p} e = (ap (first-of x) e, ap (place_of p) e)

pub ok-not : {A : Type 0} {x : A × Place} {r : Refusal} → ◌≡◌ {A = Answer (A × Place)} (ok x) (refused r) → ⊥
ok-not e = grind arith

-- HOW MANY THERE ARE
pub times-count : (n : ℕ) (e : Read Expr) (p q : Place) (es : Exprs) → times n e p ≡ ok (es, q) → count_of es ≡ n
unfolding count_of
times-count zero e p q es h = rw (ok_same (sym h ∙ times-end 0 e p refl)).0
times-count (suc n) e p q es h = go (e p) refl (times-count n e)
  where
    less : suc n - 1 ≡ n
    less = omega arith

    rest : (a : Expr) (r : Place) (y : Answer (Exprs × Place)) → times n e r ≡ y → e p ≡ ok (a, r) → ((u z : Place) (x : Exprs) → times n e u ≡ ok (x, z) → count_of x ≡ n) → count_of es ≡ suc n
    rest a r y f g ih = all y f (sym h ∙ times-on (suc n) e p (omega arith) a r g ∙ rw (less, f))
      where
        all : (x : Answer (Exprs × Place)) → times n e r ≡ x → ok (es, q) ≡ before (cons a nil) x → count_of es ≡ suc n
        all (ok s) f w = unfold before joined in rw (ok_same w).0 (ap suc (ih r s.1 s.0 f))
        all (refused x) f w = unfold before in absurd (ok-not w)

    go : (x : Answer (Expr × Place)) → e p ≡ x → ((u z : Place) (x : Exprs) → times n e u ≡ ok (x, z) → count_of x ≡ n) → count_of es ≡ suc n
    go (ok s) g ih = rest s.0 s.1 (times n e s.1) refl g ih
    go (refused x) g ih = absurd (ok-not (sym h ∙ times-no (suc n) e p (omega arith) x g))
