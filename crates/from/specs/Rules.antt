-- A tree of FROM by loops: the joins that are open, and what the rules read behind a record or behind a side of a join.
use Rattle.std.specs.Prelude.{ℕ, suc, ◌≤◌, ◌<◌, Bool, false, List, [], ◌∷◌}
use Rattle.std.proofs.Common.{arith, ◌∙◌}
use Rattle.std.proofs.Math.Path.{◌≡◌, refl, sym, ap}
use Rattle.std.proofs.Math.Bool.{true}
use Rattle.std.proofs.Math.Option.{Option, none, some}
use borrow.Author.Tests.{lt-ltb, le-ltb}
use Rattle.rules.specs.Refusals.{wrong_record, limit_passed, Refusal, Answer, ok, refused}
use Rattle.rules.specs.Limits.{most_from_tables}
use Rattle.rules.specs.Lines.{Word}
use Rattle.rules.specs.Ast.{Expr, Exprs, nil, cons, Join, From, table, join}
use Rattle.rules.specs.Reader.{Place, Read, stop, give, ◌>>=◌, line_here, line_number, next, one_of, optional}
use Rattle.rules.specs.ReadExpression.{times, expression}
use Rattle.rules.specs.ReadStatement.{FromHead, table_head, join_head, from_heads, tabled, from_here, from_body, from_tree}
use Rattle.text.specs.Answers.{bind_ok, bind-no, bind-answer}

-- an open join: its line, the join, whether a predicate follows, and its left side where that is read
pub data Frame : Type 0 where
  first : ℕ → Join → Bool → Frame
  second : ℕ → Join → Bool → From → Frame

-- what follows a side of the innermost of these joins
unfoldable pub plug : ℕ → List Frame → From → Read From
plug g [] a = give a
plug g (first l j o ∷ fs) a = do
  b ← from_tree g
  e ← optional o expression
  plug (suc g) fs (join l j a b e)
plug g (second l j o a ∷ fs) b = do
  e ← optional o expression
  plug (suc g) fs (join l j a b e)

-- the rest of a tree: a side is to be read, or a is the side that was read
unfoldable pub rest_of : Bool → ℕ → List Frame → From → Read From
rest_of false g fs a = from_tree g >>= plug g fs
rest_of true g fs a = plug g fs a

-- ONE STEP AFTER ANOTHER
module _ {A B : Type 0} (m : Read A) (f g : A → Read B) (p : Place) where
  bind-same : ((a : A) (q : Place) → f a q ≡ g a q) → (m >>= f) p ≡ (m >>= g) p
  unfolding ◌>>=◌
  bind-same h = go (m p) refl
    where
      go : (x : Answer (A × Place)) → m p ≡ x → (m >>= f) p ≡ (m >>= g) p
      go (ok r) e = rw (◌>>=◌, e) (h r.0 r.1)
      go (refused r) e = rw (◌>>=◌, e)

module _ {A B C : Type 0} (m : Read A) (f : A → Read B) (g : B → Read C) (p : Place) where
  bind_assoc : ((m >>= f) >>= g) p ≡ (m >>= λ a. f a >>= g) p
  unfolding ◌>>=◌
  bind_assoc = go (m p) refl
    where
      go : (x : Answer (A × Place)) → m p ≡ x → ((m >>= f) >>= g) p ≡ (m >>= λ a. f a >>= g) p
      go (ok r) e = rw (◌>>=◌, e)
      go (refused r) e = rw (◌>>=◌, e)

bind-give : {A B : Type 0} (a : A) (f : A → Read B) (p : Place) → (give a >>= f) p ≡ f a p
unfolding ◌>>=◌ give
bind-give a f p = refl

-- ONE RECORD
module _ (p : Place) where
  pub here-wrong : one_of from_heads (line_here p) ≡ none → from_here p ≡ stop wrong_record p
  unfolding from_here
  here-wrong e = rw (from_here, e)

  pub here-limit : (n : Word) (a : Option Word) → one_of from_heads (line_here p) ≡ some (table_head n a) → most_from_tables ≤ p.tables → from_here p ≡ stop limit_passed p
  unfolding from_here
  here-limit n a e h = rw (from_here, e, le-ltb p.tables most_from_tables h)

  pub here-table : (n : Word) (a : Option Word) → one_of from_heads (line_here p) ≡ some (table_head n a) → p.tables < most_from_tables → from_here p ≡ ok (table_head n a, next (tabled p))
  unfolding from_here
  here-table n a e h = rw (from_here, e, lt-ltb p.tables most_from_tables h)

  pub here-join : (j : Join) (o : Bool) → one_of from_heads (line_here p) ≡ some (join_head j o) → from_here p ≡ ok (join_head j o, next p)
  unfolding from_here
  here-join j o e = rw (from_here, e)

  -- the tree that starts with it
  tree-no : (g : ℕ) (r : Refusal) → from_here p ≡ refused r → from_tree (suc g) p ≡ refused r
  unfolding from_tree line_number
  tree-no g r e = bind_ok line_number _ p p.line p refl ∙ bind-no from_here _ p r e

  tree-ok : (g : ℕ) (h : FromHead) (q : Place) → from_here p ≡ ok (h, q) → from_tree (suc g) p ≡ from_body h p.line (from_tree g) q
  unfolding from_tree line_number
  tree-ok g h q e = bind_ok line_number _ p p.line p refl ∙ bind_ok from_here _ p h q e

-- THE REST OF A TREE
module _ (p : Place) (g : ℕ) (fs : List Frame) where
  pub rest-no : (a : From) (r : Refusal) → from_here p ≡ refused r → rest_of false (suc g) fs a p ≡ refused r
  unfolding rest_of
  rest-no a r e = bind-no (from_tree (suc g)) (plug (suc g) fs) p r (tree-no p g r e)

  pub rest-table : (a : From) (n : Word) (w : Option Word) (q : Place) → from_here p ≡ ok (table_head n w, q) → rest_of false (suc g) fs a p ≡ rest_of true (suc g) fs (table p.line n w) q
  unfolding rest_of from_body give
  rest-table a n w q e = bind_ok (from_tree (suc g)) (plug (suc g) fs) p _ q (tree-ok p g _ q e)

  pub rest-join : (a : From) (j : Join) (o : Bool) (q : Place) → from_here p ≡ ok (join_head j o, q) → rest_of false (suc g) fs a p ≡ rest_of false g (first p.line j o ∷ fs) a q
  unfolding rest_of from_body plug
  rest-join a j o q e = bind-answer (from_tree (suc g)) _ (plug (suc g) fs) p q (tree-ok p g _ q e) ∙ bind_assoc (from_tree g) _ _ q ∙ bind-same (from_tree g) _ _ q (λ x y.
      bind_assoc (from_tree g) _ _ y ∙ bind-same (from_tree g) _ _ y (λ z u.
      bind_assoc (optional o expression) _ _ u ∙ bind-same (optional o expression) _ _ u (λ w v. bind-give _ (plug (suc g) fs) v)))

  module _ (l : ℕ) (j : Join) (o : Bool) (a : From) where
    -- the left side was read, and the right one is to be read
    pub rest-right : rest_of true g (first l j o ∷ fs) a p ≡ rest_of false g (second l j o a ∷ fs) a p
    unfolding rest_of plug
    rest-right = refl

    -- both were read, and the predicate
    pub rest-close : (b : From) (e : Option Expr) (q : Place) → optional o expression p ≡ ok (e, q) → rest_of true g (second l j o a ∷ fs) b p ≡ rest_of true (suc g) fs (join l j a b e) q
    unfolding rest_of plug
    rest-close b e q h = bind_ok (optional o expression) _ p e q h

    pub rest-close-no : (b : From) (r : Refusal) → optional o expression p ≡ refused r → rest_of true g (second l j o a ∷ fs) b p ≡ refused r
    unfolding rest_of plug
    rest-close-no b r h = bind-no (optional o expression) _ p r h

pub rest_end : (p : Place) (g : ℕ) (a : From) → rest_of true g [] a p ≡ ok (a, p)
unfolding rest_of plug give
rest_end p g a = refl

-- A PREDICATE, AS ONE EXPRESSION OF A ROW
unfoldable value_in : Answer (Exprs × Place) → Exprs
value_in (ok r) = r.0
value_in (refused r) = nil

unfoldable place_in : Place → Answer (Exprs × Place) → Place
place_in p (ok r) = r.1
place_in p (refused r) = p

pub record Single (m : Read Expr) (p : Place) (es : Exprs) (q : Place) : Type 0 where
  pub expr : Expr
  pub one : es ≡ cons expr nil
  pub is : optional true m p ≡ ok (some expr, q)

module _ (m : Read Expr) (p : Place) where
  pub single : (es : Exprs) (q : Place) → times 1 m p ≡ ok (es, q) → Single m p es q
  unfolding value_in place_in times optional give ◌>>=◌
  single es q h = go (m p) refl
    where
      go : (x : Answer (Expr × Place)) → m p ≡ x → Single m p es q
      go (ok r) e =
          let w : times 1 m p ≡ ok (cons r.0 nil, r.1) = rw (◌>>=◌, e) in
          let y : ◌≡◌ {A = Answer (Exprs × Place)} (ok (es, q)) (ok (cons r.0 nil, r.1)) = sym h ∙ w in
          let x : es ≡ cons r.0 nil = ap value_in y in
          let z : q ≡ r.1 = ap (place_in q) y in
          record { expr = r.0; one = x; is = rw (◌>>=◌, e, z) }
      go (refused r) e =
          let w : times 1 m p ≡ refused r = rw (◌>>=◌, e) in
          let y : ◌≡◌ {A = Answer (Exprs × Place)} (ok (es, q)) (refused r) = sym h ∙ w in
          grind arith

  pub single-no : (r : Refusal) → times 1 m p ≡ refused r → optional true m p ≡ refused r
  unfolding times optional give ◌>>=◌
  single-no r h = go (m p) refl
    where
      go : (x : Answer (Expr × Place)) → m p ≡ x → optional true m p ≡ refused r
      go (ok s) e =
          let w : times 1 m p ≡ ok (cons s.0 nil, s.1) = rw (◌>>=◌, e) in
          let y : ◌≡◌ {A = Answer (Exprs × Place)} (ok (cons s.0 nil, s.1)) (refused r) = sym w ∙ h in
          grind arith
      go (refused s) e =
          let w : times 1 m p ≡ refused s = rw (◌>>=◌, e) in
          let v : optional true m p ≡ refused s = rw (◌>>=◌, e) in
          let y : ◌≡◌ {A = Answer (Exprs × Place)} (refused s) (refused r) = sym w ∙ h in
          let z : s ≡ r = cc in
          v ∙ ap refused z

-- by the value of its flag
pub optional-as : {A : Type 0} (m : Read A) (p : Place) {x : Answer (Option A × Place)} {a b : Bool} → a ≡ b → optional a m p ≡ x
    → optional b m p ≡ x
optional-as m p e h = rw e at h

-- none where none follows
pub without : {A : Type 0} (m : Read A) (p : Place) → optional false m p ≡ ok (none, p)
unfolding optional give
without m p = refl

-- nothing is open
pub rest-begin : (p : Place) (g : ℕ) (a : From) → rest_of false g [] a p ≡ from_tree g p
unfolding rest_of plug give ◌>>=◌
rest-begin p g a = go (from_tree g p) refl
  where
    go : (x : Answer (From × Place)) → from_tree g p ≡ x → rest_of false g [] a p ≡ from_tree g p
    go (ok r) e = rw (◌>>=◌, e)
    go (refused r) e = rw (◌>>=◌, e)
