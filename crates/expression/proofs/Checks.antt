-- Building over the empty scope: what the root adds to the refusals of its operands, in a tree and at a row of the table.
use mathlib.Core.Bool.{Bool, true, false, not, ◌&&◌}
use mathlib.Core.List.{List}
use mathlib.Core.Logic.{◌⊎◌, inl, inr}
use mathlib.Core.Path.{◌≡◌, refl, sym, ap, ◌∙◌}
use Prim.Native.Nat.{ℕ, zero, suc, ◌+◌, ◌-◌, ◌≤◌, ◌<◌}
use native.Mathlib.Numerals.{add-one}
use native.Mathlib.Omega.{arith}
use lib.Dec.{eqb}
use borrow.Author.Tests.{eq-eqb, ne_eqb}
use Rattle.rules.specs.Ast as Ast
use Rattle.rules.specs.Plan.{Built}
use Rattle.rules.specs.Plan as P
use Rattle.rules.specs.Ast.{Unary, Binary, Expr, call, unary, binary, is, nil, cons}
use Rattle.rules.specs.BuildExpression.{found, pick_matched, or_matched, is_null_or_nan, only_argument, build, build_argument, constant}
use Rattle.rules.specs.Evaluate.{evaluate}
use Rattle.rules.specs.Lines.{Word, bytes}
use Rattle.rules.specs.Lists.{Bytes, same, is_empty}
use Rattle.rules.specs.Places.{bytes_at, word_at}
use Rattle.rules.specs.Refusals as rule
use Rattle.rules.specs.Refusals.{Answer, ok, refused, ◌>>=◌, refuse, refuse_if, constant_only, unsupported_star, unknown_function, invalid_is}
use Rattle.rules.specs.Schema.{Value}
use Rattle.rules.specs.Scope.{empty, lookup, match_at, matched}
use Rattle.ast.specs.Operands.{operands_of, kind_at, operands_at, operands-at, operands-call, tree-call, tree-unary}
use Rattle.ast.specs.Operands.{tree-binary, tree_is, tree-literal, tree-column, tree-qualified, arguments-none, arguments-more, tree-at}
use Rattle.ast.specs.Table.{at, rows_at, arguments_at, tree_by, tree_at}
use Rattle.numbers.specs.Values.{value_at}
use Rattle.expression.specs.Answers.{map_answer, answered}
use Rattle.expression.specs.Constants.{checked_of, refusal_only, check, first_of, check_all}
use Rattle.ast.specs.Called.{is_root_call}
use Rattle.std.specs.Prelude.{Result, Ok, Err}
use Rattle.std.specs.Result.{result_and}
use Rattle.numbers.specs.Reasons.{reason_of}
use Rattle.numbers.specs.declared.refusals.Reason.{Reason}
use Rattle.numbers.specs.declared.refusals.Refusal.{Refusal}
use Rattle.ast.specs.Row.{number_of, tree-star, literal_at, row-literal}
use Rattle.numbers.specs.Literals.{literal_value}
use Rattle.numbers.specs.declared.literals.Literal.{Literal}
use Rattle.ast.specs.declared.row.Kind.{Kind}
use Rattle.ast.specs.declared.row.Kind.TheVariants as K
use Rattle.expression.proofs.Rows.{kind_is}

-- ANSWERS
-- what follows, but for its value
follows : {A B : Type 0} (m : Answer A) (g : A → Answer B) (n : Answer (Unit {0})) → ((a : A) → refusal_only (g a) ≡ n)
    → refusal_only (m >>= g) ≡ first_of (refusal_only m) n
unfolding first_of ◌>>=◌ refusal_only map_answer
follows (ok a) g n h = h a
follows (refused r) g n h = refl

first-first : (m n : Answer (Unit {0})) → first_of m n ≡ first_of (first_of m (ok tt)) n
unfolding first_of ◌>>=◌
first-first (ok a) n = refl
first-first (refused r) n = refl

pub first-and : (a b : Result (Unit {0}) Refusal) → checked_of (result_and a b) ≡ first_of (checked_of a) (checked_of b)
unfolding answered first_of ◌>>=◌ refuse
first-and (Ok a) b = refl
first-and (Err w) b = refl

-- a test passed or not, of a record at a line
pub guard_passed : (b : Bool) (n : rule.Reason) (l : ℕ) → b ≡ true → checked_of (Ok tt) ≡ refuse_if (not b) n l
unfolding answered refuse_if
guard_passed b n l e = rw e

pub guard-refused : (b : Bool) (k : Reason) (l m : ℕ) → b ≡ false → l ≡ m → checked_of (Err (record { reason = k; line = l })) ≡ refuse_if (not b) (reason_of k) m
unfolding answered refuse_if
guard-refused b k l m e g = rw (e, g)

-- A TREE BY ITS ROOT
-- nothing matches in the empty scope
built : (e : Expr) (m : Answer Built) → or_matched empty e m ≡ m
unfolding or_matched pick_matched matched match_at empty
built e m = refl

module _ (l : ℕ) where
  root-unary : (o : Unary) (a : Expr) → check (unary l o a) ≡ check_all (cons a nil)
  unfolding check check_all build refusal_only map_answer
  root-unary o a = ap refusal_only (built (unary l o a) _) ∙ follows (build empty a) _ (ok tt) (λ x. refl)

  root-binary : (o : Binary) (a b : Expr) → check (binary l o a b) ≡ check_all (cons a (cons b nil))
  unfolding check check_all build refusal_only map_answer
  root-binary o a b = ap refusal_only (built (binary l o a b) _) ∙ follows (build empty a) _ (check_all (cons b nil))
      (λ x. follows (build empty b) _ (ok tt) (λ y. refl))

  root_is : (a : Expr) (v : Value) → check (is l a v) ≡ first_of (check_all (cons a nil)) (refuse_if (not (is_null_or_nan v)) invalid_is l)
  unfolding check check_all build refusal_only map_answer refuse_if ◌>>=◌ refuse
  root_is a v = ap refusal_only (built (is l a v) _) ∙ follows (build empty a) _ (refuse_if (not (is_null_or_nan v)) invalid_is l)
      (λ x. guarded (P.is x v) (not (is_null_or_nan v))) ∙ first-first (check a) _
    where
      guarded : (x : Built) (b : Bool) → refusal_only (refuse_if b invalid_is l >>= λ u. ok x) ≡ refuse_if b invalid_is l
      guarded x true = refl
      guarded x false = refl

  root-call : (n : Word) (f : ℕ → Expr) (t : List ℕ) (k p : ℕ) → check (call l n (arguments_at f t k p))
      ≡ first_of (refuse_if (not (eqb k 1 && same n.bytes (bytes "sqrt"))) unknown_function l) (check_all (arguments_at f t k p))
  unfolding check check_all first_of build build_argument only_argument arguments_at refusal_only map_answer refuse_if ◌>>=◌ refuse
  root-call n f t k p = ap refusal_only (built (call l n (arguments_at f t k p)) _)
      ∙ by (same n.bytes (bytes "sqrt")) k
    where
      by : (b : Bool) (k : ℕ) → refusal_only (refuse_if (not b) unknown_function l >>= λ u.
          build_argument empty l (arguments_at f t k p) >>= λ x. ok (P.unary Ast.sqrt x))
          ≡ first_of (refuse_if (not (eqb k 1 && b)) unknown_function l) (check_all (arguments_at f t k p))
      by true zero = refl
      by true (suc zero) = follows (build empty (f p)) _ (ok tt) (λ x. refl)
      by true (suc (suc k)) = rw (ne_eqb (suc (suc k)) 1 (λ e. omega arith))
      by false zero = refl
      by false (suc zero) = refl
      by false (suc (suc k)) = rw (ne_eqb (suc (suc k)) 1 (λ e. omega arith))

-- A RECORD
module _ (f : ℕ → Expr) (c q : Bytes) (t : List ℕ) (r : ℕ) where
  -- the operands' refusal
  abbrev operands : Answer (Unit {0})
  operands = check_all (arguments_at f t (operands_at t r) (suc r))

  operands_of_lem : (e : Expr) → tree_by f c q t r ≡ e → operands ≡ check_all (operands_of e)
  operands_of_lem e h = ap check_all (sym (operands-at f c q t r) ∙ ap operands_of h)

  record-column : kind_at t r ≡ 2 → check (tree_by f c q t r) ≡ refuse constant_only (at t r 1)
  unfolding check build or_matched pick_matched matched match_at empty lookup is_empty found refusal_only map_answer refuse ◌>>=◌
  record-column h = rw (tree-column f c q t r h)

  record-qualified : kind_at t r ≡ 3 → check (tree_by f c q t r) ≡ refuse constant_only (at t r 1)
  unfolding check build or_matched pick_matched matched match_at empty lookup is_empty found refusal_only map_answer refuse ◌>>=◌
  record-qualified h = rw (tree-qualified f c q t r h)

  pub record-literal : kind_at t r ≡ 8 → check (tree_by f c q t r) ≡ ok tt
  unfolding check build or_matched pick_matched matched match_at empty refusal_only map_answer
  record-literal h = rw (tree-literal f c q t r h)

  record-unary : kind_at t r ≡ 5 → check (tree_by f c q t r) ≡ operands
  unfolding operands_of
  record-unary h = let g = tree-unary f c q t r h in ap check g ∙ root-unary _ _ _ ∙ sym (operands_of_lem _ g)

  record-binary : kind_at t r ≡ 6 → check (tree_by f c q t r) ≡ operands
  unfolding operands_of
  record-binary h = let g = tree-binary f c q t r h in ap check g ∙ root-binary _ _ _ _ ∙ sym (operands_of_lem _ g)

  pub record_is : kind_at t r ≡ 7 → check (tree_by f c q t r)
      ≡ first_of operands (refuse_if (not (is_null_or_nan (value_at c q (at t r 3) (at t r 4) (at t r 5)))) invalid_is (at t r 1))
  unfolding operands_of
  record_is h = let g = tree_is f c q t r h in
      let test : Answer (Unit {0}) = refuse_if (not (is_null_or_nan (value_at c q (at t r 3) (at t r 4) (at t r 5)))) invalid_is (at t r 1) in
      ap check g ∙ root_is _ _ _ ∙ ap (λ (m : Answer (Unit {0})). first_of m test) (sym (operands_of_lem _ g))

  pub record-call : kind_at t r ≡ 4 → check (tree_by f c q t r)
      ≡ first_of (refuse_if (not (is_root_call c q t r)) unknown_function (at t r 1)) operands
  unfolding is_root_call word_at
  record-call h = rw (tree-call f c q t r h, operands-call t r h) (root-call _ _ f t _ _)

  pub record-star : kind_at t r ≡ 1 → check (tree_by f c q t r) ≡ refuse unsupported_star (at t r 1)
  unfolding check build or_matched pick_matched matched match_at empty refusal_only map_answer refuse
  record-star h = rw (tree-star f c q t r h)

  -- the kinds that are checked alike
  module _ {k : Kind} (h : number_of k ≡ kind_at t r) where
    pub record-name : (k ≡ K.Column) ⊎ (k ≡ K.Qualified) → check (tree_by f c q t r) ≡ refuse constant_only (at t r 1)
    unfolding number_of
    record-name (inl e) = record-column (kind_is h e)
    record-name (inr e) = record-qualified (kind_is h e)

    pub record-operator : (k ≡ K.Unary) ⊎ (k ≡ K.Binary) → check (tree_by f c q t r) ≡ operands
    unfolding number_of
    record-operator (inl e) = record-unary (kind_is h e)
    record-operator (inr e) = record-binary (kind_is h e)

-- the literal behind `is`, as the code reads it
module _ (c q : Bytes) (t : List ℕ) (r : ℕ) where
  pub is-literal : {b : Bool} {l : Literal} → b ≡ is_null_or_nan (literal_value c q l) → l ≡ literal_at t r
      → is_null_or_nan (value_at c q (at t r 3) (at t r 4) (at t r 5)) ≡ b
  is-literal e h = sym (e ∙ ap is_null_or_nan (row-literal c q t r h))

  pub at_row : (x : Result (Unit {0}) Refusal) → checked_of x ≡ check (tree_by (tree_at c q t) c q t r) → checked_of x ≡ check (tree_at c q t r)
  at_row x h = h ∙ ap check (sym (tree-at c q t r))

-- OPERANDS IN A ROW
module _ (f : ℕ → Expr) (t : List ℕ) (n p : ℕ) where
  pub check-start : n ≡ operands_at t p → check_all (arguments_at f t n (p + 1)) ≡ check_all (arguments_at f t (operands_at t p) (suc p))
  check-start h = (λ i. check_all (arguments_at f t (h i) (add-one p i)))

  pub check-end : n ≤ 0 → check_all (arguments_at f t n p) ≡ checked_of (Ok tt)
  unfolding check_all answered
  check-end h = rw (arguments-none f t n p h)

  pub check-more : (m : ℕ) → m ≡ n - 1 → (x : Result (Unit {0}) Refusal) → x ≡ Ok tt → checked_of x ≡ check (f p) → 0 < n
      → check_all (arguments_at f t m (p + rows_at t p)) ≡ check_all (arguments_at f t n p)
  unfolding check_all answered first_of ◌>>=◌
  check-more m k x e g h = rw (k, arguments-more f t n p h, ← g, e)

  pub check-stop : (x : Result (Unit {0}) Refusal) (w : Refusal) → x ≡ Err w → checked_of x ≡ check (f p) → 0 < n
      → checked_of x ≡ check_all (arguments_at f t n p)
  unfolding check_all answered first_of refuse ◌>>=◌
  check-stop x w e g h = rw (arguments-more f t n p h, ← g, e)

-- CONSTANTS
module _ (e : Expr) (x : Result (Unit {0}) Refusal) where
  pub constant-passed : x ≡ Ok tt → checked_of x ≡ check e → constant e ≡ evaluate e
  unfolding constant check answered refusal_only map_answer ◌>>=◌
  constant-passed h g = by (build empty e) (ap checked_of (sym h) ∙ g)
    where
      by : (m : Answer Built) → ok tt ≡ refusal_only m → (m >>= λ b. evaluate e) ≡ evaluate e
      by (ok b) k = refl
      by (refused r) k = cc

  pub constant-refused : (w : Refusal) → x ≡ Err w → checked_of x ≡ check e → refuse (reason_of w.reason) w.line ≡ constant e
  unfolding constant check answered refusal_only map_answer ◌>>=◌ refuse
  constant-refused w h g = by (build empty e) (ap checked_of (sym h) ∙ g)
    where
      by : (m : Answer Built) → refuse (reason_of w.reason) w.line ≡ refusal_only m → refuse (reason_of w.reason) w.line ≡ (m >>= λ b. evaluate e)
      by (ok b) k = cc
      by (refused r) k = cc
