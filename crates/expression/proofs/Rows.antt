-- The tree at a row by its kind and its operands, and what evaluating it gives where these have values.
use mathlib.Core.List.{List}
use mathlib.Core.Logic.{◌⊎◌, inl, inr}
use mathlib.Core.Path.{◌≡◌, refl, sym, ap, ◌∙◌}
use Prim.Native.Nat.{ℕ, suc, ◌+◌, ◌-◌, ◌<◌}
use native.Mathlib.Numerals.{add-one}
use native.Mathlib.Omega.{arith}
use Rattle.rules.specs.Arithmetic.{Worked}
use Rattle.rules.specs.Ast.{Unary, sqrt, Binary, Expr, star, call, binary, Exprs, nil, cons}
use Rattle.rules.specs.Evaluate.{worked_at, evaluate}
use Rattle.rules.specs.Lists.{Bytes}
use Rattle.rules.specs.Operators.{unary_of, binary_of, is_of}
use Rattle.rules.specs.Places.{word_at}
use Rattle.rules.specs.Refusals.{Refusal, Answer, ok, refused, refuse, statement, constant_only}
use Rattle.rules.specs.Schema.{Value}
use Rattle.value.specs.Values.{value_of, held}
use Rattle.value.specs.declared.Value as code
use Rattle.ast.specs.Operands.{operands_of, kind_of, kind_at, operands_at, kind-at, operands-at, tree-column, tree-qualified, tree-call, tree-unary}
use Rattle.ast.specs.Operands.{tree-binary, tree_is, tree-literal, operands-call, operands-unary, operands-binary}
use Rattle.ast.specs.Operands.{operands-is, no-operands, arguments-none, arguments-more, tree-at}
use Rattle.ast.specs.Row.{number_of, tree-star, literal_at, row-literal}
use Rattle.numbers.specs.Literals.{literal_value}
use Rattle.numbers.specs.declared.literals.Literal.{Literal}
use Rattle.ast.specs.declared.row.Kind.{Kind}
use Rattle.ast.specs.declared.row.Kind.TheVariants as K
use Rattle.ast.specs.Table.{at, rows_at, unary_at, binary_at, arguments_at, tree_by, tree_at}
use Rattle.expression.specs.Answers.{map_answer, answered, answer_of, Evaluates, constant_value, constant_of}
use Rattle.std.specs.Prelude.{Result, Ok, Err, MatchResult}
use Rattle.std.specs.Result.{IsOkAnd}
use Rattle.expression.specs.declared.Constant.{Constant}
use Rattle.expression.specs.declared.Constant.TheVariants as Co
use Rattle.numbers.specs.Reasons.{told}
use Rattle.numbers.specs.declared.refusals.Refusal as code_refusal
use Rattle.expression.proofs.Steps.{unary-step, root-step, is-step, binary-step, held-refused, first-refused, second-refused, constant-held}

one_none : {n : ℕ} → n ≡ 1 → n ≡ 0 → ⊥
one_none e g = omega arith

two_none : {n : ℕ} → n ≡ 2 → n ≡ 0 → ⊥
two_none e g = omega arith

-- the number at a row whose record has the kind k
pub kind_is : {k m : Kind} {n : ℕ} → number_of k ≡ n → k ≡ m → n ≡ number_of m
kind_is h e = sym h ∙ ap number_of e

module _ (f : ℕ → Expr) (c q : Bytes) (t : List ℕ) (r : ℕ) where
  -- a record with no operand
  pub tree-none : kind_at t r ≡ 4 → operands_at t r ≡ 0 → tree_by f c q t r ≡ call (at t r 1) (word_at c q (at t r 4) (at t r 5)) nil
  tree-none h z = tree-call f c q t r h ∙ ap (call (at t r 1) (word_at c q (at t r 4) (at t r 5))) (arguments-none f t (at t r 3) (suc r) (omega (arith, operands-call t r h)))

  -- a column, qualified or not, has no value
  pub leaf-name : (k : Kind) → number_of k ≡ kind_at t r → (k ≡ K.Column) ⊎ (k ≡ K.Qualified) → evaluate (tree_by f c q t r) ≡ refuse constant_only (at t r 1)
  unfolding number_of evaluate
  leaf-name k h (inl e) = rw (tree-column f c q t r (kind_is h e))
  leaf-name k h (inr e) = rw (tree-qualified f c q t r (kind_is h e))

  -- a record of another kind with no operand
  pub leaf-star : (k : Kind) → number_of k ≡ kind_at t r → operands_at t r ≡ 0 → (k ≡ K.Column → ⊥) → (k ≡ K.Qualified → ⊥) → (k ≡ K.Call → ⊥) → (k ≡ K.Literal → ⊥) → tree_by f c q t r ≡ star (at t r 1)
  unfolding number_of
  leaf-star K.Star h z n2 n3 n4 n8 = tree-star f c q t r (sym h)
  leaf-star K.Column h z n2 n3 n4 n8 = absurd (n2 refl)
  leaf-star K.Qualified h z n2 n3 n4 n8 = absurd (n3 refl)
  leaf-star K.Call h z n2 n3 n4 n8 = absurd (n4 refl)
  leaf-star K.Unary h z n2 n3 n4 n8 = absurd (one_none (operands-unary t r (sym h)) z)
  leaf-star K.Binary h z n2 n3 n4 n8 = absurd (two_none (operands-binary t r (sym h)) z)
  leaf-star K.Is h z n2 n3 n4 n8 = absurd (one_none (operands-is t r (sym h)) z)
  leaf-star K.Literal h z n2 n3 n4 n8 = absurd (n8 refl)

  -- a record with operands
  module _ (some' : operands_at t r ≡ 0 → ⊥) where
    -- a record with operands is a call where it is no operator's and no `is`
    none-else : {n : ℕ} → kind_at t r ≡ n → (n ≡ 4 → ⊥) → (n ≡ 5 → ⊥) → (n ≡ 6 → ⊥) → (n ≡ 7 → ⊥) → kind_at t r ≡ 4
    none-else e n4 n5 n6 n7 = absurd (some' (no-operands t r (λ g. n4 (sym e ∙ g)) (λ g. n5 (sym e ∙ g)) (λ g. n6 (sym e ∙ g)) (λ g. n7 (sym e ∙ g))))

    pub kind-call : (k : Kind) → number_of k ≡ kind_at t r → (kind_at t r ≡ 6 → ⊥) → (k ≡ K.Unary → ⊥) → (k ≡ K.Is → ⊥) → kind_at t r ≡ 4
    unfolding number_of
    kind-call K.Star h n6 n5 n7 = none-else (sym h) (λ e. omega (arith, e)) (λ e. omega (arith, e)) (λ e. omega (arith, e)) (λ e. omega (arith, e))
    kind-call K.Column h n6 n5 n7 = none-else (sym h) (λ e. omega (arith, e)) (λ e. omega (arith, e)) (λ e. omega (arith, e)) (λ e. omega (arith, e))
    kind-call K.Qualified h n6 n5 n7 = none-else (sym h) (λ e. omega (arith, e)) (λ e. omega (arith, e)) (λ e. omega (arith, e)) (λ e. omega (arith, e))
    kind-call K.Call h n6 n5 n7 = sym h
    kind-call K.Unary h n6 n5 n7 = absurd (n5 refl)
    kind-call K.Binary h n6 n5 n7 = absurd (n6 (sym h))
    kind-call K.Is h n6 n5 n7 = absurd (n7 refl)
    kind-call K.Literal h n6 n5 n7 = none-else (sym h) (λ e. omega (arith, e)) (λ e. omega (arith, e)) (λ e. omega (arith, e)) (λ e. omega (arith, e))

    -- behind the first operand
    abbrev others : Exprs
    others = arguments_at f t (operands_at t r - 1) (suc r + rows_at t (suc r))

    first-operand : operands_of (tree_by f c q t r) ≡ cons (f (suc r)) others
    first-operand = operands-at f c q t r ∙ arguments-more f t (operands_at t r) (suc r) (positive (operands_at t r) some')
      where
        positive : (n : ℕ) → (n ≡ 0 → ⊥) → 0 < n
        positive n ne = omega arith

    pub tree-first : kind_at t r ≡ 4 → tree_by f c q t r ≡ call (at t r 1) (word_at c q (at t r 4) (at t r 5)) (cons (f (suc r)) others)
    unfolding operands_of
    tree-first h = tree-call f c q t r h ∙ ap (call (at t r 1) (word_at c q (at t r 4) (at t r 5))) (ap operands_of (sym (tree-call f c q t r h)) ∙ first-operand)

-- WITH VALUES: the answer x at the line l is the record's, u the value of its first operand as the code holds it
module _ (f : ℕ → Expr) (c q : Bytes) (t : List ℕ) (r : ℕ) (x : Answer Value) (l : ℕ) (u : Value) (hl : l ≡ at t r 1) (hu : ok u ≡ map_answer held (evaluate (f (suc r)))) where
  pub unary-row : (o : Unary) (w : Worked) → kind_at t r ≡ 5 → o ≡ unary_at (at t r 3) → w ≡ unary_of o u → x ≡ worked_at l w → x ≡ map_answer held (evaluate (tree_by f c q t r))
  unary-row o w h ho hw hx = rw (tree-unary f c q t r h)
      (hx ∙ (λ i. worked_at (hl i) ((hw ∙ ap (λ (p : Unary). unary_of p u) ho) i)) ∙ unary-step (at t r 1) (f (suc r)) u hu (unary_at (at t r 3)))

  pub is_row : (m : Literal) → kind_at t r ≡ 7 → m ≡ literal_at t r → x ≡ worked_at l (is_of (literal_value c q m) u) → x ≡ map_answer held (evaluate (tree_by f c q t r))
  is_row m h hm hx = rw (tree_is f c q t r h)
      (hx ∙ (λ i. worked_at (hl i) (is_of (row-literal c q t r hm i) u)) ∙ is-step (at t r 1) (f (suc r)) u hu _)

  pub root-row : (w : Worked) → (operands_at t r ≡ 0 → ⊥) → kind_at t r ≡ 4 → w ≡ unary_of sqrt u → x ≡ worked_at l w → x ≡ map_answer held (evaluate (tree_by f c q t r))
  root-row w ne h hw hx = rw (tree-first f c q t r ne h) (hx ∙ (λ i. worked_at (hl i) (hw i)) ∙ root-step (at t r 1) (f (suc r)) u hu _ _)

  module _ (z : Value) (hz : ok z ≡ map_answer held (evaluate (f (suc r + rows_at t (suc r))))) where
    pub binary-row : (o : Binary) (w : Worked) → kind_at t r ≡ 6 → o ≡ binary_at (at t r 3) → w ≡ binary_of o u z → x ≡ worked_at l w → x ≡ map_answer held (evaluate (tree_by f c q t r))
    binary-row o w h ho hw hx = rw (tree-binary f c q t r h)
        (hx ∙ (λ i. worked_at (hl i) ((hw ∙ ap (λ (p : Binary). binary_of p u z) ho) i)) ∙ binary-step (at t r 1) (f (suc r)) u hu (binary_at (at t r 3)) _ z hz)

-- what a `?` told of an answer
pub taken : (c q : Bytes) (y z : Result code.Value code_refusal.Refusal) (e : Expr) → y ≡ z → Evaluates c q y e → Evaluates c q z e
taken c q y z e g h = ap (answer_of c q) (sym g) ∙ h

-- THE TREE AT A ROW, by its operands
module _ (c q : Bytes) (t : List ℕ) (r : ℕ) where
  abbrev below : ℕ → Expr
  below = tree_at c q t

  pub by_row : (y : Result code.Value code_refusal.Refusal) → Evaluates c q y (tree_by below c q t r) → Evaluates c q y (tree_at c q t r)
  by_row y e = e ∙ ap (λ (x : Expr). map_answer held (evaluate x)) (sym (tree-at c q t r))

  -- what the code evaluated at r + 1 is the first operand, and behind its rows the second
  module _ (y : Result code.Value code_refusal.Refusal) where
    pub left : Evaluates c q y (below (r + 1)) → Evaluates c q y (below (suc r))
    left h = h ∙ ap (λ (n : ℕ). map_answer held (evaluate (below n))) (add-one r)

    pub right : (n : ℕ) → n ≡ r + 1 + rows_at t (r + 1) → Evaluates c q y (below n)
        → Evaluates c q y (below (suc r + rows_at t (suc r)))
    right n e h = h ∙ ap (λ (m : ℕ). map_answer held (evaluate (below m)))
        (e ∙ ap (λ (m : ℕ). m + rows_at t m) (add-one r))

    module _ (w : code_refusal.Refusal) (e : y ≡ Err w) where
      abbrev r' : Refusal
      r' = told statement w

      refused-is : (a : Expr) → Evaluates c q y a → evaluate a ≡ refused r'
      unfolding answered refuse
      refused-is a h = held-refused (evaluate a) _ (ap (answer_of c q) (sym e) ∙ h)

      refused-too : (x : Expr) → evaluate x ≡ refused r' → Evaluates c q y x
      unfolding answered refuse map_answer
      refused-too x g = ap (answer_of c q) e ∙ ap (map_answer held) (sym g)

      pub left-refused : (operands_at t r ≡ 0 → ⊥) → Evaluates c q y (below (r + 1)) → Evaluates c q y (tree_at c q t r)
      left-refused some' h = by_row y (refused-too (tree_by below c q t r)
          (first-refused _ (below (suc r)) _ _ (first-operand below c q t r some')
          (refused-is (below (suc r)) (left h))))

      pub right-refused : (a : code.Value) → kind_at t r ≡ 6 → Evaluates c q (Ok a) (below (suc r))
          → Evaluates c q y (below (suc r + rows_at t (suc r))) → Evaluates c q y (tree_at c q t r)
      unfolding answered
      right-refused a h g i = by_row y (rw (tree-binary below c q t r h) (refused-too (binary _ _ _ _)
          (second-refused (at t r 1) (below (suc r)) (value_of c q a) g (binary_at (at t r 3))
          (below (suc r + rows_at t (suc r))) _ (refused-is _ i))))

  -- a bare literal, and any other record
  pub bare : (m : Literal) → kind_at t r ≡ 8 → m ≡ literal_at t r → ok (literal_value c q m) ≡ evaluate (tree_at c q t r)
  unfolding evaluate
  bare m h hm = rw (tree-at c q t r ∙ tree-literal below c q t r h) (ap ok (row-literal c q t r hm))

  pub worked-out : (x : Answer Value) → (kind_at t r ≡ 8 → ⊥) → x ≡ map_answer held (evaluate (tree_at c q t r))
      → x ≡ evaluate (tree_at c q t r)
  worked-out x h e = e ∙ constant-held (tree_at c q t r)
      (λ g. h (sym (ap kind_of (tree-at c q t r) ∙ kind-at below c q t r) ∙ g))

-- a value worked out as a constant
pub constant-mapped : (c q : Bytes) (x : Result code.Value code_refusal.Refusal) (y : Result Constant code_refusal.Refusal)
    → MatchResult x (λ v. IsOkAnd y (λ k. k ≡ Co.Value v)) (λ e. y ≡ Err e) → constant_of c q y ≡ answer_of c q x
unfolding answered constant_value
constant-mapped c q (Ok v) (Ok k) m = ap (λ (k : Constant). constant_of c q (Ok k)) m
constant-mapped c q (Ok v) (Err e) m = elim m [ ]
constant-mapped c q (Err w) y m = ap (constant_of c q) m
