-- The contracts of building: what is built of the tree at a row, over a scope whose arrays are lent, and what is known of
-- a record whose operands are still to be built.
use Rattle.std.specs.Prelude.{ℕ, suc, ◌+◌, ◌*◌, ◌<◌, ◌≡◌, refl, List, [], ◌∷◌, length, Result, Ok, Err}
use Rattle.std.proofs.Common.{arith, ◌∙◌}
use Rattle.std.proofs.Math.Option.{none}
use Rattle.rules.specs.Lists.{Bytes}
use Rattle.rules.specs.Ast.{size}
use Rattle.rules.specs.Scope.{Scope, match_at, matched}
use Rattle.appends.specs.Expressions.Emit.{emit}
use Rattle.numbers.specs.Operators.{unary_operator}
use Rattle.ast.specs.Table.{row_size, binary_at, tree_at}
use Rattle.ast.specs.Row.{line_at, operator_at, row_literal, first_operand, second_operand}
use Rattle.scope.specs.Scopes.{matches_of, scope_from}
use Rattle.scope.specs.Matches.{matched-from}
use Rattle.scope.specs.UsedMatches.{used_matches, used-scope}
use Rattle.numbers.specs.declared.refusals.Refusal.{Refusal}
use Rattle.plan.specs.Emits.{Emitting, Written, Emits, joined}
use Rattle.build_expression.specs.Rows.{unary_step, is_step, binary_step}
use Rattle.build_expression.specs.declared.Begun.{Begun}
use Rattle.build_expression.specs.declared.Begun.TheVariants as B
use Rattle.build_expression.specs.declared.Operator.{Operator}
use Rattle.build_expression.specs.declared.Operator.TheVariants as O

-- the scope of labels xs, matches ms and tables ts, h columns hidden, over the statement's table t
abbrev pub scope_at : Bytes → Bytes → List ℕ → List ℕ → List ℕ → List ℕ → ℕ → Scope
scope_at c q t xs ms ts h = scope_from (tree_at c q t) c q xs ms ts h

-- the tree at row r is built from the n-th cell on, whatever is hidden
pub record Builds (c q : Bytes) (t xs ms ts : List ℕ) (r n : ℕ) (area area' : List ℕ) (x : Written) : Type 0 where
  pub is : (h : ℕ) → Emits (emit (scope_at c q t xs ms ts h) n (tree_at c q t r)) n area area' x

-- the matches us are those that ms has, or none where nothing is matched: the scope is the same
pub used-at : (c q : Bytes) (t xs us ts ms : List ℕ) (h : ℕ) → us ≡ used_matches ms → scope_at c q t xs us ts h ≡ scope_at c q t xs ms ts h
used-at c q t xs us ts ms h e = rw e (used-scope (tree_at c q t) c q xs ms ts h)

pub used-builds : {c q : Bytes} {t xs us ts : List ℕ} {r n : ℕ} {area area' : List ℕ} {x : Written} (ms : List ℕ)
    → us ≡ used_matches ms → Builds c q t xs us ts r n area area' x → Builds c q t xs ms ts r n area area' x
used-builds {c} {q} {t} {xs} {us} {ts} ms e b = record { is = λ h. rw (used-at c q t xs us ts ms h e) at (b.is h) }

-- it is matched to no column
pub record Unmatched (c q : Bytes) (t ms : List ℕ) (r : ℕ) : Type 0 where
  pub is : match_at (matches_of (tree_at c q t) 0 ms) (tree_at c q t r) ≡ none

-- there are no matches
pub unmatched-none : (c q : Bytes) (t ms : List ℕ) (r : ℕ) → length ms ≡ 0 → Unmatched c q t ms r
unfolding match_at matches_of
unmatched-none c q t [] r e = record { is = refl }
unmatched-none c q t (m ∷ ms) r e = absurd (omega arith)

pub unmatched : {c q : Bytes} {t ms : List ℕ} {r : ℕ} (xs ts : List ℕ) (h : ℕ) → Unmatched c q t ms r
    → matched (scope_at c q t xs ms ts h) (tree_at c q t r) ≡ none
unmatched {c} {q} {t} {ms} {r} xs ts h u = matched-from (tree_at c q t) c q xs ms ts h (tree_at c q t r) ∙ u.is

-- OPERANDS TO BE BUILT
module _ (c q : Bytes) (t xs ms ts : List ℕ) (r : ℕ) where
  -- with one operand, e gives what is appended behind it
  pub record One (e : ℕ → Emitting) : Type 0 where
    pub inside : row_size * r < length t
    pub size_is : size (tree_at c q t r) ≡ suc (size (tree_at c q t (first_operand r)))
    pub is : (h n : ℕ) → emit (scope_at c q t xs ms ts h) n (tree_at c q t r)
        ≡ joined (emit (scope_at c q t xs ms ts h) n (tree_at c q t (first_operand r))) e

  pub record Two : Type 0 where
    pub inside : row_size * r < length t
    pub size_is : size (tree_at c q t r)
        ≡ suc (size (tree_at c q t (first_operand r)) + size (tree_at c q t (second_operand t r)))
    pub is : (h n : ℕ) → emit (scope_at c q t xs ms ts h) n (tree_at c q t r)
        ≡ joined (emit (scope_at c q t xs ms ts h) n (tree_at c q t (first_operand r)))
        (λ m. joined (emit (scope_at c q t xs ms ts h) m (tree_at c q t (second_operand t r)))
        (binary_step (binary_at (operator_at t r)) m))

  -- what is known of the record by its operator
  unfoldable pub Operates : Operator → Type 0
  Operates (O.Unary o) = One (unary_step (unary_operator o))
  Operates O.Is = One (is_step (line_at t r) (row_literal c q t r))
  Operates O.Binary = Two

  -- the whole tree is built, or its operands come first and the area is as it was
  unfoldable pub BeginsAs : ℕ → List ℕ → List ℕ → Result Begun Refusal → Type 0
  BeginsAs n area area' (Ok (B.Whole m)) = Builds c q t xs ms ts r n area area' (Ok m)
  BeginsAs n area area' (Ok (B.Operands o)) = (area' ≡ area) × Operates o
  BeginsAs n area area' (Err w) = Builds c q t xs ms ts r n area area' (Err w)

pub record Begins (c q : Bytes) (t xs ms ts : List ℕ) (r n : ℕ) (area area' : List ℕ) (b : Result Begun Refusal) : Type 0 where
  pub is : BeginsAs c q t xs ms ts r n area area' b
