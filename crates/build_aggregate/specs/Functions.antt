-- One aggregate function: which one a record calls, and what its argument appends or is refused for.
use Prim.Native.Nat.{ℕ, zero, suc, ◌+◌, ◌*◌, ◌<◌}
use Rattle.std.proofs.Common.{arith, add-one, sym, ◌∙◌, eqb-true}
use denote.Enum.Bare.{sameb}
use Rattle.std.specs.Prelude as std
use Rattle.std.specs.Prelude.{◌≡◌, Bool, true, false, ◌&&◌, List, [], ◌∷◌, length, eqb, Ok, Err}
use Rattle.std.proofs.Math.Path.{refl, ap}
use Rattle.std.proofs.Math.Option.{none, some}
use Rattle.std.proofs.lemmas.Bool.{false≢true, eqb-false}
use Rattle.rules.specs.Refusals.{Answer, ok, refused, ◌>>=◌, refuse, argument_count, nested_aggregate}
use Rattle.rules.specs.Lists.{Bytes, named, is_some}
use Rattle.rules.specs.Lines.{Word}
use Rattle.rules.specs.Schema.{bool}
use Rattle.rules.specs.Ast.{Expr, star, column, literal, call, unary, binary, is, nil, cons, size, size_all}
use Rattle.rules.specs.Views.{as_star, as_call}
use Rattle.rules.specs.Plan.{Aggregate, avg, count, max, min, sum}
use Rattle.rules.specs.Cells.{Cell}
use Rattle.rules.specs.Cells as C
use Rattle.rules.specs.Scope.{Scope}
use Rattle.rules.specs.BuildAggregate.{aggregates, contains, is_count, build_function}
use Rattle.appends.specs.Lists.Entry.{emit_second}
use Rattle.appends.specs.Lists.Functions.{emit_operand, operand-star, operand-other, function-step, function-argument}
use Rattle.appends.specs.Lists.Functions.{function-nested, function-none, function-more}
use Rattle.ast.specs.Table.{row_size, arguments_at, tree_at}
use Rattle.numbers.specs.Literals.{literal_of}
use Rattle.numbers.specs.Values.{is_one}
use Rattle.numbers.specs.declared.literals.LiteralKind.TheVariants as L
use Rattle.ast.specs.Operands.{kind_of, kind_at, kind-at, tree-at, operands-inside, operands-call}
use Rattle.ast.specs.Row as row
use Rattle.ast.specs.Row.{line_at, row_name, first_operand}
use Rattle.ast.specs.Aggregates.{named_of}
use Rattle.ast.specs.Called.{called_of, called-none, call-tree}
use Rattle.numbers.specs.Aggregates.{aggregate_of}
use Rattle.numbers.specs.contracts.aggregates.Aggregate.{the_type}
use Rattle.numbers.specs.declared.aggregates.Aggregate as A
use Rattle.numbers.specs.declared.aggregates.Aggregate.TheVariants as AV
use Rattle.plan.specs.Cells.{Room, room-less, Puts}
use Rattle.plan.specs.Emits.{Emitting, Written, Emits, accepts, refuses, emits-same}
use Rattle.numbers.specs.Reasons.{named as named_reason}
use Rattle.numbers.specs.declared.refusals.Reason.TheVariants as Re
use Rattle.build_expression.specs.Calls.{one_argument}
use Rattle.build_expression.specs.Builds.{scope_at, Builds}

-- the record at row r calls the aggregate g
pub record Calls (c q : Bytes) (t : List ℕ) (r : ℕ) (g : Aggregate) : Type 0 where
  pub is : called_of (tree_at c q t r) ≡ some g

-- whether an argument is the star of `count`
unfoldable pub starred : Aggregate → Expr → Bool
starred g e = is_count g && is_some (as_star e)

-- an answer without the numbers that go into the node's record
unfoldable pub step_of : {D : Type 0} → Answer (List Cell × D × ℕ) → Emitting
step_of r = r >>= λ p. ok (p.0, p.2)

-- what an aggregate's argument appends
unfoldable pub function_step : Scope → ℕ → Expr → Emitting
function_step s n e = step_of (emit_second (build_function s) n e)

-- the argument at row r of the aggregate g is built from the n-th cell on, whatever is hidden
pub record OperandBuilds (c q : Bytes) (t xs ms ts : List ℕ) (g : Aggregate) (r n : ℕ) (area area' : List ℕ)
    (x : Written) : Type 0 where
  pub is : (h : ℕ) → Emits (emit_operand (scope_at c q t xs ms ts h) n g (tree_at c q t r)) n area area' x

-- and that of the function at row r
pub record FunctionBuilds (c q : Bytes) (t xs ms ts : List ℕ) (r n : ℕ) (area area' : List ℕ) (x : Written)
    : Type 0 where
  pub is : (h : ℕ) → Emits (function_step (scope_at c q t xs ms ts h) n (tree_at c q t r)) n area area' x

-- WHICH ONE
-- by the answer of `called`
pub calls : (c q : Bytes) (t : List ℕ) (r : ℕ) (x : std.Option A.Aggregate) (a : A.Aggregate) → named_of x ≡ called_of (tree_at c q t r)
    → x ≡ std.Some a → Calls c q t r (aggregate_of a)
unfolding named_of
calls c q t r x a e f = record { is = sym e ∙ rw f }

pub calls-none : (c q : Bytes) (t : List ℕ) (r : ℕ) (x : std.Option A.Aggregate) → named_of x ≡ called_of (tree_at c q t r)
    → x ≡ std.None → called_of (tree_at c q t r) ≡ none
unfolding named_of
calls-none c q t r x e f = sym e ∙ rw f

-- THE STAR
star-kind : (e : Expr) → is_some (as_star e) ≡ eqb (kind_of e) 1
unfolding kind_of as_star is_some
star-kind (star l) = refl
star-kind (column l none n) = refl
star-kind (column l (some t) n) = refl
star-kind (literal l v) = refl
star-kind (call l n as') = refl
star-kind (unary l o a) = refl
star-kind (binary l o a b) = refl
star-kind (is l a v) = refl

kind-of : (c q : Bytes) (t : List ℕ) (r : ℕ) → kind_of (tree_at c q t r) ≡ kind_at t r
kind-of c q t r = ap kind_of (tree-at c q t r) ∙ kind-at (tree_at c q t) c q t r

-- a star where the aggregate is `count`
pub starred-count : (a : A.Aggregate) (c q : Bytes) (t : List ℕ) (r : ℕ) → sameb the_type a AV.Count ≡ true
    → eqb (kind_at t r) 1 ≡ starred (aggregate_of a) (tree_at c q t r)
unfolding starred is_count aggregate_of
starred-count AV.Avg c q t r h = absurd (false≢true h)
starred-count AV.Count c q t r h = rw (star-kind (tree_at c q t r), kind-of c q t r)
starred-count AV.Max c q t r h = absurd (false≢true h)
starred-count AV.Min c q t r h = absurd (false≢true h)
starred-count AV.Sum c q t r h = absurd (false≢true h)

-- none where it is another
pub starred-other : (a : A.Aggregate) (e : Expr) → sameb the_type a AV.Count ≡ false → false ≡ starred (aggregate_of a) e
unfolding starred is_count aggregate_of
starred-other AV.Avg e h = refl
starred-other AV.Count e h = absurd (false≢true (sym h))
starred-other AV.Max e h = refl
starred-other AV.Min e h = refl
starred-other AV.Sum e h = refl

counted-star : (s : Scope) (n : ℕ) (g : Aggregate) (e : Expr) → starred g e ≡ true
    → emit_operand s n g e ≡ ok (C.constant (bool true) ∷ [], n + 1)
unfolding starred is_count is_some as_star
counted-star s n count (star l) h = operand-star s n l
counted-star s n count (column l t w) h = absurd (false≢true h)
counted-star s n count (literal l v) h = absurd (false≢true h)
counted-star s n count (call l w as') h = absurd (false≢true h)
counted-star s n count (unary l o a) h = absurd (false≢true h)
counted-star s n count (binary l o a b) h = absurd (false≢true h)
counted-star s n count (is l a v) h = absurd (false≢true h)
counted-star s n avg e h = absurd (false≢true h)
counted-star s n max e h = absurd (false≢true h)
counted-star s n min e h = absurd (false≢true h)
counted-star s n sum e h = absurd (false≢true h)

module _ (c q : Bytes) (t xs ms ts : List ℕ) (g : Aggregate) (r n : ℕ) (area area' : List ℕ) where
  pub operand-constant : starred g (tree_at c q t r) ≡ true
      → Puts n (C.constant (literal_of L.Bool c q 1 0) ∷ []) area area'
      → OperandBuilds c q t xs ms ts g r n area area' (Ok (n + 1))
  unfolding literal_of is_one
  operand-constant e p = record { is = λ h. accepts (n + 1) p refl (counted-star _ n g _ e) }

  pub operand-built : (x : Written) → starred g (tree_at c q t r) ≡ false → Builds c q t xs ms ts r n area area' x
      → OperandBuilds c q t xs ms ts g r n area area' x
  unfolding starred
  operand-built x e b = record { is = λ h. emits-same (operand-other _ n g (tree_at c q t r) e) (b.is h) }

-- THE WHOLE
step-operand : (s : Scope) (n l : ℕ) (w : Word) (g : Aggregate) (a : Expr) → named aggregates w.bytes ≡ some g
    → contains a ≡ false → function_step s n (call l w (cons a nil)) ≡ emit_operand s n g a
unfolding function_step step_of ◌>>=◌
step-operand s n l w g a h c = go (emit_operand s n g a) refl
  where
    go : (o : Emitting) → emit_operand s n g a ≡ o
        → (emit_second (build_function s) n (call l w (cons a nil)) >>= λ p. ok (p.0, p.2)) ≡ emit_operand s n g a
    go (ok p) e = rw (function-step s n l w g a p.0 p.1 h c e) (sym e)
    go (refused r) e = rw (function-argument s n l w g a r h c e) (sym e)

step-nested : (s : Scope) (n l : ℕ) (w : Word) (g : Aggregate) (a : Expr) → named aggregates w.bytes ≡ some g
    → contains a ≡ true → function_step s n (call l w (cons a nil)) ≡ refuse nested_aggregate l
unfolding function_step step_of ◌>>=◌ refuse
step-nested s n l w g a h c = rw (function-nested s n l w g a h c)

step_count : (s : Scope) (n l : ℕ) (w : Word) (g : Aggregate) (f : ℕ → Expr) (t : List ℕ) (k p : ℕ)
    → named aggregates w.bytes ≡ some g → (k ≡ 1 → ⊥)
    → function_step s n (call l w (arguments_at f t k p)) ≡ refuse argument_count l
unfolding function_step step_of ◌>>=◌ refuse arguments_at
step_count s n l w g f t zero p h ne = rw (function-none s n l w g h)
step_count s n l w g f t (suc zero) p h ne = absurd (ne refl)
step_count s n l w g f t (suc (suc k)) p h ne = rw (function-more s n l w g _ _ _ h)

module _ {c q : Bytes} {t : List ℕ} {r : ℕ} {g : Aggregate} (e : Calls c q t r g) where
  is_call : kind_at t r ≡ 4
  is_call = go (eqb (kind_at t r) 4) refl
    where
      go : (b : Bool) → eqb (kind_at t r) 4 ≡ b → kind_at t r ≡ 4
      go true h = eqb-true (kind_at t r) 4 h
      go false h =
          let z : none ≡ some g = called-none c q t r (eqb-false (kind_at t r) 4 h) ∙ e.is in
          grind arith

  tree_is : tree_at c q t r ≡ call (line_at t r) (row_name c q t r)
      (arguments_at (tree_at c q t) t (row.argument_count t r) (first_operand r))
  tree_is = call-tree c q t r is_call

  name-is : named aggregates (row_name c q t r).bytes ≡ some g
  unfolding called_of as_call
  name-is = rw tree_is at e.is

  pub function-count : {xs ms ts area area' : List ℕ} {n : ℕ} (l : ℕ) → (row.argument_count t r ≡ 1 → ⊥)
      → l ≡ line_at t r → length area' ≡ length area → FunctionBuilds c q t xs ms ts r n area area'
      (Err (record { reason = Re.ArgumentCount; line = l }))
  unfolding named_reason
  function-count {n = n} l ne f k = record {
    is = λ h. refuses argument_count (line_at t r) Re.ArgumentCount l k refl f
        (ap (function_step _ n) tree_is ∙ step_count _ n _ _ g _ t _ _ name-is ne);
  }

  module _ (one : row.argument_count t r ≡ 1) where
    one-tree : tree_at c q t r ≡ call (line_at t r) (row_name c q t r) (cons (tree_at c q t (r + 1)) nil)
    one-tree = tree_is ∙ ap (call (line_at t r) (row_name c q t r))
        (one_argument (tree_at c q t) t _ _ one ∙ ap (λ (i : ℕ). cons (tree_at c q t i) nil) (sym (add-one r)))

    pub call-inside : row_size * r < length t
    call-inside = operands-inside t r (λ z. omega (arith, operands-call t r is_call, one, z))

    pub operand-room : {n : ℕ} {area : List ℕ} → Room n (3 * size (tree_at c q t r)) area
        → Room n (3 * size (tree_at c q t (r + 1))) area
    unfolding size size_all
    operand-room h =
        let z : size (tree_at c q t r) ≡ suc (size (tree_at c q t (r + 1)) + 0) = ap size one-tree in
        room-less _ (omega (arith, z)) h

    pub function-inner : {xs ms ts area area' : List ℕ} {n : ℕ} (l : ℕ) → contains (tree_at c q t (r + 1)) ≡ true
        → l ≡ line_at t r → length area' ≡ length area → FunctionBuilds c q t xs ms ts r n area area'
        (Err (record { reason = Re.NestedAggregate; line = l }))
    unfolding named_reason
    function-inner {n = n} l h f k = record {
      is = λ i. refuses nested_aggregate (line_at t r) Re.NestedAggregate l k refl f
          (ap (function_step _ n) one-tree ∙ step-nested _ n _ _ g _ name-is h);
    }

    pub function-built : {xs ms ts area area' : List ℕ} {n : ℕ} {x : Written}
        → contains (tree_at c q t (r + 1)) ≡ false → OperandBuilds c q t xs ms ts g (r + 1) n area area' x
        → FunctionBuilds c q t xs ms ts r n area area' x
    function-built {n = n} h b = record {
      is = λ i. emits-same (ap (function_step _ n) one-tree ∙ step-operand _ n _ _ g _ name-is h) (b.is i);
    }
