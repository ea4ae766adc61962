-- Which function an expression calls: an aggregate, if any, or `sqrt`, by the record at a row.
use Rattle.std.specs.Prelude.{ℕ, ◌≡◌, refl, Bool, ◌&&◌, eqb, List}
use Rattle.std.proofs.Common.{sym, ap, ◌∙◌}
use Rattle.std.proofs.Math.Option.{Option, none, some}
use Rattle.rules.specs.Lists.{Bytes, same, named, is_some}
use Rattle.rules.specs.Lines.{bytes}
use Rattle.rules.specs.Places.{bytes_at, word_at}
use Rattle.rules.specs.Ast.{Expr, star, column, literal, call, unary, binary, is}
use Rattle.rules.specs.Views.{as_call}
use Rattle.rules.specs.Plan.{Aggregate}
use Rattle.rules.specs.BuildAggregate.{aggregates, is_aggregate}
use Rattle.ast.specs.Table.{at, arguments_at, tree_at}
use Rattle.ast.specs.Operands.{kind_of, kind_at, kind-at, tree-at}
use Rattle.ast.specs.Row as row
use Rattle.ast.specs.Row.{line_at, row_name, first_operand, number_of, call-row}
use Rattle.ast.specs.Walk.{is_aggregate_call}
use Rattle.ast.specs.declared.row.Kind.TheVariants as K

-- whether the call at row r is `sqrt` of one argument
unfoldable pub is_root_call : Bytes → Bytes → List ℕ → ℕ → Bool
is_root_call c q t r = eqb (at t r 3) 1 && same (bytes_at c q (at t r 4) (at t r 5)) (bytes "sqrt")

-- the aggregate that an expression calls
unfoldable pub called_of : Expr → Option Aggregate
called_of e = elim (as_call e) [ none ↦ none | some c ↦ named aggregates c.name.bytes ]

only_calls : (e : Expr) → (kind_of e ≡ 4 → ⊥) → called_of e ≡ none
unfolding called_of as_call kind_of
only_calls (star l) h = refl
only_calls (column l t n) h = refl
only_calls (literal l v) h = refl
only_calls (call l n as') h = absurd (h refl)
only_calls (unary l o a) h = refl
only_calls (binary l o a b) h = refl
only_calls (is l a v) h = refl

-- there is one where it is a call of an aggregate function
pub called_is : (e : Expr) → is_some (called_of e) ≡ is_aggregate_call e
unfolding called_of as_call is_some is_aggregate_call is_aggregate
called_is (star l) = refl
called_is (column l t n) = refl
called_is (literal l v) = refl
called_is (call l n as') = refl
called_is (unary l o a) = refl
called_is (binary l o a b) = refl
called_is (is l a v) = refl

-- in the table
module _ (c q : Bytes) (t : List ℕ) (r : ℕ) where
  pub called-none : (kind_at t r ≡ 4 → ⊥) → none ≡ called_of (tree_at c q t r)
  called-none h = sym (only_calls _ (λ e. h (sym (kind-at (tree_at c q t) c q t r)
      ∙ sym (ap kind_of (tree-at c q t r)) ∙ e)))

  pub call-tree : kind_at t r ≡ 4 → tree_at c q t r ≡ call (line_at t r) (row_name c q t r)
      (arguments_at (tree_at c q t) t (row.argument_count t r) (first_operand r))
  unfolding number_of
  call-tree h = call-row c q t r K.Call (sym h) refl

  pub called-some : (a n : ℕ) (o : Option Aggregate) → kind_at t r ≡ 4 → a ≡ row.name_address t r
      → n ≡ row.name_length t r → o ≡ named aggregates (bytes_at c q a n) → o ≡ called_of (tree_at c q t r)
  unfolding called_of as_call word_at
  called-some a n o h ha hn e = e ∙ (λ i. named aggregates (bytes_at c q (ha i) (hn i))) ∙ rw (call-tree h)
