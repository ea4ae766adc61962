-- Whether the roots of two trees of the table are equal, by their kind.
use Prim.Native.Nat.{ℕ, zero, suc, ◌+◌}
use mathlib.Core.Path.{◌≡◌, refl, sym, ap, ◌∙◌}
use mathlib.Core.Bool.{Bool, true, false, ◌&&◌, and-true}
use mathlib.Core.List.{List}
use mathlib.Core.Option.{none, some}
use lib.Dec.{eqb, eqb-zero-suc, eqb-suc-zero, eqb-suc-suc}
use Rattle.rules.specs.Lists.{Bytes, same, is_some}
use Rattle.rules.specs.Places.{bytes_at, word_at}
use Rattle.rules.specs.Ast.{Expr, star, column, literal, call, unary, binary, is, line_of}
use Rattle.rules.specs.Views.{as_star, as_column, as_literal, as_call, as_unary, as_binary, as_is}
use Rattle.rules.specs.Codes.{unary_code, binary_code}
use Rattle.rules.specs.Equality.{same_name, same_optional_name, same_value, equal, equal_all}
use Rattle.numbers.specs.Values.{value_at}
use Rattle.ast.specs.Table.{at, unary_at, binary_at, rows_at, arguments_at, star_at, root_at}
use Rattle.ast.specs.Operands.{kind_of, kind_at, kind-at, tree-column, tree-qualified, tree-call, tree-unary, tree-binary, tree_is, tree-literal}
use Rattle.ast.specs.Row.{operator_at}
use Rattle.ast.proofs.Equal.{stars, kinds-apart}

-- an expression of no other kind is a star
only-star : (e : Expr) (k : ℕ) → kind_of e ≡ k → (k ≡ 2 → ⊥) → (k ≡ 3 → ⊥) → (k ≡ 4 → ⊥) → (k ≡ 5 → ⊥)
    → (k ≡ 6 → ⊥) → (k ≡ 7 → ⊥) → (k ≡ 8 → ⊥) → e ≡ star (line_of e)
unfolding kind_of line_of
only-star (star l) k h n2 n3 n4 n5 n6 n7 n8 = refl
only-star (column l none n) k h n2 n3 n4 n5 n6 n7 n8 = absurd (n2 (sym h))
only-star (column l (some t) n) k h n2 n3 n4 n5 n6 n7 n8 = absurd (n3 (sym h))
only-star (call l n as') k h n2 n3 n4 n5 n6 n7 n8 = absurd (n4 (sym h))
only-star (unary l o a) k h n2 n3 n4 n5 n6 n7 n8 = absurd (n5 (sym h))
only-star (binary l o a b) k h n2 n3 n4 n5 n6 n7 n8 = absurd (n6 (sym h))
only-star (is l a v) k h n2 n3 n4 n5 n6 n7 n8 = absurd (n7 (sym h))
only-star (literal l v) k h n2 n3 n4 n5 n6 n7 n8 = absurd (n8 (sym h))

module _ (c q : Bytes) (t : List ℕ) (i j : ℕ) where
  pub stars-count : (x y i j : ℕ) → equal_all (arguments_at star_at t x i) (arguments_at star_at t y j) ≡ eqb x y
  unfolding arguments_at star_at equal
  stars-count zero zero i j = refl
  stars-count zero (suc y) i j = sym (eqb-zero-suc y)
  stars-count (suc x) zero i j = sym (eqb-suc-zero x)
  stars-count (suc x) (suc y) i j = rw stars (stars-count x y (i + rows_at t i) (j + rows_at t j) ∙ sym (eqb-suc-suc x y))

  pub roots-apart : (kind_at t i ≡ kind_at t j → ⊥) → equal (root_at c q t i) (root_at c q t j) ≡ false
  unfolding root_at star_at
  roots-apart = kinds-apart star_at c q t i j

  pub roots-column : kind_at t i ≡ 2 → kind_at t j ≡ 2
      → equal (root_at c q t i) (root_at c q t j)
      ≡ same (bytes_at c q (at t i 4) (at t i 5)) (bytes_at c q (at t j 4) (at t j 5))
  unfolding root_at star_at word_at equal as_column same_optional_name same_name
  roots-column hi hj = rw (tree-column _ c q t i hi, tree-column _ c q t j hj)

  pub roots-qualified : kind_at t i ≡ 3 → kind_at t j ≡ 3
      → equal (root_at c q t i) (root_at c q t j)
      ≡ (same (bytes_at c q (at t i 6) (at t i 7)) (bytes_at c q (at t j 6) (at t j 7))
      && same (bytes_at c q (at t i 4) (at t i 5)) (bytes_at c q (at t j 4) (at t j 5)))
  unfolding root_at star_at word_at equal as_column same_optional_name same_name
  roots-qualified hi hj = rw (tree-qualified _ c q t i hi, tree-qualified _ c q t j hj)

  pub roots-call : kind_at t i ≡ 4 → kind_at t j ≡ 4
      → equal (root_at c q t i) (root_at c q t j)
      ≡ (same (bytes_at c q (at t i 4) (at t i 5)) (bytes_at c q (at t j 4) (at t j 5)) && eqb (at t i 3) (at t j 3))
  unfolding root_at star_at word_at equal as_call same_name
  roots-call hi hj = rw (tree-call _ c q t i hi, tree-call _ c q t j hj) (ap (λ (x : Bool). same (bytes_at c q (at t i 4) (at t i 5)) (bytes_at c q (at t j 4) (at t j 5)) && x) (stars-count _ _ _ _))

  pub roots-unary : kind_at t i ≡ 5 → kind_at t j ≡ 5
      → equal (root_at c q t i) (root_at c q t j) ≡ eqb (unary_code (unary_at (operator_at t i))) (unary_code (unary_at (operator_at t j)))
  unfolding root_at star_at equal as_unary as_star is_some
  roots-unary hi hj = rw (tree-unary _ c q t i hi, tree-unary _ c q t j hj) (and-true _)

  pub roots-binary : kind_at t i ≡ 6 → kind_at t j ≡ 6
      → equal (root_at c q t i) (root_at c q t j) ≡ eqb (binary_code (binary_at (operator_at t i))) (binary_code (binary_at (operator_at t j)))
  unfolding root_at star_at equal as_binary as_star is_some
  roots-binary hi hj = rw (tree-binary _ c q t i hi, tree-binary _ c q t j hj) (simp and-true)

  pub roots-is : kind_at t i ≡ 7 → kind_at t j ≡ 7
      → equal (root_at c q t i) (root_at c q t j)
      ≡ same_value (value_at c q (at t i 3) (at t i 4) (at t i 5)) (value_at c q (at t j 3) (at t j 4) (at t j 5))
  unfolding root_at star_at equal as_is as_star is_some
  roots-is hi hj = rw (tree_is _ c q t i hi, tree_is _ c q t j hj) (and-true _)

  pub roots-literal : kind_at t i ≡ 8 → kind_at t j ≡ 8
      → equal (root_at c q t i) (root_at c q t j)
      ≡ same_value (value_at c q (at t i 3) (at t i 4) (at t i 5)) (value_at c q (at t j 3) (at t j 4) (at t j 5))
  unfolding root_at star_at equal as_literal
  roots-literal hi hj = rw (tree-literal _ c q t i hi, tree-literal _ c q t j hj)

  pub roots-star : (k : ℕ) → kind_at t i ≡ k → kind_at t j ≡ k → (k ≡ 2 → ⊥) → (k ≡ 3 → ⊥) → (k ≡ 4 → ⊥) → (k ≡ 5 → ⊥)
      → (k ≡ 6 → ⊥) → (k ≡ 7 → ⊥) → (k ≡ 8 → ⊥) → equal (root_at c q t i) (root_at c q t j) ≡ true
  unfolding root_at star_at equal as_star is_some
  roots-star k hi hj n2 n3 n4 n5 n6 n7 n8 = rw (star-at i hi, star-at j hj)
    where
      star-at : (r : ℕ) → kind_at t r ≡ k → root_at c q t r ≡ star (line_of (root_at c q t r))
      star-at r h = only-star _ k (kind-at star_at c q t r ∙ h) n2 n3 n4 n5 n6 n7 n8
