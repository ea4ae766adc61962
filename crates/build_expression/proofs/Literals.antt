-- A literal by the numbers that were read from its row.
use mathlib.Core.Path.{◌≡◌, sym, ap, ◌∙◌}
use mathlib.Core.Bool.{Bool}
use mathlib.Core.List.{List, [], ◌∷◌}
use Prim.Native.Nat.{ℕ}
use Rattle.rules.specs.Lists.{Bytes}
use Rattle.rules.specs.BuildExpression.{is_null_or_nan}
use Rattle.rules.specs.Cells as C
use Rattle.numbers.specs.Literals.{literal_value}
use Rattle.numbers.specs.declared.literals.Literal.{Literal}
use Rattle.ast.specs.Row.{literal_at, row_literal, row-literal}
use Rattle.plan.specs.Cells.{Puts}

module _ (c q : Bytes) (t : List ℕ) (r : ℕ) {l : Literal} (h : l ≡ literal_at t r) where
  -- whether `is` takes it
  pub is-literal : {x : Bool} → x ≡ is_null_or_nan (literal_value c q l) → is_null_or_nan (row_literal c q t r) ≡ x
  is-literal e = sym (e ∙ ap is_null_or_nan (row-literal c q t r h))

  -- its cells
  pub constant_cell : {n : ℕ} {area area' : List ℕ} → Puts n (C.constant (literal_value c q l) ∷ []) area area'
      → Puts n (C.constant (row_literal c q t r) ∷ []) area area'
  constant_cell p = rw (row-literal c q t r h) at p

  pub is-cell : {n x : ℕ} {area area' : List ℕ} → Puts n (C.is x (literal_value c q l) ∷ []) area area'
      → Puts n (C.is x (row_literal c q t r) ∷ []) area area'
  is-cell p = rw (row-literal c q t r h) at p
