-- An entry's expressions by their rows: the first of them, and each behind the rows of the one before.
use Prim.Native.Nat.{ℕ, zero, suc, ◌+◌, ◌-◌, ◌^◌, ◌<◌, ◌≤◌}
use Rattle.std.proofs.Common.{arith, ◌∙◌}
use Rattle.std.specs.Prelude.{◌≡◌, true, false, List, [], ◌∷◌, eqb, length, unwrap_or}
use Rattle.std.specs.Prelude as std
use Rattle.std.proofs.Math.Path.{refl, ap}
use borrow.Author.Tests.{eq-eqb, ne_eqb}
use Rattle.rules.specs.Lists.{Bytes}
use Rattle.rules.specs.Ast.{Expr, Exprs, star, nil, cons, list_of}
use Rattle.ast.specs.Table.{rows_at, arguments_at, tree_at}
use Rattle.ast.specs.Operands.{arguments-none, arguments-more, tree-outside, tree-at}
use Rattle.sections.specs.declared.entry.Entry.{Entry}

-- THE FIRST
-- a row past the end of every table
abbrev pub outside_row : ℕ
outside_row = 2 ^ 64 - 1

pub star-outside : (b q : Bytes) (cells : List ℕ) (r : ℕ) → length cells ≤ r → tree_at b q cells r ≡ star 0
star-outside b q cells r h = tree-at b q cells r ∙ tree-outside (tree_at b q cells) b q cells r h

unfoldable pub first_row : Entry → std.Option ℕ
first_row e = elim (eqb e.expressions 0) [ true ↦ std.None | false ↦ std.Some e.row ]

-- the row of an expression that has to be there
unfoldable pub expr_row : Entry → ℕ
expr_row e = unwrap_or (first_row e) outside_row

module _ (e : Entry) where
  pub row-none : e.expressions ≡ 0 → first_row e ≡ std.None
  unfolding first_row
  row-none h = rw (first_row, eq-eqb e.expressions 0 h)

  pub row-some : (e.expressions ≡ 0 → ⊥) → first_row e ≡ std.Some e.row
  unfolding first_row
  row-some h = rw (first_row, ne_eqb e.expressions 0 h)

  pub first-none : e.expressions ≡ 0 → expr_row e ≡ outside_row
  unfolding expr_row
  first-none h = ap (λ o. unwrap_or o outside_row) (row-none h)

  pub first_some : (e.expressions ≡ 0 → ⊥) → expr_row e ≡ e.row
  unfolding expr_row
  first_some h = ap (λ o. unwrap_or o outside_row) (row-some h)

  -- a first row is there where there are expressions, and is that of the expression
  pub given-row : {r : ℕ} → std.Some r ≡ first_row e → (e.expressions ≡ 0 → ⊥) × (r ≡ expr_row e)
  unfolding first_row expr_row
  given-row {r} h = go e.expressions refl
    where
      go : (n : ℕ) → e.expressions ≡ n → (e.expressions ≡ 0 → ⊥) × (r ≡ expr_row e)
      go zero z = let g : std.Some r ≡ std.None = h ∙ row-none z in cc
      go (suc n) z =
          let m : (e.expressions ≡ 0 → ⊥) = λ f. omega (arith, z, f) in
          (m, ap (λ o. unwrap_or o outside_row) h)

  pub no-row : std.None ≡ first_row e → e.expressions ≡ 0
  unfolding first_row
  no-row h = go e.expressions refl
    where
      go : (n : ℕ) → e.expressions ≡ n → e.expressions ≡ 0
      go zero z = z
      go (suc n) z = let g : std.None ≡ std.Some e.row = h ∙ row-some (λ f. omega (arith, z, f)) in cc

  -- the expressions: none, or the tree at the first row and others
  module _ (b q : Bytes) (cells : List ℕ) where
    abbrev pub exprs_of : Exprs
    exprs_of = arguments_at (tree_at b q cells) cells e.expressions e.row

    pub exprs-none : e.expressions ≡ 0 → exprs_of ≡ nil
    exprs-none h = arguments-none (tree_at b q cells) cells e.expressions e.row (omega (arith, h))

    pub exprs-some : (e.expressions ≡ 0 → ⊥) → exprs_of ≡ cons (tree_at b q cells (expr_row e))
        (arguments_at (tree_at b q cells) cells (e.expressions - 1) (e.row + rows_at cells e.row))
    exprs-some h = arguments-more (tree_at b q cells) cells e.expressions e.row (omega (arith, h))
        ∙ rw (first_some h)

-- ONE AFTER THE OTHER
module _ (f : ℕ → Expr) (t : List ℕ) where
  pub list-none : (n r : ℕ) → n ≤ 0 → list_of (arguments_at f t n r) ≡ []
  unfolding list_of
  list-none n r h = ap list_of (arguments-none f t n r h)

  pub list-more : (n r : ℕ) → 0 < n
      → list_of (arguments_at f t n r) ≡ f r ∷ list_of (arguments_at f t (n - 1) (r + rows_at t r))
  unfolding list_of
  list-more n r h = ap list_of (arguments-more f t n r h)

  pub list_length : (n r : ℕ) → length (list_of (arguments_at f t n r)) ≡ n
  unfolding list_of arguments_at
  list_length zero r = refl
  list_length (suc n) r = ap suc (list_length n (r + rows_at t r))
