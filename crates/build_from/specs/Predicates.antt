-- A join's predicate: none, or the tree at its row, built over a scope.
use Prim.Native.Nat.{ℕ}
use Rattle.std.specs.Prelude.{◌≡◌, refl, List}
use Rattle.std.specs.Prelude as std
use Rattle.std.specs.Option.{option_map}
use Rattle.std.proofs.Math.Option.{Option}
use Rattle.rules.specs.Lists.{Bytes}
use Rattle.rules.specs.Ast.{Expr}
use Rattle.from.specs.Access.{predicate_number, predicate_row, predicate_of}
use Rattle.build_expression.specs.Options.{option_tree}

-- the predicate of row r
abbrev pub predicate_in : Bytes → Bytes → List ℕ → List ℕ → ℕ → Option Expr
predicate_in c q cells froms r = predicate_of c q cells (predicate_row (predicate_number froms r))

pub predicate-tree : (c q : Bytes) (cells froms : List ℕ) (r : ℕ) {f p : std.Option ℕ} → f ≡ predicate_row (predicate_number froms r)
    → p ≡ option_map (λ i. i) f → option_tree c q cells p ≡ predicate_in c q cells froms r
unfolding predicate_of option_tree
predicate-tree c q cells froms r {f} e m = rw (m, ← e) (go f)
  where
    go : (f : std.Option ℕ) → option_tree c q cells (option_map (λ i. i) f) ≡ predicate_of c q cells f
    go std.None = refl
    go (std.Some i) = refl
