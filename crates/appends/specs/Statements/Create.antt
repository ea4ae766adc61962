-- CREATE: its primary key, and its columns one at a time.
use Rattle.std.specs.Prelude.{◌≡◌, List, ◌∷◌}
use Rattle.rules.specs.Refusals.{Refusal, ok, refused, ◌>>=◌}
use Rattle.rules.specs.Ast.{NewColumn, Create}
use Rattle.rules.specs.Plan.{Made}
use Rattle.rules.specs.BuildExpression.{each}
use Rattle.rules.specs.BuildStatement.{key_columns, primary_key, made_column, build_create}
use Rattle.appends.specs.Answers.{bind_ok, bind-refused}

-- CREATE
module _ (d : Create) where
  pub create-key : (w : Refusal) → primary_key d.line (key_columns 0 d.columns) ≡ refused w
      → build_create d ≡ refused w
  unfolding build_create
  create-key w e = bind-refused _ _ w e

-- a column at a time
pub columns-step : (c : NewColumn) (ns : List NewColumn) (m : Made) → made_column c ≡ ok m
    → each made_column (c ∷ ns) ≡ each made_column ns >>= λ ms. ok (m ∷ ms)
unfolding each
columns-step c ns m e = bind_ok _ _ m e

pub columns-refused : (c : NewColumn) (ns : List NewColumn) (w : Refusal) → made_column c ≡ refused w
    → each made_column (c ∷ ns) ≡ refused w
unfolding each
columns-refused c ns w e = bind-refused _ _ w e
