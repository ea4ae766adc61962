-- DELETE, appended: one scan, with its filter.
use Rattle.std.specs.Prelude.{ℕ, ◌≡◌, List, [], ◌∷◌, ◌++◌}
use Rattle.std.proofs.Common.{◌∙◌}
use Rattle.std.proofs.Math.Option.{Option, none}
use Rattle.rules.specs.Refusals.{Refusal, ok, refused}
use Rattle.rules.specs.Schema.{Catalog, Table, must_get_table}
use Rattle.rules.specs.Ast.{Delete}
use Rattle.rules.specs.Plan.{Built, Node}
use Rattle.rules.specs.Plan as P
use Rattle.rules.specs.Cells.{Cell}
use Rattle.rules.specs.Nodes.{scan}
use Rattle.rules.specs.Area.{span, plan_numbers}
use Rattle.rules.specs.BuildExpression.{clause_expr}
use Rattle.rules.specs.BuildStatement.{table_scope, build_delete}
use Rattle.appends.specs.Answers.{bind_ok, bind-refused}
use Rattle.appends.specs.Expressions.Option.{emit_option, option-ok, option-refused}
use Rattle.appends.specs.Nodes.Lays.{Lays}
use Rattle.appends.specs.Nodes.Kinds.{lays-scan}
use Rattle.appends.specs.Area.{area_of, delete-area}

-- a DELETE from t, its filter's cells xs, z of them
pub record DeleteLaid (c : Catalog) (d : Delete) (t : Table) (xs : List Cell) (o : Option ℕ) (z : ℕ) : Type 0 where
  pub node : Node Built
  pub answer : build_delete c d ≡ ok (P.delete t node)
  pub lays : Lays 0 0 node xs (scan t none o ∷ []) z 1
  pub area : plan_numbers (P.delete t node) ≡ area_of 4 xs (scan t none o ∷ []) (span t.name ++ (t.key ∷ [])) z 1

module _ (c : Catalog) (d : Delete) where
  pub delete-table : (w : Refusal) → must_get_table c d.line d.table ≡ refused w → build_delete c d ≡ refused w
  unfolding build_delete
  delete-table w e = bind-refused _ _ w e

  module _ (t : Table) (e : must_get_table c d.line d.table ≡ ok t) where
    pub delete-where : (w : Refusal) → emit_option (table_scope t) 0 (clause_expr d.filter) ≡ refused w
        → build_delete c d ≡ refused w
    unfolding build_delete
    delete-where w f =
        bind_ok _ _ t e ∙ bind-refused _ _ w (option-refused (table_scope t) (clause_expr d.filter) 0 w f)

    pub delete-step : (xs : List Cell) (o : Option ℕ) (z : ℕ)
        → emit_option (table_scope t) 0 (clause_expr d.filter) ≡ ok (xs, o, z) → DeleteLaid c d t xs o z
    unfolding build_delete
    delete-step xs o z f =
        let b = option-ok (table_scope t) (clause_expr d.filter) 0 xs o z f in
        let l = lays-scan 0 0 t none b.built xs o z b.adds b.number in
        record {
          node = P.scan t none b.built;
          answer = bind_ok _ _ t e ∙ bind_ok _ _ _ b.answer;
          lays = l;
          area = delete-area (P.scan t none b.built) xs (scan t none o ∷ []) z 1 l t;
        }
