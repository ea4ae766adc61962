-- UPDATE, appended: one scan with its filter, then what the columns are set to.
use Prim.Native.Nat.{ℕ, ◌+◌, pred}
use native.Mathlib.Omega.{arith}
use Rattle.std.specs.Prelude.{◌≡◌, List, [], ◌∷◌, ◌++◌, length}
use Rattle.std.proofs.Common.{◌∙◌}
use Rattle.std.proofs.Math.Option.{Option, none, some}
use Rattle.rules.specs.Refusals.{Refusal, Reason, ok, refused, ◌>>=◌, refuse, no_default}
use Rattle.rules.specs.Schema.{Value, Column, Catalog, Table, must_get_table, default_at}
use Rattle.rules.specs.Ast.{Expr, Update}
use Rattle.rules.specs.Ast as Ast
use Rattle.rules.specs.Plan.{Built, Node}
use Rattle.rules.specs.Plan as P
use Rattle.rules.specs.Cells.{Cell, built_count}
use Rattle.rules.specs.Cells as C
use Rattle.rules.specs.Nodes.{scan}
use Rattle.rules.specs.Area.{span, set_numbers, plan_numbers}
use Rattle.rules.specs.Scope.{Scope, lookup, at, missing}
use Rattle.rules.specs.BuildExpression.{found, build, clause_expr}
use Rattle.rules.specs.BuildStatement.{table_scope, or_default, set_value, set_built, build_update}
use Rattle.appends.specs.Answers.{bind_ok, bind-refused}
use Rattle.appends.specs.Expressions.Emit.{emit, emitted-ok, emitted-refused}
use Rattle.appends.specs.Expressions.Option.{emit_option, option-ok, option-refused}
use Rattle.appends.specs.Lists.Each.{entry_of, emit_entry}
use Rattle.appends.specs.Lists.Entry.{emit_second}
use Rattle.appends.specs.Lists.Kinds.{emit_seconds, seconds-ok, seconds-refused}
use Rattle.appends.specs.Nodes.Lays.{Lays}
use Rattle.appends.specs.Nodes.Kinds.{lays-scan}
use Rattle.appends.specs.Area.{area_of, update-area}

-- an UPDATE of t: its filter's cells xs, then the cells ys of what is set, q in all
pub record UpdateLaid (c : Catalog) (d : Update) (t : Table) (xs ys : List Cell) (o : Option ℕ) (bs : List (ℕ × ℕ))
    (z q : ℕ) : Type 0 where
  pub node : Node Built
  pub sets : List (ℕ × Built)
  pub answer : build_update c d ≡ ok (P.update t node sets)
  pub lays : Lays 0 0 node xs (scan t none o ∷ []) z 1
  pub area : plan_numbers (P.update t node sets)
      ≡ area_of 6 (xs ++ ys) (scan t none o ∷ []) (span t.name ++ (t.key ∷ length bs ∷ set_numbers bs)) q 1

module _ (c : Catalog) (d : Update) where
  pub update-table : (w : Refusal) → must_get_table c d.line d.table ≡ refused w → build_update c d ≡ refused w
  unfolding build_update
  update-table w e = bind-refused _ _ w e

  module _ (t : Table) (e : must_get_table c d.line d.table ≡ ok t) where
    pub update-where : (w : Refusal) → emit_option (table_scope t) 0 (clause_expr d.filter) ≡ refused w
        → build_update c d ≡ refused w
    unfolding build_update
    update-where w f =
        bind_ok _ _ t e ∙ bind-refused _ _ w (option-refused (table_scope t) (clause_expr d.filter) 0 w f)

    module _ (xs : List Cell) (o : Option ℕ) (z : ℕ)
        (f : emit_option (table_scope t) 0 (clause_expr d.filter) ≡ ok (xs, o, z)) where
      pub update-sets : (w : Refusal) → emit_seconds (set_built (table_scope t) t.columns) z d.sets ≡ refused w
          → build_update c d ≡ refused w
      unfolding build_update
      update-sets w g =
          bind_ok _ _ t e ∙ bind_ok _ _ _ (option-ok (table_scope t) (clause_expr d.filter) 0 xs o z f).answer
          ∙ bind-refused _ _ w (seconds-refused (set_built (table_scope t) t.columns) d.sets z w g)

      pub update-step : (ys : List Cell) (bs : List (ℕ × ℕ)) (q : ℕ)
          → emit_seconds (set_built (table_scope t) t.columns) z d.sets ≡ ok (ys, bs, q)
          → UpdateLaid c d t xs ys o bs z q
      unfolding build_update
      update-step ys bs q g =
          let b = option-ok (table_scope t) (clause_expr d.filter) 0 xs o z f in
          let u = seconds-ok (set_built (table_scope t) t.columns) d.sets z ys bs q g in
          let l = lays-scan 0 0 t none b.built xs o z b.adds b.number in
          record {
            node = P.scan t none b.built;
            sets = u.built;
            answer = bind_ok _ _ t e ∙ bind_ok _ _ _ b.answer ∙ bind_ok _ _ _ u.answer;
            lays = l;
            area = update-area (P.scan t none b.built) xs (scan t none o ∷ []) z 1 l t u.built ys bs q
                (record { cells = u.cells; next = u.next }) u.numbers;
          }

-- A SET: its value, or its column's default
module _ (s : Scope) (cs : List Column) (x : Ast.Set) (n : ℕ) where
  pub set-column : (r : Reason) → lookup s none x.name ≡ missing r
      → emit_second (set_built s cs) n x ≡ refuse r x.line
  unfolding emit_second emit_entry set_built found refuse ◌>>=◌
  set-column r h = rw h

  module _ (i : ℕ) (h : lookup s none x.name ≡ at i) where
    pub set-step : (e : Expr) (xs : List Cell) (m : ℕ) → x.value ≡ some e → emit s n e ≡ ok (xs, m)
        → emit_second (set_built s cs) n x ≡ ok (xs, (i, pred m), m)
    unfolding emit_second emit_entry entry_of set_built set_value found emit ◌>>=◌
    set-step e xs m v f =
        let o = emitted-ok (build s e) n xs m f in
        rw (h, v, o.answer, o.cells, o.root, o.next)

    pub set_value_lem : (e : Expr) (w : Refusal) → x.value ≡ some e → emit s n e ≡ refused w
        → emit_second (set_built s cs) n x ≡ refused w
    unfolding emit_second emit_entry set_built set_value found emit ◌>>=◌
    set_value_lem e w v f = rw (h, v, emitted-refused (build s e) n w f)

    pub set-default : (v : Value) → x.value ≡ none → default_at cs i ≡ some v
        → emit_second (set_built s cs) n x ≡ ok (C.constant v ∷ [], (i, n), n + 1)
    unfolding emit_second emit_entry entry_of set_built set_value or_default found C.cells C.root built_count ◌>>=◌
    set-default v e d = let z : pred (n + 1) ≡ n = omega arith in rw (h, e, d, z)

    pub set-no-default : x.value ≡ none → default_at cs i ≡ none
        → emit_second (set_built s cs) n x ≡ refuse no_default x.line
    unfolding emit_second emit_entry set_built set_value or_default found refuse ◌>>=◌
    set-no-default e d = rw (h, e, d)
