-- WHERE, HAVING and ORDER appended, each behind the node before it.
use Rattle.std.specs.Prelude.{ℕ, ◌+◌, pred, ◌≡◌, Bool, true, false, List, [], ◌∷◌, ◌++◌}
use Rattle.std.proofs.Common.{◌∙◌}
use Rattle.std.proofs.Math.Option.{some}
use Rattle.rules.specs.Refusals.{Refusal, ok, refused, ◌>>=◌, refuse, having_without_aggregate}
use Rattle.rules.specs.Lists.{is_empty, map_option}
use Rattle.rules.specs.Ast.{Key, Clause}
use Rattle.rules.specs.Plan.{Built, Node}
use Rattle.rules.specs.Plan as P
use Rattle.rules.specs.Cells.{Cell}
use Rattle.rules.specs.Nodes.{NodeRecord, filter, order}
use Rattle.rules.specs.Scope.{Scope}
use Rattle.rules.specs.BuildExpression.{build, build_option, clause_expr}
use Rattle.rules.specs.BuildSelect.{filtered, build_where, build_having, key_built, build_order}
use Rattle.appends.specs.Answers.{bind_ok, bind-refused, refuse_if-passed, refuse_if-refused}
use Rattle.appends.specs.Expressions.Emit.{emit, emitted-ok, emitted-refused}
use Rattle.appends.specs.Lists.Kinds.{emit_firsts, firsts-ok, firsts-refused}
use Rattle.appends.specs.Nodes.Lays.{Lays}
use Rattle.appends.specs.Nodes.Kinds.{lays-filter, lays-order}
use Rattle.appends.specs.From.Laid.{stage_of, StageLaid, NodeLaid}

module _ (i k : ℕ) (n : Node Built) (cs : List Cell) (rs : List NodeRecord) (j m : ℕ) (h : Lays i k n cs rs j m) where
  -- WHERE
  pub where-step : (c : Clause) (s : Scope) (xs : List Cell) (q : ℕ) → emit s j c.expr ≡ ok (xs, q)
      → StageLaid (build_where (stage_of n s) (some c)) s i k (cs ++ xs) (rs ++ (filter (pred m) (pred q) ∷ [])) q (m + 1)
  unfolding build_where clause_expr map_option build_option filtered emit
  where-step c s xs q f =
      let o = emitted-ok (build s c.expr) j xs q f in
      record {
        node = P.filter n o.built;
        answer = bind_ok _ _ (some o.built) (bind_ok _ _ _ o.answer);
        lays = lays-filter i k n cs rs j m h o.built xs q o.cells o.next;
      }

  pub where-refused : (c : Clause) (s : Scope) (w : Refusal) → emit s j c.expr ≡ refused w
      → build_where (stage_of n s) (some c) ≡ refused w
  unfolding build_where clause_expr map_option build_option emit
  where-refused c s w f =
      bind-refused _ _ w (bind-refused _ _ w (emitted-refused (build s c.expr) j w f))

  -- HAVING
  pub having-without : (c : Clause) (s : Scope) → is_empty s.aggregates ≡ true
      → build_having n (some c) s ≡ refuse having_without_aggregate c.line
  unfolding build_having
  having-without c s e = refuse_if-refused _ _ c.line _ e

  having-after : (c : Clause) (s : Scope) → is_empty s.aggregates ≡ false
      → build_having n (some c) s ≡ build s c.expr >>= λ x. ok (P.filter n x)
  unfolding build_having
  having-after c s e = refuse_if-passed _ _ c.line _ e

  pub having-step : (c : Clause) (s : Scope) (xs : List Cell) (q : ℕ) → is_empty s.aggregates ≡ false
      → emit s j c.expr ≡ ok (xs, q)
      → NodeLaid (build_having n (some c) s) i k (cs ++ xs) (rs ++ (filter (pred m) (pred q) ∷ [])) q (m + 1)
  unfolding emit
  having-step c s xs q e f =
      let o = emitted-ok (build s c.expr) j xs q f in
      record {
        node = P.filter n o.built;
        answer = having-after c s e ∙ bind_ok _ _ _ o.answer;
        lays = lays-filter i k n cs rs j m h o.built xs q o.cells o.next;
      }

  pub having-refused : (c : Clause) (s : Scope) (w : Refusal) → is_empty s.aggregates ≡ false
      → emit s j c.expr ≡ refused w → build_having n (some c) s ≡ refused w
  unfolding emit
  having-refused c s w e f = having-after c s e ∙ bind-refused _ _ w (emitted-refused (build s c.expr) j w f)

  -- ORDER
  pub order-step : (c : Key) (ks : List Key) (s : Scope) (xs : List Cell) (bs : List (ℕ × Bool)) (q : ℕ)
      → emit_firsts (key_built s) j (c ∷ ks) ≡ ok (xs, bs, q)
      → NodeLaid (build_order n (c ∷ ks) s) i k (cs ++ xs) (rs ++ (order (pred m) bs ∷ [])) q (m + 1)
  unfolding build_order
  order-step c ks s xs bs q f =
      let o = firsts-ok (key_built s) (c ∷ ks) j xs bs q f in
      record {
        node = P.order n o.built;
        answer = bind_ok _ _ _ o.answer;
        lays = lays-order i k n cs rs j m h o.built xs bs q
            (record { cells = o.cells; next = o.next }) o.numbers;
      }

  pub order-refused : (c : Key) (ks : List Key) (s : Scope) (w : Refusal)
      → emit_firsts (key_built s) j (c ∷ ks) ≡ refused w
      → build_order n (c ∷ ks) s ≡ refused w
  unfolding build_order
  order-refused c ks s w f = bind-refused _ _ w (firsts-refused (key_built s) (c ∷ ks) j w f)
