-- Groups and aggregate functions, appended behind the node before them.
use Rattle.std.specs.Prelude.{ℕ, ◌+◌, pred, ◌≤◌, ◌≡◌, true, false, List, [], ◌∷◌, ◌++◌, length}
use Rattle.std.proofs.Common.{◌∙◌}
use Rattle.rules.specs.Refusals.{Refusal, ok, refused, refuse, limit_passed}
use Rattle.rules.specs.Limits.{most_columns}
use Rattle.rules.specs.Ast.{Expr, line_of}
use Rattle.rules.specs.Plan.{Built, Aggregate, Node}
use Rattle.rules.specs.Plan as P
use Rattle.rules.specs.Cells.{Cell}
use Rattle.rules.specs.Nodes.{NodeRecord, aggregate}
use Rattle.rules.specs.Scope.{Scope}
use Rattle.rules.specs.BuildAggregate.{build_function, retain_groups, retain_functions, build_aggregate}
use Rattle.rules.specs.BuildAggregate.{aggregated, build_groups}
use Rattle.appends.specs.Answers.{bind_ok, bind-refused, at_most-passed, at_most-refused}
use Rattle.appends.specs.Lists.Kinds.{emit_all, all-ok, all-refused, emit_seconds, seconds-ok, seconds-refused}
use Rattle.appends.specs.Nodes.Lays.{Lays}
use Rattle.appends.specs.Nodes.Kinds.{lays-aggregate}
use Rattle.appends.specs.From.Laid.{stage_of, StageLaid}

module _ (i k : ℕ) (n : Node Built) (cs : List Cell) (rs : List NodeRecord) (j m : ℕ) (h : Lays i k n cs rs j m)
    (gs fs : List Expr) (s : Scope) where
  pub groups_none : aggregated gs fs ≡ false → StageLaid (build_groups (stage_of n s) gs fs) s i k cs rs j m
  unfolding build_groups
  groups_none e = record { node = n; answer = rw (e, build_groups); lays = h }

  groups-by : aggregated gs fs ≡ true → build_groups (stage_of n s) gs fs ≡ build_aggregate n gs fs s
  unfolding build_groups
  groups-by e = rw (e, build_groups)

  module _ (e : aggregated gs fs ≡ true) where
    pub groups-refused : (w : Refusal) → emit_all s j (retain_groups s gs).exprs ≡ refused w
        → build_groups (stage_of n s) gs fs ≡ refused w
    unfolding build_aggregate
    groups-refused w f = groups-by e ∙ bind-refused _ _ w (all-refused s _ j w f)

    module _ (xs : List Cell) (as' : List ℕ) (q : ℕ)
        (f : emit_all s j (retain_groups s gs).exprs ≡ ok (xs, as', q)) where
      pub functions-refused : (w : Refusal)
          → emit_seconds (build_function s) q (retain_functions s gs fs).exprs ≡ refused w
          → build_groups (stage_of n s) gs fs ≡ refused w
      unfolding build_aggregate
      functions-refused w g = groups-by e ∙ bind_ok _ _ _ (all-ok s _ j xs as' q f).answer
          ∙ bind-refused _ _ w (seconds-refused (build_function s) _ q w g)

      module _ (ys : List Cell) (bs : List (Aggregate × ℕ)) (p : ℕ)
          (g : emit_seconds (build_function s) q (retain_functions s gs fs).exprs ≡ ok (ys, bs, p)) where
        -- 3 at the expression behind the most columns, once all are built
        pub groups-wide : (es : List Expr) (z : Expr) (zs : List Expr)
            → (retain_groups s gs).exprs ++ (retain_functions s gs fs).exprs ≡ es ++ (z ∷ zs) → length es ≡ most_columns
            → build_groups (stage_of n s) gs fs ≡ refuse limit_passed (line_of z)
        unfolding build_aggregate
        groups-wide es z zs t l = groups-by e ∙ bind_ok _ _ _ (all-ok s _ j xs as' q f).answer
            ∙ bind_ok _ _ _ (seconds-ok (build_function s) _ q ys bs p g).answer
            ∙ rw t (at_most-refused most_columns line_of es z zs _ l)

        pub groups-step : length ((retain_groups s gs).exprs ++ (retain_functions s gs fs).exprs) ≤ most_columns
            → StageLaid (build_groups (stage_of n s) gs fs) (retain_functions s gs fs).scope i k
            (cs ++ (xs ++ ys)) (rs ++ (aggregate (pred m) as' bs ∷ [])) p (m + 1)
        unfolding build_aggregate
        groups-step l =
            let a = all-ok s _ j xs as' q f in
            let b = seconds-ok (build_function s) _ q ys bs p g in
            record {
              node = P.aggregate n a.built b.built;
              answer = groups-by e ∙ bind_ok _ _ _ a.answer ∙ bind_ok _ _ _ b.answer
                  ∙ at_most-passed most_columns line_of _ _ l;
              lays = lays-aggregate i k n cs rs j m h a.built b.built xs ys as' bs q p
                  (record { cells = a.cells; next = a.next }) a.numbers
                  (record { cells = b.cells; next = b.next }) b.numbers;
            }
