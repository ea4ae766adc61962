-- The aggregate node over the rows that are retained is the rules' stage of groups and functions.
use Prim.Native.Nat.{ℕ, suc, pred, ◌+◌, ◌≤◌, ◌<◌}
use Rattle.std.proofs.Common.{arith, sym, ◌∙◌, length-take-le}
use Rattle.std.proofs.Math.Decide.{dec_lt}
use Rattle.std.proofs.Math.Path.{◌≡◌, refl, ap}
use Rattle.std.specs.Prelude.{true, get_or, take, drop}
use mathlib.Core.List.{List, [], ◌∷◌, ◌++◌}
use Rattle.std.proofs.Math.ListN.{length}
use Rattle.std.proofs.Math.Seq.{split_at}
use Rattle.rules.specs.Refusals.{Refusal, limit_passed, Answer, ok, refused, ◌>>=◌, refuse, at_most}
use Rattle.rules.specs.Limits.{most_columns}
use Rattle.rules.specs.Ast.{Expr, star, line_of}
use Rattle.rules.specs.Plan.{Built, Aggregate, Node}
use Rattle.rules.specs.Cells.{Cell}
use Rattle.rules.specs.Nodes.{NodeRecord, aggregate}
use Rattle.rules.specs.Scope as rules
use Rattle.rules.specs.BuildAggregate.{build_function, retain_groups, retain_functions, aggregated, build_groups}
use Rattle.appends.specs.Answers.{bind_ok, bind-refused, ok_same, ok-not-refused, at_most-passed, at_most-refused}
use Rattle.appends.specs.Lists.Kinds.{emit_all, emit_seconds}
use Rattle.appends.specs.Nodes.Lays.{Lays}
use Rattle.appends.specs.From.Laid.{stage_of, StageLaid}
use Rattle.appends.specs.Select.Groups.{groups-refused, functions-refused, groups-wide, groups-step}
use Rattle.build_aggregate.specs.Nodes.{aggregate_step}

refused-same : {A : Type 0} {v w : Refusal} → ◌≡◌ {A = Answer A} (refused v) (refused w) → v ≡ w
refused-same e = cc

-- one more expression than the most columns, and those before it
record Wide (es : List Expr) : Type 0 where
  first : List Expr
  expr : Expr
  rest : List Expr
  is : es ≡ first ++ (expr ∷ rest)
  count : length first ≡ most_columns

wide : (es : List Expr) → most_columns < length es → Wide es
wide es h = record {
  first = take most_columns es;
  expr = get_or es most_columns (star 0);
  rest = drop (suc most_columns) es;
  is = split_at es most_columns (star 0) h;
  count = length-take-le most_columns es (omega (arith, h));
}

module _ (s : rules.Scope) (n : ℕ) (gs fs : List Expr) where
  -- what an accepted step was made of
  pub record StepParts (xs : List Cell) (as' : List ℕ) (bs : List (Aggregate × ℕ)) (p : ℕ) : Type 0 where
    pub first : List Cell
    pub second : List Cell
    pub next : ℕ
    pub cells : first ++ second ≡ xs
    pub groups : emit_all s n gs ≡ ok (first, as', next)
    pub functions : emit_seconds (build_function s) next fs ≡ ok (second, bs, p)
    pub few : length (gs ++ fs) ≤ most_columns

  step-wide : (x : List Cell × List ℕ × ℕ) (y : List Cell × List (Aggregate × ℕ) × ℕ) (w : Wide (gs ++ fs))
      → emit_all s n gs ≡ ok x → emit_seconds (build_function s) x.2 fs ≡ ok y
      → aggregate_step s n gs fs ≡ refuse limit_passed (line_of w.expr)
  unfolding aggregate_step
  step-wide x y w f g = bind_ok _ _ x f ∙ bind_ok _ _ y g
      ∙ ap (λ (u : List Expr). at_most most_columns line_of u >>= λ v. ok (x.0 ++ y.0, (x.1, y.1), y.2)) w.is
      ∙ at_most-refused most_columns line_of w.first w.expr w.rest _ w.count

  step-passed : (x : List Cell × List ℕ × ℕ) (y : List Cell × List (Aggregate × ℕ) × ℕ)
      → length (gs ++ fs) ≤ most_columns → emit_all s n gs ≡ ok x → emit_seconds (build_function s) x.2 fs ≡ ok y
      → aggregate_step s n gs fs ≡ ok (x.0 ++ y.0, (x.1, y.1), y.2)
  unfolding aggregate_step
  step-passed x y l f g = bind_ok _ _ x f ∙ bind_ok _ _ y g ∙ at_most-passed most_columns line_of _ _ l

  step-groups : (v : Refusal) → emit_all s n gs ≡ refused v → aggregate_step s n gs fs ≡ refused v
  unfolding aggregate_step
  step-groups v f = bind-refused _ _ v f

  step-functions : (x : List Cell × List ℕ × ℕ) (v : Refusal) → emit_all s n gs ≡ ok x
      → emit_seconds (build_function s) x.2 fs ≡ refused v → aggregate_step s n gs fs ≡ refused v
  unfolding aggregate_step
  step-functions x v f g = bind_ok _ _ x f ∙ bind-refused _ _ v g

  pub step-parts : (xs : List Cell) (as' : List ℕ) (bs : List (Aggregate × ℕ)) (p : ℕ)
      → aggregate_step s n gs fs ≡ ok (xs, (as', bs), p) → StepParts xs as' bs p
  unfolding refuse
  step-parts xs as' bs p e = by-groups (emit_all s n gs) refl
    where
      whole : (x : List Cell × List ℕ × ℕ) (y : List Cell × List (Aggregate × ℕ) × ℕ)
          → length (gs ++ fs) ≤ most_columns → emit_all s n gs ≡ ok x → emit_seconds (build_function s) x.2 fs ≡ ok y
          → StepParts xs as' bs p
      whole x y l f g =
          let z : ◌≡◌ {A = List Cell × (List ℕ × List (Aggregate × ℕ)) × ℕ} (x.0 ++ y.0, (x.1, y.1), y.2)
          (xs, (as', bs), p) = ok_same (sym (step-passed x y l f g) ∙ e) in
          let a : x.1 ≡ as' = ap (λ u. u.1.0) z in
          let b : y.1 ≡ bs = ap (λ u. u.1.1) z in
          let d : y.2 ≡ p = ap (λ u. u.2) z in
          record {
            first = x.0;
            second = y.0;
            next = x.2;
            cells = ap (λ u. u.0) z;
            groups = rw (← a) f;
            functions = rw (← b, ← d) g;
            few = l;
          }

      by-functions : (x : List Cell × List ℕ × ℕ) (r : Answer (List Cell × List (Aggregate × ℕ) × ℕ))
          → emit_all s n gs ≡ ok x → emit_seconds (build_function s) x.2 fs ≡ r → StepParts xs as' bs p
      by-functions x (refused v) f g = ok-not-refused _ v (sym e ∙ step-functions x v f g)
      by-functions x (ok y) f g = elim (dec_lt most_columns (length (gs ++ fs))) [
        | yes l ↦ ok-not-refused _ _ (sym e ∙ step-wide x y (wide (gs ++ fs) l) f g)
        | no l ↦ whole x y (omega (arith, l)) f g
      ]

      by-groups : (r : Answer (List Cell × List ℕ × ℕ)) → emit_all s n gs ≡ r → StepParts xs as' bs p
      by-groups (refused v) f = ok-not-refused _ v (sym e ∙ step-groups v f)
      by-groups (ok x) f = by-functions x (emit_seconds (build_function s) x.2 fs) f refl

-- over the expressions that are retained, behind a node
module _ (s : rules.Scope) (gs fs : List Expr) (t : aggregated gs fs ≡ true) (d : Node Built) (cs : List Cell)
    (rs : List NodeRecord) (n m : ℕ) (h : Lays 0 0 d cs rs n m) where
  abbrev kept : List Expr
  kept = (retain_groups s gs).exprs

  abbrev kept_functions : List Expr
  kept_functions = (retain_functions s gs fs).exprs

  pub stage-built : (xs : List Cell) (as' : List ℕ) (bs : List (Aggregate × ℕ)) (p : ℕ)
      → aggregate_step s n kept kept_functions ≡ ok (xs, (as', bs), p)
      → StageLaid (build_groups (stage_of d s) gs fs) (retain_functions s gs fs).scope 0 0 (cs ++ xs)
      (rs ++ (aggregate (pred m) as' bs ∷ [])) p (m + 1)
  stage-built xs as' bs p e =
      let u = step-parts s n kept kept_functions xs as' bs p e in
      rw (← u.cells) (groups-step 0 0 d cs rs n m h gs fs s t u.first as' u.next u.groups u.second bs p
      u.functions u.few)

  pub stage-refused : (w : Refusal) → aggregate_step s n kept kept_functions ≡ refused w
      → build_groups (stage_of d s) gs fs ≡ refused w
  unfolding refuse
  stage-refused w e = by-groups (emit_all s n kept) refl
    where
      same : (v : Refusal) → aggregate_step s n kept kept_functions ≡ refused v
          → build_groups (stage_of d s) gs fs ≡ refused v → build_groups (stage_of d s) gs fs ≡ refused w
      same v a b = b ∙ ap refused (refused-same (sym a ∙ e))

      by-functions : (x : List Cell × List ℕ × ℕ) (r : Answer (List Cell × List (Aggregate × ℕ) × ℕ))
          → emit_all s n kept ≡ ok x → emit_seconds (build_function s) x.2 kept_functions ≡ r
          → build_groups (stage_of d s) gs fs ≡ refused w
      by-functions x (refused v) f g = same v (step-functions s n kept kept_functions x v f g)
          (functions-refused 0 0 d cs rs n m h gs fs s t x.0 x.1 x.2 f v g)
      by-functions x (ok y) f g = elim (dec_lt most_columns (length (kept ++ kept_functions))) [
        | yes l ↦ let u = wide (kept ++ kept_functions) l in
            same _ (step-wide s n kept kept_functions x y u f g)
            (groups-wide 0 0 d cs rs n m h gs fs s t x.0 x.1 x.2 f y.0 y.1 y.2 g u.first u.expr
            u.rest u.is u.count)
        | no l ↦ ok-not-refused _ w (sym (step-passed s n kept kept_functions x y (omega (arith, l)) f g) ∙ e)
      ]

      by-groups : (r : Answer (List Cell × List ℕ × ℕ)) → emit_all s n kept ≡ r
          → build_groups (stage_of d s) gs fs ≡ refused w
      by-groups (refused v) f = same v (step-groups s n kept kept_functions v f)
          (groups-refused 0 0 d cs rs n m h gs fs s t v f)
      by-groups (ok x) f = by-functions x (emit_seconds (build_function s) x.2 kept_functions) f refl
