-- The projection, appended: the items, then the hidden columns.
use Rattle.std.specs.Prelude.{ℕ, ◌+◌, ◌-◌, pred, ◌≤◌, ◌≡◌, false}
use Rattle.std.proofs.Common.{sym, ◌∙◌}
use mathlib.Core.List.{List, [], ◌∷◌, ◌++◌, map}
use Rattle.std.proofs.Math.Option.{Option}
use Rattle.std.proofs.Math.ListN.{length}
use Rattle.rules.specs.Refusals.{Refusal, ok, refused, refuse, limit_passed}
use Rattle.rules.specs.Limits.{most_columns}
use Rattle.rules.specs.Lines.{Word}
use Rattle.rules.specs.Ast.{Expr, Item}
use Rattle.rules.specs.Plan.{Built, Node}
use Rattle.rules.specs.Plan as P
use Rattle.rules.specs.Cells.{Cell, number_first}
use Rattle.rules.specs.Nodes.{NodeRecord, project}
use Rattle.rules.specs.Scope.{Scope}
use Rattle.rules.specs.Items.{is_lone}
use Rattle.rules.specs.Hidden.{HiddenColumn, projected}
use Rattle.rules.specs.BuildSelect.{item_built, hidden_built, project_items, build_projection}
use Rattle.std.proofs.lemmas.List.{map-append}
use Rattle.appends.specs.Answers.{bind_ok, bind-refused, ok_same, at_most-passed, at_most-refused}
use Rattle.appends.specs.Lists.Joined.{each_pure, first-append}
use Rattle.appends.specs.Lists.Kinds.{emit_firsts, firsts-ok, firsts-refused}
use Rattle.appends.specs.Nodes.Lays.{Lays, Adds, adds-more}
use Rattle.appends.specs.Nodes.Kinds.{lays-project}
use Rattle.appends.specs.From.Laid.{stage_of, StageLaid}

module _ (i k : ℕ) (n : Node Built) (cs : List Cell) (rs : List NodeRecord) (j m : ℕ) (h : Lays i k n cs rs j m)
    (is' : List Item) (later : List Expr) (s : Scope) where
  project-by : is_lone is' ≡ false → build_projection (stage_of n s) is' later ≡ project_items (stage_of n s) is' later
  unfolding build_projection
  project-by e = rw (e, build_projection)

  module _ (e : is_lone is' ≡ false) where
    pub project-refused : (w : Refusal) → emit_firsts (item_built s) j is' ≡ refused w
        → build_projection (stage_of n s) is' later ≡ refused w
    unfolding project_items
    project-refused w f = project-by e ∙ bind-refused _ _ w (firsts-refused (item_built s) is' j w f)

    module _ (xs : List Cell) (as' : List (ℕ × Option Word)) (q : ℕ)
        (f : emit_firsts (item_built s) j is' ≡ ok (xs, as', q)) where
      -- 3 at the record that called for the column behind the most
      pub project-wide : (us : List HiddenColumn) (z : HiddenColumn) (zs : List HiddenColumn)
          → (projected s is' later).columns ≡ us ++ (z ∷ zs) → length us ≡ most_columns - length is'
          → build_projection (stage_of n s) is' later ≡ refuse limit_passed z.line
      unfolding project_items
      project-wide us z zs t l = project-by e ∙ bind_ok _ _ _ (firsts-ok (item_built s) is' j xs as' q f).answer
          ∙ rw t (at_most-refused (most_columns - length is') (λ (c : HiddenColumn). c.line) us z zs _ l)

      pub project-step : (ys : List Cell) (bs : List (ℕ × Option Word)) (p : ℕ)
          → length (projected s is' later).columns ≤ most_columns - length is'
          → emit_firsts (λ d. ok (hidden_built d)) q (projected s is' later).columns ≡ ok (ys, bs, p)
          → StageLaid (build_projection (stage_of n s) is' later) (projected s is' later).scope i k
          (cs ++ (xs ++ ys)) (rs ++ (project (pred m) (as' ++ bs) ∷ [])) p (m + 1)
      unfolding project_items
      project-step ys bs p l g =
          let hs = map hidden_built (projected s is' later).columns in
          let a = firsts-ok (item_built s) is' j xs as' q f in
          let b = firsts-ok (λ d. ok (hidden_built d)) (projected s is' later).columns q ys bs p g in
          let t : b.built ≡ hs = ok_same (sym b.answer ∙ each_pure hidden_built (projected s is' later).columns) in
          let c : Adds q (map (λ x. x.0) hs) ys p = rw (← t) (record { cells = b.cells; next = b.next }) in
          let z : Adds j (map (λ x. x.0) (a.built ++ hs)) (xs ++ ys) p = rw (map-append (λ x. x.0) a.built hs)
          (adds-more j q p _ _ xs ys (record { cells = a.cells; next = a.next }) c) in
          let y : number_first j (a.built ++ hs) ≡ as' ++ bs =
          first-append a.built hs j ∙ rw (a.numbers, a.next, ← t, b.numbers) in
          record {
            node = P.project n (a.built ++ hs);
            answer = project-by e ∙ bind_ok _ _ _ a.answer
                ∙ at_most-passed (most_columns - length is') (λ (c : HiddenColumn). c.line) _ _ l;
            lays = lays-project i k n cs rs j m h (a.built ++ hs) (xs ++ ys) (as' ++ bs) p z y;
          }
