-- A join, appended: the side that is built first, the other, the predicate. A right join builds its right side first.
use Rattle.std.specs.Prelude.{ℕ, ◌+◌, pred, ◌≡◌, refl, Bool, true, false, List, [], ◌∷◌, ◌++◌}
use Rattle.std.proofs.Common.{◌∙◌}
use Rattle.std.proofs.Math.Option.{Option}
use Rattle.rules.specs.Refusals.{Refusal, Answer, ok, refused, ◌>>=◌}
use Rattle.rules.specs.Schema.{Catalog}
use Rattle.rules.specs.Ast.{Expr, Join, From}
use Rattle.rules.specs.Ast as Ast
use Rattle.rules.specs.Plan as P
use Rattle.rules.specs.Cells.{Cell}
use Rattle.rules.specs.Nodes.{NodeRecord, join}
use Rattle.rules.specs.Nodes as N
use Rattle.rules.specs.Scope.{Scope, empty, width, remap}
use Rattle.rules.specs.BuildExpression.{build_option}
use Rattle.rules.specs.BuildFrom.{Source, Sides, merge_into, is_outer, is_right, build_sides, join_node, swapped}
use Rattle.rules.specs.BuildFrom.{swap_targets, join_in_order, join_swapped, build_join, build_from}
use Rattle.appends.specs.Answers.{bind_ok, bind-refused}
use Rattle.appends.specs.Expressions.Option.{emit_option, option-ok, option-refused}
use Rattle.appends.specs.Nodes.Lays.{Lays}
use Rattle.appends.specs.Nodes.Kinds.{lays-join, lays-remap}
use Rattle.appends.specs.From.Laid.{source_of, SourceLaid}
use Rattle.appends.specs.From.Merge.{merge_at, merge-at}

-- the sides with scopes s and u and the scope v of both, whose join lays cs and rs
pub record SidesLaid (e : Option Expr) (ra rb : Answer Source) (outer : Bool) (s u v : Scope) (i k : ℕ) (cs : List Cell)
    (rs : List NodeRecord) (j m : ℕ) : Type 0 where
  pub sides : Sides
  pub answer : build_sides e ra rb ≡ ok sides
  pub first : sides.first.scope ≡ s
  pub second : sides.second.scope ≡ u
  pub scope : sides.scope ≡ v
  pub lays : Lays i k (join_node outer sides) cs rs j m

-- SIDES
module _ (e : Option Expr) (ra rb : Answer Source) where
  pub sides_first : (w : Refusal) → ra ≡ refused w → build_sides e ra rb ≡ refused w
  unfolding build_sides
  sides_first w h = bind-refused _ _ w h

  module _ (s : Scope) (la i k : ℕ) (cs : List Cell) (rs : List NodeRecord) (j m : ℕ)
      (h : SourceLaid ra s la i k cs rs j m) where
    module _ (t : Scope) (f : merge_at empty s la ≡ ok t) where
      to-second : build_sides e ra rb ≡ rb >>= λ b. merge_into t b >>= λ v. build_option v e
          >>= λ x. ok (record { first = source_of h.node s la; second = b; scope = v; predicate = x })
      unfolding build_sides
      to-second = bind_ok _ _ _ h.answer ∙ bind_ok _ _ t (merge-at empty s h.node la ∙ f)

      pub sides-second : (w : Refusal) → rb ≡ refused w → build_sides e ra rb ≡ refused w
      sides-second w g = to-second ∙ bind-refused _ _ w g

      module _ (u : Scope) (lb : ℕ) (ds : List Cell) (ts : List NodeRecord) (p q : ℕ)
          (g : SourceLaid rb u lb j m ds ts p q) where
        pub sides-second-merge : (w : Refusal) → merge_at t u lb ≡ refused w → build_sides e ra rb ≡ refused w
        sides-second-merge w y =
            to-second ∙ bind_ok _ _ _ g.answer ∙ bind-refused _ _ w (merge-at t u g.node lb ∙ y)

        module _ (v : Scope) (y : merge_at t u lb ≡ ok v) where
          to-predicate : build_sides e ra rb ≡ build_option v e >>= λ x. ok (record {
            first = source_of h.node s la;
            second = source_of g.node u lb;
            scope = v;
            predicate = x;
          })
          to-predicate = to-second ∙ bind_ok _ _ _ g.answer ∙ bind_ok _ _ v (merge-at t u g.node lb ∙ y)

          pub sides-predicate : (w : Refusal) → emit_option v p e ≡ refused w → build_sides e ra rb ≡ refused w
          sides-predicate w z = to-predicate ∙ bind-refused _ _ w (option-refused v e p w z)

          pub sides-step : (outer : Bool) (xs : List Cell) (o : Option ℕ) (z : ℕ) → emit_option v p e ≡ ok (xs, o, z)
              → SidesLaid e ra rb outer s u v i k
              (cs ++ (ds ++ xs)) (rs ++ (ts ++ (join (pred m) (pred q) o outer ∷ []))) z (q + 1)
          unfolding join_node
          sides-step outer xs o z d =
              let b = option-ok v e p xs o z d in
              record {
                sides = record {
                  first = source_of h.node s la;
                  second = source_of g.node u lb;
                  scope = v;
                  predicate = b.built;
                };
                answer = to-predicate ∙ bind_ok _ _ _ b.answer;
                first = refl;
                second = refl;
                scope = refl;
                lays = lays-join i k h.node g.node outer b.built cs ds xs rs ts j m p q z o
                    h.lays g.lays b.adds b.number;
              }

-- JOINS
module _ (c : Catalog) (l : ℕ) (y : Join) (a b : From) (e : Option Expr) where
  in_order : is_right y ≡ false → build_from c (Ast.join l y a b e)
      ≡ build_sides e (build_from c a) (build_from c b) >>= λ d. ok (join_in_order l (is_outer y) d)
  unfolding build_from build_join
  in_order h = rw (h, build_join)

  swapped-sides : is_right y ≡ true → build_from c (Ast.join l y a b e)
      ≡ build_sides e (build_from c b) (build_from c a) >>= λ d. ok (join_swapped l (is_outer y) d)
  unfolding build_from build_join
  swapped-sides h = rw (h, build_join)

  pub join-refused : (w : Refusal) → is_right y ≡ false → build_sides e (build_from c a) (build_from c b) ≡ refused w
      → build_from c (Ast.join l y a b e) ≡ refused w
  join-refused w h g = in_order h ∙ bind-refused _ _ w g

  pub right-refused : (w : Refusal) → is_right y ≡ true → build_sides e (build_from c b) (build_from c a) ≡ refused w
      → build_from c (Ast.join l y a b e) ≡ refused w
  right-refused w h g = swapped-sides h ∙ bind-refused _ _ w g

  module _ (s u v : Scope) (i k : ℕ) (cs : List Cell) (rs : List NodeRecord) (j m : ℕ) where
    pub join_step : is_right y ≡ false → SidesLaid e (build_from c a) (build_from c b) (is_outer y) s u v i k cs rs j m
        → SourceLaid (build_from c (Ast.join l y a b e)) v l i k cs rs j m
    unfolding join_in_order
    join_step h g = record {
      node = join_node (is_outer y) g.sides;
      answer = in_order h ∙ bind_ok _ _ _ g.answer ∙ rw g.scope;
      lays = g.lays;
    }

    -- the columns swapped back
    pub right-step : is_right y ≡ true → SidesLaid e (build_from c b) (build_from c a) (is_outer y) s u v i k cs rs j m
        → SourceLaid (build_from c (Ast.join l y a b e)) (remap v (swapped (width s) (width u))) l i k
        cs (rs ++ (N.remap (pred m) (swapped (width s) (width u)) ∷ [])) j (m + 1)
    unfolding join_swapped swap_targets
    right-step h g = record {
      node = P.remap (join_node (is_outer y) g.sides) (swapped (width s) (width u));
      answer = swapped-sides h ∙ bind_ok _ _ _ g.answer ∙ rw (g.scope, g.first, g.second);
      lays = lays-remap i k (join_node (is_outer y) g.sides) cs rs j m g.lays (swapped (width s) (width u));
    }
