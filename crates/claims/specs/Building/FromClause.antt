-- What each step of building FROM keeps, its node and scope have.
use Rattle.std.specs.Prelude.{ℕ, ◌+◌, ◌≤◌, ◌≡◌, Bool, ltb}
use Rattle.std.proofs.Math.Path.{refl}
use Rattle.std.proofs.Math.Bool.{true, false}
use mathlib.Core.List.{List, [], ◌∷◌}
use Rattle.std.proofs.Math.Option.{Option, none}
use Rattle.std.proofs.Common.{ltb-false}
use Rattle.rules.specs.Refusals.{Answer, ok, ◌>>=◌, limit_passed, duplicate_table}
use Rattle.rules.specs.Limits.{most_columns}
use Rattle.rules.specs.Lines.{Word}
use Rattle.rules.specs.Schema.{Table, Catalog, must_get_table}
use Rattle.rules.specs.Ast.{Expr, Join, From}
use Rattle.rules.specs.Ast as Ast
use Rattle.rules.specs.Plan as P
use Rattle.rules.specs.Scope.{Scope, empty, width, shares, merge}
use Rattle.rules.specs.BuildExpression.{build_option}
use Rattle.rules.specs.Stage.{Stage}
use Rattle.rules.specs.BuildFrom.{Source, merge_into, is_outer, is_right, Sides, build_sides, join_in_order, join_swapped, build_join, scan_of}
use Rattle.rules.specs.BuildFrom.{build_from, build_later_items, build_from_clause}
use Rattle.claims.specs.Answers.{Ensures, then, known}
use Rattle.claims.specs.Cases.{guarded}

-- where merging is accepted, the scopes are merged, and of at most 256 columns
merging : {B : Type 0} (s : Scope) (f : Source) (k : Scope → Answer B) (Q : B → Type 0)
    → (width s + width f.scope ≤ most_columns → Ensures (k (merge s f.scope)) Q) → Ensures (merge_into s f >>= k) Q
unfolding merge_into
merging s f k Q h = then (merge_into s f) k (λ t. Ensures (k t) Q) Q
    (guarded (shares s.tables f.scope.tables) duplicate_table f.line _ _ λ u.
    guarded (ltb most_columns (width s + width f.scope)) limit_passed f.line _ _ λ e.
    h (ltb-false most_columns (width s + width f.scope) e)) λ t g. g

-- What is known of the built sides of a join: both are within the columns, their scope is theirs merged, and the predicate is
-- built over it.
pub record SidesBuilt (p : Option Expr) (d : Sides) : Type 0 where
  pub within : width (merge empty d.first.scope) + width d.second.scope ≤ most_columns
  pub merged : d.scope ≡ merge (merge empty d.first.scope) d.second.scope
  pub built : build_option d.scope p ≡ ok d.predicate

-- R of a FROM item and what is built of it
pub record FromSteps (c : Catalog) (R : From → Source → Type 0) : Type 0 where
  pub tables : (l : ℕ) (n : Word) (a : Option Word) (t : Table) → must_get_table c l n ≡ ok t → R (Ast.table l n a) (scan_of l a t)
  pub joins : (l : ℕ) (j : Join) (f g : From) (p : Option Expr) (d : Sides) → is_right j ≡ false
      → R f d.first → R g d.second → SidesBuilt p d → R (Ast.join l j f g p) (join_in_order l (is_outer j) d)
  pub rights : (l : ℕ) (j : Join) (f g : From) (p : Option Expr) (d : Sides) → is_right j ≡ true
      → R g d.first → R f d.second → SidesBuilt p d → R (Ast.join l j f g p) (join_swapped l (is_outer j) d)

sides-by : (p : Option Expr) (ra rb : Answer Source) (A B : Source → Type 0) (T : Sides → Type 0) → Ensures ra A → Ensures rb B
    → ((d : Sides) → A d.first → B d.second → SidesBuilt p d → T d) → Ensures (build_sides p ra rb) T
unfolding build_sides
sides-by p ra rb A B T ha hb k =
    then ra _ A T ha λ a f. merging empty a _ T λ v. then rb _ B T hb λ b g. merging (merge empty a.scope) b _ T λ w.
    known (build_option (merge (merge empty a.scope) b.scope) p) _ T λ x e.
    k _ f g (record { within = w; merged = refl; built = e })

module _ {c : Catalog} {R : From → Source → Type 0} (k : FromSteps c R) where
  join_by : (l : ℕ) (j : Join) (f g : From) (p : Option Expr) (ra rb : Answer Source) → Ensures ra (R f) → Ensures rb (R g)
      → Ensures (build_join l j p ra rb) (R (Ast.join l j f g p))
  unfolding build_join
  join_by l j f g p ra rb h i = go (is_right j) refl
    where
      go : (b : Bool) → is_right j ≡ b → Ensures (elim b [
        | false ↦ (build_sides p ra rb >>= λ d. ok (join_in_order l (is_outer j) d))
        | true ↦ (build_sides p rb ra >>= λ d. ok (join_swapped l (is_outer j) d))
      ]) (R (Ast.join l j f g p))
      go false e = then (build_sides p ra rb) _ _ _ (sides-by p ra rb (R f) (R g) _ h i λ d m n o. k.joins l j f g p d e m n o) λ d m. m
      go true e = then (build_sides p rb ra) _ _ _ (sides-by p rb ra (R g) (R f) _ i h λ d m n o. k.rights l j f g p d e m n o) λ d m. m

  -- an accepted FROM item
  pub from-by : (f : From) → Ensures (build_from c f) (R f)
  unfolding build_from
  from-by (Ast.table l n a) = known (must_get_table c l n) _ _ λ t e. k.tables l n a t e
  from-by (Ast.join l j f g p) = join_by l j f g p (build_from c f) (build_from c g) (from-by f) (from-by g)

  -- and FROM, with I of the items to come and the node and scope so far
  module _ (I : List From → Stage → Type 0)
      (step : (f : From) (fs : List From) (s : Stage) (r : Source) → I (f ∷ fs) s → R f r
      → width s.scope + width r.scope ≤ most_columns
      → I fs (record { node = P.join s.node r.node none false; scope = merge s.scope r.scope })) where
    later-by : (fs : List From) (s : Stage) → I fs s → Ensures (build_later_items c fs s) (I [])
    unfolding build_later_items
    later-by [] s h = h
    later-by (f ∷ fs) s h = then (build_from c f) _ _ _ (from-by f) λ r g. merging s.scope r _ _ λ w. later-by fs _ (step f fs s r h g w)

    pub clause-by : (f : From) (fs : List From)
        → ((r : Source) → R f r → width empty + width r.scope ≤ most_columns
        → I fs (record { node = r.node; scope = merge empty r.scope }))
        → Ensures (build_from_clause c (f ∷ fs)) (I [])
    unfolding build_from_clause
    clause-by f fs start = then (build_from c f) _ _ _ (from-by f) λ r g. merging empty r _ _ λ w. later-by fs _ (start r g w)
