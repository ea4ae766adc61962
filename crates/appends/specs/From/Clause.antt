-- The FROM clause, appended: its items joined one after the other.
use Rattle.std.specs.Prelude.{ℕ, ◌+◌, pred, ◌≡◌, refl}
use Rattle.std.proofs.Common.{◌∙◌}
use Rattle.std.proofs.Math.Bool.{false}
use mathlib.Core.List.{List, [], ◌∷◌, ◌++◌, append-nil}
use Rattle.std.proofs.Math.Option.{none}
use Rattle.rules.specs.Refusals.{Refusal, ok, refused}
use Rattle.rules.specs.Lists.{given}
use Rattle.rules.specs.Schema.{Catalog}
use Rattle.rules.specs.Ast.{From}
use Rattle.rules.specs.Plan.{Built, Node}
use Rattle.rules.specs.Plan as P
use Rattle.rules.specs.Cells.{Cell, number_given}
use Rattle.rules.specs.Nodes.{NodeRecord, values, join}
use Rattle.rules.specs.Scope.{Scope, empty}
use Rattle.rules.specs.BuildFrom.{build_from, build_later_items, build_from_clause}
use Rattle.appends.specs.Answers.{bind_ok, bind-refused}
use Rattle.appends.specs.Nodes.Lays.{Lays, adds_none}
use Rattle.appends.specs.Nodes.Kinds.{lays-join, lays-empty}
use Rattle.appends.specs.From.Laid.{stage_of, SourceLaid, StageLaid}
use Rattle.appends.specs.From.Merge.{merge_at, merge-at}

pub from-none : (c : Catalog) (i k : ℕ)
    → StageLaid (build_from_clause c []) empty i k [] (values ([] ∷ []) ∷ []) i (k + 1)
unfolding build_from_clause
from-none c i k = record { node = P.values ([] ∷ []); answer = refl; lays = lays-empty i k }

-- THE FIRST ITEM
module _ (c : Catalog) (f : From) (fs : List From) where
  pub from-refused : (w : Refusal) → build_from c f ≡ refused w → build_from_clause c (f ∷ fs) ≡ refused w
  unfolding build_from_clause
  from-refused w h = bind-refused _ _ w h

  module _ (s : Scope) (l i k : ℕ) (cs : List Cell) (rs : List NodeRecord) (j m : ℕ)
      (h : SourceLaid (build_from c f) s l i k cs rs j m) where
    -- the rest of the clause stands behind it
    pub from_first : (t : Scope) → merge_at empty s l ≡ ok t
        → build_from_clause c (f ∷ fs) ≡ build_later_items c fs (stage_of h.node t)
    unfolding build_from_clause
    from_first t e = bind_ok _ _ _ h.answer ∙ bind_ok _ _ t (merge-at empty s h.node l ∙ e)

-- THE LATER ITEMS, behind a node n with scope s
module _ (c : Catalog) (n : Node Built) (s : Scope) (i k : ℕ) (cs : List Cell) (rs : List NodeRecord) (j m : ℕ)
    (h : Lays i k n cs rs j m) where
  pub later-end : StageLaid (build_later_items c [] (stage_of n s)) s i k cs rs j m
  unfolding build_later_items
  later-end = record { node = n; answer = refl; lays = h }

  module _ (f : From) (fs : List From) where
    pub later-refused : (w : Refusal) → build_from c f ≡ refused w → build_later_items c (f ∷ fs) (stage_of n s) ≡ refused w
    unfolding build_later_items
    later-refused w e = bind-refused _ _ w e

    module _ (u : Scope) (l : ℕ) (ds : List Cell) (ts : List NodeRecord) (p q : ℕ)
        (g : SourceLaid (build_from c f) u l j m ds ts p q) where
      pub later-merge : (w : Refusal) → merge_at s u l ≡ refused w → build_later_items c (f ∷ fs) (stage_of n s) ≡ refused w
      unfolding build_later_items
      later-merge w e = bind_ok _ _ _ g.answer ∙ bind-refused _ _ w (merge-at s u g.node l ∙ e)

      -- the rest stands behind the join of both
      pub later-step : (t : Scope) → merge_at s u l ≡ ok t → build_later_items c (f ∷ fs) (stage_of n s)
          ≡ build_later_items c fs (stage_of (P.join n g.node none false) t)
      unfolding build_later_items
      later-step t e = bind_ok _ _ _ g.answer ∙ bind_ok _ _ t (merge-at s u g.node l ∙ e)

      pub later-lays : Lays i k (P.join n g.node none false)
          (cs ++ ds) (rs ++ (ts ++ (join (pred m) (pred q) none false ∷ []))) p (q + 1)
      unfolding given number_given
      later-lays = rw append-nil at (lays-join i k n g.node false none cs ds [] rs ts j m p q p none
          h g.lays (adds_none p) refl)
