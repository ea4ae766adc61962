-- The last remap, appended: it adds a record and no cell.
use Rattle.std.specs.Prelude.{ℕ, ◌+◌, pred, ◌≡◌, List, [], ◌∷◌, ◌++◌}
use Rattle.std.proofs.Math.Option.{Option, some}
use Rattle.rules.specs.Plan.{Built, Node}
use Rattle.rules.specs.Plan as P
use Rattle.rules.specs.Cells.{Cell}
use Rattle.rules.specs.Nodes.{NodeRecord, remap}
use Rattle.rules.specs.Scope.{Scope, remap_hidden}
use Rattle.rules.specs.BuildSelect.{build_remap}
use Rattle.appends.specs.Nodes.Lays.{Lays}
use Rattle.appends.specs.Nodes.Kinds.{lays-remap}

module _ (i k : ℕ) (n : Node Built) (cs : List Cell) (rs : List NodeRecord) (j m : ℕ) (h : Lays i k n cs rs j m) where
  pub remap-step : (s : Scope) (ts : List (Option ℕ)) → remap_hidden s ≡ some ts
      → Lays i k (build_remap n s) cs (rs ++ (remap (pred m) ts ∷ [])) j (m + 1)
  unfolding build_remap
  remap-step s ts e =
      let a : build_remap n s ≡ P.remap n ts = rw (e, build_remap) in
      rw a (lays-remap i k n cs rs j m h ts)
