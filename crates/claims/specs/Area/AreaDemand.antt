-- The area at exit: as long as before, and read back after an accepted plan it gives the plan.
use Rattle.std.specs.Prelude.{ℕ, ◌-◌, ◌≡◌, refl, Bool, true, false, List, ltb, length}
use Rattle.std.proofs.Common.{arith, length-append}
use Rattle.std.proofs.Math.Option.{some}
use Rattle.std.proofs.lemmas.List.{length-replicate}
use Rattle.rules.specs.Refusals.{Answer, ok, refused}
use Rattle.rules.specs.Limits.{least_area}
use Rattle.rules.specs.Lists.{Bytes}
use Rattle.rules.specs.Schema.{Catalog}
use Rattle.rules.specs.ReadCatalog.{read_catalog}
use Rattle.rules.specs.Plan.{Built, Plan}
use Rattle.rules.specs.Cells.{plan_cells, number_plan}
use Rattle.rules.specs.Area.{plan_numbers}
use Rattle.rules.specs.Entry.{plan_of, entry, refused_area, outcome, plan}
use Rattle.claims.specs.Answers.{ensured}
use Rattle.claims.specs.Area.Accepted.{accepted, catalog-read}
use Rattle.claims.specs.Area.ReadPlan.{read_plan}
use Rattle.claims.specs.Area.PlanReadable.{plan-readable}
use Rattle.claims.specs.Area.PlanReadsBack.{plan-reads-back}
use Rattle.claims.specs.Room.Statements.{room}

-- THE AREA READ BACK
-- The whole area at exit, read back over the catalog's tables, gives exactly the plan: its cells, its nodes and what
-- the statement has of its own; and the reported count is that of the cells.
pub record ReadsBack (c q : Bytes) (a : List ℕ) (p : Plan Built) : Type 0 where
  pub tables : Catalog
  pub catalog : read_catalog c ≡ ok tables
  pub contents : read_plan c q tables (plan c q a).area ≡ some (plan_cells p, number_plan p)
  pub count : (plan c q a).count ≡ length (plan_cells p)

-- whenever the entry accepts, the area is read back so
pub area-demand : (c q : Bytes) (a : List ℕ) (p : Plan Built) → entry (length a) c q ≡ ok p → ReadsBack c q a p
unfolding plan outcome
area-demand c q a p e =
    let h = accepted (length a) c q p e in
    let ts = catalog-read c q p h.planned in
    let r = ensured (plan_of c q) _ (plan-readable c q ts.0 h.catalog ts.1) p h.planned in
    record {
      tables = ts.0;
      catalog = ts.1;
      contents = rw e (plan-reads-back c q ts.0 p (length a - length (plan_numbers p)) r);
      count = rw e;
    }

-- ITS LENGTH
refused-length : (b : Bool) (a : List ℕ) → length (refused_area b a) ≡ length a
unfolding refused_area
refused-length true a = refl
refused-length false a = length-replicate (length a) 0

-- the area keeps its length
pub area-length : (c q : Bytes) (a : List ℕ) → length (plan c q a).area ≡ length a
unfolding plan outcome
area-length c q a = go (entry (length a) c q) refl
  where
    go : (m : Answer (Plan Built)) → entry (length a) c q ≡ m → length (outcome a m).area ≡ length a
    go (ok p) e =
        let h = accepted (length a) c q p e in
        let r = ensured (plan_of c q) _ (room c q) p h.planned in
        simp (length-append, length-replicate) (omega (arith, h.area))
    go (refused r) e = refused-length (ltb (length a) least_area) a
