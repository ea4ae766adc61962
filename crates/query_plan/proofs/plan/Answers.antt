-- `plan`: what is printed is the planner's own outcome and area, and the record is the one that its outcome points at.
use Rattle.std.proofs.Common.{◌≡◌, List, ℕ, length, rules, subst}
use Rattle.std.specs.Io.KnownBytes.{Appends}
use Rattle.rules.specs.Limits.{least_area}
use Rattle.rules.specs.Entry.{plan}
use Rattle.rules.specs.Listing.{listing}
use Rattle.planner.specs.Outcomes.{Answers}
use Rattle.planner.specs.declared.Outcome.{Outcome}
use Rattle.plan_listing.specs.Shown.{shown, planned-shown}
use Rattle.query_plan.specs.Written.{fault-shown}
use Rattle.query_plan.proofs.plan.Goals as goal

listing-shown : (c q a : List ℕ) {area : List ℕ} {o : Outcome} → Answers (plan c q a) o area → length a ≡ least_area
    → shown c q o area ≡ listing c q
listing-shown c q a h l = planned-shown c q a l h

pub print-printed-requires : goal.print-printed-requires
print-printed-requires g c = listing-shown _ _ _ c.plan-planned.ensures (search rules)

pub returns-clause-shown : goal.returns-clause-shown
returns-clause-shown g c = subst (Appends _ _) (fault-shown _ _ _ c.plan-planned.ensures (search rules)) (rw c.in_ok-context-2.ensures at c.show_record-shown.ensures)
