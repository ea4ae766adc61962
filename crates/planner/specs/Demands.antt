-- The demands, of what the entry itself returns: the answer r and the area at exit, whatever the texts c and q are and
-- whatever the area a held. Claims' Demands.antt says the same of the rules' outcome.
use Rattle.std.specs.Prelude.{ℕ, ◌≤◌, ◌<◌, ◌≡◌, List, ◌⊎◌, length, replicate}
use Rattle.std.proofs.Common.{sym, ap, ◌∙◌}
use Rattle.rules.specs.Refusals.{Refusal, ok, refused}
use Rattle.rules.specs.Limits.{most_bytes, least_area}
use Rattle.rules.specs.Lists.{Bytes}
use Rattle.rules.specs.Schema.{Catalog}
use Rattle.rules.specs.Ast.{Select}
use Rattle.rules.specs.Ast as Ast
use Rattle.rules.specs.Plan.{Built, Plan, desugar_plan}
use Rattle.rules.specs.ReadCatalog.{read_catalog}
use Rattle.rules.specs.ReadStatement.{read_statement}
use Rattle.rules.specs.Entry as rules
use Rattle.rules.specs.Entry.{plan_of, entry, plan}
use Rattle.rules.specs.Cells.{plan_cells, number_plan}
use Rattle.claims.specs.Answers.{ensured}
use Rattle.claims.specs.Area.Accepted.{accepted}
use Rattle.claims.specs.Area.AreaDemand.{ReadsBack}
use Rattle.claims.specs.Refused.Refuses.{Refuses}
use Rattle.claims.specs.Refused.Entry.{Cause}
use Rattle.claims.specs.Widths.Bounded.{PlanBounded}
use Rattle.claims.specs.Widths.Positions.{PositionsInside}
use Rattle.claims.specs.Demands as demands
use Rattle.claims.specs.Demands.{Planned, NotPlanned}
use Rattle.planner.specs.Outcomes.{Answers}
use Rattle.planner.specs.declared.Outcome.{Outcome}

-- what is returned, as the rules have it
abbrev pub returned : Outcome → List ℕ → rules.Outcome
returned r area = record { number = r.number; text = r.text; line = r.line; count = r.count; area = area }

pub record Demanded (c q : Bytes) (a : List ℕ) (r : Outcome) (area : List ℕ) : Type 0 where
  -- it is the rules' outcome ..
  pub is : plan c q a ≡ returned r area
  -- .. whatever the area held
  pub whatever : (b : List ℕ) → length a ≡ length b → least_area ≤ length a → plan c q b ≡ returned r area
  -- 1: the area keeps its length, is untouched where it is short, and zero after any other refusal
  pub kept : length area ≡ length a
  pub untouched : length a < least_area → area ≡ a
  pub zero : (w : Refusal) → entry (length a) c q ≡ refused w → least_area ≤ length a → area ≡ replicate (length a) 0
  pub causes : Refuses (entry (length a) c q) (Cause (length a) c q)
  -- no column number at or past the width of the rows that its expression reads, no position past its table
  pub columns : (p : Plan Built) → entry (length a) c q ≡ ok p
      → PlanBounded (demands.unfolded_plan (plan_cells p) (number_plan p))
  pub positions : (p : Plan Built) → entry (length a) c q ≡ ok p → PositionsInside p
  -- 2: unfolded, it is the Rust's tree
  pub rust-tree : (p : Plan Built) → entry (length a) c q ≡ ok p
      → demands.unfolded_plan (plan_cells p) (number_plan p) ≡ desugar_plan p
  -- the whole area read back is the plan and its cells
  pub reads-back : (p : Plan Built) → entry (length a) c q ≡ ok p → ReadsBack c q a p
  -- 3: each SELECT is planned as demanded, or refused by document 01
  pub exact : (ts : Catalog) (s : Select) → least_area ≤ length a → length c ≤ most_bytes → length q ≤ most_bytes
      → read_catalog c ≡ ok ts → read_statement q ≡ ok (Ast.select s) → Planned c q a ts s ⊎ NotPlanned c q a ts s

pub entry-demanded : (c q : Bytes) (a : List ℕ) (r : Outcome) (area : List ℕ) → Answers (plan c q a) r area
    → Demanded c q a r area
entry-demanded c q a r area h = record {
  is = same;
  whatever = λ b l m. sym (demands.same_outcome c q a b l m) ∙ same;
  kept = ap length h.area-is ∙ demands.same_length c q a;
  untouched = λ l. h.area-is ∙ ap (λ (o : rules.Outcome). o.area) (demands.untouched-when-short c q a l);
  zero = λ w e l. h.area-is ∙ demands.zero-after-refusal c q a w e l;
  causes = demands.causes (length a) c q;
  columns = λ p e. ensured (plan_of c q) _ (demands.column-numbers c q) p (accepted (length a) c q p e).planned;
  positions = λ p e. ensured (plan_of c q) _ (demands.positions-inside c q) p (accepted (length a) c q p e).planned;
  rust-tree = λ p e. demands.rust-tree p;
  reads-back = λ p e. demands.area-reads-back c q a p e;
  exact = λ ts s l m n e f. demands.demand-3 c q a ts s l m n e f;
}
  where
    same : plan c q a ≡ returned r area
    same = λ i. record {
      number = sym h.number i;
      text = sym h.text i;
      line = sym h.line i;
      count = sym h.count i;
      area = sym h.area-is i;
    }
