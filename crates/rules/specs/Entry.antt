-- The entry ("Entry", and "The planner's contracts"): from both texts and the area to the answer and the area at exit.
use Rattle.std.specs.Prelude.{ℕ, ◌-◌, Bool, true, false, List, ◌++◌, ltb, length, replicate}
use Rattle.rules.specs.Refusals.{Text, catalog, statement, refusal_number, short_area, limit_passed}
use Rattle.rules.specs.Refusals.{Answer, ok, refused, ◌>>=◌}
use Rattle.rules.specs.Limits.{most_bytes, least_area}
use Rattle.rules.specs.Lists.{Bytes}
use Rattle.rules.specs.ReadCatalog.{read_catalog}
use Rattle.rules.specs.ReadStatement.{read_statement}
use Rattle.rules.specs.Plan.{Built, Plan}
use Rattle.rules.specs.BuildStatement.{build_statement}
use Rattle.rules.specs.Cells.{plan_cells}
use Rattle.rules.specs.Area.{plan_numbers}

-- both texts to the plan, the catalog read first
unfoldable pub plan_of : Bytes → Bytes → Answer (Plan Built)
plan_of c q = do
  ts ← read_catalog c
  s ← read_statement q
  build_statement ts s

-- 1 the area too short, 3 a text too long, then the plan
unfoldable pub entry : ℕ → Bytes → Bytes → Answer (Plan Built)
entry n c q = elim (ltb n least_area) [
  | true ↦ refused (record { reason = short_area; text = statement; line = 0 })
  | false ↦ elim (ltb most_bytes (length c)) [
    | true ↦ refused (record { reason = limit_passed; text = catalog; line = 0 })
    | false ↦ elim (ltb most_bytes (length q)) [
      | true ↦ refused (record { reason = limit_passed; text = statement; line = 0 })
      | false ↦ plan_of c q
    ]
  ]
]

-- What the entry answers: the refusal's number (0 for a plan), its text (1 catalog, 2 statement, 0 none) and line, the
-- number of cells, and the area at exit.
pub record Outcome : Type 0 where
  pub number : ℕ
  pub text : ℕ
  pub line : ℕ
  pub count : ℕ
  pub area : List ℕ

unfoldable pub text_number : Text → ℕ
text_number catalog = 1
text_number statement = 2

-- after 1 the area is as it was, after any other refusal all zero
unfoldable pub refused_area : Bool → List ℕ → List ℕ
refused_area true a = a
refused_area false a = replicate (length a) 0

unfoldable pub outcome : List ℕ → Answer (Plan Built) → Outcome
outcome a (ok p) = record {
  number = 0;
  text = 0;
  line = 0;
  count = length (plan_cells p);
  area = plan_numbers p ++ replicate (length a - length (plan_numbers p)) 0;
}
outcome a (refused r) = record {
  number = refusal_number r.reason;
  text = text_number r.text;
  line = r.line;
  count = 0;
  area = refused_area (ltb (length a) least_area) a;
}

-- the whole entry, of the catalog, the statement and the area's contents
unfoldable pub plan : Bytes → Bytes → List ℕ → Outcome
plan c q a = outcome a (entry (length a) c q)
