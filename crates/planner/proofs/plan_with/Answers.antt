-- `plan_with`: a text is refused, or the statement that was read is planned.
use Rattle.std.proofs.Common.{refl, rules}
use Rattle.plan.specs.Emits.{exit}
use Rattle.planner.specs.Outcomes.{refused-told, building-answer}
use Rattle.planner.specs.Reads.{statement-ready, statement-answer, text-refused}
use Rattle.planner.proofs.plan_with.Goals as goal

pub build-planned-requires-clause-statement_ready : goal.build-planned-requires-clause-statement_ready
build-planned-requires-clause-statement_ready c = statement-ready c.read_texts.ensures _ c.in_ok-read_texts.was

pub returns : goal.returns
returns c = statement-answer c.read_texts.ensures _ _ c.in_ok-read_texts.was
    (building-answer _ _ _ _ _ c.build-planned.ensures c.requires.area_room c.map_err.ensures.cases (λ v w h. search rules))

pub returns-in_err-read_texts : goal.returns-in_err-read_texts
returns-in_err-read_texts c = rw (exit c.from_residual.result c.from_residual.ensures.1)
    (text-refused c.read_texts.ensures _ _ _ _ c.in_err-read_texts.was refl refl c.requires.area_room (refused-told _ _))
