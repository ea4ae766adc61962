-- `fields`: a line of at most four fields in a straight line, any other by the loop.
use Rattle.text.specs.FewFields.{one_field_lem, two_fields_lem, three-fields, four-fields}
use Rattle.text.proofs.fields.Goals as goal

pub returns-then-t-e-eq10 : goal.returns-then-t-e-eq10
returns-then-t-e-eq10 c = one_field_lem _ _ _ _ (record { stop = c.stop_at-e.ensures; within = c.if-e-t.true; lf = c.if-t-e-eq10.true }) c.few.ensures

pub returns-then-t-f-eq10 : goal.returns-then-t-f-eq10
returns-then-t-f-eq10 c = two_fields_lem _ _ _ _ _ (record { stop = c.stop_at-e.ensures; within = c.if-e-t.true; other = c.if-t-e-eq10.false }) (record { stop = c.stop_at-f.ensures; within = c.if-f-t.true; lf = c.if-t-f-eq10.true }) c.few-then-t-f-eq10.ensures

pub returns-then-t-g-eq10 : goal.returns-then-t-g-eq10
returns-then-t-g-eq10 c = three-fields _ _ _ _ _ _ (record { stop = c.stop_at-e.ensures; within = c.if-e-t.true; other = c.if-t-e-eq10.false }) (record { stop = c.stop_at-f.ensures; within = c.if-f-t.true; other = c.if-t-f-eq10.false }) (record { stop = c.stop_at-g.ensures; within = c.if-g-t.true; lf = c.if-t-g-eq10.true }) c.few-then-t-g-eq10.ensures

pub returns-then-t-h-eq10 : goal.returns-then-t-h-eq10
returns-then-t-h-eq10 c = four-fields _ _ _ _ _ _ _ (record { stop = c.stop_at-e.ensures; within = c.if-e-t.true; other = c.if-t-e-eq10.false }) (record { stop = c.stop_at-f.ensures; within = c.if-f-t.true; other = c.if-t-f-eq10.false }) (record { stop = c.stop_at-g.ensures; within = c.if-g-t.true; other = c.if-t-g-eq10.false }) (record { stop = c.stop_at-h.ensures; within = c.if-h-t.true; lf = c.if-t-h-eq10.true }) c.few-then-t-h-eq10.ensures
