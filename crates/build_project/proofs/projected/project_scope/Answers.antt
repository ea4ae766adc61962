-- `projected::project_scope`: the labels of the items, and what is matched to them.
use Rattle.build_project.specs.Projected.{matched-fit, plain-fit, matched-projected, plain-projected}
use Rattle.build_project.proofs.projected.project_scope.Goals as goal

pub project_items-requires : goal.project_items-requires
project_items-requires c = matched-fit c.requires.items_ready (λ e. rw c.view.ensures.matches at (c.is_matched.ensures e)) c.requires.labels_value c.if-is_matched.true c.item_rows.ensures

pub returns-then-is_matched : goal.returns-then-is_matched
returns-then-is_matched c = matched-projected c.requires.items_ready (λ e. rw c.view.ensures.matches at (c.is_matched.ensures e)) c.requires.labels_value c.item_rows.ensures c.project_items.ensures

pub project-requires : goal.project-requires
project-requires c = plain-fit c.requires.items_ready (λ e. rw c.view.ensures.matches at (c.is_matched.ensures e)) c.requires.labels_value c.if-is_matched.false

pub returns : goal.returns
returns c = plain-projected c.requires.items_ready (λ e. rw c.view.ensures.matches at (c.is_matched.ensures e)) c.requires.labels_value c.project.ensures
