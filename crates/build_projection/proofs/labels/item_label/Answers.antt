-- `labels::item_label`: its alias, the column in its cell, or what its expression passes on.
use Rattle.std.proofs.Common.{rules, ◌≡◌, refl, sym, ◌∙◌}
use Rattle.build_projection.specs.Labels.{label-alias, label-passed, label-cell}
use Rattle.build_projection.specs.Aliases.{alias_length, alias-some, alias-none}
use Rattle.build_projection.proofs.labels.item_label.Goals.{in_default-via-in-None-1, in_default-via-in-Some+else-alias-ne0}
use Rattle.build_projection.proofs.labels.item_label.Goals as goal

pub returns : goal.returns
returns c = let p = alias-some _ _ _ _ c.alias_at.ensures c.in-Some.is in
    label-alias _ _ _ _ _ _ _ _ p.1 c.if-alias-ne0.true p.0 c.label.ensures

pub returns-then-not-matched : goal.returns-then-not-matched
returns-then-not-matched c =
    let z : alias_length c.args.exprs.now.texts.catalog.now c.args.exprs.now.texts.statement.now c.args.parts.now c.args.x ≡ 0 = elim c.in_default.branch [
      | in_default-via-in-Some+else-alias-ne0 w ↦ sym (alias-some _ _ _ _ c.alias_at.ensures w.in-Some.is).1 ∙ w.if-alias-ne0.false
      | in_default-via-in-None-1 w ↦ alias-none _ _ _ _ c.alias_at.ensures (search rules)
    ] in
    label-cell c.requires.item_stands (sym c.requires.matched_value ∙ c.if-not-matched.true) refl z c.item_row-r.ensures
    (c.cell_label.ensures _ _)

pub returns-2 : goal.returns-2
returns-2 c =
    let z : alias_length c.args.exprs.now.texts.catalog.now c.args.exprs.now.texts.statement.now c.args.parts.now c.args.x ≡ 0 = elim c.in_default.branch [
      | in_default-via-in-Some+else-alias-ne0 w ↦ sym (alias-some _ _ _ _ c.alias_at.ensures w.in-Some.is).1 ∙ w.if-alias-ne0.false
      | in_default-via-in-None-1 w ↦ alias-none _ _ _ _ c.alias_at.ensures (search rules)
    ] in
    label-passed _ _ _ _ _ _ _ _ refl z c.item_row-r.ensures c.label_of.ensures
