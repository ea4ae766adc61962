-- `create::build_create_table`: no key, two, or one.
use mathlib.Core.Path.{refl}
use Rattle.rules.specs.Refusals.{no_primary_key, multiple_primary_keys}
use Rattle.numbers.specs.Reasons.{named}
use Rattle.build_statement.specs.Ends.{not-planned}
use Rattle.build_statement.specs.Plans.{plans-same}
use Rattle.build_statement.specs.Columns.{no_key, second_key, one_key}
use Rattle.build_statement.proofs.create.build_create_table.Goals as goal

pub returns-in_default : goal.returns-in_default
unfolding named
returns-in_default c = rw c.at.ensures (not-planned no_primary_key _ _ _ refl refl c.line.ensures
    (no_key _ _ _ _ (c.key_column.ensures _ _ _) c.in_default.is))

pub returns-in-Some-key_column : goal.returns-in-Some-key_column
unfolding named
returns-in-Some-key_column c = rw c.at-in-Some-key_column.ensures (not-planned multiple_primary_keys _ _ _ refl refl refl
    (second_key _ _ _ _ (c.key_column.ensures _ _ _) _ c.in-Some.is
    (c.key_column-2.ensures _ _ _) _ _ c.in-Some-key_column.is
    c.entry_at-second.ensures))

pub returns : goal.returns
returns c = plans-same (one_key _ _ _ _
    (c.key_column.ensures _ _ _) _ c.in-Some.is
    (c.key_column-2.ensures _ _ _) c.in_default-key_column.is)
    c.create_table.ensures
