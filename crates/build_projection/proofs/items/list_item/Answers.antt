-- `items::list_item`: an entry's number, or the rows of its star's columns, where there is room for them.
use native.Mathlib.Omega.{arith}
use Rattle.std.proofs.Common.{refl}
use Rattle.std.specs.Prelude.{length}
use Rattle.build_projection.proofs.Filled.{filled-part}
use Rattle.build_projection.specs.Steps.{entry-limit, entry_listed, star-limit, star-listed}
use Rattle.build_projection.proofs.items.list_item.Goals as goal

pub returns-then-n-ge-COLUMNS : goal.returns-then-n-ge-COLUMNS
returns-then-n-ge-COLUMNS c = rw (c.in-None.is, c.at.ensures) (entry-limit _ _ _ _ _ _ c.if-n-ge-COLUMNS.true)

pub returns-then-n-w : goal.returns-then-n-w
returns-then-n-w c = rw (c.in-Some.is, c.at-then-n-w.ensures) (star-limit _ _ _ _ _ _ _ (omega arith))

pub returns-else-n-ge-COLUMNS : goal.returns-else-n-ge-COLUMNS
returns-else-n-ge-COLUMNS c = rw c.in-None.is (entry_listed _ _ _ _ _ _ _ refl (omega arith) refl refl refl)

pub returns-else-n-w : goal.returns-else-n-w
returns-else-n-w c = rw c.in-Some.is (star-listed _ _ _ _ _ _ _ refl _ _ (omega arith) refl refl c.put_columns.ensures
    (filled-part _ _ _ _ _ (length c.args.labels.now) c.put_rows.ensures (omega arith) (omega (arith, c.requires))))
