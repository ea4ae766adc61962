-- `hide::hide_rows`: what the rows so far hide, and the rows that are left.
use native.Mathlib.Omega.{arith}
use mathlib.Core.Path.{refl}
use Rattle.build_hidden.specs.Hide.{hiding-end, hiding-skip, hiding-below, hiding-full}
use Rattle.build_hidden.specs.Hide.{hiding-fits, hiding-more}
use Rattle.build_hidden.proofs.hide.hide_rows.Goals as goal

pub loop-r-preserved-in_default : goal.loop-r-preserved-in_default
loop-r-preserved-in_default c = hiding-skip c.requires c.loop-r.invariant c.loop-r-test.true refl
    (rw (c.view.ensures.labels, c.view.ensures.matches, c.view.ensures.tables) at c.to_hide-wanted.ensures) c.in_default.is

pub returns-then-scope-ge-COLUMNS : goal.returns-then-scope-ge-COLUMNS
returns-then-scope-ge-COLUMNS c = rw c.at.ensures (hiding-full c.requires c.loop-r.invariant c.loop-r-test.true refl
    (rw (c.view.ensures.labels, c.view.ensures.matches, c.view.ensures.tables) at c.to_hide-wanted.ensures) c.in-Some.is
    (omega (arith, c.if-scope-ge-COLUMNS.true)) c.line.ensures)

pub bounds-parent-j : goal.bounds-parent-j
bounds-parent-j c = hiding-below c.requires c.loop-r.invariant c.loop-r-test.true refl (rw (c.view.ensures.labels, c.view.ensures.matches, c.view.ensures.tables) at c.to_hide-wanted.ensures) c.in-Some.is

pub bounds-parent-j-in-loop-r : goal.bounds-parent-j-in-loop-r
bounds-parent-j-in-loop-r c = omega (
  arith,
  hiding-below c.requires c.loop-r.invariant c.loop-r-test.true refl
      (rw (c.view.ensures.labels, c.view.ensures.matches, c.view.ensures.tables) at c.to_hide-wanted.ensures) c.in-Some.is,
  c.requires.as_many,
)

pub add_hidden-scope-requires : goal.add_hidden-scope-requires
add_hidden-scope-requires c = hiding-fits c.requires c.loop-r.invariant c.loop-r-test.true refl
    (rw (c.view.ensures.labels, c.view.ensures.matches, c.view.ensures.tables) at c.to_hide-wanted.ensures) c.in-Some.is refl (omega (arith, c.if-scope-ge-COLUMNS.false))

pub loop-r-preserved : goal.loop-r-preserved
loop-r-preserved c = hiding-more c.requires c.loop-r.invariant c.loop-r-test.true refl
    (rw (c.view.ensures.labels, c.view.ensures.matches, c.view.ensures.tables) at c.to_hide-wanted.ensures) c.in-Some.is refl (omega (arith, c.if-scope-ge-COLUMNS.false)) refl
    c.add_hidden-scope.ensures

pub returns : goal.returns
returns c = hiding-end c.requires c.loop-r.invariant c.loop-r-test.false
