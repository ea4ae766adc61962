-- `column`: a name, words, and a reference or none.
use native.Mathlib.Omega.{arith}
use mathlib.Core.Path.{refl}
use Rattle.entries.specs.HeadRecords.{field_at}
use Rattle.entries.specs.ColumnHeads.{column-count, column-name-no, column-plain, column-reference-no, column-refers}
use Rattle.entries.proofs.column.Goals as goal
use Rattle.entries.proofs.column.Goals.{in-8, in-9+in_ok-name_at-in-9}

pub name_at-requires : goal.name_at-requires
name_at-requires c = let i = field_at _ _ _ c.requires.is 8 (omega (arith, c.in-9.is)) in (omega (arith, i.short, i.inside), omega (arith, i.short, i.inside))

pub returns-in_err-name_at-in-9 : goal.returns-in_err-name_at-in-9
returns-in_err-name_at-in-9 c = λ p l. column-reference-no _ _ _ l _ c.in-9.is c.in_err-name_at-in-9.ensures c.from_residual.ensures

pub returns-in_default : goal.returns-in_default
returns-in_default c = λ p l. column-count _ _ _ l _ (λ e. omega (arith, e)) (λ e. omega (arith, e)) refl

pub name_at-requires-2 : goal.name_at-requires-2
name_at-requires-2 c =
    let i = field_at _ _ _ c.requires.is 1 (elim c.match-f.branch [ in-8 w ↦ omega (arith, w.in-8.is) | in-9+in_ok-name_at-in-9 w ↦ omega (arith, w.in-9.is) ]) in
    (omega (arith, i.short, i.inside), omega (arith, i.short, i.inside))

pub returns-in_err-name : goal.returns-in_err-name
returns-in_err-name c = λ p l. elim c.match-f.branch [
  | in-8 w ↦ column-name-no _ _ _ l _ (omega (arith, w.in-8.is)) (omega (arith, w.in-8.is)) c.in_err-name.ensures c.from_residual-in_err-name.ensures
  | in-9+in_ok-name_at-in-9 w ↦ column-name-no _ _ _ l _ (omega (arith, w.in-9.is)) (omega (arith, w.in-9.is)) c.in_err-name.ensures c.from_residual-in_err-name.ensures
]

pub returns : goal.returns
returns c = λ p l. elim c.match-f.branch [
  | in-8 w ↦ column-plain _ _ _ l _ (omega (arith, w.in-8.is)) c.in_ok-name.ensures.0 c.in_ok-name.ensures.1 c.column_words.ensures w.in-8.is w.reference-is
  | in-9+in_ok-name_at-in-9 w ↦ column-refers _ _ _ l _ (omega (arith, w.in-9.is)) c.in_ok-name.ensures.0 c.in_ok-name.ensures.1 c.column_words.ensures w.in-9.is w.in_ok-name_at-in-9.ensures.0 w.in_ok-name_at-in-9.ensures.1 w.reference-is
]
