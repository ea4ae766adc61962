-- `table_record`: by the number of fields, and whether each is a name.
use native.Mathlib.Omega.{arith}
use Rattle.text.specs.Fields.{inside-field}
use Rattle.from.specs.Fields.{row_as, no_row, fields-one, fields-two, fields-other, table_none, table-some, alias-first, alias-second, alias-some}
use Rattle.from.proofs.record.table_record.Goals as goal
use Rattle.from.proofs.record.table_record.Goals.{in-2, in-3+in_ok-name_at-in-3}

pub name_at-requires : goal.name_at-requires
name_at-requires c = let i = inside-field _ _ _ c.requires.is.fields 2 c.requires.is.short c.requires.is.within (omega (arith, c.in-3.is)) in (omega (arith, i.short, i.inside), omega (arith, i.short, i.inside))

pub returns-in_err-name_at-in-3 : goal.returns-in_err-name_at-in-3
returns-in_err-name_at-in-3 c = λ t p l d k x.
    let i = inside-field _ _ _ x.fields 1 x.short x.within (omega (arith, c.in-3.is)) in
    let j = inside-field _ _ _ x.fields 2 x.short x.within (omega (arith, c.in-3.is)) in
    rw c.from_residual.ensures (row_as _ (fields-two _ _ l d k _ x.fields c.in-3.is) (no_row (alias-second _ _ _ _ _ i j c.in_err-name_at-in-3.ensures)))

pub returns-in_default : goal.returns-in_default
returns-in_default c = λ t p l d k x. no_row (fields-other _ _ l d k _ x.fields (omega arith) (omega arith))

pub name_at-requires-2 : goal.name_at-requires-2
name_at-requires-2 c =
    let i = inside-field _ _ _ c.requires.is.fields 1 c.requires.is.short c.requires.is.within (elim c.match-f.branch [ in-2 w ↦ omega (arith, w.in-2.is) | in-3+in_ok-name_at-in-3 w ↦ omega (arith, w.in-3.is) ]) in
    (omega (arith, i.short, i.inside), omega (arith, i.short, i.inside))

pub returns-in_err-name : goal.returns-in_err-name
returns-in_err-name c = λ t p l d k x. elim c.match-f.branch [
  | in-2 w ↦
      let i = inside-field _ _ _ x.fields 1 x.short x.within (omega (arith, w.in-2.is)) in
      rw c.from_residual-in_err-name.ensures (row_as _ (fields-one _ _ l d k _ x.fields w.in-2.is) (no_row (table_none _ _ _ i c.in_err-name.ensures)))
  | in-3+in_ok-name_at-in-3 w ↦
      let i = inside-field _ _ _ x.fields 1 x.short x.within (omega (arith, w.in-3.is)) in
      let j = inside-field _ _ _ x.fields 2 x.short x.within (omega (arith, w.in-3.is)) in
      rw c.from_residual-in_err-name.ensures (row_as _ (fields-two _ _ l d k _ x.fields w.in-3.is) (no_row (alias-first _ _ _ _ _ i j c.in_err-name.ensures)))
]

pub returns : goal.returns
returns c = λ t p l d k x. let n = c.in_ok-name.ensures in elim c.match-f.branch [
  | in-2 w ↦
      let i = inside-field _ _ _ x.fields 1 x.short x.within (omega (arith, w.in-2.is)) in
      rw w.alias-is (row_as _ (fields-one _ _ l d k _ x.fields w.in-2.is) (table-some _ _ _ i _ _ n.0 n.1))
  | in-3+in_ok-name_at-in-3 w ↦
      let i = inside-field _ _ _ x.fields 1 x.short x.within (omega (arith, w.in-3.is)) in
      let j = inside-field _ _ _ x.fields 2 x.short x.within (omega (arith, w.in-3.is)) in
      let m = w.in_ok-name_at-in-3.ensures in
      rw w.alias-is (row_as _ (fields-two _ _ l d k _ x.fields w.in-3.is) (alias-some _ _ _ _ _ i j _ _ _ n.0 m.0 n.1 m.1))
]
