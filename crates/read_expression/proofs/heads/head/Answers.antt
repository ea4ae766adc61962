-- `head`: by the number that the keyword is packed into, and the number of fields.
use native.Mathlib.Omega.{arith}
use mathlib.Core.Path.{refl}
use Rattle.std.specs.Prelude.{◌+◌}
use Rattle.rules.specs.Limits.{most_bytes}
use Rattle.rules.specs.Lines.{bytes}
use Rattle.rules.specs.Refusals as rule
use Rattle.rules.specs.Reader.{base_address, word}
use Rattle.text.specs.Lines.{nth_field, field}
use Rattle.text.specs.Fields.{inside-field}
use Rattle.text.specs.Tables.{head-table}
use Rattle.text.specs.Packed.{find_number, Apart, find_none, packed-word}
use Rattle.ast.specs.Row.{number_of}
use Rattle.read_expression.specs.RowOf.{row-of-as, no_row}
use Rattle.read_expression.specs.Literals.{row-none}
use Rattle.read_expression.specs.Operators.{row-of-plain, star-plainly}
use Rattle.read_expression.specs.Records.{other-words, head-op, head-op-not, head-column, head-qualified, head-column-not, head-call, head-call-not, head-star, head-star-not, head-literal}
use Rattle.read_expression.proofs.heads.head.Goals as goal

pub column-requires : goal.column-requires
column-requires c = let i = inside-field _ _ _ c.requires.fields 1 c.requires.short c.requires.within (omega (arith, c.in-2-count.is)) in (omega (arith, i.short, i.inside), omega (arith, i.short, i.inside))

pub qualified-requires-clause-table : goal.qualified-requires-clause-table
qualified-requires-clause-table c = let i = inside-field _ _ _ c.requires.fields 1 c.requires.short c.requires.within (omega (arith, c.in-3.is)) in (omega (arith, i.short, i.inside), omega (arith, i.short, i.inside))

pub qualified-requires-clause-name : goal.qualified-requires-clause-name
qualified-requires-clause-name c = let i = inside-field _ _ _ c.requires.fields 2 c.requires.short c.requires.within (omega (arith, c.in-3.is)) in (omega (arith, i.short, i.inside), omega (arith, i.short, i.inside))

pub call-requires : goal.call-requires
call-requires c = let i = inside-field _ _ _ c.requires.fields 1 c.requires.short c.requires.within (omega (arith, c.in-3-count.is)) in (omega (arith, i.short, i.inside), omega (arith, i.short, i.inside))

pub returns-in-2 : goal.returns-in-2
unfolding bytes find_number word field
returns-in-2 c = λ l d k. row-of-as _ _ _ _ (head-op _ _ l d k _ c.requires.fields _ _ other-words (packed-word _ _ _ _ _ head-table (rw c.field.ensures at c.packed.ensures) (rw c.in-94319.is)) refl c.in-2.is) (rw c.field-in-2.ensures at (c.operator.ensures c.args.t.now))

pub returns-in_default-count : goal.returns-in_default-count
unfolding bytes find_number
returns-in_default-count c = λ l d k. no_row (head-op-not _ _ l d k _ c.requires.fields _ _ other-words (packed-word _ _ _ _ _ head-table (rw c.field.ensures at c.packed.ensures) (rw c.in-94319.is)) refl (λ e. omega (arith, e)))

pub returns-in-2-count : goal.returns-in-2-count
unfolding bytes find_number
returns-in-2-count c = λ l d k. row-of-as _ _ _ _ (head-column _ _ l d k _ c.requires.fields _ _ other-words (packed-word _ _ _ _ _ head-table (rw c.field.ensures at c.packed.ensures) (rw c.in-23883619.is)) refl c.in-2-count.is) (c.column.ensures _ (inside-field _ _ _ c.requires.fields 1 c.requires.short c.requires.within (omega (arith, c.in-2-count.is))))

pub returns-in-3 : goal.returns-in-3
unfolding bytes find_number
returns-in-3 c = λ l d k. row-of-as _ _ _ _ (head-qualified _ _ l d k _ c.requires.fields _ _ other-words (packed-word _ _ _ _ _ head-table (rw c.field.ensures at c.packed.ensures) (rw c.in-23883619.is)) refl c.in-3.is) (c.qualified.ensures _ (inside-field _ _ _ c.requires.fields 1 c.requires.short c.requires.within (omega (arith, c.in-3.is))) (inside-field _ _ _ c.requires.fields 2 c.requires.short c.requires.within (omega (arith, c.in-3.is))))

pub returns-in_default-count-2 : goal.returns-in_default-count-2
unfolding bytes find_number
returns-in_default-count-2 c = λ l d k. no_row (head-column-not _ _ l d k _ c.requires.fields _ _ other-words (packed-word _ _ _ _ _ head-table (rw c.field.ensures at c.packed.ensures) (rw c.in-23883619.is)) refl (λ e. omega (arith, e)) (λ e. omega (arith, e)))

pub returns-in-3-count : goal.returns-in-3-count
unfolding bytes find_number field
returns-in-3-count c = λ l d k. row-of-as _ _ _ _ (head-call _ _ l d k _ c.requires.fields _ _ other-words (packed-word _ _ _ _ _ head-table (rw c.field.ensures at c.packed.ensures) (rw c.in-93798.is)) refl c.in-3-count.is) (rw c.field-in-3-count.ensures at (c.call.ensures _ (most_bytes + (nth_field c.args.f.fields 2).start) (inside-field _ _ _ c.requires.fields 1 c.requires.short c.requires.within (omega (arith, c.in-3-count.is)))))

pub returns-in_default-count-3 : goal.returns-in_default-count-3
unfolding bytes find_number
returns-in_default-count-3 c = λ l d k. no_row (head-call-not _ _ l d k _ c.requires.fields _ _ other-words (packed-word _ _ _ _ _ head-table (rw c.field.ensures at c.packed.ensures) (rw c.in-93798.is)) refl (λ e. omega (arith, e)))

pub returns-in-1 : goal.returns-in-1
unfolding bytes find_number number_of
returns-in-1 c = λ l d k. row-of-as _ _ _ _ (head-star _ _ l d k _ c.requires.fields _ _ other-words (packed-word _ _ _ _ _ head-table (rw c.field.ensures at c.packed.ensures) (rw c.in-6213956723.is)) refl c.in-1.is) (row-of-plain _ _ _ _ _ _ star-plainly c.plain_row.ensures)

pub returns-in_default-count-4 : goal.returns-in_default-count-4
unfolding bytes find_number
returns-in_default-count-4 c = λ l d k. no_row (head-star-not _ _ l d k _ c.requires.fields _ _ other-words (packed-word _ _ _ _ _ head-table (rw c.field.ensures at c.packed.ensures) (rw c.in-6213956723.is)) refl (λ e. omega (arith, e)))

pub returns-in_err-literal_at-in_default : goal.returns-in_err-literal_at-in_default
unfolding bytes base_address Apart
returns-in_err-literal_at-in_default c = λ l d k. rw c.from_residual.ensures (row-of-as _ _ _ _ (head-literal _ _ l d k _ c.requires.fields _ _ other-words (packed-word _ _ _ _ _ head-table (rw c.field.ensures at c.packed.ensures)
    (find_none _ _ (λ e. omega (arith, e), (λ e. omega (arith, e), (λ e. omega (arith, e), (λ e. omega (arith, e), tt)))))) (omega arith)) (no_row (row-none _ _ _ (c.in_err-literal_at-in_default.ensures rule.statement l d k refl) refl)))

pub returns-in_ok-literal_at-in_default : goal.returns-in_ok-literal_at-in_default
unfolding bytes base_address Apart
returns-in_ok-literal_at-in_default c = λ l d k. row-of-as _ _ _ _ (head-literal _ _ l d k _ c.requires.fields _ _ other-words (packed-word _ _ _ _ _ head-table (rw c.field.ensures at c.packed.ensures)
    (find_none _ _ (λ e. omega (arith, e), (λ e. omega (arith, e), (λ e. omega (arith, e), (λ e. omega (arith, e), tt)))))) (omega arith)) (c.literal_row.ensures.says _ _ (c.in_ok-literal_at-in_default.ensures rule.statement l d k refl))
