-- `order`: `asc` or `desc`.
use mathlib.Core.Path.{refl}
use Rattle.rules.specs.Lines.{bytes}
use Rattle.rules.specs.ReadStatement.{directions}
use Rattle.rules.specs.Reader.{word}
use Rattle.text.specs.Lines.{field}
use Rattle.entries.specs.Tables.{named-same}
use Rattle.entries.specs.HeadRecords.{order-no, order-word, order-yes}
use Rattle.entries.proofs.order.Goals as goal

pub returns-then-f-ne2 : goal.returns-then-f-ne2
returns-then-f-ne2 c = λ p l. order-no _ _ _ l _ c.if-f-ne2.true refl

pub returns-in_err-descends : goal.returns-in_err-descends
unfolding directions word field bytes
returns-in_err-descends c = λ p l. order-word _ _ _ l _ c.if-f-ne2.false c.beside.result (rw (c.beside.ensures, c.field.ensures) (named-same _ _ _ refl)) c.in_err-descends.was c.from_residual.ensures

pub returns : goal.returns
unfolding directions word field bytes
returns c = λ p l. order-yes _ _ _ l _ c.if-f-ne2.false c.beside.result (rw (c.beside.ensures, c.field.ensures) (named-same _ _ _ refl)) _ c.in_ok-descends.was refl
