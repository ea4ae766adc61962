-- `read_texts`: the texts' lengths, the catalog, the statement, each with its refusals; what was read goes through `taken`.
use Rattle.std.proofs.Common.{arith, rules}
use Rattle.numbers.specs.declared.refusals.Refusal as code
use Rattle.numbers.specs.declared.refusals.Text.TheVariants as T
use Rattle.numbers.specs.declared.refusals.TextRefusal.{TextRefusal}
use Rattle.numbers.proofs.Mapped.{kept}
use Rattle.reader.specs.Cases.{catalog-long, statement-long, catalog-refused, statement-refused, texts-read}
use Rattle.reader.proofs.Mapped.{failed_by}
use Rattle.reader.proofs.read_texts.Goals as goal

pub returns-then-texts : goal.returns-then-texts
returns-then-texts c = rw (c.refuses.ensures, c.at.ensures) (catalog-long c.if-texts.true)

pub returns-then-texts-2 : goal.returns-then-texts-2
returns-then-texts-2 c = rw (c.refuses-then-texts-2.ensures, c.at-then-texts-2.ensures) (statement-long c.if-texts.false c.if-texts-2.true)

pub returns-in_err-map_err : goal.returns-in_err-map_err
returns-in_err-map_err c =
    let g : code.Refusal → TextRefusal = λ e. record { reason = e.reason; text = T.Catalog; line = e.line } in
    let p = failed_by c.read_catalog.result c.map_err.result g c.from_residual.result c.map_err.ensures.cases c.from_residual.ensures.1 c.in_err-map_err.was (λ e d q. search rules) in
    rw p.2 (catalog-refused (record { short = c.if-texts.false; short_statement = omega arith; is = c.read_catalog.ensures _ }) p.1)

pub returns-in_err-count : goal.returns-in_err-count
returns-in_err-count c =
    let g : code.Refusal → TextRefusal = λ e. record { reason = e.reason; text = T.Statement; line = e.line } in
    let p = failed_by c.read_statement-read.result c.map_err-2.result g c.from_residual-in_err-count.result c.map_err-2.ensures.cases c.from_residual-in_err-count.ensures.1 c.in_err-count.was (λ e d q. search rules) in
    rw p.2 (statement-refused (record { short = c.if-texts.false; short_statement = omega arith; is = c.read_catalog.ensures _ }) (kept c.read_catalog.result c.map_err.result _ c.map_err.ensures.cases c.in_ok-map_err.was) (record { is = c.read_statement-read.ensures.0 _; size = c.read_statement-read.ensures.1 _; stays = c.read_statement-read.ensures.2 }) p.1)

pub returns : goal.returns
returns c = rw (c.taken.ensures, c.line.ensures) (texts-read (record { short = c.if-texts.false; short_statement = omega arith; is = c.read_catalog.ensures _ }) (kept c.read_catalog.result c.map_err.result _ c.map_err.ensures.cases c.in_ok-map_err.was)
    (record { is = c.read_statement-read.ensures.0 _; size = c.read_statement-read.ensures.1 _; stays = c.read_statement-read.ensures.2 }) (kept c.read_statement-read.result c.map_err-2.result _ c.map_err-2.ensures.cases c.in_ok-count.was) c.kind_of.ensures)
