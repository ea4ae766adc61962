-- `column_words`: word by word, what the rules make of them.
use Rattle.std.specs.Prelude.{◌≡◌, List}
use Rattle.std.proofs.Math.Option.{Option}
use mathlib.Core.Path.{refl, sym}
use Rattle.rules.specs.Lines.{bytes}
use Rattle.rules.specs.Lists.{Bytes, named, map_option}
use Rattle.rules.specs.Reader.{word}
use Rattle.rules.specs.ReadColumn.{flagged}
use Rattle.text.specs.Lines.{field}
use Rattle.text.specs.Reading.{field_of}
use Rattle.rules.specs.Area.{flag}
use Rattle.entries.specs.ColumnWords.{no-type, no-key, no-null, no-unique, no-index, no-default, all-words}
use Rattle.entries.proofs.column_words.Goals as goal

-- what the rules say of a field by its bytes
said : {A : Type 0} (r : List (Bytes × A)) {o : Option A} {x y : Bytes} → o ≡ named r x → x ≡ y → named r y ≡ o
said r e h = rw (← h) (sym e)

pub returns-in_err-datatype : goal.returns-in_err-datatype
unfolding flagged word field_of field bytes map_option
returns-in_err-datatype c w r n m = no-type c.args.t.now c.args.f w r _ (said _ c.in_err-datatype.ensures c.field.ensures) c.from_residual.ensures

pub returns-in_err-key : goal.returns-in_err-key
unfolding flagged word field_of field bytes map_option
returns-in_err-key c w r n m = no-key c.args.t.now c.args.f w r _ _ (said _ c.in_ok-datatype.ensures c.field.ensures) (said _ c.in_err-key.ensures c.field-2.ensures) c.from_residual-in_err-key.ensures

pub returns-in_err-nullable : goal.returns-in_err-nullable
unfolding flagged word field_of field bytes map_option
returns-in_err-nullable c w r n m = no-null c.args.t.now c.args.f w r _ _ (said _ c.in_ok-datatype.ensures c.field.ensures) _ (said _ c.in_ok-key.ensures c.field-2.ensures) (said _ c.in_err-nullable.ensures c.field-3.ensures) c.from_residual-in_err-nullable.ensures

pub returns-in_err-unique : goal.returns-in_err-unique
unfolding flagged word field_of field bytes map_option
returns-in_err-unique c w r n m = no-unique c.args.t.now c.args.f w r _ _ (said _ c.in_ok-datatype.ensures c.field.ensures) _ (said _ c.in_ok-key.ensures c.field-2.ensures) _ (said _ c.in_ok-nullable.ensures c.field-3.ensures) (said _ c.in_err-unique.ensures c.field-4.ensures) c.from_residual-in_err-unique.ensures

pub returns-in_err-index : goal.returns-in_err-index
unfolding flagged word field_of field bytes map_option
returns-in_err-index c w r n m = no-index c.args.t.now c.args.f w r _ _ (said _ c.in_ok-datatype.ensures c.field.ensures) _ (said _ c.in_ok-key.ensures c.field-2.ensures) _ (said _ c.in_ok-nullable.ensures c.field-3.ensures) _ (said _ c.in_ok-unique.ensures c.field-4.ensures) (said _ c.in_err-index.ensures c.field-5.ensures) c.from_residual-in_err-index.ensures

pub returns-in_err-default : goal.returns-in_err-default
unfolding flagged word field_of field bytes map_option
returns-in_err-default c w r n m = no-default c.args.t.now c.args.f w r _ _ (said _ c.in_ok-datatype.ensures c.field.ensures) _ (said _ c.in_ok-key.ensures c.field-2.ensures) _ (said _ c.in_ok-nullable.ensures c.field-3.ensures) _ (said _ c.in_ok-unique.ensures c.field-4.ensures) _ (said _ c.in_ok-index.ensures c.field-5.ensures) (said _ c.in_err-default.ensures c.field-6.ensures) c.from_residual-in_err-default.ensures

pub returns : goal.returns
unfolding flagged word field_of field bytes map_option flag
returns c w r n m = all-words c.args.t.now c.args.f w r _ _ (said _ c.in_ok-datatype.ensures c.field.ensures) _ (said _ c.in_ok-key.ensures c.field-2.ensures) _ (said _ c.in_ok-nullable.ensures c.field-3.ensures) _ (said _ c.in_ok-unique.ensures c.field-4.ensures) _ (said _ c.in_ok-index.ensures c.field-5.ensures) _ _ n m _ _ (said _ c.in_ok-default.ensures c.field-6.ensures) c.from.ensures refl
