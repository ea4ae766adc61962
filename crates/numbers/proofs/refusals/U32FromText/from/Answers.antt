-- `From<Text> for u32`: a text's place in the order, from 1, is document 01's number.
use Rattle.std.specs.Prelude.{◌≡◌, ◌+◌, refl}
use denote.Enum.Declared.{tag_of}
use Rattle.rules.specs.Entry.{text_number}
use Rattle.numbers.specs.Texts.{text_of}
use Rattle.numbers.specs.contracts.refusals.Text.{the_type}
use Rattle.numbers.specs.declared.refusals.Text.{Text}
use Rattle.numbers.specs.declared.refusals.Text.TheVariants as T
use Rattle.numbers.proofs.refusals.U32FromText.from.Goals as goal

number-is : (t : Text) → tag_of the_type t + 1 ≡ text_number (text_of t)
unfolding text_of text_number
number-is T.Catalog = refl
number-is T.Statement = refl

pub returns : goal.returns
returns c = number-is c.args.text
