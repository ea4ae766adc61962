-- The code's texts are the rules'.
use Rattle.std.specs.Prelude.{◌≡◌, refl}
use Rattle.rules.specs.Refusals as rules
use Rattle.numbers.specs.declared.refusals.Text.{Text}
use Rattle.numbers.specs.declared.refusals.Text.TheVariants as T

unfoldable pub text_of : Text → rules.Text
text_of T.Catalog = rules.catalog
text_of T.Statement = rules.statement

-- and back
unfoldable pub text_named : rules.Text → Text
text_named rules.catalog = T.Catalog
text_named rules.statement = T.Statement

pub text-named : (t : rules.Text) → text_of (text_named t) ≡ t
unfolding text_of text_named
text-named rules.catalog = refl
text-named rules.statement = refl
