-- The keywords of the sections, each a short word.
use Rattle.std.specs.Prelude.{◌≡◌, refl, true}
use Rattle.rules.specs.Lines.{bytes}
use Rattle.text.specs.Packed.{is_word, are_bytes, number}
use Rattle.entries.specs.Entries.{keyword_of}
use Rattle.entries.specs.Sections.{number_of}
use Rattle.entries.specs.declared.Section.{Section}
use Rattle.entries.specs.declared.Section.TheVariants as S

pub section-word : (s : Section) → is_word (keyword_of (number_of s)) ≡ true
unfolding keyword_of bytes is_word are_bytes number
section-word S.Item = refl
section-word S.Where = refl
section-word S.Group = refl
section-word S.Having = refl
section-word S.Order = refl
section-word S.Offset = refl
section-word S.Limit = refl
section-word S.Columns = refl
section-word S.Name = refl
section-word S.Row = refl
section-word S.Set = refl
section-word S.Column = refl
