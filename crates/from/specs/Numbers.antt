-- The number that stands in a row for its kind.
use Rattle.std.specs.Prelude.{ℕ}
use Rattle.from.specs.declared.row.Kind.{Kind}
use Rattle.from.specs.declared.row.Kind.TheVariants as K

abbrev pub number_of : Kind → ℕ
number_of K.Table = 1
number_of K.Cross = 2
number_of K.Inner = 3
number_of K.Left = 4
number_of K.Right = 5
