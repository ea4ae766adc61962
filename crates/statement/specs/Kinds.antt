-- The kinds of statements by the numbers that stand in the parts.
use Rattle.std.specs.Prelude.{ℕ}
use Rattle.statement.specs.declared.access.Kind.{Kind}
use Rattle.statement.specs.declared.access.Kind.TheVariants as K

abbrev pub number_of : Kind → ℕ
number_of K.Select = 1
number_of K.Create = 2
number_of K.Drop = 3
number_of K.Delete = 4
number_of K.Insert = 5
number_of K.Update = 6
number_of K.Other = 7
