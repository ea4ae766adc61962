-- The sections by their numbers, in the order of their keywords.
use Rattle.std.specs.Prelude.{ℕ, ◌≤◌}
use Rattle.std.proofs.Common.{arith}
use Rattle.entries.specs.declared.Section.{Section}
use Rattle.entries.specs.declared.Section.TheVariants as S

abbrev pub number_of : Section → ℕ
number_of S.Item = 0
number_of S.Where = 1
number_of S.Group = 2
number_of S.Having = 3
number_of S.Order = 4
number_of S.Offset = 5
number_of S.Limit = 6
number_of S.Columns = 7
number_of S.Name = 8
number_of S.Row = 9
number_of S.Set = 10
number_of S.Column = 11

pub number-most : (s : Section) → number_of s ≤ 11
number-most S.Item = omega arith
number-most S.Where = omega arith
number-most S.Group = omega arith
number-most S.Having = omega arith
number-most S.Order = omega arith
number-most S.Offset = omega arith
number-most S.Limit = omega arith
number-most S.Columns = omega arith
number-most S.Name = omega arith
number-most S.Row = omega arith
number-most S.Set = omega arith
number-most S.Column = omega arith
