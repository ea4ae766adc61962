-- Document 01's heap questions P1 to P12, and one check of these and the others: texts in, expected values out,
-- computed by the checker.
pub mod Form
pub mod Texts
pub mod Selects
pub mod Large
pub mod Statements
pub mod Constants
pub mod Areas
use Prim.Native.String.{◌++◌}
use Rattle.std.specs.Prelude.{◌≡◌, refl, true, ◌&&◌, List, [], ◌∷◌}
use Rattle.rules.specs.Questions.Form.{every, Question, holds}
use Rattle.rules.specs.Questions.Texts.{heap, ab, tu, listed}
use Rattle.rules.specs.Questions.Selects.{selects_hold}
use Rattle.rules.specs.Questions.Large.{large_holds}
use Rattle.rules.specs.Questions.Statements.{statements_hold}
use Rattle.rules.specs.Questions.Constants.{constants_hold}
use Rattle.rules.specs.Questions.Areas.{areas_hold}

questions : List Question
questions =
    -- P1: the listing of document 01
    (
      heap,
      listed,
      "plan select 5 8/cell 0 col 2/cell 1 int 55/cell 2 gt 0 1/cell 3 eq 0 1/cell 4 or 2 3/cell 5 col 1/"
          ++ "cell 6 col 0/cell 7 col 1/"
          ++ "node 0 scan heap/node 1 filter 0 4/node 2 project 1 5 6/node 3 order 2 7 asc/node 4 remap 3 0 -/",
    )
    -- P2: `a >= b`: 5 cells
    ∷ (
      ab,
      "select/item/op ge/col a/col b/from t/end/",
      "plan select 2 5/cell 0 col 0/cell 1 col 1/cell 2 gt 0 1/cell 3 eq 0 1/cell 4 or 2 3/"
          ++ "node 0 scan t/node 1 project 0 4/",
    )
    -- P3a: OFFSET 0 is taken
    ∷ (
      ab,
      "select/item/col a/from t/offset/int 0/end/",
      "plan select 3 1/cell 0 col 0/node 0 scan t/node 1 project 0 0/node 2 offset 1 0/",
    )
    -- P3b: OFFSET -1 is 18
    ∷ (
      ab,
      "select/item/col a/from t/offset/int -1/end/",
      "refused 18 statement 5/",
    )
    -- P4a: 20! is 2432902008176640000
    ∷ (
      ab,
      "select/item/col a/from t/limit/op fact/int 20/end/",
      "plan select 3 1/cell 0 col 0/node 0 scan t/node 1 project 0 0/node 2 limit 1 2432902008176640000/",
    )
    -- P4b: 21! is 25
    ∷ (
      ab,
      "select/item/col a/from t/limit/op fact/int 21/end/",
      "refused 25 statement 6/",
    )
    -- P5: -7/2 is -3, -7%2 is -1
    ∷ (
      "",
      "create v/column k int pk - - - default/op div/int -7/int 2/"
          ++ "column r int - - - - default/op rem/int -7/int 2/end/",
      "plan create 0 0/create v 0/column k int notnull unique -/int -3/column r int null - -/int -1/",
    )
    -- P6: a right join of 2 columns with 3: targets 2 3 4 0 1
    ∷ (
      tu,
      "select/item/star/join right on/from t/from u/op eq/col a/col c/end/",
      "plan select 4 3/cell 0 col 3/cell 1 col 0/cell 2 eq 0 1/"
          ++ "node 0 scan u/node 1 scan t/node 2 join 0 1 outer 2/node 3 remap 2 2 3 4 0 1/",
    )
    -- P7: `WHERE sum(a) > 1` is 13
    ∷ (
      ab,
      "select/item/col a/from t/where/op gt/fn sum 1/col a/int 1/end/",
      "refused 13 statement 7/",
    )
    -- P8: HAVING alone is 17
    ∷ (
      ab,
      "select/item/col a/from t/having/op gt/col a/int 1/end/",
      "refused 17 statement 5/",
    )
    -- P9a: `SELECT a, a .. ORDER BY a` is 9
    ∷ (
      ab,
      "select/item/col a/item/col a/from t/order asc/col a/end/",
      "refused 9 statement 8/",
    )
    -- P9b: by `t.a` it sorts by position 1
    ∷ (
      ab,
      "select/item/col a/item/col a/from t/order asc/col t a/end/",
      "plan select 3 3/cell 0 col 0/cell 1 col 0/cell 2 col 1/"
          ++ "node 0 scan t/node 1 project 0 0 1/node 2 order 1 2 asc/",
    )
    -- P10: `SELECT * .. HAVING count(*) > 1` has one output
    ∷ (
      ab,
      "select/item/star/from t/having/op gt/fn count 1/star/int 1/end/",
      "plan select 3 4/cell 0 bool t/cell 1 col 0/cell 2 int 1/cell 3 gt 1 2/"
          ++ "node 0 scan t/node 1 aggregate 0 count 0/node 2 filter 1 3/",
    )
    -- P11: columns p1, p1 and `SELECT *, 1`: columns 1 and 1, then the constant 1
    ∷ (
      "table heap 0/column p1 float null/nodefault/column p1 float null/nodefault/",
      "select/item/star/item/int 1/from heap/end/",
      "plan select 2 3/cell 0 col 1/cell 1 col 1/cell 2 int 1/node 0 scan heap/node 1 project 0 0 1 2/",
    )
    -- P12a: `SELECT a AS b, b AS a .. ORDER BY a` sorts by 1
    ∷ (
      ab,
      "select/item b/col a/item a/col b/from t/order asc/col a/end/",
      "plan select 3 3/cell 0 col 0/cell 1 col 1/cell 2 col 1/"
          ++ "node 0 scan t/node 1 project 0 0 as b 1 as a/node 2 order 1 2 asc/",
    )
    -- P12b: with GROUP BY a, b by 0
    ∷ (
      ab,
      "select/item b/col a/item a/col b/from t/group/col a/group/col b/order asc/col a/end/",
      "plan select 4 5/cell 0 col 0/cell 1 col 1/cell 2 col 0/cell 3 col 1/cell 4 col 0/"
          ++ "node 0 scan t/node 1 aggregate 0 0 1/node 2 project 1 2 as b 3 as a/node 3 order 2 4 asc/",
    )
    ∷ []

-- one check of all
all_hold :
    every holds questions && selects_hold && large_holds && statements_hold && constants_hold && areas_hold ≡ true
unfolding every holds questions selects_hold large_holds statements_hold constants_hold areas_hold
all_hold = refl
