-- DELETE, INSERT, UPDATE, CREATE and DROP, and how texts are read: plans, and refusals with their lines.
use Prim.Native.String.{String, ◌++◌}
use Rattle.std.specs.Prelude.{Bool, ◌&&◌, List, [], ◌∷◌}
use Rattle.rules.specs.Questions.Form.{every, Question, holds}
use Rattle.rules.specs.Questions.Texts.{ab, ab_default}

-- DELETE, INSERT AND UPDATE
change_questions : List Question
change_questions =
    -- DELETE, and 5 for no such table
    (
      ab,
      "delete t/where/op ge/col a/int 3/end/",
      "plan delete 1 5/cell 0 col 0/cell 1 int 3/cell 2 gt 0 1/cell 3 eq 0 1/cell 4 or 2 3/"
          ++ "node 0 scan t 4/delete t 0 0/",
    )
    ∷ (
      ab,
      "delete u/end/",
      "refused 5 statement 1/",
    )
    -- INSERT: the map behind `columns`, each entry a column's position and a value's
    ∷ (
      ab,
      "insert t/columns/name b/name a/row 2/int 1/op neg/int 2/row 0/end/",
      "plan insert 1 3/cell 0 int 1/cell 1 int 2/cell 2 neg 1/"
          ++ "node 0 values row 2 0 2 row 0/insert t 0/columns 2/map 1 0/map 0 1/",
    )
    -- 23 a column given twice, 22 an unknown one, 10 a column name in a row
    ∷ (
      ab,
      "insert t/columns/name b/name b/row 1/int 1/end/",
      "refused 23 statement 4/",
    )
    ∷ (
      ab,
      "insert t/columns/name c/row 1/int 1/end/",
      "refused 22 statement 3/",
    )
    ∷ (
      ab,
      "insert t/row 1/col a/end/",
      "refused 10 statement 3/",
    )
    -- UPDATE with two sets, one of them to the default; WHERE's cells come first
    ∷ (
      ab_default,
      "update t/set a/op add/col a/int 1/set b default/where/op lt/col a/int 9/end/",
      "plan update 1 7/cell 0 col 0/cell 1 int 9/cell 2 lt 0 1/cell 3 col 0/cell 4 int 1/cell 5 add 3 4/cell 6 int 7/"
          ++ "node 0 scan t 2/update t 0 0/set 0 5/set 1 6/",
    )
    -- 24 no default, 2 names that do not rise
    ∷ (
      ab_default,
      "update t/set a default/end/",
      "refused 24 statement 2/",
    )
    ∷ (
      ab_default,
      "update t/set b default/set a default/end/",
      "refused 2 statement 3/",
    )
    ∷ []

-- CREATE AND DROP
table_questions : List Question
table_questions =
    -- CREATE: the key is not nullable; unique or a reference has an index
    (
      "",
      "create v/column a int pk - - - -/column b float - - unique - default/op div/int -7/int 2/"
          ++ "column c text - notnull - - - t/end/",
      "plan create 0 0/create v 0/column a int notnull unique -/nodefault/column b float null unique index/int -3/"
          ++ "column c text notnull - index t/nodefault/",
    )
    -- 20 no key, 21 two
    ∷ (
      "",
      "create v/column a int - - - - -/end/",
      "refused 20 statement 1/",
    )
    ∷ (
      "",
      "create v/column a int pk - - - -/column b int pk - - - -/end/",
      "refused 21 statement 3/",
    )
    -- DROP
    ∷ (
      "",
      "drop v no/end/",
      "plan drop 0 0/drop v no/",
    )
    ∷ []

-- TEXTS
ten_negs : String
ten_negs = "op neg/op neg/op neg/op neg/op neg/op neg/op neg/op neg/op neg/op neg/"

text_questions : List Question
text_questions =
    -- 4 any other statement
    (
      "",
      "other/end/",
      "refused 4 statement 1/",
    )
    -- 2 where `end` should stand
    ∷ (
      ab,
      "select/item/col a/from t/",
      "refused 2 statement 5/",
    )
    -- depth 32 is taken, 33 is 3
    ∷ (
      ab,
      "select/item/" ++ ten_negs ++ ten_negs ++ ten_negs ++ "op neg/int 5/from t/end/",
      "plan select 2 32/cell 0 int 5/cell 1 neg 0/cell 2 neg 1/cell 3 neg 2/cell 4 neg 3/cell 5 neg 4/cell 6 neg 5/"
          ++ "cell 7 neg 6/cell 8 neg 7/cell 9 neg 8/cell 10 neg 9/cell 11 neg 10/cell 12 neg 11/cell 13 neg 12/"
          ++ "cell 14 neg 13/cell 15 neg 14/cell 16 neg 15/cell 17 neg 16/cell 18 neg 17/cell 19 neg 18/cell 20 neg 19/"
          ++ "cell 21 neg 20/cell 22 neg 21/cell 23 neg 22/cell 24 neg 23/cell 25 neg 24/cell 26 neg 25/cell 27 neg 26/"
          ++ "cell 28 neg 27/cell 29 neg 28/cell 30 neg 29/cell 31 neg 30/node 0 scan t/node 1 project 0 31/",
    )
    ∷ (
      ab,
      "select/item/" ++ ten_negs ++ ten_negs ++ ten_negs ++ "op neg/op neg/int 5/from t/end/",
      "refused 3 statement 35/",
    )
    -- lines without their LF
    ∷ (
      "table t 1/column a int null/nodefault/column b",
      "drop v yes/end/",
      "refused 2 catalog 4/",
    )
    ∷ (
      "table t 1/column a int null/nodefault/table b",
      "drop v yes/end/",
      "refused 2 catalog 1/",
    )
    ∷ (
      "",
      "drop v yes/end",
      "refused 2 statement 2/",
    )
    ∷ []

unfoldable pub statements_hold : Bool
unfolding every holds change_questions table_questions ten_negs text_questions
statements_hold = every holds change_questions && every holds table_questions && every holds text_questions
