-- Constants worked out, as CREATE's defaults: values, then refusals at the operator or function.
use Prim.Native.String.{◌++◌}
use Rattle.std.specs.Prelude.{Bool, List, [], ◌∷◌}
use Rattle.rules.specs.Questions.Form.{every, Question, holds}

constant_questions : List Question
constant_questions =
    -- arithmetic
    (
      "",
      "create v/column k int pk - - - -/"
          ++ "column c0 int - - - - default/op add/float 3fb999999999999a/float 3fc999999999999a/"
          ++ "column c1 int - - - - default/op rem/float 4014000000000000/float 4008000000000000/"
          ++ "column c2 int - - - - default/op rem/float c010000000000000/float 4000000000000000/"
          ++ "column c3 int - - - - default/op div/float 3ff0000000000000/float 8000000000000000/"
          ++ "column c4 int - - - - default/float fff8000000000001/"
          ++ "column c5 int - - - - default/op ident/float fff8000000000001/"
          ++ "column c6 int - - - - default/op add/int 9007199254740993/float 0000000000000000/"
          ++ "column c7 int - - - - default/op pow/int -2/int 63/column c8 int - - - - default/op mul/int 3/null/end/",
      "plan create 0 0/create v 0/column k int notnull unique -/nodefault/"
          ++ "column c0 int null - -/float 3fd3333333333334/column c1 int null - -/float 4000000000000000/"
          ++ "column c2 int null - -/float 8000000000000000/column c3 int null - -/float fff0000000000000/"
          ++ "column c4 int null - -/float fff8000000000001/column c5 int null - -/float 7ff8000000000000/"
          ++ "column c6 int null - -/float 4340000000000000/column c7 int null - -/int -9223372036854775808/"
          ++ "column c8 int null - -/null/",
    )
    -- truth values and comparisons
    ∷ (
      "",
      "create v/column k int pk - - - -/column c0 int - - - - default/op and/null/bool f/"
          ++ "column c1 int - - - - default/op or/bool t/null/column c2 int - - - - default/op and/null/bool t/"
          ++ "column c3 int - - - - default/op not/null/"
          ++ "column c4 int - - - - default/op eq/float fff8000000000001/float fff8000000000001/"
          ++ "column c5 int - - - - default/op ne/float fff8000000000001/float fff8000000000001/"
          ++ "column c6 int - - - - default/op ge/int 1/float 3ff0000000000000/"
          ++ "column c7 int - - - - default/op lt/text a/text ab/column c8 int - - - - default/op gt/bool t/bool f/"
          ++ "column c9 int - - - - default/op eq/null/text a/column c10 int - - - - default/op is/null/null/"
          ++ "column c11 int - - - - default/op is/op ident/float fff8000000000001/float 7ff8000000000000/end/",
      "plan create 0 0/create v 0/column k int notnull unique -/nodefault/column c0 int null - -/bool f/"
          ++ "column c1 int null - -/bool t/column c2 int null - -/null/column c3 int null - -/null/"
          ++ "column c4 int null - -/bool f/column c5 int null - -/bool t/column c6 int null - -/bool t/"
          ++ "column c7 int null - -/bool t/column c8 int null - -/bool t/column c9 int null - -/null/"
          ++ "column c10 int null - -/bool t/column c11 int null - -/bool t/",
    )
    -- refusals
    ∷ (
      "",
      "create v/column k int pk - - - default/op rem/int -9223372036854775808/int -1/end/",
      "refused 25 statement 3/",
    )
    ∷ (
      "",
      "create v/column k int pk - - - default/op neg/int -9223372036854775808/end/",
      "refused 25 statement 3/",
    )
    ∷ (
      "",
      "create v/column k int pk - - - default/op rem/int 1/int 0/end/",
      "refused 26 statement 3/",
    )
    ∷ (
      "",
      "create v/column k int pk - - - default/op pow/int 2/int 4294967296/end/",
      "refused 25 statement 3/",
    )
    ∷ (
      "",
      "create v/column k int pk - - - default/op pow/int 1/int -1/end/",
      "refused 28 statement 3/",
    )
    ∷ (
      "",
      "create v/column k int pk - - - default/op pow/float 4000000000000000/int 2/end/",
      "refused 28 statement 3/",
    )
    ∷ (
      "",
      "create v/column k int pk - - - default/fn sqrt 1/int 4/end/",
      "refused 28 statement 3/",
    )
    ∷ (
      "",
      "create v/column k int pk - - - default/fn sqrt 1/int -4/end/",
      "refused 27 statement 3/",
    )
    ∷ (
      "",
      "create v/column k int pk - - - default/op like/text a/text b/end/",
      "refused 28 statement 3/",
    )
    ∷ (
      "",
      "create v/column k int pk - - - default/op add/null/text a/end/",
      "refused 27 statement 3/",
    )
    ∷ (
      "",
      "create v/column k int pk - - - default/op and/bool f/int 1/end/",
      "refused 27 statement 3/",
    )
    ∷ []

unfoldable pub constants_hold : Bool
unfolding every holds constant_questions
constants_hold = every holds constant_questions
