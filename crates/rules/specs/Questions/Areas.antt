-- The entry's whole answer: the refusal's number, text and line, the count, and the area at exit (docs/PLAN.md).
use Prim.Native.String.{◌++◌}
use Rattle.std.specs.Prelude.{Bool, ◌&&◌, List, [], ◌∷◌}
use Rattle.rules.specs.Listing.{outcome}
use Rattle.rules.specs.Questions.Form.{every, text, answered, AreaQuestion, area_holds, WholeQuestion, whole_holds}
use Rattle.rules.specs.Questions.Texts.{heap, ab, tu, keyed, listed}

statement_questions : List WholeQuestion
statement_questions =
    -- INSERT with a map: column 2 takes value 0, column 0 value 1
    (
      tu,
      "insert u/columns/name e/name c/row 2/int -1/text ab/row 1/op neg/float 3ff0000000000000/end/",
      "plan insert 1 4/cell 0 int -1/cell 1 text ab/cell 2 float 3ff0000000000000/cell 3 neg 2/"
          ++ "node 0 values row 2 0 1 row 1 3/insert u 0/columns 2/map 2 0/map 0 1/",
      0 ∷ 0 ∷ 0 ∷ 4 ∷ [],
      1 ∷ 5 ∷ 4 ∷ 1 ∷ 29 ∷ 36
          ∷ 3 ∷ 4294967295 ∷ 4294967295 ∷ 0
          ∷ 5 ∷ 65585 ∷ 2 ∷ 0
          ∷ 4 ∷ 0 ∷ 1072693248 ∷ 0
          ∷ 11 ∷ 2 ∷ 0 ∷ 0
          ∷ 2 ∷ 5 ∷ 2 ∷ 0 ∷ 1 ∷ 1 ∷ 3
          -- the table's name, one more than the map's length, the map
          ∷ 65543 ∷ 1 ∷ 3 ∷ 2 ∷ 0 ∷ 0 ∷ 1
          ∷ [],
    )
    -- `columns` with no name is a map of no columns; it differs from no map
    ∷ (
      ab,
      "insert t/columns/row 1/int 1/end/",
      "plan insert 1 1/cell 0 int 1/node 0 values row 1 0/insert t 0/columns 0/",
      0 ∷ 0 ∷ 0 ∷ 1 ∷ [],
      1 ∷ 5 ∷ 1 ∷ 1 ∷ 14 ∷ 17 ∷ 3 ∷ 1 ∷ 0 ∷ 0 ∷ 2 ∷ 2 ∷ 1 ∷ 0 ∷ 65543 ∷ 1 ∷ 1 ∷ [],
    )
    ∷ (
      ab,
      "insert t/row 1/int 1/end/",
      "plan insert 1 1/cell 0 int 1/node 0 values row 1 0/insert t 0/",
      0 ∷ 0 ∷ 0 ∷ 1 ∷ [],
      1 ∷ 5 ∷ 1 ∷ 1 ∷ 14 ∷ 17 ∷ 3 ∷ 1 ∷ 0 ∷ 0 ∷ 2 ∷ 2 ∷ 1 ∷ 0 ∷ 65543 ∷ 1 ∷ 0 ∷ [],
    )
    -- UPDATE
    ∷ (
      keyed,
      "update t/set a default/set b/op add/col b/int 1/where/op is/col a/null/end/",
      "plan update 1 6/cell 0 col 0/cell 1 is 0 null/cell 2 int 7/cell 3 col 1/cell 4 int 1/cell 5 add 3 4/"
          ++ "node 0 scan t 1/update t 1 0/set 0 2/set 1 5/",
      0 ∷ 0 ∷ 0 ∷ 6 ∷ [],
      1 ∷ 6 ∷ 6 ∷ 1 ∷ 37 ∷ 45
          ∷ 6 ∷ 0 ∷ 0 ∷ 0
          ∷ 14 ∷ 0 ∷ 0 ∷ 0
          ∷ 3 ∷ 7 ∷ 0 ∷ 0
          ∷ 6 ∷ 1 ∷ 0 ∷ 0
          ∷ 3 ∷ 1 ∷ 0 ∷ 0
          ∷ 21 ∷ 3 ∷ 4 ∷ 0
          ∷ 1 ∷ 5 ∷ 65543 ∷ 1 ∷ 2 ∷ 0 ∷ 0
          -- the table's name, the key's position, two sets: a to cell 2, b to cell 5
          ∷ 65543 ∷ 1 ∷ 1 ∷ 2 ∷ 0 ∷ 2 ∷ 1 ∷ 5
          ∷ [],
    )
    -- DELETE
    ∷ (
      keyed,
      "delete t/where/op is/col b/float 7ff8000000000001/end/",
      "plan delete 1 2/cell 0 col 1/cell 1 is 0 float 7ff8000000000001/node 0 scan t 1/delete t 1 0/",
      0 ∷ 0 ∷ 0 ∷ 2 ∷ [],
      1 ∷ 4 ∷ 2 ∷ 1 ∷ 21 ∷ 24
          ∷ 6 ∷ 1 ∷ 0 ∷ 0
          ∷ 15 ∷ 0 ∷ 1 ∷ 2146959360
          ∷ 1 ∷ 5 ∷ 65543 ∷ 1 ∷ 2 ∷ 0 ∷ 0
          -- the table's name, the key's position
          ∷ 65543 ∷ 1 ∷ 1
          ∷ [],
    )
    -- CREATE
    ∷ (
      "",
      "create v/column s text - - - - default/text ab/column k int pk - - - -/"
          ++ "column b bool - notnull unique - default/op not/bool t/column r float - - - - - heap/end/",
      "plan create 0 0/create v 1/column s text null - -/text ab/column k int notnull unique -/nodefault/"
          ++ "column b bool notnull unique index/bool f/column r float null - index heap/null/",
      0 ∷ 0 ∷ 0 ∷ 0 ∷ [],
      1 ∷ 2 ∷ 0 ∷ 0 ∷ 6 ∷ 58
          -- the name, the key's position, four columns
          ∷ 65543 ∷ 1 ∷ 1 ∷ 4
          -- s: a text, nullable, default 'ab'
          ∷ 65552 ∷ 1 ∷ 4 ∷ 1 ∷ 0 ∷ 0 ∷ 0 ∷ 0 ∷ 5 ∷ 65580 ∷ 2 ∷ 0
          -- k: an int, unique, no default
          ∷ 65590 ∷ 1 ∷ 2 ∷ 0 ∷ 1 ∷ 0 ∷ 0 ∷ 0 ∷ 0 ∷ 0 ∷ 0 ∷ 0
          -- b: a bool, unique, indexed, default NOT true
          ∷ 65614 ∷ 1 ∷ 1 ∷ 0 ∷ 1 ∷ 1 ∷ 0 ∷ 0 ∷ 2 ∷ 0 ∷ 0 ∷ 0
          -- r: a float, nullable, indexed, a reference to heap, default null
          ∷ 65669 ∷ 1 ∷ 3 ∷ 1 ∷ 0 ∷ 1 ∷ 65687 ∷ 4 ∷ 1 ∷ 0 ∷ 0 ∷ 0
          ∷ [],
    )
    -- DROP: the name, IF EXISTS
    ∷ (
      "",
      "drop heap yes/end/",
      "plan drop 0 0/drop heap yes/",
      0 ∷ 0 ∷ 0 ∷ 0 ∷ [],
      1 ∷ 3 ∷ 0 ∷ 0 ∷ 6 ∷ 9 ∷ 65541 ∷ 4 ∷ 1 ∷ [],
    )
    ∷ []

area_questions : List AreaQuestion
area_questions =
    -- P1
    (
      heap,
      listed,
      0 ∷ 0 ∷ 0 ∷ 8 ∷ [],
      1 ∷ 1 ∷ 8 ∷ 5 ∷ 68 ∷ 68
          ∷ 6 ∷ 2 ∷ 0 ∷ 0
          ∷ 3 ∷ 55 ∷ 0 ∷ 0
          ∷ 19 ∷ 0 ∷ 1 ∷ 0
          ∷ 18 ∷ 0 ∷ 1 ∷ 0
          ∷ 17 ∷ 2 ∷ 3 ∷ 0
          ∷ 6 ∷ 1 ∷ 0 ∷ 0
          ∷ 6 ∷ 0 ∷ 0 ∷ 0
          ∷ 6 ∷ 1 ∷ 0 ∷ 0
          -- scan, filter, project, order, remap
          ∷ 1 ∷ 5 ∷ 65560 ∷ 4 ∷ 0 ∷ 0 ∷ 0
          ∷ 4 ∷ 2 ∷ 0 ∷ 4
          ∷ 6 ∷ 7 ∷ 1 ∷ 5 ∷ 0 ∷ 0 ∷ 6 ∷ 0 ∷ 0
          ∷ 7 ∷ 3 ∷ 2 ∷ 7 ∷ 0
          ∷ 10 ∷ 3 ∷ 3 ∷ 1 ∷ 0
          ∷ [],
    )
    -- all zero after a refusal: 4 at line 1 of the statement, 2 at line 4 of the catalog
    ∷ (heap, "other/end/", 4 ∷ 2 ∷ 1 ∷ 0 ∷ [], [])
    ∷ ("table t 1/column a int null/nodefault/column b/", "drop v yes/end/", 2 ∷ 1 ∷ 4 ∷ 0 ∷ [], [])
    ∷ []

-- 1 where the area is too short: it is as it was
short_area : Bool
short_area = answered
    (outcome (text heap) (text listed) (1 ∷ 2 ∷ 3 ∷ []))
    (1 ∷ 2 ∷ 0 ∷ 0 ∷ [])
    (1 ∷ 2 ∷ 3 ∷ [])

unfoldable pub areas_hold : Bool
unfolding every area_holds whole_holds statement_questions area_questions short_area
areas_hold = every whole_holds statement_questions && every area_holds area_questions && short_area
