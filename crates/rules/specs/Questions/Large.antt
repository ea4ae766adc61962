-- One large SELECT: a join on each side of a right join, and every clause. Its listing, its count and its whole area.
use Rattle.std.specs.Prelude.{ℕ, Bool, ◌&&◌, List, [], ◌∷◌}
use Prim.Native.String.{String, ◌++◌}
use Rattle.rules.specs.Questions.Form.{count_holds, whole_holds}

-- turn has the columns heap, driver; driver id, name; heap id, site; probe heap, depth, temp
yard : String
yard =
    "table turn 0/column heap int notnull/nodefault/column driver int null/nodefault/"
    ++ "table driver 0/column id int notnull/nodefault/column name text null/nodefault/"
    ++ "table heap 0/column id int notnull/nodefault/column site int null/nodefault/"
    ++ "table probe 0/column heap int notnull/nodefault/column depth int null/nodefault/"
    ++ "column temp float null/nodefault/"

-- SELECT heap.site AS place, count(*), max(temp) AS most, 70 - max(temp), depth / 10
-- FROM (turn LEFT JOIN driver d ON driver = d.id)
--   RIGHT JOIN (heap LEFT JOIN probe ON heap.id = probe.alloc) ON turn.alloc = heap.id
-- WHERE temp >= 55 GROUP BY heap.site, depth HAVING count(*) != 1
-- ORDER BY most DESC, depth ASC OFFSET 2 + 3 LIMIT 10
question : String
question =
    "select/item place/col heap site/item/fn count 1/star/item most/fn max 1/col temp/"
    ++ "item/op sub/int 70/fn max 1/col temp/item/op div/col depth/int 10/"
    ++ "join right on/join left on/from turn/from driver d/op eq/col driver/col d id/"
    ++ "join left on/from heap/from probe/op eq/col heap id/col probe heap/op eq/col turn heap/col heap id/"
    ++ "where/op ge/col temp/int 55/group/col heap site/group/col depth/having/op ne/fn count 1/star/int 1/"
    ++ "order desc/col most/order asc/col depth/offset/op add/int 2/int 3/limit/int 10/end/"

printed : String
printed =
    "plan select 16 34/"
    -- join predicates, the right side's first: heap.id = probe.alloc over heap and probe
    ++ "cell 0 col 0/cell 1 col 2/cell 2 eq 0 1/"
    -- driver = d.id over turn and d
    ++ "cell 3 col 1/cell 4 col 2/cell 5 eq 3 4/"
    -- turn.alloc = heap.id over heap, probe, turn and d
    ++ "cell 6 col 5/cell 7 col 0/cell 8 eq 6 7/"
    -- WHERE temp >= 55 over turn, d, heap and probe
    ++ "cell 9 col 8/cell 10 int 55/cell 11 gt 9 10/cell 12 eq 9 10/cell 13 or 11 12/"
    -- the groups heap.site and depth
    ++ "cell 14 col 5/cell 15 col 7/"
    -- the arguments of count(*) and max(temp), the second max(temp) being the same
    ++ "cell 16 bool t/cell 17 col 8/"
    -- the items over the two groups and the two aggregates, all matched: heap.site, count(*), max(temp)
    ++ "cell 18 col 0/cell 19 col 2/cell 20 col 3/"
    -- 70 - max(temp), depth / 10
    ++ "cell 21 int 70/cell 22 col 3/cell 23 sub 21 22/cell 24 col 1/cell 25 int 10/cell 26 div 24 25/"
    -- the hidden column, depth, which ORDER calls for
    ++ "cell 27 col 1/"
    -- HAVING count(*) != 1 over the items and the hidden column
    ++ "cell 28 col 1/cell 29 int 1/cell 30 eq 28 29/cell 31 not 30/"
    -- ORDER BY most, depth; OFFSET and LIMIT add none
    ++ "cell 32 col 2/cell 33 col 5/"
    -- FROM: the right side, the left side, their join, and its columns swapped back
    ++ "node 0 scan heap/node 1 scan probe/node 2 join 0 1 outer 2/"
    ++ "node 3 scan turn/node 4 scan driver as d/node 5 join 3 4 outer 5/"
    ++ "node 6 join 2 5 outer 8/node 7 remap 6 4 5 6 7 8 0 1 2 3/"
    -- WHERE, groups and aggregates, items, HAVING
    ++ "node 8 filter 7 13/node 9 aggregate 8 14 15 count 16 max 17/"
    ++ "node 10 project 9 18 as place 19 20 as most 23 26 27/node 11 filter 10 31/"
    -- ORDER, OFFSET, LIMIT, and the hidden column dropped
    ++ "node 12 order 11 32 desc 33 asc/node 13 offset 12 5/node 14 limit 13 10/node 15 remap 14 0 1 2 3 4 -/"

-- the nodes start at 6 + 4 · 34 = 142 and have 123 numbers; a SELECT has none of its own
numbers : List ℕ
numbers =
    1 ∷ 1 ∷ 34 ∷ 16 ∷ 265 ∷ 265
    -- join predicates
    ∷ 6 ∷ 0 ∷ 0 ∷ 0
    ∷ 6 ∷ 2 ∷ 0 ∷ 0
    ∷ 18 ∷ 0 ∷ 1 ∷ 0
    ∷ 6 ∷ 1 ∷ 0 ∷ 0
    ∷ 6 ∷ 2 ∷ 0 ∷ 0
    ∷ 18 ∷ 3 ∷ 4 ∷ 0
    ∷ 6 ∷ 5 ∷ 0 ∷ 0
    ∷ 6 ∷ 0 ∷ 0 ∷ 0
    ∷ 18 ∷ 6 ∷ 7 ∷ 0
    -- WHERE
    ∷ 6 ∷ 8 ∷ 0 ∷ 0
    ∷ 3 ∷ 55 ∷ 0 ∷ 0
    ∷ 19 ∷ 9 ∷ 10 ∷ 0
    ∷ 18 ∷ 9 ∷ 10 ∷ 0
    ∷ 17 ∷ 11 ∷ 12 ∷ 0
    -- groups, then aggregate arguments
    ∷ 6 ∷ 5 ∷ 0 ∷ 0
    ∷ 6 ∷ 7 ∷ 0 ∷ 0
    ∷ 2 ∷ 1 ∷ 0 ∷ 0
    ∷ 6 ∷ 8 ∷ 0 ∷ 0
    -- items
    ∷ 6 ∷ 0 ∷ 0 ∷ 0
    ∷ 6 ∷ 2 ∷ 0 ∷ 0
    ∷ 6 ∷ 3 ∷ 0 ∷ 0
    ∷ 3 ∷ 70 ∷ 0 ∷ 0
    ∷ 6 ∷ 3 ∷ 0 ∷ 0
    ∷ 26 ∷ 21 ∷ 22 ∷ 0
    ∷ 6 ∷ 1 ∷ 0 ∷ 0
    ∷ 3 ∷ 10 ∷ 0 ∷ 0
    ∷ 22 ∷ 24 ∷ 25 ∷ 0
    -- the hidden column
    ∷ 6 ∷ 1 ∷ 0 ∷ 0
    -- HAVING
    ∷ 6 ∷ 1 ∷ 0 ∷ 0
    ∷ 3 ∷ 1 ∷ 0 ∷ 0
    ∷ 18 ∷ 28 ∷ 29 ∷ 0
    ∷ 8 ∷ 30 ∷ 0 ∷ 0
    -- ORDER
    ∷ 6 ∷ 2 ∷ 0 ∷ 0
    ∷ 6 ∷ 5 ∷ 0 ∷ 0
    -- scans of heap and probe, and their join
    ∷ 1 ∷ 5 ∷ 65778 ∷ 4 ∷ 0 ∷ 0 ∷ 0
    ∷ 1 ∷ 5 ∷ 65788 ∷ 5 ∷ 0 ∷ 0 ∷ 0
    ∷ 3 ∷ 4 ∷ 0 ∷ 1 ∷ 1 ∷ 3
    -- scans of turn and of driver as d, and their join
    ∷ 1 ∷ 5 ∷ 65715 ∷ 4 ∷ 0 ∷ 0 ∷ 0
    ∷ 1 ∷ 5 ∷ 65725 ∷ 6 ∷ 0 ∷ 65732 ∷ 1
    ∷ 3 ∷ 4 ∷ 3 ∷ 4 ∷ 1 ∷ 6
    -- the join of both, and the columns swapped back
    ∷ 3 ∷ 4 ∷ 2 ∷ 5 ∷ 1 ∷ 9
    ∷ 10 ∷ 10 ∷ 6 ∷ 5 ∷ 6 ∷ 7 ∷ 8 ∷ 9 ∷ 1 ∷ 2 ∷ 3 ∷ 4
    -- WHERE, and the aggregate
    ∷ 4 ∷ 2 ∷ 7 ∷ 13
    ∷ 5 ∷ 8 ∷ 8 ∷ 2 ∷ 14 ∷ 15 ∷ 2 ∷ 16 ∷ 3 ∷ 17
    -- the projection: five items, two of them with an alias, and the hidden column
    ∷ 6 ∷ 19 ∷ 9 ∷ 18 ∷ 65548 ∷ 5 ∷ 19 ∷ 0 ∷ 0 ∷ 20 ∷ 65594 ∷ 4 ∷ 23 ∷ 0 ∷ 0 ∷ 26 ∷ 0 ∷ 0 ∷ 27 ∷ 0 ∷ 0
    -- HAVING, ORDER, OFFSET, LIMIT
    ∷ 4 ∷ 2 ∷ 10 ∷ 31
    ∷ 7 ∷ 5 ∷ 11 ∷ 32 ∷ 1 ∷ 33 ∷ 0
    ∷ 8 ∷ 3 ∷ 12 ∷ 5 ∷ 0
    ∷ 9 ∷ 3 ∷ 13 ∷ 10 ∷ 0
    -- the hidden column dropped
    ∷ 10 ∷ 7 ∷ 14 ∷ 1 ∷ 2 ∷ 3 ∷ 4 ∷ 5 ∷ 0
    ∷ []

-- 36 expression records and no star that is expanded: at most 144 cells
unfoldable pub large_holds : Bool
unfolding count_holds whole_holds yard question printed numbers
large_holds =
    whole_holds (yard, question, printed, 0 ∷ 0 ∷ 0 ∷ 34 ∷ [], numbers) && count_holds (yard, question, 34, 144)
