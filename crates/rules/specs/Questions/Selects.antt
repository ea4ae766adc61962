-- SELECT clause by clause: plans, refusals with their lines, and counts.
use Prim.Native.String.{◌++◌}
use Rattle.std.specs.Prelude.{Bool, ◌&&◌, List, [], ◌∷◌}
use Rattle.rules.specs.Questions.Form.{every, Question, holds, CountQuestion, count_holds}
use Rattle.rules.specs.Questions.Texts.{heap, ab, tu, listed}

-- FROM
join_questions : List Question
join_questions =
    -- with no FROM there is one row of no columns
    (
      "",
      "select/item/int 1/end/",
      "plan select 2 1/cell 0 int 1/node 0 values row 0/node 1 project 0 0/",
    )
    -- `t, t` is 6, `t u, t` is planned
    ∷ (
      tu,
      "select/item/star/from t/from t/end/",
      "refused 6 statement 5/",
    )
    ∷ (
      tu,
      "select/item/col u a/from t u/from t/order desc/col u b/end/",
      "plan select 6 3/cell 0 col 0/cell 1 col 1/cell 2 col 1/"
          ++ "node 0 scan t as u/node 1 scan t/node 2 join 0 1 inner/node 3 project 2 0 1/node 4 order 3 2 desc/"
          ++ "node 5 remap 4 0 -/",
    )
    -- two joins with a predicate each: the cells of the first before those of the second, and each over its own tables
    ∷ (
      tu,
      "select/item/star/join inner on/from t/from u/op eq/col a/col c/"
          ++ "join left on/from t x/from u y/op eq/col x b/col y e/end/",
      "plan select 7 6/cell 0 col 0/cell 1 col 2/cell 2 eq 0 1/cell 3 col 1/cell 4 col 4/cell 5 eq 3 4/"
          ++ "node 0 scan t/node 1 scan u/node 2 join 0 1 inner 2/node 3 scan t as x/node 4 scan u as y/"
          ++ "node 5 join 3 4 outer 5/node 6 join 2 5 inner/",
    )
    -- a left join as the right side of a right join: it is built first, and its predicate before the other
    ∷ (
      tu,
      "select/item/star/join right on/from t/join left on/from u/from t x/op eq/col e/col x a/op eq/col t a/col c/end/",
      "plan select 6 6/cell 0 col 2/cell 1 col 3/cell 2 eq 0 1/cell 3 col 5/cell 4 col 0/cell 5 eq 3 4/"
          ++ "node 0 scan u/node 1 scan t as x/node 2 join 0 1 outer 2/node 3 scan t/node 4 join 2 3 outer 5/"
          ++ "node 5 remap 4 2 3 4 5 6 0 1/",
    )
    -- a right join as the left side of a right join: the columns are t's, u's and x's, as the statement has them
    ∷ (
      tu,
      "select/item/star/item/col x a/join right bare/join right bare/from t/from u/from t x/end/",
      "plan select 8 8/cell 0 col 0/cell 1 col 1/cell 2 col 2/cell 3 col 3/cell 4 col 4/cell 5 col 5/cell 6 col 6/"
          ++ "cell 7 col 5/"
          ++ "node 0 scan t as x/node 1 scan u/node 2 scan t/node 3 join 1 2 outer/node 4 remap 3 2 3 4 0 1/"
          ++ "node 5 join 0 4 outer/node 6 remap 5 5 6 0 1 2 3 4/node 7 project 6 0 1 2 3 4 5 6 7/",
    )
    -- 5 no such table: a left join's left side comes first, a right join's right side
    ∷ (
      tu,
      "select/item/star/join left bare/from x/from y/end/",
      "refused 5 statement 5/",
    )
    ∷ (
      tu,
      "select/item/star/join right bare/from x/from y/end/",
      "refused 5 statement 6/",
    )
    ∷ []

-- ITEMS AND STARS
item_questions : List Question
item_questions =
    -- `SELECT *, *`
    (
      ab,
      "select/item/star/item/star/from t/end/",
      "plan select 2 4/cell 0 col 0/cell 1 col 1/cell 2 col 0/cell 3 col 1/node 0 scan t/node 1 project 0 0 1 2 3/",
    )
    -- an aliased star beside a plain one loses its alias; without one it is 12
    ∷ (
      ab,
      "select/item x/star/item/star/from t/end/",
      "plan select 2 4/cell 0 col 0/cell 1 col 1/cell 2 col 0/cell 3 col 1/node 0 scan t/node 1 project 0 0 1 2 3/",
    )
    ∷ (
      ab,
      "select/item x/star/from t/end/",
      "refused 12 statement 3/",
    )
    -- a lone star with GROUP BY is expanded: t.a and t.b among the groups b and a
    ∷ (
      ab,
      "select/item/star/from t/group/col b/group/col a/end/",
      "plan select 3 4/cell 0 col 1/cell 1 col 0/cell 2 col 1/cell 3 col 0/"
          ++ "node 0 scan t/node 1 aggregate 0 0 1/node 2 project 1 2 3/",
    )
    -- 11 at the star, since t.b is not grouped
    ∷ (
      ab,
      "select/item/star/from t/group/col a/end/",
      "refused 11 statement 3/",
    )
    -- 16 a star with no FROM
    ∷ (
      ab,
      "select/item/star/end/",
      "refused 16 statement 3/",
    )
    -- 7 an unknown table
    ∷ (
      ab,
      "select/item/col x a/from t/end/",
      "refused 7 statement 3/",
    )
    -- IS with null and with a NaN; with anything else 29, behind its operand's refusal
    ∷ (
      ab,
      "select/item/op is/col a/null/item/op is/col b/float 7ff8000000000001/from t/end/",
      "plan select 2 4/cell 0 col 0/cell 1 is 0 null/cell 2 col 1/cell 3 is 2 float 7ff8000000000001/"
          ++ "node 0 scan t/node 1 project 0 1 3/",
    )
    ∷ (
      ab,
      "select/item/op is/col a/int 1/from t/end/",
      "refused 29 statement 3/",
    )
    ∷ (
      ab,
      "select/item/op is/col c/int 1/from t/end/",
      "refused 8 statement 4/",
    )
    ∷ []

-- GROUPS AND AGGREGATES
group_questions : List Question
group_questions =
    -- the groups' cells, then the aggregates'
    (
      ab,
      "select/item/fn sum 1/col b/item/col a/from t/group/col a/end/",
      "plan select 3 4/cell 0 col 0/cell 1 col 1/cell 2 col 1/cell 3 col 0/"
          ++ "node 0 scan t/node 1 aggregate 0 0 sum 1/node 2 project 1 2 3/",
    )
    -- GROUP BY a, a has one group; GROUP BY a, t.a has two
    ∷ (
      ab,
      "select/item/col a/from t/group/col a/group/col a/end/",
      "plan select 3 2/cell 0 col 0/cell 1 col 0/node 0 scan t/node 1 aggregate 0 0/node 2 project 1 1/",
    )
    ∷ (
      ab,
      "select/item/col a/from t/group/col a/group/col t a/end/",
      "plan select 3 3/cell 0 col 0/cell 1 col 0/cell 2 col 0/node 0 scan t/node 1 aggregate 0 0 1/node 2 project 1 2/",
    )
    -- `count(*)` and `sum(a)`, each twice: two aggregates
    ∷ (
      ab,
      "select/item/fn count 1/star/item/fn sum 1/col a/item/fn count 1/star/item/fn sum 1/col a/from t/end/",
      "plan select 3 6/cell 0 bool t/cell 1 col 0/cell 2 col 0/cell 3 col 1/cell 4 col 0/cell 5 col 1/"
          ++ "node 0 scan t/node 1 aggregate 0 count 0 sum 1/node 2 project 1 2 3 4 5/",
    )
    -- 14 two arguments, 15 an aggregate in an aggregate, 12 a star under another than `count`
    ∷ (
      ab,
      "select/item/fn sum 2/col a/col b/from t/end/",
      "refused 14 statement 3/",
    )
    ∷ (
      ab,
      "select/item/fn sum 1/fn max 1/col a/from t/end/",
      "refused 15 statement 3/",
    )
    ∷ (
      ab,
      "select/item/fn sum 1/star/from t/end/",
      "refused 12 statement 4/",
    )
    ∷ []

-- HAVING, ORDER, OFFSET AND LIMIT
later_questions : List Question
later_questions =
    -- the aggregates of HAVING and ORDER are no items: two hidden columns, dropped at the end
    (
      ab,
      "select/item/col a/from t/group/col a/having/op gt/fn max 1/col b/int 1/order asc/fn sum 1/col b/end/",
      "plan select 6 10/cell 0 col 0/cell 1 col 1/cell 2 col 1/cell 3 col 0/cell 4 col 1/cell 5 col 2/"
          ++ "cell 6 col 1/cell 7 int 1/cell 8 gt 6 7/cell 9 col 2/"
          ++ "node 0 scan t/node 1 aggregate 0 0 max 1 sum 2/node 2 project 1 3 4 5/node 3 filter 2 8/"
          ++ "node 4 order 3 9 asc/node 5 remap 4 0 - -/",
    )
    -- ORDER BY sum(a) over GROUP BY a hides sum(a), and a within it
    ∷ (
      ab,
      "select/item/fn count 1/star/from t/group/col a/order asc/fn sum 1/col a/end/",
      "plan select 5 7/cell 0 col 0/cell 1 bool t/cell 2 col 0/cell 3 col 1/cell 4 col 2/cell 5 col 0/cell 6 col 1/"
          ++ "node 0 scan t/node 1 aggregate 0 0 count 1 sum 2/node 2 project 1 3 4 5/node 3 order 2 6 asc/"
          ++ "node 4 remap 3 0 - -/",
    )
    -- an ORDER BY name that is ambiguous in FROM and not among the items is 8
    ∷ (
      tu,
      "select/item/col u a/from t u/from t/order desc/col b/end/",
      "refused 8 statement 7/",
    )
    -- 19: LIMIT -1
    ∷ (
      ab,
      "select/item/col a/from t/limit/op neg/int 1/end/",
      "refused 19 statement 5/",
    )
    ∷ []

-- COUNTS
count_questions : List CountQuestion
count_questions =
    -- P1: 5 records, 8 cells
    (heap, listed, 8, 20)
    -- four hidden columns and three comparisons: more than twice as many cells as records
    ∷ (tu, "select/item/col a/from t/from u/order asc/op ge/op ge/col b/col c/op ge/col d/col e/end/", 18, 32)
    -- a star of 2 columns beside an item
    ∷ (ab, "select/item/star/item/col a/from t/end/", 3, 10)
    ∷ []

unfoldable pub selects_hold : Bool
unfolding every holds count_holds join_questions item_questions group_questions later_questions count_questions
selects_hold =
    every holds join_questions && every holds item_questions && every holds group_questions && every holds later_questions
    && every count_holds count_questions
