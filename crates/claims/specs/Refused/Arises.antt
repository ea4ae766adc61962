-- Each number with which a statement can be refused does arise: a statement for each, computed by the checker.
use Rattle.std.specs.Prelude.{ℕ, ◌≡◌, refl, Bool, true, false, List, [], ◌∷◌, map, replicate, pos, negsuc}
use Prim.Native.String.{String}
use Rattle.std.proofs.Math.Option.{Option, none, some}
use Rattle.rules.specs.Refusals.{refusal_number, Answer, ok, refused}
use Rattle.rules.specs.Lines.{Word, bytes}
use Rattle.rules.specs.Schema.{Table, Catalog, int, integer}
use Rattle.rules.specs.Ast.{not, plain, add, div, Expr, star, column, literal, call, unary, binary, is, nil, cons, From}
use Rattle.rules.specs.Ast.{table, Clause, Select, Delete, Named, Insert, Update, NewColumn, Create}
use Rattle.rules.specs.Plan.{Built, Plan}
use Rattle.rules.specs.BuildSelect.{build_select}
use Rattle.rules.specs.BuildStatement.{build_delete, build_insert, build_update, build_create}
use Rattle.rules.specs.Listing.{listing}

-- the number of a refusal, 0 for a plan
abbrev number_of : Answer (Plan Built) → ℕ
number_of (ok p) = 0
number_of (refused r) = refusal_number r.reason

-- THE CATALOG
abbrev word : String → Word
word s = record { bytes = bytes s; start = 0 }

-- a table of integers with no defaults
abbrev integers : String → List String → Table
integers n cs = record {
  name = word n;
  key = 0;
  columns = map (λ (c : String). record { name = word c; type = integer; nullable = true; default = none }) cs;
}

-- t has a column a and two columns d, none has no column, wide has 257
abbrev tables : Catalog
tables = integers "t" ("a" ∷ "d" ∷ "d" ∷ []) ∷ integers "none" [] ∷ integers "wide" (replicate 257 "a") ∷ []

-- EXPRESSIONS, all at line 1
abbrev name : String → Expr
name n = column 1 none (word n)

abbrev number : ℕ → Expr
number n = literal 1 (int (pos n))

-- a function of one argument
abbrev of : String → Expr → Expr
of n a = call 1 (word n) (cons a nil)

-- what an expression is refused for: 7, 8, 9, 12, 13, 29
abbrev other_table : Expr
other_table = column 1 (some (word "x")) (word "a")

abbrev unknown : Expr
unknown = name "c"

abbrev ambiguous : Expr
ambiguous = name "d"

abbrev any_star : Expr
any_star = star 1

abbrev any_function : Expr
any_function = of "f" (number 1)

abbrev is_one : Expr
is_one = is 1 (number 1) (int (pos 1))

-- and a constant: 25, 26, 27, 28
abbrev overflow : Expr
overflow = binary 1 (plain add) (number 9223372036854775807) (number 1)

abbrev by_zero : Expr
by_zero = binary 1 (plain div) (number 1) (number 0)

abbrev wrong_kind : Expr
wrong_kind = unary 1 not (number 1)

abbrev root : Expr
root = of "sqrt" (number 4)

abbrev clause : Expr → Option Clause
clause e = some (record { line = 1; expr = e })

-- DELETE
abbrev deleting : String → Expr → Delete
deleting n e = record { line = 1; table = word n; filter = clause e }

abbrev deletes : List Delete
deletes =
    deleting "x" (number 1) ∷ deleting "t" other_table ∷ deleting "t" unknown ∷ deleting "t" ambiguous
    ∷ deleting "none" unknown ∷ deleting "t" any_star ∷ deleting "t" any_function ∷ deleting "t" is_one ∷ []

pub delete-arises : map (λ d. number_of (build_delete tables d)) deletes ≡ 5 ∷ 7 ∷ 8 ∷ 9 ∷ 10 ∷ 12 ∷ 13 ∷ 29 ∷ []
unfolding listing
delete-arises = refl

-- INSERT
abbrev inserting : String → Option (List Named) → Expr → Insert
inserting n ns e = record { line = 1; table = word n; columns = ns; rows = (e ∷ []) ∷ [] }

abbrev named : String → Named
named n = record { line = 1; name = word n }

abbrev inserts : List Insert
inserts =
    inserting "x" none (number 1) ∷ inserting "t" none (name "a") ∷ inserting "t" none any_star
    ∷ inserting "t" none any_function ∷ inserting "t" (some (named "c" ∷ [])) (number 1)
    ∷ inserting "t" (some (named "a" ∷ named "a" ∷ [])) (number 1) ∷ inserting "t" none is_one ∷ []

pub insert-arises : map (λ d. number_of (build_insert tables d)) inserts ≡ 5 ∷ 10 ∷ 12 ∷ 13 ∷ 22 ∷ 23 ∷ 29 ∷ []
unfolding listing
insert-arises = refl

-- UPDATE
abbrev updating : String → String → Option Expr → Update
updating n c o = record {
  line = 1;
  table = word n;
  sets = record { line = 1; name = word c; value = o } ∷ [];
  filter = none;
}

abbrev updates : List Update
updates =
    updating "x" "a" none ∷ updating "t" "a" (some other_table) ∷ updating "t" "c" none ∷ updating "t" "d" none
    ∷ updating "none" "a" none ∷ updating "t" "a" (some any_star) ∷ updating "t" "a" (some any_function)
    ∷ updating "t" "a" none ∷ updating "t" "a" (some is_one) ∷ []

pub update-arises : map (λ d. number_of (build_update tables d)) updates ≡ 5 ∷ 7 ∷ 8 ∷ 9 ∷ 10 ∷ 12 ∷ 13 ∷ 24 ∷ 29 ∷ []
unfolding listing
update-arises = refl

-- CREATE
-- a column, perhaps the key, with or without a default
abbrev creating : Bool → Option Expr → NewColumn
creating k o = record {
  line = 1;
  name = word "a";
  type = integer;
  key = k;
  nullable = none;
  unique = false;
  index = false;
  default = o;
  reference = none;
}

abbrev created : List NewColumn → Create
created cs = record { line = 1; name = word "u"; columns = cs }

abbrev defaulting : Expr → Create
defaulting e = created (creating true (some e) ∷ [])

abbrev creates : List Create
creates =
    defaulting (name "a") ∷ defaulting any_star ∷ defaulting any_function ∷ created []
    ∷ created (creating true none ∷ creating true none ∷ []) ∷ defaulting overflow ∷ defaulting by_zero
    ∷ defaulting wrong_kind ∷ defaulting root ∷ defaulting is_one ∷ []

pub create-arises : map (λ d. number_of (build_create d)) creates ≡ 10 ∷ 12 ∷ 13 ∷ 20 ∷ 21 ∷ 25 ∷ 26 ∷ 27 ∷ 28 ∷ 29 ∷ []
unfolding listing
create-arises = refl

-- SELECT
abbrev selecting : Expr → List From → Option Clause → Option Clause → Option Clause → Option Clause → Select
selecting e fs w h o l = record {
  items = record { line = 1; expr = e; alias = none } ∷ [];
  from = fs;
  filter = w;
  group = [];
  having = h;
  order = [];
  offset = o;
  limit = l;
}

abbrev from : String → From
from n = table 1 (word n) none

-- an item over FROM, over t alone, and a limit
abbrev over : List From → Expr → Select
over fs e = selecting e fs none none none none

abbrev item : Expr → Select
item e = over (from "t" ∷ []) e

abbrev limited : Expr → Select
limited e = selecting (number 1) [] none none none (clause e)

abbrev selects : List Select
selects =
    over (from "wide" ∷ []) (number 1) ∷ over (from "x" ∷ []) (number 1) ∷ over (from "t" ∷ from "t" ∷ []) (number 1)
    ∷ item other_table ∷ item unknown ∷ item ambiguous ∷ over [] (name "a")
    ∷ item (binary 1 (plain add) (of "sum" (name "a")) (name "a"))
    ∷ selecting (number 1) [] (clause any_star) none none none ∷ item any_function ∷ item (call 1 (word "sum") nil)
    ∷ item (of "sum" (of "sum" (name "a"))) ∷ over [] any_star
    ∷ selecting (number 1) [] none (clause (number 1)) none none
    ∷ selecting (number 1) [] none none (clause (literal 1 (int (negsuc 0)))) none
    ∷ limited (literal 1 (int (negsuc 0))) ∷ limited overflow ∷ limited by_zero ∷ limited wrong_kind ∷ limited root
    ∷ item is_one ∷ []

pub select-arises : map (λ q. number_of (build_select tables q)) selects
    ≡ 3 ∷ 5 ∷ 6 ∷ 7 ∷ 8 ∷ 9 ∷ 10 ∷ 11 ∷ 12 ∷ 13 ∷ 14 ∷ 15 ∷ 16 ∷ 17 ∷ 18 ∷ 19 ∷ 25 ∷ 26 ∷ 27 ∷ 28 ∷ 29 ∷ []
unfolding listing
select-arises = refl
