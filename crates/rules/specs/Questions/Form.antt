-- How the rules are asked, and what is compared. Texts are written as document 01 writes them: `/` for a line end and a
-- blank for a tab.
use Rattle.std.specs.Prelude.{ℕ, ◌-◌, Bool, true, false, ◌&&◌, List, [], ◌∷◌, ◌++◌, eqb, leb, length, replicate}
use Prim.Native.String.{String}
use Rattle.rules.specs.Refusals.{Answer, ok, refused}
use Rattle.rules.specs.Limits.{least_area}
use Rattle.rules.specs.Lists.{Bytes, same}
use Rattle.rules.specs.Lines.{bytes}
use Rattle.rules.specs.Schema.{Catalog}
use Rattle.rules.specs.Ast.{Statement, select, delete, insert, update, create, drop, other}
use Rattle.rules.specs.ReadCatalog.{read_catalog}
use Rattle.rules.specs.ReadStatement.{read_statement}
use Rattle.rules.specs.Count.{count_select, bound_select}
use Rattle.rules.specs.Entry.{Outcome}
use Rattle.rules.specs.Listing.{listing, outcome}

-- a text as it is written here
unfoldable pub lined : Bytes → Bytes
lined [] = []
lined (x ∷ xs) = elim (eqb x 47) [
  | true ↦ 10 ∷ lined xs
  | false ↦ elim (eqb x 32) [ true ↦ 9 ∷ lined xs | false ↦ x ∷ lined xs ]
]

unfoldable pub text : String → Bytes
text s = lined (bytes s)

unfoldable pub every : {A : Type 0} → (A → Bool) → List A → Bool
every t [] = true
every t (a ∷ as') = elim (t a) [ true ↦ every t as' | false ↦ false ]

-- THE LISTING
-- a catalog, a statement, and what the planning program prints of them
abbrev pub Question : Type 0
Question = String × String × String

unfoldable pub holds : Question → Bool
unfolding listing lined text
holds a = same (listing (text a.0) (text a.1)) (text a.2)

-- THE COUNT
-- the count from statement and catalog, and its bound
unfoldable pub counted : Statement → Catalog → ℕ → ℕ → Bool
counted (select q) c n m = eqb (count_select c q) n && eqb (bound_select c q) m && leb n m
counted (delete d) c n m = false
counted (insert d) c n m = false
counted (update d) c n m = false
counted (create d) c n m = false
counted (drop d) c n m = false
counted (other l) c n m = false

unfoldable pub counts : Answer Catalog → Answer Statement → ℕ → ℕ → Bool
counts (ok c) (ok s) n m = counted s c n m
counts (ok c) (refused r) n m = false
counts (refused r) a n m = false

-- a catalog, a SELECT, its count and its bound
abbrev pub CountQuestion : Type 0
CountQuestion = String × String × ℕ × ℕ

unfoldable pub count_holds : CountQuestion → Bool
unfolding listing lined text counted counts
count_holds a = counts (read_catalog (text a.0)) (read_statement (text a.1)) a.2 a.3

-- THE AREA
-- the entry's answer: number, text, line and count, and the area at exit
unfoldable pub answered : Outcome → List ℕ → List ℕ → Bool
answered o a ns = same (o.number ∷ o.text ∷ o.line ∷ o.count ∷ []) a && same o.area ns

-- a catalog, a statement, the answer's four numbers, and those of the area in front of its zeros
abbrev pub AreaQuestion : Type 0
AreaQuestion = String × String × List ℕ × List ℕ

-- over an area of the least length with a 7 everywhere
unfoldable pub area_holds : AreaQuestion → Bool
unfolding outcome lined text answered
area_holds a = answered
    (outcome (text a.0) (text a.1) (replicate least_area 7))
    a.2
    (a.3 ++ replicate (least_area - length a.3) 0)

-- THE LISTING AND THE AREA
-- a catalog, a statement, what is printed of them, the answer's four numbers, and those of the area
abbrev pub WholeQuestion : Type 0
WholeQuestion = String × String × String × List ℕ × List ℕ

unfoldable pub whole_holds : WholeQuestion → Bool
unfolding holds area_holds
whole_holds a = holds (a.0, a.1, a.2) && area_holds (a.0, a.1, a.3, a.4)
