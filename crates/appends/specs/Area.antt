-- The area of a plan from the cells and records that were appended.
use Rattle.std.specs.Prelude.{ℕ, ◌+◌, ◌*◌, ◌≡◌, Bool}
use Rattle.std.proofs.Common.{arith, ap, ◌∙◌, length-append}
use Rattle.std.proofs.Math.Path.{refl}
use mathlib.Core.List.{List, [], ◌∷◌, ◌++◌, map, append_assoc, append-nil}
use Rattle.std.proofs.Math.Option.{Option}
use Rattle.std.proofs.Math.ListN.{length}
use Rattle.rules.specs.Lists.{concat}
use Rattle.rules.specs.Lines.{Word}
use Rattle.rules.specs.Schema.{Table}
use Rattle.rules.specs.Plan.{Built, Node, Mapping, Made, Plan}
use Rattle.rules.specs.Plan as P
use Rattle.rules.specs.Cells.{Cell, count_all, cells_all, expressions, cell_count, number_second, plan_expressions}
use Rattle.rules.specs.Cells.{plan_cells, number_plan}
use Rattle.rules.specs.Nodes.{NodeRecord, node_of, node_records, plan_records}
use Rattle.rules.specs.Area.{span, flag}
use Rattle.rules.specs.Area.{cell_numbers, record_numbers, own_numbers, map_numbers, set_numbers}
use Rattle.rules.specs.Area.{made_numbers, plan_code, cell_part, node_part, own_start, header, plan_numbers}
use Rattle.claims.specs.Cells.Length.{cells_all-length}
use Rattle.claims.specs.Room.Nodes.{cell-size}
use Rattle.appends.specs.Lists.Joined.{cells-append}
use Rattle.appends.specs.Nodes.Lays.{Lays, Adds}
use Rattle.appends.specs.Nodes.Lengths.{lays-cells, lays-nodes}

-- NUMBERS
unfoldable pub cells_numbers : List Cell → List ℕ
cells_numbers cs = concat (map cell_numbers cs)

unfoldable pub records_numbers : List NodeRecord → List ℕ
records_numbers rs = concat (map record_numbers rs)

pub concat-append : {A : Type 0} (f : A → List ℕ) (xs ys : List A)
    → concat (map f (xs ++ ys)) ≡ concat (map f xs) ++ concat (map f ys)
unfolding concat
concat-append f [] ys = refl
concat-append f (x ∷ xs) ys = rw (concat-append f xs ys, append_assoc)

pub cells-numbers-append : (xs ys : List Cell) → cells_numbers (xs ++ ys) ≡ cells_numbers xs ++ cells_numbers ys
unfolding cells_numbers
cells-numbers-append xs ys = concat-append cell_numbers xs ys

pub records-numbers-append : (xs ys : List NodeRecord)
    → records_numbers (xs ++ ys) ≡ records_numbers xs ++ records_numbers ys
unfolding records_numbers
records-numbers-append xs ys = concat-append record_numbers xs ys

-- what one record adds
pub records-numbers-one : (xs : List NodeRecord) (r : NodeRecord)
    → records_numbers (xs ++ (r ∷ [])) ≡ records_numbers xs ++ record_numbers r
unfolding records_numbers concat
records-numbers-one xs r = concat-append record_numbers xs (r ∷ []) ∙ rw append-nil

-- a cell is four numbers
pub cells-four : (cs : List Cell) → length (cells_numbers cs) ≡ 4 * length cs
unfolding cells_numbers concat
cells-four [] = refl
cells-four (c ∷ cs) = rw (length-append, cell-size c, cells-four cs) (omega arith)

-- THE WHOLE
-- the header of a plan of statement kind c: j cells, m nodes that are b numbers, and w numbers of its own
unfoldable pub header_of : ℕ → ℕ → ℕ → ℕ → ℕ → List ℕ
header_of c j m b w = 1 ∷ c ∷ j ∷ m ∷ (6 + 4 * j + b) ∷ (6 + 4 * j + b + w) ∷ []

-- a plan's area: the header, j cells, m records, and the plan's own numbers ws
unfoldable pub area_of : ℕ → List Cell → List NodeRecord → List ℕ → ℕ → ℕ → List ℕ
area_of c cs rs ws j m =
    header_of c j m (length (records_numbers rs)) (length ws) ++ (cells_numbers cs ++ (records_numbers rs ++ ws))

pub plan-area : (p : Plan Built) (cs : List Cell) (rs : List NodeRecord) (ws : List ℕ) (j m : ℕ) → plan_cells p ≡ cs
    → plan_records (number_plan p) ≡ rs → own_numbers (number_plan p) ≡ ws → length cs ≡ j → length rs ≡ m
    → plan_numbers p ≡ area_of (plan_code p) cs rs ws j m
unfolding plan_numbers header own_start cell_part node_part header_of area_of cells_numbers records_numbers
plan-area p cs rs ws j m e f g a b =
    let q : length (concat (map cell_numbers cs)) ≡ 4 * j = cells-four cs ∙ ap (λ t. 4 * t) a in
    rw (e, f, g, q, a, b)

-- PLANS WITH A NODE
module _ (n : Node Built) (cs : List Cell) (rs : List NodeRecord) (j m : ℕ) (h : Lays 0 0 n cs rs j m) where
  cells_are : length cs ≡ j
  cells_are = omega (arith, lays-cells 0 0 n cs rs j m h)

  nodes-are : length rs ≡ m
  nodes-are = omega (arith, lays-nodes 0 0 n cs rs j m h)

  pub select-area : plan_numbers (P.select n) ≡ area_of 1 cs rs [] j m
  unfolding plan_cells plan_expressions number_plan plan_records node_records node_of own_numbers plan_code
  select-area = plan-area (P.select n) cs rs [] j m h.cells h.records refl cells_are nodes-are

  pub select-count : length (plan_cells (P.select n)) ≡ j
  unfolding plan_cells plan_expressions
  select-count = rw h.cells cells_are

  pub delete-area : (t : Table) → plan_numbers (P.delete t n) ≡ area_of 4 cs rs (span t.name ++ (t.key ∷ [])) j m
  unfolding plan_cells plan_expressions number_plan plan_records node_records node_of own_numbers plan_code
  delete-area t = plan-area (P.delete t n) cs rs (span t.name ++ (t.key ∷ [])) j m
      h.cells h.records refl cells_are nodes-are

  pub insert-area : (t : Table) (o : Option (List Mapping))
      → plan_numbers (P.insert t o n) ≡ area_of 5 cs rs (span t.name ++ map_numbers o) j m
  unfolding plan_cells plan_expressions number_plan plan_records node_records node_of own_numbers plan_code
  insert-area t o = plan-area (P.insert t o n) cs rs (span t.name ++ map_numbers o) j m
      h.cells h.records refl cells_are nodes-are

  -- an update's sets follow the node's cells
  pub update-area : (t : Table) (us : List (ℕ × Built)) (xs : List Cell) (bs : List (ℕ × ℕ)) (q : ℕ)
      → Adds j (map (λ x. x.1) us) xs q → number_second j us ≡ bs → plan_numbers (P.update t n us)
      ≡ area_of 6 (cs ++ xs) rs (span t.name ++ (t.key ∷ length bs ∷ set_numbers bs)) q m
  unfolding plan_cells plan_expressions number_plan plan_records node_records node_of own_numbers plan_code cell_count
  update-area t us xs bs q a f =
      let es = map (λ x. x.1) us in
      let w : count_all (expressions n) ≡ j = omega (arith, h.next) in
      let c : cells_all 0 (expressions n ++ es) ≡ cs ++ xs =
      rw (cells-append (expressions n) es 0, h.cells, h.next, a.cells) in
      let l : length (cs ++ xs) ≡ q = rw (length-append, ← a.cells, cells_all-length es j, cells_are) a.next in
      plan-area (P.update t n us) (cs ++ xs) rs (span t.name ++ (t.key ∷ length bs ∷ set_numbers bs)) q m
      c h.records (rw (w, f)) l nodes-are

-- PLANS WITH NONE
pub create-area : (n : Word) (k : ℕ) (cs : List Made)
    → plan_numbers (P.create n k cs) ≡ area_of 2 [] [] (span n ++ (k ∷ length cs ∷ concat (map made_numbers cs))) 0 0
unfolding plan_cells plan_expressions cells_all number_plan plan_records node_records node_of own_numbers plan_code
create-area n k cs = plan-area (P.create n k cs) [] [] (span n ++ (k ∷ length cs ∷ concat (map made_numbers cs))) 0 0
    refl refl refl refl refl

pub drop-area : (n : Word) (y : Bool) → plan_numbers (P.drop n y) ≡ area_of 3 [] [] (span n ++ (flag y ∷ [])) 0 0
unfolding plan_cells plan_expressions cells_all number_plan plan_records node_records node_of own_numbers plan_code
drop-area n y = plan-area (P.drop n y) [] [] (span n ++ (flag y ∷ [])) 0 0 refl refl refl refl refl
