-- The numbers of a plan's cells are of 32 bits, where its constants, words and column numbers are.
use Rattle.std.specs.Prelude.{ℕ, ◌+◌, pred, ◌^◌, ◌≤◌, ◌<◌, Bool, true, false, List, [], ◌∷◌, map, ℤ, pos, negsuc}
use Rattle.std.proofs.Common.{arith}
use Rattle.std.proofs.Math.Option.{Option, none, some}
use Rattle.std.specs.Int.Signed.{mag}
use Rattle.rules.specs.Lists.{concat}
use Rattle.rules.specs.Lines.{Word}
use Rattle.rules.specs.Schema.{Value, null, bool, int, float, text}
use Rattle.rules.specs.Ast.{Unary, not, fact, ident, neg, sqrt, Plain, and, or, eq, gt, lt, add, div, pow, mul, rem}
use Rattle.rules.specs.Ast.{sub, like, Binary, plain, ge, le, ne}
use Rattle.rules.specs.Codes.{unary_code, plain_code}
use Rattle.rules.specs.Plan.{Built}
use Rattle.rules.specs.Plan as P
use Rattle.rules.specs.Cells.{Cell, added, built_count, root, operator, cells, count_all, cells_all}
use Rattle.rules.specs.Cells as Cells
use Rattle.rules.specs.Area.{halves, bits, flag, span, option_span, value_numbers, is_numbers, cell_numbers}
use Rattle.claims.specs.Answers.{All, Given, all_append, all_map}
use Rattle.claims.specs.Lists.{all-concat}
use Rattle.claims.specs.Cells.Length.{count-positive}
use Rattle.claims.specs.Words.Lists.{value_words}
use Rattle.claims.specs.Values.Values.{Fits}
use Rattle.claims.specs.Widths.Below.{Below}
use Rattle.claims.specs.Building.Has.{TreeHas}
use Rattle.claims.specs.Words.Ends.{Ends, EndsValue}

-- a number of 32 bits
abbrev pub Small : ℕ → Type 0
Small n = n < 2 ^ 32

-- NUMBERS
-- the halves of a number of 64 bits
pub halves_small : (n : ℕ) → n < 2 ^ 64 → All Small (halves n)
unfolding halves All
halves_small n h = (omega arith, (omega arith, tt))

bits_below : (z : ℤ) → mag z < 2 ^ 63 → bits z < 2 ^ 64
unfolding bits
bits_below (pos n) h = omega arith
bits_below (negsuc n) h = omega arith

pub flag_small : (b : Bool) → Small (flag b)
unfolding flag
flag_small true = omega arith
flag_small false = omega arith

pub span_small : (w : Word) → Ends w → All Small (span w)
unfolding span Ends All
span_small w h = (omega arith, (omega arith, tt))

pub option_span-small : (a : Option Word) → Given Ends a → All Small (option_span a)
unfolding option_span Given All
option_span-small none h = (omega arith, (omega arith, tt))
option_span-small (some w) h = span_small w h

-- VALUES
pub value-small : (v : Value) → EndsValue v → All Small (value_numbers v)
unfolding Fits value_words value_numbers All
value-small null h = (omega arith, (omega arith, (omega arith, (omega arith, tt))))
value-small (bool b) h = (omega arith, (flag_small b, (omega arith, (omega arith, tt))))
value-small (int n) h =
    (omega arith, all_append Small (halves (bits n)) _ (halves_small (bits n) (bits_below n h.0)) (omega arith, tt))
value-small (float b) h = (omega arith, all_append Small (halves b) _ (halves_small b h.0) (omega arith, tt))
value-small (text w) h = (omega arith, all_append Small (span w) _ (span_small w h.1.0) (omega arith, tt))

is-small : (a : ℕ) (v : Value) → Small a → Fits v → All Small (is_numbers a v)
unfolding is_numbers Fits All
is-small a null k h = (omega arith, (k, (omega arith, (omega arith, tt))))
is-small a (bool b) k h = (omega arith, (k, (omega arith, (omega arith, tt))))
is-small a (int n) k h = (omega arith, (k, (omega arith, (omega arith, tt))))
is-small a (float b) k h = (omega arith, (k, halves_small b h))
is-small a (text w) k h = (omega arith, (k, (omega arith, (omega arith, tt))))

-- CELLS
unary-small : (o : Unary) → Small (unary_code o)
unfolding unary_code
unary-small not = omega arith
unary-small fact = omega arith
unary-small ident = omega arith
unary-small neg = omega arith
unary-small sqrt = omega arith

plain-small : (o : Plain) → Small (plain_code o)
unfolding plain_code
plain-small and = omega arith
plain-small or = omega arith
plain-small eq = omega arith
plain-small gt = omega arith
plain-small lt = omega arith
plain-small add = omega arith
plain-small div = omega arith
plain-small pow = omega arith
plain-small mul = omega arith
plain-small rem = omega arith
plain-small sub = omega arith
plain-small like = omega arith

-- all numbers of a cell
abbrev SmallCell : Cell → Type 0
SmallCell c = All Small (cell_numbers c)

unary-cell : (o : Unary) (a : ℕ) → Small a → All SmallCell (Cells.unary o a ∷ [])
unfolding cell_numbers All
unary-cell o a h = ((unary-small o, (h, (omega arith, (omega arith, tt)))), tt)

binary-cell : (o : Plain) (a b : ℕ) → Small a → Small b → SmallCell (Cells.binary o a b)
unfolding cell_numbers All
binary-cell o a b h g = (plain-small o, (h, (g, (omega arith, tt))))

operator-small : (o : Binary) (n x y : ℕ) → n + added o ≤ 2 ^ 32 → Small x → Small y → All SmallCell (operator o n x y)
unfolding operator added All
operator-small (plain o) n x y l h g = (binary-cell o x y h g, tt)
operator-small ge n x y l h g =
    (binary-cell gt x y h g, (binary-cell eq x y h g, (binary-cell or n (n + 1) (omega arith) (omega arith), tt)))
operator-small le n x y l h g =
    (binary-cell lt x y h g, (binary-cell eq x y h g, (binary-cell or n (n + 1) (omega arith) (omega arith), tt)))
operator-small ne n x y l h g = (binary-cell eq x y h g, unary-cell not n (omega arith))

-- an expression whose constants fit and end in the texts, and whose column numbers are of 32 bits
abbrev pub SmallTree : Built → Type 0
SmallTree x = TreeHas EndsValue x × Below (2 ^ 32) x

pub pred-small : (k : ℕ) → 0 < k → k ≤ 2 ^ 32 → Small (pred k)
pred-small k h l = omega arith

root-small : (x : Built) (n : ℕ) → n + built_count x ≤ 2 ^ 32 → Small (root n x)
unfolding root
root-small x n h = pred-small (n + built_count x) (omega (arith, count-positive x)) h

cells-small : (x : Built) (n : ℕ) → n + built_count x ≤ 2 ^ 32 → SmallTree x → All SmallCell (cells n x)
unfolding cells built_count TreeHas Below cell_numbers All
cells-small (P.constant v) n l h = (value-small v h.0, tt)
cells-small (P.column i) n l h = ((omega arith, (h.1, (omega arith, (omega arith, tt)))), tt)
cells-small (P.unary o a) n l h =
    all_append SmallCell (cells n a) _ (cells-small a n (omega arith) h)
    (unary-cell o (root n a) (root-small a n (omega arith)))
cells-small (P.binary o a b) n l h =
    all_append SmallCell (cells n a) _ (cells-small a n (omega arith) (h.0.0, h.1.0))
    (all_append SmallCell (cells (n + built_count a) b) _
    (cells-small b (n + built_count a) (omega arith) (h.0.1, h.1.1))
    (operator-small o _ _ _ (omega arith) (root-small a n (omega arith))
    (root-small b (n + built_count a) (omega arith))))
cells-small (P.is a v) n l h =
    all_append SmallCell (cells n a) _ (cells-small a n (omega arith) (h.0.0, h.1))
    (is-small (root n a) v (root-small a n (omega arith)) h.0.2.0, tt)

cells_all-small : (xs : List Built) (n : ℕ) → n + count_all xs ≤ 2 ^ 32 → All SmallTree xs → All SmallCell (cells_all n xs)
unfolding cells_all count_all All
cells_all-small [] n l h = tt
cells_all-small (x ∷ xs) n l h =
    all_append SmallCell (cells n x) _ (cells-small x n (omega arith) h.0)
    (cells_all-small xs (n + built_count x) (omega arith) h.1)

-- the numbers of all cells
pub all-cells-small : (xs : List Built) → count_all xs ≤ 2 ^ 32 → All SmallTree xs
    → All Small (concat (map cell_numbers (cells_all 0 xs)))
all-cells-small xs l h =
    all-concat Small _ (all_map (All Small) cell_numbers SmallCell (λ c g. g) (cells_all 0 xs)
    (cells_all-small xs 0 (omega arith) h))
