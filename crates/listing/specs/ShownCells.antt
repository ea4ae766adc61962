-- The lines of cells are those that the rules print.
use Rattle.std.specs.Prelude.{ℕ, suc, ◌+◌, ◌*◌, ◌/◌, ◌%◌, ◌^◌, ◌≡◌, refl, true, false, List, [], ◌∷◌, ◌++◌, map, length, get_or, drop, ℤ, pos}
use Rattle.std.proofs.Common.{arith, ap, ◌∙◌, append_assoc}
use Rattle.std.proofs.lemmas.Bool.{false≢true}
use Rattle.std.proofs.Math.Option.{Option, none, some}
use Rattle.rules.specs.Lists.{Bytes, concat}
use Rattle.rules.specs.Lines.{bytes}
use Rattle.rules.specs.Schema.{Value, null, bool, int, float, text}
use Rattle.rules.specs.Ast.{Unary, not, fact, ident, neg, sqrt, Plain, and, or, eq, gt, lt, add, div, pow, mul, rem}
use Rattle.rules.specs.Ast.{sub, like}
use Rattle.rules.specs.Codes.{unary_code, plain_code}
use Rattle.rules.specs.BuildExpression.{is_null_or_nan}
use Rattle.rules.specs.Cells.{Cell, constant, column, unary, binary, is}
use Rattle.rules.specs.Area.{halves, bits, flag, span, value_numbers, is_numbers, cell_numbers}
use Rattle.rules.specs.Print.{decimal_of, integer_of, hex_of, show_value, show_unary, show_plain, show_cell, numbered}
use Rattle.claims.specs.Answers.{All}
use Rattle.claims.specs.Words.Places.{Placed}
use Rattle.claims.specs.Area.Readings.{give, ◌>>=◌, giving, found, demand, number, exactly, times, padded, decoded}
use Rattle.claims.specs.Area.Readings.{code_here, kind_here}
use Rattle.numbers.specs.Bits as numbers
use Rattle.numbers.specs.Bits.{signed}
use Rattle.claims.specs.Area.ReadArea.{long_here, value_forms}
use Rattle.claims.specs.Area.Readable.{ReadableValue, ReadableCell}
use Rattle.claims.specs.Area.AreaReadsBack.{value-reads}
use Rattle.claims.specs.Room.Nodes.{cell-size}
use Rattle.text.specs.Words.{words_of, push}
use Rattle.listing.specs.Choices.{choose}
use Rattle.listing.specs.Lines.{listed, each, each_first, listed_same}
use Rattle.listing.specs.Cells.{kind_word, value_rest, operand_rest, kind_rest, cell_fields, cell_line}

pub joined : (n : ℕ) → n % 2 ^ 32 + n / 2 ^ 32 * 2 ^ 32 ≡ n
joined n = omega arith

-- the integer that a value is
the_integer : Option (Value × List ℕ) → ℤ
the_integer none = pos 0
the_integer (some x) = elim x.0 [ null ↦ pos 0 | bool b ↦ pos 0 | int z ↦ z | float b ↦ pos 0 | text w ↦ pos 0 ]

-- an integer is read back from its halves
halves-integer : (z : ℤ) → ReadableValue [] [] (int z) → signed (bits z % 2 ^ 32 + bits z / 2 ^ 32 * 2 ^ 32) ≡ z
unfolding the_integer kind_here code_here decoded value_forms long_here padded giving give found number exactly demand times
    ◌>>=◌ value_numbers halves numbers.joined
halves-integer z h = ap the_integer (value-reads [] [] (int z) h [])

-- behind the kind of a constant
pub value-shown : (c q : Bytes) (v : Value) (t : List ℕ) → ReadableValue c q v
    → kind_word (get_or (value_numbers v ++ t) 0 0) ∷ value_rest c q (get_or (value_numbers v ++ t) 0 0) (value_numbers v ++ t)
    ≡ show_value v
unfolding kind_word value_rest choose value_numbers halves span flag show_value bytes words_of push ReadableValue Placed
value-shown c q null t h = refl
value-shown c q (bool true) t h = refl
value-shown c q (bool false) t h = refl
value-shown c q (int z) t h = ap (λ n. bytes "int" ∷ integer_of n ∷ []) (halves-integer z h)
value-shown c q (float b) t h = ap (λ n. bytes "float" ∷ hex_of 16 n [] ∷ []) (joined b)
value-shown c q (text w) t h = ap (λ b. bytes "text" ∷ b ∷ []) h

constant-rest : (c q : Bytes) (v : Value) (t : List ℕ) → cell_fields c q (value_numbers v ++ t)
    ≡ kind_word (get_or (value_numbers v ++ t) 0 0) ∷ value_rest c q (get_or (value_numbers v ++ t) 0 0) (value_numbers v ++ t)
unfolding cell_fields kind_rest value_numbers
constant-rest c q null t = refl
constant-rest c q (bool b) t = refl
constant-rest c q (int z) t = refl
constant-rest c q (float b) t = refl
constant-rest c q (text w) t = refl

constant-shown : (c q : Bytes) (v : Value) (t : List ℕ) → ReadableValue c q v
    → cell_fields c q (value_numbers v ++ t) ≡ show_value v
constant-shown c q v t h = constant-rest c q v t ∙ value-shown c q v t h

unary-shown : (c q : Bytes) (o : Unary) (a : ℕ) (t : List ℕ)
    → cell_fields c q (unary_code o ∷ a ∷ 0 ∷ 0 ∷ t) ≡ show_unary o ∷ decimal_of a ∷ []
unfolding cell_fields kind_rest operand_rest kind_word unary_code show_unary bytes words_of push
unary-shown c q not a t = refl
unary-shown c q fact a t = refl
unary-shown c q ident a t = refl
unary-shown c q neg a t = refl
unary-shown c q sqrt a t = refl

binary-shown : (c q : Bytes) (o : Plain) (a b : ℕ) (t : List ℕ)
    → cell_fields c q (plain_code o ∷ a ∷ b ∷ 0 ∷ t) ≡ show_plain o ∷ decimal_of a ∷ decimal_of b ∷ []
unfolding cell_fields kind_rest operand_rest kind_word plain_code show_plain bytes words_of push
binary-shown c q and a b t = refl
binary-shown c q or a b t = refl
binary-shown c q eq a b t = refl
binary-shown c q gt a b t = refl
binary-shown c q lt a b t = refl
binary-shown c q add a b t = refl
binary-shown c q div a b t = refl
binary-shown c q pow a b t = refl
binary-shown c q mul a b t = refl
binary-shown c q rem a b t = refl
binary-shown c q sub a b t = refl
binary-shown c q like a b t = refl

pub cell-shown : (c q : Bytes) (x : Cell) (t : List ℕ) → ReadableCell c q x → cell_fields c q (cell_numbers x ++ t) ≡ show_cell x
unfolding cell_fields kind_rest operand_rest kind_word cell_numbers is_numbers halves show_cell show_value bytes words_of push
    ReadableCell is_null_or_nan
cell-shown c q (constant v) t h = constant-shown c q v t h
cell-shown c q (column i) t h = refl
cell-shown c q (unary o a) t h = unary-shown c q o a t
cell-shown c q (binary o a b) t h = binary-shown c q o a b t
cell-shown c q (is a null) t h = refl
cell-shown c q (is a (bool b)) t h = absurd (false≢true h)
cell-shown c q (is a (int n)) t h = absurd (false≢true h)
cell-shown c q (is a (float b)) t h = ap (λ n. bytes "is" ∷ decimal_of a ∷ bytes "float" ∷ hex_of 16 n [] ∷ []) (joined b)
cell-shown c q (is a (text w)) t h = absurd (false≢true h)

-- counted from k
pub each-shift : {B : Type 0} (n w k : ℕ) (e : ℕ → List ℕ → List B) (t : List ℕ)
    → each n w (λ i. e (k + suc i)) t ≡ each n w (λ i. e (suc k + i)) t
unfolding each
each-shift n w k e t =
    listed_same n (λ i. e (k + suc i) (drop (i * w) t)) (λ i. e (suc k + i) (drop (i * w) t)) λ i.
    let z : k + suc i ≡ suc k + i = omega arith in rw z

-- the cells from number k on, and numbers behind them
pub cells-shown : (c q : Bytes) (xs : List Cell) (k : ℕ) (t : List ℕ) → All (ReadableCell c q) xs
    → each (length xs) 4 (λ i. cell_line c q (k + i)) (concat (map cell_numbers xs) ++ t)
    ≡ numbered (bytes "cell") k (map show_cell xs)
unfolding each listed numbered All concat cell_line
cells-shown c q [] k t h = refl
cells-shown c q (x ∷ xs) k t h =
    let u = concat (map cell_numbers xs) ++ t in
    let z : k + 0 ≡ k = omega arith in
    rw (append_assoc (cell_numbers x) (concat (map cell_numbers xs)) t)
    (each_first (length xs) 4 (λ i. cell_line c q (k + i)) (cell_numbers x) u (cell-size x)
    ∙ rw (z, cell-shown c q x u h.0) (ap (λ r. (bytes "cell" ∷ decimal_of k ∷ show_cell x) ∷ r)
    (each-shift (length xs) 4 k (cell_line c q) u ∙ cells-shown c q xs (suc k) t h.1)))
