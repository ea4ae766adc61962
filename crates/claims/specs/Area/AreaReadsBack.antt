-- Cells and node records are read back from their numbers.
use Rattle.std.specs.Prelude.{ℕ, zero, suc, ◌<◌, ◌≡◌, refl, Bool, true, false, List, [], ◌∷◌, ◌++◌, map, length}
use Rattle.std.proofs.Common.{arith, add-one, ap, append-nil, eq-eqb}
use Rattle.std.proofs.lemmas.Bool.{false≢true}
use Rattle.std.proofs.Math.Option.{Option, none, some}
use Rattle.rules.specs.Lists.{Bytes, map_option}
use Rattle.rules.specs.Lines.{Word}
use Rattle.rules.specs.Schema.{Value, null, bool, int, float, text, Table, Catalog, get_table, named_by}
use Rattle.rules.specs.Ast.{Unary, not, fact, ident, neg, sqrt, Plain, and, or, eq, gt, lt, add, div, pow, mul, rem}
use Rattle.rules.specs.Ast.{sub, like}
use Rattle.rules.specs.Codes.{unary_code, plain_code}
use Rattle.rules.specs.Plan.{Aggregate, avg, count, max, min, sum, map_second}
use Rattle.rules.specs.Cells.{Cell, constant, column, unary, binary, is}
use Rattle.rules.specs.BuildExpression.{is_null_or_nan}
use Rattle.rules.specs.Nodes.{NodeRecord, scan, values, join, filter, aggregate, project, order, offset, limit, remap}
use Rattle.rules.specs.Places.{word_at}
use Rattle.rules.specs.Area.{halves, flag, span, option_span, option_number, value_numbers, is_numbers, cell_numbers}
use Rattle.rules.specs.Area.{aggregate_code}
use Rattle.rules.specs.Area.{row_numbers, function_numbers, item_numbers, key_numbers, sized, record_numbers}
use Rattle.numbers.specs.Bits.{joined-halves, signed-bits}
use Rattle.claims.specs.Answers.{Any, All, Given, all-every}
use Rattle.claims.specs.Words.Places.{Placed}
use Rattle.claims.specs.Area.Readings.{Reading, give, ◌>>=◌, giving, found, demand, number, exactly, times, all}
use Rattle.claims.specs.Area.Readings.{padded, decoded, code_here, kind_here}
use Rattle.claims.specs.Area.ReadArea.{long_here, flag_here, optional, optional_here, placed, word_here}
use Rattle.claims.specs.Area.ReadArea.{optional_name, alias_here, table_here}
use Rattle.claims.specs.Area.ReadArea.{value_forms, unaries, plains, unary_here, binary_here, is_nan, is_nan_here}
use Rattle.claims.specs.Area.ReadArea.{cell_forms}
use Rattle.claims.specs.Area.ReadArea.{cell_here}
use Rattle.claims.specs.Area.ReadArea.{aggregates, row_here, function_here, item_here, key_here, scan_here, join_here}
use Rattle.claims.specs.Area.ReadArea.{aggregate_here, over, record_forms, record_here}
use Rattle.claims.specs.Area.ReadingLaws.{Reads, step, giving-reads, code_reads, kind-first}
use Rattle.claims.specs.Area.ReadingLaws.{whole-reads, numbers-read, all-reads}
use Rattle.claims.specs.Area.Readable.{ReadableValue, ReadableCell, ReadableAlias, ReadableTable}
use Rattle.claims.specs.Area.Readable.{ReadableRecord}

-- PARTS
pub optional-reads : (x : Option ℕ) → Reads optional_here (λ y. option_number y ∷ []) x
unfolding optional_here option_number number giving give optional ◌>>=◌
optional-reads none s = refl
optional-reads (some n) s = rw add-one

pub flag-reads : (b : Bool) → Reads flag_here (λ y. flag y ∷ []) b
unfolding flag_here flag code_here decoded number found ◌>>=◌
flag-reads true s = refl
flag-reads false s = refl

long-reads : (n : ℕ) → Reads long_here halves n
unfolding long_here halves number give ◌>>=◌
long-reads n s = rw joined-halves

-- WORDS
-- a placed word is the one at its address
placed-word : (c q : Bytes) (w : Word) → Placed c q w → word_at c q w.start (length w.bytes) ≡ w
unfolding word_at Placed
placed-word c q w h = ap (λ b. record { bytes = b; start = w.start }) h

placed-there : (c q : Bytes) (w : Word) → Placed c q w → placed c q w.start (length w.bytes) ≡ some w
unfolding placed
placed-there c q w h =
    rw (placed, placed-word c q w h, eq-eqb (length w.bytes) (length w.bytes) refl) (rw (placed-word c q w h))

pub word-reads : (c q : Bytes) (w : Word) → Placed c q w → Reads (word_here c q) span w
unfolding word_here span number found ◌>>=◌
word-reads c q w h s = rw (placed-there c q w h)

alias-there : (c q : Bytes) (w : Word) → ReadableAlias c q w
    → optional_name c q w.start (length w.bytes) ≡ some (some w)
unfolding ReadableAlias optional_name map_option
alias-there c q w h = go (length w.bytes) h.1 (placed-there c q w h.0)
  where
    go : (n : ℕ) → 0 < n → placed c q w.start n ≡ some w → optional_name c q w.start n ≡ some (some w)
    go zero l e = absurd (omega arith)
    go (suc n) l e = rw e

pub alias-reads : (c q : Bytes) (a : Option Word) → Given (ReadableAlias c q) a → Reads (alias_here c q) option_span a
unfolding alias_here option_span span number found optional_name Given ◌>>=◌
alias-reads c q none h s = refl
alias-reads c q (some w) h s = rw (alias-there c q w h)

pub table-reads : (c q : Bytes) (ts : Catalog) (t : Table) → ReadableTable c q ts t
    → Reads (table_here c q ts) (λ u. span u.name) t
unfolding table_here ReadableTable map_option found give ◌>>=◌
table-reads c q ts t h s =
    step (word_here c q) _ _ (word-reads c q t.name h.1 s) (go (get_table ts t.name.bytes) h.0)
  where
    go : (o : Option Table) → map_option (named_by t.name) o ≡ some t
        → (found o >>= λ u. give (named_by t.name u)) s ≡ some (t, s)
    go none e = grind arith
    go (some u) e = let k : named_by t.name u ≡ t = cc in rw k

-- CELLS
-- a word, and a zero behind it
text-reads : (c q : Bytes) (w : Word) (s : List ℕ) → Placed c q w
    → padded 1 (giving text (word_here c q)) (span w ++ (0 ∷ s)) ≡ some (text w, s)
unfolding padded times exactly number demand give ◌>>=◌
text-reads c q w s h =
    step (giving text (word_here c q)) _ _ (giving-reads text (word_here c q) (word-reads c q w h (0 ∷ s))) refl

-- a readable value is read back from its numbers
pub value-reads : (c q : Bytes) (v : Value) → ReadableValue c q v → Reads (kind_here (value_forms c q)) value_numbers v
unfolding kind_here code_here decoded value_forms long_here flag_here padded giving give found number exactly demand times
    ◌>>=◌
    value_numbers halves span flag ReadableValue
value-reads c q null h s = refl
value-reads c q (bool true) h s = refl
value-reads c q (bool false) h s = refl
value-reads c q (int n) h s = rw (joined-halves, signed-bits n h)
value-reads c q (float b) h s = rw joined-halves
value-reads c q (text w) h s = text-reads c q w s h

constant-reads : (c q : Bytes) (v : Value) (s : List ℕ) → ReadableValue c q v
    → cell_here c q (value_numbers v ++ s) ≡ some (constant v, s)
unfolding cell_here cell_forms
constant-reads c q v s h = kind-first constant (value_forms c q) _ _ s v (value-reads c q v h s)

unary-reads : (c q : Bytes) (o : Unary) (a : ℕ) (s : List ℕ)
    → cell_here c q (unary_code o ∷ a ∷ 0 ∷ 0 ∷ s) ≡ some (unary o a, s)
unfolding cell_here kind_here code_here decoded cell_forms value_forms unaries unary_here map_second unary_code
    padded giving give found number exactly demand times ◌>>=◌
unary-reads c q not a s = refl
unary-reads c q fact a s = refl
unary-reads c q ident a s = refl
unary-reads c q neg a s = refl
unary-reads c q sqrt a s = refl

binary-reads : (c q : Bytes) (o : Plain) (a b : ℕ) (s : List ℕ)
    → cell_here c q (plain_code o ∷ a ∷ b ∷ 0 ∷ s) ≡ some (binary o a b, s)
unfolding cell_here kind_here code_here decoded cell_forms value_forms unaries plains binary_here map_second plain_code
    padded giving give found number exactly demand times ◌>>=◌
binary-reads c q and a b s = refl
binary-reads c q or a b s = refl
binary-reads c q eq a b s = refl
binary-reads c q gt a b s = refl
binary-reads c q lt a b s = refl
binary-reads c q add a b s = refl
binary-reads c q div a b s = refl
binary-reads c q pow a b s = refl
binary-reads c q mul a b s = refl
binary-reads c q rem a b s = refl
binary-reads c q sub a b s = refl
binary-reads c q like a b s = refl

-- a readable cell is read back from its numbers
pub cell-reads : (c q : Bytes) (x : Cell) → ReadableCell c q x → Reads (cell_here c q) cell_numbers x
unfolding cell_here kind_here code_here decoded cell_forms value_forms map_second is_nan_here long_here
    padded giving give found number exactly demand times ◌>>=◌ cell_numbers is_numbers halves
    ReadableCell is_nan is_null_or_nan
cell-reads c q (constant v) h s = constant-reads c q v s h
cell-reads c q (column i) h s = refl
cell-reads c q (unary o a) h s = unary-reads c q o a s
cell-reads c q (binary o a b) h s = binary-reads c q o a b s
cell-reads c q (is a null) h s = refl
cell-reads c q (is a (bool b)) h s = absurd (false≢true h)
cell-reads c q (is a (int n)) h s = absurd (false≢true h)
cell-reads c q (is a (float b)) h s = rw (joined-halves, h)
cell-reads c q (is a (text w)) h s = absurd (false≢true h)

-- PARTS OF NODES
row_reads : (r : List ℕ) → Reads row_here (λ x. length x ∷ x) r
unfolding row_here number
row_reads r s = step number _ _ refl (numbers-read r s)

aggregate-back : (f : Aggregate) → decoded aggregates (aggregate_code f) ≡ some f
unfolding decoded aggregates aggregate_code
aggregate-back avg = refl
aggregate-back count = refl
aggregate-back max = refl
aggregate-back min = refl
aggregate-back sum = refl

function-reads : (f : Aggregate × ℕ) → Reads function_here (λ g. aggregate_code g.0 ∷ g.1 ∷ []) f
unfolding function_here number give
function-reads f s =
    step (code_here aggregates) _ _ (code_reads aggregates _ _ _ (aggregate-back f.0)) (step number _ _ refl refl)

item-reads : (c q : Bytes) (x : ℕ × Option Word) → Given (ReadableAlias c q) x.1
    → Reads (item_here c q) (λ y. y.0 ∷ option_span y.1) x
unfolding item_here number give
item-reads c q x h s = step number _ _ refl (step (alias_here c q) _ _ (alias-reads c q x.1 h s) refl)

key_reads : (x : ℕ × Bool) → Reads key_here (λ y. y.0 ∷ flag y.1 ∷ []) x
unfolding key_here number give
key_reads x s = step number _ _ refl (step flag_here _ _ (flag-reads x.1 s) refl)

-- LISTS OF THEM
-- every entry of a list, where nothing is asked of it
free : {A : Type 0} (xs : List A) → All Any xs
free xs = all-every Any (λ x. tt) xs

rows-read : (rs : List (List ℕ)) → all row_here (row_numbers rs) ≡ some (rs, [])
unfolding row_numbers
rows-read rs = all-reads row_here length (λ r. r) _ (λ r u. row_reads r) row_numbers refl (λ r rs. refl) rs (free rs)

functions-read : (fs : List (Aggregate × ℕ)) → all function_here (function_numbers fs) ≡ some (fs, [])
unfolding function_numbers
functions-read fs =
    all-reads function_here _ (λ f. f.1 ∷ []) _ (λ f u. function-reads f) function_numbers refl (λ f fs. refl) fs
    (free fs)

items-read : (c q : Bytes) (xs : List (ℕ × Option Word)) → All (λ x. Given (ReadableAlias c q) x.1) xs
    → all (item_here c q) (item_numbers xs) ≡ some (xs, [])
unfolding item_numbers
items-read c q xs h =
    all-reads (item_here c q) (λ x. x.0) (λ x. option_span x.1) _ (λ x u. item-reads c q x u) item_numbers refl
    (λ x xs. refl) xs h

keys-read : (xs : List (ℕ × Bool)) → all key_here (key_numbers xs) ≡ some (xs, [])
unfolding key_numbers
keys-read xs =
    all-reads key_here (λ x. x.0) (λ x. flag x.1 ∷ []) _ (λ x u. key_reads x) key_numbers refl (λ x xs. refl) xs
    (free xs)

targets-read : (xs : List (Option ℕ)) → all optional_here (map option_number xs) ≡ some (xs, [])
targets-read xs =
    all-reads optional_here option_number (λ x. []) _ (λ x u. optional-reads x) (map option_number) refl (λ x xs. refl) xs
    (free xs)

-- NODES
sized_reads : (c q : Bytes) (ts : Catalog) (k : ℕ) (m : Reading NodeRecord) (b : List ℕ) (r : NodeRecord)
    → decoded (record_forms c q ts) k ≡ some m
    → m b ≡ some (r, []) → (s : List ℕ) → record_here c q ts (sized k b ++ s) ≡ some (r, s)
unfolding record_here sized number found
sized_reads c q ts k m b r e h s =
    step (code_here (record_forms c q ts)) _ _ (code_reads _ k m _ e) (step number _ _ refl
    (step (times (length b) number) _ _ (numbers-read b s) (rw (whole-reads m b r h))))

over_reads : {A : Type 0} (f : ℕ → A → NodeRecord) (m : Reading A) (n : ℕ) (b : List ℕ) (a : A) → m b ≡ some (a, [])
    → over f m (n ∷ b) ≡ some (f n a, [])
unfolding over number give
over_reads f m n b a e = step number _ _ refl (step m _ _ e refl)

scan-reads : (c q : Bytes) (ts : Catalog) (t : Table) (a : Option Word) (x : Option ℕ) → ReadableTable c q ts t
    → Given (ReadableAlias c q) a
    → scan_here c q ts (span t.name ++ (option_number x ∷ option_span a)) ≡ some (scan t a x, [])
unfolding scan_here give
scan-reads c q ts t a x h g =
    step (table_here c q ts) _ _ (table-reads c q ts t h _) (step optional_here _ _ (optional-reads x _)
    (step (alias_here c q) _ _ (rw append-nil at (alias-reads c q a g [])) refl))

join-reads : (a b : ℕ) (x : Option ℕ) (o : Bool)
    → join_here (a ∷ b ∷ flag o ∷ option_number x ∷ []) ≡ some (join a b x o, [])
unfolding join_here number give
join-reads a b x o =
    step number _ _ refl (step number _ _ refl
    (step flag_here _ _ (flag-reads o _) (step optional_here _ _ (optional-reads x []) refl)))

aggregate-reads : (n : ℕ) (gs : List ℕ) (fs : List (Aggregate × ℕ))
    → aggregate_here (n ∷ length gs ∷ (gs ++ function_numbers fs)) ≡ some (aggregate n gs fs, [])
unfolding aggregate_here number give
aggregate-reads n gs fs =
    step number _ _ refl (step number _ _ refl
    (step (times (length gs) number) _ _ (numbers-read gs (function_numbers fs))
    (step (all function_here) _ _ (functions-read fs) refl)))

-- a readable node record is read back from its numbers
pub record-reads : (c q : Bytes) (ts : Catalog) (r : NodeRecord) → ReadableRecord c q ts r
    → Reads (record_here c q ts) record_numbers r
unfolding record_numbers ReadableRecord record_forms decoded number halves
record-reads c q ts (scan t a x) h = sized_reads c q ts 1 _ _ _ refl (scan-reads c q ts t a x h.0 h.1)
record-reads c q ts (values rs) h = sized_reads c q ts 2 _ _ _ refl (giving-reads values (all row_here) (rows-read rs))
record-reads c q ts (join a b x o) h = sized_reads c q ts 3 _ _ _ refl (join-reads a b x o)
record-reads c q ts (filter n x) h = sized_reads c q ts 4 _ _ _ refl (over_reads filter number n _ x refl)
record-reads c q ts (aggregate n gs fs) h = sized_reads c q ts 5 _ _ _ refl (aggregate-reads n gs fs)
record-reads c q ts (project n xs) h =
    sized_reads c q ts 6 _ _ _ refl (over_reads project (all (item_here c q)) n _ xs (items-read c q xs h))
record-reads c q ts (order n xs) h =
    sized_reads c q ts 7 _ _ _ refl (over_reads order (all key_here) n _ xs (keys-read xs))
record-reads c q ts (offset n k) h =
    sized_reads c q ts 8 _ _ _ refl (over_reads offset long_here n _ k (long-reads k []))
record-reads c q ts (limit n k) h = sized_reads c q ts 9 _ _ _ refl (over_reads limit long_here n _ k (long-reads k []))
record-reads c q ts (remap n xs) h =
    sized_reads c q ts 10 _ _ _ refl (over_reads remap (all optional_here) n _ xs (targets-read xs))
