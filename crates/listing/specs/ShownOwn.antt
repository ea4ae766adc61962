-- The statement's own lines are those that the rules print.
use Rattle.std.specs.Prelude.{ℕ, suc, ◌+◌, ◌-◌, ◌≡◌, refl, Bool, true, false, List, [], ◌∷◌, ◌++◌, map, length, get_or, drop}
use Rattle.std.proofs.Common.{arith, zero-add, sym, ap, ◌∙◌, append_assoc}
use Rattle.std.proofs.Math.Numerals.{sub-one}
use Rattle.std.proofs.Math.Option.{Option, none, some}
use Rattle.rules.specs.Lists.{Bytes, concat}
use Rattle.rules.specs.Lines.{Word, bytes}
use Rattle.rules.specs.Places.{bytes_at}
use Rattle.rules.specs.Schema.{Catalog, Value, null, bool, int, float, text, Datatype, boolean, integer, floating, string}
use Rattle.rules.specs.Plan.{Node, TablePosition, cindex, ValuePosition, vindex, Mapping, Made, Plan}
use Rattle.rules.specs.Plan as P
use Rattle.rules.specs.Nodes.{last, nodes, records, node_of, node_records, plan_records}
use Rattle.rules.specs.Area.{flag, span, option_span, value_numbers, mapping_numbers, map_numbers, set_numbers, type_code}
use Rattle.rules.specs.Area.{default_numbers, made_numbers, own_numbers, plan_code}
use Rattle.rules.specs.Print.{decimal_of, show_value, show_mapping, show_column_map, show_sets, show_type, or_dash, null_text}
use Rattle.rules.specs.Print.{show_reference, show_default, show_column, show_columns, yes_no, show_target, show_own}
use Rattle.claims.specs.Answers.{All, Given}
use Rattle.claims.specs.Words.Places.{Placed}
use Rattle.claims.specs.Area.NodeTree.{records-length}
use Rattle.claims.specs.Area.Readable.{ReadableValue, ReadableAlias, ReadableTable, ReadableMade, ReadableOwn}
use Rattle.claims.specs.Room.Nodes.{mapping-size, made-size}
use Rattle.text.specs.Words.{words_of, push}
use Rattle.listing.specs.Words.{word_of}
use Rattle.listing.specs.Choices.{choose}
use Rattle.listing.specs.Lines.{listed, each, each_first}
use Rattle.listing.specs.Cells.{kind_word, value_rest}
use Rattle.listing.specs.Own.{name_line, table_line, pair_line, pair_lines, map_lines, reference_fields, column_line}
use Rattle.listing.specs.Own.{default_line, column_lines, columns_lines, drop_line, create_lines, insert_lines, update_lines}
use Rattle.listing.specs.Own.{own_lines, map-some, reference-some}
use Rattle.listing.specs.ShownCells.{value-shown}

-- the last of a node's records is the node
source-shown : (n : Node ℕ) → length (records 0 n) - 1 ≡ last 0 n
unfolding last
source-shown n = rw (records-length n 0, zero-add (nodes n)) (sub-one (nodes n))

yes-word : (b : Bool) → word_of (bytes "no yes ") (flag b) ≡ yes_no b
unfolding flag yes_no bytes words_of push
yes-word true = refl
yes-word false = refl

-- SETS AND MAPS
sets-shown : (xs : List (ℕ × ℕ)) (u : List ℕ) → pair_lines (bytes "set") (length xs) (set_numbers xs ++ u) ≡ show_sets xs
unfolding pair_lines each listed pair_line set_numbers show_sets
sets-shown [] u = refl
sets-shown (x ∷ xs) u =
    each_first (length xs) 2 (pair_line (bytes "set")) (x.0 ∷ x.1 ∷ []) (set_numbers xs ++ u) refl
    ∙ ap (λ l. (bytes "set" ∷ decimal_of x.0 ∷ decimal_of x.1 ∷ []) ∷ l) (sets-shown xs u)

mapping-shown : (m : Mapping) (t : List ℕ) → pair_line (bytes "map") 0 (mapping_numbers m ++ t) ≡ show_mapping m ∷ []
unfolding mapping_numbers show_mapping pair_line
mapping-shown m t = go m.column m.value
  where
    go : (a : TablePosition) (b : ValuePosition) → pair_line (bytes "map") 0 (mapping_numbers (record { column = a; value = b }) ++ t)
        ≡ show_mapping (record { column = a; value = b }) ∷ []
    go (cindex i) (vindex j) = refl

pairs-later : (f : Bytes) (n : ℕ) (t : List ℕ) → each n 2 (λ i. pair_line f (suc i)) t ≡ each n 2 (pair_line f) t
unfolding each pair_line
pairs-later f n t = refl

maps-shown : (ms : List Mapping) (u : List ℕ)
    → pair_lines (bytes "map") (length ms) (concat (map mapping_numbers ms) ++ u) ≡ map show_mapping ms
unfolding pair_lines each listed concat
maps-shown [] u = refl
maps-shown (m ∷ ms) u =
    let v = concat (map mapping_numbers ms) ++ u in
    rw (append_assoc (mapping_numbers m) (concat (map mapping_numbers ms)) u)
    (each_first (length ms) 2 (pair_line (bytes "map")) (mapping_numbers m) v (mapping-size m)
    ∙ rw (mapping-shown m v) (ap (λ l. show_mapping m ∷ l) (pairs-later (bytes "map") (length ms) v ∙ maps-shown ms u)))

map-shown : (m : Option (List Mapping)) (u : List ℕ)
    → map_lines (get_or (map_numbers m ++ u) 0 0) (drop 1 (map_numbers m ++ u)) ≡ show_column_map m
unfolding map_lines map_numbers show_column_map
map-shown none u = refl
map-shown (some ms) u =
    let e : length ms + 1 - 1 ≡ length ms = omega arith in
    sym (map-some (length ms + 1) (concat (map mapping_numbers ms) ++ u) (λ z. omega (arith, z)))
    ∙ rw e (ap (λ l. (bytes "columns" ∷ decimal_of (length ms) ∷ []) ∷ l) (maps-shown ms u))

-- CREATED COLUMNS
type-word : (y : Datatype) → word_of (bytes " bool int float text ") (type_code y) ≡ show_type y
unfolding type_code show_type bytes words_of push
type-word boolean = refl
type-word integer = refl
type-word floating = refl
type-word string = refl

null_word : (b : Bool) → word_of (bytes "notnull null ") (flag b) ≡ null_text b
unfolding flag null_text bytes words_of push
null_word true = refl
null_word false = refl

unique-word : (b : Bool) → word_of (bytes "- unique ") (flag b) ≡ or_dash b (bytes "unique")
unfolding flag or_dash bytes words_of push
unique-word true = refl
unique-word false = refl

index_word : (b : Bool) → word_of (bytes "- index ") (flag b) ≡ or_dash b (bytes "index")
unfolding flag or_dash bytes words_of push
index_word true = refl
index_word false = refl

reference-shown : (c q : Bytes) (r : Option Word) (d t : List ℕ) → Given (ReadableAlias c q) r
    → reference_fields c q (get_or ((option_span r ++ d) ++ t) 0 0) (get_or ((option_span r ++ d) ++ t) 1 0) ≡ show_reference r
unfolding reference_fields option_span span show_reference Given ReadableAlias Placed
reference-shown c q none d t h = refl
reference-shown c q (some w) d t h =
    sym (reference-some c q w.start (length w.bytes) (λ z. omega (arith, h.1, z))) ∙ ap (λ b. b ∷ []) h.0

column-shown : (c q : Bytes) (m : Made) (t : List ℕ) → ReadableMade c q m
    → column_line c q (made_numbers m ++ t) ≡ show_column m ∷ []
unfolding column_line made_numbers span show_column ReadableMade Placed
column-shown c q m t h =
    let e : bytes_at c q m.name.start (length m.name.bytes) ≡ m.name.bytes = h.1 in
    rw (
      e,
      type-word m.type,
      null_word m.nullable,
      unique-word m.unique,
      index_word m.index,
      reference-shown c q m.reference (default_numbers m.default) t h.2,
    )

default-part : (r : Option Word) (d t : List ℕ) → drop 2 ((option_span r ++ d) ++ t) ≡ d ++ t
unfolding option_span span
default-part none d t = refl
default-part (some w) d t = refl

made-default : (m : Made) (t : List ℕ) → drop 8 (made_numbers m ++ t) ≡ default_numbers m.default ++ t
unfolding made_numbers span
made-default m t = default-part m.reference (default_numbers m.default) t

default-word : (v : Value) (t : List ℕ) → word_of (bytes "nodefault null bool int float text ") (get_or (value_numbers v ++ t) 0 0)
    ≡ kind_word (get_or (value_numbers v ++ t) 0 0)
unfolding kind_word value_numbers bytes words_of push
default-word null t = refl
default-word (bool b) t = refl
default-word (int n) t = refl
default-word (float b) t = refl
default-word (text w) t = refl

default-some : (c q : Bytes) (v : Value) (t : List ℕ) → ReadableValue c q v
    → default_line c q (value_numbers v ++ t) ≡ show_value v ∷ []
unfolding default_line
default-some c q v t h = rw (default-word v t) (ap (λ l. l ∷ []) (value-shown c q v t h))

default-shown : (c q : Bytes) (v : Option Value) (t : List ℕ) → Given (ReadableValue c q) v
    → default_line c q (default_numbers v ++ t) ≡ show_default v ∷ []
unfolding default_line default_numbers show_default value_rest choose bytes words_of push Given
default-shown c q none t h = refl
default-shown c q (some v) t h = default-some c q v t h

made-shown : (c q : Bytes) (m : Made) (t : List ℕ) → ReadableMade c q m
    → column_lines c q 0 (made_numbers m ++ t) ≡ show_column m ∷ (show_default m.default ∷ [])
unfolding column_lines ReadableMade
made-shown c q m t h =
    ap (λ l. l ++ default_line c q (drop 8 (made_numbers m ++ t))) (column-shown c q m t h)
    ∙ ap (λ l. show_column m ∷ l) (ap (default_line c q) (made-default m t) ∙ default-shown c q m.default t h.0)

columns-shown : (c q : Bytes) (cs : List Made) (u : List ℕ) → All (ReadableMade c q) cs
    → columns_lines c q (length cs) (concat (map made_numbers cs) ++ u) ≡ show_columns cs
unfolding columns_lines each listed concat show_columns All column_lines
columns-shown c q [] u h = refl
columns-shown c q (m ∷ cs) u h =
    let v = concat (map made_numbers cs) ++ u in
    rw (append_assoc (made_numbers m) (concat (map made_numbers cs)) u)
    (each_first (length cs) 12 (column_lines c q) (made_numbers m) v (made-size m)
    ∙ rw (made-shown c q m v h.0) (ap (λ l. show_column m ∷ (show_default m.default ∷ l)) (columns-shown c q cs u h.1)))

-- BY STATEMENT
pub own-shown : (c q : Bytes) (ts : Catalog) (p : Plan ℕ) (u : List ℕ) → ReadableOwn c q ts p
    → own_lines c q (plan_code p) (length (plan_records p) - 1) (own_numbers p ++ u) ≡ show_own p
unfolding own_lines choose plan_code own_numbers show_own plan_records node_of node_records ReadableOwn ReadableTable Placed
    table_line name_line drop_line create_lines insert_lines update_lines show_target span
own-shown c q ts (P.select n) u h = refl
own-shown c q ts (P.create n k cs) u h =
    let e : bytes_at c q n.start (length n.bytes) ≡ n.bytes = h.0 in
    rw e (ap (λ l. (bytes "create" ∷ n.bytes ∷ decimal_of k ∷ []) ∷ l) (columns-shown c q cs u h.1))
own-shown c q ts (P.drop n y) u h =
    let e : bytes_at c q n.start (length n.bytes) ≡ n.bytes = h in
    rw (e, yes-word y)
own-shown c q ts (P.delete t n) u h =
    let e : bytes_at c q t.name.start (length t.name.bytes) ≡ t.name.bytes = h.1 in
    rw (e, source-shown n)
own-shown c q ts (P.insert t m n) u h =
    let e : bytes_at c q t.name.start (length t.name.bytes) ≡ t.name.bytes = h.1 in
    rw (e, source-shown n) (ap (λ l. (bytes "insert" ∷ t.name.bytes ∷ decimal_of (last 0 n) ∷ []) ∷ l) (map-shown m u))
own-shown c q ts (P.update t n xs) u h =
    let e : bytes_at c q t.name.start (length t.name.bytes) ≡ t.name.bytes = h.1 in
    rw (e, source-shown n)
    (ap (λ l. (bytes "update" ∷ t.name.bytes ∷ decimal_of t.key ∷ decimal_of (last 0 n) ∷ []) ∷ l) (sets-shown xs u))
