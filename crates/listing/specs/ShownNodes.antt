-- The lines of nodes are those that the rules print.
use Rattle.std.specs.Prelude.{ℕ, zero, suc, ◌+◌, ◌-◌, ◌/◌, ◌≡◌, refl, Bool, true, false, List, [], ◌∷◌, ◌++◌, map, length, get_or, drop}
use Rattle.std.proofs.Common.{arith, sym, ap, ◌∙◌, append_assoc}
use Rattle.std.proofs.Math.Option.{Option, none, some}
use Rattle.std.proofs.Math.Seq.{take-append_seam, drop-append_seam}
use Rattle.rules.specs.Lists.{Bytes, concat}
use Rattle.rules.specs.Lines.{Word, bytes}
use Rattle.rules.specs.Places.{bytes_at}
use Rattle.rules.specs.Schema.{Catalog}
use Rattle.rules.specs.Plan.{Aggregate, avg, count, max, min, sum}
use Rattle.rules.specs.Nodes.{NodeRecord, scan, values, join, filter, aggregate, project, order, offset, limit, remap}
use Rattle.rules.specs.Area.{halves, flag, span, option_span, option_number, aggregate_code, row_numbers, function_numbers}
use Rattle.rules.specs.Area.{item_numbers, key_numbers, sized, record_numbers}
use Rattle.rules.specs.Print.{decimal_of, show_alias, show_given, show_targets, show_rows, outer, direction, show_aggregate}
use Rattle.rules.specs.Print.{show_items, show_keys, show_functions, show_record, numbered}
use Rattle.claims.specs.Answers.{All, Given}
use Rattle.claims.specs.Words.Places.{Placed}
use Rattle.claims.specs.Area.Readable.{ReadableAlias, ReadableTable, ReadableRecord}
use Rattle.claims.specs.Room.Nodes.{alias-size, functions-size, items-size, keys-size}
use Rattle.text.specs.Words.{words_of, push}
use Rattle.listing.specs.Words.{word_of}
use Rattle.listing.specs.Choices.{choose}
use Rattle.listing.specs.Lines.{listed, listed_same, listed-first, each, each_first}
use Rattle.listing.specs.Nodes.{alias_fields, given_fields, number_fields, function_fields, functions_fields, item_fields}
use Rattle.listing.specs.Nodes.{items_fields, key_fields, keys_fields, target_fields, targets_fields, row_fields, scan_fields}
use Rattle.listing.specs.Nodes.{join_fields, filter_fields, aggregate_fields, project_fields, order_fields, limit_fields}
use Rattle.listing.specs.Nodes.{remap_fields, node_rest, node_word, node_fields, node_line, behind, alias-some, given-some, target-some}
use Rattle.listing.specs.ShownCells.{joined}

-- PARTS
alias-some-shown : (c q : Bytes) (w : Word) → ReadableAlias c q w
    → alias_fields c q w.start (length w.bytes) ≡ bytes "as" ∷ w.bytes ∷ []
unfolding ReadableAlias Placed
alias-some-shown c q w h =
    sym (alias-some c q w.start (length w.bytes) (λ z. omega (arith, h.1, z))) ∙ ap (λ b. bytes "as" ∷ b ∷ []) h.0

alias-shown : (c q : Bytes) (a : Option Word) (t : List ℕ) → Given (ReadableAlias c q) a
    → alias_fields c q (get_or (option_span a ++ t) 0 0) (get_or (option_span a ++ t) 1 0) ≡ show_alias a
unfolding alias_fields option_span span show_alias Given
alias-shown c q none t h = refl
alias-shown c q (some w) t h = alias-some-shown c q w h

given-shown : (x : Option ℕ) → given_fields (option_number x) ≡ show_given x
unfolding given_fields option_number show_given
given-shown none = refl
given-shown (some n) =
    let e : n + 1 - 1 ≡ n = omega arith in
    sym (given-some (n + 1) (λ z. omega (arith, z))) ∙ ap (λ k. decimal_of k ∷ []) e

row-cells : (r t : List ℕ) → row_fields (length r) (r ++ t) ≡ map decimal_of r ++ row_fields 0 t
unfolding row_fields
row-cells [] t = refl
row-cells (x ∷ r) t = ap (λ u. decimal_of x ∷ u) (row-cells r t)

rows-shown : (rs : List (List ℕ)) → row_fields 0 (row_numbers rs) ≡ show_rows rs
unfolding row_fields row_numbers show_rows
rows-shown [] = refl
rows-shown (r ∷ rs) = ap (λ u. bytes "row" ∷ decimal_of (length r) ∷ u)
    (row-cells r (row_numbers rs) ∙ ap (λ u. map decimal_of r ++ u) (rows-shown rs))

numbers-shown : (gs t : List ℕ) → each (length gs) 1 number_fields (gs ++ t) ≡ map decimal_of gs
unfolding each listed number_fields
numbers-shown [] t = refl
numbers-shown (x ∷ gs) t =
    each_first (length gs) 1 number_fields (x ∷ []) (gs ++ t) refl ∙ ap (λ r. decimal_of x ∷ r) (numbers-shown gs t)

aggregate-word : (a : Aggregate) → word_of (bytes " avg count max min sum ") (aggregate_code a) ≡ show_aggregate a
unfolding aggregate_code show_aggregate bytes words_of push
aggregate-word avg = refl
aggregate-word count = refl
aggregate-word max = refl
aggregate-word min = refl
aggregate-word sum = refl

functions-each : (fs : List (Aggregate × ℕ)) → each (length fs) 2 function_fields (function_numbers fs) ≡ show_functions fs
unfolding each listed function_fields function_numbers show_functions
functions-each [] = refl
functions-each (f ∷ fs) =
    each_first (length fs) 2 function_fields (aggregate_code f.0 ∷ f.1 ∷ []) (function_numbers fs) refl
    ∙ rw (aggregate-word f.0) (ap (λ r. show_aggregate f.0 ∷ decimal_of f.1 ∷ r) (functions-each fs))

functions-shown : (fs : List (Aggregate × ℕ)) → functions_fields (function_numbers fs) ≡ show_functions fs
unfolding functions_fields
functions-shown fs =
    let e : length (function_numbers fs) / 2 ≡ length fs = omega (arith, functions-size fs) in
    rw e (functions-each fs)

items-each : (c q : Bytes) (xs : List (ℕ × Option Word)) → All (λ x. Given (ReadableAlias c q) x.1) xs
    → each (length xs) 3 (item_fields c q) (item_numbers xs) ≡ show_items xs
unfolding each listed item_fields item_numbers show_items All
items-each c q [] h = refl
items-each c q (x ∷ xs) h =
    each_first (length xs) 3 (item_fields c q) (x.0 ∷ option_span x.1) (item_numbers xs) (ap suc (alias-size x.1))
    ∙ rw (alias-shown c q x.1 (item_numbers xs) h.0)
    (ap (λ r. decimal_of x.0 ∷ (show_alias x.1 ++ r)) (items-each c q xs h.1))

items_shown : (c q : Bytes) (xs : List (ℕ × Option Word)) → All (λ x. Given (ReadableAlias c q) x.1) xs
    → items_fields c q (item_numbers xs) ≡ show_items xs
unfolding items_fields
items_shown c q xs h =
    let e : length (item_numbers xs) / 3 ≡ length xs = omega (arith, items-size xs) in
    rw e (items-each c q xs h)

direction-word : (b : Bool) → word_of (bytes "asc desc ") (flag b) ≡ direction b
unfolding flag direction bytes words_of push
direction-word true = refl
direction-word false = refl

keys-each : (xs : List (ℕ × Bool)) → each (length xs) 2 key_fields (key_numbers xs) ≡ show_keys xs
unfolding each listed key_fields key_numbers show_keys
keys-each [] = refl
keys-each (x ∷ xs) =
    each_first (length xs) 2 key_fields (x.0 ∷ flag x.1 ∷ []) (key_numbers xs) refl
    ∙ rw (direction-word x.1) (ap (λ r. decimal_of x.0 ∷ direction x.1 ∷ r) (keys-each xs))

keys-shown : (xs : List (ℕ × Bool)) → keys_fields (key_numbers xs) ≡ show_keys xs
unfolding keys_fields
keys-shown xs =
    let e : length (key_numbers xs) / 2 ≡ length xs = omega (arith, keys-size xs) in
    rw e (keys-each xs)

some-target : (n : ℕ) (t : List ℕ) → target_fields 0 ((n + 1) ∷ t) ≡ decimal_of n ∷ []
some-target n t =
    let e : n + 1 - 1 ≡ n = omega arith in
    sym (target-some ((n + 1) ∷ t) 0 (n + 1) refl (λ z. omega (arith, z))) ∙ ap (λ k. decimal_of k ∷ []) e

targets-shown : (ts : List (Option ℕ)) → targets_fields (map option_number ts) ≡ show_targets ts
unfolding targets_fields each listed target_fields option_number show_targets
targets-shown [] = refl
targets-shown (none ∷ ts) =
    each_first (length (map option_number ts)) 1 target_fields (0 ∷ []) (map option_number ts) refl
    ∙ ap (λ r. bytes "-" ∷ r) (targets-shown ts)
targets-shown (some n ∷ ts) =
    each_first (length (map option_number ts)) 1 target_fields ((n + 1) ∷ []) (map option_number ts) refl
    ∙ rw (some-target n (map option_number ts)) (ap (λ r. decimal_of n ∷ r) (targets-shown ts))

alias-here : (c q : Bytes) (a : Option Word) → Given (ReadableAlias c q) a
    → alias_fields c q (get_or (option_span a) 0 0) (get_or (option_span a) 1 0) ≡ show_alias a
unfolding alias_fields option_span span show_alias Given
alias-here c q none h = refl
alias-here c q (some w) h = alias-some-shown c q w h

outer-word : (o : Bool) → word_of (bytes "inner outer ") (flag o) ≡ outer o
unfolding flag outer bytes words_of push
outer-word true = refl
outer-word false = refl

-- NODES
scan-shown : (c q : Bytes) (w : Word) (a : Option Word) (x : Option ℕ) → Placed c q w → Given (ReadableAlias c q) a
    → scan_fields c q (span w ++ (option_number x ∷ option_span a)) ≡ w.bytes ∷ (show_alias a ++ show_given x)
unfolding scan_fields span Placed
scan-shown c q w a x h g =
    let e : bytes_at c q w.start (length w.bytes) ≡ w.bytes = h in
    rw (e, alias-here c q a g, given-shown x)

join-shown : (a b : ℕ) (x : Option ℕ) (o : Bool)
    → join_fields (a ∷ b ∷ flag o ∷ option_number x ∷ []) ≡ decimal_of a ∷ decimal_of b ∷ outer o ∷ show_given x
unfolding join_fields
join-shown a b x o = rw (outer-word o, given-shown x)

aggregate-shown : (n : ℕ) (gs : List ℕ) (fs : List (Aggregate × ℕ))
    → aggregate_fields (n ∷ length gs ∷ (gs ++ function_numbers fs)) ≡ decimal_of n ∷ (map decimal_of gs ++ show_functions fs)
unfolding aggregate_fields
aggregate-shown n gs fs =
    let e : 2 + length gs ≡ suc (suc (length gs)) = omega arith in
    rw (e, numbers-shown gs (function_numbers fs), drop-append_seam gs (function_numbers fs), functions-shown fs)

node-body : (c q : Bytes) (k : ℕ) (b t : List ℕ) → node_fields c q (sized k b ++ t) ≡ node_word k ∷ node_rest c q k b
unfolding node_fields sized
node-body c q k b t = ap (λ r. node_word k ∷ node_rest c q k r) (take-append_seam b t)

record-shown : (c q : Bytes) (ts : Catalog) (r : NodeRecord) (t : List ℕ) → ReadableRecord c q ts r
    → node_fields c q (record_numbers r ++ t) ≡ show_record r
unfolding record_numbers show_record node_word node_rest choose bytes words_of push filter_fields project_fields order_fields
    limit_fields remap_fields halves ReadableRecord ReadableTable
record-shown c q ts (scan t a x) u h =
    node-body c q 1 (span t.name ++ (option_number x ∷ option_span a)) u
    ∙ ap (λ r. bytes "scan" ∷ r) (scan-shown c q t.name a x h.0.1 h.1)
record-shown c q ts (values rs) u h = node-body c q 2 (row_numbers rs) u ∙ ap (λ r. bytes "values" ∷ r) (rows-shown rs)
record-shown c q ts (join a b x o) u h =
    node-body c q 3 (a ∷ b ∷ flag o ∷ option_number x ∷ []) u ∙ ap (λ r. bytes "join" ∷ r) (join-shown a b x o)
record-shown c q ts (filter n x) u h = node-body c q 4 (n ∷ x ∷ []) u
record-shown c q ts (aggregate n gs fs) u h =
    node-body c q 5 (n ∷ length gs ∷ (gs ++ function_numbers fs)) u ∙ ap (λ r. bytes "aggregate" ∷ r) (aggregate-shown n gs fs)
record-shown c q ts (project n xs) u h =
    node-body c q 6 (n ∷ item_numbers xs) u ∙ ap (λ r. bytes "project" ∷ decimal_of n ∷ r) (items_shown c q xs h)
record-shown c q ts (order n xs) u h =
    node-body c q 7 (n ∷ key_numbers xs) u ∙ ap (λ r. bytes "order" ∷ decimal_of n ∷ r) (keys-shown xs)
record-shown c q ts (offset n k) u h =
    node-body c q 8 (n ∷ halves k) u ∙ ap (λ j. bytes "offset" ∷ decimal_of n ∷ decimal_of j ∷ []) (joined k)
record-shown c q ts (limit n k) u h =
    node-body c q 9 (n ∷ halves k) u ∙ ap (λ j. bytes "limit" ∷ decimal_of n ∷ decimal_of j ∷ []) (joined k)
record-shown c q ts (remap n xs) u h =
    node-body c q 10 (n ∷ map option_number xs) u ∙ ap (λ r. bytes "remap" ∷ decimal_of n ∷ r) (targets-shown xs)

-- THE NODE BEHIND
behind-shift : (i : ℕ) (s : List ℕ) → behind (suc i) s ≡ behind i (behind 1 s)
unfolding behind
behind-shift zero s = refl
behind-shift (suc i) s = ap (λ u. drop (2 + get_or u 1 0) u) (behind-shift i s)

sized-next : (k : ℕ) (b u : List ℕ) → behind 1 (sized k b ++ u) ≡ u
unfolding behind sized
sized-next k b u =
    let e : 2 + length b ≡ suc (suc (length b)) = omega arith in
    rw e (drop-append_seam b u)

record-next : (r : NodeRecord) (u : List ℕ) → behind 1 (record_numbers r ++ u) ≡ u
unfolding record_numbers
record-next (scan t a x) u = sized-next 1 _ u
record-next (values rs) u = sized-next 2 _ u
record-next (join a b x o) u = sized-next 3 _ u
record-next (filter n x) u = sized-next 4 _ u
record-next (aggregate n gs fs) u = sized-next 5 _ u
record-next (project n xs) u = sized-next 6 _ u
record-next (order n xs) u = sized-next 7 _ u
record-next (offset n k) u = sized-next 8 _ u
record-next (limit n k) u = sized-next 9 _ u
record-next (remap n ts) u = sized-next 10 _ u

node-later : (c q : Bytes) (r : NodeRecord) (u : List ℕ) (k i : ℕ)
    → node_line c q (k + suc i) (behind (suc i) (record_numbers r ++ u)) ≡ node_line c q (suc k + i) (behind i u)
node-later c q r u k i =
    let y : k + suc i ≡ suc k + i = omega arith in
    ap (λ j. node_line c q j (behind (suc i) (record_numbers r ++ u))) y
    ∙ ap (node_line c q (suc k + i)) (behind-shift i (record_numbers r ++ u) ∙ ap (behind i) (record-next r u))

node-first : (c q : Bytes) (ts : Catalog) (r : NodeRecord) (u : List ℕ) (k : ℕ) → ReadableRecord c q ts r
    → node_line c q (k + 0) (behind 0 (record_numbers r ++ u)) ≡ (bytes "node" ∷ decimal_of k ∷ show_record r) ∷ []
unfolding behind node_line node_fields
node-first c q ts r u k h =
    let z : k + 0 ≡ k = omega arith in
    ap (λ j. (bytes "node" ∷ decimal_of j ∷ node_fields c q (record_numbers r ++ u)) ∷ []) z
    ∙ ap (λ x. (bytes "node" ∷ decimal_of k ∷ x) ∷ []) (record-shown c q ts r u h)

-- the nodes from number k on, and numbers behind them
pub nodes-shown : (c q : Bytes) (ts : Catalog) (rs : List NodeRecord) (k : ℕ) (t : List ℕ) → All (ReadableRecord c q ts) rs
    → listed (length rs) (λ i. node_line c q (k + i) (behind i (concat (map record_numbers rs) ++ t)))
    ≡ numbered (bytes "node") k (map show_record rs)
unfolding listed numbered All concat
nodes-shown c q ts [] k t h = refl
nodes-shown c q ts (r ∷ rs) k t h =
    let u = concat (map record_numbers rs) ++ t in
    rw (append_assoc (record_numbers r) (concat (map record_numbers rs)) t)
    (listed-first (length rs) (λ i. node_line c q (k + i) (behind i (record_numbers r ++ u)))
    ∙ rw (node-first c q ts r u k h.0) (ap (λ l. (bytes "node" ∷ decimal_of k ∷ show_record r) ∷ l)
    (listed_same (length rs) (λ i. node_line c q (k + suc i) (behind (suc i) (record_numbers r ++ u)))
    (λ i. node_line c q (suc k + i) (behind i u)) (node-later c q r u k) ∙ nodes-shown c q ts rs (suc k) t h.1)))
