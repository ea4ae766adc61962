-- The lines of nodes, from their numbers.
use Rattle.std.specs.Prelude.{ℕ, zero, suc, ◌+◌, ◌*◌, ◌-◌, ◌/◌, ◌^◌, ◌≡◌, true, false, List, [], ◌∷◌, ◌++◌, eqb, length, get_or, drop, take}
use Rattle.std.specs.Prelude.{refl}
use Rattle.std.proofs.Common.{arith, sym, ap, ◌∙◌, eq-eqb, ne_eqb}
use Rattle.text.specs.Words.{words_of, push}
use Rattle.plan.specs.Kinds.{node_number}
use Rattle.plan.specs.declared.nodes.Kind.{Kind}
use Rattle.plan.specs.declared.nodes.Kind.TheVariants as K
use Rattle.rules.specs.Lists.{Bytes}
use Rattle.rules.specs.Lines.{bytes}
use Rattle.rules.specs.Places.{bytes_at}
use Rattle.rules.specs.Print.{decimal_of}
use Rattle.rules.specs.Area.{header_size}
use Rattle.listing.specs.Words.{word_of, no-word}
use Rattle.listing.specs.Choices.{choose, choose-none, Misses}
use Rattle.listing.specs.Lines.{listed, each}

-- PARTS
-- a name that may be missing, and a number that may be
unfoldable pub alias_fields : Bytes → Bytes → ℕ → ℕ → List Bytes
alias_fields c q a n = elim (eqb n 0) [ true ↦ [] | false ↦ bytes "as" ∷ bytes_at c q a n ∷ [] ]

unfoldable pub given_fields : ℕ → List Bytes
given_fields x = elim (eqb x 0) [ true ↦ [] | false ↦ decimal_of (x - 1) ∷ [] ]

unfoldable pub number_fields : ℕ → List ℕ → List Bytes
number_fields i t = decimal_of (get_or t 0 0) ∷ []

unfoldable pub function_fields : ℕ → List ℕ → List Bytes
function_fields i t = word_of (bytes " avg count max min sum ") (get_or t 0 0) ∷ decimal_of (get_or t 1 0) ∷ []

unfoldable pub item_fields : Bytes → Bytes → ℕ → List ℕ → List Bytes
item_fields c q i t = decimal_of (get_or t 0 0) ∷ alias_fields c q (get_or t 1 0) (get_or t 2 0)

unfoldable pub key_fields : ℕ → List ℕ → List Bytes
key_fields i t = decimal_of (get_or t 0 0) ∷ word_of (bytes "asc desc ") (get_or t 1 0) ∷ []

unfoldable pub target_fields : ℕ → List ℕ → List Bytes
target_fields i t = elim (eqb (get_or t 0 0) 0) [ true ↦ bytes "-" ∷ [] | false ↦ decimal_of (get_or t 0 0 - 1) ∷ [] ]

-- the rows of values: as many numbers are left of the row
unfoldable pub row_fields : ℕ → List ℕ → List Bytes
row_fields left [] = []
row_fields zero (x ∷ t) = bytes "row" ∷ decimal_of x ∷ row_fields x t
row_fields (suc left) (x ∷ t) = decimal_of x ∷ row_fields left t

-- NODES by kind, b the numbers of the node
unfoldable pub scan_fields : Bytes → Bytes → List ℕ → List Bytes
scan_fields c q b =
    bytes_at c q (get_or b 0 0) (get_or b 1 0) ∷ (alias_fields c q (get_or b 3 0) (get_or b 4 0) ++ given_fields (get_or b 2 0))

unfoldable pub join_fields : List ℕ → List Bytes
join_fields b =
    decimal_of (get_or b 0 0) ∷ decimal_of (get_or b 1 0) ∷ word_of (bytes "inner outer ") (get_or b 2 0) ∷ given_fields (get_or b 3 0)

unfoldable pub filter_fields : List ℕ → List Bytes
filter_fields b = decimal_of (get_or b 0 0) ∷ decimal_of (get_or b 1 0) ∷ []

unfoldable pub functions_fields : List ℕ → List Bytes
functions_fields t = each (length t / 2) 2 function_fields t

unfoldable pub aggregate_fields : List ℕ → List Bytes
aggregate_fields b =
    decimal_of (get_or b 0 0)
    ∷ (each (get_or b 1 0) 1 number_fields (drop 2 b) ++ functions_fields (drop (2 + get_or b 1 0) b))

unfoldable pub items_fields : Bytes → Bytes → List ℕ → List Bytes
items_fields c q t = each (length t / 3) 3 (item_fields c q) t

unfoldable pub project_fields : Bytes → Bytes → List ℕ → List Bytes
project_fields c q b = decimal_of (get_or b 0 0) ∷ items_fields c q (drop 1 b)

unfoldable pub keys_fields : List ℕ → List Bytes
keys_fields t = each (length t / 2) 2 key_fields t

unfoldable pub order_fields : List ℕ → List Bytes
order_fields b = decimal_of (get_or b 0 0) ∷ keys_fields (drop 1 b)

unfoldable pub limit_fields : List ℕ → List Bytes
limit_fields b = decimal_of (get_or b 0 0) ∷ decimal_of (get_or b 1 0 + get_or b 2 0 * 2 ^ 32) ∷ []

unfoldable pub targets_fields : List ℕ → List Bytes
targets_fields t = each (length t) 1 target_fields t

unfoldable pub remap_fields : List ℕ → List Bytes
remap_fields b = decimal_of (get_or b 0 0) ∷ targets_fields (drop 1 b)

-- behind the kind k
unfoldable pub node_rest : Bytes → Bytes → ℕ → List ℕ → List Bytes
node_rest c q k b = choose (
    (1, scan_fields c q b)
    ∷ (2, row_fields 0 b)
    ∷ (3, join_fields b)
    ∷ (4, filter_fields b)
    ∷ (5, aggregate_fields b)
    ∷ (6, project_fields c q b)
    ∷ (7, order_fields b)
    ∷ (8, limit_fields b)
    ∷ (9, limit_fields b)
    ∷ (10, remap_fields b)
    ∷ []) k []

unfoldable pub node_word : ℕ → Bytes
node_word k = word_of (bytes " scan values join filter aggregate project order offset limit remap ") k

-- the word of a kind is the one at its number
unfoldable pub node_named : Kind → Bytes
node_named K.Scan = bytes "scan"
node_named K.Values = bytes "values"
node_named K.Join = bytes "join"
node_named K.Filter = bytes "filter"
node_named K.Aggregate = bytes "aggregate"
node_named K.Project = bytes "project"
node_named K.Order = bytes "order"
node_named K.Offset = bytes "offset"
node_named K.Limit = bytes "limit"
node_named K.Remap = bytes "remap"

node-words : (kind : Kind) → node_named kind ≡ node_word (node_number kind)
unfolding node_named node_word bytes words_of push
node-words K.Scan = refl
node-words K.Values = refl
node-words K.Join = refl
node-words K.Filter = refl
node-words K.Aggregate = refl
node-words K.Project = refl
node-words K.Order = refl
node-words K.Offset = refl
node-words K.Limit = refl
node-words K.Remap = refl

pub node-is : (k : ℕ) (kind : Kind) → k ≡ node_number kind → node_named kind ≡ node_word k
node-is k kind e = node-words kind ∙ ap node_word (sym e)

-- and there is none where no kind has the number
pub node-none : (k : ℕ) → ((kind : Kind) → k ≡ node_number kind → ⊥) → [] ≡ node_word k
unfolding node_word bytes words_of push
node-none k n = no-word (bytes " scan values join filter aggregate project order offset limit remap ") 11 k refl (omega arith)
    (λ y. omega (arith, y, n K.Scan, n K.Values, n K.Join, n K.Filter, n K.Aggregate, n K.Project, n K.Order, n K.Offset, n K.Limit, n K.Remap))

-- what a node's line has behind its number: its kind, how many numbers it has, and those
unfoldable pub node_fields : Bytes → Bytes → List ℕ → List Bytes
node_fields c q s = node_word (get_or s 0 0) ∷ node_rest c q (get_or s 0 0) (take (get_or s 1 0) (drop 2 s))

pub rest-none : (c q : Bytes) (k : ℕ) (b : List ℕ) → ((kind : Kind) → k ≡ node_number kind → ⊥) → [] ≡ node_rest c q k b
unfolding node_rest Misses
rest-none c q k b n = choose-none _ _ _ (n K.Scan, (n K.Values, (n K.Join, (n K.Filter, (n K.Aggregate, (n K.Project, (n K.Order, (n K.Offset, (n K.Limit, (n K.Remap, tt))))))))))

-- the line of node i
unfoldable pub node_line : Bytes → Bytes → ℕ → List ℕ → List (List Bytes)
node_line c q i s = (bytes "node" ∷ decimal_of i ∷ node_fields c q s) ∷ []

-- the numbers from the node behind the first i on
unfoldable pub behind : ℕ → List ℕ → List ℕ
behind zero s = s
behind (suc i) s = drop (2 + get_or (behind i s) 1 0) (behind i s)

-- n nodes from s on
unfoldable pub nodes_from : Bytes → Bytes → ℕ → List ℕ → List (List Bytes)
nodes_from c q n s = listed n (λ i. node_line c q i (behind i s))

unfoldable pub node_lines : Bytes → Bytes → List ℕ → List (List Bytes)
node_lines c q a = nodes_from c q (get_or a 3 0) (drop (header_size + get_or a 2 0 * 4) a)

-- BY CASES
pub alias-none : (c q : Bytes) (a n : ℕ) → n ≡ 0 → [] ≡ alias_fields c q a n
unfolding alias_fields
alias-none c q a n h = rw (alias_fields, eq-eqb n 0 h)

pub alias-some : (c q : Bytes) (a n : ℕ) → (n ≡ 0 → ⊥) → bytes "as" ∷ bytes_at c q a n ∷ [] ≡ alias_fields c q a n
unfolding alias_fields
alias-some c q a n h = rw (alias_fields, ne_eqb n 0 h)

pub given-none : (x : ℕ) → x ≡ 0 → [] ≡ given_fields x
unfolding given_fields
given-none x h = rw (given_fields, eq-eqb x 0 h)

pub given-some : (x : ℕ) → (x ≡ 0 → ⊥) → decimal_of (x - 1) ∷ [] ≡ given_fields x
unfolding given_fields
given-some x h = rw (given_fields, ne_eqb x 0 h)

pub target_none : (t : List ℕ) (i x : ℕ) → x ≡ get_or t 0 0 → x ≡ 0 → bytes "-" ∷ [] ≡ target_fields i t
unfolding target_fields
target_none t i x e h = rw (target_fields, eq-eqb (get_or t 0 0) 0 (sym e ∙ h))

pub target-some : (t : List ℕ) (i x : ℕ) → x ≡ get_or t 0 0 → (x ≡ 0 → ⊥) → decimal_of (x - 1) ∷ [] ≡ target_fields i t
unfolding target_fields
target-some t i x e h = rw (e, target_fields, ne_eqb (get_or t 0 0) 0 (λ z. h (e ∙ z)))
