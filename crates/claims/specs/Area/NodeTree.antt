-- The node that a list of node records stands for, and a node's records give it back.
use Rattle.std.specs.Prelude.{ℕ, suc, ◌+◌, ◌≡◌, refl, true, false, List, [], ◌∷◌, ◌++◌, eqb, length}
use Rattle.std.proofs.Common.{arith, ◌∙◌, append_assoc, append-nil, length-append, eq-eqb}
use Rattle.std.proofs.Math.Option.{Option, none, some}
use Rattle.rules.specs.Plan.{Node}
use Rattle.rules.specs.Plan as P
use Rattle.rules.specs.Nodes.{NodeRecord, scan, values, join, filter, aggregate, project, order, offset, limit, remap}
use Rattle.rules.specs.Nodes.{nodes, last, records}

-- the nodes that have no user yet, each with its number, the last first
abbrev pub Unused : Type 0
Unused = List (ℕ × Node ℕ)

-- node k over the last of them, whose number is i
unfoldable pub over_one : ℕ → (Node ℕ → Node ℕ) → ℕ → Unused → Option Unused
over_one k f i [] = none
over_one k f i (m ∷ ms) = elim (eqb m.0 i) [ true ↦ some ((k, f m.1) ∷ ms) | false ↦ none ]

-- over the last two, whose numbers are i and j
unfoldable pub over_two : ℕ → (Node ℕ → Node ℕ → Node ℕ) → ℕ → ℕ → Unused → Option Unused
over_two k f i j [] = none
over_two k f i j (m ∷ ms) = elim (eqb m.0 j) [ true ↦ over_one k (λ n. f n m.1) i ms | false ↦ none ]

-- with the node of record k
unfoldable pub add_node : ℕ → NodeRecord → Unused → Option Unused
add_node k (scan t a x) ms = some ((k, P.scan t a x) ∷ ms)
add_node k (values rs) ms = some ((k, P.values rs) ∷ ms)
add_node k (join i j x o) ms = over_two k (λ a b. P.join a b x o) i j ms
add_node k (filter i x) ms = over_one k (λ n. P.filter n x) i ms
add_node k (aggregate i gs fs) ms = over_one k (λ n. P.aggregate n gs fs) i ms
add_node k (project i xs) ms = over_one k (λ n. P.project n xs) i ms
add_node k (order i xs) ms = over_one k (λ n. P.order n xs) i ms
add_node k (offset i j) ms = over_one k (λ n. P.offset n j) i ms
add_node k (limit i j) ms = over_one k (λ n. P.limit n j) i ms
add_node k (remap i xs) ms = over_one k (λ n. P.remap n xs) i ms

-- of the records from k on
unfoldable pub add_nodes : ℕ → List NodeRecord → Unused → Option Unused
add_nodes k [] ms = some ms
add_nodes k (r ∷ rs) ms = elim (add_node k r ms) [ none ↦ none | some ns ↦ add_nodes (suc k) rs ns ]

-- the only one of them
unfoldable pub only : Option Unused → Option (Node ℕ)
only none = none
only (some []) = none
only (some (m ∷ [])) = some m.1
only (some (m ∷ (n ∷ ms))) = none

-- the node of some records: every other one has one user, a later one
unfoldable pub node_back : List NodeRecord → Option (Node ℕ)
node_back rs = only (add_nodes 0 rs [])

-- COUNT
-- a node has as many records as nodes
pub records-length : (n : Node ℕ) (i : ℕ) → length (records i n) ≡ nodes n
unfolding records nodes
records-length (P.scan t a x) i = refl
records-length (P.values rs) i = refl
records-length (P.join a b x o) i =
    simp (length-append, records-length a i, records-length b (i + nodes a)) (omega arith)
records-length (P.filter n x) i = simp (length-append, records-length n i)
records-length (P.aggregate n gs fs) i = simp (length-append, records-length n i)
records-length (P.project n xs) i = simp (length-append, records-length n i)
records-length (P.order n xs) i = simp (length-append, records-length n i)
records-length (P.offset n k) i = simp (length-append, records-length n i)
records-length (P.limit n k) i = simp (length-append, records-length n i)
records-length (P.remap n ts) i = simp (length-append, records-length n i)

-- THE NODE
-- some records make of the nodes without a user these
Adds : ℕ → List NodeRecord → Unused → ℕ → Unused → Type 0
Adds i rs ms j ns = (more : List NodeRecord) → add_nodes i (rs ++ more) ms ≡ add_nodes j more ns

adds-append : (i j k : ℕ) (xs ys : List NodeRecord) (ms ns us : Unused) → Adds i xs ms j ns → Adds j ys ns k us
    → Adds i (xs ++ ys) ms k us
unfolding Adds
adds-append i j k xs ys ms ns us h g more = rw append_assoc (h (ys ++ more) ∙ g more)

-- one record, behind those of its sources
adds-last : (i : ℕ) (n : Node ℕ) (r : NodeRecord) (j : ℕ) (ms ns : Unused) → i + nodes n ≡ suc j
    → add_node j r ms ≡ some ((j, n) ∷ ns) → Adds j (r ∷ []) ms (i + nodes n) ((last i n, n) ∷ ns)
unfolding Adds add_nodes last
adds-last i n r j ms ns e h more = rw (h, add_nodes, e)

over-one : (k i : ℕ) (f : Node ℕ → Node ℕ) (n : Node ℕ) (ms : Unused)
    → over_one k f i ((i, n) ∷ ms) ≡ some ((k, f n) ∷ ms)
unfolding over_one
over-one k i f n ms = rw (over_one, eq-eqb i i refl)

over-two : (k i j : ℕ) (f : Node ℕ → Node ℕ → Node ℕ) (a b : Node ℕ) (ms : Unused)
    → over_two k f i j ((j, b) ∷ (i, a) ∷ ms) ≡ some ((k, f a b) ∷ ms)
unfolding over_two
over-two k i j f a b ms = rw (over_two, eq-eqb j j refl) (over-one k i (λ n. f n b) a ms)

-- a node over one source
adds-over : (i : ℕ) (n m : Node ℕ) (r : NodeRecord) (ms : Unused) → nodes m ≡ nodes n + 1
    → ((k : ℕ) → add_node k r ((last i n, n) ∷ ms) ≡ some ((k, m) ∷ ms))
    → Adds i (records i n) ms (i + nodes n) ((last i n, n) ∷ ms)
    → Adds i (records i n ++ (r ∷ [])) ms (i + nodes m) ((last i m, m) ∷ ms)
adds-over i n m r ms e h g =
    adds-append i (i + nodes n) _ _ _ ms _ _ g (adds-last i m r (i + nodes n) _ ms (omega arith) (h (i + nodes n)))

-- a node's records give it, with its number
records-give : (n : Node ℕ) (i : ℕ) (ms : Unused) → Adds i (records i n) ms (i + nodes n) ((last i n, n) ∷ ms)
unfolding records nodes add_node
records-give (P.scan t a x) i ms = adds-last i (P.scan t a x) _ i ms ms (omega arith) refl
records-give (P.values rs) i ms = adds-last i (P.values rs) _ i ms ms (omega arith) refl
records-give (P.join a b x o) i ms =
    let j = i + nodes a in
    adds-append i j _ _ _ ms _ _ (records-give a i ms)
    (adds-append j (j + nodes b) _ _ _ _ _ _ (records-give b j ((last i a, a) ∷ ms))
    (adds-last i (P.join a b x o) _ (j + nodes b) _ ms (omega arith) (over-two _ (last i a) (last j b) _ a b ms)))
records-give (P.filter n x) i ms =
    adds-over i n (P.filter n x) _ ms refl (λ k. over-one k (last i n) _ n ms) (records-give n i ms)
records-give (P.aggregate n gs fs) i ms =
    adds-over i n (P.aggregate n gs fs) _ ms refl (λ k. over-one k (last i n) _ n ms) (records-give n i ms)
records-give (P.project n xs) i ms =
    adds-over i n (P.project n xs) _ ms refl (λ k. over-one k (last i n) _ n ms) (records-give n i ms)
records-give (P.order n xs) i ms =
    adds-over i n (P.order n xs) _ ms refl (λ k. over-one k (last i n) _ n ms) (records-give n i ms)
records-give (P.offset n j) i ms =
    adds-over i n (P.offset n j) _ ms refl (λ k. over-one k (last i n) _ n ms) (records-give n i ms)
records-give (P.limit n j) i ms =
    adds-over i n (P.limit n j) _ ms refl (λ k. over-one k (last i n) _ n ms) (records-give n i ms)
records-give (P.remap n xs) i ms =
    adds-over i n (P.remap n xs) _ ms refl (λ k. over-one k (last i n) _ n ms) (records-give n i ms)

-- so the node is read back from them
pub node-back : (n : Node ℕ) → node_back (records 0 n) ≡ some n
unfolding node_back Adds add_nodes only
node-back n = rw (rw append-nil at (records-give n 0 [] []))
