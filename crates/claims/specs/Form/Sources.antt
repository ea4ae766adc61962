-- Every node but the last is the source of exactly one node, and of one behind it.
use Rattle.std.specs.Prelude.{ℕ, suc, ◌+◌, ◌≤◌, ◌<◌, pred, ◌≡◌, refl, List, [], ◌∷◌, ◌++◌, map, length}
use Rattle.std.proofs.Common.{arith, sym, ap, ◌∙◌}
use Rattle.rules.specs.Lists.{concat}
use Rattle.rules.specs.Plan.{Node}
use Rattle.rules.specs.Plan as P
use Rattle.rules.specs.Nodes.{NodeRecord, scan, values, join, filter, aggregate, project, order, offset, limit, remap, nodes, last, records}
use Rattle.claims.specs.Answers.{All}
use Rattle.claims.specs.Area.NodeTree.{records-length}
use Rattle.claims.specs.Form.Occurrences.{occurrences, occurrences-append, among, among-inside, among_none, among-join, occurrences-cons}

-- the numbers of a node's sources
unfoldable pub sources : NodeRecord → List ℕ
sources (scan t a x) = []
sources (values rs) = []
sources (join a b x o) = a ∷ b ∷ []
sources (filter n x) = n ∷ []
sources (aggregate n gs fs) = n ∷ []
sources (project n xs) = n ∷ []
sources (order n xs) = n ∷ []
sources (offset n k) = n ∷ []
sources (limit n k) = n ∷ []
sources (remap n ts) = n ∷ []

-- those of all nodes
unfoldable pub all_sources : List NodeRecord → List ℕ
all_sources rs = concat (map sources rs)

sources-append : (k : ℕ) (rs ss : List NodeRecord)
    → occurrences k (all_sources (rs ++ ss)) ≡ occurrences k (all_sources rs) + occurrences k (all_sources ss)
unfolding all_sources concat
sources-append k [] ss = unfold occurrences in (omega arith)
sources-append k (r ∷ rs) ss = omega (arith, occurrences-append k (sources r) (all_sources (rs ++ ss)), occurrences-append k (sources r) (all_sources rs), sources-append k rs ss)

pub some-nodes : {E : Type 0} (n : Node E) → 0 < nodes n
unfolding nodes
some-nodes (P.scan t a x) = omega arith
some-nodes (P.values rs) = omega arith
some-nodes (P.join a b x o) = omega arith
some-nodes (P.filter n x) = omega arith
some-nodes (P.aggregate n gs fs) = omega arith
some-nodes (P.project n xs) = omega arith
some-nodes (P.order n xs) = omega arith
some-nodes (P.offset n k) = omega arith
some-nodes (P.limit n k) = omega arith
some-nodes (P.remap n ts) = omega arith

occurrences-none : (k : ℕ) → occurrences k [] ≡ 0
unfolding occurrences
occurrences-none k = refl

one-source : (k x : ℕ) (r : NodeRecord) → sources r ≡ x ∷ [] → occurrences k (all_sources (r ∷ [])) ≡ among x (suc x) k
unfolding all_sources concat
one-source k x r e = rw e (omega (arith, occurrences-cons k x [], occurrences-none k))

last-is : (i : ℕ) (n : Node ℕ) → last i n ≡ pred (i + nodes n)
unfolding last
last-is i n = refl

last-from : (i : ℕ) (n : Node ℕ) → i ≤ last i n
last-from i n = omega (arith, some-nodes n, last-is i n)

two-sources : (k x y : ℕ) (r : NodeRecord) → sources r ≡ x ∷ y ∷ []
    → occurrences k (all_sources (r ∷ [])) ≡ among x (suc x) k + among y (suc y) k
unfolding all_sources concat
two-sources k x y r e = rw e (omega (arith, occurrences-cons k x (y ∷ []), occurrences-cons k y [], occurrences-none k))

-- a node over one source, behind the nodes of that source
over-once : (i k m : ℕ) (n : Node ℕ) (r : NodeRecord) → sources r ≡ last i n ∷ [] → m ≡ nodes n + 1
    → occurrences k (all_sources (records i n)) ≡ among i (last i n) k
    → occurrences k (all_sources (records i n ++ (r ∷ []))) ≡ among i (pred (i + m)) k
over-once i k m n r e f h =
    let p : pred (i + m) ≡ suc (last i n) = omega (arith, some-nodes n, last-is i n) in
    rw p (omega (
      arith,
      sources-append k (records i n) (r ∷ []),
      one-source k (last i n) r e,
      among-join i (last i n) (suc (last i n)) k (last-from i n) (omega arith),
    ))

no_source : (i k : ℕ) (r : NodeRecord) → sources r ≡ [] → occurrences k (all_sources (r ∷ [])) ≡ among i (pred (i + 1)) k
unfolding all_sources concat occurrences
no_source i k r e =
    let p : pred (i + 1) ≡ i = omega arith in
    rw (e, p) (sym (among_none i k))

-- a join, behind the nodes of both sides
join-once : (i k : ℕ) (a b : Node ℕ) (r : NodeRecord) → sources r ≡ last i a ∷ last (i + nodes a) b ∷ []
    → occurrences k (all_sources (records i a)) ≡ among i (last i a) k
    → occurrences k (all_sources (records (i + nodes a) b)) ≡ among (i + nodes a) (last (i + nodes a) b) k
    → occurrences k (all_sources (records i a ++ (records (i + nodes a) b ++ (r ∷ [])))) ≡ among i (pred (i + (nodes a + nodes b + 1))) k
join-once i k a b r e h g =
    let j = i + nodes a in
    let p : pred (i + (nodes a + nodes b + 1)) ≡ suc (last j b) = omega (arith, some-nodes b, last-is j b) in
    let q : suc (last i a) ≡ j = omega (arith, some-nodes a, last-is i a) in
    rw p (omega (
      arith,
      sources-append k (records i a) (records j b ++ (r ∷ [])),
      sources-append k (records j b) (r ∷ []),
      two-sources k (last i a) (last j b) r e,
      ap (λ (m : ℕ). among (last i a) m k) q,
      among-join i (last i a) j k (last-from i a) (omega arith),
      among-join j (last j b) (suc (last j b)) k (last-from j b) (omega arith),
      among-join i j (suc (last j b)) k (omega arith) (omega (arith, last-from j b)),
    ))

-- the nodes of a node, from number i on, have as sources the numbers up to it, each once
node-sources : (n : Node ℕ) (i k : ℕ) → occurrences k (all_sources (records i n)) ≡ among i (pred (i + nodes n)) k
unfolding records sources nodes last
node-sources (P.scan t a x) i k = no_source i k _ refl
node-sources (P.values rs) i k = no_source i k _ refl
node-sources (P.join a b x o) i k = join-once i k a b _ refl (node-sources a i k) (node-sources b (i + nodes a) k)
node-sources (P.filter n x) i k = over-once i k _ n _ refl refl (node-sources n i k)
node-sources (P.aggregate n gs fs) i k = over-once i k _ n _ refl refl (node-sources n i k)
node-sources (P.project n xs) i k = over-once i k _ n _ refl refl (node-sources n i k)
node-sources (P.order n xs) i k = over-once i k _ n _ refl refl (node-sources n i k)
node-sources (P.offset n m) i k = over-once i k _ n _ refl refl (node-sources n i k)
node-sources (P.limit n m) i k = over-once i k _ n _ refl refl (node-sources n i k)
node-sources (P.remap n ts) i k = over-once i k _ n _ refl refl (node-sources n i k)

-- every node but the last is the source of exactly one
unfoldable pub SourcesOnce : List NodeRecord → Type 0
SourcesOnce rs = (k : ℕ) → suc k < length rs → occurrences k (all_sources rs) ≡ 1

pub sources-once : (n : Node ℕ) → SourcesOnce (records 0 n)
unfolding SourcesOnce
sources-once n k h = node-sources n 0 k ∙ among-inside 0 (pred (0 + nodes n)) k (omega arith) (omega (arith, records-length n 0))

-- SOURCES BEFORE THEIR USER
-- each node's sources have numbers below its own, the first node's being i
unfoldable pub SourcesBefore : ℕ → List NodeRecord → Type 0
SourcesBefore i [] = Unit {0}
SourcesBefore i (r ∷ rs) = All (λ k. k < i) (sources r) × SourcesBefore (suc i) rs

before-append : (i : ℕ) (rs ss : List NodeRecord) → SourcesBefore i rs → SourcesBefore (i + length rs) ss → SourcesBefore i (rs ++ ss)
unfolding SourcesBefore
before-append i [] ss h g = let e : i + 0 ≡ i = omega arith in rw e at g
before-append i (r ∷ rs) ss h g =
    let e : i + suc (length rs) ≡ suc i + length rs = omega arith in
    (h.0, before-append (suc i) rs ss h.1 (rw e at g))

-- a node behind those of its sources
behind-sources : (i : ℕ) (rs : List NodeRecord) (r : NodeRecord) → SourcesBefore i rs → All (λ k. k < i + length rs) (sources r)
    → SourcesBefore i (rs ++ (r ∷ []))
behind-sources i rs r h g = before-append i rs (r ∷ []) h (unfold SourcesBefore in (g, tt))

over-before : (i : ℕ) (n : Node ℕ) (r : NodeRecord) → sources r ≡ last i n ∷ [] → SourcesBefore i (records i n)
    → SourcesBefore i (records i n ++ (r ∷ []))
unfolding All
over-before i n r e h = behind-sources i (records i n) r h (rw e (omega (arith, some-nodes n, last-is i n, records-length n i), tt))

join-before : (i : ℕ) (a b : Node ℕ) (r : NodeRecord) → sources r ≡ last i a ∷ last (i + nodes a) b ∷ []
    → SourcesBefore i (records i a) → SourcesBefore (i + nodes a) (records (i + nodes a) b)
    → SourcesBefore i (records i a ++ (records (i + nodes a) b ++ (r ∷ [])))
unfolding All
join-before i a b r e h g =
    let j = i + nodes a in
    before-append i (records i a) _ h (rw (records-length a i) (behind-sources j (records j b) r g (rw e (
      omega (arith, some-nodes a, last-is i a, records-length b j),
      (omega (arith, some-nodes b, last-is j b, records-length b j), tt),
    ))))

pub sources-before : (n : Node ℕ) (i : ℕ) → SourcesBefore i (records i n)
unfolding records sources SourcesBefore All
sources-before (P.scan t a x) i = (tt, tt)
sources-before (P.values rs) i = (tt, tt)
sources-before (P.join a b x o) i = join-before i a b _ refl (sources-before a i) (sources-before b (i + nodes a))
sources-before (P.filter n x) i = over-before i n _ refl (sources-before n i)
sources-before (P.aggregate n gs fs) i = over-before i n _ refl (sources-before n i)
sources-before (P.project n xs) i = over-before i n _ refl (sources-before n i)
sources-before (P.order n xs) i = over-before i n _ refl (sources-before n i)
sources-before (P.offset n k) i = over-before i n _ refl (sources-before n i)
sources-before (P.limit n k) i = over-before i n _ refl (sources-before n i)
sources-before (P.remap n ts) i = over-before i n _ refl (sources-before n i)
