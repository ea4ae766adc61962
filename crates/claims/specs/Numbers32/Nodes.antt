-- The numbers of a plan's node records are of 32 bits, where its expressions' numbers are few and its values and names
-- fit.
use Prim.Native.Nat.{ℕ, ◌+◌, pred, ◌^◌, ◌≤◌, ◌<◌}
use Rattle.std.proofs.Common.{arith}
use Rattle.std.specs.Prelude.{Bool, List, [], ◌∷◌, ◌++◌, map, length}
use Rattle.std.proofs.Math.Option.{Option, none, some}
use Rattle.std.proofs.Math.ListN.{length-append, length-map}
use Rattle.rules.specs.Limits.{least_area}
use Rattle.rules.specs.Lists.{concat}
use Rattle.rules.specs.Lines.{Word}
use Rattle.rules.specs.Schema.{Catalog}
use Rattle.rules.specs.Plan.{Built, Aggregate, avg, count, max, min, sum, Node, target_count}
use Rattle.rules.specs.Plan as P
use Rattle.rules.specs.Cells.{count_all, roots, expressions, cell_count, number_given, number_first, number_second}
use Rattle.rules.specs.Cells.{number_node}
use Rattle.rules.specs.Nodes.{NodeRecord, scan, values, join, filter, aggregate, project, order, offset, limit, remap}
use Rattle.rules.specs.Nodes.{nodes, last, records}
use Rattle.rules.specs.Area.{span, option_span, option_number, aggregate_code, row_numbers, function_numbers, item_numbers}
use Rattle.rules.specs.Area.{key_numbers, sized, record_numbers}
use Rattle.claims.specs.Answers.{All, Given, all_append, all_left, all_right, all-weaken}
use Rattle.claims.specs.Lists.{all_both, all-given, map-all, concat-all}
use Rattle.claims.specs.Cells.Roots.{first-kept}
use Rattle.claims.specs.Values.Values.{Fits}
use Rattle.claims.specs.Building.Has.{NodeHas}
use Rattle.claims.specs.Words.Ends.{Ends, EndsValue}
use Rattle.claims.specs.Numbers32.Cells.{Small, halves_small, flag_small, span_small, option_span-small}

-- a number of the area's least length
abbrev pub Few : ℕ → Type 0
Few n = n < least_area

few-small : (ns : List ℕ) → All Few ns → All Small ns
few-small ns h = all-weaken Few Small (λ n l. omega arith) ns h

-- what makes a record's numbers small, but for its lengths
unfoldable pub SmallRecord : NodeRecord → Type 0
SmallRecord (scan t a x) = Ends t.name × Given Ends a × Given Few x
SmallRecord (values rs) = All (All Few) rs
SmallRecord (join a b x o) = Small a × Small b × Given Few x
SmallRecord (filter n x) = Small n × Few x
SmallRecord (aggregate n gs fs) = Small n × All Few gs × All (λ f. Few f.1) fs
SmallRecord (project n xs) = Small n × All (λ x. Few x.0 × Given Ends x.1) xs
SmallRecord (order n xs) = Small n × All (λ x. Few x.0) xs
SmallRecord (offset n k) = Small n × (k < 2 ^ 64)
SmallRecord (limit n k) = Small n × (k < 2 ^ 64)
SmallRecord (remap n ts) = Small n × (target_count ts ≤ length ts)

-- RECORDS
option_number-small : (x : Option ℕ) → Given Few x → Small (option_number x)
unfolding option_number Given
option_number-small none h = omega arith
option_number-small (some n) h = omega arith

rows-small : (rs : List (List ℕ)) → length (row_numbers rs) ≤ least_area → All (All Few) rs → All Small (row_numbers rs)
unfolding row_numbers All
rows-small [] l h = tt
rows-small (r ∷ rs) l h = (
  omega (arith, length-append r (row_numbers rs)),
  all_append Small r _ (few-small r h.0)
      (rows-small rs (omega (arith, length-append r (row_numbers rs))) h.1),
)

aggregate-small : (g : Aggregate) → Small (aggregate_code g)
unfolding aggregate_code
aggregate-small avg = omega arith
aggregate-small count = omega arith
aggregate-small max = omega arith
aggregate-small min = omega arith
aggregate-small sum = omega arith

functions-small : (fs : List (Aggregate × ℕ)) → All (λ f. Few f.1) fs → All Small (function_numbers fs)
unfolding function_numbers All
functions-small [] h = tt
functions-small (f ∷ fs) h = (aggregate-small f.0, (omega (arith, h.0), functions-small fs h.1))

items-small : (xs : List (ℕ × Option Word)) → All (λ x. Few x.0 × Given Ends x.1) xs → All Small (item_numbers xs)
unfolding item_numbers All
items-small [] h = tt
items-small (x ∷ xs) h = (
  omega (arith, h.0.0),
  all_append Small (option_span x.1) _ (option_span-small x.1 h.0.1)
      (items-small xs h.1),
)

keys-small : (xs : List (ℕ × Bool)) → All (λ x. Few x.0) xs → All Small (key_numbers xs)
unfolding key_numbers All
keys-small [] h = tt
keys-small (x ∷ xs) h = (omega (arith, h.0), (flag_small x.1, keys-small xs h.1))

targets-small : (ts : List (Option ℕ)) → target_count ts ≤ least_area → All Small (map option_number ts)
unfolding target_count option_number All
targets-small [] h = tt
targets-small (none ∷ ts) h = (omega arith, targets-small ts h)
targets-small (some t ∷ ts) h = (omega arith, targets-small ts (omega arith))

sized-small : (k : ℕ) (b : List ℕ) → Small k → length (sized k b) ≤ least_area → All Small b → All Small (sized k b)
unfolding sized All
sized-small k b h l g = (h, (omega arith, g))

-- all numbers of a record
record-small : (r : NodeRecord) → length (record_numbers r) ≤ least_area → SmallRecord r → All Small (record_numbers r)
unfolding record_numbers SmallRecord All
record-small (scan t a x) l h =
    sized-small 1 _ (omega arith) l
    (all_append Small (span t.name) _ (span_small t.name h.0)
    (option_number-small x h.2, option_span-small a h.1))
record-small (values rs) l h = sized-small 2 _ (omega arith) l (rows-small rs (unfold sized in (omega arith)) h)
record-small (join a b x o) l h =
    sized-small 3 _ (omega arith) l (h.0, (h.1, (flag_small o, (option_number-small x h.2, tt))))
record-small (filter n x) l h = sized-small 4 _ (omega arith) l (h.0, (omega (arith, h.1), tt))
record-small (aggregate n gs fs) l h =
    sized-small 5 _ (omega arith) l (
      h.0,
      (
        unfold sized in (omega (arith, length-append gs (function_numbers fs))),
        all_append Small gs _
            (few-small gs h.1) (functions-small fs h.2),
      ),
    )
record-small (project n xs) l h = sized-small 6 _ (omega arith) l (h.0, items-small xs h.1)
record-small (order n xs) l h = sized-small 7 _ (omega arith) l (h.0, keys-small xs h.1)
record-small (offset n k) l h = sized-small 8 _ (omega arith) l (h.0, halves_small k h.1)
record-small (limit n k) l h = sized-small 9 _ (omega arith) l (h.0, halves_small k h.1)
record-small (remap n ts) l h =
    sized-small 10 _ (omega arith) l
    (h.0, targets-small ts (unfold sized in (omega (arith, length-map ts option_number, h.1))))

-- all numbers of some records that fit in the area
pub nodes-small : (rs : List NodeRecord) → length (concat (map record_numbers rs)) ≤ least_area → All SmallRecord rs
    → All Small (concat (map record_numbers rs))
unfolding concat All
nodes-small [] l h = tt
nodes-small (r ∷ rs) l h =
    let e = length-append (record_numbers r) (concat (map record_numbers rs)) in
    all_append Small (record_numbers r) _ (record-small r (omega arith) h.0) (nodes-small rs (omega arith) h.1)

-- NODES
last-small : (m : Node ℕ) (k : ℕ) → Small (k + nodes m) → Small (last k m)
unfolding last
last-small m k = go (k + nodes m)
  where
    go : (j : ℕ) → Small j → Small (pred j)
    go j h = omega arith

-- behind the records of a source
behind : (m : Node ℕ) (k : ℕ) (r : NodeRecord) → All SmallRecord (records k m) → SmallRecord r
    → All SmallRecord (records k m ++ (r ∷ []))
unfolding All
behind m k r h g = all_append SmallRecord (records k m) (r ∷ []) h (g, tt)

-- and of two
both-sources : (m r : Node ℕ) (k : ℕ) (x : Option ℕ) (o : Bool) → Small (k + (nodes m + nodes r + 1))
    → All SmallRecord (records k m) → All SmallRecord (records (k + nodes m) r) → Given Few x
    → All SmallRecord (records k (P.join m r x o))
unfolding records SmallRecord
both-sources m r k x o l h g e =
    all_append SmallRecord (records k m) _ h
    (behind r (k + nodes m) _ g (last-small m k (omega arith), last-small r (k + nodes m) (omega arith), e))

-- the records of a node with few expression numbers
module _ (ts : Catalog) where
  pub records-small : (n : Node Built) (i k : ℕ) → Small (k + nodes (number_node i n))
      → All Few (expressions (number_node i n)) → NodeHas EndsValue Ends ts n
      → All SmallRecord (records k (number_node i n))
  unfolding records number_node nodes expressions NodeHas Fits SmallRecord All
  records-small (P.scan t a x) i k l e h = ((h.3, h.2, all-given Few _ e), tt)
  records-small (P.values rs) i k l e h = (concat-all Few _ e, tt)
  records-small (P.join a b x o) i k l e h =
      let e₁ = all_right Few (expressions (number_node i a)) _ e in
      both-sources (number_node i a) (number_node (i + cell_count a) b) k
      (number_given (i + cell_count a + cell_count b) x) o l
      (records-small a i k (omega arith) (all_left Few (expressions (number_node i a)) _ e) h.0)
      (records-small b (i + cell_count a) (k + nodes (number_node i a)) (omega arith)
      (all_left Few (expressions (number_node (i + cell_count a) b)) _ e₁) h.1)
      (all-given Few _ (all_right Few (expressions (number_node (i + cell_count a) b)) _ e₁))
  records-small (P.filter n x) i k l e h =
      behind (number_node i n) k _ (records-small n i k (omega arith) (all_left Few (expressions (number_node i n)) _ e)
      h.0) (last-small (number_node i n) k (omega arith), (all_right Few (expressions (number_node i n)) _ e).0)
  records-small (P.aggregate n gs fs) i k l e h =
      let e₁ = all_right Few (expressions (number_node i n)) _ e in
      let groups = roots (i + cell_count n) gs in
      behind (number_node i n) k _ (records-small n i k (omega arith) (all_left Few (expressions (number_node i n)) _ e)
      h.0) (
        last-small (number_node i n) k (omega arith),
        all_left Few groups _ e₁,
        map-all Few (λ (f : Aggregate × ℕ). f.1)
            (number_second (i + cell_count n + count_all gs) fs) (all_right Few groups _ e₁),
      )
  records-small (P.project n xs) i k l e h =
      let items = number_first (i + cell_count n) xs in
      behind (number_node i n) k _ (records-small n i k (omega arith) (all_left Few (expressions (number_node i n)) _ e)
      h.0) (
        last-small (number_node i n) k (omega arith),
        all_both _ _ items (map-all Few (λ (x : ℕ × Option Word). x.0) items
            (all_right Few (expressions (number_node i n)) _ e))
            (first-kept (Given Ends) xs (i + cell_count n) (all-weaken _ _ (λ x g. g.1) xs h.1)),
      )
  records-small (P.order n xs) i k l e h =
      behind (number_node i n) k _ (records-small n i k (omega arith) (all_left Few (expressions (number_node i n)) _ e)
      h.0) (
        last-small (number_node i n) k (omega arith),
        map-all Few (λ (x : ℕ × Bool). x.0)
            (number_first (i + cell_count n) xs) (all_right Few (expressions (number_node i n)) _ e),
      )
  records-small (P.offset n j) i k l e h =
      behind (number_node i n) k _ (records-small n i k (omega arith) e h.0)
      (last-small (number_node i n) k (omega arith), omega (arith, h.1.0))
  records-small (P.limit n j) i k l e h =
      behind (number_node i n) k _ (records-small n i k (omega arith) e h.0)
      (last-small (number_node i n) k (omega arith), omega (arith, h.1.0))
  records-small (P.remap n xs) i k l e h =
      behind (number_node i n) k _ (records-small n i k (omega arith) e h.0)
      (last-small (number_node i n) k (omega arith), h.1)
