-- What a node of each kind lays, from what its sources lay.
use Rattle.std.specs.Prelude.{ℕ, ◌+◌, pred, ◌≡◌, refl, Bool, List, [], ◌∷◌, ◌++◌, map}
use Rattle.std.proofs.Common.{arith}
use Rattle.std.proofs.Math.Option.{Option, none}
use Rattle.rules.specs.Lists.{given, concat}
use Rattle.rules.specs.Lines.{Word}
use Rattle.rules.specs.Schema.{Table}
use Rattle.rules.specs.Plan.{Built, Aggregate, Node}
use Rattle.rules.specs.Plan as P
use Rattle.rules.specs.Cells.{Cell, built_count, root, count_all, cells_all, roots, expressions, cell_count, number_given}
use Rattle.rules.specs.Cells.{number_rows, number_first, number_second, number_node}
use Rattle.rules.specs.Cells as C
use Rattle.rules.specs.Nodes.{NodeRecord, scan, values, join, filter, aggregate, project, order, offset, limit, remap}
use Rattle.rules.specs.Nodes.{nodes, last}
use Rattle.rules.specs.Nodes as N
use Rattle.appends.specs.Lists.Joined.{count-append, cells-append}
use Rattle.appends.specs.Nodes.Lays.{Lays, Adds, adds_none, adds_one, adds-more, nodes-numbered}

-- WITH ONE SOURCE
module _ (i k : ℕ) (n : Node Built) (cs : List Cell) (rs : List NodeRecord) (j m : ℕ) (h : Lays i k n cs rs j m) where
  last-is : last k (number_node i n) ≡ pred m
  unfolding last
  last-is = rw (nodes-numbered n i, h.node)

  over-cells : (es : List Built) (xs : List Cell) (q : ℕ) → Adds j es xs q → cells_all i (expressions n ++ es) ≡ cs ++ xs
  unfolding cell_count
  over-cells es xs q g = rw (cells-append (expressions n) es i, h.cells, h.next, g.cells)

  over-next : (es : List Built) (xs : List Cell) (q : ℕ) → Adds j es xs q → i + count_all (expressions n ++ es) ≡ q
  unfolding cell_count
  over-next es xs q g = rw (count-append (expressions n) es) (omega (arith, h.next, g.next))

  over-node : k + (nodes n + 1) ≡ m + 1
  over-node = omega (arith, h.node)

  pub lays-filter : (x : Built) (xs : List Cell) (q : ℕ) → C.cells j x ≡ xs → j + built_count x ≡ q
      → Lays i k (P.filter n x) (cs ++ xs) (rs ++ (filter (pred m) (pred q) ∷ [])) q (m + 1)
  unfolding expressions number_node N.records cell_count nodes root
  lays-filter x xs q e f =
      let g = adds_one j x xs q e f in
      record {
        cells = over-cells (x ∷ []) xs q g;
        records = rw (h.records, last-is, h.next, f);
        next = over-next (x ∷ []) xs q g;
        node = over-node;
      }

  -- the groups, then the functions' arguments
  pub lays-aggregate : (gs : List Built) (fs : List (Aggregate × Built)) (xs ys : List Cell) (as' : List ℕ)
      (bs : List (Aggregate × ℕ)) (q p : ℕ) → Adds j gs xs q → roots j gs ≡ as'
      → Adds q (map (λ f. f.1) fs) ys p → number_second q fs ≡ bs
      → Lays i k (P.aggregate n gs fs) (cs ++ (xs ++ ys)) (rs ++ (aggregate (pred m) as' bs ∷ [])) p (m + 1)
  unfolding expressions number_node N.records cell_count nodes
  lays-aggregate gs fs xs ys as' bs q p a e b f =
      let g = adds-more j q p gs (map (λ f. f.1) fs) xs ys a b in
      record {
        cells = over-cells _ _ p g;
        records = rw (h.records, last-is, h.next, e, a.next, f);
        next = over-next _ _ p g;
        node = over-node;
      }

  pub lays-project : (ps : List (Built × Option Word)) (xs : List Cell) (bs : List (ℕ × Option Word)) (q : ℕ)
      → Adds j (map (λ x. x.0) ps) xs q → number_first j ps ≡ bs
      → Lays i k (P.project n ps) (cs ++ xs) (rs ++ (project (pred m) bs ∷ [])) q (m + 1)
  unfolding expressions number_node N.records cell_count nodes
  lays-project ps xs bs q g e = record {
    cells = over-cells _ _ q g;
    records = rw (h.records, last-is, h.next, e);
    next = over-next _ _ q g;
    node = over-node;
  }

  pub lays-order : (ps : List (Built × Bool)) (xs : List Cell) (bs : List (ℕ × Bool)) (q : ℕ)
      → Adds j (map (λ x. x.0) ps) xs q → number_first j ps ≡ bs
      → Lays i k (P.order n ps) (cs ++ xs) (rs ++ (order (pred m) bs ∷ [])) q (m + 1)
  unfolding expressions number_node N.records cell_count nodes
  lays-order ps xs bs q g e = record {
    cells = over-cells _ _ q g;
    records = rw (h.records, last-is, h.next, e);
    next = over-next _ _ q g;
    node = over-node;
  }

  pub lays-offset : (r : ℕ) → Lays i k (P.offset n r) cs (rs ++ (offset (pred m) r ∷ [])) j (m + 1)
  unfolding expressions number_node N.records cell_count nodes
  lays-offset r = record { cells = h.cells; records = rw (h.records, last-is); next = h.next; node = over-node }

  pub lays-limit : (r : ℕ) → Lays i k (P.limit n r) cs (rs ++ (limit (pred m) r ∷ [])) j (m + 1)
  unfolding expressions number_node N.records cell_count nodes
  lays-limit r = record { cells = h.cells; records = rw (h.records, last-is); next = h.next; node = over-node }

  pub lays-remap : (ts : List (Option ℕ)) → Lays i k (P.remap n ts) cs (rs ++ (remap (pred m) ts ∷ [])) j (m + 1)
  unfolding expressions number_node N.records cell_count nodes
  lays-remap ts = record { cells = h.cells; records = rw (h.records, last-is); next = h.next; node = over-node }

-- WITH TWO: the second behind the first, then the predicate
pub lays-join : (i k : ℕ) (a b : Node Built) (o : Bool) (x : Option Built) (cs ds xs : List Cell)
    (rs ts : List NodeRecord) (j m p l q : ℕ) (y : Option ℕ) → Lays i k a cs rs j m → Lays j m b ds ts p l
    → Adds p (given x) xs q → number_given p x ≡ y
    → Lays i k (P.join a b x o) (cs ++ (ds ++ xs)) (rs ++ (ts ++ (join (pred m) (pred l) y o ∷ []))) q (l + 1)
unfolding expressions number_node N.records cell_count nodes last
lays-join i k a b o x cs ds xs rs ts j m p l q y h g e w = record {
  cells = rw (
    cells-append (expressions a) (expressions b ++ given x) i,
    cells-append (expressions b) (given x) _,
    h.cells,
    h.next,
    g.cells,
    g.next,
    e.cells,
  );
  records = rw (
    h.records,
    nodes-numbered a i,
    h.node,
    h.next,
    nodes-numbered b j,
    g.node,
    g.records,
    g.next,
    w,
  );
  next = rw (count-append (expressions a) (expressions b ++ given x), count-append (expressions b) (given x))
      (omega (arith, h.next, g.next, e.next));
  node = omega (arith, h.node, g.node);
}

-- WITH NONE
pub lays-scan : (i k : ℕ) (t : Table) (a : Option Word) (x : Option Built) (xs : List Cell) (y : Option ℕ) (q : ℕ)
    → Adds i (given x) xs q → number_given i x ≡ y → Lays i k (P.scan t a x) xs (scan t a y ∷ []) q (k + 1)
unfolding expressions number_node N.records cell_count nodes
lays-scan i k t a x xs y q h e = record { cells = h.cells; records = rw e; next = h.next; node = refl }

-- a whole table
pub lays-table : (i k : ℕ) (t : Table) (a : Option Word) → Lays i k (P.scan t a none) [] (scan t a none ∷ []) i (k + 1)
unfolding given number_given
lays-table i k t a = lays-scan i k t a none [] none i (adds_none i) refl

pub lays-values : (i k : ℕ) (vs : List (List Built)) (xs : List Cell) (ns : List (List ℕ)) (q : ℕ)
    → Adds i (concat vs) xs q → number_rows i vs ≡ ns → Lays i k (P.values vs) xs (values ns ∷ []) q (k + 1)
unfolding expressions number_node N.records cell_count nodes
lays-values i k vs xs ns q h e = record { cells = h.cells; records = rw e; next = h.next; node = refl }

-- one row of no columns
pub lays-empty : (i k : ℕ) → Lays i k (P.values ([] ∷ [])) [] (values ([] ∷ []) ∷ []) i (k + 1)
unfolding concat number_rows roots
lays-empty i k = lays-values i k ([] ∷ []) [] ([] ∷ []) i (adds_none i) refl
