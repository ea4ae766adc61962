-- What a node appends to the cells and to the node records.
use Rattle.std.specs.Prelude.{ℕ, ◌+◌, ◌≡◌, refl, List, [], ◌∷◌, ◌++◌}
use Rattle.std.proofs.Common.{arith, ◌∙◌, append-nil}
use Rattle.rules.specs.Plan.{Built, Node}
use Rattle.rules.specs.Plan as P
use Rattle.rules.specs.Cells.{Cell, built_count, count_all, cells_all, expressions, cell_count, number_node}
use Rattle.rules.specs.Cells as C
use Rattle.rules.specs.Nodes.{NodeRecord, nodes}
use Rattle.rules.specs.Nodes as N
use Rattle.appends.specs.Lists.Joined.{count-append, cells-append}

-- numbering keeps the nodes
pub nodes-numbered : (n : Node Built) (i : ℕ) → nodes (number_node i n) ≡ nodes n
unfolding nodes number_node
nodes-numbered (P.scan t a x) i = refl
nodes-numbered (P.values rs) i = refl
nodes-numbered (P.join a b x o) i = rw (nodes-numbered a i, nodes-numbered b (i + cell_count a))
nodes-numbered (P.filter n x) i = rw (nodes-numbered n i)
nodes-numbered (P.aggregate n gs fs) i = rw (nodes-numbered n i)
nodes-numbered (P.project n xs) i = rw (nodes-numbered n i)
nodes-numbered (P.order n xs) i = rw (nodes-numbered n i)
nodes-numbered (P.offset n k) i = rw (nodes-numbered n i)
nodes-numbered (P.limit n k) i = rw (nodes-numbered n i)
nodes-numbered (P.remap n ts) i = rw (nodes-numbered n i)

-- Node n, with its sources, lays the cells cs from number i on and the records rs from number k on; the next cell is
-- then j, the next record m.
pub record Lays (i k : ℕ) (n : Node Built) (cs : List Cell) (rs : List NodeRecord) (j m : ℕ) : Type 0 where
  pub cells : cells_all i (expressions n) ≡ cs
  pub records : N.records k (number_node i n) ≡ rs
  pub next : i + cell_count n ≡ j
  pub node : k + nodes n ≡ m

-- expressions es are the cells xs from number j on, and the next cell is q
pub record Adds (j : ℕ) (es : List Built) (xs : List Cell) (q : ℕ) : Type 0 where
  pub cells : cells_all j es ≡ xs
  pub next : j + count_all es ≡ q

pub adds_none : (j : ℕ) → Adds j [] [] j
unfolding cells_all count_all
adds_none j = record { cells = refl; next = omega arith }

pub adds_one : (j : ℕ) (x : Built) (xs : List Cell) (q : ℕ) → C.cells j x ≡ xs → j + built_count x ≡ q
    → Adds j (x ∷ []) xs q
unfolding cells_all count_all
adds_one j x xs q e f = record { cells = append-nil (C.cells j x) ∙ e; next = omega (arith, f) }

pub adds-more : (j q p : ℕ) (es fs : List Built) (xs ys : List Cell) → Adds j es xs q → Adds q fs ys p
    → Adds j (es ++ fs) (xs ++ ys) p
adds-more j q p es fs xs ys h g = record {
  cells = rw (cells-append es fs j, h.cells, h.next, g.cells);
  next = rw (count-append es fs) (omega (arith, h.next, g.next));
}
