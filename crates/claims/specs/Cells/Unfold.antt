-- One expression's cells unfold to its tree.
use Rattle.std.specs.Prelude.{ℕ, ◌+◌, pred, ◌≡◌, get_or}
use Rattle.std.proofs.Common.{arith, length-append}
use Rattle.std.proofs.Math.Path.{refl}
use mathlib.Core.List.{List, [], ◌∷◌, ◌++◌, append_assoc, append-nil}
use Rattle.std.proofs.Math.ListN.{length}
use Rattle.std.proofs.lemmas.List.{get_or_at}
use Rattle.rules.specs.Schema.{null}
use Rattle.rules.specs.Ast.{not, or, eq, gt, lt, Binary, plain, ge, le, ne}
use Rattle.rules.specs.Plan.{Built, Expression, desugar_binary, desugar}
use Rattle.rules.specs.Plan as P
use Rattle.rules.specs.Cells.{Cell, constant, column, unary, binary, is, added, built_count, root, operator, cells}

-- the tree at a number
unfoldable pub tree : List Expression → ℕ → Expression
tree ts i = get_or ts i (P.constant null)

-- a cell's tree, over those of the cells before it
unfoldable pub tree_of : List Expression → Cell → Expression
tree_of ts (constant v) = P.constant v
tree_of ts (column i) = P.column i
tree_of ts (unary o a) = P.unary o (tree ts a)
tree_of ts (binary o a b) = P.binary o (tree ts a) (tree ts b)
tree_of ts (is a v) = P.is (tree ts a) v

-- the trees of some cells, behind those of the cells before them
unfoldable pub unfolded : List Expression → List Cell → List Expression
unfolded ts [] = ts
unfolded ts (c ∷ cs) = unfolded (ts ++ (tree_of ts c ∷ [])) cs

pub unfolded-append : (xs ys : List Cell) (ts : List Expression) → unfolded ts (xs ++ ys) ≡ unfolded (unfolded ts xs) ys
unfolding unfolded
unfolded-append [] ys ts = refl
unfolded-append (x ∷ xs) ys ts = unfolded-append xs ys (ts ++ (tree_of ts x ∷ []))

-- the trees of an operator's cells
unfoldable pub parts : Binary → Expression → Expression → List Expression
parts (plain o) x y = P.binary o x y ∷ []
parts ge x y = P.binary gt x y ∷ P.binary eq x y ∷ P.binary or (P.binary gt x y) (P.binary eq x y) ∷ []
parts le x y = P.binary lt x y ∷ P.binary eq x y ∷ P.binary or (P.binary lt x y) (P.binary eq x y) ∷ []
parts ne x y = P.binary eq x y ∷ P.unary not (P.binary eq x y) ∷ []

-- the trees of an expression's cells
unfoldable pub trees : Built → List Expression
trees (P.constant v) = P.constant v ∷ []
trees (P.column i) = P.column i ∷ []
trees (P.unary o a) = trees a ++ (P.unary o (desugar a) ∷ [])
trees (P.binary o a b) = trees a ++ (trees b ++ parts o (desugar a) (desugar b))
trees (P.is a v) = trees a ++ (P.is (desugar a) v ∷ [])

parts-length : (o : Binary) (x y : Expression) → length (parts o x y) ≡ added o
unfolding parts added
parts-length (plain o) x y = refl
parts-length ge x y = refl
parts-length le x y = refl
parts-length ne x y = refl

pub trees-length : (a : Built) → length (trees a) ≡ built_count a
unfolding trees built_count
trees-length (P.constant v) = refl
trees-length (P.column i) = refl
trees-length (P.unary o a) = simp (length-append, trees-length a)
trees-length (P.binary o a b) = simp (length-append, trees-length a, trees-length b, parts-length) (omega arith)
trees-length (P.is a v) = simp (length-append, trees-length a)

-- a list that ends in an expression: its last element
Ends : List Expression → Expression → Type 0
Ends ts x = (us : List Expression) × (ts ≡ us ++ (x ∷ []))

ends-append : (us ts : List Expression) (x : Expression) → Ends ts x → Ends (us ++ ts) x
unfolding Ends
ends-append us ts x h = (us ++ h.0, rw (h.1, append_assoc))

parts-end : (o : Binary) (x y : Expression) → Ends (parts o x y) (desugar_binary o x y)
unfolding Ends parts desugar_binary
parts-end (plain o) x y = ([], refl)
parts-end ge x y = (P.binary gt x y ∷ P.binary eq x y ∷ [], refl)
parts-end le x y = (P.binary lt x y ∷ P.binary eq x y ∷ [], refl)
parts-end ne x y = (P.binary eq x y ∷ [], refl)

trees-end : (a : Built) → Ends (trees a) (desugar a)
unfolding Ends trees desugar
trees-end (P.constant v) = ([], refl)
trees-end (P.column i) = ([], refl)
trees-end (P.unary o a) = (trees a, refl)
trees-end (P.binary o a b) =
    let own = parts o (desugar a) (desugar b) in
    ends-append (trees a) (trees b ++ own) _ (ends-append (trees b) own _ (parts-end o (desugar a) (desugar b)))
trees-end (P.is a v) = (trees a, refl)

-- the tree at an expression's root
pub at-root : (a : Built) (n : ℕ) (ts rest : List Expression) → length ts ≡ n
    → tree (ts ++ (trees a ++ rest)) (root n a) ≡ desugar a
unfolding Ends tree root
at-root a n ts rest e =
    let h = trees-end a in
    let q : ts ++ (trees a ++ rest) ≡ (ts ++ h.0) ++ (desugar a ∷ rest) = simp (h.1, append_assoc) in
    let m : length h.0 + 1 ≡ built_count a = rw (← trees-length a, h.1) (simp length-append) in
    let l : length (ts ++ h.0) ≡ pred (n + built_count a) = rw length-append (omega arith) in
    rw q (get_or_at (ts ++ h.0) (desugar a) rest (P.constant null) (pred (n + built_count a)) l)

at-root-end : (a : Built) (n : ℕ) (ts : List Expression) → length ts ≡ n → tree (ts ++ trees a) (root n a) ≡ desugar a
at-root-end a n ts e = rw append-nil at (at-root a n ts [] e)

-- what stands at the end of some trees, and behind it
tree-at : (ts : List Expression) (x : Expression) (us : List Expression) (n : ℕ) → length ts ≡ n
    → tree (ts ++ (x ∷ us)) n ≡ x
unfolding tree
tree-at ts x us n e = get_or_at ts x us (P.constant null) n e

tree-next : (ts : List Expression) (x y : Expression) (us : List Expression) (n : ℕ) → length ts ≡ n
    → tree (ts ++ (x ∷ y ∷ us)) (n + 1) ≡ y
tree-next ts x y us n e = rw append_assoc at (tree-at (ts ++ (x ∷ [])) y us (n + 1) (rw length-append (omega arith)))

-- the tree at x is a, whatever comes behind
Stands : List Expression → ℕ → Expression → Type 0
Stands ts x a = (us : List Expression) → tree (ts ++ us) x ≡ a

stands-now : (ts : List Expression) (x : ℕ) (a : Expression) → Stands ts x a → tree ts x ≡ a
unfolding Stands
stands-now ts x a p = rw append-nil at (p [])

-- the cells of an operator, over trees in which the operands stand
unfold-operator : (o : Binary) (n x y : ℕ) (ts : List Expression) (a b : Expression) → length ts ≡ n
    → Stands ts x a → Stands ts y b → unfolded ts (operator o n x y) ≡ ts ++ parts o a b
unfolding unfolded tree_of operator parts Stands
unfold-operator (plain o) n x y ts a b e p q = rw (stands-now ts x a p, stands-now ts y b q)
unfold-operator ge n x y ts a b e p q =
    simp (stands-now ts x a p, stands-now ts y b q, p, q, append_assoc, tree-at, tree-next, e)
unfold-operator le n x y ts a b e p q =
    simp (stands-now ts x a p, stands-now ts y b q, p, q, append_assoc, tree-at, tree-next, e)
unfold-operator ne n x y ts a b e p q = simp (stands-now ts x a p, stands-now ts y b q, append_assoc, tree-at, e)

pub unfold-cells : (a : Built) (n : ℕ) (ts : List Expression) → length ts ≡ n → unfolded ts (cells n a) ≡ ts ++ trees a
unfolding cells trees unfolded tree_of Stands
unfold-cells (P.constant v) n ts e = refl
unfold-cells (P.column i) n ts e = refl
unfold-cells (P.unary o a) n ts e = rw (unfolded-append, unfold-cells a n ts e, at-root-end a n ts e, append_assoc)
unfold-cells (P.binary o a b) n ts e =
    let k = n + built_count a in
    let ta = ts ++ trees a in
    let tb = ta ++ trees b in
    let ea : length ta ≡ k = rw (length-append, trees-length a) (omega arith) in
    let eb : length tb ≡ k + built_count b = rw (length-append, trees-length b) (omega arith) in
    let pa : Stands tb (root n a) (desugar a) = λ us. simp append_assoc (at-root a n ts (trees b ++ us) e) in
    let pb : Stands tb (root k b) (desugar b) = λ us. rw (append_assoc ta) (at-root b k ta us ea) in
    rw (
      unfolded-append,
      unfold-cells a n ts e,
      unfolded-append,
      unfold-cells b k ta ea,
      unfold-operator o (k + built_count b) (root n a) (root k b) tb (desugar a) (desugar b) eb pa pb,
    )
    (simp append_assoc)
unfold-cells (P.is a v) n ts e = rw (unfolded-append, unfold-cells a n ts e, at-root-end a n ts e, append_assoc)
