-- The expressions, names and words of a plan have what its values and names have.
use Rattle.std.specs.Prelude.{List}
use Rattle.rules.specs.Lists.{given}
use Rattle.rules.specs.Lines.{Word}
use Rattle.rules.specs.Schema.{Value, Catalog}
use Rattle.rules.specs.Plan.{Built, Node, Made, Plan}
use Rattle.rules.specs.Plan as P
use Rattle.rules.specs.Cells.{expressions, plan_expressions}
use Rattle.claims.specs.Answers.{All, all_append, all_left, all_right, all-weaken, all_map}
use Rattle.claims.specs.Lists.{all_none, all_one, all-concat, given-all, given-weaken}
use Rattle.claims.specs.Building.Has.{TreeHas, MadeHas, NodeHas, PlanHas}
use Rattle.claims.specs.Words.Lists.{words_of, all_words, words-all, node_names, plan_node_names, value_words}
use Rattle.claims.specs.Words.Lists.{built_words, made_words, table_words, plan_words_by}

module _ (Q : Value → Type 0) (N : Word → Type 0) (ts : Catalog) where
  -- EXPRESSIONS
  abbrev Tree : Built → Type 0
  Tree x = TreeHas Q x

  node-trees : (n : Node Built) → NodeHas Q N ts n → All Tree (expressions n)
  unfolding NodeHas expressions
  node-trees (P.scan t a x) h = given-all Tree x h.1
  node-trees (P.values rs) h = all-concat Tree rs h
  node-trees (P.join a b x o) h =
      all_append Tree (expressions a) _ (node-trees a h.0)
      (all_append Tree (expressions b) _ (node-trees b h.1) (given-all Tree x h.2))
  node-trees (P.filter n x) h = all_append Tree (expressions n) _ (node-trees n h.0) (all_one Tree x h.1)
  node-trees (P.aggregate n gs fs) h =
      all_append Tree (expressions n) _ (node-trees n h.0)
      (all_append Tree gs _ h.1 (all_map Tree (λ f. f.1) _ (λ f g. g) fs h.2))
  node-trees (P.project n xs) h =
      all_append Tree (expressions n) _ (node-trees n h.0) (all_map Tree (λ x. x.0) _ (λ x g. g.0) xs h.1)
  node-trees (P.order n xs) h =
      all_append Tree (expressions n) _ (node-trees n h.0) (all_map Tree (λ x. x.0) _ (λ x g. g) xs h.1)
  node-trees (P.offset n k) h = node-trees n h.0
  node-trees (P.limit n k) h = node-trees n h.0
  node-trees (P.remap n xs) h = node-trees n h.0

  -- the expressions of a plan
  pub plan-trees : (p : Plan Built) → PlanHas Q N ts p → All (TreeHas Q) (plan_expressions p)
  unfolding PlanHas plan_expressions
  plan-trees (P.select n) h = node-trees n h
  plan-trees (P.delete t n) h = node-trees n h.1
  plan-trees (P.insert t m n) h = node-trees n h.1
  plan-trees (P.update t n xs) h =
      all_append Tree (expressions n) _ (node-trees n h.1) (all_map Tree (λ x. x.1) _ (λ x g. g) xs h.2)
  plan-trees (P.create n k cs) h = all_none Tree
  plan-trees (P.drop n y) h = all_none Tree

  -- NAMES
  node-names : (n : Node Built) → NodeHas Q N ts n → All N (node_names n)
  unfolding NodeHas node_names All
  node-names (P.scan t a x) h = (h.3, given-all N a h.2)
  node-names (P.values rs) h = tt
  node-names (P.join a b x o) h = all_append N (node_names a) _ (node-names a h.0) (node-names b h.1)
  node-names (P.filter n x) h = node-names n h.0
  node-names (P.aggregate n gs fs) h = node-names n h.0
  node-names (P.project n xs) h =
      all_append N (node_names n) _ (node-names n h.0)
      (all_words N _ xs (all-weaken _ _ (λ x g. given-all N x.1 g.1) xs h.1))
  node-names (P.order n xs) h = node-names n h.0
  node-names (P.offset n k) h = node-names n h.0
  node-names (P.limit n k) h = node-names n h.0
  node-names (P.remap n xs) h = node-names n h.0

  -- the names of a plan's node
  plan-node-names : (p : Plan Built) → PlanHas Q N ts p → All N (plan_node_names p)
  unfolding PlanHas plan_node_names
  plan-node-names (P.select n) h = node-names n h
  plan-node-names (P.delete t n) h = node-names n h.1
  plan-node-names (P.insert t m n) h = node-names n h.1
  plan-node-names (P.update t n xs) h = node-names n h.1
  plan-node-names (P.create n k cs) h = all_none N
  plan-node-names (P.drop n y) h = all_none N

  -- WORDS, where those of each value have N
  module _ (t : Word → List Word) (values : (v : Value) → Q v → All N (value_words t v)) where
    tree-words : (x : Built) → Tree x → All N (built_words t x)
    unfolding TreeHas built_words
    tree-words (P.constant v) h = values v h
    tree-words (P.column i) h = all_none N
    tree-words (P.unary o a) h = tree-words a h
    tree-words (P.binary o a b) h = all_append N (built_words t a) _ (tree-words a h.0) (tree-words b h.1)
    tree-words (P.is a v) h = all_append N (built_words t a) _ (tree-words a h.0) (values v h.2)

    made-words : (c : Made) → MadeHas Q N c → All N (made_words t c)
    unfolding made_words All
    made-words c h = (
      h.1,
      all_append N (given c.reference) _ (given-all N c.reference h.2)
          (all_words N (value_words t) (given c.default)
          (given-all _ c.default (given-weaken Q _ values c.default h.0))),
    )

    table-words : (p : Plan Built) → PlanHas Q N ts p → All N (table_words t p)
    unfolding PlanHas table_words All
    table-words (P.select n) h = tt
    table-words (P.delete a n) h = (h.2, tt)
    table-words (P.insert a m n) h = (h.3, tt)
    table-words (P.update a n xs) h = (h.3, tt)
    table-words (P.create n k cs) h = (h.2, all_words N (made_words t) cs (all-weaken _ _ made-words cs h.1))
    table-words (P.drop n y) h = (h, tt)

    -- all words of a plan
    pub plan-words : (p : Plan Built) → PlanHas Q N ts p → All N (plan_words_by t p)
    unfolding plan_words_by
    plan-words p h =
        all_append N (plan_node_names p) _ (plan-node-names p h)
        (all_append N (words_of (built_words t) (plan_expressions p)) _
        (all_words N (built_words t) _ (all-weaken _ _ tree-words (plan_expressions p) (plan-trees p h)))
        (table-words p h))

-- FROM ALL WORDS to those of the parts
module _ (t : Word → List Word) (P : Word → Type 0) (p : Plan Built) (h : All P (plan_words_by t p)) where
  pub words-node_names : All P (plan_node_names p)
  unfolding plan_words_by
  words-node_names = all_left P (plan_node_names p) _ h

  pub words-expressions : All (λ x. All P (built_words t x)) (plan_expressions p)
  unfolding plan_words_by
  words-expressions =
      words-all P (built_words t) _ (all_left P (words_of (built_words t) (plan_expressions p)) _
      (all_right P (plan_node_names p) _ h))
