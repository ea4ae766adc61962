-- The loop over the nodes of an area.
use Rattle.std.specs.Prelude.{ℕ, ◌+◌, ◌*◌, ◌≤◌, ◌≡◌, List, get_or, drop}
use Rattle.std.proofs.Common.{add-one, ◌∙◌}
use Rattle.std.proofs.Math.Path.{ap}
use Rattle.rules.specs.Area.{header_size}
use Rattle.listing.specs.declared.put.Writer.{Writer}
use Rattle.listing.specs.Lines.{LinesIn, lines_none, lines_more, lines-all, lines_same, listed}
use Rattle.listing.specs.Nodes.{behind, node_line, nodes_from, node_lines}

-- the numbers of an area's nodes
abbrev pub nodes_of : List ℕ → List ℕ
nodes_of a = drop (header_size + get_or a 2 0 * 4) a

-- the lines of the first i nodes of an area a are put, and the numbers t are those from the next node on
pub record NodeLoop (w w' : Writer) (a t : List ℕ) (i : ℕ) : Type 0 where
  pub lines : LinesIn w w' (λ c q. listed i (λ j. node_line c q j (behind j (nodes_of a))))
  pub start : t ≡ behind i (nodes_of a)

module _ (a : List ℕ) where
  pub nodes-begin : {w : Writer} {t : List ℕ} {x : ℕ} → x ≡ get_or a 2 0 → t ≡ drop (header_size + x * 4) a → NodeLoop w w a t 0
  unfolding behind listed
  nodes-begin e f = record { lines = lines_none; start = f ∙ ap (λ k. drop (header_size + k * 4) a) e }

  pub nodes-more : {w w' w'' : Writer} {t t' : List ℕ} {i : ℕ} → NodeLoop w w' a t i → LinesIn w' w'' (λ c q. node_line c q i t)
      → t' ≡ drop (2 + get_or t 1 0) t → NodeLoop w w'' a t' (i + 1)
  unfolding behind
  nodes-more {i = i} h g f = record {
    lines = lines_more (λ j c q. node_line c q j (behind j (nodes_of a))) h.lines (lines_same g (λ c q. ap (λ u. node_line c q i u) h.start));
    start = f ∙ rw (h.start, add-one i);
  }

  pub nodes-all : {w w' : Writer} {t : List ℕ} {n i : ℕ} → NodeLoop w w' a t i → n ≡ get_or a 3 0 → i ≤ n → n ≤ i
      → LinesIn w w' (λ c q. node_lines c q a)
  unfolding node_lines nodes_from
  nodes-all h e l m = lines_same (lines-all (λ j c q. node_line c q j (behind j (nodes_of a))) h.lines l m)
      (λ c q. ap (λ k. listed k (λ j. node_line c q j (behind j (nodes_of a)))) e)
