-- The listing of a plan's area is the plan's, as the rules print it.
use Rattle.std.specs.Prelude.{ℕ, suc, ◌+◌, ◌*◌, ◌-◌, ◌≤◌, ◌≡◌, refl, List, [], ◌∷◌, ◌++◌, drop}
use Rattle.std.proofs.Common.{arith, zero-add, sym, ◌∙◌, append_assoc}
use Rattle.std.proofs.Math.Path.{ap}
use Rattle.std.proofs.Math.ListN.{length}
use Rattle.std.proofs.Math.Seq.{drop-append-add, drop-append_seam}
use Rattle.rules.specs.Refusals.{ok}
use Rattle.rules.specs.Limits.{most_bytes}
use Rattle.rules.specs.Lists.{Bytes}
use Rattle.rules.specs.Lines.{bytes}
use Rattle.rules.specs.Schema.{Catalog}
use Rattle.rules.specs.Plan.{Built, Plan}
use Rattle.rules.specs.Plan as P
use Rattle.rules.specs.Cells.{plan_cells, number_plan}
use Rattle.rules.specs.Nodes.{plan_records}
use Rattle.rules.specs.Entry.{plan_of}
use Rattle.rules.specs.Area.{own_numbers, plan_code, cell_part, node_part, own_start}
use Rattle.rules.specs.Area.{header, plan_numbers}
use Rattle.rules.specs.Print.{show_own, kind, show_lines, show_header, show_cells}
use Rattle.rules.specs.Print.{show_nodes, show_plan}
use Rattle.claims.specs.Answers.{ensured}
use Rattle.claims.specs.Area.Accepted.{catalog-read}
use Rattle.claims.specs.Area.PlanReadable.{plan-readable}
use Rattle.claims.specs.Area.PlanReadsBack.{code-kept}
use Rattle.claims.specs.Area.Readable.{Readable}
use Rattle.appends.specs.Area.{cells-four, cells_numbers}
use Rattle.text.specs.Words.{words_of, push}
use Rattle.listing.specs.Words.{word_of}
use Rattle.listing.specs.Lines.{listed, listed_same, each}
use Rattle.listing.specs.Cells.{cell_line, cell_lines}
use Rattle.listing.specs.Nodes.{node_line, nodes_from, node_lines, behind}
use Rattle.listing.specs.Own.{statement_word, header_line, own_lines, area_lines, show_area}
use Rattle.listing.specs.ShownCells.{cells-shown}
use Rattle.listing.specs.ShownNodes.{nodes-shown}
use Rattle.listing.specs.ShownOwn.{own-shown}

kind-word : (p : Plan Built) → word_of (bytes " select create drop delete insert update ") (plan_code p) ≡ kind p
unfolding plan_code kind bytes words_of push
kind-word (P.select n) = refl
kind-word (P.create n k cs) = refl
kind-word (P.drop n y) = refl
kind-word (P.delete t n) = refl
kind-word (P.insert t m n) = refl
kind-word (P.update t n xs) = refl

-- counted from 0
cells-zero : (c q : Bytes) (n : ℕ) (t : List ℕ) → each n 4 (cell_line c q) t ≡ each n 4 (λ i. cell_line c q (0 + i)) t
unfolding each
cells-zero c q n t = listed_same n (λ i. cell_line c q i (drop (i * 4) t)) (λ i. cell_line c q (0 + i) (drop (i * 4) t))
    λ i. ap (λ j. cell_line c q j (drop (i * 4) t)) (sym (zero-add i))

nodes-zero : (c q : Bytes) (n : ℕ) (t : List ℕ)
    → listed n (λ i. node_line c q i (behind i t)) ≡ listed n (λ i. node_line c q (0 + i) (behind i t))
nodes-zero c q n t = listed_same n (λ i. node_line c q i (behind i t)) (λ i. node_line c q (0 + i) (behind i t))
    λ i. ap (λ j. node_line c q j (behind i t)) (sym (zero-add i))

-- THE PARTS behind a header of six numbers
module _ (h1 h2 h3 h4 h5 h6 : ℕ) (cs ns o z : List ℕ) where
  abbrev whole : List ℕ
  whole = h1 ∷ h2 ∷ h3 ∷ h4 ∷ h5 ∷ h6 ∷ ((cs ++ (ns ++ o)) ++ z)

  parts : (cs ++ (ns ++ o)) ++ z ≡ cs ++ (ns ++ (o ++ z))
  parts = append_assoc cs (ns ++ o) z ∙ ap (λ t. cs ++ t) (append_assoc ns o z)

  drop-header : (n : ℕ) → drop (6 + n) whole ≡ drop n (cs ++ (ns ++ (o ++ z)))
  drop-header n =
      let e : 6 + n ≡ suc (suc (suc (suc (suc (suc n))))) = omega arith in
      rw e (ap (drop n) parts)

  drop_cells : (n : ℕ) → n ≡ length cs → drop (6 + n) whole ≡ ns ++ (o ++ z)
  drop_cells n e = drop-header n ∙ rw e (drop-append_seam cs (ns ++ (o ++ z)))

  drop-nodes : drop (6 + length cs + length ns) whole ≡ o ++ z
  drop-nodes =
      let e : 6 + length cs + length ns ≡ 6 + (length cs + length ns) = omega arith in
      rw e (drop-header (length cs + length ns)
      ∙ (drop-append-add cs (ns ++ (o ++ z)) (length ns) ∙ drop-append_seam ns (o ++ z)))

-- THE LINES OF A PLAN'S AREA
module _ (c q : Bytes) (ts : Catalog) (p : Plan Built) (z : List ℕ) (h : Readable c q ts p) where
  header-shown : header_line (plan_numbers p ++ z) ≡ show_header p ∷ []
  unfolding statement_word header_line plan_numbers header show_header
  header-shown = rw (kind-word p)

  cells-part : cell_lines c q (plan_numbers p ++ z) ≡ show_cells (plan_cells p)
  unfolding cell_lines plan_numbers header cell_part show_cells
  cells-part =
      let ns = node_part p ++ own_numbers (number_plan p) in
      ap (each (length (plan_cells p)) 4 (cell_line c q)) (append_assoc (cell_part p) ns z)
      ∙ (cells-zero c q (length (plan_cells p)) (cell_part p ++ (ns ++ z)) ∙ cells-shown c q (plan_cells p) 0 (ns ++ z) h.cells)

  nodes-part : node_lines c q (plan_numbers p ++ z) ≡ show_nodes (plan_records (number_plan p))
  unfolding node_lines nodes_from plan_numbers header cell_part node_part show_nodes cells_numbers
  nodes-part =
      let os = own_numbers (number_plan p) in
      let rs = plan_records (number_plan p) in
      let e : length (plan_cells p) * 4 ≡ length (cell_part p) = omega (arith, cells-four (plan_cells p)) in
      ap (λ t. listed (length rs) (λ i. node_line c q i (behind i t)))
      (drop_cells _ _ _ _ _ _ (cell_part p) (node_part p) os z (length (plan_cells p) * 4) e)
      ∙ (nodes-zero c q (length rs) (node_part p ++ (os ++ z)) ∙ nodes-shown c q ts rs 0 (os ++ z) h.nodes)

  own-part : own_lines c q (plan_code p) (length (plan_records (number_plan p)) - 1) (drop (own_start p) (plan_numbers p ++ z))
      ≡ show_own (number_plan p)
  unfolding plan_numbers header own_start
  own-part =
      let os = own_numbers (number_plan p) in
      ap (own_lines c q (plan_code p) (length (plan_records (number_plan p)) - 1))
      (drop-nodes _ _ _ _ _ _ (cell_part p) (node_part p) os z)
      ∙ (ap (λ k. own_lines c q k (length (plan_records (number_plan p)) - 1) (os ++ z)) (sym (code-kept p))
      ∙ own-shown c q ts (number_plan p) z h.own)

  lines-shown : area_lines c q (plan_numbers p ++ z)
      ≡ show_header p ∷ (show_cells (plan_cells p) ++ (show_nodes (plan_records (number_plan p)) ++ show_own (number_plan p)))
  unfolding area_lines plan_numbers header
  lines-shown =
      let a = plan_numbers p ++ z in
      let o = own_lines c q (plan_code p) (length (plan_records (number_plan p)) - 1) (drop (own_start p) a) in
      ap (λ l. l ++ (cell_lines c q a ++ (node_lines c q a ++ o))) header-shown
      ∙ (ap (λ l. show_header p ∷ (l ++ (node_lines c q a ++ o))) cells-part
      ∙ (ap (λ l. show_header p ∷ (show_cells (plan_cells p) ++ (l ++ o))) nodes-part
      ∙ ap (λ l. show_header p ∷ (show_cells (plan_cells p) ++ (show_nodes (plan_records (number_plan p)) ++ l))) own-part))

  -- the area of a readable plan, whatever stands behind it, lists as the plan
  pub plan-shown : show_area c q (plan_numbers p ++ z) ≡ show_plan p
  unfolding show_area show_plan
  plan-shown = ap show_lines lines-shown

-- so does that of an accepted plan
pub accepted-shown : (c q : Bytes) (p : Plan Built) (z : List ℕ) → length c ≤ most_bytes → plan_of c q ≡ ok p
    → show_area c q (plan_numbers p ++ z) ≡ show_plan p
accepted-shown c q p z l e =
    let ts = catalog-read c q p e in
    plan-shown c q ts.0 p z (ensured (plan_of c q) (Readable c q ts.0) (plan-readable c q ts.0 l ts.1) p e)
