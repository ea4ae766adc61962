-- FROM's columns are its tables' columns in the statement's order, whatever its joins.
use Rattle.std.specs.Prelude.{ℕ, ◌≡◌, Bool}
use Rattle.std.proofs.Math.Path.{refl, sym, ap, ap₂}
use Rattle.std.proofs.Common.{◌∙◌}
use mathlib.Core.List.{List, [], ◌∷◌, ◌++◌, map, append_assoc, append-nil}
use Rattle.std.proofs.Math.Option.{Option, none, some}
use Rattle.rules.specs.Refusals.{ok, refuse, unknown_table}
use Rattle.rules.specs.Lists.{or_else, concat}
use Rattle.rules.specs.Lines.{Word}
use Rattle.rules.specs.Schema.{Column, Table, Catalog, get_table, named_by, must_get_table}
use Rattle.rules.specs.Ast.{From}
use Rattle.rules.specs.Ast as Ast
use Rattle.rules.specs.Plan.{column_count, Label, qualified, first_row, labels_from, labels}
use Rattle.rules.specs.Plan as P
use Rattle.rules.specs.Scope.{from_table}
use Rattle.rules.specs.BuildFrom.{Source, Sides, join_node, swap_targets, join_in_order, join_swapped, scan_of}
use Rattle.rules.specs.BuildFrom.{build_from_clause}
use Rattle.claims.specs.Answers.{Ensures, ensured, refusing, weaken}
use Rattle.claims.specs.Building.FromClause.{FromSteps, clause-by}
use Rattle.claims.specs.Widths.Labels.{Labelled, labelled-width, join-left, join-right, join-labels, scan-labels}
use Rattle.claims.specs.Widths.Labels.{swap-labels, label-steps}

-- the labels of a table's columns under a name
unfoldable pub table_labels : Word → Option Table → List Label
table_labels n none = []
table_labels n (some t) = map (λ (c : Column). qualified n c.name) t.columns

-- of a FROM item: those of its tables, from left to right
unfoldable pub item_labels : Catalog → From → List Label
item_labels c (Ast.table l n a) = table_labels (or_else a n) (get_table c n.bytes)
item_labels c (Ast.join l j f g p) = item_labels c f ++ item_labels c g

-- of FROM
unfoldable pub from_labels : Catalog → List From → List Label
from_labels c fs = concat (map (item_labels c) fs)

module _ (c : Catalog) where
  found-labels : (l : ℕ) (n : Word) (a : Option Word)
      → Ensures (must_get_table c l n) (λ t. (from_table (or_else a t.name) t).columns ≡ item_labels c (Ast.table l n a))
  unfolding must_get_table named_by from_table item_labels table_labels
  found-labels l n a = go (get_table c n.bytes) refl
    where
      go : (o : Option Table) → get_table c n.bytes ≡ o
          → Ensures (elim o [ some t ↦ ok (named_by n t) | none ↦ refuse unknown_table l ])
          (λ t. (from_table (or_else a t.name) t).columns ≡ table_labels (or_else a n) (get_table c n.bytes))
      go none e = refusing unknown_table l _
      go (some t) e = rw e refl

  -- a FROM item's node has its scope's labels, and they are those of its tables
  record Ordered (f : From) (r : Source) : Type 0 where
    labelled : Labelled r.node r.scope
    ordered : labels r.node ≡ item_labels c f

  -- a join's columns are the sides' columns in the order in which it joins them, and swapped back in the other order
  swap-ordered : (o : Bool) (d : Sides) → Labelled d.first.node d.first.scope
      → Labelled d.second.node d.second.scope
      → labels (P.remap (join_node o d) (swap_targets d)) ≡ labels d.second.node ++ labels d.first.node
  unfolding join_node swap_targets
  swap-ordered o d h g =
      let n = d.first.node in
      let m = d.second.node in
      rw (← labelled-width n d.first.scope h, ← labelled-width m d.second.scope g)
      (swap-labels _ (column_count n) (column_count m)
      ∙ ap₂ ◌++◌ (join-right n m d.predicate o) (join-left n m d.predicate o))

  order-steps : FromSteps c Ordered
  unfolding scan_of join_in_order join_swapped join_node item_labels
  order-steps = record {
    tables = λ l n a t e. record {
      labelled = (label-steps c).tables l n a t e;
      ordered = scan-labels t a ∙ ensured (must_get_table c l n) _ (found-labels l n a) t e;
    };
    joins = λ l j f g p d e h i b. record {
      labelled = (label-steps c).joins l j f g p d e h.labelled i.labelled b;
      ordered = join-labels _ _ _ _ ∙ ap₂ ◌++◌ h.ordered i.ordered;
    };
    rights = λ l j f g p d e h i b. record {
      labelled = (label-steps c).rights l j f g p d e h.labelled i.labelled b;
      ordered = swap-ordered _ d h.labelled i.labelled ∙ ap₂ ◌++◌ i.ordered h.ordered;
    };
  }

  -- the labels of FROM's node
  pub from-in-order : (fs : List From) → Ensures (build_from_clause c fs) (λ f. labels f.node ≡ from_labels c fs)
  unfolding build_from_clause from_labels concat
  from-in-order [] = unfold labels labels_from column_count first_row in refl
  from-in-order (f ∷ fs) = weaken (build_from_clause c (f ∷ fs)) _ _ (λ s h. sym (append-nil _) ∙ h)
      (clause-by order-steps (λ gs s. labels s.node ++ from_labels c gs ≡ from_labels c (f ∷ fs))
      (λ g gs s r h i w. rw (join-labels, i.ordered, append_assoc) h) f fs
      λ r h w. ap (λ ls. ls ++ from_labels c fs) h.ordered)
