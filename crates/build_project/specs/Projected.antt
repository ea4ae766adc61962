-- The projected scope of the items.
use Rattle.std.specs.Prelude.{ℕ, ◌≤◌, Bool, not, List, map, ◌⊎◌, take}
use Rattle.std.proofs.Common.{arith, ◌∙◌, inl, inr, length-take-le}
use Rattle.std.proofs.Math.Path.{◌≡◌, sym, ap}
use Rattle.std.proofs.Math.Bool.{true, false}
use Rattle.std.proofs.lemmas.Bool.{not-true, not-false}
use Rattle.std.proofs.Math.ListN.{length, length-map}
use Rattle.rules.specs.Limits.{most_columns}
use Rattle.rules.specs.Lists.{Bytes, is_empty}
use Rattle.rules.specs.Ast.{Expr, Item}
use Rattle.rules.specs.Scope as rules
use Rattle.claims.specs.Widths.Scopes.{wide-width, wide-project}
use Rattle.ast.specs.Table.{tree_at}
use Rattle.scope.specs.Labels.{columns_of, columns-length}
use Rattle.scope.specs.Slots.{Below}
use Rattle.scope.specs.Scopes.{matches_of, scope_from, scope_of, labels_of, table_numbers, Valid, Plain}
use Rattle.scope.specs.Project.{Projectable, Projected}
use Rattle.scope.specs.Items.{ItemsFit, ItemsProjected}
use Rattle.scope.specs.declared.Scope.{Scope}
use Rattle.build_projection.specs.Items.{item_of}
use Rattle.build_projection.specs.Aliases.{row_of}
use Rattle.build_projection.specs.Labels.{label_number}
use Rattle.build_projection.specs.declared.items.Item as listed
use Rattle.build_project.specs.Labels.{item_labels, labels-are, labels-below, rows_are}
use Rattle.build_project.specs.Ready.{ItemsReady}

pub record ScopeProjected (c q : Bytes) (cells parts : List ℕ) (items : List listed.Item) (s r : Scope) : Type 0 where
  pub valid : Valid r
  pub width : r.width ≡ length items
  pub count : r.count ≡ s.count
  pub tables : r.tables ≡ s.tables
  pub shown : r.hidden ≡ 0
  pub is : scope_of (tree_at c q cells) c q r
      ≡ rules.project (scope_of (tree_at c q cells) c q s) (map (item_of c q cells parts) items)

-- THE SCOPE
-- a projection has a column for each item
width-by : (e : ℕ → Expr) (c q : Bytes) (r : Scope) → Valid r → (s : rules.Scope) (is' : List Item)
    → scope_of e c q r ≡ rules.project s is' → r.width ≡ length is'
unfolding scope_of scope_from rules.width
width-by e c q r v s is' h =
    let l : length (labels_of r) ≡ r.width = length-take-le r.width r.labels (omega (arith, v.width, v.labels-room)) in
    sym (columns-length c q (table_numbers r) (labels_of r) ∙ l) ∙ ap (λ (x : rules.Scope). rules.width x) h
    ∙ wide-width (length is') (rules.project s is') (wide-project is' s)

module _ {c q : Bytes} {t parts : List ℕ} {items : List listed.Item} {s : Scope} (f : ItemsReady c q t parts items s) {b : Bool}
    (m : (e : ℕ → Expr) → b ≡ not (is_empty (matches_of e 0 (take s.width s.matches)))) where
  abbrev here : listed.Item → ℕ
  here = label_number c q t parts (labels_of s) (take s.width s.matches) (table_numbers s)

  here-labels : map (λ (i : Item). rules.item_label (scope_of (tree_at c q t) c q s) i.expr i.alias)
      (map (item_of c q t parts) items) ≡ columns_of c q (table_numbers s) (map here items)
  unfolding scope_of
  here-labels = rw f.shown (labels-are c q t parts (labels_of s) (take s.width s.matches) (table_numbers s) items f.aliases)

  module _ {xs : List ℕ} (ex : xs ≡ item_labels c q t parts s items) where
    below : Below s.count xs
    below = rw ex (labels-below c q t parts (labels_of s) (take s.width s.matches) (table_numbers s) s.count items f.valid.slots)

    few-labels : length xs ≤ most_columns
    few-labels = omega (arith, ap length ex, length-map items here, f.few)

    pub matched-fit : b ≡ true → {rows : List ℕ} → rows ≡ map (row_of parts) items → ItemsFit c q t s xs rows
    unfolding scope_of scope_from
    matched-fit e er = record {
      valid = f.valid;
      matched = not-true _ (sym (m (tree_at c q t)) ∙ e);
      few = omega (arith, ap length er, length-map items (row_of parts), f.few);
      same = ap length ex ∙ length-map items here ∙ sym (ap length er ∙ length-map items (row_of parts));
      slots = below;
      table = omega (arith, f.table);
    }

    pub plain-fit : b ≡ false → Projectable s xs
    unfolding scope_of scope_from
    plain-fit e = record {
      valid = f.valid;
      plain = go f.matched;
      few = few-labels;
      slots = below;
    }
      where
        go : Plain s ⊎ (is_empty (scope_of (tree_at c q t) c q s).aggregates ≡ false) → Plain s
        go (inl p) = p
        go (inr p) = absurd (let y : true ≡ false = sym (not-false _ (sym (m (tree_at c q t)) ∙ e)) ∙ p in
            grind arith)

    pub matched-projected : {rows : List ℕ} {r : Scope} → rows ≡ map (row_of parts) items
        → ItemsProjected c q t s xs rows r → ScopeProjected c q t parts items s r
    matched-projected er p = record {
      valid = p.valid;
      width = p.width ∙ ap length er ∙ length-map items (row_of parts);
      count = p.count;
      tables = p.tables;
      shown = p.shown;
      is = p.is (map (item_of c q t parts) items) (rw er (rows_are c q t parts items)) (rw ex here-labels);
    }

    pub plain-projected : {r : Scope} → Projected s xs r → ScopeProjected c q t parts items s r
    plain-projected {r} p =
        let e = p.is (tree_at c q t) c q (map (item_of c q t parts) items) (rw ex here-labels) in
        record {
          valid = p.valid;
          width = width-by (tree_at c q t) c q r p.valid (scope_of (tree_at c q t) c q s) (map (item_of c q t parts) items) e
              ∙ length-map items (item_of c q t parts);
          count = p.count;
          tables = p.tables;
          shown = p.plain.shown;
          is = e;
        }
