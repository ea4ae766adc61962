-- FROM: its scope is the one that statement and catalog give, and its expressions are the joins' predicates in order.
use Rattle.std.specs.Prelude.{ℕ, ◌≡◌, Bool}
use Rattle.std.proofs.Math.Path.{refl, sym}
use Rattle.std.proofs.Common.{◌∙◌}
use Rattle.std.proofs.Math.Bool.{true, false}
use mathlib.Core.List.{List, [], ◌∷◌, ◌++◌, map, append_assoc, append-nil}
use Rattle.std.proofs.Math.Option.{Option, none, some}
use Rattle.rules.specs.Refusals.{ok, refuse, unknown_table}
use Rattle.rules.specs.Lists.{or_else, given, concat}
use Rattle.rules.specs.Lines.{Word}
use Rattle.rules.specs.Schema.{Table, Catalog, get_table, named_by, must_get_table}
use Rattle.rules.specs.Ast.{Expr, Join, From}
use Rattle.rules.specs.Plan.{Built, Node}
use Rattle.rules.specs.Scope.{Scope, empty, width, from_table, remap}
use Rattle.rules.specs.BuildExpression.{build_option}
use Rattle.rules.specs.Stage.{Stage}
use Rattle.rules.specs.BuildFrom.{Source, is_outer, is_right, Sides, join_node, swapped, swap_targets, join_in_order, join_swapped, scan_of}
use Rattle.rules.specs.BuildFrom.{build_from, build_from_clause}
use Rattle.rules.specs.Cells.{expressions}
use Rattle.rules.specs.Order.{Use, over, scan_scope, sides_scope, predicate_scope, join_scope, scope_of, from_scope, join_uses}
use Rattle.claims.specs.Answers.{Ensures, refusing, weaken, ensured}
use Rattle.claims.specs.Building.FromClause.{SidesBuilt, FromSteps, from-by, clause-by}
use Rattle.claims.specs.Order.Builds.{Builds, builds-none, builds-append, option-builds}

-- a node and its scope: this scope, and these uses built as its expressions
pub record Laid (s : Scope) (us : List Use) (node : Node Built) (scope : Scope) : Type 0 where
  pub scoped : scope ≡ s
  pub builds : Builds us (expressions node)

-- of a stage
abbrev pub StageLaid : Scope → List Use → Stage → Type 0
StageLaid s us f = Laid s us f.node f.scope

-- of a FROM item
abbrev pub SourceLaid : Scope → List Use → Source → Type 0
SourceLaid s us r = Laid s us r.node r.scope

scan-scope : (c : Catalog) (l : ℕ) (n : Word) (a : Option Word)
    → Ensures (must_get_table c l n) (λ t. from_table (or_else a t.name) t ≡ scan_scope a n (get_table c n.bytes))
unfolding must_get_table
scan-scope c l n a = go (get_table c n.bytes)
  where
    go : (o : Option Table) → Ensures {A = Table} (elim o [ some t ↦ ok (named_by n t) | none ↦ refuse unknown_table l ])
        (λ t. from_table (or_else a t.name) t ≡ scan_scope a n o)
    go none = refusing unknown_table l _
    go (some t) = unfold scan_scope named_by in refl

-- the predicate behind its sides
join-builds : (us vs : List Use) (s : Scope) (p : Option Expr) (o : Bool) (d : Sides) → Builds us (expressions d.first.node)
    → Builds vs (expressions d.second.node) → SidesBuilt p d → d.scope ≡ s
    → Builds ((us ++ vs) ++ map (over s) (given p)) (expressions (join_node o d))
unfolding join_node expressions
join-builds us vs s p o d h g b e =
    rw (← append_assoc) (builds-append _ _ _ _ (builds-append us vs _ _ h g)
    (rw (← e) (ensured (build_option d.scope p) _ (option-builds d.scope p) d.predicate b.built)))

-- the scopes of a join by whether it is a right one
predicate-scope : (j : Join) (b : Bool) (s t : Scope) → is_right j ≡ b → predicate_scope j s t ≡ elim b [ true ↦ sides_scope t s | false ↦ sides_scope s t ]
unfolding predicate_scope
predicate-scope j b s t e = rw (predicate_scope, e)

join-scope : (j : Join) (b : Bool) (s t : Scope) → is_right j ≡ b
    → join_scope j s t ≡ elim b [ true ↦ remap (sides_scope t s) (swapped (width t) (width s)) | false ↦ sides_scope s t ]
unfolding join_scope
join-scope j b s t e = rw (join_scope, e)

module _ (c : Catalog) where
  abbrev pub ItemLaid : From → Source → Type 0
  ItemLaid f r = SourceLaid (scope_of c f) (join_uses c f) r

  sides-scope : (f g : From) (p : Option Expr) (d : Sides) → ItemLaid f d.first → ItemLaid g d.second → SidesBuilt p d
      → d.scope ≡ sides_scope (scope_of c f) (scope_of c g)
  unfolding sides_scope
  sides-scope f g p d h i b = b.merged ∙ rw (h.scoped, i.scoped)

  laid-steps : FromSteps c ItemLaid
  unfolding scope_of join_uses scan_of join_in_order join_swapped swap_targets
  laid-steps = record {
    tables = λ l n a t e. record {
      scoped = ensured (must_get_table c l n) _ (scan-scope c l n a) t e;
      builds = unfold expressions given in builds-none;
    };
    joins = λ l j f g p d r h i b. record {
      scoped = rw (join-scope j false (scope_of c f) (scope_of c g) r) (sides-scope f g p d h i b);
      builds = rw (r, predicate-scope j false (scope_of c f) (scope_of c g) r) (join-builds _ _ _ p (is_outer j) d h.builds i.builds b (sides-scope f g p d h i b));
    };
    rights = λ l j f g p d r h i b. record {
      scoped = rw (join-scope j true (scope_of c f) (scope_of c g) r, sides-scope g f p d h i b, h.scoped, i.scoped);
      builds = rw (r, predicate-scope j true (scope_of c f) (scope_of c g) r) (unfold expressions in (join-builds _ _ _ p (is_outer j) d h.builds i.builds b (sides-scope g f p d h i b)));
    };
  }

  -- a FROM item
  pub item-laid : (f : From) → Ensures (build_from c f) (ItemLaid f)
  item-laid f = from-by laid-steps f

  -- what is laid so far, and what is still to come
  FromLaid : List From → List From → Stage → Type 0
  FromLaid all fs r = (us : List Use) × (concat (map (join_uses c) all) ≡ us ++ concat (map (join_uses c) fs))
      × (from_scope c all empty ≡ from_scope c fs r.scope) × Builds us (expressions r.node)

  -- FROM
  pub from_clause-laid : (fs : List From) → Ensures (build_from_clause c fs) (StageLaid (from_scope c fs empty) (concat (map (join_uses c) fs)))
  unfolding build_from_clause
  from_clause-laid [] = record { scoped = unfold from_scope in refl; builds = unfold concat expressions in builds-none }
  from_clause-laid (f ∷ fs) = weaken (build_from_clause c (f ∷ fs)) (FromLaid (f ∷ fs) []) _ (λ r h. unfold FromLaid concat from_scope in (record {
    scoped = sym h.2;
    builds = rw (h.1, append-nil) h.3;
  })) (clause-by laid-steps (FromLaid (f ∷ fs)) (λ g gs s r h i w. unfold FromLaid in (unfold concat from_scope expressions given in (
    h.0 ++ join_uses c g,
    h.1 ∙ sym (append_assoc h.0 (join_uses c g) (concat (map (join_uses c) gs))),
    h.2 ∙ rw i.scoped,
    rw append-nil (builds-append h.0 (join_uses c g) _ _ h.3 i.builds),
  ))) f fs λ r h w. unfold FromLaid concat from_scope in (join_uses c f, refl, rw h.scoped, h.builds))
