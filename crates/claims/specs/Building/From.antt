-- FROM's node has what its predicates and names have.
use Rattle.std.specs.Prelude.{ℕ, ◌≡◌, refl}
use Rattle.std.proofs.Common.{arith}
use mathlib.Core.List.{List, [], ◌∷◌}
use Rattle.std.proofs.Math.Option.{Option, none, some}
use Rattle.rules.specs.Refusals.{ok, refuse, unknown_table}
use Rattle.rules.specs.Lists.{Bytes, same, map_option}
use Rattle.rules.specs.Lines.{Word}
use Rattle.rules.specs.Schema.{Value, Table, Catalog, get_table, named_by, must_get_table}
use Rattle.rules.specs.Ast.{From}
use Rattle.rules.specs.Scope.{width}
use Rattle.rules.specs.BuildExpression.{build_option}
use Rattle.rules.specs.BuildFrom.{scan_of, join_node, swap_targets, join_in_order, join_swapped, build_from_clause}
use Rattle.claims.specs.Answers.{Ensures, weaken, ensured, refusing, All, Given}
use Rattle.claims.specs.Cases.{either_way}
use Rattle.claims.specs.Widths.Swapped.{swapped-count, swapped-length}
use Rattle.claims.specs.Form.Targets.{swapped-once}
use Rattle.claims.specs.Reading.Has.{FromHas, Literals}
use Rattle.claims.specs.Building.FromClause.{FromSteps, clause-by}
use Rattle.claims.specs.Building.Has.{InCatalog, NodeHas}
use Rattle.claims.specs.Building.Expressions.{option-has}

-- TABLES
-- a table that is found is the catalog's, under the name that it was asked by
pub table-found : (c : Catalog) (l : ℕ) (n : Word) → Ensures (must_get_table c l n) (λ t. (t.name ≡ n) × InCatalog c t)
unfolding must_get_table named_by map_option
table-found c l n = go (get_table c n.bytes) refl
  where
    go : (o : Option Table) → get_table c n.bytes ≡ o
        → Ensures (elim o [ some t ↦ ok (named_by n t) | none ↦ refuse unknown_table l ]) (λ t. (t.name ≡ n) × InCatalog c t)
    go none e = refusing unknown_table l _
    go (some t) e = (refl, rw e)

pub each-table : (P : Table → Type 0) (c : Catalog) (n : Bytes) → All P c → Given P (get_table c n)
unfolding get_table All Given
each-table P [] n h = tt
each-table P (t ∷ ts) n h = either_way (Given P) (same t.name.bytes n) (some t) (get_table ts n) h.0 (each-table P ts n h.1)

-- what all tables of the catalog have by their columns, a table that is found has
pub found-has : (P : Table → Type 0) → ((n : Word) (t : Table) → P t → P (named_by n t))
    → (c : Catalog) (l : ℕ) (n : Word) → All P c → Ensures (must_get_table c l n) P
unfolding must_get_table Given
found-has P k c l n h = go (get_table c n.bytes) (each-table P c n.bytes h)
  where
    go : (o : Option Table) → Given P o → Ensures (elim o [ some t ↦ ok (named_by n t) | none ↦ refuse unknown_table l ]) P
    go none g = refusing unknown_table l _
    go (some t) g = k n t g

-- FROM
module _ (Q : Value → Type 0) (N : Word → Type 0) (c : Catalog) where
  from-steps : FromSteps c (λ f r. FromHas (Literals Q) N f → NodeHas Q N c r.node)
  unfolding FromHas NodeHas Given scan_of join_in_order join_swapped join_node swap_targets
  from-steps = record {
    tables = λ l n a t e h.
        let g = ensured (must_get_table c l n) _ (table-found c l n) t e in
        (g.1, tt, h.1, rw g.0 h.0);
    joins = λ l j f g p d r m n o h. (m h.0, n h.1, ensured (build_option _ p) _ (option-has Q _ p h.2) d.predicate o.built);
    rights = λ l j f g p d r m n o h. (
      (m h.1, n h.0, ensured (build_option _ p) _ (option-has Q _ p h.2) d.predicate o.built),
      omega (arith, swapped-count (width d.first.scope) (width d.second.scope), swapped-length (width d.first.scope) (width d.second.scope)),
      swapped-once (width d.first.scope) (width d.second.scope),
    );
  }

  -- FROM's node
  pub from_clause-has : (fs : List From) → All (FromHas (Literals Q) N) fs → Ensures (build_from_clause c fs) (λ r. NodeHas Q N c r.node)
  unfolding build_from_clause All NodeHas Given
  from_clause-has [] h = (tt, tt)
  from_clause-has (f ∷ fs) h = weaken (build_from_clause c (f ∷ fs)) _ _ (λ r g. g.1)
      (clause-by from-steps (λ gs s. All (FromHas (Literals Q) N) gs × NodeHas Q N c s.node)
      (λ g gs s r i o w. (i.0.1, (i.1, o i.0.0, tt))) f fs λ r g w. (h.1, g h.0))
