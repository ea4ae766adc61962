-- The aliases of a statement that was read fit: so do those of its items, stars expanded.
use Rattle.std.specs.Prelude.{ℕ, ◌≤◌, ◌≡◌, Bool, true, false, List, [], ◌∷◌, ◌++◌, map, length}
use Rattle.std.proofs.Common.{arith}
use Rattle.std.proofs.Math.Option.{Option, none, some}
use Rattle.rules.specs.Refusals.{ok}
use Rattle.rules.specs.Limits.{most_bytes}
use Rattle.rules.specs.Lists.{Bytes}
use Rattle.rules.specs.Lines.{Word}
use Rattle.rules.specs.Ast.{Item, Select}
use Rattle.rules.specs.Views.{as_star}
use Rattle.rules.specs.Plan.{Built, Node, Label, nameless, unqualified, qualified, labels}
use Rattle.rules.specs.Items.{starred_column, expand_stars, stars_expand, expanded_items, build_items}
use Rattle.claims.specs.Answers.{All, Given, ensured, all_append, all-weaken}
use Rattle.claims.specs.Reading.Has.{SelectHas}
use Rattle.claims.specs.Words.Within.{StatementName}
use Rattle.claims.specs.Within.{ExprWithin}
use Rattle.claims.specs.Count.Stars.{expanded-items}
use Rattle.build_project.specs.Labels.{AliasFits, AliasesFit}

pub alias-fits : (c q : Bytes) (w : Word) → length q ≤ most_bytes → StatementName c q w → AliasFits w
alias-fits c q w l h = record {
  fits = record {
    start = omega (arith, h.word.ends, h.least);
    size = omega (arith, h.most);
  };
  least = omega (arith, h.least);
}

-- a starred column has no alias
starred-fit : (l : ℕ) (ls : List Label) → AliasesFit (map (starred_column l) ls)
unfolding All Given starred_column
starred-fit l [] = tt
starred-fit l (nameless ∷ ls) = (tt, starred-fit l ls)
starred-fit l (unqualified w ∷ ls) = (tt, starred-fit l ls)
starred-fit l (qualified t w ∷ ls) = (tt, starred-fit l ls)

expand-fit : (ls : List Label) (is' : List Item) → AliasesFit is' → AliasesFit (expand_stars ls is')
unfolding expand_stars All
expand-fit ls [] h = tt
expand-fit ls (i ∷ is') h = go (as_star i.expr) (expand-fit ls is' h.1)
  where
    go : (o : Option ℕ) → AliasesFit (expand_stars ls is')
        → AliasesFit (elim o [ some l ↦ map (starred_column l) ls ++ expand_stars ls is' | none ↦ i ∷ expand_stars ls is' ])
    go none g = (h.0, g)
    go (some l) g = all_append (λ (j : Item). Given AliasFits j.alias) (map (starred_column l) ls) (expand_stars ls is')
        (starred-fit l ls) g

-- those of the statement's own items
own-fit : (c q : Bytes) (d : Select) → length q ≤ most_bytes → SelectHas (ExprWithin c q) (StatementName c q) d
    → AliasesFit d.items
own-fit c q d l h = all-weaken _ _ (λ i g. go i.alias g.1) d.items h.items
  where
    go : (o : Option Word) → Given (StatementName c q) o → Given AliasFits o
    go none g = unfold Given in tt
    go (some w) g = unfold Given in alias-fits c q w l (unfold Given in g)

pub aliases-fit : (c q : Bytes) (d : Select) (n : Node Built) (is' : List Item) → length q ≤ most_bytes
    → SelectHas (ExprWithin c q) (StatementName c q) d → build_items d n ≡ ok is' → AliasesFit is'
unfolding expanded_items
aliases-fit c q d n is' l h e =
    let z : is' ≡ expanded_items d (labels n) = (ensured (build_items d n) _ (expanded-items d n) is' e).0 in
    rw z (go (stars_expand d))
  where
    go : (b : Bool) → AliasesFit (elim b [ true ↦ expand_stars (labels n) d.items | false ↦ d.items ])
    go true = expand-fit (labels n) d.items (own-fit c q d l h)
    go false = own-fit c q d l h
