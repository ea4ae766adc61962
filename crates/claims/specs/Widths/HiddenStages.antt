-- The hidden columns that HAVING and ORDER call for are columns of the parent, and widen the projection by as many.
use Rattle.std.specs.Prelude.{ℕ, ◌+◌, ◌<◌}
use Rattle.std.proofs.Common.{arith}
use Rattle.std.proofs.Math.Bool.{true}
use mathlib.Core.List.{List, [], ◌∷◌}
use Rattle.std.proofs.Math.Option.{Option, none, some}
use Rattle.std.proofs.Math.ListN.{length, length-append}
use Rattle.rules.specs.Ast.{Expr, star, column, literal, call, unary, binary, is, Exprs, nil, cons, line_of, Item}
use Rattle.rules.specs.Scope.{Scope, Found, at, missing, lookup, matched, project}
use Rattle.rules.specs.Views.{ColumnName, as_column}
use Rattle.rules.specs.Hidden.{HiddenColumn, Hidden, add_hidden, position, lacking, lacking_column, to_hide, visit, Walk}
use Rattle.rules.specs.Hidden.{where_true, where_false, walk, walk_any, hidden_of, projected}
use Rattle.claims.specs.Answers.{All, Given, all_append}
use Rattle.claims.specs.Cases.{either_way}
use Rattle.claims.specs.Widths.Below.{FoundBelow, lookup-below, matched-below}
use Rattle.claims.specs.Widths.Scopes.{Wide, wide-width, wide-sound, wide_is, wide-passthrough, wide-project}

-- WALKS
true-keeps : (Q : Hidden → Type 0) (r : Walk) (f : Hidden → Walk) → Q r.hidden
    → ((h : Hidden) → Q h → Q (f h).hidden) → Q (where_true r f).hidden
unfolding where_true
true-keeps Q r f h k = either_way (λ (w : Walk). Q w.hidden) r.answer _ _ (k r.hidden h) h

false-keeps : (Q : Hidden → Type 0) (r : Walk) (f : Hidden → Walk) → Q r.hidden
    → ((h : Hidden) → Q h → Q (f h).hidden) → Q (where_false r f).hidden
unfolding where_false
false-keeps Q r f h k = either_way (λ (w : Walk). Q w.hidden) r.answer _ _ h (k r.hidden h)

-- what every visit keeps, the walks keep
module _ (p : Scope) (Q : Hidden → Type 0) (keep : (e : Expr) (h : Hidden) → Q h → Q (visit p e h)) where
  mutual
    unfolding walk

    walk-keeps : (e : Expr) (h : Hidden) → Q h → Q (walk p e h).hidden
    walk-keeps (star l) h g = keep (star l) h g
    walk-keeps (column l t n) h g = keep (column l t n) h g
    walk-keeps (literal l v) h g = keep (literal l v) h g
    walk-keeps (call l n as') h g = any-keeps as' (visit p (call l n as') h) (keep (call l n as') h g)
    walk-keeps (unary l o a) h g = walk-keeps a (visit p (unary l o a) h) (keep (unary l o a) h g)
    walk-keeps (binary l o a b) h g = true-keeps Q (walk p a (visit p (binary l o a b) h)) (λ h₁. walk p b h₁)
        (walk-keeps a (visit p (binary l o a b) h) (keep (binary l o a b) h g)) (λ h₁ g₁. walk-keeps b h₁ g₁)
    walk-keeps (is l a v) h g = walk-keeps a (visit p (is l a v) h) (keep (is l a v) h g)

    any-keeps : (as' : Exprs) (h : Hidden) → Q h → Q (walk_any p as' h).hidden
    any-keeps nil h g = g
    any-keeps (cons a as') h g =
        false-keeps Q (walk p a h) (λ h₁. walk_any p as' h₁) (walk-keeps a h g) (λ h₁ g₁. any-keeps as' h₁ g₁)

  pub hidden-keeps : (es : List Expr) (h : Hidden) → Q h → Q (hidden_of p es h)
  unfolding hidden_of
  hidden-keeps [] h g = g
  hidden-keeps (e ∷ es) h g = hidden-keeps es (walk p e h).hidden (walk-keeps e h g)

-- VISITS
-- a scope of k items and the hidden columns, each a column of the parent, which has w
unfoldable pub HiddenStage : ℕ → ℕ → Hidden → Type 0
HiddenStage k w h = Wide (k + length h.columns) h.scope × All (λ (c : HiddenColumn). c.position < w) h.columns

module _ (k w : ℕ) (p : Scope) (wide : Wide w p) where
  add-stage : (l i : ℕ) (h : Hidden) → i < w → HiddenStage k w h → HiddenStage k w (add_hidden p l i h)
  unfolding add_hidden HiddenStage All
  add-stage l i h lt g = (
    wide_is (k + length h.columns + 1) _ _ (rw length-append (omega arith))
        (wide-passthrough _ p i true h.scope g.0),
    all_append _ h.columns (record { position = i; line = l } ∷ []) g.1 (lt, tt),
  )

  -- the column to hide is the parent's
  position-below : (f : Found) → FoundBelow w f → Given (λ i. i < w) (position f)
  unfolding position FoundBelow Given
  position-below (at i) h = h
  position-below (missing n) h = tt

  lacking-below : (a b : Option ℕ) → Given (λ i. i < w) a → Given (λ i. i < w) (lacking a b)
  unfolding lacking Given
  lacking-below a none h = h
  lacking-below a (some j) h = tt

  column-below : (child : Scope) (c : Option ColumnName) → Given (λ i. i < w) (lacking_column p child c)
  unfolding lacking_column Given
  column-below child none = tt
  column-below child (some c) =
      let f = lookup p c.table c.name in
      lacking-below (position f) (position (lookup child c.table c.name))
      (position-below f (rw (wide-width w p wide) at (lookup-below p c.table c.name)))

  hide-below : (child : Scope) (e : Expr) → Given (λ i. i < w) (to_hide p child e)
  unfolding to_hide
  hide-below child e = go (lacking (matched p e) (matched child e)) (lacking-below (matched p e) (matched child e)
      (rw (wide-width w p wide) at (matched-below p e (wide-sound w p wide))))
    where
      go : (o : Option ℕ) → Given (λ i. i < w) o
          → Given (λ i. i < w) (elim o [ some i ↦ some i | none ↦ lacking_column p child (as_column e) ])
      go (some i) h = h
      go none h = column-below child (as_column e)

  visit-stage : (e : Expr) (h : Hidden) → HiddenStage k w h → HiddenStage k w (visit p e h)
  unfolding visit
  visit-stage e h g = go (to_hide p h.scope e) (hide-below h.scope e)
    where
      go : (o : Option ℕ) → Given (λ i. i < w) o
          → HiddenStage k w (elim o [ some i ↦ add_hidden p (line_of e) i h | none ↦ h ])
      go none b = g
      go (some i) b = add-stage (line_of e) i h (unfold Given in b) g

-- the projection of a parent of width w is such a scope
pub projected-stage : (w : ℕ) (s : Scope) (is' : List Item) (later : List Expr) → Wide w s
    → HiddenStage (length is') w (projected s is' later)
unfolding projected
projected-stage w s is' later h =
    hidden-keeps s (HiddenStage (length is') w) (visit-stage (length is') w s h) later _ started
  where
    started : HiddenStage (length is') w (record { scope = project s is'; columns = [] })
    started = unfold HiddenStage All in (wide_is (length is') (length is' + 0) _ (omega arith) (wide-project is' s), tt)
