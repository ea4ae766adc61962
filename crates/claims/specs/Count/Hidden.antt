-- The hidden columns of a SELECT are at most the expression cells of HAVING and ORDER.
use Rattle.std.specs.Prelude.{ℕ, ◌+◌, ◌≤◌, List, [], ◌∷◌, length}
use Rattle.std.proofs.Common.{arith, length-append}
use Rattle.std.proofs.Math.Option.{Option, none, some}
use Rattle.rules.specs.Ast.{Expr, star, column, literal, call, unary, binary, is, Exprs, nil, cons, size, size_all, line_of, Item}
use Rattle.rules.specs.Scope.{Scope, project}
use Rattle.rules.specs.Hidden.{Hidden, add_hidden, to_hide, visit, Walk, where_true, where_false, walk, walk_any, hidden_of, projected}
use Rattle.rules.specs.Sizes.{total}
use Rattle.claims.specs.Cases.{either_way}

-- how many are hidden so far
abbrev pub hiddens : Hidden → ℕ
hiddens h = length h.columns

add-more : (p : Scope) (l i : ℕ) (h : Hidden) → hiddens (add_hidden p l i h) ≤ hiddens h + 1
unfolding add_hidden
add-more p l i h = rw length-append (omega arith)

-- a visit hides at most one column
visit-more : (p : Scope) (e : Expr) (h : Hidden) → hiddens (visit p e h) ≤ hiddens h + 1
unfolding visit
visit-more p e h = go (to_hide p h.scope e)
  where
    go : (o : Option ℕ) → hiddens (elim o [ some i ↦ add_hidden p (line_of e) i h | none ↦ h ]) ≤ hiddens h + 1
    go none = omega arith
    go (some i) = add-more p (line_of e) i h

true-more : (r : Walk) (f : Hidden → Walk) (m n : ℕ) → hiddens r.hidden ≤ m → ((h : Hidden) → hiddens (f h).hidden ≤ hiddens h + n) → hiddens (where_true r f).hidden ≤ m + n
unfolding where_true
true-more r f m n h k = either_way (λ (w : Walk). hiddens w.hidden ≤ m + n) r.answer _ _ (omega (arith, k r.hidden)) (omega arith)

false-more : (r : Walk) (f : Hidden → Walk) (m n : ℕ) → hiddens r.hidden ≤ m → ((h : Hidden) → hiddens (f h).hidden ≤ hiddens h + n) → hiddens (where_false r f).hidden ≤ m + n
unfolding where_false
false-more r f m n h k = either_way (λ (w : Walk). hiddens w.hidden ≤ m + n) r.answer _ _ (omega arith) (omega (arith, k r.hidden))

mutual
  unfolding walk size

  -- a walk hides at most one for each expression cell
  walk_more : (p : Scope) (e : Expr) (h : Hidden) → hiddens (walk p e h).hidden ≤ hiddens h + size e
  walk_more p (star l) h = visit-more p (star l) h
  walk_more p (column l t n) h = visit-more p (column l t n) h
  walk_more p (literal l v) h = visit-more p (literal l v) h
  walk_more p (call l n as') h = omega (arith, visit-more p (call l n as') h, any-more p as' (visit p (call l n as') h))
  walk_more p (unary l o a) h = omega (arith, visit-more p (unary l o a) h, walk_more p a (visit p (unary l o a) h))
  walk_more p (binary l o a b) h = omega (
    arith,
    visit-more p (binary l o a b) h,
    true-more (walk p a (visit p (binary l o a b) h)) (λ h₁. walk p b h₁) _ (size b) (walk_more p a (visit p (binary l o a b) h)) (λ h₁. walk_more p b h₁),
  )
  walk_more p (is l a v) h = omega (arith, visit-more p (is l a v) h, walk_more p a (visit p (is l a v) h))

  any-more : (p : Scope) (as' : Exprs) (h : Hidden) → hiddens (walk_any p as' h).hidden ≤ hiddens h + size_all as'
  any-more p nil h = omega arith
  any-more p (cons a as') h = omega (arith, false-more (walk p a h) (λ h₁. walk_any p as' h₁) _ (size_all as') (walk_more p a h) (λ h₁. any-more p as' h₁))

each_more : (p : Scope) (es : List Expr) (h : Hidden) → hiddens (hidden_of p es h) ≤ hiddens h + total size es
unfolding hidden_of total
each_more p [] h = omega arith
each_more p (e ∷ es) h = omega (arith, walk_more p e h, each_more p es (walk p e h).hidden)

-- at most one hidden column for each expression cell of HAVING and ORDER
pub hidden-most : (s : Scope) (is' : List Item) (later : List Expr) → hiddens (projected s is' later) ≤ total size later
unfolding projected
hidden-most s is' later = omega (arith, each_more s later (record { scope = project s is'; columns = [] }))
