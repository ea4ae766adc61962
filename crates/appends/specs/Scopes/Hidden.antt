-- Hidden columns are only ever appended, at most one for each expression cell of HAVING and ORDER.
use Rattle.std.specs.Prelude.{ℕ, ◌+◌, ◌≤◌, ◌≡◌, refl, List, [], ◌∷◌, ◌++◌, length}
use Rattle.std.proofs.Common.{arith, sym, ◌∙◌, append_assoc, append-nil, length-append}
use Rattle.std.proofs.Math.Option.{Option, none, some}
use Rattle.rules.specs.Ast.{Expr, star, column, literal, call, unary, binary, is, Exprs, nil, cons, size, size_all}
use Rattle.rules.specs.Ast.{line_of}
use Rattle.rules.specs.Scope.{Scope}
use Rattle.rules.specs.Hidden.{HiddenColumn, Hidden, add_hidden, to_hide, visit, Walk, where_true, where_false, walk}
use Rattle.rules.specs.Hidden.{walk_any}
use Rattle.claims.specs.Cases.{either_way}

-- g hides what h hides and, behind it, at most n columns more
pub record Hides (h g : Hidden) (n : ℕ) : Type 0 where
  pub more : List HiddenColumn
  pub columns : g.columns ≡ h.columns ++ more
  pub most : length more ≤ n

hides-none : (h : Hidden) (n : ℕ) → Hides h h n
hides-none h n = record { more = []; columns = sym (append-nil h.columns); most = omega arith }

hides-both : (h g k : Hidden) (m n : ℕ) → Hides h g m → Hides g k n → Hides h k (m + n)
hides-both h g k m n a b = record {
  more = a.more ++ b.more;
  columns = b.columns ∙ (rw a.columns (append_assoc h.columns a.more b.more));
  most = rw length-append (omega (arith, a.most, b.most));
}

hides-within : (h g : Hidden) (m n : ℕ) → m ≤ n → Hides h g m → Hides h g n
hides-within h g m n l a = record { more = a.more; columns = a.columns; most = omega (arith, a.most) }

visit-hides : (p : Scope) (e : Expr) (h : Hidden) → Hides h (visit p e h) 1
unfolding visit add_hidden
visit-hides p e h = go (to_hide p h.scope e)
  where
    go : (o : Option ℕ) → Hides h (elim o [ some i ↦ add_hidden p (line_of e) i h | none ↦ h ]) 1
    go none = hides-none h 1
    go (some i) = record { more = record { position = i; line = line_of e } ∷ []; columns = refl; most = omega arith }

true-hides : (h : Hidden) (r : Walk) (f : Hidden → Walk) (m n : ℕ) → Hides h r.hidden m
    → ((g : Hidden) → Hides g (f g).hidden n) → Hides h (where_true r f).hidden (m + n)
unfolding where_true
true-hides h r f m n a k = either_way (λ (w : Walk). Hides h w.hidden (m + n)) r.answer _ _
    (hides-both h r.hidden (f r.hidden).hidden m n a (k r.hidden))
    (hides-within h r.hidden m (m + n) (omega arith) a)

false-hides : (h : Hidden) (r : Walk) (f : Hidden → Walk) (m n : ℕ) → Hides h r.hidden m
    → ((g : Hidden) → Hides g (f g).hidden n) → Hides h (where_false r f).hidden (m + n)
unfolding where_false
false-hides h r f m n a k = either_way (λ (w : Walk). Hides h w.hidden (m + n)) r.answer _ _
    (hides-within h r.hidden m (m + n) (omega arith) a)
    (hides-both h r.hidden (f r.hidden).hidden m n a (k r.hidden))

mutual
  unfolding walk size

  pub walk-hides : (p : Scope) (e : Expr) (h : Hidden) → Hides h (walk p e h).hidden (size e)
  walk-hides p (star l) h = visit-hides p (star l) h
  walk-hides p (column l t n) h = visit-hides p (column l t n) h
  walk-hides p (literal l v) h = visit-hides p (literal l v) h
  walk-hides p (call l n as') h = hides-within h _ (1 + size_all as') _ (omega arith)
      (hides-both h (visit p (call l n as') h) _ 1 (size_all as') (visit-hides p (call l n as') h) (any-hides p as' _))
  walk-hides p (unary l o a) h = hides-within h _ (1 + size a) _ (omega arith)
      (hides-both h (visit p (unary l o a) h) _ 1 (size a) (visit-hides p (unary l o a) h) (walk-hides p a _))
  walk-hides p (binary l o a b) h = hides-within h _ (1 + size a + size b) _ (omega arith)
      (true-hides h (walk p a (visit p (binary l o a b) h)) (λ h₁. walk p b h₁) (1 + size a) (size b)
      (hides-both h (visit p (binary l o a b) h) _ 1 (size a) (visit-hides p (binary l o a b) h) (walk-hides p a _))
      (λ h₁. walk-hides p b h₁))
  walk-hides p (is l a v) h = hides-within h _ (1 + size a) _ (omega arith)
      (hides-both h (visit p (is l a v) h) _ 1 (size a) (visit-hides p (is l a v) h) (walk-hides p a _))

  any-hides : (p : Scope) (as' : Exprs) (h : Hidden) → Hides h (walk_any p as' h).hidden (size_all as')
  any-hides p nil h = hides-none h 0
  any-hides p (cons a as') h =
      false-hides h (walk p a h) (λ h₁. walk_any p as' h₁) (size a) (size_all as')
      (walk-hides p a h) (λ h₁. any-hides p as' h₁)
