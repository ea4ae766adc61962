-- The walk for hidden columns (Hidden, walk) by a tree's root and operands, as a function that recurses over the table
-- does it: visit the root, then each operand in turn while its walk answers true, each argument of a call while it
-- answers false.
use Rattle.std.specs.Prelude.{ℕ, suc, ◌+◌, ◌-◌, ◌≤◌, ◌<◌, ◌≡◌, Bool, not, List, eqb}
use Rattle.std.proofs.Math.Path.{refl, fun_ext}
use Rattle.std.proofs.Common.{sym, ap, ◌∙◌}
use Rattle.std.proofs.Math.Bool.{true, false}
use Rattle.std.proofs.Math.Option.{none, some}
use Rattle.rules.specs.Lists.{Bytes}
use Rattle.rules.specs.Ast.{Expr, star, column, literal, call, unary, binary, is, Exprs, nil, cons}
use Rattle.rules.specs.Scope.{Scope}
use Rattle.rules.specs.Hidden.{Hidden, Walk, where_true, where_false, visit, walk, walk_any}
use Rattle.ast.specs.Table.{rows_at, arguments_at, tree_at}
use Rattle.ast.specs.Operands.{operands_of, kind_of, kind_at, operands_at, kind-at, operands-at, tree-at}
use Rattle.ast.specs.Operands.{arguments-none, arguments-more}

-- the operands in turn: until one walk answers true (a call's), or false
unfoldable pub visited : Scope → Bool → Exprs → Hidden → Walk
visited s true as' h = walk_any s as' h
visited s false nil h = record { answer = true; hidden = h }
visited s false (cons a as') h = where_true (walk s a h) (λ h₁. visited s false as' h₁)

whole : (r : Walk) → where_true r (λ h. record { answer = true; hidden = h }) ≡ r
unfolding where_true
whole r = pick r.answer refl
  where
    pick : (b : Bool) → r.answer ≡ b
        → ◌≡◌ {A = Walk} (elim b [ true ↦ record { answer = true; hidden = r.hidden } | false ↦ r ]) r
    pick true e = ap {B = Walk} (λ (b : Bool). record { answer = b; hidden = r.hidden }) (sym e)
    pick false e = refl

pub walk-operands : (s : Scope) (e : Expr) (h : Hidden) → walk s e h ≡ visited s (eqb (kind_of e) 4) (operands_of e) (visit s e h)
unfolding walk visited kind_of operands_of
walk-operands s (star l) h = refl
walk-operands s (column l none n) h = refl
walk-operands s (column l (some t) n) h = refl
walk-operands s (literal l v) h = refl
walk-operands s (call l n as') h = refl
walk-operands s (unary l o a) h = sym (whole _)
walk-operands s (binary l o a b) h = ap (where_true (walk s a (visit s (binary l o a b) h))) (fun_ext (λ h₁. sym (whole (walk s b h₁))))
walk-operands s (is l a v) h = sym (whole _)

-- in the table
pub walk_at : (c q : Bytes) (t : List ℕ) (r : ℕ) (s : Scope) (h : Hidden)
    → walk s (tree_at c q t r) h ≡ visited s (eqb (kind_at t r) 4) (arguments_at (tree_at c q t) t (operands_at t r) (suc r))
    (visit s (tree_at c q t r) h)
walk_at c q t r s h =
    let e = tree-at c q t r in
    walk-operands s (tree_at c q t r) h ∙ rw (
      ap kind_of e ∙ kind-at (tree_at c q t) c q t r,
      ap operands_of e ∙ operands-at (tree_at c q t) c q t r,
    )

-- the end of the operands; the next of them, whose walk gave w
module _ (f : ℕ → Expr) (t : List ℕ) (s : Scope) (n p : ℕ) (h : Hidden) where
  pub visit-end : (any : Bool) → n ≤ 0 → visited s any (arguments_at f t n p) h ≡ record { answer = not any; hidden = h }
  unfolding visited walk
  visit-end any l = rw (arguments-none f t n p l) (elim any as (λ k. visited s k nil h ≡ record { answer = not k; hidden = h }) [ true ↦ refl | false ↦ refl ])

  pub visit-argument : (w : Walk) → 0 < n → w ≡ walk s (f p) h → visited s true (arguments_at f t n p) h ≡ where_false w (visited s true (arguments_at f t (n - 1) (p + rows_at t p)))
  unfolding visited walk
  visit-argument w l e = rw (arguments-more f t n p l, ← e)

  pub visit-operand : (w : Walk) → 0 < n → w ≡ walk s (f p) h → visited s false (arguments_at f t n p) h ≡ where_true w (visited s false (arguments_at f t (n - 1) (p + rows_at t p)))
  unfolding visited walk
  visit-operand w l e = rw (arguments-more f t n p l, ← e)
