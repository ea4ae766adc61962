-- The rows that a walk for hidden columns visits: visiting them one by one hides what the walk hides.
use Rattle.std.specs.Prelude.{ℕ, ◌+◌, ◌-◌, ◌≤◌, ◌<◌, ◌≡◌, refl, Bool, not, List, [], ◌∷◌, ◌++◌, map, eqb}
use Rattle.std.proofs.Common.{add-one, sym, ap, ◌∙◌}
use Rattle.std.proofs.Math.Bool.{true, false}
use Rattle.std.specs.Bool.{beq}
use Rattle.std.proofs.lemmas.List.{map-append}
use Rattle.rules.specs.Lists.{Bytes}
use Rattle.rules.specs.Ast.{Expr}
use Rattle.rules.specs.Scope.{Scope}
use Rattle.rules.specs.Hidden.{Hidden, where_true, where_false, visit, walk}
use Rattle.ast.specs.Table.{rows_at, arguments_at, tree_at}
use Rattle.ast.specs.Operands.{kind_at, operands_at}
use Rattle.ast.specs.Visits.{visited, walk_at, visit-end, visit-argument, visit-operand}

-- what is hidden when the expressions are visited one by one
unfoldable pub hidden_by : Scope → List Expr → Hidden → Hidden
hidden_by s [] h = h
hidden_by s (e ∷ es) h = hidden_by s es (visit s e h)

pub hidden-append : (s : Scope) (xs ys : List Expr) (h : Hidden)
    → hidden_by s (xs ++ ys) h ≡ hidden_by s ys (hidden_by s xs h)
unfolding hidden_by
hidden-append s [] ys h = refl
hidden-append s (x ∷ xs) ys h = hidden-append s xs ys (visit s x h)

-- the trees at the rows rs
abbrev pub trees_at : Bytes → Bytes → List ℕ → List ℕ → List Expr
trees_at c q t rs = map (tree_at c q t) rs

-- visiting rs is the walk of the tree at row r, whose answer b is
pub record Walks (t : List ℕ) (r : ℕ) (rs : List ℕ) (b : Bool) : Type 0 where
  pub is : (c q : Bytes) (s : Scope) (h : Hidden)
      → walk s (tree_at c q t r) h ≡ record { answer = b; hidden = hidden_by s (trees_at c q t rs) h }

-- visiting rs is that walk up to the last n operands, from row p on: a call's (any), or an operator's
pub record Walking (t : List ℕ) (r : ℕ) (any : Bool) (n p : ℕ) (rs : List ℕ) : Type 0 where
  pub is : (c q : Bytes) (s : Scope) (h : Hidden) → walk s (tree_at c q t r) h
      ≡ visited s any (arguments_at (tree_at c q t) t n p) (hidden_by s (trees_at c q t rs) h)

pub walking-begin : (t : List ℕ) (r k n : ℕ) → k ≡ kind_at t r → n ≡ operands_at t r
    → Walking t r (eqb k 4) n (r + 1) (r ∷ [])
unfolding hidden_by
walking-begin t r k n e g = record { is = λ c q s h. rw (e, g, add-one r) (walk_at c q t r s h) }

-- the first of n operands is walked, and hides g: its answer b ends the walk, or not
module _ (f : ℕ → Expr) (t : List ℕ) (s : Scope) (n p : ℕ) (h g : Hidden) (l : 0 < n) where
  operand-stop : (a b : Bool) → walk s (f p) h ≡ record { answer = b; hidden = g } → beq b a ≡ true
      → visited s a (arguments_at f t n p) h ≡ record { answer = a; hidden = g }
  unfolding where_true where_false
  operand-stop true true e z = visit-argument f t s n p h _ l (sym e)
  operand-stop true false e z = cc
  operand-stop false true e z = cc
  operand-stop false false e z = visit-operand f t s n p h _ l (sym e)

  operand-more : (a b : Bool) → walk s (f p) h ≡ record { answer = b; hidden = g } → beq b a ≡ false
      → visited s a (arguments_at f t n p) h ≡ visited s a (arguments_at f t (n - 1) (p + rows_at t p)) g
  unfolding where_true where_false
  operand-more true true e z = cc
  operand-more true false e z = visit-argument f t s n p h _ l (sym e)
  operand-more false true e z = visit-operand f t s n p h _ l (sym e)
  operand-more false false e z = cc

module _ {t : List ℕ} {r : ℕ} {any : Bool} {n p : ℕ} {rs : List ℕ} (w : Walking t r any n p rs) where
  pub walking-end : n ≤ 0 → Walks t r rs (not any)
  walking-end l = record { is = λ c q s h. w.is c q s h ∙ visit-end (tree_at c q t) t s n p _ any l }

  module _ {us : List ℕ} {b : Bool} (l : 0 < n) (k : Walks t p us b) where
    both : (c q : Bytes) (s : Scope) (h : Hidden)
        → hidden_by s (trees_at c q t (rs ++ us)) h ≡ hidden_by s (trees_at c q t us) (hidden_by s (trees_at c q t rs) h)
    both c q s h = ap (λ es. hidden_by s es h) (map-append (tree_at c q t) rs us) ∙ hidden-append s _ _ h

    pub walking-stop : beq b any ≡ true → Walks t r (rs ++ us) any
    walking-stop z = record {
      is = λ c q s h. w.is c q s h
          ∙ operand-stop (tree_at c q t) t s n p _ _ l any b (k.is c q s _) z
          ∙ rw (both c q s h);
    }

    pub walking-more : beq b any ≡ false → Walking t r any (n - 1) (p + rows_at t p) (rs ++ us)
    walking-more z = record {
      is = λ c q s h. w.is c q s h
          ∙ operand-more (tree_at c q t) t s n p _ _ l any b (k.is c q s _) z
          ∙ rw (both c q s h);
    }
