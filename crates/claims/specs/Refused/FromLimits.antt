-- 3 in FROM arises only where a merge comes to more columns than a scope may have.
use Rattle.std.specs.Prelude.{ℕ, ◌+◌, ◌≤◌, ◌<◌, ◌≡◌, refl, Bool, true, false, List, [], ◌∷◌, ◌++◌, eqb, ltb, length}
use Rattle.std.proofs.Common.{arith, sym, ap, ◌∙◌, ltb-true, lt-ltb}
use Rattle.std.proofs.lemmas.Bool.{false≢true}
use Rattle.std.proofs.Math.Option.{Option, none, some}
use Rattle.rules.specs.Refusals.{Text, Reason, refusal_number, limit_passed, duplicate_table, Refusal}
use Rattle.rules.specs.Refusals.{Answer, ok, ◌>>=◌, refuse, refuse_if, at_most}
use Rattle.rules.specs.Limits.{most_columns}
use Rattle.rules.specs.Lists.{any, entry_after}
use Rattle.rules.specs.Schema.{Catalog}
use Rattle.rules.specs.Ast.{Expr, Join, From}
use Rattle.rules.specs.Ast as Ast
use Rattle.rules.specs.Scope.{Scope, empty, width, shares, merge, remap}
use Rattle.rules.specs.Stage.{Stage}
use Rattle.rules.specs.BuildFrom.{Source, merge_into, is_right, build_sides, swapped}
use Rattle.rules.specs.BuildFrom.{build_join, build_from, build_later_items, build_from_clause}
use Rattle.rules.specs.Order.{sides_scope, join_scope, scope_of, from_scope}
use Rattle.claims.specs.Answers.{ensured, All, all_append, all-weaken}
use Rattle.claims.specs.Cases.{either_way, guarded}
use Rattle.claims.specs.Lists.{entry-below}
use Rattle.claims.specs.Order.From.{item-laid}
use Rattle.claims.specs.Widths.Labels.{merge-width}
use Rattle.claims.specs.Widths.Scopes.{wide-width, wide-swapped}
use Rattle.claims.specs.Refused.Refuses.{Refuses, accepted, first, refuses-weaken, if-refuses, Among}
use Rattle.claims.specs.Refused.Expressions.{build-any, option-among}
use Rattle.claims.specs.Refused.Statements.{table-among}

-- WIDTHS
-- the width to which each merge comes in the joins of a FROM item
unfoldable pub join_widths : Catalog → From → List ℕ
join_widths c (Ast.table l n a) = []
join_widths c (Ast.join l j a b p) =
    join_widths c a ++ (join_widths c b ++ ((width (scope_of c a) + width (scope_of c b)) ∷ []))

-- and in FROM, behind s
unfoldable pub from_widths : Catalog → List From → Scope → List ℕ
from_widths c [] s = []
from_widths c (f ∷ fs) s = join_widths c f ++ ((width s + width (scope_of c f)) ∷ from_widths c fs (merge s (scope_of c f)))

-- one of some widths is more than a scope may have
abbrev pub OnePast : List ℕ → Type 0
OnePast ws = any (ltb most_columns) ws ≡ true

-- LAWS
-- X, if a refusal is 3
abbrev pub LimitOnly : Type 0 → Refusal → Type 0
LimitOnly X r = r.reason ≡ limit_passed → X

pub no-limit : {A : Type 0} {m : Answer A} {t : Text} {ns : List ℕ} {X : Type 0} → any (eqb 3) ns ≡ false
    → Refuses m (Among t ns) → Refuses m (LimitOnly X)
unfolding refusal_number
no-limit e h = refuses-weaken (λ r g p. absurd (false≢true (sym e ∙ (rw p at g.number)))) h

limit-if : {X : Type 0} (b : Bool) (l : ℕ) → (b ≡ true → X) → Refuses (refuse_if b limit_passed l) (LimitOnly X)
unfolding refuse_if refuse
limit-if true l k = record { refusal = λ r e p. k refl }
limit-if false l k = accepted

pub limit-most : {A X : Type 0} (n : ℕ) (line : A → ℕ) (xs : List A) → (n < length xs → X)
    → Refuses (at_most n line xs) (LimitOnly X)
unfolding at_most
limit-most {A} {X} n line xs k = go (entry_after n xs) refl
  where
    go : (o : Option A) → entry_after n xs ≡ o
        → Refuses {A = Unit {0}} (elim o [ none ↦ ok tt | some a ↦ refuse limit_passed (line a) ]) (LimitOnly X)
    go none e = accepted
    go (some a) e = record { refusal = λ r u p. k (entry-below xs n a e) }

-- another reason
other-if : {X : Type 0} (b : Bool) (n : Reason) (l : ℕ) → (n ≡ limit_passed → ⊥) → Refuses (refuse_if b n l) (LimitOnly X)
unfolding refuse_if refuse
other-if true n l k = record { refusal = λ r e p. absurd (k (let q : n ≡ r.reason = cc in q ∙ p)) }
other-if false n l k = accepted

built-scope : (c : Catalog) (f : From) (r : Source) → build_from c f ≡ ok r → r.scope ≡ scope_of c f
built-scope c f r e = (ensured (build_from c f) _ (item-laid c f) r e).scoped

merged-scope : (s : Scope) (f : Source) (t : Scope) → merge_into s f ≡ ok t → t ≡ merge s f.scope
unfolding merge_into
merged-scope s f = ensured (merge_into s f) (λ t. t ≡ merge s f.scope)
    (guarded (shares s.tables f.scope.tables) duplicate_table f.line _ _ λ u.
    guarded (ltb most_columns (width s + width f.scope)) limit_passed f.line _ _ λ v. refl)

merge-limit : {X : Type 0} (s : Scope) (f : Source) → (most_columns < width s + width f.scope → X)
    → Refuses (merge_into s f) (LimitOnly X)
unfolding merge_into
merge-limit s f k =
    first (other-if (shares s.tables f.scope.tables) duplicate_table f.line λ e.
    grind arith) λ u e.
    first (limit-if (ltb most_columns (width s + width f.scope)) f.line λ e₁.
    k (ltb-true most_columns _ e₁)) λ v e₂.
    accepted

no-width : width empty ≡ 0
unfolding width empty
no-width = refl

start-width : (s : Scope) → width (merge empty s) ≡ width s
start-width s = omega (arith, merge-width empty s, no-width)

sides-limit : {X : Type 0} (c : Catalog) (f g : From) (p : Option Expr)
    → (most_columns < width (scope_of c f) + width (scope_of c g) → X)
    → Refuses (build_from c f) (LimitOnly X) → Refuses (build_from c g) (LimitOnly X)
    → Refuses (build_sides p (build_from c f) (build_from c g)) (LimitOnly X)
unfolding build_sides any
sides-limit c f g p wide h i =
    first h λ a e.
    first (merge-limit empty a λ w. wide (omega (arith, no-width, rw (built-scope c f a e) at w))) λ s e₁.
    first i λ b e₂.
    first (merge-limit s b λ w. wide
    (rw (merged-scope empty a s e₁, start-width a.scope, built-scope c f a e, built-scope c g b e₂) at w)) λ t e₃.
    first (no-limit refl (option-among t (build-any t) p)) λ x e₄.
    accepted

-- in some of the widths, or in the others
past-left : (vs ws : List ℕ) → OnePast vs → OnePast (vs ++ ws)
unfolding any
past-left [] ws h = absurd (false≢true h)
past-left (v ∷ vs) ws h = go (ltb most_columns v) h (past-left vs ws)
  where
    go : (b : Bool) → (elim b [ true ↦ true | false ↦ any (ltb most_columns) vs ]) ≡ true
        → (OnePast vs → OnePast (vs ++ ws)) → (elim b [ true ↦ true | false ↦ any (ltb most_columns) (vs ++ ws) ]) ≡ true
    go true e k = refl
    go false e k = k e

past-right : (vs ws : List ℕ) → OnePast ws → OnePast (vs ++ ws)
unfolding any
past-right [] ws h = h
past-right (v ∷ vs) ws h = either_way (λ b. b ≡ true) (ltb most_columns v) _ _ refl (past-right vs ws h)

past-here : (w : ℕ) (ws : List ℕ) → most_columns < w → OnePast (w ∷ ws)
unfolding any
past-here w ws h = rw (lt-ltb most_columns w h, any)

pub only-weaken : {A X Y : Type 0} {m : Answer A} → (X → Y) → Refuses m (LimitOnly X) → Refuses m (LimitOnly Y)
only-weaken k h = refuses-weaken (λ r g p. k (g p)) h

from-limit : (c : Catalog) (f : From) → Refuses (build_from c f) (LimitOnly (OnePast (join_widths c f)))
unfolding build_from build_join join_widths any
from-limit c (Ast.table l n a) = first (no-limit refl (table-among c l n)) λ t e. accepted
from-limit c (Ast.join l j f g p) =
    let left = only-weaken (past-left (join_widths c f) _) (from-limit c f) in
    let right = only-weaken (λ h. past-right (join_widths c f) _ (past-left (join_widths c g) _ h)) (from-limit c g) in
    if-refuses (is_right j)
    (first (sides-limit c g f p (λ w. here (omega arith)) right left) λ d e. accepted)
    (first (sides-limit c f g p here left right) λ d e. accepted)
  where
    here : most_columns < width (scope_of c f) + width (scope_of c g) → OnePast (join_widths c (Ast.join l j f g p))
    here w = past-right (join_widths c f) _ (past-right (join_widths c g) _ (past-here _ [] w))

-- an item merged into what stands before it
item-limit : {B : Type 0} (c : Catalog) (f : From) (fs : List From) (s : Scope) (k : Source → Scope → Answer B)
    → ((g : Source)
    → Refuses (k g (merge s (scope_of c f))) (LimitOnly (OnePast (from_widths c fs (merge s (scope_of c f))))))
    → Refuses (build_from c f >>= λ g. merge_into s g >>= λ t. k g t) (LimitOnly (OnePast (from_widths c (f ∷ fs) s)))
unfolding from_widths
item-limit c f fs s k h =
    first (only-weaken (past-left (join_widths c f) _) (from-limit c f)) λ g e.
    first (merge-limit s g λ w. past-right (join_widths c f) _ (past-here _ _ (rw (built-scope c f g e) at w))) λ t e₁.
    only-weaken (λ w. past-right (join_widths c f) _ (past-right (_ ∷ []) _ w))
    (rw (merged-scope s g t e₁ ∙ ap (merge s) (built-scope c f g e)) (h g))

later-limit : (c : Catalog) (fs : List From) (r : Stage)
    → Refuses (build_later_items c fs r) (LimitOnly (OnePast (from_widths c fs r.scope)))
unfolding build_later_items
later-limit c [] r = accepted
later-limit c (f ∷ fs) r = item-limit c f fs r.scope _ λ g. later-limit c fs _

pub clause-limit : (c : Catalog) (fs : List From)
    → Refuses (build_from_clause c fs) (LimitOnly (OnePast (from_widths c fs empty)))
unfolding build_from_clause
clause-limit c [] = accepted
clause-limit c (f ∷ fs) = item-limit c f fs empty _ λ g. later-limit c fs _

-- THE WHOLE WIDTH
-- a join is as wide as both sides
join-width : (j : Join) (s t : Scope) → width (join_scope j s t) ≡ width s + width t
unfolding join_scope sides_scope
join-width j s t = go (is_right j)
  where
    go : (b : Bool) → width (elim b [
      | true ↦ remap (sides_scope t s) (swapped (width t) (width s))
      | false ↦ sides_scope s t
    ]) ≡ width s + width t
    go true = wide-width _ _ (wide-swapped (width t) (width s) (sides_scope t s)) ∙ omega arith
    go false = omega (arith, merge-width (merge empty s) t, start-width s)

joins-within : (c : Catalog) (f : From) → All (λ w. w ≤ width (scope_of c f)) (join_widths c f)
unfolding join_widths scope_of All
joins-within c (Ast.table l n a) = tt
joins-within c (Ast.join l j f g p) =
    let e = join-width j (scope_of c f) (scope_of c g) in
    all_append _ (join_widths c f) _ (all-weaken _ _ (λ w h. omega arith) (join_widths c f) (joins-within c f))
    (all_append _ (join_widths c g) _ (all-weaken _ _ (λ w h. omega arith) (join_widths c g) (joins-within c g))
    (omega arith, tt))

from-grows : (c : Catalog) (fs : List From) (s : Scope) → width s ≤ width (from_scope c fs s)
unfolding from_scope
from-grows c [] s = omega arith
from-grows c (f ∷ fs) s = omega (arith, merge-width s (scope_of c f), from-grows c fs (merge s (scope_of c f)))

merges-within : (c : Catalog) (fs : List From) (s : Scope) → All (λ w. w ≤ width (from_scope c fs s)) (from_widths c fs s)
unfolding from_widths from_scope All
merges-within c [] s = tt
merges-within c (f ∷ fs) s =
    let e = merge-width s (scope_of c f) in
    let g = from-grows c fs (merge s (scope_of c f)) in
    all_append _ (join_widths c f) _ (all-weaken _ _ (λ w h. omega arith) (join_widths c f) (joins-within c f))
    (omega arith, merges-within c fs (merge s (scope_of c f)))

past-within : (n : ℕ) (ws : List ℕ) → All (λ w. w ≤ n) ws → OnePast ws → most_columns < n
unfolding any All
past-within n [] h p = absurd (false≢true p)
past-within n (w ∷ ws) h p = go (ltb most_columns w) refl p (past-within n ws h.1)
  where
    go : (b : Bool) → ltb most_columns w ≡ b → (elim b [ true ↦ true | false ↦ any (ltb most_columns) ws ]) ≡ true
        → (OnePast ws → most_columns < n) → most_columns < n
    go true e q k = omega (arith, ltb-true most_columns w e, h.0)
    go false e q k = k q

-- a merge past the most columns makes the whole FROM wider than it
pub from-wide : (c : Catalog) (fs : List From) → OnePast (from_widths c fs empty)
    → most_columns < width (from_scope c fs empty)
from-wide c fs h = past-within _ _ (merges-within c fs empty) h
