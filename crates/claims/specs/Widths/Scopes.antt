-- What each change of a scope does to its width, and that its matches stay below it.
use Rattle.std.specs.Prelude.{ℕ, zero, suc, ◌+◌, ◌≤◌, ◌<◌, ◌≡◌, refl, Bool, true, false, ◌||◌, List, [], ◌∷◌, ◌++◌, eqb, length}
use Rattle.std.proofs.Common.{arith, add-zero, zero-add, length-append}
use Rattle.std.proofs.Math.Option.{Option, none, some}
use Rattle.std.proofs.lemmas.List.{length-map}
use Rattle.rules.specs.Lists.{any, is_empty, is_some}
use Rattle.rules.specs.Lines.{Word}
use Rattle.rules.specs.Schema.{Table}
use Rattle.rules.specs.Ast.{Expr, Item}
use Rattle.rules.specs.Plan.{Label}
use Rattle.rules.specs.Scope.{Match, Scope, empty, width, spawn, add_column, from_table, matched, add_match, label_of}
use Rattle.rules.specs.Scope.{add_aggregate, hide, add_matches, add_passthrough, shift, merge, project_one, project_all}
use Rattle.rules.specs.Scope.{project, pass_all, remap}
use Rattle.rules.specs.BuildAggregate.{Retained, keep, retain}
use Rattle.rules.specs.BuildFrom.{rising, swapped}
use Rattle.claims.specs.Answers.{All, all_append, all-weaken}
use Rattle.claims.specs.Cases.{either_way}
use Rattle.claims.specs.Widths.Below.{MatchesBelow, Sound}
use Rattle.claims.specs.Widths.Swapped.{swapped-sources}

-- a scope of width w whose matches are below w
unfoldable pub Wide : ℕ → Scope → Type 0
Wide w s = (width s ≡ w) × MatchesBelow w s.aggregates

pub wide-width : (w : ℕ) (s : Scope) → Wide w s → width s ≡ w
unfolding Wide
wide-width w s h = h.0

pub wide-sound : (w : ℕ) (s : Scope) → Wide w s → Sound s
unfolding Wide Sound
wide-sound w s h = rw h.0 h.1

pub wide_is : (v w : ℕ) (s : Scope) → v ≡ w → Wide v s → Wide w s
wide_is v w s e h = rw e at h

-- NEW SCOPES
pub wide-empty : Wide 0 empty
unfolding Wide empty width MatchesBelow All
wide-empty = (refl, tt)

pub wide-spawn : (s : Scope) → Wide 0 (spawn s)
unfolding Wide spawn width MatchesBelow All
wide-spawn s = (refl, tt)

pub wide-table : (n : Word) (t : Table) → Wide (length t.columns) (from_table n t)
unfolding from_table Wide width MatchesBelow All
wide-table n t = (length-map t.columns _, tt)

-- COLUMNS AND MATCHES
matches-up : (ms : List Match) (v w : ℕ) → v ≤ w → MatchesBelow v ms → MatchesBelow w ms
unfolding MatchesBelow
matches-up ms v w l h = all-weaken _ _ (λ m p. omega arith) ms h

wide-column : (w : ℕ) (l : Label) (s : Scope) → Wide w s → Wide (w + 1) (add_column l s)
unfolding Wide add_column width
wide-column w l s h =
    (rw length-append (omega arith), matches-up s.aggregates w (w + 1) (omega arith) h.1)

wide-match : (w : ℕ) (e : Expr) (i : ℕ) (s : Scope) → i < w → Wide w s → Wide w (add_match e i s)
unfolding Wide add_match width MatchesBelow All
wide-match w e i s l h = either_way (Wide w) (is_some (matched s e)) _ _ h
    (h.0, all_append _ s.aggregates (record { expr = e; column = i } ∷ []) h.1 (l, tt))

-- a column that a match goes with
wide_both : (w : ℕ) (e : Expr) (l : Label) (s : Scope) → Wide w s → Wide (w + 1) (add_match e (width s) (add_column l s))
wide_both w e l s h =
    wide-match (w + 1) e (width s) (add_column l s) (omega (arith, wide-width w s h)) (wide-column w l s h)

wide-aggregate : (w : ℕ) (p : Scope) (e : Expr) (s : Scope) → Wide w s → Wide (w + 1) (add_aggregate p e s)
unfolding add_aggregate
wide-aggregate w p e s h = wide_both w e (label_of p e) s h

wide-matches : (ms : List Match) (w from to : ℕ) (s : Scope) → to < w → Wide w s → Wide w (add_matches ms from to s)
unfolding add_matches
wide-matches [] w from to s l h = h
wide-matches (m ∷ ms) w from to s l h = either_way (Wide w) (eqb m.column from) _ _
    (wide-matches ms w from to (add_match m.expr to s) l (wide-match w m.expr to s l h))
    (wide-matches ms w from to s l h)

wide-hide : (w : ℕ) (b : Bool) (i : ℕ) (s : Scope) → Wide w s → Wide w (hide b i s)
unfolding Wide hide width
wide-hide w true i s h = h
wide-hide w false i s h = h

-- a column passed through adds one
pub wide-passthrough : (w : ℕ) (p : Scope) (i : ℕ) (b : Bool) (s : Scope) → Wide w s
    → Wide (w + 1) (add_passthrough p i b s)
unfolding add_passthrough
wide-passthrough w p i b s h = wide-hide (w + 1) (b || any (eqb i) p.hidden) (width s) _
    (wide-matches p.aggregates (w + 1) i (width s) _ (omega (arith, wide-width w s h)) (wide-column w _ s h))

-- MERGE
wide-shift : (ms : List Match) (v w : ℕ) (s : Scope) → MatchesBelow w ms → Wide (v + w) s → Wide (v + w) (shift v ms s)
unfolding shift MatchesBelow All
wide-shift [] v w s h g = g
wide-shift (m ∷ ms) v w s h g =
    wide-shift ms v w _ h.1 (wide-match (v + w) m.expr (m.column + v) s (omega arith) g)

-- a merged scope is as wide as both
pub wide-merge : (v w : ℕ) (s t : Scope) → Wide v s → Wide w t → Wide (v + w) (merge s t)
unfolding merge Wide width
wide-merge v w s t h g = rw h.0 (wide-shift t.aggregates v w _ g.1
    (rw length-append (omega arith), matches-up s.aggregates v (v + w) (omega arith) h.1))

-- PROJECT
wide-one : (w : ℕ) (p : Scope) (i : Item) (c : Scope) → Wide w c → Wide (w + 1) (project_one p i c)
unfolding project_one
wide-one w p i c h =
    either_way (Wide (w + 1)) (is_empty p.aggregates) _ _ (wide-column w _ c h) (wide_both w _ _ c h)

wide-all : (is' : List Item) (w : ℕ) (p c : Scope) → Wide w c → Wide (w + length is') (project_all p is' c)
unfolding project_all
wide-all [] w p c h = rw add-zero h
wide-all (i ∷ is') w p c h =
    wide_is (w + 1 + length is') _ _ (omega arith) (wide-all is' (w + 1) p (project_one p i c) (wide-one w p i c h))

-- a projection has a column for each item
pub wide-project : (is' : List Item) (p : Scope) → Wide (length is') (project p is')
unfolding project
wide-project is' p = rw zero-add at (wide-all is' 0 p (spawn p) (wide-spawn p))

-- GROUPS
-- the child has a column for each expression that it lacked
pub wide-retain : (es : List Expr) (w : ℕ) (p c : Scope) → Wide w c
    → Wide (w + length (retain p es c).exprs) (retain p es c).scope
unfolding retain keep
wide-retain [] w p c h = rw add-zero h
wide-retain (e ∷ es) w p c h =
    either_way (λ (r : Retained). Wide (w + length r.exprs) r.scope) (is_some (matched c e)) _ _
    (wide-retain es w p c h)
    (wide_is _ _ _ (omega arith) (wide-retain es (w + 1) p (add_aggregate p e c) (wide-aggregate w p e c h)))

-- REMAP
pass_all-append : (s : Scope) (xs ys : List (Option ℕ)) (c : Scope)
    → pass_all s (xs ++ ys) c ≡ pass_all s ys (pass_all s xs c)
unfolding pass_all
pass_all-append s [] ys c = refl
pass_all-append s (none ∷ xs) ys c = pass_all-append s xs ys c
pass_all-append s (some i ∷ xs) ys c = pass_all-append s xs ys (add_passthrough s i false c)

-- a swap passes the b columns behind the first a through, then those a
pub remap-swapped : (a b : ℕ) (s : Scope)
    → remap s (swapped a b) ≡ pass_all s (rising 0 a) (pass_all s (rising a b) (spawn s))
unfolding remap
remap-swapped a b s = rw swapped-sources (unfold swapped in (pass_all-append s (rising a b) (rising 0 a) (spawn s)))

wide-rising : (n w i : ℕ) (s c : Scope) → Wide w c → Wide (w + n) (pass_all s (rising i n) c)
unfolding pass_all rising
wide-rising zero w i s c h = rw add-zero h
wide-rising (suc n) w i s c h = wide_is (w + 1 + n) _ _ (omega arith)
    (wide-rising n (w + 1) (i + 1) s (add_passthrough s i false c) (wide-passthrough w s i false c h))

-- a swap keeps the width
pub wide-swapped : (a b : ℕ) (s : Scope) → Wide (a + b) (remap s (swapped a b))
wide-swapped a b s = rw remap-swapped
    (wide_is (0 + b + a) _ _ (omega arith) (wide-rising a (0 + b) 0 s _ (wide-rising b 0 a s (spawn s) (wide-spawn s))))
