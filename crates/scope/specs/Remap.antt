-- The rules' remap of a right join, for a scope with no matches and nothing hidden: its columns swapped.
use Prim.Native.Nat.{ℕ, zero, suc, ◌+◌, ◌≤◌, ◌<◌}
use native.Mathlib.Omega.{arith}
use Rattle.std.proofs.Math.Numerals.{add-one}
use Rattle.std.specs.Prelude.{◌≡◌, List, [], ◌∷◌, ◌++◌, get_or, take, drop}
use Rattle.std.proofs.Common.{ap, sym, ◌∙◌, append_assoc, append-nil, drop-cons}
use Rattle.std.proofs.Math.ListN.{length}
use Rattle.std.proofs.lemmas.List.{take-map, drop-map}
use Rattle.rules.specs.Lists.{Bytes, any}
use Rattle.rules.specs.Lines.{Word}
use Rattle.rules.specs.Plan.{Label, nameless}
use Rattle.rules.specs.Scope as rules
use Rattle.rules.specs.Scope.{pass_all, add_passthrough, add_matches, hide, add_column}
use Rattle.rules.specs.BuildFrom.{rising, swapped}
use Rattle.claims.specs.Widths.Scopes.{remap-swapped as swapped-passes}
use Rattle.scope.specs.Labels.{columns_of, columns-append}
use Rattle.scope.specs.Scopes.{plain_scope}

-- THE COLUMNS of a scope that are passed through
pass-rising : (cs : List Label) (ts : List Word) (ds : List Label) (i n : ℕ) → i + n ≤ length cs
    → pass_all (plain_scope cs ts) (rising i n) (plain_scope ds ts) ≡ plain_scope (ds ++ take n (drop i cs)) ts
unfolding pass_all rising add_passthrough add_matches hide add_column any
pass-rising cs ts ds i zero h = rw append-nil
pass-rising cs ts ds i (suc n) h =
    let l : i < length cs = omega arith in
    pass-rising cs ts (ds ++ (get_or cs i nameless ∷ [])) (i + 1) n (omega arith)
    ∙ ap (λ (r : List Label). plain_scope r ts)
    (rw (drop-cons cs i nameless l, add-one i) (append_assoc ds (get_or cs i nameless ∷ []) (take n (drop (suc i) cs))))

-- the remap of a right join
pub remap-swapped : (cs : List Label) (ts : List Word) (a b : ℕ) → a + b ≡ length cs
    → rules.remap (plain_scope cs ts) (swapped a b) ≡ plain_scope (take b (drop a cs) ++ take a cs) ts
unfolding rules.spawn
remap-swapped cs ts a b h =
    swapped-passes a b (plain_scope cs ts)
    ∙ rw (pass-rising cs ts [] a b (omega arith))
    (pass-rising cs ts (take b (drop a cs)) 0 a (omega arith))

-- LABELS SWAPPED
pub columns-swapped : (c q : Bytes) (ts xs : List ℕ) (a b : ℕ)
    → columns_of c q ts (take b (drop a xs) ++ take a xs)
    ≡ take b (drop a (columns_of c q ts xs)) ++ take a (columns_of c q ts xs)
unfolding columns_of
columns-swapped c q ts xs a b =
    columns-append c q ts (take b (drop a xs)) (take a xs)
    ∙ sym (rw (take-map, drop-map, take-map))
