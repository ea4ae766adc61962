-- The scopes of a join's sides merged, or refused: 6 a table name held by both, then 3 too many columns. Merged into the
-- empty scope, a scope stays as it is.
use Rattle.std.specs.Prelude.{ℕ, ◌+◌, ◌≤◌, ◌≡◌, Bool, ltb, length, ⊤, Result, MatchResult, is_ok, Ok, Err}
use native.Mathlib.Omega.{arith}
use Rattle.std.proofs.Math.Path.{refl, sym, ap}
use Rattle.std.proofs.Common.{◌∙◌, length-take-le}
use Rattle.std.proofs.Math.Bool.{true, false}
use mathlib.Core.List.{List, [], ◌∷◌}
use borrow.Author.Tests.{le-ltb, ltb-false}
use Rattle.rules.specs.Refusals.{ok, refuse, refuse_if, ◌>>=◌, ◌>>◌, limit_passed, duplicate_table}
use Rattle.rules.specs.Limits.{most_columns, most_from_tables}
use Rattle.rules.specs.Lists.{Bytes, any}
use Rattle.rules.specs.Lines.{Word}
use Rattle.rules.specs.Ast.{Expr}
use Rattle.rules.specs.Plan as P
use Rattle.rules.specs.Scope as rules
use Rattle.rules.specs.Scope.{shares}
use Rattle.claims.specs.Widths.Labels.{merge-width}
use Rattle.appends.specs.Answers.{ok-not-refused}
use Rattle.appends.specs.From.Laid.{source_of}
use Rattle.appends.specs.From.Merge.{merge_at, merge-at, merge_step}
use Rattle.numbers.specs.Reasons.{reason_of, named-reason}
use Rattle.numbers.specs.declared.refusals.Reason.{Reason}
use Rattle.numbers.specs.declared.refusals.Refusal.{Refusal}
use Rattle.ast.specs.Table.{tree_at}
use Rattle.scope.specs.Labels.{columns-length}
use Rattle.scope.specs.Scopes.{scope_of, scope_from, Valid, Plain, plain-scope, labels_of, table_numbers}
use Rattle.scope.specs.Merge.{Mergeable, Merged}
use Rattle.scope.specs.Merging.{MayMerge, merging_of}
use Rattle.scope.specs.declared.Scope.{Scope}
use Rattle.plan.specs.Steps.{RefusedWith, refused-at}

-- scopes of FROM items with few tables
pub record TwoScopes (s t : Scope) : Type 0 where
  pub valid : Valid s
  pub plain : Plain s
  pub other : Valid t
  pub other-plain : Plain t
  pub tables : s.count + t.count ≤ most_from_tables

-- WIDTHS
pub scope-width : (e : ℕ → Expr) (c q : Bytes) (s : Scope) → Valid s → rules.width (scope_of e c q s) ≡ s.width
unfolding scope_of scope_from rules.width
scope-width e c q s h = columns-length c q (table_numbers s) (labels_of s)
    ∙ length-take-le s.width s.labels (omega (arith, h.width, h.labels-room))

-- the empty scope shares no name
shares-none : (ts : List Word) → shares [] ts ≡ false
unfolding shares any
shares-none [] = refl
shares-none (t ∷ ts) = rw (any, shares-none ts)

pub merge-empty : (e : ℕ → Expr) (c q : Bytes) (s : Scope) (l : ℕ) → Valid s → Plain s
    → merge_at rules.empty (scope_of e c q s) l ≡ ok (scope_of e c q s)
unfolding rules.empty rules.width
merge-empty e c q s l v p =
    let w : rules.width (scope_of e c q s) ≤ most_columns = omega (arith, scope-width e c q s v, v.width) in
    merge_step rules.empty (scope_of e c q s) l (shares-none (scope_of e c q s).tables)
    (le-ltb most_columns (rules.width rules.empty + rules.width (scope_of e c q s)) (omega (arith, w)))
    ∙ ap ok (rw (plain-scope e c q s p) (unfold rules.merge rules.shift rules.empty in refl))

-- THE MERGE
pub record MergedScope (c q : Bytes) (s t r : Scope) : Type 0 where
  pub valid : Valid r
  pub plain : Plain r
  pub count : r.count ≡ s.count + t.count
  pub width : s.width + t.width ≡ r.width
  pub is : (e : ℕ → Expr) (l : ℕ) → merge_at (scope_of e c q s) (scope_of e c q t) l ≡ ok (scope_of e c q r)

-- r is the merge, refused at line l
pub record Merges (c q : Bytes) (s t : Scope) (l : ℕ) (r : Result Scope Refusal) : Type 0 where
  pub is : MatchResult r (MergedScope c q s t)
      (λ w. (e : ℕ → Expr) → RefusedWith (merge_at (scope_of e c q s) (scope_of e c q t) l) w)

labels-many : (s : Scope) → Valid s → length (labels_of s) ≡ s.width
labels-many s h = length-take-le s.width s.labels (omega (arith, h.width, h.labels-room))

-- what was told, by whether it is a reason
pub told-allowed : (m : Result ⊤ Reason) (u : ⊤) → true ≡ is_ok m → m ≡ Ok u
told-allowed (Ok x) u h = refl
told-allowed (Err k) u h = grind arith

pub told-refused : (m : Result ⊤ Reason) → false ≡ is_ok m → (k : Reason) × (m ≡ Err k)
told-refused (Ok x) h = grind arith
told-refused (Err k) h = (k, refl)

-- what was told, of the rules' merge
module _ (c q : Bytes) (s t : Scope) (h : TwoScopes s t) {m : Result ⊤ Reason}
    (g : MayMerge c q (table_numbers s) (length (labels_of s)) (table_numbers t) (length (labels_of t)) m) where
  told : (e : ℕ → Expr) (l : ℕ) → merge_at (scope_of e c q s) (scope_of e c q t) l
      ≡ merging_of m (scope_of e c q s) (source_of (P.values []) (scope_of e c q t) l)
  unfolding scope_of scope_from
  told e l = sym (merge-at (scope_of e c q s) (scope_of e c q t) (P.values []) l)
      ∙ g.is (scope_of e c q s) (source_of (P.values []) (scope_of e c q t) l) refl (scope-width e c q s h.valid ∙ sym (labels-many s h.valid))
      refl (scope-width e c q t h.other ∙ sym (labels-many t h.other))

  pub merges-refused : {k : Reason} (l : ℕ) → m ≡ Err k → Merges c q s t l (Err (record { reason = k; line = l }))
  unfolding merging_of
  merges-refused {k} l e = record {
    is = λ x. refused-at (reason_of k) l k l (told x l ∙ rw e) (sym (named-reason k)) refl;
  }

  -- they fit where they may be merged
  fits : (x y : rules.Scope) (l : ℕ) → merge_at x y l ≡ ok (rules.merge x y) → rules.width x + rules.width y ≤ most_columns
  unfolding merge_at
  fits x y l e = ltb-false most_columns (rules.width x + rules.width y)
      (go (shares x.tables y.tables) (ltb most_columns (rules.width x + rules.width y)) e)
    where
      go : (a b : Bool)
          → (refuse_if a duplicate_table l >> (refuse_if b limit_passed l >> ok (rules.merge x y))) ≡ ok (rules.merge x y)
          → b ≡ false
      go true b k = unfold refuse_if refuse ◌>>=◌ in (ok-not-refused _ _ (sym k))
      go false true k = unfold refuse_if refuse ◌>>=◌ in (ok-not-refused _ _ (sym k))
      go false false k = refl

  module _ {u : ⊤} (f : m ≡ Ok u) where
    pub mergeable : Mergeable s t
    unfolding merging_of
    mergeable = let e = tree_at c q [] in record {
      valid = h.valid;
      plain = h.plain;
      other = h.other;
      other-plain = h.other-plain;
      width = omega (
        arith,
        fits (scope_of e c q s) (scope_of e c q t) 0 (told e 0 ∙ rw f),
        scope-width e c q s h.valid,
        scope-width e c q t h.other,
      );
      tables = h.tables;
    }

    pub merges-allowed : {r : Scope} (l : ℕ) → Merged s t r → Merges c q s t l (Ok r)
    unfolding merging_of
    merges-allowed {r} l d = let e = tree_at c q [] in record {
      is = record {
        valid = d.valid;
        plain = d.plain;
        count = d.count;
        width = omega (
          arith,
          scope-width e c q r d.valid,
          ap rules.width (d.is e c q),
          merge-width (scope_of e c q s) (scope_of e c q t),
          scope-width e c q s h.valid,
          scope-width e c q t h.other,
        );
        is = λ x l. told x l ∙ rw f (ap ok (sym (d.is x c q)));
      };
    }
