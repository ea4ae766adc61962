-- Whether two scopes may be merged: 6 a table name held by both, then 3 too many columns.
use Rattle.std.specs.Prelude.{ℕ, ◌+◌, ◌≤◌, ◌<◌, ◌≡◌, Bool, true, false, List, ⊤, Result, Ok, Err}
use Rattle.std.proofs.Common.{sym, ◌∙◌}
use borrow.Author.Tests.{lt-ltb, le-ltb}
use Rattle.rules.specs.Refusals.{Answer, ok, refuse, ◌>>=◌, refuse_if}
use Rattle.rules.specs.Limits.{most_columns}
use Rattle.rules.specs.Lists.{Bytes}
use Rattle.rules.specs.Scope as rules
use Rattle.rules.specs.Scope.{shares}
use Rattle.rules.specs.BuildFrom.{Source, merge_into}
use Rattle.scope.specs.Labels.{tables_of}
use Rattle.numbers.specs.Reasons.{reason_of}
use Rattle.numbers.specs.declared.refusals.Reason.{Reason}
use Rattle.numbers.specs.declared.refusals.Reason.TheVariants as Re

-- the rules' answer of a merge
unfoldable pub merging_of : Result ⊤ Reason → rules.Scope → Source → Answer rules.Scope
merging_of (Ok _) s f = ok (rules.merge s f.scope)
merging_of (Err reason) s f = refuse (reason_of reason) f.line

-- for scopes with the tables ts and us and these widths
pub record MayMerge (c q : Bytes) (ts : List ℕ) (width : ℕ) (us : List ℕ) (other : ℕ) (r : Result ⊤ Reason) : Type 0 where
  pub is : (s : rules.Scope) (f : Source) → s.tables ≡ tables_of c q ts → rules.width s ≡ width
      → f.scope.tables ≡ tables_of c q us → rules.width f.scope ≡ other → merge_into s f ≡ merging_of r s f

module _ (s : rules.Scope) (f : Source) where
  merge-taken : shares s.tables f.scope.tables ≡ true → merge_into s f ≡ merging_of (Err Re.DuplicateTable) s f
  unfolding merge_into merging_of reason_of refuse_if refuse ◌>>=◌
  merge-taken h = rw (merge_into, h)

  module _ (h : shares s.tables f.scope.tables ≡ false) where
    merge-wide : most_columns < rules.width s + rules.width f.scope → merge_into s f ≡ merging_of (Err Re.LimitPassed) s f
    unfolding merge_into merging_of reason_of refuse_if refuse ◌>>=◌
    merge-wide g = rw (merge_into, h, lt-ltb most_columns (rules.width s + rules.width f.scope) g)

    merge-fits : rules.width s + rules.width f.scope ≤ most_columns → merge_into s f ≡ merging_of (Ok tt) s f
    unfolding merge_into merging_of reason_of refuse_if refuse ◌>>=◌
    merge-fits g = rw (merge_into, h, le-ltb most_columns (rules.width s + rules.width f.scope) g)

module _ (c q : Bytes) (ts us : List ℕ) {b : Bool} (e : b ≡ shares (tables_of c q ts) (tables_of c q us)) (n m : ℕ) where
  sharing-is : (s : rules.Scope) (f : Source) → s.tables ≡ tables_of c q ts → f.scope.tables ≡ tables_of c q us
      → shares s.tables f.scope.tables ≡ b
  sharing-is s f x y = rw (x, y) (sym e)

  pub may-taken : b ≡ true → MayMerge c q ts n us m (Err Re.DuplicateTable)
  may-taken g = record { is = λ s f x v y w. merge-taken s f (sharing-is s f x y ∙ g) }

  module _ (g : b ≡ false) where
    pub may-wide : most_columns < n + m → MayMerge c q ts n us m (Err Re.LimitPassed)
    may-wide h = record { is = λ s f x v y w. merge-wide s f (sharing-is s f x y ∙ g) (rw (v, w) h) }

    pub may-fit : n + m ≤ most_columns → MayMerge c q ts n us m (Ok tt)
    may-fit h = record { is = λ s f x v y w. merge-fits s f (sharing-is s f x y ∙ g) (rw (v, w) h) }
