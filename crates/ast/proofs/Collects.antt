-- Rows collected one behind the other: what the rest gives from here is what the whole gives.
use Prim.Native.Nat.{ℕ, zero, suc, ◌+◌, ◌-◌, ◌≤◌, ◌<◌}
use native.Mathlib.Numerals.{add-one, sub-one}
use native.Mathlib.Omega.{arith}
use mathlib.Core.Path.{◌≡◌, refl, sym, ◌∙◌}
use mathlib.Core.Bool.{true, false}
use mathlib.Core.List.{List, [], ◌∷◌, ◌++◌}
use Rattle.std.specs.Prelude.{Option, Some, None}
use Rattle.rules.specs.Lists.{Bytes}
use Rattle.ast.specs.Table.{rows_at, root_at}
use Rattle.ast.specs.Operands.{operands_at}
use Rattle.ast.specs.Walk.{is_aggregate_call}
use Rattle.ast.specs.Collect.{rows_of, collect_by, collect_rows}
use Rattle.ast.specs.Listed.{ListedWithin, within-none, within-on, within-full}
use Rattle.ast.specs.declared.buffer.Rows.{Rows}
use Rattle.ast.proofs.Trees.{rows-at}

rows_none : (g : ℕ → List ℕ) (t : List ℕ) (n p : ℕ) → n ≤ 0 → rows_of g t n p ≡ []
unfolding rows_of
rows_none g t zero p h = refl
rows_none g t (suc n) p h = absurd (omega arith)

rows_more : (g : ℕ → List ℕ) (t : List ℕ) (n p : ℕ) → 0 < n → rows_of g t n p ≡ g p ++ rows_of g t (n - 1) (p + rows_at t p)
unfolding rows_of
rows_more g t zero p h = absurd (omega arith)
rows_more g t (suc n) p h = rw (sub-one (suc n))

pub rows-match : (c q : Bytes) (t : List ℕ) (r : ℕ) → is_aggregate_call (root_at c q t r) ≡ true
    → collect_rows c q t r ≡ r ∷ []
unfolding collect_by
rows-match c q t r h = rows-at c q t r ∙ rw (h, collect_by)

rows_on : (c q : Bytes) (t : List ℕ) (r n : ℕ) → is_aggregate_call (root_at c q t r) ≡ false → n ≡ operands_at t r
    → rows_of (collect_rows c q t) t n (r + 1) ≡ collect_rows c q t r
unfolding collect_by
rows_on c q t r n h e = sym (rows-at c q t r ∙ rw (h, collect_by, e, add-one r))

-- what n operands from row p on give behind the rows of s' makes xs behind those of s
abbrev pub Collecting : (ℕ → List ℕ) → List ℕ → List ℕ → Rows → ℕ → ℕ → Rows → Type 0
Collecting g t xs s n p s' = (r : Option Unit) (u : Rows) → ListedWithin (rows_of g t n p) s' r u → ListedWithin xs s r u

pub collecting-begin : (c q : Bytes) (t : List ℕ) (r n : ℕ) (s : Rows) → is_aggregate_call (root_at c q t r) ≡ false
    → n ≡ operands_at t r → Collecting (collect_rows c q t) t (collect_rows c q t r) s n (r + 1) s
collecting-begin c q t r n s h e = λ o u a. rw (rows_on c q t r n h e) at a

module _ (g : ℕ → List ℕ) (t xs : List ℕ) (s : Rows) (n p : ℕ) (s' : Rows) (k : Collecting g t xs s n p s') where
  pub collecting-end : n ≤ 0 → ListedWithin xs s (Some tt) s'
  collecting-end h = k (Some tt) s' (rw (rows_none g t n p h) (within-none s'))

  module _ (h : 0 < n) {o : Option Unit} {u : Rows} (a : ListedWithin (g p) s' o u) where
    pub collecting-full : o ≡ None → ListedWithin xs s None u
    collecting-full e = k None u (rw (rows_more g t n p h) (within-full a _ e))

    pub collecting-more : o ≡ Some tt → Collecting g t xs s (n - 1) (p + rows_at t p) u
    collecting-more e = λ r v b. k r v (rw (rows_more g t n p h) (within-on a e b))
