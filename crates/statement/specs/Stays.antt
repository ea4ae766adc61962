-- Numbers that later stores leave as they are, and what stands for the same whatever is stored behind it.
use Rattle.std.specs.Prelude.{ℕ, ◌*◌, ◌≤◌, ◌≡◌, List, set}
use Rattle.std.proofs.Common.{arith}
use Rattle.rules.specs.Lists.{Bytes}
use Rattle.numbers.specs.Kept.{Kept, kept-all, kept_on, kept-first, kept-set-behind}
use Rattle.ast.specs.Table.{row_size, statement_rows}
use Rattle.entries.specs.Entries.{Entry}
use Rattle.sections.specs.Layout.{start_of, section_at}
use Rattle.sections.specs.Access.{limit_kind}
use Rattle.sections.specs.Terms.{end_of, SectionRead}

pub start-end : (kind : ℕ) → start_of kind ≤ end_of kind
unfolding end_of
start-end kind = omega arith

-- P holds whatever stands behind the first c rows and the first n parts
pub record Stays (c n : ℕ) (cells parts : List ℕ) (P : List ℕ → List ℕ → Type 0) : Type 0 where
  pub holds : (x y : List ℕ) → Kept 0 (row_size * c) cells x → Kept 0 n parts y → P x y

-- the first n parts are as they were
pub stays-begin : (n : ℕ) (cells parts : List ℕ) → Stays 0 n cells parts λ x y. Kept 0 n parts y
stays-begin n cells parts = record { holds = λ x y f g. g }

module _ {c n : ℕ} {cells parts : List ℕ} {P : List ℕ → List ℕ → Type 0} (h : Stays c n cells parts P) where
  pub stays-end : P cells parts
  stays-end = h.holds cells parts (kept-all 0 _ _) (kept-all 0 _ _)

  -- where a part behind them is stored
  pub stays-set : (x : List ℕ) → Kept 0 (row_size * c) cells x → (i v : ℕ) → n ≤ i → P x (set parts i v)
  stays-set x k i v l = h.holds x (set parts i v) k (kept-set-behind _ _ _ 0 _ l)

  -- where a reading stores behind them
  pub stays-more : {c' n' : ℕ} {cells' parts' : List ℕ} → Kept 0 (row_size * c) cells cells' → Kept 0 n parts parts'
      → c ≤ c' → n ≤ n' → Stays c' n' cells' parts' P
  stays-more {c'} {n'} {cells'} {parts'} f g l m = record {
    holds = λ x y u v. h.holds x y (kept_on f
        (kept-first (row_size * c) u (omega arith)))
        (kept_on g (kept-first n v m));
  }

  -- a section more
  pub stays_on : {t : Bytes} {kind c' : ℕ} {cells' parts' : List ℕ} {xs : List Entry} → SectionRead t kind c cells cells' parts parts' c' xs → c ≤ c' → n ≤ start_of kind
      → Stays c' (end_of kind) cells' parts' λ x y. P x y × ((b : Bytes) → section_at b t x y kind ≡ xs)
  stays_on {t} {kind} {c'} {cells'} {parts'} {xs} s m l = record { holds = λ x y f g. (go.holds x y f g, s.is x y f g) }
    where
      go : Stays c' (end_of kind) cells' parts' P
      go = stays-more s.cells-kept (kept-first n s.parts-kept l) m (omega (arith, start-end kind))

-- the sections of a SELECT are the same whatever stands behind the rows of the statement
pub record SectionsStay (t : Bytes) (cells parts : List ℕ) : Type 0 where
  pub same : (x : List ℕ) → Kept 0 (row_size * statement_rows) cells x → (b : Bytes) (kind : ℕ) → kind ≤ limit_kind
      → section_at b t x parts kind ≡ section_at b t cells parts kind
