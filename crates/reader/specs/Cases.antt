-- Reading by cases: what each refusal, and what was read, says of the rules' answer.
use Prim.Native.Nat.{ℕ, zero, suc, ◌≤◌, ◌<◌}
use Rattle.std.proofs.Common.{arith, ap, ◌∙◌}
use Rattle.std.specs.Prelude.{◌≡◌, List, length, get_or, Result, Ok, Err}
use Rattle.std.proofs.Math.Path.{refl, sym}
use borrow.Author.Tests.{lt-ltb, le-ltb}
use Rattle.rules.specs.Refusals.{catalog, statement, Refusal, ok, refused, refuse, limit_passed, ◌>>=◌}
use Rattle.rules.specs.Limits.{most_bytes}
use Rattle.rules.specs.Lists.{Bytes}
use Rattle.rules.specs.Schema.{Catalog}
use Rattle.rules.specs.Ast.{Statement}
use Rattle.rules.specs.Ast as Ast
use Rattle.rules.specs.Sizes.{statement_size}
use Rattle.rules.specs.ReadCatalog.{read_catalog}
use Rattle.rules.specs.ReadStatement.{read_statement}
use Rattle.schema.specs.Layout.{tables_at, catalog_at}
use Rattle.schema.specs.TableRuns.{catalog_of, catalog_answer}
use Rattle.statement.specs.Layout.{statement_at}
use Rattle.statement.specs.Whole.{statement_of, statement_answer, Counts, SelectStays}
use Rattle.statement.specs.Access as access
use Rattle.statement.specs.Stays.{SectionsStay}
use Rattle.statement.specs.declared.access.Kind.{Kind}
use Rattle.statement.specs.declared.access.Kind.TheVariants as K
use Rattle.numbers.specs.declared.refusals.Refusal as code
use Rattle.numbers.specs.declared.refusals.Reason.TheVariants.{LimitPassed}
use Rattle.numbers.specs.Reasons.{told, named, named-reason}
use Rattle.reader.specs.Texts.{not_other, both_of, read_texts}
use Rattle.reader.specs.Reading.{texts_of, texts_by, statement_kind, TextsRead}
use Rattle.numbers.specs.Texts.{text_named}
use Rattle.numbers.specs.declared.refusals.Text.TheVariants as T

-- REFUSED
module _ {c q : Bytes} {tables cells froms parts : List ℕ} where
  refused-read : (ρ : Refusal) → read_texts c q ≡ refused ρ → TextsRead c q tables cells froms parts (Err (record { reason = named ρ.reason; text = text_named ρ.text; line = ρ.line }))
  unfolding texts_of
  refused-read ρ e = record { is = sym (ap texts_of e); stands = λ x z. grind arith; stays = λ x z. grind arith }

  pub catalog-long : most_bytes < length c → TextsRead c q tables cells froms parts (Err (record { reason = LimitPassed; text = T.Catalog; line = 0 }))
  unfolding read_texts named text_named
  catalog-long h = refused-read (record { reason = limit_passed; text = catalog; line = 0 }) (rw (read_texts, lt-ltb most_bytes (length c) h))

  pub statement-long : length c ≤ most_bytes → most_bytes < length q → TextsRead c q tables cells froms parts (Err (record { reason = LimitPassed; text = T.Statement; line = 0 }))
  unfolding read_texts named text_named
  statement-long h g = refused-read (record { reason = limit_passed; text = statement; line = 0 }) (rw (read_texts, le-ltb most_bytes (length c) h, lt-ltb most_bytes (length q) g))

-- READ
-- a statement that can be planned
pub texts-one : (k : Kind) (l n m : ℕ) → (k ≡ K.Other → ⊥) → Ok (record { kind = k; cells = n; tables = m }) ≡ texts_by k l n m
unfolding texts_by
texts-one K.Select l n m h = refl
texts-one K.Create l n m h = refl
texts-one K.Drop l n m h = refl
texts-one K.Delete l n m h = refl
texts-one K.Insert l n m h = refl
texts-one K.Update l n m h = refl
texts-one K.Other l n m h = absurd (h refl)

-- the statement that a kind stands for, of the numbers in the slices
texts-of-kind : (b q : Bytes) (cells froms parts : List ℕ) (ts : Catalog) (k : Kind) (n m : ℕ) → n ≡ statement_size (access.statement_of b q cells froms parts k) → m ≡ length ts
    → texts_of (not_other (access.statement_of b q cells froms parts k) >>= λ s'. ok (ts, s')) ≡ texts_by k (access.line_at parts) n m
unfolding access.statement_of texts_of texts_by not_other statement_kind ◌>>=◌ refuse named text_named
texts-of-kind b q cells froms parts ts K.Select n m i j = rw (i, j)
texts-of-kind b q cells froms parts ts K.Create n m i j = rw (i, j)
texts-of-kind b q cells froms parts ts K.Drop n m i j = rw (i, j)
texts-of-kind b q cells froms parts ts K.Delete n m i j = rw (i, j)
texts-of-kind b q cells froms parts ts K.Insert n m i j = rw (i, j)
texts-of-kind b q cells froms parts ts K.Update n m i j = rw (i, j)
texts-of-kind b q cells froms parts ts K.Other n m i j = refl

same_read : (ts : Catalog) (s : Statement) (x : Catalog × Statement) → (not_other s >>= λ s'. ok (ts, s')) ≡ ok x → (ts, s) ≡ x
unfolding not_other ◌>>=◌ refuse
same_read ts (Ast.select q) x e = cc
same_read ts (Ast.create d) x e = cc
same_read ts (Ast.drop d) x e = cc
same_read ts (Ast.delete d) x e = cc
same_read ts (Ast.insert d) x e = cc
same_read ts (Ast.update d) x e = cc
same_read ts (Ast.other l) x e = grind arith

tables-length : (c q : Bytes) (s : List ℕ) (i n : ℕ) → length (tables_at c q s i n) ≡ n
unfolding tables_at
tables-length c q s i zero = refl
tables-length c q s i (suc n) = ap suc (tables-length c q s (suc i) n)

-- the catalog was read, and neither text is too long
pub record CatalogRead (c q : Bytes) (tables : List ℕ) (k : Result (Unit {0}) code.Refusal) : Type 0 where
  pub short : length c ≤ most_bytes
  pub short_statement : length q ≤ most_bytes
  pub is : catalog_of c q tables k ≡ catalog_answer c

-- the statement was read
pub record StatementRead (c q : Bytes) (cells froms parts : List ℕ) (o : Result ℕ code.Refusal) : Type 0 where
  pub is : statement_of c q cells froms parts o ≡ statement_answer q
  pub size : Counts (statement_size (statement_at c q cells froms parts)) o
  pub stays : SelectStays q cells parts o

module _ {c q : Bytes} {tables : List ℕ} {k : Result (Unit {0}) code.Refusal} (g : CatalogRead c q tables k) where
  both : read_texts c q ≡ both_of c q
  unfolding read_texts
  both = rw (read_texts, le-ltb most_bytes (length c) g.short, le-ltb most_bytes (length q) g.short_statement)

  catalog-read : read_catalog c ≡ catalog_of c q tables k
  unfolding catalog_answer
  catalog-read = sym (g.is ∙ rw (catalog_answer, le-ltb most_bytes (length c) g.short))

  module _ {cells froms parts : List ℕ} where
    pub catalog-refused : {w : code.Refusal} → k ≡ Err w → TextsRead c q tables cells froms parts (Err (record { reason = w.reason; text = T.Catalog; line = w.line }))
    unfolding both_of ◌>>=◌ catalog_of text_named
    catalog-refused {w} z = let e = named-reason w.reason in rw e at (refused-read {tables = tables} {cells = cells} {froms = froms} {parts = parts} (told catalog w) (both ∙ rw (both_of, catalog-read, z)))

  module _ (z : k ≡ Ok tt) {cells froms parts : List ℕ} {o : Result ℕ code.Refusal} (h : StatementRead c q cells froms parts o) where
    statement-read : read_statement q ≡ statement_of c q cells froms parts o
    unfolding statement_answer
    statement-read = sym (h.is ∙ rw (statement_answer, le-ltb most_bytes (length q) g.short_statement))

    after : read_texts c q ≡ (statement_of c q cells froms parts o >>= λ s. not_other s >>= λ s'. ok (catalog_at c q tables, s'))
    unfolding both_of ◌>>=◌ catalog_of
    after = both ∙ rw (both_of, catalog-read, z, statement-read)

    pub statement-refused : {w : code.Refusal} → o ≡ Err w → TextsRead c q tables cells froms parts (Err (record { reason = w.reason; text = T.Statement; line = w.line }))
    unfolding ◌>>=◌ statement_of text_named
    statement-refused {w} y = let e = named-reason w.reason in rw e at (refused-read {tables = tables} {cells = cells} {froms = froms} {parts = parts} (told statement w) (after ∙ rw y))

    taken : {n : ℕ} → o ≡ Ok n → read_texts c q ≡ (not_other (statement_at c q cells froms parts) >>= λ s'. ok (catalog_at c q tables, s'))
    unfolding ◌>>=◌ statement_of
    taken y = after ∙ rw y

    counted : {n : ℕ} → o ≡ Ok n → n ≡ statement_size (statement_at c q cells froms parts)
    unfolding Counts
    counted y = rw y at h.size

    staying : {n : ℕ} → o ≡ Ok n → K.Select ≡ access.kind_of (access.kind_number parts) → SectionsStay q cells parts
    unfolding SelectStays
    staying y = rw y at h.stays

    pub texts-read : {n : ℕ} → o ≡ Ok n → {k : Kind} → k ≡ access.kind_of (access.kind_number parts) → TextsRead c q tables cells froms parts (texts_by k (access.line_at parts) n (get_or tables 0 0))
    unfolding catalog_at
    texts-read {n} y {k} e =
        let s : statement_at c q cells froms parts ≡ access.statement_of c q cells froms parts k = access.statement-kind c q cells froms parts k e in
        record {
          is = sym (ap texts_of (taken y) ∙ rw s (texts-of-kind c q cells froms parts (catalog_at c q tables) k n (get_or tables 0 0) (rw s at (counted y)) (sym (tables-length c q tables 0 (get_or tables 0 0)))));
          stands = λ x e. same_read _ _ x (sym (taken y) ∙ e);
          stays = λ x e. staying y;
        }
