-- What reading both texts hands on: where they are accepted, the answer, what the slices stand for and all that holds
-- of it; where they are refused, the refusal.
use Rattle.std.specs.Prelude.{ℕ, ◌≤◌, Bool, true, false, List, ltb, Ok, Err}
use Rattle.std.proofs.Common.{◌∙◌, arith, ltb-false}
use Rattle.std.proofs.Math.Path.{◌≡◌, refl, ap}
use Rattle.std.proofs.Math.ListN.{length}
use Rattle.rules.specs.Refusals.{catalog, statement, limit_passed, refusal_number, Refusal, Answer, ok, refused, refuse}
use Rattle.rules.specs.Limits.{most_bytes}
use Rattle.rules.specs.Lists.{Bytes}
use Rattle.rules.specs.Schema.{Catalog}
use Rattle.rules.specs.Ast.{Statement}
use Rattle.rules.specs.Ast as Ast
use Rattle.rules.specs.Sizes.{statement_size}
use Rattle.rules.specs.Entry.{text_number}
use Rattle.rules.specs.ReadCatalog.{read_catalog}
use Rattle.rules.specs.ReadStatement.{read_statement}
use Rattle.claims.specs.Answers.{Ensures, known, ensured}
use Rattle.claims.specs.Within.{TextsWithin, texts-within}
use Rattle.schema.specs.Layout.{catalog_at}
use Rattle.statement.specs.Layout.{statement_at}
use Rattle.statement.specs.Stays.{SectionsStay}
use Rattle.statement.specs.Access as access
use Rattle.statement.specs.declared.access.Kind.TheVariants as K
use Rattle.statement.specs.Kinds.{number_of}
use Rattle.statement.specs.declared.access.Kind.{Kind}
use Rattle.reader.specs.Texts.{kind_of, not_other, both_of, read_texts}
use Rattle.reader.specs.Reading.{texts_of, statement_kind, kind-numbers, TextsRead}
use Rattle.numbers.specs.Texts.{text_of, text_named, text-named}
use Rattle.numbers.specs.Reasons.{named, reason_of, reason-named}
use Rattle.reader.specs.declared.Contents.{Contents}
use Rattle.numbers.specs.declared.refusals.TextRefusal.{TextRefusal}

-- BOTH READ
-- each text is short and read by its own rule
pub record BothRead (c q : Bytes) (ts : Catalog) (s : Statement) : Type 0 where
  pub short_catalog : length c ≤ most_bytes
  pub short_statement : length q ≤ most_bytes
  pub catalog : read_catalog c ≡ ok ts
  pub statement : read_statement q ≡ ok s

not-other : (s : Statement) → Ensures (not_other s) (λ s'. s ≡ s')
unfolding not_other refuse
not-other (Ast.select q) = refl
not-other (Ast.create d) = refl
not-other (Ast.drop d) = refl
not-other (Ast.delete d) = refl
not-other (Ast.insert d) = refl
not-other (Ast.update d) = refl
not-other (Ast.other l) = tt

both_read : (c q : Bytes) → length c ≤ most_bytes → length q ≤ most_bytes
    → Ensures (both_of c q) (λ x. BothRead c q x.0 x.1)
unfolding both_of
both_read c q l m =
    known (read_catalog c) _ _ λ ts e.
    known (read_statement q) _ _ λ s g.
    known (not_other s) _ _ λ s' o.
    let z : s ≡ s' = ensured (not_other s) _ (not-other s) s' o in
    record { short_catalog = l; short_statement = m; catalog = e; statement = rw (← z) g }

texts-both : (c q : Bytes) → Ensures (read_texts c q) (λ x. BothRead c q x.0 x.1)
unfolding read_texts
texts-both c q = go (ltb most_bytes (length c)) (ltb most_bytes (length q)) refl refl
  where
    go : (a b : Bool) → ltb most_bytes (length c) ≡ a → ltb most_bytes (length q) ≡ b
        → Ensures {A = Catalog × Statement} (elim a [
          | true ↦ refused (record { reason = limit_passed; text = catalog; line = 0 })
          | false ↦ elim b [
            | true ↦ refused (record { reason = limit_passed; text = statement; line = 0 })
            | false ↦ both_of c q
          ]
        ]) (λ x. BothRead c q x.0 x.1)
    go true b e g = tt
    go false true e g = tt
    go false false e g = both_read c q (ltb-false _ _ e) (ltb-false _ _ g)

pub texts-read : (c q : Bytes) (x : Catalog × Statement) → read_texts c q ≡ ok x → BothRead c q x.0 x.1
texts-read c q x e = ensured (read_texts c q) _ (texts-both c q) x e

-- all that holds of what was read
pub read-within : (c q : Bytes) (x : Catalog × Statement) → read_texts c q ≡ ok x → TextsWithin c q x.0 x.1
read-within c q x e =
    let b = texts-read c q x e in
    texts-within c q b.short_catalog b.short_statement x.0 x.1 b.catalog b.statement

-- WHAT IS ANSWERED
-- both texts were accepted: the statement's kind k, its n cells and the catalog's m tables
pub record Accepted (c q : Bytes) (tables cells froms parts : List ℕ) (k n m : ℕ) : Type 0 where
  pub read : read_texts c q ≡ ok (catalog_at c q tables, statement_at c q cells froms parts)
  pub within : TextsWithin c q (catalog_at c q tables) (statement_at c q cells froms parts)
  pub kind : k ≡ kind_of (statement_at c q cells froms parts)
  pub size : n ≡ statement_size (statement_at c q cells froms parts)
  pub count : m ≡ length (catalog_at c q tables)

-- one was refused, with document 01's number k, its text t and line l
pub record TextsRefused (c q : Bytes) (k t l : ℕ) : Type 0 where
  pub refusal : Refusal
  pub read : read_texts c q ≡ refused refusal
  pub reason : k ≡ refusal_number refusal.reason
  pub text : t ≡ text_number refusal.text
  pub line : l ≡ refusal.line

module _ {c q : Bytes} {tables cells froms parts : List ℕ} where
  pub texts-accepted : {k : Kind} {n m : ℕ} → TextsRead c q tables cells froms parts (Ok (record { kind = k; cells = n; tables = m }))
      → Accepted c q tables cells froms parts (number_of k) n m
  unfolding texts_of
  texts-accepted {k} {n} {m} h = go (read_texts c q) refl h.is
    where
      go : (a : Answer (Catalog × Statement)) → read_texts c q ≡ a → Ok (record { kind = k; cells = n; tables = m }) ≡ texts_of a
          → Accepted c q tables cells froms parts (number_of k) n m
      go (refused r) e z = absurd (let y : ◌≡◌ {A = ℕ} 0 1 = cc in omega arith)
      go (ok x) e z =
          let p : (catalog_at c q tables, statement_at c q cells froms parts) ≡ x = h.stands x e in
          let f : read_texts c q ≡ ok (catalog_at c q tables, statement_at c q cells froms parts) = rw p e in
          let y : ◌≡◌ {A = Contents} (record { kind = k; cells = n; tables = m }) (record { kind = statement_kind x.1; cells = statement_size x.1; tables = length x.0 }) = cc in
          record {
            read = f;
            within = read-within c q (catalog_at c q tables, statement_at c q cells froms parts) f;
            kind = rw (← p) at (ap (λ (t : Contents). number_of t.kind) y ∙ kind-numbers x.1);
            size = rw (← p) at (ap (λ (t : Contents). t.cells) y);
            count = rw (← p) at (ap (λ (t : Contents). t.tables) y);
          }

  -- what is stored behind the rows of a SELECT changes none of its sections
  pub select-stays : {k : Kind} {n m : ℕ} → TextsRead c q tables cells froms parts (Ok (record { kind = k; cells = n; tables = m }))
      → K.Select ≡ access.kind_of (access.kind_number parts) → SectionsStay q cells parts
  select-stays h e = h.stays _ (texts-accepted h).read e

  pub texts-refused : {w : TextRefusal} → TextsRead c q tables cells froms parts (Err w) → TextsRefused c q (refusal_number (reason_of w.reason)) (text_number (text_of w.text)) w.line
  unfolding texts_of
  texts-refused {w} h = go (read_texts c q) refl h.is
    where
      go : (a : Answer (Catalog × Statement)) → read_texts c q ≡ a → Err w ≡ texts_of a → TextsRefused c q (refusal_number (reason_of w.reason)) (text_number (text_of w.text)) w.line
      go (ok x) e z = absurd (let y : ◌≡◌ {A = ℕ} 0 1 = cc in omega arith)
      go (refused r) e z =
          let y : w ≡ record { reason = named r.reason; text = text_named r.text; line = r.line } = cc in
          rw y (record {
            refusal = r;
            read = e;
            reason = rw (reason-named r.reason);
            text = rw (text-named r.text);
            line = refl;
          })
