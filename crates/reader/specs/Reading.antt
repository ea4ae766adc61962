-- What reading both texts answers, and what the slices then stand for.
use Rattle.std.specs.Prelude.{ℕ, ◌≡◌, refl, List, length, Result, Ok, Err}
use Rattle.rules.specs.Refusals.{Answer, ok, refused}
use Rattle.rules.specs.Lists.{Bytes}
use Rattle.rules.specs.Schema.{Catalog}
use Rattle.rules.specs.Ast.{Statement}
use Rattle.rules.specs.Ast as Ast
use Rattle.rules.specs.Sizes.{statement_size}
use Rattle.schema.specs.Layout.{catalog_at}
use Rattle.statement.specs.Layout.{statement_at}
use Rattle.statement.specs.Access as access
use Rattle.statement.specs.Stays.{SectionsStay}
use Rattle.statement.specs.Kinds.{number_of}
use Rattle.statement.specs.declared.access.Kind.{Kind}
use Rattle.statement.specs.declared.access.Kind.TheVariants as K
use Rattle.reader.specs.Texts.{kind_of, read_texts}
use Rattle.numbers.specs.declared.refusals.Reason.TheVariants.{OtherStatement}
use Rattle.numbers.specs.Reasons.{named}
use Rattle.numbers.specs.Texts.{text_named}
use Rattle.numbers.specs.declared.refusals.Text.TheVariants as T
use Rattle.reader.specs.declared.Contents.{Contents}
use Rattle.numbers.specs.declared.refusals.TextRefusal.{TextRefusal}

-- the kind of a statement
unfoldable pub statement_kind : Statement → Kind
statement_kind (Ast.select s) = K.Select
statement_kind (Ast.create d) = K.Create
statement_kind (Ast.drop d) = K.Drop
statement_kind (Ast.delete d) = K.Delete
statement_kind (Ast.insert d) = K.Insert
statement_kind (Ast.update d) = K.Update
statement_kind (Ast.other l) = K.Other

pub kind-numbers : (s : Statement) → number_of (statement_kind s) ≡ kind_of s
unfolding statement_kind kind_of
kind-numbers (Ast.select s) = refl
kind-numbers (Ast.create d) = refl
kind-numbers (Ast.drop d) = refl
kind-numbers (Ast.delete d) = refl
kind-numbers (Ast.insert d) = refl
kind-numbers (Ast.update d) = refl
kind-numbers (Ast.other l) = refl

-- an answer as the code has it: the kind and two numbers of what was read, or the refusal
unfoldable pub texts_of : Answer (Catalog × Statement) → Result Contents TextRefusal
texts_of (ok x) = Ok (record { kind = statement_kind x.1; cells = statement_size x.1; tables = length x.0 })
texts_of (refused r) = Err (record { reason = named r.reason; text = text_named r.text; line = r.line })

-- a statement of kind k at line l, with n cells, and m tables: refused where it is none that can be planned
unfoldable pub texts_by : Kind → ℕ → ℕ → ℕ → Result Contents TextRefusal
texts_by K.Other l n m = Err (record { reason = OtherStatement; text = T.Statement; line = l })
texts_by K.Select l n m = Ok (record { kind = K.Select; cells = n; tables = m })
texts_by K.Create l n m = Ok (record { kind = K.Create; cells = n; tables = m })
texts_by K.Drop l n m = Ok (record { kind = K.Drop; cells = n; tables = m })
texts_by K.Delete l n m = Ok (record { kind = K.Delete; cells = n; tables = m })
texts_by K.Insert l n m = Ok (record { kind = K.Insert; cells = n; tables = m })
texts_by K.Update l n m = Ok (record { kind = K.Update; cells = n; tables = m })

-- what is answered for the catalog c and the statement q, and that the slices stand for both where they are accepted; what is
-- stored behind the rows of a SELECT then changes none of its sections
pub record TextsRead (c q : Bytes) (tables cells froms parts : List ℕ) (r : Result Contents TextRefusal) : Type 0 where
  pub is : r ≡ texts_of (read_texts c q)
  pub stands : (x : Catalog × Statement) → read_texts c q ≡ ok x → (catalog_at c q tables, statement_at c q cells froms parts) ≡ x
  pub stays : (x : Catalog × Statement) → read_texts c q ≡ ok x → K.Select ≡ access.kind_of (access.kind_number parts) → SectionsStay q cells parts
