-- The line that is printed: what was read, or the refusal as the planning program prints it (docs/PLAN.md).
use Rattle.std.specs.Prelude.{◌≡◌, refl, List, [], ◌∷◌, ◌++◌, length, Result, Ok, Err}
use Rattle.rules.specs.Refusals.{Text, catalog, statement, refusal_number, Refusal, Answer, ok, refused}
use Rattle.rules.specs.Lists.{Bytes}
use Rattle.rules.specs.Lines.{bytes}
use Rattle.rules.specs.Schema.{Catalog}
use Rattle.rules.specs.Ast.{Statement}
use Rattle.rules.specs.Ast as Ast
use Rattle.rules.specs.Sizes.{statement_size}
use Rattle.rules.specs.Print.{decimal_of, tabbed, show_lines, text_name, show_refusal, show_answer}
use Rattle.reader.specs.Reading.{texts_of, statement_kind}
use Rattle.numbers.specs.Texts.{text_of, text_named}
use Rattle.rules.specs.Entry.{text_number}
use Rattle.text.specs.Words.{words_of, push}
use Rattle.listing.specs.Words.{word_of}
use Rattle.listing.specs.Listed.{refusal_line}
use Rattle.numbers.specs.Reasons.{reason_of, reason-named}
use Rattle.statement.specs.declared.access.Kind.{Kind}
use Rattle.statement.specs.declared.access.Kind.TheVariants as K
use Rattle.numbers.specs.declared.refusals.Text as Tx
use Rattle.numbers.specs.declared.refusals.Text.TheVariants as T
use Rattle.reader.specs.declared.Contents.{Contents}
use Rattle.numbers.specs.declared.refusals.TextRefusal.{TextRefusal}

unfoldable pub kind_name : Statement → Bytes
kind_name (Ast.select s) = bytes "select"
kind_name (Ast.create d) = bytes "create"
kind_name (Ast.drop d) = bytes "drop"
kind_name (Ast.delete d) = bytes "delete"
kind_name (Ast.insert d) = bytes "insert"
kind_name (Ast.update d) = bytes "update"
kind_name (Ast.other l) = bytes "other"

-- `read`, the statement's kind, the number of its expression cells and that of the catalog's tables; or the refusal
unfoldable pub printed : Answer (Catalog × Statement) → Bytes
printed (ok x) = tabbed (bytes "read" ∷ kind_name x.1 ∷ decimal_of (statement_size x.1) ∷ decimal_of (length x.0) ∷ []) ++ (10 ∷ [])
printed (refused r) = show_answer (refused r)

-- the words of a kind and of a text
unfoldable pub kind_word : Kind → Bytes
kind_word K.Select = bytes "select"
kind_word K.Create = bytes "create"
kind_word K.Drop = bytes "drop"
kind_word K.Delete = bytes "delete"
kind_word K.Insert = bytes "insert"
kind_word K.Update = bytes "update"
kind_word K.Other = bytes "other"

unfoldable pub text_word : Tx.Text → Bytes
text_word T.Catalog = bytes "catalog"
text_word T.Statement = bytes "statement"

unfoldable pub fields_of : Result Contents TextRefusal → List Bytes
fields_of (Ok t) = bytes "read" ∷ kind_word t.kind ∷ decimal_of t.cells ∷ decimal_of t.tables ∷ []
fields_of (Err w) = bytes "refused" ∷ decimal_of (refusal_number (reason_of w.reason)) ∷ text_word w.text ∷ decimal_of w.line ∷ []

unfoldable pub line_of : Result Contents TextRefusal → Bytes
line_of t = tabbed (fields_of t) ++ (10 ∷ [])

kind-word : (s : Statement) → kind_word (statement_kind s) ≡ kind_name s
unfolding kind_word statement_kind kind_name
kind-word (Ast.select s) = refl
kind-word (Ast.create d) = refl
kind-word (Ast.drop d) = refl
kind-word (Ast.delete d) = refl
kind-word (Ast.insert d) = refl
kind-word (Ast.update d) = refl
kind-word (Ast.other l) = refl

text-word : (t : Text) → text_word (text_named t) ≡ text_name t
unfolding text_word text_named text_name
text-word catalog = refl
text-word statement = refl

-- a refusal is printed as the planning program prints it
text-words : (t : Tx.Text) → word_of (bytes " catalog statement ") (text_number (text_of t)) ≡ text_word t
unfolding text_of text_number text_word bytes words_of push
text-words T.Catalog = refl
text-words T.Statement = refl

pub refused-fields : (w : TextRefusal)
    → refusal_line (refusal_number (reason_of w.reason)) (text_number (text_of w.text)) w.line ≡ fields_of (Err w) ∷ []
unfolding refusal_line fields_of
refused-fields w = rw (text-words w.text) refl

refused-line : (r : Refusal) → line_of (texts_of (refused r)) ≡ printed (refused r)
unfolding line_of fields_of texts_of printed show_answer show_lines show_refusal
refused-line r = rw (text-word r.text, reason-named r.reason)

-- what is answered is printed so
pub line-told : (a : Answer (Catalog × Statement)) → line_of (texts_of a) ≡ printed a
unfolding line_of fields_of texts_of printed
line-told (ok x) = rw (kind-word x.1)
line-told (refused r) = refused-line r
