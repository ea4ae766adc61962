-- What stands behind a statement's first record, read into the slices.
use Rattle.std.specs.Prelude.{ℕ, ◌≤◌, ◌≡◌, Bool, List, get_or, Result, Ok, Err}
use Rattle.std.proofs.Common.{arith, ap, ◌∙◌}
use Rattle.std.proofs.Math.Path.{refl}
use Rattle.rules.specs.Refusals.{statement, Refusal, ok, refused}
use Rattle.rules.specs.Lists.{Bytes}
use Rattle.rules.specs.Lines.{Word}
use Rattle.rules.specs.Ast.{Statement}
use Rattle.rules.specs.Ast as Ast
use Rattle.rules.specs.Reader.{Place, Read, give, ◌>>=◌}
use Rattle.rules.specs.ReadStatement.{StatementHead, select_head, other_head, delete_head, insert_head, update_head, create_head, drop_head}
use Rattle.ast.specs.Table.{statement_rows}
use Rattle.text.specs.Answers.{bind_ok, bind-no, bind-answer}
use Rattle.numbers.specs.Kept.{Kept, kept-all}
use Rattle.read_expression.specs.Reading.{here, Position, Given}
use Rattle.entries.specs.Entries.{Entry, most_of, section, some_section}
use Rattle.sections.specs.Layout.{start_of, section_at}
use Rattle.from.specs.Layout.{froms_at}
use Rattle.statement.specs.Layout.{select_of, insert_of, update_of, delete_of, create_of}
use Rattle.sections.specs.Terms.{end_of, SectionRead}
use Rattle.statement.specs.Bodies.{update_sections, delete_sections, create_sections, sections_of}
use Rattle.statement.specs.Stays.{stays-begin, stays_on, stays-end, SectionsStay}
use Rattle.read_expression.specs.Given.{given-done, given-refused}
use Rattle.numbers.specs.declared.refusals.Refusal as code
use Rattle.numbers.specs.Reasons.{told}
use Rattle.read_expression.specs.declared.reading.Cursor.{Cursor}

-- where the second line of a text starts, before any expression
pub record SecondLine (t : Bytes) (at : Cursor) : Type 0 where
  pub position : Position t at.position 2 0
  pub line : at.line ≡ 2
  pub rows : at.rows ≡ 0

-- the statement of a first record on line l, whose sections stand in the slices
module _ (b t : Bytes) (cells froms parts : List ℕ) where
  abbrev entries_of : ℕ → List Entry
  entries_of k = section_at b t cells parts k

  unfoldable pub body_at : StatementHead → ℕ → Statement
  body_at select_head l = Ast.select (select_of (entries_of 0) (froms_at b t cells froms (get_or parts 2367 0)) (entries_of 1) (entries_of 2) (entries_of 3) (entries_of 4) (entries_of 5) (entries_of 6))
  body_at (create_head n) l = Ast.create (create_of l n (entries_of 11))
  body_at (drop_head n y) l = Ast.drop (record { name = n; if_exists = y })
  body_at (delete_head n) l = Ast.delete (delete_of l n (entries_of 1))
  body_at (insert_head n) l = Ast.insert (insert_of l n (entries_of 7) (entries_of 8) (entries_of 9))
  body_at (update_head n) l = Ast.update (update_of l n (entries_of 10) (entries_of 1))
  body_at other_head l = Ast.other l

-- A reading m from line 2 on that came to its end: the statement, which stands in the slices, and where the rest stands. The first
-- eight parts are as they were, and what is stored behind the statement's rows changes no section of a SELECT.
pub record BodyTook (m : Read Statement) (t : Bytes) (h : StatementHead) (p : ℕ) (cells' froms' parts parts' : List ℕ) (p' l' c' : ℕ) : Type 0 where
  pub value : Statement
  pub tables : ℕ
  pub is : m (here t p 2 0 0) ≡ ok (value, here t p' l' c' tables)
  pub position : Position t p' l' c'
  pub stand : (b : Bytes) → body_at b t cells' froms' parts' h 1 ≡ value
  pub kept : Kept 0 8 parts parts'
  pub sections : h ≡ select_head → SectionsStay t cells' parts'

-- what an answer says of such a reading
unfoldable pub BodyBy : (m : Read Statement) (t : Bytes) (h : StatementHead) (p : ℕ) (cells' froms' parts parts' : List ℕ) → Result Cursor code.Refusal → Type 0
BodyBy m t h p cells' froms' parts parts' (Ok q) = BodyTook m t h p cells' froms' parts parts' q.position q.line q.rows
BodyBy m t h p cells' froms' parts parts' (Err w) = m (here t p 2 0 0) ≡ refused (told statement w)

-- and of the sections
abbrev pub BodyRead : (t : Bytes) (h : StatementHead) (p : ℕ) (cells' froms' parts parts' : List ℕ) → Result Cursor code.Refusal → Type 0
BodyRead t h p cells' froms' parts parts' r = BodyBy (sections_of h 1) t h p cells' froms' parts parts' r

-- ONE STEP AFTER ANOTHER
-- m is the first to be read
module _ {A B C : Type 0} (m : Read A) (f : A → Read B) (g : B → Read C) (p : Place) where
  pub inner-ok : (v : A) (q : Place) → m p ≡ ok (v, q) → ((m >>= f) >>= g) p ≡ (f v >>= g) q
  inner-ok v q e = bind-answer (m >>= f) (f v) g p q (bind_ok m f p v q e)

  pub inner-no : (r : Refusal) → m p ≡ refused r → ((m >>= f) >>= g) p ≡ refused r
  inner-no r e = bind-no (m >>= f) g p r (bind-no m f p r e)

-- m is the last to be read: the statement is made of it
module _ (t : Bytes) (h : StatementHead) (p : ℕ) (cells' froms' parts parts' : List ℕ) {A B : Type 0} (m : Read A) (H : ℕ → A → Type 0) (a : A → B) (e : B → Statement) (q l c k : ℕ)
    (come : sections_of h 1 (here t p 2 0 0) ≡ ((m >>= λ v. give (a v)) >>= λ d. give (e d)) (here t q l c k))
    (stands : (c' : ℕ) (v : A) → c ≤ c' → H c' v → ((b : Bytes) → body_at b t cells' froms' parts' h 1 ≡ e (a v)) × Kept 0 8 parts parts')
    (stay : (c' : ℕ) (v : A) → c ≤ c' → c' ≤ statement_rows → H c' v → h ≡ select_head → SectionsStay t cells' parts') where
  last_ok : (v : A) (z : Place) → m (here t q l c k) ≡ ok (v, z) → sections_of h 1 (here t p 2 0 0) ≡ ok (e (a v), z)
  unfolding give
  last_ok v z x = come ∙ inner-ok m (λ v. give (a v)) (λ d. give (e d)) _ v z x ∙ bind_ok (give (a v)) (λ d. give (e d)) z (a v) z refl

  pub body-last : (r : Result Cursor code.Refusal) → Given m H t q l c k r → BodyRead t h p cells' froms' parts parts' r
  unfolding Given BodyBy
  body-last (Err w) g = come ∙ inner-no m (λ v. give (a v)) (λ d. give (e d)) _ _ g
  body-last (Ok z) g = record {
    value = e (a g.value);
    tables = k;
    is = last_ok g.value _ g.is;
    position = g.position;
    stand = (stands z.rows g.value g.more g.holds).0;
    kept = (stands z.rows g.value g.more g.holds).1;
    sections = stay z.rows g.value g.more g.position.rows g.holds;
  }

-- STATEMENTS OF ONE SECTION
delete-is : (n : Word) (p : Place) → sections_of (delete_head n) 1 p ≡ ((section 1 >>= λ w. give (delete_of 1 n w)) >>= λ d. give (Ast.delete d)) p
unfolding sections_of delete_sections
delete-is n p = refl

create-is : (n : Word) (p : Place) → sections_of (create_head n) 1 p ≡ ((section 11 >>= λ cs. give (create_of 1 n cs)) >>= λ d. give (Ast.create d)) p
unfolding sections_of create_sections
create-is n p = refl

module _ (t : Bytes) (p : ℕ) (cells cells' froms parts parts' : List ℕ) (r : Result Cursor code.Refusal) where
  one-read : {B : Type 0} (h : StatementHead) (kind : ℕ) (a : List Entry → B) (e : B → Statement) → sections_of h 1 (here t p 2 0 0) ≡ ((section kind >>= λ xs. give (a xs)) >>= λ d. give (e d)) (here t p 2 0 0)
      → ((b : Bytes) → body_at b t cells' froms parts' h 1 ≡ e (a (section_at b t cells' parts' kind))) → 8 ≤ start_of kind → (h ≡ select_head → SectionsStay t cells' parts') → Given (section kind) (SectionRead t kind 0 cells cells' parts parts') t p 2 0 0 r
      → BodyRead t h p cells' froms parts parts' r
  one-read h kind a e come stands o other g = body-last t h p cells' froms parts parts' (section kind) (SectionRead t kind 0 cells cells' parts parts') a e p 2 0 0 come (λ c' xs l s.
      let y = stays-end (stays_on (stays-begin 8 cells parts) s l o) in
      (λ b. stands b ∙ ap (λ v. e (a v)) (y.1 b), y.0)) (λ c' v l m s. other) r g

  pub delete-read : Given (section 1) (SectionRead t 1 0 cells cells' parts parts') t p 2 0 0 r → (n : Word) → BodyRead t (delete_head n) p cells' froms parts parts' r
  delete-read g n = one-read (delete_head n) 1 (delete_of 1 n) Ast.delete (delete-is n _) (λ b. unfold body_at in refl) (unfold start_of in omega arith) (λ e. record { same = λ x k b kind l. cc }) g

  pub create-read : Given (section 11) (SectionRead t 11 0 cells cells' parts parts') t p 2 0 0 r → (n : Word) → BodyRead t (create_head n) p cells' froms parts parts' r
  create-read g n = one-read (create_head n) 11 (create_of 1 n) Ast.create (create-is n _) (λ b. unfold body_at in refl) (unfold start_of in omega arith) (λ e. record { same = λ x k b kind l. cc }) g

-- UPDATE
update-is : (n : Word) (p : Place) → sections_of (update_head n) 1 p ≡ ((some_section 10 >>= λ xs. section 1 >>= λ w. give (update_of 1 n xs w)) >>= λ d. give (Ast.update d)) p
unfolding sections_of update_sections
update-is n p = refl

module _ (t : Bytes) (n : Word) (p : ℕ) (cells cells' froms parts parts' : List ℕ) where
  pub update-refused : (w : code.Refusal) → Given (some_section 10) (SectionRead t 10 0 cells cells' parts parts') t p 2 0 0 (Err w) → BodyRead t (update_head n) p cells' froms parts parts' (Err w)
  unfolding BodyBy
  update-refused w s = update-is n _ ∙ inner-no (some_section 10) _ _ _ _ (given-refused _ _ _ _ _ _ _ w s)

  pub update-read : (cells'' parts'' : List ℕ) (q : Cursor) (r' : Result Cursor code.Refusal) → Given (some_section 10) (SectionRead t 10 0 cells cells' parts parts') t p 2 0 0 (Ok q)
      → Given (section 1) (SectionRead t 1 q.rows cells' cells'' parts' parts'') t q.position q.line q.rows 0 r'
      → BodyRead t (update_head n) p cells'' froms parts parts'' r'
  update-read cells'' parts'' q r' s g =
      let x = given-done _ _ _ _ _ _ _ _ s in
      let u = stays_on (stays-begin 8 cells parts) x.holds x.more (unfold start_of in omega arith) in
      body-last t (update_head n) p cells'' froms parts parts'' (section 1) (SectionRead t 1 q.rows cells' cells'' parts' parts'') (update_of 1 n x.value) Ast.update q.position q.line q.rows 0 (update-is n _ ∙ inner-ok (some_section 10) _ _ _ _ _ x.is) (λ c'' w l v.
      let y = stays-end (stays_on u v l (unfold start_of end_of most_of in omega arith)) in
      (λ b. unfold body_at in rw (y.0.1 b, y.1 b), y.0.0)) (λ c'' w l m v e. record { same = λ x k b kind o. cc }) r' g

-- STATEMENTS OF NO SECTION
other-is : (p : Place) → sections_of other_head 1 p ≡ ok (Ast.other 1, p)
unfolding sections_of give
other-is p = refl

drop-is : (n : Word) (y : Bool) (p : Place) → sections_of (drop_head n y) 1 p ≡ ok (Ast.drop (record { name = n; if_exists = y }), p)
unfolding sections_of give
drop-is n y p = refl

module _ (t : Bytes) (p : ℕ) (cells froms parts : List ℕ) (h : Position t p 2 0) where
  pub other-read : BodyRead t other_head p cells froms parts parts (Ok (record { position = p; line = 2; rows = 0 }))
  unfolding BodyBy body_at
  other-read = record { value = _; tables = 0; is = other-is _; position = h; stand = λ b. refl; kept = kept-all 0 _ _; sections = λ e. record { same = λ x k b kind l. cc } }

  pub drop-read : (n : Word) (y : Bool) → BodyRead t (drop_head n y) p cells froms parts parts (Ok (record { position = p; line = 2; rows = 0 }))
  unfolding BodyBy body_at
  drop-read n y = record { value = _; tables = 0; is = drop-is n y _; position = h; stand = λ b. refl; kept = kept-all 0 _ _; sections = λ e. record { same = λ x k b kind l. cc } }
