-- INSERT: the names behind a `columns`, and the rows.
use Rattle.std.specs.Prelude.{ℕ, ◌*◌, ◌≤◌, refl, List, [], ◌∷◌, Result, Ok, Err, length}
use Rattle.std.proofs.Common.{arith, ◌∙◌}
use Rattle.std.proofs.Math.Path.{◌≡◌, ap}
use Rattle.rules.specs.Lists.{Bytes}
use Rattle.rules.specs.Lines.{Word}
use Rattle.rules.specs.Ast as Ast
use Rattle.rules.specs.Reader.{Place, give, ◌>>=◌}
use Rattle.rules.specs.ReadStatement.{insert_head}
use Rattle.numbers.specs.Kept.{Kept, kept-all, kept-first}
use Rattle.ast.specs.Table.{row_size}
use Rattle.read_expression.specs.Reading.{here, Position, Took, Given}
use Rattle.entries.specs.Entries.{Entry, most_of, section, some_section}
use Rattle.sections.specs.Layout.{start_of, section_at}
use Rattle.statement.specs.Layout.{to_names, insert_of}
use Rattle.sections.specs.Terms.{end_of, SectionRead}
use Rattle.statement.specs.Bodies.{names_behind, insert_sections, sections_of}
use Rattle.statement.specs.Stays.{Stays, stays-begin, stays_on, stays-more, stays-end}
use Rattle.statement.specs.Answers.{given-map}
use Rattle.read_expression.specs.Given.{given-done, given-refused}
use Rattle.statement.specs.BodyReads.{body_at, BodyBy, BodyRead, inner-ok, inner-no, body-last}
use Rattle.numbers.specs.declared.refusals.Refusal as code
use Rattle.read_expression.specs.declared.reading.Cursor.{Cursor}

-- names that were read behind the entries cs of `columns`, from row c on to row c'; where there is no `columns`, none
pub record NamesRead (t : Bytes) (cs : List Entry) (c : ℕ) (cells cells' parts parts' : List ℕ) (c' : ℕ) (ns : List Entry) : Type 0 where
  pub is : (x y : List ℕ) → Kept 0 (row_size * c') cells' x → Kept 0 790 parts' y → (b : Bytes)
      → to_names cs (section_at b t x y 8) ≡ to_names cs ns
  pub cells-kept : Kept 0 (row_size * c) cells cells'
  pub parts-kept : Kept 0 21 parts parts'

module _ (t : Bytes) (cs : List Entry) (p l c k : ℕ) (cells parts : List ℕ) where
  pub names-none : Position t p l c → length cs ≡ 0 → Given (names_behind cs) (NamesRead t cs c cells cells parts parts) t p l c k (Ok (record { position = p; line = l; rows = c }))
  names-none h e = go cs e
    where
      go : (cs : List Entry) → length cs ≡ 0 → Given (names_behind cs) (NamesRead t cs c cells cells parts parts) t p l c k (Ok (record { position = p; line = l; rows = c }))
      go [] z = unfold Given names_behind give in record {
        value = [];
        is = refl;
        position = h;
        moved = omega arith;
        more = omega arith;
        holds = record { is = λ x y f g b. unfold to_names in refl; cells-kept = kept-all 0 _ _; parts-kept = kept-all 0 _ _ };
      }
      go (c ∷ cs) z = absurd (omega arith)

  pub names-some : (length cs ≡ 0 → ⊥) → (cells' parts' : List ℕ) (r : Result Cursor code.Refusal) → Given (section 8) (SectionRead t 8 c cells cells' parts parts') t p l c k r
      → Given (names_behind cs) (NamesRead t cs c cells cells' parts parts') t p l c k r
  names-some n cells' parts' r g = go cs n
    where
      go : (cs : List Entry) → (length cs ≡ 0 → ⊥) → Given (names_behind cs) (NamesRead t cs c cells cells' parts parts') t p l c k r
      go [] z = absurd (z refl)
      go (e ∷ es) z = unfold names_behind in given-map (section 8) (SectionRead t 8 c cells cells' parts parts') (NamesRead t (e ∷ es) c cells cells' parts parts') t p l c k r (λ c' ns s. record {
        is = λ x y f h b. ap (to_names (e ∷ es)) (s.is x y f (unfold end_of start_of most_of in h) b);
        cells-kept = s.cells-kept;
        parts-kept = unfold start_of in s.parts-kept;
      }) g

insert-is : (n : Word) (p : Place) → sections_of (insert_head n) 1 p ≡ ((section 7 >>= λ cs. names_behind cs >>= λ ns. some_section 9 >>= λ rs. give (insert_of 1 n cs ns rs)) >>= λ d. give (Ast.insert d)) p
unfolding sections_of insert_sections
insert-is n p = refl

stays-names : {c m : ℕ} {cells parts : List ℕ} {P : List ℕ → List ℕ → Type 0} → Stays c m cells parts P
    → {t : Bytes} {cs : List Entry} {c' : ℕ} {cells' parts' : List ℕ} {ns : List Entry} → NamesRead t cs c cells cells' parts parts' c' ns → c ≤ c' → m ≤ 21
    → Stays c' 790 cells' parts' λ x y. P x y × ((b : Bytes) → to_names cs (section_at b t x y 8) ≡ to_names cs ns)
stays-names {m = m} h r l e =
    let o : m ≤ 790 = omega arith in
    let s = stays-more h r.cells-kept (kept-first _ r.parts-kept e) l o in
    record { holds = λ x y f g. (s.holds x y f g, r.is x y f g) }

module _ (t : Bytes) (n : Word) (p : ℕ) (cells cells₁ froms parts parts₁ : List ℕ) where
  pub insert-refused : (w : code.Refusal) → Given (section 7) (SectionRead t 7 0 cells cells₁ parts parts₁) t p 2 0 0 (Err w) → BodyRead t (insert_head n) p cells₁ froms parts parts₁ (Err w)
  unfolding BodyBy
  insert-refused w s = insert-is n _ ∙ inner-no (section 7) _ _ _ _ (given-refused _ _ _ _ _ _ _ w s)

  module _ (q₁ : Cursor) (s : Given (section 7) (SectionRead t 7 0 cells cells₁ parts parts₁) t p 2 0 0 (Ok q₁)) (cells₂ parts₂ : List ℕ) where
    first : Took (section 7) (SectionRead t 7 0 cells cells₁ parts parts₁ q₁.rows) t p 2 0 0 q₁.position q₁.line q₁.rows
    first = given-done _ _ _ _ _ _ _ _ s

    -- the names' answer
    abbrev Names : Result Cursor code.Refusal → Type 0
    Names r = (cs : List Entry) (k : ℕ) → ((b : Bytes) → section_at b t cells₁ parts₁ 7 ≡ cs) → Given (names_behind cs) (NamesRead t cs q₁.rows cells₁ cells₂ parts₁ parts₂) t q₁.position q₁.line q₁.rows k r

    names : (r : Result Cursor code.Refusal) → Names r → Given (names_behind first.value) (NamesRead t first.value q₁.rows cells₁ cells₂ parts₁ parts₂) t q₁.position q₁.line q₁.rows 0 r
    names r g = g first.value 0 (first.holds.is cells₁ parts₁ (kept-all 0 _ _) (kept-all 0 _ _))

    come : sections_of (insert_head n) 1 (here t p 2 0 0) ≡ ((names_behind first.value >>= λ ns. some_section 9 >>= λ rs. give (insert_of 1 n first.value ns rs)) >>= λ d. give (Ast.insert d)) (here t q₁.position q₁.line q₁.rows 0)
    come = insert-is n _ ∙ inner-ok (section 7) _ _ _ _ _ first.is

    pub insert-names-refused : (w : code.Refusal) → Names (Err w) → BodyRead t (insert_head n) p cells₂ froms parts parts₂ (Err w)
    unfolding BodyBy
    insert-names-refused w g = come ∙ inner-no (names_behind first.value) _ _ _ _ (given-refused _ _ _ _ _ _ _ w (names (Err w) g))

    module _ (q₂ : Cursor) (g : Names (Ok q₂)) where
      pub names-position : Position t q₂.position q₂.line q₂.rows
      names-position = (given-done _ _ _ _ _ _ _ _ (names (Ok q₂) g)).position

      pub insert-read : (cells₃ parts₃ : List ℕ) (r₂ : Result Cursor code.Refusal) → Given (some_section 9) (SectionRead t 9 q₂.rows cells₂ cells₃ parts₂ parts₃) t q₂.position q₂.line q₂.rows 0 r₂
          → BodyRead t (insert_head n) p cells₃ froms parts parts₃ r₂
      insert-read cells₃ parts₃ r₂ h =
          let x = given-done _ _ _ _ _ _ _ _ (names (Ok q₂) g) in
          let u = stays_on (stays-begin 8 cells parts) first.holds first.more (unfold start_of in omega arith) in
          let v = stays-names u x.holds x.more (unfold start_of end_of most_of in omega arith) in
          body-last t (insert_head n) p cells₃ froms parts parts₃ (some_section 9) (SectionRead t 9 q₂.rows cells₂ cells₃ parts₂ parts₃) (insert_of 1 n first.value x.value) Ast.insert q₂.position q₂.line q₂.rows 0
          (come ∙ inner-ok (names_behind first.value) _ _ _ _ _ x.is) (λ c₃ rs l w.
          let y = stays-end (stays_on v w l (unfold start_of in omega arith)) in
          (λ b. unfold body_at insert_of in rw (y.0.0.1 b, y.0.1 b, y.1 b), y.0.0.0)) (λ c₃ rs l m w e. record { same = λ x k b kind o. cc }) r₂ h
