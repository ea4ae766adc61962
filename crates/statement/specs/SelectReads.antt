-- SELECT: the items, FROM, and the clauses.
use Rattle.std.specs.Prelude.{ℕ, zero, suc, ◌*◌, ◌≤◌, ◌≡◌, refl, List, [], length, get_or, set, Result, Ok, Err}
use Rattle.std.proofs.Common.{arith, ◌∙◌, get_or-set_same}
use Rattle.std.proofs.Math.Path.{sym}
use Rattle.rules.specs.Lists.{Bytes}
use Rattle.rules.specs.Ast.{Select, From}
use Rattle.rules.specs.Ast as Ast
use Rattle.rules.specs.Reader.{Place, give, ◌>>=◌, turns}
use Rattle.rules.specs.ReadStatement.{froms, select_head}
use Rattle.numbers.specs.Kept.{Kept, kept-all, kept-first}
use Rattle.ast.specs.Table.{row_size}
use Rattle.read_expression.specs.Reading.{here, Took, Given}
use Rattle.entries.specs.Entries.{Entry, most_of, some_section}
use Rattle.sections.specs.Layout.{start_of, section_at}
use Rattle.sections.specs.Access.{limit_kind}
use Rattle.from.specs.Layout.{froms_at}
use Rattle.text.specs.Answers.{bind-answer}
use Rattle.statement.specs.Layout.{select_of}
use Rattle.sections.specs.Terms.{end_of, SectionRead}
use Rattle.from.specs.Terms.{FromsTook, FromsRead}
use Rattle.statement.specs.Bodies.{select_sections, sections_of}
use Rattle.statement.specs.Stays.{Stays, stays-begin, stays_on, stays-more, stays-set}
use Rattle.read_expression.specs.Given.{given-done, given-refused}
use Rattle.statement.specs.Clauses.{run, run_on, run_on_lem, run_at, run-same, edge, RunRead, stays-run}
use Rattle.statement.specs.BodyReads.{body_at, BodyBy, BodyRead, inner-ok, inner-no, body-last}
use Rattle.numbers.specs.declared.refusals.Refusal as code
use Rattle.read_expression.specs.declared.reading.Cursor.{Cursor}
use Rattle.from.specs.declared.Froms.{Froms}

-- a SELECT of its items, its FROM and the sections from `where` on
unfoldable select_by : List Entry → List From → List (List Entry) → Select
select_by is' fs xss = select_of is' fs (get_or xss 0 []) (get_or xss 1 []) (get_or xss 2 []) (get_or xss 3 []) (get_or xss 4 []) (get_or xss 5 [])

select-is : (p : Place) → sections_of select_head 1 p ≡ ((some_section 0 >>= λ is'. turns froms >>= λ fs. run_on 1 6 λ xss. give (select_by is' fs xss)) >>= λ d. give (Ast.select d)) p
unfolding sections_of select_sections run_on select_by
select-is p = refl

by-run : (b t : Bytes) (x y : List ℕ) (is' : List Entry) (fs : List From)
    → select_of is' fs (section_at b t x y 1) (section_at b t x y 2) (section_at b t x y 3) (section_at b t x y 4) (section_at b t x y 5) (section_at b t x y 6) ≡ select_by is' fs (run_at b t x y 1 6)
unfolding select_by run_at
by-run b t x y is' fs = refl

-- the items and the run are the same, so each section is
sections-same : (b t : Bytes) (x cells parts : List ℕ) → section_at b t x parts 0 ≡ section_at b t cells parts 0
    → run_at b t x parts 1 6 ≡ run_at b t cells parts 1 6 → (kind : ℕ) → kind ≤ limit_kind
    → section_at b t x parts kind ≡ section_at b t cells parts kind
sections-same b t x cells parts e f zero l = e
sections-same b t x cells parts e f (suc k) l = run-same b t x cells parts 1 6 f (suc k) (omega arith) (omega arith)

stays-froms : {c m : ℕ} {cells parts : List ℕ} {P : List ℕ → List ℕ → Type 0} → Stays c m cells parts P
    → {t : Bytes} {p l p' l' c' k n : ℕ} {cells' rows' : List ℕ} (f : FromsTook t p l c cells cells' rows' p' l' c' k n)
    → Stays c' m cells' parts λ x y. P x y × ((b : Bytes) → froms_at b t x rows' n ≡ f.value)
stays-froms {m = m} h f =
    let o : m ≤ m = omega arith in
    let s = stays-more h f.cells-kept (kept-all 0 _ _) f.more o in
    record { holds = λ x y u v. (s.holds x y u v, f.stand x u) }

module _ (t : Bytes) (p : ℕ) (cells cells₁ parts parts₁ : List ℕ) where
  pub select-refused : (rows : List ℕ) (w : code.Refusal) → Given (some_section 0) (SectionRead t 0 0 cells cells₁ parts parts₁) t p 2 0 0 (Err w) → BodyRead t select_head p cells₁ rows parts parts₁ (Err w)
  unfolding BodyBy
  select-refused rows w s = select-is _ ∙ inner-no (some_section 0) _ _ _ _ (given-refused _ _ _ _ _ _ _ w s)

  module _ (q₁ : Cursor) (s : Given (some_section 0) (SectionRead t 0 0 cells cells₁ parts parts₁) t p 2 0 0 (Ok q₁)) (cells₂ rows' : List ℕ) where
    items : Took (some_section 0) (SectionRead t 0 0 cells cells₁ parts parts₁ q₁.rows) t p 2 0 0 q₁.position q₁.line q₁.rows
    items = given-done _ _ _ _ _ _ _ _ s

    come : sections_of select_head 1 (here t p 2 0 0) ≡ ((turns froms >>= λ fs. run_on 1 6 λ xss. give (select_by items.value fs xss)) >>= λ d. give (Ast.select d)) (here t q₁.position q₁.line q₁.rows 0)
    come = select-is _ ∙ inner-ok (some_section 0) _ _ _ _ _ items.is

    pub select-from-refused : (w : code.Refusal) → FromsRead t q₁.position q₁.line q₁.rows cells₁ cells₂ rows' (Err w) → BodyRead t select_head p cells₂ rows' parts parts₁ (Err w)
    unfolding BodyBy FromsRead
    select-from-refused w f = come ∙ inner-no (turns froms) _ _ _ _ f

    module _ (fs : Froms) (f : FromsRead t q₁.position q₁.line q₁.rows cells₁ cells₂ rows' (Ok fs)) where
      pub from-took : FromsTook t q₁.position q₁.line q₁.rows cells₁ cells₂ rows' fs.at.position fs.at.line fs.at.rows fs.tables fs.rows
      unfolding FromsRead
      from-took = f

      come-clauses : sections_of select_head 1 (here t p 2 0 0) ≡ ((run 1 6 >>= λ xss. give (select_by items.value from-took.value xss)) >>= λ d. give (Ast.select d)) (here t fs.at.position fs.at.line fs.at.rows fs.tables)
      come-clauses = come ∙ inner-ok (turns froms) _ _ _ _ _ from-took.is ∙ bind-answer _ _ _ _ _ (run_on_lem 1 6 _ _)

      -- all that was read, whatever stands behind its rows
      stands : (cells₃ parts₃ : List ℕ) (c₃ : ℕ) (xss : List (List Entry)) → fs.at.rows ≤ c₃ → RunRead t 1 6 fs.at.rows cells₂ cells₃ parts₁ parts₃ c₃ xss
          → (x : List ℕ) → Kept 0 (row_size * c₃) cells₃ x
          → ((Kept 0 8 parts (set parts₃ 2367 fs.rows) × ((b : Bytes) → section_at b t x (set parts₃ 2367 fs.rows) 0 ≡ items.value)) × ((b : Bytes) → froms_at b t x rows' fs.rows ≡ from-took.value)) × ((b : Bytes) → run_at b t x (set parts₃ 2367 fs.rows) 1 6 ≡ xss)
      stands cells₃ parts₃ c₃ xss l h x k =
          let u = stays_on (stays-begin 8 cells parts) items.holds items.more (unfold start_of in omega arith) in
          let v = stays-froms u from-took in
          stays-set (stays-run v h l (unfold edge end_of start_of most_of in omega arith) (unfold end_of start_of most_of in omega arith)) x k 2367 fs.rows (omega arith)

      pub select_read : (cells₃ parts₃ : List ℕ) (r₂ : Result Cursor code.Refusal) → ((k : ℕ) → Given (run 1 6) (RunRead t 1 6 fs.at.rows cells₂ cells₃ parts₁ parts₃) t fs.at.position fs.at.line fs.at.rows k r₂) → length parts₃ ≡ 3863
          → BodyRead t select_head p cells₃ rows' parts (set parts₃ 2367 fs.rows) r₂
      select_read cells₃ parts₃ r₂ g w =
          body-last t select_head p cells₃ rows' parts (set parts₃ 2367 fs.rows) (run 1 6) (RunRead t 1 6 fs.at.rows cells₂ cells₃ parts₁ parts₃) (select_by items.value from-took.value) Ast.select fs.at.position fs.at.line fs.at.rows fs.tables
          come-clauses (λ c₃ xss l h.
          let y = stands cells₃ parts₃ c₃ xss l h cells₃ (kept-all 0 _ _) in
          (λ b. unfold body_at in rw (get_or-set_same parts₃ 2367 fs.rows 0 (omega arith), y.0.0.1 b, y.0.1 b, by-run b t cells₃ (set parts₃ 2367 fs.rows) items.value from-took.value, y.1 b), y.0.0.0))
          (λ c₃ xss l m h e. record {
            same = λ x k b kind o.
                let y = stands cells₃ parts₃ c₃ xss l h cells₃ (kept-all 0 _ _) in
                let z = stands cells₃ parts₃ c₃ xss l h x (kept-first _ k (omega arith)) in
                sections-same b t x cells₃ (set parts₃ 2367 fs.rows) (z.0.0.1 b ∙ sym (y.0.0.1 b)) (z.1 b ∙ sym (y.1 b)) kind o;
          }) r₂ (g fs.tables)

      pub select-run-refused : (cells₃ parts₃ : List ℕ) (w : code.Refusal) → ((k : ℕ) → Given (run 1 6) (RunRead t 1 6 fs.at.rows cells₂ cells₃ parts₁ parts₃) t fs.at.position fs.at.line fs.at.rows k (Err w)) → length parts₃ ≡ 3863
          → BodyRead t select_head p cells₃ rows' parts parts₃ (Err w)
      unfolding BodyBy
      select-run-refused cells₃ parts₃ w g h = select_read cells₃ parts₃ (Err w) g h
