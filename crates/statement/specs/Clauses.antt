-- The sections of several kinds in a row: those of a SELECT behind its FROM.
use Rattle.std.specs.Prelude.{ℕ, zero, suc, ◌+◌, ◌*◌, ◌-◌, ◌≤◌, ◌<◌, ◌≡◌, refl, List, [], ◌∷◌, get_or, Result, Ok, Err}
use Rattle.std.proofs.Common.{arith, add-one, sym, ap, ◌∙◌}
use Rattle.rules.specs.Refusals.{Refusal, Answer, ok, refused}
use Rattle.rules.specs.Lists.{Bytes}
use Rattle.rules.specs.Reader.{Place, Read, give, ◌>>=◌}
use Rattle.text.specs.Answers.{bind_ok, bind-no}
use Rattle.numbers.specs.Kept.{Kept, kept-all, kept_on, kept-first}
use Rattle.ast.specs.Table.{row_size}
use Rattle.read_expression.specs.Reading.{here, Position, Took, Given}
use Rattle.entries.specs.Entries.{Entry, most_of, section}
use Rattle.entries.specs.Sections.{number_of}
use Rattle.entries.specs.declared.Section.{Section}
use Rattle.entries.specs.declared.Section.TheVariants as S
use Rattle.sections.specs.Layout.{start_of, section_at}
use Rattle.sections.specs.Terms.{end_of, SectionRead}
use Rattle.statement.specs.Stays.{Stays, stays-more}
use Rattle.read_expression.specs.Given.{given-done}
use Rattle.numbers.specs.declared.refusals.Refusal as code
use Rattle.read_expression.specs.declared.reading.Cursor.{Cursor}

-- the sections of n kinds from k on
unfoldable pub run : ℕ → ℕ → Read (List (List Entry))
run k zero = give []
run k (suc n) = do
  xs ← section k
  xss ← run (suc k) n
  give (xs ∷ xss)

-- the same, and then f
unfoldable pub run_on : {A : Type 0} → ℕ → ℕ → (List (List Entry) → Read A) → Read A
run_on k zero f = f []
run_on k (suc n) f = do
  xs ← section k
  run_on (suc k) n λ xss. f (xs ∷ xss)

pub run_on_lem : {A : Type 0} (k n : ℕ) (f : List (List Entry) → Read A) (p : Place) → run_on k n f p ≡ (run k n >>= f) p
unfolding run run_on ◌>>=◌ give
run_on_lem k zero f p = refl
run_on_lem {A = A} k (suc n) f p = go (section k p) refl λ g q. run_on_lem (suc k) n g q
  where
    rest : (xs : List Entry) (q : Place) (y : Answer (List (List Entry) × Place)) → run (suc k) n q ≡ y → (run (suc k) n >>= λ xss. f (xs ∷ xss)) q ≡ ((run (suc k) n >>= λ xss. give (xs ∷ xss)) >>= f) q
    rest xs q (refused r) h = rw (◌>>=◌, h)
    rest xs q (ok r) h = rw (◌>>=◌, h)

    go : (x : Answer (List Entry × Place)) → section k p ≡ x → ((g : List (List Entry) → Read A) (q : Place) → run_on (suc k) n g q ≡ (run (suc k) n >>= g) q) → run_on k (suc n) f p ≡ (run k (suc n) >>= f) p
    go (refused r) e ih = rw (◌>>=◌, e)
    go (ok r) e ih = rw (◌>>=◌, e) (ih (λ xss. f (r.0 ∷ xss)) r.1 ∙ rest r.0 r.1 (run (suc k) n r.1) refl)

-- WHERE THEY STAND
module _ (b t : Bytes) (cells parts : List ℕ) where
  unfoldable pub run_at : ℕ → ℕ → List (List Entry)
  run_at k zero = []
  run_at k (suc n) = section_at b t cells parts k ∷ run_at (suc k) n

run-section : (b t : Bytes) (cells parts : List ℕ) (k n i : ℕ) → i < n → get_or (run_at b t cells parts k n) i [] ≡ section_at b t cells parts (k + i)
unfolding run_at
run-section b t cells parts k zero i l = absurd (omega arith)
run-section b t cells parts k (suc n) zero l = let e : k ≡ k + 0 = omega arith in ap (section_at b t cells parts) e
run-section b t cells parts k (suc n) (suc i) l =
    let e : suc k + i ≡ k + suc i = omega arith in
    run-section b t cells parts (suc k) n i (omega arith) ∙ ap (section_at b t cells parts) e

-- where they are all the same, each is
pub run-same : (b t : Bytes) (x cells parts : List ℕ) (k n : ℕ) → run_at b t x parts k n ≡ run_at b t cells parts k n
    → (kind : ℕ) → k ≤ kind → kind < k + n → section_at b t x parts kind ≡ section_at b t cells parts kind
run-same b t x cells parts k n e kind l m =
    let i : k + (kind - k) ≡ kind = omega arith in
    rw i at (sym (run-section b t x parts k n (kind - k) (omega arith)) ∙ ap (λ xss. get_or xss (kind - k) []) e
    ∙ run-section b t cells parts k n (kind - k) (omega arith))

-- where the sections of a SELECT start, and where the last of them ends
unfoldable pub edge : ℕ → ℕ
edge k = get_or (8 ∷ 777 ∷ 790 ∷ 1559 ∷ 1572 ∷ 2341 ∷ 2354 ∷ 2367 ∷ []) k 0

edges : (k : ℕ) → k ≤ 6 → (start_of k ≡ edge k) × (end_of k ≡ edge (suc k)) × (edge (suc k) ≤ 2367) × (edge k ≤ edge (suc k))
unfolding start_of end_of edge most_of
edges zero l = (refl, refl, omega arith, omega arith)
edges (suc zero) l = (refl, refl, omega arith, omega arith)
edges (suc (suc zero)) l = (refl, refl, omega arith, omega arith)
edges (suc (suc (suc zero))) l = (refl, refl, omega arith, omega arith)
edges (suc (suc (suc (suc zero)))) l = (refl, refl, omega arith, omega arith)
edges (suc (suc (suc (suc (suc zero))))) l = (refl, refl, omega arith, omega arith)
edges (suc (suc (suc (suc (suc (suc zero)))))) l = (refl, refl, omega arith, omega arith)
edges (suc (suc (suc (suc (suc (suc (suc k))))))) l = absurd (omega arith)

-- sections that were read from row c on to row c'
pub record RunRead (t : Bytes) (kind n c : ℕ) (cells cells' parts parts' : List ℕ) (c' : ℕ) (xss : List (List Entry)) : Type 0 where
  pub is : (x y : List ℕ) → Kept 0 (row_size * c') cells' x → Kept 0 2367 parts' y → (b : Bytes)
      → run_at b t x y kind n ≡ xss
  pub cells-kept : Kept 0 (row_size * c) cells cells'
  pub parts-kept : Kept 0 (edge kind) parts parts'

-- READING THEM
none_left : (k : ℕ) (p : Place) → run k 0 p ≡ ok ([], p)
unfolding run give
none_left k p = refl

module _ (kind n : ℕ) (p : Place) where
  run-no : (r : Refusal) → section kind p ≡ refused r → run kind (suc n) p ≡ refused r
  unfolding run
  run-no r e = bind-no (section kind) _ p r e

  module _ (xs : List Entry) (q : Place) (e : section kind p ≡ ok (xs, q)) where
    run-then-no : (r : Refusal) → run (suc kind) n q ≡ refused r → run kind (suc n) p ≡ refused r
    unfolding run
    run-then-no r h = bind_ok (section kind) _ p xs q e ∙ bind-no (run (suc kind) n) _ q r h

    run-then-ok : (xss : List (List Entry)) (z : Place) → run (suc kind) n q ≡ ok (xss, z) → run kind (suc n) p ≡ ok (xs ∷ xss, z)
    unfolding run give
    run-then-ok xss z h = bind_ok (section kind) _ p xs q e ∙ bind_ok (run (suc kind) n) _ q xss z h

-- no section
pub run_none : (t : Bytes) (kind n p l c k : ℕ) (cells parts : List ℕ) → Position t p l c → n ≡ 0 → Given (run kind n) (RunRead t kind n c cells cells parts parts) t p l c k (Ok (record { position = p; line = l; rows = c }))
unfolding Given
run_none t kind n p l c k cells parts h e = rw e (record {
  value = [];
  is = none_left kind (here t p l c k);
  position = h;
  moved = omega arith;
  more = omega arith;
  holds = record { is = λ x y f g b. unfold run_at in refl; cells-kept = kept-all 0 _ _; parts-kept = kept-all 0 _ _ };
})

-- the first section, and those behind it
module _ (t : Bytes) (kind n p l c k : ℕ) (cells cells' parts parts' : List ℕ) (less : n ≡ suc (n - 1)) where
  pub run-refused : (cells'' parts'' : List ℕ) (w : code.Refusal) → Given (section kind) (SectionRead t kind c cells cells' parts parts') t p l c k (Err w)
      → Given (run kind n) (RunRead t kind n c cells cells'' parts parts'') t p l c k (Err w)
  unfolding Given
  run-refused cells'' parts'' w s = rw less (run-no kind (n - 1) _ _ s)

  module _ (few : kind + n ≤ 7) (q : Cursor) (s : Given (section kind) (SectionRead t kind c cells cells' parts parts') t p l c k (Ok q)) where
    took : Took (section kind) (SectionRead t kind c cells cells' parts parts' q.rows) t p l c k q.position q.line q.rows
    took = given-done _ _ _ _ _ _ _ _ s

    sides : (start_of kind ≡ edge kind) × (end_of kind ≡ edge (suc kind)) × (edge (suc kind) ≤ 2367) × (edge kind ≤ edge (suc kind))
    sides = edges kind (omega arith)

    run-read : (cells'' parts'' : List ℕ) (c'' : ℕ) (xss : List (List Entry)) → q.rows ≤ c'' → RunRead t (suc kind) (n - 1) q.rows cells' cells'' parts' parts'' c'' xss
        → RunRead t kind (suc (n - 1)) c cells cells'' parts parts'' c'' (took.value ∷ xss)
    unfolding run_at
    run-read cells'' parts'' c'' xss m h =
        let first = took.holds in
        record {
          is = λ x y f g b.
              let u = first.is x y (kept_on h.cells-kept
              (kept-first _ f (omega arith)))
              (rw sides.1 (kept_on h.parts-kept (kept-first _ g sides.2))) b in
              rw (u, h.is x y f g b);
          cells-kept = kept_on first.cells-kept
              (kept-first _ h.cells-kept (omega (arith, took.more)));
          parts-kept = kept_on (rw sides.0 at first.parts-kept) (kept-first _ h.parts-kept sides.3);
        }

    pub run_more : (cells'' parts'' : List ℕ) (r' : Result Cursor code.Refusal) → Given (run (kind + 1) (n - 1)) (RunRead t (kind + 1) (n - 1) q.rows cells' cells'' parts' parts'') t q.position q.line q.rows k r'
        → Given (run kind n) (RunRead t kind n c cells cells'' parts parts'') t p l c k r'
    unfolding Given
    run_more cells'' parts'' r' g = rw less (go r' (rw (add-one kind) at g))
      where
        go : (r' : Result Cursor code.Refusal) → Given (run (suc kind) (n - 1)) (RunRead t (suc kind) (n - 1) q.rows cells' cells'' parts' parts'') t q.position q.line q.rows k r'
            → Given (run kind (suc (n - 1))) (RunRead t kind (suc (n - 1)) c cells cells'' parts parts'') t p l c k r'
        go (Err w) h = run-then-no kind (n - 1) _ _ _ took.is _ h
        go (Ok z) h = record {
          value = took.value ∷ h.value;
          is = run-then-ok kind (n - 1) _ _ _ took.is _ _ h.is;
          position = h.position;
          moved = omega (arith, took.moved, h.moved);
          more = omega (arith, took.more, h.more);
          holds = run-read cells'' parts'' z.rows h.value h.more h.holds;
        }

-- CLAUSE AFTER CLAUSE
abbrev pub clauses : List Section
clauses = S.Where ∷ S.Group ∷ S.Having ∷ S.Order ∷ S.Offset ∷ S.Limit ∷ []

-- the clause behind i of them has the number 1 + i
pub clause-number : (i : ℕ) → i < 6 → number_of (get_or clauses i S.Item) ≡ 1 + i
clause-number zero l = refl
clause-number (suc zero) l = refl
clause-number (suc (suc zero)) l = refl
clause-number (suc (suc (suc zero))) l = refl
clause-number (suc (suc (suc (suc zero)))) l = refl
clause-number (suc (suc (suc (suc (suc zero))))) l = refl
clause-number (suc (suc (suc (suc (suc (suc i)))))) l = absurd (omega arith)

-- i clauses of a SELECT are read, from p₀ on, and the next may stand at p: what the rest reads from here, the whole reads
pub record ClausesLoop (t : Bytes) (p₀ l₀ c₀ : ℕ) (cells₀ parts₀ : List ℕ) (i p l c : ℕ) (cells parts : List ℕ) : Type 0 where
  pub position : Position t p l c
  pub rest : (k : ℕ) (x y : List ℕ) (r : Result Cursor code.Refusal) → Given (run (1 + i) (6 - i)) (RunRead t (1 + i) (6 - i) c cells x parts y) t p l c k r
      → Given (run 1 6) (RunRead t 1 6 c₀ cells₀ x parts₀ y) t p₀ l₀ c₀ k r

module _ {t : Bytes} {p₀ l₀ c₀ : ℕ} {cells₀ parts₀ : List ℕ} {i p l c : ℕ} {cells parts : List ℕ} (h : ClausesLoop t p₀ l₀ c₀ cells₀ parts₀ i p l c cells parts) where
  pub clauses-end : 6 ≤ i → (k : ℕ) → Given (run 1 6) (RunRead t 1 6 c₀ cells₀ cells parts₀ parts) t p₀ l₀ c₀ k (Ok (record { position = p; line = l; rows = c }))
  clauses-end m k = h.rest k cells parts _ (run_none t (1 + i) (6 - i) p l c k cells parts h.position (omega arith))

  module _ (m : i < 6) (cells' parts' : List ℕ) where
    less : 6 - i ≡ suc (6 - i - 1)
    less = omega arith

    pub clauses-refused : (w : code.Refusal) → ((k : ℕ) → Given (section (1 + i)) (SectionRead t (1 + i) c cells cells' parts parts') t p l c k (Err w))
        → (k : ℕ) → Given (run 1 6) (RunRead t 1 6 c₀ cells₀ cells' parts₀ parts') t p₀ l₀ c₀ k (Err w)
    clauses-refused w s k = h.rest k cells' parts' (Err w) (run-refused t (1 + i) (6 - i) p l c k cells cells' parts parts' less cells' parts' w (s k))

    pub clauses-on : (q : Cursor) → ((k : ℕ) → Given (section (1 + i)) (SectionRead t (1 + i) c cells cells' parts parts') t p l c k (Ok q))
        → ClausesLoop t p₀ l₀ c₀ cells₀ parts₀ (i + 1) q.position q.line q.rows cells' parts'
    clauses-on q s =
        let u : 1 + (i + 1) ≡ 1 + i + 1 = omega arith in
        let v : 6 - (i + 1) ≡ 6 - i - 1 = omega arith in
        record {
          position = (given-done _ _ _ _ _ _ _ _ (s 0)).position;
          rest = λ k x y r g. h.rest k x y r
              (run_more t (1 + i) (6 - i) p l c k cells cells' parts parts' less (omega arith) q (s k) x y r (rw (u, v) at g));
        }

-- A RUN MORE
pub stays-run : {c n : ℕ} {cells parts : List ℕ} {P : List ℕ → List ℕ → Type 0} → Stays c n cells parts P
    → {t : Bytes} {kind m c' : ℕ} {cells' parts' : List ℕ} {xss : List (List Entry)} → RunRead t kind m c cells cells' parts parts' c' xss → c ≤ c' → n ≤ edge kind → n ≤ 2367
    → Stays c' 2367 cells' parts' λ x y. P x y × ((b : Bytes) → run_at b t x y kind m ≡ xss)
stays-run h r l e m =
    let s = stays-more h r.cells-kept (kept-first _ r.parts-kept e) l m in
    record { holds = λ x y f g. (s.holds x y f g, r.is x y f g) }
