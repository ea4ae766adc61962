-- CREATE's columns pushed one after the other, and the whole table.
use Rattle.std.specs.Prelude.{ℕ, suc, ◌+◌, ◌*◌, ◌≤◌, ◌<◌, ◌≡◌, Bool, drop, ⊤, Result, Ok, Err, Some, None}
use Rattle.std.specs.Prelude as std
use Rattle.std.proofs.Common.{arith, add-one, ◌∙◌}
use Rattle.std.proofs.Math.Path.{refl, sym, ap}
use mathlib.Core.List.{List, [], ◌∷◌, ◌++◌, append_assoc, append-nil}
use Rattle.std.proofs.Math.Option.{Option, none, some}
use Rattle.std.proofs.Math.ListN.{length, length-append}
use Rattle.rules.specs.Refusals.{statement, Answer, ok, refused, ◌>>=◌, refuse}
use Rattle.rules.specs.Refusals.{no_primary_key, multiple_primary_keys}
use Rattle.rules.specs.Lists.{Bytes, concat}
use Rattle.rules.specs.Lines.{Word}
use Rattle.rules.specs.Schema.{Value, Catalog}
use Rattle.rules.specs.Ast.{NewColumn}
use Rattle.rules.specs.Ast as Ast
use Rattle.rules.specs.Plan.{Made}
use Rattle.rules.specs.Plan as P
use Rattle.rules.specs.BuildExpression.{each}
use Rattle.rules.specs.BuildStatement.{KeyColumn, key_columns, primary_key, default_value, made_column, build_create, build_statement}
use Rattle.rules.specs.Area.{span, option_span, default_numbers, made_numbers, own_numbers}
use Rattle.claims.specs.Within.{TextsWithin}
use Rattle.claims.specs.Answers.{ensured, each-length}
use Rattle.appends.specs.Answers.{bind_ok, bind-refused, ok_same, ok-not-refused}
use Rattle.appends.specs.Area.{cells_numbers, records_numbers, create-area}
use Rattle.appends.specs.Statements.Create.{create-key, columns-step, columns-refused}
use Rattle.numbers.specs.Reasons.{told, noted, named-reason}
use Rattle.numbers.specs.declared.refusals.Refusal.{Refusal}
use Rattle.schema.specs.Layout.{catalog_at}
use Rattle.sections.specs.Layout.{section_at}
use Rattle.entries.specs.declared.NewColumn as given
use Rattle.sections.specs.Access.{column_kind, numbers_at, new_column}
use Rattle.sections.specs.declared.entry.Entry.{Entry}
use Rattle.expression.specs.Answers.{map_answer}
use Rattle.numbers.specs.Literals.{given_numbers}
use Rattle.numbers.specs.declared.literals.Literal.{Literal}
use Rattle.statement.specs.Layout.{to_column, create_of, statement_at}
use Rattle.statement.specs.Access.{kind_number, kind_of, statement_of, statement-kind, line_at, name_word}
use Rattle.statement.specs.declared.access.Kind.TheVariants as K
use Rattle.statement.specs.EntryAccess.{given_of, map-length}
use Rattle.plan.specs.Layout.{cell_size, column_size, own_head, create_code, plan_size, most_plan_cells, nodes_size}
use Rattle.plan.specs.Pushed.{Kept, Pushed, kept-all, kept-on, pushed-none}
use Rattle.plan.specs.declared.nodes.Nodes.{Nodes}
use Rattle.plan.specs.Own as O
use Rattle.plan.specs.Own.{creating, column_numbers, column-whole, column-one, columns-on, create-whole}
use Rattle.claims.specs.Room.Nodes.{made-room}
use Rattle.plan.specs.Finished.{finished}
use Rattle.plan.specs.Exit.{pieces, create-exit}
use Rattle.plan.specs.Steps.{RefusedWith, refused-on}
use Rattle.build_statement.specs.Plans.{Ready, Plans, planned_of}
use Rattle.build_statement.specs.Ends.{finish-room, first-own, plan-count, planned}
use Rattle.build_statement.specs.Kinds.{Free, ready-free}
use Rattle.build_statement.specs.Pushes.{Pushing, Pushes, pushes-done, pushes-refused, was-done, was-refused}
use Rattle.build_statement.specs.Create.{nullable_of, made_of, column_of, made-column, columns_at, column-here, column-end}
use Rattle.build_statement.specs.Create.{create_at, keys_of, Keys, default_of, columns_numbers, table_numbers, CreateReady, with_key}

-- ONE COLUMN
column-eight : (m : Made) → length (column_numbers m) ≡ column_size
unfolding column_numbers span option_span
column-eight m = go m.reference
  where
    go : (r : Option Word) → suc (suc (suc (suc (suc (suc (length (option_span r))))))) ≡ column_size
    go none = refl
    go (some w) = refl

-- behind its first numbers there is room for its default
pub default-room : (c q : Bytes) (e : Entry) (new : given.NewColumn) (n : Bool) {s t : Nodes}
    → ((d : Option Value) → Pushed (column_numbers (made_of c q e new n d)) s t)
    → s.used + column_size + cell_size ≤ length s.numbers.now → t.used + cell_size ≤ length t.numbers.now
default-room c q e new n h l =
    let a = (h none).appended in
    omega (arith, a.next, a.all, column-eight (made_of c q e new n none))

-- a default that is given
record Known (a : Answer (Option Value)) (n : std.Option Literal) : Type 0 where
  value : Option Value
  ok-is : a ≡ ok value
  numbers : default_numbers value ≡ given_numbers n

known : (a : Answer (Option Value)) (n : std.Option Literal) → default_of (Ok n) ≡ map_answer default_numbers a → Known a n
unfolding default_of map_answer
known (ok d) n h = record { value = d; ok-is = refl; numbers = sym (ok_same h) }
known (refused w) n h = ok-not-refused _ _ h

failed : (a : Answer (Option Value)) (w : Refusal) → default_of (Err w) ≡ map_answer default_numbers a → RefusedWith a w
unfolding default_of map_answer
failed (ok d) w h = ok-not-refused _ _ (sym h)
failed (refused v) w h =
    let z : told statement w ≡ v = cc in
    record { why = v; is = refl; refusal = sym (ap noted (sym z) ∙ rw (named-reason w.reason)) }

module _ (c q : Bytes) (cells : List ℕ) (e : Entry) (new : given.NewColumn) (n : Bool) (z : n ≡ nullable_of new) (r : Result (std.Option Literal) Refusal)
    (h : default_of r ≡ map_answer default_numbers (default_value n (given_of c q cells e))) where
  pub column-done : {s t u : Nodes} {y : ⊤} (x : std.Option Literal) → r ≡ Ok x
      → ((d : Option Value) → Pushed (column_numbers (made_of c q e new n d)) s t)
      → ((d : Option Value) → default_numbers d ≡ given_numbers x → Pushed (default_numbers d) t u)
      → Pushes made_numbers (made_column (column_of c q cells e new)) s u (Ok y)
  unfolding map_answer made_of
  column-done x g a b =
      let y = known (default_value n (given_of c q cells e)) x (sym (ap default_of g) ∙ h) in
      let m : made_column (column_of c q cells e new) ≡ ok (made_of c q e new n y.value) =
      made (default_value n (given_of c q cells e)) y.value y.ok-is refl in
      pushes-done made_numbers (made_of c q e new n y.value) m
      (column-whole (made_of c q e new n y.value) (a y.value) (b y.value y.numbers))
    where
      made : (x : Answer (Option Value)) (d : Option Value) → x ≡ ok d → default_value n (given_of c q cells e) ≡ x
          → made_column (column_of c q cells e new) ≡ ok (made_of c q e new n d)
      made x d f y = made-column c q cells e new ∙ rw (← z, y, f)

  pub column-refused : {s u : Nodes} (w : Refusal) → r ≡ Err w → Kept s u
      → Pushes made_numbers (made_column (column_of c q cells e new)) s u (Err w)
  unfolding map_answer
  column-refused w g kept =
      let y = failed (default_value n (given_of c q cells e)) w (sym (ap default_of g) ∙ h) in
      pushes-refused made_numbers (refused-on y (λ v x. made-column c q cells e new ∙ rw (← z, x))) kept

-- ALL COLUMNS
module _ (c q : Bytes) (cells parts : List ℕ) where
  abbrev made : Answer (List Made)
  made = each made_column (columns_at c q cells parts)

  -- the first i columns are pushed behind the numbers of s
  pub record SoFar (i : ℕ) (s t : Nodes) : Type 0 where
    pub columns : List Made
    pub counted : length columns ≡ i
    pub left : made ≡ (each made_column (drop i (columns_at c q cells parts)) >>= λ ns. ok (columns ++ ns))
    pub numbers : Pushed (columns_numbers columns) s t

  pub so-far-none : (s : Nodes) → s.used ≤ length s.numbers.now → SoFar 0 s s
  unfolding columns_numbers concat ◌>>=◌
  so-far-none s h = record { columns = []; counted = refl; left = go made; numbers = pushed-none s h }
    where
      go : (a : Answer (List Made)) → a ≡ (a >>= λ ns. ok ([] ++ ns))
      go (ok ms) = refl
      go (refused w) = refl

  module _ {i : ℕ} {s t : Nodes} (p : SoFar i s t) where
    -- how many numbers are in use
    pub in_use : t.used ≡ s.used + (column_size + cell_size) * i
    unfolding columns_numbers
    in_use = omega (arith, p.numbers.appended.next, made-room p.columns, p.counted)

    pub still : Kept s t
    still = p.numbers.kept

    abbrev rest : List NewColumn
    rest = drop (suc i) (columns_at c q cells parts)

    module _ (e : Entry) (x : e ≡ numbers_at parts column_kind i)
        (new : given.NewColumn) (d : new ≡ new_column parts i) {n : ℕ} (k : n ≡ length (section_at c q cells parts column_kind)) (l : i < n)
        {u : Nodes} {r : Pushing} (g : Pushes made_numbers (made_column (column_of c q cells e new)) t u r) where
      pub so-far-step : {y : ⊤} → r ≡ Ok y → SoFar (i + 1) s u
      unfolding columns_numbers ◌>>=◌
      so-far-step f =
          let a = was-done made_numbers g f in
          record {
            columns = p.columns ++ (a.value ∷ []);
            counted = length-append p.columns (a.value ∷ []) ∙ rw p.counted;
            left = rw (add-one i) (p.left ∙ rw (column-here c q cells parts i e new x d (omega (arith, k, l)))
                (ap (λ (y : Answer (List Made)). y >>= λ ns. ok (p.columns ++ ns))
                (columns-step (column_of c q cells e new) rest a.value a.ok-is) ∙ go a.value (each made_column rest)));
            numbers = columns-on p.columns (a.value ∷ []) p.numbers (column-one a.value a.numbers);
          }
        where
          go : (m : Made) (y : Answer (List Made)) → ((y >>= λ ms. ok (m ∷ ms)) >>= λ ns. ok (p.columns ++ ns))
              ≡ (y >>= λ ns. ok ((p.columns ++ (m ∷ [])) ++ ns))
          go m (ok ms) = ap ok (sym (append_assoc p.columns (m ∷ []) ms))
          go m (refused w) = refl

      pub so-far-stop : (w : Refusal) → r ≡ Err w → Pushes columns_numbers made s u (Err w)
      unfolding ◌>>=◌
      so-far-stop w f = pushes-refused columns_numbers (refused-on (was-refused made_numbers g w f)
          (λ v y. p.left ∙ rw (column-here c q cells parts i e new x d (omega (arith, k, l)))
          (bind-refused _ _ v (columns-refused (column_of c q cells e new) rest v y)))) (kept-on still g.kept)

    pub so-far-all : {y : ⊤} {n : ℕ} → n ≡ length (section_at c q cells parts column_kind) → n ≤ i → Pushes columns_numbers made s t (Ok y)
    unfolding each ◌>>=◌
    so-far-all k h = pushes-done columns_numbers p.columns
        (p.left ∙ rw (column-end c q cells parts i (omega (arith, k, h))) (ap ok (append-nil p.columns))) p.numbers

  -- THE TABLE
  abbrev pub word : Word
  word = name_word c q cells [] parts

  module _ (key n : ℕ) (f : n ≡ length (section_at c q cells parts column_kind)) {s t : Nodes}
      (a : Pushed (creating word key n []) s t) where
    pub head-in-use : t.used ≡ s.used + own_head
    unfolding creating span concat
    head-in-use = a.appended.next

    pub table-pushes : {u : Nodes} {r : Pushing} → Pushes columns_numbers made t u r
        → Pushes (table_numbers word key) made s u r
    unfolding columns_numbers table_numbers
    table-pushes {u} {r} p = go r refl
      where
        go : (x : Pushing) → r ≡ x → Pushes (table_numbers word key) made s u r
        go (Ok y) e =
            let b = was-done columns_numbers p e in
            let l : length b.value ≡ length (columns_at c q cells parts) =
            ensured made _ (each-length made_column (columns_at c q cells parts)) b.value b.ok-is in
            let m : n ≡ length b.value =
            f ∙ sym (map-length to_column (section_at c q cells parts column_kind)) ∙ sym l in
            rw e (pushes-done (table_numbers word key) b.value b.ok-is
            (create-whole word key n b.value m (O.create-columns word key n [] b.value a b.numbers)))
        go (Err w) e = rw e (pushes-refused (table_numbers word key) (was-refused columns_numbers p w e) (kept-on a.kept p.kept))

  module _ (key : ℕ) {s t : Nodes} {r : Pushing} (p : Pushes (table_numbers word key) made s t r) where
    pub create-room : {area : List ℕ} {y : ⊤} → r ≡ Ok y → Free area s
        → (plan_size ≤ length area) × (0 ≤ most_plan_cells) × (s.used ≤ t.used) × (t.used ≤ nodes_size)
        × (t.used ≤ length t.numbers.now)
    create-room g f = finish-room f (kept-all s) (was-done (table_numbers word key) p g).numbers (omega arith)

    pub created : {area area' : List ℕ} {y : ⊤} → r ≡ Ok y → Free area s → length area' ≡ length area
        → area' ≡ finished create_code 0 0 s.used t.used t.numbers.now area
        → Plans (with_key c q cells parts key) area area' (Ok 0)
    unfolding table_numbers with_key records_numbers cells_numbers concat
    created {area} {area'} g free l h =
        let b = was-done (table_numbers word key) p g in
        let y = pieces {cs = []} {n = 0} {t = area} [] (own_numbers (P.create word key b.value)) area refl
        (omega (arith, free.area_room)) (sym (append-nil _)) free.none (pushed-none s (omega (arith, free.none))) b.numbers in
        planned (P.create word key b.value) (bind_ok _ _ b.value b.ok-is)
        (plan-count (P.create word key b.value) create_code [] [] _ 0 0 (create-area word key b.value)) l
        ((rw free.none at h) ∙ create-exit t.used t.numbers.now area area refl word key b.value (first-own free.none y))

    pub not-created : {area area' : List ℕ} (w : Refusal) → r ≡ Err w → length area' ≡ length area
        → Plans (with_key c q cells parts key) area area' (Err w)
    unfolding with_key planned_of
    not-created {area} {area'} w g l =
        let b = was-refused (table_numbers word key) p w g in
        let z : with_key c q cells parts key ≡ refused b.why = bind-refused _ _ b.why b.is in
        record {
          answer = ap Err b.refusal ∙ sym (ap planned_of z);
          kept = l;
          exit = λ d j. ok-not-refused d _ (sym j ∙ z);
        }

  -- KEYS
  module _ {r : std.Option ℕ} (f : Keys c q cells parts 0 r) where
    pub no_key : r ≡ None → build_create (create_at c q cells parts) ≡ refuse no_primary_key (line_at parts)
    unfolding keys_of primary_key refuse create_of
    no_key e =
        create-key (create_at c q cells parts) _ (ap (primary_key (line_at parts)) (f.keys ∙ ap (keys_of c q cells parts) e))

    module _ (key : ℕ) (e : r ≡ Some key) {p : std.Option ℕ} (g : Keys c q cells parts (key + 1) p) where
      abbrev first : KeyColumn
      first = record { position = key; line = (numbers_at parts column_kind key).line }

      keys-are : key_columns 0 (columns_at c q cells parts) ≡ first ∷ keys_of c q cells parts p
      unfolding keys_of
      keys-are = f.keys ∙ ap (keys_of c q cells parts) e ∙ ap (λ ks. first ∷ ks) (rw (add-one key) at g.keys)

      pub second_key : (j : ℕ) (x : Entry) → p ≡ Some j → x ≡ numbers_at parts column_kind j
          → build_create (create_at c q cells parts) ≡ refuse multiple_primary_keys x.line
      unfolding keys_of primary_key refuse create_of
      second_key j x h y = create-key (create_at c q cells parts) _
          (ap (primary_key (line_at parts)) (keys-are ∙ ap (λ ks. first ∷ ks) (ap (keys_of c q cells parts) h)) ∙ rw y)

      pub one_key : p ≡ None → build_create (create_at c q cells parts) ≡ with_key c q cells parts key
      unfolding keys_of primary_key build_create with_key create_of
      one_key h = bind_ok _ _ key
          (ap (primary_key (line_at parts)) (keys-are ∙ ap (λ ks. first ∷ ks) (ap (keys_of c q cells parts) h)))

-- FROM WHAT WAS READ
module _ (c q : Bytes) (cells froms parts : List ℕ) (e : K.Create ≡ kind_of (kind_number parts)) where
  create-is : statement_at c q cells froms parts ≡ Ast.create (create_at c q cells parts)
  unfolding statement_of
  create-is = statement-kind c q cells froms parts K.Create e

  pub create-ready : {tables area : List ℕ} {nodes : Nodes} → Ready c q tables cells froms parts area nodes
      → CreateReady c q cells parts area nodes
  unfolding create_of
  create-ready {tables} {area} {nodes} h =
      let w : TextsWithin c q (catalog_at c q tables) (Ast.create (create_at c q cells parts)) = rw create-is at h.within in
      record {
        few_columns = rw (map-length to_column (section_at c q cells parts column_kind)) at w.counts;
        free = ready-free h;
      }

  pub create-built : (ts : Catalog) → build_statement ts (statement_at c q cells froms parts)
      ≡ build_create (create_at c q cells parts)
  unfolding build_statement
  create-built ts = ap (build_statement ts) create-is
