-- OFFSET and LIMIT as steps: a record and no cell.
use Rattle.std.specs.Prelude.{ℕ, pred, ◌+◌, ◌-◌, ◌≤◌, ◌≡◌, List, [], ◌∷◌, ◌++◌, length, take, Option, None, Some, Result, Ok, Err}
use Rattle.std.proofs.Math.Numerals.{sub-one}
use Rattle.std.proofs.Math.Path.{refl}
use Rattle.std.proofs.Common.{sym, ap, ◌∙◌, subst, append-nil}
use Rattle.rules.specs.Refusals.{Reason, Answer, ok, ◌>>=◌, refuse, invalid_offset, invalid_limit}
use Rattle.rules.specs.Lists.{Bytes, concat}
use Rattle.rules.specs.Plan.{Built, Node}
use Rattle.rules.specs.Plan as P
use Rattle.rules.specs.Cells.{Cell}
use Rattle.rules.specs.Nodes.{NodeRecord, offset, limit}
use Rattle.rules.specs.Area.{record_numbers}
use Rattle.rules.specs.BuildExpression.{constant}
use Rattle.rules.specs.BuildSelect.{natural, build_rows}
use Rattle.appends.specs.Area.{cells_numbers}
use Rattle.appends.specs.Answers.{bind_ok, bind-refused}
use Rattle.appends.specs.Nodes.Lays.{Lays}
use Rattle.appends.specs.Nodes.Kinds.{lays-offset, lays-limit}
use Rattle.ast.specs.Table.{tree_at}
use Rattle.expression.specs.Answers.{answered, constant_value, constant_of}
use Rattle.expression.specs.Numbers.{natural_of, natural_in, rows-built}
use Rattle.expression.specs.declared.Constant.{Constant}
use Rattle.std.specs.Option.{ok_or}
use Rattle.statement.specs.EntryAccess.{clause_of}
use Rattle.statement.specs.declared.access.Clause.{Clause}
use Rattle.numbers.specs.Reasons.{reason_of, named-reason}
use Rattle.numbers.specs.declared.refusals.Refusal.{Refusal}
use Rattle.plan.specs.Layout.{cells_end}
use Rattle.plan.specs.Pushed.{Pushed, kept-all}
use Rattle.plan.specs.declared.nodes.Nodes.{Nodes}
use Rattle.plan.specs.Kinds.{node_number}
use Rattle.plan.specs.Records.{rows_numbers}
use Rattle.plan.specs.declared.nodes.Kind.{Kind}
use Rattle.plan.specs.declared.nodes.Kind.TheVariants as N
use Rattle.plan.specs.Steps.{refused-at, Stands, stands_one, Stepped, Steps, step-none, step-done, step-refused}

-- a clause w that refuses by r what is no number of 0 or more, and makes of a number a node by f
pub record RowsBuilt (r : Reason) (f : ℕ → Node Built → Node Built) (c q : Bytes) (t : List ℕ) (w : Option Clause) (n m : ℕ)
    (nodes nodes' : Nodes) (x : Stepped) : Type 0 where
  pub is : (area : List ℕ) → Steps (λ d. d) (λ d. build_rows r f d (clause_of c q t w)) n m area nodes area nodes' x

abbrev pub OffsetBuilt : Bytes → Bytes → List ℕ → Option Clause → ℕ → ℕ → Nodes → Nodes → Stepped → Type 0
OffsetBuilt = RowsBuilt invalid_offset (λ y d. P.offset d y)

abbrev pub LimitBuilt : Bytes → Bytes → List ℕ → Option Clause → ℕ → ℕ → Nodes → Nodes → Stepped → Type 0
LimitBuilt = RowsBuilt invalid_limit (λ y d. P.limit d y)

-- f makes of a source a node of a kind for a number of rows, and v is its record
pub record RowsNode (kind : Kind) (f : ℕ → Node Built → Node Built) (v : ℕ → ℕ → NodeRecord) : Type 0 where
  pub numbers : (s y : ℕ) → record_numbers (v s y) ≡ rows_numbers (node_number kind) s y
  pub lays : (d : Node Built) (cs : List Cell) (rs : List NodeRecord) (n m : ℕ) → Lays 0 0 d cs rs n m → (y : ℕ)
      → Lays 0 0 (f y d) cs (rs ++ (v (pred m) y ∷ [])) n (m + 1)

-- a record and no cell behind the n-th
pub stands-record : (v : NodeRecord) (n : ℕ) (area : List ℕ) {nodes nodes' : Nodes}
    → Pushed (record_numbers v) nodes nodes' → Stands n area nodes [] (v ∷ []) n area nodes'
unfolding cells_numbers concat
stands-record v n area a = stands_one v (sym (append-nil (take (cells_end n) area))) a

-- the number of 0 or more that the constant at row p is, in a clause at line l that refuses by r what is none
pub record Counted (r : Reason) (l : ℕ) (c q : Bytes) (t : List ℕ) (p : ℕ) (x : Result ℕ Refusal) : Type 0 where
  pub is : answered (λ y. y) x ≡ natural_in r l (constant (tree_at c q t p))

module _ (c q : Bytes) (t : List ℕ) (p : ℕ) (x : Result Constant Refusal) (told : constant_of c q x ≡ constant (tree_at c q t p)) where
  pub counted-refused : (r : Reason) (l : ℕ) (w : Refusal) → x ≡ Err w → Counted r l c q t p (Err w)
  unfolding answered natural_in refuse ◌>>=◌
  counted-refused r l w e = record { is = ap (natural_in r l) (ap (constant_of c q) (sym e) ∙ told) }

  pub counted : (v : Refusal) (k : Constant) (o : Option ℕ) → x ≡ Ok k
      → natural_of (reason_of v.reason) v.line o ≡ natural (reason_of v.reason) v.line (constant_value c q k)
      → Counted (reason_of v.reason) v.line c q t p (ok_or o v)
  unfolding answered natural_in natural_of ◌>>=◌
  counted v k o e h = record { is = taken o ∙ h ∙ ap (natural_in (reason_of v.reason) v.line) (ap (constant_of c q) (sym e) ∙ told) }
    where
      taken : (o : Option ℕ) → answered (λ y. y) (ok_or o v) ≡ natural_of (reason_of v.reason) v.line o
      taken (Some n) = refl
      taken None = refl

-- by what the code has for the clause's refusal
pub counted-by : {c q : Bytes} {t : List ℕ} {p : ℕ} {x : Result ℕ Refusal} (v w : Refusal) → v ≡ w → Counted (reason_of v.reason) v.line c q t p x
    → Counted (reason_of w.reason) w.line c q t p x
counted-by {c} {q} {t} {p} {x} v w e h = subst (λ (u : Refusal). Counted (reason_of u.reason) u.line c q t p x) e h

rows_told : (r : Reason) (f : ℕ → Node Built → Node Built) (clause : Clause) {c q : Bytes} {t : List ℕ} {x : Result ℕ Refusal}
    → Counted r clause.line c q t clause.row x → (d : Node Built)
    → build_rows r f d (clause_of c q t (Some clause)) ≡ (answered (λ y. y) x >>= λ y. ok (f y d))
unfolding clause_of
rows_told r f clause {c} {q} {t} told d =
    rows-built r f d (record { line = clause.line; expr = tree_at c q t clause.row }) ∙ ap (λ (a : Answer ℕ). a >>= λ y. ok (f y d)) (sym told.is)

module _ (r : Reason) (f : ℕ → Node Built → Node Built) {c q : Bytes} {t : List ℕ} {w : Option Clause} {n m : ℕ}
    {nodes : Nodes} where
  pub rows-missing : w ≡ None → nodes.used ≤ length nodes.numbers.now → RowsBuilt r f c q t w n m nodes nodes (Ok (record { cell = n; node = m }))
  unfolding clause_of build_rows
  rows-missing e l = rw e (record { is = λ area. step-none l (λ d. refl) })

  module _ (clause : Clause) (e : w ≡ Some clause) {x : Result ℕ Refusal} (told : Counted r clause.line c q t clause.row x) where
    pub rows-refused : (v : Refusal) → x ≡ Err v → RowsBuilt r f c q t w n m nodes nodes (Err v)
    unfolding answered refuse
    rows-refused v g = rw e (record {
      is = λ area. step-refused refl (kept-all _) (λ d cs rs u. refused-at (reason_of v.reason) v.line v.reason v.line
          (rows_told r f clause told d ∙ bind-refused _ _ _ (ap (answered (λ y. y)) g)) (sym (named-reason v.reason)) refl);
    })

    pub rows-number : (v : ℕ → ℕ → NodeRecord) {kind : Kind} → RowsNode kind f v → (y : ℕ) → x ≡ Ok y → {nodes' : Nodes}
        → Pushed (rows_numbers (node_number kind) (m - 1) y) nodes nodes'
        → RowsBuilt r f c q t w n m nodes nodes' (Ok (record { cell = n; node = m + 1 }))
    unfolding answered
    rows-number v {kind} made y g {nodes'} a = rw e (record {
      is = λ area. step-done refl a.kept (record {
        cells = [];
        records = v (pred m) y ∷ [];
        lies = λ d cs rs h. record {
          node = f y d;
          answer = rows_told r f clause told d ∙ bind_ok _ _ y (ap (answered (λ y. y)) g);
          lays = rw (append-nil cs) (made.lays d cs rs n m h y);
        };
        stands = stands-record (v (pred m) y) n area (rw (made.numbers, ← sub-one m) a);
      });
    })

pub offset-node : RowsNode N.Offset (λ y d. P.offset d y) offset
unfolding rows_numbers record_numbers
offset-node = record { numbers = λ s y. refl; lays = λ d cs rs n m h y. lays-offset 0 0 d cs rs n m h y }

pub limit-node : RowsNode N.Limit (λ y d. P.limit d y) limit
unfolding rows_numbers record_numbers
limit-node = record { numbers = λ s y. refl; lays = λ d cs rs n m h y. lays-limit 0 0 d cs rs n m h y }
