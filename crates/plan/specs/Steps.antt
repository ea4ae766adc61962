-- A step of a SELECT: the cells and the node records that it appends behind the node before it, or its refusal; and
-- steps one after the other.
use Rattle.std.specs.Prelude.{ℕ, ◌≤◌, ◌≡◌, refl, List, [], ◌∷◌, ◌++◌, length, take, Result, Ok, Err}
use Rattle.std.proofs.Common.{arith, sym, ◌∙◌, append_assoc, append-nil}
use Rattle.rules.specs.Refusals.{Reason, Refusal, Answer, ok, refused, refuse}
use Rattle.rules.specs.Lists.{concat}
use Rattle.rules.specs.Plan.{Built, Node}
use Rattle.rules.specs.Cells.{Cell}
use Rattle.rules.specs.Nodes.{NodeRecord}
use Rattle.rules.specs.Area.{record_numbers}
use Rattle.rules.specs.Scope.{Scope}
use Rattle.appends.specs.Area.{cells_numbers, records_numbers, cells-numbers-append}
use Rattle.appends.specs.Nodes.Lays.{Lays}
use Rattle.appends.specs.From.Laid.{stage_of, StageLaid, NodeLaid}
use Rattle.plan.specs.Layout.{cells_end}
use Rattle.plan.specs.Pushed.{Pushed, Kept, kept-all, pushed-none}
use Rattle.plan.specs.declared.nodes.Nodes.{Nodes}
use Rattle.plan.specs.Records.{records-append, records-first}
use Rattle.numbers.specs.Reasons.{named, noted}
use Rattle.numbers.specs.declared.refusals.Reason as reasons
use Rattle.numbers.specs.declared.refusals.Refusal as code
use Rattle.plan.specs.Emits.{result_by, Emitting, Written, written_of, Emits}
use Rattle.plan.specs.declared.steps.Step.{Step}

-- REFUSALS
-- a is refused, which the code has as w
pub record RefusedWith {A : Type 0} (a : Answer A) (w : code.Refusal) : Type 0 where
  pub why : Refusal
  pub is : a ≡ refused why
  pub refusal : w ≡ noted why

pub refused-at : {A : Type 0} {a : Answer A} (k : Reason) (l : ℕ) (x : reasons.Reason) (y : ℕ) → a ≡ refuse k l → x ≡ named k
    → y ≡ l → RefusedWith a (record { reason = x; line = y })
unfolding refuse
refused-at k l x y e f g = record { why = _; is = e; refusal = rw (f, g) }

-- a refusal ends the whole
pub refused-on : {A B : Type 0} {a : Answer A} {b : Answer B} {w : code.Refusal} → RefusedWith a w
    → ((v : Refusal) → a ≡ refused v → b ≡ refused v) → RefusedWith b w
refused-on h f = record { why = h.why; is = f h.why h.is; refusal = h.refusal }

-- that of an answer as the code has it
pub result-refused : {A B : Type 0} (a : Answer A) (f : A → B) {w : code.Refusal}
    → ◌≡◌ {A = Result B code.Refusal} (Err w) (result_by f a) → RefusedWith a w
result-refused (ok p) f g = grind arith
result-refused (refused v) f g = record { why = v; is = refl; refusal = cc }

-- that of an expression
pub emits-refused : {a : Emitting} {n : ℕ} {area area' : List ℕ} {r : Written} (w : code.Refusal) → Emits a n area area' r
    → r ≡ Err w → RefusedWith a w
unfolding written_of
emits-refused {a} w h e = result-refused a (λ p. p.1) (sym e ∙ h.answer)

-- WHAT STANDS in the area and among the nodes: cells from the i-th on, records behind those of s
pub record Stands (i : ℕ) (area : List ℕ) (s : Nodes) (cs : List Cell) (rs : List NodeRecord) (j : ℕ) (area' : List ℕ)
    (t : Nodes) : Type 0 where
  pub cells : take (cells_end j) area' ≡ take (cells_end i) area ++ cells_numbers cs
  pub records : Pushed (records_numbers rs) s t

pub stands-none : (i : ℕ) (area : List ℕ) (s : Nodes) → s.used ≤ length s.numbers.now → Stands i area s [] [] i area s
unfolding cells_numbers records_numbers concat
stands-none i area s h = record {
  cells = sym (append-nil (take (cells_end i) area));
  records = pushed-none s h;
}

-- one step after another
pub stands_on : {i : ℕ} {area : List ℕ} {s : Nodes} {cs : List Cell} {rs : List NodeRecord} {j : ℕ} {area' : List ℕ}
    {t : Nodes} {ds : List Cell} {ts : List NodeRecord} {p : ℕ} {area'' : List ℕ} {u : Nodes}
    → Stands i area s cs rs j area' t → Stands j area' t ds ts p area'' u
    → Stands i area s (cs ++ ds) (rs ++ ts) p area'' u
stands_on {i} {area} {cs = cs} {rs} {ds = ds} {ts} a b = record {
  cells = rw (cells-numbers-append cs ds, b.cells, a.cells) (append_assoc (take (cells_end i) area) _ _);
  records = records-append rs ts a.records b.records;
}

-- cells, and one record
pub stands_one : {i : ℕ} {area : List ℕ} {s : Nodes} {cs : List Cell} {j : ℕ} {area' : List ℕ} {t : Nodes} (r : NodeRecord)
    → take (cells_end j) area' ≡ take (cells_end i) area ++ cells_numbers cs
    → Pushed (record_numbers r) s t → Stands i area s cs (r ∷ []) j area' t
stands_one r c a = record { cells = c; records = records-first r a }

-- A STEP
-- an accepted answer that is made of a node, which lays cs and rs
pub record Lies {B : Type 0} (view : Node Built → B) (a : Answer B) (cs : List Cell) (rs : List NodeRecord) (j m : ℕ)
    : Type 0 where
  pub node : Node Built
  pub answer : a ≡ ok (view node)
  pub lays : Lays 0 0 node cs rs j m

pub stage-lies : {a : Answer _} {s : Scope} {cs : List Cell} {rs : List NodeRecord} {j m : ℕ}
    → StageLaid a s 0 0 cs rs j m → Lies (λ d. stage_of d s) a cs rs j m
stage-lies h = record { node = h.node; answer = h.answer; lays = h.lays }

pub node-lies : {a : Answer (Node Built)} {cs : List Cell} {rs : List NodeRecord} {j m : ℕ}
    → NodeLaid a 0 0 cs rs j m → Lies (λ d. d) a cs rs j m
node-lies h = record { node = h.node; answer = h.answer; lays = h.lays }

-- accepted: whatever node stands before it, the step appends its cells and records to that node's
pub record Taken {B : Type 0} (view : Node Built → B) (a : Node Built → Answer B) (n m : ℕ) (area : List ℕ) (s : Nodes)
    (n' m' : ℕ) (area' : List ℕ) (t : Nodes) : Type 0 where
  pub cells : List Cell
  pub records : List NodeRecord
  pub lies : (d : Node Built) (cs : List Cell) (rs : List NodeRecord) → Lays 0 0 d cs rs n m
      → Lies view (a d) (cs ++ cells) (rs ++ records) n' m'
  pub stands : Stands n area s cells records n' area' t

-- refused, whatever node stands before it
abbrev pub StoppedWith : {B : Type 0} → (Node Built → Answer B) → ℕ → ℕ → code.Refusal → Type 0
StoppedWith a n m w = (d : Node Built) (cs : List Cell) (rs : List NodeRecord) → Lays 0 0 d cs rs n m → RefusedWith (a d) w

-- how far the step came, or its refusal
abbrev pub Stepped : Type 0
Stepped = Result Step code.Refusal

unfoldable pub StepAs : {B : Type 0} → (Node Built → B) → (Node Built → Answer B) → ℕ → ℕ → List ℕ → Nodes → List ℕ → Nodes
    → Stepped → Type 0
StepAs view a n m area s area' t (Ok p) = Taken view a n m area s p.cell p.node area' t
StepAs view a n m area s area' t (Err w) = StoppedWith a n m w

-- the step a behind n cells, m nodes and the numbers of s; what it makes of its node is view
pub record Steps {B : Type 0} (view : Node Built → B) (a : Node Built → Answer B) (n m : ℕ) (area : List ℕ) (s : Nodes)
    (area' : List ℕ) (t : Nodes) (r : Stepped) : Type 0 where
  pub kept : length area' ≡ length area
  pub kept-nodes : Kept s t
  pub is : StepAs view a n m area s area' t r

module _ {B : Type 0} {view : Node Built → B} {a : Node Built → Answer B} {n m : ℕ} {area : List ℕ} {s : Nodes}
    {area' : List ℕ} {t : Nodes} where
  pub step-done : {n' m' : ℕ} → length area' ≡ length area → Kept s t → Taken view a n m area s n' m' area' t
      → Steps view a n m area s area' t (Ok (record { cell = n'; node = m' }))
  unfolding StepAs
  step-done e f h = record { kept = e; kept-nodes = f; is = h }

  pub step-refused : {w : code.Refusal} → length area' ≡ length area → Kept s t → StoppedWith a n m w
      → Steps view a n m area s area' t (Err w)
  unfolding StepAs
  step-refused e f h = record { kept = e; kept-nodes = f; is = h }

  pub taken : {r : Stepped} (p : Step) → Steps view a n m area s area' t r → r ≡ Ok p
      → Taken view a n m area s p.cell p.node area' t
  unfolding StepAs
  taken p h e = rw e at h.is

  pub not_taken : {r : Stepped} (w : code.Refusal) → Steps view a n m area s area' t r → r ≡ Err w
      → StoppedWith a n m w
  unfolding StepAs
  not_taken w h e = rw e at h.is

-- nothing is appended
pub step-none : {B : Type 0} {view : Node Built → B} {a : Node Built → Answer B} {n m : ℕ} {area : List ℕ} {s : Nodes}
    → s.used ≤ length s.numbers.now → ((d : Node Built) → a d ≡ ok (view d))
    → Steps view a n m area s area s (Ok (record { cell = n; node = m }))
step-none {n = n} {m} {area} {s} h e = step-done refl (kept-all s) (record {
  cells = [];
  records = [];
  lies = λ d cs rs l. record { node = d; answer = e d; lays = rw (append-nil cs, append-nil rs) l };
  stands = stands-none n area s h;
})

-- WHAT STANDS SO FAR, from the header on: the node d with all its cells and records
pub record Standing (d : Node Built) (n m : ℕ) (area₀ : List ℕ) (s₀ : Nodes) (area : List ℕ) (s : Nodes) : Type 0 where
  pub cells : List Cell
  pub records : List NodeRecord
  pub lays : Lays 0 0 d cells records n m
  pub none : s₀.used ≡ 0
  pub stands : Stands 0 area₀ s₀ cells records n area s
  pub kept : length area ≡ length area₀

-- a step on
pub record Went {B : Type 0} (view : Node Built → B) (a : Answer B) (n m : ℕ) (area₀ : List ℕ) (s₀ : Nodes) (area : List ℕ)
    (s : Nodes) : Type 0 where
  pub node : Node Built
  pub answer : a ≡ ok (view node)
  pub standing : Standing node n m area₀ s₀ area s

pub standing_on : {B : Type 0} {view : Node Built → B} {a : Node Built → Answer B} {d : Node Built} {n m : ℕ}
    {area₀ : List ℕ} {s₀ : Nodes} {area : List ℕ} {s : Nodes} {area' : List ℕ} {t : Nodes} {r : Stepped} (p : Step)
    → Standing d n m area₀ s₀ area s → Steps view a n m area s area' t r → r ≡ Ok p
    → Went view (a d) p.cell p.node area₀ s₀ area' t
standing_on {d = d} p h g e =
    let k = taken p g e in
    let l = k.lies d h.cells h.records h.lays in
    record {
      node = l.node;
      answer = l.answer;
      standing = record {
        cells = h.cells ++ k.cells;
        records = h.records ++ k.records;
        lays = l.lays;
        none = h.none;
        stands = stands_on h.stands k.stands;
        kept = g.kept ∙ h.kept;
      };
    }

pub standing-refused : {B : Type 0} {view : Node Built → B} {a : Node Built → Answer B} {d : Node Built} {n m : ℕ}
    {area₀ : List ℕ} {s₀ : Nodes} {area : List ℕ} {s : Nodes} {area' : List ℕ} {t : Nodes} {r : Stepped} (w : code.Refusal)
    → Standing d n m area₀ s₀ area s → Steps view a n m area s area' t r → r ≡ Err w → RefusedWith (a d) w
standing-refused {d = d} w h g e = not_taken w g e d h.cells h.records h.lays
