-- What is built for values, rows and their node: cells in the area, numbers behind those of the nodes; and a loop that
-- builds one entry after the other.
use Rattle.std.specs.Prelude.{ℕ, ◌≤◌, ◌≡◌, refl, List, [], ◌∷◌, ◌++◌, length, take, Result, Ok, Err}
use Rattle.std.proofs.Math.Path.{sym}
use Rattle.std.proofs.Common.{ap, ◌∙◌, append_assoc, append-nil}
use Rattle.rules.specs.Refusals.{Refusal, Answer, ok, refused}
use Rattle.rules.specs.Lists.{concat}
use Rattle.rules.specs.Cells.{Cell}
use Rattle.rules.specs.Nodes.{values}
use Rattle.rules.specs.Area.{row_numbers}
use Rattle.appends.specs.Area.{cells_numbers, records_numbers, cells-numbers-append}
use Rattle.appends.specs.Lists.Each.{Entries, after, after_none, after-end}
use Rattle.numbers.specs.declared.refusals.Refusal as code
use Rattle.plan.specs.Layout.{cells_end}
use Rattle.plan.specs.Pushed.{Kept, Pushed, pushed-none}
use Rattle.plan.specs.declared.nodes.Nodes.{Nodes}
use Rattle.plan.specs.Steps.{RefusedWith, refused-on}

-- the next cell, or the refusal
abbrev pub Listed : Type 0
Listed = Result ℕ code.Refusal

-- the numbers of a root, of several, of a row, and of the values node
abbrev pub one_root : ℕ → List ℕ
one_root r = r ∷ []

abbrev pub all_roots : List ℕ → List ℕ
all_roots ns = ns

abbrev pub one_row : List ℕ → List ℕ
one_row ns = row_numbers (ns ∷ [])

abbrev pub values_node : List (List ℕ) → List ℕ
values_node rs = records_numbers (values rs ∷ [])

module _ {D : Type 0} (num : D → List ℕ) where
  -- accepted: cells from the n-th on, the next is m; behind the numbers of s those of an entry
  pub record Stands (a : Answer (List Cell × D × ℕ)) (n : ℕ) (area area' : List ℕ) (s t : Nodes) (m : ℕ) : Type 0 where
    pub cells : List Cell
    pub entry : D
    pub is : a ≡ ok (cells, entry, m)
    pub stand : take (cells_end m) area' ≡ take (cells_end n) area ++ cells_numbers cells
    pub numbers : Pushed (num entry) s t

  unfoldable pub ListsAs : Answer (List Cell × D × ℕ) → ℕ → List ℕ → List ℕ → Nodes → Nodes → Listed → Type 0
  ListsAs a n area area' s t (Ok m) = Stands a n area area' s t m
  ListsAs a n area area' s t (Err w) = RefusedWith a w

  -- r is the answer a; where it is refused, the numbers of the area and the nodes are not determined
  pub record Lists (a : Answer (List Cell × D × ℕ)) (n : ℕ) (area area' : List ℕ) (s t : Nodes) (r : Listed) : Type 0 where
    pub kept : length area' ≡ length area
    pub all : Kept s t
    pub is : ListsAs a n area area' s t r

  module _ {a : Answer (List Cell × D × ℕ)} {n : ℕ} {area area' : List ℕ} {s t : Nodes} where
    pub lists-done : {m : ℕ} → length area' ≡ length area → Stands a n area area' s t m → Lists a n area area' s t (Ok m)
    unfolding ListsAs
    lists-done l d = record { kept = l; all = d.numbers.kept; is = d }

    pub lists-refused : {w : code.Refusal} → length area' ≡ length area → Kept s t → RefusedWith a w
        → Lists a n area area' s t (Err w)
    unfolding ListsAs
    lists-refused l o w = record { kept = l; all = o; is = w }

    module _ {r : Listed} (h : Lists a n area area' s t r) where
      pub was-done : (m : ℕ) → r ≡ Ok m → Stands a n area area' s t m
      unfolding ListsAs
      was-done m e = rw e at h.is

      pub was-refused : (w : code.Refusal) → r ≡ Err w → RefusedWith a w
      unfolding ListsAs
      was-refused w e = rw e at h.is

-- A LOOP: the entries so far, and the rest by the next cell
module _ {C : Type 0} (num : List C → List ℕ) where
  pub record SoFar (a : Answer (Entries C)) (rest : ℕ → Answer (Entries C)) (n : ℕ) (area₀ : List ℕ) (s : Nodes)
      (m : ℕ) (area : List ℕ) (t : Nodes) : Type 0 where
    pub cells : List Cell
    pub entries : List C
    pub whole : a ≡ after (cells, entries, m) (rest m)
    pub kept : length area ≡ length area₀
    pub stand : take (cells_end m) area ≡ take (cells_end n) area₀ ++ cells_numbers cells
    pub numbers : Pushed (num entries) s t

  pub so-far-none : (rest : ℕ → Answer (Entries C)) (n : ℕ) (area : List ℕ) (s : Nodes) → num [] ≡ []
      → s.used ≤ length s.numbers.now → SoFar (rest n) rest n area s n area s
  unfolding cells_numbers concat
  so-far-none rest n area s e l = record {
    cells = [];
    entries = [];
    whole = sym (after_none n (rest n));
    kept = refl;
    stand = sym (append-nil (take (cells_end n) area));
    numbers = rw e (pushed-none s l);
  }

  module _ {a : Answer (Entries C)} {n : ℕ} {area₀ : List ℕ} {s : Nodes} {m : ℕ} {area : List ℕ} {t : Nodes}
      (rest : ℕ → Answer (Entries C)) (p : SoFar a rest n area₀ s m area t) where
    -- one entry more
    pub so_far_more : {b : Answer (List Cell × C × ℕ)} {area' : List ℕ} {u : Nodes} {m' : ℕ}
        (rest' : ℕ → Answer (Entries C)) → length area' ≡ length area
        → (d : Stands (λ d. num (d ∷ [])) b m area area' t u m')
        → after (p.cells, p.entries, m) (rest m)
        ≡ after (p.cells ++ d.cells, p.entries ++ (d.entry ∷ []), m') (rest' m')
        → Pushed (num (p.entries ++ (d.entry ∷ []))) s u → SoFar a rest' n area₀ s m' area' u
    so_far_more rest' l d e o = record {
      cells = p.cells ++ d.cells;
      entries = p.entries ++ (d.entry ∷ []);
      whole = p.whole ∙ e;
      kept = l ∙ p.kept;
      stand = d.stand ∙ rw (p.stand, cells-numbers-append p.cells d.cells)
          (append_assoc (take (cells_end n) area₀) (cells_numbers p.cells) (cells_numbers d.cells));
      numbers = o;
    }

    -- a refused one
    pub so-far-stop : {B : Type 0} {b : Answer B} {w : code.Refusal} → RefusedWith b w
        → ((v : Refusal) → b ≡ refused v → after (p.cells, p.entries, m) (rest m) ≡ refused v) → RefusedWith a w
    so-far-stop r e = refused-on r (λ v f. p.whole ∙ e v f)

    -- no more
    pub so-far-all : rest m ≡ ok ([], [], m) → Lists num a n area₀ area s t (Ok m)
    so-far-all e = lists-done num p.kept (record {
      cells = p.cells;
      entry = p.entries;
      is = p.whole ∙ ap (after (p.cells, p.entries, m)) e ∙ after-end (p.cells, p.entries, m);
      stand = p.stand;
      numbers = p.numbers;
    })
