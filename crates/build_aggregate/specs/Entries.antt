-- Entries of a node's record appended one after the other: the cells of their expressions to the area, their numbers to
-- the record. A loop over the rows of groups or of functions.
use Rattle.std.specs.Prelude.{ℕ, suc, ◌+◌, ◌*◌, ◌≤◌, ◌<◌, refl, length, get_or, take, drop, Ok, Err}
use Rattle.std.proofs.Common.{arith, add-one, ◌∙◌, drop_of_length-le, drop-cons}
use Rattle.std.proofs.Math.Path.{◌≡◌, sym, ap}
use mathlib.Core.List.{List, [], ◌∷◌, ◌++◌, map, append-nil, append_assoc}
use Rattle.rules.specs.Refusals.{Answer, ok, refused, ◌>>=◌}
use Rattle.rules.specs.Lists.{concat}
use Rattle.rules.specs.Ast.{Expr, size}
use Rattle.rules.specs.Plan.{Built}
use Rattle.rules.specs.Cells.{Cell}
use Rattle.rules.specs.Sizes.{total}
use Rattle.appends.specs.Answers.{ok_same, ok-not-refused}
use Rattle.appends.specs.Area.{cells_numbers, cells-numbers-append}
use Rattle.appends.specs.Lists.Each.{after, emit_each, emit_entry, after_none, each_step, each-stop, each-done}
use Rattle.plan.specs.Layout.{cells_end}
use Rattle.plan.specs.Cells.{Room, room-less}
use Rattle.plan.specs.Emits.{Written, written_of, Emits, accepted}
use Rattle.plan.specs.Pushed.{Kept, kept-on, Pushed, pushed-none}
use Rattle.plan.specs.declared.nodes.Nodes.{Nodes}
use Rattle.plan.specs.Steps.{RefusedWith}
use Rattle.numbers.specs.declared.refusals.Refusal.{Refusal}
use Rattle.build_aggregate.specs.Functions.{step_of}

-- WHAT IS APPENDED
-- cells from the n-th on, and behind the numbers of the nodes those that num makes of d
pub record Lists {D : Type 0} (num : D → List ℕ) (a : Answer (List Cell × D × ℕ)) (n : ℕ) (area area' : List ℕ)
    (s t : Nodes) (x : Written) : Type 0 where
  pub emits : Emits (step_of a) n area area' x
  pub kept : Kept s t
  pub numbers : (xs : List Cell) (d : D) (m : ℕ) → a ≡ ok (xs, d, m) → Pushed (num d) s t

-- what an accepted answer gave
pub record Gave {D : Type 0} (a : Answer (List Cell × D × ℕ)) (m : ℕ) : Type 0 where
  pub cells : List Cell
  pub entry : D
  pub is : a ≡ ok (cells, entry, m)

pub step-gave : {D : Type 0} (a : Answer (List Cell × D × ℕ)) (xs : List Cell) (m : ℕ) → step_of a ≡ ok (xs, m) → Gave a m
unfolding step_of ◌>>=◌
step-gave (ok p) xs m e =
    let j : p.2 ≡ m = ap (λ x. x.1) (ok_same e) in
    record { cells = p.0; entry = p.1; is = ap (λ (i : ℕ). ok (p.0, p.1, i)) j }
step-gave (refused w) xs m e = grind arith

pub gave : {D : Type 0} {num : D → List ℕ} {a : Answer (List Cell × D × ℕ)} {n : ℕ}
    {area area' : List ℕ} {s t : Nodes} {x : Written} (m : ℕ) → Lists num a n area area' s t x
    → x ≡ Ok m → Gave a m
gave {a = a} m l e = let d = accepted m l.emits e in step-gave a d.cells m d.is

-- a refusal
pub gave-refused : {D : Type 0} {num : D → List ℕ} {a : Answer (List Cell × D × ℕ)} {n : ℕ}
    {area area' : List ℕ} {s t : Nodes} {x : Written} (w : Refusal) → Lists num a n area area' s t x
    → x ≡ Err w → RefusedWith a w
unfolding step_of ◌>>=◌ written_of
gave-refused {D = D} {a = a} w h e = go a (sym e ∙ h.emits.answer)
  where
    go : (a : Answer (List Cell × D × ℕ)) → ◌≡◌ {A = Written} (Err w) (written_of (step_of a)) → RefusedWith a w
    go (ok p) g = grind arith
    go (refused v) g = record { why = v; is = refl; refusal = cc }

pub lists-refused : {D : Type 0} {num : D → List ℕ} {a : Answer (List Cell × D × ℕ)} {n : ℕ}
    {area area' : List ℕ} {s t : Nodes} (w : Refusal) → RefusedWith a w → length area' ≡ length area → Kept s t
    → Lists num a n area area' s t (Err w)
unfolding step_of ◌>>=◌ written_of
lists-refused {a = a} w r p q = record {
  emits = record {
    answer = ap Err r.refusal ∙ sym (rw r.is);
    kept = p;
    cells = λ cs m e. ok-not-refused _ r.why (sym e ∙ rw r.is);
  };
  kept = q;
  numbers = λ xs d m e. ok-not-refused _ r.why (sym e ∙ r.is);
}

-- KINDS OF ENTRIES: how they are built, whatever h is hidden, and their numbers, some each
pub record Listing (B C : Type 0) : Type 0 where
  pub key : B → Built
  pub mark : B → ℕ → C
  pub build : ℕ → Expr → Answer B
  pub num : List C → List ℕ
  pub none : num [] ≡ []
  pub on : (cs : List C) (d : C) {s t u : Nodes} → Pushed (num cs) s t → Pushed (num (d ∷ [])) t u
      → Pushed (num (cs ++ (d ∷ []))) s u
  pub each : ℕ
  pub length-each : (d : C) → length (num (d ∷ [])) ≡ each
  pub within : (h n : ℕ) (e : Expr) (xs : List Cell) (c : C) (m : ℕ)
      → emit_entry key mark (build h) n e ≡ ok (xs, c, m) → m ≤ n + 3 * size e

module _ {B C : Type 0} (L : Listing B C) where
  -- one entry is appended
  pub record Adds (e : Expr) (n : ℕ) (area area' : List ℕ) (s t : Nodes) (x : Written) : Type 0 where
    pub is : (h : ℕ) → Lists (λ c. L.num (c ∷ [])) (emit_entry L.key L.mark (L.build h) n e) n area area' s t x

  -- those of the rows
  pub record AddsAll (tree : ℕ → Expr) (rows : List ℕ) (n : ℕ) (area area' : List ℕ) (s t : Nodes) (x : Written)
      : Type 0 where
    pub is : (h : ℕ) → Lists L.num (emit_each L.key L.mark (L.build h) n (map tree rows)) n area area' s t x
    pub used : (m : ℕ) → x ≡ Ok m → t.used ≡ s.used + L.each * length rows
    pub most : (m : ℕ) → x ≡ Ok m → m ≤ n + 3 * total (λ r. size (tree r)) rows

  -- A LOOP: the entries so far, and the rest
  pub record Looping (h n : ℕ) (area₀ : List ℕ) (s₀ : Nodes) (es rest : List Expr) (m : ℕ) (area : List ℕ) (s : Nodes)
      : Type 0 where
    pub cells : List Cell
    pub entries : List C
    pub whole : after (cells, entries, m) (emit_each L.key L.mark (L.build h) m rest)
        ≡ emit_each L.key L.mark (L.build h) n es
    pub kept : length area ≡ length area₀
    pub written : take (cells_end m) area ≡ take (cells_end n) area₀ ++ cells_numbers cells
    pub numbers : Pushed (L.num entries) s₀ s

  begin : (h n : ℕ) (area : List ℕ) (s : Nodes) (es : List Expr) → s.used ≤ length s.numbers.now
      → Looping h n area s es es n area s
  unfolding cells_numbers concat
  begin h n area s es l = record {
    cells = [];
    entries = [];
    whole = after_none n _;
    kept = refl;
    written = sym (append-nil (take (cells_end n) area));
    numbers = rw L.none (pushed-none s l);
  }

  module _ {h n m : ℕ} {area₀ area area' : List ℕ} {s₀ s t : Nodes} {es : List Expr} {x : Written}
      (e : Expr) (rest : List Expr) (p : Looping h n area₀ s₀ es (e ∷ rest) m area s)
      (l : Lists (λ c. L.num (c ∷ [])) (emit_entry L.key L.mark (L.build h) m e) m area area' s t x) where
    more : (m' : ℕ) → x ≡ Ok m' → Looping h n area₀ s₀ es rest m' area' t
    unfolding step_of ◌>>=◌
    more m' d =
        let g = gave m' l d in
        let f = l.emits.cells g.cells m' (ap step_of g.is) in
        record {
          cells = p.cells ++ g.cells;
          entries = p.entries ++ (g.entry ∷ []);
          whole = sym (each_step L.key L.mark (L.build h) (p.cells, p.entries, m) e rest g.cells g.entry m'
              g.is) ∙ p.whole;
          kept = l.emits.kept ∙ p.kept;
          written = rw (
            f,
            p.written,
            cells-numbers-append p.cells g.cells,
            append_assoc,
          );
          numbers = L.on p.entries g.entry p.numbers (l.numbers g.cells g.entry m' g.is);
        }

    stopped : (w : Refusal) → x ≡ Err w → RefusedWith (emit_each L.key L.mark (L.build h) n es) w
    stopped w d =
        let r = gave-refused w l d in
        record {
          why = r.why;
          refusal = r.refusal;
          is = sym p.whole ∙ each-stop L.key L.mark (L.build h) (p.cells, p.entries, m) e rest r.why
              r.is;
        }

  finished : {h n m : ℕ} {area₀ area : List ℕ} {s₀ s : Nodes} {es : List Expr} → Looping h n area₀ s₀ es [] m area s
      → Lists L.num (emit_each L.key L.mark (L.build h) n es) n area₀ area s₀ s (Ok m)
  unfolding step_of ◌>>=◌ written_of
  finished {h} {n} {m} {es = es} p =
      let e : emit_each L.key L.mark (L.build h) n es ≡ ok (p.cells, p.entries, m) =
      sym p.whole ∙ each-done L.key L.mark (L.build h) (p.cells, p.entries, m) in
      record {
        emits = record {
          answer = sym (ap (λ a. written_of (step_of a)) e);
          kept = p.kept;
          cells = λ cs i f.
              let q : ◌≡◌ {A = List Cell × ℕ} (p.cells, m) (cs, i) = ok_same (sym (ap step_of e) ∙ f) in
              let u : p.cells ≡ cs = ap (λ r. r.0) q in
              let v : m ≡ i = ap (λ r. r.1) q in
              rw (← u, ← v) p.written;
        };
        kept = p.numbers.kept;
        numbers = λ xs d i f.
            let q : ◌≡◌ {A = List Cell × List C × ℕ} (p.cells, p.entries, m) (xs, d, i) = ok_same (sym e ∙ f) in
            let u : p.entries ≡ d = ap (λ r. r.1) q in
            rw (← u) p.numbers;
      }

-- THE ROWS
pub not_done : {w : Refusal} {m : ℕ} → ◌≡◌ {A = Written} (Err w) (Ok m) → ⊥
not_done e = grind arith

done-same : {m m' : ℕ} → ◌≡◌ {A = Written} (Ok m) (Ok m') → m ≡ m'
done-same e = cc

-- the rows from the i-th on are still to be appended, and have room
pub record RowLoop {B C : Type 0} (L : Listing B C) (tree : ℕ → Expr) (rows : List ℕ) (n : ℕ) (area₀ : List ℕ) (s₀ : Nodes)
    (i m : ℕ) (area : List ℕ) (s : Nodes) : Type 0 where
  pub at : (h : ℕ) → Looping L h n area₀ s₀ (map tree rows) (map tree (drop i rows)) m area s
  pub used : s.used ≡ s₀.used + L.each * i
  pub room : Room m (3 * total (λ r. size (tree r)) (drop i rows)) area
  pub few : m + 3 * total (λ r. size (tree r)) (drop i rows) ≤ n + 3 * total (λ r. size (tree r)) rows

module _ {B C : Type 0} (L : Listing B C) (tree : ℕ → Expr) (rows : List ℕ) (n : ℕ) (area : List ℕ) (s : Nodes) where
  pub rows-begin : Room n (3 * total (λ r. size (tree r)) rows) area → s.used ≤ length s.numbers.now
      → RowLoop L tree rows n area s 0 n area s
  rows-begin r l = record {
    at = λ h. begin L h n area s (map tree rows) l;
    used = omega arith;
    room = r;
    few = omega arith;
  }

module _ {B C : Type 0} {L : Listing B C} {tree : ℕ → Expr} {rows : List ℕ} {n : ℕ} {area₀ : List ℕ} {s₀ : Nodes} {i m : ℕ}
    {area : List ℕ} {s : Nodes} (p : RowLoop L tree rows n area₀ s₀ i m area s) where
  pub rows-nodes : Kept s₀ s
  rows-nodes = (p.at 0).numbers.kept

  module _ (l : i < length rows) where
    here : drop i rows ≡ get_or rows i 0 ∷ drop (suc i) rows
    here = drop-cons rows i 0 l

    looping : (h : ℕ) → Looping L h n area₀ s₀ (map tree rows)
        (tree (get_or rows i 0) ∷ map tree (drop (suc i) rows)) m area s
    looping h = rw here at (p.at h)

    sizes : total (λ r. size (tree r)) (drop i rows)
        ≡ size (tree (get_or rows i 0)) + total (λ r. size (tree r)) (drop (suc i) rows)
    unfolding total
    sizes = ap (total (λ r. size (tree r))) here

    pub row_room : Room m (3 * size (tree (get_or rows i 0))) area
    row_room = room-less _ (omega (arith, sizes)) p.room

    -- and for its numbers
    pub row_space : s₀.used + L.each * length rows ≤ length s₀.numbers.now → s.used + L.each ≤ length s.numbers.now
    row_space h =
        let z : L.each * i + L.each ≤ L.each * length rows = grind arith in
        omega (arith, z, p.used, rows-nodes.all)

    module _ {area' : List ℕ} {t : Nodes} {x : Written} (a : Adds L (tree (get_or rows i 0)) m area area' s t x) where
      pub rows_more : (m' : ℕ) → x ≡ Ok m' → RowLoop L tree rows n area₀ s₀ (i + 1) m' area' t
      rows_more m' d =
          let g = gave m' (a.is 0) d in
          let w = L.within 0 m (tree (get_or rows i 0)) g.cells g.entry m' g.is in
          let y = ((a.is 0).numbers g.cells g.entry m' g.is).appended.next in
          rw (add-one i) (record {
            at = λ h. more L (tree (get_or rows i 0)) (map tree (drop (suc i) rows)) (looping h) (a.is h) m' d;
            used = omega (arith, y, L.length-each g.entry, p.used);
            room = record {
              counted = omega (arith, sizes, w, p.room.counted);
              held = omega (arith, sizes, w, p.room.held, (a.is 0).emits.kept);
            };
            few = omega (arith, sizes, w, p.few);
          })

      pub rows-stop : (w : Refusal) → x ≡ Err w → AddsAll L tree rows n area₀ area' s₀ t (Err w)
      rows-stop w d = record {
        is = λ h. lists-refused w
            (stopped L (tree (get_or rows i 0)) (map tree (drop (suc i) rows)) (looping h) (a.is h) w d)
            ((a.is h).emits.kept ∙ (p.at h).kept) (kept-on (p.at h).numbers.kept (a.is h).kept);
        used = λ m' e. absurd (not_done e);
        most = λ m' e. absurd (not_done e);
      }

  pub rows-done : length rows ≤ i → i ≤ length rows → AddsAll L tree rows n area₀ area s₀ s (Ok m)
  rows-done g f =
      let e : i ≡ length rows = omega arith in
      record {
        is = λ h. finished L (rw (drop_of_length-le rows g) at (p.at h));
        used = λ m' d. rw (← e) p.used;
        most = λ m' d. omega (arith, p.few, done-same d);
      }
