-- The area at exit is the rules': of each statement's plan from its cells, nodes and own numbers, and of a refusal.
use Prim.Native.Nat.{ℕ, ◌+◌, ◌-◌, ◌≤◌, ◌<◌}
use Rattle.std.proofs.Common.{arith, sym, ◌∙◌, ltb→lt, drop_at, length-take-le}
use Rattle.std.specs.Prelude.{◌≡◌, refl, Bool, true, false, ltb, T, take}
use Rattle.std.proofs.Math.Path.{ap}
use mathlib.Core.List.{List, [], ◌∷◌, ◌++◌, append_assoc}
use Rattle.std.proofs.Math.Option.{Option}
use Rattle.std.proofs.Math.ListN.{length, drop, replicate, length-append}
use Rattle.rules.specs.Lines.{Word}
use Rattle.rules.specs.Limits.{least_area}
use Rattle.rules.specs.Refusals.{Refusal, ok, refused}
use Rattle.rules.specs.Schema.{Table}
use Rattle.rules.specs.Plan.{Built, Node, Mapping, Made, Plan}
use Rattle.rules.specs.Plan as P
use Rattle.rules.specs.Cells.{Cell}
use Rattle.rules.specs.Nodes.{NodeRecord}
use Rattle.rules.specs.Area.{span, header_size, map_numbers, set_numbers, own_numbers, plan_numbers}
use Rattle.rules.specs.Entry.{outcome, refused_area}
use Rattle.appends.specs.Area.{cells_numbers, records_numbers, header_of, area_of, create-area, drop-area}
use Rattle.plan.specs.Layout.{cells_end, select_code, create_code, drop_code, delete_code, insert_code, update_code}
use Rattle.plan.specs.Pushed.{Pushed}
use Rattle.plan.specs.declared.nodes.Nodes.{Nodes}
use Rattle.plan.specs.Finished.{finished}

-- n cells cs stand in t; the records rs are the first k numbers of s, and the own numbers ws those from k to e
pub record Pieces (cs : List Cell) (rs : List NodeRecord) (ws : List ℕ) (n k e : ℕ) (s t : List ℕ) : Type 0 where
  pub before : List ℕ
  pub header : length before ≡ header_size
  pub room : cells_end n ≤ length t
  pub cells : take (cells_end n) t ≡ before ++ cells_numbers cs
  pub nodes : take e s ≡ records_numbers rs ++ ws
  pub own : k ≡ length (records_numbers rs)
  pub end : e ≡ k + length ws

-- from what was appended to t₀, and pushed behind no numbers
pub pieces : {cs : List Cell} {n : ℕ} {r s u : Nodes} {t : List ℕ} (rs : List NodeRecord) (ws t₀ : List ℕ)
    → length t ≡ length t₀ → cells_end n ≤ length t
    → take (cells_end n) t ≡ take (cells_end 0) t₀ ++ cells_numbers cs
    → r.used ≡ 0 → Pushed (records_numbers rs) r s → Pushed ws s u → Pieces cs rs ws n s.used u.used u.numbers.now t
pieces rs ws t₀ l h c z a b = record {
  before = take header_size t₀;
  header = length-take-le header_size t₀ (omega (arith, l, h));
  room = h;
  cells = c;
  nodes = b.appended.numbers ∙ rw (a.appended.numbers, z);
  own = omega (arith, a.appended.next, z);
  end = b.appended.next;
}

-- THE AREA
module _ (cs : List Cell) (rs : List NodeRecord) (ws : List ℕ) (c n m k e : ℕ) (s t : List ℕ)
    (h : Pieces cs rs ws n k e s t) where
  area-size : length (area_of c cs rs ws n m) ≡ cells_end n + e
  unfolding area_of header_of
  area-size =
      let l : length (h.before ++ cells_numbers cs) ≡ cells_end n =
      rw (← h.cells) (length-take-le (cells_end n) t h.room) in
      rw (length-append (cells_numbers cs) (records_numbers rs ++ ws), length-append (records_numbers rs) ws)
      (omega (arith, l, length-append h.before (cells_numbers cs), h.header, h.own, h.end))

  finished-is : finished c n m k e s t ≡ area_of c cs rs ws n m ++ replicate (length t - (cells_end n + e)) 0
  unfolding finished area_of
  finished-is =
      let z : e - k ≡ length ws = omega (arith, h.end) in
      let d : drop header_size (take (cells_end n) t) ≡ cells_numbers cs =
      rw h.cells (drop_at h.before (cells_numbers cs) header_size h.header) in
      let hs : List ℕ = header_of c n m (length (records_numbers rs)) (length ws) in
      let os : List ℕ = replicate (length t - (cells_end n + e)) 0 in
      rw (z, h.own, d, h.nodes) (sym (append_assoc hs (cells_numbers cs ++ (records_numbers rs ++ ws)) os
      ∙ ap (λ xs. hs ++ xs) (append_assoc (cells_numbers cs) (records_numbers rs ++ ws) os)))

  finished-area : finished c n m k e s t
      ≡ area_of c cs rs ws n m ++ replicate (length t - length (area_of c cs rs ws n m)) 0
  finished-area = rw area-size finished-is

  -- a plan that is made of them, a the area at entry
  pub plan-exit : (p : Plan Built) (a : List ℕ) → plan_numbers p ≡ area_of c cs rs ws n m → length a ≡ length t
      → finished c n m k e s t ≡ (outcome a (ok p)).area
  unfolding outcome
  plan-exit p a f l = rw (f, l) finished-area

-- A REFUSAL, of an area that is long enough
pub refused-exit : (w : Refusal) (a : List ℕ) → least_area ≤ length a
    → replicate (length a) 0 ≡ (outcome a (refused w)).area
unfolding outcome refused_area
refused-exit w a h = go (ltb (length a) least_area) (ltb→lt (length a) least_area)
  where
    go : (b : Bool) → (T b → length a < least_area) → replicate (length a) 0 ≡ refused_area b a
    go true f = absurd (omega (arith, f tt))
    go false f = refl

-- EACH STATEMENT, by the area of its plan as the crate appends has it
module _ (cs : List Cell) (rs : List NodeRecord) (n m k e : ℕ) (s t a : List ℕ) (l : length a ≡ length t) where
  pub select-exit : (d : Node Built) → plan_numbers (P.select d) ≡ area_of select_code cs rs [] n m
      → Pieces cs rs [] n k e s t → finished select_code n m k e s t ≡ (outcome a (ok (P.select d))).area
  select-exit d f h = plan-exit cs rs [] select_code n m k e s t h (P.select d) a f l

  pub delete-exit : (b : Table) (d : Node Built) (p : Node ℕ)
      → plan_numbers (P.delete b d) ≡ area_of delete_code cs rs (span b.name ++ (b.key ∷ [])) n m
      → Pieces cs rs (own_numbers (P.delete b p)) n k e s t
      → finished delete_code n m k e s t ≡ (outcome a (ok (P.delete b d))).area
  unfolding own_numbers
  delete-exit b d p f h = plan-exit cs rs _ delete_code n m k e s t h (P.delete b d) a f l

  pub insert-exit : (b : Table) (o : Option (List Mapping)) (d : Node Built) (p : Node ℕ)
      → plan_numbers (P.insert b o d) ≡ area_of insert_code cs rs (span b.name ++ map_numbers o) n m
      → Pieces cs rs (own_numbers (P.insert b o p)) n k e s t
      → finished insert_code n m k e s t ≡ (outcome a (ok (P.insert b o d))).area
  unfolding own_numbers
  insert-exit b o d p f h = plan-exit cs rs _ insert_code n m k e s t h (P.insert b o d) a f l

  pub update-exit : (b : Table) (d : Node Built) (us : List (ℕ × Built)) (p : Node ℕ) (bs : List (ℕ × ℕ))
      → plan_numbers (P.update b d us)
      ≡ area_of update_code cs rs (span b.name ++ (b.key ∷ length bs ∷ set_numbers bs)) n m
      → Pieces cs rs (own_numbers (P.update b p bs)) n k e s t
      → finished update_code n m k e s t ≡ (outcome a (ok (P.update b d us))).area
  unfolding own_numbers
  update-exit b d us p bs f h = plan-exit cs rs _ update_code n m k e s t h (P.update b d us) a f l

-- no cell and no node
module _ (e : ℕ) (s t a : List ℕ) (l : length a ≡ length t) where
  pub create-exit : (w : Word) (key : ℕ) (ms : List Made) → Pieces [] [] (own_numbers (P.create w key ms)) 0 0 e s t
      → finished create_code 0 0 0 e s t ≡ (outcome a (ok (P.create w key ms))).area
  unfolding own_numbers
  create-exit w key ms h = plan-exit [] [] _ create_code 0 0 0 e s t h (P.create w key ms) a (create-area w key ms) l

  pub drop-exit : (w : Word) (y : Bool) → Pieces [] [] (own_numbers (P.drop w y)) 0 0 e s t
      → finished drop_code 0 0 0 e s t ≡ (outcome a (ok (P.drop w y))).area
  unfolding own_numbers
  drop-exit w y h = plan-exit [] [] _ drop_code 0 0 0 e s t h (P.drop w y) a (drop-area w y) l
