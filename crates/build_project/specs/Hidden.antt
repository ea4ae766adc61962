-- The hidden columns' cells and parts of the record.
use Rattle.std.specs.Prelude.{ℕ, suc, ◌+◌, ◌-◌, ◌*◌, ◌≤◌, ◌<◌, ◌≡◌, refl, List, [], ◌∷◌, ◌++◌, map, length, get_or, take}
use Rattle.std.proofs.Common.{arith, add-one, sym, ap, ◌∙◌, append-nil, take-suc, length-take-le}
use Rattle.std.proofs.Math.Option.{Option, none}
use Rattle.std.proofs.lemmas.List.{length-map}
use Rattle.rules.specs.Refusals.{ok, ◌>>=◌}
use Rattle.rules.specs.Lists.{concat}
use Rattle.rules.specs.Lines.{Word}
use Rattle.rules.specs.Cells.{column}
use Rattle.rules.specs.Area.{option_span, item_numbers}
use Rattle.rules.specs.Hidden.{HiddenColumn}
use Rattle.rules.specs.BuildSelect.{hidden_built}
use Rattle.std.proofs.lemmas.List.{map-append}
use Rattle.appends.specs.Area.{cells_numbers}
use Rattle.appends.specs.Lists.Each.{joined, after, entries-same, each-end, each_more}
use Rattle.appends.specs.Lists.Kinds.{emit_firsts}
use Rattle.appends.specs.Lists.Entry.{emit_first, hidden-step}
use Rattle.plan.specs.Layout.{cells_end, item_size}
use Rattle.plan.specs.Cells.{Room, Puts, puts_then}
use Rattle.plan.specs.Pushed.{Pushed, pushed-none}
use Rattle.plan.specs.declared.nodes.Nodes.{Nodes}
use Rattle.plan.specs.Parts.{items-on}
use Rattle.build_projection.specs.Pushes.{items-none}
use Rattle.claims.specs.Room.Nodes.{items-size}

-- the parts of columns whose cells stand from the n-th on
unfoldable pub column_parts : ℕ → List ℕ → List (ℕ × Option Word)
column_parts n [] = []
column_parts n (p ∷ ps) = (n, none) ∷ column_parts (n + 1) ps

-- the columns at the positions ps: their cells from the n-th on, and their parts
pub record ColumnsPut (ps : List ℕ) (n : ℕ) (area area' : List ℕ) (u v : Nodes) : Type 0 where
  pub cells : Puts n (map column ps) area area'
  pub parts : Pushed (item_numbers (column_parts n ps)) u v

-- AS THE RULES HAVE THEM
abbrev pub positions_of : List HiddenColumn → List ℕ
positions_of hs = map (λ (h : HiddenColumn). h.position) hs

pub hidden-emits : (hs : List HiddenColumn) (n : ℕ) → emit_firsts (λ d. ok (hidden_built d)) n hs
    ≡ ok (map column (positions_of hs), column_parts n (positions_of hs), n + length hs)
unfolding emit_firsts emit_first column_parts after joined ◌>>=◌
hidden-emits [] n =
    each-end (λ b. b.0) (λ b r. (r, b.1)) (λ d. ok (hidden_built d)) n
    ∙ ap ok (entries-same refl refl (omega arith))
hidden-emits (h ∷ hs) n =
    each_more (λ b. b.0) (λ b r. (r, b.1)) (λ d. ok (hidden_built d)) h hs n
    ∙ rw (hidden-step n h, hidden-emits hs (n + 1)) (ap ok (entries-same refl refl (omega arith)))

-- ONE AFTER THE OTHER
part-more : (ps : List ℕ) (n p : ℕ) → column_parts n (ps ++ (p ∷ [])) ≡ column_parts n ps ++ ((n + length ps, none) ∷ [])
unfolding column_parts
part-more [] n p = let z : n + 0 ≡ n = omega arith in rw z
part-more (x ∷ ps) n p =
    let z : n + suc (length ps) ≡ n + 1 + length ps = omega arith in
    rw (z, part-more ps (n + 1) p)

-- of the columns, i are put
pub record Putting (ps : List ℕ) (n : ℕ) (area₀ area : List ℕ) (u₀ u : Nodes) (i : ℕ) : Type 0 where
  pub within : i ≤ length ps
  pub room : Room n (length ps) area
  pub space : u.used + item_size * (length ps - i) ≤ length u.numbers.now
  pub put : ColumnsPut (take i ps) n area₀ area u₀ u

pub putting-begin : (ps : List ℕ) (n : ℕ) (area : List ℕ) (u : Nodes) → Room n (length ps) area
    → u.used + item_size * length ps ≤ length u.numbers.now → Putting ps n area area u u 0
unfolding column_parts cells_numbers concat
putting-begin ps n area u h g =
    let l : u.used ≤ length u.numbers.now = omega arith in
    let z : n + 0 ≡ n = omega arith in
    record {
      within = omega arith;
      room = h;
      space = omega arith;
      put = record {
        cells = record { kept = refl; cells = rw z (sym (append-nil (take (cells_end n) area))) };
        parts = rw items-none (pushed-none u l);
      };
    }

module _ {ps : List ℕ} {n : ℕ} {area₀ area : List ℕ} {u₀ u : Nodes} {i : ℕ}
    (h : Putting ps n area₀ area u₀ u i) (l : i < length ps) where
  pub putting-more : {area' : List ℕ} {v : Nodes} {at : ℕ} → at ≡ n + i → Puts at (column (get_or ps i 0) ∷ []) area area'
      → Pushed (item_numbers ((at, none) ∷ [])) u v → Putting ps n area₀ area' u₀ v (i + 1)
  putting-more {at = at} e c p =
      let t : length (take i ps) ≡ i = length-take-le i ps (omega arith) in
      let b : n + length (map column (take i ps)) ≡ n + i = rw (length-map (take i ps) column, t) in
      let w : take (i + 1) ps ≡ take i ps ++ (get_or ps i 0 ∷ []) = rw (add-one i) (take-suc ps i 0 l) in
      let three : length (item_numbers ((at, none) ∷ [])) ≡ item_size = items-size ((at, none) ∷ []) in
      let w' : n + length (take i ps) ≡ at = rw t (sym e) in
      record {
        within = omega arith;
        room = record {
          counted = h.room.counted;
          held = omega (arith, h.room.held, c.kept);
        };
        space = omega (arith, h.space, p.appended.next, three, p.kept.all);
        put = rw w (record {
          cells = rw (map-append column (take i ps) (get_or ps i 0 ∷ [])) (puts_then h.put.cells (b ∙ sym e) c);
          parts = rw (part-more (take i ps) n (get_or ps i 0), w') (items-on _ _ h.put.parts p);
        });
      }

-- no alias
pub no-alias : option_span none ≡ 0 ∷ 0 ∷ []
unfolding option_span
no-alias = refl
