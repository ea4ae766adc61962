-- DROP TABLE: the area at exit, from the own numbers.
use Rattle.std.specs.Prelude.{ℕ, ◌≤◌, ◌≡◌, refl, Bool, List, [], length, Ok}
use Rattle.std.proofs.Common.{arith, sym, ◌∙◌, append-nil}
use Rattle.rules.specs.Lists.{Bytes, concat}
use Rattle.rules.specs.Lines.{Word}
use Rattle.rules.specs.Places.{bytes_at, word_at}
use Rattle.rules.specs.Refusals.{ok}
use Rattle.rules.specs.Plan as P
use Rattle.rules.specs.Area.{span, own_numbers}
use Rattle.appends.specs.Area.{cells_numbers, records_numbers, drop-area}
use Rattle.numbers.specs.Values.{is_one}
use Rattle.statement.specs.Access.{name_address, name_length, drop_flag}
use Rattle.text.specs.declared.places.Place.{Place}
use Rattle.plan.specs.Layout.{drop_code, plan_size, most_plan_cells, nodes_size}
use Rattle.plan.specs.Places.{place_numbers}
use Rattle.plan.specs.Pushed.{Pushed, kept-all, pushed-none}
use Rattle.plan.specs.declared.nodes.Nodes.{Nodes}
use Rattle.plan.specs.Finished.{finished}
use Rattle.plan.specs.Exit.{pieces, drop-exit}
use Rattle.build_statement.specs.Plans.{Plans}
use Rattle.build_statement.specs.Ends.{span-at, finish-room, first-own, plan-count, planned}
use Rattle.build_statement.specs.Kinds.{Free, name_of}

-- the own numbers, from what was read
module _ (c q : Bytes) (parts : List ℕ) {s t : Nodes} {a n : ℕ} {p : Place} {y : Bool} (ha : a ≡ name_address parts)
    (hn : n ≡ name_length parts) (hp : p.address ≡ a) (hl : p.length ≡ length (bytes_at c q a n))
    (hy : y ≡ is_one (drop_flag parts)) (h : (w : Word) → span w ≡ place_numbers p → Pushed (own_numbers (P.drop w y)) s t) where
  pub drop_own : Pushed (own_numbers (P.drop (name_of c q parts) (is_one (drop_flag parts)))) s t
  drop_own = rw (← ha, ← hn, ← hy) (h (word_at c q a n) (span-at c q a n hp hl))

  pub drop-room : {area : List ℕ} → Free area s
      → (plan_size ≤ length area) × (0 ≤ most_plan_cells) × (s.used ≤ t.used) × (t.used ≤ nodes_size)
      × (t.used ≤ length t.numbers.now)
  drop-room f = finish-room f (kept-all s) drop_own (omega arith)

pub dropped : (w : Word) (y : Bool) (area area' : List ℕ) {s t : Nodes} → Free area s
    → Pushed (own_numbers (P.drop w y)) s t → length area' ≡ length area
    → area' ≡ finished drop_code 0 0 s.used t.used t.numbers.now area → Plans (ok (P.drop w y)) area area' (Ok 0)
unfolding records_numbers cells_numbers concat
dropped w y area area' {s} {t} f a l h =
    let p = pieces {cs = []} {n = 0} {t = area} [] (own_numbers (P.drop w y)) area refl (omega (arith, f.area_room)) (sym (append-nil _))
    f.none (pushed-none s (omega (arith, f.none))) a in
    planned (P.drop w y) refl (plan-count (P.drop w y) drop_code [] [] _ 0 0 (drop-area w y)) l
    ((rw f.none at h) ∙ drop-exit t.used t.numbers.now area area refl w y (first-own f.none p))
