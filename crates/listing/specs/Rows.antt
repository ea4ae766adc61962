-- The loops over a node's parts.
use Rattle.std.specs.Prelude.{ℕ, zero, suc, ◌+◌, ◌*◌, ◌-◌, ◌≤◌, ◌<◌, ◌≡◌, refl, true, false, List, [], ◌∷◌, ◌++◌, eqb, length, get_or, drop, Option, Some, None, SomeIff}
use Rattle.std.specs.Option.{unwrap_or}
use Rattle.std.proofs.Common.{arith, add-one, sym, ap, ◌∙◌, append_assoc, append-nil, drop_of_length-le, drop-cons, get_or-drop, eq-eqb, ne_eqb}
use Rattle.rules.specs.Lists.{Bytes}
use Rattle.rules.specs.Lines.{bytes}
use Rattle.rules.specs.Print.{decimal_of}
use Rattle.listing.specs.declared.put.Writer.{Writer}
use Rattle.listing.specs.Fields.{Fields, fields-none, fields-then, fields-same}
use Rattle.listing.specs.Nodes.{number_fields, target_fields, row_fields}

-- ROWS
-- the fields of a number of the rows, by how many are left of its row, and how many are left then
unfoldable pub row_field : ℕ → ℕ → List Bytes
row_field left x = elim (eqb left 0) [ true ↦ bytes "row" ∷ decimal_of x ∷ [] | false ↦ decimal_of x ∷ [] ]

unfoldable pub left_after : ℕ → ℕ → ℕ
left_after left x = elim (eqb left 0) [ true ↦ x | false ↦ left - 1 ]

pub row_first : (left x : ℕ) → left ≡ 0 → bytes "row" ∷ decimal_of x ∷ [] ≡ row_field left x
unfolding row_field
row_first left x h = rw (row_field, eq-eqb left 0 h)

pub row_next : (left x : ℕ) → (left ≡ 0 → ⊥) → decimal_of x ∷ [] ≡ row_field left x
unfolding row_field
row_next left x h = rw (row_field, ne_eqb left 0 h)

pub left-first : (left x : ℕ) → left ≡ 0 → x ≡ left_after left x
unfolding left_after
left-first left x h = rw (left_after, eq-eqb left 0 h)

pub left-next : (left x : ℕ) → (left ≡ 0 → ⊥) → left - 1 ≡ left_after left x
unfolding left_after
left-next left x h = rw (left_after, ne_eqb left 0 h)

-- one less is left, or a row's length where none is
pub left_same : (left x : ℕ) {r : ℕ} (o : Option ℕ) → SomeIff o (1 ≤ left) (left - 1) → r ≡ unwrap_or o x → r ≡ left_after left x
left_same left x None h e = e ∙ left-first left x (omega (arith, h))
left_same left x (Some y) h e = e ∙ (h.1 ∙ left-next left x (λ z. omega (arith, h.0, z)))

row_step : (left x : ℕ) (t : List ℕ) → row_fields left (x ∷ t) ≡ row_field left x ++ row_fields (left_after left x) t
unfolding row_fields row_field left_after
row_step zero x t = refl
row_step (suc left) x t =
    let e : suc left - 1 ≡ left = omega arith in
    rw (row_field, left_after, ne_eqb (suc left) 0 (λ z. omega (arith, z)), e)

-- the fields of the first numbers are put, and those from i on are left
pub record RowLoop (w w' : Writer) (b : List ℕ) (left i : ℕ) : Type 0 where
  pub done : List Bytes
  pub put : Fields w w' done
  pub rest : done ++ row_fields left (drop i b) ≡ row_fields 0 b

pub rows-begin : {w : Writer} (b : List ℕ) → RowLoop w w b 0 0
rows-begin b = record { done = []; put = fields-none; rest = refl }

pub rows_more : {w w' w'' : Writer} {left l i : ℕ} (b : List ℕ) → RowLoop w w' b left i → i < length b
    → Fields w' w'' (row_field left (get_or b i 0)) → l ≡ left_after left (get_or b i 0) → RowLoop w w'' b l (i + 1)
rows_more {left = left} {i = i} b h g f e = record {
  done = h.done ++ row_field left (get_or b i 0);
  put = fields-then h.put f;
  rest = append_assoc h.done _ _ ∙ rw (e, add-one i) (ap (λ r. h.done ++ r)
      (sym (row_step left (get_or b i 0) (drop (suc i) b)))) ∙ (rw (drop-cons b i 0 g) at h.rest);
}

pub rows_all : {w w' : Writer} {left i : ℕ} (b : List ℕ) → RowLoop w w' b left i → length b ≤ i → Fields w w' (row_fields 0 b)
unfolding row_fields
rows_all {left = left} b h g =
    fields-same h.put (λ c q. sym (append-nil h.done) ∙ (rw (drop_of_length-le b g) at h.rest))

-- LOOPS
pub number_same : {x : ℕ} (s : List ℕ) (i : ℕ) → x ≡ get_or s i 0 → decimal_of x ∷ [] ≡ number_fields i (drop (i * 1) s)
unfolding number_fields
number_same s i e = let k : i * 1 + 0 ≡ i = omega arith in rw (get_or-drop (i * 1) s 0 0, k, e)

pub target_at : (s : List ℕ) (i : ℕ) → target_fields 0 (get_or s i 0 ∷ []) ≡ target_fields i (drop (i * 1) s)
unfolding target_fields
target_at s i = let k : i * 1 + 0 ≡ i = omega arith in sym (ap (λ x. target_fields 0 (x ∷ [])) (get_or-drop (i * 1) s 0 0 ∙ ap (λ j. get_or s j 0) k))
