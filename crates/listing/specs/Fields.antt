-- Fields, each behind a tab, and lines of them.
use Rattle.std.specs.Prelude.{◌≡◌, refl, List, [], ◌∷◌, ◌++◌}
use Rattle.std.proofs.Common.{sym, ap, append_assoc, append-nil}
use Rattle.rules.specs.Lists.{Bytes}
use Rattle.listing.specs.declared.put.Writer.{Writer}
use Rattle.listing.specs.Put.{Puts, puts-none, puts-then, puts-same}

unfoldable pub fields : List Bytes → Bytes
fields [] = []
fields (f ∷ fs) = 9 ∷ (f ++ fields fs)

pub fields-append : (xs ys : List Bytes) → fields (xs ++ ys) ≡ fields xs ++ fields ys
unfolding fields
fields-append [] ys = refl
fields-append (x ∷ xs) ys = rw (fields-append xs ys) (ap (λ r. 9 ∷ r) (sym (append_assoc x (fields xs) (fields ys))))

-- the fields that f gives of the two texts, put by a writer, which is w' then
pub record FieldsIn (w w' : Writer) (f : Bytes → Bytes → List Bytes) : Type 0 where
  pub puts : Puts w w' (fields (f w.texts.catalog.now w.texts.statement.now))

-- fields that do not depend on the texts
abbrev pub Fields : Writer → Writer → List Bytes → Type 0
Fields w w' fs = FieldsIn w w' (λ c q. fs)

pub fields-none : {w : Writer} → FieldsIn w w (λ c q. [])
unfolding fields
fields-none {w} = record { puts = puts-none w }

pub field : {w w₁ w₂ : Writer} {b : Bytes} → Puts w w₁ (9 ∷ []) → Puts w₁ w₂ b → FieldsIn w w₂ (λ c q. b ∷ [])
unfolding fields
field {b = b} h g = record { puts = puts-same (puts-then h g) (sym (ap (λ r. 9 ∷ r) (append-nil b))) }

pub fields-then : {w w₁ w₂ : Writer} {f g : Bytes → Bytes → List Bytes} → FieldsIn w w₁ f → FieldsIn w₁ w₂ g
    → FieldsIn w w₂ (λ c q. f c q ++ g c q)
fields-then {w} {w₁} {w₂} {f} {g} h k =
    let e : Puts w₁ w₂ (fields (g w.texts.catalog.now w.texts.statement.now)) =
    puts-same k.puts (rw h.puts.texts refl) in
    record { puts = puts-same (puts-then h.puts e) (sym (fields-append (f w.texts.catalog.now w.texts.statement.now) _)) }

pub fields-same : {w w' : Writer} {f g : Bytes → Bytes → List Bytes} → FieldsIn w w' f → ((c q : Bytes) → f c q ≡ g c q)
    → FieldsIn w w' g
fields-same {w} h e = record { puts = puts-same h.puts (ap fields (e w.texts.catalog.now w.texts.statement.now)) }
