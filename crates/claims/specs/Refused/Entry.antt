-- The numbers with which each statement can be refused, and every refusal of the entry by its cause.
use Rattle.std.specs.Prelude.{ℕ, ◌≤◌, ◌<◌, ◌≡◌, refl, Bool, true, false, List, [], ◌∷◌, eqb, ltb, length}
use Rattle.std.proofs.Common.{sym, ap, ◌∙◌, ltb-true, ltb-false, arith}
use Rattle.std.proofs.lemmas.Bool.{false≢true}
use Rattle.rules.specs.Refusals.{catalog, statement, refusal_number, short_area, limit_passed, other_statement, Refusal}
use Rattle.rules.specs.Refusals.{Answer, ok, refused}
use Rattle.rules.specs.Limits.{most_bytes, least_area}
use Rattle.rules.specs.Lists.{Bytes, any}
use Rattle.rules.specs.Schema.{Catalog}
use Rattle.rules.specs.Ast.{Statement, select, delete, insert, update, create, drop, other}
use Rattle.rules.specs.ReadCatalog.{read_catalog}
use Rattle.rules.specs.ReadStatement.{read_statement}
use Rattle.rules.specs.Plan.{Built, Plan}
use Rattle.rules.specs.BuildStatement.{build_statement}
use Rattle.rules.specs.Entry.{plan_of, entry}
use Rattle.claims.specs.Refused.Refuses.{Refuses, accepted, refused-with, first, refuses-weaken, Has, Among}
use Rattle.claims.specs.Refused.Refuses.{refuse-among}
use Rattle.claims.specs.Refused.Statements.{delete-refusals, insert-refusals, update-refusals, create-refusals}
use Rattle.claims.specs.Refused.Select.{select-refusals}
use Rattle.claims.specs.Refused.Texts.{catalog-text, statement-text}

-- STATEMENTS
-- the numbers with which a statement can be refused
unfoldable pub possible : Statement → List ℕ
possible (select q) =
    3 ∷ 5 ∷ 6 ∷ 7 ∷ 8 ∷ 9 ∷ 10 ∷ 11 ∷ 12 ∷ 13 ∷ 14 ∷ 15 ∷ 16 ∷ 17 ∷ 18 ∷ 19 ∷ 25 ∷ 26 ∷ 27 ∷ 28 ∷ 29 ∷ []
possible (delete d) = 5 ∷ 7 ∷ 8 ∷ 9 ∷ 10 ∷ 12 ∷ 13 ∷ 29 ∷ []
possible (insert d) = 5 ∷ 10 ∷ 12 ∷ 13 ∷ 22 ∷ 23 ∷ 29 ∷ []
possible (update d) = 5 ∷ 7 ∷ 8 ∷ 9 ∷ 10 ∷ 12 ∷ 13 ∷ 24 ∷ 29 ∷ []
possible (create d) = 10 ∷ 12 ∷ 13 ∷ 20 ∷ 21 ∷ 25 ∷ 26 ∷ 27 ∷ 28 ∷ 29 ∷ []
possible (drop d) = []
possible (other l) = 4 ∷ []

pub statement-refusals : (c : Catalog) (s : Statement) → Refuses (build_statement c s) (Among statement (possible s))
unfolding build_statement possible refusal_number any
statement-refusals c (select q) = select-refusals c q
statement-refusals c (delete d) = delete-refusals c d
statement-refusals c (insert d) = insert-refusals c d
statement-refusals c (update d) = update-refusals c d
statement-refusals c (create d) = create-refusals d
statement-refusals c (drop d) = accepted
statement-refusals c (other l) = refuse-among other_statement l refl

-- THE ENTRY
-- the area is long enough and neither text too long
pub record Lengths (n : ℕ) (c q : Bytes) : Type 0 where
  pub area : least_area ≤ n
  pub catalog : length c ≤ most_bytes
  pub statement : length q ≤ most_bytes

-- the causes in order: a later one is met only where no earlier one is
pub data Cause (n : ℕ) (c q : Bytes) (r : Refusal) : Type 0 where
  short_of_area : n < least_area → r ≡ record { reason = short_area; text = statement; line = 0 } → Cause n c q r
  long_catalog : least_area ≤ n → most_bytes < length c → r ≡ record { reason = limit_passed; text = catalog; line = 0 }
      → Cause n c q r
  long_statement : least_area ≤ n → length c ≤ most_bytes → most_bytes < length q
      → r ≡ record { reason = limit_passed; text = statement; line = 0 } → Cause n c q r
  in_catalog : Lengths n c q → read_catalog c ≡ refused r → Among catalog (2 ∷ 3 ∷ []) r → Cause n c q r
  in_statement : Lengths n c q → (ts : Catalog) → read_catalog c ≡ ok ts
      → read_statement q ≡ refused r → Among statement (2 ∷ 3 ∷ []) r → Cause n c q r
  in_planning : Lengths n c q → (ts : Catalog) → read_catalog c ≡ ok ts → (s : Statement) → read_statement q ≡ ok s
      → build_statement ts s ≡ refused r → Among statement (possible s) r → Cause n c q r

-- what holds of a refusal, and that it is one
known : {A : Type 0} {m : Answer A} {R : Refusal → Type 0} → Refuses m R → Refuses m (λ r. (m ≡ refused r) × R r)
known h = record { refusal = λ r e. (e, h.refusal r e) }

pub entry-refusals : (n : ℕ) (c q : Bytes) → Refuses (entry n c q) (Cause n c q)
unfolding entry plan_of
entry-refusals n c q = go (ltb n least_area) refl (ltb most_bytes (length c)) refl (ltb most_bytes (length q)) refl
  where
    go : (x : Bool) → ltb n least_area ≡ x → (y : Bool) → ltb most_bytes (length c) ≡ y
        → (z : Bool) → ltb most_bytes (length q) ≡ z → Refuses {A = Plan Built} (elim x [
          | true ↦ refused (record { reason = short_area; text = statement; line = 0 })
          | false ↦ elim y [
            | true ↦ refused (record { reason = limit_passed; text = catalog; line = 0 })
            | false ↦ elim z [
              | true ↦ refused (record { reason = limit_passed; text = statement; line = 0 })
              | false ↦ plan_of c q
            ]
          ]
        ]) (Cause n c q)
    go true e y f z g = refused-with (short_of_area (ltb-true n least_area e) refl)
    go false e true f z g = refused-with (long_catalog (ltb-false n least_area e) (ltb-true most_bytes (length c) f) refl)
    go false e false f true g = refused-with (long_statement
        (ltb-false n least_area e) (ltb-false most_bytes (length c) f) (ltb-true most_bytes (length q) g) refl)
    go false e false f false g =
        let b : Lengths n c q = record {
          area = ltb-false n least_area e;
          catalog = ltb-false most_bytes (length c) f;
          statement = ltb-false most_bytes (length q) g;
        } in
        first (refuses-weaken (λ r h. in_catalog b h.0 h.1) (known (catalog-text c))) λ ts u.
        first (refuses-weaken (λ r h. in_statement b ts u h.0 h.1) (known (statement-text q))) λ s v.
        refuses-weaken (λ r h. in_planning b ts u s v h.0 h.1) (known (statement-refusals ts s))

-- 1 is given only where the area is too short
pub short-area : (n : ℕ) (c q : Bytes) (r : Refusal) → entry n c q ≡ refused r → r.reason ≡ short_area → n < least_area
unfolding any possible refusal_number
short-area n c q r e h = go ((entry-refusals n c q).refusal r e)
  where
    not-among : (ns : List ℕ) → any (eqb 1) ns ≡ false → Has ns (refusal_number r.reason) → ⊥
    not-among ns f g = false≢true (sym f ∙ (rw h at g))

    never : (s : Statement) → any (eqb 1) (possible s) ≡ false
    never (select q) = refl
    never (delete d) = refl
    never (insert d) = refl
    never (update d) = refl
    never (create d) = refl
    never (drop d) = refl
    never (other l) = refl

    limit : r.reason ≡ limit_passed → ⊥
    limit p = grind arith

    go : Cause n c q r → n < least_area
    go (short_of_area a p) = a
    go (long_catalog a b p) = absurd (limit (ap (λ (x : Refusal). x.reason) p))
    go (long_statement a b d p) = absurd (limit (ap (λ (x : Refusal). x.reason) p))
    go (in_catalog b u g) = absurd (not-among (2 ∷ 3 ∷ []) refl g.number)
    go (in_statement b ts u v g) = absurd (not-among (2 ∷ 3 ∷ []) refl g.number)
    go (in_planning b ts u s v w g) = absurd (not-among (possible s) (never s) g.number)
