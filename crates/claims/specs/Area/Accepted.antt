-- What the entry accepts: an area and texts of the lengths asked for, and a catalog that can be read.
use Rattle.std.specs.Prelude.{ℕ, ◌≤◌, ◌≡◌, refl, Bool, true, false, ltb, length}
use Rattle.std.proofs.Common.{arith, ltb-false, le-ltb}
use Rattle.rules.specs.Refusals.{Text, catalog, statement, Reason, short_area, limit_passed, Answer, ok, refused, ◌>>=◌}
use Rattle.rules.specs.Limits.{most_bytes, least_area}
use Rattle.rules.specs.Lists.{Bytes}
use Rattle.rules.specs.Schema.{Catalog}
use Rattle.rules.specs.Ast.{Statement}
use Rattle.rules.specs.ReadCatalog.{read_catalog}
use Rattle.rules.specs.ReadStatement.{read_statement}
use Rattle.rules.specs.Plan.{Built, Plan}
use Rattle.rules.specs.BuildStatement.{build_statement}
use Rattle.rules.specs.Entry.{plan_of, entry}

-- the area and the texts have the lengths asked for, and the plan is the texts'
pub record Accepted (n : ℕ) (c q : Bytes) (p : Plan Built) : Type 0 where
  pub area : least_area ≤ n
  pub catalog : length c ≤ most_bytes
  pub statement : length q ≤ most_bytes
  pub planned : plan_of c q ≡ ok p

-- so it is whenever the entry accepts
pub accepted : (n : ℕ) (c q : Bytes) (p : Plan Built) → entry n c q ≡ ok p → Accepted n c q p
unfolding entry
accepted n c q p = go (ltb n least_area) (ltb most_bytes (length c)) (ltb most_bytes (length q)) refl refl refl
  where
    stop : Reason → Text → Answer (Plan Built)
    stop r t = refused (record { reason = r; text = t; line = 0 })

    refusal : {r : Reason} {t : Text} {A : Type 0} → stop r t ≡ ok p → A
    refusal e = grind arith

    go : (i j k : Bool) → ltb n least_area ≡ i → ltb most_bytes (length c) ≡ j → ltb most_bytes (length q) ≡ k
        → elim i [
          | true ↦ stop short_area statement
          | false ↦ elim j [
            | true ↦ stop limit_passed catalog
            | false ↦ elim k [ true ↦ stop limit_passed statement | false ↦ plan_of c q ]
          ]
        ] ≡ ok p
        → Accepted n c q p
    go true j k d e f h = refusal h
    go false true k d e f h = refusal h
    go false false true d e f h = refusal h
    go false false false d e f h = record {
      area = ltb-false n least_area d;
      catalog = ltb-false most_bytes (length c) e;
      statement = ltb-false most_bytes (length q) f;
      planned = h;
    }

-- the catalog that an accepted plan was made over
pub catalog-read : (c q : Bytes) (p : Plan Built) → plan_of c q ≡ ok p → (ts : Catalog) × (read_catalog c ≡ ok ts)
unfolding plan_of ◌>>=◌
catalog-read c q p = go (read_catalog c) refl
  where
    go : (m : Answer Catalog) → read_catalog c ≡ m → (m >>= λ ts. read_statement q >>= λ s. build_statement ts s) ≡ ok p
        → (ts : Catalog) × (read_catalog c ≡ ok ts)
    go (ok ts) e h = (ts, e)
    go (refused r) e h = grind arith

-- Where the texts are read and neither they nor the area are refused, the entry answers what building the statement does.
pub entry-built : (n : ℕ) (c q : Bytes) (ts : Catalog) (s : Statement) → least_area ≤ n → length c ≤ most_bytes → length q ≤ most_bytes
    → read_catalog c ≡ ok ts → read_statement q ≡ ok s → entry n c q ≡ build_statement ts s
unfolding entry plan_of ◌>>=◌
entry-built n c q ts s ha hc hq ht hs =
    rw (entry, le-ltb n least_area ha, le-ltb most_bytes (length c) hc, le-ltb most_bytes (length q) hq) (rw (ht, hs))
