-- The rules' entry, where the area is long enough: both texts read, then the statement built.
use Rattle.std.specs.Prelude.{ℕ, ◌≤◌, ◌≡◌, refl, Bool, true, false, ltb, length}
use Rattle.std.proofs.Common.{le-ltb}
use Rattle.rules.specs.Refusals.{Answer, ok, refused, refuse, ◌>>=◌}
use Rattle.rules.specs.Limits.{most_bytes, least_area}
use Rattle.rules.specs.Lists.{Bytes}
use Rattle.rules.specs.Schema.{Catalog}
use Rattle.rules.specs.Ast.{Statement}
use Rattle.rules.specs.Ast as Ast
use Rattle.rules.specs.Plan.{Built, Plan}
use Rattle.rules.specs.ReadCatalog.{read_catalog}
use Rattle.rules.specs.ReadStatement.{read_statement}
use Rattle.rules.specs.BuildStatement.{build_statement}
use Rattle.rules.specs.Entry.{plan_of, entry}
use Rattle.reader.specs.Texts.{not_other, both_of, read_texts}

-- the plan of texts that were read
unfoldable pub planned : Catalog × Statement → Answer (Plan Built)
planned x = build_statement x.0 x.1

-- what is built of a statement that was read: `other` is refused alike
built : (ts : Catalog) (s : Statement) → build_statement ts s ≡ ((not_other s >>= λ s'. ok (ts, s')) >>= planned)
unfolding not_other build_statement planned ◌>>=◌ refuse
built ts (Ast.select q) = refl
built ts (Ast.create d) = refl
built ts (Ast.drop d) = refl
built ts (Ast.delete d) = refl
built ts (Ast.insert d) = refl
built ts (Ast.update d) = refl
built ts (Ast.other l) = refl

plan_of-reads : (c q : Bytes) → plan_of c q ≡ (both_of c q >>= planned)
unfolding plan_of both_of ◌>>=◌
plan_of-reads c q = go (read_catalog c) (read_statement q) refl refl
  where
    go : (a : Answer Catalog) (b : Answer Statement) → read_catalog c ≡ a → read_statement q ≡ b → plan_of c q ≡ (both_of c q >>= planned)
    go (refused r) b e g = rw (plan_of, both_of, e)
    go (ok ts) (refused r) e g = rw (plan_of, both_of, e, g)
    go (ok ts) (ok s) e g = rw (plan_of, both_of, e, g) (built ts s)

pub entry-reads : (n : ℕ) (c q : Bytes) → least_area ≤ n → entry n c q ≡ (read_texts c q >>= planned)
unfolding entry read_texts ◌>>=◌
entry-reads n c q h = go (ltb most_bytes (length c)) (ltb most_bytes (length q)) refl refl
  where
    go : (a b : Bool) → ltb most_bytes (length c) ≡ a → ltb most_bytes (length q) ≡ b → entry n c q ≡ (read_texts c q >>= planned)
    go true b e g = rw (entry, le-ltb n least_area h, read_texts, e)
    go false true e g = rw (entry, le-ltb n least_area h, read_texts, e, g)
    go false false e g = rw (entry, le-ltb n least_area h, read_texts, e, g) (plan_of-reads c q)
