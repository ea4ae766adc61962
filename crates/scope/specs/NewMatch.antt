-- A match behind others: a row where no equal expression is matched before, else nothing.
use Rattle.std.specs.Prelude.{ℕ, zero, suc, ◌+◌, ◌-◌, ◌≤◌, ◌<◌, min, ◌≡◌, refl, Bool, true, false, List, [], ◌∷◌, ◌++◌, ltb, length, get_or, take, set, Option, Some, None}
use Rattle.std.proofs.Common.{arith, add-one, ap, sym, ◌∙◌, length-set, take-suc-set, take-suc, ltb-true, ltb-false}
use Rattle.rules.specs.Limits.{most_columns}
use Rattle.rules.specs.Lists.{Bytes, is_some}
use Rattle.rules.specs.Lines.{Word}
use Rattle.rules.specs.Ast.{Expr}
use Rattle.rules.specs.Plan.{Label}
use Rattle.rules.specs.Scope as rules
use Rattle.rules.specs.Scope.{match_at, matched, add_match}
use Rattle.ast.specs.Table.{tree_at}
use Rattle.ast.specs.Operands.{tree-at, tree-outside}
use Rattle.scope.specs.Scopes.{matches_of, no-match}
use Rattle.numbers.specs.Options.{option_of}

-- ROWS AS MATCHES
-- the last row that a match has room for
abbrev pub most_row : ℕ
most_row = 65534

-- a row as a match
unfoldable pub match_number : ℕ → ℕ
match_number r = suc (min r most_row)

-- no table is so long that a row past the last has an expression of its own
pub row_kept : (c q : Bytes) (t : List ℕ) (r : ℕ) → length t ≤ most_row
    → tree_at c q t (min r most_row) ≡ tree_at c q t r
row_kept c q t r h = go (ltb r most_row) refl
  where
    go : (b : Bool) → ltb r most_row ≡ b → tree_at c q t (min r most_row) ≡ tree_at c q t r
    go true e =
        let l : r < most_row = ltb-true r most_row e in
        let z : min r most_row ≡ r = omega arith in
        rw z
    go false e =
        let l : most_row ≤ r = ltb-false r most_row e in
        let z : min r most_row ≡ most_row = omega arith in
        rw z (tree-at c q t most_row ∙ tree-outside (tree_at c q t) c q t most_row h
        ∙ sym (tree-at c q t r ∙ tree-outside (tree_at c q t) c q t r (omega arith)))

-- A NEW MATCH
-- what is matched to a column behind those that ms are matched to, for a row
unfoldable pub new_match : (ℕ → Expr) → List ℕ → ℕ → ℕ
new_match e ms r = elim (is_some (match_at (matches_of e 0 ms) (e r))) [ true ↦ 0 | false ↦ match_number r ]

module _ (e : ℕ → Expr) (ms : List ℕ) (r : ℕ) {m : Option ℕ} (h : option_of m ≡ match_at (matches_of e 0 ms) (e r)) where
  pub new_none : {i : ℕ} → m ≡ Some i → 0 ≡ new_match e ms r
  unfolding new_match is_some
  new_none g = rw (new_match, ← h, g)

  pub new_row : m ≡ None → match_number r ≡ new_match e ms r
  unfolding new_match is_some
  new_row g = rw (new_match, ← h, g)

-- the same for a match that is passed on
unfoldable pub pass_match : (ℕ → Expr) → List ℕ → ℕ → ℕ
pass_match e ms zero = 0
pass_match e ms (suc r) = new_match e ms r

pub pass-none : (e : ℕ → Expr) (ms : List ℕ) (m : ℕ) → m ≡ 0 → 0 ≡ pass_match e ms m
unfolding pass_match
pass-none e ms m h = rw h

pub pass-some : (e : ℕ → Expr) (ms : List ℕ) (m x : ℕ) → (m ≡ 0 → ⊥) → x ≡ new_match e ms (m - 1) → x ≡ pass_match e ms m
unfolding pass_match
pass-some e ms m x h g = let z : m ≡ suc (m - 1) = omega arith in g ∙ sym (ap (pass_match e ms) z)

-- one match more
pub match-more : (e : ℕ → Expr) (i : ℕ) (ms : List ℕ) (r : ℕ)
    → matches_of e i (ms ++ (suc r ∷ [])) ≡ matches_of e i ms ++ (record { expr = e r; column = i + length ms } ∷ [])
unfolding matches_of
match-more e i [] r = let z : i + 0 ≡ i = omega arith in rw z
match-more e i (zero ∷ ms) r =
    let z : i + suc (length ms) ≡ suc i + length ms = omega arith in
    rw z (match-more e (suc i) ms r)
match-more e i (suc k ∷ ms) r =
    let z : i + suc (length ms) ≡ suc i + length ms = omega arith in
    rw z (ap (λ l. record { expr = e k; column = i } ∷ l) (match-more e (suc i) ms r))

-- added in a scope of these columns
pub add-new : (e : ℕ → Expr) (ms : List ℕ) (r : ℕ) (cs : List Label) (ts : List Word) (hs : List ℕ)
    → e (min r most_row) ≡ e r
    → add_match (e r) (length ms) (record { columns = cs; tables = ts; aggregates = matches_of e 0 ms; hidden = hs })
    ≡ record { columns = cs; tables = ts; aggregates = matches_of e 0 (ms ++ (new_match e ms r ∷ [])); hidden = hs }
unfolding add_match matched new_match match_number
add-new e ms r cs ts hs h = go (is_some (match_at (matches_of e 0 ms) (e r)))
  where
    go : (b : Bool)
        → ◌≡◌ {A = rules.Scope} (elim b [
          | true ↦ record { columns = cs; tables = ts; aggregates = matches_of e 0 ms; hidden = hs }
          | false ↦ record {
            columns = cs;
            tables = ts;
            aggregates = matches_of e 0 ms ++ (record { expr = e r; column = length ms } ∷ []);
            hidden = hs;
          }
        ]) (record {
          columns = cs;
          tables = ts;
          aggregates = matches_of e 0 (ms ++ (elim b [ true ↦ 0 | false ↦ suc (min r most_row) ] ∷ []));
          hidden = hs;
        })
    go true = rw (no-match e 0 ms)
    go false =
        let z : 0 + length ms ≡ length ms = omega arith in
        rw (match-more e 0 ms (min r most_row), h, z)

-- SEVERAL
-- what is matched to columns for the rows rs, the first of equals
unfoldable pub new_matches : (ℕ → Expr) → List ℕ → List ℕ → List ℕ
new_matches e ms [] = ms
new_matches e ms (r ∷ rs) = new_matches e (ms ++ (new_match e ms r ∷ [])) rs

new-more : (e : ℕ → Expr) (ms rs : List ℕ) (r : ℕ)
    → new_matches e ms (rs ++ (r ∷ [])) ≡ new_matches e ms rs ++ (new_match e (new_matches e ms rs) r ∷ [])
unfolding new_matches
new-more e ms [] r = refl
new-more e ms (k ∷ rs) r = new-more e (ms ++ (new_match e ms k ∷ [])) rs r

-- j of them are stored
pub record Storing (e : ℕ → Expr) (rs : List ℕ) (j : ℕ) (ls : List ℕ) : Type 0 where
  pub room : length ls ≡ most_columns
  pub numbers : take j ls ≡ new_matches e [] (take j rs)

pub storing-begin : (e : ℕ → Expr) (rs : List ℕ) {ls : List ℕ} → length ls ≡ most_columns → Storing e rs 0 ls
unfolding new_matches
storing-begin e rs h = record { room = h; numbers = refl }

pub storing-more : {e : ℕ → Expr} {rs : List ℕ} {j : ℕ} {ls : List ℕ} (v : ℕ) → Storing e rs j ls → j < most_columns
    → j < length rs → v ≡ new_match e (take j ls) (get_or rs j 0) → Storing e rs (j + 1) (set ls j v)
storing-more {e} {rs} {j} {ls} v t h g y =
    let l : j < length ls = omega (arith, t.room) in
    record {
      room = length-set ls j v ∙ t.room;
      numbers = rw (add-one j, take-suc-set ls j v l, take-suc rs j 0 g, new-more e [] (take j rs) (get_or rs j 0))
          (rw (y, t.numbers));
    }
