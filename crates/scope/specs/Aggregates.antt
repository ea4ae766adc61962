-- The child scope of groups and aggregates: a column for each row that is retained, matched to its expression.
use Prim.Native.Nat.{ℕ, suc, ◌+◌}
use Rattle.std.proofs.Common.{arith, ◌∙◌}
use Rattle.std.specs.Prelude.{◌≡◌, Bool}
use Rattle.std.proofs.Math.Path.{refl, ap}
use Rattle.std.proofs.Math.Bool.{true, false}
use mathlib.Core.List.{List, [], ◌∷◌, ◌++◌, map, append-nil, append_assoc}
use Rattle.std.proofs.Math.Option.{some}
use Rattle.std.proofs.Math.ListN.{length, length-map}
use Rattle.rules.specs.Lists.{any, is_some}
use Rattle.rules.specs.Ast.{Expr}
use Rattle.rules.specs.Equality.{equal}
use Rattle.rules.specs.Scope as rules
use Rattle.rules.specs.Scope.{label_of, match_at, matched, add_match, add_column, add_aggregate}
use Rattle.rules.specs.BuildAggregate.{Retained, keep}
use Rattle.rules.specs.BuildAggregate as build
use Rattle.std.proofs.lemmas.List.{map-append}
use Rattle.scope.specs.Scopes.{matches_of}
use Rattle.scope.specs.NewMatch.{match-more}
use Rattle.scope.specs.Retain.{has_equal, retained}

-- a child of the scope p with a column for each of the rows ks
unfoldable pub child_of : rules.Scope → (ℕ → Expr) → List ℕ → rules.Scope
child_of p e ks = record {
  columns = map (λ k. label_of p (e k)) ks;
  tables = p.tables;
  aggregates = matches_of e 0 (map suc ks);
  hidden = [];
}

some-equal : (e : ℕ → Expr) (x : Expr) (i : ℕ) (ks : List ℕ) → is_some (match_at (matches_of e i (map suc ks)) x) ≡ has_equal e ks x
unfolding match_at matches_of has_equal any is_some
some-equal e x i [] = refl
some-equal e x i (k ∷ ks) = go (equal (e k) x) (some-equal e x (suc i) ks)
  where
    go : (b : Bool) → is_some (match_at (matches_of e (suc i) (map suc ks)) x) ≡ any (λ j. equal (e j) x) ks
        → is_some {A = ℕ} (elim b [ true ↦ some i | false ↦ match_at (matches_of e (suc i) (map suc ks)) x ])
        ≡ elim b [ true ↦ true | false ↦ any (λ j. equal (e j) x) ks ]
    go true h = refl
    go false h = h

module _ (p : rules.Scope) (e : ℕ → Expr) where
  -- an expression that the child has not is added
  child-more : (ks : List ℕ) (r : ℕ) → has_equal e ks (e r) ≡ false
      → add_aggregate p (e r) (child_of p e ks) ≡ child_of p e (ks ++ (r ∷ []))
  unfolding add_aggregate add_match add_column matched child_of rules.width
  child-more ks r h =
      let n : length (map (λ k. label_of p (e k)) ks) ≡ length ks = length-map ks (λ k. label_of p (e k)) in
      let z : is_some (match_at (matches_of e 0 (map suc ks)) (e r)) ≡ false = some-equal e (e r) 0 ks ∙ h in
      let y : 0 + length (map suc ks) ≡ length ks = omega (arith, length-map ks suc) in
      rw (add_match, z, n, map-append suc ks (r ∷ []), match-more e 0 (map suc ks) r, y, map-append (λ k. label_of p (e k)) ks (r ∷ []))

  child-matched : (ks : List ℕ) (x : Expr) → is_some (matched (child_of p e ks) x) ≡ has_equal e ks x
  unfolding matched child_of
  child-matched ks x = some-equal e x 0 ks

  retain-child : (rs ks : List ℕ) → build.retain p (map e rs) (child_of p e ks)
      ≡ record { exprs = map e (retained e ks rs); scope = child_of p e (ks ++ retained e ks rs) }
  unfolding build.retain build.keep retained
  retain-child [] ks = rw append-nil
  retain-child (r ∷ rs) ks =
      go (has_equal e ks (e r)) refl (retain-child rs ks) (retain-child rs (ks ++ (r ∷ [])))
    where
      go : (b : Bool) → has_equal e ks (e r) ≡ b
          → build.retain p (map e rs) (child_of p e ks)
          ≡ record { exprs = map e (retained e ks rs); scope = child_of p e (ks ++ retained e ks rs) }
          → build.retain p (map e rs) (child_of p e (ks ++ (r ∷ [])))
          ≡ record {
            exprs = map e (retained e (ks ++ (r ∷ [])) rs);
            scope = child_of p e ((ks ++ (r ∷ [])) ++ retained e (ks ++ (r ∷ [])) rs);
          }
          → build.retain p (e r ∷ map e rs) (child_of p e ks)
          ≡ record {
            exprs = map e (retained e ks (r ∷ rs));
            scope = child_of p e (ks ++ retained e ks (r ∷ rs));
          }
      go true h f g =
          let z : is_some (matched (child_of p e ks) (e r)) ≡ true = child-matched ks (e r) ∙ h in
          rw (build.retain, z, retained, h) f
      go false h f g =
          let z : is_some (matched (child_of p e ks) (e r)) ≡ false = child-matched ks (e r) ∙ h in
          rw (build.retain, z, retained, h, child-more ks r h, g, append_assoc ks (r ∷ []) (retained e (ks ++ (r ∷ [])) rs))

  -- the groups that are built, and the functions
  pub retain-groups : (gs : List ℕ) → build.retain_groups p (map e gs)
      ≡ record { exprs = map e (retained e [] gs); scope = child_of p e (retained e [] gs) }
  unfolding build.retain_groups rules.spawn child_of matches_of
  retain-groups gs = retain-child gs []

  pub retain-functions : (gs fs : List ℕ) → build.retain_functions p (map e gs) (map e fs)
      ≡ record {
        exprs = map e (retained e (retained e [] gs) fs);
        scope = child_of p e (retained e [] gs ++ retained e (retained e [] gs) fs);
      }
  unfolding build.retain_functions
  retain-functions gs fs =
      ap (λ (x : Retained). build.retain p (map e fs) x.scope) (retain-groups gs)
      ∙ retain-child fs (retained e [] gs)
