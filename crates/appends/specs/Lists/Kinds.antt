-- The three kinds of list that a statement has: expressions, and expressions paired with something behind or before.
use Rattle.std.specs.Prelude.{ℕ, ◌+◌, ◌≡◌, refl, List, [], ◌∷◌, map}
use Rattle.std.proofs.Math.Path.{sym}
use Rattle.std.proofs.Common.{ap, ◌∙◌}
use Rattle.std.proofs.lemmas.List.{map-id}
use Rattle.rules.specs.Refusals.{Refusal, Answer, ok, refused}
use Rattle.rules.specs.Ast.{Expr}
use Rattle.rules.specs.Plan.{Built}
use Rattle.rules.specs.Cells.{Cell, built_count, root, count_all, cells_all, roots, number_first, number_second}
use Rattle.rules.specs.Scope.{Scope}
use Rattle.rules.specs.BuildExpression.{build, each}
use Rattle.appends.specs.Lists.Each.{Entries, numbered, emit_each, each-ok, each-refused}

-- expressions over a scope
unfoldable pub emit_all : Scope → ℕ → List Expr → Answer (Entries ℕ)
emit_all s = emit_each (λ b. b) (λ b r. r) (build s)

-- items with their aliases, order keys with their directions
unfoldable pub emit_firsts : {A B : Type 0} → (A → Answer (Built × B)) → ℕ → List A → Answer (Entries (ℕ × B))
emit_firsts f = emit_each (λ b. b.0) (λ b r. (r, b.1)) f

-- aggregate functions with their arguments, columns with what they are set to
unfoldable pub emit_seconds : {A B : Type 0} → (A → Answer (B × Built)) → ℕ → List A → Answer (Entries (B × ℕ))
emit_seconds f = emit_each (λ b. b.1) (λ b r. (b.0, r)) f

-- NUMBERS: as the rules have them
numbered-roots : (bs : List Built) (n : ℕ) → numbered (λ b. b) (λ b r. r) n bs ≡ roots n bs
unfolding numbered roots
numbered-roots [] n = refl
numbered-roots (b ∷ bs) n = ap (λ r. root n b ∷ r) (numbered-roots bs (n + built_count b))

numbered-first : {B : Type 0} (bs : List (Built × B)) (n : ℕ)
    → numbered {C = ℕ × B} (λ b. b.0) (λ b r. (r, b.1)) n bs ≡ number_first n bs
unfolding numbered number_first
numbered-first [] n = refl
numbered-first {B = B} (b ∷ bs) n =
    ap (λ (r : List (ℕ × B)). (root n b.0, b.1) ∷ r) (numbered-first bs (n + built_count b.0))

numbered-second : {B : Type 0} (bs : List (B × Built)) (n : ℕ)
    → numbered {C = B × ℕ} (λ b. b.1) (λ b r. (b.0, r)) n bs ≡ number_second n bs
unfolding numbered number_second
numbered-second [] n = refl
numbered-second {B = B} (b ∷ bs) n =
    ap (λ (r : List (B × ℕ)). (b.0, root n b.1) ∷ r) (numbered-second bs (n + built_count b.1))

-- WHAT WAS BUILT
pub record AllListed (s : Scope) (es : List Expr) (n : ℕ) (xs : List Cell) (ns : List ℕ) (m : ℕ) : Type 0 where
  pub built : List Built
  pub answer : each (build s) es ≡ ok built
  pub cells : cells_all n built ≡ xs
  pub numbers : roots n built ≡ ns
  pub next : n + count_all built ≡ m

pub all-ok : (s : Scope) (es : List Expr) (n : ℕ) (xs : List Cell) (ns : List ℕ) (m : ℕ)
    → emit_all s n es ≡ ok (xs, ns, m)
    → AllListed s es n xs ns m
unfolding emit_all
all-ok s es n xs ns m e =
    let o = each-ok (λ b. b) (λ b r. r) (build s) es n xs ns m e in
    record {
      built = o.built;
      answer = o.answer;
      cells = ap (cells_all n) (sym (map-id o.built)) ∙ o.cells;
      numbers = sym (numbered-roots o.built n) ∙ o.numbers;
      next = ap (λ z. n + count_all z) (sym (map-id o.built)) ∙ o.next;
    }

pub all-refused : (s : Scope) (es : List Expr) (n : ℕ) (w : Refusal) → emit_all s n es ≡ refused w
    → each (build s) es ≡ refused w
unfolding emit_all
all-refused s es n w e = each-refused (λ b. b) (λ b r. r) (build s) es n w e

module _ {A B : Type 0} (f : A → Answer (Built × B)) where
  pub record FirstsListed (es : List A) (n : ℕ) (xs : List Cell) (ns : List (ℕ × B)) (m : ℕ) : Type 0 where
    pub built : List (Built × B)
    pub answer : each f es ≡ ok built
    pub cells : cells_all n (map (λ b. b.0) built) ≡ xs
    pub numbers : number_first n built ≡ ns
    pub next : n + count_all (map (λ b. b.0) built) ≡ m

  pub firsts-ok : (es : List A) (n : ℕ) (xs : List Cell) (ns : List (ℕ × B)) (m : ℕ)
      → emit_firsts f n es ≡ ok (xs, ns, m)
      → FirstsListed es n xs ns m
  unfolding emit_firsts
  firsts-ok es n xs ns m e =
      let o = each-ok (λ b. b.0) (λ b r. (r, b.1)) f es n xs ns m e in
      record {
        built = o.built;
        answer = o.answer;
        cells = o.cells;
        numbers = sym (numbered-first o.built n) ∙ o.numbers;
        next = o.next;
      }

  pub firsts-refused : (es : List A) (n : ℕ) (w : Refusal) → emit_firsts f n es ≡ refused w → each f es ≡ refused w
  unfolding emit_firsts
  firsts-refused es n w e = each-refused (λ b. b.0) (λ b r. (r, b.1)) f es n w e

module _ {A B : Type 0} (f : A → Answer (B × Built)) where
  pub record SecondsListed (es : List A) (n : ℕ) (xs : List Cell) (ns : List (B × ℕ)) (m : ℕ) : Type 0 where
    pub built : List (B × Built)
    pub answer : each f es ≡ ok built
    pub cells : cells_all n (map (λ b. b.1) built) ≡ xs
    pub numbers : number_second n built ≡ ns
    pub next : n + count_all (map (λ b. b.1) built) ≡ m

  pub seconds-ok : (es : List A) (n : ℕ) (xs : List Cell) (ns : List (B × ℕ)) (m : ℕ)
      → emit_seconds f n es ≡ ok (xs, ns, m)
      → SecondsListed es n xs ns m
  unfolding emit_seconds
  seconds-ok es n xs ns m e =
      let o = each-ok (λ b. b.1) (λ b r. (b.0, r)) f es n xs ns m e in
      record {
        built = o.built;
        answer = o.answer;
        cells = o.cells;
        numbers = sym (numbered-second o.built n) ∙ o.numbers;
        next = o.next;
      }

  pub seconds-refused : (es : List A) (n : ℕ) (w : Refusal) → emit_seconds f n es ≡ refused w → each f es ≡ refused w
  unfolding emit_seconds
  seconds-refused es n w e = each-refused (λ b. b.1) (λ b r. (b.0, r)) f es n w e
