-- Lists of expressions built one after the other.
use Rattle.std.specs.Prelude.{◌≡◌, refl, List, [], ◌∷◌, ◌++◌, map}
use Rattle.std.proofs.Math.Option.{Option, none, some}
use Rattle.rules.specs.Refusals.{Answer, ok, ◌>>=◌}
use Rattle.rules.specs.Lists.{given}
use Rattle.rules.specs.Ast.{Expr}
use Rattle.rules.specs.Plan.{Built}
use Rattle.rules.specs.Scope.{Scope}
use Rattle.rules.specs.BuildExpression.{build, each, build_option}
use Rattle.rules.specs.Order.{Use, over, build_use}
use Rattle.claims.specs.Answers.{Ensures, then, known, ensured}

-- these uses are built, and are these expressions
unfoldable pub Builds : List Use → List Built → Type 0
Builds us xs = each build_use us ≡ ok xs

pub builds-none : Builds [] []
unfolding Builds each
builds-none = refl

pub builds-one : (u : Use) (x : Built) → build_use u ≡ ok x → Builds (u ∷ []) (x ∷ [])
unfolding Builds each ◌>>=◌
builds-one u x e = rw e

cons-builds : (u : Use) (us : List Use) (x : Built) (xs : List Built) → build_use u ≡ ok x → Builds us xs → Builds (u ∷ us) (x ∷ xs)
unfolding Builds each ◌>>=◌
cons-builds u us x xs e h = rw (e, h)

-- taken apart: the first, and the others
record Parts (u : Use) (us : List Use) (xs : List Built) : Type 0 where
  head : Built
  tail : List Built
  first : build_use u ≡ ok head
  rest : Builds us tail
  whole : xs ≡ head ∷ tail

builds-parts : (u : Use) (us : List Use) (xs : List Built) → Builds (u ∷ us) xs → Parts u us xs
unfolding Builds each
builds-parts u us xs h = ensured (each build_use (u ∷ us)) (Parts u us)
    (known (build_use u) _ _ λ x e. known (each build_use us) _ _ λ ys f. record { head = x; tail = ys; first = e; rest = f; whole = refl }) xs h

pub builds-append : (us vs : List Use) (xs ys : List Built) → Builds us xs → Builds vs ys → Builds (us ++ vs) (xs ++ ys)
unfolding Builds each
builds-append [] vs xs ys h g = let e : xs ≡ [] = cc in rw e g
builds-append (u ∷ us) vs xs ys h g =
    let p = builds-parts u us xs h in
    rw p.whole (cons-builds u (us ++ vs) p.head _ p.first (builds-append us vs p.tail ys p.rest g))

-- what each answers in turn, where each gives its use's expression
pub each-builds : {A B : Type 0} (u : A → Use) (f : A → Answer B) (p : B → Built)
    → ((a : A) → Ensures (f a) (λ b. build_use (u a) ≡ ok (p b)))
    → (as' : List A) → Ensures (each f as') (λ bs. Builds (map u as') (map p bs))
unfolding each
each-builds u f p k [] = builds-none
each-builds u f p k (a ∷ as') =
    then (f a) _ _ _ (k a) λ b e. then (each f as') _ _ _ (each-builds u f p k as') λ bs g. cons-builds (u a) _ (p b) _ e g

-- the same of what cannot be refused
pub all-builds : {A : Type 0} (u : A → Use) (p : A → Built) → ((a : A) → build_use (u a) ≡ ok (p a))
    → (as' : List A) → Builds (map u as') (map p as')
all-builds u p k [] = builds-none
all-builds u p k (a ∷ as') = cons-builds (u a) _ (p a) _ (k a) (all-builds u p k as')

-- expressions over one scope
pub over-builds : (s : Scope) (es : List Expr) → Ensures (each (build s) es) (λ xs. Builds (map (over s) es) xs)
unfolding each
over-builds s [] = builds-none
over-builds s (e ∷ es) = known (build s e) _ _ λ x h.
    then (each (build s) es) _ _ _ (over-builds s es) λ xs g. cons-builds (over s e) _ x xs (unfold build_use in h) g

-- an expression that may be missing
pub option-builds : (s : Scope) (o : Option Expr) → Ensures (build_option s o) (λ x. Builds (map (over s) (given o)) (given x))
unfolding build_option given
option-builds s none = builds-none
option-builds s (some e) = known (build s e) _ _ λ x h. builds-one (over s e) x (unfold build_use in h)
