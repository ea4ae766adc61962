-- One record at a position of the statement, and the rules' expression by its first record.
use Prim.Native.Nat.{ℕ, zero, suc, ◌+◌, ◌-◌, ◌≤◌, ◌<◌}
use Rattle.std.proofs.Common.{arith, add-one, sym, ap, ◌∙◌, drop_of_length-le}
use Rattle.std.proofs.Math.Decide.{dec_lt}
use Rattle.std.specs.Prelude.{◌≡◌, [], ◌∷◌, length, Some, None}
use Rattle.std.proofs.Math.Path.{refl}
use Rattle.std.proofs.Math.Option.{Option, none, some}
use borrow.Author.Tests.{lt-ltb, le-ltb}
use Rattle.rules.specs.Refusals.{statement, wrong_record, limit_passed, ok}
use Rattle.rules.specs.Limits.{most_cells}
use Rattle.rules.specs.Lists.{Bytes, same, named}
use Rattle.rules.specs.Lines.{bytes, fields, empty}
use Rattle.rules.specs.Schema.{Value}
use Rattle.rules.specs.Ast.{Expr}
use Rattle.rules.specs.Reader.{Place, Read, base_address, stop, line_here, next, key_of, rest_of, apply, one_of, literals, line_number, fit, literal_here, ◌>>=◌}
use Rattle.rules.specs.ReadExpression.{Head, star_head, is_head, column_head, value_head, call_head, unary_head, binary_head, heads, value_heads, counted, head_here, operands, too_deep, deep}
use Rattle.rules.specs.Area.{value_numbers}
use Rattle.text.specs.Lines.{line_end, line-moves, line-most}
use Rattle.text.specs.Reading.{place, place-next}
use Rattle.text.specs.Answers.{wrong_at, limit_at, bind_ok, bind-no}
use Rattle.ast.specs.Row.{number_of}
use Rattle.ast.specs.declared.row.Kind.{Kind}
use Rattle.ast.specs.declared.row.Kind.TheVariants as K
use Rattle.read_expression.specs.declared.heads.Row.{Row}
use Rattle.read_expression.specs.Encode.{head_numbers}
use Rattle.read_expression.specs.RowOf.{RowIs, RowSays, RowOf}
use Rattle.read_expression.specs.Reading.{here, Position}

-- WHAT A ROW SAYS
pub row-of-none : {t : Bytes} {h : Option Head} → RowOf t h None → h ≡ none
unfolding RowSays
row-of-none {h = none} s = refl
row-of-none {h = some x} s = absurd s.says

pub row-of-some : {t : Bytes} {h : Option Head} {r : Row} → RowOf t h (Some r) → (x : Head) × (h ≡ some x) × RowIs t x r
unfolding RowSays
row-of-some {h = none} s = absurd s.says
row-of-some {h = some x} s = (x, refl, s.says)

-- the kind of an `is`
kind-is : (k : Kind) → number_of k ≡ 7 → k ≡ K.Is
unfolding number_of
kind-is K.Star e = absurd (omega arith)
kind-is K.Column e = absurd (omega arith)
kind-is K.Qualified e = absurd (omega arith)
kind-is K.Call e = absurd (omega arith)
kind-is K.Unary e = absurd (omega arith)
kind-is K.Binary e = absurd (omega arith)
kind-is K.Is e = refl
kind-is K.Literal e = absurd (omega arith)

seven : {t : Bytes} {h : Head} {r : Row} → RowIs t h r → r.kind ≡ K.Is → head_numbers h ≡ 7 ∷ r.code ∷ r.a ∷ r.b ∷ r.c ∷ r.d ∷ []
unfolding number_of
seven s e = rw e at s.is

pub row-of-is : {t : Bytes} (h : Head) {r : Row} → RowIs t h r → r.kind ≡ K.Is → h ≡ is_head
unfolding head_numbers value_numbers
row-of-is is_head s e = refl
row-of-is star_head s e = let z : ◌≡◌ {A = ℕ} 1 7 = cc (seven s e) in absurd (omega arith)
row-of-is (column_head none n) s e = let z : ◌≡◌ {A = ℕ} 2 7 = cc (seven s e) in absurd (omega arith)
row-of-is (column_head (some t) n) s e = let z : ◌≡◌ {A = ℕ} 3 7 = cc (seven s e) in absurd (omega arith)
row-of-is (value_head v) s e = let z : ◌≡◌ {A = ℕ} 8 7 = cc (seven s e) in absurd (omega arith)
row-of-is (call_head n k) s e = let z : ◌≡◌ {A = ℕ} 4 7 = cc (seven s e) in absurd (omega arith)
row-of-is (unary_head o) s e = let z : ◌≡◌ {A = ℕ} 5 7 = cc (seven s e) in absurd (omega arith)
row-of-is (binary_head o) s e = let z : ◌≡◌ {A = ℕ} 6 7 = cc (seven s e) in absurd (omega arith)

pub row-of-not-is : {t : Bytes} (h : Head) {r : Row} → RowIs t h r → (r.kind ≡ K.Is → ⊥) → h ≡ is_head → ⊥
unfolding head_numbers
row-of-not-is h {r} s n e = n (kind-is r.kind (let w : head_numbers h ≡ head_numbers is_head = rw e in cc s.is))

-- POSITIONS
-- behind the end of the text no record stands
module _ (t : Bytes) (p l c k : ℕ) (h : length t ≤ p) where
  line-past : line_here (here t p l c k) ≡ empty (base_address statement + p) ∷ empty (base_address statement + p) ∷ empty (base_address statement + p) ∷ []
  unfolding line_here place fields
  line-past = rw (drop_of_length-le t h)

  head-past : one_of heads (line_here (here t p l c k)) ≡ none
  unfolding one_of apply named key_of rest_of bytes same empty heads value_heads literals
  head-past = rw line-past

  literal-past : one_of literals (line_here (here t p l c k)) ≡ none
  unfolding one_of apply named key_of rest_of bytes same empty literals
  literal-past = rw line-past

module _ (t : Bytes) (p l c k : ℕ) where
  pub head-inside : (h : Head) → one_of heads (line_here (here t p l c k)) ≡ some h → p < length t
  head-inside h e = elim (dec_lt p (length t)) [
    | yes y ↦ y
    | no y ↦ absurd (let x : some h ≡ none = sym e ∙ head-past t p l c k (omega (arith, y)) in grind arith)
  ]

  pub literal-inside : (v : Value) → one_of literals (line_here (here t p l c k)) ≡ some v → p < length t
  literal-inside v e = elim (dec_lt p (length t)) [
    | yes y ↦ y
    | no y ↦ absurd (let x : some v ≡ none = sym e ∙ literal-past t p l c k (omega (arith, y)) in grind arith)
  ]

-- behind a line that stands there
pub position-next : {t : Bytes} {p l c q d : ℕ} → Position t p l c → p < length t → q ≡ line_end t p → d ≤ most_cells → Position t q (l + 1) d
position-next {t} {p} w h e m = record {
  short = w.short;
  within = omega (arith, line-most t p, w.within);
  line = omega (arith, line-moves t p h, w.line);
  rows = m;
}

pub line-passed : (t : Bytes) {p q : ℕ} → p < length t → q ≡ line_end t p → p ≤ q
line-passed t {p} h e = omega (arith, line-moves t p h)

-- what follows an expression's first record, by the depth that is left
unfoldable after : ℕ → ℕ → Head → Read Expr
after zero l h = too_deep l
after (suc d) l h = operands h l (deep d)

after-some : (d l : ℕ) (h : Head) (p : Place) → (d ≡ 0 → ⊥) → after d l h p ≡ operands h l (deep (d - 1)) p
unfolding after
after-some zero l h p z = absurd (z refl)
after-some (suc d) l h p z = let y : suc d - 1 ≡ d = omega arith in rw y

-- ONE RECORD
module _ (t : Bytes) (p l c k : ℕ) where
  stop-wrong : {A : Type 0} → stop {A = A} wrong_record (here t p l c k) ≡ wrong_at statement l
  unfolding stop place wrong_at
  stop-wrong = refl

  stop-limit : {A : Type 0} → stop {A = A} limit_passed (here t p l c k) ≡ limit_at statement l
  unfolding stop place limit_at
  stop-limit = refl

  counted_next : next (counted (here t p l c k)) ≡ here t (line_end t p) (l + 1) (c + 1) k
  counted_next = ap next more ∙ place-next statement t p l (c + 1) k
    where
      more : counted (here t p l c k) ≡ here t p l (c + 1) k
      more = unfold counted place in rw (add-one c)

  cells-here : (here t p l c k).cells ≡ c
  unfolding place
  cells-here = refl

  -- a literal
  pub literal-wrong : one_of literals (line_here (here t p l c k)) ≡ none → literal_here (here t p l c k) ≡ wrong_at statement l
  unfolding literal_here fit
  literal-wrong e = rw e stop-wrong

  pub literal-read : (v : Value) {q : ℕ} → one_of literals (line_here (here t p l c k)) ≡ some v → q ≡ line_end t p → literal_here (here t p l c k) ≡ ok (v, here t q (l + 1) c k)
  unfolding literal_here fit
  literal-read v e z = rw (e, z, place-next statement t p l c k)

  -- an expression's first record
  module _ (e : one_of heads (line_here (here t p l c k)) ≡ none) where
    head-wrong : head_here (here t p l c k) ≡ wrong_at statement l
    unfolding head_here
    head-wrong = rw (head_here, e) stop-wrong

  module _ (h : Head) (e : one_of heads (line_here (here t p l c k)) ≡ some h) where
    head-limit : most_cells ≤ c → head_here (here t p l c k) ≡ limit_at statement l
    unfolding head_here
    head-limit m = rw (head_here, e, cells-here, le-ltb c most_cells m) stop-limit

    head_read : c < most_cells → head_here (here t p l c k) ≡ ok (h, here t (line_end t p) (l + 1) (c + 1) k)
    unfolding head_here
    head_read m = rw (head_here, e, cells-here, lt-ltb c most_cells m, counted_next)

  deep_is : (d : ℕ) → deep d (here t p l c k) ≡ (head_here >>= after d l) (here t p l c k)
  unfolding deep line_number after place
  deep_is zero = bind_ok line_number _ (here t p l c k) _ _ refl
  deep_is (suc d) = bind_ok line_number _ (here t p l c k) _ _ refl

  pub deep-wrong : (d : ℕ) → one_of heads (line_here (here t p l c k)) ≡ none → deep d (here t p l c k) ≡ wrong_at statement l
  unfolding wrong_at
  deep-wrong d e = deep_is d ∙ bind-no head_here (after d l) (here t p l c k) _ (head-wrong e)

  module _ (d : ℕ) (h : Head) (e : one_of heads (line_here (here t p l c k)) ≡ some h) where
    pub deep-full : most_cells ≤ c → deep d (here t p l c k) ≡ limit_at statement l
    unfolding limit_at
    deep-full m = deep_is d ∙ bind-no head_here (after d l) (here t p l c k) _ (head-limit h e m)

    module _ (m : c < most_cells) where
      read : deep d (here t p l c k) ≡ after d l h (here t (line_end t p) (l + 1) (c + 1) k)
      read = deep_is d ∙ bind_ok head_here (after d l) (here t p l c k) h _ (head_read h e m)

      pub deep-cut : d ≡ 0 → deep d (here t p l c k) ≡ limit_at statement l
      unfolding after too_deep place limit_at
      deep-cut z = read ∙ rw z

      pub deep-read : {q : ℕ} → (d ≡ 0 → ⊥) → q ≡ line_end t p → deep d (here t p l c k) ≡ operands h l (deep (d - 1)) (here t q (l + 1) (c + 1) k)
      deep-read z f = read ∙ after-some d l h _ z ∙ rw f
