-- Two expressions are equal exactly when they are the same tree without lines and places; floats go by bits.
use Rattle.std.specs.Prelude.{ℕ, ◌-◌, ◌≡◌, refl, ◌↔◌, Bool, true, false, ◌&&◌, eqb, pos, negsuc, get_or}
use Rattle.std.proofs.Common.{sym, ap, ◌∙◌, eqb-true, eq-eqb}
use mathlib.Core.List.{List, [], ◌∷◌, ◌++◌, map, tail}
use Rattle.std.proofs.Math.Option.{Option, none, some}
use Rattle.rules.specs.Lists.{Bytes, same, is_some, map_option}
use Rattle.rules.specs.Lines.{Word}
use Rattle.rules.specs.Schema.{Value, null, bool, int, float, text}
use Rattle.rules.specs.Ast.{Unary, not, fact, ident, neg, sqrt, Binary, plain, ge, le, ne}
use Rattle.rules.specs.Ast.{and, or, eq, gt, lt, add, div, pow, mul, rem, sub, like}
use Rattle.rules.specs.Ast.{Expr, star, column, literal, call, unary, binary, is, Exprs, nil, cons}
use Rattle.rules.specs.Views.{as_star, as_column, as_literal, as_call, as_unary, as_binary, as_is}
use Rattle.rules.specs.Codes.{unary_code, plain_code, binary_code}
use Rattle.rules.specs.Equality.{same_name, same_optional_name, contents, same_value, equal, equal_all}

-- a word of the same bytes at 0
unfoldable pub bare_word : Word → Word
bare_word w = record { bytes = w.bytes; start = 0 }

unfoldable pub bare_value : Value → Value
bare_value null = null
bare_value (bool b) = bool b
bare_value (int n) = int n
bare_value (float b) = float b
bare_value (text w) = text (bare_word w)

-- the same tree, every line 0 and every word at 0
unfoldable mutual
  pub bare : Expr → Expr
  bare (star l) = star 0
  bare (column l t n) = column 0 (map_option bare_word t) (bare_word n)
  bare (literal l v) = literal 0 (bare_value v)
  bare (call l n as') = call 0 (bare_word n) (bare_all as')
  bare (unary l o a) = unary 0 o (bare a)
  bare (binary l o a b) = binary 0 o (bare a) (bare b)
  bare (is l a v) = is 0 (bare a) (bare_value v)

  pub bare_all : Exprs → Exprs
  bare_all nil = nil
  bare_all (cons a as') = cons (bare a) (bare_all as')

-- BYTES
-- lists are equal when their heads and their tails are
equal-cons : {A : Type 0} (x y : A) (xs ys : List A) (b c : Bool) → (b ≡ true) ↔ (x ≡ y) → (c ≡ true) ↔ (xs ≡ ys)
    → (elim b [ true ↦ c | false ↦ false ] ≡ true) ↔ (◌≡◌ {A = List A} (x ∷ xs) (y ∷ ys))
equal-cons x y xs ys true c h k = (λ e. let p = h.0 refl in let q = k.0 e in cc, λ e. k.1 (cc))
equal-cons x y xs ys false c h k = (λ e. cc, λ e. h.1 (cc))

-- names are the same when their bytes are
pub same-equal : (xs ys : Bytes) → (same xs ys ≡ true) ↔ (xs ≡ ys)
unfolding same
same-equal [] [] = (λ e. refl, λ e. refl)
same-equal [] (y ∷ ys) = (λ e. cc, λ e. cc)
same-equal (x ∷ xs) [] = (λ e. cc, λ e. cc)
same-equal (x ∷ xs) (y ∷ ys) = equal-cons x y xs ys (eqb x y) (same xs ys) (eqb-true x y, eq-eqb x y) (same-equal xs ys)

-- NAMES
same-name : (v w : Word) → (same_name v w ≡ true) ↔ (bare_word v ≡ bare_word w)
unfolding same_name bare_word
same-name v w = (
  λ e. ap (λ (bs : Bytes). record { bytes = bs; start = 0 }) ((same-equal _ _).0 e),
  λ e. (same-equal _ _).1 (ap (λ (x : Word). x.bytes) e),
)

same-table : (t u : Option Word) → (same_optional_name t u ≡ true) ↔ (map_option bare_word t ≡ map_option bare_word u)
unfolding same_optional_name map_option
same-table none none = (λ e. refl, λ e. refl)
same-table none (some w) = (λ e. cc, λ e. cc)
same-table (some v) none = (λ e. cc, λ e. cc)
same-table (some v) (some w) = (λ e. ap some ((same-name v w).0 e), λ e. (same-name v w).1 (cc))

-- LITERALS
-- the value of some contents
unfoldable value_from : List ℕ → Value
value_from xs = get_or (
    null ∷ null ∷ bool (eqb (get_or xs 1 0) 1)
    ∷ int (elim (eqb (get_or xs 1 0) 0) [ true ↦ pos (get_or xs 2 0) | false ↦ negsuc (get_or xs 2 0) ])
    ∷ float (get_or xs 1 0) ∷ text (record { bytes = tail xs; start = 0 }) ∷ []
    ) (get_or xs 0 0) null

value-from : (v : Value) → value_from (contents v) ≡ bare_value v
unfolding value_from contents bare_value bare_word
value-from null = refl
value-from (bool true) = refl
value-from (bool false) = refl
value-from (int (pos n)) = refl
value-from (int (negsuc n)) = refl
value-from (float b) = refl
value-from (text w) = refl

contents-bare : (v : Value) → contents (bare_value v) ≡ contents v
unfolding contents bare_value bare_word
contents-bare null = refl
contents-bare (bool b) = refl
contents-bare (int n) = refl
contents-bare (float b) = refl
contents-bare (text w) = refl

same-value : (v w : Value) → (same_value v w ≡ true) ↔ (bare_value v ≡ bare_value w)
unfolding same_value
same-value v w = (
  λ e. sym (value-from v) ∙ ap value_from ((same-equal _ _).0 e) ∙ value-from w,
  λ e. (same-equal _ _).1 (sym (contents-bare v) ∙ ap contents e ∙ contents-bare w),
)

-- OPERATORS
-- those of one code are the same, where a code can be read back
same_code : {A : Type 0} (code : A → ℕ) (back : ℕ → A) → ((a : A) → back (code a) ≡ a)
    → (a b : A) → (eqb (code a) (code b) ≡ true) ↔ (a ≡ b)
same_code code back h a b = (λ e. sym (h a) ∙ ap back (eqb-true _ _ e) ∙ h b, λ e. eq-eqb _ _ (ap code e))

same-unary : (o p : Unary) → (eqb (unary_code o) (unary_code p) ≡ true) ↔ (o ≡ p)
unfolding unary_code
same-unary = same_code unary_code
    (λ k. get_or (not ∷ fact ∷ ident ∷ neg ∷ sqrt ∷ []) (k - 8) not)
    (λ o. elim o as (λ a. get_or (not ∷ fact ∷ ident ∷ neg ∷ sqrt ∷ []) (unary_code a - 8) not ≡ a) [ not ↦ refl | fact ↦ refl | ident ↦ refl | neg ↦ refl | sqrt ↦ refl ])

binaries : List Binary
binaries = map plain (and ∷ or ∷ eq ∷ gt ∷ lt ∷ add ∷ div ∷ pow ∷ mul ∷ rem ∷ sub ∷ like ∷ []) ++ (ge ∷ le ∷ ne ∷ [])

same-binary : (o p : Binary) → (eqb (binary_code o) (binary_code p) ≡ true) ↔ (o ≡ p)
unfolding binary_code plain_code binaries
same-binary = same_code binary_code (λ k. get_or binaries (k - 16) ge) λ o. elim o as (λ a. get_or binaries (binary_code a - 16) ge ≡ a) [
  | plain and ↦ refl
  | plain or ↦ refl
  | plain eq ↦ refl
  | plain gt ↦ refl
  | plain lt ↦ refl
  | plain add ↦ refl
  | plain div ↦ refl
  | plain pow ↦ refl
  | plain mul ↦ refl
  | plain rem ↦ refl
  | plain sub ↦ refl
  | plain like ↦ refl
  | ge ↦ refl
  | le ↦ refl
  | ne ↦ refl
]

-- TREES
-- both are true
and-iff : {P Q : Type 0} {x y : Bool} → (x ≡ true) ↔ P → (y ≡ true) ↔ Q → ((x && y) ≡ true) ↔ (P × Q)
and-iff {x = true} h k = (λ e. (h.0 refl, k.0 e), λ e. k.1 e.1)
and-iff {x = false} h k = (λ e. (h.0 e, k.0 (cc)), λ e. h.1 e.0)

-- what holds exactly when the fields are the same does when the whole is
fields : {P Q R : Type 0} → P ↔ Q → (Q → R) → (R → Q) → P ↔ R
fields h f g = (λ p. f (h.0 p), λ r. h.1 (g r))

mutual
  unfolding equal is_some as_star as_column as_literal as_call as_unary as_binary as_is bare

  -- Two expressions match exactly when they differ at most in lines and places.
  pub equal-bare : (a b : Expr) → (equal a b ≡ true) ↔ (bare a ≡ bare b)
  equal-bare (star l) (star m) = (λ e. refl, λ e. refl)
  equal-bare (star l) (column m u k) = (λ e. cc, λ e. cc)
  equal-bare (star l) (literal m w) = (λ e. cc, λ e. cc)
  equal-bare (star l) (call m k bs) = (λ e. cc, λ e. cc)
  equal-bare (star l) (unary m p b) = (λ e. cc, λ e. cc)
  equal-bare (star l) (binary m p b d) = (λ e. cc, λ e. cc)
  equal-bare (star l) (is m b w) = (λ e. cc, λ e. cc)
  equal-bare (column l t n) (star m) = (λ e. cc, λ e. cc)
  equal-bare (column l t n) (column m u k) = fields (and-iff (same-table t u) (same-name n k)) (λ h. cc) (λ e. (cc, cc))
  equal-bare (column l t n) (literal m w) = (λ e. cc, λ e. cc)
  equal-bare (column l t n) (call m k bs) = (λ e. cc, λ e. cc)
  equal-bare (column l t n) (unary m p b) = (λ e. cc, λ e. cc)
  equal-bare (column l t n) (binary m p b d) = (λ e. cc, λ e. cc)
  equal-bare (column l t n) (is m b w) = (λ e. cc, λ e. cc)
  equal-bare (literal l v) (star m) = (λ e. cc, λ e. cc)
  equal-bare (literal l v) (column m u k) = (λ e. cc, λ e. cc)
  equal-bare (literal l v) (literal m w) = fields (same-value v w) (λ h. cc) (λ e. cc)
  equal-bare (literal l v) (call m k bs) = (λ e. cc, λ e. cc)
  equal-bare (literal l v) (unary m p b) = (λ e. cc, λ e. cc)
  equal-bare (literal l v) (binary m p b d) = (λ e. cc, λ e. cc)
  equal-bare (literal l v) (is m b w) = (λ e. cc, λ e. cc)
  equal-bare (call l n as') (star m) = (λ e. cc, λ e. cc)
  equal-bare (call l n as') (column m u k) = (λ e. cc, λ e. cc)
  equal-bare (call l n as') (literal m w) = (λ e. cc, λ e. cc)
  equal-bare (call l n as') (call m k bs) =
      fields (and-iff (same-name n k) (equal-bare-all as' bs)) (λ h. cc) (λ e. (cc, cc))
  equal-bare (call l n as') (unary m p b) = (λ e. cc, λ e. cc)
  equal-bare (call l n as') (binary m p b d) = (λ e. cc, λ e. cc)
  equal-bare (call l n as') (is m b w) = (λ e. cc, λ e. cc)
  equal-bare (unary l o a) (star m) = (λ e. cc, λ e. cc)
  equal-bare (unary l o a) (column m u k) = (λ e. cc, λ e. cc)
  equal-bare (unary l o a) (literal m w) = (λ e. cc, λ e. cc)
  equal-bare (unary l o a) (call m k bs) = (λ e. cc, λ e. cc)
  equal-bare (unary l o a) (unary m p b) = fields (and-iff (same-unary o p) (equal-bare a b)) (λ h. cc) (λ e. (cc, cc))
  equal-bare (unary l o a) (binary m p b d) = (λ e. cc, λ e. cc)
  equal-bare (unary l o a) (is m b w) = (λ e. cc, λ e. cc)
  equal-bare (binary l o a c) (star m) = (λ e. cc, λ e. cc)
  equal-bare (binary l o a c) (column m u k) = (λ e. cc, λ e. cc)
  equal-bare (binary l o a c) (literal m w) = (λ e. cc, λ e. cc)
  equal-bare (binary l o a c) (call m k bs) = (λ e. cc, λ e. cc)
  equal-bare (binary l o a c) (unary m p b) = (λ e. cc, λ e. cc)
  equal-bare (binary l o a c) (binary m p b d) =
      fields (and-iff (and-iff (same-binary o p) (equal-bare a b)) (equal-bare c d)) (λ h. cc) (λ e. ((cc, cc), cc))
  equal-bare (binary l o a c) (is m b w) = (λ e. cc, λ e. cc)
  equal-bare (is l a v) (star m) = (λ e. cc, λ e. cc)
  equal-bare (is l a v) (column m u k) = (λ e. cc, λ e. cc)
  equal-bare (is l a v) (literal m w) = (λ e. cc, λ e. cc)
  equal-bare (is l a v) (call m k bs) = (λ e. cc, λ e. cc)
  equal-bare (is l a v) (unary m p b) = (λ e. cc, λ e. cc)
  equal-bare (is l a v) (binary m p b d) = (λ e. cc, λ e. cc)
  equal-bare (is l a v) (is m b w) = fields (and-iff (same-value v w) (equal-bare a b)) (λ h. cc) (λ e. (cc, cc))

  equal-bare-all : (as' bs : Exprs) → (equal_all as' bs ≡ true) ↔ (bare_all as' ≡ bare_all bs)
  equal-bare-all nil nil = (λ e. refl, λ e. refl)
  equal-bare-all nil (cons b bs) = (λ e. cc, λ e. cc)
  equal-bare-all (cons a as') nil = (λ e. cc, λ e. cc)
  equal-bare-all (cons a as') (cons b bs) =
      fields (and-iff (equal-bare a b) (equal-bare-all as' bs)) (λ h. cc) (λ e. (cc, cc))
