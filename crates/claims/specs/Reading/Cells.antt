-- Reading an expression counts exactly its cells, and never passes the limit of a statement's cells.
use Prim.Native.Nat.{ℕ, zero, suc, ◌+◌, ◌≤◌, max}
use Rattle.std.proofs.Common.{arith, ltb-true}
use Rattle.std.specs.Prelude.{◌≡◌, Bool, List, ltb, length}
use Rattle.std.proofs.Math.Option.{Option}
use Rattle.rules.specs.Limits.{most_cells, most_depth, most_from_tables}
use Rattle.rules.specs.Lists.{Bytes, map_option}
use Rattle.rules.specs.Lines.{Word}
use Rattle.rules.specs.Ast.{Expr, nil, size, size_all}
use Rattle.rules.specs.Sizes.{total, option_size, clause_size}
use Rattle.rules.specs.BuildExpression.{clause_expr}
use Rattle.rules.specs.Reader.{Place, Read, stop, line_here, next, rest, at, line_number, no_field, one_of, literals, literal_here, optional, many, turns}
use Rattle.rules.specs.ReadExpression.{Head, star_head, is_head, column_head, value_head, call_head, unary_head, binary_head, heads, counted, head_here, times, operands, too_deep, deep, expression, clause}
use Rattle.claims.specs.Answers.{weaken}
use Rattle.claims.specs.Reading.Rules.{Reaches, Reads, Anywhere, reads-by, reads-into, reads-give, reads-test, reads-option, reads_fit, reads-optional, reads-run}

-- from p to q reading counted so many cells and FROM tables, and passed no limit that was not passed before
pub record Grown (c t : ℕ) (p q : Place) : Type 0 where
  pub cells : q.cells ≡ p.cells + c
  pub tables : q.tables ≡ p.tables + t
  pub few_cells : q.cells ≤ max most_cells p.cells
  pub few_tables : q.tables ≤ max most_from_tables p.tables

-- one stretch of reading, then another
infixl 10 ◌⨟◌
pub ◌⨟◌ : {p q r : Place} {c t d u : ℕ} → Grown c t p q → Grown d u q r → Grown (c + d) (t + u) p r
◌⨟◌ g h = omega arith

-- what was counted is within the limits
pub few : {p q : Place} {c t : ℕ} → Grown c t p q → (c ≤ most_cells) × (t ≤ most_from_tables)
few g = omega arith

-- a reader that counts c cells for its value, and no FROM table
abbrev pub Adds : {A : Type 0} → (A → ℕ) → Read A → Type 0
Adds c m = Reads Anywhere m (λ p a q. Grown (c a) 0 p q)

-- nothing read, and a record that counts nothing
pub stays : (p : Place) → Grown 0 0 p p
stays p = omega arith

pub passes : (p : Place) → Grown 0 0 p (next p)
unfolding next
passes p = omega arith

pub after : (p : Place) {q : Place} {n : ℕ} → Grown n 0 (next p) q → Grown n 0 p q
unfolding next
after p g = omega arith

-- an expression's record is one cell
pub adds-head : Adds (λ h. 1) head_here
unfolding head_here stop next counted
adds-head p u = reads-option (one_of heads (line_here p)) _ _ _ tt λ h e. reads-test (ltb p.cells most_cells) _ _ _ (λ t. omega (arith, ltb-true p.cells most_cells t)) (λ t. tt)

pub adds-literal : Adds (λ v. 0) literal_here
unfolding literal_here
adds-literal p u = reads_fit (one_of literals (line_here p)) p _ λ v e. passes p

module _ (e : Read Expr) (h : Adds size e) where
  pub adds-times : (n : ℕ) → Adds size_all (times n e)
  unfolding times size_all
  adds-times zero p u = reads-give nil p _ (stays p)
  adds-times (suc n) p u = reads-by _ _ _ _ h tt λ a q g. reads-by _ _ _ _ (adds-times n) tt λ as' r k. reads-give _ r _ (omega arith)

  -- the head is read from p to q, its operands from q on
  pub adds-operands : (o : Head) (l : ℕ) (p q : Place) → Grown 1 0 p q → Reaches (operands o l e q) (λ a. Grown (size a) 0 p)
  unfolding operands size
  adds-operands star_head l p q g = reads-give _ q _ g
  adds-operands (column_head t n) l p q g = reads-give _ q _ g
  adds-operands (value_head v) l p q g = reads-give _ q _ g
  adds-operands (call_head w n) l p q g = reads-by _ _ _ _ (adds-times n) tt λ as' r k. reads-give _ r _ (omega arith)
  adds-operands (unary_head o) l p q g = reads-by _ _ _ _ h tt λ a r k. reads-give _ r _ (omega arith)
  adds-operands (binary_head o) l p q g = reads-by _ _ _ _ h tt λ a r k. reads-by _ _ _ _ h tt λ b s m. reads-give _ s _ (omega arith)
  adds-operands is_head l p q g = reads-by _ _ _ _ h tt λ a r k. reads-by _ _ _ _ adds-literal tt λ v s m. reads-give _ s _ (omega arith)

-- An expression's reader counts its size.
pub adds-deep : (d : ℕ) → Adds size (deep d)
unfolding deep line_number too_deep
adds-deep zero p u = reads-into _ _ p _ (reads-by _ _ _ _ adds-head tt λ h q g. tt)
adds-deep (suc d) p u = reads-into _ _ p _ (reads-by _ _ _ _ adds-head tt λ h q g. adds-operands (deep d) (adds-deep d) h p.line p q g)

pub adds-expression : Adds size expression
unfolding expression
adds-expression = adds-deep most_depth

pub adds-optional : (b : Bool) → Adds option_size (optional b expression)
unfolding option_size
adds-optional b = reads-optional b expression _ (λ p u. stays p) adds-expression

pub adds-clause : (k : Bytes) → Adds clause_size (clause k)
unfolding clause stop clause_size option_size clause_expr map_option
adds-clause k p u = reads-test (at k p) _ _ _
    (λ t. reads-option (no_field (rest p)) _ _ _ tt λ v e. reads-by _ _ _ _ adds-expression tt λ a q g. reads-give _ q _ (after p g))
    (λ t. stays p)

-- a run of records, by what each of them counts
pub adds_run : {H A : Type 0} (k : Bytes) (f : List Word → Option H) (most : ℕ) (body : ℕ → H → Read A) (c : A → ℕ) → ((l : ℕ) (h : H) → Adds c (body l h))
    → Reads Anywhere (turns λ fuel. many k f most body fuel 0) (λ p as' q. Grown (total c as') 0 p q × (length as' ≤ most))
unfolding total
adds_run k f most body c h = reads-run k f most body Anywhere (λ p a q. Grown (c a) 0 p q) (λ p as' q. Grown (total c as') 0 p q)
    (λ p x u e. weaken (body p.line x (next p)) _ _ (λ r g. (after p g, tt)) (h p.line x (next p) tt))
    (λ p u. stays p) (λ p q r a as' g m. omega arith)
