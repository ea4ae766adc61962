-- One entry of a list appended: an expression, an item, a hidden column, an order key.
use Rattle.std.specs.Prelude.{ℕ, ◌+◌, pred, ◌≡◌, List, [], ◌∷◌}
use Rattle.std.proofs.Common.{arith}
use Rattle.std.proofs.Math.Option.{none}
use Rattle.rules.specs.Refusals.{Refusal, Answer, ok, refused, ◌>>=◌}
use Rattle.rules.specs.Ast.{Expr, Item, Key}
use Rattle.rules.specs.Plan.{Built}
use Rattle.rules.specs.Cells.{Cell, built_count, root, cells}
use Rattle.rules.specs.Cells as C
use Rattle.rules.specs.Scope.{Scope}
use Rattle.rules.specs.BuildExpression.{build}
use Rattle.rules.specs.Hidden.{HiddenColumn}
use Rattle.rules.specs.BuildSelect.{item_built, key_built, hidden_built}
use Rattle.appends.specs.Expressions.Emit.{emit, emitted-ok, emitted-refused}
use Rattle.appends.specs.Lists.Each.{entry_of, emit_entry}

unfoldable pub emit_one : Scope → ℕ → Expr → Answer (List Cell × ℕ × ℕ)
emit_one s = emit_entry (λ b. b) (λ b r. r) (build s)

unfoldable pub emit_first : {A B : Type 0} → (A → Answer (Built × B)) → ℕ → A → Answer (List Cell × (ℕ × B) × ℕ)
emit_first f = emit_entry (λ b. b.0) (λ b r. (r, b.1)) f

unfoldable pub emit_second : {A B : Type 0} → (A → Answer (B × Built)) → ℕ → A → Answer (List Cell × (B × ℕ) × ℕ)
emit_second f = emit_entry (λ b. b.1) (λ b r. (b.0, r)) f

-- EXPRESSIONS
pub one-step : (s : Scope) (n : ℕ) (e : Expr) (xs : List Cell) (m : ℕ) → emit s n e ≡ ok (xs, m)
    → emit_one s n e ≡ ok (xs, pred m, m)
unfolding emit_one emit_entry entry_of emit ◌>>=◌
one-step s n e xs m h = let o = emitted-ok (build s e) n xs m h in rw (o.answer, o.cells, o.root, o.next)

pub one-refused : (s : Scope) (n : ℕ) (e : Expr) (w : Refusal) → emit s n e ≡ refused w → emit_one s n e ≡ refused w
unfolding emit_one emit_entry emit ◌>>=◌
one-refused s n e w h = rw (emitted-refused (build s e) n w h)

-- ITEMS
pub item-step : (s : Scope) (n : ℕ) (i : Item) (xs : List Cell) (m : ℕ) → emit s n i.expr ≡ ok (xs, m)
    → emit_first (item_built s) n i ≡ ok (xs, (pred m, i.alias), m)
unfolding emit_first emit_entry entry_of emit item_built ◌>>=◌
item-step s n i xs m h = let o = emitted-ok (build s i.expr) n xs m h in rw (o.answer, o.cells, o.root, o.next)

pub item_refused : (s : Scope) (n : ℕ) (i : Item) (w : Refusal) → emit s n i.expr ≡ refused w
    → emit_first (item_built s) n i ≡ refused w
unfolding emit_first emit_entry emit item_built ◌>>=◌
item_refused s n i w h = rw (emitted-refused (build s i.expr) n w h)

-- HIDDEN COLUMNS
pub hidden-step : (n : ℕ) (c : HiddenColumn)
    → emit_first (λ d. ok (hidden_built d)) n c ≡ ok (C.column c.position ∷ [], (n, none), n + 1)
unfolding emit_first emit_entry entry_of hidden_built ◌>>=◌ cells root built_count
hidden-step n c = let e : pred (n + 1) ≡ n = omega arith in rw e

-- ORDER KEYS
pub key_step : (s : Scope) (n : ℕ) (k : Key) (xs : List Cell) (m : ℕ) → emit s n k.expr ≡ ok (xs, m)
    → emit_first (key_built s) n k ≡ ok (xs, (pred m, k.descending), m)
unfolding emit_first emit_entry entry_of emit key_built ◌>>=◌
key_step s n k xs m h = let o = emitted-ok (build s k.expr) n xs m h in rw (o.answer, o.cells, o.root, o.next)

pub key-refused : (s : Scope) (n : ℕ) (k : Key) (w : Refusal) → emit s n k.expr ≡ refused w
    → emit_first (key_built s) n k ≡ refused w
unfolding emit_first emit_entry emit key_built ◌>>=◌
key-refused s n k w h = rw (emitted-refused (build s k.expr) n w h)
