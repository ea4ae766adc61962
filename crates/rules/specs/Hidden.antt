-- Hidden columns: what HAVING and ORDER BY call for and the items lack (planner.rs, build_select_hidden; ast.rs, walk).
use Rattle.std.specs.Prelude.{ℕ, Bool, true, false, List, [], ◌∷◌, ◌++◌}
use Rattle.std.proofs.Math.Option.{Option, none, some}
use Rattle.rules.specs.Ast.{Expr, star, column, literal, call, unary, binary, is, Exprs, nil, cons, line_of, Item}
use Rattle.rules.specs.Views.{ColumnName, as_column}
use Rattle.rules.specs.Scope.{Scope, Found, at, missing, lookup, matched, add_passthrough, project}

-- a column of the parent's that is passed on, and the line of the record that called for it
pub record HiddenColumn : Type 0 where
  pub position : ℕ
  pub line : ℕ

-- the projected scope, and the hidden columns added to it so far
pub record Hidden : Type 0 where
  pub scope : Scope
  pub columns : List HiddenColumn

unfoldable pub add_hidden : Scope → ℕ → ℕ → Hidden → Hidden
add_hidden parent l i h = record {
  scope = add_passthrough parent i true h.scope;
  columns = h.columns ++ (record { position = i; line = l } ∷ []);
}

unfoldable pub position : Found → Option ℕ
position (at i) = some i
position (missing n) = none

-- the parent's position, where the projection has none
unfoldable pub lacking : Option ℕ → Option ℕ → Option ℕ
lacking p none = p
lacking p (some j) = none

unfoldable pub lacking_column : Scope → Scope → Option ColumnName → Option ℕ
lacking_column parent child none = none
lacking_column parent child (some c) =
    lacking (position (lookup parent c.table c.name)) (position (lookup child c.table c.name))

-- the column to hide for an expression: that of a match which the projection lacks, or else of a name which it lacks
unfoldable pub to_hide : Scope → Scope → Expr → Option ℕ
to_hide parent child e = elim (lacking (matched parent e) (matched child e)) [
  | some i ↦ some i
  | none ↦ lacking_column parent child (as_column e)
]

-- build_select_hidden's visitor, which always answers true
unfoldable pub visit : Scope → Expr → Hidden → Hidden
visit parent e h = elim (to_hide parent h.scope e) [ some i ↦ add_hidden parent (line_of e) i h | none ↦ h ]

-- what a walk answers, and the hidden columns behind it
pub record Walk : Type 0 where
  pub answer : Bool
  pub hidden : Hidden

-- `&&` and `any` of walks
unfoldable pub where_true : Walk → (Hidden → Walk) → Walk
where_true r f = elim r.answer [ true ↦ f r.hidden | false ↦ r ]

unfoldable pub where_false : Walk → (Hidden → Walk) → Walk
where_false r f = elim r.answer [ true ↦ r | false ↦ f r.hidden ]

-- ast.rs, walk by that visitor: into a matched expression too, so ORDER BY sum(a) over GROUP BY a hides sum(a) and a
unfoldable mutual
  pub walk : Scope → Expr → Hidden → Walk
  walk p (star l) h = record { answer = true; hidden = visit p (star l) h }
  walk p (column l t n) h = record { answer = true; hidden = visit p (column l t n) h }
  walk p (literal l v) h = record { answer = true; hidden = visit p (literal l v) h }
  walk p (call l n as') h = walk_any p as' (visit p (call l n as') h)
  walk p (unary l o a) h = walk p a (visit p (unary l o a) h)
  walk p (binary l o a b) h = where_true (walk p a (visit p (binary l o a b) h)) (λ h₁. walk p b h₁)
  walk p (is l a v) h = walk p a (visit p (is l a v) h)

  -- the arguments until one walk answers true; false for none
  pub walk_any : Scope → Exprs → Hidden → Walk
  walk_any p nil h = record { answer = false; hidden = h }
  walk_any p (cons a as') h = where_false (walk p a h) (λ h₁. walk_any p as' h₁)

-- build_select_hidden, over the expressions of HAVING and ORDER
unfoldable pub hidden_of : Scope → List Expr → Hidden → Hidden
hidden_of p [] h = h
hidden_of p (e ∷ es) h = hidden_of p es (walk p e h).hidden

-- The scope behind the projection, with the hidden columns: over `SELECT id FROM t ORDER BY value` it has id and a
-- hidden value, since ORDER BY is evaluated over the projected rows.
unfoldable pub projected : Scope → List Item → List Expr → Hidden
projected s is' later = hidden_of s later (record { scope = project s is'; columns = [] })
