-- What is built of a record before its operands, by its kind.
use Rattle.std.specs.Prelude.{ℕ, suc, ◌+◌, ◌*◌, ◌<◌, ◌≡◌, true, false, List, [], ◌∷◌, length, Result, Ok, Err}
use Rattle.std.specs.Prelude as std
use Rattle.std.proofs.Common.{arith, ◌∙◌}
use Rattle.std.proofs.Math.Path.{refl, sym, ap}
use Rattle.std.proofs.Math.Option.{Option, none, some}
use Rattle.rules.specs.Refusals.{unsupported_star, unknown_function}
use Rattle.rules.specs.Lists.{Bytes}
use Rattle.rules.specs.Lines.{Word}
use Rattle.rules.specs.Ast.{Expr, call, size, size_all}
use Rattle.rules.specs.Cells as C
use Rattle.rules.specs.Scope.{lookup, match_at, matched}
use Rattle.appends.specs.Expressions.Emit.{emit}
use Rattle.appends.specs.Expressions.Steps.{match-step, star-refused, literal-step}
use Rattle.ast.specs.Table.{row_size, unary_at, tree_at}
use Rattle.ast.specs.Operands.{kind_at, operands_at, operands-call, operands-unary, operands-binary, operands-is, operands-inside}
use Rattle.ast.specs.Row.{line_at, operator_at, row_name, row_qualifier, row_literal, number_of, star-row}
use Rattle.ast.specs.Called.{call-tree}
use Rattle.ast.specs.Row.{column-row, qualified-row, unary-row, binary-row, is_row, literal-row}
use Rattle.ast.specs.declared.row.Kind.{Kind}
use Rattle.ast.specs.declared.row.Kind.TheVariants as K
use Rattle.scope.specs.Scopes.{matches_of}
use Rattle.numbers.specs.Options.{option_of}
use Rattle.scope.specs.Matches.{matched-from}
use Rattle.plan.specs.Cells.{Puts}
use Rattle.numbers.specs.Operators.{unary_operator}
use Rattle.numbers.specs.Reasons.{named}
use Rattle.numbers.specs.declared.operators.Unary.{Unary}
use Rattle.numbers.specs.declared.operators.Unary.TheVariants as U
use Rattle.numbers.specs.declared.refusals.Reason.TheVariants as Re
use Rattle.plan.specs.Emits.{Written, Emits, accepts, refuses, emits-same}
use Rattle.build_expression.specs.Rows.{column_step, literal_step, column-is, unary-is, root_is, is-is, binary-is}
use Rattle.ast.specs.Called.{is_root_call}
use Rattle.build_expression.specs.Calls.{is-root, no-root, one_argument, call-unknown}
use Rattle.build_expression.specs.Builds.{scope_at, Builds, Unmatched, unmatched, Operates, BeginsAs, Begins}
use Rattle.numbers.specs.declared.refusals.Refusal.{Refusal}
use Rattle.build_expression.specs.declared.Begun.{Begun}
use Rattle.build_expression.specs.declared.Begun.TheVariants as B
use Rattle.build_expression.specs.declared.Operator.TheVariants as O

-- a row with operands stands inside the table
has-operands : (t : List ℕ) (r n : ℕ) → operands_at t r ≡ suc n → row_size * r < length t
has-operands t r n e = operands-inside t r (λ z. omega arith)

pub not-matched : (c q : Bytes) (t ms : List ℕ) (r : ℕ) (m : std.Option ℕ)
    → option_of m ≡ match_at (matches_of (tree_at c q t) 0 ms) (tree_at c q t r) → m ≡ std.None → Unmatched c q t ms r
not-matched c q t ms r m e f = record { is = sym e ∙ ap option_of f }

-- the whole, or its refusal
abbrev pub whole_of : Written → Result Begun Refusal
whole_of (Ok m) = Ok (B.Whole m)
whole_of (Err w) = Err w

module _ (c q : Bytes) (t xs ms ts : List ℕ) (r n : ℕ) (area area' : List ℕ) where
  pub begins-whole : (x : Written) → Builds c q t xs ms ts r n area area' x → Begins c q t xs ms ts r n area area' (whole_of x)
  unfolding BeginsAs
  begins-whole (Ok m) b = record { is = b }
  begins-whole (Err w) b = record { is = b }

  -- a match is one column
  pub begins-matched : (m : std.Option ℕ) (i : ℕ)
      → option_of m ≡ match_at (matches_of (tree_at c q t) 0 ms) (tree_at c q t r) → m ≡ std.Some i
      → Puts n (C.column i ∷ []) area area' → Begins c q t xs ms ts r n area area' (Ok (B.Whole (n + 1)))
  unfolding BeginsAs
  begins-matched m i e f p = record {
    is = record {
      is = λ h. accepts (n + 1) p refl (match-step _ n _ i
          (matched-from (tree_at c q t) c q xs ms ts h (tree_at c q t r) ∙ sym e ∙ ap option_of f));
    };
  }

  module _ (u : Unmatched c q t ms r) where
    -- the tree is e
    none_of : (e : Expr) (h : ℕ) → tree_at c q t r ≡ e → matched (scope_at c q t xs ms ts h) e ≡ none
    none_of e h f = ap (matched (scope_at c q t xs ms ts h)) (sym f) ∙ unmatched xs ts h u

    built : (e : Expr) (x : Written) → tree_at c q t r ≡ e
        → ((h : ℕ) → Emits (emit (scope_at c q t xs ms ts h) n e) n area area' x) → Builds c q t xs ms ts r n area area' x
    built e x f g = record { is = λ h. emits-same (ap (emit (scope_at c q t xs ms ts h) n) f) (g h) }

    whole : (e : Expr) (x : Written) → tree_at c q t r ≡ e
        → ((h : ℕ) → Emits (emit (scope_at c q t xs ms ts h) n e) n area area' x)
        → Begins c q t xs ms ts r n area area' (whole_of x)
    whole e x f g = begins-whole x (built e x f g)

    pub built-qualified : (x : Written) (o : Option Word) → kind_at t r ≡ 3 → o ≡ some (row_qualifier c q t r)
        → ((h : ℕ) → Emits (column_step n (line_at t r) (lookup (scope_at c q t xs ms ts h) o (row_name c q t r)))
        n area area' x)
        → Builds c q t xs ms ts r n area area' x
    unfolding number_of
    built-qualified x o kind w g =
        let tree = qualified-row c q t r K.Qualified (sym kind) refl in
        built _ x tree (λ h. emits-same
        (column-is _ n (line_at t r) (some (row_qualifier c q t r)) (row_name c q t r) (none_of _ h tree))
        (rw w at (g h)))

    module _ (k : Kind) (kind : number_of k ≡ kind_at t r) where
      pub begins-star : (l : ℕ) → k ≡ K.Star → l ≡ line_at t r → length area' ≡ length area
          → Begins c q t xs ms ts r n area area' (Err (record { reason = Re.UnsupportedStar; line = l }))
      unfolding named
      begins-star l e f g =
          let tree = star-row c q t r k kind e in
          whole _ _ tree (λ h. refuses unsupported_star (line_at t r) Re.UnsupportedStar l g refl f
          (star-refused _ n (line_at t r) (none_of _ h tree)))

      pub begins-column : (x : Written) → k ≡ K.Column
          → ((h : ℕ) → Emits (column_step n (line_at t r) (lookup (scope_at c q t xs ms ts h) none (row_name c q t r)))
          n area area' x)
          → Begins c q t xs ms ts r n area area' (whole_of x)
      begins-column x e g =
          let tree = column-row c q t r k kind e in
          whole _ x tree (λ h. emits-same (column-is _ n (line_at t r) none (row_name c q t r) (none_of _ h tree)) (g h))

      pub begins-qualified : (x : Written) (o : Option Word) → o ≡ some (row_qualifier c q t r) → k ≡ K.Qualified
          → ((h : ℕ) → Emits (column_step n (line_at t r) (lookup (scope_at c q t xs ms ts h) o (row_name c q t r)))
          n area area' x)
          → Begins c q t xs ms ts r n area area' (whole_of x)
      begins-qualified x o w e g =
          let tree = qualified-row c q t r k kind e in
          whole _ x tree (λ h. emits-same
          (column-is _ n (line_at t r) (some (row_qualifier c q t r)) (row_name c q t r) (none_of _ h tree))
          (rw w at (g h)))

      pub begins-literal : (x : Written) → k ≡ K.Literal → Emits (literal_step n (row_literal c q t r)) n area area' x
          → Begins c q t xs ms ts r n area area' (whole_of x)
      unfolding literal_step
      begins-literal x e g =
          let tree = literal-row c q t r k kind e in
          whole _ x tree (λ h. emits-same (literal-step _ n (line_at t r) (row_literal c q t r) (none_of _ h tree)) g)

      -- OPERANDS FIRST
      pub begins-unary : (o : Unary) → k ≡ K.Unary → unary_operator o ≡ unary_at (operator_at t r) → area' ≡ area
          → Begins c q t xs ms ts r n area area' (Ok (B.Operands (O.Unary o)))
      unfolding BeginsAs Operates size number_of
      begins-unary o e f g =
          let tree = unary-row c q t r k kind e in
          record {
            is = (
              g,
              rw f (record {
                inside = has-operands t r 0 (operands-unary t r (sym kind ∙ ap number_of e));
                size_is = ap size tree;
                is = λ h m. ap (emit _ m) tree ∙ unary-is _ m (line_at t r) _ _ (none_of _ h tree);
              }),
            );
          }

      pub begins-is : k ≡ K.Is → area' ≡ area → Begins c q t xs ms ts r n area area' (Ok (B.Operands O.Is))
      unfolding BeginsAs Operates size number_of
      begins-is e g =
          let tree = is_row c q t r k kind e in
          record {
            is = (
              g,
              record {
                inside = has-operands t r 0 (operands-is t r (sym kind ∙ ap number_of e));
                size_is = ap size tree;
                is = λ h m. ap (emit _ m) tree ∙ is-is _ m (line_at t r) _ _ (none_of _ h tree);
              },
            );
          }

      pub begins-binary : k ≡ K.Binary → area' ≡ area → Begins c q t xs ms ts r n area area' (Ok (B.Operands O.Binary))
      unfolding BeginsAs Operates size number_of
      begins-binary e g =
          let tree = binary-row c q t r k kind e in
          record {
            is = (
              g,
              record {
                inside = has-operands t r 1 (operands-binary t r (sym kind ∙ ap number_of e));
                size_is = ap size tree;
                is = λ h m. ap (emit _ m) tree ∙ binary-is _ m (line_at t r) _ _ _ (none_of _ h tree);
              },
            );
          }

    -- CALLS
    module _ (kind : kind_at t r ≡ 4) where
      pub begins-root : is_root_call c q t r ≡ true → area' ≡ area
          → Begins c q t xs ms ts r n area area' (Ok (B.Operands (O.Unary U.SquareRoot)))
      unfolding BeginsAs Operates unary_operator size size_all
      begins-root e g =
          let one = is-root c q t r e in
          let tree = call-tree c q t r kind ∙ ap (call (line_at t r) (row_name c q t r)) (one_argument (tree_at c q t) t _ _ one.0) in
          record {
            is = (
              g,
              record {
                inside = has-operands t r 0 (operands-call t r kind ∙ one.0);
                size_is = ap size tree ∙ omega arith;
                is = λ h m. ap (emit _ m) tree
                    ∙ root_is _ m (line_at t r) (row_name c q t r) _ one.1 (none_of _ h tree);
              },
            );
          }

      pub begins-unknown : (l : ℕ) → is_root_call c q t r ≡ false → l ≡ line_at t r → length area' ≡ length area
          → Begins c q t xs ms ts r n area area' (Err (record { reason = Re.UnknownFunction; line = l }))
      unfolding named
      begins-unknown l e f g = whole _ _ (call-tree c q t r kind) (λ h. refuses unknown_function (line_at t r) Re.UnknownFunction l g refl f
          (call-unknown _ n (line_at t r) (row_name c q t r) (tree_at c q t) t _ _ (none_of _ h (call-tree c q t r kind))
          (no-root c q t r e)))
