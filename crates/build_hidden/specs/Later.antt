-- The rows visited for HAVING and ORDER BY, one expression after the other.
use Rattle.std.specs.Prelude.{ℕ, suc, ◌+◌, ◌≤◌, ◌<◌, ◌≡◌, refl, Bool, length, drop, Option, None, Some}
use Rattle.std.proofs.Common.{arith, sym, ◌∙◌, length-append, drop_of_length-le}
use Rattle.std.proofs.Math.Numerals.{add-one}
use Rattle.std.proofs.Math.Path.{ap}
use mathlib.Core.List.{List, [], ◌∷◌, ◌++◌, map, map-append}
use Rattle.rules.specs.Lists.{Bytes, given, map_option}
use Rattle.rules.specs.Ast.{Expr, Key, size}
use Rattle.rules.specs.Scope.{Scope}
use Rattle.rules.specs.Sizes.{total}
use Rattle.rules.specs.Hidden.{Hidden, hidden_of}
use Rattle.rules.specs.BuildExpression.{clause_expr}
use Rattle.rules.specs.BuildSelect.{later_of}
use Rattle.ast.specs.Table.{table_size, tree_at}
use Rattle.sections.specs.Layout.{section_at}
use Rattle.sections.specs.Access.{having_kind, order_kind, numbers_at, after-drop}
use Rattle.sections.specs.Expressions.{expr_row}
use Rattle.sections.specs.declared.entry.Entry.{Entry}
use Rattle.statement.specs.Layout.{map_entries, to_key, select_of}
use Rattle.statement.specs.Access.{select_at}
use Rattle.statement.specs.EntryAccess.{clause_at, clause_of, clause-is, key-at, map-length}
use Rattle.statement.specs.declared.access.Clause as Cl
use Rattle.build_hidden.specs.Visits.{hidden_by, hidden-append, trees_at}
use Rattle.ast.specs.Listed.{Listed, listed-none, listed-all, listed-on}
use Rattle.ast.specs.declared.buffer.Rows.{Rows}
use Rattle.build_hidden.specs.Rows.{RowsFit, RowsVisited}

-- the order keys, and their expressions
module _ (c q : Bytes) (cells parts : List ℕ) where
  unfoldable pub keys_at : List Key
  keys_at = map_entries to_key (section_at c q cells parts order_kind)

abbrev pub expressions_of : List Key → List Expr
expressions_of ks = map (λ (k : Key). k.expr) ks

-- CONTRACTS
-- there is room behind the rows of s for as many as the keys have cells, by some texts
pub record KeysFit (cells parts : List ℕ) (s : Rows) : Type 0 where
  pub c : Bytes
  pub q : Bytes
  pub table : length cells ≡ table_size
  pub fits : s.used + total size (expressions_of (keys_at c q cells parts)) ≤ length s.rows.now

-- the rows of the keys stand behind those of s
pub record KeysVisited (cells parts : List ℕ) (s s' : Rows) : Type 0 where
  pub seen : List ℕ
  pub is : (c q : Bytes) (t : Scope) (h : Hidden)
      → hidden_of t (expressions_of (keys_at c q cells parts)) h ≡ hidden_by t (trees_at c q cells seen) h
  pub listed : Listed seen s s'

pub record LaterFit (cells parts : List ℕ) (s : Rows) : Type 0 where
  pub c : Bytes
  pub q : Bytes
  pub table : length cells ≡ table_size
  pub fits : (froms : List ℕ) → s.used + total size (later_of (select_at c q cells froms parts)) ≤ length s.rows.now

pub record LaterVisited (cells parts : List ℕ) (s s' : Rows) : Type 0 where
  pub seen : List ℕ
  pub is : (c q : Bytes) (froms : List ℕ) (t : Scope) (h : Hidden)
      → hidden_of t (later_of (select_at c q cells froms parts)) h ≡ hidden_by t (trees_at c q cells seen) h
  pub listed : Listed seen s s'

-- THE KEYS
-- the rows of the first k keys stand behind those of s
pub record KeysVisiting (cells parts : List ℕ) (s : Rows) (k : ℕ) (s' : Rows) : Type 0 where
  pub seen : List ℕ
  pub is : (c q : Bytes) (t : Scope) (h : Hidden) → hidden_of t (expressions_of (keys_at c q cells parts)) h
      ≡ hidden_of t (expressions_of (drop k (keys_at c q cells parts))) (hidden_by t (trees_at c q cells seen) h)
  pub listed : Listed seen s s'
  pub most : (c q : Bytes) → length seen + total size (expressions_of (drop k (keys_at c q cells parts)))
      ≤ total size (expressions_of (keys_at c q cells parts))

pub keys-begin : {cells parts : List ℕ} {s : Rows} → KeysFit cells parts s → KeysVisiting cells parts s 0 s
unfolding hidden_by
keys-begin {s = s} f = record {
  seen = [];
  is = λ c q t h. refl;
  listed = listed-none s (omega (arith, f.fits));
  most = λ c q. omega arith;
}

module _ {cells parts : List ℕ} {s : Rows} {k : ℕ} {s' : Rows} (f : KeysFit cells parts s)
    (v : KeysVisiting cells parts s k s') (w : ℕ)
    (e : (c q : Bytes) (t : List ℕ) → w ≡ length (section_at c q t parts order_kind)) where
  module _ {x : Entry} {r : ℕ} (l : k < w) (g : x ≡ numbers_at parts order_kind k) (y : r ≡ expr_row x) where
    next-key : (c q : Bytes) → expressions_of (drop k (keys_at c q cells parts))
        ≡ tree_at c q cells r ∷ expressions_of (drop (suc k) (keys_at c q cells parts))
    unfolding keys_at
    next-key c q = ap expressions_of (after-drop k _ _ (key-at c q cells parts order_kind k x g
        (omega (arith, l, e c q cells)) (omega (arith, f.table)) _ refl)) ∙ rw y

    next-size : (c q : Bytes) → total size (expressions_of (drop k (keys_at c q cells parts)))
        ≡ size (tree_at c q cells r) + total size (expressions_of (drop (suc k) (keys_at c q cells parts)))
    unfolding total
    next-size c q = rw (next-key c q)

    pub keys-fits : RowsFit cells r s'
    keys-fits = record {
      c = f.c;
      q = f.q;
      fits = omega (
        arith,
        f.fits,
        v.most f.c f.q,
        v.listed.used,
        listed-all v.listed,
        next-size f.c f.q,
      );
    }

    pub keys-more : {s'' : Rows} {b : Bool} → RowsVisited cells r s' s'' b → KeysVisiting cells parts s (k + 1) s''
    unfolding hidden_of
    keys-more o = record {
      seen = v.seen ++ o.seen;
      is = λ c q t h. v.is c q t h
          ∙ rw (
            next-key c q,
            hidden_of,
            o.walks.is c q t (hidden_by t (trees_at c q cells v.seen) h),
            add-one k,
            map-append (tree_at c q cells) v.seen o.seen,
            hidden-append t (trees_at c q cells v.seen) (trees_at c q cells o.seen) h,
          );
      listed = listed-on v.listed o.listed;
      most = λ c q. rw (length-append v.seen o.seen, add-one k)
          (omega (arith, v.most c q, o.most c q, next-size c q));
    }

  pub keys-end : w ≤ k → KeysVisited cells parts s s'
  unfolding keys_at hidden_of
  keys-end l = record {
    seen = v.seen;
    is = λ c q t h. v.is c q t h ∙ ap (λ ks. hidden_of t (expressions_of ks) (hidden_by t (trees_at c q cells v.seen) h))
        (drop_of_length-le (keys_at c q cells parts) {i = k} (omega (arith, e c q cells, map-length to_key (section_at c q cells parts order_kind))));
    listed = v.listed;
  }

-- HAVING AND ORDER BY
module _ (c q : Bytes) (cells parts froms : List ℕ) (s : length cells ≡ table_size) where
  later-none : None ≡ clause_at parts having_kind
      → later_of (select_at c q cells froms parts) ≡ expressions_of (keys_at c q cells parts)
  unfolding later_of select_at select_of keys_at clause_of clause_expr given map_option
  later-none e = rw (clause-is parts having_kind c q cells (omega (arith, s)) None e)

  later-some : (clause : Cl.Clause) → Some clause ≡ clause_at parts having_kind
      → later_of (select_at c q cells froms parts) ≡ tree_at c q cells clause.row ∷ expressions_of (keys_at c q cells parts)
  unfolding later_of select_at select_of keys_at clause_of clause_expr given map_option
  later-some clause e = rw (clause-is parts having_kind c q cells (omega (arith, s)) (Some clause) e)

module _ {cells parts : List ℕ} {s : Rows} (f : LaterFit cells parts s) {x : Option Cl.Clause} (e : x ≡ clause_at parts having_kind) where
  module _ (g : x ≡ None) where
    pub none-fits : KeysFit cells parts s
    none-fits = record {
      c = f.c;
      q = f.q;
      table = f.table;
      fits = omega (arith, f.fits [], ap (total size) (later-none f.c f.q cells parts [] f.table (sym g ∙ e)));
    }

    pub none-visited : {s' : Rows} → KeysVisited cells parts s s' → LaterVisited cells parts s s'
    none-visited o = record {
      seen = o.seen;
      is = λ c q froms t h. ap (λ es. hidden_of t es h) (later-none c q cells parts froms f.table (sym g ∙ e))
          ∙ o.is c q t h;
      listed = o.listed;
    }

  module _ {clause : Cl.Clause} (g : x ≡ Some clause) where
    some_size : total size (later_of (select_at f.c f.q cells [] parts))
        ≡ size (tree_at f.c f.q cells clause.row) + total size (expressions_of (keys_at f.c f.q cells parts))
    unfolding total
    some_size = ap (total size) (later-some f.c f.q cells parts [] f.table clause (sym g ∙ e))

    pub having-fits : RowsFit cells clause.row s
    having-fits = record { c = f.c; q = f.q; fits = omega (arith, f.fits [], some_size) }

    module _ {s₁ : Rows} {b : Bool} (o : RowsVisited cells clause.row s s₁ b) where
      pub some_fits : KeysFit cells parts s₁
      some_fits = record {
        c = f.c;
        q = f.q;
        table = f.table;
        fits = omega (arith, f.fits [], some_size, o.most f.c f.q, o.listed.used, listed-all o.listed);
      }

      pub some-visited : {s₂ : Rows} → KeysVisited cells parts s₁ s₂ → LaterVisited cells parts s s₂
      unfolding hidden_of
      some-visited k = record {
        seen = o.seen ++ k.seen;
        is = λ c q froms t h. ap (λ es. hidden_of t es h) (later-some c q cells parts froms f.table clause (sym g ∙ e))
            ∙ ap (λ (u : Hidden). hidden_of t (expressions_of (keys_at c q cells parts)) u) (ap (λ v. v.hidden) (o.walks.is c q t h))
            ∙ k.is c q t _
            ∙ rw (
              map-append (tree_at c q cells) o.seen k.seen,
              hidden-append t (trees_at c q cells o.seen) (trees_at c q cells k.seen) h,
            );
        listed = listed-on o.listed k.listed;
      }
