-- The keys of an order one after the other: their cells, and their parts of its node record.
use Rattle.std.specs.Prelude.{ℕ, suc, pred, ◌+◌, ◌-◌, ◌*◌, ◌≤◌, ◌<◌, ◌≡◌, refl, Bool, take, Ok, Err}
use Rattle.std.proofs.Common.{arith, add-one, sym, ◌∙◌}
use Rattle.std.proofs.Math.Numerals.{sub-one}
use mathlib.Core.List.{List, [], ◌∷◌, ◌++◌, append_assoc, append-nil}
use Rattle.std.proofs.Math.ListN.{length, drop, drop_of_length-le}
use Rattle.rules.specs.Refusals.{ok}
use Rattle.rules.specs.Lists.{Bytes}
use Rattle.rules.specs.Ast.{Key, size}
use Rattle.rules.specs.Cells.{Cell}
use Rattle.rules.specs.Area.{key_numbers}
use Rattle.rules.specs.Sizes.{total, keys_size}
use Rattle.rules.specs.Scope.{Scope}
use Rattle.rules.specs.BuildSelect.{key_built}
use Rattle.appends.specs.Area.{cells_numbers, cells-numbers-append}
use Rattle.appends.specs.Expressions.Emit.{emit}
use Rattle.appends.specs.Lists.Each.{after, after_none}
use Rattle.appends.specs.Lists.Kinds.{emit_firsts}
use Rattle.appends.specs.Lists.Entry.{key_step, key-refused}
use Rattle.appends.specs.Lists.Loops.{firsts-step, firsts-stop, firsts-done}
use Rattle.ast.specs.Table.{tree_at}
use Rattle.sections.specs.Expressions.{outside_row}
use Rattle.sections.specs.Layout.{section_at}
use Rattle.sections.specs.Access.{order_kind, numbers_at, descends, after-drop}
use Rattle.sections.specs.Expressions.{expr_row}
use Rattle.sections.specs.declared.entry.Entry.{Entry}
use Rattle.statement.specs.Layout.{map_entries, to_key}
use Rattle.statement.specs.EntryAccess.{map-length, key-at}
use Rattle.plan.specs.Layout.{cells_end, key_size}
use Rattle.plan.specs.Cells.{Room, cells-none}
use Rattle.plan.specs.Emits.{Written, accepted}
use Rattle.plan.specs.Pushed.{Pushed, Kept, kept-all, kept-on, pushed-none}
use Rattle.plan.specs.declared.nodes.Nodes.{Nodes}
use Rattle.plan.specs.Parts.{keys_on}
use Rattle.claims.specs.Room.Nodes.{keys-size}
use Rattle.plan.specs.Steps.{RefusedWith, refused-on, emits-refused}
use Rattle.numbers.specs.declared.refusals.Refusal.{Refusal}
use Rattle.build_expression.specs.Rows.{emit-within}
use Rattle.build_expression.specs.Builds.{scope_at, Builds}

-- the keys, and that of an entry
abbrev pub keys_at : Bytes → Bytes → List ℕ → List ℕ → List Key
keys_at c q t parts = map_entries to_key (section_at c q t parts order_kind)

abbrev pub key_of : Bytes → Bytes → List ℕ → Entry → Bool → Key
key_of c q t e d = record { expr = tree_at c q t (expr_row e); descending = d }

-- CONTRACTS
-- a key over a scope: its cells up to the p-th and its part of the record, or its refusal
pub record One (s : Scope) (y : Key) (n : ℕ) (area : List ℕ) (nodes : Nodes) (p : ℕ) (area' : List ℕ) (nodes' : Nodes)
    : Type 0 where
  pub cells : List Cell
  pub is : emit s n y.expr ≡ ok (cells, p)
  pub stand : take (cells_end p) area' ≡ take (cells_end n) area ++ cells_numbers cells
  pub part : Pushed (key_numbers ((pred p, y.descending) ∷ [])) nodes nodes'

unfoldable pub KeyAs : Scope → Key → ℕ → List ℕ → Nodes → List ℕ → Nodes → Written → Type 0
KeyAs s y n area nodes area' nodes' (Ok p) = One s y n area nodes p area' nodes'
KeyAs s y n area nodes area' nodes' (Err w) = RefusedWith (emit s n y.expr) w

pub record KeyPut (c q : Bytes) (t xs ms ts : List ℕ) (e : Entry) (d : Bool) (n : ℕ) (area : List ℕ) (nodes : Nodes) (area' : List ℕ)
    (nodes' : Nodes) (x : Written) : Type 0 where
  pub kept : length area' ≡ length area
  pub kept-nodes : Kept nodes nodes'
  pub is : (h : ℕ) → KeyAs (scope_at c q t xs ms ts h) (key_of c q t e d) n area nodes area' nodes' x

-- all keys
pub record All (s : Scope) (ks : List Key) (n : ℕ) (area : List ℕ) (nodes : Nodes) (p : ℕ) (area' : List ℕ) (nodes' : Nodes)
    : Type 0 where
  pub cells : List Cell
  pub entries : List (ℕ × Bool)
  pub is : emit_firsts (key_built s) n ks ≡ ok (cells, entries, p)
  pub stand : take (cells_end p) area' ≡ take (cells_end n) area ++ cells_numbers cells
  pub pushed : Pushed (key_numbers entries) nodes nodes'
  pub counted : nodes'.used ≡ nodes.used + key_size * length ks

unfoldable pub KeysAs : Scope → List Key → ℕ → List ℕ → Nodes → List ℕ → Nodes → Written → Type 0
KeysAs s ks n area nodes area' nodes' (Ok p) = All s ks n area nodes p area' nodes'
KeysAs s ks n area nodes area' nodes' (Err w) = RefusedWith (emit_firsts (key_built s) n ks) w

pub record KeysPut (c q : Bytes) (t parts xs ms ts : List ℕ) (n : ℕ) (area : List ℕ) (nodes : Nodes) (area' : List ℕ)
    (nodes' : Nodes) (x : Written) : Type 0 where
  pub kept : length area' ≡ length area
  pub kept-nodes : Kept nodes nodes'
  pub is : (h : ℕ) → KeysAs (scope_at c q t xs ms ts h) (keys_at c q t parts) n area nodes area' nodes' x

-- ONE KEY
key-two : (x : ℕ) (b : Bool) → length (key_numbers ((x, b) ∷ [])) ≡ key_size
key-two x b = keys-size ((x, b) ∷ [])

module _ {c q : Bytes} {t xs ms ts : List ℕ} {r n : ℕ} {area area' : List ℕ} {w : Written}
    (b : Builds c q t xs ms ts r n area area' w) (e : Entry) (d : Bool) (g : r ≡ expr_row e) where
  here : Builds c q t xs ms ts (expr_row e) n area area' w
  here = rw (← g) b

  pub key-refuses : {nodes : Nodes} (v : Refusal) → w ≡ Err v → KeyPut c q t xs ms ts e d n area nodes area' nodes (Err v)
  unfolding KeyAs
  key-refuses {nodes} v f = record {
    kept = (b.is 0).kept;
    kept-nodes = kept-all _;
    is = λ h. emits-refused v (here.is h) f;
  }

  pub key-done : {nodes nodes' : Nodes} (p : ℕ) → w ≡ Ok p
      → Pushed (key_numbers ((p - 1, d) ∷ [])) nodes nodes' → KeyPut c q t xs ms ts e d n area nodes area' nodes' (Ok p)
  unfolding KeyAs
  key-done p f a = record {
    kept = (b.is 0).kept;
    kept-nodes = a.kept;
    is = λ h.
        let o = accepted p (here.is h) f in
        record {
          cells = o.cells;
          is = o.is;
          stand = (here.is h).cells o.cells p o.is;
          part = rw (← sub-one p) a;
        };
  }

-- ALL KEYS
-- of the keys ks, i are put: their cells up to the p-th, their parts of the record
pub record Sofar (s : Scope) (ks : List Key) (n : ℕ) (area₀ : List ℕ) (nodes₀ : Nodes) (i p : ℕ) (area : List ℕ)
    (nodes : Nodes) : Type 0 where
  pub cells : List Cell
  pub entries : List (ℕ × Bool)
  pub is : emit_firsts (key_built s) n ks ≡ after (cells, entries, p) (emit_firsts (key_built s) p (drop i ks))
  pub stand : take (cells_end p) area ≡ take (cells_end n) area₀ ++ cells_numbers cells
  pub pushed : Pushed (key_numbers entries) nodes₀ nodes

pub record Putting (c q : Bytes) (t parts xs ms ts : List ℕ) (n : ℕ) (area₀ : List ℕ) (nodes₀ : Nodes) (i p : ℕ)
    (area : List ℕ) (nodes : Nodes) : Type 0 where
  pub within : i ≤ length (keys_at c q t parts)
  pub area-kept : length area ≡ length area₀
  pub nodes-kept : Kept nodes₀ nodes
  pub counted : nodes.used ≡ nodes₀.used + key_size * i
  pub room : Room p (3 * keys_size (drop i (keys_at c q t parts))) area
  pub space : nodes₀.used + key_size * length (keys_at c q t parts) ≤ length nodes₀.numbers.now
  pub sofar : (h : ℕ) → Sofar (scope_at c q t xs ms ts h) (keys_at c q t parts) n area₀ nodes₀ i p area nodes

keys_none : key_numbers [] ≡ []
unfolding key_numbers
keys_none = refl

pub putting-begin : {c q : Bytes} {t parts : List ℕ} {n : ℕ} {area : List ℕ} {nodes : Nodes} (xs ms ts : List ℕ)
    → Room n (3 * keys_size (keys_at c q t parts)) area → nodes.used + key_size * length (keys_at c q t parts) ≤ length nodes.numbers.now
    → Putting c q t parts xs ms ts n area nodes 0 n area nodes
putting-begin {n = n} {area} {nodes} xs ms ts r l = record {
  within = omega arith;
  area-kept = refl;
  nodes-kept = kept-all nodes;
  counted = omega arith;
  room = r;
  space = l;
  sofar = λ h. record {
    cells = [];
    entries = [];
    is = sym (after_none n _);
    stand = rw (cells-none, append-nil);
    pushed = rw keys_none (pushed-none nodes (omega (arith, l)));
  };
}

-- how many there are
pub keys-count : (c q : Bytes) (t parts : List ℕ) (x : ℕ) → x ≡ length (section_at c q t parts order_kind)
    → x ≡ length (keys_at c q t parts)
keys-count c q t parts x e = e ∙ sym (map-length to_key (section_at c q t parts order_kind))

module _ (c q : Bytes) (t parts : List ℕ) {i x : ℕ} (e : x ≡ length (section_at c q t parts order_kind)) where
  pub keys_below : i < x → i < length (keys_at c q t parts)
  keys_below l = omega (arith, l, keys-count c q t parts x e)

  pub keys-past : x ≤ i → length (keys_at c q t parts) ≤ i
  keys-past l = omega (arith, l, keys-count c q t parts x e)

module _ {c q : Bytes} {t parts xs ms ts : List ℕ} {n : ℕ} {area₀ : List ℕ} {nodes₀ : Nodes} {i p : ℕ} {area : List ℕ} {nodes : Nodes}
    (u : Putting c q t parts xs ms ts n area₀ nodes₀ i p area nodes) where
  module _ (size_is : length t ≤ outside_row) (l : i < length (keys_at c q t parts)) (e : Entry)
      (g : e ≡ numbers_at parts order_kind i) (d : Bool) (y : d ≡ descends parts i) where
    key_here_lem : drop i (keys_at c q t parts) ≡ key_of c q t e d ∷ drop (suc i) (keys_at c q t parts)
    key_here_lem = after-drop i (keys_at c q t parts) (key_of c q t e d)
        (key-at c q t parts order_kind i e g
        (omega (arith, l, map-length to_key (section_at c q t parts order_kind))) size_is d y)

    size-here : keys_size (drop i (keys_at c q t parts))
        ≡ size (tree_at c q t (expr_row e)) + keys_size (drop (suc i) (keys_at c q t parts))
    unfolding keys_size total
    size-here = rw key_here_lem

    pub room-here : Room p (3 * size (tree_at c q t (expr_row e))) area
    room-here = record {
      counted = omega (arith, size-here, u.room.counted);
      held = omega (arith, size-here, u.room.held);
    }

    pub space-here : nodes.used + key_size ≤ length nodes.numbers.now
    space-here = omega (arith, u.space, u.counted, u.nodes-kept.all, l)

    module _ {area' : List ℕ} {nodes' : Nodes} {x : Written} (a : KeyPut c q t xs ms ts e d p area nodes area' nodes' x) where
      pub putting-refused : (w : Refusal) → x ≡ Err w
          → KeysPut c q t parts xs ms ts n area₀ nodes₀ area' nodes' (Err w)
      unfolding KeysAs KeyAs
      putting-refused w f = record {
        kept = a.kept ∙ u.area-kept;
        kept-nodes = kept-on u.nodes-kept a.kept-nodes;
        is = λ h.
            let s = scope_at c q t xs ms ts h in
            let o = u.sofar h in
            let b : RefusedWith (emit s p (key_of c q t e d).expr) w = rw f at (a.is h) in
            (refused-on b (λ v j. o.is ∙ rw key_here_lem
            (firsts-stop (key_built s) (o.cells, o.entries, p) _ _ v (key-refused s p _ v j))));
      }

      pub putting-more : (p' : ℕ) → x ≡ Ok p'
          → Putting c q t parts xs ms ts n area₀ nodes₀ (i + 1) p' area' nodes'
      putting-more p' f =
          let o = one 0 in
          let w = emit-within (scope_at c q t xs ms ts 0) p (tree_at c q t (expr_row e)) o.cells p' o.is in
          rw (add-one i) (record {
            within = omega (arith, l);
            area-kept = a.kept ∙ u.area-kept;
            nodes-kept = kept-on u.nodes-kept a.kept-nodes;
            room = record {
              counted = omega (arith, size-here, w.most, u.room.counted);
              held = omega (arith, size-here, w.most, u.room.held, a.kept);
            };
            counted = omega (arith, u.counted, o.part.appended.next, key-two (pred p') d);
            space = u.space;
            sofar = λ h.
                let s = scope_at c q t xs ms ts h in
                let f = u.sofar h in
                let b = one h in
                record {
                  cells = f.cells ++ b.cells;
                  entries = f.entries ++ ((pred p', d) ∷ []);
                  is = f.is ∙ rw key_here_lem (firsts-step (key_built s) (f.cells, f.entries, p) _ _ b.cells _ p'
                      (key_step s p (key_of c q t e d) b.cells p' b.is));
                  stand = b.stand ∙ rw (f.stand, cells-numbers-append f.cells b.cells)
                      (append_assoc (take (cells_end n) area₀) (cells_numbers f.cells) (cells_numbers b.cells));
                  pushed = keys_on f.entries _ f.pushed b.part;
                };
          })
        where
          one : (h : ℕ) → One (scope_at c q t xs ms ts h) (key_of c q t e d) p area nodes p' area' nodes'
          one h = unfold KeyAs in rw f at (a.is h)

  pub putting-end : length (keys_at c q t parts) ≤ i
      → KeysPut c q t parts xs ms ts n area₀ nodes₀ area nodes (Ok p)
  unfolding KeysAs
  putting-end l =
      let z : i ≡ length (keys_at c q t parts) = omega (arith, l, u.within) in
      record {
        kept = u.area-kept;
        kept-nodes = u.nodes-kept;
        is = λ h.
            let s = scope_at c q t xs ms ts h in
            let o = u.sofar h in
            let d : drop i (keys_at c q t parts) ≡ [] = drop_of_length-le (keys_at c q t parts) l in
            record {
              cells = o.cells;
              entries = o.entries;
              is = o.is ∙ rw d (firsts-done (key_built s) (o.cells, o.entries, p));
              stand = o.stand;
              pushed = o.pushed;
              counted = rw (← z) u.counted;
            };
      }
