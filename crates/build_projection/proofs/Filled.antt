-- A part of the items filled with starred columns one after the other: what the items are then.
use Rattle.std.specs.Prelude.{ℕ, ◌+◌, ◌≤◌, ◌≡◌, List, ◌++◌, map, length, take, drop}
use Rattle.std.proofs.Common.{arith, sym, ap, ◌∙◌, length-take, length-drop}
use Rattle.std.proofs.lemmas.List.Edits.{sets, sets-eq, paste_all}
use Rattle.std.proofs.lemmas.Slice.{put_mid-paste}
use Rattle.std.proofs.lemmas.List.{length-map, drop_all, append-nil, append_assoc}
use borrow.Rule.Slice.PartMut.{put_mid}
use Rattle.scope.specs.Scopes.{up_to}
use Rattle.build_projection.specs.Listing.{up_to-length}
use Rattle.build_projection.specs.declared.items.Item.{Item}
use Rattle.build_projection.specs.declared.items.Item.TheVariants as I

pub starred-length : (first w : ℕ) → length (map I.Starred (up_to first w)) ≡ w
starred-length first w = length-map (up_to first w) I.Starred ∙ up_to-length first w

pub filled-part : (items ys : List Item) (n k first w : ℕ) → ys ≡ map I.Starred (up_to first (length (take k (drop n items))))
    → k ≡ w → n + w ≤ length items → put_mid n k items ys ≡ sets items n (map I.Starred (up_to first w))
filled-part items ys n k first w e g l =
    let zs : List Item = map I.Starred (up_to first w) in
    let z : length zs ≡ w = starred-length first w in
    let m : length (take k (drop n items)) ≡ w = omega (arith, length-take k (drop n items), length-drop n items, g, l) in
    put_mid-paste n k items ys zs w (e ∙ ap (λ n. map I.Starred (up_to first n)) m) (sym g) (sym z)
    ∙ paste_all items n zs w (sym z)
    ∙ sym (append_assoc (take n items) zs (drop (n + w) items))
    ∙ sym (rw z at (sets-eq zs items n (omega (arith, z, l))))

pub filled-all : (items ys xs : List Item) → items ≡ sets ys 0 xs → length xs ≡ length ys → items ≡ xs
filled-all items ys xs e h =
    e ∙ sets-eq xs ys 0 (omega (arith, h)) ∙ ap (λ z. xs ++ z) (drop_all (0 + length xs) ys (omega (arith, h))) ∙ append-nil xs
