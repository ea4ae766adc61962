-- What a function of one value or of two gives, at what a match told of them.
use Rattle.std.proofs.Common.{◌≡◌, sym, ap}

pub same-image : {A X : Type 0} (F : A → X) {a u : A} → a ≡ u → F u ≡ F a
same-image F e = sym (ap F e)

pub same-image2 : {A B X : Type 0} (F : A → B → X) {a u : A} {b v : B} → a ≡ u → b ≡ v → F u v ≡ F a b
same-image2 F e g = sym (λ i. F (e i) (g i))
