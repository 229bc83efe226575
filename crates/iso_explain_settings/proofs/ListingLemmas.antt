-- Lines that are added one by one.
use Rattle.std.proofs.Common.{◌≡◌, ◌<◌, ℕ, ◌+◌, List, [], ◌∷◌, ◌++◌, length, get_or, drop, map, flat_map, sym, ap, ◌∙◌, append_assoc, append-nil}
use Rattle.std.proofs.lemmas.Grind.{flat_map-append}
use Rattle.iso_tap.proofs.PrinterLemmas.{drop_next}

-- one line more of those that are left
pub more-lines : {A B : Type 0} (f : A → List ℕ) (g : List ℕ → List ℕ) (h : B → List ℕ) (done : List A) (x : A) (all : List B) (i : ℕ) (d : B) (whole : List ℕ)
    → i < length all → f x ≡ g (h (get_or all i d)) → flat_map f done ++ flat_map g (map h (drop i all)) ≡ whole
    → flat_map f (done ++ x ∷ []) ++ flat_map g (map h (drop (i + 1) all)) ≡ whole
more-lines {A} {B} f g h done x all i d whole below same so_far =
    let rest = ap (λ (bs : List B). flat_map g (map h bs)) (drop_next all i d below) in
    let left = flat_map g (map h (drop (i + 1) all)) in
    ap (λ (t : List ℕ). t ++ left) (flat_map-append f done (x ∷ []) ∙ ap (λ (t : List ℕ). flat_map f done ++ t) (append-nil (f x) ∙ same))
    ∙ append_assoc (flat_map f done) (g (h (get_or all i d))) left
    ∙ ap (λ (t : List ℕ). flat_map f done ++ t) (sym rest)
    ∙ so_far
