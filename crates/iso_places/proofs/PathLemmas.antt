-- The nodes of a path by their depths.
use Rattle.std.proofs.Common.{◌≡◌, ℕ, List, [], ◌∷◌, ◌++◌, append_assoc, take, drop, length, reverse, Some, refl, sym, ap, ◌∙◌}
use Rattle.std.proofs.lemmas.List.{length-reverse, reverse-append, take-append-drop}
use Rattle.std.specs.List.{slice_get}
use mathlib.Core.List.{reverse_aux-eq}

-- what stands after some
after : {A : Type 0} (xs : List A) (x : A) (ys : List A) → slice_get (xs ++ x ∷ ys) (length xs) ≡ Some x
after [] x ys = refl
after (z ∷ zs) x ys = after zs x ys

reverse_onto : {A : Type 0} (more : List A) (x : A) (front : List A) → reverse (x ∷ more) ++ front ≡ reverse more ++ x ∷ front
reverse_onto more x front = ap (λ ys. ys ++ front) (reverse_aux-eq more (x ∷ [])) ∙ append_assoc (reverse more) (x ∷ []) front

-- the last part of a list, from the back
pub from_back : {A : Type 0} (xs : List A) (below : ℕ) (x : A) (more : List A) → drop below xs ≡ x ∷ more → slice_get (reverse xs) (length more) ≡ Some x
from_back xs below x more e =
    let front = reverse (take below xs) in
    let whole : reverse xs ≡ reverse more ++ x ∷ front =
    ap reverse (sym (take-append-drop below xs) ∙ ap (λ ys. take below xs ++ ys) e) ∙ reverse-append (take below xs) (x ∷ more) ∙ reverse_onto more x front in
    ap (λ ys. slice_get ys (length more)) whole ∙ ap (slice_get (reverse more ++ x ∷ front)) (sym (length-reverse more)) ∙ after (reverse more) x front
