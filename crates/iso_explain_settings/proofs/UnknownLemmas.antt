-- Unknown keys of leaves.
use Rattle.std.proofs.Common.{◌≡◌, [], ◌∷◌, ◌++◌, List, refl}
use Rattle.iso_settings.specs.Leaves.{Leaf}
use Rattle.iso_explain_settings.specs.Unknown.{Kept, with_key, with_keys}

-- of two lists of leaves, those of the first and then those of the second
pub with_keys-append : (xs ys : List Leaf) (kept : Kept) → with_keys kept (xs ++ ys) ≡ with_keys (with_keys kept xs) ys
with_keys-append [] ys kept = refl
with_keys-append (x ∷ xs) ys kept = with_keys-append xs ys (with_key kept x.0)
