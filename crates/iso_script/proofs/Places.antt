-- Places that are kept.
use Rattle.std.proofs.Common.{◌≡◌, Bool, true, false, if◌then◌else◌, List, [], ◌∷◌, ◌++◌, Option, Some, None, Result, Ok, Err, append-nil, append_assoc, refl, ap, sym, ◌∙◌}
use Rattle.iso_script_lexer.specs.Piece.{Piece}
use Rattle.iso_script_statements.specs.Faults.{ScriptError}
use Rattle.iso_script.specs.Places.{with_places, ParsesPlaced}
use Rattle.iso_script.specs.declared.place.NodePlace.{NodePlace}

-- none more
pub none_kept : (k : Option (List NodePlace)) → k ≡ with_places k []
unfolding with_places
none_kept None = refl
none_kept (Some places) = ap Some (sym (append-nil places))

both_kept : (k : Option (List NodePlace)) (own more : List NodePlace) → with_places (with_places k own) more ≡ with_places k (own ++ more)
unfolding with_places
both_kept None own more = refl
both_kept (Some places) own more = ap Some (append_assoc places own more)

-- some, and then more
pub kept_more : (old : Option (List NodePlace)) {mid new : Option (List NodePlace)} (own more : List NodePlace)
    → mid ≡ with_places old own → new ≡ with_places mid more → new ≡ with_places old (own ++ more)
kept_more old own more h k = k ∙ ap (λ o. with_places o more) h ∙ both_kept old own more

-- one, which is this, and then more
pub kept_after : (old : Option (List NodePlace)) {mid new : Option (List NodePlace)} (place other : NodePlace) (more : List NodePlace)
    → place ≡ other → mid ≡ with_places old (place ∷ []) → new ≡ with_places mid more → new ≡ with_places old (other ∷ more)
kept_after old place other more is h k = kept_more old (place ∷ []) more h k ∙ ap (λ p. with_places old (p ∷ more)) is

-- what was read of the pieces that were left is read of all of them
pub placed_from : {X A : Type 0} (view : X → A) (Was Is : A → List NodePlace → List Piece → List Piece → Type 0) (result : Result X ScriptError) (old mid new : List Piece)
    (before after : Option (List NodePlace))
    → ((x : A) (places : List NodePlace) (rest : List Piece) → Was x places mid rest → Is x places old rest)
    → ((x : A) (places : List NodePlace) (rest : List Piece) → Is x places old rest → Was x places mid rest)
    → ParsesPlaced view Was result mid new before after → ParsesPlaced view Is result old new before after
placed_from view Was Is (Ok x) old mid new before after whole left h = (h.0, whole (view x) h.0 new h.1, h.2)
placed_from view Was Is (Err e) old mid new before after whole left h = λ rest x places k. h rest x places (left x places rest k)

-- places that are kept from the first on are those of the list
pub kept_are : (are_kept : Bool) (list places : List NodePlace) (old : Option (List NodePlace)) → old ≡ Some [] → (if are_kept then Some list else None) ≡ with_places old places → list ≡ places
unfolding with_places
kept_are are_kept list places old none h = go are_kept (h ∙ ap (λ k. with_places k places) none)
  where
    go : (b : Bool) → (if b then Some list else None) ≡ Some places → list ≡ places
    go true h = cc
    go false h = cc
