use Rattle.std.proofs.Common.{ℕ, ap, ap₂, subst, ◌∙◌, drop, take}
use Rattle.std.proofs.lemmas.List.{drop_min, take_min}
use Rattle.iso_hints.specs.Places.{IsPlace, PlaceView, place_between}
use Rattle.iso_hints.proofs.place.place_at.Goals as goal

pub returns : goal.returns
returns c =
    let text = c.args.text.now in
    let front = c.split_at.ensures.front ∙ ap (λ (n : ℕ). take n text) c.min.ensures ∙ take_min c.args.bytes text in
    let back = c.split_at.ensures.back ∙ ap (λ (n : ℕ). drop n text) c.min.ensures ∙ drop_min c.args.bytes text in
    subst (λ (view : PlaceView). IsPlace c.place_between.result view) (ap₂ place_between front back) c.place_between.ensures
