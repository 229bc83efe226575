use Rattle.std.proofs.Common.{◌≡◌, ◌<◌, ℕ, List, length, get_or, subst, take, sym, ap, ◌∙◌, arith, true≢false}
use Rattle.std.proofs.lemmas.List.{get_or_default, take_all, take_more}
use Rattle.std.proofs.lemmas.List.Elements.{All-push}
use Rattle.std.specs.List.{All}
use Rattle.iso_affected.specs.PropertyStarts.{asked}
use Rattle.iso_affected.proofs.properties.first_name.Goals as goal

pub returns-then-not-same_at : goal.returns-then-not-same_at
returns-then-not-same_at c =
    let names = c.args.names.now in
    let i = c.names.place in
    let within : i < length names = omega arith in
    let f = asked c.args.was.now in
    let g = asked c.args.now.now in
    record {
      within = within;
      apart = λ d same.
          let at : get_or names i d ≡ c.as_str.result.now = get_or_default names i d c.index-names-place.result within ∙ sym c.index-names-place.is ∙ sym c.as_str.ensures in
          true≢false (sym (c.same_at.ensures.1 (ap f (sym at) ∙ same ∙ ap g at)) ∙ c.if-not-same_at.true);
      before = c.names.invariant;
    }

pub names-preserved : goal.names-preserved
names-preserved c =
    let names = c.args.names.now in
    let i = c.names.place in
    let f = asked c.args.was.now in
    let g = asked c.args.now.now in
    let within : i < length names = omega arith in
    let at : get_or names i c.index-names-place.result ≡ c.as_str.result.now = sym c.index-names-place.is ∙ sym c.as_str.ensures in
    let here : f (get_or names i c.index-names-place.result) ≡ g (get_or names i c.index-names-place.result) = ap f at ∙ c.same_at.ensures.0 c.if-not-same_at.false ∙ ap g (sym at) in
    subst (All (λ (name : List ℕ). f name ≡ g name)) (sym (take_more names i c.index-names-place.result within))
    (All-push (λ (name : List ℕ). f name ≡ g name) (take i names) (get_or names i c.index-names-place.result) c.names.invariant here)

pub returns : goal.returns
returns c =
    let f = asked c.args.was.now in
    let g = asked c.args.now.now in
    subst (All (λ (name : List ℕ). f name ≡ g name)) (take_all c.names.place c.args.names.now (omega arith)) c.names.invariant
