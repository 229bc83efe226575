use Rattle.std.proofs.Common.{Ok, ap, sym, ◌∙◌}
use Rattle.std.specs.List.{slice_get}
use Rattle.iso_model.specs.Environments.{Environment}
use Rattle.iso_model.specs.Names.{lent, place_of, revalued}
use Rattle.iso_model.proofs.NameLemmas.{assigned-frozen, assigned-none, assigned-set, is_first-revalued}
use Rattle.iso_model.proofs.names.Names.assign_at.Goals as goal

pub returns-in_default-clause-answer : goal.returns-in_default-clause-answer
returns-in_default-clause-answer c =
    let bs = c.self.inside.bindings in
    let place = c.requires ∙ ap (λ (e : Environment). place_of e.names c.args.name.now) (sym c.self.view_is) in
    rw (← c.self.view_is) (assigned-none bs c.args.name.now c.args.value (c.in_default.ensures ∙ ap (slice_get bs) place))

pub returns-then-is_frozen-clause-answer : goal.returns-then-is_frozen-clause-answer
returns-then-is_frozen-clause-answer c =
    let bs = c.self.inside.bindings in
    let place = c.requires ∙ ap (λ (e : Environment). place_of e.names c.args.name.now) (sym c.self.view_is) in
    rw (← c.self.view_is) (assigned-frozen bs c.args.name.now c.args.value (lent c.in-Some.binding) (c.in-Some.ensures ∙ ap (slice_get bs) place)
    (sym c.is_frozen.ensures ∙ c.if-is_frozen.true))

pub returns-clause-answer : goal.returns-clause-answer
returns-clause-answer c =
    let bs = c.self.inside.bindings in
    let place = c.requires ∙ ap (λ (e : Environment). place_of e.names c.args.name.now) (sym c.self.view_is) in
    rw (← c.self.view_is) (
    assigned-set bs c.args.name.now c.args.value (lent c.in-Some.binding) (c.in-Some.ensures ∙ ap (slice_get bs) place) (sym c.is_frozen.ensures ∙ c.if-is_frozen.false)
    ∙ sym (ap Ok (c.in_ok-set_value.ensures.ok ∙ ap (λ i. revalued bs i c.args.value) place)))

pub invariant_of-self-2 : goal.invariant_of-self-2
invariant_of-self-2 c =
    let bs = c.self.inside.bindings in
    let place = c.requires ∙ ap (λ (e : Environment). place_of e.names c.args.name.now) (sym c.self.view_is) in
    rw c.in_ok-set_value.ensures.ok (is_first-revalued bs c.args.name.now c.args.value c.args.place place)
