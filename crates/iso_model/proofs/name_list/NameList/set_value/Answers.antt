use Rattle.std.proofs.Common.{◌≡◌, ◌∙◌, sym, ap, arith, length, slice_set, vec_len}
use Rattle.iso_model.specs.declared.data.Data.{Data}
use Rattle.iso_model.proofs.GivenLemmas.{revalued-past, revalued-set}
use Rattle.iso_model.proofs.NameLemmas.{with_value}
use Rattle.iso_model.proofs.PlaceLemmas.{made-set}
use Rattle.iso_model.proofs.name_list.NameList.set_value.Goals as goal

pub returns-then-place-len : goal.returns-then-place-len
returns-then-place-len c =
    let bs = c.self.inside.bindings.items in
    let all : length bs ≡ vec_len c.self.inside.bindings = sym c.self.inside.bindings.ok.0 in
    rw (← c.self.view_is) (sym (revalued-past bs c.args.place c.args.value (omega (arith, c.len.ensures, c.if-place-len.true))))

pub invariant_of-self : goal.invariant_of-self
invariant_of-self c =
    let bs = c.self.inside.bindings.items in
    let all : length bs ≡ vec_len c.self.inside.bindings = sym c.self.inside.bindings.ok.0 in
    made-set c.self.inside.places bs c.args.place c.index_mut-binding.result.now c.replace.new.dest (omega (arith, c.len.ensures, c.if-place-len.false)) c.index_mut-binding.ensures.value
    c.self.invariant

pub returns : goal.returns
returns c =
    let bs = c.self.inside.bindings.items in
    let b = c.index_mut-binding.result.now in
    let all : length bs ≡ vec_len c.self.inside.bindings = sym c.self.inside.bindings.ok.0 in
    rw (← c.self.view_is)
    (ap (λ (d : Data). slice_set bs c.args.place (with_value b d)) c.replace.ensures.after
    ∙ revalued-set bs c.args.place b c.args.value (omega (arith, c.len.ensures, c.if-place-len.false)) c.index_mut-binding.ensures.value)
