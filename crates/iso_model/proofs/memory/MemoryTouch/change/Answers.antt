use Rattle.std.proofs.Common.{◌≡◌, ◌<◌, ◌∙◌, sym, ap, ap₂, arith, ℕ, length, List, slice_index_or, slice_set, vec_len}
use Rattle.std.proofs.lemmas.Result.{on_ok_weaker}
use Rattle.iso_model.specs.Memory.{slot_of, value_at}
use Rattle.iso_model.specs.ResourceKeys.{spelling}
use Rattle.iso_model.specs.Resources.{changed}
use Rattle.iso_model.specs.Touch.{kind_of_change}
use Rattle.iso_model.specs.declared.resource.Resource.{Resource}
use Rattle.iso_model.proofs.MemoryLemmas.{slot_of-kind, changed_slot}
use Rattle.iso_model.proofs.memory.MemoryTouch.change.Goals as goal

pub index_mut-requires : goal.index_mut-requires
index_mut-requires c =
    let es = c.args.self.now.slots.items in
    let k = spelling c.args.key in
    let slot : c.slot_of-slot.result ≡ slot_of es k = c.slot_of-slot.ensures ∙ ap (λ (xs : List (List ℕ × Resource)). slot_of xs k) c.deref.ensures.value in
    let all : length es ≡ vec_len c.args.self.now.slots = ap length (sym c.deref.ensures.value) ∙ c.deref.ensures.len in
    let within : slot_of es k < length es = slot_of-kind es k (kind_of_change c.args.change) c.requires.kind in
    omega arith

pub returns-clause-ok : goal.returns-clause-ok
returns-clause-ok c =
    let es = c.args.self.now.slots.items in
    let k = spelling c.args.key in
    let d = c.index_mut.result.now in
    let slot : c.slot_of-slot.result ≡ slot_of es k = c.slot_of-slot.ensures ∙ ap (λ (xs : List (List ℕ × Resource)). slot_of xs k) c.deref.ensures.value in
    let there : d ≡ slice_index_or es (slot_of es k) d = c.index_mut.ensures.value ∙ ap (λ (n : ℕ). slice_index_or es n d) slot in
    on_ok_weaker c.change.result (λ is i q. (ap₂ (λ (n : ℕ) (e : List ℕ × Resource). value_at (slice_set es n e) q) slot
    (ap₂ (λ (key : List ℕ) (value : Resource). (key, value)) (ap (λ (e : List ℕ × Resource). e.0) there) (is ∙ ap (λ (e : List ℕ × Resource). changed c.args.change e.1) there))
    ∙ changed_slot es k c.args.change d q) i) c.change.ensures.ok
