use Rattle.std.proofs.Common.{◌≡◌, ◌<◌, ◌==◌, ℕ, Bool, length, cond, ap, ap₂, ◌∙◌, arith}
use Rattle.iso_locks.specs.KeySets.{holds}
use Rattle.iso_locks.specs.Slots.{has_changed, has_unchanged}
use Rattle.iso_locks.proofs.SlotLemmas.{noted-push}
use Rattle.iso_locks.proofs.slots.Slots.add.Goals as goal

pub invariant_of-self : goal.invariant_of-self
invariant_of-self c =
    let xs = c.self.inside.items.items in
    let n : c.len-number.result ≡ length xs = omega (arith, c.self.inside.items.ok.0, c.len-number.ensures) in
    let room : length xs < 256 = omega arith in
    let u : c.is_unchanged-unchanged.result ≡ has_unchanged c.args.item = c.is_unchanged-unchanged.ensures ∙ ap has_unchanged c.as_ref.ensures.value in
    let d : c.is_changed-changed.result ≡ has_changed c.args.item = c.is_changed-changed.ensures ∙ ap has_changed c.as_ref-2.ensures.value in
    noted-push c.self.inside.unchanged c.self.inside.changed c.set.new.self c.set-in-Ok.new.self xs c.push.new.self.items c.args.item c.self.invariant room c.in-Ok.ensures.items
    (λ i. c.set.ensures i ∙ ap₂ (λ (m : ℕ) (b : Bool). cond (i == m) b (holds c.self.inside.unchanged i)) n u)
    (λ i. c.set-in-Ok.ensures i ∙ ap₂ (λ (m : ℕ) (b : Bool). cond (i == m) b (holds c.self.inside.changed i)) n d)
