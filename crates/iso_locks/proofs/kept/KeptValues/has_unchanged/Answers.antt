use Rattle.std.proofs.Common.{◌≡◌, ◌<◌, length, map, [], ap, sym, ◌∙◌, arith}
use Rattle.std.proofs.lemmas.List.{get_or-map}
use Rattle.iso_model.specs.Rights.{is_writable}
use Rattle.iso_plan.proofs.ColumnLemmas.{length-column}
use Rattle.iso_locks.proofs.KeptLemmas.{kept-right, not-kept}
use Rattle.iso_locks.specs.Slots.{Slots, has_unchanged, slot}
use Rattle.iso_locks.specs.Trays.{kept_at}
use Rattle.iso_locks.specs.declared.starting.Starting.{Starting}
use Rattle.iso_locks.proofs.kept.KeptValues.has_unchanged.Goals as goal

pub has-requires : goal.has-requires
has-requires c =
    let i = c.self.inside in
    let then = i.then.value in
    let count : length c.args.self.now ≡ length then =
    ap length (sym c.self.view_is) ∙ length-column (kept_at i.rights (map (λ (s : Starting). s.key) i.starts) then) (length then) in
    omega (arith, count, c.requires, c.self.invariant.few)

pub get-requires : goal.get-requires
get-requires c =
    let i = c.self.inside in
    let then = i.then.value in
    let count : length c.args.self.now ≡ length then =
    ap length (sym c.self.view_is) ∙ length-column (kept_at i.rights (map (λ (s : Starting). s.key) i.starts) then) (length then) in
    omega (arith, count, c.requires, c.self.invariant.fits)

pub returns-then-has : goal.returns-then-has
returns-then-has c =
    let i = c.self.inside in
    let n = c.args.number in
    let then = i.then.value in
    let count : length c.args.self.now ≡ length then =
    ap length (sym c.self.view_is) ∙ length-column (kept_at i.rights (map (λ (s : Starting). s.key) i.starts) then) (length then) in
    let below : n < length i.starts = omega (arith, count, c.requires, c.self.invariant.fits) in
    let start : Starting = c.get.result.now in
    let key = ap (λ (s : Starting). s.key) c.get.ensures ∙ sym (get_or-map (λ (s : Starting). s.key) i.starts n start [] below) in
    c.is_write.ensures ∙ ap is_writable c.access.ensures
    ∙ kept-right i.rights i.starts then n start.key key (sym (c.self.invariant.unchanged_are n) ∙ sym c.has.ensures ∙ c.if-has.true)
    ∙ ap (λ (vs : Slots). has_unchanged (slot vs n)) c.self.view_is

pub returns-else-has : goal.returns-else-has
returns-else-has c =
    let i = c.self.inside in
    let n = c.args.number in
    not-kept i.rights i.starts i.then.value n (sym (c.self.invariant.unchanged_are n) ∙ sym c.has.ensures ∙ c.if-has.false)
    ∙ ap (λ (vs : Slots). has_unchanged (slot vs n)) c.self.view_is
