use Rattle.std.proofs.Common.{Option, None, cond, ap, sym, subst, ◌∙◌}
use Rattle.iso_model.specs.Rights.{is_writable}
use Rattle.iso_model.specs.declared.access.Access.{Access}
use Rattle.iso_locks.proofs.KeptLemmas.{same-kept}
use Rattle.iso_locks.specs.Kept.{KeepsMark, kept_by}
use Rattle.iso_locks.specs.Slots.{Slots, slot}
use Rattle.iso_locks.proofs.kept.KeptValues.of.Goals as goal

pub invariant_of-result : goal.invariant_of-result
invariant_of-result c =
    subst (λ (vs : Slots). KeepsMark c.in_ok-rights.rights c.args.starts c.unchanged.result c.in_ok-changed.changed.items vs) (sym c.of.ensures)
    (record {
      fits = c.requires;
      few = c.unchanged.ensures.few;
      unchanged_are = c.unchanged.ensures.each;
      marks_are = c.in_ok-changed.ensures.marks;
      all = c.in_ok-changed.ensures.all;
    })

pub returns : goal.returns
returns c =
    let values = c.args.values.now in
    ap (kept_by c.in_ok-rights.rights c.args.starts) c.of.ensures
    ∙ same-kept c.in_ok-rights.rights c.args.rights.now c.args.starts values
    (λ i k. ap (λ (a : Option Access). cond (is_writable a) (slot values i) None) (c.in_ok-rights.ensures k))
