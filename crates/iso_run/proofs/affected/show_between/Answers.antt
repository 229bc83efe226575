use Rattle.std.proofs.Common.{◌≡◌, Bool, Err, true, subst, sym}
use Rattle.iso_run.proofs.Altering.{told-for}
use Rattle.iso_run.proofs.Answering.{answered-as}
use Rattle.iso_run.proofs.affected.show_between.Goals as goal
use Rattle.iso_run.proofs.Flushing.{told-early}
use Rattle.iso_run.specs.Commands.{IsComparedIn, IsToldFor}
use Rattle.iso_run.specs.ExitStatuses.{Answers}
use Rattle.iso_run.specs.declared.command_fault.CommandFault.{CommandFault}

pub returns-in-Ok : goal.returns-in-Ok
returns-in-Ok g c =
    let old = g.W.Sink.account c.args.output.now in
    let new = g.W.Sink.account c.show_change.new.output in
    let input = g.R.Read.remaining c.args.input.now in
    let asked = c.args.asked in
    let files = c.args.files.now in
    let older = c.args.older.now in
    let below = c.requires.below in
    let after = c.in_ok-now.ensures.read input c.in_ok-bytes.ensures.read in
    let before = c.in-Ok.ensures.read below.only_from c.requires.uncounted in
    let was = c.in-Ok.was in
    let told : (ok : Bool) → (ok ≡ true) × IsComparedIn asked was.state c.in_ok-now.now c.deref.result.now was.missing old new → (ok ≡ true) × IsToldFor asked files input old new =
    λ ok h. (
      h.0,
      told-for asked files older input before.0 after.0 was.state c.in_ok-now.now c.deref.result.now was.missing old new below before.1 after.1 before.2 after.2
          c.deref.ensures.value h.1,
    ) in
    answered-as _ _ told ⊥ ⊥ (λ h. h) old new c.show_change.result c.show_change.ensures

pub returns : goal.returns
returns g c =
    let old = g.W.Sink.account c.args.output.now in
    let input = g.R.Read.remaining c.args.input.now in
    let P : Bool → Type 0 = λ ok. (ok ≡ true) × IsToldFor c.args.asked c.args.files.now input old old in
    let told = c.told_fault.ensures in
    subst (λ (f : CommandFault). Answers P ⊥ old old (Err f)) (sym told.1) (told-early P old told.0)
