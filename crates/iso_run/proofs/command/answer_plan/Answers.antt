use Rattle.std.proofs.Common.{Bool, subst, sym}
use Rattle.iso_run.proofs.Answering.{Lacking, answered-as, no-file, run-answered}
use Rattle.iso_run.proofs.command.answer_plan.Goals as goal
use Rattle.iso_run.specs.Commands.{ArePlaces, IsPrintedFor, WereRead, plan_of}
use Rattle.iso_plan.specs.KeptNodes.{texts_of}
use Rattle.iso_run.specs.Besides.{files_of}
use Rattle.iso_run.specs.declared.way.Way.TheVariants.{Serial}
use Rattle.iso_tap.specs.Sinks.{Account}

pub returns : goal.returns
returns g c =
    let input = g.R.Read.remaining c.args.input.now in
    let old = g.W.Sink.account c.args.output.now in
    let new = g.W.Sink.account c.told.new.output in
    let files = c.args.files.now in
    let printed = c.args.printed in
    let made = c.plan-shown.ensures input (subst (WereRead files input) (sym c.in_ok-bytes.ensures.same) c.in_ok-read.ensures.read) in
    let sites = made.2.0 in
    let P : Account → Bool → Type 0 = λ a ok. IsPrintedFor printed files input old a ok in
    let file = files_of c.nothing.result in
    let answered = run-answered (ArePlaces printed.places made.0 sites) P (plan_of printed (texts_of files.scripts.items) sites) made.0 Serial old (g.W.Sink.account c.plan-shown.new.output)
    (λ late ok w. (sites, (made.0, made.1, late, w))) file new c.plan-shown.result made.2.1 made.2.2 c.told.result c.told.ensures.answer in
    answered-as (P new) (P new) (λ ok h. h) (Lacking P file new) ⊥ (λ h. no-file c.nothing.result c.nothing.ensures.2 h.2) old new c.told.result answered
