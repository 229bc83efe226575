use Rattle.std.proofs.Common.{◌≡◌, Bool, List, [], true, false, refl, subst}
use Rattle.iso_places.specs.declared.site.Site.{Site}
use Rattle.iso_plan.specs.KeptNodes.{texts_of}
use Rattle.iso_run.proofs.Late.{late-so}
use Rattle.iso_run.proofs.Printing.{prints-all, prints-places, prints-tests, prints-why}
use Rattle.iso_run.proofs.command.print_plan.Goals as goal
use Rattle.iso_run.specs.Commands.{ArePlaces}
use Rattle.iso_run.specs.ExitStatuses.{IfLate, end_of, run_end}
use Rattle.iso_run.specs.Runs.{Product, Writes}
use Rattle.iso_run.specs.Suites.{Suite}
use Rattle.iso_run.specs.declared.way.Way.TheVariants.{Serial}

pub returns-then-why : goal.returns-then-why
returns-then-why g c =
    let asked = c.if-why.true in
    let is : true ≡ c.args.printed.why = cc in
    let sites = c.show_why.ensures.0 in (
      sites,
      c.show_why.ensures.1,
      subst (λ (product : Suite → Product). Writes (λ _. true) product c.args.inputs Serial (g.W.Sink.account c.args.output.now) (g.W.Sink.account c.show_why.new.sink) c.show_why.result)
          (prints-why c.args.printed (texts_of c.args.names.now) sites is) c.show_why.ensures.2,
    )

pub returns-then-places : goal.returns-then-places
returns-then-places g c =
    let unasked = c.if-why.false in
    let asked = c.if-places.true in
    let isnt : false ≡ c.args.printed.why = cc in
    let is : true ≡ c.args.printed.places = cc in
    let end = end_of (λ _. true) run_end c.show_places.result in
    let sites = c.show_places.ensures.0 in (
      sites,
      subst (λ (places : Bool). IfLate end (ArePlaces places c.args.inputs sites)) is c.show_places.ensures.1,
      subst (λ (product : Suite → Product). Writes (λ _. true) product c.args.inputs Serial (g.W.Sink.account c.args.output.now) (g.W.Sink.account c.show_places.new.sink) c.show_places.result)
          (prints-places c.args.printed (texts_of c.args.names.now) sites isnt is) c.show_places.ensures.2,
    )

pub returns-then-tests : goal.returns-then-tests
returns-then-tests g c =
    let unasked = c.if-why.false in
    let without = c.if-places.false in
    let asked = c.if-tests.true in
    let isnt : false ≡ c.args.printed.why = cc in
    let none : false ≡ c.args.printed.places = cc in
    let is : true ≡ c.args.printed.tests = cc in
    let sites : List Site = [] in
    let end = end_of (λ _. true) run_end c.show_tests.result in (
      sites,
      subst (λ (places : Bool). IfLate end (ArePlaces places c.args.inputs sites)) none (late-so (ArePlaces false c.args.inputs sites) end refl),
      subst (λ (product : Suite → Product). Writes (λ _. true) product c.args.inputs Serial (g.W.Sink.account c.args.output.now) (g.W.Sink.account c.show_tests.new.sink) c.show_tests.result)
          (prints-tests c.args.printed (texts_of c.args.names.now) sites isnt none is) c.show_tests.ensures,
    )

pub returns-else-tests : goal.returns-else-tests
returns-else-tests g c =
    let unasked = c.if-why.false in
    let without = c.if-places.false in
    let all = c.if-tests.false in
    let isnt : false ≡ c.args.printed.why = cc in
    let none : false ≡ c.args.printed.places = cc in
    let whole : false ≡ c.args.printed.tests = cc in
    let sites : List Site = [] in
    let end = end_of (λ _. true) run_end c.show_plan.result in (
      sites,
      subst (λ (places : Bool). IfLate end (ArePlaces places c.args.inputs sites)) none (late-so (ArePlaces false c.args.inputs sites) end refl),
      subst (λ (product : Suite → Product). Writes (λ _. true) product c.args.inputs Serial (g.W.Sink.account c.args.output.now) (g.W.Sink.account c.show_plan.new.sink) c.show_plan.result)
          (prints-all c.args.printed (texts_of c.args.names.now) sites isnt none whole) c.show_plan.ensures,
    )
