use Rattle.std.proofs.Common.{◌∙◌, map}
use Rattle.iso_html.proofs.NodeLemmas.{failure-by, wrong-same}
use Rattle.iso_html.specs.Commands.{again_text, commands_of}
use Rattle.iso_html.specs.Quotes.{excerpt_of}
use Rattle.iso_junit.specs.Runs.{run_of}
use Rattle.iso_plan.specs.PathTexts.{path_text}
use Rattle.iso_tap.proofs.PrinterLemmas.{prints_as}
use Rattle.iso_html.proofs.page.failure.Goals as goal

pub returns : goal.returns
returns g c =
    let r = run_of c.args.run.now in
    let n = c.args.node in
    let same = wrong-same (path_text r.tree n) n (again_text (commands_of c.args.commands.now) r.tree n) c.place-at.ensures c.quoted-lines.ensures c.blocked_by-blocked.ensures c.view.ensures in
    prints_as c.wrong.ensures _ (same ∙ failure-by r (map excerpt_of c.args.quotes.now) (commands_of c.args.commands.now) n c.requires.above)
