use Rattle.std.proofs.Common.{◌≡◌, ◌&&◌, ◌==◌, false, sym, ◌∙◌}
use Rattle.iso_html.proofs.page.wrong_heading.Goals as goal

pub returns : goal.returns
returns g c =
    let some : (c.args.counts.not_ok == 0 && c.args.counts.classes_not_ok == 0) ≡ false = sym c.went_well.ensures ∙ c.if-went_well.false in
    rw some c.bytes.ensures
