use Rattle.std.proofs.Common.{ap, ◌∙◌}
use Rattle.iso_explain_settings.specs.Listing.{listing_text}
use Rattle.iso_run.proofs.Documents.{document-is}
use Rattle.iso_run.proofs.settings.listing.Goals as goal
use Rattle.iso_settings.specs.Leaves.{leaves}
use Rattle.iso_tap.specs.Sinks.{Account, appended}

pub returns : goal.returns
returns c = λ members is.
    let text = listing_text (leaves members) c.args.settings.now c.args.processors in
    let of = document-is c.args.bytes.now members is in
    let wrote = c.in_ok-list_settings.ensures members of.0 of.1 in
    wrote.took.bytes ∙ ap (λ (a : Account). appended a.bytes text) c.new-text.ensures
