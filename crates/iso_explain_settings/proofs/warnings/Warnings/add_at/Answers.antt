use Rattle.iso_explain_settings.proofs.warnings.Warnings.add_at.Goals as goal

pub returns : goal.returns
returns c =
    let added = c.add_line.ensures in
    rw (c.from.ensures, c.from-2.ensures) at added
