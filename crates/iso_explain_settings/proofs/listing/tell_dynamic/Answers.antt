use Rattle.iso_explain_settings.proofs.listing.tell_dynamic.Goals as goal

pub returns : goal.returns
returns c =
    let told = c.tell.ensures in
    rw (c.from.ensures, c.from-2.ensures, c.limit_text.ensures, c.saturating_mul.ensures) at told
