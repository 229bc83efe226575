use Rattle.iso_explain_settings.proofs.listing.list_table.Goals as goal

pub returns : goal.returns
returns c = rw (← c.in_ok-unknown.ensures) c.list_keys.ensures
