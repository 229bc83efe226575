use Rattle.iso_affected_text.proofs.rows.+reasons.Given as goal

abbrev pub decreases-add_reasons : goal.decreases-add_reasons
decreases-add_reasons l = l.node
