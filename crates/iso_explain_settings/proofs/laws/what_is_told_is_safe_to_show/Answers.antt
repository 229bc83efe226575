use Rattle.iso_explain_settings.proofs.SafeLemmas.{table-is-safe, twice-is-safe, value-is-safe}
use Rattle.iso_explain_settings.proofs.laws.what_is_told_is_safe_to_show.Goals as goal

pub returns-clause-value : goal.returns-clause-value
returns-clause-value c kind wanted key value text key_fits text_fits = value-is-safe kind wanted key value text key_fits text_fits

pub returns-clause-table : goal.returns-clause-table
returns-clause-table c wanted key = table-is-safe wanted key

pub returns-clause-twice : goal.returns-clause-twice
returns-clause-twice c key = twice-is-safe key
