use Rattle.iso_explain_settings.proofs.FewLemmas.{table-has-three, twice-has-two, value-has-three}
use Rattle.iso_explain_settings.proofs.laws.what_is_told_has_few_lines.Goals as goal

pub returns-clause-value : goal.returns-clause-value
returns-clause-value c kind wanted key value text key_fits text_fits = value-has-three kind wanted key value text key_fits text_fits

pub returns-clause-table : goal.returns-clause-table
returns-clause-table c wanted key = table-has-three wanted key

pub returns-clause-twice : goal.returns-clause-twice
returns-clause-twice c key = twice-has-two key
