use Rattle.std.proofs.Common.{refl}
use Rattle.std.specs.Str.{chars}
use Rattle.iso_summary.proofs.Computing.{unseen}
use Rattle.iso_summary.proofs.examples.unseen_characters_of_words_are_those_of_unicode.Goals as goal

pub returns-clause-line_feed : goal.returns-clause-line_feed
unfolding chars unseen
returns-clause-line_feed c = refl

pub returns-clause-delete : goal.returns-clause-delete
unfolding chars unseen
returns-clause-delete c = refl

pub returns-clause-next_line : goal.returns-clause-next_line
unfolding chars unseen
returns-clause-next_line c = refl

pub returns-clause-command_start : goal.returns-clause-command_start
unfolding chars unseen
returns-clause-command_start c = refl

pub returns-clause-wide_space : goal.returns-clause-wide_space
unfolding chars unseen
returns-clause-wide_space c = refl

pub returns-clause-umlaut : goal.returns-clause-umlaut
unfolding chars unseen
returns-clause-umlaut c = refl

pub returns-clause-empty : goal.returns-clause-empty
unfolding chars unseen
returns-clause-empty c = refl

pub returns-clause-turned : goal.returns-clause-turned
unfolding chars unseen
returns-clause-turned c = refl

pub returns-clause-no_width : goal.returns-clause-no_width
unfolding chars unseen
returns-clause-no_width c = refl

pub returns-clause-line_end : goal.returns-clause-line_end
unfolding chars unseen
returns-clause-line_end c = refl

pub returns-clause-paragraph_end : goal.returns-clause-paragraph_end
unfolding chars unseen
returns-clause-paragraph_end c = refl

pub returns-clause-language_tag : goal.returns-clause-language_tag
unfolding chars unseen
returns-clause-language_tag c = refl

pub returns-clause-long_dash : goal.returns-clause-long_dash
unfolding chars unseen
returns-clause-long_dash c = refl
