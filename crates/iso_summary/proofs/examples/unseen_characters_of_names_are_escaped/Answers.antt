use Rattle.std.proofs.Common.{refl}
use Rattle.std.specs.Char.{encode_utf8}
use Rattle.std.specs.Str.{chars}
use Rattle.iso_summary.proofs.Computing.{unseen}
use Rattle.iso_summary.proofs.examples.unseen_characters_of_names_are_escaped.Goals as goal

pub returns-clause-one_byte : goal.returns-clause-one_byte
unfolding chars encode_utf8 unseen
returns-clause-one_byte c = refl

pub returns-clause-two_bytes : goal.returns-clause-two_bytes
unfolding chars encode_utf8 unseen
returns-clause-two_bytes c = refl

pub returns-clause-as_they_are : goal.returns-clause-as_they_are
unfolding chars encode_utf8 unseen
returns-clause-as_they_are c = refl

pub returns-clause-turned : goal.returns-clause-turned
unfolding chars encode_utf8 unseen
returns-clause-turned c = refl

pub returns-clause-no_width : goal.returns-clause-no_width
unfolding chars encode_utf8 unseen
returns-clause-no_width c = refl

pub returns-clause-line_end : goal.returns-clause-line_end
unfolding chars encode_utf8 unseen
returns-clause-line_end c = refl

pub returns-clause-paragraph_end : goal.returns-clause-paragraph_end
unfolding chars encode_utf8 unseen
returns-clause-paragraph_end c = refl

pub returns-clause-four_bytes : goal.returns-clause-four_bytes
unfolding chars encode_utf8 unseen
returns-clause-four_bytes c = refl

pub returns-clause-long_dash : goal.returns-clause-long_dash
unfolding chars encode_utf8 unseen
returns-clause-long_dash c = refl
