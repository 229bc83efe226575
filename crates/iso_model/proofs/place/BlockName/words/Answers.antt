use Rattle.std.proofs.Common.{append_assoc}
use Rattle.iso_model.proofs.place.BlockName.words.Goals as goal

pub returns-in_ok-format-in-Class : goal.returns-in_ok-format-in-Class
returns-in_ok-format-in-Class c = rw (c.new.ensures, c.in-Class.is, append_assoc, ← c.word-word.ensures) c.in_ok-format-in-Class.ensures.ok
