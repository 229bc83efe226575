use Rattle.std.proofs.Common.{ap, length, arith}
use Rattle.iso_script_lexer.proofs.Words.{short_no_word}
use Rattle.iso_script_lexer.proofs.word.Word.from_name.Goals as goal

pub returns-in_default : goal.returns-in_default
returns-in_default c = short_no_word c.args.name.now (let e = ap length c.as_bytes.ensures.value in omega arith)
