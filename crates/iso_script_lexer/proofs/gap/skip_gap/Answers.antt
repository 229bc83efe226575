use Rattle.std.proofs.Common.{◌∙◌, sym, arith}
use Rattle.iso_script_lexer.specs.Cursors.{line_of}
use Rattle.iso_script_lexer.proofs.Begins.{at_end, no_gap}
use Rattle.iso_script_lexer.proofs.gap.skip_gap.Goals as goal

pub returns-in_default-clause-value : goal.returns-in_default-clause-value
returns-in_default-clause-value c =
    at_end (line_of c.args.cursor.now) c.after_spaces-rest.result.now (omega arith) ∙ sym (c.after_spaces-rest.ensures.value _ _)

pub returns-in_default-2-clause-value : goal.returns-in_default-2-clause-value
returns-in_default-2-clause-value c =
    no_gap (line_of c.args.cursor.now) c.after_spaces-rest.result.now (omega arith) (omega (arith, c.after_spaces-rest.type_inv)) (λ e. c.if-begun_by-eq47.false (c.begun_by.ensures ∙ e))
    ∙ sym (c.after_spaces-rest.ensures.value _ _)
