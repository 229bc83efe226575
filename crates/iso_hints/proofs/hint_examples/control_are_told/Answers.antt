use Rattle.std.proofs.Common.{refl}
use Rattle.iso_hints.proofs.hint_examples.control_are_told.Goals as goal

pub returns-clause-else_if : goal.returns-clause-else_if
returns-clause-else_if c = refl

pub returns-clause-elif : goal.returns-clause-elif
returns-clause-elif c = refl

pub returns-clause-for_word : goal.returns-clause-for_word
returns-clause-for_word c = refl

pub returns-clause-while_word : goal.returns-clause-while_word
returns-clause-while_word c = refl

pub returns-clause-loop_word : goal.returns-clause-loop_word
returns-clause-loop_word c = refl

pub returns-clause-do_word : goal.returns-clause-do_word
returns-clause-do_word c = refl

pub returns-clause-repeat_times : goal.returns-clause-repeat_times
returns-clause-repeat_times c = refl

pub returns-clause-switch : goal.returns-clause-switch
returns-clause-switch c = refl

pub returns-clause-when : goal.returns-clause-when
returns-clause-when c = refl

pub returns-clause-match_word : goal.returns-clause-match_word
returns-clause-match_word c = refl

pub returns-clause-return_word : goal.returns-clause-return_word
returns-clause-return_word c = refl

pub returns-clause-break_word : goal.returns-clause-break_word
returns-clause-break_word c = refl

pub returns-clause-continue_word : goal.returns-clause-continue_word
returns-clause-continue_word c = refl

pub returns-clause-throw : goal.returns-clause-throw
returns-clause-throw c = refl

pub returns-clause-raise : goal.returns-clause-raise
returns-clause-raise c = refl

pub returns-clause-panic : goal.returns-clause-panic
returns-clause-panic c = refl

pub returns-clause-new : goal.returns-clause-new
returns-clause-new c = refl

pub returns-clause-f_quote : goal.returns-clause-f_quote
returns-clause-f_quote c = refl

pub returns-clause-try_word : goal.returns-clause-try_word
returns-clause-try_word c = refl

pub returns-clause-var : goal.returns-clause-var
returns-clause-var c = refl

pub returns-clause-val : goal.returns-clause-val
returns-clause-val c = refl

pub returns-clause-int : goal.returns-clause-int
returns-clause-int c = refl

pub returns-clause-string : goal.returns-clause-string
returns-clause-string c = refl

pub returns-clause-boolean : goal.returns-clause-boolean
returns-clause-boolean c = refl

pub returns-clause-mut_word : goal.returns-clause-mut_word
returns-clause-mut_word c = refl

pub returns-clause-bool_word : goal.returns-clause-bool_word
returns-clause-bool_word c = refl

pub returns-clause-long : goal.returns-clause-long
returns-clause-long c = refl

pub returns-clause-double : goal.returns-clause-double
returns-clause-double c = refl

pub returns-clause-if_brace : goal.returns-clause-if_brace
returns-clause-if_brace c = refl

pub returns-clause-repeat_brace : goal.returns-clause-repeat_brace
returns-clause-repeat_brace c = refl
