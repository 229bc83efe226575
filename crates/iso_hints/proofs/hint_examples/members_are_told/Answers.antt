use Rattle.std.proofs.Common.{refl}
use Rattle.iso_hints.proofs.hint_examples.members_are_told.Goals as goal

pub returns-clause-before_each : goal.returns-clause-before_each
returns-clause-before_each c = refl

pub returns-clause-before_all : goal.returns-clause-before_all
returns-clause-before_all c = refl

pub returns-clause-after_each : goal.returns-clause-after_each
returns-clause-after_each c = refl

pub returns-clause-after_all : goal.returns-clause-after_all
returns-clause-after_all c = refl

pub returns-clause-set_up : goal.returns-clause-set_up
returns-clause-set_up c = refl

pub returns-clause-tear_down : goal.returns-clause-tear_down
returns-clause-tear_down c = refl

pub returns-clause-void : goal.returns-clause-void
returns-clause-void c = refl

pub returns-clause-fun : goal.returns-clause-fun
returns-clause-fun c = refl

pub returns-clause-fn_word : goal.returns-clause-fn_word
returns-clause-fn_word c = refl

pub returns-clause-def : goal.returns-clause-def
returns-clause-def c = refl

pub returns-clause-public_word : goal.returns-clause-public_word
returns-clause-public_word c = refl

pub returns-clause-private_word : goal.returns-clause-private_word
returns-clause-private_word c = refl

pub returns-clause-brace_let : goal.returns-clause-brace_let
returns-clause-brace_let c = refl

pub returns-clause-closed_let : goal.returns-clause-closed_let
returns-clause-closed_let c = refl

pub returns-clause-semicolon_let : goal.returns-clause-semicolon_let
returns-clause-semicolon_let c = refl

pub returns-clause-var : goal.returns-clause-var
returns-clause-var c = refl

pub returns-clause-val : goal.returns-clause-val
returns-clause-val c = refl

pub returns-clause-skip : goal.returns-clause-skip
returns-clause-skip c = refl

pub returns-clause-parallel : goal.returns-clause-parallel
returns-clause-parallel c = refl

pub returns-clause-int : goal.returns-clause-int
returns-clause-int c = refl

pub returns-clause-string : goal.returns-clause-string
returns-clause-string c = refl

pub returns-clause-boolean : goal.returns-clause-boolean
returns-clause-boolean c = refl

pub returns-clause-bool_word : goal.returns-clause-bool_word
returns-clause-bool_word c = refl

pub returns-clause-long : goal.returns-clause-long
returns-clause-long c = refl

pub returns-clause-double : goal.returns-clause-double
returns-clause-double c = refl
