-- What stands behind the carets.
--
-- explanation of a script's fault: Its line with carets, what is wanted there or what is wrong
-- (`wanted_text`, `kind_text`, `label_of`), and what else is told (`explanation`, `notes`); the
-- word that was meant (`meant_by`).
-- Also in: `Explanations`, `Notes`, `Meant`, `Bounds`, `Spots`, `Scripts`, `Printable`.
use Rattle.std.specs.Prelude.{ℕ, List, ◌++◌, Bool, true, false, codes, cond}
use Rattle.iso_script_lexer.specs.Spelling.{marks, spelling}
use Rattle.iso_script_statements.specs.declared.fault.ScriptFaultKind.{ScriptFaultKind}
use Rattle.iso_script_statements.specs.declared.fault.ScriptFaultKind.TheVariants as K
use Rattle.iso_script_statements.specs.declared.reason.Reason.{Reason}
use Rattle.iso_script_statements.specs.declared.reason.Reason.TheVariants as R
use Rattle.iso_script_statements.specs.declared.wanted.Wanted.{Wanted}
use Rattle.iso_script_statements.specs.declared.wanted.Wanted.TheVariants as W
use Rattle.iso_explain.specs.declared.label.Label.{Label}

-- a text between the quotes of hints
abbrev pub quoted : List ℕ → List ℕ
quoted text = codes "`" ++ text ++ codes "`"

-- what is wanted, in words
abbrev pub wanted_text : Wanted → List ℕ
wanted_text (W.Word word) = codes "expected " ++ quoted (spelling word)
wanted_text (W.Symbol symbol) = codes "expected " ++ quoted (marks symbol)
wanted_text W.Name = codes "expected a name"
wanted_text W.Text = codes "expected a text in double quotes"
wanted_text W.Number = codes "expected a number"
wanted_text W.Literal = codes "expected a number, a text, `true` or `false`"
wanted_text W.Operand = codes "expected a value, a name, `(` or a function such as `len(..)`"
wanted_text (W.Operator follows) = codes "expected an operator or " ++ quoted (marks follows)
wanted_text (W.SameOperator operator follows) =
    codes "expected " ++ quoted (marks operator) ++ codes " or " ++ quoted (marks follows)
wanted_text W.Statement = codes "expected a statement or `}`"
wanted_text W.StatementOrElse = codes "expected `else`, a statement or `}`"
wanted_text W.Display = codes "expected a display text or `{`"
wanted_text W.Key = codes "expected a key, which is a text that isn't empty"
wanted_text W.Target = codes "expected `children` or a key, which is a text that isn't empty"
wanted_text W.TopClass = codes "expected a mark, `class` or the end of the script"
wanted_text W.ClassPart =
    codes "expected `test`, `class`, a mark, a lifecycle block, `static` or `field`"
wanted_text W.BlockOrMember = codes "expected `test`, `class`, a mark or a lifecycle block"
wanted_text W.Member = codes "expected `test`, `class`, a mark or `}`"
wanted_text W.MarkedMember = codes "expected `test`, `class` or one more mark"
wanted_text W.MarkedClass = codes "expected `class` or one more mark"

-- what is wrong where a fault of this kind is
abbrev pub kind_text : ScriptFaultKind → List ℕ
kind_text K.BadByte =
    codes "this byte may not stand here: texts and comments too have printable ASCII alone"
kind_text K.BadToken = codes "no token is spelled so"
kind_text K.NumberTooBig = codes "this number is too big"
kind_text K.OpenText = codes "this text isn't closed on its line"
kind_text K.Expected = codes "this doesn't fit here"
kind_text K.DoubleBlock = codes "this class has such a block already"
kind_text K.DoubleMember =
    codes "this is here already: a test or class of this name, or such a mark"
kind_text K.NameTaken =
    codes "a static or field of this name stands in this class or in one around it already"
kind_text K.EmptyClass = codes "a class has a test or a class in it"
kind_text K.TooDeep = codes "this is one too many"
kind_text K.TooLong = codes "this is too long"
kind_text K.BadDisplay = codes "this text can't be shown as it is"
kind_text K.GlobalKey = codes "no script may declare this key: write `isolated` before the class"
kind_text K.EndOfInput = codes "the script ends here"

-- whether a fault of this kind says no more than that something else is wanted
abbrev pub tells_wanted : ScriptFaultKind → Bool
tells_wanted K.Expected = true
tells_wanted K.EndOfInput = true
tells_wanted _ = false

-- what is wanted, where the kind of a fault doesn't say more
abbrev pub wanted_or_kind : ScriptFaultKind → Wanted → List ℕ
wanted_or_kind kind wanted = cond (tells_wanted kind) (wanted_text wanted) (kind_text kind)

-- the label of a fault: what is wanted, or else what is wrong
abbrev pub label_of : ScriptFaultKind → Reason → List ℕ
label_of kind (R.Unmet unmet) = wanted_or_kind kind unmet.wanted
label_of kind R.Kind = kind_text kind
label_of kind (R.Beyond limit) = kind_text kind

-- what a label of the code is
abbrev pub written : Label → List ℕ
written label = label.lead.now ++ label.first.now ++ label.between.now ++ label.second.now
    ++ label.end.now
