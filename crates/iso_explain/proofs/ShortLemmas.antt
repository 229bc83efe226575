-- Labels are short.
use Rattle.std.proofs.Common.{◌+◌, ◌<◌, ◌≤◌, ℕ, List, ◌++◌, Bool, true, false, cond, codes, length, arith}
use Rattle.std.proofs.lemmas.List.{length-append}
use Rattle.iso_script_lexer.specs.Spelling.{marks, spelling}
use Rattle.iso_script_lexer.specs.declared.symbol.Symbol.{Symbol}
use Rattle.iso_script_lexer.specs.declared.symbol.Symbol.TheVariants as S
use Rattle.iso_script_lexer.specs.declared.word.Word.{Word}
use Rattle.iso_script_lexer.specs.declared.word.Word.TheVariants as W
use Rattle.iso_script_statements.specs.declared.fault.ScriptFaultKind.{ScriptFaultKind}
use Rattle.iso_script_statements.specs.declared.fault.ScriptFaultKind.TheVariants as K
use Rattle.iso_script_statements.specs.declared.reason.Reason.{Reason}
use Rattle.iso_script_statements.specs.declared.reason.Reason.TheVariants as R
use Rattle.iso_script_statements.specs.declared.wanted.Wanted.{Wanted}
use Rattle.iso_script_statements.specs.declared.wanted.Wanted.TheVariants as V
use Rattle.iso_explain.specs.Labels.{kind_text, label_of, quoted, tells_wanted, wanted_text}

marks_are_short : (s : Symbol) → length (marks s) ≤ 2
marks_are_short S.OpenBrace = omega arith
marks_are_short S.CloseBrace = omega arith
marks_are_short S.OpenParen = omega arith
marks_are_short S.CloseParen = omega arith
marks_are_short S.Semicolon = omega arith
marks_are_short S.Comma = omega arith
marks_are_short S.Equals = omega arith
marks_are_short S.Plus = omega arith
marks_are_short S.Minus = omega arith
marks_are_short S.Star = omega arith
marks_are_short S.PlusPlus = omega arith
marks_are_short S.EqualsEquals = omega arith
marks_are_short S.NotEquals = omega arith
marks_are_short S.Less = omega arith

spelling_is_short : (w : Word) → length (spelling w) ≤ 13
spelling_is_short W.Team = omega arith
spelling_is_short W.Class = omega arith
spelling_is_short W.Test = omega arith
spelling_is_short W.SameThread = omega arith
spelling_is_short W.Concurrent = omega arith
spelling_is_short W.Isolated = omega arith
spelling_is_short W.Read = omega arith
spelling_is_short W.Write = omega arith
spelling_is_short W.Static = omega arith
spelling_is_short W.Field = omega arith
spelling_is_short W.BeforeAll = omega arith
spelling_is_short W.AfterAll = omega arith
spelling_is_short W.BeforeEach = omega arith
spelling_is_short W.AfterEach = omega arith
spelling_is_short W.Let = omega arith
spelling_is_short W.Print = omega arith
spelling_is_short W.Assert = omega arith
spelling_is_short W.AssertEqual = omega arith
spelling_is_short W.Assume = omega arith
spelling_is_short W.Fail = omega arith
spelling_is_short W.If = omega arith
spelling_is_short W.Else = omega arith
spelling_is_short W.Repeat = omega arith
spelling_is_short W.SetProp = omega arith
spelling_is_short W.ClearProp = omega arith
spelling_is_short W.SetLocale = omega arith
spelling_is_short W.WriteFile = omega arith
spelling_is_short W.AppendFile = omega arith
spelling_is_short W.DeleteFile = omega arith
spelling_is_short W.True = omega arith
spelling_is_short W.False = omega arith
spelling_is_short W.Text = omega arith
spelling_is_short W.Len = omega arith
spelling_is_short W.Prop = omega arith
spelling_is_short W.HasProp = omega arith
spelling_is_short W.Locale = omega arith
spelling_is_short W.File = omega arith
spelling_is_short W.HasFile = omega arith
spelling_is_short W.Children = omega arith
spelling_is_short W.Disabled = omega arith

quoted_is_short : (text : List ℕ) → length (quoted text) ≤ length text + 2
quoted_is_short text = let whole = length-append (codes "`" ++ text) (codes "`") in let start = length-append (codes "`") text in omega (arith, whole, start)

behind : (lead text : List ℕ) → length lead ≤ 24 → length text ≤ 13 → length (lead ++ quoted text) < 110
behind lead text few short =
    let whole = length-append lead (quoted text) in
    let end = quoted_is_short text in
    omega (arith, whole, end)

wanted_is_short : (wanted : Wanted) → length (wanted_text wanted) < 110
wanted_is_short (V.Word w) = behind (codes "expected ") (spelling w) (omega arith) (spelling_is_short w)
wanted_is_short (V.Symbol s) = behind (codes "expected ") (marks s) (omega arith) (let few = marks_are_short s in omega arith)
wanted_is_short (V.Operator s) = behind (codes "expected an operator or ") (marks s) (omega arith) (let few = marks_are_short s in omega arith)
wanted_is_short (V.SameOperator o s) =
    let lead = length-append (codes "expected ") (quoted (marks o)) in
    let start = length-append (codes "expected " ++ quoted (marks o)) (codes " or ") in
    let whole = length-append (codes "expected " ++ quoted (marks o) ++ codes " or ") (quoted (marks s)) in
    let first = quoted_is_short (marks o) in
    let second = quoted_is_short (marks s) in
    let few = marks_are_short o in
    let more = marks_are_short s in
    omega (arith, lead, start, whole, first, second, few, more)
wanted_is_short V.Name = omega arith
wanted_is_short V.Text = omega arith
wanted_is_short V.Number = omega arith
wanted_is_short V.Literal = omega arith
wanted_is_short V.Operand = omega arith
wanted_is_short V.Statement = omega arith
wanted_is_short V.StatementOrElse = omega arith
wanted_is_short V.Display = omega arith
wanted_is_short V.Key = omega arith
wanted_is_short V.Target = omega arith
wanted_is_short V.TopClass = omega arith
wanted_is_short V.ClassPart = omega arith
wanted_is_short V.BlockOrMember = omega arith
wanted_is_short V.Member = omega arith
wanted_is_short V.MarkedMember = omega arith
wanted_is_short V.MarkedClass = omega arith

kind_is_short : (kind : ScriptFaultKind) → length (kind_text kind) < 110
kind_is_short K.BadByte = omega arith
kind_is_short K.BadToken = omega arith
kind_is_short K.NumberTooBig = omega arith
kind_is_short K.OpenText = omega arith
kind_is_short K.Expected = omega arith
kind_is_short K.DoubleBlock = omega arith
kind_is_short K.DoubleMember = omega arith
kind_is_short K.NameTaken = omega arith
kind_is_short K.EmptyClass = omega arith
kind_is_short K.TooDeep = omega arith
kind_is_short K.TooLong = omega arith
kind_is_short K.BadDisplay = omega arith
kind_is_short K.GlobalKey = omega arith
kind_is_short K.EndOfInput = omega arith

pub label-is-short : (kind : ScriptFaultKind) (reason : Reason) → length (label_of kind reason) < 110
label-is-short kind R.Kind = kind_is_short kind
label-is-short kind (R.Beyond limit) = kind_is_short kind
label-is-short kind (R.Unmet unmet) = by (tells_wanted kind)
  where
    by : (t : Bool) → length (cond t (wanted_text unmet.wanted) (kind_text kind)) < 110
    by true = wanted_is_short unmet.wanted
    by false = kind_is_short kind
