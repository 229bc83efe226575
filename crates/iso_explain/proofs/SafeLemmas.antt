-- Explanations are printable ASCII and line feeds.
use Rattle.std.proofs.Common.{◌≡◌, ◌<◌, ◌^◌, ℕ, zero, suc, ◌+◌, ◌-◌, ◌%◌, List, [], ◌∷◌, ◌++◌, Bool, true, false, true≢false, ◌&&◌, ◌==◌, nat_lt, cond, length, take, drop, map, replicate, codes, Option, None, Some, option_map, IfSome, refl, ap₂, sym, ◌∙◌, arith}
use Rattle.std.proofs.lemmas.Bool.Decides.{nat_tests}
use Rattle.std.proofs.lemmas.Fmt.{decimal_by_steps}
use Rattle.std.proofs.lemmas.List.Folds.{list_all-append}
use Rattle.std.specs.Fmt.{decimal}
use Rattle.std.specs.Int.{is_in_range}
use Rattle.std.specs.List.{find, list_all}
use Rattle.std.specs.Option.{option_or}
use Rattle.iso_hints.specs.Hints.{form_at, hint_at}
use Rattle.iso_hints.specs.Pictures.{caret_blanks, caret_count, caret_part, cut, first_shown, hint_line, label_text, margin, picture, place_of, shown_byte, shown_rest, source_part}
use Rattle.iso_hints.specs.Places.{place_at}
use Rattle.iso_hints.specs.Rows.{Row, fits}
use Rattle.iso_hints.specs.Tables.{forms, table}
use Rattle.iso_script.specs.declared.explain.Explained.{Explained}
use Rattle.iso_script_lexer.specs.Spelling.{marks, spelling}
use Rattle.iso_script_lexer.specs.declared.token.Position.{Position}
use Rattle.iso_script_lexer.specs.declared.symbol.Symbol.{Symbol}
use Rattle.iso_script_lexer.specs.declared.symbol.Symbol.TheVariants as S
use Rattle.iso_script_lexer.specs.declared.word.Word.{Word}
use Rattle.iso_script_lexer.specs.declared.word.Word.TheVariants as W
use Rattle.iso_model.specs.declared.limits.TheConstants.{DISPLAY_BYTES, NAME_BYTES, TEXT_BYTES}
use Rattle.iso_script_statements.specs.Reasons.{most}
use Rattle.iso_script_statements.specs.declared.fault.ScriptFault.{ScriptFault}
use Rattle.iso_script_statements.specs.declared.fault.ScriptFaultKind.{ScriptFaultKind}
use Rattle.iso_script_statements.specs.declared.fault.ScriptFaultKind.TheVariants as K
use Rattle.iso_script_statements.specs.declared.reason.Limit.{Limit}
use Rattle.iso_script_statements.specs.declared.reason.Limit.TheVariants as L
use Rattle.iso_script_statements.specs.declared.reason.Reason.{Reason}
use Rattle.iso_script_statements.specs.declared.reason.Reason.TheVariants as R
use Rattle.iso_script_statements.specs.declared.wanted.Wanted.{Wanted}
use Rattle.iso_script_statements.specs.declared.wanted.Wanted.TheVariants as V
use Rattle.iso_explain.specs.Bounds.{bound_note, display_note, kind_note, limit_note, limit_words, number_note, token_note}
use Rattle.iso_explain.specs.Explanations.{explanation, notes, one_piece, picture_of}
use Rattle.iso_explain.specs.Labels.{kind_text, label_of, quoted, tells_wanted, wanted_text}
use Rattle.iso_explain.specs.Mending.{form_for, form_of, has_form, hint_of, is_unfit, other_of, table_hint, tells_hint, told_by, told_for}
use Rattle.iso_explain.specs.Met.{met_of}
use Rattle.iso_explain.specs.Notes.{brace_note, did_you_mean, first_note, first_text, mending_note, note, open_text, place_text, tells_brace}
use Rattle.iso_explain.specs.Rules.{Rule, first_rules, other_rules, told_in}
use Rattle.iso_explain.specs.Rules as in_rules
use Rattle.iso_explain.specs.Spots.{line_of, offset_of, place_at_fault}
use Rattle.iso_explain.specs.Printable.{HasPlaces, IsPlace, IsSafe, is_safe}

pub safe-append : (s t : List ℕ) → IsSafe s → IsSafe t → IsSafe (s ++ t)
safe-append s t h k = list_all-append is_safe s t ∙ ap₂ (λ (a b : Bool). a && b) h k

-- digits
digit_is_safe : (d : ℕ) → d < 10 → is_safe (48 + d) ≡ true
digit_is_safe d h = grind (arith, nat_tests)

pub decimal-is-safe : (n : ℕ) → n < 2 ^ 64 → IsSafe (decimal n)
decimal-is-safe n h =
    decimal_by_steps (λ n ds. IsSafe ds) (λ n h. rw (digit_is_safe n h) refl)
    (λ n ds h k. safe-append ds ((48 + n % 10) ∷ []) k (rw (digit_is_safe (n % 10) (omega arith)) refl)) n h

-- bytes of a line
byte_is_safe : (b : ℕ) → is_safe (shown_byte b) ≡ true
byte_is_safe b = by (b == 9) (is_in_range 32 126 b) refl
  where
    by : (s t : Bool) → is_in_range 32 126 b ≡ t → is_safe (cond s 32 (cond t b 63)) ≡ true
    by true t e = refl
    by false true e = let other : is_safe b ≡ true = grind (arith, nat_tests) in other
    by false false e = refl

bytes_are_safe : (bs : List ℕ) → IsSafe (map shown_byte bs)
bytes_are_safe [] = refl
bytes_are_safe (b ∷ bs) = ap₂ (λ (s t : Bool). s && t) (byte_is_safe b) (bytes_are_safe bs)

repeated_is_safe : (n b : ℕ) → is_safe b ≡ true → IsSafe (replicate n b)
repeated_is_safe zero b h = refl
repeated_is_safe (suc n) b h = ap₂ (λ (s t : Bool). s && t) h (repeated_is_safe n b h)

cut_is_safe : (t : Bool) → IsSafe (cut t)
cut_is_safe true = refl
cut_is_safe false = refl

-- pictures
source_is_safe : (first : ℕ) (line : List ℕ) → IsSafe (source_part first line)
source_is_safe first line =
    let rest = drop first line in
    safe-append (codes " | " ++ shown_rest (nat_lt 0 first) rest) (codes "\n")
    (safe-append (codes " | ") (shown_rest (nat_lt 0 first) rest) refl
    (safe-append (cut (nat_lt 0 first) ++ map shown_byte (take 160 rest)) (cut (nat_lt 160 (length rest)))
    (safe-append (cut (nat_lt 0 first)) (map shown_byte (take 160 rest)) (cut_is_safe (nat_lt 0 first)) (bytes_are_safe (take 160 rest)))
    (cut_is_safe (nat_lt 160 (length rest)))))
    refl

margin_is_safe : (digits : ℕ) → IsSafe (margin digits)
margin_is_safe digits =
    safe-append (codes " " ++ replicate digits 32) (codes " | ")
    (safe-append (codes " ") (replicate digits 32) refl (repeated_is_safe digits 32 refl)) refl

label_is_safe : (text : List ℕ) → IsSafe text → IsSafe (label_text (one_piece text))
label_is_safe text h = safe-append (codes " ") (text ++ []) refl (safe-append text [] h refl)

carets_are_safe : (blanks carets : ℕ) (text : List ℕ) → IsSafe text → IsSafe (caret_part blanks carets (one_piece text))
carets_are_safe blanks carets text h =
    safe-append (replicate blanks 32 ++ replicate carets 94 ++ label_text (one_piece text)) (codes "\n")
    (safe-append (replicate blanks 32 ++ replicate carets 94) (label_text (one_piece text))
    (safe-append (replicate blanks 32) (replicate carets 94) (repeated_is_safe blanks 32 refl) (repeated_is_safe carets 94 refl))
    (label_is_safe text h))
    refl

picture_is_safe : (number : ℕ) (line : List ℕ) (column width : ℕ) (text : List ℕ) → number < 2 ^ 64 → IsSafe text
    → IsSafe (picture number line column width (one_piece text))
picture_is_safe number line column width text fits h =
    let len = length line in
    let place = place_of len column in
    let source = source_part (first_shown len place) line in
    let carets = caret_part (caret_blanks len place) (caret_count len place width) (one_piece text) in
    safe-append (codes " " ++ decimal number ++ source ++ margin (length (decimal number))) carets
    (safe-append (codes " " ++ decimal number ++ source) (margin (length (decimal number)))
    (safe-append (codes " " ++ decimal number) source
    (safe-append (codes " ") (decimal number) refl (decimal-is-safe number fits))
    (source_is_safe (first_shown len place) line))
    (margin_is_safe (length (decimal number))))
    (carets_are_safe (caret_blanks len place) (caret_count len place width) text h)

-- labels
marks_are_safe : (s : Symbol) → IsSafe (marks s)
marks_are_safe S.OpenBrace = refl
marks_are_safe S.CloseBrace = refl
marks_are_safe S.OpenParen = refl
marks_are_safe S.CloseParen = refl
marks_are_safe S.Semicolon = refl
marks_are_safe S.Comma = refl
marks_are_safe S.Equals = refl
marks_are_safe S.Plus = refl
marks_are_safe S.Minus = refl
marks_are_safe S.Star = refl
marks_are_safe S.PlusPlus = refl
marks_are_safe S.EqualsEquals = refl
marks_are_safe S.NotEquals = refl
marks_are_safe S.Less = refl

pub spelling-is-safe : (w : Word) → IsSafe (spelling w)
spelling-is-safe W.Team = refl
spelling-is-safe W.Class = refl
spelling-is-safe W.Test = refl
spelling-is-safe W.SameThread = refl
spelling-is-safe W.Concurrent = refl
spelling-is-safe W.Isolated = refl
spelling-is-safe W.Read = refl
spelling-is-safe W.Write = refl
spelling-is-safe W.Static = refl
spelling-is-safe W.Field = refl
spelling-is-safe W.BeforeAll = refl
spelling-is-safe W.AfterAll = refl
spelling-is-safe W.BeforeEach = refl
spelling-is-safe W.AfterEach = refl
spelling-is-safe W.Let = refl
spelling-is-safe W.Print = refl
spelling-is-safe W.Assert = refl
spelling-is-safe W.AssertEqual = refl
spelling-is-safe W.Assume = refl
spelling-is-safe W.Fail = refl
spelling-is-safe W.If = refl
spelling-is-safe W.Else = refl
spelling-is-safe W.Repeat = refl
spelling-is-safe W.SetProp = refl
spelling-is-safe W.ClearProp = refl
spelling-is-safe W.SetLocale = refl
spelling-is-safe W.WriteFile = refl
spelling-is-safe W.AppendFile = refl
spelling-is-safe W.DeleteFile = refl
spelling-is-safe W.True = refl
spelling-is-safe W.False = refl
spelling-is-safe W.Text = refl
spelling-is-safe W.Len = refl
spelling-is-safe W.Prop = refl
spelling-is-safe W.HasProp = refl
spelling-is-safe W.Locale = refl
spelling-is-safe W.File = refl
spelling-is-safe W.HasFile = refl
spelling-is-safe W.Children = refl
spelling-is-safe W.Disabled = refl

quoted_is_safe : (text : List ℕ) → IsSafe text → IsSafe (quoted text)
quoted_is_safe text h = safe-append (codes "`" ++ text) (codes "`") (safe-append (codes "`") text refl h) refl

wanted_is_safe : (wanted : Wanted) → IsSafe (wanted_text wanted)
wanted_is_safe (V.Word w) = safe-append (codes "expected ") (quoted (spelling w)) refl (quoted_is_safe (spelling w) (spelling-is-safe w))
wanted_is_safe (V.Symbol s) = safe-append (codes "expected ") (quoted (marks s)) refl (quoted_is_safe (marks s) (marks_are_safe s))
wanted_is_safe (V.Operator s) = safe-append (codes "expected an operator or ") (quoted (marks s)) refl (quoted_is_safe (marks s) (marks_are_safe s))
wanted_is_safe (V.SameOperator o s) =
    safe-append (codes "expected " ++ quoted (marks o) ++ codes " or ") (quoted (marks s))
    (safe-append (codes "expected " ++ quoted (marks o)) (codes " or ")
    (safe-append (codes "expected ") (quoted (marks o)) refl (quoted_is_safe (marks o) (marks_are_safe o))) refl)
    (quoted_is_safe (marks s) (marks_are_safe s))
wanted_is_safe V.Name = refl
wanted_is_safe V.Text = refl
wanted_is_safe V.Number = refl
wanted_is_safe V.Literal = refl
wanted_is_safe V.Operand = refl
wanted_is_safe V.Statement = refl
wanted_is_safe V.StatementOrElse = refl
wanted_is_safe V.Display = refl
wanted_is_safe V.Key = refl
wanted_is_safe V.Target = refl
wanted_is_safe V.TopClass = refl
wanted_is_safe V.ClassPart = refl
wanted_is_safe V.BlockOrMember = refl
wanted_is_safe V.Member = refl
wanted_is_safe V.MarkedMember = refl
wanted_is_safe V.MarkedClass = refl

kind_is_safe : (kind : ScriptFaultKind) → IsSafe (kind_text kind)
kind_is_safe K.BadByte = refl
kind_is_safe K.BadToken = refl
kind_is_safe K.NumberTooBig = refl
kind_is_safe K.OpenText = refl
kind_is_safe K.Expected = refl
kind_is_safe K.DoubleBlock = refl
kind_is_safe K.DoubleMember = refl
kind_is_safe K.NameTaken = refl
kind_is_safe K.EmptyClass = refl
kind_is_safe K.TooDeep = refl
kind_is_safe K.TooLong = refl
kind_is_safe K.BadDisplay = refl
kind_is_safe K.GlobalKey = refl
kind_is_safe K.EndOfInput = refl

label_of_is_safe : (kind : ScriptFaultKind) (reason : Reason) → IsSafe (label_of kind reason)
label_of_is_safe kind R.Kind = kind_is_safe kind
label_of_is_safe kind (R.Beyond limit) = kind_is_safe kind
label_of_is_safe kind (R.Unmet unmet) = by (tells_wanted kind)
  where
    by : (t : Bool) → IsSafe (cond t (wanted_text unmet.wanted) (kind_text kind))
    by true = wanted_is_safe unmet.wanted
    by false = kind_is_safe kind

-- notes
line_is_safe : (text : List ℕ) → IsSafe text → IsSafe (hint_line text)
line_is_safe text h = safe-append (codes " = " ++ text) (codes "\n") (safe-append (codes " = ") text refl h) refl

note_is_safe : (text : Option (List ℕ)) → IfSome text IsSafe → IsSafe (note text)
note_is_safe None h = refl
note_is_safe (Some text) h = line_is_safe text h

place_is_safe : (at : Position) → IsPlace at → IsSafe (place_text at)
place_is_safe at h =
    let line = h.0 in
    let column = h.1 in
    safe-append (decimal at.line ++ codes ":") (decimal at.column)
    (safe-append (decimal at.line) (codes ":") (decimal-is-safe at.line (omega arith)) refl) (decimal-is-safe at.column (omega arith))

first_is_safe : (first : Option Position) → IfSome first IsPlace → IsSafe (first_note first)
first_is_safe None h = refl
first_is_safe (Some at) h = line_is_safe (first_text at) (safe-append (codes "first at ") (place_text at) refl (place_is_safe at h))

open_is_safe : (brace : Option Position) → IfSome brace IsPlace → IsSafe (note (option_map open_text brace))
open_is_safe None h = refl
open_is_safe (Some at) h =
    line_is_safe (open_text at)
    (safe-append (codes "the brace at " ++ place_text at) (codes " is open") (safe-append (codes "the brace at ") (place_text at) refl (place_is_safe at h)) refl)

brace_is_safe : (told : Explained) → IfSome told.brace IsPlace → IsSafe (brace_note told)
brace_is_safe told h = by (tells_brace told.fault.kind told.reason)
  where
    by : (t : Bool) → IsSafe (cond t (note (option_map open_text told.brace)) [])
    by true = open_is_safe told.brace h
    by false = refl

pub both : (a b : Bool) → (a && b) ≡ true → (a ≡ true) × (b ≡ true)
both true b h = (refl, h)
both false b h = absurd (true≢false (sym h))

hint_found : (p : Row → Bool) (rows : List Row) → list_all (λ row. list_all is_safe row.hint) rows ≡ true
    → IfSome (option_map (λ row. row.hint) (find p rows)) IsSafe
hint_found p [] h = tt
hint_found p (row ∷ rows) h =
    let parts = both (list_all is_safe row.hint) (list_all (λ row. list_all is_safe row.hint) rows) h in
    by parts.0 (hint_found p rows parts.1) (p row)
  where
    by : IsSafe row.hint → IfSome (option_map (λ row. row.hint) (find p rows)) IsSafe → (t : Bool)
        → IfSome (option_map (λ row. row.hint) (cond t (Some row) (find p rows))) IsSafe
    by here there true = here
    by here there false = there

hints_are_safe : list_all (λ (row : Row). list_all is_safe row.hint) table ≡ true
hints_are_safe = refl

forms_are_safe : list_all (λ (row : Row). list_all is_safe row.hint) forms ≡ true
forms_are_safe = refl

rule_found : (q : Rule → Bool) (rules : List Rule) → list_all (λ rule. list_all is_safe rule.told) rules ≡ true
    → IfSome (option_map (λ rule. rule.told) (find q rules)) IsSafe
rule_found q [] h = tt
rule_found q (rule ∷ rules) h =
    let parts = both (list_all is_safe rule.told) (list_all (λ (r : Rule). list_all is_safe r.told) rules) h in
    by parts.0 (rule_found q rules parts.1) (q rule)
  where
    by : IsSafe rule.told → IfSome (option_map (λ (r : Rule). r.told) (find q rules)) IsSafe → (t : Bool)
        → IfSome (option_map (λ (r : Rule). r.told) (cond t (Some rule) (find q rules))) IsSafe
    by here there true = here
    by here there false = there

first_rules_are_safe : list_all (λ (rule : Rule). list_all is_safe rule.told) first_rules ≡ true
first_rules_are_safe = refl

other_rules_are_safe : list_all (λ (rule : Rule). list_all is_safe rule.told) other_rules ≡ true
other_rules_are_safe = refl

-- either of two texts
either_is_safe : (a b : Option (List ℕ)) → IfSome a IsSafe → IfSome b IsSafe → IfSome (option_or a b) IsSafe
either_is_safe None b h k = k
either_is_safe (Some text) b h k = h

told_is_safe : (rules : List Rule) → list_all (λ (rule : Rule). list_all is_safe rule.told) rules ≡ true
    → (bytes : List ℕ) (fault : ScriptFault) (reason : Reason) → IfSome (told_for rules bytes fault reason) IsSafe
told_is_safe rules h bytes fault R.Kind = tt
told_is_safe rules h bytes fault (R.Beyond limit) = tt
told_is_safe rules h bytes fault (R.Unmet unmet) = by (is_unfit fault.kind)
  where
    by : (t : Bool) → IfSome (cond t (told_in rules (met_of (place_at_fault bytes fault) unmet)) None) IsSafe
    by true = rule_found (in_rules.fits (met_of (place_at_fault bytes fault) unmet)) rules h
    by false = tt

table_is_safe : (bytes : List ℕ) (fault : ScriptFault) → IfSome (table_hint bytes fault) IsSafe
table_is_safe bytes fault = by (tells_hint fault.kind)
  where
    by : (t : Bool) → IfSome (cond t (hint_at bytes (offset_of bytes fault.line fault.column)) None) IsSafe
    by true = hint_found (fits (place_at bytes (offset_of bytes fault.line fault.column))) table hints_are_safe
    by false = tt

form_is_safe : (bytes : List ℕ) (fault : ScriptFault) (reason : Reason) → IfSome (form_for bytes fault reason) IsSafe
form_is_safe bytes fault R.Kind = tt
form_is_safe bytes fault (R.Beyond limit) = tt
form_is_safe bytes fault (R.Unmet unmet) = by (is_unfit fault.kind && has_form unmet.wanted)
  where
    by : (t : Bool) → IfSome (cond t (form_at bytes (offset_of bytes fault.line fault.column)) None) IsSafe
    by true = hint_found (fits (place_at bytes (offset_of bytes fault.line fault.column))) forms forms_are_safe
    by false = tt

hint_is_safe : (bytes : List ℕ) (told : Explained) → IfSome (hint_of bytes told) IsSafe
hint_is_safe bytes told =
    either_is_safe (told_by first_rules bytes told) (table_hint bytes told.fault)
    (told_is_safe first_rules first_rules_are_safe bytes told.fault told.reason) (table_is_safe bytes told.fault)

other_is_safe : (bytes : List ℕ) (told : Explained) → IfSome (other_of bytes told) IsSafe
other_is_safe bytes told =
    either_is_safe (told_by other_rules bytes told) (form_of bytes told)
    (told_is_safe other_rules other_rules_are_safe bytes told.fault told.reason) (form_is_safe bytes told.fault told.reason)

mending_is_safe : (hint meant other : Option (List ℕ)) → IfSome hint IsSafe → IfSome meant IsSafe → IfSome other IsSafe → IsSafe (mending_note hint meant other)
mending_is_safe (Some hint) meant other h k m = line_is_safe hint h
mending_is_safe None None other h k m = note_is_safe other m
mending_is_safe None (Some word) other h k m =
    line_is_safe (did_you_mean word) (safe-append (codes "did you mean `" ++ word) (codes "`?") (safe-append (codes "did you mean `") word refl k) refl)

-- bounds
limit_is_safe : (limit : Limit) → IsSafe (limit_note limit)
limit_is_safe limit =
    line_is_safe (codes "at most " ++ decimal (most limit) ++ limit_words limit)
    (safe-append (codes "at most " ++ decimal (most limit)) (limit_words limit)
    (safe-append (codes "at most ") (decimal (most limit)) refl (decimal-is-safe (most limit) (small limit))) (words limit))
  where
    small : (limit : Limit) → most limit < 2 ^ 64
    small L.Classes = omega arith
    small L.Bodies = omega arith
    small L.Parentheses = omega arith
    small L.Operands = omega arith
    small L.KeyBytes = omega arith
    small L.ScriptBytes = omega arith

    words : (limit : Limit) → IsSafe (limit_words limit)
    words L.Classes = refl
    words L.Bodies = refl
    words L.Parentheses = refl
    words L.Operands = refl
    words L.KeyBytes = refl
    words L.ScriptBytes = refl

two_numbers : (a b c : List ℕ) (m n : ℕ) → IsSafe a → IsSafe b → IsSafe c → m < 2 ^ 64 → n < 2 ^ 64 → IsSafe (a ++ decimal m ++ b ++ decimal n ++ c)
two_numbers a b c m n p q r x y =
    safe-append (a ++ decimal m ++ b ++ decimal n) c
    (safe-append (a ++ decimal m ++ b) (decimal n) (safe-append (a ++ decimal m) b (safe-append a (decimal m) p (decimal-is-safe m x)) q) (decimal-is-safe n y)) r

number_is_safe : IsSafe number_note
number_is_safe =
    let start = codes "at most " in
    let between = codes ", after the minus of a literal " in
    let most = decimal (2 ^ 63 - 1) in
    line_is_safe (start ++ most ++ between ++ decimal (2 ^ 63))
    (safe-append (start ++ most ++ between) (decimal (2 ^ 63))
    (safe-append (start ++ most) between (safe-append start most refl (decimal-is-safe (2 ^ 63 - 1) (omega arith))) refl) (decimal-is-safe (2 ^ 63) (omega arith)))

token_is_safe : IsSafe token_note
token_is_safe =
    line_is_safe (codes "at most " ++ decimal NAME_BYTES ++ codes " bytes stand in a name, and " ++ decimal TEXT_BYTES ++ codes " in a text")
    (two_numbers (codes "at most ") (codes " bytes stand in a name, and ") (codes " in a text") NAME_BYTES TEXT_BYTES refl refl refl (omega arith) (omega arith))

display_is_safe : IsSafe display_note
display_is_safe =
    let start = codes "a display text and a reason have 1 to " in
    let end = codes " bytes, and no space at either end" in
    line_is_safe (start ++ decimal DISPLAY_BYTES ++ end)
    (safe-append (start ++ decimal DISPLAY_BYTES) end (safe-append start (decimal DISPLAY_BYTES) refl (decimal-is-safe DISPLAY_BYTES (omega arith))) refl)

kind_note_is_safe : (kind : ScriptFaultKind) → IsSafe (kind_note kind)
kind_note_is_safe K.BadByte = refl
kind_note_is_safe K.BadToken = refl
kind_note_is_safe K.NumberTooBig = number_is_safe
kind_note_is_safe K.OpenText = refl
kind_note_is_safe K.Expected = refl
kind_note_is_safe K.DoubleBlock = refl
kind_note_is_safe K.DoubleMember = refl
kind_note_is_safe K.NameTaken = refl
kind_note_is_safe K.EmptyClass = refl
kind_note_is_safe K.TooDeep = refl
kind_note_is_safe K.TooLong = token_is_safe
kind_note_is_safe K.BadDisplay = display_is_safe
kind_note_is_safe K.GlobalKey = refl
kind_note_is_safe K.EndOfInput = refl

bound_is_safe : (kind : ScriptFaultKind) (reason : Reason) → IsSafe (bound_note kind reason)
bound_is_safe kind R.Kind = kind_note_is_safe kind
bound_is_safe kind (R.Unmet unmet) = kind_note_is_safe kind
bound_is_safe kind (R.Beyond limit) = limit_is_safe limit

notes_are_safe : (bytes : List ℕ) (told : Explained) (meant : Option (List ℕ)) → HasPlaces told → IfSome meant IsSafe → IsSafe (notes bytes told meant)
notes_are_safe bytes told meant h k =
    let mend = mending_note (hint_of bytes told) meant (other_of bytes told) in
    safe-append (mend ++ first_note told.first ++ brace_note told) (bound_note told.fault.kind told.reason)
    (safe-append (mend ++ first_note told.first) (brace_note told)
    (safe-append mend (first_note told.first) (mending_is_safe (hint_of bytes told) meant (other_of bytes told) (hint_is_safe bytes told) k (other_is_safe bytes told))
    (first_is_safe told.first h.first))
    (brace_is_safe told h.brace))
    (bound_is_safe told.fault.kind told.reason)

pub explanation-is-safe : (bytes : List ℕ) (told : Explained) (meant : Option (List ℕ)) → HasPlaces told → IfSome meant IsSafe → IsSafe (explanation bytes told meant)
unfolding explanation
explanation-is-safe bytes told meant h k =
    let fault = told.fault in
    let small = h.line in
    safe-append (picture_of bytes told) (notes bytes told meant)
    (picture_is_safe fault.line (line_of bytes fault.line) fault.column told.width (label_of fault.kind told.reason) (omega arith) (label_of_is_safe fault.kind told.reason))
    (notes_are_safe bytes told meant h k)
