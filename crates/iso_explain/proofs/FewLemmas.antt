-- Explanations have few lines: their parts have no line feed in them.
use Rattle.std.proofs.Common.{◌≡◌, ◌<◌, ◌^◌, ℕ, zero, suc, ◌+◌, ◌-◌, ◌%◌, List, [], ◌∷◌, ◌++◌, Bool, true, false, true≢false, not, ◌&&◌, ◌==◌, nat_lt, cond, length, take, drop, map, replicate, codes, Option, None, Some, option_map, IfSome, refl, ap₂, sym, ◌∙◌, arith, ◌≤◌, ap, filter}
use Rattle.std.proofs.lemmas.Bool.Decides.{nat_tests}
use Rattle.std.proofs.lemmas.Fmt.{decimal_by_steps}
use Rattle.std.proofs.lemmas.List.Folds.{list_all-append}
use Rattle.std.specs.Fmt.{decimal}
use Rattle.std.specs.Int.{is_in_range}
use Rattle.std.specs.List.{find, list_all}
use Rattle.std.specs.Option.{option_or}
use Rattle.iso_hints.specs.Hints.{form_at, hint_at}
use Rattle.iso_hints.specs.Pictures.{caret_blanks, caret_count, caret_part, cut, first_shown, hint_line, label_text, margin, picture, place_of, shown_byte, shown_rest, source_part}
use Rattle.iso_hints.specs.Places.{place_at}
use Rattle.iso_hints.specs.Rows.{Row, fits}
use Rattle.iso_hints.specs.Tables.{forms, table}
use Rattle.iso_script.specs.declared.explain.Explained.{Explained}
use Rattle.iso_script_lexer.specs.Spelling.{marks, spelling}
use Rattle.iso_script_lexer.specs.declared.token.Position.{Position}
use Rattle.iso_script_lexer.specs.declared.symbol.Symbol.{Symbol}
use Rattle.iso_script_lexer.specs.declared.symbol.Symbol.TheVariants as S
use Rattle.iso_script_lexer.specs.declared.word.Word.{Word}
use Rattle.iso_script_lexer.specs.declared.word.Word.TheVariants as W
use Rattle.iso_model.specs.declared.limits.TheConstants.{DISPLAY_BYTES, NAME_BYTES, TEXT_BYTES}
use Rattle.iso_script_statements.specs.Reasons.{most}
use Rattle.iso_script_statements.specs.declared.fault.ScriptFault.{ScriptFault}
use Rattle.iso_script_statements.specs.declared.fault.ScriptFaultKind.{ScriptFaultKind}
use Rattle.iso_script_statements.specs.declared.fault.ScriptFaultKind.TheVariants as K
use Rattle.iso_script_statements.specs.declared.reason.Limit.{Limit}
use Rattle.iso_script_statements.specs.declared.reason.Limit.TheVariants as L
use Rattle.iso_script_statements.specs.declared.reason.Reason.{Reason}
use Rattle.iso_script_statements.specs.declared.reason.Reason.TheVariants as R
use Rattle.iso_script_statements.specs.declared.wanted.Wanted.{Wanted}
use Rattle.iso_script_statements.specs.declared.wanted.Wanted.TheVariants as V
use Rattle.iso_explain.specs.Bounds.{bound_note, display_note, kind_note, limit_note, limit_words, number_note, token_note}
use Rattle.iso_explain.specs.Explanations.{explanation, notes, one_piece, picture_of}
use Rattle.iso_explain.specs.Labels.{kind_text, label_of, quoted, tells_wanted, wanted_text}
use Rattle.iso_explain.specs.Mending.{form_for, form_of, has_form, hint_of, is_unfit, other_of, table_hint, tells_hint, told_by, told_for}
use Rattle.iso_explain.specs.Met.{met_of}
use Rattle.iso_explain.specs.Notes.{brace_note, did_you_mean, first_note, first_text, mending_note, note, open_text, place_text, tells_brace}
use Rattle.iso_explain.specs.Rules.{Rule, first_rules, other_rules, told_in}
use Rattle.iso_explain.specs.Rules as in_rules
use Rattle.iso_explain.specs.Spots.{line_of, offset_of, place_at_fault}
use Rattle.iso_explain.specs.Printable.{HasPlaces, IsInner, IsPlace, is_inner, line_feeds}
use Rattle.iso_explain.proofs.SafeLemmas.{both}

pub inner-append : (s t : List ℕ) → IsInner s → IsInner t → IsInner (s ++ t)
inner-append s t h k = list_all-append is_inner s t ∙ ap₂ (λ (a b : Bool). a && b) h k

-- digits
digit_is_inner : (d : ℕ) → d < 10 → is_inner (48 + d) ≡ true
digit_is_inner d h = grind (arith, nat_tests)

pub decimal-is-inner : (n : ℕ) → n < 2 ^ 64 → IsInner (decimal n)
decimal-is-inner n h =
    decimal_by_steps (λ n ds. IsInner ds) (λ n h. rw (digit_is_inner n h) refl)
    (λ n ds h k. inner-append ds ((48 + n % 10) ∷ []) k (rw (digit_is_inner (n % 10) (omega arith)) refl)) n h

-- bytes of a line
byte_is_inner : (b : ℕ) → is_inner (shown_byte b) ≡ true
byte_is_inner b = by (b == 9) (is_in_range 32 126 b) refl
  where
    by : (s t : Bool) → is_in_range 32 126 b ≡ t → is_inner (cond s 32 (cond t b 63)) ≡ true
    by true t e = refl
    by false true e = let other : is_inner b ≡ true = grind (arith, nat_tests) in other
    by false false e = refl

bytes_are_inner : (bs : List ℕ) → IsInner (map shown_byte bs)
bytes_are_inner [] = refl
bytes_are_inner (b ∷ bs) = ap₂ (λ (s t : Bool). s && t) (byte_is_inner b) (bytes_are_inner bs)

repeated_is_inner : (n b : ℕ) → is_inner b ≡ true → IsInner (replicate n b)
repeated_is_inner zero b h = refl
repeated_is_inner (suc n) b h = ap₂ (λ (s t : Bool). s && t) h (repeated_is_inner n b h)

cut_is_inner : (t : Bool) → IsInner (cut t)
cut_is_inner true = refl
cut_is_inner false = refl

margin_is_inner : (digits : ℕ) → IsInner (margin digits)
margin_is_inner digits =
    inner-append (codes " " ++ replicate digits 32) (codes " | ")
    (inner-append (codes " ") (replicate digits 32) refl (repeated_is_inner digits 32 refl)) refl

label_is_inner : (text : List ℕ) → IsInner text → IsInner (label_text (one_piece text))
label_is_inner text h = inner-append (codes " ") (text ++ []) refl (inner-append text [] h refl)

-- parts of pictures
shown_is_inner : (is_cut : Bool) (rest : List ℕ) → IsInner (codes " | " ++ shown_rest is_cut rest)
shown_is_inner is_cut rest =
    inner-append (codes " | ") (shown_rest is_cut rest) refl
    (inner-append (cut is_cut ++ map shown_byte (take 160 rest)) (cut (nat_lt 160 (length rest)))
    (inner-append (cut is_cut) (map shown_byte (take 160 rest)) (cut_is_inner is_cut) (bytes_are_inner (take 160 rest)))
    (cut_is_inner (nat_lt 160 (length rest))))

carets_are_inner : (blanks carets : ℕ) (text : List ℕ) → IsInner text → IsInner (replicate blanks 32 ++ replicate carets 94 ++ label_text (one_piece text))
carets_are_inner blanks carets text h =
    inner-append (replicate blanks 32 ++ replicate carets 94) (label_text (one_piece text))
    (inner-append (replicate blanks 32) (replicate carets 94) (repeated_is_inner blanks 32 refl) (repeated_is_inner carets 94 refl))
    (label_is_inner text h)

-- line feeds
feeds-append : (s t : List ℕ) → line_feeds (s ++ t) ≡ line_feeds s + line_feeds t
feeds-append [] t = omega arith
feeds-append (b ∷ s) t = by (b == 10) (feeds-append s t)
  where
    by : (u : Bool) → length (filter (λ c. c == 10) (s ++ t)) ≡ length (filter (λ c. c == 10) s) + length (filter (λ c. c == 10) t)
        → length (cond u (b ∷ filter (λ c. c == 10) (s ++ t)) (filter (λ c. c == 10) (s ++ t))) ≡ length (cond u (b ∷ filter (λ c. c == 10) s) (filter (λ c. c == 10) s)) + length
        (filter (λ c. c == 10) t)
    by true h = omega (arith, h)
    by false h = h

no-feeds : (text : List ℕ) → IsInner text → line_feeds text ≡ 0
no-feeds [] h = refl
no-feeds (b ∷ bs) h = let parts = both (not (b == 10)) (list_all is_inner bs) h in by (b == 10) parts.0 (no-feeds bs parts.1)
  where
    by : (t : Bool) → not t ≡ true → line_feeds bs ≡ 0 → length (cond t (b ∷ filter (λ c. c == 10) bs) (filter (λ c. c == 10) bs)) ≡ 0
    by true h k = absurd (true≢false (sym h))
    by false h k = k

line_ends : (text : List ℕ) → IsInner text → line_feeds (text ++ codes "\n") ≡ 1
line_ends text h = feeds-append text (codes "\n") ∙ ap (λ (n : ℕ). n + 1) (no-feeds text h)

line_feeds_once : (text : List ℕ) → IsInner text → line_feeds (hint_line text) ≤ 1
line_feeds_once text h = let one = line_ends (codes " = " ++ text) (inner-append (codes " = ") text refl h) in omega (arith, one)

picture_feeds_twice : (number : ℕ) (line : List ℕ) (column width : ℕ) (text : List ℕ) → number < 2 ^ 64 → IsInner text
    → line_feeds (picture number line column width (one_piece text)) ≡ 2
picture_feeds_twice number line column width text fits h =
    let len = length line in
    let place = place_of len column in
    let first = first_shown len place in
    let source = source_part first line in
    let blanks = caret_blanks len place in
    let carets = caret_count len place width in
    let start = codes " " ++ decimal number in
    let left = margin (length (decimal number)) in
    let a = no-feeds start (inner-append (codes " ") (decimal number) refl (decimal-is-inner number fits)) in
    let b = line_ends (codes " | " ++ shown_rest (nat_lt 0 first) (drop first line)) (shown_is_inner (nat_lt 0 first) (drop first line)) in
    let c = no-feeds left (margin_is_inner (length (decimal number))) in
    let d = line_ends (replicate blanks 32 ++ replicate carets 94 ++ label_text (one_piece text)) (carets_are_inner blanks carets text h) in
    feeds-append (start ++ source ++ left) (caret_part blanks carets (one_piece text))
    ∙ ap₂ (λ (m n : ℕ). m + n)
    (feeds-append (start ++ source) left
    ∙ ap₂ (λ (m n : ℕ). m + n) (feeds-append start source ∙ ap₂ (λ (m n : ℕ). m + n) a b) c) d

-- labels
marks_are_inner : (s : Symbol) → IsInner (marks s)
marks_are_inner S.OpenBrace = refl
marks_are_inner S.CloseBrace = refl
marks_are_inner S.OpenParen = refl
marks_are_inner S.CloseParen = refl
marks_are_inner S.Semicolon = refl
marks_are_inner S.Comma = refl
marks_are_inner S.Equals = refl
marks_are_inner S.Plus = refl
marks_are_inner S.Minus = refl
marks_are_inner S.Star = refl
marks_are_inner S.PlusPlus = refl
marks_are_inner S.EqualsEquals = refl
marks_are_inner S.NotEquals = refl
marks_are_inner S.Less = refl

pub spelling-is-inner : (w : Word) → IsInner (spelling w)
spelling-is-inner W.Team = refl
spelling-is-inner W.Class = refl
spelling-is-inner W.Test = refl
spelling-is-inner W.SameThread = refl
spelling-is-inner W.Concurrent = refl
spelling-is-inner W.Isolated = refl
spelling-is-inner W.Read = refl
spelling-is-inner W.Write = refl
spelling-is-inner W.Static = refl
spelling-is-inner W.Field = refl
spelling-is-inner W.BeforeAll = refl
spelling-is-inner W.AfterAll = refl
spelling-is-inner W.BeforeEach = refl
spelling-is-inner W.AfterEach = refl
spelling-is-inner W.Let = refl
spelling-is-inner W.Print = refl
spelling-is-inner W.Assert = refl
spelling-is-inner W.AssertEqual = refl
spelling-is-inner W.Assume = refl
spelling-is-inner W.Fail = refl
spelling-is-inner W.If = refl
spelling-is-inner W.Else = refl
spelling-is-inner W.Repeat = refl
spelling-is-inner W.SetProp = refl
spelling-is-inner W.ClearProp = refl
spelling-is-inner W.SetLocale = refl
spelling-is-inner W.WriteFile = refl
spelling-is-inner W.AppendFile = refl
spelling-is-inner W.DeleteFile = refl
spelling-is-inner W.True = refl
spelling-is-inner W.False = refl
spelling-is-inner W.Text = refl
spelling-is-inner W.Len = refl
spelling-is-inner W.Prop = refl
spelling-is-inner W.HasProp = refl
spelling-is-inner W.Locale = refl
spelling-is-inner W.File = refl
spelling-is-inner W.HasFile = refl
spelling-is-inner W.Children = refl
spelling-is-inner W.Disabled = refl

quoted_is_inner : (text : List ℕ) → IsInner text → IsInner (quoted text)
quoted_is_inner text h = inner-append (codes "`" ++ text) (codes "`") (inner-append (codes "`") text refl h) refl

wanted_is_inner : (wanted : Wanted) → IsInner (wanted_text wanted)
wanted_is_inner (V.Word w) = inner-append (codes "expected ") (quoted (spelling w)) refl (quoted_is_inner (spelling w) (spelling-is-inner w))
wanted_is_inner (V.Symbol s) = inner-append (codes "expected ") (quoted (marks s)) refl (quoted_is_inner (marks s) (marks_are_inner s))
wanted_is_inner (V.Operator s) = inner-append (codes "expected an operator or ") (quoted (marks s)) refl (quoted_is_inner (marks s) (marks_are_inner s))
wanted_is_inner (V.SameOperator o s) =
    inner-append (codes "expected " ++ quoted (marks o) ++ codes " or ") (quoted (marks s))
    (inner-append (codes "expected " ++ quoted (marks o)) (codes " or ")
    (inner-append (codes "expected ") (quoted (marks o)) refl (quoted_is_inner (marks o) (marks_are_inner o))) refl)
    (quoted_is_inner (marks s) (marks_are_inner s))
wanted_is_inner V.Name = refl
wanted_is_inner V.Text = refl
wanted_is_inner V.Number = refl
wanted_is_inner V.Literal = refl
wanted_is_inner V.Operand = refl
wanted_is_inner V.Statement = refl
wanted_is_inner V.StatementOrElse = refl
wanted_is_inner V.Display = refl
wanted_is_inner V.Key = refl
wanted_is_inner V.Target = refl
wanted_is_inner V.TopClass = refl
wanted_is_inner V.ClassPart = refl
wanted_is_inner V.BlockOrMember = refl
wanted_is_inner V.Member = refl
wanted_is_inner V.MarkedMember = refl
wanted_is_inner V.MarkedClass = refl

kind_is_inner : (kind : ScriptFaultKind) → IsInner (kind_text kind)
kind_is_inner K.BadByte = refl
kind_is_inner K.BadToken = refl
kind_is_inner K.NumberTooBig = refl
kind_is_inner K.OpenText = refl
kind_is_inner K.Expected = refl
kind_is_inner K.DoubleBlock = refl
kind_is_inner K.DoubleMember = refl
kind_is_inner K.NameTaken = refl
kind_is_inner K.EmptyClass = refl
kind_is_inner K.TooDeep = refl
kind_is_inner K.TooLong = refl
kind_is_inner K.BadDisplay = refl
kind_is_inner K.GlobalKey = refl
kind_is_inner K.EndOfInput = refl

label_of_is_inner : (kind : ScriptFaultKind) (reason : Reason) → IsInner (label_of kind reason)
label_of_is_inner kind R.Kind = kind_is_inner kind
label_of_is_inner kind (R.Beyond limit) = kind_is_inner kind
label_of_is_inner kind (R.Unmet unmet) = by (tells_wanted kind)
  where
    by : (t : Bool) → IsInner (cond t (wanted_text unmet.wanted) (kind_text kind))
    by true = wanted_is_inner unmet.wanted
    by false = kind_is_inner kind

note_is_inner : (text : Option (List ℕ)) → IfSome text IsInner → line_feeds (note text) ≤ 1
note_is_inner None h = omega arith
note_is_inner (Some text) h = line_feeds_once text h

place_is_inner : (at : Position) → IsPlace at → IsInner (place_text at)
place_is_inner at h =
    let line = h.0 in
    let column = h.1 in
    inner-append (decimal at.line ++ codes ":") (decimal at.column)
    (inner-append (decimal at.line) (codes ":") (decimal-is-inner at.line (omega arith)) refl) (decimal-is-inner at.column (omega arith))

first_is_inner : (first : Option Position) → IfSome first IsPlace → line_feeds (first_note first) ≤ 1
first_is_inner None h = omega arith
first_is_inner (Some at) h = line_feeds_once (first_text at) (inner-append (codes "first at ") (place_text at) refl (place_is_inner at h))

open_is_inner : (brace : Option Position) → IfSome brace IsPlace → line_feeds (note (option_map open_text brace)) ≤ 1
open_is_inner None h = omega arith
open_is_inner (Some at) h =
    line_feeds_once (open_text at)
    (inner-append (codes "the brace at " ++ place_text at) (codes " is open") (inner-append (codes "the brace at ") (place_text at) refl (place_is_inner at h)) refl)

brace_is_inner : (told : Explained) → IfSome told.brace IsPlace → line_feeds (brace_note told) ≤ 1
brace_is_inner told h = by (tells_brace told.fault.kind told.reason)
  where
    by : (t : Bool) → line_feeds (cond t (note (option_map open_text told.brace)) []) ≤ 1
    by true = open_is_inner told.brace h
    by false = omega arith

hint_found : (p : Row → Bool) (rows : List Row) → list_all (λ row. list_all is_inner row.hint) rows ≡ true
    → IfSome (option_map (λ row. row.hint) (find p rows)) IsInner
hint_found p [] h = tt
hint_found p (row ∷ rows) h =
    let parts = both (list_all is_inner row.hint) (list_all (λ row. list_all is_inner row.hint) rows) h in
    by parts.0 (hint_found p rows parts.1) (p row)
  where
    by : IsInner row.hint → IfSome (option_map (λ row. row.hint) (find p rows)) IsInner → (t : Bool)
        → IfSome (option_map (λ row. row.hint) (cond t (Some row) (find p rows))) IsInner
    by here there true = here
    by here there false = there

hints_are_inner : list_all (λ (row : Row). list_all is_inner row.hint) table ≡ true
hints_are_inner = refl

forms_are_inner : list_all (λ (row : Row). list_all is_inner row.hint) forms ≡ true
forms_are_inner = refl

rule_found : (q : Rule → Bool) (rules : List Rule) → list_all (λ rule. list_all is_inner rule.told) rules ≡ true
    → IfSome (option_map (λ rule. rule.told) (find q rules)) IsInner
rule_found q [] h = tt
rule_found q (rule ∷ rules) h =
    let parts = both (list_all is_inner rule.told) (list_all (λ (r : Rule). list_all is_inner r.told) rules) h in
    by parts.0 (rule_found q rules parts.1) (q rule)
  where
    by : IsInner rule.told → IfSome (option_map (λ (r : Rule). r.told) (find q rules)) IsInner → (t : Bool)
        → IfSome (option_map (λ (r : Rule). r.told) (cond t (Some rule) (find q rules))) IsInner
    by here there true = here
    by here there false = there

first_rules_are_inner : list_all (λ (rule : Rule). list_all is_inner rule.told) first_rules ≡ true
first_rules_are_inner = refl

other_rules_are_inner : list_all (λ (rule : Rule). list_all is_inner rule.told) other_rules ≡ true
other_rules_are_inner = refl

-- either of two texts
either_is_inner : (a b : Option (List ℕ)) → IfSome a IsInner → IfSome b IsInner → IfSome (option_or a b) IsInner
either_is_inner None b h k = k
either_is_inner (Some text) b h k = h

told_is_inner : (rules : List Rule) → list_all (λ (rule : Rule). list_all is_inner rule.told) rules ≡ true
    → (bytes : List ℕ) (fault : ScriptFault) (reason : Reason) → IfSome (told_for rules bytes fault reason) IsInner
told_is_inner rules h bytes fault R.Kind = tt
told_is_inner rules h bytes fault (R.Beyond limit) = tt
told_is_inner rules h bytes fault (R.Unmet unmet) = by (is_unfit fault.kind)
  where
    by : (t : Bool) → IfSome (cond t (told_in rules (met_of (place_at_fault bytes fault) unmet)) None) IsInner
    by true = rule_found (in_rules.fits (met_of (place_at_fault bytes fault) unmet)) rules h
    by false = tt

table_is_inner : (bytes : List ℕ) (fault : ScriptFault) → IfSome (table_hint bytes fault) IsInner
table_is_inner bytes fault = by (tells_hint fault.kind)
  where
    by : (t : Bool) → IfSome (cond t (hint_at bytes (offset_of bytes fault.line fault.column)) None) IsInner
    by true = hint_found (fits (place_at bytes (offset_of bytes fault.line fault.column))) table hints_are_inner
    by false = tt

form_is_inner : (bytes : List ℕ) (fault : ScriptFault) (reason : Reason) → IfSome (form_for bytes fault reason) IsInner
form_is_inner bytes fault R.Kind = tt
form_is_inner bytes fault (R.Beyond limit) = tt
form_is_inner bytes fault (R.Unmet unmet) = by (is_unfit fault.kind && has_form unmet.wanted)
  where
    by : (t : Bool) → IfSome (cond t (form_at bytes (offset_of bytes fault.line fault.column)) None) IsInner
    by true = hint_found (fits (place_at bytes (offset_of bytes fault.line fault.column))) forms forms_are_inner
    by false = tt

hint_is_inner : (bytes : List ℕ) (told : Explained) → IfSome (hint_of bytes told) IsInner
hint_is_inner bytes told =
    either_is_inner (told_by first_rules bytes told) (table_hint bytes told.fault)
    (told_is_inner first_rules first_rules_are_inner bytes told.fault told.reason) (table_is_inner bytes told.fault)

other_is_inner : (bytes : List ℕ) (told : Explained) → IfSome (other_of bytes told) IsInner
other_is_inner bytes told =
    either_is_inner (told_by other_rules bytes told) (form_of bytes told)
    (told_is_inner other_rules other_rules_are_inner bytes told.fault told.reason) (form_is_inner bytes told.fault told.reason)

mending_is_inner : (hint meant other : Option (List ℕ)) → IfSome hint IsInner → IfSome meant IsInner → IfSome other IsInner
    → line_feeds (mending_note hint meant other) ≤ 1
mending_is_inner (Some hint) meant other h k m = line_feeds_once hint h
mending_is_inner None None other h k m = note_is_inner other m
mending_is_inner None (Some word) other h k m =
    line_feeds_once (did_you_mean word) (inner-append (codes "did you mean `" ++ word) (codes "`?") (inner-append (codes "did you mean `") word refl k) refl)

-- bounds
limit_is_inner : (limit : Limit) → line_feeds (limit_note limit) ≤ 1
limit_is_inner limit =
    line_feeds_once (codes "at most " ++ decimal (most limit) ++ limit_words limit)
    (inner-append (codes "at most " ++ decimal (most limit)) (limit_words limit)
    (inner-append (codes "at most ") (decimal (most limit)) refl (decimal-is-inner (most limit) (small limit))) (words limit))
  where
    small : (limit : Limit) → most limit < 2 ^ 64
    small L.Classes = omega arith
    small L.Bodies = omega arith
    small L.Parentheses = omega arith
    small L.Operands = omega arith
    small L.KeyBytes = omega arith
    small L.ScriptBytes = omega arith

    words : (limit : Limit) → IsInner (limit_words limit)
    words L.Classes = refl
    words L.Bodies = refl
    words L.Parentheses = refl
    words L.Operands = refl
    words L.KeyBytes = refl
    words L.ScriptBytes = refl

two_numbers : (a b c : List ℕ) (m n : ℕ) → IsInner a → IsInner b → IsInner c → m < 2 ^ 64 → n < 2 ^ 64 → IsInner (a ++ decimal m ++ b ++ decimal n ++ c)
two_numbers a b c m n p q r x y =
    inner-append (a ++ decimal m ++ b ++ decimal n) c
    (inner-append (a ++ decimal m ++ b) (decimal n) (inner-append (a ++ decimal m) b (inner-append a (decimal m) p (decimal-is-inner m x)) q) (decimal-is-inner n y)) r

number_is_inner : line_feeds number_note ≤ 1
number_is_inner =
    let start = codes "at most " in
    let between = codes ", after the minus of a literal " in
    let most = decimal (2 ^ 63 - 1) in
    line_feeds_once (start ++ most ++ between ++ decimal (2 ^ 63))
    (inner-append (start ++ most ++ between) (decimal (2 ^ 63))
    (inner-append (start ++ most) between (inner-append start most refl (decimal-is-inner (2 ^ 63 - 1) (omega arith))) refl) (decimal-is-inner (2 ^ 63) (omega arith)))

token_is_inner : line_feeds token_note ≤ 1
token_is_inner =
    line_feeds_once (codes "at most " ++ decimal NAME_BYTES ++ codes " bytes stand in a name, and " ++ decimal TEXT_BYTES ++ codes " in a text")
    (two_numbers (codes "at most ") (codes " bytes stand in a name, and ") (codes " in a text") NAME_BYTES TEXT_BYTES refl refl refl (omega arith) (omega arith))

display_is_inner : line_feeds display_note ≤ 1
display_is_inner =
    let start = codes "a display text and a reason have 1 to " in
    let end = codes " bytes, and no space at either end" in
    line_feeds_once (start ++ decimal DISPLAY_BYTES ++ end)
    (inner-append (start ++ decimal DISPLAY_BYTES) end (inner-append start (decimal DISPLAY_BYTES) refl (decimal-is-inner DISPLAY_BYTES (omega arith))) refl)

kind_note_is_inner : (kind : ScriptFaultKind) → line_feeds (kind_note kind) ≤ 1
kind_note_is_inner K.BadByte = omega arith
kind_note_is_inner K.BadToken = omega arith
kind_note_is_inner K.NumberTooBig = number_is_inner
kind_note_is_inner K.OpenText = omega arith
kind_note_is_inner K.Expected = omega arith
kind_note_is_inner K.DoubleBlock = omega arith
kind_note_is_inner K.DoubleMember = omega arith
kind_note_is_inner K.NameTaken = omega arith
kind_note_is_inner K.EmptyClass = omega arith
kind_note_is_inner K.TooDeep = omega arith
kind_note_is_inner K.TooLong = token_is_inner
kind_note_is_inner K.BadDisplay = display_is_inner
kind_note_is_inner K.GlobalKey = omega arith
kind_note_is_inner K.EndOfInput = omega arith

bound_is_inner : (kind : ScriptFaultKind) (reason : Reason) → line_feeds (bound_note kind reason) ≤ 1
bound_is_inner kind R.Kind = kind_note_is_inner kind
bound_is_inner kind (R.Unmet unmet) = kind_note_is_inner kind
bound_is_inner kind (R.Beyond limit) = limit_is_inner limit

notes_are_few : (bytes : List ℕ) (told : Explained) (meant : Option (List ℕ)) → HasPlaces told → IfSome meant IsInner → line_feeds (notes bytes told meant) ≤ 4
notes_are_few bytes told meant h k =
    let mend = mending_note (hint_of bytes told) meant (other_of bytes told) in
    let a = feeds-append (mend ++ first_note told.first ++ brace_note told) (bound_note told.fault.kind told.reason) in
    let b = feeds-append (mend ++ first_note told.first) (brace_note told) in
    let c = feeds-append mend (first_note told.first) in
    let one = mending_is_inner (hint_of bytes told) meant (other_of bytes told) (hint_is_inner bytes told) k (other_is_inner bytes told) in
    let two = first_is_inner told.first h.first in
    let three = brace_is_inner told h.brace in
    let four = bound_is_inner told.fault.kind told.reason in
    sum (line_feeds mend) (line_feeds (first_note told.first)) (line_feeds (brace_note told)) (line_feeds (bound_note told.fault.kind told.reason))
    (line_feeds (mend ++ first_note told.first)) (line_feeds (mend ++ first_note told.first ++ brace_note told)) (line_feeds (notes bytes told meant))
    a b c one two three four
  where
    sum : (p q r s pq pqr all : ℕ) → all ≡ pqr + s → pqr ≡ pq + r → pq ≡ p + q → p ≤ 1 → q ≤ 1 → r ≤ 1 → s ≤ 1 → all ≤ 4
    sum p q r s pq pqr all a b c one two three four = omega arith

pub lines-are-few : (bytes : List ℕ) (told : Explained) (meant : Option (List ℕ)) → HasPlaces told → IfSome meant IsInner → line_feeds (explanation bytes told meant) ≤ 6
unfolding explanation
lines-are-few bytes told meant h k =
    let fault = told.fault in
    let small = h.line in
    let whole = feeds-append (picture_of bytes told) (notes bytes told meant) in
    let two = picture_feeds_twice fault.line (line_of bytes fault.line) fault.column told.width (label_of fault.kind told.reason) (omega arith) (label_of_is_inner fault.kind told.reason) in
    let four = notes_are_few bytes told meant h k in
    sum (line_feeds (picture_of bytes told)) (line_feeds (notes bytes told meant)) (line_feeds (picture_of bytes told ++ notes bytes told meant)) whole two four
  where
    sum : (p q all : ℕ) → all ≡ p + q → p ≡ 2 → q ≤ 4 → all ≤ 6
    sum p q all a b c = omega arith
