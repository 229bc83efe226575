-- The lexer's view of bytes: the pieces that are read from them, by functions.
use Rattle.std.specs.Prelude.{codes, ◌||◌, ℕ, zero, suc, ◌+◌, ◌-◌, List, [], ◌∷◌, Bool, true, false, nat_eq, nat_le, ◌&&◌, Option, Some, None, if◌then◌else◌, length, take, drop, option_map}
use Rattle.std.specs.List.{list_any, prefix_len}
use Rattle.iso_script_lexer.specs.Positions.{Line, position}
use Rattle.iso_script_lexer.specs.Piece.{Piece, name_at, number_at, text_at, word_at, symbol_at, bad_at}
use Rattle.iso_script_lexer.specs.Spelling.{begins, begins_in, is_blank, is_printable, in_comment, is_letter, is_digit, in_name, is_escaped, word_of}
use Rattle.iso_script_lexer.specs.LexicalGrammar.{decimal_value}
use Rattle.iso_script_lexer.specs.TokenFaults.{text_fault}
use Rattle.iso_script_lexer.specs.Text.{decoded}
use Rattle.iso_script_lexer.specs.declared.token.Position.{Position}
use Rattle.iso_script_lexer.specs.declared.token.TokenFault.{TokenFault}
use Rattle.iso_script_lexer.specs.declared.token.TokenFault.TheVariants as F
use Rattle.iso_script_lexer.specs.declared.word.Word as W
use Rattle.iso_script_lexer.specs.declared.symbol.Symbol as S
use Rattle.iso_script_lexer.specs.declared.symbol.Symbol.TheVariants.{OpenBrace, CloseBrace, OpenParen, CloseParen, Semicolon, Comma, Equals, Plus, Minus, Star, PlusPlus, EqualsEquals, NotEquals, Less}

-- The line and the bytes after a gap; in a comment, those after its end. A checker that computes it
-- takes only the branch that is chosen, since each is bound by a `let`.
unfoldable pub gap_from : (comment : Bool) → (number : ℕ) → (line : List ℕ) → List ℕ → Line × List ℕ
gap_from comment number line [] = ((number, line), [])
gap_from false number line (b ∷ bs) =
    let comment = gap_from true number line bs in
    let slash = if nat_eq b 47 && begins 47 bs then comment else ((number, line), b ∷ bs) in
    let blank = gap_from false number line bs in
    let same_line = if is_blank b then blank else slash in
    let next_line = gap_from false (number + 1) bs bs in
    if nat_eq b 10 then next_line else same_line
gap_from true number line (b ∷ bs) =
    let comment = gap_from true number line bs in
    let same_line = if in_comment b then comment else ((number, line), b ∷ bs) in
    let next_line = gap_from false (number + 1) bs bs in
    if nat_eq b 10 then next_line else same_line

abbrev pub after_gap : (comment : Bool) → Line → List ℕ → Line × List ℕ
after_gap comment line bs = gap_from comment line.0 line.1 bs

-- what a byte begins: `a` stands for each letter, `0` for each digit, a slash for what stands in
-- gaps or begins a comment, and a point for what begins nothing; a quote and what symbols begin
-- with stand for themselves
unfoldable pub begun_by : ℕ → ℕ
begun_by b =
    if is_letter b then 97
    else if is_digit b then 48
    else if is_blank b || (nat_eq b 10 || nat_eq b 47) then 47
    else if list_any (nat_eq b) (codes "!\"()*+,-;<={}") then b
    else 46

abbrev pub one_more : Option ℕ → Option ℕ
one_more n = option_map (λ k. k + 1) n

-- one byte more of a text in which `room` more fit
abbrev pub counted : ℕ → (ℕ → Option ℕ) → Option ℕ
counted room next = if nat_eq room 0 then None else one_more (next (room - 1))

-- how many bytes stand before the closing quote of a text, in which `room` decoded bytes fit
unfoldable pub quoted_length : (escaped : Bool) → (room : ℕ) → List ℕ → Option ℕ
quoted_length escaped room [] = None
quoted_length false room (b ∷ bs) =
    if nat_eq b 34 then Some 0
    else if nat_eq b 92 then one_more (quoted_length true room bs)
    else if is_printable b then counted room (λ r. quoted_length false r bs)
    else None
quoted_length true room (b ∷ bs) =
    if is_escaped b then counted room (λ r. quoted_length false r bs) else None

-- the symbol of one byte
abbrev pub single_symbol : ℕ → Option S.Symbol
single_symbol b =
    if nat_eq b 123 then Some OpenBrace
    else if nat_eq b 125 then Some CloseBrace
    else if nat_eq b 40 then Some OpenParen
    else if nat_eq b 41 then Some CloseParen
    else if nat_eq b 59 then Some Semicolon
    else if nat_eq b 44 then Some Comma
    else if nat_eq b 61 then Some Equals
    else if nat_eq b 43 then Some Plus
    else if nat_eq b 45 then Some Minus
    else if nat_eq b 42 then Some Star
    else if nat_eq b 60 then Some Less
    else None

-- the symbol of two bytes
abbrev pub double_symbol : ℕ → List ℕ → Option S.Symbol
double_symbol b bs =
    if nat_eq b 43 && begins 43 bs then Some PlusPlus
    else if nat_eq b 61 && begins 61 bs then Some EqualsEquals
    else if nat_eq b 33 && begins 61 bs then Some NotEquals
    else None

-- the symbol at the front and what follows it: two bytes before one
abbrev pub longest_symbol : Option S.Symbol → Option S.Symbol → List ℕ → Option (S.Symbol × List ℕ)
longest_symbol (Some s) one bs = Some (s, drop 1 bs)
longest_symbol None (Some s) bs = Some (s, bs)
longest_symbol None None bs = None

unfoldable pub symbol_front : List ℕ → Option (S.Symbol × List ℕ)
symbol_front [] = None
symbol_front (b ∷ bs) = longest_symbol (double_symbol b bs) (single_symbol b) bs

-- what is read at the front of bytes: a piece and what follows it; what is no token is followed by
-- nothing
abbrev pub Front : Type 0
Front = Option (Piece × List ℕ)

abbrev pub no_token : Position → TokenFault → Front
no_token at fault = Some (bad_at at.line fault, [])

-- a symbol, or what a byte is that begins none
abbrev pub symbol_piece : Position → ℕ → Option (S.Symbol × List ℕ) → Front
symbol_piece at b (Some f) = Some (symbol_at at f.0, f.1)
symbol_piece at b None = no_token at (if is_printable b then F.BadToken else F.BadByte)

abbrev pub name_or_word : Position → List ℕ → Option W.Word → Piece
name_or_word at n (Some w) = word_at at w
name_or_word at n None = name_at at n

abbrev pub name_piece : Position → ℕ → List ℕ → Front
name_piece at n bs =
    if nat_le n 64 then Some (name_or_word at (take n bs) (word_of (take n bs)), drop n bs) else
    no_token at F.TooLong

abbrev pub number_piece : Position → ℕ → List ℕ → Front
number_piece at n bs =
    if begins_in in_name (drop n bs) then no_token at F.BadToken
    else if nat_le (decimal_value (take n bs)) 9223372036854775808 then Some
    (number_at at (decimal_value (take n bs)), drop n bs)
    else no_token at F.NumberTooBig

abbrev pub text_piece : Position → Option ℕ → List ℕ → Front
text_piece at (Some n) bs = Some (text_at at (decoded false (take n bs)), drop (n + 1) bs)
text_piece at None bs = no_token at (text_fault false 4096 bs)

-- the piece at the front and what follows it; none at the end
unfoldable pub front_of : Position → List ℕ → Front
front_of at [] = None
front_of at (b ∷ bs) =
    if is_letter b then name_piece at (prefix_len in_name (b ∷ bs)) (b ∷ bs)
    else if is_digit b then number_piece at (prefix_len is_digit (b ∷ bs)) (b ∷ bs)
    else if nat_eq b 34 then text_piece at (quoted_length false 4096 bs) bs
    else symbol_piece at b (symbol_front (b ∷ bs))

abbrev pub then_pieces : Front → (List ℕ → List Piece) → List Piece
then_pieces None more = []
then_pieces (Some f) more = f.0 ∷ more f.1

-- the piece at the front of what is left of a line
abbrev pub front_on : Line → List ℕ → Front
front_on line bs = front_of (position line bs) bs

-- the pieces from a line on, at most n
unfoldable pub pieces : ℕ → Line × List ℕ → List Piece
pieces zero at = []
pieces (suc n) at = then_pieces (front_on at.0 at.1) (λ rest. pieces n (after_gap false at.0 rest))

-- the pieces of bytes that begin on a line
unfoldable pub pieces_of : Line → List ℕ → List Piece
pieces_of line bs = pieces (suc (length bs)) (after_gap false line bs)
