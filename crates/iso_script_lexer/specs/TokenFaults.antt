-- Which fault bytes have that begin neither a gap nor a token.
--
-- fault of bytes that are no token: A name or text that is too long, a number that is too big or
-- that a letter follows, a text that its line leaves open, a wrong escape, any other printable
-- byte, a byte that isn't allowed (`fault_of`).
use Rattle.std.specs.Prelude.{ℕ, ◌-◌, List, [], ◌∷◌, Bool, true, false, nat_eq, ◌&&◌, if◌then◌else◌, drop}
use Rattle.std.specs.List.{prefix_len}
use Rattle.iso_model.specs.declared.limits.TheConstants.{TEXT_BYTES}
use Rattle.iso_script_lexer.specs.Spelling.{line_feed, quote, slash, backslash, begins, begins_in, is_printable, is_escaped, is_letter, is_digit, in_name}
use Rattle.iso_script_lexer.specs.declared.token.TokenFault.{TokenFault}
use Rattle.iso_script_lexer.specs.declared.token.TokenFault.TheVariants.{BadByte, BadToken, NumberTooBig, OpenText, TooLong}

-- a byte of a text is one too many, or the fault is that of what follows it
abbrev pub unless_full : (room : ℕ) → (ℕ → TokenFault) → TokenFault
unless_full room rest = if nat_eq room 0 then TooLong else rest (room - 1)

-- The fault of a text after its opening quote, in which `room` decoded bytes fit: that of the
-- first byte that may not stand there. A text is open where its line ends before its closing quote.
unfoldable pub text_fault : (escaped : Bool) → (room : ℕ) → List ℕ → TokenFault
text_fault escaped room [] = OpenText
text_fault false room (b ∷ bs) =
    if nat_eq b line_feed then OpenText
    else if nat_eq b backslash then text_fault true room bs
    else if is_printable b then unless_full room (λ r. text_fault false r bs)
    else BadByte
text_fault true room (b ∷ bs) =
    if nat_eq b line_feed then OpenText
    else if is_escaped b then unless_full room (λ r. text_fault false r bs)
    else BadToken

-- the fault of digits that are no number: a letter or an underscore follows them, or their value is
-- too great
abbrev pub number_fault : List ℕ → TokenFault
number_fault bs =
    if begins_in in_name (drop (prefix_len is_digit bs) bs) then BadToken else NumberTooBig

-- the fault of bytes that begin no token, by the first of them: what begins as a name is too long
abbrev pub token_fault : List ℕ → TokenFault
token_fault [] = BadByte
token_fault (b ∷ bs) =
    if is_letter b then TooLong
    else if is_digit b then number_fault (b ∷ bs)
    else if nat_eq b quote then text_fault false TEXT_BYTES bs
    else if is_printable b then BadToken
    else BadByte

-- whether a comment is next
abbrev pub begins_comment : List ℕ → Bool
begins_comment [] = false
begins_comment (b ∷ bs) = nat_eq b slash && begins slash bs

-- the fault of bytes that begin neither a gap nor a token: in a comment a byte stands that isn't
-- allowed
abbrev pub fault_of : List ℕ → TokenFault
fault_of bs = if begins_comment bs then BadByte else token_fault bs
