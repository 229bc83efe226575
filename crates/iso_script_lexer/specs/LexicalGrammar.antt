-- The lexical grammar: which bytes are which pieces.
--
-- lexical grammar: A relation between bytes and pieces (`HasPieces`, of a whole text
-- `ArePiecesOf`): gaps and comments left out, the longest token first. The functions that the code
-- computes (`Scan`, `Scanned`) are proved to agree with it, and no public clause cites them.
use Rattle.std.specs.Prelude.{ℕ, ◌+◌, ◌-◌, ◌*◌, ◌^◌, ◌≤◌, List, [], ◌∷◌, ◌++◌, ◌≡◌, ◌≢◌, Bool, true, false, length, fold}
use Rattle.std.specs.List.{AllByRecursion}
use Rattle.iso_model.specs.declared.limits.TheConstants.{NAME_BYTES}
use Rattle.iso_script_lexer.specs.Piece.{Piece, name_at, number_at, text_at, word_at, symbol_at, bad_at}
use Rattle.iso_script_lexer.specs.Positions.{Line, first_line, line_after, position}
use Rattle.iso_script_lexer.specs.TokenFaults.{fault_of}
use Rattle.iso_script_lexer.specs.Spelling.{marks, spelling, line_feed, quote, slash, is_blank, in_comment, is_letter, is_digit, in_name}
use Rattle.iso_script_lexer.specs.Text.{written, IsText}
use Rattle.iso_script_lexer.specs.declared.symbol.Symbol.{Symbol}
use Rattle.iso_script_lexer.specs.declared.token.Position.{Position}
use Rattle.iso_script_lexer.specs.declared.word.Word.{Word}

-- a line feed follows, or nothing
abbrev pub EndsLine : List ℕ → Type 0
EndsLine [] = Unit {0}
EndsLine (b ∷ bs) = b ≡ line_feed

-- no such byte is next
abbrev pub Ends : (ℕ → Bool) → List ℕ → Type 0
Ends test [] = Unit {0}
Ends test (b ∷ bs) = test b ≡ false

-- no letter, digit or underscore is next
abbrev pub EndsName : List ℕ → Type 0
EndsName bs = Ends in_name bs

-- a letter, and then letters, digits and underscores
abbrev pub IsIdentifier : List ℕ → Type 0
IsIdentifier [] = ⊥
IsIdentifier (b ∷ bs) = (is_letter b ≡ true) × AllByRecursion (λ c. in_name c ≡ true) bs

-- digits alone
abbrev pub AllDigits : List ℕ → Type 0
AllDigits bs = AllByRecursion (λ c. is_digit c ≡ true) bs

-- a name: an identifier of at most 64 bytes that is no reserved word
pub record IsName (n : List ℕ) : Type 0 where
  pub identifier : IsIdentifier n
  pub short : length n ≤ NAME_BYTES
  pub free : (w : Word) → spelling w ≢ n

-- one or more digits
abbrev pub IsNumeral : List ℕ → Type 0
IsNumeral bs = (bs ≢ []) × AllDigits bs

-- the number that decimal digits write, the most significant first
abbrev pub decimal_value : List ℕ → ℕ
decimal_value digits = fold (λ n d. 10 * n + (d - 48)) 0 digits

-- A gap leads from a line and its bytes to a line and its bytes.
pub data IsGap : (line : Line) → List ℕ → (last : Line) → List ℕ → Type 0 where
  no_gap : {r : Line} {bs : List ℕ} → IsGap r bs r bs
  -- a blank, and a gap after it
  a_blank : {r q : Line} {b : ℕ} {bs cs : List ℕ} → is_blank b ≡ true → IsGap r bs q cs
      → IsGap r (b ∷ bs) q cs
  -- a line feed, and a gap from the next line on
  a_line : {r q : Line} {b : ℕ} {bs cs : List ℕ} → b ≡ line_feed → IsGap (line_after r bs) bs q cs
      → IsGap r (b ∷ bs) q cs
  -- two slashes, a text up to the end of the line, and a gap from there on
  a_comment : {r q : Line} {a b : ℕ} {bs cs : List ℕ} (text rest : List ℕ) → a ≡ slash → b ≡ slash
      → bs ≡ text ++ rest
      → AllByRecursion (λ c. in_comment c ≡ true) text → EndsLine rest → IsGap r rest q cs
      → IsGap r (a ∷ b ∷ bs) q cs

-- The front of the bytes spells the token at this position, and this is what follows. A token is
-- the longest that fits.
pub data Spells : (position : Position) → List ℕ → Piece → List ℕ → Type 0 where
  -- a name, that does not go on
  spells_name : {r : Position} {bs rest n : List ℕ} → bs ≡ n ++ rest → IsName n → EndsName rest
      → Spells r bs (name_at r n) rest
  -- a reserved word, that does not go on as a name
  spells_word : {r : Position} {bs rest : List ℕ} {w : Word} → bs ≡ spelling w ++ rest
      → EndsName rest → Spells r bs (word_at r w) rest
  -- a number up to 2^63, that does not go on, and that no letter or underscore follows
  spells_number : {r : Position} {bs rest : List ℕ} (digits : List ℕ) → bs ≡ digits ++ rest
      → IsNumeral digits → EndsName rest
      → decimal_value digits ≤ 2 ^ 63 → Spells r bs (number_at r (decimal_value digits)) rest
  -- a text, written between two quotes
  spells_text : {r : Position} {bs rest t : List ℕ}
      → bs ≡ quote ∷ (written t ++ (quote ∷ rest)) → IsText t
      → Spells r bs (text_at r t) rest
  -- a symbol, where no symbol that is there is longer
  spells_symbol : {r : Position} {bs rest : List ℕ} {s : Symbol} → bs ≡ marks s ++ rest
      → ((t : Symbol) (more : List ℕ) → bs ≡ marks t ++ more → length (marks t) ≤ length (marks s))
      → Spells r bs (symbol_at r s) rest

-- bytes that are there, and begin neither a gap nor a token
pub record IsNoToken (line : Line) (bs : List ℕ) : Type 0 where
  pub some_byte : bs ≢ []
  pub no_gap_begins : (last : Line) (cs : List ℕ) → IsGap line bs last cs → cs ≡ bs
  pub no_token_begins : (p : Piece) (rest : List ℕ) → Spells (position line bs) bs p rest → ⊥

-- The bytes from a line on are these pieces, with gaps between them. What is no token is the last
-- piece, with its fault.
pub data HasPieces : (line : Line) → List ℕ → List Piece → Type 0 where
  -- a gap, up to the end
  ends : {r q : Line} {bs : List ℕ} → IsGap r bs q [] → HasPieces r bs []
  -- a gap, a token, and the pieces after it
  goes_on : {r q : Line} {bs cs ds : List ℕ} {p : Piece} {ps : List Piece}
      → IsGap r bs q cs → Spells (position q cs) cs p ds → HasPieces q ds ps
      → HasPieces r bs (p ∷ ps)
  -- a gap, and what is no token
  breaks_off : {r q : Line} {bs cs : List ℕ} → IsGap r bs q cs → IsNoToken q cs
      → HasPieces r bs (bad_at q.0 (fault_of cs) ∷ [])

-- a text has these pieces
abbrev pub ArePiecesOf : (text : List ℕ) → List Piece → Type 0
ArePiecesOf text ps = HasPieces (first_line text) text ps

-- bytes have one list of pieces at most
abbrev pub PiecesAreUnique : Type 0
PiecesAreUnique = (line : Line) (bs : List ℕ) (ps qs : List Piece) → HasPieces line bs ps
    → HasPieces line bs qs → ps ≡ qs
