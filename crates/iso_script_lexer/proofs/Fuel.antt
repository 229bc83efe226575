-- More fuel reads no more pieces.
use Rattle.std.proofs.Common.{◌≡◌, ◌≢◌, ℕ, zero, suc, ◌+◌, ◌<◌, ◌≤◌, List, [], ◌∷◌, length, take, drop, Bool, true, false, cond, Option, Some, None, refl, ap, ◌∙◌, sym, arith, nat_eq, ◌&&◌, length-drop, nat_le}
use Rattle.std.specs.List.{prefix_len}
use Rattle.iso_script_lexer.specs.Piece.{Piece}
use Rattle.iso_script_lexer.specs.Spelling.{is_letter, is_digit, in_name, is_blank, in_comment, begins, begins_in}
use Rattle.iso_script_lexer.specs.LexicalGrammar.{decimal_value}
use Rattle.iso_script_lexer.specs.Scan.{gap_from, Front, after_gap, double_symbol, single_symbol, longest_symbol, symbol_front, symbol_piece, name_piece, number_piece, text_piece, quoted_length, front_of, front_on, then_pieces, pieces, pieces_of}
use Rattle.iso_script_lexer.specs.Positions.{Line, line_after, position}
use Rattle.iso_script_lexer.specs.Piece.{tail}
use Rattle.iso_script_lexer.specs.Tokens.{front}
use Rattle.iso_script_lexer.specs.Scanned.{shown}
use Rattle.iso_script_lexer.specs.declared.symbol.Symbol as S
use Rattle.iso_script_lexer.specs.declared.token.Token.{Token}
use Rattle.iso_script_lexer.specs.declared.token.Token.TheVariants.{Name, Number, Text, Word, Symbol, End, Bad}
use Rattle.iso_script_lexer.specs.declared.token.Position.{Position}

pub either : {A : Type 0} (P : A → Type 0) (b : Bool) (x y : A) → P x → P y → P (cond b x y)
either P true x y p q = p
either P false x y p q = q

pub after_gap_shorter : (m : Bool) (row : Line) (bs : List ℕ) → length (after_gap m row bs).1 ≤ length bs
unfolding gap_from
after_gap_shorter m row [] = omega arith
after_gap_shorter false row (b ∷ bs) =
    let P : Line × List ℕ → Type 0 = λ x. length x.1 ≤ suc (length bs) in
    let here : length (b ∷ bs) ≤ suc (length bs) = omega arith in
    let h : (m : Bool) (r : Line) → P (after_gap m r bs) = λ m r. omega (arith, after_gap_shorter m r bs) in
    either P (nat_eq b 10) _ _ (h false (line_after row bs)) (either P (is_blank b) _ _ (h false row) (either P (nat_eq b 47 && begins 47 bs) _ _ (h true row) here))
after_gap_shorter true row (b ∷ bs) =
    let P : Line × List ℕ → Type 0 = λ x. length x.1 ≤ suc (length bs) in
    let here : length (b ∷ bs) ≤ suc (length bs) = omega arith in
    let h : (m : Bool) (r : Line) → P (after_gap m r bs) = λ m r. omega (arith, after_gap_shorter m r bs) in
    either P (nat_eq b 10) _ _ (h false (line_after row bs)) (either P (in_comment b) _ _ (h true row) here)

-- what follows a piece is shorter than so many bytes
abbrev pub Shorter : ℕ → Front → Type 0
Shorter n None = Unit {0}
Shorter n (Some f) = length f.1 < n

pub letter-in_name : (b : ℕ) → is_letter b ≡ true → in_name b ≡ true
letter-in_name b h = rw h refl

prefix-drop : (p : ℕ → Bool) (b : ℕ) (bs : List ℕ) → p b ≡ true → length (drop (prefix_len p (b ∷ bs)) (b ∷ bs)) < suc (length bs)
prefix-drop p b bs h =
    let n : prefix_len p (b ∷ bs) ≡ 1 + prefix_len p bs = ap (λ t. cond t (1 + prefix_len p bs) 0) h in
    omega (arith, length-drop (prefix_len p (b ∷ bs)) (b ∷ bs), n)

name_shorter : (row : Position) (b : ℕ) (bs : List ℕ) → is_letter b ≡ true → Shorter (suc (length bs)) (name_piece row (prefix_len in_name (b ∷ bs)) (b ∷ bs))
name_shorter row b bs h =
    either (Shorter (suc (length bs))) (nat_le (prefix_len in_name (b ∷ bs)) 64) _ _ (prefix-drop in_name b bs (letter-in_name b h)) (omega arith)

number_shorter : (row : Position) (b : ℕ) (bs : List ℕ) → is_digit b ≡ true → Shorter (suc (length bs)) (number_piece row (prefix_len is_digit (b ∷ bs)) (b ∷ bs))
number_shorter row b bs h =
    let n = prefix_len is_digit (b ∷ bs) in
    either (Shorter (suc (length bs))) (begins_in in_name (drop n (b ∷ bs))) _ _ (omega arith)
    (either (Shorter (suc (length bs))) (nat_le (decimal_value (take n (b ∷ bs))) 9223372036854775808) _ _ (prefix-drop is_digit b bs h) (omega arith))

text_shorter : (row : Position) (o : Option ℕ) (bs : List ℕ) → Shorter (suc (length bs)) (text_piece row o bs)
text_shorter row None bs = omega arith
text_shorter row (Some n) bs = omega (arith, length-drop (n + 1) bs)

symbol_shorter : (row : Position) (b : ℕ) (d s : Option S.Symbol) (bs : List ℕ) → Shorter (suc (length bs)) (symbol_piece row b (longest_symbol d s bs))
symbol_shorter row b (Some d) s bs = omega (arith, length-drop 1 bs)
symbol_shorter row b None (Some s) bs = omega arith
symbol_shorter row b None None bs = omega arith

pub front_shorter : (row : Position) (bs : List ℕ) → Shorter (length bs) (front_of row bs)
unfolding front_of symbol_front
front_shorter row [] = tt
front_shorter row (b ∷ bs) =
    letter (is_letter b) refl
  where
    other : Shorter (suc (length bs)) (cond (nat_eq b 34) (text_piece row (quoted_length false 4096 bs) bs) (symbol_piece row b (symbol_front (b ∷ bs))))
    other = either (Shorter (suc (length bs))) (nat_eq b 34) _ _ (text_shorter row (quoted_length false 4096 bs) bs) (symbol_shorter row b (double_symbol b bs) (single_symbol b) bs)

    digit : (t : Bool) → is_digit b ≡ t → Shorter (suc (length bs))
        (cond t (number_piece row (prefix_len is_digit (b ∷ bs)) (b ∷ bs)) (cond (nat_eq b 34) (text_piece row (quoted_length false 4096 bs) bs) (symbol_piece row b (symbol_front (b ∷ bs)))))
    digit true e = number_shorter row b bs e
    digit false e = other

    letter : (t : Bool) → is_letter b ≡ t
        → Shorter (suc (length bs)) (cond t (name_piece row (prefix_len in_name (b ∷ bs)) (b ∷ bs))
        (cond (is_digit b) (number_piece row (prefix_len is_digit (b ∷ bs)) (b ∷ bs))
        (cond (nat_eq b 34) (text_piece row (quoted_length false 4096 bs) bs) (symbol_piece row b (symbol_front (b ∷ bs))))))
    letter true e = name_shorter row b bs e
    letter false e = digit (is_digit b) refl

pub enough : (n m : ℕ) (row : Line) (bs : List ℕ) → length bs < n → length bs < m → pieces n (row, bs) ≡ pieces m (row, bs)
unfolding pieces
enough zero m row bs h k = absurd (omega arith)
enough (suc n) zero row bs h k = absurd (omega arith)
enough (suc n) (suc m) row bs h k = go (enough n m) (front_on row bs) (front_shorter (position row bs) bs)
  where
    go : ((row : Line) (cs : List ℕ) → length cs < n → length cs < m → pieces n (row, cs) ≡ pieces m (row, cs)) → (f : Front)
        → Shorter (length bs) f → then_pieces f (λ rest. pieces n (after_gap false row rest)) ≡ then_pieces f (λ rest. pieces m (after_gap false row rest))
    go more None s = refl
    go more (Some f) s = let j = after_gap_shorter false row f.1 in ap (λ ps. f.0 ∷ ps) (more (after_gap false row f.1).0 (after_gap false row f.1).1 (omega arith) (omega arith))

-- the pieces after a gap and one step
pub pieces_of-step : (row line : Line) (bs cs : List ℕ) → (line, cs) ≡ after_gap false row bs → pieces_of row bs ≡ then_pieces (front_on line cs) (pieces_of line)
unfolding pieces pieces_of
pieces_of-step row line bs cs skipped =
    ap (pieces (suc (length bs))) (sym skipped) ∙ go (front_on line cs) (front_shorter (position line cs) cs)
  where
    shorter : length cs ≤ length bs
    shorter = let h : length cs ≡ length (after_gap false row bs).1 = ap (λ (x : Line × List ℕ). length x.1) skipped in omega (arith, after_gap_shorter false row bs, h)

    more : (rest : List ℕ) → length rest < length cs → pieces (length bs) (after_gap false line rest) ≡ pieces (suc (length rest)) (after_gap false line rest)
    more rest h = let j = after_gap_shorter false line rest in enough (length bs) (suc (length rest)) (after_gap false line rest).0 (after_gap false line rest).1 (omega (arith, shorter)) (omega arith)

    go : (f : Front) → Shorter (length cs) f → then_pieces f (λ rest. pieces (length bs) (after_gap false line rest)) ≡ then_pieces f (pieces_of line)
    go None s = refl
    go (Some f) s = ap (λ ps. f.0 ∷ ps) (more f.1 s)

-- a token that is shown, and the pieces after it
pub then_pieces-shown : (row : Position) (line : Line) (t : Token) (rest : List ℕ) → then_pieces (shown row t rest) (pieces_of line) ≡ front row t (pieces_of line rest)
then_pieces-shown row line (Name n) rest = refl
then_pieces-shown row line (Number n) rest = refl
then_pieces-shown row line (Text t) rest = refl
then_pieces-shown row line (Word w) rest = refl
then_pieces-shown row line (Symbol s) rest = refl
then_pieces-shown row line End rest = refl
then_pieces-shown row line (Bad fault) rest = refl

pub tail-front : (row : Position) (t : Token) (ps : List Piece) → front row t ps ≢ [] → tail (front row t ps) ≡ ps
tail-front row End ps h = absurd (h refl)
tail-front row _ ps h = refl
