-- Names and reserved words: `front_of` reads what is spelled.
use Rattle.std.proofs.Common.{◌≡◌, ◌≢◌, ℕ, ◌≤◌, List, [], ◌∷◌, ◌++◌, length, take, drop, true, nat_le, Option, Some, None, refl, ap, sym, ◌∙◌, one-add, arith}
use Rattle.std.proofs.lemmas.Bool.Decides.{nat_tests}
use Rattle.std.proofs.lemmas.List.{take-append-drop, length-take}
use Rattle.std.proofs.Math.Seq.{take-append_seam, drop-append_seam}
use Rattle.std.specs.List.{prefix_len, AllByRecursion}
use Rattle.iso_script_lexer.specs.Spelling.{is_letter, in_name, spelling, word_of, begins_in}
use Rattle.iso_script_lexer.specs.LexicalGrammar.{EndsName, IsIdentifier, Spells, spells_name, spells_word}
use Rattle.iso_script_lexer.specs.Scan.{name_or_word, name_piece, front_of}
use Rattle.iso_script_lexer.specs.declared.word.Word.{Word}
use Rattle.iso_script_lexer.proofs.Decisions.{by_test}
use Rattle.iso_script_lexer.proofs.Fuel.{letter-in_name}
use Rattle.iso_script_lexer.proofs.Prefixes.{All-take-prefix_len, Ends-drop-prefix_len, prefix_len-append}
use Rattle.iso_script_lexer.proofs.Words.{spelling-word_of, not_reserved}
use Rattle.iso_script_lexer.proofs.Fronts.{Fronts, a_token, no_front, front_of-letter}
use Rattle.iso_script_lexer.specs.declared.token.Position.{Position}

abbrev AllInName : List ℕ → Type 0
AllInName n = AllByRecursion (λ c. in_name c ≡ true) n

pub identifier-AllInName : (n : List ℕ) → IsIdentifier n → AllInName n
identifier-AllInName [] h = absurd h
identifier-AllInName (b ∷ n) h = (letter-in_name b h.0, h.1)

-- a name or word that is short enough is read
pub front_of-identifier : (r : Position) (n rest : List ℕ) → IsIdentifier n → EndsName rest → nat_le (length n) 64 ≡ true → front_of r (n ++ rest) ≡ Some (name_or_word r n (word_of n), rest)
front_of-identifier r [] rest h end short = absurd h
front_of-identifier r (b ∷ n) rest h end short =
    front_of-letter r b (n ++ rest) h.0
    ∙ ap (λ k. name_piece r k ((b ∷ n) ++ rest)) (prefix_len-append in_name (b ∷ n) rest (identifier-AllInName (b ∷ n) h) end)
    ∙ rw (short, take-append_seam (b ∷ n) rest, drop-append_seam (b ∷ n) rest) refl

pub word_of-none : (n : List ℕ) → ((w : Word) → spelling w ≢ n) → word_of n ≡ None
word_of-none n h = go (word_of n) refl
  where
    go : (o : Option Word) → word_of n ≡ o → o ≡ None
    go None e = refl
    go (Some w) e = absurd (h w (spelling-word_of n w e))

-- what is read as a name or word is spelled so
take-identifier : (b : ℕ) (bs : List ℕ) → is_letter b ≡ true → IsIdentifier (take (prefix_len in_name (b ∷ bs)) (b ∷ bs))
take-identifier b bs h = rw (letter-in_name b h, one-add) (h, All-take-prefix_len in_name bs)

name_spelled : (r : Position) (b : ℕ) (bs : List ℕ) (o : Option Word) → is_letter b ≡ true →
    length (take (prefix_len in_name (b ∷ bs)) (b ∷ bs)) ≤ 64 → word_of (take (prefix_len in_name (b ∷ bs)) (b ∷ bs)) ≡ o →
    Spells r (b ∷ bs) (name_or_word r (take (prefix_len in_name (b ∷ bs)) (b ∷ bs)) o) (drop (prefix_len in_name (b ∷ bs)) (b ∷ bs))
name_spelled r b bs None h short is =
    let k = prefix_len in_name (b ∷ bs) in
    spells_name (sym (take-append-drop k (b ∷ bs))) record { identifier = take-identifier b bs h; short = short; free = not_reserved _ is } (Ends-drop-prefix_len in_name (b ∷ bs))
name_spelled r b bs (Some w) h short is =
    let k = prefix_len in_name (b ∷ bs) in
    spells_word (sym (take-append-drop k (b ∷ bs)) ∙ ap (λ n. n ++ drop k (b ∷ bs)) (sym (spelling-word_of _ w is))) (Ends-drop-prefix_len in_name (b ∷ bs))

pub name_front : (r : Position) (b : ℕ) (bs : List ℕ) → is_letter b ≡ true → Fronts r (b ∷ bs) (name_piece r (prefix_len in_name (b ∷ bs)) (b ∷ bs))
name_front r b bs h =
    let k = prefix_len in_name (b ∷ bs) in
    by_test (Fronts r (b ∷ bs)) (nat_le k 64) _ _
    (λ e. let short : k ≤ 64 = grind (arith, nat_tests) in
    a_token (name_spelled r b bs (word_of (take k (b ∷ bs))) h (omega (arith, length-take k (b ∷ bs), short)) refl))
    (λ e. no_front (rw h refl))

pub begins-identifier : (bs : List ℕ) → begins_in is_letter bs ≡ true → IsIdentifier (take (prefix_len in_name bs) bs)
begins-identifier [] h = cc
begins-identifier (b ∷ bs) h = take-identifier b bs h
