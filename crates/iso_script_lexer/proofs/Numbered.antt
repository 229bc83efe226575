-- Symbols and reserved words of one number are one.
use Rattle.std.proofs.Common.{◌≡◌, List, [], ◌∷◌, true, get_or, refl, ap, sym, ◌∙◌}
use Rattle.iso_script_lexer.specs.Spelling.{symbol_number, word_number, same_symbol, same_word, all_words}
use Rattle.iso_script_lexer.specs.declared.symbol.Symbol.{Symbol}
use Rattle.iso_script_lexer.specs.declared.symbol.Symbol.TheVariants.{OpenBrace, CloseBrace, OpenParen, CloseParen, Semicolon, Comma, Equals, Plus, Minus, Star, PlusPlus, EqualsEquals, NotEquals, Less}
use Rattle.iso_script_lexer.specs.declared.word.Word.{Word}
use Rattle.iso_script_lexer.specs.declared.word.Word.TheVariants.{Team}
use Rattle.iso_script_lexer.proofs.Decisions.{equal}

all_symbols : List Symbol
all_symbols = OpenBrace ∷ CloseBrace ∷ OpenParen ∷ CloseParen ∷ Semicolon ∷ Comma ∷ Equals ∷ Plus ∷ Minus ∷ Star ∷ PlusPlus ∷ EqualsEquals ∷ NotEquals ∷ Less ∷ []

symbol_at_number : (s : Symbol) → get_or all_symbols (symbol_number s) OpenBrace ≡ s
unfolding all_symbols
symbol_at_number OpenBrace = refl
symbol_at_number _ = refl

word_at_number : (w : Word) → get_or all_words (word_number w) Team ≡ w
word_at_number Team = refl
word_at_number _ = refl

pub same_symbol-true : (s t : Symbol) → same_symbol s t ≡ true → s ≡ t
same_symbol-true s t h =
    sym (symbol_at_number s) ∙ ap (λ n. get_or all_symbols n OpenBrace) (equal (symbol_number s) (symbol_number t) h) ∙ symbol_at_number t

pub same_word-true : (w v : Word) → same_word w v ≡ true → w ≡ v
same_word-true w v h =
    sym (word_at_number w) ∙ ap (λ n. get_or all_words n Team) (equal (word_number w) (word_number v) h) ∙ word_at_number v

pub same_symbol-refl : (s : Symbol) → same_symbol s s ≡ true
same_symbol-refl OpenBrace = refl
same_symbol-refl _ = refl

pub same_word-refl : (w : Word) → same_word w w ≡ true
same_word-refl Team = refl
same_word-refl _ = refl
