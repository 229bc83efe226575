-- How the derivations of example scripts are built: what is not written, and what stands often, by the rules of the grammar.
use Rattle.std.proofs.Common.{◌≡◌, ◌≢◌, ℕ, List, [], ◌∷◌, length, Some, None, true, false, refl, arith, nat_le, subst, suc, ◌-◌, ◌^◌, pos, ◌++◌, nat_lt}
use Rattle.std.proofs.lemmas.Bool.Decides.{nat_tests}
use Rattle.std.specs.List.{IsDistinct, filter_map}
use Rattle.std.specs.Option.{option_to_list}
use Rattle.iso_model.specs.Scripts.{Class, class, Member, class_member, test_member, Members, no_members, member}
use Rattle.iso_model.specs.Syntax.{Acts, no_acts, act, plain, fail}
use Rattle.iso_model.specs.declared.data.Data.TheVariants.{Whole}
use Rattle.iso_model.specs.declared.heads.Variable.{Variable}
use Rattle.iso_model.specs.declared.limits.TheConstants.{FILE_BYTES}
use Rattle.iso_model.specs.declared.place.Lifecycle.{Lifecycle}
use Rattle.iso_model.specs.declared.place.Lifecycle.TheVariants.{BeforeAll, AfterAll, BeforeEach, AfterEach}
use Rattle.iso_script_lexer.specs.Piece.{Piece, name_at, number_at, text_at, word_at, symbol_at}
use Rattle.iso_script_lexer.specs.LexicalGrammar.{ArePiecesOf}
use Rattle.iso_script_lexer.specs.Scan.{pieces_of}
use Rattle.iso_script_lexer.specs.Positions.{first_line}
use Rattle.iso_script_lexer.proofs.Pieces.{pieces_of-HasPieces}
use Rattle.iso_script_lexer.specs.declared.symbol.Symbol.TheVariants.{OpenBrace, CloseBrace, Semicolon, Equals}
use Rattle.iso_script_lexer.specs.declared.word.Word.{Word}
use Rattle.iso_script_lexer.specs.declared.word.Word.TheVariants as W
use Rattle.iso_script_statements.specs.Expressions.{a_number}
use Rattle.iso_script_statements.specs.Statements as S
use Rattle.iso_script_statements.specs.Statements.{a_fail, a_simple, closed, a_body, IsBlock, a_block}
use Rattle.iso_script.specs.Blocks.{block_next, Block, Written, block_in, Blocks, IsBlocks}
use Rattle.iso_script.specs.Displays.{none_displayed}
use Rattle.iso_script.specs.Grammar as G
use Rattle.iso_script.specs.Grammar.{test, a_test, title, IsMember, as_test, as_class, a_class, HasMembers, has_members, IsTopClass, a_script, ReadsPlaced, Reads}
use Rattle.iso_script.specs.Marks.{mark_next, Marks, IsMarks}
use Rattle.iso_script.specs.Places.{test_place, class_place}
use Rattle.iso_script.specs.Readings.{ArePlaced}
use Rattle.iso_script.specs.declared.place.NodePlace.{NodePlace}
use Rattle.iso_script.specs.Variables as V
use Rattle.iso_script.specs.Variables.{variable_word, variable_next, a_variable, Variables, static_in, field_in, IsVariables}
use Rattle.iso_script.specs.declared.variable.VariableWord.{VariableWord}
use Rattle.iso_script_lexer.specs.declared.token.Position.{Position}

-- bytes whose pieces are those of a script whose nodes have these places, whatever they are
pub are_placed : {bytes n : List ℕ} {cs : List Class} {r q : Position} {ps : List Piece} (places : List NodePlace) → nat_le (length bytes) FILE_BYTES ≡ true
    → pieces_of (first_line bytes) bytes ≡ word_at r W.Team ∷ name_at q n ∷ ps → ArePlaced IsTopClass cs places ps [] → ReadsPlaced bytes (record { team = n; classes = cs }) places
are_placed {bytes = bytes} {n = n} {cs = cs} {r = r} {q = q} {ps = ps} places few is read =
    record {
      short = grind (arith, nat_tests, few);
      pieces = word_at r W.Team ∷ name_at q n ∷ ps;
      spelled = subst (ArePiecesOf bytes) is (pieces_of-HasPieces _ bytes);
      read = a_script read;
    }

pub are_read : {bytes n : List ℕ} {cs : List Class} {r q : Position} {ps : List Piece} (places : List NodePlace) → nat_le (length bytes) FILE_BYTES ≡ true
    → pieces_of (first_line bytes) bytes ≡ word_at r W.Team ∷ name_at q n ∷ ps → ArePlaced IsTopClass cs places ps [] → Reads bytes (record { team = n; classes = cs })
are_read places few is read = record { places = places; placed = are_placed places few is read }

-- one class, and two
pub only_class : {c : Class} {own : List NodePlace} {ps : List Piece} → IsTopClass c own ps [] → ArePlaced IsTopClass (c ∷ []) (own ++ []) ps []
only_class {own = own} h = (own, [], [], refl, h, (refl, refl))

pub two_classes : {c b : Class} {own more : List NodePlace} {ps qs : List Piece} → IsTopClass c own ps qs → IsTopClass b more qs [] → ArePlaced IsTopClass (c ∷ b ∷ []) (own ++ (more ++ [])) ps []
two_classes {own = own} {more = more} {qs = qs} h k = (own, more ++ [], qs, refl, h, only_class k)

-- no mark, no static or field, no lifecycle block
abbrev pub unmarked : Marks
unmarked = record { mode = None; isolated = false; disabled = None; keys = [] }

pub no_marks : {ps : List Piece} → mark_next ps ≡ None → IsMarks unmarked ps ps
no_marks end = record { written = []; read = refl; ends = end; come = record { mode = refl; isolated = refl; disabled = refl; keys = refl } }

abbrev pub none_declared : Variables
none_declared = record { statics = []; fields = [] }

pub no_variables : {taken : List (List ℕ)} {ps : List Piece} → variable_next ps ≡ None → IsVariables taken none_declared ps ps
unfolding IsDistinct
no_variables end = record { written = []; read = refl; ends = end; distinct = tt; free = tt; statics = refl; fields = refl }

abbrev pub none_written : Blocks
none_written k = None

pub no_blocks : {ps : List Piece} → block_next ps ≡ None → IsBlocks none_written ps ps
no_blocks end = record { written = []; read = refl; ends = end; each = λ k. refl }

pub some_member : {m : Member} {ms : Members} → member m ms ≢ no_members
some_member e = cc

-- a test in which nothing else is written, and an empty one
pub a_plain_test : {d : ℕ} {r q b : Position} {taken : List (List ℕ)} {n : List ℕ} {body : Acts} {ps rs : List Piece} → IsBlock body (symbol_at b OpenBrace ∷ ps) rs
    → IsMember d taken (test_member (test unmarked n None body)) (test_place q b.line ∷ []) (word_at r W.Test ∷ name_at q n ∷ symbol_at b OpenBrace ∷ ps) rs
a_plain_test block = as_test (no_marks refl) refl (a_test (none_displayed refl) block)

pub an_empty_test : {d : ℕ} {r q b e : Position} {taken : List (List ℕ)} {n : List ℕ} {ps : List Piece}
    → IsMember d taken (test_member (test unmarked n None no_acts)) (test_place q b.line ∷ []) (word_at r W.Test ∷ name_at q n ∷ symbol_at b OpenBrace ∷ symbol_at e CloseBrace ∷ ps) ps
an_empty_test = a_plain_test (a_block (a_body closed))

-- the only member of a class
pub alone : {d : ℕ} {e : Position} {taken : List (List ℕ)} {m : Member} {places : List NodePlace} {ps qs : List Piece} → IsMember d taken m places ps (symbol_at e CloseBrace ∷ qs)
    → HasMembers d taken (member m no_members) (places ++ []) ps qs
unfolding IsDistinct
alone h = has_members (G.and_then h G.closed) some_member (tt, tt)

-- a class without marks, display text and lifecycle blocks
pub a_plain_class : {d : ℕ} {r q b : Position} {taken : List (List ℕ)} {n : List ℕ} {variables : Variables} {ms : Members} {places : List NodePlace} {ps qs rs : List Piece}
    → IsVariables taken variables ps qs → block_next qs ≡ None → HasMembers d (V.names_of variables ++ taken) ms places qs rs
    → IsMember (suc d) taken (class_member (class (title unmarked n None variables none_written) ms)) (class_place q none_written ∷ places)
    (word_at r W.Class ∷ name_at q n ∷ symbol_at b OpenBrace ∷ ps) rs
a_plain_class variables end members = as_class (no_marks refl) (a_class (none_displayed refl) variables (no_blocks end) members)

-- a static or a field, the only one of its class
abbrev only : VariableWord → Variable → Variables
only word x = record { statics = filter_map static_in (record { word = word; variable = x } ∷ []); fields = filter_map field_in (record { word = word; variable = x } ∷ []) }

pub a_number_alone : {r q p v e : Position} {n : ℕ} {w : Word} {word : VariableWord} {x : List ℕ} {ps : List Piece} → variable_word w ≡ Some word → nat_lt n (2 ^ 63) ≡ true
    → variable_next ps ≡ None
    → IsVariables [] (only word (record { name = x; value = Whole (pos n) }))
    (word_at r w ∷ name_at q x ∷ symbol_at p Equals ∷ number_at v n ∷ symbol_at e Semicolon ∷ ps) ps
unfolding IsDistinct
a_number_alone {n = n} {word = word} {x = x} is small end =
    record {
      written = record { word = word; variable = record { name = x; value = Whole (pos n) } } ∷ [];
      read = (_, a_variable is (a_number (grind (arith, nat_tests, small))), refl);
      ends = end;
      distinct = (tt, tt);
      free = (refl, tt);
      statics = refl;
      fields = refl;
    }

-- a block that fails
pub fails : {r q v s e : Position} {t : List ℕ} {ps : List Piece}
    → IsBlock (act (q.line - (r.line - 1)) (plain (fail t)) no_acts)
    (symbol_at r OpenBrace ∷ word_at q W.Fail ∷ text_at v t ∷ symbol_at s Semicolon ∷ symbol_at e CloseBrace ∷ ps) ps
fails = a_block (a_body (S.and_then (a_simple refl a_fail) closed))

-- a block of each kind
abbrev pub each_block : (before_all after_all before_each after_each : Block) → Blocks
each_block a b c d BeforeAll = Some a
each_block a b c d AfterAll = Some b
each_block a b c d BeforeEach = Some c
each_block a b c d AfterEach = Some d

abbrev pub written : Lifecycle → Block → Written
written k block = record { kind = k; block = block }

pub each_written : (a b c d : Block) (k : Lifecycle)
    → filter_map (block_in k) (written AfterEach d ∷ written BeforeAll a ∷ written AfterAll b ∷ written BeforeEach c ∷ []) ≡ option_to_list (each_block a b c d k)
each_written a b c d BeforeAll = refl
each_written a b c d AfterAll = refl
each_written a b c d BeforeEach = refl
each_written a b c d AfterEach = refl
