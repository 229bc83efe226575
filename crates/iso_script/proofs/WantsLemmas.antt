-- What is wanted is not what is next: in a class, and before and after what stands in it.
use Rattle.std.proofs.Common.{◌≡◌, ◌≢◌, ℕ, List, [], ◌∷◌, Bool, true, false, not, ◌&&◌, if◌then◌else◌, Option, Some, None, is_some, refl, ap, subst, sym, ◌∙◌}
use Rattle.std.specs.List.{filter_map}
use Rattle.std.specs.Option.{option_to_list}
use Rattle.iso_model.specs.declared.heads.Mark.{Mark}
use Rattle.iso_model.specs.declared.heads.Target.{Target}
use Rattle.iso_model.specs.declared.place.Lifecycle.{Lifecycle}
use Rattle.iso_model.specs.declared.place.Lifecycle.TheVariants.{BeforeAll, AfterAll, BeforeEach, AfterEach}
use Rattle.iso_model.specs.declared.script.Mode.{Mode as ExecutionMode}
use Rattle.iso_script.specs.Blocks.{Block, Blocks, IsBlocks, IsWritten, Written, block_in, block_next, block_word}
use Rattle.iso_script.specs.Displays.{IsDisplayed, none_displayed, displayed}
use Rattle.iso_script.specs.Marks.{IsMarking, IsMarks, IsTarget, Marking, Marks, declares, disables, fits_test, isolates, isolation, isolation_in, key_in, mark_next, mark_word, mode_in, of_children, of_itself, reason_in, runs}
use Rattle.iso_script.specs.Readings.{AreRead, ArePlaced}
use Rattle.iso_script.specs.declared.place.NodePlace.{NodePlace}
use Rattle.iso_script.specs.Variables.{variable_next, variable_word}
use Rattle.iso_script.specs.Wants.{IsPlace, after_blocks, after_class_marks, after_display, after_marks, after_target, are_none, is_unmarked, no_mark}
use Rattle.iso_script_lexer.specs.Piece.{Piece, text_at, word_at, symbol_at}
use Rattle.iso_script_lexer.specs.Tokens.{after, after_word}
use Rattle.iso_script_lexer.specs.declared.symbol.Symbol.{Symbol}
use Rattle.iso_script_lexer.specs.declared.symbol.Symbol.TheVariants.{CloseBrace, OpenBrace}
use Rattle.iso_script_lexer.specs.declared.word.Word.{Word}
use Rattle.iso_script_lexer.specs.declared.word.Word.TheVariants as W
use Rattle.iso_script_lexer.proofs.Decisions.{by_test}
use Rattle.iso_script_statements.specs.Pieces.{text_next}
use Rattle.iso_script_statements.specs.Wanted.{IsUnmet, begins_block, begins_mark, begins_variable}
use Rattle.iso_script_statements.specs.declared.wanted.Wanted.{Wanted}
use Rattle.iso_script_statements.specs.declared.wanted.Wanted.TheVariants as V
use Rattle.iso_script.proofs.Blocks.{same_self}
use Rattle.iso_script_statements.proofs.WantedLemmas.{neither, not_same}

-- a word that marks nothing is none of those that begin marks, and so of the others
unmarking : (w : Word) → mark_word w ≡ None → begins_mark w ≡ false
unmarking W.SameThread h = cc
unmarking W.Concurrent h = cc
unmarking W.Isolated h = cc
unmarking W.Disabled h = cc
unmarking W.Read h = cc
unmarking W.Write h = cc
unmarking _ h = refl

no_block : (w : Word) → block_word w ≡ None → begins_block w ≡ false
no_block W.BeforeAll h = cc
no_block W.AfterAll h = cc
no_block W.BeforeEach h = cc
no_block W.AfterEach h = cc
no_block _ h = refl

no_variable : (w : Word) → variable_word w ≡ None → begins_variable w ≡ false
no_variable W.Static h = cc
no_variable W.Field h = cc
no_variable _ h = refl

-- where neither a mark is next nor a test or class
unmet_marked_member : (ps : List Piece) → IsPlace V.MarkedMember ps
unmet_marked_member (word_at r w ∷ ps) mark test class = neither _ _ (unmarking w mark) (neither _ _ (not_same _ ps test) (not_same _ ps class))
unmet_marked_member (_ ∷ ps) mark test class = refl
unmet_marked_member [] mark test class = refl

unmet_marked_class : (ps : List Piece) → mark_next ps ≡ None → after_word W.Class ps ≡ None → IsUnmet V.MarkedClass ps
unmet_marked_class (word_at r w ∷ ps) mark class = neither _ _ (unmarking w mark) (not_same _ ps class)
unmet_marked_class (_ ∷ ps) mark class = refl
unmet_marked_class [] mark class = refl

unmet_top_class : (ps : List Piece) → ps ≢ [] → mark_next ps ≡ None → after_word W.Class ps ≡ None → IsUnmet V.TopClass ps
unmet_top_class (word_at r w ∷ ps) some mark class = neither _ _ (unmarking w mark) (not_same _ ps class)
unmet_top_class (_ ∷ ps) some mark class = refl
unmet_top_class [] some mark class = absurd (some refl)

-- what is wanted where a member is
place_of_member : (ps : List Piece) → after CloseBrace ps ≡ None → IsPlace V.Member ps
place_of_member (word_at r w ∷ ps) brace mark test class = unmet_marked_member (word_at r w ∷ ps) mark test class
place_of_member (symbol_at r s ∷ ps) brace mark test class = not_same _ ps brace
place_of_member (_ ∷ ps) brace mark test class = refl
place_of_member [] brace mark test class = refl

block_place : (ps : List Piece) → block_next ps ≡ None → IsPlace V.BlockOrMember ps
block_place (word_at r w ∷ ps) block mark test class = neither _ _ (no_block w block) (unmet_marked_member (word_at r w ∷ ps) mark test class)
block_place (_ ∷ ps) block mark test class = refl
block_place [] block mark test class = refl

part_place : (ps : List Piece) → variable_next ps ≡ None → block_next ps ≡ None → IsPlace V.ClassPart ps
part_place (word_at r w ∷ ps) variable block mark test class = neither _ _ (no_variable w variable) (block_place (word_at r w ∷ ps) block mark test class)
part_place (_ ∷ ps) variable block mark test class = refl
part_place [] variable block mark test class = refl

pub is_place : (b : Bool) (first : Wanted) (old here : List Piece) → (b ≡ true → here ≡ old) → IsPlace first old → after CloseBrace here ≡ None → IsPlace (if b then first else V.Member) here
is_place true first old here same place brace = subst (IsPlace first) (sym (same refl)) place
is_place false first old here same place brace = place_of_member here brace

-- where nothing is marked no mark is written
unwritten : (written : List Marking) (mode : Option ExecutionMode) (isolated : Bool) (disabled : Option (List ℕ)) (keys : List Mark)
    → (not (is_some mode) && (not isolated && (not (is_some disabled) && no_mark keys))) ≡ true
    → filter_map mode_in written ≡ option_to_list mode → filter_map isolation_in written ≡ isolation isolated
    → filter_map reason_in written ≡ option_to_list disabled → filter_map key_in written ≡ keys → written ≡ []
unwritten [] mode isolated disabled keys none m i d k = refl
unwritten (x ∷ xs) (Some mode) isolated disabled keys none m i d k = cc
unwritten (x ∷ xs) None true disabled keys none m i d k = cc
unwritten (x ∷ xs) None false (Some reason) keys none m i d k = cc
unwritten (x ∷ xs) None false None (key ∷ keys) none m i d k = cc
unwritten (runs mode ∷ xs) None false None [] none m i d k = cc
unwritten (isolates ∷ xs) None false None [] none m i d k = cc
unwritten (disables reason ∷ xs) None false None [] none m i d k = cc
unwritten (declares key ∷ xs) None false None [] none m i d k = cc

not_moved : {W : Type 0} (Is : W → List Piece → List Piece → Type 0) (ws : List W) (ps qs : List Piece) → ws ≡ [] → AreRead Is ws ps qs → ps ≡ qs
not_moved Is [] ps qs none h = h
not_moved Is (w ∷ ws) ps qs none h = cc

-- where no item was read nothing was passed
pub unmoved : {W : Type 0} (Is : W → List NodePlace → List Piece → List Piece → Type 0) (ws : List W) (places : List NodePlace) (ps qs : List Piece) → ws ≡ [] → ArePlaced Is ws places ps qs → qs ≡ ps
unmoved Is [] places ps qs none h = sym h.1
unmoved Is (w ∷ ws) places ps qs none h = cc

unmarked_same : {marks : Marks} {ps qs : List Piece} → IsMarks marks ps qs → is_unmarked marks ≡ true → ps ≡ qs
unmarked_same {marks = marks} {ps = ps} {qs = qs} h none =
    let come = h.come in
    not_moved IsMarking h.written ps qs (unwritten h.written marks.mode marks.isolated marks.disabled marks.keys none come.mode come.isolated come.disabled come.keys) h.read

-- without marks a test may be next
unmarked_fits : (mode : Option ExecutionMode) (isolated : Bool) (disabled : Option (List ℕ)) (keys : List Mark)
    → (not (is_some mode) && (not isolated && (not (is_some disabled) && no_mark keys))) ≡ true
    → fits_test (record { mode = mode; isolated = isolated; disabled = disabled; keys = keys }) ≡ true
unmarked_fits (Some mode) isolated disabled keys none = cc
unmarked_fits None true disabled keys none = cc
unmarked_fits None false (Some reason) keys none = cc
unmarked_fits None false None (key ∷ keys) none = cc
unmarked_fits None false None [] none = refl

no_test : (fits : Bool) (o : Option (List Piece)) → false ≡ (fits && is_some o) → fits ≡ true → o ≡ None
no_test true None h e = refl
no_test true (Some x) h e = cc
no_test false o h e = cc

-- what is wanted after marks is not there, where neither a test that may have them is next nor a class
pub unmet_after_marks : {marks : Marks} {ps qs : List Piece} (place : Wanted) → IsMarks marks ps qs → IsPlace place ps
    → false ≡ (fits_test marks && is_some (after_word W.Test qs)) → after_word W.Class qs ≡ None → IsUnmet (after_marks marks place) qs
unmet_after_marks {marks = marks} {ps = ps} {qs = qs} place h is test class =
    by_test (λ w. IsUnmet w qs) (is_unmarked marks) _ _
    (λ none. subst (IsPlace place) (unmarked_same h none) is h.ends
    (no_test (fits_test marks) (after_word W.Test qs) test (unmarked_fits marks.mode marks.isolated marks.disabled marks.keys none)) class)
    (λ _. by_test (λ w. IsUnmet w qs) (fits_test marks) _ _
    (λ fits. unmet_marked_member qs h.ends (no_test (fits_test marks) (after_word W.Test qs) test fits) class)
    (λ _. unmet_marked_class qs h.ends class))

pub unmet_after_class_marks : {marks : Marks} {ps qs : List Piece} → IsMarks marks ps qs → ps ≢ [] → after_word W.Class qs ≡ None → IsUnmet (after_class_marks marks) qs
unmet_after_class_marks {marks = marks} {ps = ps} {qs = qs} h some class =
    by_test (λ w. IsUnmet w qs) (is_unmarked marks) _ _
    (λ none. unmet_top_class qs (λ empty. some (unmarked_same h none ∙ empty)) h.ends class)
    (λ _. unmet_marked_class qs h.ends class)

-- what gives something at the front leaves something
first_some : {A B : Type 0} (f : A → Option B) (x : A) (xs : List A) (b : B) → f x ≡ Some b → filter_map f (x ∷ xs) ≡ [] → ⊥
first_some f x xs b h none = let e : filter_map f (x ∷ xs) ≡ b ∷ filter_map f xs = rw h refl in cc

none_of : (a b c d : Option Block) → (not (is_some a) && (not (is_some b) && (not (is_some c) && not (is_some d)))) ≡ true
    → (a ≡ None) × (b ≡ None) × (c ≡ None) × (d ≡ None)
none_of (Some x) b c d h = cc
none_of None (Some x) c d h = cc
none_of None None (Some x) d h = cc
none_of None None None (Some x) h = cc
none_of None None None None h = (refl, refl, refl, refl)

none_at : (blocks : Blocks) → are_none blocks ≡ true → (k : Lifecycle) → blocks k ≡ None
none_at blocks h BeforeAll = (none_of (blocks BeforeAll) (blocks AfterAll) (blocks BeforeEach) (blocks AfterEach) h).0
none_at blocks h AfterAll = (none_of (blocks BeforeAll) (blocks AfterAll) (blocks BeforeEach) (blocks AfterEach) h).1
none_at blocks h BeforeEach = (none_of (blocks BeforeAll) (blocks AfterAll) (blocks BeforeEach) (blocks AfterEach) h).2
none_at blocks h AfterEach = (none_of (blocks BeforeAll) (blocks AfterAll) (blocks BeforeEach) (blocks AfterEach) h).3

-- a block that is written is one of the class
no_written : (written : List Written) (blocks : Blocks) → are_none blocks ≡ true
    → ((k : Lifecycle) → filter_map (block_in k) written ≡ option_to_list (blocks k)) → written ≡ []
no_written [] blocks none each = refl
no_written (w ∷ ws) blocks none each =
    absurd (first_some (block_in w.kind) w ws w.block (ap (λ b. if b then Some w.block else None) (same_self w.kind))
    (each w.kind ∙ ap option_to_list (none_at blocks none w.kind)))

none_same : {blocks : Blocks} {ps qs : List Piece} → IsBlocks blocks ps qs → are_none blocks ≡ true → ps ≡ qs
none_same {blocks = blocks} {ps = ps} {qs = qs} h none = not_moved IsWritten h.written ps qs (no_written h.written blocks none h.each) h.read

-- what is wanted after lifecycle blocks, where a member is
pub first_place : {blocks : Blocks} {ps qs : List Piece} → variable_next ps ≡ None → IsBlocks blocks ps qs → IsPlace (after_blocks blocks) qs
first_place {blocks = blocks} {ps = ps} {qs = qs} variable h =
    by_test (λ w. IsPlace w qs) (are_none blocks) _ _
    (λ none. part_place qs (ap variable_next (sym (none_same h none)) ∙ variable) h.ends)
    (λ _. block_place qs h.ends)

-- what is wanted after a display text, or none, where no brace is next
unmet_symbol : (s : Symbol) (ps : List Piece) → after s ps ≡ None → IsUnmet (V.Symbol s) ps
unmet_symbol s (symbol_at r t ∷ ps) none = not_same _ ps none
unmet_symbol s (_ ∷ ps) none = refl
unmet_symbol s [] none = refl

unmet_display : (ps : List Piece) → text_next ps ≡ None → after OpenBrace ps ≡ None → IsUnmet V.Display ps
unmet_display (text_at r t ∷ ps) text brace = cc
unmet_display (symbol_at r s ∷ ps) text brace = not_same _ ps brace
unmet_display (_ ∷ ps) text brace = refl
unmet_display [] text brace = refl

pub unmet_after_display : {display : Option (List ℕ)} {ps qs : List Piece} → IsDisplayed display ps qs → after OpenBrace qs ≡ None → IsUnmet (after_display display) qs
unmet_after_display {qs = qs} (none_displayed text) brace = unmet_display qs text brace
unmet_after_display {qs = qs} (displayed h) brace = unmet_symbol OpenBrace qs brace

-- what is wanted where no key is next, by what it is declared for
unmet_target : (ps : List Piece) → after_word W.Children ps ≡ None → IsUnmet V.Key ps → IsUnmet V.Target ps
unmet_target (text_at r t ∷ ps) none key = key
unmet_target (word_at r w ∷ ps) none key = not_same _ ps none
unmet_target (_ ∷ ps) none key = refl
unmet_target [] none key = refl

pub unmet_after_target : {target : Target} {ps qs : List Piece} → IsTarget target ps qs → IsUnmet V.Key qs → IsUnmet (after_target target) qs
unmet_after_target of_children key = key
unmet_after_target {qs = qs} (of_itself none) key = unmet_target qs none key

-- an empty text is no key
pub unmet_key : (r : _) (t : List ℕ) (ps qs : List Piece) → t ≡ [] → ps ≡ text_at r t ∷ qs → IsUnmet V.Key ps
unmet_key r t ps qs empty is = rw (is, empty) refl
