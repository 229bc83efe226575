-- The marks of a class or test, by rules. `IsX x ps qs` says that the pieces ps are those of x, and
-- then the pieces qs.
--
-- marks: The marks of a class or test as they are written, until none is next; they name one mode
-- at most and `isolated` and `disabled` once at most each, and all keys are kept, each with its
-- target (`IsMarks`, `ComeTo`, `IsTarget`).
-- Standard: JUnit 5, parallel execution (`@Execution`, `@ResourceLock` and its `target`,
-- `@Isolated`); `@Disabled`.
--
-- key that may be declared: Not empty, at most 255 bytes, and not that of the global lock
-- (`key_fault`).
use Rattle.std.specs.Prelude.{ℕ, List, [], ◌∷◌, ◌++◌, ◌≡◌, Bool, true, false, not, ◌&&◌, Option, Some, None, length, nat_eq, nat_lt, if◌then◌else◌}
use Rattle.std.specs.List.{filter_map, list_any}
use Rattle.std.specs.Str.{bytes_eq}
use Rattle.std.specs.Option.{option_to_list}
use Rattle.iso_script_lexer.specs.Piece.{Piece, word_at, text_at}
use Rattle.iso_script_lexer.specs.Tokens.{after_word}
use Rattle.iso_script_lexer.specs.declared.word.Word.{Word}
use Rattle.iso_script_lexer.specs.declared.word.Word.TheVariants as W
use Rattle.iso_model.specs.ResourceKeys.{global_key}
use Rattle.iso_model.specs.Targets.{is_for_children}
use Rattle.iso_model.specs.declared.access.Access.TheVariants.{Read, Write}
use Rattle.iso_model.specs.declared.heads.Mark.{Mark}
use Rattle.iso_model.specs.declared.heads.Target.{Target}
use Rattle.iso_model.specs.declared.heads.Target.TheVariants.{Itself, Children}
use Rattle.iso_model.specs.declared.limits.TheConstants.{KEY_BYTES}
use Rattle.iso_model.specs.declared.script.Mode.{Mode as ExecutionMode}
use Rattle.iso_model.specs.declared.script.Mode.TheVariants.{SameThread, Concurrent}
use Rattle.iso_script_statements.specs.Statements.{IsDisplay}
use Rattle.iso_script_statements.specs.declared.fault.ScriptFaultKind.{ScriptFaultKind}
use Rattle.iso_script_statements.specs.declared.fault.ScriptFaultKind.TheVariants.{Expected, TooLong, GlobalKey}
use Rattle.iso_script.specs.Readings.{AreRead, meant_next}
use Rattle.iso_script.specs.declared.mark.Marks as D
use Rattle.iso_script.specs.declared.mark.MarkWord.{MarkWord}
use Rattle.iso_script.specs.declared.mark.MarkWord.TheVariants.{Mode, Isolated, Disabled, Access}
use Rattle.iso_script_lexer.specs.declared.token.Position.{Position}

-- what a word marks
abbrev pub mark_word : Word → Option MarkWord
mark_word W.SameThread = Some (Mode SameThread)
mark_word W.Concurrent = Some (Mode Concurrent)
mark_word W.Isolated = Some Isolated
mark_word W.Disabled = Some Disabled
mark_word W.Read = Some (Access Read)
mark_word W.Write = Some (Access Write)
mark_word _ = None

-- what the word that is next marks
abbrev pub mark_next : List Piece → Option MarkWord
mark_next = meant_next mark_word

-- why a mark may not declare a key: it is empty, above 255 bytes, or that of the global lock
abbrev pub key_fault : List ℕ → Option ScriptFaultKind
key_fault k =
    if nat_eq (length k) 0 then Some Expected
    else if nat_lt KEY_BYTES (length k) then Some TooLong
    else if bytes_eq k global_key then Some GlobalKey
    else None

-- a key that a mark may declare
pub data IsKeyText : List ℕ → List Piece → List Piece → Type 0 where
  a_key : {q : Position} {k : List ℕ} {ps : List Piece} → key_fault k ≡ None
      → IsKeyText k (text_at q k ∷ ps) ps

-- what a key is declared for: the children of a class, where their word is next
pub data IsTarget : Target → List Piece → List Piece → Type 0 where
  of_children : {r : Position} {ps : List Piece} → IsTarget Children (word_at r W.Children ∷ ps) ps
  of_itself : {ps : List Piece} → after_word W.Children ps ≡ None → IsTarget Itself ps ps

-- a mark, as it is written
pub data Marking : Type 0 where
  runs : ExecutionMode → Marking
  isolates : Marking
  disables : List ℕ → Marking
  declares : Mark → Marking

-- what follows the word of a mark
pub data IsMarked : MarkWord → Marking → List Piece → List Piece → Type 0 where
  a_mode : {m : ExecutionMode} {ps : List Piece} → IsMarked (Mode m) (runs m) ps ps
  an_isolation : {ps : List Piece} → IsMarked Isolated isolates ps ps
  a_disabling : {reason : List ℕ} {ps qs : List Piece} → IsDisplay reason ps qs
      → IsMarked Disabled (disables reason) ps qs
  a_declaration : {a : _} {t : Target} {k : List ℕ} {ps qs rs : List Piece} → IsTarget t ps qs
      → IsKeyText k qs rs
      → IsMarked (Access a) (declares (record { access = a; target = t; key = k })) ps rs

-- a mark: its word, and what follows it
pub data IsMarking : Marking → List Piece → List Piece → Type 0 where
  a_mark : {r : Position} {w : Word} {meant : MarkWord} {x : Marking} {ps qs : List Piece}
      → mark_word w ≡ Some meant
      → IsMarked meant x ps qs → IsMarking x (word_at r w ∷ ps) qs

-- what a class or test has of its marks
pub record Marks : Type 0 where
  pub mode : Option ExecutionMode
  pub isolated : Bool
  pub disabled : Option (List ℕ)
  pub keys : List Mark

abbrev pub marks_of : D.Marks → Marks
marks_of m =
    record { mode = m.mode; isolated = m.isolated; disabled = m.disabled; keys = m.keys.items }

-- whether a test may have these marks: none isolates it, and none is for the children of a class
abbrev pub fits_test : Marks → Bool
fits_test marks = not marks.isolated && not (list_any is_for_children marks.keys)

-- the mode, the isolation, the reason, and the key with its access and target that a mark writes
abbrev pub mode_in : Marking → Option ExecutionMode
mode_in (runs m) = Some m
mode_in _ = None

abbrev pub isolation_in : Marking → Option Marking
isolation_in isolates = Some isolates
isolation_in _ = None

abbrev pub reason_in : Marking → Option (List ℕ)
reason_in (disables reason) = Some reason
reason_in _ = None

abbrev pub key_in : Marking → Option Mark
key_in (declares k) = Some k
key_in _ = None

-- `isolated`, if so
abbrev pub isolation : Bool → List Marking
isolation true = isolates ∷ []
isolation false = []

-- What marks come to, as they are written: they name one mode at most, write `isolated` and
-- `disabled` once at most each, and all keys are kept.
pub record ComeTo (written : List Marking) (marks : Marks) : Type 0 where
  pub mode : filter_map mode_in written ≡ option_to_list marks.mode
  pub isolated : filter_map isolation_in written ≡ isolation marks.isolated
  pub disabled : filter_map reason_in written ≡ option_to_list marks.disabled
  pub keys : filter_map key_in written ≡ marks.keys

-- the marks of a class or test, until none is next
pub record IsMarks (marks : Marks) (ps qs : List Piece) : Type 0 where
  pub written : List Marking
  pub read : AreRead IsMarking written ps qs
  pub ends : mark_next qs ≡ None
  pub come : ComeTo written marks

-- one mark more
pub record Adds (x : Marking) (old new : Marks) : Type 0 where
  pub mode : option_to_list old.mode ++ option_to_list (mode_in x) ≡ option_to_list new.mode
  pub isolated : isolation old.isolated ++ option_to_list (isolation_in x) ≡ isolation new.isolated
  pub disabled : option_to_list old.disabled ++ option_to_list (reason_in x)
      ≡ option_to_list new.disabled
  pub keys : old.keys ++ option_to_list (key_in x) ≡ new.keys
