-- What is written of a value, of a fault and of a place.
--
-- text of a value, messages, places: What is written of a value, of a fault or a fail, and of a
-- place.
-- Standard: JUnit 5 (`assertEquals`' message).
use Rattle.std.specs.Prelude.{ℕ, List, ◌++◌, true, false, codes}
use Rattle.std.specs.Fmt.{decimal, signed_decimal}
use Rattle.iso_model.specs.declared.access.Access.{Access}
use Rattle.iso_model.specs.declared.access.Access.TheVariants.{Read, Write}
use Rattle.iso_model.specs.declared.data.Data.{Data}
use Rattle.iso_model.specs.declared.data.Data.TheVariants.{Whole, Flag, Text}
use Rattle.iso_model.specs.declared.fault.Fault.{Fault}
use Rattle.iso_model.specs.declared.fault.Fault.TheVariants as F
use Rattle.iso_model.specs.declared.fault.FaultKind.{FaultKind}
use Rattle.iso_model.specs.declared.fault.FaultKind.TheVariants as K
use Rattle.iso_model.specs.declared.place.Lifecycle.{Lifecycle}
use Rattle.iso_model.specs.declared.place.Lifecycle.TheVariants.{BeforeAll, AfterAll, BeforeEach, AfterEach}
use Rattle.iso_model.specs.declared.place.BlockName.{BlockName}
use Rattle.iso_model.specs.declared.place.BlockName.TheVariants.{Test, Class}
use Rattle.iso_model.specs.declared.place.Place.{Place}
use Rattle.iso_model.specs.declared.place.Place.TheVariants.{Row, Disabled}

-- the text of a value, as `text` gives it: a number in decimal, with `-` where it is negative;
-- `true` or `false`; a text itself
abbrev pub text_of : Data → List ℕ
text_of (Whole z) = signed_decimal z
text_of (Flag true) = codes "true"
text_of (Flag false) = codes "false"
text_of (Text t) = t

-- an access as a fault's message names it
abbrev pub access_word : Access → List ℕ
access_word Read = codes "READ"
access_word Write = codes "READ_WRITE"

-- the kind of a fault that a statement or an expression gives
abbrev pub kind_of : Fault → FaultKind
kind_of (F.Undeclared a k) = K.Undeclared
kind_of F.Overflow = K.Overflow
kind_of (F.UnknownName x) = K.UnknownName
kind_of (F.DoubleName x) = K.DoubleName
kind_of (F.Frozen x) = K.Frozen
kind_of F.WrongKind = K.WrongKind
kind_of (F.MissingProperty x) = K.Missing
kind_of (F.MissingFile p) = K.Missing
kind_of F.BadCount = K.BadCount
kind_of F.OutputFull = K.OutputFull
kind_of F.TextTooLong = K.TextTooLong

-- the message of a fault
abbrev pub fault_message : Fault → List ℕ
fault_message (F.Undeclared a k) = codes "undeclared " ++ access_word a ++ codes " of " ++ k
fault_message F.Overflow = codes "overflow"
fault_message (F.UnknownName x) = codes "unknown name " ++ x
fault_message (F.DoubleName x) = codes "name " ++ x ++ codes " is taken"
fault_message (F.Frozen x) = x ++ codes " is frozen"
fault_message F.WrongKind = codes "wrong kind"
fault_message (F.MissingProperty x) = codes "missing property " ++ x
fault_message (F.MissingFile p) = codes "missing file " ++ p
fault_message F.BadCount = codes "bad count"
fault_message F.OutputFull = codes "output is full"
fault_message F.TextTooLong = codes "text is too long"

-- the message of a block that has no step left
abbrev pub out_of_steps_message : List ℕ
out_of_steps_message = codes "out of steps"

-- the message of a false `assert`
abbrev pub assertion_message : List ℕ
assertion_message = codes "assertion failed"

-- the message of an `assert_equal` whose values differ: the expected one, then the actual one (as
-- JUnit 5's `assertEquals`)
abbrev pub difference_message : Data → Data → List ℕ
difference_message expected actual =
    codes "expected: <" ++ text_of expected ++ codes "> but was: <" ++ text_of actual ++ codes ">"

-- a lifecycle block's word
abbrev pub lifecycle_word : Lifecycle → List ℕ
lifecycle_word BeforeAll = codes "before_all"
lifecycle_word AfterAll = codes "after_all"
lifecycle_word BeforeEach = codes "before_each"
lifecycle_word AfterEach = codes "after_each"

-- the words that name a block
abbrev pub block_words : BlockName → List ℕ
block_words Test = codes "test"
block_words (Class depth kind) = codes "class " ++ decimal depth ++ codes " " ++ lifecycle_word kind

-- a row of a block
abbrev pub row_text : BlockName → ℕ → List ℕ
row_text block row = block_words block ++ codes " row " ++ decimal row

-- a place
abbrev pub place_text : Place → List ℕ
place_text (Row block row) = row_text block row
place_text Disabled = codes "disabled"
