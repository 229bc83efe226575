-- Statements: the whole meaning of a body, from a state to the state at its end.
-- A state in which the block has ended stays as it is.
--
-- execution of statements: The whole meaning of a body, from a state to the state at its end
-- (`run`, and `performed` for one statement). A statement takes its step, then evaluates all its
-- operands, and then checks what it has to check.
use Rattle.std.specs.Prelude.{ℕ, zero, suc, ◌+◌, List, [], ◌∷◌, ◌++◌, length, take, Option, Some, None, Result, Ok, Err, Bool, true, false, cond, nat_le, is_some}
use Rattle.iso_model.specs.ResourceKeys.{properties_key, locale_key, file_key}
use Rattle.iso_model.specs.Rights.{Rights, is_writable}
use Rattle.iso_model.specs.Resources.{Resources, text_in, changed_at}
use Rattle.iso_model.specs.Environments.{Environment}
use Rattle.iso_model.specs.Names.{bound, binding_of, assigned}
use Rattle.iso_model.specs.Syntax.{Term, Plain, let_name, assign, print, assert, assert_equal, assume, fail, set_prop, clear_prop, set_locale, write_file, append_file, delete_file, Act, plain, choice, repeat, Acts, no_acts, act}
use Rattle.iso_model.specs.Texts.{text_of, kind_of, fault_message, out_of_steps_message, assertion_message, difference_message}
use Rattle.iso_model.specs.Evaluation.{Given, then, as_text, as_texts, as_flag, as_count, is_equal, is_short, evaluated}
use Rattle.iso_model.specs.declared.limits.TheConstants.{OUTPUT_BYTES}
use Rattle.iso_model.specs.declared.access.Access.TheVariants.{Write}
use Rattle.iso_model.specs.declared.data.Data.{Data}
use Rattle.iso_model.specs.declared.fault.Fault.{Fault}
use Rattle.iso_model.specs.declared.fault.Fault.TheVariants.{Undeclared, DoubleName, MissingFile, OutputFull, TextTooLong}
use Rattle.iso_model.specs.declared.fault.FaultKind.TheVariants as K
use Rattle.iso_model.specs.declared.names.Binding.{Binding}
use Rattle.iso_model.specs.declared.names.Sort.TheVariants as S
use Rattle.iso_model.specs.declared.outcome.Ending.{Ending}
use Rattle.iso_model.specs.declared.outcome.Ending.TheVariants as E
use Rattle.iso_model.specs.declared.outcome.Note.{Note}
use Rattle.iso_model.specs.declared.place.Place.TheVariants.{Row}
use Rattle.iso_model.specs.declared.resource.Change.{Change}
use Rattle.iso_model.specs.declared.resource.Change.TheVariants as C

-- where a block stands, but for the resources: its environment, the lines that it printed, its
-- ending
pub record Local : Type 0 where
  pub env : Environment
  pub lines : List (List ℕ)
  pub ending : Ending

pub record State : Type 0 where
  pub here : Local
  pub resources : Resources

abbrev pub is_well : Ending → Bool
is_well E.Well = true
is_well (E.Fail note) = false
is_well (E.Fault kind note) = false
is_well (E.Assumed note) = false

-- whether the block goes on
abbrev pub is_live : State → Bool
is_live s = is_well s.here.ending

abbrev pub with_names : List Binding → Local → Local
with_names names l = record l { env = record l.env { names = names } }

abbrev pub with_steps : ℕ → Local → Local
with_steps n l = record l { env = record l.env { steps = n } }

-- a line more, which takes its bytes and one for its end
abbrev pub with_line : List ℕ → Local → Local
with_line line l = record l {
  env = record l.env { printed = l.env.printed + length line + 1 };
  lines = l.lines ++ line ∷ [];
}

abbrev pub with_ending : Ending → Local → Local
with_ending ending l = record l { ending = ending }

abbrev pub locally : (Local → Local) → State → State
locally f s = record s { here = f s.here }

-- a message, with the row of the block where it arose
abbrev pub note : List ℕ → ℕ → Local → Note
note message row l = record { message = message; place = Row l.env.block row }

-- the block ends by a fault, because no step is left, by a fail, or by a false assumption
abbrev pub faults : ℕ → Fault → State → State
faults row fault s =
    locally (with_ending (E.Fault (kind_of fault) (note (fault_message fault) row s.here))) s

abbrev pub runs_out : ℕ → State → State
runs_out row s =
    locally (with_ending (E.Fault K.OutOfSteps (note out_of_steps_message row s.here))) s

abbrev pub fails : ℕ → List ℕ → State → State
fails row message s = locally (with_ending (E.Fail (note message row s.here))) s

abbrev pub skips : ℕ → List ℕ → State → State
skips row reason s = locally (with_ending (E.Assumed (note reason row s.here))) s

-- goes on with what was given, or ends by the fault
abbrev pub upon : {A : Type 0} → ℕ → Result A Fault → State → (A → State) → State
upon row (Ok x) s f = f x
upon row (Err fault) s f = faults row fault s

-- the value of an expression
abbrev pub value : Rights → State → Term → Given
value r s e = evaluated s.here.env.names s.resources r e

-- the value of an expression that has to be a text, a truth value or a count, and of two that have
-- to be texts
abbrev pub text_value : Rights → State → Term → Result (List ℕ) Fault
text_value r s e = then (value r s e) as_text

abbrev pub flag_value : Rights → State → Term → Result Bool Fault
flag_value r s e = then (value r s e) as_flag

abbrev pub count_value : Rights → State → Term → Result ℕ Fault
count_value r s e = then (value r s e) as_count

abbrev pub text_values : Rights → State → Term → Term → Result (List ℕ × List ℕ) Fault
text_values r s a b = then (value r s a) (λ x. then (value r s b) (as_texts x))

-- a local more, unless its name is visible already
abbrev pub declares : ℕ → List ℕ → Data → State → State
declares row x d s =
    cond (is_some (binding_of s.here.env.names x))
    (faults row (DoubleName x) s)
    (locally (with_names (s.here.env.names ++ bound S.Local x d ∷ [])) s)

-- whether a line fits into the output of the body
abbrev pub has_room : Local → List ℕ → Bool
has_room l line = nat_le (l.env.printed + length line + 1) OUTPUT_BYTES

-- a line more, where it fits
abbrev pub prints : ℕ → List ℕ → State → State
prints row line s =
    cond (has_room s.here line) (locally (with_line line) s) (faults row OutputFull s)

-- goes on where two values are equal
abbrev pub expects : ℕ → Data → Data → State → State
expects row x y s =
    upon row (is_equal x y) s (λ holds. cond holds s (fails row (difference_message x y) s))

-- goes on where the rights let a key be changed
abbrev pub allowed : Rights → ℕ → List ℕ → State → State → State
allowed r row k s after = cond (is_writable (r k)) after (faults row (Undeclared Write k) s)

abbrev pub changing : List ℕ → Change → State → State
changing k change s = record s { resources = changed_at s.resources k change }

-- changes a key, where the rights let it
abbrev pub changes : Rights → ℕ → List ℕ → Change → State → State
changes r row k change s = allowed r row k s (changing k change s)

-- the text of a file, where the file is there
abbrev pub file_text : State → List ℕ → Option (List ℕ)
file_text s p = text_in (s.resources (file_key p))

-- appends to a file that is there
abbrev pub appending : ℕ → List ℕ → List ℕ → Option (List ℕ) → State → State
appending row p t None s = faults row (MissingFile p) s
appending row p t (Some before) s =
    cond (is_short (before ++ t)) (changing (file_key p) (C.WriteFile (before ++ t)) s)
    (faults row TextTooLong s)

-- deletes a file that is there
abbrev pub deleting : ℕ → List ℕ → Option (List ℕ) → State → State
deleting row p None s = faults row (MissingFile p) s
deleting row p (Some before) s = changing (file_key p) C.DeleteFile s

-- a statement without a body, once its step is taken
abbrev pub performed : Rights → ℕ → Plain → State → State
performed r row (let_name x e) s = upon row (value r s e) s (λ d. declares row x d s)
performed r row (assign x e) s = upon row (then (value r s e) (assigned s.here.env.names x)) s
    (λ names. locally (with_names names) s)
performed r row (print e) s = upon row (value r s e) s (λ d. prints row (text_of d) s)
performed r row (assert e) s =
    upon row (flag_value r s e) s (λ holds. cond holds s (fails row assertion_message s))
performed r row (assert_equal a b) s =
    upon row (value r s a) s (λ x. upon row (value r s b) s (λ y. expects row x y s))
performed r row (assume e reason) s =
    upon row (flag_value r s e) s (λ holds. cond holds s (skips row reason s))
performed r row (fail message) s = fails row message s
performed r row (set_prop a b) s =
    upon row (text_values r s a b) s (λ xt. changes r row properties_key (C.SetProp xt.0 xt.1) s)
performed r row (clear_prop e) s =
    upon row (text_value r s e) s (λ x. changes r row properties_key (C.ClearProp x) s)
performed r row (set_locale e) s =
    upon row (text_value r s e) s (λ t. changes r row locale_key (C.SetLocale t) s)
performed r row (write_file a b) s =
    upon row (text_values r s a b) s (λ pt. changes r row (file_key pt.0) (C.WriteFile pt.1) s)
performed r row (append_file a b) s =
    upon row (text_values r s a b) s
    (λ pt. allowed r row (file_key pt.0) s (appending row pt.0 pt.1 (file_text s pt.0) s))
performed r row (delete_file e) s =
    upon row (text_value r s e) s
    (λ p. allowed r row (file_key p) s (deleting row p (file_text s p) s))

-- one step, and then f; with no step left the block ends
abbrev pub step_or_end : ℕ → ℕ → State → (State → State) → State
step_or_end row zero s f = runs_out row s
step_or_end row (suc n) s f = f (locally (with_steps n) s)

-- takes a step before all else, where the block goes on
abbrev pub taking : ℕ → State → (State → State) → State
taking row s f = cond (is_live s) (step_or_end row s.here.env.steps s f) s

-- drops the names past the first n
abbrev pub kept : ℕ → State → State
kept n s = locally (with_names (take n s.here.env.names)) s

-- the same, where the block goes on
abbrev pub keeping : ℕ → State → State
keeping n s = cond (is_live s) (kept n s) s

-- a body inside the block: its locals end with it
abbrev pub scoped : (State → State) → State → State
scoped f s = keeping (length s.here.env.names) (f s)

-- the turns of a `repeat`: the beginning of each is a step
abbrev pub turns : ℕ → ℕ → (State → State) → State → State
turns row zero f s = s
turns row (suc n) f s = turns row n f (taking row s f)

-- what the statements of a body do, in order, and what one does
abbrev mutual
  pub run : Rights → Acts → State → State
  run r no_acts s = s
  run r (act row a rest) s = run r rest (ran r row a s)

  pub ran : Rights → ℕ → Act → State → State
  ran r row (plain p) s = taking row s (performed r row p)
  ran r row (choice e a b) s =
      taking row s (λ s. upon row (flag_value r s e) s
      (λ holds. cond holds (scoped (run r a) s) (scoped (run r b) s)))
  ran r row (repeat e a) s =
      taking row s (λ s. upon row (count_value r s e) s (λ n. turns row n (scoped (run r a)) s))
