-- What a statement without a body does once its step is taken: one of a few effects, each on one thing.
use Rattle.std.proofs.Common.{◌≡◌, ℕ, List, [], ◌∷◌, ◌++◌, Option, Some, None, Result, Ok, Err, Bool, true, false, cond, is_some, refl}
use Rattle.iso_model.specs.ResourceKeys.{properties_key, locale_key, file_key}
use Rattle.iso_model.specs.Rights.{Rights, is_writable}
use Rattle.iso_model.specs.Names.{bound, binding_of, assigned}
use Rattle.iso_model.specs.Syntax.{Plain, let_name, assign, print, assert, assert_equal, assume, fail, set_prop, clear_prop, set_locale, write_file, append_file, delete_file, Act, plain, choice, repeat, Acts}
use Rattle.iso_model.specs.Texts.{text_of, assertion_message, difference_message}
use Rattle.iso_model.specs.Evaluation.{then, is_equal, is_short}
use Rattle.iso_model.specs.Statements.{State, value, text_value, text_values, flag_value, count_value, declares, prints, expects, changes, file_text, performed, faults, fails, skips, locally, with_names, with_line, changing, upon, allowed, appending, deleting, has_room}
use Rattle.iso_model.specs.Steps.{chosen, counted, begin}
use Rattle.iso_model.specs.declared.access.Access.TheVariants.{Write}
use Rattle.iso_model.specs.declared.data.Data.{Data}
use Rattle.iso_model.specs.declared.fault.Fault.{Fault}
use Rattle.iso_model.specs.declared.fault.Fault.TheVariants.{Undeclared, DoubleName, MissingFile, OutputFull, TextTooLong}
use Rattle.iso_model.specs.declared.names.Binding.{Binding}
use Rattle.iso_model.specs.declared.names.Sort.TheVariants as S
use Rattle.iso_model.specs.declared.resource.Change.{Change}
use Rattle.iso_model.specs.declared.resource.Change.TheVariants as C

-- from a state to the one after it
pub data Effect (r : Rights) (s : State) : State → Type 0 where
  nothing : Effect r s s
  local : (b : Binding) → Effect r s (locally (with_names (s.here.env.names ++ b ∷ [])) s)
  assignment : (x : List ℕ) (d : Data) (names : List Binding) → assigned s.here.env.names x d ≡ Ok names → Effect r s (locally (with_names names) s)
  line : (text : List ℕ) → has_room s.here text ≡ true → Effect r s (locally (with_line text) s)
  fault : (row : ℕ) (f : Fault) → Effect r s (faults row f s)
  failure : (row : ℕ) (message : List ℕ) → Effect r s (fails row message s)
  skip : (row : ℕ) (reason : List ℕ) → Effect r s (skips row reason s)
  change : (k : List ℕ) (c : Change) → is_writable (r k) ≡ true → Effect r s (changing k c s)

module _ (r : Rights) (s : State) where
  cond-effect : (b : Bool) (t u : State) → (b ≡ true → Effect r s t) → (b ≡ false → Effect r s u) → Effect r s (cond b t u)
  cond-effect true t u here there = here refl
  cond-effect false t u here there = there refl

  upon-effect : {A : Type 0} (row : ℕ) (x : Result A Fault) (f : A → State) → ((v : A) → x ≡ Ok v → Effect r s (f v)) → Effect r s (upon row x s f)
  upon-effect row (Ok v) f each = each v refl
  upon-effect row (Err e) f each = fault row e

  allowed-effect : (k : List ℕ) (row : ℕ) (after : State) → (is_writable (r k) ≡ true → Effect r s after) → Effect r s (allowed r row k s after)
  allowed-effect k row after may = cond-effect (is_writable (r k)) _ _ may (λ e. fault row (Undeclared Write k))

  changes-effect : (k : List ℕ) (row : ℕ) (c : Change) → Effect r s (changes r row k c s)
  changes-effect k row c = allowed-effect k row _ (change k c)

  appending-effect : (row : ℕ) (p t : List ℕ) (found : Option (List ℕ)) → is_writable (r (file_key p)) ≡ true → Effect r s (appending row p t found s)
  appending-effect row p t None w = fault row (MissingFile p)
  appending-effect row p t (Some text) w = cond-effect (is_short (text ++ t)) _ _ (λ e. change (file_key p) (C.WriteFile (text ++ t)) w) (λ e. fault row TextTooLong)

  deleting-effect : (row : ℕ) (p : List ℕ) (found : Option (List ℕ)) → is_writable (r (file_key p)) ≡ true → Effect r s (deleting row p found s)
  deleting-effect row p None w = fault row (MissingFile p)
  deleting-effect row p (Some text) w = change (file_key p) C.DeleteFile w

  declares-effect : (row : ℕ) (x : List ℕ) (d : Data) → Effect r s (declares row x d s)
  declares-effect row x d = cond-effect (is_some (binding_of s.here.env.names x)) _ _ (λ e. fault row (DoubleName x)) (λ e. local (bound S.Local x d))

  assigns-effect : (x : List ℕ) (v : Result Data Fault) (names : List Binding) → then v (assigned s.here.env.names x) ≡ Ok names → Effect r s (locally (with_names names) s)
  assigns-effect x (Ok d) names e = assignment x d names e
  assigns-effect x (Err f) names e = cc

  prints-effect : (row : ℕ) (text : List ℕ) → Effect r s (prints row text s)
  prints-effect row text = cond-effect (has_room s.here text) _ _ (line text) (λ e. fault row OutputFull)

  holds-effect : (b : Bool) (t : State) → Effect r s t → Effect r s (cond b s t)
  holds-effect b t e = cond-effect b s t (λ h. nothing) (λ h. e)

  expects-effect : (row : ℕ) (x y : Data) → Effect r s (expects row x y s)
  expects-effect row x y = upon-effect row (is_equal x y) _ (λ holds e. holds-effect holds _ (failure row (difference_message x y)))

  -- a statement without a body, once its step is taken
  pub performed-effect : (row : ℕ) (p : Plain) → Effect r s (performed r row p s)
  performed-effect row (let_name x e) = upon-effect row (value r s e) _ (λ d h. declares-effect row x d)
  performed-effect row (assign x e) = upon-effect row (then (value r s e) (assigned s.here.env.names x)) _ (assigns-effect x (value r s e))
  performed-effect row (print e) = upon-effect row (value r s e) _ (λ d h. prints-effect row (text_of d))
  performed-effect row (assert e) = upon-effect row (flag_value r s e) _ (λ holds h. holds-effect holds _ (failure row assertion_message))
  performed-effect row (assert_equal a b) = upon-effect row (value r s a) _ (λ x h. upon-effect row (value r s b) _ (λ y g. expects-effect row x y))
  performed-effect row (assume e reason) = upon-effect row (flag_value r s e) _ (λ holds h. holds-effect holds _ (skip row reason))
  performed-effect row (fail message) = failure row message
  performed-effect row (set_prop a b) = upon-effect row (text_values r s a b) _ (λ xt h. changes-effect properties_key row (C.SetProp xt.0 xt.1))
  performed-effect row (clear_prop e) = upon-effect row (text_value r s e) _ (λ x h. changes-effect properties_key row (C.ClearProp x))
  performed-effect row (set_locale e) = upon-effect row (text_value r s e) _ (λ t h. changes-effect locale_key row (C.SetLocale t))
  performed-effect row (write_file a b) = upon-effect row (text_values r s a b) _ (λ pt h. changes-effect (file_key pt.0) row (C.WriteFile pt.1))
  performed-effect row (append_file a b) = upon-effect row (text_values r s a b) _ (λ pt h. allowed-effect (file_key pt.0) row _ (appending-effect row pt.0 pt.1 (file_text s pt.0)))
  performed-effect row (delete_file e) = upon-effect row (text_value r s e) _ (λ p h. allowed-effect (file_key p) row _ (deleting-effect row p (file_text s p)))

  chosen-effect : (row : ℕ) (x : Result Bool Fault) (a b : Acts) → Effect r s (chosen row x a b s).state
  chosen-effect row (Ok v) a b = nothing
  chosen-effect row (Err e) a b = fault row e

  counted-effect : (row : ℕ) (x : Result ℕ Fault) (a : Acts) → Effect r s (counted row x a s).state
  counted-effect row (Ok v) a = nothing
  counted-effect row (Err e) a = fault row e

  -- any statement in its step
  pub begin-effect : (row : ℕ) (a : Act) → Effect r s (begin r row a s).state
  begin-effect row (plain p) = performed-effect row p
  begin-effect row (choice e a b) = chosen-effect row (flag_value r s e) a b
  begin-effect row (repeat e a) = counted-effect row (count_value r s e) a
