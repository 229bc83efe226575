-- Over resources that agree where the rights let a block look, it has equal results.
use Rattle.std.proofs.Common.{◌≡◌, ℕ, List, [], ◌∷◌, Bool, true, false, cond, Option, Some, None, Result, Ok, Err, is_some, option_map, unwrap_or, refl, sym, ap, ◌∙◌, bytes_eq, true≢false}
use Rattle.iso_model.specs.ResourceKeys.{properties_key, locale_key, file_key}
use Rattle.iso_model.specs.Rights.{Rights, is_readable, is_writable}
use Rattle.iso_model.specs.Resources.{Resources, property_in, text_in, locale_in, changed, changed_at}
use Rattle.iso_model.specs.ChainAgreement.{EqualAt}
use Rattle.iso_model.specs.Syntax.{Term, literal, name, chain, compare, call, locale, Terms, no_terms, term}
use Rattle.iso_model.specs.Evaluation.{then, or_fault, as_text, looked, called, compared, joined_all, evaluated, evaluated_all}
use Rattle.iso_model.specs.declared.access.Access.{Access}
use Rattle.iso_model.specs.declared.access.Access.TheVariants.{Read}
use Rattle.iso_model.specs.declared.data.Data.{Data}
use Rattle.iso_model.specs.declared.data.Data.TheVariants.{Flag, Text}
use Rattle.iso_model.specs.declared.fault.Fault.{Fault}
use Rattle.iso_model.specs.declared.fault.Fault.TheVariants.{Undeclared, MissingProperty, MissingFile}
use Rattle.iso_model.specs.declared.names.Binding.{Binding}
use Rattle.iso_model.specs.declared.resource.Change.{Change}
use Rattle.iso_model.specs.declared.resource.Resource.{Resource}
use Rattle.iso_model.specs.declared.tree.Function.{Function}
use Rattle.iso_model.specs.declared.tree.Function.TheVariants as F

looked-agree_at : {A : Type 0} (b : Bool) (k : List ℕ) (found : Option Resource → Result A Fault) (x y : Option Resource)
    → (b ≡ true → x ≡ y) → cond b (found x) (Err (Undeclared Read k)) ≡ cond b (found y) (Err (Undeclared Read k))
looked-agree_at true k found x y same = ap found (same refl)
looked-agree_at false k found x y same = refl

looked-agree : {A : Type 0} (r : Rights) (m n : Resources) → EqualAt r m n → (k : List ℕ) (found : Option Resource → Result A Fault) → looked r k (found (m k)) ≡ looked r k (found (n k))
looked-agree r m n agree k found = looked-agree_at (is_readable (r k)) k found (m k) (n k) (agree.same k)

pub then-agree : {A B : Type 0} (x y : Result A Fault) (f g : A → Result B Fault) → x ≡ y → ((a : A) → f a ≡ g a) → then x f ≡ then y g
then-agree (Ok a) y f g e same = same a ∙ ap (λ z. then z g) e
then-agree (Err fault) y f g e same = ap (λ z. then z g) e

called-agree : (r : Rights) (m n : Resources) → EqualAt r m n → (f : Function) (d : Data) → called m r f d ≡ called n r f d
called-agree r m n agree F.Text d = refl
called-agree r m n agree F.Len d = refl
called-agree r m n agree F.Prop d = then-agree (as_text d) (as_text d) _ _ refl (λ x. looked-agree r m n agree properties_key (λ o. or_fault (option_map Text (property_in o x)) (MissingProperty x)))
called-agree r m n agree F.HasProp d = then-agree (as_text d) (as_text d) _ _ refl (λ x. looked-agree r m n agree properties_key (λ o. Ok (Flag (is_some (property_in o x)))))
called-agree r m n agree F.File d = then-agree (as_text d) (as_text d) _ _ refl (λ p. looked-agree r m n agree (file_key p) (λ o. or_fault (option_map Text (text_in o)) (MissingFile p)))
called-agree r m n agree F.HasFile d = then-agree (as_text d) (as_text d) _ _ refl (λ p. looked-agree r m n agree (file_key p) (λ o. Ok (Flag (is_some (text_in o)))))

mutual
  -- an expression gives the same over both
  pub evaluated-agree : (names : List Binding) (r : Rights) (m n : Resources) → EqualAt r m n → (e : Term) → evaluated names m r e ≡ evaluated names n r e
  evaluated-agree names r m n agree (literal d) = refl
  evaluated-agree names r m n agree (name x) = refl
  evaluated-agree names r m n agree (chain op e es) =
      then-agree _ _ _ _ (evaluated-agree names r m n agree e) (λ x. ap (λ z. then z (λ ys. joined_all op x ys)) (evaluated_all-agree names r m n agree es))
  evaluated-agree names r m n agree (compare c a b) =
      then-agree _ _ _ _ (evaluated-agree names r m n agree a) (λ x. ap (λ z. then z (λ y. then (compared c x y) (λ holds. Ok (Flag holds)))) (evaluated-agree names r m n agree b))
  evaluated-agree names r m n agree (call f e) = then-agree _ _ _ _ (evaluated-agree names r m n agree e) (called-agree r m n agree f)
  evaluated-agree names r m n agree locale = looked-agree r m n agree locale_key (λ o. Ok (Text (unwrap_or (locale_in o) [])))

  pub evaluated_all-agree : (names : List Binding) (r : Rights) (m n : Resources) → EqualAt r m n → (es : Terms) → evaluated_all names m r es ≡ evaluated_all names n r es
  evaluated_all-agree names r m n agree no_terms = refl
  evaluated_all-agree names r m n agree (term e es) =
      then-agree _ _ _ _ (evaluated-agree names r m n agree e) (λ d. ap (λ z. then z (λ ds. Ok (d ∷ ds))) (evaluated_all-agree names r m n agree es))

-- a change keeps two maps in agreement
pub agree-changed : (r : Rights) (m n : Resources) → EqualAt r m n → (k : List ℕ) (change : Change) → EqualAt r (changed_at m k change) (changed_at n k change)
agree-changed r m n agree k change = record { same = λ q readable. ap (λ (o : Option Resource). cond (bytes_eq q k) (option_map (changed change) o) o) (agree.same q readable) }

-- what may be changed may be looked at
pub writable-readable : (a : Option Access) → is_writable a ≡ true → is_readable a ≡ true
writable-readable None w = absurd (true≢false (sym w))
writable-readable (Some a) w = refl

-- what may not be looked at may not be changed
pub unreadable-locked : (a : Option Access) → is_readable a ≡ false → is_writable a ≡ false
unreadable-locked None h = refl
unreadable-locked (Some a) h = absurd (true≢false h)
