-- Codes of expressions and statements, by which what a Model's Value holds may be what they say.
use Rattle.std.specs.Prelude.{◌≡◌, ℕ, List, refl}
use Rattle.std.specs.Coded.{Coded, coded_list, coded_ℕ}
use mathlib.Core.Path.{ap, ap₂}
use base.Stored.{Gv, gnil, gnum, gcons}
use Rattle.iso_model.specs.Syntax.{Term, literal, name, chain, compare, call, locale, Terms, no_terms, term, Plain, let_name, assign, print, assert, assert_equal, assume, fail, set_prop, clear_prop, set_locale, write_file, append_file, delete_file, Act, plain, choice, repeat, Acts, no_acts, act}
use Rattle.iso_model.specs.contracts.data.Data as datum
use Rattle.iso_model.specs.contracts.tree.Comparison as comparison
use Rattle.iso_model.specs.contracts.tree.Function as function
use Rattle.iso_model.specs.contracts.tree.Operator as operator

-- the parts of a tree of numbers
abbrev first : Gv → Gv
first (gcons a b) = a
first g = gnil

abbrev rest : Gv → Gv
rest (gcons a b) = b
rest g = gnil

abbrev number : Gv → ℕ
number (gnum n) = n
number g = 0

-- the number of the constructor, which stands first
abbrev tag : Gv → ℕ
tag g = number (first g)

abbrev pub text_tree : List ℕ → Gv
text_tree x = (coded_list coded_ℕ).code x

pub text-inj : (x y : List ℕ) → text_tree x ≡ text_tree y → x ≡ y
text-inj x y p = (coded_list coded_ℕ).inj x y p

ap₃ : {A B C D : Type 0} (f : A → B → C → D) {a a' : A} {b b' : B} {c c' : C} → a ≡ a' → b ≡ b'
    → c ≡ c' → f a b c ≡ f a' b' c'
ap₃ f p q r = λ i. f (p i) (q i) (r i)

abbrev mutual
  pub term_tree : Term → Gv
  term_tree (literal d) = gcons (gnum 0) (datum.the_row.coded.code d)
  term_tree (name x) = gcons (gnum 1) (text_tree x)
  term_tree (chain op t ts) =
      gcons (gnum 2) (gcons (operator.the_row.coded.code op) (gcons (term_tree t) (terms_tree ts)))
  term_tree (compare c t u) =
      gcons (gnum 3) (gcons (comparison.the_row.coded.code c) (gcons (term_tree t) (term_tree u)))
  term_tree (call f t) = gcons (gnum 4) (gcons (function.the_row.coded.code f) (term_tree t))
  term_tree locale = gcons (gnum 5) gnil

  pub terms_tree : Terms → Gv
  terms_tree no_terms = gnil
  terms_tree (term t ts) = gcons (term_tree t) (terms_tree ts)

mutual
  pub term-inj : (x y : Term) → term_tree x ≡ term_tree y → x ≡ y
  term-inj (literal d) (literal e) p = ap literal (datum.the_row.coded.inj d e (ap rest p))
  term-inj (name x) (name y) p = ap name (text-inj x y (ap rest p))
  term-inj (chain op t ts) (chain or u us) p =
      ap₃ chain (operator.the_row.coded.inj op or (ap (λ g. first (rest g)) p))
      (term-inj t u (ap (λ g. first (rest (rest g))) p))
      (terms-inj ts us (ap (λ g. rest (rest (rest g))) p))
  term-inj (compare c t u) (compare d v w) p =
      ap₃ compare (comparison.the_row.coded.inj c d (ap (λ g. first (rest g)) p))
      (term-inj t v (ap (λ g. first (rest (rest g))) p))
      (term-inj u w (ap (λ g. rest (rest (rest g))) p))
  term-inj (call f t) (call h u) p =
      ap₂ call (function.the_row.coded.inj f h (ap (λ g. first (rest g)) p))
      (term-inj t u (ap (λ g. rest (rest g)) p))
  term-inj locale locale p = refl
  term-inj x y p = let tags : tag (term_tree x) ≡ tag (term_tree y) = ap tag p in absurd cc

  pub terms-inj : (x y : Terms) → terms_tree x ≡ terms_tree y → x ≡ y
  terms-inj no_terms no_terms p = refl
  terms-inj (term t ts) (term u us) p =
      ap₂ term (term-inj t u (ap first p)) (terms-inj ts us (ap rest p))
  terms-inj x y p = absurd cc

abbrev pub plain_tree : Plain → Gv
plain_tree (let_name x t) = gcons (gnum 0) (gcons (text_tree x) (term_tree t))
plain_tree (assign x t) = gcons (gnum 1) (gcons (text_tree x) (term_tree t))
plain_tree (print t) = gcons (gnum 2) (term_tree t)
plain_tree (assert t) = gcons (gnum 3) (term_tree t)
plain_tree (assert_equal t u) = gcons (gnum 4) (gcons (term_tree t) (term_tree u))
plain_tree (assume t x) = gcons (gnum 5) (gcons (term_tree t) (text_tree x))
plain_tree (fail x) = gcons (gnum 6) (text_tree x)
plain_tree (set_prop t u) = gcons (gnum 7) (gcons (term_tree t) (term_tree u))
plain_tree (clear_prop t) = gcons (gnum 8) (term_tree t)
plain_tree (set_locale t) = gcons (gnum 9) (term_tree t)
plain_tree (write_file t u) = gcons (gnum 10) (gcons (term_tree t) (term_tree u))
plain_tree (append_file t u) = gcons (gnum 11) (gcons (term_tree t) (term_tree u))
plain_tree (delete_file t) = gcons (gnum 12) (term_tree t)

-- what stands after the constructor's number: one part, or two
two : {A B C : Type 0} (f : A → B → C) {a a' : A} {b b' : B} {g h : Gv}
    → (first (rest g) ≡ first (rest h) → a ≡ a') → (rest (rest g) ≡ rest (rest h) → b ≡ b') → g ≡ h
    → f a b ≡ f a' b'
two f p q e = ap₂ f (p (ap (λ g. first (rest g)) e)) (q (ap (λ g. rest (rest g)) e))

pub plain-inj : (x y : Plain) → plain_tree x ≡ plain_tree y → x ≡ y
plain-inj (let_name x t) (let_name y u) p = two let_name (text-inj x y) (term-inj t u) p
plain-inj (assign x t) (assign y u) p = two assign (text-inj x y) (term-inj t u) p
plain-inj (print t) (print u) p = ap print (term-inj t u (ap rest p))
plain-inj (assert t) (assert u) p = ap assert (term-inj t u (ap rest p))
plain-inj (assert_equal t u) (assert_equal v w) p = two assert_equal (term-inj t v) (term-inj u w) p
plain-inj (assume t x) (assume u y) p = two assume (term-inj t u) (text-inj x y) p
plain-inj (fail x) (fail y) p = ap fail (text-inj x y (ap rest p))
plain-inj (set_prop t u) (set_prop v w) p = two set_prop (term-inj t v) (term-inj u w) p
plain-inj (clear_prop t) (clear_prop u) p = ap clear_prop (term-inj t u (ap rest p))
plain-inj (set_locale t) (set_locale u) p = ap set_locale (term-inj t u (ap rest p))
plain-inj (write_file t u) (write_file v w) p = two write_file (term-inj t v) (term-inj u w) p
plain-inj (append_file t u) (append_file v w) p = two append_file (term-inj t v) (term-inj u w) p
plain-inj (delete_file t) (delete_file u) p = ap delete_file (term-inj t u (ap rest p))
plain-inj x y p = let tags : tag (plain_tree x) ≡ tag (plain_tree y) = ap tag p in absurd cc

-- the tree of a statement: the number of its form, then its parts; of statements one after another,
-- each with its row
abbrev mutual
  pub act_tree : Act → Gv
  act_tree (plain s) = gcons (gnum 0) (plain_tree s)
  act_tree (choice t a b) = gcons (gnum 1) (gcons (term_tree t) (gcons (acts_tree a) (acts_tree b)))
  act_tree (repeat t a) = gcons (gnum 2) (gcons (term_tree t) (acts_tree a))

  pub acts_tree : Acts → Gv
  acts_tree no_acts = gnil
  acts_tree (act row a us) = gcons (gnum row) (gcons (act_tree a) (acts_tree us))

mutual
  pub act-inj : (x y : Act) → act_tree x ≡ act_tree y → x ≡ y
  act-inj (plain s) (plain r) p = ap plain (plain-inj s r (ap rest p))
  act-inj (choice t a b) (choice u c d) p =
      ap₃ choice (term-inj t u (ap (λ g. first (rest g)) p))
      (acts-inj a c (ap (λ g. first (rest (rest g))) p))
      (acts-inj b d (ap (λ g. rest (rest (rest g))) p))
  act-inj (repeat t a) (repeat u c) p = ap₂ repeat (term-inj t u (ap (λ g. first (rest g)) p))
      (acts-inj a c (ap (λ g. rest (rest g)) p))
  act-inj x y p = let tags : tag (act_tree x) ≡ tag (act_tree y) = ap tag p in absurd cc

  pub acts-inj : (x y : Acts) → acts_tree x ≡ acts_tree y → x ≡ y
  acts-inj no_acts no_acts p = refl
  acts-inj (act n a us) (act m b ws) p = ap₃ act (ap (λ g. number (first g)) p)
      (act-inj a b (ap (λ g. first (rest g)) p)) (acts-inj us ws (ap (λ g. rest (rest g)) p))
  acts-inj x y p = absurd cc

abbrev pub acts_code : Coded Acts
acts_code = record { code = acts_tree; inj = acts-inj }
