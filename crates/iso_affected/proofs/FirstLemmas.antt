-- The first place where two lists differ.
use Rattle.std.proofs.Common.{◌≡◌, ℕ, ◌+◌, List, [], ◌∷◌, get_or, take, Option, Some, None, refl, sym, ap, ◌∙◌, subst, arith}
use Rattle.std.proofs.lemmas.List.{get_or-take}
use Rattle.iso_affected.specs.Firsts.{AreRowsApart, ApartAt, IsFirst}
use Rattle.iso_affected.specs.Parts.{statements}
use Rattle.iso_affected.specs.declared.firsts.RowsApart.{RowsApart}
use Rattle.iso_model.specs.Syntax.{Act, Acts, no_acts, act}
use Rattle.iso_model.specs.SyntaxView.{acts_of}

module _ {A : Type 0} (xs ys : List A) where
  -- where what stands at a place differs, the lists do there
  pub apart-here : (i : ℕ) (d : A) → (get_or xs i d ≡ get_or ys i d → ⊥) → take i xs ≡ take i ys → ApartAt xs ys i
  apart-here i d apart before =
      record {
        before = before;
        here = λ same. apart (sym (get_or-take (i + 1) xs i d (omega arith)) ∙ ap (λ (zs : List A). get_or zs i d) same ∙ get_or-take (i + 1) ys i d (omega arith));
      }

  -- equal lists differ nowhere
  pub none-first : (o : Option ℕ) → IsFirst xs ys o → xs ≡ ys → o ≡ None
  none-first None is same = refl
  none-first (Some place) is same = absurd (is.here (ap (take (place + 1)) same))

  pub first-none : (o : Option ℕ) → IsFirst xs ys o → o ≡ None → xs ≡ ys
  first-none None is e = is
  first-none (Some place) is e = let wrong : Some place ≡ None = e in absurd (cc)

-- the same of rows
pub no-rows : (xs ys : List (ℕ × Act)) (o : Option RowsApart) → AreRowsApart xs ys o → xs ≡ ys → o ≡ None
no-rows xs ys None is same = refl
no-rows xs ys (Some rows) is same = absurd (is.apart.here (ap (take (is.place + 1)) same))

pub rows-none : (xs ys : List (ℕ × Act)) (o : Option RowsApart) → AreRowsApart xs ys o → o ≡ None → xs ≡ ys
rows-none xs ys None is e = is
rows-none xs ys (Some rows) is e = let wrong : Some rows ≡ None = e in absurd (cc)

-- the statements of a block tell it
pub statements-of : (ps : List (ℕ × Act)) → statements (acts_of ps) ≡ ps
statements-of [] = refl
statements-of (p ∷ ps) = ap (λ (qs : List (ℕ × Act)). p ∷ qs) (statements-of ps)

pub block-of : (a : Acts) → acts_of (statements a) ≡ a
block-of no_acts = refl
block-of (act row form rest) = ap (act row form) (block-of rest)

pub blocks-tell : (a b : Acts) → statements a ≡ statements b → a ≡ b
blocks-tell a b e = sym (block-of a) ∙ ap acts_of e ∙ block-of b

-- what differs of the statements of two blocks does so of the blocks
pub rows-of : (ps qs : List (ℕ × Act)) (a b : Acts) (o : Option RowsApart) → acts_of ps ≡ a → acts_of qs ≡ b → AreRowsApart ps qs o → AreRowsApart (statements a) (statements b) o
rows-of ps qs a b o e f rows =
    subst (λ (xs : List (ℕ × Act)). AreRowsApart xs (statements b) o) (sym (statements-of ps) ∙ ap statements e)
    (subst (λ (ys : List (ℕ × Act)). AreRowsApart ps ys o) (sym (statements-of qs) ∙ ap statements f) rows)
