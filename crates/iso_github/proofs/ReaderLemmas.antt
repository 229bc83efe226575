-- GitHub reads back what was escaped for it.
use Rattle.std.proofs.Common.{◌≡◌, ℕ, List, [], ◌∷◌, ◌++◌, Option, Some, Bool, true, false, ◌==◌, cond, codes, refl, sym, ap, ◌∙◌, arith}
use Rattle.std.proofs.lemmas.Bool.Decides.{nat_tests}
use Rattle.iso_github.specs.Commands.{in_message, in_property, message_byte, property_byte}
use Rattle.iso_github.specs.Readers.{ends_message, ends_property, in_text, message_of, property_of, read_from, with_byte}

same : (b n : ℕ) → (b == n) ≡ true → b ≡ n
same b n e = grind (arith, nat_tests)

module _ (ends : ℕ → Bool) (t : List ℕ) where
  abbrev more : ℕ → Option (List ℕ)
  more b = with_byte (Some b) (read_from ends in_text t)

  -- a byte that ends nothing
  plain_back : (b : ℕ) → (b == 37) ≡ false → ends b ≡ false → read_from ends in_text (b ∷ t) ≡ more b
  plain_back b e f = rw (e, f) refl

  -- an escaped byte, where each other one ends nothing
  message_back : (b : ℕ) → ((b == 37) ≡ false → (b == 13) ≡ false → (b == 10) ≡ false → ends b ≡ false) → read_from ends in_text (message_byte b ++ t) ≡ more b
  message_back b fits = by (b == 37) (b == 13) (b == 10) refl refl refl
    where
      by : (p q r : Bool) → (b == 37) ≡ p → (b == 13) ≡ q → (b == 10) ≡ r
          → read_from ends in_text (cond p (codes "%25") (cond q (codes "%0D") (cond r (codes "%0A") (b ∷ []))) ++ t) ≡ more b
      by true q r e f g = ap more (sym (same b 37 e))
      by false true r e f g = ap more (sym (same b 13 f))
      by false false true e f g = ap more (sym (same b 10 g))
      by false false false e f g = plain_back b e (fits e f g)

  property_back : (b : ℕ) → ((b == 58) ≡ false → (b == 44) ≡ false → (b == 37) ≡ false → (b == 13) ≡ false → (b == 10) ≡ false → ends b ≡ false)
      → read_from ends in_text (property_byte b ++ t) ≡ more b
  property_back b fits = by (b == 58) (b == 44) refl refl
    where
      by : (p q : Bool) → (b == 58) ≡ p → (b == 44) ≡ q → read_from ends in_text (cond p (codes "%3A") (cond q (codes "%2C") (message_byte b)) ++ t) ≡ more b
      by true q e f = ap more (sym (same b 58 e))
      by false true e f = ap more (sym (same b 44 f))
      by false false e f = message_back b (fits e f)

pub message-back : (text : List ℕ) → message_of (in_message text) ≡ Some text
message-back [] = refl
message-back (b ∷ bs) =
    message_back ends_message (in_message bs) b (λ e f g. rw (g, f) refl) ∙ ap (with_byte (Some b)) (message-back bs)

pub property-back : (text : List ℕ) → property_of (in_property text) ≡ Some text
property-back [] = refl
property-back (b ∷ bs) =
    property_back ends_property (in_property bs) b (λ c d e f g. rw (c, d, g, f) refl) ∙ ap (with_byte (Some b)) (property-back bs)
