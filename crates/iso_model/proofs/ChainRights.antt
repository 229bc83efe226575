-- The rights of a chain are those of its enclosing classes and more.
use Rattle.std.proofs.Common.{◌≡◌, ℕ, List, [], ◌∷◌, ◌++◌, Bool, true, false, Option, Some, None, refl, sym, ◌∙◌, true≢false}
use Rattle.iso_model.specs.ChainAgreement.{LooksWithin}
use Rattle.iso_model.specs.Chains.{ClassHead, TestHead, marks_of, class_rights, test_rights}
use Rattle.iso_model.specs.Rights.{strongest, declared_by, rights_of, is_readable, is_writable}
use Rattle.iso_model.specs.declared.access.Access.{Access}
use Rattle.iso_model.specs.declared.access.Access.TheVariants.{Read, Write}
use Rattle.iso_model.specs.declared.heads.Mark.{Mark}

strongest-readable : (a b : Option Access) → is_readable b ≡ true → is_readable (strongest a b) ≡ true
strongest-readable None b h = h
strongest-readable (Some a) None h = refl
strongest-readable (Some a) (Some b) h = refl

strongest-writable : (a b : Option Access) → is_writable b ≡ true → is_writable (strongest a b) ≡ true
strongest-writable None b h = h
strongest-writable (Some a) None h = absurd (true≢false (sym h))
strongest-writable (Some Read) (Some b) h = h
strongest-writable (Some Write) (Some b) h = refl

-- more marks let look and change wherever fewer do
more-readable : (ms ns : List Mark) (k : List ℕ) → is_readable (rights_of ns k) ≡ true → is_readable (rights_of (ms ++ ns) k) ≡ true
more-readable [] ns k h = h
more-readable (m ∷ ms) ns k h = strongest-readable (declared_by m k) (rights_of (ms ++ ns) k) (more-readable ms ns k h)

more-writable : (ms ns : List Mark) (k : List ℕ) → is_writable (rights_of ns k) ≡ true → is_writable (rights_of (ms ++ ns) k) ≡ true
more-writable [] ns k h = h
more-writable (m ∷ ms) ns k h = strongest-writable (declared_by m k) (rights_of (ms ++ ns) k) (more-writable ms ns k h)

fewer-locked_at : (ms ns : List Mark) (k : List ℕ) → is_writable (rights_of (ms ++ ns) k) ≡ false → (b : Bool) → is_writable (rights_of ns k) ≡ b → is_writable (rights_of ns k) ≡ false
fewer-locked_at ms ns k locked true e = absurd (true≢false (sym (more-writable ms ns k e) ∙ locked))
fewer-locked_at ms ns k locked false e = e

fewer-locked : (ms ns : List Mark) (k : List ℕ) → is_writable (rights_of (ms ++ ns) k) ≡ false → is_writable (rights_of ns k) ≡ false
fewer-locked ms ns k locked = fewer-locked_at ms ns k locked (is_writable (rights_of ns k)) refl

-- the enclosing classes of a class, and the classes of a test
pub outer-within : (c : ClassHead) (cs : List ClassHead) → LooksWithin (class_rights cs) (class_rights (c ∷ cs))
outer-within c cs = record { looks = more-readable c.marks (marks_of cs) }

pub classes-within : (t : TestHead) (cs : List ClassHead) → LooksWithin (class_rights cs) (test_rights t cs)
classes-within t cs = record { looks = more-readable t.marks (marks_of cs) }

pub outer-locked : (c : ClassHead) (cs : List ClassHead) (k : List ℕ) → is_writable (class_rights (c ∷ cs) k) ≡ false → is_writable (class_rights cs k) ≡ false
outer-locked c cs = fewer-locked c.marks (marks_of cs)

pub within-self : (c : ClassHead) (cs : List ClassHead) → LooksWithin (class_rights (c ∷ cs)) (class_rights (c ∷ cs))
within-self c cs = record { looks = λ k h. h }

pub within-trans : (c : ClassHead) (cs : List ClassHead) (r : List ℕ → Option Access) → LooksWithin (class_rights (c ∷ cs)) r → LooksWithin (class_rights cs) r
within-trans c cs r within = record { looks = λ k h. within.looks k ((outer-within c cs).looks k h) }
