-- Marks may be taken together in any order.
use Rattle.std.proofs.Common.{◌≡◌, ℕ, List, [], ◌∷◌, ◌++◌, Option, Some, None, refl, sym, ap, ◌∙◌}
use Rattle.iso_model.specs.Rights.{stronger, strongest, declared_by, rights_of}
use Rattle.iso_model.specs.declared.access.Access.{Access}
use Rattle.iso_model.specs.declared.access.Access.TheVariants.{Read, Write}
use Rattle.iso_model.specs.declared.heads.Mark.{Mark}

stronger-assoc : (a b c : Access) → stronger (stronger a b) c ≡ stronger a (stronger b c)
stronger-assoc Read b c = refl
stronger-assoc Write b c = refl

stronger-comm : (a b : Access) → stronger a b ≡ stronger b a
stronger-comm Read Read = refl
stronger-comm Read Write = refl
stronger-comm Write Read = refl
stronger-comm Write Write = refl

pub strongest-none : (a : Option Access) → strongest a None ≡ a
strongest-none None = refl
strongest-none (Some a) = refl

pub strongest-assoc : (a b c : Option Access) → strongest (strongest a b) c ≡ strongest a (strongest b c)
strongest-assoc None b c = refl
strongest-assoc (Some a) None c = refl
strongest-assoc (Some a) (Some b) None = refl
strongest-assoc (Some a) (Some b) (Some c) = ap Some (stronger-assoc a b c)

pub strongest-comm : (a b : Option Access) → strongest a b ≡ strongest b a
strongest-comm None None = refl
strongest-comm None (Some b) = refl
strongest-comm (Some a) None = refl
strongest-comm (Some a) (Some b) = ap Some (stronger-comm a b)

-- what is declared first may be taken with what is known already
pub strongest-move : (a b c : Option Access) → strongest (strongest a b) c ≡ strongest b (strongest a c)
strongest-move a b c = ap (λ x. strongest x c) (strongest-comm a b) ∙ strongest-assoc b a c

pub rights_of-append : (ms ns : List Mark) (k : List ℕ) → rights_of (ms ++ ns) k ≡ strongest (rights_of ms k) (rights_of ns k)
rights_of-append [] ns k = refl
rights_of-append (m ∷ ms) ns k = ap (strongest (declared_by m k)) (rights_of-append ms ns k) ∙ sym (strongest-assoc (declared_by m k) (rights_of ms k) (rights_of ns k))
