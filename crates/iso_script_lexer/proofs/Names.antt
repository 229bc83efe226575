-- A name is ASCII.
use Rattle.std.proofs.Common.{◌≡◌, ℕ, ◌<◌, List, [], ◌∷◌, take, Bool, true, false, refl, arith, one-add}
use Rattle.std.proofs.lemmas.Bool.Decides.{nat_tests}
use Rattle.std.proofs.lemmas.Str.Ascii.{IsAscii-nil, IsAscii-cons}
use Rattle.std.specs.List.{prefix_len}
use Rattle.std.specs.Str.{IsAscii}
use Rattle.iso_script_lexer.specs.Spelling.{in_name}

in_name-ascii : (b : ℕ) → in_name b ≡ true → b < 128
in_name-ascii b h = grind (arith, nat_tests)

pub name-IsAscii : (bs : List ℕ) → IsAscii (take (prefix_len in_name bs) bs)
name-IsAscii [] = IsAscii-nil
name-IsAscii (b ∷ bs) = go (in_name b) refl (name-IsAscii bs)
  where
    go : (t : Bool) → in_name b ≡ t → IsAscii (take (prefix_len in_name bs) bs) → IsAscii (take (prefix_len in_name (b ∷ bs)) (b ∷ bs))
    go true e h = rw (e, one-add) (IsAscii-cons b _ (in_name-ascii b e) h)
    go false e h = rw e IsAscii-nil
