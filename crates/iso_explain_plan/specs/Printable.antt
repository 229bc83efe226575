-- Lines of printable bytes.
use Rattle.std.specs.Prelude.{◌≡◌, ◌<◌, ◌^◌, ℕ, ◌+◌, List, [], ◌∷◌, ◌++◌, true}
use Rattle.std.specs.Int.{is_in_range}
use Rattle.std.specs.List.{list_all}
use Rattle.iso_explain_plan.specs.declared.size.Size.{Size}

-- each byte of a text is printable ASCII
abbrev pub IsPrintable : List ℕ → Type 0
IsPrintable text = list_all (is_in_range 32 126) text ≡ true

-- a text is this number of lines of printable bytes, each with its line feed
pub data AreLines : ℕ → List ℕ → Type 0 where
  no_line : AreLines 0 []
  next_line : {n : ℕ} {t : List ℕ} (l : List ℕ) → IsPrintable l → AreLines n t
      → AreLines (n + 1) (l ++ 10 ∷ t)

-- each of some texts is printable
abbrev pub ArePrintable : List (List ℕ) → Type 0
ArePrintable [] = Unit {0}
ArePrintable (t ∷ ts) = IsPrintable t × ArePrintable ts

-- numbers of classes are such as the code has
abbrev pub AreCounts : List Size → Type 0
AreCounts [] = Unit {0}
AreCounts (s ∷ ss) = (s.count < 2 ^ 64) × AreCounts ss
