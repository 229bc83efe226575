-- Which characters no reader sees, as the table of general categories has them.
use Rattle.std.proofs.Common.{◌≡◌, ◌<◌, ◌≤◌, ℕ, Bool, true, false, refl, sym, ◌∙◌, arith}
use Rattle.std.proofs.lemmas.Bool.Decides.{nat_tests}
use Rattle.std.specs.Bool.{beq}
use Rattle.std.specs.Char.{is_control}
use Rattle.ucd_category.proofs.GeneralCategoryLemmas.{general_category_stepped}
use Rattle.ucd_category.specs.GeneralCategory.{general_category}
use Rattle.ucd_table.proofs.Computing.{tables}
use Rattle.ucd_table.proofs.Facts.{Stepped-everywhere, same_from_beq}
use Rattle.ucd_table.proofs.Stepped.{of_ranges, zip_stepped}
use Rattle.ucd_table.specs.Rows.{in_ranges}
use Rattle.iso_summary.specs.Unseen.{is_unseen, is_unseen_category, unseen_ranges}

-- by a computation over the whole table
pub unseen-ranges : (c : ℕ) → is_unseen c ≡ in_ranges unseen_ranges c
unfolding tables general_category_stepped
unseen-ranges c =
    let both = zip_stepped (λ category within. beq (is_unseen_category category) within) general_category (in_ranges unseen_ranges)
    general_category_stepped (of_ranges unseen_ranges refl) in
    same_from_beq _ _ (Stepped-everywhere _ both refl c)

ascii_in_none : (c : ℕ) → 32 ≤ c → c < 127 → in_ranges unseen_ranges c ≡ false
unfolding in_ranges
ascii_in_none c from to = grind (arith, nat_tests)

pub ascii-is-seen : (c : ℕ) → 32 ≤ c → c < 127 → is_unseen c ≡ false
ascii-is-seen c from to = unseen-ranges c ∙ ascii_in_none c from to

control_in_one : (c : ℕ) → is_control c ≡ true → in_ranges unseen_ranges c ≡ true
unfolding in_ranges
control_in_one c h = grind (arith, nat_tests)

pub control-is-unseen : (c : ℕ) → is_control c ≡ true → is_unseen c ≡ true
control-is-unseen c h = unseen-ranges c ∙ control_in_one c h

pub seen-is-no-control : (c : ℕ) → is_unseen c ≡ false → is_control c ≡ false
seen-is-no-control c h = by (is_control c) refl
  where
    by : (t : Bool) → is_control c ≡ t → t ≡ false
    by true e = let clash : true ≡ false = sym (control-is-unseen c e) ∙ h in clash
    by false e = refl
