-- What the proofs of the examples need beside computation: what the maps of files answer.
use Rattle.std.proofs.Common.{◌≡◌, ◌≤◌, ◌<◌, ◌∙◌, ℕ, List, length, Some, None, true, false, codes, arith}
use Rattle.std.proofs.lemmas.Bool.Decides.{nat_tests}
use Rattle.std.specs.Cmp.Lexicographic.{nat_list_cmp_total, slice_cmp}
use Rattle.std.specs.Ordering.{nat_cmp}
use Rattle.std.specs.FinMap.{empty, get, insert, get-empty, get-insert}
use Rattle.iso_model.specs.Properties.{Map}
use Rattle.iso_model.specs.declared.limits.TheConstants.{TEXT_BYTES}
use Rattle.iso_settings.specs.Worlds.{is_long}

abbrev none : Map
none = empty

abbrev one : Map
one = insert none (codes "a.b") (codes "t")

pub get-one : get one (codes "a.b") ≡ Some (codes "t")
get-one = get-insert nat_list_cmp_total none (codes "a.b") (codes "t") (codes "a.b")

pub get-other : get one (codes "a") ≡ None
get-other = get-insert nat_list_cmp_total none (codes "a.b") (codes "t") (codes "a") ∙ get-empty (slice_cmp nat_cmp) (codes "a")

pub get-none-ab : get none (codes "a.b") ≡ None
get-none-ab = get-empty (slice_cmp nat_cmp) (codes "a.b")

pub get-none-a : get none (codes "a") ≡ None
get-none-a = get-empty (slice_cmp nat_cmp) (codes "a")

pub get-none : (k : List ℕ) → get none k ≡ None
get-none k = get-empty (slice_cmp nat_cmp) k

-- a text is long, or it isn't
pub is_long-true : (t : List ℕ) → TEXT_BYTES < length t → is_long t ≡ true
is_long-true t h = grind (arith, nat_tests)

pub is_long-false : (t : List ℕ) → length t ≤ TEXT_BYTES → is_long t ≡ false
is_long-false t h = grind (arith, nat_tests)

pub ruleset limits = (get-none, is_long-true, is_long-false)

pub ruleset files = (get-one, get-other, get-none-ab, get-none-a)
