-- What the proofs of the examples need beside computation: the digits of the numbers printed, and what the properties answer.
use Rattle.std.proofs.Common.{◌≡◌, ◌∙◌, false, Some, None, codes, refl}
use Rattle.std.specs.Fmt.{digits}
use Rattle.std.specs.Cmp.Lexicographic.{nat_list_cmp_total, slice_cmp}
use Rattle.std.specs.Ordering.{nat_cmp}
use Rattle.std.specs.FinMap.{empty, get, insert, remove, get-empty, get-insert, get-remove}
use Rattle.iso_model.specs.Properties.{Map}

pub digits-1 : digits 10 false 1 ≡ codes "1"
unfolding digits
digits-1 = refl

pub digits-2 : digits 10 false 2 ≡ codes "2"
unfolding digits
digits-2 = refl

pub digits-3 : digits 10 false 3 ≡ codes "3"
unfolding digits
digits-3 = refl

pub digits-4 : digits 10 false 4 ≡ codes "4"
unfolding digits
digits-4 = refl

pub digits-5 : digits 10 false 5 ≡ codes "5"
unfolding digits
digits-5 = refl

pub ruleset numerals = (digits-1, digits-2, digits-3, digits-4, digits-5)

abbrev pub no_properties : Map
no_properties = empty

abbrev pub a_is_1 : Map
a_is_1 = insert no_properties (codes "a") (codes "1")

pub get-a_is_1 : get a_is_1 (codes "a") ≡ Some (codes "1")
get-a_is_1 = get-insert nat_list_cmp_total no_properties (codes "a") (codes "1") (codes "a")

pub get-a_is_x : get (insert a_is_1 (codes "a") (codes "x")) (codes "a") ≡ Some (codes "x")
get-a_is_x = get-insert nat_list_cmp_total a_is_1 (codes "a") (codes "x") (codes "a")

pub get-cleared : get (remove (remove a_is_1 (codes "a")) (codes "a")) (codes "a") ≡ None
get-cleared = get-remove nat_list_cmp_total (remove a_is_1 (codes "a")) (codes "a") (codes "a")

pub get-beside : get (remove (insert a_is_1 (codes "b") (codes "2")) (codes "b")) (codes "a") ≡ Some (codes "1")
get-beside =
    get-remove nat_list_cmp_total (insert a_is_1 (codes "b") (codes "2")) (codes "b") (codes "a")
    ∙ get-insert nat_list_cmp_total a_is_1 (codes "b") (codes "2") (codes "a")
    ∙ get-a_is_1

pub get-absent : get no_properties (codes "a") ≡ None
get-absent = get-empty (slice_cmp nat_cmp) (codes "a")

pub ruleset properties = (get-a_is_1, get-a_is_x, get-cleared, get-beside, get-absent)
