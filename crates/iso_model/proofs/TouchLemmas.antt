-- What a change leaves, and what is looked at after it.
use Rattle.std.proofs.Common.{◌≡◌, ℕ, List, Option, Some, None, option_map, is_some, Bool, true, false, true≢false, cond, bytes_eq, Bor, refl, sym, ap, ◌∙◌}
use Rattle.std.specs.FinMap.{get, insert, remove, get-insert, get-remove}
use Rattle.std.proofs.lemmas.Cmp.{nat_list_cmp_total}
use Rattle.std.proofs.lemmas.Map.Text.{is_eq-slice_cmp}
use Rattle.std.proofs.lemmas.Slice.Eq.{bytes_eq-Decides}
use Rattle.iso_model.specs.Properties.{Map}
use Rattle.iso_model.specs.Resources.{Resources, property_in, text_in, locale_in, changed, changed_at}
use Rattle.iso_model.specs.Touch.{HasKind, Kind, properties, locale, file, answered, kind_of_value}
use Rattle.iso_model.specs.declared.resource.Ask.TheVariants as A
use Rattle.iso_model.specs.declared.resource.Change.{Change}
use Rattle.iso_model.specs.declared.resource.Change.TheVariants as C
use Rattle.iso_model.specs.declared.resource.Resource.{Resource}
use Rattle.iso_model.specs.declared.resource.Resource.TheVariants as R

pub changed_at-other : (m : Resources) (k q : List ℕ) (change : Change) → bytes_eq q k ≡ false → changed_at m k change q ≡ m q
changed_at-other m k q change other = rw other

-- a change keeps the kind of a value
pub changed-kind : (c : Change) (v : Resource) → kind_of_value (changed c v) ≡ kind_of_value v
changed-kind (C.SetProp x t) (R.Props p) = refl
changed-kind (C.SetProp x t) (R.Locale l) = refl
changed-kind (C.SetProp x t) (R.File f) = refl
changed-kind (C.SetProp x t) R.Plain = refl
changed-kind (C.ClearProp x) (R.Props p) = refl
changed-kind (C.ClearProp x) (R.Locale l) = refl
changed-kind (C.ClearProp x) (R.File f) = refl
changed-kind (C.ClearProp x) R.Plain = refl
changed-kind (C.SetLocale t) (R.Props p) = refl
changed-kind (C.SetLocale t) (R.Locale l) = refl
changed-kind (C.SetLocale t) (R.File f) = refl
changed-kind (C.SetLocale t) R.Plain = refl
changed-kind (C.WriteFile t) (R.Props p) = refl
changed-kind (C.WriteFile t) (R.Locale l) = refl
changed-kind (C.WriteFile t) (R.File f) = refl
changed-kind (C.WriteFile t) R.Plain = refl
changed-kind C.DeleteFile (R.Props p) = refl
changed-kind C.DeleteFile (R.Locale l) = refl
changed-kind C.DeleteFile (R.File f) = refl
changed-kind C.DeleteFile R.Plain = refl

kind_at : (b : Bool) (c : Change) (o : Option Resource) → option_map kind_of_value (cond b (option_map (changed c) o) o) ≡ option_map kind_of_value o
kind_at true c None = refl
kind_at true c (Some v) = ap Some (changed-kind c v)
kind_at false c o = refl

pub changed_at-kind : (m : Resources) (k q : List ℕ) (change : Change) → option_map kind_of_value (changed_at m k change q) ≡ option_map kind_of_value (m q)
changed_at-kind m k q change = kind_at (bytes_eq q k) change (m q)

pub ruleset leaving = (changed_at-other, changed_at-kind)

pub changed_at-same : (m : Resources) (k : List ℕ) (change : Change) → changed_at m k change k ≡ option_map (changed change) (m k)
changed_at-same m k change = ap (λ (b : Bool). cond b (option_map (changed change) (m k)) (m k)) ((bytes_eq-Decides k k).1 refl)

-- a map's text at a name, after it was set or cleared at one
get-set : (p : Map) (x t q : List ℕ) → get (insert p x t) q ≡ cond (bytes_eq q x) (Some t) (get p q)
get-set p x t q = get-insert nat_list_cmp_total p x t q ∙ ap (λ (b : Bool). cond b (Some t) (get p q)) (is_eq-slice_cmp q x)

get-cleared : (p : Map) (x q : List ℕ) → get (remove p x) q ≡ cond (bytes_eq q x) None (get p q)
get-cleared p x q = get-remove nat_list_cmp_total p x q ∙ ap (λ (b : Bool). cond b None (get p q)) (is_eq-slice_cmp q x)

same : (x : List ℕ) → bytes_eq x x ≡ true
same x = (bytes_eq-Decides x x).1 refl

no_kind : {A : Type 0} (kind : Kind) → HasKind None kind → A
no_kind kind e = absurd (true≢false (sym (ap is_some e)))

set_in : (o : Option Resource) (x t : List ℕ) → HasKind o properties → property_in (option_map (changed (C.SetProp x t)) o) x ≡ Some t
set_in None x t e = no_kind properties e
set_in (Some (R.Props p)) x t e = get-set p x t x ∙ ap (λ (b : Bool). cond b (Some t) (get p x)) (same x)
set_in (Some (R.Locale l)) x t e = absurd cc
set_in (Some (R.File f)) x t e = absurd cc
set_in (Some R.Plain) x t e = absurd cc

cleared_in : (o : Option Resource) (x : List ℕ) → property_in (option_map (changed (C.ClearProp x)) o) x ≡ None
cleared_in None x = refl
cleared_in (Some (R.Props p)) x = get-cleared p x x ∙ ap (λ (b : Bool). cond b None (get p x)) (same x)
cleared_in (Some (R.Locale l)) x = refl
cleared_in (Some (R.File f)) x = refl
cleared_in (Some R.Plain) x = refl

locale_set_in : (o : Option Resource) (t : List ℕ) → HasKind o locale → locale_in (option_map (changed (C.SetLocale t)) o) ≡ Some t
locale_set_in None t e = no_kind locale e
locale_set_in (Some (R.Locale l)) t e = refl
locale_set_in (Some (R.Props p)) t e = absurd cc
locale_set_in (Some (R.File f)) t e = absurd cc
locale_set_in (Some R.Plain) t e = absurd cc

written_in : (o : Option Resource) (t : List ℕ) → HasKind o file → text_in (option_map (changed (C.WriteFile t)) o) ≡ Some t
written_in None t e = no_kind file e
written_in (Some (R.File f)) t e = refl
written_in (Some (R.Props p)) t e = absurd cc
written_in (Some (R.Locale l)) t e = absurd cc
written_in (Some R.Plain) t e = absurd cc

deleted_in : (o : Option Resource) → text_in (option_map (changed C.DeleteFile) o) ≡ None
deleted_in None = refl
deleted_in (Some (R.File f)) = refl
deleted_in (Some (R.Props p)) = refl
deleted_in (Some (R.Locale l)) = refl
deleted_in (Some R.Plain) = refl

pub look-set : (m : Resources) (k : List ℕ) (name : Bor (List ℕ)) (text : List ℕ) → HasKind (m k) properties → answered (changed_at m k (C.SetProp name.now text) k) (A.Prop name) ≡ Some text
look-set m k name text there = ap (λ (o : Option Resource). property_in o name.now) (changed_at-same m k (C.SetProp name.now text)) ∙ set_in (m k) name.now text there

pub look-cleared : (m : Resources) (k : List ℕ) (name : Bor (List ℕ)) → answered (changed_at m k (C.ClearProp name.now) k) (A.Prop name) ≡ None
look-cleared m k name = ap (λ (o : Option Resource). property_in o name.now) (changed_at-same m k (C.ClearProp name.now)) ∙ cleared_in (m k) name.now

pub look-locale : (m : Resources) (k text : List ℕ) → HasKind (m k) locale → answered (changed_at m k (C.SetLocale text) k) A.Locale ≡ Some text
look-locale m k text there = ap locale_in (changed_at-same m k (C.SetLocale text)) ∙ locale_set_in (m k) text there

pub look-written : (m : Resources) (k text : List ℕ) → HasKind (m k) file → answered (changed_at m k (C.WriteFile text) k) A.File ≡ Some text
look-written m k text there = ap text_in (changed_at-same m k (C.WriteFile text)) ∙ written_in (m k) text there

pub look-deleted : (m : Resources) (k : List ℕ) → answered (changed_at m k C.DeleteFile k) A.File ≡ None
look-deleted m k = ap text_in (changed_at-same m k C.DeleteFile) ∙ deleted_in (m k)

pub ruleset looking = (look-set, look-cleared, look-locale, look-written, look-deleted)

other_set_in : (o : Option Resource) (x t q : List ℕ) → bytes_eq q x ≡ false → property_in (option_map (changed (C.SetProp x t)) o) q ≡ property_in o q
other_set_in None x t q other = refl
other_set_in (Some (R.Props p)) x t q other = get-set p x t q ∙ ap (λ (b : Bool). cond b (Some t) (get p q)) other
other_set_in (Some (R.Locale l)) x t q other = refl
other_set_in (Some (R.File f)) x t q other = refl
other_set_in (Some R.Plain) x t q other = refl

other_cleared_in : (o : Option Resource) (x q : List ℕ) → bytes_eq q x ≡ false → property_in (option_map (changed (C.ClearProp x)) o) q ≡ property_in o q
other_cleared_in None x q other = refl
other_cleared_in (Some (R.Props p)) x q other = get-cleared p x q ∙ ap (λ (b : Bool). cond b None (get p q)) other
other_cleared_in (Some (R.Locale l)) x q other = refl
other_cleared_in (Some (R.File f)) x q other = refl
other_cleared_in (Some R.Plain) x q other = refl

pub look-other_set : (m : Resources) (k name : List ℕ) (other : Bor (List ℕ)) (text : List ℕ) → bytes_eq other.now name ≡ false
    → answered (changed_at m k (C.SetProp name text) k) (A.Prop other) ≡ answered (m k) (A.Prop other)
look-other_set m k name other text apart = ap (λ (o : Option Resource). property_in o other.now) (changed_at-same m k (C.SetProp name text)) ∙ other_set_in (m k) name text other.now apart

pub look-other_cleared : (m : Resources) (k name : List ℕ) (other : Bor (List ℕ)) → bytes_eq other.now name ≡ false
    → answered (changed_at m k (C.ClearProp name) k) (A.Prop other) ≡ answered (m k) (A.Prop other)
look-other_cleared m k name other apart = ap (λ (o : Option Resource). property_in o other.now) (changed_at-same m k (C.ClearProp name)) ∙ other_cleared_in (m k) name other.now apart

pub ruleset other_properties = (look-other_set, look-other_cleared)
