-- The rivals of a node, and the waits that they make.
use Rattle.std.proofs.Common.{◌≡◌, ℕ, ◌+◌, ◌<◌, List, [], ◌∷◌, ◌++◌, length, get_or, take, Option, Some, None, Bool, true, false, cond, ap, ap₂, subst, sym, ◌∙◌, refl}
use Rattle.std.proofs.lemmas.List.{append-nil}
use Rattle.std.proofs.lemmas.List.Elements.{filter_more}
use Rattle.std.proofs.lemmas.List.Kept.{IsNonDecreasingBy-filter}
use Rattle.std.specs.List.Sorted.{IsNonDecreasingBy}
use Rattle.iso_plan.proofs.ConflictLemmas.{conflict-none, conflicts-is}
use Rattle.iso_plan.proofs.PathLemmas.{eq_from}
use Rattle.iso_plan.specs.Conflicts.{conflicts}
use Rattle.iso_plan.specs.Locks.{conflict, is_that, locks}
use Rattle.iso_plan.specs.Tree.{Row}
use Rattle.iso_settings.specs.declared.settings.Settings.{Settings}
use Rattle.iso_times.specs.declared.times.BodyTime.{BodyTime}
use Rattle.iso_waits.proofs.RivalLemmas.{rivals-holder, waits-same}
use Rattle.iso_waits.specs.KnownKeys.{IsTwin}
use Rattle.iso_waits.specs.Moments.{begin_of, lowest_at, waits_within}
use Rattle.iso_waits.specs.Rivals.{AreKnown, AreStays, is_rival, rivals}
use Rattle.iso_waits.specs.Stays.{holder, stayed}
use Rattle.iso_waits.specs.Waits.{ready, waits, waits_until}
use Rattle.iso_waits.specs.declared.stay.Stay.{Stay}

-- nobody is a rival of a node that takes no key
pub rivals-none : (tree : List Row) (stays : List Stay) (n : ℕ) → locks tree n ≡ [] → rivals tree stays n ≡ []
rivals-none tree [] n e = refl
rivals-none tree (s ∷ ss) n e = rw (conflict-none tree s.node n e) (rivals-none tree ss n e)

-- those of some stays with one more
pub rivals-more : (tree : List Row) (stays found after : List Stay) (n i : ℕ) (d : Stay) → i < length stays → is_rival tree n (get_or stays i d) ≡ true
    → found ≡ rivals tree (take i stays) n → after ≡ found ++ get_or stays i d ∷ [] → after ≡ rivals tree (take (i + 1) stays) n
rivals-more tree stays found after n i d h e before more =
    more ∙ ap (λ (ss : List Stay). ss ++ get_or stays i d ∷ []) before
    ∙ sym (filter_more (is_rival tree n) stays i d h ∙ ap (λ (b : Bool). rivals tree (take i stays) n ++ cond b (get_or stays i d ∷ []) []) e)

pub rivals-skip : (tree : List Row) (stays found : List Stay) (n i : ℕ) (d : Stay) → i < length stays
    → is_rival tree n (get_or stays i d) ≡ false → found ≡ rivals tree (take i stays) n → found ≡ rivals tree (take (i + 1) stays) n
rivals-skip tree stays found n i d h e before =
    before
    ∙ sym (filter_more (is_rival tree n) stays i d h ∙ ap (λ (b : Bool). rivals tree (take i stays) n ++ cond b (get_or stays i d ∷ []) []) e ∙ append-nil (rivals tree (take i stays) n))

-- nodes that take the same keys in the same way have the same rivals
rival-alike : (tree : List Row) (k m n : ℕ) → locks tree m ≡ locks tree n → conflict tree k m ≡ conflict tree k n
rival-alike tree k m n e = sym (conflicts-is tree k m) ∙ ap (conflicts (locks tree k)) e ∙ conflicts-is tree k n

pub rivals-alike : (tree : List Row) (stays : List Stay) (m n : ℕ) → locks tree m ≡ locks tree n → rivals tree stays m ≡ rivals tree stays n
rivals-alike tree [] m n e = refl
rivals-alike tree (s ∷ ss) m n e =
    ap₂ (λ (b : Bool) (rest : List Stay). cond b (s ∷ rest) rest) (rival-alike tree s.node m n e) (rivals-alike tree ss m n e)

-- what is known of a node that takes the same keys in the same way
pub known-same : (tree : List Row) (stays : List Stay) (of : Option ℕ) (found : List Stay) (first n : ℕ)
    → AreKnown tree stays of found → is_that of first ≡ true → IsTwin tree n first → found ≡ rivals tree stays n
known-same tree stays None found first n known same twin = absurd (cc)
known-same tree stays (Some m) found first n known same twin =
    known ∙ ap (rivals tree stays) (eq_from m first same) ∙ rivals-alike tree stays first n twin.same

pub rivals-order : (tree : List Row) (stays found : List Stay) (n : ℕ) → IsNonDecreasingBy begin_of stays → found ≡ rivals tree stays n → IsNonDecreasingBy begin_of found
rivals-order tree stays found n order is = subst (IsNonDecreasingBy begin_of) (sym is) (IsNonDecreasingBy-filter begin_of (is_rival tree n) stays order)

-- the waits until a stay are those for the rivals
pub waits-by : (tree : List Row) (settings : Settings) (bodies : List (Option BodyTime)) (stays found : List Stay) (n from : ℕ) (s : Stay) → AreStays tree bodies stays
    → found ≡ rivals tree stays n → Some from ≡ ready tree settings bodies n → Some s ≡ stayed bodies n → waits_within (λ t. lowest_at t found) from s.begin ≡ waits tree settings bodies n
waits-by tree settings bodies stays found n from s all is r st =
    ap (λ (f : List Stay). waits_within (λ t. lowest_at t f) from s.begin) is
    ∙ waits-same (λ t. lowest_at t (rivals tree stays n)) (holder tree bodies n) (λ t. rivals-holder tree bodies stays n t all.all all.among) from s.begin
    ∙ ap₂ (waits_until (holder tree bodies n)) r st

pub waits-unready : (tree : List Row) (settings : Settings) (bodies : List (Option BodyTime)) (n : ℕ) → None ≡ ready tree settings bodies n → [] ≡ waits tree settings bodies n
waits-unready tree settings bodies n r = ap (λ (o : Option ℕ). waits_until (holder tree bodies n) o (stayed bodies n)) r

nothing : (h : ℕ → Option ℕ) (o : Option ℕ) → waits_until h o None ≡ []
nothing h None = refl
nothing h (Some from) = refl

pub waits-absent : (tree : List Row) (settings : Settings) (bodies : List (Option BodyTime)) (n : ℕ) → None ≡ stayed bodies n → [] ≡ waits tree settings bodies n
waits-absent tree settings bodies n st =
    sym (nothing (holder tree bodies n) (ready tree settings bodies n)) ∙ ap (waits_until (holder tree bodies n) (ready tree settings bodies n)) st
