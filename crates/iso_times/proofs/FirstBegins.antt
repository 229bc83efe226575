-- The first begin of some bodies and one more.
use Rattle.std.proofs.Common.{◌≡◌, ◌<◌, ◌≤◌, ◌+◌, ℕ, zero, suc, List, [], ◌∷◌, ◌++◌, length, take, get_or, slice_index_or, Option, Some, None, IfSome, ap, sym, subst, ◌∙◌, refl, arith}
use Rattle.std.proofs.Math.Seq.{take-suc}
use Rattle.iso_times.specs.Tables.{earlier, first_begin}
use Rattle.iso_times.specs.declared.times.BodyTime.{BodyTime}

-- two bodies may be taken in either order
earlier-swap : (a b : Option BodyTime) (at : ℕ) → earlier a (earlier b at) ≡ earlier b (earlier a at)
earlier-swap None b at = refl
earlier-swap (Some a) None at = refl
earlier-swap (Some a) (Some b) at = omega arith

pub first-and-one : (bodies : List (Option BodyTime)) (b : Option BodyTime) → first_begin (bodies ++ b ∷ []) ≡ earlier b (first_begin bodies)
first-and-one [] b = refl
first-and-one (x ∷ bodies) b = ap (earlier x) (first-and-one bodies b) ∙ earlier-swap x b (first_begin bodies)

-- the first begin of one body more of a list
pub first-next : (bodies : List (Option BodyTime)) (i first next : ℕ) → i < length bodies → first ≡ first_begin (take i bodies) → next ≡ earlier (get_or bodies i None) first
    → next ≡ first_begin (take (i + 1) bodies)
first-next bodies i first next within is step =
    let one_more : suc i ≡ i + 1 = omega arith in
    let b = get_or bodies i None in
    subst (λ (n : ℕ). next ≡ first_begin (take n bodies)) one_more (step ∙ ap (earlier b) is ∙ sym (ap first_begin (take-suc bodies i None within) ∙ first-and-one (take i bodies) b))

-- the begin of a body is no later where another comes before it
if-earlier : (o x : Option BodyTime) (first : ℕ) → IfSome o (λ t. first ≤ t.begin) → IfSome o (λ t. earlier x first ≤ t.begin)
if-earlier None x first le = tt
if-earlier (Some t) None first le = le
if-earlier (Some t) (Some x) first le = omega arith

pub first-lowest : (bodies : List (Option BodyTime)) (i : ℕ) → IfSome (slice_index_or bodies i None) (λ t. first_begin bodies ≤ t.begin)
first-lowest [] i = tt
first-lowest (None ∷ bodies) zero = tt
first-lowest (Some b ∷ bodies) zero = omega arith
first-lowest (b ∷ bodies) (suc i) = if-earlier (slice_index_or bodies i None) b (first_begin bodies) (first-lowest bodies i)
