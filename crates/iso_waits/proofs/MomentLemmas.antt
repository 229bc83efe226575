-- Who is in the way at a moment, of stays in the order of their begins.
use Rattle.std.proofs.Common.{◌≡◌, ℕ, suc, ◌+◌, ◌<◌, ◌≤◌, List, [], ◌∷◌, length, get_or, get_or-drop, drop, Option, Some, None, ap, ap₂, sym, ◌∙◌, refl, arith, add-one, drop-cons, length-drop}
use Rattle.std.proofs.lemmas.List.{get_or_default}
use Rattle.std.proofs.lemmas.Bool.Decides.{nat_tests}
use Rattle.std.specs.List.Sorted.{IsNonDecreasingBy}
use Rattle.iso_waits.specs.Moments.{begin_of, lower, lower_of, lowest_at, node_at}
use Rattle.iso_waits.specs.declared.stay.Stay.{Stay}

pub node-over : (t : ℕ) (s : Stay) → s.end ≤ t → node_at t s ≡ None
node-over t s h = grind (arith, nat_tests)

pub node-later : (t : ℕ) (s : Stay) → t < s.begin → node_at t s ≡ None
node-later t s h = grind (arith, nat_tests)

pub node-here : (t : ℕ) (s : Stay) → s.begin ≤ t → t < s.end → node_at t s ≡ Some s.node
node-here t s b e = grind (arith, nat_tests)

pub lower-none : (o : Option ℕ) → lower_of None o ≡ o
lower-none None = refl
lower-none (Some n) = refl

pub lower-more : (o : Option ℕ) (n : ℕ) (rest : Option ℕ) → lower_of (Some (lower o n)) rest ≡ lower_of o (lower_of (Some n) rest)
lower-more o n None = refl
lower-more None n (Some m) = refl
lower-more (Some k) n (Some m) = let e : lower (Some (lower (Some k) n)) m ≡ lower (Some k) (lower (Some n) m) = omega arith in ap (λ (x : ℕ). Some x) e

-- the first stay of what is left
pub lowest-first : (t : ℕ) (ss : List Stay) (i : ℕ) (d : Stay) → i < length ss → lowest_at t (drop i ss) ≡ lower_of (node_at t (get_or ss i d)) (lowest_at t (drop (i + 1) ss))
lowest-first t ss i d h = rw (add-one, drop-cons ss i d) refl

-- a first stay that is over is in nobody's way
pub lowest-over : (t : ℕ) (ss : List Stay) (i : ℕ) (d : Stay) → i < length ss → (get_or ss i d).end ≤ t → lowest_at t (drop (i + 1) ss) ≡ lowest_at t (drop i ss)
lowest-over t ss i d h over =
    sym (lower-none (lowest_at t (drop (i + 1) ss)))
    ∙ sym (ap (λ (o : Option ℕ). lower_of o (lowest_at t (drop (i + 1) ss))) (node-over t (get_or ss i d) over))
    ∙ sym (lowest-first t ss i d h)

-- nor is one that begins later, with all after it
none-before : (t : ℕ) (ss : List Stay) → ((j : ℕ) (d : Stay) → j < length ss → t < (get_or ss j d).begin) → lowest_at t ss ≡ None
none-before t [] later = refl
none-before t (s ∷ ss) later =
    ap₂ lower_of (node-later t s (later 0 s (omega arith))) (none-before t ss (λ j d h. later (suc j) d (omega arith)))

pub lowest-later : (t : ℕ) (ss : List Stay) (i : ℕ) (d : Stay) → IsNonDecreasingBy begin_of ss → i < length ss → t < (get_or ss i d).begin → lowest_at t (drop i ss) ≡ None
lowest-later t ss i d order h later =
    none-before t (drop i ss) (λ j e k.
    let within : i + j < length ss = omega (arith, length-drop i ss) in
    let same : get_or (drop i ss) j e ≡ get_or ss (i + j) e = get_or-drop i ss j e in
    let first : get_or ss i e ≡ get_or ss i d = get_or_default ss i e d h in
    let le : (get_or ss i e).begin ≤ (get_or ss (i + j) e).begin = order i (i + j) e (omega arith) within in
    let b : (get_or ss i e).begin ≡ (get_or ss i d).begin = ap begin_of first in
    let r : (get_or (drop i ss) j e).begin ≡ (get_or ss (i + j) e).begin = ap begin_of same in
    omega arith)
