-- Keys, segment after segment.
use Rattle.std.proofs.Common.{◌≡◌, ◌≢◌, ℕ, suc, ◌<◌, List, [], ◌∷◌, ◌++◌, Bool, true, false, ◌==◌, not, cond, length, get_or, None, Some, refl, sym, ap, subst, ◌∙◌, arith, lit<}
use Rattle.std.proofs.lemmas.Bool.Decides.{nat_tests}
use Rattle.std.proofs.lemmas.Str.Pattern.{IsSplitOnceResult, split_parts}
use Rattle.std.specs.Borrow.{Bor}
use Rattle.iso_hints.specs.NearKeys.{rests, rests_from}

-- no byte is a dot
abbrev pub HasNoDot : List ℕ → Type 0
HasNoDot bytes = (i : ℕ) → i < length bytes → get_or bytes i 0 ≢ 46

head-no-dot : (b : ℕ) (bs : List ℕ) → HasNoDot (b ∷ bs) → (b == 46) ≡ false
head-no-dot b bs h = let differs = h 0 (omega arith) in grind (arith, nat_tests, differs)

tail-no-dot : (b : ℕ) (bs : List ℕ) → HasNoDot (b ∷ bs) → HasNoDot bs
tail-no-dot b bs h = λ i below. h (suc i) (omega (arith, below))

same-byte : (b : ℕ) → (b == b) ≡ true
same-byte b = grind (arith, nat_tests)

-- behind a segment that both have
pub rests-behind : (key known segment xs ys : List ℕ) → HasNoDot segment
    → rests_from key known (segment ++ 46 ∷ xs) (segment ++ 46 ∷ ys) ≡ rests_from xs ys xs ys
rests-behind key known [] xs ys h = refl
rests-behind key known (b ∷ bs) xs ys h = rw (same-byte b, head-no-dot b bs h) (rests-behind key known bs xs ys (tail-no-dot b bs h))

-- where the first has no dot, and where the other has none
pub rests-end : (key known xs ys : List ℕ) → HasNoDot xs → rests_from key known xs ys ≡ (key, known)
rests-end key known [] ys h = refl
rests-end key known (x ∷ xs) [] h = refl
rests-end key known (x ∷ xs) (y ∷ ys) h = by (x == y) (x == 46) (head-no-dot x xs h) (rests-end key known xs ys (tail-no-dot x xs h))
  where
    by : (same dot : Bool) → dot ≡ false → rests_from key known xs ys ≡ (key, known)
        → cond (not same) (key, known) (cond dot (rests_from xs ys xs ys) (rests_from key known xs ys)) ≡ (key, known)
    by true true clear more = absurd (cc)
    by true false clear more = more
    by false dot clear more = refl

pub rests-known-end : (key known xs ys : List ℕ) → HasNoDot ys → rests_from key known xs ys ≡ (key, known)
rests-known-end key known [] ys h = refl
rests-known-end key known (x ∷ xs) [] h = refl
rests-known-end key known (x ∷ xs) (y ∷ ys) h =
    by (x == y) (x == 46) (let no = head-no-dot y ys h in grind (arith, nat_tests, no)) (rests-known-end key known xs ys (tail-no-dot y ys h))
  where
    by : (same dot : Bool) → (same ≡ true → dot ≡ false) → rests_from key known xs ys ≡ (key, known)
        → cond (not same) (key, known) (cond dot (rests_from xs ys xs ys) (rests_from key known xs ys)) ≡ (key, known)
    by true true clear more = absurd (let wrong = clear refl in cc)
    by true false clear more = more
    by false dot clear more = refl

-- where the first segments differ
pub rests-differ : (key known segment other xs ys : List ℕ) → segment ≢ other → HasNoDot segment → HasNoDot other
    → rests_from key known (segment ++ 46 ∷ xs) (other ++ 46 ∷ ys) ≡ (key, known)
rests-differ key known [] [] xs ys differ h k = absurd (differ refl)
rests-differ key known [] (c ∷ cs) xs ys differ h k = let e : (46 == c) ≡ false = (let no = head-no-dot c cs k in grind (arith, nat_tests, no)) in rw e refl
rests-differ key known (b ∷ bs) [] xs ys differ h k = rw (head-no-dot b bs h) refl
rests-differ key known (b ∷ bs) (c ∷ cs) xs ys differ h k =
    by (b == c) (b == 46) (head-no-dot b bs h)
    (λ same. rests-differ key known bs cs xs ys (λ e. differ (let head : b ≡ c = grind (arith, nat_tests, same) in rw (head, e) refl)) (tail-no-dot b bs h) (tail-no-dot c cs k))
  where
    by : (same dot : Bool) → dot ≡ false → (same ≡ true → rests_from key known (bs ++ 46 ∷ xs) (cs ++ 46 ∷ ys) ≡ (key, known))
        → cond (not same) (key, known) (cond dot (rests_from (bs ++ 46 ∷ xs) (cs ++ 46 ∷ ys) (bs ++ 46 ∷ xs) (cs ++ 46 ∷ ys)) (rests_from key known (bs ++ 46 ∷ xs) (cs ++ 46 ∷ ys))) ≡ (key, known)
    by true true clear more = absurd (cc)
    by true false clear more = more refl
    by false dot clear more = refl

-- two keys that are cut at their first dots
cut-both : (key known segment rest other known_rest : List ℕ) (r : List ℕ × List ℕ) → key ≡ segment ++ 46 ∷ rest → known ≡ other ++ 46 ∷ known_rest
    → rests_from key known (segment ++ 46 ∷ rest) (other ++ 46 ∷ known_rest) ≡ r → rests key known ≡ r
cut-both key known segment rest other known_rest r cut known-cut e =
    subst (λ (xs : List ℕ). rests_from key known xs known ≡ r) (sym cut)
    (subst (λ (ys : List ℕ). rests_from key known (segment ++ 46 ∷ rest) ys ≡ r) (sym known-cut) e)

pub behind-both : (key known : List ℕ) (segment rest other known_rest : Bor (List ℕ)) → IsSplitOnceResult 46 key (Some (segment, rest)) → IsSplitOnceResult 46 known (Some (other, known_rest))
    → segment.now ≡ other.now → rests key known ≡ rests rest.now known_rest.now
behind-both key known segment rest other known_rest h k same =
    let mine = split_parts 46 key (Some (segment, rest)) h (lit< tt) in
    let theirs = split_parts 46 known (Some (other, known_rest)) k (lit< tt) in
    let e = ap (λ (start : List ℕ). rests_from key known (segment.now ++ 46 ∷ rest.now) (start ++ 46 ∷ known_rest.now)) (sym same) in
    cut-both key known segment.now rest.now other.now known_rest.now (rests rest.now known_rest.now) mine.0 theirs.0
    (e ∙ rests-behind key known segment.now rest.now known_rest.now mine.1)

pub unlike : (key known : List ℕ) (segment rest other known_rest : Bor (List ℕ)) → IsSplitOnceResult 46 key (Some (segment, rest)) → IsSplitOnceResult 46 known (Some (other, known_rest))
    → segment.now ≢ other.now → rests key known ≡ (key, known)
unlike key known segment rest other known_rest h k differ =
    let mine = split_parts 46 key (Some (segment, rest)) h (lit< tt) in
    let theirs = split_parts 46 known (Some (other, known_rest)) k (lit< tt) in
    cut-both key known segment.now rest.now other.now known_rest.now (key, known) mine.0 theirs.0
    (rests-differ key known segment.now other.now rest.now known_rest.now differ mine.1 theirs.1)

pub without-dot : (key known : List ℕ) → IsSplitOnceResult 46 key None → rests key known ≡ (key, known)
without-dot key known h = rests-end key known key known (split_parts 46 key None h (lit< tt))

pub known-without-dot : (key known : List ℕ) → IsSplitOnceResult 46 known None → rests key known ≡ (key, known)
known-without-dot key known k = rests-known-end key known key known (split_parts 46 known None k (lit< tt))
