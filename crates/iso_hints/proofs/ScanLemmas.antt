-- What is known of passed bytes stays within them.
use Rattle.std.proofs.Common.{◌≡◌, ℕ, ◌+◌, ◌<◌, ◌≤◌, List, [], ◌∷◌, Bool, true, false, ◌==◌, cond, drop, fold, get_or, length, take, ap, sym, subst, ◌∙◌, arith}
use Rattle.std.proofs.Math.Seq.{take-add}
use Rattle.std.proofs.lemmas.List.{length-drop, length-take-le, take_all}
use Rattle.std.proofs.lemmas.List.Sums.{fold-append, fold_more}
use Rattle.iso_hints.specs.Scans.{IsBehind, ends_here, is_of_token, nothing_passed, scan_of, start_behind, step}
use Rattle.iso_hints.specs.declared.scan.Seen.{Seen}

-- the statement begins before it ends, and ends within what is passed
record IsOrdered (seen : Seen) : Type 0 where
  start : seen.start ≤ seen.end
  end : seen.end ≤ seen.passed

begins_within : (seen : Seen) (b : ℕ) → IsOrdered seen → start_behind seen b ≤ seen.passed + 1
begins_within seen b h = by (ends_here seen.inside b) (seen.start == seen.end)
  where
    by : (s t : Bool) → cond s (seen.passed + 1) (cond t seen.passed seen.start) ≤ seen.passed + 1
    by true t = omega arith
    by false true = omega arith
    by false false = let a = h.start in let c = h.end in omega (arith, a, c)

step_ordered : (seen : Seen) (b : ℕ) → IsOrdered seen → IsOrdered (step seen b)
step_ordered seen b h = by (is_of_token seen.inside b) (begins_within seen b h)
  where
    by : (t : Bool) → start_behind seen b ≤ seen.passed + 1
        → IsOrdered (record { passed = seen.passed + 1; start = cond t (start_behind seen b) seen.start; end = cond t (seen.passed + 1) seen.end; inside = (step seen b).inside })
    by true w = record { start = w; end = omega arith }
    by false w = let a = h.start in let c = h.end in record { start = a; end = omega (arith, c) }

fold_ordered : (seen : Seen) (bytes : List ℕ) → IsOrdered seen → IsOrdered (fold step seen bytes)
fold_ordered seen [] h = h
fold_ordered seen (b ∷ bs) h = fold_ordered (step seen b) bs (step_ordered seen b h)

pub fold_passed : (seen : Seen) (bytes : List ℕ) → (fold step seen bytes).passed ≡ seen.passed + length bytes
fold_passed seen [] = omega arith
fold_passed seen (b ∷ bs) = let rest = fold_passed (step seen b) bs in omega (arith, rest)

scan-passed : (bytes : List ℕ) → (scan_of bytes).passed ≡ length bytes
scan-passed bytes = let all = fold_passed nothing_passed bytes in omega (arith, all)

scan-order : (bytes : List ℕ) → (scan_of bytes).start ≤ (scan_of bytes).end
scan-order bytes = (fold_ordered nothing_passed bytes record { start = omega arith; end = omega arith }).start

scan-within : (bytes : List ℕ) → (scan_of bytes).end ≤ length bytes
scan-within bytes =
    let inside = (fold_ordered nothing_passed bytes record { start = omega arith; end = omega arith }).end in
    let all = scan-passed bytes in
    omega (arith, inside, all)

-- what is known of the first bytes, as many as are passed
pub record IsPassed (bytes : List ℕ) (seen : Seen) : Type 0 where
  pub within : seen.passed ≤ length bytes
  pub is : seen ≡ scan_of (take seen.passed bytes)

-- what is known of a number of first bytes
pub passed-at : (bytes : List ℕ) (n : ℕ) (seen : Seen) → n ≤ length bytes → seen ≡ scan_of (take n bytes) → IsPassed bytes seen
passed-at bytes n seen within is =
    let all : seen.passed ≡ n = ap (λ (s : Seen). s.passed) is ∙ scan-passed (take n bytes) ∙ length-take-le n bytes within in
    record { within = omega (arith, all, within); is = is ∙ ap (λ (k : ℕ). scan_of (take k bytes)) (sym all) }

-- with one byte more
pub passed-next : (bytes : List ℕ) (d : ℕ) (seen : Seen) → seen.passed < length bytes → IsPassed bytes seen
    → IsPassed bytes (step seen (get_or bytes seen.passed d))
passed-next bytes d seen here so_far =
    passed-at bytes (seen.passed + 1) (step seen (get_or bytes seen.passed d)) (omega arith)
    (ap (λ (s : Seen). step s (get_or bytes seen.passed d)) so_far.is ∙ sym (fold_more step nothing_passed bytes seen.passed d here))

-- with some more
pub passed-behind : (bytes : List ℕ) (seen next : Seen) → IsPassed bytes seen → IsBehind seen (drop seen.passed bytes) next → IsPassed bytes next
passed-behind bytes seen next so_far behind =
    let n = seen.passed in
    let k = behind.count in
    let long = length-drop n bytes in
    let fits = behind.within in
    let within = so_far.within in
    passed-at bytes (n + k) next (omega (arith, long, fits, within))
    (behind.is ∙ ap (λ (s : Seen). fold step s (take k (drop n bytes))) so_far.is
    ∙ sym (fold-append step nothing_passed (take n bytes) (take k (drop n bytes)))
    ∙ ap (fold step nothing_passed) (sym (take-add n k bytes)))

-- no fewer bytes are passed then
pub behind-grows : (seen next : Seen) (bytes : List ℕ) → IsBehind seen bytes next → seen.passed ≤ next.passed
behind-grows seen next bytes behind =
    let all = ap (λ (s : Seen). s.passed) behind.is in
    let more = fold_passed seen (take behind.count bytes) in
    omega (arith, all, more)

pub passed-ordered : (bytes : List ℕ) (seen : Seen) → IsPassed bytes seen → (seen.start ≤ seen.end) × (seen.end ≤ seen.passed)
passed-ordered bytes seen so_far =
    let ordered = fold_ordered nothing_passed (take seen.passed bytes) record { start = omega arith; end = omega arith } in
    subst (λ (s : Seen). (s.start ≤ s.end) × (s.end ≤ s.passed)) (sym so_far.is) (ordered.start, ordered.end)

pub passed-all : (bytes : List ℕ) (seen : Seen) → length bytes ≤ seen.passed → IsPassed bytes seen → seen ≡ scan_of bytes
passed-all bytes seen end so_far = so_far.is ∙ ap scan_of (take_all seen.passed bytes end)

pub scan-is-ordered : (bytes : List ℕ) (seen : Seen) → seen ≡ scan_of bytes → seen.start ≤ seen.end
scan-is-ordered bytes seen is = subst (λ (s : Seen). s.start ≤ s.end) (sym is) (scan-order bytes)

pub scan-is-within : (bytes : List ℕ) (seen : Seen) → seen ≡ scan_of bytes → seen.end ≤ length bytes
scan-is-within bytes seen is = subst (λ (s : Seen). s.end ≤ length bytes) (sym is) (scan-within bytes)
