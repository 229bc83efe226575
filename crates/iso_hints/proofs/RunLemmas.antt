-- Runs of bytes that stand in the same.
use Rattle.std.proofs.Common.{◌≡◌, ℕ, zero, suc, ◌+◌, ◌<◌, ◌≤◌, List, [], ◌∷◌, Bool, true, false, ◌==◌, ◌||◌, Option, None, Some, cond, fold, length, slice_index, take, refl, ap, sym, ◌∙◌, arith, le_refl}
use Rattle.std.proofs.lemmas.Bool.{both_ways}
use Rattle.std.proofs.lemmas.Bool.Decides.{nat_tests}
use Rattle.std.specs.Option.{unwrap_or}
use Rattle.memchr.specs.Find.{IsFirstByte, is_byte, is_byte2}
use Rattle.iso_hints.proofs.PositionLemmas.{not_true}
use Rattle.iso_hints.specs.Scans.{GoesOn, IsRun, past_others, past_token, start_behind, step}
use Rattle.iso_hints.specs.declared.scan.Inside.{Inside}
use Rattle.iso_hints.specs.declared.scan.Inside.TheVariants.{Code, Comment, Text}
use Rattle.iso_hints.specs.declared.scan.Seen.{Seen}

made : ℕ → ℕ → ℕ → Inside → Seen
made passed start end inside = record { passed = passed; start = start; end = end; inside = inside }

same-seen : (a b : Seen) → a.passed ≡ b.passed → a.start ≡ b.start → a.end ≡ b.end → a.inside ≡ b.inside → a ≡ b
unfolding made
same-seen a b passed start end inside =
    ap (λ (n : ℕ). made n a.start a.end a.inside) passed
    ∙ ap (λ (n : ℕ). made b.passed n a.end a.inside) start
    ∙ ap (λ (n : ℕ). made b.passed b.start n a.inside) end
    ∙ ap (made b.passed b.start b.end) inside

-- the same in code, as its kind is told
pub in-code : (seen : Seen) → seen.inside ≡ Code → seen ≡ record { passed = seen.passed; start = seen.start; end = seen.end; inside = Code }
in-code seen code = same-seen seen record { passed = seen.passed; start = seen.start; end = seen.end; inside = Code } refl refl refl code

tail : (inside : Inside) (of_token : Bool) (b : ℕ) (bs : List ℕ) (n : ℕ) → IsRun inside of_token (b ∷ bs) (suc n) → IsRun inside of_token bs n
tail inside of_token b bs n run =
    let within = run.within in
    record { within = omega (arith, within); each = λ k here. run.each (suc k) (omega arith) }

-- behind a run of bytes that are of no token
pub others-run : (seen : Seen) (bs : List ℕ) (n : ℕ) → IsRun seen.inside false bs n → past_others seen n ≡ fold step seen (take n bs)
others-run seen bs zero run = same-seen (past_others seen 0) seen (omega arith) refl refl refl
others-run seen [] (suc n) run = absurd (let within = run.within in omega (arith, within))
others-run seen (b ∷ bs) (suc n) run =
    let first = run.each 0 (omega arith) in
    let one : step seen b ≡ past_others seen 1 =
    same-seen (step seen b) (past_others seen 1) refl (ap (λ (t : Bool). cond t (start_behind seen b) seen.start) first.token)
    (ap (λ (t : Bool). cond t (seen.passed + 1) seen.end) first.token) first.same in
    let both : past_others seen (suc n) ≡ past_others (past_others seen 1) n =
    same-seen (past_others seen (suc n)) (past_others (past_others seen 1) n) (omega arith) refl refl refl in
    both ∙ others-run (past_others seen 1) bs n (tail seen.inside false b bs n run) ∙ ap (λ (s : Seen). fold step s (take n bs)) (sym one)

-- where the statement begins that a token is of
begun : Seen → ℕ
begun seen = cond (seen.start == seen.end) seen.passed seen.start

-- behind one byte of a token, and behind some
behind_one : Seen → Seen
behind_one seen = record { passed = seen.passed + 1; start = begun seen; end = seen.passed + 1; inside = seen.inside }

behind_some : Seen → ℕ → Seen
behind_some seen n = record { passed = seen.passed + n; start = begun seen; end = seen.passed + n; inside = seen.inside }

past-some : (seen : Seen) (n : ℕ) → past_token seen (suc n) ≡ behind_some seen (suc n)
unfolding begun behind_some
past-some seen n =
    let some : (suc n == 0) ≡ false = grind (arith, nat_tests) in
    ap (λ (t : Bool). cond t seen (behind_some seen (suc n))) some

begun-before : (seen : Seen) → seen.start ≤ seen.end → seen.end ≤ seen.passed → begun seen < seen.passed + 1
unfolding begun
begun-before seen order within = by (seen.start == seen.end)
  where
    by : (t : Bool) → cond t seen.passed seen.start < seen.passed + 1
    by true = omega arith
    by false = omega arith

begun-once : (seen : Seen) → seen.start ≤ seen.end → seen.end ≤ seen.passed → begun (behind_one seen) ≡ begun seen
unfolding begun behind_one
begun-once seen order within =
    let before = begun-before seen order within in
    let other : (begun seen == seen.passed + 1) ≡ false = grind (arith, nat_tests, before) in
    ap (λ (t : Bool). cond t (seen.passed + 1) (begun seen)) other

token-one : (seen : Seen) (b : ℕ) → GoesOn seen.inside true b → step seen b ≡ behind_one seen
unfolding begun behind_one
token-one seen b first =
    same-seen (step seen b) (behind_one seen) refl
    (ap (λ (t : Bool). cond t (start_behind seen b) seen.start) first.token ∙ ap (λ (t : Bool). cond t (seen.passed + 1) (begun seen)) first.ends)
    (ap (λ (t : Bool). cond t (seen.passed + 1) seen.end) first.token) first.same

token-more : (seen : Seen) (n : ℕ) → seen.start ≤ seen.end → seen.end ≤ seen.passed → past_token seen (suc n) ≡ past_token (behind_one seen) n
unfolding begun behind_one behind_some
token-more seen zero order within =
    past-some seen 0 ∙ same-seen (behind_some seen 1) (behind_one seen) refl refl refl refl
token-more seen (suc n) order within =
    past-some seen (suc n)
    ∙ same-seen (behind_some seen (suc (suc n))) (behind_some (behind_one seen) (suc n)) (omega arith) (sym (begun-once seen order within)) (omega arith) refl
    ∙ sym (past-some (behind_one seen) n)

-- behind a run of bytes of a token
pub token-run : (seen : Seen) (bs : List ℕ) (n : ℕ) → seen.start ≤ seen.end → seen.end ≤ seen.passed → IsRun seen.inside true bs n
    → past_token seen n ≡ fold step seen (take n bs)
unfolding behind_one
token-run seen bs zero order within run = refl
token-run seen [] (suc n) order within run = absurd (let fits = run.within in omega (arith, fits))
token-run seen (b ∷ bs) (suc n) order within run =
    let before : (behind_one seen).start ≤ (behind_one seen).end = let early = begun-before seen order within in omega (arith, early) in
    token-more seen n order within
    ∙ token-run (behind_one seen) bs n before (le_refl (seen.passed + 1)) (tail seen.inside true b bs n run)
    ∙ ap (λ (s : Seen). fold step s (take n bs)) (sym (token-one seen b (run.each 0 (omega arith))))

text_byte : (b : ℕ) → is_byte2 34 92 b ≡ false → GoesOn Text true b
text_byte b other =
    let quote : (b == 34) ≡ false = by (b == 34) (b == 92) other in
    let slash : (b == 92) ≡ false = or_right (b == 34) (b == 92) other in
    record { same = rw (quote, slash) refl; token = refl; ends = refl }
  where
    by : (s t : Bool) → (s || t) ≡ false → s ≡ false
    by true t e = e
    by false t e = refl

    or_right : (s t : Bool) → (s || t) ≡ false → t ≡ false
    or_right true t e = absurd (both_ways true e refl)
    or_right false t e = e

comment_byte : (b : ℕ) → is_byte 10 b ≡ false → GoesOn Comment false b
comment_byte b other = record { same = rw other refl; token = refl; ends = refl }

-- the bytes before the first that passes a test
run_before : (inside : Inside) (of_token : Bool) (test : ℕ → Bool) (bs : List ℕ) (r : Option ℕ) → IsFirstByte test bs r
    → ((b : ℕ) → test b ≡ false → GoesOn inside of_token b) → IsRun inside of_token bs (unwrap_or r (length bs))
run_before inside of_token test bs None first goes_on = record {
  within = le_refl (length bs);
  each = λ k here. goes_on (slice_index bs k) (not_true (test (slice_index bs k)) (first k (omega arith) here));
}
run_before inside of_token test bs (Some n) first goes_on =
    let bound = first.0 in
    let high = bound.high in
    record {
      within = omega (arith, high);
      each = λ k here. goes_on (slice_index bs k) (not_true (test (slice_index bs k)) (bound.before k (omega arith) here));
    }

pub text-run : (bs : List ℕ) (r : Option ℕ) → IsFirstByte (is_byte2 34 92) bs r → IsRun Text true bs (unwrap_or r (length bs))
text-run bs r first = run_before Text true (is_byte2 34 92) bs r first text_byte

pub comment-run : (bs : List ℕ) (r : Option ℕ) → IsFirstByte (is_byte 10) bs r → IsRun Comment false bs (unwrap_or r (length bs))
comment-run bs r first = run_before Comment false (is_byte 10) bs r first comment_byte
