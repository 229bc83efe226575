-- The jobs from a place on are the job there and those from the next place on.
use Rattle.std.proofs.Common.{◌≡◌, ℕ, zero, suc, ◌+◌, ◌<◌, ◌≤◌, List, [], ◌∷◌, ◌++◌, length, take, drop, reverse, get_or, Option, Some, None, Bool, true, false, cond, nat_lt, refl, sym, ap, ◌∙◌, arith, add-one, append_assoc, append-nil}
use Rattle.std.proofs.Math.Seq.{take-suc}
use Rattle.std.proofs.lemmas.List.{reverse-append, length-reverse, take_all, length-take-le, length-append, take-append-drop}
use Rattle.std.proofs.lemmas.Bool.Decides.{nat_tests}
use Rattle.iso_model.specs.Chains.{ClassHead, empty_head}
use Rattle.iso_model.specs.Jobs as J
use Rattle.iso_model.specs.Jobs.{before_each_job, after_each_job, before_each_jobs, after_each_jobs}
use Rattle.iso_model.specs.Syntax.{Acts}
use Rattle.iso_model.specs.Tests.{names_in}
use Rattle.iso_model.specs.declared.place.BlockName.TheVariants.{Class}
use Rattle.iso_model.specs.declared.place.Lifecycle.TheVariants as Lifecycles
use Rattle.iso_lifecycle.specs.declared.job.Job.{Job}
use Rattle.iso_lifecycle.specs.declared.job.Job.TheVariants.{BeforeEach, Test, AfterEach}
use Rattle.iso_lifecycle.specs.JobPlaces.{after_each_inside, job_after, first_job, IsPlaced, classes_seen, head_at, job_at, job_words, jobs_from, outside, own_job}

pub drop-all : {A : Type 0} (xs : List A) → drop (length xs) xs ≡ []
drop-all [] = refl
drop-all (x ∷ xs) = drop-all xs

-- the class at a depth stands before those outside it
pub outside-more : (os : List ClassHead) (d : ℕ) → d < length os → outside os (suc d) ≡ head_at os d ∷ outside os d
outside-more os d less = ap reverse (take-suc os d empty_head less) ∙ reverse-append (take d os) (get_or os d empty_head ∷ [])

pub length-outside : (os : List ClassHead) (d : ℕ) → d ≤ length os → length (outside os d) ≡ d
length-outside os d less = length-reverse (take d os) ∙ length-take-le d os less

pub outside-all : (os : List ClassHead) → outside os (length os) ≡ reverse os
outside-all os = ap reverse (take_all (length os) os (omega arith))

pub length-before : (cs : List ClassHead) → length (before_each_jobs cs) ≡ length cs
length-before [] = refl
length-before (c ∷ cs) = length-append (before_each_jobs cs) (before_each_job c cs ∷ []) ∙ ap (λ n. n + 1) (length-before cs) ∙ add-one (length cs)

-- the `before_each` jobs of the inner classes follow those of the outer ones
before_inside : List ClassHead → List ClassHead → List J.Job
before_inside [] ys = []
before_inside (x ∷ xs) ys = before_inside xs ys ++ before_each_job x (xs ++ ys) ∷ []

before-append : (xs ys : List ClassHead) → before_each_jobs (xs ++ ys) ≡ before_each_jobs ys ++ before_inside xs ys
unfolding before_inside
before-append [] ys = sym (append-nil (before_each_jobs ys))
before-append (x ∷ xs) ys =
    ap (λ js. js ++ before_each_job x (xs ++ ys) ∷ []) (before-append xs ys)
    ∙ append_assoc (before_each_jobs ys) (before_inside xs ys) (before_each_job x (xs ++ ys) ∷ [])

split : (os : List ClassHead) (d : ℕ) → reverse os ≡ reverse (drop (suc d) os) ++ outside os (suc d)
split os d = ap reverse (sym (take-append-drop (suc d) os)) ∙ reverse-append (take (suc d) os) (drop (suc d) os)

dropped : {A : Type 0} (d : ℕ) (ps : List A) (j : A) (qs xs : List A) → length ps ≡ d → xs ≡ ps ++ j ∷ qs → drop d xs ≡ j ∷ drop (suc d) xs
dropped zero [] j qs xs e is = rw is refl
dropped zero (p ∷ ps) j qs xs e is = absurd (omega arith)
dropped (suc d) [] j qs xs e is = absurd (omega arith)
dropped (suc d) (p ∷ ps) j qs xs e is = rw is (dropped d ps j qs (ps ++ j ∷ qs) (omega arith) refl)

-- the `before_each` jobs from a depth on
pub before-from : (os : List ClassHead) (d : ℕ) → d < length os
    → drop d (before_each_jobs (reverse os)) ≡ before_each_job (head_at os d) (outside os d) ∷ drop (suc d) (before_each_jobs (reverse os))
before-from os d less =
    let inner = reverse (drop (suc d) os) in
    let ps = before_each_jobs (outside os d) in
    let j = before_each_job (head_at os d) (outside os d) in
    let qs = before_inside inner (outside os (suc d)) in
    let whole : before_each_jobs (reverse os) ≡ ps ++ j ∷ qs =
    ap before_each_jobs (split os d) ∙ before-append inner (outside os (suc d)) ∙ ap (λ cs. before_each_jobs cs ++ qs) (outside-more os d less) ∙ append_assoc ps (j ∷ []) qs in
    dropped d ps j qs (before_each_jobs (reverse os)) (length-before (outside os d) ∙ length-outside os d (omega arith)) whole

pub after-inside : (os : List ClassHead) (body : Acts) (n : ℕ) → n ≤ length os → jobs_from os body (after_each_inside n) ≡ after_each_jobs (outside os n)
after-inside os body zero less = refl
after-inside os body (suc d) less = refl

before-after : (os : List ClassHead) (body : Acts) (d : ℕ) (t : Bool) → nat_lt (d + 1) (length os) ≡ t → d < length os
    → drop (suc d) (before_each_jobs (reverse os)) ++ own_job body (reverse os) ∷ after_each_jobs (reverse os)
    ≡ jobs_from os body (cond t (Some (BeforeEach (d + 1))) (Some Test))
before-after os body d true e less = ap (λ k. drop k (before_each_jobs (reverse os)) ++ own_job body (reverse os) ∷ after_each_jobs (reverse os)) (sym (add-one d))
before-after os body d false e less =
    let last : suc d ≡ length (before_each_jobs (reverse os)) = let all = length-before (reverse os) ∙ length-reverse os in grind (arith, nat_tests) in
    ap (λ js. js ++ own_job body (reverse os) ∷ after_each_jobs (reverse os)) (ap (λ k. drop k (before_each_jobs (reverse os))) last ∙ drop-all (before_each_jobs (reverse os)))

pub jobs-after : (os : List ClassHead) (body : Acts) (j : Job) → IsPlaced (length os) (Some j) → jobs_from os body (Some j) ≡ job_at os body j ∷ jobs_from os body (job_after (length os) j)
jobs-after os body (BeforeEach d) less =
    ap (λ js. js ++ own_job body (reverse os) ∷ after_each_jobs (reverse os)) (before-from os d less)
    ∙ ap (λ js. before_each_job (head_at os d) (outside os d) ∷ js) (before-after os body d (nat_lt (d + 1) (length os)) refl less)
jobs-after os body Test less =
    ap (λ cs. own_job body (reverse os) ∷ after_each_jobs cs) (sym (outside-all os))
    ∙ ap (λ js. own_job body (reverse os) ∷ js) (sym (after-inside os body (length os) (omega arith)))
jobs-after os body (AfterEach d) less =
    ap after_each_jobs (outside-more os d less) ∙ ap (λ js. after_each_job (head_at os d) (outside os d) ∷ js) (sym (after-inside os body d (omega arith)))

pub jobs-first : (os : List ClassHead) (body : Acts) → jobs_from os body (Some (first_job (length os))) ≡ before_each_jobs (reverse os) ++ own_job body (reverse os) ∷ after_each_jobs (reverse os)
jobs-first [] body = refl
jobs-first (o ∷ os) body = refl

-- a job's words, and the names that it sees
pub job-words : (os : List ClassHead) (body : Acts) (j : Job) → IsPlaced (length os) (Some j) → job_words j ≡ (job_at os body j).words
job-words os body (BeforeEach d) less = ap (λ n. Class n Lifecycles.BeforeEach) (add-one d ∙ ap suc (sym (length-outside os d (omega arith))))
job-words os body Test less = refl
job-words os body (AfterEach d) less = ap (λ n. Class n Lifecycles.AfterEach) (add-one d ∙ ap suc (sym (length-outside os d (omega arith))))

pub job-seen : (os : List ClassHead) (body : Acts) (j : Job) → IsPlaced (length os) (Some j) → names_in (outside os (classes_seen (length os) j)) ≡ (job_at os body j).seen
job-seen os body (BeforeEach d) less = ap (λ n. names_in (outside os n)) (add-one d) ∙ ap names_in (outside-more os d less)
job-seen os body Test less = ap names_in (outside-all os)
job-seen os body (AfterEach d) less = ap (λ n. names_in (outside os n)) (add-one d) ∙ ap names_in (outside-more os d less)

-- the names of one class more
pub names-more : (os : List ClassHead) (d : ℕ) → d < length os → names_in (outside os (d + 1)) ≡ names_in (outside os d) + length (head_at os d).statics + length (head_at os d).fields
names-more os d less = ap (λ n. names_in (outside os n)) (add-one d) ∙ ap names_in (outside-more os d less)

pub placed-within : (m n : ℕ) (o : Option Job) → m ≤ n → IsPlaced m o → IsPlaced n o
placed-within m n None less placed = tt
placed-within m n (Some (BeforeEach d)) less placed = omega arith
placed-within m n (Some Test) less placed = tt
placed-within m n (Some (AfterEach d)) less placed = omega arith
