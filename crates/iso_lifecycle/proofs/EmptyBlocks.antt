-- Blocks without a statement are left behind as if they had been done: each ends well.
use Rattle.std.proofs.Common.{◌≡◌, ℕ, zero, suc, ◌+◌, ◌<◌, ◌≤◌, List, [], ◌∷◌, ◌++◌, length, drop, reverse, replicate, Some, true, false, Bool, cond, nat_lt, refl, sym, ap, ◌∙◌, ◌&&◌, arith, append_assoc, append-nil}
use Rattle.std.proofs.lemmas.Bool.Decides.{nat_tests}
use Rattle.std.proofs.lemmas.List.{length-map, length-reverse}
use Rattle.std.proofs.lemmas.List.Folds.{list_all-append}
use Rattle.std.specs.Arc.{arc_value}
use Rattle.std.specs.List.{list_all}
use Rattle.std.specs.declared.alloc.Global.{Global}
use Rattle.std.specs.declared.sync.Arc.{Arc}
use Rattle.iso_model.specs.Bodies.{Account, stage_from}
use Rattle.iso_model.specs.Chains.{ClassHead}
use Rattle.iso_model.specs.Jobs.{after_each_job, after_each_jobs, before_each_job, before_each_jobs}
use Rattle.iso_model.specs.ScriptView.{class_head_of}
use Rattle.iso_model.specs.Statements.{is_well}
use Rattle.iso_model.specs.Syntax.{Acts}
use Rattle.iso_model.specs.declared.heads.ClassHead as Heads
use Rattle.iso_model.specs.declared.outcome.Ending.{Ending}
use Rattle.iso_model.specs.declared.outcome.Ending.TheVariants.{Well}
use Rattle.iso_interp.specs.Blocks.{is_empty}
use Rattle.iso_lifecycle.specs.Heads.{heads_in}
use Rattle.iso_lifecycle.specs.JobPlaces.{after_each_inside, before_job, head_at, jobs_from, outside, own_job}
use Rattle.iso_lifecycle.specs.declared.job.Job.TheVariants.{AfterEach, BeforeEach, Test}
use Rattle.iso_lifecycle.proofs.Following.{passed, passed_over}
use Rattle.iso_lifecycle.proofs.JobLemmas.{after-inside, before-from, drop-all, length-before, outside-all, outside-more}

-- what a body has once `k` blocks more ended well, which did nothing
abbrev pub well_more : ℕ → Account → Account
well_more k a = record { names = a.names; printed = a.printed; lines = a.lines; endings = a.endings ++ replicate k Well }

still-well : (es : List Ending) → list_all is_well es ≡ true → list_all is_well (es ++ Well ∷ []) ≡ true
still-well es all = list_all-append is_well es (Well ∷ []) ∙ ap (λ (b : Bool). b && true) all

none-more : (a : Account) → well_more 0 a ≡ a
none-more a = λ i. record { names = a.names; printed = a.printed; lines = a.lines; endings = append-nil a.endings i }

one-more : (k : ℕ) (a : Account) → well_more k (passed_over a) ≡ well_more (suc k) a
one-more k a = λ i. record { names = a.names; printed = a.printed; lines = a.lines; endings = append_assoc a.endings (Well ∷ []) (replicate k Well) i }

-- `before_each` blocks from a depth inwards
pub before-left : (os : List ClassHead) (body : Acts) (d k : ℕ) (a : Account) → d + k ≤ length os → list_all is_well a.endings ≡ true
    → ((e : ℕ) → d ≤ e → e < d + k → is_empty (head_at os e).before_each ≡ true)
    → stage_from (jobs_from os body (Some (BeforeEach (d + k)))) (well_more k a) ≡ stage_from (jobs_from os body (Some (BeforeEach d))) a
before-left os body d zero a within well empty =
    let place : d + 0 ≡ d = omega arith in
    ap (λ n. stage_from (jobs_from os body (Some (BeforeEach n))) (well_more 0 a)) place ∙ ap (stage_from (jobs_from os body (Some (BeforeEach d)))) (none-more a)
before-left os body d (suc k) a within well empty =
    let own = own_job body (reverse os) ∷ after_each_jobs (reverse os) in
    let j = before_each_job (head_at os d) (outside os d) in
    let js = drop (suc d) (before_each_jobs (reverse os)) ++ own in
    let place : d + suc k ≡ suc d + k = omega arith in
    ap (λ n. stage_from (jobs_from os body (Some (BeforeEach n))) (well_more (suc k) a)) place ∙ ap (stage_from (jobs_from os body (Some (BeforeEach (suc d + k))))) (sym (one-more k a))
    ∙ before-left os body (suc d) k (passed_over a) (omega arith) (still-well a.endings well) (λ e more less. empty e (omega arith) (omega arith))
    ∙ passed j js a well (empty d (omega arith) (omega arith))
    ∙ ap (λ xs. stage_from (xs ++ own) a) (sym (before-from os d (omega arith)))

-- past those of all classes comes the test's own block
pub before-all : (os : List ClassHead) (body : Acts) → jobs_from os body (Some (BeforeEach (length os))) ≡ jobs_from os body (Some Test)
before-all os body =
    let all : length os ≡ length (before_each_jobs (reverse os)) = sym (length-before (reverse os) ∙ length-reverse os) in
    ap (λ js. js ++ own_job body (reverse os) ∷ after_each_jobs (reverse os)) (ap (λ k. drop k (before_each_jobs (reverse os))) all ∙ drop-all (before_each_jobs (reverse os)))

-- `after_each` blocks outwards
pub after-left : (os : List ClassHead) (d k : ℕ) (a : Account) → d + k ≤ length os
    → ((e : ℕ) → d ≤ e → e < d + k → is_empty (head_at os e).after_each ≡ true)
    → stage_from (after_each_jobs (outside os d)) (well_more k a) ≡ stage_from (after_each_jobs (outside os (d + k))) a
after-left os d zero a within empty =
    let place : d ≡ d + 0 = omega arith in
    ap (stage_from (after_each_jobs (outside os d))) (none-more a) ∙ ap (λ n. stage_from (after_each_jobs (outside os n)) a) place
after-left os d (suc k) a within empty =
    let j = after_each_job (head_at os (d + k)) (outside os (d + k)) in
    let js = after_each_jobs (outside os (d + k)) in
    let place : suc (d + k) ≡ d + suc k = omega arith in
    ap (stage_from (after_each_jobs (outside os d))) (sym (one-more k a))
    ∙ after-left os d k (passed_over a) (omega arith) (λ e more less. empty e more (omega arith))
    ∙ passed j js a refl (empty (d + k) (omega arith) (omega arith))
    ∙ ap (λ cs. stage_from (after_each_jobs cs) a) (sym (outside-more os (d + k) (omega arith)))
    ∙ ap (λ n. stage_from (after_each_jobs (outside os n)) a) place

module _ (classes : List (Arc Heads.ClassHead Global)) (body : Acts) (a : Account) where
  abbrev os : List ClassHead
  os = heads_in classes

  count : length os ≡ length classes
  count = length-map classes (λ h. class_head_of (arc_value h))

  -- the `before_each` blocks of the classes from a depth up to the next
  pub before-passed : (depth next k : ℕ) → depth + k ≡ next → next ≤ length classes → list_all is_well a.endings ≡ true
      → ((d : ℕ) → depth ≤ d → d < next → is_empty (head_at os d).before_each ≡ true)
      → stage_from (jobs_from os body (Some (BeforeEach next))) (well_more k a) ≡ stage_from (jobs_from os body (Some (BeforeEach depth))) a
  before-passed depth next k sum within well empty =
      ap (λ n. stage_from (jobs_from os body (Some (BeforeEach n))) (well_more k a)) (sym sum)
      ∙ before-left os body depth k a (omega (arith, count)) well (λ d more less. empty d more (omega arith))

  before-over : (next : ℕ) → next ≡ length classes → jobs_from os body (Some (BeforeEach next)) ≡ jobs_from os body (Some Test)
  before-over next all = ap (λ n. jobs_from os body (Some (BeforeEach n))) (all ∙ sym count) ∙ before-all os body

  before-next : (next : ℕ) (t : Bool) → nat_lt next (length classes) ≡ t → next ≤ length classes
      → jobs_from os body (Some (cond t (BeforeEach next) Test)) ≡ jobs_from os body (Some (BeforeEach next))
  before-next next true e within = refl
  before-next next false e within = sym (before-over next (grind (arith, nat_tests)))

  pub before-placed : (next : ℕ) → next ≤ length classes → jobs_from os body (Some (before_job (length classes) next)) ≡ jobs_from os body (Some (BeforeEach next))
  before-placed next within = before-next next (nat_lt next (length classes)) refl within

  -- the test's own
  pub test-passed : list_all is_well a.endings ≡ true → is_empty body ≡ true
      → stage_from (jobs_from os body (after_each_inside (length classes))) (well_more 1 a) ≡ stage_from (jobs_from os body (Some Test)) a
  test-passed well empty =
      ap (λ js. stage_from js (well_more 1 a)) (ap (λ n. jobs_from os body (after_each_inside n)) (sym count) ∙ after-inside os body (length os) (omega arith) ∙ ap after_each_jobs (outside-all os))
      ∙ passed (own_job body (reverse os)) (after_each_jobs (reverse os)) a well empty

  -- the `after_each` blocks of the classes from a depth outwards
  pub after-passed : (depth next k : ℕ) → next + k ≡ depth + 1 → depth < length classes
      → ((d : ℕ) → next ≤ d → d < depth + 1 → is_empty (head_at os d).after_each ≡ true)
      → stage_from (jobs_from os body (after_each_inside next)) (well_more k a) ≡ stage_from (jobs_from os body (Some (AfterEach depth))) a
  after-passed depth next k sum within empty =
      let whole : next + k ≡ suc depth = omega arith in
      ap (λ js. stage_from js (well_more k a)) (after-inside os body next (omega (arith, count)))
      ∙ after-left os next k a (omega (arith, count)) (λ d more less. empty d more (omega arith))
      ∙ ap (λ n. stage_from (after_each_jobs (outside os n)) a) whole
