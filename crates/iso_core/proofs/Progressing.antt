-- Where a core refuses all events by which it might go on, every node but the root is finished; and
-- then it refuses all others.
use Rattle.std.proofs.Common.{◌≡◌, ℕ, zero, suc, ◌<◌, ◌+◌, ◌==◌, ◌||◌, Option, Some, None, IfSome, option_map, Bool, true, false, true≢false, not, is_none, is_some, refl, sym, ap, ◌∙◌, subst, arith}
use Rattle.std.proofs.lemmas.Bool.Decides.{nat_tests}
use Rattle.iso_core.proofs.CoreRuns.{IsRun, going-on, unstopped}
use Rattle.iso_core.specs.Cores.{CoreView, is_complete, refusal_in, state_in, suite_in}
use Rattle.iso_core.specs.Progress.{Refuses, entered_by_owner, shut_by_owner}
use Rattle.iso_isolation.specs.Events.{where_some}
use Rattle.iso_isolation.specs.Refusals.{Refused, body_of}
use Rattle.iso_isolation.specs.Runs.{is_accepted}
use Rattle.iso_lifecycle.specs.Subjects.{started}
use Rattle.iso_model.specs.Bodies.{is_ended}
use Rattle.iso_plan.specs.Paths.{IsTree}
use Rattle.iso_plan.specs.RowView.{tree_of}
use Rattle.iso_progress.proofs.Answering.{answered, searched}
use Rattle.iso_progress.proofs.Refusing.{stuck}
use Rattle.iso_progress.specs.Candidates.{NoneAtWork, going_on, is_at_work, may_be_entered, may_be_shut}
use Rattle.iso_progress.specs.NeverStuck.{CandidateServes, IsReached, SearchServes}
use Rattle.iso_standing.specs.CodeEvents.{event_of, events_of, refused_of}
use Rattle.iso_standing.specs.declared.event.Event.{Event}
use Rattle.iso_standing.specs.declared.event.Event.TheVariants as Code
use Rattle.iso_standing.specs.declared.refused.Refused.{Refused as Code-refused}
use Rattle.iso_suites.proofs.LanguageLaws.{scripts-laws}
use Rattle.iso_suites.proofs.PlanOpenings.{laws}
use Rattle.iso_suites.proofs.Progressing.{progress-laws}
use Rattle.iso_suites.specs.ScriptLanguage.{scripts}

module _ (c : CoreView) (t : IsTree (tree_of c.plan)) (run : IsRun c) (off : c.stopped ≡ false) (manned : 0 < c.workers) where
  at : IsReached scripts (suite_in c) c.workers (state_in c)
  at = record { manned = manned; events = events_of c.events; run = run; state = sym (going-on c off) }

  serves : SearchServes scripts (suite_in c) c.workers (state_in c)
  serves =
      searched scripts (suite_in c) (laws c.plan c.world t) scripts-laws (progress-laws (tree_of c.plan) t c.plan.settings (started c.world)) c.workers (state_in c) at

  answers : CandidateServes scripts (suite_in c) c.workers (state_in c)
  answers =
      answered scripts (suite_in c) (laws c.plan c.world t) scripts-laws (progress-laws (tree_of c.plan) t c.plan.settings (started c.world)) c.workers (state_in c) at

  -- a worker whose Step and Leave are refused has no body
  rests_by : (w : ℕ) → w < c.workers → Refuses c (Code.Step w) → Refuses c (Code.Leave w) → (over : Bool) → where_some (body_of scripts (suite_in c) c.workers (state_in c) w) false is_ended ≡ over
      → (b : Bool) → is_at_work scripts (suite_in c) c.workers (state_in c) w ≡ b → b ≡ false
  rests_by w h step leave over e false a = refl
  rests_by w h step leave true e true a =
      let yes : is_accepted scripts (suite_in c) c.workers (state_in c) (going_on scripts (suite_in c) c.workers (state_in c) w) ≡ true = serves.body w h a in
      let wrong : true ≡ false = sym (rw e at yes) ∙ leave in
      absurd (cc)
  rests_by w h step leave false e true a =
      let yes : is_accepted scripts (suite_in c) c.workers (state_in c) (going_on scripts (suite_in c) c.workers (state_in c) w) ≡ true = serves.body w h a in
      let wrong : true ≡ false = sym (rw e at yes) ∙ step in
      absurd (cc)

  pub rests : (w : ℕ) → w < c.workers → Refuses c (Code.Step w) → Refuses c (Code.Leave w) → is_at_work scripts (suite_in c) c.workers (state_in c) w ≡ false
  rests w h step leave = rests_by w h step leave (where_some (body_of scripts (suite_in c) c.workers (state_in c) w) false is_ended) refl
      (is_at_work scripts (suite_in c) c.workers (state_in c) w) refl

  module _ (none : NoneAtWork scripts (suite_in c) c.workers (state_in c)) where
    not_shut_by : (n : ℕ) → n < (suite_in c).nodes → (0 < n → Refuses c (shut_by_owner c n)) → (b : Bool) → may_be_shut scripts (suite_in c) c.workers (state_in c) n ≡ b → b ≡ false
    not_shut_by n h refused false e = refl
    not_shut_by zero h refused true e = sym e
    not_shut_by (suc n) h refused true e = sym (serves.shut (suc n) h none e) ∙ refused (omega arith)

    not_entered_by : (n : ℕ) → n < (suite_in c).nodes → (0 < n → Refuses c (entered_by_owner c n)) → (b : Bool) → may_be_entered scripts (suite_in c) c.workers (state_in c) n ≡ b → b ≡ false
    not_entered_by n h refused false e = refl
    not_entered_by zero h refused true e = sym e
    not_entered_by (suc n) h refused true e = sym (serves.enter (suc n) h none e) ∙ refused (omega arith)

  pub complete-where-none : ((w : ℕ) → w < c.workers → Refuses c (Code.Step w) × Refuses c (Code.Leave w)) → ((n : ℕ) → 0 < n → n < (suite_in c).nodes → Refuses c (shut_by_owner c n))
      → ((n : ℕ) → 0 < n → n < (suite_in c).nodes → Refuses c (entered_by_owner c n)) → is_complete c ≡ true
  complete-where-none bodies shuts enters =
      let none : NoneAtWork scripts (suite_in c) c.workers (state_in c) = λ w h. let refused = bodies w h in rests w h refused.0 refused.1 in
      serves.none none
      (λ n h. not_shut_by none n h (λ pos. shuts n pos h) (may_be_shut scripts (suite_in c) c.workers (state_in c) n) refl)
      (λ n h. not_entered_by none n h (λ pos. enters n pos h) (may_be_entered scripts (suite_in c) c.workers (state_in c) n) refl)

  pub refuses-where-complete : is_complete c ≡ true → (e : Event) → refusal_in c e ≡ None → ⊥
  refuses-where-complete over e allowed =
      let no : is_accepted scripts (suite_in c) c.workers (state_in c) (event_of e) ≡ false = stuck scripts (suite_in c) c.workers (state_in c) (answers.complete over) (event_of e) in
      let wrong : true ≡ false = sym (ap (λ (o : Option Refused). is_none o) allowed) ∙ no in
      absurd (cc)

-- where an event is allowed, the core isn't stopped, and a node is unfinished
some_by : (c : CoreView) (t : IsTree (tree_of c.plan)) (run : IsRun c) → 0 < c.workers → (e : Event)
    → refusal_in c e ≡ None → c.stopped ≡ false → (b : Bool) → is_complete c ≡ b → true ≡ not (c.stopped || is_complete c)
some_by c t run manned e allowed off true over = absurd (refuses-where-complete c t run off manned over e allowed)
some_by c t run manned e allowed off false over = rw (off, over) refl

pub allowed-some : (c : CoreView) (t : IsTree (tree_of c.plan)) (run : IsRun c) → 0 < c.workers → (e : Event) → refusal_in c e ≡ None → true ≡ not (c.stopped || is_complete c)
allowed-some c t run manned e allowed = some_by c t run manned e allowed (unstopped c e allowed) (is_complete c) refl

-- a core that refuses all events by which it might go on
pub record RefusesAll (c : CoreView) : Type 0 where
  pub bodies : (w : ℕ) → w < c.workers → Refuses c (Code.Step w) × Refuses c (Code.Leave w)
  pub shuts : (n : ℕ) → 0 < n → n < (suite_in c).nodes → Refuses c (shut_by_owner c n)
  pub enters : (n : ℕ) → 0 < n → n < (suite_in c).nodes → Refuses c (entered_by_owner c n)

none_by : (c : CoreView) (t : IsTree (tree_of c.plan)) (run : IsRun c) → 0 < c.workers → RefusesAll c → (b : Bool) → c.stopped ≡ b → false ≡ not (c.stopped || is_complete c)
none_by c t run manned refused true e = rw e refl
none_by c t run manned refused false e = rw (e, complete-where-none c t run e manned refused.bodies refused.shuts refused.enters) refl

pub allowed-tells : (c : CoreView) (t : IsTree (tree_of c.plan)) (run : IsRun c) → 0 < c.workers → (o : Option Event) → IfSome o (λ e. refusal_in c e ≡ None) → (o ≡ None → RefusesAll c)
    → is_some o ≡ not (c.stopped || is_complete c)
allowed-tells c t run manned (Some e) allowed refused = allowed-some c t run manned e allowed
allowed-tells c t run manned None allowed refused = none_by c t run manned (refused refl) c.stopped refl

-- what code says of a refusal is what the definitions say
pub refuses-by : (o : Option Code-refused) (r : Option Refused) → option_map refused_of o ≡ r → is_some o ≡ true → is_none r ≡ false
refuses-by None r e h = absurd (true≢false (sym h))
refuses-by (Some x) r e h = sym (ap (λ (s : Option Refused). is_none s) e)

-- what holds of all numbers below one and of it holds of all below the next
next_by : (P : ℕ → Type 0) (m n : ℕ) → ((j : ℕ) → j < m → P j) → P m → n < m + 1 → (b : Bool) → (n == m) ≡ b → P n
next_by P m n below here h true e = let same : n ≡ m = grind (arith, nat_tests) in subst P (sym same) here
next_by P m n below here h false e = let less : n < m = grind (arith, nat_tests) in below n less

pub below-next : (P : ℕ → Type 0) (m : ℕ) → ((j : ℕ) → j < m → P j) → P m → (n : ℕ) → n < m + 1 → P n
below-next P m below here n h = next_by P m n below here h (n == m) refl
