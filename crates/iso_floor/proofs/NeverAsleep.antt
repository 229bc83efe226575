-- Where all workers wait, no node is with one, and none was entered out of a line, a node is loose.
use Rattle.std.proofs.Common.{◌≡◌, ◌≢◌, ◌⊎◌, ℕ, zero, suc, ◌<◌, ◌&&◌, List, Some, None, Bool, true, false, arith, length, not, ap, sym, subst, ◌∙◌, inl, inr, refl}
use Rattle.std.proofs.lemmas.Bool.{cases_eq, cases_lt}
use Rattle.std.proofs.lemmas.List.{get_or_past}
use Rattle.iso_book.proofs.Runs.{going-on, laws-in, may-enter, may-shut, within-shut}
use Rattle.iso_book.specs.Books.{BookView, refusal_in, state_in, suite_in}
use Rattle.iso_book.specs.Progress.{phase_in}
use Rattle.iso_desk.specs.Crews.{awaits, member_of}
use Rattle.iso_desk.specs.Places.{IsEmpty, line_in, place_of}
use Rattle.iso_desk.specs.declared.crew.Member.{Member}
use Rattle.iso_desk.specs.declared.line.Line.{Line}
use Rattle.iso_desk.specs.declared.line.Line.TheVariants.{Key, Own}
use Rattle.iso_desk.specs.declared.place.Place.{Place}
use Rattle.iso_desk.specs.declared.place.Place.TheVariants.{Closed, InLine, Loose, Open, Over, With}
use Rattle.iso_floor.specs.Answering.{HasRun}
use Rattle.iso_floor.specs.Asleep.{AreWorkers, IsAsleep, IsEnterLeft, IsOfKey, IsPartyOf, IsShutLeft, IsUnfound, NamesOneOf}
use Rattle.iso_floor.specs.Desks.{IsAt, IsDesk}
use Rattle.iso_floor.specs.Parties.{party_in}
use Rattle.iso_floor.specs.Postings.{ComesLater}
use Rattle.iso_floor.specs.Remainders.{HaveLeft}
use Rattle.iso_floor.specs.Schedulers.{HasNothingIn, SchedulerView, is_loose, is_with, loose_in, with_in}
use Rattle.iso_floor.specs.Successions.{ComeInTurn, HasEarlier, child_at}
use Rattle.iso_floor.specs.Untouched.{AreUntouched, IsUntouched, is_of_key, is_past, is_untaken}
use Rattle.iso_isolation.proofs.Barred.{path_on}
use Rattle.iso_isolation.proofs.Locks.{Locked, above_open}
use Rattle.iso_isolation.specs.Events.{stands_in}
use Rattle.iso_isolation.specs.Runs.{full}
use Rattle.iso_isolation.specs.States as States
use Rattle.iso_isolation.specs.States.{Status, first, is_finished, is_open}
use Rattle.iso_model.specs.Bodies.{Stage}
use Rattle.iso_model.specs.Openings.{Frame}
use Rattle.iso_model.specs.declared.outcome.Outcome.{Outcome}
use Rattle.iso_model.specs.declared.script.Mode.TheVariants.{SameThread}
use Rattle.iso_plan.proofs.ChildLemmas.{child-is}
use Rattle.iso_plan.proofs.PathLemmas.{eq_same}
use Rattle.iso_plan.specs.Children.{IsChild}
use Rattle.iso_plan.specs.HeldNodes.{count}
use Rattle.iso_plan.specs.Modes.{mode}
use Rattle.iso_plan.specs.Paths.{IsTree, children, parent}
use Rattle.iso_plan.specs.Planned.{Planned}
use Rattle.iso_plan.specs.RowView.{tree_of}
use Rattle.iso_progress.proofs.Reaching.{reached}
use Rattle.iso_progress.specs.NeverStuck.{IsReached}
use Rattle.iso_settings.specs.Worlds.{Start}
use Rattle.iso_standing.proofs.Looks.{nodes-are}
use Rattle.iso_standing.proofs.Passing.{order-below}
use Rattle.iso_standing.specs.CodeEvents.{events_of}
use Rattle.iso_standing.specs.Phases.{phase_of}
use Rattle.iso_standing.specs.declared.event.Event.TheVariants.{Enter, Shut}
use Rattle.iso_standing.specs.declared.phase.Phase.TheVariants as P
use Rattle.iso_suites.proofs.LanguageLaws.{scripts-laws}
use Rattle.iso_suites.specs.PlanSuites.{is_same_thread}
use Rattle.iso_suites.specs.ScriptLanguage.{scripts}
use Rattle.iso_floor.proofs.AsleepLemmas.{awaits-below, desk-left-asleep, desk-workers, more-laws}
use Rattle.iso_floor.proofs.RemainderLemmas.{IsLeft, one-left}
use Rattle.iso_floor.proofs.SuccessionLemmas.{preceded}
use Rattle.iso_floor.proofs.UntouchedLemmas.{shut-not}

-- who is loose is counted
some-loose : (p : ℕ → Bool) (n m : ℕ) → m < n → p m ≡ true → 0 < count p n
some-loose p zero m low e = absurd (omega (arith, low))
some-loose p (suc n) m low e =
    elim (cases_eq m n) [
      | inl same ↦ let here : p n ≡ true = ap p (sym same) ∙ e in rw here (omega arith)
      | inr other ↦ let more = some-loose p n m (omega (arith, low, other)) e in omega (arith, more)
    ]

loose-counted : (places : List Place) (n : ℕ) → n < length places → place_of places n ≡ Loose → 0 < loose_in places
loose-counted places n low e = some-loose (λ m. is_loose (place_of places m)) (length places) n low (ap is_loose e)

open-status : (st : Status Stage Frame Outcome) → phase_of st ≡ P.Open → is_open st ≡ true
open-status States.Waiting e = absurd (cc)
open-status (States.Begun b) e = absurd (cc)
open-status (States.Open fs) e = refl
open-status (States.Barred fs) e = absurd (cc)
open-status (States.Closing fs b) e = absurd (cc)
open-status (States.Finished r) e = absurd (cc)

finished-phase : (st : Status Stage Frame Outcome) → is_finished st ≡ true → phase_of st ≡ P.Finished
finished-phase States.Waiting e = absurd (cc)
finished-phase (States.Begun b) e = absurd (cc)
finished-phase (States.Open fs) e = absurd (cc)
finished-phase (States.Barred fs) e = absurd (cc)
finished-phase (States.Closing fs b) e = absurd (cc)
finished-phase (States.Finished r) e = refl

pos-from : (n : ℕ) → (n ≡ 0 → ⊥) → 0 < n
pos-from zero f = absurd (f refl)
pos-from (suc n) f = omega arith

open-not-past : (st : Status Stage Frame Outcome) → is_open st ≡ true → is_past (phase_of st) ≡ false
open-not-past States.Waiting e = absurd (cc)
open-not-past (States.Begun b) e = absurd (cc)
open-not-past (States.Open fs) e = refl
open-not-past (States.Barred fs) e = absurd (cc)
open-not-past (States.Closing fs b) e = absurd (cc)
open-not-past (States.Finished r) e = absurd (cc)

open-phase : (st : Status Stage Frame Outcome) → is_open st ≡ true → phase_of st ≡ P.Open
open-phase States.Waiting e = absurd (cc)
open-phase (States.Begun b) e = absurd (cc)
open-phase (States.Open fs) e = refl
open-phase (States.Barred fs) e = absurd (cc)
open-phase (States.Closing fs b) e = absurd (cc)
open-phase (States.Finished r) e = absurd (cc)

module _ (b : BookView) (s : SchedulerView) (tree : IsTree (tree_of b.plan)) (run : HasRun b) (manned : 0 < b.workers) (on : b.stopped ≡ false)
    (at : (n : ℕ) → IsAt b n (place_of s.table.places n)) (empty : (w : ℕ) → w < b.workers → IsEmpty s.table.places (Own w)) (are : AreWorkers b.workers s)
    (free : (n w : ℕ) → place_of s.table.places n ≢ With w) (fresh : AreUntouched b s.table.places) (turn : ComeInTurn b.plan s) (have : HaveLeft b.plan s) where
  locked : Locked (suite_in b) (state_in b).nodes.status
  locked =
      let r : IsReached scripts (suite_in b) b.workers (state_in b) =
      record {
        manned = manned;
        events = full scripts (suite_in b) (first scripts (suite_in b)) (events_of b.history);
        run = run.run;
        state = sym (going-on b on);
      } in
      (reached scripts (suite_in b) (laws-in b tree) scripts-laws (more-laws b tree) b.workers (state_in b) r).kept.locked

  -- no class around an open one is past
  none-past : (n k : ℕ) → phase_in b (parent (tree_of b.plan) n) ≡ P.Open → stands_in scripts (suite_in b) n k ≡ true → is_past (phase_in b k) ≡ true → ⊥
  none-past n k opened inside past =
      let on_path = path_on scripts (suite_in b) (laws-in b tree) scripts-laws k (parent (tree_of b.plan) n) inside in
      let above = above_open scripts (suite_in b) (laws-in b tree) scripts-laws (state_in b).nodes.status locked on_path (open-status ((state_in b).nodes.status (parent (tree_of b.plan) n)) opened) in
      let wrong : true ≡ false = sym past ∙ open-not-past ((state_in b).nodes.status k) above in
      absurd (cc)

  -- a child of an open class that is finished is over, or loose
  untouched-not : (n : ℕ) → phase_in b n ≡ P.Finished → phase_in b (parent (tree_of b.plan) n) ≡ P.Open → IsUntouched b n → ⊥
  untouched-not n ended opened (inl waits) = let wrong : P.Finished ≡ P.Waiting = sym ended ∙ waits in absurd (cc)
  untouched-not n ended opened (inr was) = none-past n was.class opened was.inside was.past

  in-no-line : (n : ℕ) (l : Line) → line_in (place_of s.table.places n) ≡ Some l → IsPartyOf b.workers (party_in l) → (is_of_key l ≡ true → ⊥) → ⊥
  in-no-line n (Key k) st low f = f refl
  in-no-line n (Own v) st low f = empty v low n st

  named : (n : ℕ) (p : Place) → place_of s.table.places n ≡ p → NamesOneOf b.workers p
  named n p e = subst (NamesOneOf b.workers) e (are.places n)

  ended-loose : (n : ℕ) → n < length b.plan.rows → phase_in b n ≡ P.Finished → phase_in b (parent (tree_of b.plan) n) ≡ P.Open → place_of s.table.places n ≢ Over → (p : Place)
      → place_of s.table.places n ≡ p → place_of s.table.places n ≡ Loose
  ended-loose n low ended opened left Closed e = absurd (untouched-not n ended opened (fresh n low (ap is_untaken e)))
  ended-loose n low ended opened left Loose e = e
  ended-loose n low ended opened left (InLine t) e =
      absurd (in-no-line n t.line (ap line_in e) (named n (InLine t) e) (λ k. untouched-not n ended opened (fresh n low (ap is_untaken e ∙ k))))
  ended-loose n low ended opened left (With w) e = absurd (free n w e)
  ended-loose n low ended opened left Open e =
      let is : phase_in b n ≡ P.Open = subst (IsAt b n) e (at n) in
      let wrong : P.Finished ≡ P.Open = sym ended ∙ is in
      absurd (cc)
  ended-loose n low ended opened left Over e = absurd (left e)

  counted : (n : ℕ) → n < length b.plan.rows → place_of s.table.places n ≡ Loose → 0 < loose_in s.table.places
  counted n low e = loose-counted s.table.places n (subst (λ (k : ℕ). n < k) (sym turn.places_are) low) e

  -- the class of a node that could be entered
  module _ (w n : ℕ) (none : refusal_in b (Enter w n) ≡ None) where
    abbrev class : ℕ
    class = parent (tree_of b.plan) n

    is-opened : phase_in b class ≡ P.Open
    is-opened = open-phase ((state_in b).nodes.status class) (may-enter b w n none tree).parent

    within : n < length b.plan.rows
    within = let low = (may-enter b w n none tree).inside in let count = nodes-are b.plan in omega (arith, low, count)

    inner : 0 < n
    inner = pos-from n (may-enter b w n none tree).nonzero

    class-within : class < length b.plan.rows
    class-within = let less = tree.below n inner in let low = within in omega (arith, less, low)

    open-not : IsUntouched b class → ⊥
    open-not (inl waits) = let wrong : P.Open ≡ P.Waiting = sym is-opened ∙ waits in absurd (cc)
    open-not (inr was) = let wrong : P.Open ≡ P.Finished = sym is-opened ∙ was.finished in absurd (cc)

    earlier-loose : mode (tree_of b.plan) b.plan.settings n ≡ SameThread → place_of s.table.places class ≡ Open → HasEarlier b.plan s.table.places n → 0 < loose_in s.table.places
    earlier-loose same opened e =
        let m = child_at b.plan class e.earlier in
        let child : IsChild (tree_of b.plan) class (length b.plan.rows) m = child-is (tree_of b.plan) class e.earlier e.alone.within in
        let pos = child.positive in
        let placed : e.place < length (children (tree_of b.plan) class) =
        elim (cases_lt e.place (length (children (tree_of b.plan) class))) [
          | inl low ↦ low
          | inr high ↦
              let zeroth : n ≡ 0 = sym e.is ∙ get_or_past (children (tree_of b.plan) class) e.place 0 high in
              absurd ((may-enter b w n none tree).nonzero zeroth)
        ] in
        let less : m < n = subst (λ (j : ℕ). m < j) e.is (order-below (tree_of b.plan) class (length (tree_of b.plan)) e.earlier e.place e.before placed) in
        let ended : phase_in b m ≡ P.Finished =
        finished-phase ((state_in b).nodes.status m)
        ((may-enter b w n none tree).earlier m less (λ z. absurd (omega (arith, pos, z))) child.parent_is (ap is_same_thread e.alone.alone) (ap is_same_thread same)) in
        counted m child.within
        (ended-loose m child.within ended (ap (phase_in b) child.parent_is ∙ is-opened) e.left (place_of s.table.places m) refl)

    by-class : place_of s.table.places n ≡ Closed → ComesLater b.plan s.table.places n → (p : Place) → place_of s.table.places class ≡ p → 0 < loose_in s.table.places
    by-class closed later Closed e = absurd (later.entered e)
    by-class closed later Loose e = counted class class-within e
    by-class closed later (InLine t) e =
        absurd (in-no-line class t.line (ap line_in e) (named class (InLine t) e) (λ k. open-not (fresh class class-within (ap is_untaken e ∙ k))))
    by-class closed later (With v) e = absurd (free class v e)
    by-class closed later Open e = earlier-loose (later.next e) e (preceded b.plan s turn n inner within closed (later.next e) e)
    by-class closed later Over e = absurd (later.left e)

    enter-loose : (place_of s.table.places n ≡ Loose) ⊎ ((place_of s.table.places n ≡ Closed) × ComesLater b.plan s.table.places n) → 0 < loose_in s.table.places
    enter-loose (inl e) = counted n within e
    enter-loose (inr e) = by-class e.0 e.1 (place_of s.table.places class) refl

  -- a class that could be shut
  module _ (w n : ℕ) (none : refusal_in b (Shut w n) ≡ None) where
    key-not : (l : Line) → line_in (place_of s.table.places n) ≡ Some l → is_of_key l ≡ true → is_untaken (place_of s.table.places n) ≡ true → ⊥
    key-not l st k untaken = shut-not b w n none (fresh n (within-shut b w n none) untaken)

    of-key : (l : Line) → IsOfKey l → is_of_key l ≡ true
    of-key (Key k) is = refl
    of-key (Own v) is = absurd is

    child-loose : place_of s.table.places n ≡ Open → 0 < loose_in s.table.places
    child-loose opened =
        let may = may-shut b w n none in
        let found = one-left b.plan s n have (pos-from n may.nonzero) opened in
        let m = found.0 in
        let is : IsLeft b.plan s.table.places n m = found.1 in
        let pos = is.is.positive in
        let low = is.is.within in
        let count = nodes-are b.plan in
        let phase : phase_in b n ≡ P.Open = subst (IsAt b n) opened (at n) in
        let ended : phase_in b m ≡ P.Finished =
        finished-phase ((state_in b).nodes.status m)
        (may.children (open-status ((state_in b).nodes.status n) phase) m (omega (arith, low, count)) (λ z. absurd (omega (arith, pos, z))) is.is.parent_is) in
        counted m low (ended-loose m low ended (ap (phase_in b) is.is.parent_is ∙ phase) is.left (place_of s.table.places m) refl)

    shut-loose : (p : Place) → place_of s.table.places n ≡ p → IsUnfound p → 0 < loose_in s.table.places
    shut-loose Closed e is = absurd is
    shut-loose Loose e is = counted n (within-shut b w n none) e
    shut-loose (InLine t) e is = absurd (key-not t.line (ap line_in e) (of-key t.line is) (ap is_untaken e ∙ of-key t.line is))
    shut-loose (With v) e is = absurd (free n v e)
    shut-loose Open e is = child-loose e
    shut-loose Over e is = absurd is

  never-left : IsEnterLeft (record { book = b; scheduler = s }) ⊎ IsShutLeft (record { book = b; scheduler = s }) → 0 < loose_in s.table.places
  never-left (inl l) = enter-loose l.worker l.node l.taken l.place
  never-left (inr l) = shut-loose l.worker l.class l.taken (place_of s.table.places l.class) refl l.place

-- no node is with a worker that waits
pub free-by : (s : SchedulerView) → ((w : ℕ) → (member_of s.members w).waits ≡ true → with_in s.table.places w ≡ 0) → (n w : ℕ) → (member_of s.members w).waits ≡ true
    → place_of s.table.places n ≢ With w
free-by s idle n w waits e =
    elim (cases_lt n (length s.table.places)) [
      | inl low ↦
          let is : is_with w (place_of s.table.places n) ≡ true = ap (is_with w) e ∙ eq_same w in
          let some = some-loose (λ m. is_with w (place_of s.table.places m)) (length s.table.places) n low is in
          let none = idle w waits in
          absurd (omega (arith, some, none))
      | inr high ↦ let wrong : Closed ≡ With w = sym (get_or_past s.table.places n Closed high) ∙ e in absurd (cc)
    ]

waits-told : (m : Member) → awaits m ≡ true → m.waits ≡ true
waits-told m e = both-first m.waits (not m.called) e
  where
    both-first : (a c : Bool) → (a && c) ≡ true → a ≡ true
    both-first true c f = refl
    both-first false c f = absurd (cc)

with-nobody : (b : BookView) (s : SchedulerView) → AreWorkers b.workers s → IsAsleep (record { book = b; scheduler = s })
    → ((w : ℕ) → (member_of s.members w).waits ≡ true → with_in s.table.places w ≡ 0) → (n w : ℕ) → place_of s.table.places n ≢ With w
with-nobody b s are asleep idle n w e =
    let low : w < b.workers = subst (NamesOneOf b.workers) e (are.places n) in
    free-by s idle n w (waits-told (member_of s.members w) (asleep.waits w low)) e

-- of a desk
pub desk-never : (plan : Planned) (start : Start) (workers : ℕ) (b : BookView) (s : SchedulerView) (d : IsDesk plan start workers b s) (p : Planned) → IsTree (tree_of p) → p ≡ b.plan → HasRun b
    → (is_over : Bool) → ((w : ℕ) → w < length s.members → awaits (member_of s.members w) ≡ true → HasNothingIn s is_over w (member_of s.members w).seen)
    → (0 < workers → b.stopped ≡ false → ComeInTurn plan s) → (0 < workers → b.stopped ≡ false → HaveLeft plan s) → AreUntouched b s.table.places
    → IsAsleep (record { book = b; scheduler = s }) → ((w : ℕ) → (member_of s.members w).waits ≡ true → with_in s.table.places w ≡ 0) → 0 < loose_in s.table.places
desk-never plan start workers b s d p tree own run is_over nothing turn have fresh asleep idle =
    let is-tree : IsTree (tree_of b.plan) = subst (λ (x : Planned). IsTree (tree_of x)) own tree in
    let some : 0 < workers = subst (λ (k : ℕ). 0 < k) d.book.workers_are asleep.manned in
    let none : (w : ℕ) → w < b.workers → IsEmpty s.table.places (Own w) =
    λ w low. (nothing w (awaits-below s.members w (asleep.waits w low)) (asleep.waits w low)).own in
    let are : AreWorkers b.workers s = subst (λ (k : ℕ). AreWorkers k s) (sym d.book.workers_are) (desk-workers plan start workers b s d p tree own run some) in
    never-left b s is-tree run asleep.manned asleep.running d.places none are (λ n w e. with-nobody b s are asleep idle n w e) fresh
    (subst (λ (x : Planned). ComeInTurn x s) (sym d.book.plan_is) (turn some asleep.running)) (subst (λ (x : Planned). HaveLeft x s) (sym d.book.plan_is) (have some asleep.running))
    (desk-left-asleep plan start workers b s d p tree own run is_over nothing asleep)
