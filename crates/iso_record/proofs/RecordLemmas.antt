-- Cores that take histories.
use Rattle.std.proofs.Common.{◌≡◌, ℕ, zero, suc, ◌<◌, ◌+◌, List, [], ◌∷◌, ◌++◌, length, replicate, Option, Some, None, true, false, is_none, refl, sym, ap, subst, ◌∙◌, arith, append_assoc, length-append, get_or, take, drop, take-suc, add-one, Result, Ok, Err, OnOk}
use Rattle.iso_core.proofs.CoreRuns.{accepted, going-on}
use Rattle.iso_core.specs.Cores.{Accepted, CoreView, new_core, refusal_in, state_in, suite_in, with_event}
use Rattle.iso_isolation.specs.Events as E
use Rattle.iso_isolation.specs.Histories.{IsHistory, state_of}
use Rattle.iso_isolation.specs.Refusals.{Refused}
use Rattle.iso_isolation.specs.Runs as Runs
use Rattle.iso_isolation.specs.Runs.{after_all_of, full, history_of, is_accepted, is_run, steps_needed, with_steps}
use Rattle.iso_isolation.specs.States.{first}
use Rattle.iso_record.proofs.HistoryLemmas.{full_next, history_again, history_before, next_accepted, next_run, no_step_after, run_left, step_or_leave}
use Rattle.iso_record.specs.Recordings.{AreRecordOf, GoesOnBy, HasGoneOnBy, HasTaken, IsLeaving, OfSameSuite, history_in, is_leave}
use Rattle.iso_standing.proofs.EventLists.{map-append}
use Rattle.iso_standing.specs.CodeEvents.{event_of, events_of}
use Rattle.iso_standing.specs.declared.event.Event.{Event}
use Rattle.iso_standing.specs.declared.event.Event.TheVariants as Code
use Rattle.iso_suites.specs.ScriptLanguage.{scripts}
use Rattle.iso_plan.specs.Planned.{Planned}
use Rattle.iso_settings.specs.Worlds.{Start}
use Rattle.iso_suites.specs.SuiteStates.{RunState, suite_at}

allowed_by : (o : Option Refused) → is_none o ≡ true → o ≡ None
allowed_by None e = refl
allowed_by (Some r) e = absurd cc

-- what is accepted isn't refused
pub allowed : (c : CoreView) (e : Event) → is_accepted scripts (suite_in c) c.workers (state_in c) (event_of e) ≡ true → refusal_in c e ≡ None
allowed c e ok = allowed_by (refusal_in c e) ok

-- a core that has taken a history stands where that leads
pub stands : (c : CoreView) (h : List E.Event) → HasTaken c h → state_in c ≡ state_of scripts (suite_in c) h
stands c h t = going-on c t.going ∙ ap (after_all_of scripts (suite_in c) (first scripts (suite_in c))) t.events

-- a body that is to be left, where it doesn't do that: it makes a step
first_step : (c : CoreView) (w i : ℕ) → is_run scripts (suite_in c) c.workers (state_in c) (replicate i (E.Step w) ++ E.Leave w ∷ []) ≡ true
    → (refusal_in c (Code.Leave w) ≡ None → ⊥) → refusal_in c (Code.Step w) ≡ None
first_step c w zero run stays =
    absurd (stays (allowed c (Code.Leave w) (next_accepted scripts (suite_in c) c.workers (state_in c) (E.Leave w) [] run)))
first_step c w (suc i) run stays =
    allowed c (Code.Step w) (next_accepted scripts (suite_in c) c.workers (state_in c) (E.Step w) (replicate i (E.Step w) ++ E.Leave w ∷ []) run)

pub step_next : (c : CoreView) (w : ℕ) → IsLeaving c w → (refusal_in c (Code.Leave w) ≡ None → ⊥) → refusal_in c (Code.Step w) ≡ None
step_next c w l stays = first_step c w l.steps l.run stays

-- Of a history in full, up to a Leave, so many steps and the Leave are left to take.
pub record IsLeft (h : List E.Event) (w : ℕ) (c : CoreView) : Type 0 where
  pub going : c.stopped ≡ false
  pub left : ℕ
  pub events : events_of c.events ++ (replicate left (E.Step w) ++ E.Leave w ∷ []) ≡ full scripts (suite_in c) (first scripts (suite_in c)) (h ++ E.Leave w ∷ [])

module _ (c : CoreView) (h : List E.Event) (w : ℕ) (is : IsHistory scripts (suite_in c) c.workers (h ++ E.Leave w ∷ [])) where
  abbrev whole : List E.Event
  whole = full scripts (suite_in c) (first scripts (suite_in c)) (h ++ E.Leave w ∷ [])

  module _ (l : IsLeft h w c) where
    rest_runs : is_run scripts (suite_in c) c.workers (state_in c) (replicate l.left (E.Step w) ++ E.Leave w ∷ []) ≡ true
    rest_runs =
        subst (λ (s : RunState). is_run scripts (suite_in c) c.workers s (replicate l.left (E.Step w) ++ E.Leave w ∷ []) ≡ true) (sym (going-on c l.going))
        (run_left scripts (suite_in c) c.workers (events_of c.events) (replicate l.left (E.Step w) ++ E.Leave w ∷ []) (first scripts (suite_in c))
        (subst (λ (es : List E.Event). is_run scripts (suite_in c) c.workers (first scripts (suite_in c)) es ≡ true) (sym l.events) is.run))

    pub leaving : IsLeaving c w
    leaving = record { steps = l.left; run = rest_runs }

    -- after the Leave nothing is left
    left_by : (i : ℕ) → l.left ≡ i → refusal_in c (Code.Leave w) ≡ None → events_of (c.events ++ Code.Leave w ∷ []) ≡ whole
    left_by zero e ok =
        map-append c.events (Code.Leave w ∷ [])
        ∙ ap (λ (i : ℕ). events_of c.events ++ (replicate i (E.Step w) ++ E.Leave w ∷ [])) (sym e)
        ∙ l.events
    left_by (suc i) e ok =
        let run = subst (λ (j : ℕ). is_run scripts (suite_in c) c.workers (state_in c) (replicate j (E.Step w) ++ E.Leave w ∷ []) ≡ true) e rest_runs in
        absurd (step_or_leave scripts (suite_in c) c.workers (state_in c) w
        (next_accepted scripts (suite_in c) c.workers (state_in c) (E.Step w) (replicate i (E.Step w) ++ E.Leave w ∷ []) run)
        (accepted c (Code.Leave w) ok))

    pub left_all : refusal_in c (Code.Leave w) ≡ None → HasTaken (with_event c (Code.Leave w)) (h ++ E.Leave w ∷ [])
    left_all ok = record { going = l.going; events = left_by l.left refl ok }

    -- after a Step one less is left
    stepped_by : (i : ℕ) → l.left ≡ i → refusal_in c (Code.Step w) ≡ None → IsLeft h w (with_event c (Code.Step w))
    stepped_by zero e ok =
        let run = subst (λ (j : ℕ). is_run scripts (suite_in c) c.workers (state_in c) (replicate j (E.Step w) ++ E.Leave w ∷ []) ≡ true) e rest_runs in
        absurd (step_or_leave scripts (suite_in c) c.workers (state_in c) w (accepted c (Code.Step w) ok)
        (next_accepted scripts (suite_in c) c.workers (state_in c) (E.Leave w) [] run))
    stepped_by (suc i) e ok = record {
      going = l.going;
      left = i;
      events =
          ap (λ (es : List E.Event). es ++ (replicate i (E.Step w) ++ E.Leave w ∷ [])) (map-append c.events (Code.Step w ∷ []))
          ∙ append_assoc (events_of c.events) (E.Step w ∷ []) (replicate i (E.Step w) ++ E.Leave w ∷ [])
          ∙ ap (λ (j : ℕ). events_of c.events ++ (replicate j (E.Step w) ++ E.Leave w ∷ [])) (sym e)
          ∙ l.events;
    }

    pub stepped : refusal_in c (Code.Step w) ≡ None → IsLeft h w (with_event c (Code.Step w))
    stepped ok = stepped_by l.left refl ok

    map_length : (es : List Event) → length (events_of es) ≡ length es
    map_length [] = refl
    map_length (e ∷ es) = ap suc (map_length es)

    pub shorter : length c.events < length whole
    shorter =
        let all : length (events_of c.events ++ (replicate l.left (E.Step w) ++ E.Leave w ∷ [])) ≡ length whole = ap length l.events in
        omega (arith, all, map_length c.events, length-append (events_of c.events) (replicate l.left (E.Step w) ++ E.Leave w ∷ []), length-append (replicate l.left (E.Step w)) (E.Leave w ∷ []))

-- a history in full, before the Leave
pub all_left : (c : CoreView) (h : List E.Event) (w : ℕ) → HasTaken c h → IsLeft h w c
all_left c h w t = record {
  going = t.going;
  left = steps_needed scripts (suite_in c) (state_of scripts (suite_in c) h) w;
  events = ap (λ (es : List E.Event). es ++ with_steps scripts (suite_in c) (state_of scripts (suite_in c) h) (E.Leave w)) t.events ∙ sym (full_next scripts (suite_in c) c.workers h (E.Leave w));
}

-- an event that isn't a Leave is taken as it is
pub taken_next : (c : CoreView) (h : List E.Event) (e : Event) → HasTaken c h → with_steps scripts (suite_in c) (state_of scripts (suite_in c) h) (event_of e) ≡ event_of e ∷ []
    → HasTaken (with_event c e) (h ++ event_of e ∷ [])
taken_next c h e t plain = record {
  going = t.going;
  events = map-append c.events (e ∷ [])
      ∙ ap (λ (es : List E.Event). es ++ event_of e ∷ []) t.events
      ∙ ap (λ (es : List E.Event). full scripts (suite_in c) (first scripts (suite_in c)) h ++ es) (sym plain)
      ∙ sym (full_next scripts (suite_in c) c.workers h (event_of e));
}

-- and is accepted
pub plain_next : (c : CoreView) (h : List E.Event) (e : Event) → HasTaken c h → IsHistory scripts (suite_in c) c.workers (h ++ event_of e ∷ [])
    → with_steps scripts (suite_in c) (state_of scripts (suite_in c) h) (event_of e) ≡ event_of e ∷ [] → refusal_in c e ≡ None
plain_next c h e t is plain =
    allowed c e
    (subst (λ (s : RunState). is_accepted scripts (suite_in c) c.workers s (event_of e) ≡ true) (sym (stands c h t))
    (next_accepted scripts (suite_in c) c.workers (state_of scripts (suite_in c) h) (event_of e) []
    (subst (λ (es : List E.Event). is_run scripts (suite_in c) c.workers (state_of scripts (suite_in c) h) es ≡ true) plain
    (next_run scripts (suite_in c) c.workers h (event_of e) is))))

-- what a core has taken is its history
pub taken_history : (c : CoreView) (h : List E.Event) → HasTaken c h → IsHistory scripts (suite_in c) c.workers h → history_in c ≡ h
taken_history c h t is = ap history_of t.events ∙ history_again scripts (suite_in c) c.workers h is

pub gone_on : (c d : CoreView) (h : List E.Event) (e : Event) → history_in c ≡ h → HasTaken d (h ++ event_of e ∷ [])
    → IsHistory scripts (suite_in d) d.workers (h ++ event_of e ∷ []) → HasGoneOnBy e c d
gone_on c d h e same t is =
    let history : history_in d ≡ h ++ event_of e ∷ [] = taken_history d (h ++ event_of e ∷ []) t is in
    record {
      taken = subst (λ (g : List E.Event). HasTaken d g) (sym history) t;
      history = history ∙ ap (λ (g : List E.Event). g ++ event_of e ∷ []) (sym same);
    }

-- what is told of a plan, a world and workers is told of a core of the same
pub moved : (P : Planned → Start → ℕ → Type 0) (c d : CoreView) → OfSameSuite c d → P c.plan c.world c.workers → P d.plan d.world d.workers
moved P c d s p =
    subst (λ (k : ℕ). P d.plan d.world k) (sym s.workers)
    (subst (λ (w : Start). P d.plan w c.workers) (sym s.world) (subst (λ (q : Planned). P q c.world c.workers) (sym s.plan) p))

pub same_suite : (c : CoreView) → OfSameSuite c c
same_suite c = record { plan = refl; world = refl; workers = refl }

pub same_on : (c d e : CoreView) → OfSameSuite c d → OfSameSuite d e → OfSameSuite c e
same_on c d e p q = record { plan = q.plan ∙ p.plan; world = q.world ∙ p.world; workers = q.workers ∙ p.workers }

pub goes_on_as : (c d : CoreView) (e : Event) → OfSameSuite c d → GoesOnBy c e → IsHistory scripts (suite_in d) d.workers (history_in c ++ event_of e ∷ [])
goes_on_as c d e s h = moved (λ (p : Planned) (w : Start) (k : ℕ). IsHistory scripts (suite_at p w) k (history_in c ++ event_of e ∷ [])) c d s h

module _ (c s d : CoreView) (w : ℕ) (same : OfSameSuite c s) (on : GoesOnBy c (Code.Leave w)) (l : IsLeft (history_in c) w s) where
  pub may_leave : IsLeaving s w
  may_leave = leaving s (history_in c) w (goes_on_as c s (Code.Leave w) same on) l

  pub has_left : Accepted (Code.Leave w) s d → HasGoneOnBy (Code.Leave w) c d
  has_left a =
      let h = history_in c in
      let is = goes_on_as c s (Code.Leave w) same on in
      let t : HasTaken d (h ++ E.Leave w ∷ []) = subst (λ (v : CoreView). HasTaken v (h ++ E.Leave w ∷ [])) (sym a.core) (left_all s h w is l a.allowed) in
      let here : IsHistory scripts (suite_in d) d.workers (h ++ E.Leave w ∷ []) =
      subst (λ (v : CoreView). IsHistory scripts (suite_in v) v.workers (h ++ E.Leave w ∷ [])) (sym a.core) is in
      gone_on c d h (Code.Leave w) refl t here

  pub has_stepped : Accepted (Code.Step w) s d → IsLeft (history_in c) w d
  has_stepped a =
      subst (λ (v : CoreView). IsLeft (history_in c) w v) (sym a.core) (stepped s (history_in c) w (goes_on_as c s (Code.Leave w) same on) l a.allowed)

-- an event of a history that isn't a Leave
module _ (c : CoreView) (taken : HasTaken c (history_in c)) where
  pub plain_allowed : (e : Event) → is_leave e ≡ false → GoesOnBy c e → refusal_in c e ≡ None
  plain_allowed (Code.Enter w n) no_leave on = plain_next c (history_in c) (Code.Enter w n) taken on refl
  plain_allowed (Code.Shut w n) no_leave on = plain_next c (history_in c) (Code.Shut w n) taken on refl
  plain_allowed (Code.Step w) no_leave on = let bad = no_step_after (history_in c) (E.Step w ∷ []) on.no_step in absurd cc
  plain_allowed (Code.Leave w) no_leave on = absurd cc

  plain_taken : (e : Event) → is_leave e ≡ false → GoesOnBy c e → HasTaken (with_event c e) (history_in c ++ event_of e ∷ [])
  plain_taken (Code.Enter w n) no_leave on = taken_next c (history_in c) (Code.Enter w n) taken refl
  plain_taken (Code.Shut w n) no_leave on = taken_next c (history_in c) (Code.Shut w n) taken refl
  plain_taken (Code.Step w) no_leave on = let bad = no_step_after (history_in c) (E.Step w ∷ []) on.no_step in absurd cc
  plain_taken (Code.Leave w) no_leave on = absurd cc

  pub plain_gone_on : (e : Event) (d : CoreView) → is_leave e ≡ false → GoesOnBy c e → d ≡ with_event c e → HasGoneOnBy e c d
  plain_gone_on e d no_leave on is =
      gone_on c d (history_in c) e refl
      (subst (λ (v : CoreView). HasTaken v (history_in c ++ event_of e ∷ [])) (sym is) (plain_taken e no_leave on))
      (subst (λ (v : CoreView). IsHistory scripts (suite_in v) v.workers (history_in c ++ event_of e ∷ [])) (sym is) on)

pub if_ok : {A E : Type 0} {P Q : Type 0} (r : Result A E) → (P → Q) → OnOk r P → OnOk r Q
if_ok (Ok a) f p = f p
if_ok (Err e) f p = tt

-- a list of events with the one at a place apart
next_of : (h : List Event) (i : ℕ) (d : Event) → i < length h → (events_of (take i h) ++ event_of (get_or h i d) ∷ []) ++ events_of (drop (suc i) h) ≡ events_of h
next_of [] i d lt = absurd (omega arith)
next_of (e ∷ h) zero d lt = refl
next_of (e ∷ h) (suc i) d lt = ap (λ (t : List E.Event). event_of e ∷ t) (next_of h i d (omega arith))

pub next_taken : (h : List Event) (i : ℕ) (d : Event) → i < length h → events_of (take i h) ++ event_of (get_or h i d) ∷ [] ≡ events_of (take (i + 1) h)
next_taken h i d lt =
    sym (ap (λ (k : ℕ). events_of (take k h)) (add-one i) ∙ ap events_of (take-suc h i d lt) ∙ map-append (take i h) (get_or h i d ∷ []))

-- a core that takes a history event by event
module _ (plan : Planned) (world : Start) (workers : ℕ) (h : List Event) (is : IsHistory scripts (suite_at plan world) workers (events_of h))
    (c : CoreView) (p : c.plan ≡ plan) (w : c.world ≡ world) (k : c.workers ≡ workers) where
  from_new : OfSameSuite (new_core plan world workers) c
  from_new = record { plan = p; world = w; workers = k }

  to_new : OfSameSuite c (new_core plan world workers)
  to_new = record { plan = sym p; world = sym w; workers = sym k }

  pub may_go_on : (i : ℕ) (d : Event) → i < length h → history_in c ≡ events_of (take i h) → GoesOnBy c (get_or h i d)
  may_go_on i d lt same =
      let e = event_of (get_or h i d) in
      moved (λ (p : Planned) (w : Start) (k : ℕ). IsHistory scripts (suite_at p w) k (history_in c ++ e ∷ [])) (new_core plan world workers) c from_new
      (subst (λ (g : List E.Event). IsHistory scripts (suite_at plan world) workers (g ++ e ∷ [])) (sym same)
      (history_before scripts (suite_at plan world) workers (events_of (take i h) ++ e ∷ []) (events_of (drop (suc i) h))
      (subst (λ (g : List E.Event). IsHistory scripts (suite_at plan world) workers g) (sym (next_of h i d lt)) is)))

  -- what it has taken then is a record
  module _ (taken : HasTaken c (history_in c)) (same : history_in c ≡ events_of h) (es : List Event) (are : es ≡ c.events) where
    whole_taken : events_of c.events ≡ full scripts (suite_in c) (first scripts (suite_in c)) (events_of h)
    whole_taken = taken.events ∙ ap (full scripts (suite_in c) (first scripts (suite_in c))) same

    in_full_is : events_of es ≡ full scripts (suite_at plan world) (first scripts (suite_at plan world)) (events_of h)
    in_full_is =
        ap events_of are
        ∙ moved (λ (p : Planned) (w : Start) (k : ℕ). events_of c.events ≡ full scripts (suite_at p w) (first scripts (suite_at p w)) (events_of h)) c (new_core plan world workers) to_new whole_taken

    pub are_record : AreRecordOf plan world workers h es
    are_record = record {
      in_full = in_full_is;
      accepted = subst (λ (t : List E.Event). is_run scripts (suite_at plan world) workers (first scripts (suite_at plan world)) t ≡ true) (sym in_full_is) is.run;
      history = ap history_of in_full_is ∙ history_again scripts (suite_at plan world) workers (events_of h) is;
      complete = ap (λ (t : List E.Event). Runs.is_complete (suite_at plan world) (after_all_of scripts (suite_at plan world) (first scripts (suite_at plan world)) t)) in_full_is;
    }

pub new_taken : (plan : Planned) (world : Start) (workers : ℕ) → HasTaken (new_core plan world workers) []
new_taken plan world workers = record { going = refl; events = refl }
