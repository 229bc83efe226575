-- Who is Closed, or stands in a line of a key, was never entered, also after each step.
use Rattle.std.proofs.Common.{◌≡◌, ◌≢◌, ◌⊎◌, ℕ, ◌<◌, List, [], length, Option, Some, None, is_none, is_some, leb, Bool, true, false, ◌||◌, ap, sym, subst, ◌∙◌, inl, inr, refl}
use Rattle.std.proofs.lemmas.Bool.{cases_eq}
use Rattle.std.proofs.lemmas.List.{get_or-set_same}
use Rattle.iso_book.proofs.Runs.{may-shut, within-shut}
use Rattle.iso_book.specs.Books.{BookView, new_book, refusal_in, state_in, suite_in, with_event}
use Rattle.iso_book.specs.Progress.{HasEntered, HasGoneOn, HasShut, IsBarredIn, StayEntered, is_under_way, phase_in}
use Rattle.iso_desk.specs.Places.{StandsIn, TableView, line_in, place_of}
use Rattle.iso_desk.specs.declared.crew.Member.{Member}
use Rattle.iso_desk.specs.declared.line.KeyLine.{KeyLine}
use Rattle.iso_desk.specs.declared.line.Line.{Line}
use Rattle.iso_desk.specs.declared.line.Line.TheVariants.{Key, Own}
use Rattle.iso_desk.specs.declared.place.Place.{Place}
use Rattle.iso_desk.specs.declared.place.Place.TheVariants.{Closed, InLine, Loose, Open, Over, With}
use Rattle.iso_floor.specs.Postings.{ClosesNone}
use Rattle.iso_floor.specs.Schedulers.{KeepsLines, SchedulerView, WaitRightly, access_in, put}
use Rattle.iso_floor.specs.Untouched.{AreUntouched, IsUntouched, WasBarred, is_of_key, is_past, is_untaken}
use Rattle.iso_isolation.proofs.Accepted.{enter_passes, in_plan, not_refused}
use Rattle.iso_isolation.proofs.Changes.{put_elsewhere}
use Rattle.iso_isolation.specs.Events.{stands_in}
use Rattle.iso_isolation.specs.Refusals as Why
use Rattle.iso_isolation.specs.States as States
use Rattle.iso_isolation.specs.States.{Status, is_at_rest, is_finished}
use Rattle.iso_lifecycle.specs.declared.kind.BodyKind.{BodyKind}
use Rattle.iso_lifecycle.specs.declared.kind.BodyKind.TheVariants.{AfterAll, BeforeAll, Test}
use Rattle.iso_model.specs.Bodies.{Stage}
use Rattle.iso_model.specs.Openings.{Frame}
use Rattle.iso_model.specs.declared.outcome.Outcome.{Outcome}
use Rattle.iso_plan.specs.declared.lock.Lock.{Lock}
use Rattle.iso_plan.specs.HeldNodes.{takes_in}
use Rattle.iso_plan.specs.KeyGroups.{lead_locks}
use Rattle.iso_plan.specs.Paths.{path}
use Rattle.iso_plan.specs.Planned.{Planned}
use Rattle.iso_plan.specs.Tree.{Row}
use Rattle.iso_settings.specs.Worlds.{Start}
use Rattle.iso_standing.specs.Phases.{bare, phase_of}
use Rattle.iso_standing.specs.declared.event.Event.{Event}
use Rattle.iso_standing.specs.declared.event.Event.TheVariants.{Enter, Shut}
use Rattle.iso_standing.specs.declared.phase.Phase.{Phase}
use Rattle.iso_standing.specs.declared.phase.Phase.TheVariants as P
use Rattle.iso_suites.specs.ScriptLanguage.{scripts}
use Rattle.iso_floor.proofs.ComingLemmas.{waiting-told}
use Rattle.iso_floor.proofs.PostingLemmas.{closes-put}
use Rattle.iso_floor.proofs.SchedulerLemmas.{put-moved}

past-entered : (p : Phase) → is_past p ≡ true → p ≢ P.Waiting
past-entered P.Waiting e w = absurd (cc)
past-entered P.Begun e w = absurd (cc)
past-entered P.Open e w = absurd (cc)
past-entered P.Barred e w = cc
past-entered P.Closing e w = cc
past-entered P.Finished e w = cc

over-past : (p : Phase) → is_finished (bare p) ≡ true → is_past p ≡ true
over-past P.Waiting e = absurd (cc)
over-past P.Begun e = absurd (cc)
over-past P.Open e = absurd (cc)
over-past P.Barred e = absurd (cc)
over-past P.Closing e = absurd (cc)
over-past P.Finished e = refl

key-untaken : (p : Place) (l : KeyLine) → line_in p ≡ Some (Key l) → is_untaken p ≡ true
key-untaken Closed l e = absurd (cc)
key-untaken Loose l e = absurd (cc)
key-untaken (InLine s) l e = ap (λ (o : Option Line). some-key o) e
  where
    some-key : Option Line → Bool
    some-key None = true
    some-key (Some x) = is_of_key x
key-untaken (With w) l e = absurd (cc)
key-untaken Open l e = absurd (cc)
key-untaken Over l e = absurd (cc)

-- who has the place of one that nobody has taken had such a place before
untaken-line : (old new : List Place) (m : ℕ) (l : Line) → ((k : KeyLine) → StandsIn new (Key k) m → StandsIn old (Key k) m) → is_of_key l ≡ true → StandsIn new l m
    → is_untaken (place_of old m) ≡ true
untaken-line old new m (Key k) lines is st = key-untaken (place_of old m) k (lines k st)
untaken-line old new m (Own w) lines is st = absurd (cc)

untaken-place : (old new : List Place) (m : ℕ) (p : Place) → ((k : KeyLine) → StandsIn new (Key k) m → StandsIn old (Key k) m) → (place_of new m ≡ Closed → place_of old m ≡ Closed)
    → place_of new m ≡ p → is_untaken p ≡ true → is_untaken (place_of old m) ≡ true
untaken-place old new m Closed lines closes e is = ap is_untaken (closes e)
untaken-place old new m Loose lines closes e is = absurd (cc)
untaken-place old new m (InLine t) lines closes e is = untaken-line old new m t.line lines is (ap line_in e)
untaken-place old new m (With w) lines closes e is = absurd (cc)
untaken-place old new m Open lines closes e is = absurd (cc)
untaken-place old new m Over lines closes e is = absurd (cc)

pub was-untaken : (s u : SchedulerView) → KeepsLines s u → ClosesNone s.table.places u.table.places → (m : ℕ) → is_untaken (place_of u.table.places m) ≡ true
    → is_untaken (place_of s.table.places m) ≡ true
was-untaken s u lines closes m = untaken-place s.table.places u.table.places m (place_of u.table.places m) (lines m) (closes m) refl

-- a step of the scheduler alone
pub untouched-step : (b : BookView) (s u : SchedulerView) → KeepsLines s u → ClosesNone s.table.places u.table.places → AreUntouched b s.table.places → AreUntouched b u.table.places
untouched-step b s u lines closes are m low e = are m low (was-untaken s u lines closes m e)

-- what was entered isn't
entered-not : (b : BookView) (n : ℕ) → is_under_way (phase_in b n) ≡ true → IsUntouched b n → ⊥
entered-not b n going (inl waits) = let wrong : true ≡ false = sym going ∙ ap is_under_way waits in cc
entered-not b n going (inr was) = let wrong : true ≡ false = sym going ∙ ap is_under_way was.finished in cc

-- an event of a node
module _ (b c : BookView) (e : Event) (taken : c ≡ with_event b e) (n : ℕ) (others : StayEntered n b c)
    (past : is_past (phase_in b n) ≡ true → is_past (phase_in c n) ≡ true)
    (waiting : (m : ℕ) → m < length b.plan.rows → m ≢ n → phase_in b m ≡ P.Waiting → (phase_in c m ≡ P.Waiting) ⊎ IsBarredIn n c m) (within : n < length b.plan.rows) where
  rows : length c.plan.rows ≡ length b.plan.rows
  rows = ap (λ (x : BookView). length x.plan.rows) taken

  still-past : (k : ℕ) → k < length b.plan.rows → is_past (phase_in b k) ≡ true → is_past (phase_in c k) ≡ true
  still-past k low is =
      elim (cases_eq k n) [
        | inl same ↦ subst (λ (j : ℕ). is_past (phase_in c j) ≡ true) (sym same) (past (subst (λ (j : ℕ). is_past (phase_in b j) ≡ true) same is))
        | inr other ↦ ap is_past (others.phases k low other (past-entered (phase_in b k) is)) ∙ is
      ]

  still-barred : (m : ℕ) → m < length b.plan.rows → m ≢ n → WasBarred b m → WasBarred c m
  still-barred m low other was =
      record {
        finished = others.phases m low other (λ w. let wrong : P.Finished ≡ P.Waiting = sym was.finished ∙ w in cc) ∙ was.finished;
        class = was.class;
        within = subst (λ (k : ℕ). was.class < k) (sym rows) was.within;
        inside = ap (λ (x : BookView). stands_in scripts (suite_in x) m was.class) taken ∙ was.inside;
        past = still-past was.class was.within was.past;
      }

  barred-now : (m : ℕ) → IsBarredIn n c m → WasBarred c m
  barred-now m is =
      record { finished = is.finished; class = n; within = subst (λ (k : ℕ). n < k) (sym rows) within; inside = is.inside; past = ap is_past is.barred }

  still : (m : ℕ) → m < length b.plan.rows → m ≢ n → IsUntouched b m → IsUntouched c m
  still m low other (inl waits) =
      elim (waiting m low other waits) [
        | inl w ↦ inl w
        | inr is ↦ inr (barred-now m is)
      ]
  still m low other (inr was) = inr (still-barred m low other was)

  pub untouched-event : (s u : SchedulerView) → KeepsLines s u → ClosesNone s.table.places u.table.places → (IsUntouched b n → is_untaken (place_of u.table.places n) ≡ true → ⊥)
      → AreUntouched b s.table.places → AreUntouched c u.table.places
  untouched-event s u lines closes own are m low e =
      let below : m < length b.plan.rows = subst (λ (k : ℕ). m < k) rows low in
      let was = are m below (was-untaken s u lines closes m e) in
      elim (cases_eq m n) [
        | inl same ↦ absurd (own (subst (IsUntouched b) same was) (subst (λ (j : ℕ). is_untaken (place_of u.table.places j) ≡ true) same e))
        | inr other ↦ still m below other was
      ]

-- who stood in no line has the place that it is put in
none-free : (o : Option Line) → is_some o ≡ false → o ≡ None
none-free None e = refl
none-free (Some l) e = absurd (cc)

put-free : (t : TableView) (n : ℕ) (p : Place) → n < length t.places → is_some (line_in (place_of t.places n)) ≡ false → place_of (put n p t).places n ≡ p
put-free t n p low free =
    ap (λ (x : TableView). place_of x.places n) (put-moved t n p (record { within = low; free = none-free (line_in (place_of t.places n)) free }))
    ∙ get_or-set_same t.places n p Closed low

put-taken : (t : TableView) (n : ℕ) (w : ℕ) → n < length t.places → is_some (line_in (place_of t.places n)) ≡ false → is_untaken (place_of (put n (With w) t).places n) ≡ true → ⊥
put-taken t n w low free e =
    let there : place_of (put n (With w) t).places n ≡ With w = put-free t n (With w) low free in
    let wrong : false ≡ true = sym (ap is_untaken there) ∙ e in cc

pub or-false : (a b : Bool) → (a || b) ≡ false → (a ≡ false) × (b ≡ false)
or-false true b e = absurd (cc)
or-false false b e = (refl, e)

past-left : (k : BodyKind) (b c : BookView) (n : ℕ) → HasGoneOn k n b c → is_past (phase_in b n) ≡ true → is_past (phase_in c n) ≡ true
past-left BeforeAll b c n h is = let wrong : false ≡ true = sym (ap is_past (h.before refl)) ∙ is in absurd (cc)
past-left Test b c n h is = over-past (phase_in c n) h.phase
past-left AfterAll b c n h is = over-past (phase_in c n) h.phase

pub untouched-entered : (b c : BookView) (w n : ℕ) → c ≡ with_event b (Enter w n) → HasEntered w n b c → refusal_in b (Enter w n) ≡ None → n < length b.plan.rows → (s u : SchedulerView)
    → KeepsLines s u → ClosesNone s.table.places u.table.places → length s.table.places ≡ length b.plan.rows → u.table ≡ put n (With w) s.table
    → is_some (line_in (place_of s.table.places n)) ≡ false → AreUntouched b s.table.places → AreUntouched c u.table.places
untouched-entered b c w n taken has none within s u lines closes sizes table free =
    untouched-event b c (Enter w n) taken n has.others
    (λ is. absurd (past-entered (phase_in b n) is (waiting-told b w n none)))
    (λ m low other waits. inl (has.waiting m low other waits)) within s u lines closes
    (λ was e.
    put-taken s.table n w (subst (λ (k : ℕ). n < k) (sym sizes) within) free (subst (λ (t : TableView). is_untaken (place_of t.places n) ≡ true) table e))

rests-not : (st : Status Stage Frame Outcome) → is_at_rest st ≡ true → (phase_of st ≡ P.Waiting) ⊎ (phase_of st ≡ P.Finished) → ⊥
rests-not States.Waiting e p = absurd (cc)
rests-not (States.Begun b) e p = absurd (cc)
rests-not (States.Open fs) e (inl w) = cc
rests-not (States.Open fs) e (inr w) = cc
rests-not (States.Barred fs) e (inl w) = cc
rests-not (States.Barred fs) e (inr w) = cc
rests-not (States.Closing fs b) e p = absurd (cc)
rests-not (States.Finished r) e p = absurd (cc)

pub untouched-phase : (b : BookView) (n : ℕ) → IsUntouched b n → (phase_in b n ≡ P.Waiting) ⊎ (phase_in b n ≡ P.Finished)
untouched-phase b n (inl waits) = inl waits
untouched-phase b n (inr was) = inr was.finished

-- nor is what could be shut
pub shut-not : (b : BookView) (w n : ℕ) → refusal_in b (Shut w n) ≡ None → IsUntouched b n → ⊥
shut-not b w n none was = rests-not ((state_in b).nodes.status n) (may-shut b w n none).rests (untouched-phase b n was)

pub untouched-shut : (b c : BookView) (w n : ℕ) → c ≡ with_event b (Shut w n) → HasShut w n b c → refusal_in b (Shut w n) ≡ None → (s u : SchedulerView) → KeepsLines s u
    → ClosesNone s.table.places u.table.places → AreUntouched b s.table.places → AreUntouched c u.table.places
untouched-shut b c w n taken has none s u lines closes =
    untouched-event b c (Shut w n) taken n has.others (λ is. ap is_past has.phase) (λ m low other waits. inl (has.waiting m low other waits)) (within-shut b w n none) s u lines closes
    (λ was e. shut-not b w n none was)

pub untouched-left : (b c : BookView) (e : Event) → c ≡ with_event b e → (k : BodyKind) (n : ℕ) → HasGoneOn k n b c → (s u : SchedulerView) → KeepsLines s u
    → ClosesNone s.table.places u.table.places → AreUntouched b s.table.places → AreUntouched c u.table.places
untouched-left b c e taken k n has s u lines closes =
    untouched-event b c e taken n has.others (past-left k b c n has) has.waiting has.within s u lines closes (λ was e. entered-not b n has.going was)

pub untouched-stopped : (b c : BookView) (places : List Place) → c ≡ record b { stopped = true } → AreUntouched b places → AreUntouched c places
untouched-stopped b c places e are =
    subst (λ (x : BookView). AreUntouched x places) (sym e) (λ m low untaken. stopped-by m (are m low untaken))
  where
    stopped-by : (m : ℕ) → IsUntouched b m → IsUntouched (record b { stopped = true }) m
    stopped-by m (inl waits) = inl waits
    stopped-by m (inr was) = inr (record { finished = was.finished; class = was.class; within = was.within; inside = was.inside; past = was.past })

-- at first all but the root wait
first-by : (p : Planned) (v : Start) (workers m : ℕ) → m ≢ 0 → phase_in (new_book p v workers) m ≡ P.Waiting
first-by p v workers m other =
    let nobody : ℕ → Status Stage Frame Outcome = λ k. States.Waiting in
    ap phase_of (put_elsewhere m 0 (States.Open []) nobody other)

pub untouched-new : (p : Planned) (v : Start) (workers : ℕ) (places : List Place) → (is_untaken (place_of places 0) ≡ true → ⊥) → AreUntouched (new_book p v workers) places
untouched-new p v workers places root m low untaken =
    elim (cases_eq m 0) [
      | inl same ↦ absurd (root (subst (λ (j : ℕ). is_untaken (place_of places j) ≡ true) same untaken))
      | inr other ↦ inl (first-by p v workers m other)
    ]

-- the root takes no key
no-lead : lead_locks [] 0 ≡ []
unfolding path
no-lead = refl

-- the root isn't Closed, and stands in no line
pub root-taken : (s : SchedulerView) → place_of s.table.places 0 ≢ Closed → ((tree : List Row) → WaitRightly tree s.table.places) → is_untaken (place_of s.table.places 0) ≡ true → ⊥
root-taken s opened right e = by (place_of s.table.places 0) refl e
  where
    of-line : (l : Line) → line_in (place_of s.table.places 0) ≡ Some l → is_of_key l ≡ true → ⊥
    of-line (Key l) st k =
        let wrong : false ≡ true = subst (λ (ls : List Lock). takes_in (access_in l) l.key ls ≡ true) no-lead (right [] 0 l st).taken in
        cc
    of-line (Own w) st k = absurd (cc)

    by : (p : Place) → place_of s.table.places 0 ≡ p → is_untaken p ≡ true → ⊥
    by Closed is k = opened is
    by Loose is k = absurd (cc)
    by (InLine t) is k = of-line t.line (ap line_in is) k
    by (With w) is k = absurd (cc)
    by Open is k = absurd (cc)
    by Over is k = absurd (cc)

-- a node that is taken to wait for a key waits to be entered
pub untouched-waits : (b : BookView) (n : ℕ) (s u : SchedulerView) → ((m : ℕ) (l : KeyLine) → m ≢ n → StandsIn u.table.places (Key l) m → StandsIn s.table.places (Key l) m)
    → ClosesNone s.table.places u.table.places → phase_in b n ≡ P.Waiting → AreUntouched b s.table.places → AreUntouched b u.table.places
untouched-waits b n s u joins closes waits are m low untaken =
    elim (cases_eq m n) [
      | inl same ↦ subst (IsUntouched b) (sym same) (inl waits)
      | inr other ↦
          are m low (untaken-place s.table.places u.table.places m (place_of u.table.places m) (λ l. joins m l other) (closes m) refl untaken)
    ]

pub untouched-members : (b : BookView) (s u : SchedulerView) {ms : List Member} → u ≡ record s { members = ms } → u.bypassed ≡ false → (s.bypassed ≡ false → AreUntouched b s.table.places)
    → AreUntouched b u.table.places
untouched-members b s u {ms} e none fresh =
    subst (λ (t : TableView). AreUntouched b t.places) (sym (ap (λ (x : SchedulerView). x.table) e)) (fresh (sym (ap (λ (x : SchedulerView). x.bypassed) e) ∙ none))

-- who is put isn't Closed
pub closes-put-in : (s u : SchedulerView) (n w : ℕ) → u.table ≡ put n (With w) s.table → ClosesNone s.table.places u.table.places
closes-put-in s u n w table = subst (λ (t : TableView). ClosesNone s.table.places t.places) (sym table) (closes-put s.table n (With w) (λ f. cc))

-- a node that is entered is of the plan
pub enter-within : (b : BookView) (w n : ℕ) → refusal_in b (Enter w n) ≡ None → n < length b.plan.rows
enter-within b w n none =
    let x = suite_in b in
    let passes = enter_passes scripts x b.workers (state_in b) w n (ap (λ (o : Option Why.Refused). is_none o) none) in
    in_plan x.nodes n (not_refused (leb x.nodes n) Why.NoNode passes.node)
