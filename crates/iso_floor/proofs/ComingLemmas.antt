-- How far nodes have come in the book, and that they may have their places, after each event.
use Rattle.std.proofs.Common.{◌≡◌, ◌≢◌, ℕ, ◌<◌, List, [], ◌∷◌, length, Option, Some, None, is_none, Result, Ok, Err, IfErr, MatchResult, Bool, true, false, ◌&&◌, ◌||◌, not, leb, ap, sym, subst, ◌∙◌, inl, inr, refl}
use Rattle.std.proofs.lemmas.Bool.{cases_eq, cases_lt, ne_eqb}
use Rattle.std.proofs.lemmas.List.{get_or_past}
use Rattle.std.proofs.Math.Dec.{eqb}
use Rattle.std.specs.Option.{option_or}
use Rattle.iso_book.specs.Books.{BookView, new_book, refusal_in, state_in, suite_in}
use Rattle.iso_book.specs.Progress.{HasEntered, HasGoneOn, HasShut, StayEntered, owner_in, phase_in}
use Rattle.iso_book.specs.Turns.{IsFaultOf, IsNotTaken, IsRefusedBy}
use Rattle.iso_desk.specs.Places.{place_of}
use Rattle.iso_desk.specs.declared.place.Place.{Place}
use Rattle.iso_desk.specs.declared.place.Place.TheVariants.{Closed, InLine, Loose, Open, Over, With}
use Rattle.iso_floor.specs.Desks.{IsAt, IsOpenFor}
use Rattle.iso_floor.specs.Halts.{meaning_of}
use Rattle.iso_floor.specs.Schedulers.{IsMoved, is_entered}
use Rattle.iso_floor.specs.declared.refusal.Meaning.TheVariants as M
use Rattle.iso_isolation.proofs.Accepted.{enter_passes, in_plan, not_refused}
use Rattle.iso_isolation.specs.Refusals as Why
use Rattle.iso_isolation.specs.Refusals.{children_left, first_of, has_unfinished_child, is_root, no_node, no_worker, not_class, not_open, not_owner, refuse, stopped, worker_busy}
use Rattle.iso_isolation.specs.States as States
use Rattle.iso_isolation.specs.States.{Status, is_at_rest, is_finished, is_held, is_open, is_waiting}
use Rattle.iso_lifecycle.specs.declared.kind.BodyKind.{BodyKind}
use Rattle.iso_lifecycle.specs.declared.kind.BodyKind.TheVariants.{AfterAll, BeforeAll, Test}
use Rattle.iso_locks.specs.Trays.{TrayView}
use Rattle.iso_model.specs.Bodies.{Stage}
use Rattle.iso_model.specs.Openings.{Frame}
use Rattle.iso_model.specs.declared.outcome.Outcome.{Outcome}
use Rattle.iso_plan.specs.Planned.{Planned}
use Rattle.iso_settings.specs.Worlds.{Start}
use Rattle.iso_standing.specs.Phases.{bare, phase_of}
use Rattle.iso_standing.specs.declared.event.Event.TheVariants.{Enter, Shut}
use Rattle.iso_standing.specs.declared.phase.Phase.{Phase}
use Rattle.iso_standing.specs.declared.refused.CoreFault.{CoreFault}
use Rattle.iso_standing.specs.declared.refused.CoreFault.TheVariants as F
use Rattle.iso_standing.specs.declared.refused.Refused.{Refused}
use Rattle.iso_standing.specs.declared.refused.Refused.TheVariants as Code
use Rattle.iso_standing.specs.declared.phase.Phase.TheVariants as P
use Rattle.iso_suites.specs.ScriptLanguage.{scripts}

held-entered : (p : Phase) → is_held (bare p) ≡ true → p ≢ P.Waiting
held-entered P.Waiting e w = absurd (cc)
held-entered P.Begun e w = cc
held-entered P.Open e w = cc
held-entered P.Barred e w = cc
held-entered P.Closing e w = cc
held-entered P.Finished e w = cc

rest-held : (p : Phase) → is_at_rest (bare p) ≡ true → is_held (bare p) ≡ true
rest-held P.Waiting e = absurd (cc)
rest-held P.Begun e = refl
rest-held P.Open e = refl
rest-held P.Barred e = refl
rest-held P.Closing e = refl
rest-held P.Finished e = absurd (cc)

over-finished : (p : Phase) → is_finished (bare p) ≡ true → p ≡ P.Finished
over-finished P.Waiting e = absurd (cc)
over-finished P.Begun e = absurd (cc)
over-finished P.Open e = absurd (cc)
over-finished P.Barred e = absurd (cc)
over-finished P.Closing e = absurd (cc)
over-finished P.Finished e = refl

-- a node that has the place of one that was entered was
at-entered : (b : BookView) (n : ℕ) (p : Place) → is_entered p ≡ true → IsAt b n p → phase_in b n ≢ P.Waiting
at-entered b n Closed e is w = absurd (cc)
at-entered b n Loose e is w = absurd (cc)
at-entered b n (InLine s) e is w = absurd (cc)
at-entered b n (With v) e is w = held-entered (phase_in b n) is.0 w
at-entered b n Open e is w = let wrong : P.Open ≡ P.Waiting = sym is ∙ w in absurd (cc)
at-entered b n Over e is w = let wrong : P.Finished ≡ P.Waiting = sym is ∙ w in absurd (cc)

at-waiting : (b : BookView) (n : ℕ) (p : Place) → is_entered p ≡ false → IsAt b n p
at-waiting b n Closed e = tt
at-waiting b n Loose e = tt
at-waiting b n (InLine s) e = tt
at-waiting b n (With w) e = absurd (cc)
at-waiting b n Open e = absurd (cc)
at-waiting b n Over e = absurd (cc)

-- a node that has come as far in another book, and is the same worker's
at-same : (b c : BookView) (n : ℕ) (p : Place) → phase_in c n ≡ phase_in b n → owner_in c n ≡ owner_in b n → IsAt b n p → IsAt c n p
at-same b c n Closed same owner is = tt
at-same b c n Loose same owner is = tt
at-same b c n (InLine s) same owner is = tt
at-same b c n (With w) same owner is = (ap (λ (q : Phase). is_held (bare q)) same ∙ is.0, owner ∙ is.1)
at-same b c n Open same owner is = same ∙ is
at-same b c n Over same owner is = same ∙ is

pub at-stopped : (b : BookView) (n : ℕ) (p : Place) → IsAt b n p → IsAt (record b { stopped = true }) n p
at-stopped b n p is = at-same b (record b { stopped = true }) n p refl refl is

-- a step of the scheduler alone
pub at-kept : (b : BookView) (old new : List Place) → ((n : ℕ) → is_entered (place_of new n) ≡ true → place_of new n ≡ place_of old n)
    → ((n : ℕ) → IsAt b n (place_of old n)) → (n : ℕ) → IsAt b n (place_of new n)
at-kept b old new keeps is n = by (is_entered (place_of new n)) refl
  where
    by : (e : Bool) → is_entered (place_of new n) ≡ e → IsAt b n (place_of new n)
    by false e = at-waiting b n (place_of new n) e
    by true e = subst (IsAt b n) (sym (keeps n e)) (is n)

-- one node of a book gets a place that it may have
pub at-opened : (b : BookView) (n : ℕ) (old new : List Place) → IsMoved n Open old new → phase_in b n ≡ P.Open → ((m : ℕ) → IsAt b m (place_of old m)) → (m : ℕ) → IsAt b m (place_of new m)
at-opened b n old new moves here is m = by (is_entered (place_of new m)) refl
  where
    by : (e : Bool) → is_entered (place_of new m) ≡ e → IsAt b m (place_of new m)
    by false e = at-waiting b m (place_of new m) e
    by true e =
        elim (cases_eq m n) [
          | inl same ↦
              let there : is_entered (place_of new n) ≡ true = subst (λ (j : ℕ). is_entered (place_of new j) ≡ true) same e in
              subst (λ (j : ℕ). IsAt b j (place_of new j)) (sym same) (subst (IsAt b n) (sym (moves.here there)) here)
          | inr other ↦ subst (IsAt b m) (sym (moves.others m other e)) (is m)
        ]

entered-within : (places : List Place) (n : ℕ) → is_entered (place_of places n) ≡ true → n < length places
entered-within places n e =
    elim (cases_lt n (length places)) [
      | inl low ↦ low
      | inr high ↦ let wrong : false ≡ true = sym (ap is_entered (get_or_past places n Closed high)) ∙ e in absurd (cc)
    ]

-- an event of a node, which gets a place
module _ (b c : BookView) (n : ℕ) (others : StayEntered n b c) (old new : List Place) (sizes : length old ≡ length b.plan.rows) (is : (m : ℕ) → IsAt b m (place_of old m)) where
  other-at : (m : ℕ) → m ≢ n → is_entered (place_of old m) ≡ true → IsAt c m (place_of old m)
  other-at m ne e =
      let was = at-entered b m (place_of old m) e (is m) in
      let low : m < length b.plan.rows = subst (λ (k : ℕ). m < k) sizes (entered-within old m e) in
      at-same b c m (place_of old m) (others.phases m low ne was) (others.owners m low ne was) (is m)

  pub at-moved : (p : Place) → IsMoved n p old new → IsAt c n p → (m : ℕ) → IsAt c m (place_of new m)
  at-moved p moves here m = by (is_entered (place_of new m)) refl
    where
      by : (e : Bool) → is_entered (place_of new m) ≡ e → IsAt c m (place_of new m)
      by false e = at-waiting c m (place_of new m) e
      by true e =
          elim (cases_eq m n) [
            | inl same ↦
                let there : is_entered (place_of new n) ≡ true = subst (λ (j : ℕ). is_entered (place_of new j) ≡ true) same e in
                subst (λ (j : ℕ). IsAt c j (place_of new j)) (sym same) (subst (IsAt c n) (sym (moves.here there)) here)
            | inr other ↦
                let kept = moves.others m other e in
                subst (IsAt c m) (sym kept) (other-at m other (ap is_entered (sym kept) ∙ e))
          ]

  -- or keeps its own
  pub at-stays : IsAt c n (place_of old n) → (m : ℕ) → IsAt c m (place_of old m)
  at-stays here m = by (is_entered (place_of old m)) refl
    where
      by : (e : Bool) → is_entered (place_of old m) ≡ e → IsAt c m (place_of old m)
      by false e = at-waiting c m (place_of old m) e
      by true e =
          elim (cases_eq m n) [
            | inl same ↦ subst (λ (j : ℕ). IsAt c j (place_of old j)) (sym same) here
            | inr other ↦ other-at m other e
          ]

-- the places of a node that was entered, shut or left
pub at-with : (b c : BookView) (w n : ℕ) → HasEntered w n b c → IsAt c n (With w)
at-with b c w n h = (ap (λ (q : Phase). is_held (bare q)) h.phase, h.owner)

pub at-shut : (b c : BookView) (w n : ℕ) → HasShut w n b c → IsAt c n (With w)
at-shut b c w n h = (ap (λ (q : Phase). is_held (bare q)) h.phase, h.owner)

pub at-over : (k : BodyKind) (b c : BookView) (n : ℕ) → k ≢ BeforeAll → HasGoneOn k n b c → IsAt c n Over
at-over BeforeAll b c n last h = absurd (last refl)
at-over Test b c n last h = over-finished (phase_in c n) h.phase
at-over AfterAll b c n last h = over-finished (phase_in c n) h.phase

pub at-first : (b c : BookView) (n : ℕ) (p : Place) → HasGoneOn BeforeAll n b c → IsAt b n p → IsAt c n p
at-first b c n Closed h is = tt
at-first b c n Loose h is = tt
at-first b c n (InLine s) h is = tt
at-first b c n (With w) h is = (rest-held (phase_in c n) h.phase, h.owner ∙ is.1)
at-first b c n Open h is = let wrong : P.Open ≡ P.Begun = sym is ∙ h.before refl in absurd (cc)
at-first b c n Over h is = let wrong : P.Finished ≡ P.Begun = sym is ∙ h.before refl in absurd (cc)

-- at first the root is open
pub at-new : (plan : Planned) (start : Start) (workers : ℕ) (places : List Place) → IsMoved 0 Open [] places → (n : ℕ) → IsAt (new_book plan start workers) n (place_of places n)
at-new plan start workers places moves n = by (is_entered (place_of places n)) refl
  where
    b : BookView
    b = new_book plan start workers

    by : (e : Bool) → is_entered (place_of places n) ≡ e → IsAt (new_book plan start workers) n (place_of places n)
    by false e = at-waiting (new_book plan start workers) n (place_of places n) e
    by true e =
        elim (cases_eq n 0) [
          | inl same ↦
              let there : is_entered (place_of places 0) ≡ true = subst (λ (j : ℕ). is_entered (place_of places j) ≡ true) same e in
              subst (λ (j : ℕ). IsAt (new_book plan start workers) j (place_of places j)) (sym same) (subst (IsAt (new_book plan start workers) 0) (sym (moves.here there)) refl)
          | inr other ↦ let wrong : false ≡ true = ap is_entered (sym (moves.others n other e)) ∙ e in absurd (cc)
        ]

-- what was entered is refused
waiting-phase : (st : Status Stage Frame Outcome) → is_waiting st ≡ true → phase_of st ≡ P.Waiting
waiting-phase States.Waiting e = refl
waiting-phase (States.Begun b) e = absurd (cc)
waiting-phase (States.Open fs) e = absurd (cc)
waiting-phase (States.Barred fs) e = absurd (cc)
waiting-phase (States.Closing fs b) e = absurd (cc)
waiting-phase (States.Finished r) e = absurd (cc)

second-waits : (a w : Bool) → (a || not w) ≡ false → w ≡ true
second-waits true w e = absurd (cc)
second-waits false true e = refl
second-waits false false e = absurd (cc)

pub waiting-told : (b : BookView) (w n : ℕ) → refusal_in b (Enter w n) ≡ None → phase_in b n ≡ P.Waiting
waiting-told b w n none =
    let st = (state_in b).nodes.status n in
    let passes = enter_passes scripts (suite_in b) b.workers (state_in b) w n (ap (λ (o : Option Why.Refused). is_none o) none) in
    waiting-phase st (second-waits (is_root n) (is_waiting st) (not_refused (is_root n || not (is_waiting st)) Why.AlreadyEntered passes.fresh))

pub at-refused : (b : BookView) (w n : ℕ) (p : Place) → is_entered p ≡ true → IsAt b n p → refusal_in b (Enter w n) ≢ None
at-refused b w n p e is none = at-entered b n p e is (waiting-told b w n none)

-- a class that is refused to be shut since children are left is open, and the worker's
pub open-phase : (st : Status Stage Frame Outcome) → is_open st ≡ true → phase_of st ≡ P.Open
open-phase States.Waiting e = absurd (cc)
open-phase (States.Begun b) e = absurd (cc)
open-phase (States.Open fs) e = refl
open-phase (States.Barred fs) e = absurd (cc)
open-phase (States.Closing fs b) e = absurd (cc)
open-phase (States.Finished r) e = absurd (cc)

past : (k o : Option Why.Refused) → (k ≡ Some Why.ChildrenLeft → ⊥) → option_or k o ≡ Some Why.ChildrenLeft → o ≡ Some Why.ChildrenLeft
past None o ne e = e
past (Some r) o ne e = absurd (ne e)

other-kind : (a : Bool) (k : Why.Refused) → (k ≡ Why.ChildrenLeft → ⊥) → refuse a k ≡ Some Why.ChildrenLeft → ⊥
other-kind true k ne e = let same : k ≡ Why.ChildrenLeft = cc in ne same
other-kind false k ne e = absurd (cc)

both-left : (a c : Bool) → option_or (refuse (a && c) Why.ChildrenLeft) None ≡ Some Why.ChildrenLeft → a ≡ true
both-left true c e = refl
both-left false c e = absurd (cc)

not-kind : (a : Bool) (k : Why.Refused) (o : Option Why.Refused) → (k ≡ Why.ChildrenLeft → ⊥) → option_or (refuse a k) o ≡ Some Why.ChildrenLeft → a ≡ false
not-kind true k o ne e = let same : k ≡ Why.ChildrenLeft = cc in absurd (ne same)
not-kind false k o ne e = refl

pub owner-by : (v w : ℕ) → not (eqb v w) ≡ false → v ≡ w
owner-by v w e = elim (cases_eq v w) [ inl same ↦ same | inr other ↦ let wrong : true ≡ false = sym (ap not (ne_eqb v w other)) ∙ e in absurd (cc) ]

left-open : (b : BookView) (w n : ℕ) → refusal_in b (Shut w n) ≡ Some Why.ChildrenLeft → IsOpenFor b n w
left-open b w n e =
    let x = suite_in b in
    let v = b.workers in
    let s = state_in b in
    let k2 = no_worker scripts x v s w in
    let k3 = no_node scripts x v s n in
    let k4 = worker_busy scripts x v s w in
    let k5 = not_class scripts x v s n in
    let k6 = not_open scripts x v s n in
    let k7 = not_owner scripts x v s w n in
    let k8 = children_left scripts x v s n in
    let e2 = past (stopped scripts x v s) (first_of (k2 ∷ k3 ∷ k4 ∷ k5 ∷ k6 ∷ k7 ∷ k8 ∷ [])) (other-kind _ Why.Stopped (λ k. cc)) e in
    let e3 = past k2 (first_of (k3 ∷ k4 ∷ k5 ∷ k6 ∷ k7 ∷ k8 ∷ [])) (other-kind _ Why.NoWorker (λ k. cc)) e2 in
    let e4 = past k3 (first_of (k4 ∷ k5 ∷ k6 ∷ k7 ∷ k8 ∷ [])) (other-kind _ Why.NoNode (λ k. cc)) e3 in
    let e5 = past k4 (first_of (k5 ∷ k6 ∷ k7 ∷ k8 ∷ [])) (other-kind _ Why.WorkerBusy (λ k. cc)) e4 in
    let e6 = past k5 (first_of (k6 ∷ k7 ∷ k8 ∷ [])) (other-kind _ Why.NotClass (λ k. cc)) e5 in
    let e7 = past k6 (first_of (k7 ∷ k8 ∷ [])) (other-kind _ Why.NotOpen (λ k. cc)) e6 in
    let e8 = past k7 (first_of (k8 ∷ [])) (other-kind _ Why.NotOwner (λ k. cc)) e7 in
    record {
      within = in_plan x.nodes n (not-kind (leb x.nodes n) Why.NoNode (first_of (k4 ∷ k5 ∷ k6 ∷ k7 ∷ k8 ∷ [])) (λ k. cc) e3);
      phase = open-phase (s.nodes.status n) (both-left (is_open (s.nodes.status n)) (has_unfinished_child scripts x v s n) e8);
      owner = owner-by (s.owner n) w (not-kind (not (eqb (s.owner n) w)) Why.NotOwner (first_of (k8 ∷ [])) (λ k. cc) e7);
      worker = in_plan v w (not-kind (leb v w) Why.NoWorker (first_of (k3 ∷ k4 ∷ k5 ∷ k6 ∷ k7 ∷ k8 ∷ [])) (λ k. cc) e2);
    }

for-children : (o : Option Why.Refused) (asked : Type 0) → IsRefusedBy o asked Why.ChildrenLeft → o ≡ Some Why.ChildrenLeft
for-children (Some k) asked e = ap (λ (j : Why.Refused). Some j) (sym e)
for-children None asked e = let wrong : Why.ChildrenLeft ≡ Why.Stranger = e.0 in absurd (cc)

fault-open : (b c : BookView) (w n : ℕ) (asked : Type 0) (t u : TrayView) (fault : CoreFault) → fault ≡ F.Refused Code.ChildrenLeft → IsNotTaken fault (Shut w n) asked b c t u
    → IsOpenFor c n w
fault-open b c w n asked t u fault e not =
    let why : IsFaultOf (refusal_in b (Shut w n)) asked (F.Refused Code.ChildrenLeft) = subst (IsFaultOf (refusal_in b (Shut w n)) asked) e not.why in
    subst (λ (x : BookView). IsOpenFor x n w) (sym not.book) (left-open b w n (for-children (refusal_in b (Shut w n)) asked why))

pub shut-open : {A : Type 0} (b c : BookView) (w n : ℕ) (asked taken : Type 0) (t u : TrayView) (r : Result A CoreFault)
    → MatchResult r (λ _. taken) (λ fault. IsNotTaken fault (Shut w n) asked b c t u) → IfErr r (λ fault. fault ≡ F.Refused Code.ChildrenLeft → IsOpenFor c n w)
shut-open b c w n asked taken t u (Ok x) m = tt
shut-open b c w n asked taken t u (Err y) m = λ e. fault-open b c w n asked t u y e m

-- of all kinds of refusal this alone means that it is too early to shut a class
pub too-early : (r : Refused) → meaning_of r ≡ M.TooEarly → r ≡ Code.ChildrenLeft
too-early Code.Stopped e = absurd (cc)
too-early Code.NoWorker e = absurd (cc)
too-early Code.NoNode e = absurd (cc)
too-early Code.WorkerBusy e = absurd (cc)
too-early Code.ParentClosed e = absurd (cc)
too-early Code.AlreadyEntered e = absurd (cc)
too-early Code.NotOwner e = absurd (cc)
too-early Code.EarlierSibling e = absurd (cc)
too-early (Code.LockHeld m) e = absurd (cc)
too-early Code.NoBody e = absurd (cc)
too-early Code.BodyEnded e = absurd (cc)
too-early Code.BodyNotEnded e = absurd (cc)
too-early Code.ChildrenLeft e = refl
too-early Code.NotClass e = absurd (cc)
too-early Code.NotOpen e = absurd (cc)
too-early (Code.OtherBody m) e = absurd (cc)
too-early Code.Stranger e = absurd (cc)
