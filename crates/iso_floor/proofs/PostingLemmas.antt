-- Which nodes are Closed after a step, and that the CONCURRENT children of each open class were posted.
use Rattle.std.proofs.Common.{◌≡◌, ◌≢◌, ℕ, ◌<◌, ◌≤◌, ◌+◌, ◌-◌, zero, suc, List, [], length, set, get_or, arith, Option, Some, None, is_none, Result, Ok, Err, OnErr, OnOk, Bool, true, false, ◌&&◌, ◌||◌, not, leb, cond, is_some, ap, sym, subst, ◌∙◌, inl, inr, refl}
use Rattle.std.proofs.lemmas.Bool.{cases_eq, cases_lt}
use Rattle.std.proofs.lemmas.List.{get_or-set_other, get_or-set_same, get_or_past}
use Rattle.iso_book.specs.Books.{BookView, new_book, refusal_in, state_in, suite_in}
use Rattle.iso_book.specs.Holdings.{HoldAfter, HoldAlike, HoldSame}
use Rattle.iso_book.specs.Progress.{HasGoneOn, phase_in}
use Rattle.iso_desk.specs.Places.{TableView, headed, line_in, lined_up, moved, place_of}
use Rattle.iso_desk.specs.declared.line.Line.{Line}
use Rattle.iso_desk.specs.declared.place.Place.{Place}
use Rattle.iso_desk.specs.declared.place.Place.TheVariants.{Closed, InLine, Loose, Open}
use Rattle.iso_floor.specs.Desks.{AreClosed, IsAt}
use Rattle.iso_floor.specs.Postings.{ArePosted, ClosesNone, ComesLater, IsPosted}
use Rattle.iso_floor.specs.Schedulers.{IsMoved, SchedulerView, is_entered, next_taken, put}
use Rattle.iso_isolation.proofs.Accepted.{enter_passes, in_plan, nonzero_from, not_refused}
use Rattle.iso_isolation.proofs.Changes.{put_elsewhere}
use Rattle.iso_isolation.specs.Refusals as Why
use Rattle.iso_isolation.specs.Refusals.{is_root}
use Rattle.iso_isolation.specs.States as States
use Rattle.iso_isolation.specs.States.{Status, is_finished, is_held, is_open, is_waiting}
use Rattle.iso_lifecycle.specs.declared.kind.BodyKind.{BodyKind}
use Rattle.iso_lifecycle.specs.declared.kind.BodyKind.TheVariants.{AfterAll, BeforeAll, Test}
use Rattle.iso_model.specs.Bodies.{Stage}
use Rattle.iso_model.specs.Openings.{Frame}
use Rattle.iso_model.specs.declared.outcome.Outcome.{Outcome}
use Rattle.iso_model.specs.declared.script.Mode.{Mode}
use Rattle.iso_model.specs.declared.script.Mode.TheVariants.{Concurrent, SameThread}
use Rattle.iso_plan.proofs.ChildLemmas.{listed}
use Rattle.iso_plan.specs.Children.{IsChild, IsListed}
use Rattle.iso_plan.specs.Modes.{mode}
use Rattle.iso_plan.specs.Paths.{IsTree, children, parent}
use Rattle.iso_plan.specs.Planned.{Planned}
use Rattle.iso_plan.specs.RowView.{tree_of}
use Rattle.iso_settings.specs.Worlds.{Start}
use Rattle.iso_standing.specs.Phases.{bare, phase_of}
use Rattle.iso_standing.specs.declared.event.Event.TheVariants.{Enter}
use Rattle.iso_standing.specs.declared.phase.Phase.TheVariants as P
use Rattle.iso_suites.specs.ScriptLanguage.{scripts}
use Rattle.iso_floor.proofs.ComingLemmas.{open-phase}
use Rattle.iso_floor.proofs.PlaceLemmas.{Keeps}

-- a node gets a place that isn't Closed
pub closes-set : (places : List Place) (n : ℕ) (p : Place) → p ≢ Closed → ClosesNone places (set places n p)
closes-set places n p f m e =
    elim (cases_eq m n) [
      | inl same ↦
          elim (cases_lt n (length places)) [
            | inl low ↦
                let here : place_of (set places n p) n ≡ Closed = subst (λ (j : ℕ). place_of (set places n p) j ≡ Closed) same e in
                absurd (f (sym (get_or-set_same places n p Closed low) ∙ here))
            | inr high ↦ ap (place_of places) same ∙ get_or_past places n Closed high
          ]
      | inr other ↦ sym (get_or-set_other places n m p Closed other) ∙ e
    ]

closes-by : (t : TableView) (n : ℕ) (p : Place) (b : Bool) → p ≢ Closed → ClosesNone t.places (cond b t (moved n p t)).places
closes-by t n p true f m e = e
closes-by t n p false f m e = closes-set t.places n p f m e

pub closes-put : (t : TableView) (n : ℕ) (p : Place) → p ≢ Closed → ClosesNone t.places (put n p t).places
closes-put t n p f = closes-by t n p (is_some (line_in (place_of t.places n))) f

pub closes-taken : (t : TableView) (o : Option ℕ) → ClosesNone t.places (next_taken o t).places
closes-taken t None m e = e
closes-taken t (Some n) m e = closes-set t.places n Loose (λ f. cc) m e

pub closes-lined : {A E : Type 0} (r : Result A E) (s s' : SchedulerView) (n : ℕ) (l : Line) → OnOk r (s'.table ≡ lined_up n l s.table) → OnErr r (s' ≡ s)
    → ClosesNone s.table.places s'.table.places
closes-lined (Ok x) s s' n l ok err m e =
    subst (λ (t : TableView). ClosesNone s.table.places t.places) (sym ok) (closes-set s.table.places n (InLine (record { line = l; since = s.table.clock })) (λ f. cc)) m e
closes-lined (Err x) s s' n l ok err m e = ap (λ (u : SchedulerView). place_of u.table.places m) (sym err) ∙ e

pub closes-headed : {A E : Type 0} (r : Result A E) (s s' : SchedulerView) (n : ℕ) (l : Line) → OnOk r (s'.table ≡ headed n l s.table) → OnErr r (s' ≡ s)
    → ClosesNone s.table.places s'.table.places
closes-headed (Ok x) s s' n l ok err m e =
    subst (λ (t : TableView). ClosesNone s.table.places t.places) (sym ok) (closes-set s.table.places n (InLine (record { line = l; since = s.table.front - 1 })) (λ f. cc)) m e
closes-headed (Err x) s s' n l ok err m e = ap (λ (u : SchedulerView). place_of u.table.places m) (sym err) ∙ e

-- and isn't Closed then
put-by : (t : TableView) (n : ℕ) (p : Place) (b : Bool) → is_some (line_in (place_of t.places n)) ≡ b → p ≢ Closed → n < length t.places → place_of (cond b t (moved n p t)).places n ≢ Closed
put-by t n p true l f low e = let wrong : false ≡ true = sym (ap (λ (q : Place). is_some (line_in q)) e) ∙ l in absurd (cc)
put-by t n p false l f low e = f (sym (get_or-set_same t.places n p Closed low) ∙ e)

pub put-there : (t : TableView) (n : ℕ) (p : Place) → p ≢ Closed → n < length t.places → place_of (put n p t).places n ≢ Closed
put-there t n p f low = put-by t n p (is_some (line_in (place_of t.places n))) refl f low

-- a class that is open after a step was before
pub opens-kept : (old new : List Place) → Keeps old new → (m : ℕ) → place_of new m ≡ Open → place_of old m ≡ Open
opens-kept old new keeps m e = sym (keeps m (ap is_entered e)) ∙ e

pub opens-moved : (old new : List Place) (n : ℕ) (p : Place) → p ≢ Open → IsMoved n p old new → (m : ℕ) → place_of new m ≡ Open → place_of old m ≡ Open
opens-moved old new n p f moves m e =
    elim (cases_eq m n) [
      | inl same ↦
          let there : place_of new n ≡ Open = subst (λ (j : ℕ). place_of new j ≡ Open) same e in
          absurd (f (sym (moves.here (ap is_entered there)) ∙ there))
      | inr other ↦ sym (moves.others m other (ap is_entered e)) ∙ e
    ]

-- a step that opens no class up
pub posted-kept : (plan : Planned) (old new : List Place) → ((m : ℕ) → place_of new m ≡ Open → place_of old m ≡ Open) → ClosesNone old new → ArePosted plan old → ArePosted plan new
posted-kept plan old new opens closes are class is n child free e = are class (opens class is) n child free (closes n e)

-- a class is opened up that was posted
pub posted-opened : (plan : Planned) (old new : List Place) (class : ℕ) → IsMoved class Open old new → ClosesNone old new → IsPosted plan class old → ArePosted plan old → ArePosted plan new
posted-opened plan old new class moves closes posted are m is n child free e =
    elim (cases_eq m class) [
      | inl same ↦ posted n (subst (λ (j : ℕ). IsChild (tree_of plan) j (length plan.rows) n) same child) free (closes n e)
      | inr other ↦ are m (sym (moves.others m other (ap is_entered is)) ∙ is) n child free (closes n e)
    ]

-- at first the root alone is open
pub posted-first : (plan : Planned) (places : List Place) → IsMoved 0 Open [] places → IsPosted plan 0 places → ArePosted plan places
posted-first plan places moves posted m is n child free e =
    elim (cases_eq m 0) [
      | inl same ↦ posted n (subst (λ (j : ℕ). IsChild (tree_of plan) j (length plan.rows) n) same child) free e
      | inr other ↦ let wrong : Closed ≡ Open = sym (moves.others m other (ap is_entered is)) ∙ is in absurd (cc)
    ]

-- of the first children those that are CONCURRENT aren't Closed
abbrev pub PostedBelow : Planned → List ℕ → ℕ → List Place → Type 0
PostedBelow plan ns i places = (k : ℕ) → k < i → mode (tree_of plan) plan.settings (get_or ns k 0) ≡ Concurrent → place_of places (get_or ns k 0) ≢ Closed

pub posted-none : (plan : Planned) (ns : List ℕ) (places : List Place) → PostedBelow plan ns 0 places
posted-none plan ns places k low free e = absurd (omega (arith, low))

-- one child more
pub posted-more : (plan : Planned) (ns : List ℕ) (i : ℕ) (old new : List Place) → ClosesNone old new
    → (mode (tree_of plan) plan.settings (get_or ns i 0) ≡ Concurrent → place_of new (get_or ns i 0) ≢ Closed) → PostedBelow plan ns i old → PostedBelow plan ns (i + 1) new
posted-more plan ns i old new closes here below k low free e =
    elim (cases_lt k i) [
      | inl less ↦ below k less free (closes (get_or ns k 0) e)
      | inr more ↦
          let same : k ≡ i = omega (arith, low, more) in
          here (subst (λ (j : ℕ). mode (tree_of plan) plan.settings (get_or ns j 0) ≡ Concurrent) same free) (subst (λ (j : ℕ). place_of new (get_or ns j 0) ≡ Closed) same e)
    ]

-- all children
pub posted-all : (plan : Planned) (class : ℕ) (ns : List ℕ) (i : ℕ) (places : List Place) → ns ≡ children (tree_of plan) class → length ns ≤ i → PostedBelow plan ns i places
    → IsPosted plan class places
posted-all plan class ns i places is all below n child free e =
    let found : IsListed (children (tree_of plan) class) n =
    subst (λ (m : ℕ). IsListed (children (tree_of plan) m) n) child.parent_is (listed (tree_of plan) n child.positive child.within) in
    let same : get_or ns found.place 0 ≡ n = ap (λ (ms : List ℕ). get_or ms found.place 0) is ∙ found.is in
    let at : found.place < length ns = subst (λ (ms : List ℕ). found.place < length ms) (sym is) found.within in
    let low : found.place < i = omega (arith, at, all) in
    below found.place low (subst (λ (j : ℕ). mode (tree_of plan) plan.settings j ≡ Concurrent) (sym same) free) (subst (λ (j : ℕ). place_of places j ≡ Closed) (sym same) e)

-- no node that is Closed is held
pub closed-kept : (b : BookView) (old new : List Place) → ClosesNone old new → AreClosed b old → AreClosed b new
closed-kept b old new closes are n low e = are n low (closes n e)

pub closed-stopped : (b : BookView) (places : List Place) → AreClosed b places → AreClosed (record b { stopped = true }) places
closed-stopped b places are n low e = are n low e

above : (n : ℕ) → n ≢ 0 → 0 < n
above zero f = absurd (f refl)
above (suc n) f = omega arith

pub closed-same : (b c : BookView) (old new : List Place) → c.plan ≡ b.plan → HoldSame b c → ClosesNone old new → AreClosed b old → AreClosed c new
closed-same b c old new plans same closes are n low e =
    let within : n < length b.plan.rows = subst (λ (p : Planned). n < length p.rows) plans low in
    let was = are n within (closes n e) in
    (was.0, same n (above n was.0) within ∙ was.1)

-- all but this one are held as before, and this one isn't Closed, or isn't held
pub closed-alike : (b c : BookView) (n : ℕ) (old new : List Place) → c.plan ≡ b.plan → HoldAlike n b c → ClosesNone old new
    → (n < length b.plan.rows → place_of new n ≡ Closed → is_held ((state_in c).nodes.status n) ≡ false) → AreClosed b old → AreClosed c new
closed-alike b c n old new plans alike closes here are m low e =
    let within : m < length b.plan.rows = subst (λ (p : Planned). m < length p.rows) plans low in
    let was = are m within (closes m e) in
    elim (cases_eq m n) [
      | inl same ↦ (
        was.0,
        ap (λ (j : ℕ). is_held ((state_in c).nodes.status j)) same
            ∙ here (subst (λ (j : ℕ). j < length b.plan.rows) same within) (subst (λ (j : ℕ). place_of new j ≡ Closed) same e),
      )
      | inr other ↦ (was.0, alike m (above m was.0) within other ∙ was.1)
    ]

-- who is finished isn't held
finished-free : (st : Status Stage Frame Outcome) → is_finished (bare (phase_of st)) ≡ true → is_held st ≡ false
finished-free States.Waiting e = refl
finished-free (States.Begun b) e = absurd (cc)
finished-free (States.Open fs) e = absurd (cc)
finished-free (States.Barred fs) e = absurd (cc)
finished-free (States.Closing fs b) e = absurd (cc)
finished-free (States.Finished r) e = refl

pub closed-left : (kind : BodyKind) (b c : BookView) (n : ℕ) (old new : List Place) → c.plan ≡ b.plan → HoldAfter kind n b c → HasGoneOn kind n b c → ClosesNone old new → AreClosed b old
    → AreClosed c new
closed-left BeforeAll b c n old new plans h has closes are = closed-same b c old new plans h closes are
closed-left Test b c n old new plans h has closes are = closed-alike b c n old new plans h closes (λ low e. finished-free ((state_in c).nodes.status n) has.phase) are
closed-left AfterAll b c n old new plans h has closes are = closed-alike b c n old new plans h closes (λ low e. finished-free ((state_in c).nodes.status n) has.phase) are

-- at first no node is held but the root
pub closed-new : (plan : Planned) (start : Start) (workers : ℕ) (places : List Place) → place_of places 0 ≢ Closed → AreClosed (new_book plan start workers) places
closed-new plan start workers places root n low e =
    let inner : n ≢ 0 = λ z. root (subst (λ (j : ℕ). place_of places j ≡ Closed) z e) in
    (inner, ap (λ (st : Status Stage Frame Outcome). is_held st) (put_elsewhere n 0 (States.Open []) (λ (m : ℕ). States.Waiting) inner))

first-false : (x y : Bool) → (x || y) ≡ false → x ≡ false
first-false true y e = absurd (cc)
first-false false y e = refl

open-by : (x y : Bool) → x ≡ false → (not x && not y) ≡ false → y ≡ true
open-by true y f e = absurd (cc)
open-by false true f e = refl
open-by false false f e = absurd (cc)

-- a node that the book lets a worker enter is in a class that is open there
record IsEnterable (b : BookView) (w n : ℕ) : Type 0 where
  inner : 0 < n
  within : n < length b.plan.rows
  worker : w < b.workers
  class : phase_in b (parent (tree_of b.plan) n) ≡ P.Open

enterable : (b : BookView) (w n : ℕ) → refusal_in b (Enter w n) ≡ None → IsEnterable b w n
enterable b w n none =
    let x = suite_in b in
    let s = state_in b in
    let st = s.nodes.status (parent (tree_of b.plan) n) in
    let passes = enter_passes scripts x b.workers s w n (ap (λ (o : Option Why.Refused). is_none o) none) in
    let fresh = not_refused (is_root n || not (is_waiting (s.nodes.status n))) Why.AlreadyEntered passes.fresh in
    let inner = first-false (is_root n) (not (is_waiting (s.nodes.status n))) fresh in
    let is = open-by (is_root n) (is_open st) inner (not_refused (not (is_root n) && not (is_open st)) Why.ParentClosed passes.parent) in
    record {
      inner = above n (nonzero_from n inner);
      within = in_plan x.nodes n (not_refused (leb x.nodes n) Why.NoNode passes.node);
      worker = in_plan b.workers w (not_refused (leb b.workers w) Why.NoWorker passes.worker);
      class = open-phase st is;
    }

open-held : (st : Status Stage Frame Outcome) → phase_of st ≡ P.Open → is_held st ≡ true
open-held States.Waiting e = absurd (cc)
open-held (States.Begun b) e = refl
open-held (States.Open fs) e = refl
open-held (States.Barred fs) e = refl
open-held (States.Closing fs b) e = refl
open-held (States.Finished r) e = absurd (cc)

mode-by : (m : Mode) → m ≢ Concurrent → m ≡ SameThread
mode-by Concurrent f = absurd (f refl)
mode-by SameThread f = refl

-- so where it is Closed, it comes later
pub comes-later : (b : BookView) (places : List Place) (w n : ℕ) → IsTree (tree_of b.plan) → ((m : ℕ) → IsAt b m (place_of places m)) → AreClosed b places
    → (0 < b.workers → ArePosted b.plan places) → place_of places n ≡ Closed → refusal_in b (Enter w n) ≡ None → ComesLater b.plan places n
comes-later b places w n tree at closed posted e none =
    let is = enterable b w n none in
    let p = parent (tree_of b.plan) n in
    let higher : p < n = tree.below n is.inner in
    let inner : n < length b.plan.rows = is.within in
    let crew : w < b.workers = is.worker in
    let within : p < length b.plan.rows = omega (arith, higher, inner) in
    let some : 0 < b.workers = omega (arith, crew) in
    record {
      entered = λ c. let wrong : true ≡ false = sym (open-held ((state_in b).nodes.status p) is.class) ∙ (closed p within c).1 in absurd (cc);
      left = λ c. let wrong : P.Open ≡ P.Finished = sym is.class ∙ subst (IsAt b p) c (at p) in absurd (cc);
      next = λ c.
          mode-by (mode (tree_of b.plan) b.plan.settings n)
          (λ free. posted some p c n (record { positive = is.inner; within = is.within; parent_is = refl }) free e);
    }

-- what holds after a step that ended well
pub ok-more : {A E : Type 0} (r : Result A E) {P Q : Type 0} → (P → Q) → OnOk r P → OnOk r Q
ok-more (Ok x) f p = f p
ok-more (Err x) f p = tt
