-- What every desk is, after each step.
use Rattle.std.proofs.Common.{◌≡◌, ◌≢◌, ◌<◌, ◌≤◌, ℕ, List, [], Bool, true, false, length, set, Option, None, Some, MatchOption, ap, refl, sym, subst, ◌∙◌}
use Rattle.iso_book.specs.Books.{BookView, new_book, refusal_in, state_in, with_event}
use Rattle.iso_book.specs.Holdings.{HoldAfter, HoldAlike, HoldSame}
use Rattle.iso_book.specs.Progress.{HasEntered, HasGoneOn, HasShut, StayEntered}
use Rattle.iso_desk.specs.Marking.{has}
use Rattle.iso_desk.specs.Places.{TableView, line_in, place_of}
use Rattle.iso_desk.specs.declared.crew.Member.{Member}
use Rattle.iso_desk.specs.declared.place.Place.{Place}
use Rattle.iso_desk.specs.declared.place.Place.TheVariants.{Closed, Open, Over, With}
use Rattle.iso_floor.specs.Desks.{AreClosed, AreMarksOf, AreOwners, CanEnterNone, IsAt, IsDesk, IsOpenFor}
use Rattle.iso_floor.specs.Grounds.{IsBookOf}
use Rattle.iso_floor.specs.KeyMarks.{AreRenewed}
use Rattle.iso_floor.specs.Parties.{StandRightly, owner_of}
use Rattle.iso_floor.specs.Postings.{ArePosted, ClosesNone, IsPosted}
use Rattle.iso_floor.specs.Schedulers.{HasNothingIn, IsFor, IsMoved, KeepsLines, KeepsPlaces, KeepsSizes, SchedulerView, WaitRightly, put}
use Rattle.iso_isolation.specs.States as States
use Rattle.iso_lifecycle.specs.declared.kind.BodyKind.{BodyKind}
use Rattle.iso_lifecycle.specs.declared.kind.BodyKind.TheVariants.{AfterAll, BeforeAll, Test}
use Rattle.iso_plan.specs.HeldNodes.{is_held}
use Rattle.iso_plan.specs.KeyGroups.{lead_locks}
use Rattle.iso_plan.specs.Paths.{IsTree}
use Rattle.iso_plan.specs.Planned.{Planned}
use Rattle.iso_plan.specs.RowView.{tree_of}
use Rattle.iso_plan.specs.Tree.{Row}
use Rattle.iso_settings.specs.Worlds.{Start}
use Rattle.iso_standing.specs.declared.event.Event.{Event}
use Rattle.iso_standing.specs.declared.event.Event.TheVariants.{Enter, Shut}
use Rattle.iso_floor.proofs.ComingLemmas.{at-first, at-kept, at-moved, at-new, at-opened, at-over, at-shut, at-stays, at-stopped, at-with}
use Rattle.iso_floor.proofs.OwnerLemmas.{one-owner, owners-entered, owners-left, owners-new, owners-opened, owners-shut, owners-stopped}
use Rattle.iso_floor.proofs.PartyLemmas.{stand-put}
use Rattle.iso_floor.proofs.PlaceLemmas.{moved-put}
use Rattle.iso_floor.proofs.PostingLemmas.{closed-alike, closed-kept, closed-left, closed-new, closed-same, closed-stopped, closes-put, opens-kept, opens-moved, posted-first, posted-kept, posted-opened, put-there}
use Rattle.iso_floor.proofs.TakenLemmas.{marks-after, marks-left, marks-new, marks-same}
use Rattle.iso_floor.proofs.WaitLemmas.{enter-none}

-- who stands in a line of a key takes that key so, as before
pub rightly : (s t : SchedulerView) (tree : List Row) → KeepsLines s t → WaitRightly tree s.table.places → WaitRightly tree t.table.places
rightly s t tree lines right n l st = right n l (lines n l st)

module _ (plan : Planned) (start : Start) (workers : ℕ) where
  -- a step of the scheduler alone
  pub desk-step : (b : BookView) (s t : SchedulerView) → t.keys ≡ s.keys → t.owners ≡ s.owners → KeepsSizes s t → (WaitRightly plan.rows s.table.places → WaitRightly plan.rows t.table.places)
      → KeepsPlaces s t → (StandRightly plan s.owners s.table.places → StandRightly plan t.owners t.table.places) → ClosesNone s.table.places t.table.places → IsDesk plan start workers b s
      → IsDesk plan start workers b t
  desk-step b s t keys owners sizes lines places stands closes d =
      record {
        book = d.book;
        scheduler = sizes (length plan.rows) workers d.scheduler;
        marks = subst (AreMarksOf b) (sym keys) d.marks;
        lines = lines d.lines;
        places = at-kept b s.table.places t.table.places places d.places;
        stands = stands d.stands;
        owners = subst (AreOwners b) (sym owners) d.owners;
        closed = closed-kept b s.table.places t.table.places closes d.closed;
        posted = λ some. posted-kept plan s.table.places t.table.places (opens-kept s.table.places t.table.places places) closes (d.posted some);
      }

  pub desk-table : (b : BookView) (s t : SchedulerView) {u : TableView} → t ≡ record s { table = u } → KeepsSizes s t → (WaitRightly plan.rows s.table.places → WaitRightly plan.rows t.table.places)
      → KeepsPlaces s t → (StandRightly plan s.owners s.table.places → StandRightly plan t.owners t.table.places) → ClosesNone s.table.places t.table.places → IsDesk plan start workers b s
      → IsDesk plan start workers b t
  desk-table b s t {u} e sizes lines places stands closes d =
      desk-step b s t (ap (λ (x : SchedulerView). x.keys) e) (ap (λ (x : SchedulerView). x.owners) e) sizes lines places stands closes d

  pub desk-members : (b : BookView) (s t : SchedulerView) {ms : List Member} → t ≡ record s { members = ms } → KeepsSizes s t → IsDesk plan start workers b s → IsDesk plan start workers b t
  desk-members b s t {ms} e sizes d =
      let table = ap (λ (x : SchedulerView). x.table) e in
      let owners = ap (λ (x : SchedulerView). x.owners) e in
      desk-step b s t (ap (λ (x : SchedulerView). x.keys) e) owners sizes (λ r. subst (λ (x : TableView). WaitRightly plan.rows x.places) (sym table) r)
      (λ n h. ap (λ (x : TableView). place_of x.places n) table)
      (λ r. subst (λ (x : TableView). StandRightly plan t.owners x.places) (sym table) (subst (λ (os : List (Option ℕ)). StandRightly plan os s.table.places) (sym owners) r))
      (λ n c. ap (λ (x : TableView). place_of x.places n) (sym table) ∙ c) d

  -- a class that is open in the book is opened up for its owner
  pub desk-opened : (b : BookView) (s t : SchedulerView) {u : TableView} {ps : List ℕ} (n w : ℕ) → t ≡ record s { table = u; owners = set s.owners n (Some w); passed = ps } → KeepsSizes s t
      → (WaitRightly plan.rows s.table.places → WaitRightly plan.rows t.table.places) → IsMoved n Open s.table.places t.table.places
      → (((v : ℕ) → owner_of s.owners n ≡ Some v → v ≡ w) → StandRightly plan s.owners s.table.places → StandRightly plan t.owners t.table.places)
      → ClosesNone s.table.places t.table.places → IsPosted plan n s.table.places → IsOpenFor b n w → IsDesk plan start workers b s → IsDesk plan start workers b t
  desk-opened b s t {u} {ps} n w e sizes lines moves stands closes posted is d =
      record {
        book = d.book;
        scheduler = sizes (length plan.rows) workers d.scheduler;
        marks = subst (AreMarksOf b) (sym (ap (λ (x : SchedulerView). x.keys) e)) d.marks;
        lines = lines d.lines;
        places = at-opened b n s.table.places t.table.places moves is.phase d.places;
        stands = stands (one-owner b s.owners n w is d.owners) d.stands;
        owners = subst (AreOwners b) (sym (ap (λ (x : SchedulerView). x.owners) e)) (owners-opened b s.owners n w is d.owners);
        closed = closed-kept b s.table.places t.table.places closes d.closed;
        posted = λ some. posted-opened plan s.table.places t.table.places n moves closes posted (d.posted some);
      }

  pub desk-same : (b : BookView) (s t : SchedulerView) → t ≡ s → IsDesk plan start workers b s → IsDesk plan start workers b t
  desk-same b s t e d = subst (IsDesk plan start workers b) (sym e) d

  pub desk-stopped : (b c : BookView) (s : SchedulerView) → c ≡ record b { stopped = true } → IsDesk plan start workers b s → IsDesk plan start workers c s
  desk-stopped b c s e d =
      subst (λ (x : BookView). IsDesk plan start workers x s) (sym e) (record {
        book = record { plan_is = d.book.plan_is; world_is = d.book.world_is; workers_are = d.book.workers_are };
        scheduler = d.scheduler;
        marks = record { written = d.marks.written; held = d.marks.held };
        lines = d.lines;
        places = λ n. at-stopped b n (place_of s.table.places n) (d.places n);
        stands = d.stands;
        owners = owners-stopped b s.owners d.owners;
        closed = closed-stopped b s.table.places d.closed;
        posted = d.posted;
      })

  -- nothing that waits can be entered
  pub desk-none : (b : BookView) (s : SchedulerView) (w : ℕ) (is_over : Bool) (seen : Option ℕ) (p : Planned) → IsTree (tree_of p) → p ≡ b.plan → IsDesk plan start workers b s
      → HasNothingIn s is_over w seen → CanEnterNone (record { book = b; scheduler = s }) w
  desk-none b s w is_over seen p tree own d nothing =
      enter-none b s w is_over seen d.marks (subst (λ (p : Planned). WaitRightly p.rows s.table.places) (sym d.book.plan_is) d.lines) d.places d.owners
      (subst (λ (x : Planned). StandRightly x s.owners s.table.places) (sym d.book.plan_is) d.stands) d.closed
      (λ some. subst (λ (x : Planned). ArePosted x s.table.places) (sym d.book.plan_is) (d.posted (subst (λ (k : ℕ). 0 < k) d.book.workers_are some)))
      (subst (λ (x : Planned). IsTree (tree_of x)) own tree) nothing

  pub desk-new : (p : Planned) (v : Start) (n : ℕ) (b : BookView) (s : SchedulerView) → p ≡ plan → v ≡ start → n ≡ workers → b ≡ new_book p v n → IsTree (tree_of p)
      → IsFor (length p.rows) n s → ((k : ℕ) → has s.keys.held k ≡ false) → ((k : ℕ) → has s.keys.written k ≡ false) → WaitRightly p.rows s.table.places
      → IsMoved 0 Open [] s.table.places → StandRightly p s.owners s.table.places → ((m w : ℕ) → owner_of s.owners m ≡ Some w → (m ≡ 0) × (w ≡ 0))
      → place_of s.table.places 0 ≢ Closed → (0 < n → IsPosted p 0 s.table.places) → IsDesk plan start workers b s
  desk-new p v n b s plans starts crews e t sizes held written lines places stands owners root posted =
      record {
        book = subst (IsBookOf plan start workers) (sym e) (record { plan_is = plans; world_is = starts; workers_are = crews });
        scheduler = subst (λ (x : Planned). IsFor (length x.rows) workers s) plans (subst (λ (x : ℕ). IsFor (length p.rows) x s) crews sizes);
        marks = subst (λ (x : BookView). AreMarksOf x s.keys) (sym e) (marks-new p v n s.keys t held written);
        lines = subst (λ (x : Planned). WaitRightly x.rows s.table.places) plans lines;
        places = λ m. subst (λ (x : BookView). IsAt x m (place_of s.table.places m)) (sym e) (at-new p v n s.table.places places m);
        stands = subst (λ (x : Planned). StandRightly x s.owners s.table.places) plans stands;
        owners = subst (λ (x : BookView). AreOwners x s.owners) (sym e) (owners-new p v n s.owners t owners);
        closed = subst (λ (x : BookView). AreClosed x s.table.places) (sym e) (closed-new p v n s.table.places root);
        posted = λ some.
            subst (λ (x : Planned). ArePosted x s.table.places) plans (posted-first p s.table.places places (posted (subst (λ (k : ℕ). 0 < k) (sym crews) some)));
      }

  -- an event of the book, and the step of the scheduler that goes with it
  module _ (b c : BookView) (e : Event) (taken : c ≡ with_event b e) (p : Planned) (t : IsTree (tree_of p)) (own : p ≡ b.plan) (s u : SchedulerView) where
    plans : c.plan ≡ b.plan
    plans = ap (λ (x : BookView). x.plan) taken

    tree-of : IsTree (tree_of c.plan)
    tree-of = subst (λ (x : Planned). IsTree (tree_of x)) (own ∙ sym plans) t

    rows-are : IsDesk plan start workers b s → length s.table.places ≡ length b.plan.rows
    rows-are d = d.scheduler.nodes_are ∙ ap (λ (x : Planned). length x.rows) (sym d.book.plan_is)

    after : AreMarksOf c u.keys → KeepsSizes s u → KeepsLines s u → ((m : ℕ) → IsAt c m (place_of u.table.places m)) → StandRightly plan u.owners u.table.places → AreOwners c u.owners
        → AreClosed c u.table.places → (ArePosted plan s.table.places → ArePosted plan u.table.places) → IsDesk plan start workers b s → IsDesk plan start workers c u
    after marks sizes lines places stands owners closed posted d =
        record {
          book = subst (IsBookOf plan start workers) (sym taken) (record { plan_is = d.book.plan_is; world_is = d.book.world_is; workers_are = d.book.workers_are });
          scheduler = sizes (length plan.rows) workers d.scheduler;
          marks = marks;
          lines = rightly s u plan.rows lines d.lines;
          places = places;
          stands = stands;
          owners = owners;
          closed = closed;
          posted = λ some. posted (d.posted some);
        }

    -- a node is put in a place that it may have
    placed : (n : ℕ) (p : Place) → StayEntered n b c → u.table ≡ put n p s.table → IsAt c n p → IsDesk plan start workers b s → (m : ℕ) → IsAt c m (place_of u.table.places m)
    placed n p others table is d =
        at-moved b c n others s.table.places u.table.places (rows-are d) d.places p
        (subst (λ (t : TableView). IsMoved n p s.table.places t.places) (sym table) (moved-put s.table n p)) is

    -- which stands in no line
    stand : (n : ℕ) (p : Place) → line_in p ≡ None → u.table ≡ put n p s.table → u.owners ≡ s.owners → IsDesk plan start workers b s → StandRightly plan u.owners u.table.places
    stand n p free table same d =
        subst (λ (os : List (Option ℕ)). StandRightly plan os u.table.places) (sym same)
        (subst (λ (t : TableView). StandRightly plan s.owners t.places) (sym table) (stand-put plan s.owners s.table n p free d.stands))

    closes : (n : ℕ) (p : Place) → p ≢ Closed → u.table ≡ put n p s.table → ClosesNone s.table.places u.table.places
    closes n p f table = subst (λ (t : TableView). ClosesNone s.table.places t.places) (sym table) (closes-put s.table n p f)

    there : (n : ℕ) (p : Place) → p ≢ Closed → u.table ≡ put n p s.table → IsDesk plan start workers b s → n < length b.plan.rows → place_of u.table.places n ≢ Closed
    there n p f table d low =
        subst (λ (t : TableView). place_of t.places n ≢ Closed) (sym table) (put-there s.table n p f (subst (λ (k : ℕ). n < k) (sym (rows-are d)) low))

    posts : (n : ℕ) (p : Place) → p ≢ Closed → p ≢ Open → u.table ≡ put n p s.table → ArePosted plan s.table.places → ArePosted plan u.table.places
    posts n p f g table =
        posted-kept plan s.table.places u.table.places
        (opens-moved s.table.places u.table.places n p g (subst (λ (t : TableView). IsMoved n p s.table.places t.places) (sym table) (moved-put s.table n p)))
        (closes n p f table)

    owned : AreOwners c s.owners → u.owners ≡ s.owners → AreOwners c u.owners
    owned are same = subst (AreOwners c) (sym same) are

    pub desk-entered : (w n : ℕ) (q : Planned) (held : List Bool) → HoldAlike n b c → q ≡ c.plan → ((m : ℕ) → m < length c.plan.rows → is_held held m ≡ States.is_held ((state_in c).nodes.status m))
        → (n < length q.rows → AreRenewed (tree_of q) held (lead_locks (tree_of q) n) s.keys u.keys) → (length q.rows ≤ n → u.keys ≡ s.keys) → KeepsSizes s u → KeepsLines s u
        → HasEntered w n b c → refusal_in b (Enter w n) ≡ None → u.table ≡ put n (With w) s.table → u.owners ≡ s.owners → IsDesk plan start workers b s → IsDesk plan start workers c u
    desk-entered w n q held alike same each renewed past sizes lines has allowed table owners d =
        after
        (marks-after b c plans tree-of n held s.keys u.keys alike each
        (subst (λ (x : Planned). n < length x.rows → AreRenewed (tree_of x) held (lead_locks (tree_of x) n) s.keys u.keys) same renewed)
        (subst (λ (x : Planned). length x.rows ≤ n → u.keys ≡ s.keys) same past) d.marks)
        sizes lines (placed n (With w) has.others table (at-with b c w n has) d) (stand n (With w) refl table owners d)
        (owned (owners-entered b c w n s.owners plans has allowed d.owners) owners)
        (closed-alike b c n s.table.places u.table.places plans alike (closes n (With w) (λ f. cc) table) (λ low f. absurd (there n (With w) (λ g. cc) table d low f)) d.closed)
        (posts n (With w) (λ f. cc) (λ f. cc) table) d

    pub desk-shut : (w n : ℕ) → HoldSame b c → u.keys ≡ s.keys → KeepsSizes s u → KeepsLines s u → HasShut w n b c → refusal_in b (Shut w n) ≡ None → u.table ≡ put n (With w) s.table
        → u.owners ≡ s.owners → IsDesk plan start workers b s → IsDesk plan start workers c u
    desk-shut w n same keys sizes lines has allowed table owners d =
        after (subst (AreMarksOf c) (sym keys) (marks-same b c plans tree-of s.keys same d.marks)) sizes lines (placed n (With w) has.others table (at-shut b c w n has) d)
        (stand n (With w) refl table owners d) (owned (owners-shut b c w n s.owners plans has allowed d.owners) owners)
        (closed-same b c s.table.places u.table.places plans same (closes n (With w) (λ f. cc) table) d.closed) (posts n (With w) (λ f. cc) (λ f. cc) table) d

    pub desk-left : (kind : BodyKind) (n : ℕ) (q : Planned) (held : List Bool) → HoldAfter kind n b c → q ≡ c.plan
        → ((m : ℕ) → m < length c.plan.rows → is_held held m ≡ States.is_held ((state_in c).nodes.status m))
        → (kind ≡ BeforeAll → u ≡ s) → (kind ≢ BeforeAll → n < length q.rows → AreRenewed (tree_of q) held (lead_locks (tree_of q) n) s.keys u.keys) → (length q.rows ≤ n → u.keys ≡ s.keys)
        → KeepsSizes s u → KeepsLines s u → HasGoneOn kind n b c → (kind ≢ BeforeAll → IsMoved n Over s.table.places u.table.places)
        → u.owners ≡ s.owners → (StandRightly q s.owners s.table.places → StandRightly q u.owners u.table.places) → ClosesNone s.table.places u.table.places → IsDesk plan start workers b s
        → IsDesk plan start workers c u
    desk-left kind n q held h same each stays renewed past sizes lines has moves owners stands closing d =
        after
        (marks-left b c plans tree-of kind n held s.keys u.keys h each (λ k. ap (λ (x : SchedulerView). x.keys) (stays k))
        (subst (λ (x : Planned). kind ≢ BeforeAll → n < length x.rows → AreRenewed (tree_of x) held (lead_locks (tree_of x) n) s.keys u.keys) same renewed)
        (subst (λ (x : Planned). length x.rows ≤ n → u.keys ≡ s.keys) same past) d.marks)
        sizes lines (left kind refl)
        (subst (λ (x : Planned). StandRightly x s.owners s.table.places → StandRightly x u.owners u.table.places) (same ∙ plans ∙ d.book.plan_is) stands d.stands)
        (owned (owners-left kind b c n s.owners plans has d.owners) owners)
        (closed-left kind b c n s.table.places u.table.places plans h has closing d.closed)
        (posted-kept plan s.table.places u.table.places (opened kind refl) closing) d
      where
        first : kind ≡ BeforeAll → (m : ℕ) → IsAt c m (place_of u.table.places m)
        first e m =
            subst (λ (x : SchedulerView). IsAt c m (place_of x.table.places m)) (sym (stays e))
            (at-stays b c n has.others s.table.places u.table.places (rows-are d) d.places
            (at-first b c n (place_of s.table.places n) (subst (λ (k : BodyKind). HasGoneOn k n b c) e has) (d.places n)) m)

        last : kind ≢ BeforeAll → (m : ℕ) → IsAt c m (place_of u.table.places m)
        last ne = at-moved b c n has.others s.table.places u.table.places (rows-are d) d.places Over (moves ne) (at-over kind b c n ne has)

        opened : (k : BodyKind) → kind ≡ k → (m : ℕ) → place_of u.table.places m ≡ Open → place_of s.table.places m ≡ Open
        opened BeforeAll e m is = ap (λ (x : SchedulerView). place_of x.table.places m) (sym (stays e)) ∙ is
        opened Test e m is =
            opens-moved s.table.places u.table.places n Over (λ f. cc) (moves (λ k. let wrong : Test ≡ BeforeAll = sym e ∙ k in absurd (cc))) m is
        opened AfterAll e m is =
            opens-moved s.table.places u.table.places n Over (λ f. cc) (moves (λ k. let wrong : AfterAll ≡ BeforeAll = sym e ∙ k in absurd (cc))) m is

        left : (k : BodyKind) → kind ≡ k → (m : ℕ) → IsAt c m (place_of u.table.places m)
        left BeforeAll e = first e
        left Test e = last (λ k. let wrong : Test ≡ BeforeAll = sym e ∙ k in absurd (cc))
        left AfterAll e = last (λ k. let wrong : AfterAll ≡ BeforeAll = sym e ∙ k in absurd (cc))

-- what an option tells that is none
pub none-told : (o : Option ℕ) (P : Type 0) (Q : ℕ → Type 0) → MatchOption o P Q → o ≡ None → P
none-told None P Q m e = m
none-told (Some x) P Q m e = absurd (cc)
