-- Nothing that waits can be entered where nothing is on offer.
use Rattle.std.proofs.Common.{◌≡◌, ◌≢◌, ℕ, zero, suc, ◌<◌, List, [], ◌∷◌, length, Option, None, Some, Bool, true, false, ◌||◌, ◌&&◌, ◌==◌, cond, is_some, ap, ap₂, sym, ◌∙◌, inl, inr, arith, refl}
use Rattle.std.proofs.lemmas.Bool.{cases_eq}
use Rattle.std.proofs.lemmas.List.Elements.{recursion_from_All}
use Rattle.std.specs.List.{list_any}
use Rattle.std.specs.Option.{option_map, option_or}
use Rattle.iso_book.specs.Books.{BookView, refusal_in, state_in, suite_in}
use Rattle.iso_desk.specs.Marking.{has}
use Rattle.iso_desk.specs.Offers.{NothingOffered, excludes}
use Rattle.iso_desk.specs.Places.{StandsIn, place_of}
use Rattle.iso_desk.specs.declared.line.KeyLine.{KeyLine}
use Rattle.iso_desk.specs.declared.line.Line.TheVariants.{Key}
use Rattle.iso_desk.specs.declared.line.Party.{Party}
use Rattle.iso_desk.specs.declared.line.Party.TheVariants.{Everyone, Worker}
use Rattle.iso_floor.specs.Desks.{AreClosed, AreMarksOf, AreOwners, CanEnterNone, IsAt, held_nodes}
use Rattle.iso_floor.specs.KeyMarks.{is_excluded, is_taken}
use Rattle.iso_floor.specs.Parties.{StandRightly}
use Rattle.iso_floor.specs.Postings.{ArePosted}
use Rattle.iso_floor.specs.Schedulers.{HasNothingIn, SchedulerView, Takes, WaitRightly, access_in}
use Rattle.iso_isolation.specs.Refusals.{LockHeld, Refused, already_entered, earlier_sibling, first_of, lock_held, lowest_below, no_node, no_worker, not_owner_of_parent, parent_closed, stopped, worker_busy}
use Rattle.iso_isolation.specs.States as States
use Rattle.iso_model.specs.declared.access.Access.{Access}
use Rattle.iso_model.specs.declared.access.Access.TheVariants.{Read, Write}
use Rattle.iso_plan.proofs.LockLemmas.{locks-known}
use Rattle.iso_plan.proofs.PathLemmas.{eq_not}
use Rattle.iso_plan.proofs.WriterLemmas.{lead-taken}
use Rattle.iso_plan.specs.Conflicts.{is_in_the_way, lowest, lowest_in_the_way}
use Rattle.iso_plan.specs.HeldNodes.{is_access, is_held, takes_in}
use Rattle.iso_plan.specs.KeyGroups.{is_lead}
use Rattle.iso_plan.specs.KeyTable.{keys}
use Rattle.iso_plan.specs.Locks.{conflict, locks}
use Rattle.iso_plan.specs.Paths.{IsTree}
use Rattle.iso_plan.specs.RowView.{tree_of}
use Rattle.iso_plan.specs.Tree.{Row}
use Rattle.iso_plan.specs.declared.lock.Lock.{Lock}
use Rattle.iso_standing.specs.declared.event.Event.TheVariants.{Enter}
use Rattle.iso_suites.specs.ScriptLanguage.{scripts}
use Rattle.iso_floor.proofs.ComingLemmas.{at-refused}
use Rattle.iso_floor.proofs.HintLemmas.{some-excluded}
use Rattle.iso_floor.proofs.OwnerLemmas.{line-refused}
use Rattle.iso_floor.proofs.PostingLemmas.{comes-later}
use Rattle.iso_floor.proofs.TakenLemmas.{held-at}

or-true : (x y : Bool) → x ≡ true → (x || y) ≡ true
or-true true y e = refl
or-true false y e = absurd (cc)

same-key : (a b : ℕ) → (a == b) ≡ true → a ≡ b
same-key a b e = elim (cases_eq a b) [ inl same ↦ same | inr other ↦ let wrong : true ≡ false = sym e ∙ eq_not a b other in absurd (cc) ]

same-access : (a b : Access) → is_access a b ≡ true → b ≡ a
same-access Read Read e = refl
same-access Read Write e = absurd (cc)
same-access Write Read e = absurd (cc)
same-access Write Write e = refl

both-hold : (x y : Bool) → (x && y) ≡ true → (x ≡ true) × (y ≡ true)
both-hold true true e = (refl, refl)
both-hold true false e = absurd (cc)
both-hold false y e = absurd (cc)

-- a node that takes a key so is excluded where a lock is that takes it so
found-by : (tree : List Row) (held : List Bool) (a : Access) (k : ℕ) (l : Lock) (ls : List Lock) (here : Bool) → (l.key == k && is_access a l.access) ≡ here
    → (here || takes_in a k ls) ≡ true → is_excluded tree held (record { key = k; access = a }) ≡ true
    → (takes_in a k ls ≡ true → list_any (is_excluded tree held) ls ≡ true) → (is_excluded tree held l || list_any (is_excluded tree held) ls) ≡ true
found-by tree held a k l ls true e h x f =
    let both = both-hold (l.key == k) (is_access a l.access) e in
    let same : is_excluded tree held l ≡ is_excluded tree held (record { key = k; access = a }) =
    ap₂ (λ (j : ℕ) (b : Access). is_excluded tree held (record { key = j; access = b })) (same-key l.key k both.0) (same-access a l.access both.1) in
    or-true (is_excluded tree held l) (list_any (is_excluded tree held) ls) (same ∙ x)
found-by tree held a k l ls false e h x f = or-second (is_excluded tree held l) (list_any (is_excluded tree held) ls) (f h)
  where
    or-second : (x y : Bool) → y ≡ true → (x || y) ≡ true
    or-second true y e = refl
    or-second false y e = e

excluded-among : (tree : List Row) (held : List Bool) (a : Access) (k : ℕ) (ls : List Lock) → takes_in a k ls ≡ true → is_excluded tree held (record { key = k; access = a }) ≡ true
    → list_any (is_excluded tree held) ls ≡ true
excluded-among tree held a k [] h x = absurd (cc)
excluded-among tree held a k (l ∷ ls) h x =
    found-by tree held a k l ls (l.key == k && is_access a l.access) refl h x (λ g. excluded-among tree held a k ls g x)

-- a key that excludes who stands in a line is taken so that it excludes a lock
excluded-by : (b : BookView) (s : SchedulerView) (m : AreMarksOf b s.keys) (k : ℕ) (w : Bool) → k < 256 → is_lead (tree_of b.plan) k ≡ true → cond w (has s.keys.held k) (has s.keys.written k) ≡ true
    → is_excluded (tree_of b.plan) (held_nodes b) (record { key = k; access = cond w Write Read }) ≡ true
excluded-by b s m k true h l e = sym (m.held k h l) ∙ e
excluded-by b s m k false h l e = or-true (is_taken (tree_of b.plan) (held_nodes b) Write k) false (sym (m.written k h l) ∙ e)

lowest-same : (p q : ℕ → Bool) (n : ℕ) → ((m : ℕ) → m < n → p m ≡ q m) → lowest_below n p ≡ lowest q n
lowest-same p q zero f = refl
lowest-same p q (suc n) f = ap₂ option_or (lowest-same p q n (λ m h. f m (omega arith))) (ap (λ (b : Bool). cond b (Some n) None) (f n (omega arith)))

later-none : {A : Type 0} (x y : Option A) → option_or x y ≡ None → y ≡ None
later-none None y e = e
later-none (Some a) y e = absurd (cc)

first-none : {A : Type 0} (x y : Option A) → option_or x y ≡ None → x ≡ None
first-none None y e = refl
first-none (Some a) y e = absurd (cc)

unmapped : (x : Option ℕ) → option_map LockHeld x ≡ None → is_some x ≡ false
unmapped None e = refl
unmapped (Some m) e = absurd (cc)

-- the last of nine kinds
last-none : (a b c d e f g h k : Option Refused) → first_of (a ∷ b ∷ c ∷ d ∷ e ∷ f ∷ g ∷ h ∷ k ∷ []) ≡ None → k ≡ None
last-none a b c d e f g h k none =
    let n1 = later-none a (first_of (b ∷ c ∷ d ∷ e ∷ f ∷ g ∷ h ∷ k ∷ [])) none in
    let n2 = later-none b (first_of (c ∷ d ∷ e ∷ f ∷ g ∷ h ∷ k ∷ [])) n1 in
    let n3 = later-none c (first_of (d ∷ e ∷ f ∷ g ∷ h ∷ k ∷ [])) n2 in
    let n4 = later-none d (first_of (e ∷ f ∷ g ∷ h ∷ k ∷ [])) n3 in
    let n5 = later-none e (first_of (f ∷ g ∷ h ∷ k ∷ [])) n4 in
    let n6 = later-none f (first_of (g ∷ h ∷ k ∷ [])) n5 in
    let n7 = later-none g (first_of (h ∷ k ∷ [])) n6 in
    first-none k None (later-none h (first_of (k ∷ [])) n7)

-- a node that a held one excludes is refused
refused-held : (b : BookView) (w n : ℕ) → is_some (lowest_in_the_way (tree_of b.plan) (is_held (held_nodes b)) n) ≡ true → refusal_in b (Enter w n) ≢ None
refused-held b w n some none =
    let at : (m : ℕ) → m < length b.plan.rows → (States.is_held ((state_in b).nodes.status m) && conflict (tree_of b.plan) m n) ≡ is_in_the_way (tree_of b.plan) (is_held (held_nodes b)) n m =
    λ m h. ap (λ (x : Bool). x && conflict (tree_of b.plan) m n) (sym (held-at b m h)) in
    let x = suite_in b in
    let s = state_in b in
    let v = b.workers in
    let held : lock_held scripts x v s n ≡ None =
    last-none (stopped scripts x v s) (no_worker scripts x v s w) (no_node scripts x v s n) (worker_busy scripts x v s w) (parent_closed scripts x v s n) (already_entered scripts x v s n)
    (not_owner_of_parent scripts x v s w n) (earlier_sibling scripts x v s n) (lock_held scripts x v s n) none in
    let in_the_way = lowest_below (length b.plan.rows) (λ m. States.is_held (s.nodes.status m) && conflict (tree_of b.plan) m n) in
    let wrong : true ≡ false =
    sym some ∙ ap is_some (sym (lowest-same (λ m. States.is_held (s.nodes.status m) && conflict (tree_of b.plan) m n) (is_in_the_way (tree_of b.plan) (is_held (held_nodes b)) n)
    (length b.plan.rows) at))
    ∙ unmapped in_the_way held in
    absurd (cc)

none-free : (e : Bool) → (e ≡ false → ⊥) → e ≡ true
none-free true f = refl
none-free false f = absurd (f refl)

-- no line of a party is on offer, so nobody who stands there can be entered
refused-all : (b : BookView) (s : SchedulerView) (w : ℕ) (p : Party) → AreMarksOf b s.keys → WaitRightly (tree_of b.plan) s.table.places → NothingOffered s.table.places s.keys.held s.keys.written p
    → (n : ℕ) (l : KeyLine) → l.party ≡ p → StandsIn s.table.places (Key l) n → refusal_in b (Enter w n) ≢ None
refused-all b s w p marks right nothing n l of stands =
    let tree = tree_of b.plan in
    let takes : Takes tree n l = right n l stands in
    let own = lead-taken tree n (access_in l) l.key takes.taken in
    let closed : excludes s.keys.held s.keys.written l ≡ true = none-free (excludes s.keys.held s.keys.written l) (λ free. nothing l of (record { waits = (n, stands); free = free })) in
    let among : list_any (is_excluded tree (held_nodes b)) (locks tree n) ≡ true =
    excluded-among tree (held_nodes b) (access_in l) l.key (locks tree n) own.1 (excluded-by b s marks l.key l.writes takes.known own.0 closed) in
    refused-held b w n (some-excluded tree (held_nodes b) n (recursion_from_All (λ (k : Lock). k.key < length (keys tree)) (locks tree n) (locks-known tree n)) ∙ among)

pub enter-none : (b : BookView) (s : SchedulerView) (w : ℕ) (is_over : Bool) (seen : Option ℕ) → AreMarksOf b s.keys → WaitRightly (tree_of b.plan) s.table.places
    → ((n : ℕ) → IsAt b n (place_of s.table.places n)) → AreOwners b s.owners → StandRightly b.plan s.owners s.table.places → AreClosed b s.table.places
    → (0 < b.workers → ArePosted b.plan s.table.places) → IsTree (tree_of b.plan) → HasNothingIn s is_over w seen → CanEnterNone (record { book = b; scheduler = s }) w
enter-none b s w is_over seen marks right places owners stands closed posted tree nothing =
    let alone = refused-all b s w (Worker w) marks right nothing.alone in
    let others = refused-all b s w Everyone marks right nothing.others in
    record {
      own = nothing.own;
      alone = alone;
      others = others;
      elsewhere = λ n l in_line. line-refused b s w owners stands n l in_line nothing.own (alone n) (others n);
      entered = λ n e. at-refused b w n (place_of s.table.places n) e (places n);
      closed = λ n e none. comes-later b s.table.places w n tree places closed posted e none;
    }
