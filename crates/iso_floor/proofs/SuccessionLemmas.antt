-- SAME_THREAD children of an open class come one after another, also after each step.
use Rattle.std.proofs.Common.{◌≡◌, ◌≢◌, ℕ, ◌<◌, ◌≤◌, ◌+◌, List, length, arith, set, get_or, replicate, zero, suc, Option, Some, None, Result, Ok, Err, OnOk, is_err, true, false, ap, sym, subst, ◌∙◌, inl, inr, refl}
use Rattle.std.proofs.lemmas.Bool.{cases_eq, cases_lt}
use Rattle.std.proofs.lemmas.List.{get_or-set_other, get_or-set_same, get_or_past, length-set}
use Rattle.iso_book.specs.Books.{BookView}
use Rattle.iso_desk.specs.Places.{TableView, line_in, place_of}
use Rattle.iso_desk.specs.declared.crew.Member.{Member}
use Rattle.iso_desk.specs.declared.place.Place.{Place}
use Rattle.iso_desk.specs.declared.place.Place.TheVariants.{Closed, InLine, Loose, Open, Over, With}
use Rattle.iso_floor.specs.Parties.{owner_of}
use Rattle.iso_floor.specs.Postings.{ClosesNone}
use Rattle.iso_floor.specs.Schedulers.{IsFor, IsMoved, KeepsPlaces, KeepsSizes, SchedulerView, is_entered, put}
use Rattle.iso_floor.specs.Successions.{AreConcurrent, ArePreceded, ComeInTurn, ComeInTurnBut, HasEarlier, HasNext, HasOwner, IsAlone, WereGiven, child_at, is_open, passed_in}
use Rattle.iso_model.specs.declared.script.Mode.TheVariants.{Concurrent, SameThread}
use Rattle.iso_plan.proofs.ChildLemmas.{child-is, listed}
use Rattle.iso_plan.specs.Children.{IsChild, IsListed}
use Rattle.iso_plan.specs.Modes.{mode}
use Rattle.iso_plan.specs.Paths.{children, parent}
use Rattle.iso_plan.specs.Planned.{Planned}
use Rattle.iso_plan.specs.RowView.{tree_of}
use Rattle.iso_floor.proofs.PlaceLemmas.{Keeps, moved-put}
use Rattle.iso_floor.proofs.PostingLemmas.{closes-put}

-- who has a place of one that was entered had it before
pub back-kept : (old new : List Place) (q : Place) → is_entered q ≡ true → Keeps old new → (m : ℕ) → place_of new m ≡ q → place_of old m ≡ q
back-kept old new q is keeps m e = sym (keeps m (ap is_entered e ∙ is)) ∙ e

pub back-moved : (old new : List Place) (n : ℕ) (p q : Place) → is_entered q ≡ true → p ≢ q → IsMoved n p old new → (m : ℕ) → place_of new m ≡ q → place_of old m ≡ q
back-moved old new n p q is f moves m e =
    elim (cases_eq m n) [
      | inl same ↦
          let there : place_of new n ≡ q = subst (λ (j : ℕ). place_of new j ≡ q) same e in
          absurd (f (sym (moves.here (ap is_entered there ∙ is)) ∙ there))
      | inr other ↦ sym (moves.others m other (ap is_entered e ∙ is)) ∙ e
    ]

-- a SAME_THREAD child that isn't over still isn't
next-moved : (plan : Planned) (class count : ℕ) (old new : List Place) → ((k : ℕ) → IsAlone plan class k → place_of new (child_at plan class k) ≡ Over → place_of old (child_at plan class k) ≡ Over)
    → HasNext plan class count old → HasNext plan class count new
next-moved plan class count old new overs (inl g) =
    inl (record { place = g.place; below = g.below; alone = g.alone; left = λ e. g.left (overs g.place g.alone e) })
next-moved plan class count old new overs (inr all) = inr all

-- how many nodes and workers there are after a step
sizes-kept : (s t : SchedulerView) → KeepsSizes s t → IsFor (length s.table.places) s.table.workers t
sizes-kept s t sizes = sizes (length s.table.places) s.table.workers (record { nodes_are = refl; workers_are = refl })

-- a class has its owner still
pub owner-kept : (n : ℕ) (s t : SchedulerView) → t.owners ≡ s.owners → KeepsSizes s t → HasOwner s.owners s.table.workers n → HasOwner t.owners t.table.workers n
owner-kept n s t owners sizes has =
    subst (λ (os : List (Option ℕ)). HasOwner os t.table.workers n) (sym owners)
    (subst (λ (k : ℕ). HasOwner s.owners k n) (sym (sizes-kept s t sizes).workers_are) has)

-- a step that opens no class up, and after which none is over of those that may count
module _ (but was : ℕ → Type 0) (plan : Planned) (s t : SchedulerView) (sizes : KeepsSizes s t) (closes : ClosesNone s.table.places t.table.places)
    (opens : (m : ℕ) → place_of t.table.places m ≡ Open → place_of s.table.places m ≡ Open) (owners : t.owners ≡ s.owners) where
  owned-after : ((class : ℕ) → place_of s.table.places class ≡ Open → HasOwner s.owners s.table.workers class) → (class : ℕ) → place_of t.table.places class ≡ Open
      → HasOwner t.owners t.table.workers class
  owned-after owned class e =
      subst (λ (os : List (Option ℕ)). HasOwner os t.table.workers class) (sym owners)
      (subst (λ (k : ℕ). HasOwner s.owners k class) (sym (sizes-kept s t sizes).workers_are) (owned class (opens class e)))

  pub turns-after : t.passed ≡ s.passed → ((m : ℕ) → ¬ but m → ¬ was m)
      → ((class k : ℕ) → ¬ but class → IsAlone plan class k → place_of t.table.places (child_at plan class k) ≡ Over → place_of s.table.places (child_at plan class k) ≡ Over)
      → ComeInTurnBut was plan s → ComeInTurnBut but plan t
  turns-after passed less overs turn =
      record {
        places_are = (sizes-kept s t sizes).nodes_are ∙ turn.places_are;
        owners_are = ap (λ (os : List (Option ℕ)). length os) owners ∙ turn.owners_are;
        passed_are = ap (λ (ps : List ℕ). length ps) passed ∙ turn.passed_are;
        given = λ class k low alone e. turn.given class k (subst (λ (ps : List ℕ). k < passed_in ps class) passed low) alone (closes (child_at plan class k) e);
        owned = owned-after turn.owned;
        next = λ class free e.
            subst (λ (ps : List ℕ). HasNext plan class (passed_in ps class) t.table.places) (sym passed)
            (next-moved plan class (passed_in s.passed class) s.table.places t.table.places (λ k alone. overs class k free alone) (turn.next class (less class free) (opens class e)));
      }

-- a step after which nobody has the place of one that was entered who hadn't
pub turns-kept : (but : ℕ → Type 0) (plan : Planned) (s t : SchedulerView) → KeepsSizes s t → ClosesNone s.table.places t.table.places → Keeps s.table.places t.table.places → t.owners ≡ s.owners
    → t.passed ≡ s.passed → ComeInTurnBut but plan s → ComeInTurnBut but plan t
turns-kept but plan s t sizes closes keeps owners passed =
    turns-after but but plan s t sizes closes (back-kept s.table.places t.table.places Open refl keeps) owners passed (λ m f. f)
    (λ class k free alone. back-kept s.table.places t.table.places Over refl keeps (child_at plan class k))

-- a node gets a place that is neither an open class's nor one of who is over
pub turns-moved : (but : ℕ → Type 0) (plan : Planned) (s t : SchedulerView) (n : ℕ) (p : Place) → p ≢ Open → p ≢ Over → KeepsSizes s t → ClosesNone s.table.places t.table.places
    → IsMoved n p s.table.places t.table.places → t.owners ≡ s.owners → t.passed ≡ s.passed → ComeInTurnBut but plan s → ComeInTurnBut but plan t
turns-moved but plan s t n p f g sizes closes moves owners passed =
    turns-after but but plan s t sizes closes (back-moved s.table.places t.table.places n p Open refl f moves) owners passed (λ m h. h)
    (λ class k free alone. back-moved s.table.places t.table.places n p Over refl g moves (child_at plan class k))

-- a node is over: in all classes but its own nothing changes, nor in its own where it is CONCURRENT
module _ (plan : Planned) (s t : SchedulerView) (n : ℕ) (sizes : KeepsSizes s t) (closes : ClosesNone s.table.places t.table.places) (moves : IsMoved n Over s.table.places t.table.places)
    (owners : t.owners ≡ s.owners) (passed : t.passed ≡ s.passed) where
  over-but : (but : ℕ → Type 0) → ((class k : ℕ) → ¬ but class → IsAlone plan class k → child_at plan class k ≢ n) → ComeInTurn plan s → ComeInTurnBut but plan t
  over-but but apart =
      turns-after but (λ class. ⊥) plan s t sizes closes (back-moved s.table.places t.table.places n Over Open refl (λ f. cc) moves) owners passed (λ m f w. w)
      (λ class k free alone e. sym (moves.others (child_at plan class k) (apart class k free alone) (ap is_entered e)) ∙ e)

  pub turns-ended : (own : ℕ) → (0 < n → n < length plan.rows → own ≡ parent (tree_of plan) n) → ComeInTurn plan s → ComeInTurnBut (λ m. m ≡ own) plan t
  turns-ended own is =
      over-but (λ m. m ≡ own)
      (λ class k free alone e.
      let child : IsChild (tree_of plan) class (length plan.rows) n = subst (IsChild (tree_of plan) class (length plan.rows)) e (child-is (tree_of plan) class k alone.within) in
      free (sym child.parent_is ∙ sym (is child.positive child.within)))

  pub turns-free : mode (tree_of plan) plan.settings n ≡ Concurrent → ComeInTurn plan s → ComeInTurn plan t
  turns-free free =
      over-but (λ m. ⊥)
      (λ class k f alone e.
      let wrong : SameThread ≡ Concurrent = sym alone.alone ∙ ap (mode (tree_of plan) plan.settings) e ∙ free in absurd (cc))

-- all are in turn where the class that was left out isn't open
pub turns-closed : (plan : Planned) (s : SchedulerView) (own : ℕ) → place_of s.table.places own ≢ Open → ComeInTurnBut (λ m. m ≡ own) plan s → ComeInTurn plan s
turns-closed plan s own f turn =
    record {
      places_are = turn.places_are;
      owners_are = turn.owners_are;
      passed_are = turn.passed_are;
      given = turn.given;
      owned = turn.owned;
      next = λ class free e. turn.next class (λ same. f (subst (λ (j : ℕ). place_of s.table.places j ≡ Open) same e)) e;
    }

-- so many children of a class were looked at
pub turns-set : (plan : Planned) (s t : SchedulerView) (own count : ℕ) → KeepsSizes s t → ClosesNone s.table.places t.table.places → Keeps s.table.places t.table.places → t.owners ≡ s.owners
    → t.passed ≡ set s.passed own count → own < length plan.rows → WereGiven plan own count t.table.places → HasNext plan own count t.table.places
    → ComeInTurnBut (λ m. m ≡ own) plan s → ComeInTurn plan t
turns-set plan s t own count sizes closes keeps owners passed low given next turn =
    let opens = back-kept s.table.places t.table.places Open refl keeps in
    let overs = back-kept s.table.places t.table.places Over refl keeps in
    let within : own < length s.passed = subst (λ (k : ℕ). own < k) (sym turn.passed_are) low in
    let here : passed_in t.passed own ≡ count = ap (λ (ps : List ℕ). passed_in ps own) passed ∙ get_or-set_same s.passed own count 0 within in
    let there : (m : ℕ) → m ≢ own → passed_in t.passed m ≡ passed_in s.passed m =
    λ m other. ap (λ (ps : List ℕ). passed_in ps m) passed ∙ get_or-set_other s.passed own m count 0 other in
    record {
      places_are = (sizes-kept s t sizes).nodes_are ∙ turn.places_are;
      owners_are = ap (λ (os : List (Option ℕ)). length os) owners ∙ turn.owners_are;
      passed_are = ap (λ (ps : List ℕ). length ps) passed ∙ length-set s.passed own count ∙ turn.passed_are;
      given = λ class.
          elim (cases_eq class own) [
            | inl same ↦ subst (λ (j : ℕ). WereGiven plan j (passed_in t.passed j) t.table.places) (sym same) (subst (λ (k : ℕ). WereGiven plan own k t.table.places) (sym here) given)
            | inr other ↦
                λ k below alone e. turn.given class k (subst (λ (j : ℕ). k < j) (there class other) below) alone (closes (child_at plan class k) e)
          ];
      owned = owned-after (λ class. ⊥) (λ m. m ≡ own) plan s t sizes closes opens owners turn.owned;
      next = λ class free e.
          elim (cases_eq class own) [
            | inl same ↦ subst (λ (j : ℕ). HasNext plan j (passed_in t.passed j) t.table.places) (sym same) (subst (λ (k : ℕ). HasNext plan own k t.table.places) (sym here) next)
            | inr other ↦
                subst (λ (k : ℕ). HasNext plan class k t.table.places) (sym (there class other))
                (next-moved plan class (passed_in s.passed class) s.table.places t.table.places (λ k alone. overs (child_at plan class k)) (turn.next class other (opens class e)))
          ];
    }

-- of the first children, those that were looked at before and some that are CONCURRENT
given-more : (plan : Planned) (class before i : ℕ) (places : List Place) → WereGiven plan class before places → AreConcurrent plan (children (tree_of plan) class) before i
    → WereGiven plan class i places
given-more plan class before i places given free k low alone e =
    elim (cases_lt k before) [
      | inl less ↦ given k less alone e
      | inr more ↦ let wrong : SameThread ≡ Concurrent = sym alone.alone ∙ free k more low in absurd (cc)
    ]

-- and the next, which stands in a line
given-next : (plan : Planned) (class i : ℕ) (places : List Place) → WereGiven plan class i places → place_of places (child_at plan class i) ≢ Closed → WereGiven plan class (i + 1) places
given-next plan class i places given here k low alone e =
    elim (cases_lt k i) [
      | inl less ↦ given k less alone e
      | inr more ↦ let same : k ≡ i = omega (arith, low, more) in here (subst (λ (j : ℕ). place_of places (child_at plan class j) ≡ Closed) same e)
    ]

in-line : (p q : Place) → line_in q ≡ None → line_in p ≢ None → p ≢ q
in-line p q free is e = is (ap line_in e ∙ free)

given-kept : (plan : Planned) (class count : ℕ) (old new : List Place) → ClosesNone old new → WereGiven plan class count old → WereGiven plan class count new
given-kept plan class count old new closes given k low alone e = given k low alone (closes (child_at plan class k) e)

-- the next SAME_THREAD child was given to the owner
pub turns-given : (plan : Planned) (s t : SchedulerView) (own i : ℕ) → KeepsSizes s t → ClosesNone s.table.places t.table.places → Keeps s.table.places t.table.places → t.owners ≡ s.owners
    → t.passed ≡ set s.passed own (i + 1) → own < length plan.rows → IsAlone plan own i → AreConcurrent plan (children (tree_of plan) own) (passed_in s.passed own) i
    → line_in (place_of t.table.places (child_at plan own i)) ≢ None → ComeInTurnBut (λ m. m ≡ own) plan s → ComeInTurn plan t
turns-given plan s t own i sizes closes keeps owners passed low alone free line turn =
    let p = place_of t.table.places (child_at plan own i) in
    let given = given-more plan own (passed_in s.passed own) i t.table.places (given-kept plan own (passed_in s.passed own) s.table.places t.table.places closes (turn.given own)) free in
    turns-set plan s t own (i + 1) sizes closes keeps owners passed low
    (given-next plan own i t.table.places given (in-line p Closed refl line))
    (inl (record { place = i; below = omega arith; alone = alone; left = in-line p Over refl line })) turn

-- there is none
pub turns-passed : (plan : Planned) (s t : SchedulerView) (own : ℕ) → KeepsSizes s t → ClosesNone s.table.places t.table.places → Keeps s.table.places t.table.places → t.owners ≡ s.owners
    → t.passed ≡ set s.passed own (length (children (tree_of plan) own)) → own < length plan.rows
    → AreConcurrent plan (children (tree_of plan) own) (passed_in s.passed own) (length (children (tree_of plan) own)) → ComeInTurnBut (λ m. m ≡ own) plan s → ComeInTurn plan t
turns-passed plan s t own sizes closes keeps owners passed low free turn =
    let count = length (children (tree_of plan) own) in
    turns-set plan s t own count sizes closes keeps owners passed low
    (given-more plan own (passed_in s.passed own) count t.table.places (given-kept plan own (passed_in s.passed own) s.table.places t.table.places closes (turn.given own)) free)
    (inr (omega arith)) turn

-- a class is opened up by an owner
pub turns-opened : (plan : Planned) (s t : SchedulerView) (own o : ℕ) → KeepsSizes s t → ClosesNone s.table.places t.table.places → IsMoved own Open s.table.places t.table.places
    → t.owners ≡ set s.owners own (Some o) → t.passed ≡ s.passed → own < length plan.rows → o < s.table.workers → ComeInTurn plan s → ComeInTurnBut (λ m. m ≡ own) plan t
turns-opened plan s t own o sizes closes moves owners passed low known turn =
    let within : own < length s.owners = subst (λ (k : ℕ). own < k) (sym turn.owners_are) low in
    let same = sizes-kept s t sizes in
    let overs = back-moved s.table.places t.table.places own Open Over refl (λ f. cc) moves in
    let opens : (m : ℕ) → m ≢ own → place_of t.table.places m ≡ Open → place_of s.table.places m ≡ Open = λ m other e. sym (moves.others m other (ap is_entered e)) ∙ e in
    record {
      places_are = same.nodes_are ∙ turn.places_are;
      owners_are = ap (λ (os : List (Option ℕ)). length os) owners ∙ length-set s.owners own (Some o) ∙ turn.owners_are;
      passed_are = ap (λ (ps : List ℕ). length ps) passed ∙ turn.passed_are;
      given = λ class k below alone e. turn.given class k (subst (λ (ps : List ℕ). k < passed_in ps class) passed below) alone (closes (child_at plan class k) e);
      owned = λ class e.
          elim (cases_eq class own) [
            | inl here ↦
                record {
                  owner = o;
                  is = ap (λ (os : List (Option ℕ)). owner_of os class) owners ∙ ap (owner_of (set s.owners own (Some o))) here ∙ get_or-set_same s.owners own (Some o) None within;
                  below = subst (λ (k : ℕ). o < k) (sym same.workers_are) known;
                }
            | inr other ↦
                let was = turn.owned class (opens class other e) in
                record {
                  owner = was.owner;
                  is = ap (λ (os : List (Option ℕ)). owner_of os class) owners ∙ get_or-set_other s.owners own class (Some o) None other ∙ was.is;
                  below = subst (λ (k : ℕ). was.owner < k) (sym same.workers_are) was.below;
                }
          ];
      next = λ class other e.
          subst (λ (ps : List ℕ). HasNext plan class (passed_in ps class) t.table.places) (sym passed)
          (next-moved plan class (passed_in s.passed class) s.table.places t.table.places (λ k alone. overs (child_at plan class k)) (turn.next class (λ w. w) (opens class other e)));
    }

-- and then it has that owner
pub owner-there : (owners : List (Option ℕ)) (own o workers : ℕ) → own < length owners → o < workers → HasOwner (set owners own (Some o)) workers own
owner-there owners own o workers low known = record { owner = o; is = get_or-set_same owners own (Some o) None low; below = known }

-- at first none is open
pub turns-first : (plan : Planned) (s : SchedulerView) → length s.table.places ≡ length plan.rows → length s.owners ≡ length plan.rows → length s.passed ≡ length plan.rows
    → ((n : ℕ) → passed_in s.passed n ≡ 0) → ((n : ℕ) → is_entered (place_of s.table.places n) ≡ false) → ComeInTurn plan s
turns-first plan s places owners passed none closed =
    record {
      places_are = places;
      owners_are = owners;
      passed_are = passed;
      given = λ class k low alone e. let below : k < 0 = subst (λ (j : ℕ). k < j) (none class) low in absurd (omega (arith, below));
      owned = λ class e. let wrong : false ≡ true = sym (closed class) ∙ ap is_entered e in absurd (cc);
      next = λ class f e. let wrong : false ≡ true = sym (closed class) ∙ ap is_entered e in absurd (cc);
    }

pub none-passed : (nodes n : ℕ) → passed_in (replicate nodes 0) n ≡ 0
none-passed zero n = refl
none-passed (suc nodes) zero = refl
none-passed (suc nodes) (suc n) = none-passed nodes n

-- a SAME_THREAD child of an open class that is Closed has one before it that isn't over
module _ (plan : Planned) (s : SchedulerView) (n : ℕ) where
  earlier-by : (found : IsListed (children (tree_of plan) (parent (tree_of plan) n)) n) → IsAlone plan (parent (tree_of plan) n) found.place
      → passed_in s.passed (parent (tree_of plan) n) ≤ found.place → HasNext plan (parent (tree_of plan) n) (passed_in s.passed (parent (tree_of plan) n)) s.table.places
      → HasEarlier plan s.table.places n
  earlier-by found alone late (inl g) =
      let below = g.below in
      record { place = found.place; is = found.is; earlier = g.place; before = omega (arith, below, late); alone = g.alone; left = g.left }
  earlier-by found alone late (inr all) = let low = found.within in absurd (omega (arith, low, all, late))

pub preceded : (plan : Planned) (s : SchedulerView) → ComeInTurn plan s → ArePreceded plan s.table.places
preceded plan s turn n inner within closed same opened =
    let class = parent (tree_of plan) n in
    let found : IsListed (children (tree_of plan) class) n = listed (tree_of plan) n inner within in
    let alone : IsAlone plan class found.place = record { within = found.within; alone = ap (mode (tree_of plan) plan.settings) found.is ∙ same } in
    let late : passed_in s.passed class ≤ found.place =
    elim (cases_lt found.place (passed_in s.passed class)) [
      | inl low ↦ absurd (turn.given class found.place low alone (ap (place_of s.table.places) found.is ∙ closed))
      | inr high ↦ high
    ] in
    earlier-by plan s n found alone late (turn.next class (λ w. w) opened)

-- the same of what a step is known by
pub turns-table : (plan : Planned) (s t : SchedulerView) {u : TableView} → t ≡ record s { table = u } → KeepsSizes s t → ClosesNone s.table.places t.table.places → KeepsPlaces s t
    → ComeInTurn plan s → ComeInTurn plan t
turns-table plan s t {u} e sizes closes places turn =
    turns-kept (λ m. ⊥) plan s t sizes closes places (ap (λ (x : SchedulerView). x.owners) e) (ap (λ (x : SchedulerView). x.passed) e) turn

pub turns-same : (but : ℕ → Type 0) (plan : Planned) (s t : SchedulerView) → KeepsSizes s t → t.table ≡ s.table → t.owners ≡ s.owners → t.passed ≡ s.passed → ComeInTurnBut but plan s
    → ComeInTurnBut but plan t
turns-same but plan s t sizes table owners passed turn =
    turns-kept but plan s t sizes (λ n c. ap (λ (x : TableView). place_of x.places n) (sym table) ∙ c) (λ n h. ap (λ (x : TableView). place_of x.places n) table) owners passed turn

pub turns-members : (plan : Planned) (s t : SchedulerView) {ms : List Member} → t ≡ record s { members = ms } → KeepsSizes s t → ComeInTurn plan s → ComeInTurn plan t
turns-members plan s t {ms} e sizes turn =
    turns-same (λ m. ⊥) plan s t sizes (ap (λ (x : SchedulerView). x.table) e) (ap (λ (x : SchedulerView). x.owners) e) (ap (λ (x : SchedulerView). x.passed) e) turn

pub turns-put : (plan : Planned) (s t : SchedulerView) (n : ℕ) (p : Place) → p ≢ Closed → p ≢ Open → p ≢ Over → KeepsSizes s t → t.table ≡ put n p s.table → t.owners ≡ s.owners
    → t.passed ≡ s.passed → ComeInTurn plan s → ComeInTurn plan t
turns-put plan s t n p c f g sizes table owners passed turn =
    turns-moved (λ m. ⊥) plan s t n p f g sizes (subst (λ (x : TableView). ClosesNone s.table.places x.places) (sym table) (closes-put s.table n p c))
    (subst (λ (x : TableView). IsMoved n p s.table.places x.places) (sym table) (moved-put s.table n p)) owners passed turn

pub turns-is : (plan : Planned) (s t : SchedulerView) → t ≡ s → ComeInTurn plan s → ComeInTurn plan t
turns-is plan s t e turn = subst (ComeInTurn plan) (sym e) turn

-- of a plan that is the same
pub turns-by : (plan q : Planned) → q ≡ plan → (s t : SchedulerView) → (ComeInTurn q s → ComeInTurn q t) → ComeInTurn plan s → ComeInTurn plan t
turns-by plan q same s t f turn = subst (λ (x : Planned). ComeInTurn x t) same (f (subst (λ (x : Planned). ComeInTurn x s) (sym same) turn))

-- what holds where a step ended well, which it did
pub ok-told : {A E : Type 0} (r : Result A E) {Q : Type 0} → is_err r ≡ false → OnOk r Q → Q
ok-told (Ok x) e q = q
ok-told (Err x) e q = let wrong : true ≡ false = e in absurd (cc)

pub was-stopped : (b c : BookView) → c ≡ record b { stopped = true } → c.stopped ≡ false → ⊥
was-stopped b c e on = let wrong : true ≡ false = sym (ap (λ (x : BookView). x.stopped) e) ∙ on in absurd (cc)

pub ok-map : {A E : Type 0} (r : Result A E) {P Q : Type 0} → (P → Q) → OnOk r P → OnOk r Q
ok-map (Ok x) f p = f p
ok-map (Err x) f p = tt

-- what holds after each step holds after one that ended well
pub ok-always : {A E : Type 0} (r : Result A E) {P : Type 0} → P → OnOk r P
ok-always (Ok x) p = p
ok-always (Err x) p = tt

pub concurrent-none : (plan : Planned) (ns : List ℕ) (i : ℕ) → AreConcurrent plan ns i i
concurrent-none plan ns i k from to = absurd (omega (arith, from, to))

pub concurrent-more : (plan : Planned) (ns : List ℕ) (from i : ℕ) → AreConcurrent plan ns from i → mode (tree_of plan) plan.settings (get_or ns i 0) ≡ Concurrent → AreConcurrent plan ns from (i + 1)
concurrent-more plan ns from i are here k low high =
    elim (cases_lt k i) [
      | inl less ↦ are k low less
      | inr more ↦ let same : k ≡ i = omega (arith, high, more) in ap (λ (j : ℕ). mode (tree_of plan) plan.settings (get_or ns j 0)) same ∙ here
    ]

pub concurrent-all : (plan : Planned) (ns : List ℕ) (from i : ℕ) → length ns ≤ i → AreConcurrent plan ns from i → AreConcurrent plan ns from (length ns)
concurrent-all plan ns from i all are k low high = are k low (omega (arith, all, high))

pub open-within : (places : List Place) (n : ℕ) → place_of places n ≡ Open → n < length places
open-within places n e =
    elim (cases_lt n (length places)) [
      | inl low ↦ low
      | inr high ↦ let wrong : Closed ≡ Open = sym (get_or_past places n Closed high) ∙ e in absurd (cc)
    ]

pub open-told : (p : Place) → is_open p ≡ true → p ≡ Open
open-told Closed e = absurd (cc)
open-told Loose e = absurd (cc)
open-told (InLine s) e = absurd (cc)
open-told (With w) e = absurd (cc)
open-told Open e = refl
open-told Over e = absurd (cc)

pub shut-told : (p : Place) → is_open p ≡ false → p ≢ Open
shut-told p e is = let wrong : true ≡ false = ap is_open (sym is) ∙ e in absurd (cc)
