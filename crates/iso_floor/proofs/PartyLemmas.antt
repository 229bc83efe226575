-- Whose the nodes are that stand in lines, also after a step, and that they are refused to others.
use Rattle.std.proofs.Common.{◌≡◌, ◌≢◌, ◌⊎◌, ℕ, ◌<◌, ◌-◌, List, [], length, arith, ◌≤◌, replicate, set, get_or, zero, suc, Option, Some, None, is_none, IfSome, MatchOption, Result, Ok, Err, OnErr, OnOk, Bool, true, false, ◌&&◌, not, cond, is_some, ap, sym, subst, ◌∙◌, inl, inr, refl}
use Rattle.std.proofs.lemmas.Bool.{cases_eq, cases_lt, ne_eqb}
use Rattle.std.proofs.lemmas.List.{get_or-set_other, get_or-set_same, get_or_past, set_past}
use Rattle.std.proofs.Math.Dec.{eqb}
use Rattle.iso_book.specs.Books.{BookView, refusal_in, state_in, suite_in}
use Rattle.iso_book.specs.Progress.{owner_in}
use Rattle.iso_desk.specs.Places.{TableView, headed, line_in, lined_up, moved, place_of}
use Rattle.iso_desk.specs.declared.line.Line.{Line}
use Rattle.iso_desk.specs.declared.line.Line.TheVariants.{Key, Own}
use Rattle.iso_desk.specs.declared.line.Party.{Party}
use Rattle.iso_desk.specs.declared.line.Party.TheVariants.{Everyone, Worker}
use Rattle.iso_desk.specs.declared.place.Place.{Place}
use Rattle.iso_desk.specs.declared.place.Place.TheVariants.{Closed, InLine, Loose}
use Rattle.iso_floor.specs.Nexts.{IsNextLine, IsNextNode}
use Rattle.iso_floor.specs.Parties.{BelongsTo, IsOwned, MayTry, StandRightly, owner_of, party_in}
use Rattle.iso_floor.specs.Schedulers.{SchedulerView, is_loose, next_taken, put}
use Rattle.iso_isolation.proofs.Accepted.{enter_passes, not_refused}
use Rattle.iso_isolation.specs.Refusals as Why
use Rattle.iso_model.specs.declared.script.Mode.TheVariants.{Concurrent, SameThread}
use Rattle.iso_plan.specs.Modes.{mode}
use Rattle.iso_plan.proofs.ChildLemmas.{child-is}
use Rattle.iso_plan.specs.Children.{IsChild}
use Rattle.iso_plan.specs.Paths.{children, parent}
use Rattle.iso_plan.specs.Planned.{Planned}
use Rattle.iso_plan.specs.RowView.{tree_of}
use Rattle.iso_standing.specs.declared.event.Event.TheVariants.{Enter}
use Rattle.iso_suites.specs.PlanSuites.{is_same_thread}
use Rattle.iso_suites.specs.ScriptLanguage.{scripts}
use Rattle.iso_floor.proofs.SchedulerLemmas.{stands-within}

one-line : (k l : Line) → Some k ≡ Some l → k ≡ l
one-line k l e = cc

module _ (plan : Planned) (owners : List (Option ℕ)) where
  -- a node gets a place: in a line only where it is the party's
  pub stand-set : (places : List Place) (n : ℕ) (p : Place) → ((l : Line) → line_in p ≡ Some l → BelongsTo plan owners n (party_in l)) → StandRightly plan owners places
      → StandRightly plan owners (set places n p)
  stand-set places n p f w m l s =
      elim (cases_eq m n) [
        | inl same ↦
            elim (cases_lt n (length places)) [
              | inl low ↦
                  let here : line_in (place_of (set places n p) n) ≡ Some l = subst (λ (j : ℕ). line_in (place_of (set places n p) j) ≡ Some l) same s in
                  subst (λ (j : ℕ). BelongsTo plan owners j (party_in l)) (sym same) (f l (ap line_in (sym (get_or-set_same places n p Closed low)) ∙ here))
              | inr high ↦ w m l (subst (λ (ps : List Place). line_in (place_of ps m) ≡ Some l) (set_past places n p high) s)
            ]
        | inr other ↦ w m l (ap line_in (sym (get_or-set_other places n m p Closed other)) ∙ s)
      ]

  pub stand-moved : (t : TableView) (n : ℕ) (p : Place) → line_in p ≡ None → StandRightly plan owners t.places → StandRightly plan owners (moved n p t).places
  stand-moved t n p e w = stand-set t.places n p (λ l s. let wrong : None ≡ Some l = sym e ∙ s in absurd (cc)) w

  put-by : (t : TableView) (n : ℕ) (p : Place) (b : Bool) → line_in p ≡ None → StandRightly plan owners t.places → StandRightly plan owners (cond b t (moved n p t)).places
  put-by t n p true e w = w
  put-by t n p false e w = stand-moved t n p e w

  pub stand-put : (t : TableView) (n : ℕ) (p : Place) → line_in p ≡ None → StandRightly plan owners t.places → StandRightly plan owners (put n p t).places
  stand-put t n p e w = put-by t n p (is_some (line_in (place_of t.places n))) e w

  pub stand-taken : (t : TableView) (o : Option ℕ) → StandRightly plan owners t.places → StandRightly plan owners (next_taken o t).places
  stand-taken t None w = w
  stand-taken t (Some n) w = stand-moved t n Loose refl w

  pub stand-lined : (t : TableView) (n : ℕ) (k : Line) → BelongsTo plan owners n (party_in k) → StandRightly plan owners t.places → StandRightly plan owners (lined_up n k t).places
  stand-lined t n k own w =
      stand-set t.places n (InLine (record { line = k; since = t.clock })) (λ l s. subst (λ (j : Line). BelongsTo plan owners n (party_in j)) (one-line k l s) own) w

  pub stand-headed : (t : TableView) (n : ℕ) (k : Line) → BelongsTo plan owners n (party_in k) → StandRightly plan owners t.places → StandRightly plan owners (headed n k t).places
  stand-headed t n k own w =
      stand-set t.places n (InLine (record { line = k; since = t.front - 1 })) (λ l s. subst (λ (j : Line). BelongsTo plan owners n (party_in j)) (one-line k l s) own) w

  -- at first nobody stands in a line
  pub stand-closed : (places : List Place) → ((n : ℕ) → place_of places n ≡ Closed) → StandRightly plan owners places
  stand-closed places closed n l s = let wrong : None ≡ Some l = ap line_in (sym (closed n)) ∙ s in absurd (cc)

-- after a step that either does this to the table, or nothing
pub stand-after : {A E : Type 0} (r : Result A E) (plan : Planned) (s s' : SchedulerView) (t : TableView) {u : TableView} → s' ≡ record s { table = u } → OnOk r (s'.table ≡ t) → OnErr r (s' ≡ s)
    → (StandRightly plan s.owners s.table.places → StandRightly plan s.owners t.places) → StandRightly plan s.owners s.table.places → StandRightly plan s'.owners s'.table.places
stand-after (Ok x) plan s s' t {u} e ok err f w =
    subst (λ (os : List (Option ℕ)). StandRightly plan os s'.table.places) (sym (ap (λ (x : SchedulerView). x.owners) e))
    (subst (λ (v : TableView). StandRightly plan s.owners v.places) (sym ok) (f w))
stand-after (Err x) plan s s' t {u} e ok err f w = subst (λ (v : SchedulerView). StandRightly plan v.owners v.table.places) (sym err) w

-- a class gets an owner, who had no other
owner-set : (owners : List (Option ℕ)) (class o n w : ℕ) → ((v : ℕ) → owner_of owners class ≡ Some v → v ≡ o) → owner_of owners n ≡ Some w → owner_of (set owners class (Some o)) n ≡ Some w
owner-set owners class o n w one e =
    elim (cases_eq n class) [
      | inl here ↦
          elim (cases_lt class (length owners)) [
            | inl low ↦
                let was : owner_of owners class ≡ Some w = subst (λ (j : ℕ). owner_of owners j ≡ Some w) here e in
                ap (owner_of (set owners class (Some o))) here ∙ get_or-set_same owners class (Some o) None low ∙ ap (λ (j : ℕ). Some j) (sym (one w was))
            | inr high ↦ ap (λ (os : List (Option ℕ)). owner_of os n) (set_past owners class (Some o) high) ∙ e
          ]
      | inr other ↦ get_or-set_other owners class n (Some o) None other ∙ e
    ]

module _ (plan : Planned) (owners : List (Option ℕ)) (class o : ℕ) (one : (v : ℕ) → owner_of owners class ≡ Some v → v ≡ o) where
  owned-set : (n w : ℕ) → IsOwned plan owners n w → IsOwned plan (set owners class (Some o)) n w
  owned-set n w (inl e) = inl (owner-set owners class o n w one e)
  owned-set n w (inr h) = inr (h.0, owner-set owners class o (parent (tree_of plan) n) w one h.1)

  belongs-set : (n : ℕ) (p : Party) → BelongsTo plan owners n p → BelongsTo plan (set owners class (Some o)) n p
  belongs-set n Everyone b = b
  belongs-set n (Worker w) b = owned-set n w b

  pub stand-owners : (places : List Place) → StandRightly plan owners places → StandRightly plan (set owners class (Some o)) places
  stand-owners places right n l s = belongs-set n (party_in l) (right n l s)

-- the node that is taken next leaves its line
pub stand-next : (plan : Planned) (s t : SchedulerView) (o : Option ℕ) → t ≡ record s { table = next_taken o s.table } → StandRightly plan s.owners s.table.places
    → StandRightly plan t.owners t.table.places
stand-next plan s t o e w = subst (λ (x : SchedulerView). StandRightly plan x.owners x.table.places) (sym e) (stand-taken plan s.owners s.table o w)

-- whom a class belongs to after it got an owner
pub owner-told : (owners : List (Option ℕ)) (class o n w : ℕ) → owner_of (set owners class (Some o)) n ≡ Some w → ((n ≡ class) × (w ≡ o)) ⊎ (owner_of owners n ≡ Some w)
owner-told owners class o n w e =
    elim (cases_eq n class) [
      | inl here ↦
          elim (cases_lt class (length owners)) [
            | inl low ↦
                let is : Some o ≡ Some w = sym (get_or-set_same owners class (Some o) None low) ∙ ap (owner_of (set owners class (Some o))) (sym here) ∙ e in
                let same : w ≡ o = cc in
                inl (here, same)
            | inr high ↦ inr (ap (λ (os : List (Option ℕ)). owner_of os n) (sym (set_past owners class (Some o) high)) ∙ e)
          ]
      | inr other ↦ inr (sym (get_or-set_other owners class n (Some o) None other) ∙ e)
    ]

-- where no class has an owner, one that gets one is the only one
pub only-owner : (owners : List (Option ℕ)) → ((n : ℕ) → owner_of owners n ≡ None) → (class o n w : ℕ) → owner_of (set owners class (Some o)) n ≡ Some w → (n ≡ class) × (w ≡ o)
only-owner owners none class o n w e =
    elim (owner-told owners class o n w e) [
      | inl here ↦ here
      | inr other ↦ let wrong : None ≡ Some w = sym (none n) ∙ other in absurd (cc)
    ]

pub none-owned : (nodes n : ℕ) → owner_of (replicate nodes None) n ≡ None
none-owned zero n = refl
none-owned (suc nodes) zero = refl
none-owned (suc nodes) (suc n) = none-owned nodes n

-- who takes a node next may attempt it
may-by : (plan : Planned) (owners : List (Option ℕ)) (w n : ℕ) (p : Party) → ((v : ℕ) → p ≡ Worker v → v ≡ w) → BelongsTo plan owners n p
    → (mode (tree_of plan) plan.settings n ≡ Concurrent) ⊎ IsOwned plan owners n w
may-by plan owners w n Everyone f b = inl b
may-by plan owners w n (Worker v) f b = inr (subst (IsOwned plan owners n) (f v refl) b)

may-line : (plan : Planned) (s : SchedulerView) (w n : ℕ) (l : Line) → IsNextLine s.table.places s.keys w l → BelongsTo plan s.owners n (party_in l)
    → (mode (tree_of plan) plan.settings n ≡ Concurrent) ⊎ IsOwned plan s.owners n w
may-line plan s w n (Own v) is b = inr (subst (IsOwned plan s.owners n) is.0 b)
may-line plan s w n (Key l) is b = may-by plan s.owners w n l.party is.1 b

pub may-next : (plan : Planned) (s : SchedulerView) (w n : ℕ) → length s.table.places ≡ length plan.rows → StandRightly plan s.owners s.table.places → IsNextNode s.table.places s.keys w n
    → MayTry plan s.owners n w
may-next plan s w n sizes right next =
    record {
      within = subst (λ (k : ℕ). n < k) sizes (stands-within s.table.places next.line n next.first.0);
      own = may-line plan s w n next.line next.next (right n next.line next.first.0);
    }

pub may-some : (o : Option ℕ) (plan : Planned) (s : SchedulerView) (w : ℕ) → length s.table.places ≡ length plan.rows → StandRightly plan s.owners s.table.places
    → IfSome o (IsNextNode s.table.places s.keys w) → IfSome o (λ n. MayTry plan s.owners n w)
may-some None plan s w sizes right next = tt
may-some (Some n) plan s w sizes right next = may-next plan s w n sizes right next

pub next-some : (o : Option ℕ) (w workers : ℕ) (P : Type 0) (Q : ℕ → Type 0) → IfSome o (λ n. w < workers) → (w < workers → MatchOption o P Q) → IfSome o Q
next-some None w workers P Q low f = tt
next-some (Some n) w workers P Q low f = f low

-- a node with a place is of the plan
pub loose-within : (places : List Place) (n : ℕ) → is_loose (place_of places n) ≡ true → n < length places
loose-within places n e =
    elim (cases_lt n (length places)) [
      | inl low ↦ low
      | inr high ↦ let wrong : false ≡ true = sym (ap is_loose (get_or_past places n Closed high)) ∙ e in absurd (cc)
    ]

-- any worker may attempt a CONCURRENT node that is loose
pub loose-may : (plan : Planned) (s : SchedulerView) (n : ℕ) → length s.table.places ≡ length plan.rows → is_loose (place_of s.table.places n) ≡ true
    → mode (tree_of plan) plan.settings n ≡ Concurrent → (w : ℕ) → MayTry plan s.owners n w
loose-may plan s n sizes loose free w = record { within = subst (λ (k : ℕ). n < k) sizes (loose-within s.table.places n loose); own = inl free }

-- a SAME_THREAD node that a worker may attempt is its own
pub tried-own : (plan : Planned) (owners : List (Option ℕ)) (n w : ℕ) → (n < length plan.rows → mode (tree_of plan) plan.settings n ≡ SameThread) → MayTry plan owners n w → IsOwned plan owners n w
tried-own plan owners n w same may = by may.own
  where
    by : (mode (tree_of plan) plan.settings n ≡ Concurrent) ⊎ IsOwned plan owners n w → IsOwned plan owners n w
    by (inl c) = let wrong : Concurrent ≡ SameThread = sym c ∙ same may.within in absurd (cc)
    by (inr own) = own

-- a child of a class, by its place among the children
pub child-told : (plan : Planned) (class : ℕ) (cs : List ℕ) (i : ℕ) → (class < length plan.rows → cs ≡ children (tree_of plan) class) → (length plan.rows ≤ class → cs ≡ []) → i < length cs
    → IsChild (tree_of plan) class (length plan.rows) (get_or cs i 0)
child-told plan class cs i is past low =
    elim (cases_lt class (length plan.rows)) [
      | inl within ↦
          subst (λ (ns : List ℕ). IsChild (tree_of plan) class (length plan.rows) (get_or ns i 0)) (sym (is within))
          (child-is (tree_of plan) class i (subst (λ (ns : List ℕ). i < length ns) (is within) low))
      | inr beyond ↦ let none : length cs ≡ 0 = ap (λ (ns : List ℕ). length ns) (past beyond) in absurd (omega (arith, low, none))
    ]

both-true : (a b : Bool) → a ≡ true → b ≡ false → (a && not b) ≡ true
both-true true true e f = absurd (cc)
both-true true false e f = refl
both-true false b e f = absurd (cc)

-- a SAME_THREAD node is refused to each worker but its class's owner
pub same-refused : (b : BookView) (w n v : ℕ) → mode (tree_of b.plan) b.plan.settings n ≡ SameThread → owner_in b (parent (tree_of b.plan) n) ≡ v → v ≢ w → refusal_in b (Enter w n) ≢ None
same-refused b w n v same owner other none =
    let passes = enter_passes scripts (suite_in b) b.workers (state_in b) w n (ap (λ (o : Option Why.Refused). is_none o) none) in
    let p = parent (tree_of b.plan) n in
    let free : (is_same_thread (mode (tree_of b.plan) b.plan.settings n) && not (eqb (owner_in b p) w)) ≡ false =
    not_refused (is_same_thread (mode (tree_of b.plan) b.plan.settings n) && not (eqb (owner_in b p) w)) Why.NotOwner passes.owner in
    let apart : eqb (owner_in b p) w ≡ false = ne_eqb (owner_in b p) w (λ e. other (sym owner ∙ e)) in
    let wrong : true ≡ false = sym (both-true (is_same_thread (mode (tree_of b.plan) b.plan.settings n)) (eqb (owner_in b p) w) (ap is_same_thread same) apart) ∙ free in
    absurd (cc)
