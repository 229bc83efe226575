-- Who stands in a line of a key stood there before a node's place has changed, or takes that key so.
use denote.Enum.Bare.{sameb}
use Rattle.std.proofs.Common.{◌≡◌, ◌≢◌, ℕ, ◌-◌, List, length, set, Option, Some, None, Result, Ok, Err, OnErr, OnOk, Bool, cond, ap, sym, subst, ◌∙◌, inl, inr, refl}
use Rattle.std.proofs.lemmas.Bool.{cases_eq, cases_lt}
use Rattle.std.proofs.lemmas.List.{get_or-set_other, get_or-set_same, set_past}
use Rattle.iso_desk.specs.Places.{StandsIn, TableView, headed, line_in, lined_up, moved, place_of}
use Rattle.iso_desk.specs.declared.line.KeyLine.{KeyLine}
use Rattle.iso_desk.specs.declared.line.Line.{Line}
use Rattle.iso_desk.specs.declared.line.Line.TheVariants.{Key, Own}
use Rattle.iso_desk.specs.declared.place.Place.{Place}
use Rattle.iso_desk.specs.declared.place.Place.TheVariants.{Closed, InLine}
use Rattle.iso_floor.specs.Schedulers.{SchedulerView, Takes, WaitRightly}
use Rattle.iso_model.specs.contracts.access.Access as access
use Rattle.iso_model.specs.declared.access.Access.{Access}
use Rattle.iso_model.specs.declared.access.Access.TheVariants.{Read, Write}
use Rattle.iso_plan.specs.Tree.{Row}

-- a node gets a place: in a line of a key only where it takes the key so
pub right-set : (tree : List Row) (places : List Place) (n : ℕ) (p : Place) → ((l : KeyLine) → line_in p ≡ Some (Key l) → Takes tree n l) → WaitRightly tree places
    → WaitRightly tree (set places n p)
right-set tree places n p f w m l s =
    elim (cases_eq m n) [
      | inl same ↦
          elim (cases_lt n (length places)) [
            | inl low ↦
                let here : line_in (place_of (set places n p) n) ≡ Some (Key l) = subst (λ (j : ℕ). line_in (place_of (set places n p) j) ≡ Some (Key l)) same s in
                subst (λ (j : ℕ). Takes tree j l) (sym same) (f l (ap line_in (sym (get_or-set_same places n p Closed low)) ∙ here))
            | inr high ↦ w m l (subst (λ (ps : List Place). line_in (place_of ps m) ≡ Some (Key l)) (set_past places n p high) s)
          ]
      | inr other ↦ w m l (ap line_in (sym (get_or-set_other places n m p Closed other)) ∙ s)
    ]

-- a node gets a place in no line of a key, and who stands in one stood there
line-set : (places : List Place) (n : ℕ) (p : Place) → ((l : KeyLine) → line_in p ≢ Some (Key l)) → (m : ℕ) (l : KeyLine) → StandsIn (set places n p) (Key l) m → StandsIn places (Key l) m
line-set places n p f m l s =
    elim (cases_eq m n) [
      | inl same ↦
          elim (cases_lt n (length places)) [
            | inl low ↦
                let here : line_in (place_of (set places n p) n) ≡ Some (Key l) = subst (λ (j : ℕ). line_in (place_of (set places n p) j) ≡ Some (Key l)) same s in
                absurd (f l (ap line_in (sym (get_or-set_same places n p Closed low)) ∙ here))
            | inr high ↦ subst (λ (ps : List Place). line_in (place_of ps m) ≡ Some (Key l)) (set_past places n p high) s
          ]
      | inr other ↦ ap line_in (sym (get_or-set_other places n m p Closed other)) ∙ s
    ]

pub line-moved : (t : TableView) (n : ℕ) (p : Place) → line_in p ≡ None → (m : ℕ) (l : KeyLine) → StandsIn (moved n p t).places (Key l) m → StandsIn t.places (Key l) m
line-moved t n p e = line-set t.places n p (λ l s. let wrong : None ≡ Some (Key l) = sym e ∙ s in absurd (cc))

own-not : (w : ℕ) (l : KeyLine) {A : Type 0} → Some (Own w) ≡ Some (Key l) → A
own-not w l e = absurd (cc)

pub line-headed : (t : TableView) (n w : ℕ) (m : ℕ) (l : KeyLine) → StandsIn (headed n (Own w) t).places (Key l) m → StandsIn t.places (Key l) m
line-headed t n w = line-set t.places n (InLine (record { line = Own w; since = t.front - 1 })) (λ l s. own-not w l s)

pub line-lined : (t : TableView) (n : ℕ) (k : Line) (m : ℕ) (l : KeyLine) → m ≢ n → StandsIn (lined_up n k t).places (Key l) m → StandsIn t.places (Key l) m
line-lined t n k m l other s = ap line_in (sym (get_or-set_other t.places n m (InLine (record { line = k; since = t.clock })) Closed other)) ∙ s

-- after a step that either does this to the table, or nothing
pub line-after : {A E : Type 0} (r : Result A E) (s s' : SchedulerView) (t : TableView) → OnOk r (s'.table ≡ t) → OnErr r (s' ≡ s) → (m : ℕ) (l : KeyLine)
    → (StandsIn t.places (Key l) m → StandsIn s.table.places (Key l) m) → StandsIn s'.table.places (Key l) m → StandsIn s.table.places (Key l) m
line-after (Ok x) s s' t ok err m l f st = f (subst (λ (u : TableView). StandsIn u.places (Key l) m) ok st)
line-after (Err x) s s' t ok err m l f st = subst (λ (u : SchedulerView). StandsIn u.table.places (Key l) m) err st

-- the key of a line
abbrev key-of : Line → KeyLine → KeyLine
key-of (Own w) d = d
key-of (Key l) d = l

abbrev some-key : Option Line → KeyLine → KeyLine
some-key None d = d
some-key (Some l) d = key-of l d

one-line : (k l : KeyLine) → Some (Key k) ≡ Some (Key l) → k ≡ l
one-line k l e = ap (λ (o : Option Line). some-key o k) e

-- a node waits for the key of one of its locks
pub right-lined : (tree : List Row) (t : TableView) (n : ℕ) (k : KeyLine) → Takes tree n k → WaitRightly tree t.places → WaitRightly tree (lined_up n (Key k) t).places
right-lined tree t n k takes r =
    right-set tree t.places n (InLine (record { line = Key k; since = t.clock })) (λ l s. subst (Takes tree n) (one-line k l s) takes) r

-- a lock's access, by whether it is the one for READ_WRITE
access-is : (a : Access) → cond (sameb access.the_type a Write) Write Read ≡ a
access-is Read = refl
access-is Write = refl

pub access-by : (a : Access) (w : Bool) → w ≡ sameb access.the_type a Write → cond w Write Read ≡ a
access-by a w e = ap (λ (b : Bool). cond b Write Read) e ∙ access-is a

-- after a step that either does this to the table, or nothing
pub right-after : {A E : Type 0} (r : Result A E) (tree : List Row) (s s' : SchedulerView) (t : TableView) → OnOk r (s'.table ≡ t) → OnErr r (s' ≡ s)
    → (WaitRightly tree s.table.places → WaitRightly tree t.places) → WaitRightly tree s.table.places → WaitRightly tree s'.table.places
right-after (Ok x) tree s s' t ok err f w = subst (λ (u : TableView). WaitRightly tree u.places) (sym ok) (f w)
right-after (Err x) tree s s' t ok err f w = subst (λ (u : SchedulerView). WaitRightly tree u.table.places) (sym err) w
