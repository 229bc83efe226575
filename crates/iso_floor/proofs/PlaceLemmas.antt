-- Which nodes have the place of one that was entered, after a node's place has changed.
use Rattle.std.proofs.Common.{◌≡◌, ℕ, List, [], length, set, Result, Ok, Err, OnErr, OnOk, Bool, true, false, cond, is_some, ap, sym, subst, ◌∙◌, inl, inr, refl}
use Rattle.std.proofs.lemmas.Bool.{cases_eq, cases_lt}
use Rattle.std.proofs.lemmas.List.{get_or-set_other, get_or-set_same, get_or_past, set_past}
use Rattle.iso_desk.specs.Places.{TableView, headed, line_in, lined_up, moved, place_of}
use Rattle.iso_desk.specs.declared.line.Line.{Line}
use Rattle.iso_desk.specs.declared.place.Place.{Place}
use Rattle.iso_desk.specs.declared.place.Place.TheVariants.{Closed, InLine, Loose, Open, Over, With}
use Rattle.iso_floor.specs.Schedulers.{IsMoved, KeepsPlaces, SchedulerView, is_entered, put}

-- each node that has the place of one that was entered had it before
abbrev pub Keeps : (old new : List Place) → Type 0
Keeps old new = (n : ℕ) → is_entered (place_of new n) ≡ true → place_of new n ≡ place_of old n

none-entered : {A : Type 0} (p : Place) → p ≡ Closed → is_entered p ≡ true → A
none-entered p e h = let wrong : false ≡ true = sym (ap is_entered e) ∙ h in absurd (cc)

waits-not : {A : Type 0} (p : Place) → is_some (line_in p) ≡ true → is_entered p ≡ true → A
waits-not Closed l e = absurd (cc)
waits-not Loose l e = absurd (cc)
waits-not (InLine s) l e = absurd (cc)
waits-not (With w) l e = absurd (cc)
waits-not Open l e = absurd (cc)
waits-not Over l e = absurd (cc)

-- a node gets a place
set-here : (places : List Place) (n : ℕ) (p : Place) → is_entered (place_of (set places n p) n) ≡ true → place_of (set places n p) n ≡ p
set-here places n p e =
    elim (cases_lt n (length places)) [
      | inl low ↦ get_or-set_same places n p Closed low
      | inr high ↦
          let same : place_of (set places n p) n ≡ Closed = ap (λ (ps : List Place). place_of ps n) (set_past places n p high) ∙ get_or_past places n Closed high in
          none-entered (place_of (set places n p) n) same e
    ]

pub moved-set : (places : List Place) (n : ℕ) (p : Place) → IsMoved n p places (set places n p)
moved-set places n p = record { here = set-here places n p; others = λ m ne e. get_or-set_other places n m p Closed ne }

-- where that is none of a node that was entered, all keep theirs
pub keeps-moved : (old new : List Place) (n : ℕ) (p : Place) → is_entered p ≡ false → IsMoved n p old new → Keeps old new
keeps-moved old new n p f moves m e =
    elim (cases_eq m n) [
      | inl same ↦
          let there : is_entered (place_of new n) ≡ true = subst (λ (j : ℕ). is_entered (place_of new j) ≡ true) same e in
          let wrong : false ≡ true = sym f ∙ ap is_entered (sym (moves.here there)) ∙ there in
          absurd (cc)
      | inr other ↦ moves.others m other e
    ]

pub keeps-set : (places : List Place) (n : ℕ) (p : Place) → is_entered p ≡ false → Keeps places (set places n p)
keeps-set places n p f = keeps-moved places (set places n p) n p f (moved-set places n p)

-- a node gets a place, and then all keep theirs
pub moved-kept : (a b c : List Place) (n : ℕ) (p : Place) → IsMoved n p a b → Keeps b c → IsMoved n p a c
moved-kept a b c n p moves keeps =
    record {
      here = λ e. let same = keeps n e in same ∙ moves.here (ap is_entered (sym same) ∙ e);
      others = λ m ne e. let same = keeps m e in same ∙ moves.others m ne (ap is_entered (sym same) ∙ e);
    }

-- all keep theirs, twice
pub keeps-kept : (a b c : List Place) → Keeps a b → Keeps b c → Keeps a c
keeps-kept a b c f g n e = let same = g n e in same ∙ f n (ap is_entered (sym same) ∙ e)

-- a node that stands in no line is put in a place
moved-by : (t : TableView) (n : ℕ) (p : Place) (b : Bool) → is_some (line_in (place_of t.places n)) ≡ b → IsMoved n p t.places (cond b t (moved n p t)).places
moved-by t n p true l = record { here = λ e. waits-not (place_of t.places n) l e; others = λ m ne e. refl }
moved-by t n p false l = moved-set t.places n p

pub moved-put : (t : TableView) (n : ℕ) (p : Place) → IsMoved n p t.places (put n p t).places
moved-put t n p = moved-by t n p (is_some (line_in (place_of t.places n))) refl

-- the same of the places of two tables
place-kept : (a b c : List Place) (m : ℕ) → a ≡ b → Keeps c b → is_entered (place_of a m) ≡ true → place_of a m ≡ place_of c m
place-kept a b c m e keeps h = let same = ap (λ (ps : List Place). place_of ps m) e in same ∙ keeps m (ap is_entered (sym same) ∙ h)

-- a node is put at the end of a line, or at its front, or isn't
pub keeps-lined : {A E : Type 0} (r : Result A E) (s s' : SchedulerView) (n : ℕ) (l : Line) → OnOk r (s'.table ≡ lined_up n l s.table) → OnErr r (s' ≡ s) → KeepsPlaces s s'
keeps-lined (Ok x) s s' n l ok err m e = place-kept s'.table.places (lined_up n l s.table).places s.table.places m (ap (λ (t : TableView). t.places) ok) (keeps-set s.table.places n _ refl) e
keeps-lined (Err x) s s' n l ok err m e = ap (λ (u : SchedulerView). place_of u.table.places m) err

pub keeps-headed : {A E : Type 0} (r : Result A E) (s s' : SchedulerView) (n : ℕ) (l : Line) → OnOk r (s'.table ≡ headed n l s.table) → OnErr r (s' ≡ s) → KeepsPlaces s s'
keeps-headed (Ok x) s s' n l ok err m e = place-kept s'.table.places (headed n l s.table).places s.table.places m (ap (λ (t : TableView). t.places) ok) (keeps-set s.table.places n _ refl) e
keeps-headed (Err x) s s' n l ok err m e = ap (λ (u : SchedulerView). place_of u.table.places m) err

-- one node gets a place where none was entered
pub moved-first : (a b : List Place) (n : ℕ) (p : Place) → ((m : ℕ) → is_entered (place_of a m) ≡ false) → IsMoved n p a b → IsMoved n p [] b
moved-first a b n p none moves =
    record {
      here = moves.here;
      others = λ m ne e. let same = moves.others m ne e in let wrong : false ≡ true = sym (none m) ∙ ap is_entered (sym same) ∙ e in absurd (cc);
    }
