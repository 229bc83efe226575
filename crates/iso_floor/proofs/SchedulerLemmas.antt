-- What the steps of a scheduler do to its table.
use Rattle.std.proofs.Common.{◌≡◌, ℕ, ◌<◌, List, length, Option, Some, None, cond, is_some, ap, ◌∙◌, inl, inr, refl}
use Rattle.std.proofs.lemmas.Bool.{cases_lt}
use Rattle.std.proofs.lemmas.List.{get_or_past, set_past}
use Rattle.iso_desk.specs.Places.{IsEmpty, StandsIn, TableView, line_in, moved, place_of}
use Rattle.iso_desk.specs.declared.line.Line.{Line}
use Rattle.iso_desk.specs.declared.line.Line.TheVariants.{Key, Own}
use Rattle.iso_desk.specs.declared.place.Place.{Place}
use Rattle.iso_desk.specs.declared.place.Place.TheVariants.{Closed}
use Rattle.iso_floor.specs.KeyMarks.{KeysView}
use Rattle.iso_floor.specs.Nexts.{IsNextLine}
use Rattle.iso_floor.specs.Schedulers.{IsFree, put}

-- the line that is taken next isn't empty
pub not-empty : (places : List Place) (keys : KeysView) (w : ℕ) (l : Line) → IsNextLine places keys w l → ¬ IsEmpty places l
not-empty places keys w (Own v) n e = e n.1.0 n.1.1
not-empty places keys w (Key l) n e = let s = n.3.offered.waits in e s.0 s.1

-- a node that stands in a line is of the table
pub stands-within : (places : List Place) (l : Line) (n : ℕ) → StandsIn places l n → n < length places
stands-within places l n s =
    elim (cases_lt n (length places)) [
      | inl low ↦ low
      | inr high ↦ let e : line_in (place_of places n) ≡ None = ap line_in (get_or_past places n Closed high) in cc
    ]

-- a node that isn't free keeps its place
kept-by : (o : Option Line) (t : TableView) (n : ℕ) (p : Place) → line_in (place_of t.places n) ≡ o → ¬ (o ≡ None) → put n p t ≡ t
kept-by None t n p e h = absurd (h refl)
kept-by (Some l) t n p e h = ap (λ (o : Option Line). cond (is_some o) t (moved n p t)) e

pub put-kept : (t : TableView) (n : ℕ) (p : Place) → ¬ IsFree t.places n → put n p t ≡ t
put-kept t n p h =
    elim (cases_lt n (length t.places)) [
      | inl low ↦ kept-by (line_in (place_of t.places n)) t n p refl (λ e. h (record { within = low; free = e }))
      | inr high ↦
          let e : line_in (place_of t.places n) ≡ None = ap line_in (get_or_past t.places n Closed high) in
          ap (λ (o : Option Line). cond (is_some o) t (moved n p t)) e ∙ ap (λ (ps : List Place). record t { places = ps }) (set_past t.places n p high)
    ]

pub put-moved : (t : TableView) (n : ℕ) (p : Place) → IsFree t.places n → put n p t ≡ moved n p t
put-moved t n p f = ap (λ (o : Option Line). cond (is_some o) t (moved n p t)) f.free
