-- What the marks of the lines say of what is on offer.
use Rattle.std.proofs.Common.{◌≡◌, ℕ, ◌+◌, ◌-◌, ◌*◌, ◌/◌, ◌%◌, ◌<◌, ◌≤◌, Bool, true, false, ◌||◌, ◌&&◌, not, cond, List, length, get_or, replicate, set, Option, None, Some, IfSome, MatchOption, is_some, ◌==◌, sym, ap, ap₂, subst, ◌∙◌, inl, inr, arith, refl}
use Rattle.std.proofs.lemmas.Bool.{and_parts, cases_eq, cases_lt, or_cases}
use Rattle.std.proofs.lemmas.List.{get_or-set_same, get_or-set_other, length-replicate, length-set}
use Rattle.iso_desk.specs.Lines.{IsLineOf, line_number, party_number}
use Rattle.iso_desk.specs.Linked.{AreFilled, IsKept, IsTable, mark, mark_of, since}
use Rattle.iso_desk.specs.Marking.{bit, has, offers, room, word_of}
use Rattle.iso_desk.specs.Offers.{IsLowestOffer, IsOnOffer, NothingOffered, offers_key}
use Rattle.iso_desk.specs.Places.{StandsIn, line_in, place_of}
use Rattle.iso_desk.specs.declared.ends.Ends.{Ends}
use Rattle.iso_desk.specs.declared.line.KeyLine.{KeyLine}
use Rattle.iso_desk.specs.declared.line.Line.{Line}
use Rattle.iso_desk.specs.declared.line.Line.TheVariants.{Key}
use Rattle.iso_desk.specs.declared.line.Party.{Party}
use Rattle.iso_desk.specs.declared.marks.Marks.{Marks}
use Rattle.iso_desk.specs.declared.place.Place.{Place}
use Rattle.iso_desk.proofs.BitLemmas.{eq_false, eq_true, everywhere}
use Rattle.iso_desk.proofs.TableLemmas.{number_below, stands}

-- a key's marks are bits of the words that are looked at
has_at : (s : Marks) (i q t : ℕ) → i ≡ 64 * q + t → t < 64 → has s i ≡ bit (word_of s q) t
has_at s i q t e h =
    let word : i / 64 ≡ q = omega arith in
    let place : i % 64 ≡ t = omega arith in
    ap₂ (λ (x y : ℕ). bit (word_of s x) y) word place

pub offers_at : (filled : Marks) (p : ℕ) (held written : Marks) (at t : ℕ) → t < 64
    → offers_key filled p held written (64 * at + t) ≡ offers (word_of filled (9 * p + at)) (word_of written at) (word_of filled (9 * p + 4 + at)) (word_of held at) t
offers_at filled p held written at t h =
    let read : 576 * p + (64 * at + t) ≡ 64 * (9 * p + at) + t = omega arith in
    let write : 576 * p + 256 + (64 * at + t) ≡ 64 * (9 * p + 4 + at) + t = omega arith in
    ap₂ (λ (a b : Bool). a || b)
    (ap₂ (λ (a b : Bool). a && not b) (has_at filled (576 * p + (64 * at + t)) (9 * p + at) t read h) (has_at written (64 * at + t) at t refl h))
    (ap₂ (λ (a b : Bool). a && not b) (has_at filled (576 * p + 256 + (64 * at + t)) (9 * p + 4 + at) t write h) (has_at held (64 * at + t) at t refl h))

-- the keys of one word more
pub more_keys : (f : ℕ → Bool) (at k : ℕ) → ((j : ℕ) → j < 64 * at → f j ≡ false) → ((t : ℕ) → t < 64 → f (64 * at + t) ≡ false) → k < 64 * (at + 1) → f k ≡ false
more_keys f at k below here h =
    elim (cases_lt k (64 * at)) [
      | inl low ↦ below k low
      | inr high ↦
          let t : ℕ = k - 64 * at in
          let small : t < 64 = omega arith in
          let same : k ≡ 64 * at + t = omega arith in
          ap f same ∙ here t small
    ]

pub keys_before : (f : ℕ → Bool) (at b k : ℕ) → ((j : ℕ) → j < 64 * at → f j ≡ false) → ((t : ℕ) → t < b → f (64 * at + t) ≡ false) → k < 64 * at + b → f k ≡ false
keys_before f at b k below here h =
    elim (cases_lt k (64 * at)) [
      | inl low ↦ below k low
      | inr high ↦
          let t : ℕ = k - 64 * at in
          let small : t < b = omega arith in
          let same : k ≡ 64 * at + t = omega arith in
          ap f same ∙ here t small
    ]

-- the lowest key that is found in one word
pub found : (filled held written : Marks) (p at b r x w h : ℕ) → at < 4 → r ≡ word_of filled (9 * p + at) → x ≡ word_of written at → w ≡ word_of filled (9 * p + 4 + at) → h ≡ word_of held at
    → (b < 64) × (offers r x w h b ≡ true) × ((t : ℕ) → t < b → offers r x w h t ≡ false) → ((j : ℕ) → j < 64 * at → offers_key filled p held written j ≡ false)
    → (64 * at + b < 256) × (offers_key filled p held written (64 * at + b) ≡ true) × ((j : ℕ) → j < 64 * at + b → offers_key filled p held written j ≡ false)
found filled held written p at b r x w h few er ex ew eh z below =
    let same : (t : ℕ) → offers r x w h t ≡ offers (word_of filled (9 * p + at)) (word_of written at) (word_of filled (9 * p + 4 + at)) (word_of held at) t = λ t.
    ap₂ (λ (a b : ℕ). offers a b w h t) er ex ∙ ap₂ (λ (a b : ℕ). offers (word_of filled (9 * p + at)) (word_of written at) a b t) ew eh
    in (
      omega (arith, z.0),
      offers_at filled p held written at b z.0 ∙ sym (same b) ∙ z.1,
      λ j l.
          keys_before (offers_key filled p held written) at b j below
          (λ t tl. let low : t < 64 = omega (arith, z.0) in offers_at filled p held written at t low ∙ sym (same t) ∙ z.2 t tl)
          l,
    )

-- somebody stands in a line just where it is marked
somebody : (at since next : ℕ → ℕ) (i : ℕ) (e : Option Ends) → IsKept at since next i e → is_some e ≡ true → (n : ℕ) × (at n ≡ i)
somebody at since next i None k h = cc
somebody at since next i (Some e) k h = (e.first, k.head)

marked_by : (at since next : ℕ → ℕ) (i n : ℕ) (e : Option Ends) → IsKept at since next i e → at n ≡ i → is_some e ≡ true
marked_by at since next i n None k h = absurd (k n h)
marked_by at since next i n (Some e) k h = refl

line_known : (workers : ℕ) (o : Option Line) (l : Line) → MatchOption o (Unit {0}) (λ a. IsLineOf workers a) → o ≡ Some l → IsLineOf workers l
line_known workers o l h e = subst (λ (x : Option Line). MatchOption x (Unit {0}) (λ a. IsLineOf workers a)) e h

read_number : (p k : ℕ) → 576 * p + 0 + k ≡ 576 * p + k
read_number p k = omega arith

or_last : (a b : Bool) → b ≡ true → (a || b) ≡ true
or_last true b e = refl
or_last false b e = e

not_true : (b : Bool) → not b ≡ true → b ≡ false
not_true true e = sym e
not_true false e = refl

both : (b : Bool) → b ≡ true → b ≡ false → ⊥
both b t f = cc

by_use : (filled held written : Marks) (p k : ℕ) (w : Bool) → has filled (576 * p + cond w 256 0 + k) ≡ true → cond w (has held k) (has written k) ≡ false → offers_key filled p held written k ≡ true
by_use filled held written p k true f x =
    or_last (has filled (576 * p + k) && not (has written k)) (has filled (576 * p + 256 + k) && not (has held k)) (ap₂ (λ (a b : Bool). a && not b) f x)
by_use filled held written p k false f x =
    ap₂ (λ (a b : Bool). (a && not b) || (has filled (576 * p + 256 + k) && not (has held k))) (ap (has filled) (sym (read_number p k)) ∙ f) x

module _ (workers : ℕ) (places : List Place) (next : List ℕ) (ends : List (Option Ends)) (filled : Marks) (clock front : ℕ) (a : IsTable workers places next ends clock front) (marked : AreFilled ends filled) where
  in_bounds : (l : Line) → IsLineOf workers l → line_number l < length ends
  in_bounds l is = subst (λ (x : ℕ). line_number l < x) (sym a.linked.lines) (number_below workers l is)

  waits_there : (l : Line) → IsLineOf workers l → has filled (line_number l) ≡ true → (n : ℕ) × StandsIn places l n
  waits_there l is h =
      let i = line_number l in
      let below = in_bounds l is in
      let s = somebody (mark places) (since places) (λ k. get_or next k 0) (i + 1) (get_or ends i None) (a.linked.kept i below) (sym (marked.each i below) ∙ h) in
      (s.0, stands workers places l s.0 (a.linked.known s.0) is s.1)

  is_marked : (l : Line) (n : ℕ) → StandsIn places l n → has filled (line_number l) ≡ true
  is_marked l n h =
      let i = line_number l in
      let is = line_known workers (line_in (place_of places n)) l (a.linked.known n) h in
      let below = in_bounds l is in
      marked.each i below ∙ marked_by (mark places) (since places) (λ k. get_or next k 0) (i + 1) n (get_or ends i None) (a.linked.kept i below) (ap mark_of h)

  key_below : (l : KeyLine) (n : ℕ) → StandsIn places (Key l) n → l.key < 256
  key_below l n h = (line_known workers (line_in (place_of places n)) (Key l) (a.linked.known n) h).1

  offered_true : (p : Party) (held written : Marks) (l : KeyLine) → l.party ≡ p → IsOnOffer places held written l → offers_key filled (party_number p) held written l.key ≡ true
  offered_true p held written l e o =
      subst (λ (q : Party). offers_key filled (party_number q) held written l.key ≡ true) e
      (by_use filled held written (party_number l.party) l.key l.writes (is_marked (Key l) o.waits.0 o.waits.1) o.free)

  offered_line : (p : Party) (held written : Marks) (k : ℕ) → party_number p ≤ workers → k < 256
      → offers_key filled (party_number p) held written k ≡ true → ((l : KeyLine) → l.party ≡ p → IsOnOffer places held written l → k ≤ l.key)
      → IsLowestOffer places held written p k
  offered_line p held written k pw kb h low =
      elim (or_cases (has filled (576 * party_number p + k) && not (has written k)) (has filled (576 * party_number p + 256 + k) && not (has held k)) h) [
        | inl read ↦
            let parts = and_parts (has filled (576 * party_number p + k)) (not (has written k)) read in
            let line : KeyLine = record { party = p; key = k; writes = false } in
            let number : line_number (Key line) ≡ 576 * party_number p + k = read_number (party_number p) k in
            record {
              line = line;
              of_party = refl;
              of_key = refl;
              offered = record { waits = waits_there (Key line) (pw, kb) (ap (has filled) number ∙ parts.0); free = not_true (has written k) parts.1 };
              lowest = low;
            }
        | inr write ↦
            let parts = and_parts (has filled (576 * party_number p + 256 + k)) (not (has held k)) write in
            let line : KeyLine = record { party = p; key = k; writes = true } in
            record {
              line = line;
              of_party = refl;
              of_key = refl;
              offered = record { waits = waits_there (Key line) (pw, kb) parts.0; free = not_true (has held k) parts.1 };
              lowest = low;
            }
      ]

  pub offer_from : (p : Party) (held written : Marks) (o : Option ℕ) → party_number p ≤ workers
      → MatchOption o ((k : ℕ) → k < 256 → offers_key filled (party_number p) held written k ≡ false)
      (λ k. (k < 256) × (offers_key filled (party_number p) held written k ≡ true) × ((j : ℕ) → j < k → offers_key filled (party_number p) held written j ≡ false))
      → MatchOption o (NothingOffered places held written p) (λ k. IsLowestOffer places held written p k)
  offer_from p held written None pw f =
      λ l e o. both (offers_key filled (party_number p) held written l.key) (offered_true p held written l e o) (f l.key (key_below l o.waits.0 o.waits.1))
  offer_from p held written (Some k) pw f =
      offered_line p held written k pw f.0 f.1
      (λ l e o. elim (cases_lt l.key k) [
        | inl low ↦ absurd (both (offers_key filled (party_number p) held written l.key) (offered_true p held written l e o) (f.2 l.key low))
        | inr high ↦ high
      ])

-- a number that is answered is below another one
pub below_by : (bound : ℕ) (o : Option ℕ) (none : Type 0) (a b : ℕ → Type 0) → MatchOption o none (λ k. (k < bound) × a k × b k) → IfSome o (λ k. k < bound)
below_by bound None none a b is = tt
below_by bound (Some k) none a b is = is.0
