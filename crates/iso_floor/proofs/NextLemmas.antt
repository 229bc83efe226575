-- Which line is taken next, by what its two lines are at the lowest key on offer.
use Rattle.std.proofs.Common.{◌≡◌, ◌≤◌, ℕ, List, Option, None, Some, Bool, true, false, ap, ap₂, sym, subst, ◌∙◌, arith, refl}
use Rattle.std.specs.Bool.{Decides}
use Rattle.iso_desk.specs.Marking.{has}
use Rattle.iso_desk.specs.Offers.{IsLowestOffer, IsOnOffer}
use Rattle.iso_desk.specs.Places.{StandsIn, place_of, since_in}
use Rattle.iso_desk.specs.declared.line.KeyLine.{KeyLine}
use Rattle.iso_desk.specs.declared.line.Line.TheVariants.{Key}
use Rattle.iso_desk.specs.declared.line.Party.{Party}
use Rattle.iso_desk.specs.declared.place.Place.{Place}
use Rattle.iso_floor.specs.KeyMarks.{KeysView}
use Rattle.iso_floor.specs.Nexts.{ComesFirst, IsNextOf, IsSince, Precedes}

-- the line of a party and a key that reads or writes it
abbrev pub line_of : Party → ℕ → Bool → KeyLine
line_of p k w = record { party = p; key = k; writes = w }

line-is : (l : KeyLine) (p : Party) (k : ℕ) → l.party ≡ p → l.key ≡ k → l ≡ line_of p k l.writes
line-is l p k a b = ap₂ (λ (q : Party) (j : ℕ). line_of q j l.writes) a b

-- the first numbers of two lines, by which one comes before the other
stands-by : (places : List Place) (l : KeyLine) (a b : Option ℕ) → IsSince places l a → Precedes a b → (n : ℕ) × StandsIn places (Key l) n
stands-by places l None b is p = absurd p
stands-by places l (Some s) b is p = (is.0, is.1.0)

first-by : (places : List Place) (l m : KeyLine) (a b : Option ℕ) → IsSince places l a → IsSince places m b → Precedes a b → ComesFirst places l m
first-by places l m None b is im p = absurd p
first-by places l m (Some s) None is im p = λ i j fi sj. absurd (im j sj)
first-by places l m (Some s) (Some t) is im p =
    λ i j fi sj.
    let low : since_in (place_of places i) ≤ since_in (place_of places is.0) = fi.1 is.0 is.1.0 in
    let high : since_in (place_of places im.0) ≤ since_in (place_of places j) = im.1.1 j sj in
    let e = is.2 in
    let f = im.2 in
    omega (arith, p)

others-by : (places : List Place) (l m : KeyLine) (a b : Option ℕ) → IsSince places l a → IsSince places m b
    → ¬ Precedes a b → (n : ℕ) → StandsIn places (Key l) n → (k : ℕ) × StandsIn places (Key m) k
others-by places l m None b is im p = λ n sn. absurd (is n sn)
others-by places l m (Some s) None is im p = absurd (p tt)
others-by places l m (Some s) (Some t) is im p = λ n sn. (im.0, im.1.0)

later-by : (places : List Place) (l m : KeyLine) (a b : Option ℕ) → IsSince places l a → IsSince places m b → ¬ Precedes a b → ComesFirst places m l
later-by places l m None b is im p = λ i j fi sj. absurd (is j sj)
later-by places l m (Some s) None is im p = absurd (p tt)
later-by places l m (Some s) (Some t) is im p =
    λ i j fi sj.
    let low : since_in (place_of places i) ≤ since_in (place_of places im.0) = fi.1 im.0 im.1.0 in
    let high : since_in (place_of places is.0) ≤ since_in (place_of places j) = is.1.1 j sj in
    let e = is.2 in
    let f = im.2 in
    omega (arith, p)

no-by : (r : Bool) (P : Type 0) → Decides r P → r ≡ false → ¬ P
no-by r P d e h = let t = d.1 h in cc

pub stands-if : (places : List Place) (l : KeyLine) (a b : Option ℕ) (r : Bool) → IsSince places l a → Decides r (Precedes a b) → r ≡ true → (n : ℕ) × StandsIn places (Key l) n
stands-if places l a b r is d e = stands-by places l a b is (d.0 e)

pub first-if : (places : List Place) (l m : KeyLine) (a b : Option ℕ) (r : Bool) → IsSince places l a → IsSince places m b → Decides r (Precedes a b) → r ≡ true → ComesFirst places l m
first-if places l m a b r is im d e = first-by places l m a b is im (d.0 e)

pub others-if : (places : List Place) (l m : KeyLine) (a b : Option ℕ) (r : Bool) → IsSince places l a → IsSince places m b
    → Decides r (Precedes a b) → r ≡ false → (n : ℕ) → StandsIn places (Key l) n → (k : ℕ) × StandsIn places (Key m) k
others-if places l m a b r is im d e = others-by places l m a b is im (no-by r (Precedes a b) d e)

pub later-if : (places : List Place) (l m : KeyLine) (a b : Option ℕ) (r : Bool) → IsSince places l a → IsSince places m b → Decides r (Precedes a b) → r ≡ false → ComesFirst places m l
later-if places l m a b r is im d e = later-by places l m a b is im (no-by r (Precedes a b) d e)

module _ (places : List Place) (keys : KeysView) (p : Party) (k : ℕ) (o : IsLowestOffer places keys.held keys.written p k) where
  -- the line that is on offer
  offer : IsOnOffer places keys.held keys.written (line_of p k o.line.writes)
  offer = subst (IsOnOffer places keys.held keys.written) (line-is o.line p k o.of_party o.of_key) o.offered

  -- nobody can write a key that is held
  reads : (w : Bool) → has keys.held k ≡ true → IsOnOffer places keys.held keys.written (line_of p k w) → w ≡ false
  reads true h f = let free : has keys.held k ≡ false = f.free in cc
  reads false h f = refl

  reads-as : (l : KeyLine) → l.party ≡ p → l.key ≡ k → has keys.held k ≡ true → IsOnOffer places keys.held keys.written l → l ≡ line_of p k false
  reads-as l a b h f =
      let e = line-is l p k a b in
      e ∙ ap (line_of p k) (reads l.writes h (subst (IsOnOffer places keys.held keys.written) e f))

  pub next-held : has keys.held k ≡ true → IsNextOf places keys p (line_of p k false)
  next-held h =
      record {
        of_party = refl;
        offered = subst (λ (w : Bool). IsOnOffer places keys.held keys.written (line_of p k w)) (reads o.line.writes h offer) offer;
        lowest = o.lowest;
        earliest = λ m a b f i j fi sj. fi.1 j (subst (λ (l : KeyLine). StandsIn places (Key l) j) (reads-as m a b h f) sj);
      }

  -- where nobody holds the key, each of its lines is on offer in which somebody stands
  on-offer : (w : Bool) → has keys.held k ≡ false → has keys.written k ≡ false → (n : ℕ) × StandsIn places (Key (line_of p k w)) n → IsOnOffer places keys.held keys.written (line_of p k w)
  on-offer true h g s = record { waits = s; free = h }
  on-offer false h g s = record { waits = s; free = g }

  first-of : (w : Bool) (m : KeyLine) → m.party ≡ p → m.key ≡ k → ((v : Bool) → ComesFirst places (line_of p k w) (line_of p k v)) → ComesFirst places (line_of p k w) m
  first-of w m a b f = subst (ComesFirst places (line_of p k w)) (sym (line-is m p k a b)) (f m.writes)

  itself : (w : Bool) → ComesFirst places (line_of p k w) (line_of p k w)
  itself w i j fi sj = fi.1 j sj

  first-read : ComesFirst places (line_of p k false) (line_of p k true) → (v : Bool) → ComesFirst places (line_of p k false) (line_of p k v)
  first-read f true = f
  first-read f false = itself false

  first-written : ComesFirst places (line_of p k true) (line_of p k false) → (v : Bool) → ComesFirst places (line_of p k true) (line_of p k v)
  first-written f true = itself true
  first-written f false = f

  pub next-reading : has keys.held k ≡ false → has keys.written k ≡ false → (n : ℕ) × StandsIn places (Key (line_of p k false)) n → ComesFirst places (line_of p k false) (line_of p k true)
      → IsNextOf places keys p (line_of p k false)
  next-reading h g s f =
      record { of_party = refl; offered = on-offer false h g s; lowest = o.lowest; earliest = λ m a b x. first-of false m a b (first-read f) }

  somebody : (w : Bool) → (n : ℕ) × StandsIn places (Key (line_of p k w)) n → ((n : ℕ) → StandsIn places (Key (line_of p k false)) n → (m : ℕ) × StandsIn places (Key (line_of p k true)) m)
      → (m : ℕ) × StandsIn places (Key (line_of p k true)) m
  somebody true s f = s
  somebody false s f = f s.0 s.1

  pub next-writing : has keys.held k ≡ false → has keys.written k ≡ false → ((n : ℕ) → StandsIn places (Key (line_of p k false)) n → (m : ℕ) × StandsIn places (Key (line_of p k true)) m)
      → ComesFirst places (line_of p k true) (line_of p k false) → IsNextOf places keys p (line_of p k true)
  next-writing h g s f =
      record { of_party = refl; offered = on-offer true h g (somebody o.line.writes offer.waits s); lowest = o.lowest; earliest = λ m a b x. first-of true m a b (first-written f) }

-- a key that isn't held isn't written
pub not-written : (h w : Bool) → (w ≡ true → h ≡ true) → h ≡ false → w ≡ false
not-written h true b e = let t = b refl in cc
not-written h false b e = refl
