-- The lines of a table after a node is put at the end of one, leaves its line, or gets another
-- place in none.
use Rattle.std.proofs.Common.{◌≡◌, ℕ, ◌+◌, ◌*◌, ◌^◌, ◌<◌, ◌≤◌, ◌≢◌, Bool, true, false, cond, List, length, get_or, set, Option, None, Some, MatchOption, sym, ap, ap₂, subst, ◌∙◌, inl, inr, arith, refl, replicate}
use Rattle.std.proofs.lemmas.Bool.{cases_eq, cases_lt}
use Rattle.std.proofs.lemmas.List.{get_or-set_same, get_or-set_other, get_or_past, length-replicate, length-set}
use Rattle.iso_desk.specs.Lines.{IsLineOf, line_number, party_number}
use Rattle.iso_desk.specs.Linked.{AreLinked, FirstBelow, IsKept, IsLinked, LastBelow, leading, linked, longer, mark, mark_of, shorter, since, wider}
use Rattle.iso_desk.specs.Places.{IsFirst, StandsIn, line_in, place_of, since_in}
use Rattle.iso_desk.specs.declared.ends.Ends.{Ends}
use Rattle.iso_desk.specs.declared.line.KeyLine.{KeyLine}
use Rattle.iso_desk.specs.declared.line.Line.{Line}
use Rattle.iso_desk.specs.declared.line.Line.TheVariants.{Key, Own}
use Rattle.iso_desk.specs.declared.line.Party.{Party}
use Rattle.iso_desk.specs.declared.line.Party.TheVariants.{Everyone, Worker}
use Rattle.iso_desk.specs.declared.place.Place.{Place}
use Rattle.iso_desk.specs.declared.place.Place.TheVariants.{Closed, InLine}
use Rattle.iso_desk.proofs.BitLemmas.{everywhere}
use Rattle.iso_desk.proofs.LineLemmas.{Leaves, begun, joined, led, left_kept, same_kept}

-- a line is known by its number
numbers : (p q k j : ℕ) (x y : Bool) → k < 256 → j < 256 → 576 * p + cond x 256 0 + k ≡ 576 * q + cond y 256 0 + j → (p ≡ q) × (x ≡ y) × (k ≡ j)
numbers p q k j true true hk hj e = (omega arith, refl, omega arith)
numbers p q k j true false hk hj e = absurd (omega arith)
numbers p q k j false true hk hj e = absurd (omega arith)
numbers p q k j false false hk hj e = (omega arith, refl, omega arith)

party_same : (a b : Party) → party_number a ≡ party_number b → a ≡ b
party_same Everyone Everyone e = refl
party_same Everyone (Worker w) e = absurd (omega arith)
party_same (Worker v) Everyone e = absurd (omega arith)
party_same (Worker v) (Worker w) e = let same : v ≡ w = omega arith in ap Worker same

key_same : (a b : KeyLine) → a.key < 256 → b.key < 256 → 576 * party_number a.party + cond a.writes 256 0 + a.key ≡ 576 * party_number b.party + cond b.writes 256 0 + b.key → a ≡ b
key_same a b ka kb e =
    let n = numbers (party_number a.party) (party_number b.party) a.key b.key a.writes b.writes ka kb e in
    ap₂ (λ (x : Party) (y : ℕ). record a { party = x; key = y }) (party_same a.party b.party n.0) n.2 ∙ ap (λ (z : Bool). record b { writes = z }) n.1

own_apart : (p k w : ℕ) (b : Bool) → k < 256 → 576 * p + cond b 256 0 + k ≡ 576 * (w + 1) + 512 → ⊥
own_apart p k w true h e = omega arith
own_apart p k w false h e = omega arith

line_same : (workers : ℕ) (a b : Line) → IsLineOf workers a → IsLineOf workers b → line_number a ≡ line_number b → a ≡ b
line_same workers (Key a) (Key b) ha hb e = ap Key (key_same a b ha.1 hb.1 e)
line_same workers (Key a) (Own w) ha hb e = absurd (own_apart (party_number a.party) a.key w a.writes ha.1 e)
line_same workers (Own v) (Key b) ha hb e = absurd (own_apart (party_number b.party) b.key v b.writes hb.1 (sym e))
line_same workers (Own v) (Own w) ha hb e = let same : v ≡ w = omega arith in ap Own same

stands_by : (workers : ℕ) (o : Option Line) (l : Line) → MatchOption o (Unit {0}) (λ a. IsLineOf workers a) → IsLineOf workers l → mark_of o ≡ line_number l + 1 → o ≡ Some l
stands_by workers None l known is e = absurd (omega arith)
stands_by workers (Some a) l known is e = let same : line_number a ≡ line_number l = omega arith in ap Some (line_same workers a l known is same)

pub stands : (workers : ℕ) (places : List Place) (l : Line) (n : ℕ) → MatchOption (line_in (place_of places n)) (Unit {0}) (λ a. IsLineOf workers a) → IsLineOf workers l
    → mark places n ≡ line_number l + 1 → StandsIn places l n
stands workers places l n known is e = stands_by workers (line_in (place_of places n)) l known is e

-- the number of a line is below the number of all lines
number_by : (w p k : ℕ) (b : Bool) → p ≤ w → k < 256 → 576 * p + cond b 256 0 + k < 576 * (w + 1)
number_by w p k true h kh = omega arith
number_by w p k false h kh = omega arith

pub number_below : (workers : ℕ) (l : Line) → IsLineOf workers l → line_number l < 576 * (workers + 1)
number_below workers (Key l) is = number_by workers (party_number l.party) l.key l.writes is.0 is.1
number_below workers (Own w) is = omega arith

-- who stands in a line is in the table
pub in_table : (places : List Place) (n : ℕ) → mark places n ≢ 0 → n < length places
in_table places n h =
    elim (cases_lt n (length places)) [
      | inl below ↦ below
      | inr past ↦ absurd (h (ap (λ (p : Place). mark_of (line_in p)) (get_or_past places n Closed past)))
    ]

first_by : (places : List Place) (at since next : ℕ → ℕ) (i : ℕ) (k : ℕ) (e : Option Ends) → ((m : ℕ) → at m ≡ i → m < k) → IsKept at since next i e → FirstBelow e k
first_by places at since next i k None h x = tt
first_by places at since next i k (Some e) h x = h e.first x.head

last_by : (places : List Place) (at since next : ℕ → ℕ) (i : ℕ) (k : ℕ) (e : Option Ends) → ((m : ℕ) → at m ≡ i → m < k) → IsKept at since next i e → LastBelow e k
last_by places at since next i k None h x = tt
last_by places at since next i k (Some e) h x = h e.last x.tail

within : (workers : ℕ) (places : List Place) (next : List ℕ) (ends : List (Option Ends)) (clock i : ℕ) → AreLinked workers places next ends clock → (m : ℕ) → mark places m ≡ i + 1 → m < length next
within workers places next ends clock i a m h = subst (λ (x : ℕ). m < x) (sym a.nodes) (in_table places m (λ z. let w : i + 1 ≡ 0 = sym h ∙ z in omega arith))

pub last_below : (workers : ℕ) (places : List Place) (next : List ℕ) (ends : List (Option Ends)) (clock i : ℕ)
    → AreLinked workers places next ends clock → i < length ends → LastBelow (get_or ends i None) (length next)
last_below workers places next ends clock i a h = last_by places (mark places) (since places) (λ k. get_or next k 0) (i + 1) (length next) (get_or ends i None)
    (within workers places next ends clock i a) (a.kept i h)

pub first_below : (workers : ℕ) (places : List Place) (next : List ℕ) (ends : List (Option Ends)) (clock i : ℕ)
    → AreLinked workers places next ends clock → i < length ends → FirstBelow (get_or ends i None) (length next)
first_below workers places next ends clock i a h = first_by places (mark places) (since places) (λ k. get_or next k 0) (i + 1) (length next) (get_or ends i None)
    (within workers places next ends clock i a) (a.kept i h)

pub stands_marked : (places : List Place) (l : Line) (n : ℕ) → StandsIn places l n → mark places n ≢ 0
stands_marked places l n h z = let w : line_number l + 1 ≡ 0 = sym (ap mark_of h) ∙ z in omega arith

-- the table with one place changed
module _ (places : List Place) (n : ℕ) (p : Place) where
  mark_same : n < length places → mark (set places n p) n ≡ mark_of (line_in p)
  mark_same h = ap (λ (q : Place). mark_of (line_in q)) (get_or-set_same places n p Closed h)

  mark_other : (m : ℕ) → m ≢ n → mark (set places n p) m ≡ mark places m
  mark_other m o = ap (λ (q : Place). mark_of (line_in q)) (get_or-set_other places n m p Closed o)

  since_same : n < length places → since (set places n p) n ≡ since_in p
  since_same h = ap since_in (get_or-set_same places n p Closed h)

  since_other : (m : ℕ) → m ≢ n → since (set places n p) m ≡ since places m
  since_other m o = ap since_in (get_or-set_other places n m p Closed o)

  known_set : (workers : ℕ) → n < length places → MatchOption (line_in p) (Unit {0}) (λ l. IsLineOf workers l)
      → ((m : ℕ) → MatchOption (line_in (place_of places m)) (Unit {0}) (λ l. IsLineOf workers l))
      → (m : ℕ) → MatchOption (line_in (place_of (set places n p) m)) (Unit {0}) (λ l. IsLineOf workers l)
  known_set workers h here known m =
      elim (cases_eq m n) [
        | inl e ↦ subst (λ (q : Place). MatchOption (line_in q) (Unit {0}) (λ l. IsLineOf workers l)) (sym (ap (place_of (set places n p)) e ∙ get_or-set_same places n p Closed h)) here
        | inr o ↦ subst (λ (q : Place). MatchOption (line_in q) (Unit {0}) (λ l. IsLineOf workers l)) (sym (get_or-set_other places n m p Closed o)) (known m)
      ]

joined_kept : (at since at' since' : ℕ → ℕ) (next : List ℕ) (i n t : ℕ) (e : Option Ends) → at n ≢ i
    → at' n ≡ i → since' n ≡ t → ((m : ℕ) → m ≢ n → at' m ≡ at m) → ((m : ℕ) → m ≢ n → since' m ≡ since m)
    → ((m : ℕ) → at m ≡ i → since m < t) → LastBelow e (length next) → IsKept at since (λ k. get_or next k 0) i e → IsKept at' since' (λ k. get_or (linked e n next) k 0) i (Some (longer e n))
joined_kept at since at' since' next i n t None out here now ao so old low k =
    begun at at' since' (λ k. get_or next k 0) i n (record { none = k; here = here; at_other = ao })
joined_kept at since at' since' next i n t (Some e) out here now ao so old low k =
    joined at since (λ k. get_or next k 0) at' since' (λ k. get_or (set next e.last n) k 0) i n t e.first e.last
    (record {
      out = out;
      here = here;
      now = now;
      at_other = ao;
      since_other = so;
      behind = get_or-set_same next e.last n 0 low;
      next_other = λ m o. get_or-set_other next e.last m n 0 o;
      old = old;
    })
    k

-- who stands in another line than the one that a node joins is behind the same node as before
linked_other : (at since : ℕ → ℕ) (next : List ℕ) (i j n m : ℕ) (e : Option Ends) → i ≢ j → at m ≡ j → IsKept at since (λ k. get_or next k 0) i e → get_or (linked e n next) m 0 ≡ get_or next m 0
linked_other at since next i j n m None d h k = refl
linked_other at since next i j n m (Some e) d h k = get_or-set_other next e.last m n 0 (λ s. d (sym k.tail ∙ sym (ap at s) ∙ h))

linked_length : (e : Option Ends) (n : ℕ) (next : List ℕ) → length (linked e n next) ≡ length next
linked_length None n next = refl
linked_length (Some e) n next = length-set next e.last n

free_mark : (places : List Place) (n : ℕ) → line_in (place_of places n) ≡ None → mark places n ≡ 0
free_mark places n e = ap mark_of e

one : (a b : ℕ) → a + 1 ≡ b + 1 → a ≡ b
one a b e = omega arith

not_zero : (a b : ℕ) → a ≡ b + 1 → a ≢ 0
not_zero a b e z = omega arith

-- a node is put at the end of a line
pub lined_up_linked : (workers : ℕ) (places : List Place) (next : List ℕ) (ends : List (Option Ends)) (clock : ℕ) (l : Line) (n : ℕ)
    → AreLinked workers places next ends clock → IsLineOf workers l → n < length places → line_in (place_of places n) ≡ None
    → AreLinked workers (set places n (InLine (record { line = l; since = clock }))) (linked (get_or ends (line_number l) None) n next)
    (set ends (line_number l) (Some (longer (get_or ends (line_number l) None) n))) (clock + 1)
lined_up_linked workers places next ends clock l n a is here free =
    let p : Place = InLine (record { line = l; since = clock }) in
    let i = line_number l in
    let e : Option Ends = get_or ends i None in
    let below : i < length ends = subst (λ (x : ℕ). i < x) (sym a.lines) (number_below workers l is) in
    let was : mark places n ≡ 0 = free_mark places n free in
    let mark_n : mark (set places n p) n ≡ i + 1 = mark_same places n p here in
    let since_n : since (set places n p) n ≡ clock = since_same places n p here in
    let mark_o = mark_other places n p in
    let since_o = since_other places n p in
    let apart_n : (m : ℕ) (j : ℕ) → mark places m ≡ j + 1 → m ≢ n = λ m j h q. not_zero (mark places m) j h (ap (mark places) q ∙ was) in
    record {
      nodes = linked_length e n next ∙ a.nodes ∙ sym (length-set places n p);
      lines = length-set ends i (Some (longer e n)) ∙ a.lines;
      known = known_set places n p workers here is a.known;
      old = λ m h.
          elim (cases_eq m n) [
            | inl q ↦ let s : since (set places n p) m ≡ clock = ap (since (set places n p)) q ∙ since_n in omega arith
            | inr o ↦
                let s = since_o m o in
                let z = a.old m (λ w. h (mark_o m o ∙ w)) in
                omega arith
          ];
      apart = λ m k hm hk s.
          elim (cases_eq m n) [
            | inl q ↦
                elim (cases_eq k n) [
                  | inl r ↦ q ∙ sym r
                  | inr o ↦
                      let sm : since (set places n p) m ≡ clock = ap (since (set places n p)) q ∙ since_n in
                      let sk = since_o k o in
                      let z = a.old k (λ w. hk (mark_o k o ∙ w)) in
                      absurd (omega arith)
                ]
            | inr o ↦
                elim (cases_eq k n) [
                  | inl r ↦
                      let sk : since (set places n p) k ≡ clock = ap (since (set places n p)) r ∙ since_n in
                      let sm = since_o m o in
                      let z = a.old m (λ w. hm (mark_o m o ∙ w)) in
                      absurd (omega arith)
                  | inr r ↦ a.apart m k (λ w. hm (mark_o m o ∙ w)) (λ w. hk (mark_o k r ∙ w)) (sym (since_o m o) ∙ s ∙ since_o k r)
                ]
          ];
      kept = λ j h.
          let low : j < length ends = subst (λ (x : ℕ). j < x) (length-set ends i (Some (longer e n))) h in
          elim (cases_eq j i) [
            | inl q ↦
                subst (λ (x : ℕ). IsKept (mark (set places n p)) (since (set places n p)) (λ k. get_or (linked e n next) k 0) (x + 1) (get_or (set ends i (Some (longer e n))) x None)) (sym q)
                (subst (IsKept (mark (set places n p)) (since (set places n p)) (λ k. get_or (linked e n next) k 0) (i + 1)) (sym (get_or-set_same ends i (Some (longer e n)) None below))
                (joined_kept (mark places) (since places) (mark (set places n p)) (since (set places n p)) next (i + 1) n clock e (λ z. not_zero (mark places n) i z was) mark_n since_n mark_o since_o
                (λ m z. a.old m (not_zero (mark places m) i z)) (last_below workers places next ends clock i a below) (a.kept i below)))
            | inr o ↦
                subst (IsKept (mark (set places n p)) (since (set places n p)) (λ k. get_or (linked e n next) k 0) (j + 1)) (sym (get_or-set_other ends i j (Some (longer e n)) None o))
                (same_kept (mark places) (since places) (λ k. get_or next k 0) (mark (set places n p)) (since (set places n p)) (λ k. get_or (linked e n next) k 0) (j + 1) (get_or ends j None)
                (record {
                  to = λ m z. mark_o m (apart_n m j z) ∙ z;
                  from = λ m z. elim (cases_eq m n) [ inl q ↦ absurd (o (one j i (sym z ∙ ap (mark (set places n p)) q ∙ mark_n))) | inr r ↦ sym (mark_o m r) ∙ z ];
                  times = λ m z. since_o m (apart_n m j z);
                  nexts = λ m z. linked_other (mark places) (since places) next (i + 1) (j + 1) n m e (λ q. o (one j i (sym q))) z (a.kept i below);
                })
                (a.kept j low))
          ];
    }

-- the same, as the code has it
pub lined_up_at : (workers : ℕ) (places : List Place) (next : List ℕ) (ends : List (Option Ends)) (clock : ℕ) (l : Line) (n : ℕ) (next' : List ℕ) (i clock' : ℕ) (x : Option Ends) (y : Ends)
    → AreLinked workers places next ends clock → IsLineOf workers l → n < length places → line_in (place_of places n) ≡ None
    → x ≡ get_or ends (line_number l) None → i ≡ line_number l → next' ≡ linked x n next → y ≡ longer x n → clock' ≡ clock + 1
    → AreLinked workers (set places n (InLine (record { line = l; since = clock }))) next' (set ends i (Some y)) clock'
lined_up_at workers places next ends clock l n next' i clock' x y a is here free ex ei en ey ec =
    let p : List Place = set places n (InLine (record { line = l; since = clock })) in
    subst (λ (z : ℕ). AreLinked workers p next' (set ends i (Some y)) z) (sym ec)
    (subst (λ (z : List ℕ). AreLinked workers p z (set ends i (Some y)) (clock + 1)) (sym (en ∙ ap (λ (o : Option Ends). linked o n next) ex))
    (subst (λ (z : ℕ). AreLinked workers p (linked (get_or ends (line_number l) None) n next) (set ends z (Some y)) (clock + 1)) (sym ei)
    (subst (λ (z : Ends). AreLinked workers p (linked (get_or ends (line_number l) None) n next) (set ends (line_number l) (Some z)) (clock + 1)) (sym (ey ∙ ap (λ (o : Option Ends). longer o n) ex))
    (lined_up_linked workers places next ends clock l n a is here free))))

led_kept : (at since at' since' : ℕ → ℕ) (next : List ℕ) (i n t : ℕ) (e : Option Ends) → at n ≢ i → at' n ≡ i → since' n ≡ t → ((m : ℕ) → m ≢ n → at' m ≡ at m) → ((m : ℕ) → m ≢ n → since' m ≡ since m)
    → ((m : ℕ) → at m ≡ i → t < since m) → n < length next → IsKept at since (λ k. get_or next k 0) i e → IsKept at' since' (λ k. get_or (leading e n next) k 0) i (Some (wider e n))
led_kept at since at' since' next i n t None out here now ao so young low k =
    begun at at' since' (λ k. get_or next k 0) i n (record { none = k; here = here; at_other = ao })
led_kept at since at' since' next i n t (Some e) out here now ao so young low k =
    led at since (λ k. get_or next k 0) at' since' (λ k. get_or (set next n e.first) k 0) i n t e.first e.last
    (record {
      out = out;
      here = here;
      now = now;
      at_other = ao;
      since_other = so;
      ahead = get_or-set_same next n e.first 0 low;
      next_other = λ m o. get_or-set_other next n m e.first 0 o;
      young = young;
    })
    k

leading_other : (next : List ℕ) (n m : ℕ) (e : Option Ends) → m ≢ n → get_or (leading e n next) m 0 ≡ get_or next m 0
leading_other next n m None o = refl
leading_other next n m (Some e) o = get_or-set_other next n m e.first 0 o

leading_length : (e : Option Ends) (n : ℕ) (next : List ℕ) → length (leading e n next) ≡ length next
leading_length None n next = refl
leading_length (Some e) n next = length-set next n e.first

-- a node is put at the front of a line
pub led_linked : (workers : ℕ) (places : List Place) (next : List ℕ) (ends : List (Option Ends)) (clock t : ℕ) (l : Line) (n : ℕ)
    → AreLinked workers places next ends clock → IsLineOf workers l → n < length places
    → line_in (place_of places n) ≡ None → t < clock → ((m : ℕ) → mark places m ≢ 0 → t < since places m)
    → AreLinked workers (set places n (InLine (record { line = l; since = t }))) (leading (get_or ends (line_number l) None) n next)
    (set ends (line_number l) (Some (wider (get_or ends (line_number l) None) n))) clock
led_linked workers places next ends clock t l n a is here free early young =
    let p : Place = InLine (record { line = l; since = t }) in
    let i = line_number l in
    let e : Option Ends = get_or ends i None in
    let below : i < length ends = subst (λ (x : ℕ). i < x) (sym a.lines) (number_below workers l is) in
    let was : mark places n ≡ 0 = free_mark places n free in
    let mark_n : mark (set places n p) n ≡ i + 1 = mark_same places n p here in
    let since_n : since (set places n p) n ≡ t = since_same places n p here in
    let mark_o = mark_other places n p in
    let since_o = since_other places n p in
    let room : n < length next = subst (λ (x : ℕ). n < x) (sym a.nodes) here in
    let apart_n : (m : ℕ) (j : ℕ) → mark places m ≡ j + 1 → m ≢ n = λ m j h q. not_zero (mark places m) j h (ap (mark places) q ∙ was) in
    record {
      nodes = leading_length e n next ∙ a.nodes ∙ sym (length-set places n p);
      lines = length-set ends i (Some (wider e n)) ∙ a.lines;
      known = known_set places n p workers here is a.known;
      old = λ m h.
          elim (cases_eq m n) [
            | inl q ↦ let s : since (set places n p) m ≡ t = ap (since (set places n p)) q ∙ since_n in omega arith
            | inr o ↦
                let s = since_o m o in
                let z = a.old m (λ w. h (mark_o m o ∙ w)) in
                omega arith
          ];
      apart = λ m k hm hk s.
          elim (cases_eq m n) [
            | inl q ↦
                elim (cases_eq k n) [
                  | inl r ↦ q ∙ sym r
                  | inr o ↦
                      let sm : since (set places n p) m ≡ t = ap (since (set places n p)) q ∙ since_n in
                      let sk = since_o k o in
                      let z = young k (λ w. hk (mark_o k o ∙ w)) in
                      absurd (omega arith)
                ]
            | inr o ↦
                elim (cases_eq k n) [
                  | inl r ↦
                      let sk : since (set places n p) k ≡ t = ap (since (set places n p)) r ∙ since_n in
                      let sm = since_o m o in
                      let z = young m (λ w. hm (mark_o m o ∙ w)) in
                      absurd (omega arith)
                  | inr r ↦ a.apart m k (λ w. hm (mark_o m o ∙ w)) (λ w. hk (mark_o k r ∙ w)) (sym (since_o m o) ∙ s ∙ since_o k r)
                ]
          ];
      kept = λ j h.
          let low : j < length ends = subst (λ (x : ℕ). j < x) (length-set ends i (Some (wider e n))) h in
          elim (cases_eq j i) [
            | inl q ↦
                subst (λ (x : ℕ). IsKept (mark (set places n p)) (since (set places n p)) (λ k. get_or (leading e n next) k 0) (x + 1) (get_or (set ends i (Some (wider e n))) x None)) (sym q)
                (subst (IsKept (mark (set places n p)) (since (set places n p)) (λ k. get_or (leading e n next) k 0) (i + 1)) (sym (get_or-set_same ends i (Some (wider e n)) None below))
                (led_kept (mark places) (since places) (mark (set places n p)) (since (set places n p)) next (i + 1) n t e (λ z. not_zero (mark places n) i z was) mark_n since_n mark_o since_o
                (λ m z. young m (not_zero (mark places m) i z)) room (a.kept i below)))
            | inr o ↦
                subst (IsKept (mark (set places n p)) (since (set places n p)) (λ k. get_or (leading e n next) k 0) (j + 1)) (sym (get_or-set_other ends i j (Some (wider e n)) None o))
                (same_kept (mark places) (since places) (λ k. get_or next k 0) (mark (set places n p)) (since (set places n p)) (λ k. get_or (leading e n next) k 0) (j + 1) (get_or ends j None)
                (record {
                  to = λ m z. mark_o m (apart_n m j z) ∙ z;
                  from = λ m z. elim (cases_eq m n) [ inl q ↦ absurd (o (one j i (sym z ∙ ap (mark (set places n p)) q ∙ mark_n))) | inr r ↦ sym (mark_o m r) ∙ z ];
                  times = λ m z. since_o m (apart_n m j z);
                  nexts = λ m z. leading_other next n m e (apart_n m j z);
                })
                (a.kept j low))
          ];
    }

-- the same, as the code has it
pub led_at : (workers : ℕ) (places : List Place) (next : List ℕ) (ends : List (Option Ends)) (clock t : ℕ) (l : Line) (n : ℕ) (next' : List ℕ) (i : ℕ) (x : Option Ends) (y : Ends)
    → AreLinked workers places next ends clock → IsLineOf workers l → n < length places → line_in (place_of places n) ≡ None → t < clock → ((m : ℕ) → mark places m ≢ 0 → t < since places m)
    → x ≡ get_or ends (line_number l) None → i ≡ line_number l → next' ≡ leading x n next → y ≡ wider x n
    → AreLinked workers (set places n (InLine (record { line = l; since = t }))) next' (set ends i (Some y)) clock
led_at workers places next ends clock t l n next' i x y a is here free early young ex ei en ey =
    let p : List Place = set places n (InLine (record { line = l; since = t })) in
    subst (λ (z : List ℕ). AreLinked workers p z (set ends i (Some y)) clock) (sym (en ∙ ap (λ (o : Option Ends). leading o n next) ex))
    (subst (λ (z : ℕ). AreLinked workers p (leading (get_or ends (line_number l) None) n next) (set ends z (Some y)) clock) (sym ei)
    (subst (λ (z : Ends). AreLinked workers p (leading (get_or ends (line_number l) None) n next) (set ends (line_number l) (Some z)) clock) (sym (ey ∙ ap (λ (o : Option Ends). wider o n) ex))
    (led_linked workers places next ends clock t l n a is here free early young)))

-- the numbers of those in lines stay above a bound when a node gets another place, if its own is
pub young_set : (places : List Place) (n f : ℕ) (p : Place) → n < length places → (mark_of (line_in p) ≢ 0 → f ≤ since_in p) → ((m : ℕ) → mark places m ≢ 0 → f ≤ since places m)
    → (m : ℕ) → mark (set places n p) m ≢ 0 → f ≤ since (set places n p) m
young_set places n f p here own young m h =
    elim (cases_eq m n) [
      | inl q ↦
          let mark_m : mark (set places n p) m ≡ mark_of (line_in p) = ap (mark (set places n p)) q ∙ mark_same places n p here in
          let since_m : since (set places n p) m ≡ since_in p = ap (since (set places n p)) q ∙ since_same places n p here in
          let z = own (λ w. h (mark_m ∙ w)) in
          omega arith
      | inr o ↦
          let s = since_other places n p m o in
          let z = young m (λ w. h (mark_other places n p m o ∙ w)) in
          omega arith
    ]

left_or_none : (at since at' since' : ℕ → ℕ) (next : List ℕ) (i n : ℕ) (e : Option Ends) → Leaves at since at' since' i n
    → IsKept at since (λ k. get_or next k 0) i e → IsKept at' since' (λ k. get_or next k 0) i (shorter e next)
left_or_none at since at' since' next i n None v k = absurd (k n v.here)
left_or_none at since at' since' next i n (Some e) v k = left_kept at since (λ k. get_or next k 0) at' since' i n e v k

-- the first of a line leaves it
pub leaves_linked : (workers : ℕ) (places : List Place) (next : List ℕ) (ends : List (Option Ends)) (clock : ℕ) (l : Line) (n : ℕ) (p : Place)
    → AreLinked workers places next ends clock → IsLineOf workers l → IsFirst places l n → line_in p ≡ None
    → AreLinked workers (set places n p) next (set ends (line_number l) (shorter (get_or ends (line_number l) None) next)) clock
leaves_linked workers places next ends clock l n p a is first gone =
    let i = line_number l in
    let e : Option Ends = get_or ends i None in
    let v : Option Ends = shorter e next in
    let below : i < length ends = subst (λ (x : ℕ). i < x) (sym a.lines) (number_below workers l is) in
    let was : mark places n ≡ i + 1 = ap mark_of first.0 in
    let here : n < length places = in_table places n (not_zero (mark places n) i was) in
    let mark_n : mark (set places n p) n ≡ 0 = mark_same places n p here ∙ ap mark_of gone in
    let mark_o = mark_other places n p in
    let since_o = since_other places n p in
    let away : (m : ℕ) → mark (set places n p) m ≢ 0 → m ≢ n = λ m h q. h (ap (mark (set places n p)) q ∙ mark_n) in
    let real : (m : ℕ) → mark (set places n p) m ≢ 0 → mark places m ≢ 0 = λ m h w. h (mark_o m (away m h) ∙ w) in
    record {
      nodes = a.nodes ∙ sym (length-set places n p);
      lines = length-set ends i v ∙ a.lines;
      known = known_set places n p workers here (subst (λ (o : Option Line). MatchOption o (Unit {0}) (λ l. IsLineOf workers l)) (sym gone) tt) a.known;
      old = λ m h. let s = since_o m (away m h) in let z = a.old m (real m h) in omega arith;
      apart = λ m k hm hk s. a.apart m k (real m hm) (real k hk) (sym (since_o m (away m hm)) ∙ s ∙ since_o k (away k hk));
      kept = λ j h.
          let low : j < length ends = subst (λ (x : ℕ). j < x) (length-set ends i v) h in
          elim (cases_eq j i) [
            | inl q ↦
                subst (λ (x : ℕ). IsKept (mark (set places n p)) (since (set places n p)) (λ k. get_or next k 0) (x + 1) (get_or (set ends i v) x None)) (sym q)
                (subst (IsKept (mark (set places n p)) (since (set places n p)) (λ k. get_or next k 0) (i + 1)) (sym (get_or-set_same ends i v None below))
                (left_or_none (mark places) (since places) (mark (set places n p)) (since (set places n p)) next (i + 1) n e
                (record {
                  here = was;
                  out = λ z. not_zero (mark (set places n p) n) i z mark_n;
                  at_other = mark_o;
                  since_other = since_o;
                  first = λ m z. first.1 m (stands workers places l m (a.known m) is z);
                  apart = λ m z s. a.apart m n (not_zero (mark places m) i z) (not_zero (mark places n) i was) s;
                })
                (a.kept i below)))
            | inr o ↦
                subst (IsKept (mark (set places n p)) (since (set places n p)) (λ k. get_or next k 0) (j + 1)) (sym (get_or-set_other ends i j v None o))
                (same_kept (mark places) (since places) (λ k. get_or next k 0) (mark (set places n p)) (since (set places n p)) (λ k. get_or next k 0) (j + 1) (get_or ends j None)
                (record {
                  to = λ m z. mark_o m (λ q. o (one j i (sym z ∙ ap (mark places) q ∙ was))) ∙ z;
                  from = λ m z. sym (mark_o m (away m (not_zero (mark (set places n p) m) j z))) ∙ z;
                  times = λ m z. since_o m (λ q. o (one j i (sym z ∙ ap (mark places) q ∙ was)));
                  nexts = λ m z. refl;
                })
                (a.kept j low))
          ];
    }

-- the same, as the code has it
pub leaves_at : (workers : ℕ) (places : List Place) (next : List ℕ) (ends : List (Option Ends)) (clock : ℕ) (l : Line) (n : ℕ) (p : Place) (i : ℕ) (x y : Option Ends)
    → AreLinked workers places next ends clock → IsLineOf workers l → IsFirst places l n → line_in p ≡ None → x ≡ get_or ends (line_number l) None → i ≡ line_number l → y ≡ shorter x next
    → AreLinked workers (set places n p) next (set ends i y) clock
leaves_at workers places next ends clock l n p i x y a is first gone ex ei ey =
    subst (λ (z : ℕ). AreLinked workers (set places n p) next (set ends z y) clock) (sym ei)
    (subst (λ (z : Option Ends). AreLinked workers (set places n p) next (set ends (line_number l) z) clock) (sym (ey ∙ ap (λ (o : Option Ends). shorter o next) ex))
    (leaves_linked workers places next ends clock l n p a is first gone))

-- a node that stands in no line gets another place in none
pub put_linked : (workers : ℕ) (places : List Place) (next : List ℕ) (ends : List (Option Ends)) (clock n : ℕ) (p : Place)
    → AreLinked workers places next ends clock → n < length places → line_in (place_of places n) ≡ None → line_in p ≡ None
    → AreLinked workers (set places n p) next ends clock
put_linked workers places next ends clock n p a here free gone =
    let was : mark places n ≡ 0 = free_mark places n free in
    let mark_n : mark (set places n p) n ≡ 0 = mark_same places n p here ∙ ap mark_of gone in
    let mark_o = mark_other places n p in
    let since_o = since_other places n p in
    let away : (m : ℕ) → mark (set places n p) m ≢ 0 → m ≢ n = λ m h q. h (ap (mark (set places n p)) q ∙ mark_n) in
    let real : (m : ℕ) → mark (set places n p) m ≢ 0 → mark places m ≢ 0 = λ m h w. h (mark_o m (away m h) ∙ w) in
    let apart_n : (m : ℕ) (j : ℕ) → mark places m ≡ j + 1 → m ≢ n = λ m j h q. not_zero (mark places m) j h (ap (mark places) q ∙ was) in
    record {
      nodes = a.nodes ∙ sym (length-set places n p);
      lines = a.lines;
      known = known_set places n p workers here (subst (λ (o : Option Line). MatchOption o (Unit {0}) (λ l. IsLineOf workers l)) (sym gone) tt) a.known;
      old = λ m h. let s = since_o m (away m h) in let z = a.old m (real m h) in omega arith;
      apart = λ m k hm hk s. a.apart m k (real m hm) (real k hk) (sym (since_o m (away m hm)) ∙ s ∙ since_o k (away k hk));
      kept = λ j h.
          same_kept (mark places) (since places) (λ k. get_or next k 0) (mark (set places n p)) (since (set places n p)) (λ k. get_or next k 0) (j + 1) (get_or ends j None)
          (record {
            to = λ m z. mark_o m (apart_n m j z) ∙ z;
            from = λ m z. sym (mark_o m (away m (not_zero (mark (set places n p) m) j z))) ∙ z;
            times = λ m z. since_o m (apart_n m j z);
            nexts = λ m z. refl;
          })
          (a.kept j h);
    }

-- in a new table nobody stands in a line
pub new_unmarked : (nodes n : ℕ) (places : List Place) → places ≡ replicate nodes Closed → mark places n ≡ 0
new_unmarked nodes n places e = ap (λ (ps : List Place). mark_of (line_in (place_of ps n))) e ∙ ap (λ (p : Place). mark_of (line_in p)) (everywhere nodes n Closed)

-- a new table, in which all are closed
pub new_linked : (workers nodes : ℕ) (places : List Place) (next : List ℕ) (ends : List (Option Ends))
    → places ≡ replicate nodes Closed → next ≡ replicate nodes 0 → ends ≡ replicate (576 * (workers + 1)) None
    → AreLinked workers places next ends (2 ^ 63)
new_linked workers nodes places next ends ep en ee =
    let free : (n : ℕ) → place_of places n ≡ Closed = λ n. ap (λ (ps : List Place). place_of ps n) ep ∙ everywhere nodes n Closed in
    let unmarked : (n : ℕ) → mark places n ≡ 0 = λ n. ap (λ (p : Place). mark_of (line_in p)) (free n) in
    record {
      nodes = ap length en ∙ length-replicate nodes 0 ∙ sym (ap length ep ∙ length-replicate nodes Closed);
      lines = ap length ee ∙ length-replicate (576 * (workers + 1)) None;
      known = λ n. subst (λ (p : Place). MatchOption (line_in p) (Unit {0}) (λ l. IsLineOf workers l)) (sym (free n)) tt;
      old = λ n h. absurd (h (unmarked n));
      apart = λ n m h k e. absurd (h (unmarked n));
      kept = λ i h.
          subst (IsKept (mark places) (since places) (λ k. get_or next k 0) (i + 1)) (sym (ap (λ (es : List (Option Ends)). get_or es i None) ee ∙ everywhere (576 * (workers + 1)) i None))
          (λ n z. not_zero (mark places n) i z (unmarked n));
    }

-- the first node of a line that has any
pub first_is : (workers : ℕ) (places : List Place) (next : List ℕ) (ends : List (Option Ends)) (clock : ℕ) (l : Line) (i : ℕ) (x : Option Ends) (e : Ends)
    → AreLinked workers places next ends clock → IsLineOf workers l → i ≡ line_number l → x ≡ get_or ends i None → x ≡ Some e → IsFirst places l e.first
first_is workers places next ends clock l i x e a is ei ex was =
    let below : line_number l < length ends = subst (λ (n : ℕ). line_number l < n) (sym a.lines) (number_below workers l is) in
    let here : get_or ends (line_number l) None ≡ Some e = ap (λ (k : ℕ). get_or ends k None) (sym ei) ∙ sym ex ∙ was in
    let k : IsLinked (mark places) (since places) (λ n. get_or next n 0) (line_number l + 1) e.first e.last =
    subst (IsKept (mark places) (since places) (λ n. get_or next n 0) (line_number l + 1)) here (a.kept (line_number l) below)
    in
    (stands workers places l e.first (a.known e.first) is k.head, λ m h. k.low m (ap mark_of h))
