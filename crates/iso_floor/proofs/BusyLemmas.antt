-- How many nodes are with each worker when one of them gets another place, and that a worker that waits has none.
use Rattle.std.proofs.Common.{◌≡◌, ◌≢◌, ℕ, zero, suc, ◌+◌, ◌-◌, ◌<◌, ◌≤◌, ◌==◌, ◌^◌, List, length, replicate, set, get_or, Option, None, Some, Bool, true, false, cond, arith, ap, sym, subst, ◌∙◌, inl, inr, refl}
use Rattle.std.proofs.lemmas.Bool.{cases_eq, cases_lt}
use Rattle.std.proofs.lemmas.List.{get_or-set_other, get_or-set_same, get_or_past, length-set}
use Rattle.iso_desk.specs.Crews.{fresh, member_of}
use Rattle.iso_desk.specs.Places.{line_in, place_of}
use Rattle.iso_desk.specs.declared.crew.Member.{Member}
use Rattle.iso_desk.specs.declared.line.Line.{Line}
use Rattle.iso_desk.specs.declared.place.Place.{Place}
use Rattle.iso_desk.specs.declared.place.Place.TheVariants.{Closed, InLine, Loose, Open, Over, With}
use Rattle.iso_floor.specs.Schedulers.{besides, is_with, with_in, without}
use Rattle.iso_plan.proofs.HeldLemmas.{count-none, count-small}
use Rattle.iso_plan.proofs.PathLemmas.{eq_from, eq_not, eq_same}
use Rattle.iso_floor.proofs.LooseLemmas.{all-closed, count-moved, split}

less-at : (bs : List ℕ) (v w : ℕ) → w < length bs → get_or (set bs v (get_or bs v 0 - 1)) w 0 ≡ get_or bs w 0 - cond (v == w) 1 0
less-at bs v w low =
    elim (cases_eq v w) [
      | inl same ↦
          let is : (v == w) ≡ true = rw same (eq_same w) in
          rw is (ap (λ (j : ℕ). get_or (set bs j (get_or bs j 0 - 1)) w 0) same ∙ get_or-set_same bs w (get_or bs w 0 - 1) 0 low)
      | inr other ↦
          let is : (v == w) ≡ false = eq_not v w other in
          let kept = get_or-set_other bs v w (get_or bs v 0 - 1) 0 (λ e. other (sym e)) in
          rw is (omega (arith, kept))
    ]

more-at : (bs : List ℕ) (v w : ℕ) → w < length bs → get_or (set bs v (get_or bs v 0 + 1)) w 0 ≡ get_or bs w 0 + cond (v == w) 1 0
more-at bs v w low =
    elim (cases_eq v w) [
      | inl same ↦
          let is : (v == w) ≡ true = rw same (eq_same w) in
          rw is (ap (λ (j : ℕ). get_or (set bs j (get_or bs j 0 + 1)) w 0) same ∙ get_or-set_same bs w (get_or bs w 0 + 1) 0 low)
      | inr other ↦
          let is : (v == w) ≡ false = eq_not v w other in
          let kept = get_or-set_other bs v w (get_or bs v 0 + 1) 0 (λ e. other (sym e)) in
          rw is (omega (arith, kept))
    ]

without-at : (p : Place) (bs : List ℕ) (w : ℕ) → w < length bs → get_or (without p bs) w 0 ≡ get_or bs w 0 - cond (is_with w p) 1 0
without-at Closed bs w low = omega arith
without-at Loose bs w low = omega arith
without-at (InLine s) bs w low = omega arith
without-at (With v) bs w low = less-at bs v w low
without-at Open bs w low = omega arith
without-at Over bs w low = omega arith

besides-at : (p : Place) (bs : List ℕ) (w : ℕ) → w < length bs → get_or (besides p bs) w 0 ≡ get_or bs w 0 + cond (is_with w p) 1 0
besides-at Closed bs w low = omega arith
besides-at Loose bs w low = omega arith
besides-at (InLine s) bs w low = omega arith
besides-at (With v) bs w low = more-at bs v w low
besides-at Open bs w low = omega arith
besides-at Over bs w low = omega arith

pub without-long : (p : Place) (bs : List ℕ) → length (without p bs) ≡ length bs
without-long Closed bs = refl
without-long Loose bs = refl
without-long (InLine s) bs = refl
without-long (With v) bs = length-set bs v (get_or bs v 0 - 1)
without-long Open bs = refl
without-long Over bs = refl

pub besides-long : (p : Place) (bs : List ℕ) → length (besides p bs) ≡ length bs
besides-long Closed bs = refl
besides-long Loose bs = refl
besides-long (InLine s) bs = refl
besides-long (With v) bs = length-set bs v (get_or bs v 0 + 1)
besides-long Open bs = refl
besides-long Over bs = refl

with-told : (w : ℕ) (p : Place) → is_with w p ≡ true → p ≡ With w
with-told w Closed e = absurd (cc)
with-told w Loose e = absurd (cc)
with-told w (InLine s) e = absurd (cc)
with-told w (With v) e = ap (λ (j : ℕ). With j) (eq_from v w e)
with-told w Open e = absurd (cc)
with-told w Over e = absurd (cc)

line-with : (w : ℕ) (p : Place) (l : Line) → line_in p ≡ Some l → is_with w p ≡ false
line-with w Closed l e = refl
line-with w Loose l e = refl
line-with w (InLine s) l e = refl
line-with w (With v) l e = absurd (cc)
line-with w Open l e = refl
line-with w Over l e = refl

-- a node gets another place
module _ (ps : List Place) (bs : List ℕ) (n : ℕ) (p : Place) (h : n < length ps) (are : (w : ℕ) → w < length bs → get_or bs w 0 ≡ with_in ps w) where
  pub busy-moved : (w : ℕ) → w < length bs → get_or (besides p (without (place_of ps n) bs)) w 0 ≡ with_in (set ps n p) w
  busy-moved w low =
      let was = place_of ps n in
      let less = without-at was bs w low in
      let more = besides-at p (without was bs) w (subst (λ (k : ℕ). w < k) (sym (without-long was bs)) low) in
      let moved = count-moved (is_with w) ps n p h in
      let parts = split (is_with w) ps n h in
      let is = are w low in
      omega (arith, less, more, moved, parts, is)

  -- also where no worker gets it
  pub busy-left : (w : ℕ) → w < length bs → is_with w p ≡ false → get_or (without (place_of ps n) bs) w 0 ≡ with_in (set ps n p) w
  busy-left w low none =
      let was = place_of ps n in
      let less = without-at was bs w low in
      let moved : with_in (set ps n p) w + cond (is_with w was) 1 0 ≡ with_in ps w + cond false 1 0 =
      count-moved (is_with w) ps n p h ∙ ap (λ (b : Bool). with_in ps w + cond b 1 0) none in
      let parts = split (is_with w) ps n h in
      let is = are w low in
      omega (arith, less, moved, parts, is)

  pub busy-room : length ps < 2 ^ 64 → (w : ℕ) → p ≡ With w → get_or (without (place_of ps n) bs) w 0 + 1 < 2 ^ 64
  busy-room few w e =
      let was = place_of ps n in
      elim (cases_lt w (length bs)) [
        | inl low ↦
            let less = without-at was bs w low in
            let moved : with_in (set ps n p) w + cond (is_with w was) 1 0 ≡ with_in ps w + 1 =
            count-moved (is_with w) ps n p h ∙ ap (λ (b : Bool). with_in ps w + cond b 1 0) (ap (is_with w) e ∙ eq_same w) in
            let parts = split (is_with w) ps n h in
            let is = are w low in
            let long = length-set ps n p in
            let top : with_in (set ps n p) w ≤ length (set ps n p) = count-small (λ k. is_with w (place_of (set ps n p) k)) (length (set ps n p)) in
            omega (arith, less, moved, parts, is, long, top, few)
        | inr high ↦
            let none : get_or (without was bs) w 0 ≡ 0 = get_or_past (without was bs) w 0 (subst (λ (k : ℕ). k ≤ w) (sym (without-long was bs)) high) in
            omega (arith, none)
      ]

-- who had no node with it has none still, unless it gets this one
pub none-moved : (ps : List Place) (n : ℕ) (p : Place) (w : ℕ) → n < length ps → with_in ps w ≡ 0 → p ≢ With w → with_in (set ps n p) w ≡ 0
none-moved ps n p w h none other = by (is_with w p) refl
  where
    by : (b : Bool) → is_with w p ≡ b → with_in (set ps n p) w ≡ 0
    by true e = absurd (other (with-told w p e))
    by false e =
        let moved : with_in (set ps n p) w + cond (is_with w (place_of ps n)) 1 0 ≡ with_in ps w + cond false 1 0 =
        count-moved (is_with w) ps n p h ∙ ap (λ (b : Bool). with_in ps w + cond b 1 0) e in
        omega (arith, moved, none)

-- a node leaves a line, for a place with nobody
pub busy-taken : (ps : List Place) (n : ℕ) (p : Place) (l : Line) (w : ℕ) → n < length ps → line_in (place_of ps n) ≡ Some l → is_with w p ≡ false → with_in (set ps n p) w ≡ with_in ps w
busy-taken ps n p l w h line none =
    let moved : with_in (set ps n p) w + cond false 1 0 ≡ with_in ps w + cond false 1 0 =
    ap (λ (b : Bool). with_in (set ps n p) w + cond b 1 0) (sym (line-with w (place_of ps n) l line))
    ∙ count-moved (is_with w) ps n p h ∙ ap (λ (b : Bool). with_in ps w + cond b 1 0) none in
    omega (arith, moved)

-- where all are closed, none is with a worker
pub none-busy : (n w : ℕ) → with_in (replicate n Closed) w ≡ 0
none-busy n w = count-none (λ k. is_with w (place_of (replicate n Closed) k)) (length (replicate n Closed)) (λ m h. ap (is_with w) (all-closed n m))

-- what holds of each worker that waits holds where another thing is kept of one
pub idle-set : (P : ℕ → Type 0) (ms : List Member) (v : ℕ) (m : Member) → ((w : ℕ) → (member_of ms w).waits ≡ true → P w) → (m.waits ≡ true → P v) → (w : ℕ)
    → (member_of (set ms v m) w).waits ≡ true → P w
idle-set P ms v m idle here w e =
    elim (cases_eq w v) [
      | inl same ↦
          elim (cases_lt v (length ms)) [
            | inl low ↦
                let is : member_of (set ms v m) w ≡ m = ap (member_of (set ms v m)) same ∙ get_or-set_same ms v m fresh low in
                subst P (sym same) (here (ap (λ (x : Member). x.waits) (sym is) ∙ e))
            | inr high ↦
                let is : member_of (set ms v m) w ≡ fresh = get_or_past (set ms v m) w fresh (subst (λ (k : ℕ). k ≤ w) (sym (length-set ms v m)) (subst (λ (k : ℕ). length ms ≤ k) (sym same) high)) in
                let wrong : false ≡ true = sym (ap (λ (x : Member). x.waits) is) ∙ e in
                absurd (cc)
          ]
      | inr other ↦ idle w (ap (λ (x : Member). x.waits) (sym (get_or-set_other ms v w m fresh other)) ∙ e)
    ]
