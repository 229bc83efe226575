-- Waits that are told moment by moment stand in turn, and tell of each moment.
use Rattle.std.proofs.Common.{◌≡◌, ℕ, zero, suc, ◌+◌, ◌-◌, ◌<◌, ◌≤◌, List, [], ◌∷◌, ◌++◌, Option, Some, None, Bool, true, false, inl, inr, ◌==◌, ◌&&◌, cond, nat_le, nat_lt, ap, sym, subst, ◌∙◌, refl, arith}
use Rattle.std.proofs.lemmas.Bool.{cases_lt}
use Rattle.std.proofs.lemmas.Bool.Decides.{nat_tests}
use Rattle.std.proofs.lemmas.List.{append-nil}
use Rattle.iso_plan.proofs.PathLemmas.{eq_from}
use Rattle.iso_waits.specs.Moments.{Waited, all_of, goes_on, held, listed, waited, waits_within}
use Rattle.iso_waits.specs.Turns.{AreInTurn, waited_for}
use Rattle.iso_waits.specs.declared.wait.Wait.{Wait}

-- a moment is within a wait
abbrev has : ℕ → Wait → Bool
has t w = nat_le w.begin t && nat_lt t w.end

within : (t : ℕ) (w : Wait) → w.begin ≤ t → t < w.end → has t w ≡ true
within t w b e = grind (arith, nat_tests)

past : (t : ℕ) (w : Wait) → w.end ≤ t → has t w ≡ false
past t w e = grind (arith, nat_tests)

before : (t : ℕ) (w : Wait) → t < w.begin → has t w ≡ false
before t w b = grind (arith, nat_tests)

-- waits in turn up to a moment, and one more from then on
turn-more : (from mid until : ℕ) (ws : List Wait) (w : Wait) → from ≤ mid → AreInTurn from mid ws → mid ≤ w.begin → w.begin < w.end → w.end ≤ until → AreInTurn from until (ws ++ w ∷ [])
turn-more from mid until [] w f turn b e u = (omega arith, e, u, tt)
turn-more from mid until (x ∷ xs) w f turn b e u = (turn.0, turn.1, omega (arith, turn.2), turn-more x.end mid until xs w turn.2 turn.3 b e u)

turn-later : (from mid until : ℕ) (ws : List Wait) → mid ≤ until → AreInTurn from mid ws → AreInTurn from until ws
turn-later from mid until [] h turn = tt
turn-later from mid until (x ∷ xs) h turn = (turn.0, turn.1, omega (arith, turn.2), turn-later x.end mid until xs h turn.3)

-- who is waited for once all waits are over, and with one wait more
none-past : (t from mid : ℕ) (ws : List Wait) → mid ≤ t → AreInTurn from mid ws → waited_for t ws ≡ None
none-past t from mid [] h turn = refl
none-past t from mid (x ∷ xs) h turn = rw (past t x (omega (arith, turn.2))) (none-past t x.end mid xs h turn.3)

for-append : (t : ℕ) (ws : List Wait) (w : Wait) → has t w ≡ false → waited_for t (ws ++ w ∷ []) ≡ waited_for t ws
for-append t [] w e = rw e refl
for-append t (x ∷ xs) w e = ap (cond (has t x) (Some x.holder)) (for-append t xs w e)

for-last : (t from mid : ℕ) (ws : List Wait) (w : Wait) → mid ≤ t → AreInTurn from mid ws → has t w ≡ true → waited_for t (ws ++ w ∷ []) ≡ Some w.holder
for-last t from mid [] w h turn e = rw e refl
for-last t from mid (x ∷ xs) w h turn e = rw (past t x (omega (arith, turn.2))) (for-last t x.end mid xs w h turn.3 e)

-- nobody was in the way since a moment; or nobody until a wait began, and its node since then
record IsLast (holder : ℕ → Option ℕ) (mid at : ℕ) (w : Wait) : Type 0 where
  after : mid ≤ w.begin
  long : w.begin < w.end
  now : w.end ≡ at
  gap : (t : ℕ) → mid ≤ t → t < w.begin → holder t ≡ None
  held : (t : ℕ) → w.begin ≤ t → t < at → holder t ≡ Some w.holder

Lasts : (ℕ → Option ℕ) → ℕ → ℕ → Option Wait → Type 0
Lasts holder mid at None = (t : ℕ) → mid ≤ t → t < at → holder t ≡ None
Lasts holder mid at (Some w) = IsLast holder mid at w

-- the waits that are over tell all until a moment `mid`, and the last one what came since
record IsTold (holder : ℕ → Option ℕ) (from at : ℕ) (over : List Wait) (last : Option Wait) : Type 0 where
  mid : ℕ
  begun : from ≤ mid
  ended : mid ≤ at
  turn : AreInTurn from mid over
  told : (t : ℕ) → from ≤ t → t < mid → waited_for t over ≡ holder t
  lasts : Lasts holder mid at last

module _ (holder : ℕ → Option ℕ) (from : ℕ) where
  all-turn : (at : ℕ) (over : List Wait) (last : Option Wait) → IsTold holder from at over last → AreInTurn from at (over ++ listed last)
  unfolding Lasts
  all-turn at over None is = subst (AreInTurn from at) (sym (append-nil over)) (turn-later from is.mid at over is.ended is.turn)
  all-turn at over (Some w) is = turn-more from is.mid at over w is.begun is.turn is.lasts.after is.lasts.long (omega (arith, is.lasts.now))

  none-told : (at t : ℕ) (over : List Wait) → IsTold holder from at over None → from ≤ t → t < at → waited_for t over ≡ holder t
  unfolding Lasts
  none-told at t over is f l =
      elim (cases_lt t is.mid) [
        | inl early ↦ is.told t f early
        | inr late ↦ none-past t from is.mid over late is.turn ∙ sym (is.lasts t late l)
      ]

  some-told : (at t : ℕ) (over : List Wait) (w : Wait) → IsTold holder from at over (Some w) → from ≤ t → t < at → waited_for t (over ++ w ∷ []) ≡ holder t
  unfolding Lasts
  some-told at t over w is f l =
      elim (cases_lt t w.begin) [
        | inl early ↦
            for-append t over w (before t w early)
            ∙ elim (cases_lt t is.mid) [
              | inl sooner ↦ is.told t f sooner
              | inr later ↦ none-past t from is.mid over later is.turn ∙ sym (is.lasts.gap t later early)
            ]
        | inr late ↦ for-last t from is.mid over w (let a = is.lasts.after in omega arith) is.turn (within t w late (let e = is.lasts.now in omega arith)) ∙ sym (is.lasts.held t late l)
      ]

  all-told : (at t : ℕ) (over : List Wait) (last : Option Wait) → IsTold holder from at over last → from ≤ t → t < at → waited_for t (over ++ listed last) ≡ holder t
  all-told at t over None is f l = ap (waited_for t) (append-nil over) ∙ none-told at t over is f l
  all-told at t over (Some w) is f l = some-told at t over w is f l

  closes : (at : ℕ) (over : List Wait) (last : Option Wait) → from ≤ at → IsTold holder from at over last → holder at ≡ None → IsTold holder from (at + 1) (over ++ listed last) None
  unfolding Lasts
  closes at over last f is none = record {
    mid = at;
    begun = f;
    ended = omega arith;
    turn = all-turn at over last is;
    told = λ t a b. all-told at t over last is a b;
    lasts = λ t a b. ap holder (let e : t ≡ at = omega arith in e) ∙ none;
  }

  begins : (m at : ℕ) (over : List Wait) → from ≤ at → AreInTurn from at over → ((t : ℕ) → from ≤ t → t < at → waited_for t over ≡ holder t)
      → holder at ≡ Some m → IsTold holder from (at + 1) over (Some (record { holder = m; begin = at; end = at + 1 }))
  unfolding Lasts
  begins m at over f turn told here = record {
    mid = at;
    begun = f;
    ended = omega arith;
    turn = turn;
    told = told;
    lasts = record {
      after = omega arith;
      long = omega arith;
      now = refl;
      gap = λ t a b. absurd (omega arith);
      held = λ t a b. ap holder (let e : t ≡ at = omega arith in e) ∙ here;
    };
  }

  stays-on : (m at : ℕ) (over : List Wait) (w : Wait) → from ≤ at → IsTold holder from at over (Some w) → w.holder ≡ m
      → holder at ≡ Some m → IsTold holder from (at + 1) over (Some (record { holder = m; begin = w.begin; end = at + 1 }))
  unfolding Lasts
  stays-on m at over w f is same here = record {
    mid = is.mid;
    begun = is.begun;
    ended = omega (arith, is.ended);
    turn = is.turn;
    told = is.told;
    lasts = record {
      after = is.lasts.after;
      long = let l = is.lasts.long in let e = is.lasts.now in omega arith;
      now = refl;
      gap = is.lasts.gap;
      held = λ t a b. elim (cases_lt t at) [
        | inl early ↦ is.lasts.held t a early ∙ ap (λ (x : ℕ). Some x) same
        | inr late ↦ ap holder (let e : t ≡ at = omega arith in e) ∙ here
      ];
    };
  }

  holds-by : (m at : ℕ) (over : List Wait) (w : Wait) (b : Bool) → (w.holder == m) ≡ b → from ≤ at → IsTold holder from at over (Some w)
      → holder at ≡ Some m → IsTold holder from (at + 1) (held at (at + 1) m over (Some w)).over (held at (at + 1) m over (Some w)).last
  holds-by m at over w true e f is here = rw e (stays-on m at over w f is (eq_from w.holder m e) here)
  holds-by m at over w false e f is here = rw e (begins m at (over ++ w ∷ []) f (all-turn at over (Some w) is) (λ t a b. some-told at t over w is a b) here)

  holds : (m at : ℕ) (over : List Wait) (last : Option Wait) → from ≤ at → IsTold holder from at over last
      → holder at ≡ Some m → IsTold holder from (at + 1) (held at (at + 1) m over last).over (held at (at + 1) m over last).last
  holds m at over None f is here =
      begins m at over f (subst (AreInTurn from at) (append-nil over) (all-turn at over None is)) (λ t a b. none-told at t over is a b) here
  holds m at over (Some w) f is here = holds-by m at over w (w.holder == m) refl f is here

  goes : (at : ℕ) (h : Option ℕ) (w : Waited) → from ≤ at → holder at ≡ h → IsTold holder from at w.over w.last
      → IsTold holder from (at + 1) (goes_on at (at + 1) h w).over (goes_on at (at + 1) h w).last
  goes at None w f e is = closes at w.over w.last f is e
  goes at (Some m) w f e is = holds m at w.over w.last f is e

  told-all : (n : ℕ) → IsTold holder from (from + n) (waited holder from n).over (waited holder from n).last
  unfolding Lasts
  told-all zero = record {
    mid = from;
    begun = omega arith;
    ended = omega arith;
    turn = tt;
    told = λ t a b. absurd (omega arith);
    lasts = λ t a b. absurd (omega arith);
  }
  told-all (suc n) =
      let next : from + n + 1 ≡ from + suc n = omega arith in
      subst (λ (at : ℕ). IsTold holder from at (waited holder from (suc n)).over (waited holder from (suc n)).last) next
      (goes (from + n) (holder (from + n)) (waited holder from n) (omega arith) refl (told-all n))

  pub in-turn : (until : ℕ) → AreInTurn from until (waits_within holder from until)
  in-turn until = elim (cases_lt from until) [
    | inl before ↦
        let end : from + (until - from) ≡ until = omega arith in
        subst (λ (at : ℕ). AreInTurn from at (waits_within holder from until)) end
        (all-turn (from + (until - from)) (waited holder from (until - from)).over (waited holder from (until - from)).last (told-all (until - from)))
    | inr after ↦
        let none : 0 ≡ until - from = omega arith in
        subst (λ (n : ℕ). AreInTurn from until (all_of (waited holder from n))) none tt
  ]

  pub each-told : (until t : ℕ) → from ≤ t → t < until → waited_for t (waits_within holder from until) ≡ holder t
  each-told until t f l =
      all-told (from + (until - from)) t (waited holder from (until - from)).over (waited holder from (until - from)).last (told-all (until - from)) f (omega arith)
