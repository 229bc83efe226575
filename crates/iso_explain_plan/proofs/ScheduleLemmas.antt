-- Lines of a schedule, one after another.
use Rattle.std.proofs.Common.{◌≡◌, ◌<◌, ◌≤◌, ◌+◌, ◌-◌, ◌==◌, ℕ, List, [], ◌∷◌, Bool, true, false, Option, Some, cond, length, nat_le, refl, arith, true≢false, sym}
use Rattle.std.proofs.lemmas.Bool.Decides.{nat_tests}
use Rattle.iso_explain_plan.specs.ScheduleLines.{event_line, line_at}

pub line-this : (n : ℕ) (l : List ℕ) (ls : List (List ℕ)) → n ≤ 1 → line_at n (l ∷ ls) ≡ l
line-this n l ls h = by (nat_le n 1) (grind (arith, nat_tests))
  where
    by : (t : Bool) → t ≡ true → cond t l (line_at (n - 1) ls) ≡ l
    by true e = refl
    by false e = absurd (true≢false (sym e))

pub line-next : (n : ℕ) (l : List ℕ) (ls : List (List ℕ)) → 1 < n → line_at n (l ∷ ls) ≡ line_at (n - 1) ls
line-next n l ls h = by (nat_le n 1) (grind (arith, nat_tests))
  where
    by : (t : Bool) → t ≡ false → cond t l (line_at (n - 1) ls) ≡ line_at (n - 1) ls
    by true e = absurd (true≢false e)
    by false e = refl

-- an empty line writes no event
pub event-skip : (e n : ℕ) (l : List ℕ) (ls : List (List ℕ)) → (length l == 0) ≡ true → event_line e n (l ∷ ls) ≡ event_line e (n + 1) ls
event-skip e n l ls h = rw h refl

-- each other line writes one
pub event-this : (n : ℕ) (l : List ℕ) (ls : List (List ℕ)) → (length l == 0) ≡ false → event_line 0 n (l ∷ ls) ≡ Some (n, l)
event-this n l ls h = rw h refl

pub event-next : (e n : ℕ) (l : List ℕ) (ls : List (List ℕ)) → (length l == 0) ≡ false → 0 < e → event_line e n (l ∷ ls) ≡ event_line (e - 1) (n + 1) ls
event-next e n l ls h some = rw h (by (e == 0) (grind (arith, nat_tests)))
  where
    by : (t : Bool) → t ≡ false → cond t (Some (n, l)) (event_line (e - 1) (n + 1) ls) ≡ event_line (e - 1) (n + 1) ls
    by true f = absurd (true≢false f)
    by false f = refl
