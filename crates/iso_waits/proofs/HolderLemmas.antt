-- What holds of each node that is in the way holds of each one that is waited for.
use Rattle.std.proofs.Common.{◌≡◌, ℕ, zero, suc, ◌+◌, ◌-◌, ◌<◌, List, [], ◌∷◌, ◌++◌, length, Option, Some, None, Bool, true, false, ◌||◌, ◌&&◌, ◌==◌, cond, ap, ◌∙◌, refl}
use Rattle.std.proofs.lemmas.List.Elements.{All-append, All-cons, All-nil, All-weaker}
use Rattle.std.specs.Bool.{⊤}
use Rattle.std.specs.List.{All}
use Rattle.std.specs.Option.{is_some}
use Rattle.iso_plan.proofs.ConflictLemmas.{conflicts-is}
use Rattle.iso_plan.specs.Conflicts.{conflicts, is_in_the_way, shares}
use Rattle.iso_plan.specs.Locks.{conflict, locks}
use Rattle.iso_plan.specs.Tree.{Row}
use Rattle.iso_plan.specs.declared.lock.Lock.{Lock}
use Rattle.iso_settings.specs.declared.settings.Settings.{Settings}
use Rattle.iso_times.specs.declared.times.BodyTime.{BodyTime}
use Rattle.iso_waits.proofs.RivalLemmas.{lowest-is}
use Rattle.iso_waits.specs.AllWaits.{IsFor}
use Rattle.iso_waits.specs.ContendedKeys.{contended_key, first_shared}
use Rattle.iso_waits.specs.Moments.{Waited, goes_on, held, listed, waited, waits_within}
use Rattle.iso_waits.specs.Stays.{holder, is_entered, stayed}
use Rattle.iso_waits.specs.Waits.{ready, waits, waits_until}
use Rattle.iso_waits.specs.declared.stay.Stay.{Stay}
use Rattle.iso_waits.specs.declared.wait.Wait.{Wait}

module _ (P : ℕ → Type 0) where
  abbrev For : Wait → Type 0
  For w = P w.holder

  LastFor : Option Wait → Type 0
  LastFor None = ⊤
  LastFor (Some w) = P w.holder

  record Fors (over : List Wait) (last : Option Wait) : Type 0 where
    all : All For over
    one : LastFor last

  both : (over : List Wait) (last : Option Wait) → Fors over last → All For (over ++ listed last)
  unfolding LastFor
  both over None is = All-append For over [] is.all (All-nil For)
  both over (Some w) is = All-append For over (w ∷ []) is.all (All-cons For w [] is.one (All-nil For))

  held-by : (from until m : ℕ) (over : List Wait) (w : Wait) (b : Bool) → (w.holder == m) ≡ b → P m
      → Fors over (Some w) → Fors (held from until m over (Some w)).over (held from until m over (Some w)).last
  unfolding LastFor
  held-by from until m over w true e p is = rw e (record { all = is.all; one = p })
  held-by from until m over w false e p is = rw e (record { all = both over (Some w) is; one = p })

  goes-some : (from until m : ℕ) (over : List Wait) (last : Option Wait) → P m → Fors over last → Fors (held from until m over last).over (held from until m over last).last
  unfolding LastFor
  goes-some from until m over None p is = record { all = is.all; one = p }
  goes-some from until m over (Some w) p is = held-by from until m over w (w.holder == m) refl p is

  goes : (from until : ℕ) (h : Option ℕ) (w : Waited) → ((m : ℕ) → h ≡ Some m → P m) → Fors w.over w.last → Fors (goes_on from until h w).over (goes_on from until h w).last
  unfolding LastFor
  goes from until None w p is = record { all = both w.over w.last is; one = tt }
  goes from until (Some m) w p is = goes-some from until m w.over w.last (p m refl) is

  all-for : (h : ℕ → Option ℕ) (from : ℕ) → ((t m : ℕ) → h t ≡ Some m → P m) → (n : ℕ) → Fors (waited h from n).over (waited h from n).last
  unfolding LastFor
  all-for h from p zero = record { all = All-nil For; one = tt }
  all-for h from p (suc n) = goes (from + n) (from + n + 1) (h (from + n)) (waited h from n) (p (from + n)) (all-for h from p n)

  within-for : (h : ℕ → Option ℕ) (from until : ℕ) → ((t m : ℕ) → h t ≡ Some m → P m) → All For (waits_within h from until)
  within-for h from until p = both (waited h from (until - from)).over (waited h from (until - from)).last (all-for h from p (until - from))

  until-for : (h : ℕ → Option ℕ) (r : Option ℕ) (s : Option Stay) → ((t m : ℕ) → h t ≡ Some m → P m) → All For (waits_until h r s)
  until-for h None s p = All-nil For
  until-for h (Some from) None p = All-nil For
  until-for h (Some from) (Some s) p = within-for h from s.begin p

abbrev InTheWay : List Row → ℕ → ℕ → Type 0
InTheWay tree n m = (m < length tree) × (conflict tree m n ≡ true)

second : (a b : Bool) → (a && b) ≡ true → b ≡ true
second true b e = e
second false b e = absurd (cc)

pub waits-for : (tree : List Row) (settings : Settings) (bodies : List (Option BodyTime)) (n : ℕ) → All (IsFor tree n) (waits tree settings bodies n)
waits-for tree settings bodies n =
    All-weaker (λ (w : Wait). InTheWay tree n w.holder) (IsFor tree n) (λ w is. record { within = is.0; conflicts = is.1 }) (waits tree settings bodies n)
    (until-for (InTheWay tree n) (holder tree bodies n) (ready tree settings bodies n) (stayed bodies n)
    (λ t m e. let is = lowest-is (is_in_the_way tree (is_entered bodies t) n) (length tree) m e in (is.0, second (is_entered bodies t m) (conflict tree m n) is.1)))

shared-by : (b : Bool) (k : ℕ) (o : Option ℕ) → is_some (cond b (Some k) o) ≡ (b || is_some o)
shared-by true k o = refl
shared-by false k o = refl

shared-some : (ls ms : List Lock) → is_some (first_shared ls ms) ≡ conflicts ls ms
shared-some [] ms = refl
shared-some (l ∷ ls) ms = shared-by (shares l ms) l.key (first_shared ls ms) ∙ ap (λ (b : Bool). shares l ms || b) (shared-some ls ms)

pub contended-is : (tree : List Row) (m n : ℕ) → is_some (contended_key tree m n) ≡ conflict tree m n
contended-is tree m n = shared-some (locks tree m) (locks tree n) ∙ conflicts-is tree m n
