-- The way back goes back in time, and to its end.
use Rattle.std.proofs.Common.{◌≡◌, ◌<◌, ◌≤◌, ℕ, ◌+◌, List, [], ◌∷◌, Some, None, Bool, true, false, cond, length, find, IfSome, refl, sym, ◌∙◌, arith}
use Rattle.std.proofs.lemmas.Bool.Decides.{nat_tests}
use Rattle.iso_critical.specs.Bodies.{Run, latest_first, ran}
use Rattle.iso_critical.specs.Critical.{back_from, critical, previous}
use Rattle.iso_critical.specs.Needs.{ended_by, had_to_end, needs}
use Rattle.iso_critical.specs.declared.body.Body.{Body}
use Rattle.iso_critical.proofs.OrderLemmas.{latest-falls, latest-length}
use Rattle.iso_critical.proofs.WalkLemmas.{walked-all}
use Rattle.iso_durations.proofs.OrderLemmas.{both-first}
use Rattle.iso_times.specs.declared.times.BodyTime.{BodyTime}

-- what is found passes
found-passes : (t : Body → Bool) (P : Body → Type 0) → ((b : Body) → t b ≡ true → P b) → (bs : List Body) → IfSome (find t bs) P
found-passes t P so [] = tt
found-passes t P so (b ∷ bs) = by (t b) refl (found-passes t P so bs)
  where
    by : (a : Bool) → t b ≡ a → IfSome (find t bs) P → IfSome (cond a (Some b) (find t bs)) P
    by true e rest = so b e
    by false e rest = rest

ended : (p b : BodyTime) → ended_by p b ≡ true → (p.end ≤ b.begin) × (p.end < b.end)
ended p b h = (grind (arith, nat_tests), grind (arith, nat_tests))

pub goes-back : (run : Run) (b : Body) → IfSome (previous run (Some b)) (λ p. (p.time.end ≤ b.time.begin) × (p.time.end < b.time.end))
goes-back run b =
    found-passes (had_to_end run.tree (needs run b)) (λ p. (p.time.end ≤ b.time.begin) × (p.time.end < b.time.end))
    (λ p h. ended p.time b.time (both-first (ended_by p.time b.time) _ h)) (latest_first run.bodies (length run.tree))

pub whole : (run : Run) (more : ℕ) → back_from run (length (ran run.bodies (length run.tree)) + more) (previous run None) ≡ critical run
whole run more =
    let nodes = length run.tree in
    let most = length (ran run.bodies nodes) in
    let few : length (latest_first run.bodies nodes) ≤ most = omega (arith, latest-length run.bodies nodes) in
    let falls = latest-falls run.bodies nodes in
    sym (walked-all run (most + more) falls (omega arith)) ∙ walked-all run most falls few
