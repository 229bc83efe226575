-- How many workers await a call.
use Rattle.std.proofs.Common.{◌≡◌, ℕ, ◌+◌, ◌<◌, ◌≤◌, ◌^◌, List, [], ◌∷◌, length, set, Bool, true, false, cond, arith}
use Rattle.std.proofs.lemmas.List.{length-set}
use Rattle.std.proofs.lemmas.List.Sums.{sum_by-cons, sum_by-set}
use Rattle.iso_desk.specs.Crews.{awaiting_in, awaits, fresh, member_of}
use Rattle.iso_desk.specs.declared.crew.Member.{Member}

abbrev weight : Member → ℕ
weight m = cond (awaits m) 1 0

at-most-one : (b : Bool) → cond b 1 0 ≤ 1
at-most-one true = omega arith
at-most-one false = omega arith

-- no more await a call than there are
pub few : (ms : List Member) → awaiting_in ms ≤ length ms
few [] = omega arith
few (m ∷ ms) =
    let one = at-most-one (awaits m) in
    let rest = few ms in
    let split : awaiting_in (m ∷ ms) ≡ weight m + awaiting_in ms = sum_by-cons weight m ms in
    omega arith

-- there is room for one more that awaits a call, where it didn't
pub has-room : (ms : List Member) (w : ℕ) (m : Member) (count : ℕ) → w < length ms → length ms < 2 ^ 64 → count ≡ awaiting_in ms
    → count + weight m < 2 ^ 64 + weight (member_of ms w)
has-room ms w m count h small c =
    let moved : awaiting_in (set ms w m) + weight (member_of ms w) ≡ awaiting_in ms + weight m = sum_by-set weight ms w m fresh h in
    let top : awaiting_in (set ms w m) ≤ length (set ms w m) = few (set ms w m) in
    let long = length-set ms w m in
    omega arith
