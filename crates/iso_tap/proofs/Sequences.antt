-- Texts that are written one after another.
use Rattle.std.proofs.Common.{◌≡◌, ◌≢◌, ℕ, zero, suc, ◌+◌, ◌-◌, ◌≤◌, ◌<◌, List, [], ◌∷◌, ◌++◌, length, take, drop, Option, None, Some, Result, Ok, Err, OnErr, subst, true, false, refl, sym, ap, ◌∙◌, arith, append_assoc, append-nil, length-append}
use Rattle.std.proofs.lemmas.Grind.{common_steps}
use Rattle.std.proofs.lemmas.List.{take-append-le, take-append-drop}
use Rattle.std.proofs.Math.Seq.{take-append-add}
use Rattle.iso_tap.specs.Sinks.{Account, appended, Took, TookNothing, failures_after, is_failure, HasFailed, Wrote, CutOff}

pub appended-nil : (o : Option (List ℕ)) → appended o [] ≡ o
appended-nil None = refl
appended-nil (Some bs) = ap Some (append-nil bs)

pub appended-append : (o : Option (List ℕ)) (s t : List ℕ) → appended (appended o s) t ≡ appended o (s ++ t)
appended-append None s t = refl
appended-append (Some bs) s t = ap Some (append_assoc bs s t)

pub Took-none : {a b : Account} → TookNothing a b → Took a b []
Took-none {a} h = record { bytes = h.bytes ∙ sym (appended-nil a.bytes); count = h.count ∙ omega arith }

pub Took-then : {a b c : Account} {s t : List ℕ} → Took a b s → Took b c t → Took a c (s ++ t)
Took-then {a} {b} {c} {s} {t} h k =
    record {
      bytes = k.bytes ∙ ap (λ o. appended o t) h.bytes ∙ appended-append a.bytes s t;
      count = simp length-append (omega arith);
    }

pub Wrote-none : (a : Account) → Wrote a a []
Wrote-none a = record { took = Took-none (record { bytes = refl; count = refl }); failures = refl }

-- two texts written
pub Wrote-then : {a b c : Account} {s t : List ℕ} → Wrote a b s → Wrote b c t → Wrote a c (s ++ t)
Wrote-then h k = record { took = Took-then h.took k.took; failures = k.failures ∙ h.failures }

-- the first of two texts cut off
pub CutOff-more : {a b : Account} {s : List ℕ} (t : List ℕ) → CutOff a b s → CutOff a b (s ++ t)
CutOff-more {a} {b} {s} t h =
    let fits : b.count - a.count ≤ length s = omega arith in
    record {
      begun = h.begun;
      within = simp length-append (omega arith);
      took = rw take-append-le h.took;
      failed = h.failed;
    }

HasFailed-from : (a b c : ℕ) → b ≡ a → HasFailed b c → HasFailed a c
HasFailed-from a b c e h = h ∙ ap (failures_after true) e

-- the second of two texts cut off
pub CutOff-then : {a b c : Account} {s t : List ℕ} → Wrote a b s → CutOff b c t → CutOff a c (s ++ t)
CutOff-then {a} {b} {c} {s} {t} h k =
    let count : b.count ≡ a.count + length s = h.took.count in
    let e : c.count - a.count ≡ length s + (c.count - b.count) = omega arith in
    record {
      begun = omega arith;
      within = simp length-append (omega arith);
      took = rw (e, take-append-add s t) (Took-then h.took k.took);
      failed = HasFailed-from _ _ _ h.failures k.failed;
    }

-- of the whole text this rest is left to write
pub record Left (start now : Account) (whole rest : List ℕ) : Type 0 where
  pub done : List ℕ
  pub split : whole ≡ done ++ rest
  pub wrote : Wrote start now done

pub Left-whole : (a : Account) (whole : List ℕ) → Left a a whole whole
Left-whole a whole = record { done = []; split = refl; wrote = Wrote-none a }

pub Left-step : {a b c : Account} {whole piece : List ℕ} (rest : List ℕ) → Left a b whole (piece ++ rest) → Wrote b c piece → Left a c whole rest
Left-step {piece = piece} rest h k =
    record { done = h.done ++ piece; split = h.split ∙ sym (append_assoc h.done piece rest); wrote = Wrote-then h.wrote k }

pub Left-end : {a b : Account} {whole : List ℕ} → Left a b whole [] → Wrote a b whole
Left-end h = rw (h.split, append-nil) h.wrote

pub Left-cut : {a b c : Account} {whole piece : List ℕ} (rest : List ℕ) → Left a b whole (piece ++ rest) → CutOff b c piece → CutOff a c whole
Left-cut rest h k = rw h.split (CutOff-then h.wrote (CutOff-more rest k))

not_failed : (E : Type 0) (n : ℕ) (piece : List ℕ) → n ≢ 0 → is_failure {E = E} (Ok n) piece ≡ false
not_failed E zero piece h = absurd (h refl)
not_failed E (suc n) piece h = refl

-- a sink took a part of what is left
pub Left-part : (E : Type 0) {a b c : Account} {whole : List ℕ} (rest : List ℕ) (n : ℕ) → n ≤ length rest → n ≢ 0 → Left a b whole rest → Took b c (take n rest)
    → c.failures ≡ failures_after (is_failure {E = E} (Ok n) rest) b.failures → Left a c whole (take (length rest - n) (drop n rest))
Left-part E {a} {b} {c} {whole} rest n h m left took failures =
    let e : take (length rest - n) (drop n rest) ≡ drop n rest = grind (arith, common_steps) in
    let f : c.failures ≡ b.failures = simp (not_failed E n rest m) at failures in
    rw e (Left-step (drop n rest) (rw take-append-drop left) (record { took = took; failures = f }))

-- the next piece of what is left, written or cut off
pub Left-turn : {a b c : Account} {whole now piece rest : List ℕ} → now ≡ piece ++ rest → Left a b whole now → Wrote b c piece → Left a c whole rest
Left-turn {a} {b} {c} {whole} e h k = Left-step _ (subst (Left a b whole) e h) k

pub Left-stop : {a b c : Account} {whole now piece : List ℕ} (rest : List ℕ) → now ≡ piece ++ rest → Left a b whole now → CutOff b c piece → CutOff a c whole
Left-stop {a} {b} {c} {whole} rest e h k = Left-cut _ (subst (Left a b whole) e h) k

-- what holds holds of any failed answer
pub on_err : {A E P : Type 0} (r : Result A E) → P → OnErr r P
on_err (Ok x) h = tt
on_err (Err e) h = h

failed_none : (E : Type 0) (piece : List ℕ) → 0 < length piece → is_failure {E = E} (Ok 0) piece ≡ true
failed_none E [] h = absurd (omega arith)
failed_none E (b ∷ bs) h = refl

-- the sink took nothing of what is left, and failed
pub Left-failed : {a b c : Account} {whole rest : List ℕ} → 0 < length rest → Left a b whole rest → TookNothing b c → c.failures ≡ failures_after true b.failures → CutOff a c whole
Left-failed {a} {b} {c} {whole} {rest} more left nothing failed =
    let none : c.count - b.count ≡ 0 = let e = nothing.count in omega arith in
    rw left.split (CutOff-then left.wrote (record {
      begun = let e = nothing.count in omega arith;
      within = let e = nothing.count in omega arith;
      took = rw none (Took-none nothing);
      failed = failed;
    }))

-- the sink took no byte of what is left
pub Left-zero : (E : Type 0) {a b c : Account} {whole rest : List ℕ} → 0 < length rest → Left a b whole rest
    → Took b c (take 0 rest) → c.failures ≡ failures_after (is_failure {E = E} (Ok 0) rest) b.failures → CutOff a c whole
Left-zero E {a} {b} {c} {whole} {rest} more left took failed =
    Left-failed more left
    (record { bytes = took.bytes ∙ appended-nil b.bytes; count = let e = took.count in omega arith })
    (failed ∙ ap (λ t. failures_after t b.failures) (failed_none E rest more))
