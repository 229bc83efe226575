-- All events of a run by worker 0 alone are worker 0's.
use Rattle.std.proofs.Common.{◌≡◌, ℕ, zero, suc, List, [], ◌∷◌, ◌++◌, replicate, refl}
use Rattle.std.specs.List.{AllByRecursion}
use Rattle.iso_isolation.specs.Events.{Event, Enter, Leave, Shut, Step}
use Rattle.iso_isolation.specs.Runs.{after_all_of, full, steps_needed, with_steps}
use Rattle.iso_isolation.specs.Suites.{Suite}
use Rattle.iso_model.specs.declared.resource.Resource.{Resource}
use Rattle.iso_plan.specs.Tree.{Row}
use Rattle.iso_record.specs.SerialRuns.{AreHistories, IsNodeHistory, left_out, of_class, of_next, of_none, of_test}
use Rattle.iso_standing.specs.CodeEvents.{events_of, worker_of}
use Rattle.iso_standing.specs.declared.event.Event as Code
use Rattle.iso_standing.specs.declared.event.Event.TheVariants as C
use Rattle.iso_suites.specs.ScriptLanguage.{Head, scripts}
use Rattle.iso_suites.specs.SuiteStates.{RunState}

abbrev IsFirsts : Event → Type 0
IsFirsts (Enter w n) = w ≡ 0
IsFirsts (Step w) = w ≡ 0
IsFirsts (Leave w) = w ≡ 0
IsFirsts (Shut w n) = w ≡ 0

abbrev AreFirsts : List Event → Type 0
AreFirsts es = AllByRecursion IsFirsts es

both : (es fs : List Event) → AreFirsts es → AreFirsts fs → AreFirsts (es ++ fs)
both [] fs p q = q
both (e ∷ es) fs p q = (p.0, both es fs p.1 q)

mutual
  of_node : {tree : List Row} {n : ℕ} {h : List Event} → IsNodeHistory tree n h → AreFirsts h
  of_node (of_test t) = (refl, (refl, tt))
  of_node (of_class {n = n} {h = h} hs) = (refl, (refl, both h (Shut 0 n ∷ Leave 0 ∷ []) (of_nodes hs) (refl, (refl, tt))))

  of_nodes : {tree : List Row} {ns : List ℕ} {h : List Event} → AreHistories tree ns h → AreFirsts h
  of_nodes of_none = tt
  of_nodes (of_next {g = g} {h = h} a b) = both g h (of_node a) (of_nodes b)
  of_nodes (left_out b) = of_nodes b

many : (i w : ℕ) → w ≡ 0 → AreFirsts (replicate i (Step w))
many zero w e = tt
many (suc i) w e = (e, many i w e)

module _ (x : Suite Head (List ℕ) Resource) where
  with_theirs : (s : RunState) (e : Event) → IsFirsts e → AreFirsts (with_steps scripts x s e)
  with_theirs s (Enter w n) p = (p, tt)
  with_theirs s (Step w) p = (p, tt)
  with_theirs s (Shut w n) p = (p, tt)
  with_theirs s (Leave w) p = both (replicate (steps_needed scripts x s w) (Step w)) (Leave w ∷ []) (many (steps_needed scripts x s w) w p) (p, tt)

  in_full : (s : RunState) (h : List Event) → AreFirsts h → AreFirsts (full scripts x s h)
  in_full s [] p = tt
  in_full s (e ∷ h) p =
      let es = with_steps scripts x s e in
      both es (full scripts x (after_all_of scripts x s es) h) (with_theirs s e p.0) (in_full (after_all_of scripts x s es) h p.1)

of_code : (es : List Code.Event) → AreFirsts (events_of es) → AllByRecursion (λ e. worker_of e ≡ 0) es
of_code [] p = tt
of_code (C.Enter w n ∷ es) p = (p.0, of_code es p.1)
of_code (C.Step w ∷ es) p = (p.0, of_code es p.1)
of_code (C.Leave w ∷ es) p = (p.0, of_code es p.1)
of_code (C.Shut w n ∷ es) p = (p.0, of_code es p.1)

pub all_firsts : (x : Suite Head (List ℕ) Resource) (s : RunState) (tree : List Row) (ns : List ℕ) (h : List Event) (es : List Code.Event) → AreHistories tree ns h
    → events_of es ≡ full scripts x s h → AllByRecursion (λ e. worker_of e ≡ 0) es
all_firsts x s tree ns h es are e =
    let p = in_full x s h (of_nodes are) in
    of_code es (rw e p)
