-- States of a run by worker 0 alone.
use Rattle.std.proofs.Common.{◌≡◌, ℕ, List, replicate, Option, Bool, true, false, cond, ◌&&◌, refl, sym, ap, subst, ◌∙◌}
use Rattle.iso_isolation.proofs.Accepted.{HasBody}
use Rattle.iso_isolation.proofs.Changes.{put_elsewhere, put_here, unmoved}
use Rattle.iso_isolation.proofs.Statuses.{body_unseen}
use Rattle.iso_isolation.specs.Events as E
use Rattle.iso_isolation.specs.Events.{after, barring, ended_well, frames_left, is_in, leaving, open_or_barred, opening_left, stands_in, stepping, where_some}
use Rattle.iso_isolation.specs.Restoring.{finishing}
use Rattle.iso_isolation.specs.Runs.{after_all_of, is_run}
use Rattle.iso_isolation.specs.States as S
use Rattle.iso_isolation.specs.States.{body_in, is_finished, is_held, is_open, is_waiting, put, with_body}
use Rattle.iso_isolation.specs.Suites.{Suite}
use Rattle.iso_model.specs.declared.resource.Resource.{Resource}
use Rattle.iso_record.specs.SerialWalks.{left_in, phase_in, rest_of}
use Rattle.iso_standing.specs.Phases.{phase_of}
use Rattle.iso_standing.specs.declared.phase.Phase.TheVariants.{Barred, Begun, Closing, Finished, Waiting}
use Rattle.iso_suites.proofs.HistoryLeaves.{kept-by-steps}
use Rattle.iso_suites.specs.ScriptLanguage.{Head, is_of_test, scripts}
use Rattle.iso_suites.specs.SuiteStates.{RunNodes, RunState}
use Rattle.iso_model.specs.Bodies.{Stage}
use Rattle.iso_model.specs.Openings.{Frame}
use Rattle.iso_model.specs.declared.outcome.Outcome.{Outcome}

abbrev pub NodeStatus : Type 0
NodeStatus = S.Status Stage Frame Outcome

-- a state looks as another one, but for values and bodies
pub record SameLook (s t : RunState) : Type 0 where
  pub phases : (m : ℕ) → phase_in t m ≡ phase_in s m
  pub busy : (w : ℕ) → t.busy w ≡ s.busy w
  pub owner : (m : ℕ) → t.owner m ≡ s.owner m

still : (s : RunState) → SameLook s s
still s = record { phases = λ m. refl; busy = λ w. refl; owner = λ m. refl }

module _ (x : Suite Head (List ℕ) Resource) where
  -- Steps change values and bodies alone
  step_looks : (workers w : ℕ) (s t : RunState) → HasBody scripts x workers t w → SameLook s t → SameLook s (after scripts x t (E.Step w))
  step_looks workers w s t h look =
      record {
        phases = λ m. ap (λ (q : RunNodes). phase_of (q.status m)) nodes
            ∙ unmoved phase_of h.node _ t.nodes.status (body_unseen phase_of (λ b c. refl) (λ fs b c. refl) (t.nodes.status h.node) _) m ∙ look.phases m;
        busy = look.busy;
        owner = look.owner;
      }
    where
      nodes : (after scripts x t (E.Step w)).nodes ≡ stepping scripts x h.node t.nodes h.body
      nodes =
          ap (λ (o : Option ℕ). where_some o t.nodes (λ n. where_some (body_in (t.nodes.status n)) t.nodes (stepping scripts x n t.nodes))) h.busy
          ∙ ap (λ (o : Option Stage). where_some o t.nodes (stepping scripts x h.node t.nodes)) h.here

  pub steps_look : (workers w i : ℕ) (s : RunState) → is_run scripts x workers s (replicate i (E.Step w)) ≡ true
      → SameLook s (after_all_of scripts x s (replicate i (E.Step w)))
  steps_look workers w i s run = kept-by-steps x workers w (SameLook s) (λ t h look. step_looks workers w s t h look) i s run (still s)

  -- the Leave of a last body finishes its node alone
  pub record IsFinished (n : ℕ) (s t : RunNodes) : Type 0 where
    pub here : phase_of (t.status n) ≡ Finished
    pub there : (m : ℕ) → (m ≡ n → ⊥) → t.status m ≡ s.status m

  finished : (n : ℕ) (r : Outcome) (s : RunNodes) → IsFinished n s (finishing scripts x n r s)
  finished n r s = record {
    here = ap phase_of (put_here n (S.Finished r) s.status);
    there = λ m ne. put_elsewhere m n (S.Finished r) s.status ne;
  }

  pub left_test : (n : ℕ) (s : RunNodes) (st : NodeStatus) → phase_of st ≡ Begun → is_of_test (x.head n) ≡ true → IsFinished n s (leaving scripts x n s st)
  left_test n s (S.Begun b) e test =
      subst (λ (t : Bool). IsFinished n s (cond t (finishing scripts x n (scripts.test_result b) s)
      (cond (ended_well scripts x n b s) (opening_left scripts x n b s) (barring scripts x n (frames_left scripts x n b s) (opening_left scripts x n b s))))) (sym test)
      (finished n (scripts.test_result b) s)
  left_test n s S.Waiting e test = absurd cc
  left_test n s (S.Open fs) e test = absurd cc
  left_test n s (S.Barred fs) e test = absurd cc
  left_test n s (S.Closing fs b) e test = absurd cc
  left_test n s (S.Finished r) e test = absurd cc

  pub left_closing : (n : ℕ) (s : RunNodes) (st : NodeStatus) → phase_of st ≡ Closing → IsFinished n s (leaving scripts x n s st)
  left_closing n s (S.Closing fs b) e = finished n (scripts.class_result fs b) s
  left_closing n s S.Waiting e = absurd cc
  left_closing n s (S.Open fs) e = absurd cc
  left_closing n s (S.Barred fs) e = absurd cc
  left_closing n s (S.Begun b) e = absurd cc
  left_closing n s (S.Finished r) e = absurd cc

  -- the Leave of a first body of a class opens it, or bars it and finishes what waits in it
  pub record IsLeftAt (n : ℕ) (s t : RunNodes) : Type 0 where
    pub well : Bool
    pub here : phase_of (t.status n) ≡ rest_of well
    pub inside : (m : ℕ) → (m ≡ n → ⊥) → stands_in scripts x m n ≡ true → phase_of (s.status m) ≡ Waiting → phase_of (t.status m) ≡ left_in well
    pub others : (m : ℕ) → (m ≡ n → ⊥) → stands_in scripts x m n ≡ false → phase_of (t.status m) ≡ phase_of (s.status m)

  barred_stays : (a : Bool) (st : NodeStatus) (r : Outcome) → phase_of st ≡ Barred → phase_of (cond (a && is_waiting st) (S.Finished r) st) ≡ Barred
  barred_stays true (S.Barred fs) r e = refl
  barred_stays true S.Waiting r e = absurd cc
  barred_stays true (S.Begun b) r e = absurd cc
  barred_stays true (S.Open fs) r e = absurd cc
  barred_stays true (S.Closing fs b) r e = absurd cc
  barred_stays true (S.Finished q) r e = absurd cc
  barred_stays false st r e = e

  waiting_ends : (a : Bool) (st : NodeStatus) (r : Outcome) → a ≡ true → phase_of st ≡ Waiting → phase_of (cond (a && is_waiting st) (S.Finished r) st) ≡ Finished
  waiting_ends true S.Waiting r t e = refl
  waiting_ends true (S.Barred fs) r t e = absurd cc
  waiting_ends true (S.Begun b) r t e = absurd cc
  waiting_ends true (S.Open fs) r t e = absurd cc
  waiting_ends true (S.Closing fs b) r t e = absurd cc
  waiting_ends true (S.Finished q) r t e = absurd cc
  waiting_ends false st r t e = absurd cc

  outside_stays : (a : Bool) (st : NodeStatus) (r : Outcome) → a ≡ false → phase_of (cond (a && is_waiting st) (S.Finished r) st) ≡ phase_of st
  outside_stays true st r f = absurd cc
  outside_stays false st r f = refl

  left_first : (n : ℕ) (b : Stage) (s : RunNodes) (w : Bool) → ended_well scripts x n b s ≡ w
      → IsLeftAt n s (cond w (opening_left scripts x n b s) (barring scripts x n (frames_left scripts x n b s) (opening_left scripts x n b s)))
  left_first n b s true e = record {
    well = true;
    here = ap phase_of (put_here n (open_or_barred (ended_well scripts x n b s) (frames_left scripts x n b s)) s.status)
        ∙ ap (λ (t : Bool). phase_of (open_or_barred {B = Stage} {F = Frame} {R = Outcome} t (frames_left scripts x n b s))) e;
    inside = λ m ne st wait. ap phase_of (put_elsewhere m n _ s.status ne) ∙ wait;
    others = λ m ne st. ap phase_of (put_elsewhere m n _ s.status ne);
  }
  left_first n b s false e =
      let o : RunNodes = opening_left scripts x n b s in
      let r = scripts.blocked (frames_left scripts x n b s) in
      record {
        well = false;
        here = barred_stays (stands_in scripts x n n) (o.status n) r
            (ap phase_of (put_here n (open_or_barred (ended_well scripts x n b s) (frames_left scripts x n b s)) s.status)
            ∙ ap (λ (t : Bool). phase_of (open_or_barred {B = Stage} {F = Frame} {R = Outcome} t (frames_left scripts x n b s))) e);
        inside = λ m ne st wait. waiting_ends (stands_in scripts x m n) (o.status m) r st (ap phase_of (put_elsewhere m n _ s.status ne) ∙ wait);
        others = λ m ne st. outside_stays (stands_in scripts x m n) (o.status m) r st ∙ ap phase_of (put_elsewhere m n _ s.status ne);
      }

  pub left_class : (n : ℕ) (s : RunNodes) (st : NodeStatus) → phase_of st ≡ Begun → is_of_test (x.head n) ≡ false → IsLeftAt n s (leaving scripts x n s st)
  left_class n s (S.Begun b) e class =
      subst (λ (t : Bool). IsLeftAt n s (cond t (finishing scripts x n (scripts.test_result b) s)
      (cond (ended_well scripts x n b s) (opening_left scripts x n b s) (barring scripts x n (frames_left scripts x n b s) (opening_left scripts x n b s))))) (sym class)
      (left_first n b s (ended_well scripts x n b s) refl)
  left_class n s S.Waiting e class = absurd cc
  left_class n s (S.Open fs) e class = absurd cc
  left_class n s (S.Barred fs) e class = absurd cc
  left_class n s (S.Closing fs b) e class = absurd cc
  left_class n s (S.Finished r) e class = absurd cc
