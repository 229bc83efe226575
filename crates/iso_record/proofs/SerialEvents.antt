-- Which events are accepted in a run by worker 0 alone.
use Rattle.std.proofs.Common.{◌≡◌, ℕ, zero, suc, ◌<◌, List, Option, None, is_some, is_none, Bool, true, false, not, ◌&&◌, eqb, refl, ap, subst, arith, eqb-true, ne_eqb, length}
use Rattle.std.specs.Option.{option_map}
use Rattle.iso_isolation.proofs.Locks.{on_le}
use Rattle.iso_isolation.specs.Events as E
use Rattle.iso_isolation.specs.Events.{where_some}
use Rattle.iso_isolation.specs.Histories.{IsHistory, state_of}
use Rattle.iso_isolation.specs.Refusals as Why
use Rattle.iso_isolation.specs.Refusals.{Refused, any_below, has_unfinished_child, has_unfinished_sibling, is_root, is_unfinished_child, is_unfinished_sibling, lock_held, lowest_below}
use Rattle.iso_isolation.specs.Runs.{full, is_accepted}
use Rattle.iso_isolation.specs.States as S
use Rattle.iso_isolation.specs.States.{body_in, first, is_at_rest, is_finished, is_held, is_open, is_waiting}
use Rattle.iso_isolation.specs.Suites.{On, Suite, SuiteLaws, same, up}
use Rattle.iso_lifecycle.specs.Subjects.{started}
use Rattle.iso_model.specs.declared.resource.Resource.{Resource}
use Rattle.iso_plan.proofs.LawLemmas.{conflict-apart}
use Rattle.iso_plan.specs.Locks.{conflict}
use Rattle.iso_plan.specs.Paths.{IsTree, parent}
use Rattle.iso_plan.specs.Planned.{Planned}
use Rattle.iso_plan.specs.RowView.{tree_of}
use Rattle.iso_progress.proofs.Answering.{searched}
use Rattle.iso_progress.proofs.Descent.{enter_test}
use Rattle.iso_progress.proofs.Lowest.{none_found}
use Rattle.iso_progress.specs.Candidates.{NoneAtWork}
use Rattle.iso_progress.specs.NeverStuck.{IsReached, SearchServes}
use Rattle.iso_settings.specs.Worlds.{Start}
use Rattle.iso_record.specs.SerialWalks.{BetweenNodes, ComesNext, phase_in, rest_of}
use Rattle.iso_record.proofs.SerialStates.{NodeStatus}
use Rattle.iso_standing.specs.Phases.{phase_of}
use Rattle.iso_standing.specs.declared.phase.Phase.TheVariants.{Finished, Open, Waiting}
use Rattle.iso_suites.proofs.LanguageLaws.{scripts-laws}
use Rattle.iso_suites.proofs.PlanOpenings.{laws}
use Rattle.iso_suites.proofs.Progressing.{progress-laws}
use Rattle.iso_suites.proofs.SuiteLaws.{on-under}
use Rattle.iso_suites.specs.ScriptLanguage.{Head, scripts}
use Rattle.iso_suites.specs.SuiteStates.{RunState, suite_at}

waiting_by : (st : NodeStatus) → phase_of st ≡ Waiting → is_waiting st ≡ true
waiting_by S.Waiting e = refl
waiting_by (S.Begun b) e = absurd cc
waiting_by (S.Open fs) e = absurd cc
waiting_by (S.Barred fs) e = absurd cc
waiting_by (S.Closing fs b) e = absurd cc
waiting_by (S.Finished r) e = absurd cc

open_by : (st : NodeStatus) → phase_of st ≡ Open → is_open st ≡ true
open_by (S.Open fs) e = refl
open_by S.Waiting e = absurd cc
open_by (S.Begun b) e = absurd cc
open_by (S.Barred fs) e = absurd cc
open_by (S.Closing fs b) e = absurd cc
open_by (S.Finished r) e = absurd cc

pub finished_by : (st : NodeStatus) → phase_of st ≡ Finished → is_finished st ≡ true
finished_by (S.Finished r) e = refl
finished_by S.Waiting e = absurd cc
finished_by (S.Begun b) e = absurd cc
finished_by (S.Open fs) e = absurd cc
finished_by (S.Barred fs) e = absurd cc
finished_by (S.Closing fs b) e = absurd cc

rests_by : (w : Bool) (st : NodeStatus) → phase_of st ≡ rest_of w → is_at_rest st ≡ true
rests_by true (S.Open fs) e = refl
rests_by true S.Waiting e = absurd cc
rests_by true (S.Begun b) e = absurd cc
rests_by true (S.Barred fs) e = absurd cc
rests_by true (S.Closing fs b) e = absurd cc
rests_by true (S.Finished r) e = absurd cc
rests_by false (S.Barred fs) e = refl
rests_by false S.Waiting e = absurd cc
rests_by false (S.Begun b) e = absurd cc
rests_by false (S.Open fs) e = absurd cc
rests_by false (S.Closing fs b) e = absurd cc
rests_by false (S.Finished r) e = absurd cc

-- of three and four tests, where they all pass the last fails
fails_last : (a b c d : Bool) → (a ≡ true → b ≡ true → d ≡ true) → (a && b && c && not d) ≡ false
fails_last true true true d f = ap not (f refl refl)
fails_last true true false d f = refl
fails_last true false c d f = refl
fails_last false b c d f = refl

fails_third : (a b d : Bool) → (a ≡ true → b ≡ true → d ≡ true) → (a && b && not d) ≡ false
fails_third true true d f = ap not (f refl refl)
fails_third true false d f = refl
fails_third false b d f = refl

and_false : (a b : Bool) → b ≡ false → (a && b) ≡ false
and_false true b e = e
and_false false b e = refl

pub not_root : (n : ℕ) → not (is_root n) ≡ true → 0 < n
not_root zero e = absurd cc
not_root (suc n) e = omega arith

inner : (n : ℕ) → 0 < n → is_root n ≡ false
inner n pos = ne_eqb n 0 (λ e. absurd (omega arith))

shut_test : (a b c : Bool) → a ≡ false → b ≡ true → c ≡ false → (not a && b && not c) ≡ true
shut_test false true c e f g = ap not g
shut_test true b c e f g = absurd cc
shut_test false false c e f g = absurd cc

module _ (plan : Planned) (world : Start) (tree : IsTree (tree_of plan)) (workers : ℕ) (manned : 0 < workers) where
  abbrev x : Suite Head (List ℕ) Resource
  x = suite_at plan world

  suite_laws : SuiteLaws scripts x
  suite_laws = laws plan world tree

  module _ (h : List E.Event) (is : IsHistory scripts x workers h) where
    abbrev s : RunState
    s = state_of scripts x h

    reached : IsReached scripts x workers s
    reached = record { manned = manned; events = full scripts x (first scripts x) h; run = is.run; state = refl }

    serves : SearchServes scripts x workers s
    serves = searched scripts x suite_laws scripts-laws (progress-laws (tree_of plan) tree plan.settings (started world)) workers s reached

    at_rest : {c : ℕ} → BetweenNodes x c s → NoneAtWork scripts x workers s
    at_rest between w lt = ap (λ (o : Option ℕ). is_some (where_some o None (λ n. body_in (s.nodes.status n)))) (between.free w)

    module _ (n : ℕ) (pos : 0 < n) (within : n < length (tree_of plan)) where
      -- what is around a node doesn't conflict with it
      apart : (m : ℕ) → On x m (parent (tree_of plan) n) → conflict (tree_of plan) m n ≡ true → ⊥
      apart zero on c = let free = (progress-laws (tree_of plan) tree plan.settings (started world)).root n in absurd cc
      apart (suc m) on c =
          let e : suc m ≡ n = conflict-apart (tree_of plan) tree.below (suc m) n c
          (on-under (tree_of plan) tree plan.settings (started world) (suc m) (omega arith) (up (λ z. absurd (omega arith)) on)) in
          let le = on_le scripts x suite_laws on in
          let below = tree.below n pos in
          omega arith

      module _ (between : BetweenNodes x (parent (tree_of plan) n) s) (next : ComesNext x n s) where
        no_sibling : has_unfinished_sibling scripts x workers s n ≡ false
        no_sibling = ap is_some (none_found n (is_unfinished_sibling scripts x workers s n) (λ m lt.
            fails_last (not (is_root m)) (eqb (x.parent m) (x.parent n)) (x.is_same_thread m) (is_finished (s.nodes.status m))
            (λ r p. finished_by (s.nodes.status m) (next.earlier m (not_root m r) lt (eqb-true (x.parent m) (x.parent n) p)))))

        unlocked : (m : ℕ) (a b : Bool) → is_held (s.nodes.status m) ≡ a → conflict (tree_of plan) m n ≡ b → (a && b) ≡ false
        unlocked m false b e f = refl
        unlocked m true false e f = refl
        unlocked m true true e f = absurd (apart m (between.held m e) f)

        no_lock : is_none (lock_held scripts x workers s n) ≡ true
        no_lock =
            ap (λ (o : Option ℕ). is_none (option_map (λ (m : ℕ). Why.LockHeld m) o))
            (none_found x.nodes (λ m. is_held (s.nodes.status m) && x.conflict m n) (λ m lt. unlocked m (is_held (s.nodes.status m)) (x.conflict m n) refl refl))

        pub enter_ok : is_accepted scripts x workers s (E.Enter 0 n) ≡ true
        enter_ok =
            subst (λ (w : ℕ). is_accepted scripts x workers s (E.Enter w n) ≡ true) (between.owned (parent (tree_of plan) n))
            (serves.enter n within (at_rest between)
            (enter_test (is_root n) (is_waiting (s.nodes.status n)) (is_open (s.nodes.status (x.parent n))) (x.is_same_thread n && has_unfinished_sibling scripts x workers s n)
            (is_none (lock_held scripts x workers s n)) (inner n pos) (waiting_by (s.nodes.status n) (next.waits n same)) (open_by (s.nodes.status (x.parent n)) next.opened)
            (and_false (x.is_same_thread n) (has_unfinished_sibling scripts x workers s n) no_sibling) no_lock))

      -- a class whose children are finished is shut
      module _ (between : BetweenNodes x n s) (w : Bool) (rests : phase_in s n ≡ rest_of w) (children : (m : ℕ) → m < x.nodes → 0 < m → x.parent m ≡ n → phase_in s m ≡ Finished) where
        no_child : has_unfinished_child scripts x workers s n ≡ false
        no_child = ap is_some (none_found x.nodes (is_unfinished_child scripts x workers s n) (λ m lt.
            fails_third (not (is_root m)) (eqb (x.parent m) n) (is_finished (s.nodes.status m))
            (λ r p. finished_by (s.nodes.status m) (children m lt (not_root m r) (eqb-true (x.parent m) n p)))))

        pub shut_ok : is_accepted scripts x workers s (E.Shut 0 n) ≡ true
        shut_ok =
            subst (λ (v : ℕ). is_accepted scripts x workers s (E.Shut v n) ≡ true) (between.owned n)
            (serves.shut n within (at_rest between)
            (shut_test (is_root n) (is_at_rest (s.nodes.status n)) (is_open (s.nodes.status n) && has_unfinished_child scripts x workers s n)
            (inner n pos) (rests_by w (s.nodes.status n) rests) (and_false (is_open (s.nodes.status n)) (has_unfinished_child scripts x workers s n) no_child)))
