-- Runs by worker 0 alone: how a node is run, and what stands in a class.
use Rattle.std.proofs.Common.{◌≡◌, ℕ, zero, suc, ◌<◌, ◌≤◌, ◌+◌, List, [], ◌∷◌, ◌++◌, ◌⊎◌, inl, inr, length, get_or, take, Option, is_some, Bool, true, false, not, ◌&&◌, refl, sym, ap, subst, ◌∙◌, arith, append_assoc, append-nil, add-one, take-suc, take_all}
use Rattle.std.proofs.lemmas.Bool.{cases_eq, cases_lt}
use Rattle.iso_isolation.proofs.Changes.{equal_or_not, put_elsewhere}
use Rattle.iso_isolation.proofs.Locks.{on_le, step_down}
use Rattle.iso_isolation.proofs.Openings.{along}
use Rattle.iso_isolation.specs.Events.{Event, Enter, Leave, Shut}
use Rattle.iso_isolation.specs.Histories.{IsHistory}
use Rattle.iso_isolation.specs.Refusals.{is_root}
use Rattle.iso_isolation.specs.Runs.{is_complete}
use Rattle.iso_isolation.specs.States as S
use Rattle.iso_isolation.specs.States.{is_finished, is_held}
use Rattle.iso_isolation.specs.Suites.{On, Suite, SuiteLaws, same, up}
use Rattle.iso_model.specs.declared.resource.Resource.{Resource}
use Rattle.iso_plan.proofs.ChildLemmas.{child-is, listed}
use Rattle.iso_plan.specs.Children.{IsChild, IsListed}
use Rattle.iso_plan.specs.Paths.{IsTree, children, is_test, parent, row_at}
use Rattle.iso_plan.specs.Planned.{Planned}
use Rattle.iso_plan.specs.RowView.{tree_of}
use Rattle.iso_plan.specs.Tree.{Kind, Row, class_node, root, test_node}
use Rattle.iso_progress.proofs.Lowest.{none_found}
use Rattle.iso_settings.specs.Worlds.{Start}
use Rattle.iso_record.proofs.SerialEvents.{finished_by, not_root}
use Rattle.iso_record.proofs.SerialStates.{NodeStatus}
use Rattle.iso_record.proofs.SerialTrees.{in_class, not_class, one_child, rising}
use Rattle.iso_record.proofs.SerialTurns as T
use Rattle.iso_record.specs.SerialRuns.{AreHistories, HasClosed, HasOpened, HasRun, HasRunInside, HasRunSome, HasRunTest, IsBetween, IsNodeHistory, MayClose, MayRun, MayRunInside, after_history, left_out, of_class, of_next, of_none, of_test}
use Rattle.iso_record.specs.SerialWalks.{left_in, phase_in, rest_of}
use Rattle.iso_standing.specs.Phases.{phase_of}
use Rattle.iso_standing.specs.declared.phase.Phase.{Phase}
use Rattle.iso_standing.specs.declared.phase.Phase.TheVariants.{Finished, Open, Waiting}
use Rattle.iso_suites.proofs.LanguageLaws.{scripts-laws}
use Rattle.iso_suites.proofs.PlanOpenings.{laws}
use Rattle.iso_suites.specs.PlanSuites.{head_of}
use Rattle.iso_suites.specs.ScriptLanguage.{Head, is_of_test, scripts}
use Rattle.iso_suites.specs.SuiteStates.{suite_at}

test_head : (k : Kind) → is_test k ≡ true → is_of_test (head_of k) ≡ true
test_head root e = absurd cc
test_head (class_node isolated head) e = absurd cc
test_head (test_node head) e = refl

class_head : (k : Kind) → is_test k ≡ false → is_of_test (head_of k) ≡ false
class_head root e = refl
class_head (class_node isolated head) e = refl
class_head (test_node head) e = absurd cc

-- one node more in a list of histories
pub one_more : {tree : List Row} {ns : List ℕ} {h g : List Event} {n : ℕ} → AreHistories tree ns h → IsNodeHistory tree n g → AreHistories tree (ns ++ n ∷ []) (h ++ g)
one_more {tree} {g = g} {n = n} of_none k = subst (AreHistories tree (n ∷ [])) (append-nil g) (of_next k of_none)
one_more {tree} {g = g} {n = n} (of_next {ns = ns} {g = f} {h = h} a b) k =
    subst (AreHistories tree _) (sym (append_assoc f h g)) (of_next a (one_more b k))
one_more (left_out b) k = left_out (one_more b k)

pub one_out : {tree : List Row} {ns : List ℕ} {h : List Event} (n : ℕ) → AreHistories tree ns h → AreHistories tree (ns ++ n ∷ []) h
one_out n of_none = left_out of_none
one_out n (of_next a b) = of_next a (one_out n b)
one_out n (left_out b) = left_out (one_out n b)

module _ (plan : Planned) (world : Start) (workers : ℕ) (tree : IsTree (tree_of plan)) where
  abbrev x : Suite Head (List ℕ) Resource
  x = suite_at plan world

  x_laws : SuiteLaws scripts x
  x_laws = laws plan world tree

  abbrev phase : List Event → ℕ → Phase
  phase h m = phase_in (after_history plan world workers h) m

  -- a node is entered, and its first body left
  module _ (n : ℕ) (h : List Event) (may : MayRun plan world workers n h) where
    abbrev first_done : List Event
    first_done = (h ++ Enter 0 n ∷ []) ++ Leave 0 ∷ []

    pub enter_history : IsHistory scripts x workers (h ++ Enter 0 n ∷ [])
    enter_history = T.entered_history plan world tree workers may.at.manned h may.at.history n may.positive may.within may.at.between may.next

    pub first_history : IsHistory scripts x workers first_done
    first_history = T.first_history plan world tree workers may.at.manned h may.at.history n may.positive may.within may.at.between may.next

    pub run_test : is_test (row_at (tree_of plan) n).kind ≡ true → HasRunTest plan world workers n h first_done
    run_test test =
        let of_test = test_head (row_at (tree_of plan) n).kind test in
        record {
          at = record {
            manned = may.at.manned;
            history = first_history;
            between = T.test_between plan world tree workers may.at.manned h may.at.history n may.positive may.within may.at.between may.next of_test;
          };
          done = T.test_done plan world tree workers may.at.manned h may.at.history n may.positive may.within may.at.between may.next of_test;
          more = refl;
        }

    pub opened : is_test (row_at (tree_of plan) n).kind ≡ false → HasOpened plan world workers n h first_done
    opened class =
        let of_class = class_head (row_at (tree_of plan) n).kind class in
        record {
          at = record {
            manned = may.at.manned;
            history = first_history;
            between = T.class_between plan world tree workers may.at.manned h may.at.history n may.positive may.within may.at.between may.next of_class;
          };
          opened = T.class_opened plan world tree workers may.at.manned h may.at.history n may.positive may.within may.at.between may.next of_class;
          more = refl;
        }

  -- a class is shut, and its last body left
  module _ (n : ℕ) (h : List Event) (may : MayClose plan world workers n h) where
    abbrev last_done : List Event
    last_done = (h ++ Shut 0 n ∷ []) ++ Leave 0 ∷ []

    pub shut_history : IsHistory scripts x workers (h ++ Shut 0 n ∷ [])
    shut_history = T.shut_history plan world tree workers may.at.manned h may.at.history n may.positive may.within may.at.between may.well may.here may.children

    pub last_history : IsHistory scripts x workers last_done
    last_history = T.last_history plan world tree workers may.at.manned h may.at.history n may.positive may.within may.at.between may.well may.here may.children

    pub closed : HasClosed plan world workers n h last_done
    closed = record {
      at = record {
        manned = may.at.manned;
        history = last_history;
        between = T.closed_between plan world tree workers may.at.manned h may.at.history n may.positive may.within may.at.between may.well may.here may.children;
      };
      here = T.closed_here plan world tree workers may.at.manned h may.at.history n may.positive may.within may.at.between may.well may.here may.children;
      others = T.closed_there plan world tree workers may.at.manned h may.at.history n may.positive may.within may.at.between may.well may.here may.children;
      more = refl;
    }

  -- a class that was opened may be run inside
  pub may_inside : (n : ℕ) (h g : List Event) → n < length plan.rows → HasOpened plan world workers n h g → MayRunInside plan world workers n g
  may_inside n h g within o = record { within = within; at = o.at; well = o.opened.well; here = o.opened.here; inside = o.opened.inside }

  -- and after that be closed
  pub may_close : (n : ℕ) (h g : List Event) → 0 < n → MayRunInside plan world workers n h → HasRunInside plan world workers n h g → MayClose plan world workers n g
  may_close n h g pos may run = record {
    positive = pos;
    within = may.within;
    at = run.at;
    well = may.well;
    here = run.others n (λ ne on. ne refl) ∙ may.here;
    children = λ m lt positive is. run.done m lt
        (λ e. let below = tree.below m positive in absurd (omega arith))
        (up (λ z. absurd (omega arith)) (subst (λ (j : ℕ). On x j (parent (tree_of plan) m)) is same));
  }

  pub ran_test : (n : ℕ) (h g : List Event) → is_test (row_at (tree_of plan) n).kind ≡ true → HasRunTest plan world workers n h g → HasRun plan world workers n h g
  ran_test n h g test r = record {
    at = r.at;
    done = r.done;
    events = Enter 0 n ∷ Leave 0 ∷ [];
    history = of_test test;
    more = r.more ∙ append_assoc h (Enter 0 n ∷ []) (Leave 0 ∷ []);
  }

  -- a class was opened, run inside and closed
  module _ (n : ℕ) (h f g k : List Event) (o : HasOpened plan world workers n h f) (run : HasRunInside plan world workers n f g) (c : HasClosed plan world workers n g k) where
    history_of_class : k ≡ h ++ (Enter 0 n ∷ Leave 0 ∷ (run.events ++ Shut 0 n ∷ Leave 0 ∷ []))
    history_of_class =
        c.more
        ∙ append_assoc g (Shut 0 n ∷ []) (Leave 0 ∷ [])
        ∙ ap (λ (es : List Event). es ++ (Shut 0 n ∷ Leave 0 ∷ [])) run.more
        ∙ append_assoc f run.events (Shut 0 n ∷ Leave 0 ∷ [])
        ∙ ap (λ (es : List Event). es ++ (run.events ++ Shut 0 n ∷ Leave 0 ∷ [])) (o.more ∙ append_assoc h (Enter 0 n ∷ []) (Leave 0 ∷ []))
        ∙ append_assoc h (Enter 0 n ∷ Leave 0 ∷ []) (run.events ++ Shut 0 n ∷ Leave 0 ∷ [])

    pub ran_class : HasRun plan world workers n h k
    ran_class = record {
      at = c.at;
      done = record {
        done = λ m lt on. elim (equal_or_not m n) [
          | inl e ↦ ap (phase k) e ∙ c.here
          | inr ne ↦ c.others m ne ∙ run.done m lt ne on
        ];
        others = λ m out.
            c.others m (λ e. out (subst (λ (j : ℕ). On x n j) (sym e) same))
            ∙ run.others m (λ ne on. out on)
            ∙ o.opened.others m out;
      };
      events = Enter 0 n ∷ Leave 0 ∷ (run.events ++ Shut 0 n ∷ Leave 0 ∷ []);
      history = of_class run.history;
      more = history_of_class;
    }

  -- of the children of a class so many have run
  module _ (c : ℕ) (h : List Event) where
    abbrev cs : List ℕ
    cs = children (tree_of plan) c

    abbrev child : ℕ → ℕ
    child j = get_or cs j 0

    of_place : (j : ℕ) → j < length cs → IsChild (tree_of plan) c (length (tree_of plan)) (child j)
    of_place j lt = child-is (tree_of plan) c j lt

    live : (j : ℕ) → j < length cs → child j ≡ 0 → ⊥
    live j lt e = let p = (of_place j lt).positive in omega arith

    -- what stands in a child stands in the class
    inside : (j : ℕ) → j < length cs → (m : ℕ) → On x (child j) m → ((m ≡ c → ⊥) → On x c m → ⊥) → ⊥
    inside j lt m on out = out (not_class scripts x x_laws (live j lt) (of_place j lt).parent_is on) (in_class scripts x x_laws (live j lt) (of_place j lt).parent_is on)

    -- and in no other child
    other_place : (i j : ℕ) → i < length cs → j < length cs → child i ≡ child j → i < j → ⊥
    other_place i j a b e less = let r = rising (tree_of plan) c i j less b in omega arith

    apart : (i j : ℕ) → i < length cs → j < length cs → (i ≡ j → ⊥) → (m : ℕ) → On x (child i) m → On x (child j) m → ⊥
    apart i j a b ne m p q =
        let e = one_child scripts x x_laws (live i a) (live j b) (of_place i a).parent_is (of_place j b).parent_is p q in
        elim (nat_order i j) [
          | inl less ↦ other_place i j a b e less
          | inr more ↦ elim more [
            | inl equal ↦ ne equal
            | inr less ↦ other_place j i b a (sym e) less
          ]
        ]
      where
        nat_order : (i j : ℕ) → (i < j) ⊎ ((i ≡ j) ⊎ (j < i))
        nat_order i j = elim (cases_eq i j) [
          | inl e ↦ inr (inl e)
          | inr ne ↦ elim (cases_lt i j) [ inl l ↦ inl l | inr g ↦ inr (inr (omega arith)) ]
        ]

    pub none_run : MayRunInside plan world workers c h → HasRunSome plan world workers c h 0 h
    none_run may = record {
      may = may;
      at = may.at;
      done = λ j lt. absurd (omega arith);
      left = λ j ge lt m on.
          may.inside m (not_class scripts x x_laws (live j lt) (of_place j lt).parent_is on) (in_class scripts x x_laws (live j lt) (of_place j lt).parent_is on);
      others = λ m out. refl;
      events = [];
      history = of_none;
      more = sym (append-nil h);
    }

    module _ (i : ℕ) (g : List Event) (r : HasRunSome plan world workers c h i g) (lt : i < length cs) where
      abbrev n : ℕ
      n = child i

      open_by : (w : Bool) → r.may.well ≡ w → (phase g n ≡ Finished → ⊥) → phase h c ≡ Open
      open_by true e unfinished = r.may.here ∙ ap rest_of e
      open_by false e unfinished = absurd (unfinished (r.left i (omega arith) lt n same ∙ ap left_in e))

      waits_by : (w : Bool) → r.may.well ≡ w → (phase g n ≡ Finished → ⊥) → (m : ℕ) → On x n m → phase g m ≡ Waiting
      waits_by true e unfinished m on = r.left i (omega arith) lt m on ∙ ap left_in e
      waits_by false e unfinished m on = absurd (unfinished (r.left i (omega arith) lt n same ∙ ap left_in e))

      finished_by_left : (w : Bool) → r.may.well ≡ w → phase g n ≡ Finished → (m : ℕ) → On x n m → phase g m ≡ Finished
      finished_by_left true e finished m on = let wait = r.left i (omega arith) lt n same ∙ ap left_in e in absurd cc
      finished_by_left false e finished m on = r.left i (omega arith) lt m on ∙ ap left_in e

      -- an earlier child is finished
      earlier : (m : ℕ) → 0 < m → m < n → parent (tree_of plan) m ≡ c → phase g m ≡ Finished
      earlier m pos less is =
          let small : m < length (tree_of plan) = let w = (of_place i lt).within in omega arith in
          let at : IsListed (children (tree_of plan) (parent (tree_of plan) m)) m = listed (tree_of plan) m pos small in
          let here : IsListed cs m = subst (λ (j : ℕ). IsListed (children (tree_of plan) j) m) is at in
          elim (cases_lt here.place i) [
            | inl before ↦
                r.done here.place before m (omega arith) (subst (λ (j : ℕ). On x j m) (sym here.is) same)
            | inr past ↦ elim (cases_eq here.place i) [
              | inl e ↦ let same_child : child here.place ≡ n = ap child e in let is_m = here.is in absurd (omega arith)
              | inr ne ↦ let up_there = rising (tree_of plan) c i here.place (omega arith) here.within in let is_m = here.is in absurd (omega arith)
            ]
          ]

      -- a child that isn't finished comes next
      pub may_next : (phase g n ≡ Finished → ⊥) → MayRun plan world workers n g
      may_next unfinished =
          let is = of_place i lt in
          record {
            positive = is.positive;
            within = is.within;
            at = subst (λ (j : ℕ). IsBetween plan world workers j g) (sym is.parent_is) r.at;
            next = record {
              opened = ap (phase g) is.parent_is ∙ r.others c (λ ne on. ne refl) ∙ open_by r.may.well refl unfinished;
              waits = waits_by r.may.well refl unfinished;
              earlier = λ m pos less e. earlier m pos less (e ∙ is.parent_is);
            };
          }

      pub run_next : (k : List Event) → HasRun plan world workers n g k → HasRunSome plan world workers c h (i + 1) k
      run_next k run =
          let is = of_place i lt in
          record {
            may = r.may;
            at = subst (λ (j : ℕ). IsBetween plan world workers j k) is.parent_is run.at;
            done = λ j less m small on. elim (cases_eq j i) [
              | inl e ↦ run.done.done m small (subst (λ (q : ℕ). On x (child q) m) e on)
              | inr ne ↦ run.done.others m (λ here. apart j i (omega arith) lt ne m on here) ∙ r.done j (omega arith) m small on
            ];
            left = λ j ge within m on. run.done.others m (λ here. apart j i within lt (λ e. absurd (omega arith)) m on here) ∙ r.left j (omega arith) within m on;
            others = λ m out. run.done.others m (λ on. inside i lt m on out) ∙ r.others m out;
            events = r.events ++ run.events;
            history = subst (λ (ns : List ℕ). AreHistories (tree_of plan) ns (r.events ++ run.events)) (sym (next_take lt)) (one_more r.history run.history);
            more = run.more ∙ ap (λ (es : List Event). es ++ run.events) r.more ∙ append_assoc h r.events run.events;
          }
        where
          next_take : i < length cs → take (i + 1) cs ≡ take i cs ++ n ∷ []
          next_take lt = ap (λ (k : ℕ). take k cs) (add-one i) ∙ take-suc cs i 0 lt

      -- a child that is finished is left out
      pub out_next : phase g n ≡ Finished → HasRunSome plan world workers c h (i + 1) g
      out_next finished = record {
        may = r.may;
        at = r.at;
        done = λ j less m small on. elim (cases_eq j i) [
          | inl e ↦ finished_by_left r.may.well refl finished m (subst (λ (q : ℕ). On x (child q) m) e on)
          | inr ne ↦ r.done j (omega arith) m small on
        ];
        left = λ j ge within m on. r.left j (omega arith) within m on;
        others = r.others;
        events = r.events;
        history = subst (λ (ns : List ℕ). AreHistories (tree_of plan) ns r.events) (sym (next_take lt)) (one_out n r.history);
        more = r.more;
      }
        where
          next_take : i < length cs → take (i + 1) cs ≡ take i cs ++ n ∷ []
          next_take lt = ap (λ (k : ℕ). take k cs) (add-one i) ∙ take-suc cs i 0 lt

    -- all have run
    pub all_run : (i : ℕ) (g : List Event) → HasRunSome plan world workers c h i g → length cs ≤ i → HasRunInside plan world workers c h g
    all_run i g r past = record {
      at = r.at;
      done = λ m small ne on. elim (step_down x on) [
        | inl e ↦ absurd (ne (sym e))
        | inr q ↦
            let low = on_le scripts x x_laws q.on in
            let positive : 0 < q.child = by q.child q.nonzero in
            let at : IsListed (children (tree_of plan) (parent (tree_of plan) q.child)) q.child = listed (tree_of plan) q.child positive (omega arith) in
            let here : IsListed cs q.child = subst (λ (j : ℕ). IsListed (children (tree_of plan) j) q.child) q.under at in
            let inner = here.within in
            r.done here.place (omega arith) m small (subst (λ (j : ℕ). On x j m) (sym here.is) q.on)
      ];
      others = r.others;
      events = r.events;
      history = subst (λ (ns : List ℕ). AreHistories (tree_of plan) ns r.events) (whole i past) r.history;
      more = r.more;
    }
      where
        by : (j : ℕ) → (j ≡ 0 → ⊥) → 0 < j
        by zero nz = absurd (nz refl)
        by (suc j) nz = omega arith

        whole : (i : ℕ) → length cs ≤ i → take i cs ≡ cs
        whole i past = take_all i cs past

  -- before the first event the root may be run inside
  pub may_begin : 0 < workers → MayRunInside plan world workers 0 []
  may_begin manned = record {
    within = tree.rooted;
    at = record {
      manned = manned;
      history = record { no_step = refl; run = refl };
      between = record {
        free = λ w. refl;
        owned = λ m. refl;
        held = λ m held. elim (equal_or_not m 0) [
          | inl e ↦ subst (λ (j : ℕ). On x j 0) (sym e) same
          | inr ne ↦ absurd (waiting_unheld m ne held)
        ];
      };
    };
    well = true;
    here = refl;
    inside = λ m ne on. ap phase_of (put_elsewhere m 0 (S.Open []) (λ (j : ℕ). let st : NodeStatus = S.Waiting in st) ne);
  }
    where
      waiting_unheld : (m : ℕ) → (m ≡ 0 → ⊥) → is_held ((after_history plan world workers []).nodes.status m) ≡ true → ⊥
      waiting_unheld m ne held = let e = ap is_held (put_elsewhere m 0 (S.Open []) (λ (j : ℕ). let st : NodeStatus = S.Waiting in st) ne) in cc

  above : (n : ℕ) → On x 0 n
  above n = along scripts x x_laws scripts-laws (λ (j : ℕ). On x 0 j) same (λ j nz on. up nz on) n

  unfinished : (a b : Bool) → (a ≡ true → b ≡ true) → (a && not b) ≡ false
  unfinished true b f = ap not (f refl)
  unfinished false b f = refl

  -- once what stands in the root has run, all is finished
  pub run_complete : (g : List Event) → HasRunInside plan world workers 0 [] g → is_complete x (after_history plan world workers g) ≡ true
  run_complete g run =
      ap (λ (o : Option ℕ). not (is_some o))
      (none_found x.nodes (λ n. not (is_root n) && not (is_finished ((after_history plan world workers g).nodes.status n)))
      (λ m lt. unfinished (not (is_root m)) (is_finished ((after_history plan world workers g).nodes.status m))
      (λ inner. finished_by ((after_history plan world workers g).nodes.status m) (run.done m lt (λ e. let p = not_root m inner in absurd (omega arith)) (above m)))))
