-- Results as the statuses of nodes change: by one status that tells the same of them, by the end of a node, and by the end of a `before_all`.
use Rattle.std.proofs.Common.{◌≡◌, ℕ, ◌<◌, List, [], ◌∷◌, length, get_or, set, replicate, Bool, true, false, ◌||◌, ◌&&◌, not, cond, eqb, is_some, inl, inr, refl, sym, ap, ap₂, subst, ◌∙◌, arith}
use Rattle.std.proofs.lemmas.Bool.{cases_eq, cases_lt}
use Rattle.std.proofs.lemmas.List.{get_or-replicate, get_or-set_other, get_or-set_same, get_or_past, length-replicate, length-set}
use Rattle.iso_standing.specs.ResultStates.{AreResultsOf}
use Rattle.iso_suites.specs.ScriptLanguage.{scripts}
use Rattle.iso_suites.specs.SuiteStates.{RunNodes, suite_at}
use Rattle.iso_isolation.proofs.Changes.{on_put, unmoved}
use Rattle.iso_isolation.specs.Events.{is_in}
use Rattle.iso_isolation.specs.States as S
use Rattle.iso_isolation.specs.States.{Status, first, frames_in, is_at_rest, is_finished, is_held, is_waiting, put}
use Rattle.iso_lifecycle.specs.ResultViews.{ResultsView, has_result, is_barred, is_barring, is_ended, is_opened, is_some_barring, no_results}
use Rattle.iso_lifecycle.specs.Subjects.{own_frame, subject}
use Rattle.iso_model.specs.Bodies.{Stage}
use Rattle.iso_model.specs.Openings.{Frame}
use Rattle.iso_model.specs.Resources.{Resources}
use Rattle.iso_model.specs.Statements.{is_well}
use Rattle.iso_model.specs.declared.outcome.Outcome.{Outcome}
use Rattle.iso_plan.proofs.PathLemmas.{eq_not, eq_same}
use Rattle.iso_plan.specs.Paths.{parent, path}
use Rattle.iso_plan.specs.Planned.{Planned}
use Rattle.iso_plan.specs.RowView.{tree_of}
use Rattle.iso_settings.specs.Worlds.{Start}

abbrev pub NodeStatus : Type 0
NodeStatus = Status Stage Frame Outcome

-- nodes of which one has another status
abbrev pub with_status : ℕ → NodeStatus → Resources → (ℕ → Resources) → RunNodes → RunNodes
with_status n v flat saved s = record { flat = flat; status = put n v s.status; saved = saved }

-- whether a status tells frames; a class at rest does, and isn't finished
abbrev pub has_frames : NodeStatus → Bool
has_frames v = is_some (frames_in v)

pub rest-frames : (v : NodeStatus) → is_at_rest v ≡ true → has_frames v ≡ true
rest-frames S.Waiting e = absurd (cc)
rest-frames (S.Begun b) e = absurd (cc)
rest-frames (S.Open fs) e = refl
rest-frames (S.Barred fs) e = refl
rest-frames (S.Closing fs b) e = absurd (cc)
rest-frames (S.Finished q) e = absurd (cc)

pub rest-unfinished : (v : NodeStatus) → is_at_rest v ≡ true → is_finished v ≡ false
rest-unfinished S.Waiting e = absurd (cc)
rest-unfinished (S.Begun b) e = absurd (cc)
rest-unfinished (S.Open fs) e = refl
rest-unfinished (S.Barred fs) e = refl
rest-unfinished (S.Closing fs b) e = absurd (cc)
rest-unfinished (S.Finished q) e = absurd (cc)

-- a status that tells as much of results as the old one
pub put-alike : (r : ResultsView) (s : RunNodes) (n : ℕ) (v : NodeStatus) (flat : Resources) (saved : ℕ → Resources) → AreResultsOf r s
    → is_some (frames_in v) ≡ is_some (frames_in (s.status n)) → is_finished v ≡ is_finished (s.status n) → AreResultsOf r (with_status n v flat saved s)
put-alike r s n v flat saved are frames over =
    let same : (m : ℕ) → has_frames (put n v s.status m) ≡ has_frames (s.status m) = unmoved has_frames n v s.status frames in
    let ends : (m : ℕ) → is_finished (put n v s.status m) ≡ is_finished (s.status m) = unmoved is_finished n v s.status over in
    record {
      opened_fit = are.opened_fit;
      ended_fit = are.ended_fit;
      opened = λ m pos e. are.opened m pos (sym (same m) ∙ e);
      unopened = λ m e o. are.unopened m (sym (same m) ∙ e) (sym (ends m) ∙ o);
      unended = λ m o. are.unended m (sym (ends m) ∙ o);
      finished = λ m pos inside. are.finished m pos inside ∙ sym (ends m);
    }

-- before any event
unset : (count n : ℕ) → get_or (replicate count false) n false ≡ false
unset count n = elim (cases_lt n count) [
  | inl less ↦ get_or-replicate count n false false less
  | inr past ↦ get_or_past (replicate count false) n false (let e = length-replicate count false in omega arith)
]

none-barring : (plan : Planned) (world : Start) (ns : List ℕ) → is_some_barring (no_results plan world) ns ≡ false
none-barring plan world [] = refl
none-barring plan world (n ∷ ns) =
    ap₂ (λ (o b : Bool). (o && not (is_well (own_frame (subject plan world n)).ending)) || b) (unset (length plan.rows) n) (none-barring plan world ns)

pub first-results : (plan : Planned) (world : Start) → AreResultsOf (no_results plan world) (first scripts (suite_at plan world)).nodes
first-results plan world = record {
  opened_fit = length-replicate (length plan.rows) false;
  ended_fit = length-replicate (length plan.rows) false;
  opened = λ m. on_put (λ (j : ℕ) (v : NodeStatus). 0 < j → has_frames v ≡ true → is_opened (no_results plan world) j ≡ true) 0 (S.Open []) (λ n. S.Waiting) m
      (λ pos e. absurd (omega arith)) (λ ne pos e. absurd (cc));
  unopened = λ m e o. unset (length plan.rows) m;
  unended = λ m o. unset (length plan.rows) m;
  finished = λ m pos inside.
      ap₂ (λ (e b : Bool). e || b) (unset (length plan.rows) m) (none-barring plan world (path (tree_of plan) (parent (tree_of plan) m)))
      ∙ sym (on_put (λ (j : ℕ) (v : NodeStatus). is_finished v ≡ false) 0 (S.Open []) (λ n. S.Waiting) m refl (λ ne. refl));
}

-- the end of a node bars nothing
barring-same : (v : ResultsView) (ended : List Bool) (ns : List ℕ) → is_some_barring (record v { ended = ended }) ns ≡ is_some_barring v ns
barring-same v ended [] = refl
barring-same v ended (n ∷ ns) = ap (λ (b : Bool). is_barring v n || b) (barring-same v ended ns)

pub put-end : (r : ResultsView) (s : RunNodes) (n : ℕ) (q : Outcome) (flat : Resources) (saved : ℕ → Resources) → AreResultsOf r s → n < length r.plan.rows
    → AreResultsOf (record r { ended = set r.ended n true }) (with_status n (S.Finished q) flat saved s)
put-end r s n q flat saved are within =
    let new = record r { ended = set r.ended n true } in
    let fit = are.ended_fit in
    let barred : (m : ℕ) → is_barred new m ≡ is_barred r m = λ m. barring-same r (set r.ended n true) (path (tree_of r.plan) (parent (tree_of r.plan) m)) in
    record {
      opened_fit = are.opened_fit;
      ended_fit = length-set r.ended n true ∙ are.ended_fit;
      opened = λ m. on_put (λ (j : ℕ) (v : NodeStatus). 0 < j → has_frames v ≡ true → is_opened r j ≡ true) n (S.Finished q) s.status m
          (λ pos e. absurd (cc)) (λ ne. are.opened m);
      unopened = λ m. on_put (λ (j : ℕ) (v : NodeStatus). has_frames v ≡ false → is_finished v ≡ false → is_opened r j ≡ false) n (S.Finished q) s.status m
          (λ e o. absurd (cc)) (λ ne. are.unopened m);
      unended = λ m. on_put (λ (j : ℕ) (v : NodeStatus). is_finished v ≡ false → is_ended new j ≡ false) n (S.Finished q) s.status m
          (λ o. absurd (cc)) (λ ne o. get_or-set_other r.ended n m true false ne ∙ are.unended m o);
      finished = λ m. on_put (λ (j : ℕ) (v : NodeStatus). 0 < j → j < length r.plan.rows → has_result new j ≡ is_finished v) n (S.Finished q) s.status m
          (λ pos inside. ap (λ (e : Bool). e || is_barred new n) (get_or-set_same r.ended n true false (omega arith)))
          (λ ne pos inside. ap₂ (λ (e b : Bool). e || b) (get_or-set_other r.ended n m true false ne) (barred m) ∙ are.finished m pos inside);
    }

-- a class that bars, or doesn't, beside those that barred before
bars-here : (b r i : Bool) → (b || (r || (i && b))) ≡ (r || b)
bars-here true true i = refl
bars-here true false i = refl
bars-here false true i = refl
bars-here false false true = refl
bars-here false false false = refl

bars-there : (a r c : Bool) → (a || (r || c)) ≡ ((a || r) || c)
bars-there true r c = refl
bars-there false r c = refl

or-false : (a : Bool) → (a || false) ≡ a
or-false true = refl
or-false false = refl

and-false : (a : Bool) → (a && false) ≡ false
and-false true = refl
and-false false = refl

-- the results with the end of a `before_all` more
abbrev opened_more : ResultsView → ℕ → ResultsView
opened_more v n = record v { opened = set v.opened n true }

module _ (v : ResultsView) (n : ℕ) (unopened : is_opened v n ≡ false) where
  abbrev new : ResultsView
  new = opened_more v n

  abbrev Extends : List ℕ → ℕ → Type 0
  Extends ns m = (is_barring new m || is_some_barring new ns) ≡ ((is_barring v m || is_some_barring v ns) || (cond (eqb m n) true (is_in n ns) && is_barring new n))

  barring-more : (ns : List ℕ) → is_some_barring new ns ≡ (is_some_barring v ns || (is_in n ns && is_barring new n))
  barring-more [] = refl
  barring-more (m ∷ ns) =
      let ih = barring-more ns in
      let rest = is_some_barring v ns in
      let bars = is_barring new n in
      elim (cases_eq m n) [
        | inl same ↦ subst (Extends ns) (sym same)
            (ap (λ (b : Bool). bars || b) ih
            ∙ bars-here bars rest (is_in n ns)
            ∙ sym (ap₂ (λ (o e : Bool). ((o && not (is_well (own_frame (subject v.plan v.start n)).ending)) || rest) || (cond e true (is_in n ns) && bars)) unopened (eq_same n)))
        | inr other ↦
            ap₂ (λ (o b : Bool). (o && not (is_well (own_frame (subject v.plan v.start m)).ending)) || b) (get_or-set_other v.opened n m true false other) ih
            ∙ bars-there (is_barring v m) rest (is_in n ns && bars)
            ∙ sym (ap (λ (e : Bool). (is_barring v m || rest) || (cond e true (is_in n ns) && bars)) (eq_not m n other))
      ]

or-more : (e b c : Bool) → (e || (b || c)) ≡ ((e || b) || c)
or-more true b c = refl
or-more false b c = refl

-- what waits in a barred class is finished, and nothing else changes
abbrev pub finished_if : Bool → Outcome → NodeStatus → NodeStatus
finished_if inside q v = cond (inside && is_waiting v) (S.Finished q) v

finished-frames : (i : Bool) (q : Outcome) (v : NodeStatus) → has_frames (finished_if i q v) ≡ has_frames v
finished-frames true q S.Waiting = refl
finished-frames true q (S.Begun b) = refl
finished-frames true q (S.Open fs) = refl
finished-frames true q (S.Barred fs) = refl
finished-frames true q (S.Closing fs b) = refl
finished-frames true q (S.Finished r) = refl
finished-frames false q v = refl

unfinished-before : (i : Bool) (q : Outcome) (v : NodeStatus) → is_finished (finished_if i q v) ≡ false → is_finished v ≡ false
unfinished-before true q S.Waiting e = refl
unfinished-before true q (S.Begun b) e = refl
unfinished-before true q (S.Open fs) e = refl
unfinished-before true q (S.Barred fs) e = refl
unfinished-before true q (S.Closing fs b) e = refl
unfinished-before true q (S.Finished r) e = e
unfinished-before false q v e = e

-- what isn't entered waits or is finished
finished-now : (i : Bool) (q : Outcome) (v : NodeStatus) → (i ≡ true → is_held v ≡ false) → (is_finished v || i) ≡ is_finished (finished_if i q v)
finished-now true q S.Waiting none = refl
finished-now true q (S.Begun b) none = let wrong = none refl in absurd (cc)
finished-now true q (S.Open fs) none = let wrong = none refl in absurd (cc)
finished-now true q (S.Barred fs) none = let wrong = none refl in absurd (cc)
finished-now true q (S.Closing fs b) none = let wrong = none refl in absurd (cc)
finished-now true q (S.Finished r) none = refl
finished-now false q v none = or-false (is_finished v)

module _ (r : ResultsView) (s : RunNodes) (n : ℕ) (flat : Resources) (saved : ℕ → Resources) (are : AreResultsOf r s) (within : n < length r.plan.rows)
    (before : is_some (frames_in (s.status n)) ≡ false) (unfinished : is_finished (s.status n) ≡ false) where
  abbrev after : ResultsView
  after = opened_more r n

  unopened-here : is_opened r n ≡ false
  unopened-here = are.unopened n before unfinished

  -- whether a node stands in the class
  abbrev stands : ℕ → Bool
  stands m = is_in n (path (tree_of r.plan) (parent (tree_of r.plan) m))

  result-after : (m : ℕ) → has_result after m ≡ (has_result r m || (stands m && is_barring after n))
  result-after m =
      ap (λ (b : Bool). is_ended r m || b) (barring-more r n unopened-here (path (tree_of r.plan) (parent (tree_of r.plan) m)))
      ∙ or-more (is_ended r m) (is_barred r m) (stands m && is_barring after n)

  module _ (v : NodeStatus) (left : is_some (frames_in v) ≡ true) (goes_on : is_finished v ≡ false) where
    opened-after : (m : ℕ) → 0 < m → has_frames (put n v s.status m) ≡ true → is_opened after m ≡ true
    opened-after m = on_put (λ (j : ℕ) (u : NodeStatus). 0 < j → has_frames u ≡ true → is_opened after j ≡ true) n v s.status m
        (λ pos e. let fit = are.opened_fit in get_or-set_same r.opened n true false (omega arith))
        (λ ne pos e. get_or-set_other r.opened n m true false ne ∙ are.opened m pos e)

    unopened-after : (m : ℕ) → has_frames (put n v s.status m) ≡ false → is_finished (put n v s.status m) ≡ false → is_opened after m ≡ false
    unopened-after m = on_put (λ (j : ℕ) (u : NodeStatus). has_frames u ≡ false → is_finished u ≡ false → is_opened after j ≡ false) n v s.status m
        (λ e o. absurd (cc))
        (λ ne e o. get_or-set_other r.opened n m true false ne ∙ are.unopened m e o)

    same-ends : (m : ℕ) → is_finished (put n v s.status m) ≡ is_finished (s.status m)
    same-ends = unmoved is_finished n v s.status (goes_on ∙ sym unfinished)

    -- a `before_all` that ended well
    pub put-opened : is_barring after n ≡ false → AreResultsOf after (with_status n v flat saved s)
    put-opened well = record {
      opened_fit = length-set r.opened n true ∙ are.opened_fit;
      ended_fit = are.ended_fit;
      opened = opened-after;
      unopened = unopened-after;
      unended = λ m o. are.unended m (sym (same-ends m) ∙ o);
      finished = λ m pos inside.
          result-after m
          ∙ ap (λ (b : Bool). has_result r m || (stands m && b)) well
          ∙ ap (λ (b : Bool). has_result r m || b) (and-false (stands m))
          ∙ or-false (has_result r m)
          ∙ are.finished m pos inside
          ∙ sym (same-ends m);
    }

    -- and one that didn't, where no entered node stands in the class
    abbrev barred_nodes : Outcome → RunNodes
    barred_nodes q = record { flat = flat; status = λ m. finished_if (stands m) q (put n v s.status m); saved = saved }

    module _ (q : Outcome) (ill : is_barring after n ≡ true) (outside : stands n ≡ false) (empty : (m : ℕ) → stands m ≡ true → is_held (s.status m) ≡ false) where
      none-entered : (m : ℕ) → stands m ≡ true → is_held (put n v s.status m) ≡ false
      none-entered m = on_put (λ (j : ℕ) (u : NodeStatus). stands j ≡ true → is_held u ≡ false) n v s.status m
          (λ e. absurd (cc)) (λ ne. empty m)

      and-true : (b : Bool) → (b && true) ≡ b
      and-true true = refl
      and-true false = refl

      pub put-barred : AreResultsOf after (barred_nodes q)
      put-barred = record {
        opened_fit = length-set r.opened n true ∙ are.opened_fit;
        ended_fit = are.ended_fit;
        opened = λ m pos e. opened-after m pos (sym (finished-frames (stands m) q (put n v s.status m)) ∙ e);
        unopened = λ m e o. unopened-after m (sym (finished-frames (stands m) q (put n v s.status m)) ∙ e) (unfinished-before (stands m) q (put n v s.status m) o);
        unended = λ m o. are.unended m (sym (same-ends m) ∙ unfinished-before (stands m) q (put n v s.status m) o);
        finished = λ m pos inside.
            result-after m
            ∙ ap (λ (b : Bool). has_result r m || (stands m && b)) ill
            ∙ ap₂ (λ (e b : Bool). e || b) (are.finished m pos inside ∙ sym (same-ends m)) (and-true (stands m))
            ∙ finished-now (stands m) q (put n v s.status m) (none-entered m);
      }
