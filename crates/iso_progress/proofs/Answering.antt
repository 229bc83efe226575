-- The search, the candidate, and that a run is never stuck.
use Rattle.std.proofs.Common.{◌≡◌, ℕ, ◌<◌, Option, Some, None, is_some, is_none, Bool, true, false, cond, not, ◌&&◌, inl, inr, refl, sym, ap, ◌∙◌}
use Rattle.std.proofs.lemmas.Bool.{eq-eqb, ne_eqb}
use Rattle.std.specs.Option.{option_or, option_map}
use Rattle.iso_isolation.specs.Languages.{Language, BodyLaws}
use Rattle.iso_isolation.specs.Suites.{Suite, SuiteLaws}
use Rattle.iso_isolation.specs.States as S
use Rattle.iso_isolation.specs.States.{Status, State, is_waiting, is_open, is_finished, is_at_rest, is_held, body_in}
use Rattle.iso_isolation.specs.Events.{Event, where_some}
use Rattle.iso_isolation.specs.Refusals.{is_root, lowest_below, has_unfinished_sibling, has_unfinished_child, lock_held}
use Rattle.iso_isolation.specs.Runs.{is_accepted, is_complete}
use Rattle.iso_isolation.proofs.Changes.{equal_or_not, none_below}
use Rattle.iso_isolation.proofs.Statuses.{body_held}
use Rattle.iso_progress.specs.Candidates.{is_at_work, going_on, may_be_shut, may_be_entered, shut_by_owner, entered_by_owner, candidate}
use Rattle.iso_progress.specs.NeverStuck.{IsReached, Accepts, SearchServes, CandidateServes}
use Rattle.iso_progress.specs.ProgressLaws.{ProgressLaws}
use Rattle.iso_progress.proofs.Lowest.{lowest, none_found}
use Rattle.iso_progress.proofs.Reaching.{Going, reached}
use Rattle.iso_progress.proofs.Accepting.{body_accepted, shut_accepted, enter_accepted}
use Rattle.iso_progress.proofs.Descent.{complete_where_none}

finished_rests_not : {B F R : Type 0} (v : Status B F R) → is_finished v ≡ true → is_at_rest v ≡ false
finished_rests_not S.Waiting e = absurd cc
finished_rests_not (S.Begun b) e = absurd cc
finished_rests_not (S.Open fs) e = absurd cc
finished_rests_not (S.Barred fs) e = absurd cc
finished_rests_not (S.Closing fs b) e = absurd cc
finished_rests_not (S.Finished r) e = refl

finished_waits_not : {B F R : Type 0} (v : Status B F R) → is_finished v ≡ true → is_waiting v ≡ false
finished_waits_not S.Waiting e = absurd cc
finished_waits_not (S.Begun b) e = absurd cc
finished_waits_not (S.Open fs) e = absurd cc
finished_waits_not (S.Barred fs) e = absurd cc
finished_waits_not (S.Closing fs b) e = absurd cc
finished_waits_not (S.Finished r) e = refl

finished_bare : {B F R : Type 0} (v : Status B F R) → is_finished v ≡ true → body_in v ≡ None
finished_bare S.Waiting e = absurd cc
finished_bare (S.Begun b) e = absurd cc
finished_bare (S.Open fs) e = absurd cc
finished_bare (S.Barred fs) e = absurd cc
finished_bare (S.Closing fs b) e = absurd cc
finished_bare (S.Finished r) e = refl

last_true : (a b : Bool) → (a && not b) ≡ false → a ≡ true → b ≡ true
last_true true true e h = refl
last_true true false e h = absurd cc
last_true false b e h = absurd cc

-- the tests of a class that may be shut, and of a node that may be entered, where the first or the second fails
first_of_three : (a b c : Bool) → a ≡ false → (a && b && c) ≡ false
first_of_three true b c e = absurd cc
first_of_three false b c e = refl

second_of_three : (a b c : Bool) → b ≡ false → (a && b && c) ≡ false
second_of_three true true c e = absurd cc
second_of_three true false c e = refl
second_of_three false b c e = refl

not_some : (o : Option ℕ) → not (is_some o) ≡ true → o ≡ None
not_some None e = refl
not_some (Some n) e = absurd cc

module _ {H K V B F R : Type 0} (l : Language H K V B F R) (x : Suite H K V) (plan : SuiteLaws l x) (laws : BodyLaws l) (more : ProgressLaws l x) (workers : ℕ)
    (s : State K V B F R) (g : Going l x plan laws more workers s) where
  pub search : SearchServes l x workers s
  search = record {
    body = body_accepted l x plan laws more workers s g;
    shut = shut_accepted l x plan laws more workers s g;
    enter = enter_accepted l x plan laws more workers s g;
    none = complete_where_none l x plan laws more workers s g;
  }

  abbrev at_work : ℕ → Bool
  at_work = is_at_work l x workers s

  abbrev may_shut : ℕ → Bool
  may_shut = may_be_shut l x workers s

  abbrev may_enter : ℕ → Bool
  may_enter = may_be_entered l x workers s

  -- the candidate of what is found
  abbrev chosen : Option ℕ → Option ℕ → Option ℕ → Option Event
  chosen o p q = option_or (option_map (going_on l x workers s) o) (option_or (option_map (shut_by_owner l x workers s) p) (option_map (entered_by_owner l x workers s) q))

  abbrev found : Option Event
  found = chosen (lowest_below workers at_work) (lowest_below x.nodes may_shut) (lowest_below x.nodes may_enter)

  candidate_found : candidate l x workers s ≡ found
  candidate_found = ap (λ (b : Bool). cond b None found) g.staffed.going

  -- what is found is accepted, or nothing is and all nodes are finished
  accepted_or_complete : (o p q : Option ℕ) → lowest_below workers at_work ≡ o → lowest_below x.nodes may_shut ≡ p → lowest_below x.nodes may_enter ≡ q
      → ((e : Event) → chosen o p q ≡ Some e → is_accepted l x workers s e ≡ true) × (chosen o p q ≡ None → is_complete x s ≡ true)
  accepted_or_complete (Some w) p q eo ep eq =
      let low = lowest workers at_work w eo in
      (λ e h. let is : going_on l x workers s w ≡ e = cc in ap (is_accepted l x workers s) (sym is) ∙ search.body w low.inside low.passes, λ h. absurd cc)
  accepted_or_complete None (Some n) q eo ep eq =
      let low = lowest x.nodes may_shut n ep in (
        λ e h.
            let is : shut_by_owner l x workers s n ≡ e = cc in
            ap (is_accepted l x workers s) (sym is) ∙ search.shut n low.inside (none_below workers at_work eo) low.passes,
        λ h. absurd cc,
      )
  accepted_or_complete None None (Some n) eo ep eq =
      let low = lowest x.nodes may_enter n eq in (
        λ e h.
            let is : entered_by_owner l x workers s n ≡ e = cc in
            ap (is_accepted l x workers s) (sym is) ∙ search.enter n low.inside (none_below workers at_work eo) low.passes,
        λ h. absurd cc,
      )
  accepted_or_complete None None None eo ep eq =
      (λ e h. absurd cc, λ h. search.none (none_below workers at_work eo) (none_below x.nodes may_shut ep) (none_below x.nodes may_enter eq))

  -- after all nodes have finished
  module _ (over : is_complete x s ≡ true) where
    each : (n : ℕ) → (n ≡ 0 → ⊥) → n < x.nodes → is_finished (s.nodes.status n) ≡ true
    each n nz lt =
        last_true (not (is_root n)) (is_finished (s.nodes.status n))
        (none_below x.nodes (λ j. not (is_root j) && not (is_finished (s.nodes.status j))) (not_some _ over) n lt) (ap not (ne_eqb n 0 nz))

    bare : (n : ℕ) → body_in (s.nodes.status n) ≡ None
    bare n = elim (equal_or_not n 0) [
      | inl z ↦ ap (λ (j : ℕ). body_in (s.nodes.status j)) z ∙ ap body_in g.kept.locked.root
      | inr nz ↦ by nz (body_in (s.nodes.status n)) refl
    ]
      where
        by : (n ≡ 0 → ⊥) → (o : Option B) → body_in (s.nodes.status n) ≡ o → o ≡ None
        by nz None e = refl
        by nz (Some b) e =
            let none = finished_bare (s.nodes.status n) (each n nz (g.kept.locked.inside n nz (body_held (s.nodes.status n) b e))) in
            absurd cc

    idle_by : (o : Option ℕ) → is_some (where_some o None (λ (n : ℕ). body_in (s.nodes.status n))) ≡ false
    idle_by None = refl
    idle_by (Some n) = ap is_some (bare n)

    unshut : (n : ℕ) → n < x.nodes → may_shut n ≡ false
    unshut n lt =
        let status = s.nodes.status n in
        let no_child = not (is_open status && has_unfinished_child l x workers s n) in
        elim (equal_or_not n 0) [
          | inl z ↦ first_of_three (not (is_root n)) (is_at_rest status) no_child (ap not (eq-eqb n 0 z))
          | inr nz ↦ second_of_three (not (is_root n)) (is_at_rest status) no_child (finished_rests_not status (each n nz lt))
        ]

    unentered : (n : ℕ) → n < x.nodes → may_enter n ≡ false
    unentered n lt =
        let status = s.nodes.status n in
        let parent = is_open (s.nodes.status (x.parent n)) in
        first_of_three (not (is_root n) && is_waiting status && parent) (not (x.is_same_thread n && has_unfinished_sibling l x workers s n)) (is_none (lock_held l x workers s n))
        (elim (equal_or_not n 0) [
          | inl z ↦ first_of_three (not (is_root n)) (is_waiting status) parent (ap not (eq-eqb n 0 z))
          | inr nz ↦ second_of_three (not (is_root n)) (is_waiting status) parent (finished_waits_not status (each n nz lt))
        ])

    nothing_found : found ≡ None
    nothing_found =
        ap (λ (o : Option ℕ). chosen o (lowest_below x.nodes may_shut) (lowest_below x.nodes may_enter)) (none_found workers at_work (λ w lt. idle_by (s.busy w)))
        ∙ ap (λ (p : Option ℕ). chosen None p (lowest_below x.nodes may_enter)) (none_found x.nodes may_shut unshut)
        ∙ ap (λ (q : Option ℕ). chosen None None q) (none_found x.nodes may_enter unentered)

  pub answer : CandidateServes l x workers s
  answer =
      let a = accepted_or_complete (lowest_below workers at_work) (lowest_below x.nodes may_shut) (lowest_below x.nodes may_enter) refl refl refl in
      record {
        accepted = λ e h. a.0 e (sym candidate_found ∙ h);
        none = λ h. a.1 (sym candidate_found ∙ h);
        complete = λ over. candidate_found ∙ nothing_found over;
      }

  never_stuck : is_complete x s ≡ false → Accepts l x workers s
  never_stuck unfinished = by (candidate l x workers s) refl
    where
      by : (o : Option Event) → candidate l x workers s ≡ o → Accepts l x workers s
      by (Some e) h = record { event = e; accepted = answer.accepted e h }
      by None h = let over = answer.none h in absurd cc

module _ {H K V B F R : Type 0} (l : Language H K V B F R) (x : Suite H K V) (plan : SuiteLaws l x) (laws : BodyLaws l) (more : ProgressLaws l x) (workers : ℕ)
    (s : State K V B F R) (r : IsReached l x workers s) where
  pub searched : SearchServes l x workers s
  searched = search l x plan laws more workers s (reached l x plan laws more workers s r)

  pub answered : CandidateServes l x workers s
  answered = answer l x plan laws more workers s (reached l x plan laws more workers s r)

  pub accepts : is_complete x s ≡ false → Accepts l x workers s
  accepts unfinished = never_stuck l x plan laws more workers s (reached l x plan laws more workers s r) unfinished
