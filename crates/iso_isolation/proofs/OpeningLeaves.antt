-- The Leave of a `before_all` keeps the invariant: an ended one is the definition's opening.
use Rattle.std.proofs.Common.{◌≡◌, ℕ, List, ◌∷◌, Some, None, Bool, true, false, inl, inr, refl, sym, ap, ◌∙◌}
use Rattle.iso_isolation.specs.Languages.{Language, Alike, BodyLaws}
use Rattle.iso_isolation.specs.Suites.{Suite, chain, may_write, SuiteLaws}
use Rattle.iso_isolation.specs.Alone.{Opening, entered}
use Rattle.iso_isolation.specs.States as S
use Rattle.iso_isolation.specs.States.{Status, Nodes, put, is_open, is_barred, is_closing, is_at_rest, is_held, body_in, frames_in, result_in}
use Rattle.iso_isolation.specs.Events.{frames_of, open_or_barred, frames_left, ended_well, opening_left}
use Rattle.iso_isolation.proofs.Changes.{true_or_false, on_put, unmoved}
use Rattle.iso_isolation.proofs.Statuses.{open_is}
use Rattle.iso_isolation.proofs.Bodies.{alike_by, ends_as}
use Rattle.iso_isolation.proofs.Locks.{on_split}
use Rattle.iso_isolation.proofs.LockEvents.{quiet, turn_locked}
use Rattle.iso_isolation.proofs.Openings.{opening_at, defined, opens, inherits}
use Rattle.iso_isolation.proofs.Invariant.{source, Reached, Untouched, Kept}
use Rattle.iso_isolation.proofs.Steps.{nonzero}

module _ {H K V B F R : Type 0} (l : Language H K V B F R) (x : Suite H K V) (plan : SuiteLaws l x) (laws : BodyLaws l)
    (s : Nodes K V B F R) (kept : Kept l x s) (n : ℕ) (b : B) (here : s.status n ≡ S.Begun b) (over : l.ended b ≡ true) where
  abbrev fs : List F
  fs = frames_of (s.status (x.parent n))

  pub nonzero_here : n ≡ 0 → ⊥
  nonzero_here = nonzero l x plan laws s kept n b (ap body_in here)

  pub parent_status : s.status (x.parent n) ≡ S.Open fs
  parent_status = open_is (s.status (x.parent n)) (kept.locked.tree n nonzero_here (ap is_held here))

  pub parent_well : (opening_at l x (x.parent n)).well ≡ true
  parent_well = kept.well (x.parent n) (ap is_open parent_status)

  pub parent_frames : (opening_at l x (x.parent n)).frames ≡ fs
  parent_frames = kept.told (x.parent n) fs (ap frames_in parent_status)

  -- the body is what the definition's comes to
  pub came : Alike l (chain x n) (record { body = b; content = s.flat }) (entered l (chain x n) (opening_at l x (x.parent n)))
  came =
      let old = kept.going n b (ap body_in here) in
      alike_by l (chain x n) _ _ _ _ refl (ap (λ (j : Bool). l.finish (chain x n) (source l x n j).body (source l x n j).content) (ap is_closing here))
      (ends_as l (chain x n) laws old.steps b s.flat (source l x n (is_closing (s.status n))) old.alone over)

  frame_now : l.frame (opening_at l x (x.parent n)).frames (entered l (chain x n) (opening_at l x (x.parent n))).body ≡ l.frame fs b
  frame_now =
      ap (λ (j : B). l.frame (opening_at l x (x.parent n)).frames j) (sym came.body)
      ∙ ap (λ (j : List F). l.frame j b) parent_frames

  pub frames_now : (opening_at l x n).frames ≡ frames_left l x n b s
  frames_now =
      ap (λ (o : Opening K V F). o.frames) (opens l x plan laws n nonzero_here parent_well)
      ∙ ap (λ (j : F). j ∷ (opening_at l x (x.parent n)).frames) frame_now
      ∙ ap (λ (j : List F). l.frame fs b ∷ j) parent_frames

  pub well_now : (opening_at l x n).well ≡ ended_well l x n b s
  well_now =
      ap (λ (o : Opening K V F). o.well) (opens l x plan laws n nonzero_here parent_well)
      ∙ ap l.is_well frame_now

  content_now : (k : K) → Untouched l x s.status n k → s.flat k ≡ (opening_at l x n).content k
  content_now k premise = elim (true_or_false (may_write l x n k)) [
    | inl w ↦ came.at k (laws.rights.write_reads (chain x n) k w) ∙ ap (λ (o : Opening K V F). o.content k) (sym (opens l x plan laws n nonzero_here parent_well))
    | inr w ↦
        kept.rest (x.parent n) k (ap is_at_rest parent_status)
        (λ d h wd. elim (on_split x (premise d h wd)) [
          | inl e ↦ let f : may_write l x n k ≡ true = ap (λ (j : ℕ). may_write l x j k) (sym e) ∙ wd in absurd cc
          | inr p ↦ p.1
        ])
        ∙ sym (inherits l x plan laws n k nonzero_here w)
  ]

  -- the class is now as the definition says, whichever it is
  module _ (st : Status B F R) (held : is_held st ≡ true) (open_as : is_open st ≡ true → ended_well l x n b s ≡ true) (barred_as : is_barred st ≡ true → ended_well l x n b s ≡ false)
      (frames_as : frames_in st ≡ Some (frames_left l x n b s)) (none : body_in st ≡ None) (no_result : result_in st ≡ None) (not_closing : is_closing st ≡ false) where
    held_same : (m : ℕ) → is_held (put n st s.status m) ≡ is_held (s.status m)
    held_same = unmoved is_held n st s.status (held ∙ sym (ap is_held here))

    keeps_turned : Kept l x (record { flat = s.flat; status = put n st s.status; saved = s.saved })
    keeps_turned = record {
      locked = turn_locked x s.status kept.locked n nonzero_here (ap is_held here) (quiet x s.status kept.locked n (ap is_open here)) st;
      told = λ c. on_put (λ (j : ℕ) (v : Status B F R). (gs : List F) → frames_in v ≡ Some gs → (opening_at l x j).frames ≡ gs) n st s.status c
          (λ gs e. frames_now ∙ cc) (λ ne. kept.told c);
      well = λ c. on_put (λ (j : ℕ) (v : Status B F R). is_open v ≡ true → (opening_at l x j).well ≡ true) n st s.status c (λ e. well_now ∙ open_as e) (λ ne. kept.well c);
      ill = λ c. on_put (λ (j : ℕ) (v : Status B F R). is_barred v ≡ true → (opening_at l x j).well ≡ false) n st s.status c (λ e. well_now ∙ barred_as e) (λ ne. kept.ill c);
      rest = λ c k. on_put (λ (j : ℕ) (v : Status B F R). is_at_rest v ≡ true → Untouched l x (put n st s.status) j k → s.flat k ≡ (opening_at l x j).content k) n st s.status c
          (λ r premise. content_now k (λ d h w. premise d (held_same d ∙ h) w))
          (λ ne r premise. kept.rest c k r (λ d h w. premise d (held_same d ∙ h) w));
      saved = λ m k nz h w. kept.saved m k nz (sym (held_same m) ∙ h) w;
      going = λ m. on_put (λ (j : ℕ) (v : Status B F R). (c : B) → body_in v ≡ Some c → Reached l x j c s.flat v) n st s.status m
          (λ c e. absurd cc) (λ ne. kept.going m);
      class = λ m. on_put (λ (j : ℕ) (v : Status B F R). is_closing v ≡ true → l.is_test (x.head j) ≡ false) n st s.status m (λ e. absurd cc) (λ ne. kept.class m);
      done = λ m. on_put (λ (j : ℕ) (v : Status B F R). (r : R) → (j ≡ 0 → ⊥) → result_in v ≡ Some r → r ≡ defined l x j) n st s.status m (λ r nz e. absurd cc) (λ ne. kept.done m);
    }

  turned : (well : Bool) → ended_well l x n b s ≡ well → Kept l x (record { flat = s.flat; status = put n (open_or_barred well (frames_left l x n b s)) s.status; saved = s.saved })
  turned true w = keeps_turned (S.Open (frames_left l x n b s)) refl (λ e. w) (λ e. absurd cc) refl refl refl refl
  turned false w = keeps_turned (S.Barred (frames_left l x n b s)) refl (λ e. absurd cc) (λ e. w) refl refl refl refl

  pub keeps_opening_left : Kept l x (opening_left l x n b s)
  keeps_opening_left = turned (ended_well l x n b s) refl
