-- Shut keeps the invariant: the `after_all` begins on what the class's own opening left.
use Rattle.std.proofs.Common.{◌≡◌, ℕ, List, Some, true, false, inl, inr, sym, ap, subst, ◌∙◌}
use Rattle.iso_isolation.specs.Languages.{Language, BodyLaws, Alike}
use Rattle.iso_isolation.specs.Suites.{Suite, On, same, chain, may_read, SuiteLaws}
use Rattle.iso_isolation.specs.States as S
use Rattle.iso_isolation.specs.States.{Status, Nodes, put, is_open, is_barred, is_closing, is_at_rest, is_held, body_in, frames_in, result_in}
use Rattle.iso_isolation.specs.Events.{frames_of, shutting}
use Rattle.iso_isolation.proofs.Changes.{on_put, unmoved}
use Rattle.iso_isolation.proofs.Statuses.{rest_held, rest_frames}
use Rattle.iso_isolation.proofs.Locks.{step_down, above, isolated}
use Rattle.iso_isolation.proofs.LockEvents.{Quiet, turn_locked}
use Rattle.iso_isolation.proofs.Openings.{opening_at, defined}
use Rattle.iso_isolation.proofs.Invariant.{source, Reached, Untouched, Kept}

module _ {H K V B F R : Type 0} (l : Language H K V B F R) (x : Suite H K V) (plan : SuiteLaws l x) (laws : BodyLaws l)
    (s : Nodes K V B F R) (kept : Kept l x s) (n : ℕ) (nz : n ≡ 0 → ⊥) (resting : is_at_rest (s.status n) ≡ true) (q : Quiet x s.status n) (is_class : l.is_test (x.head n) ≡ false) where
  abbrev fs : List F
  fs = frames_of (s.status n)

  none_under : (d : ℕ) → is_held (s.status d) ≡ true → On x n d → n ≡ d
  none_under d h on = elim (step_down x on) [
    | inl e ↦ e
    | inr c ↦ absurd (q c.child c.nonzero c.under (above l x plan laws s.status kept.locked c.on h))
  ]

  -- at the keys of its rights the flat map is what its opening left
  pub as_left : (k : K) → may_read l x n k ≡ true → s.flat k ≡ (opening_at l x n).content k
  as_left k r = kept.rest n k resting (λ d h w.
      elim (isolated l x plan laws s.status kept.locked d n k w r h (rest_held (s.status n) resting)) [
        | inl on ↦ on
        | inr on ↦ subst (λ (j : ℕ). On x j n) (none_under d h on) same
      ])

  abbrev closing : Status B F R
  closing = S.Closing fs (l.begin_closing (chain x n) fs)

  held_same : (m : ℕ) → is_held (put n closing s.status m) ≡ is_held (s.status m)
  held_same = unmoved is_held n closing s.status (sym (rest_held (s.status n) resting))

  frames : (opening_at l x n).frames ≡ fs
  frames = kept.told n fs (rest_frames (s.status n) resting)

  -- its body stands at its beginning
  pub begins : (c : B) → Some (l.begin_closing (chain x n) fs) ≡ Some c → Alike l (chain x n) (record { body = c; content = s.flat }) (source l x n true)
  begins c e =
      let first : l.begin_closing (chain x n) (opening_at l x n).frames ≡ c = ap (l.begin_closing (chain x n)) frames ∙ cc in
      record { body = sym first; at = as_left }

  pub keeps_shut : Kept l x (shutting l x n s)
  keeps_shut = record {
    locked = turn_locked x s.status kept.locked n nz (rest_held (s.status n) resting) q closing;
    told = λ c. on_put (λ (j : ℕ) (v : Status B F R). (gs : List F) → frames_in v ≡ Some gs → (opening_at l x j).frames ≡ gs) n closing s.status c
        (λ gs e. frames ∙ cc) (λ ne. kept.told c);
    well = λ c. on_put (λ (j : ℕ) (v : Status B F R). is_open v ≡ true → (opening_at l x j).well ≡ true) n closing s.status c (λ e. absurd cc) (λ ne. kept.well c);
    ill = λ c. on_put (λ (j : ℕ) (v : Status B F R). is_barred v ≡ true → (opening_at l x j).well ≡ false) n closing s.status c (λ e. absurd cc) (λ ne. kept.ill c);
    rest = λ c k. on_put (λ (j : ℕ) (v : Status B F R). is_at_rest v ≡ true → Untouched l x (put n closing s.status) j k → s.flat k ≡ (opening_at l x j).content k) n closing s.status c
        (λ r premise. absurd cc)
        (λ ne r premise. kept.rest c k r (λ d h w. premise d (held_same d ∙ h) w));
    saved = λ m k mz h w. kept.saved m k mz (sym (held_same m) ∙ h) w;
    going = λ m. on_put (λ (j : ℕ) (v : Status B F R). (c : B) → body_in v ≡ Some c → Reached l x j c s.flat v) n closing s.status m
        (λ c e. record { steps = 0; alone = begins c e })
        (λ ne. kept.going m);
    class = λ m. on_put (λ (j : ℕ) (v : Status B F R). is_closing v ≡ true → l.is_test (x.head j) ≡ false) n closing s.status m (λ e. is_class) (λ ne. kept.class m);
    done = λ m. on_put (λ (j : ℕ) (v : Status B F R). (r : R) → (j ≡ 0 → ⊥) → result_in v ≡ Some r → r ≡ defined l x j) n closing s.status m (λ r mz e. absurd cc) (λ ne. kept.done m);
  }
