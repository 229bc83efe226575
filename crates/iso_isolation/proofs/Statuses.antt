-- Facts on one status.
use Rattle.std.proofs.Common.{◌≡◌, true, false, List, Some, refl}
use Rattle.iso_isolation.specs.States.{Status, Waiting, Begun, Open, Barred, Closing, Finished, is_waiting, is_open, is_finished, is_at_rest, is_held, body_in, with_body, frames_in}
use Rattle.iso_isolation.specs.Events.{frames_of}

module _ {B F R : Type 0} where
  pub open_held : (s : Status B F R) → is_open s ≡ true → is_held s ≡ true
  open_held Waiting e = absurd cc
  open_held (Begun b) e = refl
  open_held (Open fs) e = refl
  open_held (Barred fs) e = refl
  open_held (Closing fs b) e = refl
  open_held (Finished r) e = absurd cc

  pub finished_unheld : (s : Status B F R) → is_finished s ≡ true → is_held s ≡ true → ⊥
  finished_unheld Waiting e h = cc
  finished_unheld (Begun b) e h = cc
  finished_unheld (Open fs) e h = cc
  finished_unheld (Barred fs) e h = cc
  finished_unheld (Closing fs b) e h = cc
  finished_unheld (Finished r) e h = cc

  pub body_shut : (s : Status B F R) (b : B) → body_in s ≡ Some b → is_open s ≡ false
  body_shut Waiting b e = refl
  body_shut (Begun c) b e = refl
  body_shut (Open fs) b e = absurd cc
  body_shut (Barred fs) b e = refl
  body_shut (Closing fs c) b e = refl
  body_shut (Finished r) b e = refl

  pub body_held : (s : Status B F R) (b : B) → body_in s ≡ Some b → is_held s ≡ true
  body_held Waiting b e = absurd cc
  body_held (Begun c) b e = refl
  body_held (Open fs) b e = refl
  body_held (Barred fs) b e = refl
  body_held (Closing fs c) b e = refl
  body_held (Finished r) b e = absurd cc

  pub body_unrest : (s : Status B F R) (b : B) → body_in s ≡ Some b → is_at_rest s ≡ false
  body_unrest Waiting b e = refl
  body_unrest (Begun c) b e = refl
  body_unrest (Open fs) b e = absurd cc
  body_unrest (Barred fs) b e = absurd cc
  body_unrest (Closing fs c) b e = refl
  body_unrest (Finished r) b e = refl

  pub rest_held : (s : Status B F R) → is_at_rest s ≡ true → is_held s ≡ true
  rest_held Waiting e = absurd cc
  rest_held (Begun c) e = refl
  rest_held (Open fs) e = refl
  rest_held (Barred fs) e = refl
  rest_held (Closing fs c) e = refl
  rest_held (Finished r) e = absurd cc

  pub open_rests : (s : Status B F R) → is_open s ≡ true → is_at_rest s ≡ true
  open_rests Waiting e = absurd cc
  open_rests (Begun c) e = absurd cc
  open_rests (Open fs) e = refl
  open_rests (Barred fs) e = refl
  open_rests (Closing fs c) e = absurd cc
  open_rests (Finished r) e = absurd cc

  -- a status by what its tests tell
  pub waiting_is : (s : Status B F R) → is_waiting s ≡ true → s ≡ Waiting
  waiting_is Waiting e = refl
  waiting_is (Begun b) e = absurd cc
  waiting_is (Open fs) e = absurd cc
  waiting_is (Barred fs) e = absurd cc
  waiting_is (Closing fs b) e = absurd cc
  waiting_is (Finished r) e = absurd cc

  pub open_is : (s : Status B F R) → is_open s ≡ true → s ≡ Open (frames_of s)
  open_is Waiting e = absurd cc
  open_is (Begun b) e = absurd cc
  open_is (Open fs) e = refl
  open_is (Barred fs) e = absurd cc
  open_is (Closing fs b) e = absurd cc
  open_is (Finished r) e = absurd cc

  pub rest_frames : (s : Status B F R) → is_at_rest s ≡ true → frames_in s ≡ Some (frames_of s)
  rest_frames Waiting e = absurd cc
  rest_frames (Begun b) e = absurd cc
  rest_frames (Open fs) e = refl
  rest_frames (Barred fs) e = refl
  rest_frames (Closing fs b) e = absurd cc
  rest_frames (Finished r) e = absurd cc

  -- another body in its place changes nothing else
  pub other_body : (s : Status B F R) (b c : B) → body_in s ≡ Some b → body_in (with_body s c) ≡ Some c
  other_body Waiting b c e = absurd cc
  other_body (Begun d) b c e = refl
  other_body (Open fs) b c e = absurd cc
  other_body (Barred fs) b c e = absurd cc
  other_body (Closing fs d) b c e = refl
  other_body (Finished r) b c e = absurd cc

  module _ {A : Type 0} (P : Status B F R → A) (begun : (b c : B) → P (Begun c) ≡ P (Begun b)) (closing : (fs : List F) (b c : B) → P (Closing fs c) ≡ P (Closing fs b)) where
    pub body_unseen : (s : Status B F R) (c : B) → P (with_body s c) ≡ P s
    body_unseen Waiting c = refl
    body_unseen (Begun d) c = begun d c
    body_unseen (Open fs) c = refl
    body_unseen (Barred fs) c = refl
    body_unseen (Closing fs d) c = closing fs d c
    body_unseen (Finished r) c = refl
