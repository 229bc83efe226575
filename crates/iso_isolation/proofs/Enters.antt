-- Enter keeps the invariant: the node's body begins on what its parent's opening left.
use Rattle.std.proofs.Common.{◌≡◌, ℕ, Some, None, List, Bool, true, false, cond, inl, inr, refl, sym, ap, ◌∙◌}
use Rattle.iso_isolation.specs.Languages.{Content, Language, BodyLaws, Alike}
use Rattle.iso_isolation.specs.Suites.{Suite, chain, may_read, may_write, SuiteLaws}
use Rattle.iso_isolation.specs.Alone.{restricted}
use Rattle.iso_isolation.specs.States as S
use Rattle.iso_isolation.specs.States.{Status, Nodes, put, is_open, is_barred, is_closing, is_at_rest, is_held, body_in, frames_in, result_in}
use Rattle.iso_isolation.specs.Events.{frames_of, entering}
use Rattle.iso_isolation.proofs.Changes.{equal_or_not, put_here, put_elsewhere, on_put}
use Rattle.iso_isolation.proofs.Statuses.{open_rests, open_is}
use Rattle.iso_isolation.proofs.Locks.{Locked, on_split, strictly_above, isolated}
use Rattle.iso_isolation.proofs.LockEvents.{MayEnter, enter_locked}
use Rattle.iso_isolation.proofs.Openings.{opening_at, defined}
use Rattle.iso_isolation.proofs.Invariant.{source, Reached, Kept}

module _ {H K V B F R : Type 0} (l : Language H K V B F R) (x : Suite H K V) (plan : SuiteLaws l x) (laws : BodyLaws l)
    (s : Nodes K V B F R) (kept : Kept l x s) (n : ℕ) (may : MayEnter x s.status n) where
  abbrev fs : List F
  fs = frames_of (s.status (x.parent n))

  abbrev begun : Status B F R
  begun = S.Begun (l.begin (chain x n) fs)

  abbrev kept_values : Content K V
  kept_values = restricted (may_write l x n) s.flat

  now_locked : Locked x (put n begun s.status)
  now_locked = enter_locked x s.status kept.locked n may begun refl

  apart_from : (m : ℕ) → is_held (s.status m) ≡ true → m ≡ n → ⊥
  apart_from m h e = let f : is_held (s.status m) ≡ false = ap (λ (j : ℕ). is_held (s.status j)) e ∙ ap is_held may.waiting in cc

  still_held : (m : ℕ) → is_held (s.status m) ≡ true → is_held (put n begun s.status m) ≡ true
  still_held m h = ap is_held (put_elsewhere m n begun s.status (apart_from m h)) ∙ h

  -- at the keys of its rights the flat map is what its parent's opening left
  pub fresh : (k : K) → may_read l x n k ≡ true → s.flat k ≡ (opening_at l x (x.parent n)).content k
  fresh k r =
      kept.rest (x.parent n) k (open_rests (s.status (x.parent n)) may.parent)
      (λ d h w.
      elim (isolated l x plan laws (put n begun s.status) now_locked d n k w r (still_held d h) (ap is_held (put_here n begun s.status))) [
        | inl on ↦ elim (on_split x on) [
          | inl e ↦ absurd (apart_from d h e)
          | inr p ↦ p.1
        ]
        | inr on ↦
            let o = strictly_above l x plan laws (put n begun s.status) now_locked on (λ e. apart_from d h (sym e)) (still_held d h) in
            let f : is_open (put n begun s.status n) ≡ false = ap is_open (put_here n begun s.status) in
            absurd cc
      ])

  -- its body stands at its beginning
  pub begins : (c : B) → Some (l.begin (chain x n) fs) ≡ Some c → Alike l (chain x n) (record { body = c; content = s.flat }) (source l x n false)
  begins c e =
      let frames : (opening_at l x (x.parent n)).frames ≡ fs = kept.told (x.parent n) fs (ap frames_in (open_is (s.status (x.parent n)) may.parent)) in
      let first : l.begin (chain x n) (opening_at l x (x.parent n)).frames ≡ c = ap (l.begin (chain x n)) frames ∙ cc in
      record { body = sym first; at = fresh }

  pub keeps_enter : Kept l x (entering l x n s)
  keeps_enter = record {
    locked = now_locked;
    told = λ c. on_put (λ (j : ℕ) (v : Status B F R). (gs : List F) → frames_in v ≡ Some gs → (opening_at l x j).frames ≡ gs) n begun s.status c (λ gs e. absurd cc) (λ ne. kept.told c);
    well = λ c. on_put (λ (j : ℕ) (v : Status B F R). is_open v ≡ true → (opening_at l x j).well ≡ true) n begun s.status c (λ e. absurd cc) (λ ne. kept.well c);
    ill = λ c. on_put (λ (j : ℕ) (v : Status B F R). is_barred v ≡ true → (opening_at l x j).well ≡ false) n begun s.status c (λ e. absurd cc) (λ ne. kept.ill c);
    rest = λ c k r premise.
        let was : is_at_rest (s.status c) ≡ true = on_put (λ (j : ℕ) (v : Status B F R). is_at_rest v ≡ true → is_at_rest (s.status j) ≡ true) n begun s.status c (λ e. absurd cc) (λ ne e. e) r in
        kept.rest c k was (λ d h w. premise d (still_held d h) w);
    saved = λ m k nz h w. elim (equal_or_not m n) [
      | inl e ↦
          let wn : may_write l x n k ≡ true = ap (λ (j : ℕ). may_write l x j k) (sym e) ∙ w in
          ap (λ (j : ℕ). put n kept_values s.saved j k) e
          ∙ ap (λ (f : Content K V). f k) (put_here n kept_values s.saved)
          ∙ ap (λ (b : Bool). cond b (s.flat k) None) wn
          ∙ fresh k (laws.rights.write_reads (chain x n) k wn)
          ∙ ap (λ (j : ℕ). (opening_at l x (x.parent j)).content k) (sym e)
      | inr ne ↦ ap (λ (f : Content K V). f k) (put_elsewhere m n kept_values s.saved ne) ∙ kept.saved m k nz (sym (ap is_held (put_elsewhere m n begun s.status ne)) ∙ h) w
    ];
    going = λ m. on_put (λ (j : ℕ) (v : Status B F R). (c : B) → body_in v ≡ Some c → Reached l x j c s.flat v) n begun s.status m
        (λ c e. record { steps = 0; alone = begins c e })
        (λ ne. kept.going m);
    class = λ m. on_put (λ (j : ℕ) (v : Status B F R). is_closing v ≡ true → l.is_test (x.head j) ≡ false) n begun s.status m (λ e. absurd cc) (λ ne. kept.class m);
    done = λ m. on_put (λ (j : ℕ) (v : Status B F R). (r : R) → (j ≡ 0 → ⊥) → result_in v ≡ Some r → r ≡ defined l x j) n begun s.status m (λ r nz e. absurd cc) (λ ne. kept.done m);
  }
