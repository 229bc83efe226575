-- The Leave of a test or of an `after_all` keeps the invariant: the values saved at its Enter are put back.
use Rattle.std.proofs.Common.{◌≡◌, ℕ, List, Some, Bool, true, false, cond, inl, inr, sym, ap, ◌∙◌, arith}
use Rattle.iso_isolation.specs.Languages.{Content, Language, BodyLaws}
use Rattle.iso_isolation.specs.Suites.{Suite, On, chain, may_write, SuiteLaws}
use Rattle.iso_isolation.specs.States as S
use Rattle.iso_isolation.specs.States.{Status, Nodes, nothing, put, is_open, is_barred, is_closing, is_at_rest, is_held, body_in, frames_in, result_in}
use Rattle.iso_isolation.specs.Restoring.{finishing}
use Rattle.iso_isolation.proofs.Changes.{true_or_false, put_here, put_elsewhere, on_put}
use Rattle.iso_isolation.proofs.Statuses.{open_held, body_shut, body_held, rest_held}
use Rattle.iso_isolation.proofs.Locks.{on_split, on_le, isolated}
use Rattle.iso_isolation.proofs.LockEvents.{quiet, turn_locked}
use Rattle.iso_isolation.proofs.Openings.{opening_at, defined, unwritten, writes_down}
use Rattle.iso_isolation.proofs.Invariant.{Reached, Untouched, Kept}
use Rattle.iso_isolation.proofs.Steps.{not_open, nonzero, lowest, others}

module _ {H K V B F R : Type 0} (l : Language H K V B F R) (x : Suite H K V) (plan : SuiteLaws l x) (laws : BodyLaws l)
    (s : Nodes K V B F R) (kept : Kept l x s) (n : ℕ) (b : B) (here : body_in (s.status n) ≡ Some b) (r : R) (right : r ≡ defined l x n) where
  nz : n ≡ 0 → ⊥
  nz = nonzero l x plan laws s kept n b here

  abbrev done : Status B F R
  done = S.Finished r

  held_here : is_held (s.status n) ≡ true
  held_here = body_held (s.status n) b here

  held_before : (m : ℕ) → is_held (put n done s.status m) ≡ true → is_held (s.status m) ≡ true
  held_before m = on_put (λ (j : ℕ) (v : Status B F R). is_held v ≡ true → is_held (s.status j) ≡ true) n done s.status m (λ e. absurd cc) (λ ne h. h)

  not_here : (m : ℕ) → is_held (put n done s.status m) ≡ true → m ≡ n → ⊥
  not_here m h e =
      let f : is_held (put n done s.status m) ≡ false = ap (λ (j : ℕ). is_held (put n done s.status j)) e ∙ ap is_held (put_here n done s.status) in
      cc

  held_after : (m : ℕ) → (m ≡ n → ⊥) → is_held (s.status m) ≡ true → is_held (put n done s.status m) ≡ true
  held_after m ne h = ap is_held (put_elsewhere m n done s.status ne) ∙ h

  parent_open : is_open (s.status (x.parent n)) ≡ true
  parent_open = kept.locked.tree n nz held_here

  parent_apart : x.parent n ≡ n → ⊥
  parent_apart e = not_open l x plan laws s kept n b here (ap (λ (j : ℕ). is_open (s.status j)) (sym e) ∙ parent_open)

  abbrev back : Content K V
  back k = cond (may_write l x n k) (s.saved n k) (s.flat k)

  back_else : (k : K) → may_write l x n k ≡ false → back k ≡ s.flat k
  back_else k w = ap (λ (b : Bool). cond b (s.saved n k) (s.flat k)) w

  -- a class at rest that relies on a key which the node may change: its opening left what the parent's did
  put_back : (c : ℕ) (k : K) → (c ≡ n → ⊥) → is_at_rest (s.status c) ≡ true → may_write l x n k ≡ true
      → ((d : ℕ) → (d ≡ n → ⊥) → is_held (s.status d) ≡ true → may_write l x d k ≡ true → On x d c)
      → (opening_at l x (x.parent n)).content k ≡ (opening_at l x c).content k
  put_back c k ne rc w premise =
      let p = x.parent n in
      let up_to : may_write l x p k ≡ true → On x p c = λ wp. premise p parent_apart (open_held (s.status p) parent_open) wp in
      elim (true_or_false (may_write l x c k)) [
        | inl wc ↦ elim (isolated l x plan laws s.status kept.locked n c k w (laws.rights.write_reads (chain x c) k wc) held_here (rest_held (s.status c) rc)) [
          | inl on ↦ absurd (ne (sym (lowest l x plan laws s kept n b here c (rest_held (s.status c) rc) on)))
          | inr on ↦ elim (on_split x on) [
            | inl e ↦ absurd (ne e)
            | inr q ↦
                let wp = writes_down l x plan laws k q.1 wc in
                let low = on_le l x plan q.1 in
                let high = on_le l x plan (up_to wp) in
                let eq : p ≡ c = omega arith in
                ap (λ (j : ℕ). (opening_at l x j).content k) eq
          ]
        ]
        | inr wc ↦ elim (true_or_false (may_write l x p k)) [
          | inl wp ↦ let down = writes_down l x plan laws k (up_to wp) wp in absurd cc
          | inr wp ↦ unwritten l x plan laws p k wp ∙ sym (unwritten l x plan laws c k wc)
        ]
      ]

  rest_back : (c : ℕ) (k : K) → (c ≡ n → ⊥) → is_at_rest (s.status c) ≡ true → Untouched l x (put n done s.status) c k → back k ≡ (opening_at l x c).content k
  rest_back c k ne rc premise = elim (true_or_false (may_write l x n k)) [
    | inl w ↦
        ap (λ (t : Bool). cond t (s.saved n k) (s.flat k)) w
        ∙ kept.saved n k nz held_here w
        ∙ put_back c k ne rc w (λ d nd h wd. premise d (held_after d nd h) wd)
    | inr w ↦
        back_else k w
        ∙ kept.rest c k rc (λ d h wd. premise d (held_after d (λ e. let f : may_write l x n k ≡ true = ap (λ (j : ℕ). may_write l x j k) (sym e) ∙ wd in let g : true ≡ false = sym f ∙ w in cc) h) wd)
  ]

  pub keeps_finish : Kept l x (finishing l x n r s)
  keeps_finish = record {
    locked = turn_locked x s.status kept.locked n nz held_here (quiet x s.status kept.locked n (body_shut (s.status n) b here)) done;
    told = λ c. on_put (λ (j : ℕ) (v : Status B F R). (gs : List F) → frames_in v ≡ Some gs → (opening_at l x j).frames ≡ gs) n done s.status c
        (λ gs e. absurd cc) (λ ne. kept.told c);
    well = λ c. on_put (λ (j : ℕ) (v : Status B F R). is_open v ≡ true → (opening_at l x j).well ≡ true) n done s.status c (λ e. absurd cc) (λ ne. kept.well c);
    ill = λ c. on_put (λ (j : ℕ) (v : Status B F R). is_barred v ≡ true → (opening_at l x j).well ≡ false) n done s.status c (λ e. absurd cc) (λ ne. kept.ill c);
    rest = λ c k. on_put (λ (j : ℕ) (v : Status B F R). is_at_rest v ≡ true → Untouched l x (put n done s.status) j k → back k ≡ (opening_at l x j).content k) n done s.status c
        (λ rc premise. absurd cc) (λ ne rc premise. rest_back c k ne rc premise);
    saved = λ m k mz h w. ap (λ (f : Content K V). f k) (put_elsewhere m n nothing s.saved (not_here m h)) ∙ kept.saved m k mz (held_before m h) w;
    going = λ m. on_put (λ (j : ℕ) (v : Status B F R). (c : B) → body_in v ≡ Some c → Reached l x j c back v) n done s.status m
        (λ c e. absurd cc)
        (λ ne c e. others l x plan laws s kept n b here back back_else m c ne e);
    class = λ m. on_put (λ (j : ℕ) (v : Status B F R). is_closing v ≡ true → l.is_test (x.head j) ≡ false) n done s.status m (λ e. absurd cc) (λ ne. kept.class m);
    done = λ m. on_put (λ (j : ℕ) (v : Status B F R). (q : R) → (j ≡ 0 → ⊥) → result_in v ≡ Some q → q ≡ defined l x j) n done s.status m
        (λ q qz e. let f : r ≡ q = cc in sym f ∙ right) (λ ne. kept.done m);
  }
