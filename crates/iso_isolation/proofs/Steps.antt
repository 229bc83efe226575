-- A body under way is alone with the keys that it may change, and its step keeps the invariant.
use Rattle.std.proofs.Common.{◌≡◌, ℕ, suc, List, [], Some, Bool, true, false, inl, inr, refl, sym, ap, ◌∙◌}
use Rattle.iso_isolation.specs.Languages.{Content, Language, BodyLaws}
use Rattle.iso_isolation.specs.Suites.{Suite, On, chain, may_read, may_write, SuiteLaws}
use Rattle.iso_isolation.specs.States as S
use Rattle.iso_isolation.specs.States.{Status, Nodes, put, is_open, is_barred, is_closing, is_at_rest, is_held, body_in, with_body, frames_in, result_in}
use Rattle.iso_isolation.specs.Events.{stepping}
use Rattle.iso_isolation.proofs.Changes.{equal_or_not, true_or_false, on_put, unmoved}
use Rattle.iso_isolation.proofs.Statuses.{body_shut, body_held, body_unrest, rest_held, other_body, body_unseen}
use Rattle.iso_isolation.proofs.Bodies.{reach, alike_by, alike_then, one_more}
use Rattle.iso_isolation.proofs.Locks.{strictly_above, isolated}
use Rattle.iso_isolation.proofs.LockEvents.{quiet, turn_locked}
use Rattle.iso_isolation.proofs.Invariant.{source, Reached, Untouched, Kept}

module _ {H K V B F R : Type 0} (l : Language H K V B F R) (x : Suite H K V) (plan : SuiteLaws l x) (laws : BodyLaws l)
    (s : Nodes K V B F R) (kept : Kept l x s) (n : ℕ) (b : B) (here : body_in (s.status n) ≡ Some b) where
  pub not_open : is_open (s.status n) ≡ true → ⊥
  not_open o = let f = body_shut (s.status n) b here in cc

  pub nonzero : n ≡ 0 → ⊥
  nonzero z = let e : s.status n ≡ S.Open [] = ap s.status z ∙ kept.locked.root in let f : is_open (s.status n) ≡ true = ap is_open e in not_open f

  -- it stands above no other entered node
  pub lowest : (m : ℕ) → is_held (s.status m) ≡ true → On x n m → n ≡ m
  lowest m h on = elim (equal_or_not n m) [
    | inl e ↦ e
    | inr ne ↦ absurd (not_open (strictly_above l x plan laws s.status kept.locked on ne h))
  ]

  -- what it may change, no other body may look at
  pub alone_there : (m : ℕ) (c : B) (k : K) → body_in (s.status m) ≡ Some c → (m ≡ n → ⊥) → may_read l x m k ≡ true → may_write l x n k ≡ false
  alone_there m c k there ne r = elim (true_or_false (may_write l x n k)) [
    | inr f ↦ f
    | inl w ↦ elim (isolated l x plan laws s.status kept.locked n m k w r (body_held (s.status n) b here) (body_held (s.status m) c there)) [
      | inl on ↦ absurd (ne (sym (lowest m (body_held (s.status m) c there) on)))
      | inr on ↦
          let o = strictly_above l x plan laws s.status kept.locked on ne (body_held (s.status n) b here) in
          let f = body_shut (s.status m) c there in absurd cc
    ]
  ]

  -- what it may change, no class at rest relies on
  pub rest_apart : (c : ℕ) (k : K) → is_at_rest (s.status c) ≡ true → (is_held (s.status n) ≡ true → may_write l x n k ≡ true → On x n c) → may_write l x n k ≡ false
  rest_apart c k r premise = elim (true_or_false (may_write l x n k)) [
    | inr f ↦ f
    | inl w ↦
        let e = lowest c (rest_held (s.status c) r) (premise (body_held (s.status n) b here) w) in
        let f : is_at_rest (s.status c) ≡ false = ap (λ (j : ℕ). is_at_rest (s.status j)) (sym e) ∙ body_unrest (s.status n) b here in
        absurd cc
  ]

  -- the other bodies go on as before
  pub others : (flat : Content K V) → ((k : K) → may_write l x n k ≡ false → flat k ≡ s.flat k) → (m : ℕ) (c : B) → (m ≡ n → ⊥)
      → body_in (s.status m) ≡ Some c → Reached l x m c flat (s.status m)
  others flat still m c ne there =
      let old = kept.going m c there in
      record {
        steps = old.steps;
        alone = alike_then l (chain x m) _ _ _ (record { body = refl; at = λ k r. still k (alone_there m c k there ne r) }) old.alone;
      }

  abbrev step_status : Status B F R
  step_status = with_body (s.status n) (l.step (chain x n) b s.flat).body

  unseen : {A : Type 0} (P : Status B F R → A) → ((b c : B) → P (S.Begun c) ≡ P (S.Begun b)) → ((fs : List F) (b c : B) → P (S.Closing fs c) ≡ P (S.Closing fs b))
      → (m : ℕ) → P (put n step_status s.status m) ≡ P (s.status m)
  unseen P begun closing = unmoved P n step_status s.status (body_unseen P begun closing (s.status n) (l.step (chain x n) b s.flat).body)

  held : (m : ℕ) → is_held (put n step_status s.status m) ≡ is_held (s.status m)
  held = unseen is_held (λ b c. refl) (λ fs b c. refl)

  pub keeps_step : Kept l x (stepping l x n s b)
  keeps_step =
      let g = l.step (chain x n) b s.flat in
      record {
        locked = turn_locked x s.status kept.locked n nonzero (body_held (s.status n) b here) (quiet x s.status kept.locked n (body_shut (s.status n) b here)) step_status;
        told = λ c fs e. kept.told c fs (sym (unseen frames_in (λ b c. refl) (λ fs b c. refl) c) ∙ e);
        well = λ c e. kept.well c (sym (unseen is_open (λ b c. refl) (λ fs b c. refl) c) ∙ e);
        ill = λ c e. kept.ill c (sym (unseen is_barred (λ b c. refl) (λ fs b c. refl) c) ∙ e);
        rest = λ c k e premise.
            let r = sym (unseen is_at_rest (λ b c. refl) (λ fs b c. refl) c) ∙ e in
            let before : Untouched l x s.status c k = λ d h w. premise d (held d ∙ h) w in
            laws.step_writes (chain x n) b s.flat k (rest_apart c k r (before n)) ∙ kept.rest c k r before;
        saved = λ m k nz h w. kept.saved m k nz (sym (held m) ∙ h) w;
        going = λ m. on_put (λ (j : ℕ) (v : Status B F R). (c : B) → body_in v ≡ Some c → Reached l x j c g.content v) n step_status s.status m
            (λ c e.
            let e2 : c ≡ g.body = let e3 = other_body (s.status n) b g.body here in cc in
            let old = kept.going n b here in
            record {
              steps = suc old.steps;
              alone = alike_by l (chain x n) _ _ _ _ (ap (λ (j : B). record { body = j; content = g.content }) (sym e2))
                  (ap (λ (j : Bool). reach l (chain x n) (suc old.steps) (source l x n j)) (sym (body_unseen is_closing (λ b c. refl) (λ fs b c. refl) (s.status n) g.body)))
                  (one_more l (chain x n) laws old.steps b s.flat (source l x n (is_closing (s.status n))) old.alone);
            })
            (λ ne c e. others g.content (λ k w. laws.step_writes (chain x n) b s.flat k w) m c ne e);
        class = λ m e. kept.class m (sym (unseen is_closing (λ b c. refl) (λ fs b c. refl) m) ∙ e);
        done = λ m r nz e. kept.done m r nz (sym (unseen result_in (λ b c. refl) (λ fs b c. refl) m) ∙ e);
      }
