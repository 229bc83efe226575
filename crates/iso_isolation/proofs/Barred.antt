-- What waits in a barred class finishes; and the first state.
use Rattle.std.proofs.Common.{◌≡◌, ℕ, List, [], ◌∷◌, Some, Bool, true, false, cond, ◌&&◌, ◌⊎◌, inl, inr, refl, sym, ap, subst, ◌∙◌, arith}
use Rattle.std.proofs.Math.Dec.{eqb}
use Rattle.std.proofs.lemmas.Bool.{eqb-true}
use Rattle.iso_isolation.specs.Languages.{Language, BodyLaws}
use Rattle.iso_isolation.specs.Suites.{Suite, On, same, up, chain, SuiteLaws}
use Rattle.iso_isolation.specs.Alone.{opening}
use Rattle.iso_isolation.specs.States as S
use Rattle.iso_isolation.specs.States.{Status, Nodes, put, is_waiting, is_open, is_barred, is_closing, is_finished, is_at_rest, is_held, body_in, frames_in, result_in, first}
use Rattle.iso_isolation.specs.Events.{is_in, stands_in, barring}
use Rattle.iso_isolation.proofs.Changes.{equal_or_not, true_or_false, put_here, on_put}
use Rattle.iso_isolation.proofs.Statuses.{waiting_is}
use Rattle.iso_isolation.proofs.Bodies.{reach, alike_by}
use Rattle.iso_isolation.proofs.LockEvents.{quieter}
use Rattle.iso_isolation.proofs.Openings.{opening_at, defined, blocked_defined, chain_root, along}
use Rattle.iso_isolation.proofs.Invariant.{source, Reached, Kept}

-- it waited, and has this result
record Blocked {B F R : Type 0} (old new : Status B F R) (right : R) : Type 0 where
  waited : old ≡ S.Waiting
  now : new ≡ S.Finished right

module _ {H K V B F R : Type 0} (l : Language H K V B F R) (x : Suite H K V) (plan : SuiteLaws l x) (laws : BodyLaws l) where
  -- a node on a path is above the node whose path it is
  on_step : (m n : ℕ) (ns : List ℕ) → (is_in n ns ≡ true → On x n (x.parent m)) → (m ≡ 0 → ⊥) → is_in n (m ∷ ns) ≡ true → On x n m
  on_step m n ns up_there nz h = elim (true_or_false (eqb m n)) [
    | inl t ↦ subst (λ (j : ℕ). On x j m) (eqb-true m n t) same
    | inr f ↦ up nz (up_there (sym (ap (λ (b : Bool). cond b true (is_in n ns)) f) ∙ h))
  ]

  pub path_on : (n m : ℕ) → is_in n (x.path m) ≡ true → On x n m
  path_on n m = along l x plan laws (λ (j : ℕ). is_in n (x.path j) ≡ true → On x n j)
      (λ h. let e : is_in n [] ≡ true = sym (ap (is_in n) plan.root) ∙ h in absurd cc)
      (λ j nz above h. on_step j n (x.path (x.parent j)) above nz (sym (ap (is_in n) (plan.path j nz)) ∙ h)) m

  module _ (s : Nodes K V B F R) (kept : Kept l x s) (n : ℕ) (fs : List F) (bar : s.status n ≡ S.Barred fs) where
    abbrev next : ℕ → Status B F R
    next = (barring l x n fs s).status

    by_case : (a b : Bool) (st t : Status B F R) (right : R) → (a ≡ true → b ≡ true → Blocked st t right) → (cond (a && b) t st ≡ st) ⊎ Blocked st (cond (a && b) t st) right
    by_case true true st t right h = inr (h refl refl)
    by_case true false st t right h = inl refl
    by_case false b st t right h = inl refl

    -- in the root stands nothing but what the barred class isn't above
    root_stays : next 0 ≡ s.status 0
    root_stays = root_by (stands_in l x 0 n) (s.status 0) kept.locked.root
      where
        root_by : (a : Bool) (st : Status B F R) → st ≡ S.Open [] → cond (a && is_waiting st) (S.Finished (l.blocked fs)) st ≡ st
        root_by true st e = ap (λ (v : Status B F R). cond (is_waiting v) (S.Finished (l.blocked fs)) v) e ∙ sym e
        root_by false st e = refl

    each : (m : ℕ) → (next m ≡ s.status m) ⊎ Blocked (s.status m) (next m) (defined l x m)
    each m = elim (equal_or_not m 0) [
      | inl z ↦ inl (ap next z ∙ root_stays ∙ ap s.status (sym z))
      | inr nz ↦ by_case (stands_in l x m n) (is_waiting (s.status m)) (s.status m) (S.Finished (l.blocked fs)) (defined l x m)
          (λ a b. record {
            waited = waiting_is (s.status m) b;
            now =
                let right = blocked_defined l x plan laws n m nz (path_on n (x.parent m) a) (kept.ill n (ap is_barred bar)) in
                ap S.Finished (ap l.blocked (sym (kept.told n fs (ap frames_in bar))) ∙ sym right);
          })
    ]

    -- what doesn't tell waiting from finished is as before
    unblocked : {A : Type 0} (P : Status B F R → A) → ((r : R) → P (S.Finished r) ≡ P S.Waiting) → (m : ℕ) → P (next m) ≡ P (s.status m)
    unblocked P alike m = elim (each m) [
      | inl e ↦ ap P e
      | inr d ↦ ap P d.now ∙ alike (defined l x m) ∙ ap P (sym d.waited)
    ]

    pub keeps_barring : Kept l x (barring l x n fs s)
    keeps_barring = record {
      locked = quieter x s.status next kept.locked (root_stays ∙ kept.locked.root)
          (λ m h. sym (unblocked is_held (λ r. refl) m) ∙ h)
          (λ m f. elim (each m) [ inl e ↦ ap is_finished e ∙ f | inr d ↦ ap is_finished d.now ])
          (λ m nz h o. unblocked is_open (λ r. refl) (x.parent m) ∙ o);
      told = λ c gs e. kept.told c gs (sym (unblocked frames_in (λ r. refl) c) ∙ e);
      well = λ c e. kept.well c (sym (unblocked is_open (λ r. refl) c) ∙ e);
      ill = λ c e. kept.ill c (sym (unblocked is_barred (λ r. refl) c) ∙ e);
      rest = λ c k e premise. kept.rest c k (sym (unblocked is_at_rest (λ r. refl) c) ∙ e) (λ d h w. premise d (unblocked is_held (λ r. refl) d ∙ h) w);
      saved = λ m k nz h w. kept.saved m k nz (sym (unblocked is_held (λ r. refl) m) ∙ h) w;
      going = λ m c e.
          let old = kept.going m c (sym (unblocked body_in (λ r. refl) m) ∙ e) in
          record {
            steps = old.steps;
            alone = alike_by l (chain x m) _ _ _ _ refl (ap (λ (j : Bool). reach l (chain x m) old.steps (source l x m j)) (sym (unblocked is_closing (λ r. refl) m))) old.alone;
          };
      class = λ m e. kept.class m (sym (unblocked is_closing (λ r. refl) m) ∙ e);
      done = λ m r nz e. elim (each m) [
        | inl old ↦ kept.done m r nz (sym (ap result_in old) ∙ e)
        | inr d ↦ let f : result_in (next m) ≡ Some (defined l x m) = ap result_in d.now in cc
      ];
    }

  abbrev nobody : ℕ → Status B F R
  nobody m = S.Waiting

  held_root : (m : ℕ) → is_held (put 0 (S.Open []) nobody m) ≡ true → m ≡ 0
  held_root m = on_put (λ (j : ℕ) (v : Status B F R). is_held v ≡ true → j ≡ 0) 0 (S.Open []) nobody m (λ e. refl) (λ ne e. absurd cc)

  pub keeps_first : Kept l x (first l x).nodes
  keeps_first = record {
    locked = record {
      root = put_here 0 (S.Open []) nobody;
      inside = λ n nz h. absurd (nz (held_root n h));
      tree = λ n nz h. absurd (nz (held_root n h));
      apart = λ m n ne hm hn c. ne (held_root m hm ∙ sym (held_root n hn));
      order = λ m n lt nz p sm sn h. let z = held_root n h in absurd (omega arith);
    };
    told = λ c. on_put (λ (j : ℕ) (v : Status B F R). (gs : List F) → frames_in v ≡ Some gs → (opening_at l x j).frames ≡ gs) 0 (S.Open []) nobody c
        (λ gs e. ap (λ (hs : List H). (opening l hs x.start).frames) (chain_root l x plan laws) ∙ cc) (λ ne gs e. absurd cc);
    well = λ c. on_put (λ (j : ℕ) (v : Status B F R). is_open v ≡ true → (opening_at l x j).well ≡ true) 0 (S.Open []) nobody c
        (λ e. ap (λ (hs : List H). (opening l hs x.start).well) (chain_root l x plan laws)) (λ ne e. absurd cc);
    ill = λ c. on_put (λ (j : ℕ) (v : Status B F R). is_barred v ≡ true → (opening_at l x j).well ≡ false) 0 (S.Open []) nobody c (λ e. absurd cc) (λ ne e. absurd cc);
    rest = λ c k r premise. on_put (λ (j : ℕ) (v : Status B F R). is_at_rest v ≡ true → x.start k ≡ (opening_at l x j).content k) 0 (S.Open []) nobody c
        (λ e. sym (ap (λ (hs : List H). (opening l hs x.start).content k) (chain_root l x plan laws))) (λ ne e. absurd cc) r;
    saved = λ m k nz h w. absurd (nz (held_root m h));
    going = λ m. on_put (λ (j : ℕ) (v : Status B F R). (c : B) → body_in v ≡ Some c → Reached l x j c x.start v) 0 (S.Open []) nobody m (λ c e. absurd cc) (λ ne c e. absurd cc);
    class = λ m. on_put (λ (j : ℕ) (v : Status B F R). is_closing v ≡ true → l.is_test (x.head j) ≡ false) 0 (S.Open []) nobody m (λ e. absurd cc) (λ ne e. absurd cc);
    done = λ m. on_put (λ (j : ℕ) (v : Status B F R). (q : R) → (j ≡ 0 → ⊥) → result_in v ≡ Some q → q ≡ defined l x j) 0 (S.Open []) nobody m (λ q qz e. absurd cc) (λ ne q qz e. absurd cc);
  }
