-- What every run keeps of workers and owners, of classes, and of what waits.
use Rattle.std.proofs.Common.{◌≡◌, ℕ, ◌<◌, Option, Some, None, Bool, true, false, cond, ◌⊎◌, inl, inr, refl, sym, ap, ◌∙◌}
use Rattle.iso_isolation.specs.Languages.{Language}
use Rattle.iso_isolation.specs.Suites.{Suite}
use Rattle.iso_isolation.specs.States as S
use Rattle.iso_isolation.specs.States.{Status, Nodes, State, put, is_waiting, is_open, is_finished, is_at_rest, is_held, body_in, with_body, first}
use Rattle.iso_isolation.proofs.Changes.{equal_or_not, put_here, put_elsewhere, on_put}
use Rattle.iso_isolation.proofs.Statuses.{body_unseen}

module _ {B F R : Type 0} where
  -- a class in which nothing is entered any more
  abbrev pub is_closed : Status B F R → Bool
  is_closed S.Waiting = false
  is_closed (S.Begun b) = false
  is_closed (S.Open fs) = false
  is_closed (S.Barred fs) = true
  is_closed (S.Closing fs b) = true
  is_closed (S.Finished r) = true

  pub open_unclosed : (s : Status B F R) → is_open s ≡ true → is_closed s ≡ true → ⊥
  open_unclosed S.Waiting o c = cc
  open_unclosed (S.Begun b) o c = cc
  open_unclosed (S.Open fs) o c = cc
  open_unclosed (S.Barred fs) o c = cc
  open_unclosed (S.Closing fs b) o c = cc
  open_unclosed (S.Finished r) o c = cc

  pub waiting_unfinished : (s : Status B F R) → is_waiting s ≡ true → is_finished s ≡ true → ⊥
  waiting_unfinished S.Waiting w f = cc
  waiting_unfinished (S.Begun b) w f = cc
  waiting_unfinished (S.Open fs) w f = cc
  waiting_unfinished (S.Barred fs) w f = cc
  waiting_unfinished (S.Closing fs b) w f = cc
  waiting_unfinished (S.Finished r) w f = cc

  pub rest_open_or_closed : (s : Status B F R) → is_at_rest s ≡ true → (is_open s ≡ true) ⊎ (is_closed s ≡ true)
  rest_open_or_closed S.Waiting e = absurd cc
  rest_open_or_closed (S.Begun b) e = absurd cc
  rest_open_or_closed (S.Open fs) e = inl refl
  rest_open_or_closed (S.Barred fs) e = inr refl
  rest_open_or_closed (S.Closing fs b) e = absurd cc
  rest_open_or_closed (S.Finished r) e = absurd cc

  body_unwaiting : (s : Status B F R) (b : B) → body_in s ≡ Some b → is_waiting s ≡ false
  body_unwaiting S.Waiting b e = absurd cc
  body_unwaiting (S.Begun c) b e = refl
  body_unwaiting (S.Open fs) b e = refl
  body_unwaiting (S.Barred fs) b e = refl
  body_unwaiting (S.Closing fs c) b e = refl
  body_unwaiting (S.Finished r) b e = refl

  -- a status under a barred class no longer waits, and rests only if it did before
  pub blocked_unwaiting : (s : Status B F R) (r : R) → is_waiting (cond (is_waiting s) (S.Finished r) s) ≡ false
  blocked_unwaiting S.Waiting r = refl
  blocked_unwaiting (S.Begun b) r = refl
  blocked_unwaiting (S.Open fs) r = refl
  blocked_unwaiting (S.Barred fs) r = refl
  blocked_unwaiting (S.Closing fs b) r = refl
  blocked_unwaiting (S.Finished q) r = refl

module _ {H K V B F R : Type 0} (l : Language H K V B F R) (x : Suite H K V) (workers : ℕ) where
  -- a worker whose body is at a node
  pub record WorkerAt (busy : ℕ → Option ℕ) (n : ℕ) : Type 0 where
    pub worker : ℕ
    pub inside : worker < workers
    pub at : busy worker ≡ Some n

  abbrev Manned : (ℕ → Status B F R) → (ℕ → Option ℕ) → Type 0
  Manned st busy = (n : ℕ) (b : B) → body_in (st n) ≡ Some b → WorkerAt busy n

  -- what is at rest is no test
  abbrev RestsAsClass : (ℕ → Status B F R) → Type 0
  RestsAsClass st = (n : ℕ) → (n ≡ 0 → ⊥) → is_at_rest (st n) ≡ true → l.is_test (x.head n) ≡ false

  -- nothing waits in a closed class
  abbrev NoneLeft : (ℕ → Status B F R) → Type 0
  NoneLeft st = (n : ℕ) → (n ≡ 0 → ⊥) → n < x.nodes → is_waiting (st n) ≡ true → is_closed (st (x.parent n)) ≡ true → ⊥

  pub record Standing (st : ℕ → Status B F R) (busy : ℕ → Option ℕ) : Type 0 where
    pub manned : Manned st busy
    pub class : RestsAsClass st
    pub left : NoneLeft st

  pub record Staffed (s : State K V B F R) : Type 0 where
    pub going : s.stopped ≡ false
    pub owned : (n : ℕ) → s.owner n < workers
    pub standing : Standing s.nodes.status s.busy

  -- one status is another, and doesn't wait
  left_put : (st : ℕ → Status B F R) → NoneLeft st → (n : ℕ) (v : Status B F R) → is_waiting v ≡ false
      → (is_closed v ≡ true → (m : ℕ) → (m ≡ 0 → ⊥) → m < x.nodes → x.parent m ≡ n → is_waiting (st m) ≡ true → ⊥) → NoneLeft (put n v st)
  left_put st left n v unwaiting children m nz lt w c = elim (equal_or_not m n) [
    | inl e ↦ let h : is_waiting (put n v st m) ≡ false = ap (λ (j : ℕ). is_waiting (put n v st j)) e ∙ ap is_waiting (put_here n v st) ∙ unwaiting in cc
    | inr ne ↦
        let before : is_waiting (st m) ≡ true = sym (ap is_waiting (put_elsewhere m n v st ne)) ∙ w in
        elim (equal_or_not (x.parent m) n) [
          | inl p ↦ children (sym (ap is_closed (ap (put n v st) p ∙ put_here n v st)) ∙ c) m nz lt p before
          | inr np ↦ left m nz lt before (sym (ap is_closed (put_elsewhere (x.parent m) n v st np)) ∙ c)
        ]
  ]

  -- worker w begins a body at node n
  module _ (st : ℕ → Status B F R) (busy : ℕ → Option ℕ) (t : Standing st busy) (n w : ℕ) where
    pub begins : w < workers → ((m : ℕ) (b : B) → busy w ≡ Some m → body_in (st m) ≡ Some b → ⊥) → (v : Status B F R) (b : B) → body_in v ≡ Some b → is_at_rest v ≡ false
        → (is_closed v ≡ true → (m : ℕ) → (m ≡ 0 → ⊥) → m < x.nodes → x.parent m ≡ n → is_waiting (st m) ≡ true → ⊥)
        → Standing (put n v st) (put w (Some n) busy)
    begins lt idle v b body unrest children = record {
      manned = λ m c. on_put (λ (j : ℕ) (u : Status B F R). body_in u ≡ Some c → WorkerAt (put w (Some n) busy) j) n v st m
          (λ e. record { worker = w; inside = lt; at = put_here w (Some n) busy })
          (λ ne e.
          let a = t.manned m c e in
          record { worker = a.worker; inside = a.inside; at = put_elsewhere a.worker w (Some n) busy (λ q. idle m c (sym (ap busy q) ∙ a.at) e) ∙ a.at });
      class = λ m nz. on_put (λ (j : ℕ) (u : Status B F R). is_at_rest u ≡ true → l.is_test (x.head j) ≡ false) n v st m (λ e. absurd cc) (λ ne e. t.class m nz e);
      left = left_put st t.left n v (body_unwaiting v b body) children;
    }

    -- another body at the same node
    pub goes_on : (b c : B) → body_in (st n) ≡ Some b → Standing (put n (with_body (st n) c) st) busy
    goes_on b c body =
        let v = with_body (st n) c in
        let closed : is_closed v ≡ is_closed (st n) = body_unseen is_closed (λ p q. refl) (λ fs p q. refl) (st n) c in
        let waiting : is_waiting v ≡ is_waiting (st n) = body_unseen is_waiting (λ p q. refl) (λ fs p q. refl) (st n) c in
        let rest : is_at_rest v ≡ is_at_rest (st n) = body_unseen is_at_rest (λ p q. refl) (λ fs p q. refl) (st n) c in
        record {
          manned = λ m d. on_put (λ (j : ℕ) (u : Status B F R). body_in u ≡ Some d → WorkerAt busy j) n v st m (λ e. t.manned n b body) (λ ne e. t.manned m d e);
          class = λ m nz. on_put (λ (j : ℕ) (u : Status B F R). (j ≡ 0 → ⊥) → is_at_rest u ≡ true → l.is_test (x.head j) ≡ false) n v st m
              (λ z e. t.class n z (sym rest ∙ e)) (λ ne z e. t.class m z e) nz;
          left = left_put st t.left n v (waiting ∙ body_unwaiting (st n) b body)
              (λ e m nz lt p h. t.left m nz lt h (ap (λ (j : ℕ). is_closed (st j)) p ∙ sym closed ∙ e));
        }

    -- worker w leaves its body at node n, after which bodies are under way at other nodes, where they were
    pub manned_left : busy w ≡ Some n → (next : ℕ → Status B F R) → ((m : ℕ) (b : B) → body_in (next m) ≡ Some b → (body_in (st m) ≡ Some b) × (m ≡ n → ⊥)) → Manned next (put w None busy)
    manned_left here next stay m b e =
        let p = stay m b e in
        let a = t.manned m b p.0 in
        record {
          worker = a.worker;
          inside = a.inside;
          at = put_elsewhere a.worker w None busy (λ q. p.1 (let same : Some m ≡ Some n = sym a.at ∙ ap busy q ∙ here in cc)) ∙ a.at;
        }

    -- its new status has no body
    pub left_to : busy w ≡ Some n → (v : Status B F R) → body_in v ≡ None → is_waiting v ≡ false → (is_at_rest v ≡ true → l.is_test (x.head n) ≡ false)
        → (is_closed v ≡ true → (m : ℕ) → (m ≡ 0 → ⊥) → m < x.nodes → x.parent m ≡ n → is_waiting (st m) ≡ true → ⊥)
        → Standing (put n v st) (put w None busy)
    left_to here v bare unwaiting class children = record {
      manned = manned_left here (put n v st) (λ m b. on_put (λ (j : ℕ) (u : Status B F R). body_in u ≡ Some b → (body_in (st j) ≡ Some b) × (j ≡ n → ⊥)) n v st m (λ e. absurd cc) (λ ne e. (e, ne)));
      class = λ m nz. on_put (λ (j : ℕ) (u : Status B F R). is_at_rest u ≡ true → l.is_test (x.head j) ≡ false) n v st m class (λ ne e. t.class m nz e);
      left = left_put st t.left n v unwaiting children;
    }
