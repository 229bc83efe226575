-- A Leave keeps what workers, classes and waiting nodes keep.
use Rattle.std.proofs.Common.{◌≡◌, ℕ, ◌<◌, List, [], Option, Some, None, Bool, true, false, cond, ◌&&◌, inl, inr, refl, sym, ap, subst, ◌∙◌}
use Rattle.std.proofs.Math.Dec.{eqb}
use Rattle.std.proofs.lemmas.Bool.{eqb-false}
use Rattle.iso_isolation.specs.Languages.{Language}
use Rattle.iso_isolation.specs.Suites.{Suite, SuiteLaws}
use Rattle.iso_isolation.specs.States as S
use Rattle.iso_isolation.specs.States.{Status, Nodes, put, is_waiting, is_at_rest, body_in}
use Rattle.iso_isolation.specs.Events.{is_in, stands_in, open_or_barred, frames_left, ended_well, opening_left, barring, leaving}
use Rattle.iso_isolation.specs.Restoring.{finishing}
use Rattle.iso_isolation.proofs.Changes.{equal_or_not, true_or_false, put_elsewhere, on_put}
use Rattle.iso_isolation.proofs.Fresh.{left_no_body, unbarred}
use Rattle.iso_progress.specs.ProgressLaws.{ProgressLaws}
use Rattle.iso_progress.proofs.Staffed.{Standing, is_closed, blocked_unwaiting, left_to, manned_left}

left_unwaiting : (B F R : Type 0) (well : Bool) (fs : List F) → is_waiting {B = B} {F = F} {R = R} (open_or_barred well fs) ≡ false
left_unwaiting B F R true fs = refl
left_unwaiting B F R false fs = refl

left_well : (B F R : Type 0) (well : Bool) (fs : List F) → well ≡ true → is_closed {B = B} {F = F} {R = R} (open_or_barred well fs) ≡ false
left_well B F R true fs e = refl
left_well B F R false fs e = absurd cc

both_false : (e r : Bool) → cond e true r ≡ false → (e ≡ false) × (r ≡ false)
both_false true r h = absurd cc
both_false false r h = (refl, h)

module _ {H K V B F R : Type 0} (l : Language H K V B F R) (x : Suite H K V) (plan : SuiteLaws l x) (more : ProgressLaws l x) (workers : ℕ) where
  module _ (s : Nodes K V B F R) (busy : ℕ → Option ℕ) (t : Standing l x workers s.status busy) (n w : ℕ) (here : busy w ≡ Some n) (nz : n ≡ 0 → ⊥) (b : B) where
    -- no node stands in a test
    childless : l.is_test (x.head n) ≡ true → (m : ℕ) → (m ≡ 0 → ⊥) → x.parent m ≡ n → ⊥
    childless test m mz p =
        let class : l.is_test (x.head (x.parent m)) ≡ false = more.tests m mz (λ z. nz (sym p ∙ z)) in
        let other : l.is_test (x.head (x.parent m)) ≡ true = ap (λ (j : ℕ). l.is_test (x.head j)) p ∙ test in
        cc

    finishes : (r : R) → ((m : ℕ) → (m ≡ 0 → ⊥) → m < x.nodes → x.parent m ≡ n → is_waiting (s.status m) ≡ true → ⊥)
        → Standing l x workers (finishing l x n r s).status (put w None busy)
    finishes r children = left_to l x workers s.status busy t n w here (S.Finished r) refl refl (λ e. absurd cc) (λ c. children)

    abbrev left : Status B F R
    left = open_or_barred (ended_well l x n b s) (frames_left l x n b s)

    opens : l.is_test (x.head n) ≡ false → ended_well l x n b s ≡ true → Standing l x workers (opening_left l x n b s).status (put w None busy)
    opens class well = left_to l x workers s.status busy t n w here left
        (left_no_body B F R (ended_well l x n b s) (frames_left l x n b s)) (left_unwaiting B F R (ended_well l x n b s) (frames_left l x n b s)) (λ e. class)
        (λ c. let o : is_closed left ≡ false = left_well B F R (ended_well l x n b s) (frames_left l x n b s) well in absurd cc)

    -- a class that is barred: what waits in it has finished
    module _ (fs : List F) where
      abbrev opened : ℕ → Status B F R
      opened = (opening_left l x n b s).status

      abbrev next : ℕ → Status B F R
      next = (barring l x n fs (opening_left l x n b s)).status

      same_in : {A : Type 0} (P : Status B F R → A) → ((r : R) → P (S.Finished r) ≡ P S.Waiting) → (m : ℕ) → P (next m) ≡ P (opened m)
      same_in P e m = unbarred P e (stands_in l x m n) (opened m) (l.blocked fs)

      -- a node that doesn't stand in the class is as it was
      outside : (m : ℕ) → stands_in l x m n ≡ false → next m ≡ opened m
      outside m out = ap (λ (a : Bool). cond (a && is_waiting (opened m)) (S.Finished (l.blocked fs)) (opened m)) out

      waits_before : (m : ℕ) → is_waiting (opened m) ≡ true → is_waiting (s.status m) ≡ true
      waits_before m = on_put (λ (j : ℕ) (u : Status B F R). is_waiting u ≡ true → is_waiting (s.status j) ≡ true) n left s.status m
          (λ e. let no : is_waiting left ≡ false = left_unwaiting B F R (ended_well l x n b s) (frames_left l x n b s) in absurd cc) (λ ne e. e)

      none_left : next 0 ≡ S.Open [] → (m : ℕ) → (m ≡ 0 → ⊥) → m < x.nodes → is_waiting (next m) ≡ true → is_closed (next (x.parent m)) ≡ true → ⊥
      none_left root m mz lt waits closed = elim (true_or_false (stands_in l x m n)) [
        | inl inside ↦
            let no : is_waiting (next m) ≡ false =
            ap (λ (a : Bool). is_waiting (cond (a && is_waiting (opened m)) (S.Finished (l.blocked fs)) (opened m))) inside
            ∙ blocked_unwaiting (opened m) (l.blocked fs)
            in cc
        | inr out ↦ elim (equal_or_not (x.parent m) 0) [
          | inl z ↦ let o : is_closed (next (x.parent m)) ≡ false = ap (λ (j : ℕ). is_closed (next j)) z ∙ ap is_closed root in cc
          | inr pz ↦
              let p = x.parent m in
              let apart = both_false (eqb p n) (is_in n (x.path (x.parent p))) (sym (ap (is_in n) (plan.path p pz)) ∙ out) in
              let before : next p ≡ s.status p = outside p apart.1 ∙ put_elsewhere p n left s.status (eqb-false p n apart.0) in
              t.left m mz lt (waits_before m (sym (ap is_waiting (outside m out)) ∙ waits)) (sym (ap is_closed before) ∙ closed)
        ]
      ]

      bars : l.is_test (x.head n) ≡ false → next 0 ≡ S.Open [] → Standing l x workers next (put w None busy)
      bars class root = record {
        manned = manned_left l x workers s.status busy t n w here next (λ m c e.
            on_put (λ (j : ℕ) (u : Status B F R). body_in u ≡ Some c → (body_in (s.status j) ≡ Some c) × (j ≡ n → ⊥)) n left s.status m
            (λ f. let bare : body_in left ≡ None = left_no_body B F R (ended_well l x n b s) (frames_left l x n b s) in absurd cc)
            (λ ne f. (f, ne)) (sym (same_in body_in (λ r. refl) m) ∙ e));
        class = λ m mz e.
            on_put (λ (j : ℕ) (u : Status B F R). (j ≡ 0 → ⊥) → is_at_rest u ≡ true → l.is_test (x.head j) ≡ false) n left s.status m
            (λ jz f. class) (λ ne jz f. t.class m jz f) mz (sym (same_in is_at_rest (λ r. refl) m) ∙ e);
        left = none_left root;
      }

    ends : l.is_test (x.head n) ≡ false → (well : Bool) → ended_well l x n b s ≡ well
        → (cond well (opening_left l x n b s) (barring l x n (frames_left l x n b s) (opening_left l x n b s))).status 0 ≡ S.Open []
        → Standing l x workers (cond well (opening_left l x n b s) (barring l x n (frames_left l x n b s) (opening_left l x n b s))).status (put w None busy)
    ends class true e root = opens class e
    ends class false e root = bars (frames_left l x n b s) class root

    first_ends : (test : Bool) → l.is_test (x.head n) ≡ test
        → (cond test (finishing l x n (l.test_result b) s) (cond (ended_well l x n b s) (opening_left l x n b s) (barring l x n (frames_left l x n b s) (opening_left l x n b s)))).status 0 ≡ S.Open []
        → Standing l x workers (cond test (finishing l x n (l.test_result b) s)
        (cond (ended_well l x n b s) (opening_left l x n b s) (barring l x n (frames_left l x n b s) (opening_left l x n b s)))).status (put w None busy)
    first_ends true e root = finishes (l.test_result b) (λ m mz lt p h. childless e m mz p)
    first_ends false e root = ends e (ended_well l x n b s) refl root

    pub leaves : (st : Status B F R) → s.status n ≡ st → body_in st ≡ Some b → (leaving l x n s st).status 0 ≡ S.Open []
        → Standing l x workers (leaving l x n s st).status (put w None busy)
    leaves S.Waiting at e root = absurd cc
    leaves (S.Open fs) at e root = absurd cc
    leaves (S.Barred fs) at e root = absurd cc
    leaves (S.Finished r) at e root = absurd cc
    leaves (S.Closing fs c) at e root =
        finishes (l.class_result fs c) (λ m mz lt p h. t.left m mz lt h (ap (λ (j : ℕ). is_closed (s.status j)) p ∙ ap is_closed at))
    leaves (S.Begun c) at e root =
        let same : b ≡ c = cc in
        let P : B → Type 0 = λ d. (leaving l x n s (S.Begun d)).status 0 ≡ S.Open [] → Standing l x workers (leaving l x n s (S.Begun d)).status (put w None busy) in
        subst P same (first_ends (l.is_test (x.head n)) refl) root
