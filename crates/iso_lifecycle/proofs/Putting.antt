-- What is put of a node is kept, and is seen as one body's end more.
use Rattle.std.proofs.Common.{◌≡◌, ◌≢◌, ℕ, zero, suc, ◌<◌, List, length, map, replicate, slice_set, slice_index_or, Bool, true, false, ◌&&◌, not, ◌==◌, refl, sym, ap, subst, ◌∙◌, arith}
use Rattle.std.proofs.Math.ListN.{get_or-map}
use Rattle.std.proofs.Math.Seq.{map-set_same}
use Rattle.std.proofs.lemmas.Bool.Decides.{nat_tests}
use Rattle.std.proofs.lemmas.List.{get_or-set_other, get_or-set_same, length-set, map-set}
use Rattle.iso_plan.specs.Paths.{row_at}
use Rattle.iso_plan.specs.Planned.{Planned}
use Rattle.iso_plan.specs.RowView.{tree_of}
use Rattle.iso_plan.specs.Tree.{Kind, root, class_node, test_node}
use Rattle.iso_settings.specs.Worlds.{Start}
use Rattle.iso_lifecycle.specs.DoneViews.{DoneView}
use Rattle.iso_lifecycle.specs.Ends.{IsDone, kind_of_what}
use Rattle.iso_lifecycle.specs.Entries.{AreKept, IsKept, entry_at, entry_closed, entry_with, has_body, has_ended, has_opened, seen}
use Rattle.iso_lifecycle.specs.ResultViews.{CanPut, ResultsView, is_due, with_done, with_done_of}
use Rattle.iso_lifecycle.specs.Subjects.{Subject, is_kind_of, subject}
use Rattle.iso_lifecycle.specs.declared.done.Closed as Closings
use Rattle.iso_lifecycle.specs.declared.done.What.{What}
use Rattle.iso_lifecycle.specs.declared.done.What.TheVariants as W
use Rattle.iso_lifecycle.specs.declared.entry.Entry.{Entry}
use Rattle.iso_lifecycle.specs.declared.entry.Entry.TheVariants.{Empty, Tested, Opened, Closed}
use Rattle.iso_lifecycle.specs.declared.kind.BodyKind.TheVariants.{BeforeAll, Test}

kept_closed : (s : Subject) (c : Closings.Closed) (e : Entry) → IsDone s (W.Closed c) → IsKept s e → IsKept s (entry_closed c e)
kept_closed s c Empty d k = k
kept_closed s c (Tested o) d k = k
kept_closed s c (Opened o) d k = record { opened = k; closing = d.end }
kept_closed s c (Closed o b) d k = k

-- what is put of a node is kept
kept_with : (s : Subject) (what : What) (e : Entry) → IsDone s what → IsKept s e → IsKept s (entry_with what e)
kept_with s (W.Tested o) e d k = record { test = d.fits; outcome = d.end }
kept_with s (W.Opened o) e d k = record { class = d.fits; opening = d.end }
kept_with s (W.Closed c) e d k = kept_closed s c e d k

kept_at : (plan : Planned) (start : Start) (es : List Entry) (n : ℕ) (x : Entry) → AreKept plan start es → n < length es
    → IsKept (subject plan start n) x → (m : ℕ) → (b : Bool) → (m == n) ≡ b → IsKept (subject plan start m) (entry_at (slice_set es n x) m)
kept_at plan start es n x k within here m true e =
    let same : m ≡ n = grind (arith, nat_tests) in
    rw (same, get_or-set_same es n x Empty within) here
kept_at plan start es n x k within here m false e =
    let other : m ≢ n = grind (arith, nat_tests) in
    rw (get_or-set_other es n m x Empty other) (k.kept m)

kept_set : (plan : Planned) (start : Start) (es : List Entry) (n : ℕ) (x : Entry) → AreKept plan start es → n < length es → IsKept (subject plan start n) x → AreKept plan start (slice_set es n x)
kept_set plan start es n x k within here =
    record { fits = length-set es n x ∙ k.fits; kept = λ m. kept_at plan start es n x k within here m (m == n) refl }

-- no node is a class and a test
two_kinds : (k : Kind) → is_kind_of BeforeAll k ≡ true → is_kind_of Test k ≡ true → ⊥
two_kinds root c t = absurd (cc)
two_kinds (class_node i h) c t = absurd (cc)
two_kinds (test_node h) c t = absurd (cc)

-- an entry that a `before_all` may be put into has not ended, one for a test has not been opened, and one for an `after_all` has been opened alone
unended : (s : Subject) (e : Entry) → has_body BeforeAll s ≡ true → IsKept s e → not (has_opened e) ≡ true → has_ended e ≡ false
unended s Empty h k due = refl
unended s (Tested o) h k due = absurd (two_kinds (row_at (tree_of s.plan) s.node).kind h k.test)
unended s (Opened o) h k due = refl
unended s (Closed o c) h k due = absurd (cc)

unopened : (s : Subject) (e : Entry) → has_body Test s ≡ true → IsKept s e → has_opened e ≡ false
unopened s Empty h k = refl
unopened s (Tested o) h k = refl
unopened s (Opened o) h k = absurd (two_kinds (row_at (tree_of s.plan) s.node).kind k.class h)
unopened s (Closed o c) h k = absurd (two_kinds (row_at (tree_of s.plan) s.node).kind k.opened.class h)

closed_opens : (c : Closings.Closed) (e : Entry) → has_opened (entry_closed c e) ≡ has_opened e
closed_opens c Empty = refl
closed_opens c (Tested o) = refl
closed_opens c (Opened o) = refl
closed_opens c (Closed o d) = refl

closed_ends : (c : Closings.Closed) (e : Entry) → (has_opened e && not (has_ended e)) ≡ true → has_ended (entry_closed c e) ≡ true
closed_ends c Empty h = absurd (cc)
closed_ends c (Tested o) h = absurd (cc)
closed_ends c (Opened o) h = refl
closed_ends c (Closed o d) h = absurd (cc)

-- an entry's flag set, or left as it was
flag_set : (f : Entry → Bool) (es : List Entry) (n : ℕ) (x : Entry) (b : Bool) → f x ≡ b → map f (slice_set es n x) ≡ slice_set (map f es) n b
flag_set f es n x b h = map-set f es n x ∙ ap (slice_set (map f es) n) h

flag_left : (f : Entry → Bool) (es : List Entry) (n : ℕ) (x : Entry) → f x ≡ f (entry_at es n) → map f (slice_set es n x) ≡ map f es
flag_left f es n x h = map-set_same f es n x Empty h

same_view : (plan : Planned) (start : Start) (a b c d : List Bool) → a ≡ c → b ≡ d
    → ◌≡◌ {A = ResultsView} (record { plan = plan; start = start; opened = a; ended = b }) (record { plan = plan; start = start; opened = c; ended = d })
same_view plan start a b c d h k = cc

due_at : (f : Entry → Bool) (es : List Entry) (n : ℕ) → slice_index_or (map f es) n (f Empty) ≡ f (entry_at es n)
due_at f es n = get_or-map f es n Empty

-- what is put of a node is seen
seen_with : (plan : Planned) (start : Start) (es : List Entry) (n : ℕ) (what : What) → AreKept plan start es → IsDone (subject plan start n) what
    → is_due (kind_of_what what) n (seen plan start es) ≡ true → seen plan start (slice_set es n (entry_with what (entry_at es n))) ≡ with_done_of (kind_of_what what) n (seen plan start es)
seen_with plan start es n (W.Opened o) k d due =
    let x = Opened o in
    let here : not (has_opened (entry_at es n)) ≡ true = ap not (sym (due_at has_opened es n)) ∙ due in
    same_view plan start (map has_opened (slice_set es n x)) (map has_ended (slice_set es n x)) (slice_set (map has_opened es) n true) (map has_ended es)
    (flag_set has_opened es n x true refl)
    (flag_left has_ended es n x (sym (unended (subject plan start n) (entry_at es n) d.fits (k.kept n) here)))
seen_with plan start es n (W.Tested o) k d due =
    let x = Tested o in
    same_view plan start (map has_opened (slice_set es n x)) (map has_ended (slice_set es n x)) (map has_opened es) (slice_set (map has_ended es) n true)
    (flag_left has_opened es n x (sym (unopened (subject plan start n) (entry_at es n) d.fits (k.kept n))))
    (flag_set has_ended es n x true refl)
seen_with plan start es n (W.Closed c) k d due =
    let e = entry_at es n in
    let x = entry_closed c e in
    let here : (has_opened e && not (has_ended e)) ≡ true = ap (λ (b : Bool). b && not (has_ended e)) (sym (due_at has_opened es n))
    ∙ ap (λ (b : Bool). slice_index_or (map has_opened es) n false && not b) (sym (due_at has_ended es n)) ∙ due in
    same_view plan start (map has_opened (slice_set es n x)) (map has_ended (slice_set es n x)) (map has_opened es) (slice_set (map has_ended es) n true)
    (flag_left has_opened es n x (closed_opens c e))
    (flag_set has_ended es n x true (closed_ends c e here))

-- the end of a body, by what contracts see of it and of the results that it is put into
pub record Puts (d : DoneView) (v : ResultsView) (s : Subject) (what : What) (plan : Planned) (start : Start) (es : List Entry) : Type 0 where
  pub done_is : record { subject = s; kind = kind_of_what what } ≡ d
  pub done : IsDone s what
  pub seen_is : seen plan start es ≡ v
  pub kept : AreKept plan start es
  pub can : CanPut d v

module _ (d : DoneView) (v : ResultsView) (s : Subject) (what : What) (plan : Planned) (start : Start) (es : List Entry) (p : Puts d v s what plan start es) where
  is_subject : s ≡ subject plan start s.node
  is_subject =
      let a : s.plan ≡ plan = ap (λ (d : DoneView). d.subject.plan) p.done_is ∙ p.can.plan ∙ sym (ap (λ (v : ResultsView). v.plan) p.seen_is) in
      let b : s.start ≡ start = ap (λ (d : DoneView). d.subject.start) p.done_is ∙ p.can.start ∙ sym (ap (λ (v : ResultsView). v.start) p.seen_is) in
      ap (λ (q : Planned). subject q s.start s.node) a ∙ ap (λ (t : Start). subject plan t s.node) b

  is_done : IsDone (subject plan start s.node) what
  is_done = subst (λ (x : Subject). IsDone x what) is_subject p.done

  pub put-within : s.node < length es
  put-within =
      let a : s.node ≡ d.subject.node = ap (λ (d : DoneView). d.subject.node) p.done_is in
      let b : length plan.rows ≡ length v.plan.rows = ap (λ (v : ResultsView). length v.plan.rows) p.seen_is in
      omega (arith, p.can.node, p.kept.fits)

  is_due_here : is_due (kind_of_what what) s.node (seen plan start es) ≡ true
  is_due_here = subst (λ (v : ResultsView). is_due (kind_of_what what) s.node v ≡ true) (sym p.seen_is) (subst (λ (d : DoneView). is_due d.kind d.subject.node v ≡ true) (sym p.done_is) p.can.due)

  pub put-kept : AreKept plan start (slice_set es s.node (entry_with what (entry_at es s.node)))
  put-kept =
      let e = entry_at es s.node in
      kept_set plan start es s.node (entry_with what e) p.kept put-within (kept_with (subject plan start s.node) what e is_done (p.kept.kept s.node))

  pub put-seen : seen plan start (slice_set es s.node (entry_with what (entry_at es s.node))) ≡ with_done d v
  put-seen =
      seen_with plan start es s.node what p.kept is_done is_due_here
      ∙ ap (with_done_of (kind_of_what what) s.node) p.seen_is
      ∙ ap (λ (d : DoneView). with_done d v) p.done_is

flags_none : (f : Entry → Bool) (count : ℕ) → f Empty ≡ false → map f (replicate count Empty) ≡ replicate count false
flags_none f zero h = refl
flags_none f (suc count) h = cc (flags_none f count h)

-- nothing is seen of empty entries
pub none-seen : (plan : Planned) (start : Start) (count : ℕ)
    → seen plan start (replicate count Empty) ≡ record { plan = plan; start = start; opened = replicate count false; ended = replicate count false }
none-seen plan start count = same_view plan start (map has_opened (replicate count Empty)) (map has_ended (replicate count Empty)) (replicate count false) (replicate count false)
    (flags_none has_opened count refl) (flags_none has_ended count refl)
