-- Going back to a mark: what was unchanged then goes back to its start, what was changed to what was kept.
use Rattle.std.proofs.Common.{◌≡◌, ◌≢◌, ℕ, ◌+◌, ◌<◌, ◌≤◌, List, [], ◌∷◌, ◌++◌, length, Option, Some, None, Bool, true, false, not, set, ap, sym, ◌∙◌, subst, arith, refl, inl, inr}
use Rattle.std.specs.Option.{option_or}
use Rattle.std.proofs.lemmas.Bool.{cases_eq, cases_lt}
use Rattle.std.proofs.lemmas.Bool.Decides.{Decides-eqb}
use Rattle.std.proofs.lemmas.List.{get_or-set_same, get_or-set_other, get_or_default, get_or_past, length-set, nil_from_length}
use Rattle.iso_plan.proofs.ColumnLemmas.{column-from, column-read, length-column}
use Rattle.iso_store.proofs.HistoryLemmas.{start_of_earlier}
use Rattle.iso_store.specs.Histories.{History, IsEarlier, is_unchanged, oldest, start_of}
use Rattle.iso_locks.proofs.KeptLemmas.{kept-else, of-front, of-last}
use Rattle.iso_locks.specs.Kept.{AreOf, is_kept}
use Rattle.iso_locks.specs.Onward.{earlier-self}
use Rattle.iso_locks.specs.Slots.{Slots, HasLater, has_changed, has_unchanged, restarted, slot}
use Rattle.iso_locks.specs.Trays.{restored}
use Rattle.iso_locks.specs.declared.kept.KeptMark.{KeptMark}

-- a value that goes back to its start stands at each earlier moment at which it was unchanged
at-start : (m h : History) → IsEarlier m h → is_unchanged m ≡ true → record { now = start_of h; past = [] } ≡ m
at-start m h e u =
    let none : m.past ≡ [] = nil_from_length m.past ((Decides-eqb (length m.past) 0).0 u) in
    let start : start_of h ≡ m.now = start_of_earlier m h e ∙ ap (oldest m.now) none in
    λ i. record { now = start i; past = sym none i }

-- the slots are those to which these can go back
abbrev pub CanGoBack : Slots → Slots → Type 0
CanGoBack marks slots = (i : ℕ) (h : History) → slot marks i ≡ Some h → HasLater slots i h

restart-back : (o : Option History) (slots : Slots) (i : ℕ) → ((h : History) → o ≡ Some h → HasLater slots i h) → has_unchanged o ≡ true → restarted (slot slots i) ≡ o
restart-back None slots i later u = absurd (cc)
restart-back (Some h) slots i later u = let l = later h refl in ap restarted l.there ∙ ap Some (at-start h l.now l.later u)

not-false : (b : Bool) → not b ≡ false → b ≡ true
not-false true e = refl
not-false false e = absurd (cc)

-- a value that is unchanged stays where it is when it goes back to its start
still-there : (o : Option History) → has_changed o ≡ false → restarted o ≡ o
still-there None e = refl
still-there (Some h) e = ap Some (at-start h h (earlier-self h) (not-false (is_unchanged h) e))

pub stays : (marks slots : Slots) → CanGoBack marks slots → (i : ℕ) → has_unchanged (slot marks i) ≡ true → has_changed (slot slots i) ≡ false → slot slots i ≡ slot marks i
stays marks slots can i u e = sym (still-there (slot slots i) e) ∙ restart-back (slot marks i) slots i (can i) u

-- the slots as they are, after those below a number went back that were unchanged
pub record Restarting (marks slots0 slots : Slots) (at : ℕ) : Type 0 where
  pub fits : length slots ≡ length slots0
  pub back : (i : ℕ) → i < at → has_unchanged (slot marks i) ≡ true → slot slots i ≡ slot marks i
  pub others : (i : ℕ) → has_unchanged (slot marks i) ≡ false → slot slots i ≡ slot slots0 i
  pub rest : (i : ℕ) → at ≤ i → slot slots i ≡ slot slots0 i

pub restarting-none : (marks slots : Slots) → Restarting marks slots slots 0
restarting-none marks slots = record {
  fits = refl;
  back = λ i below u. absurd (omega arith);
  others = λ i u. refl;
  rest = λ i h. refl;
}

restarting-next : (marks slots0 slots next : Slots) (at n : ℕ) → CanGoBack marks slots0 → Restarting marks slots0 slots at → at ≤ n
    → ((i : ℕ) → at ≤ i → i < n → has_changed (slot slots i) ≡ false) → length next ≡ length slots → ((i : ℕ) → i ≢ n → slot next i ≡ slot slots i)
    → (has_unchanged (slot marks n) ≡ true → slot next n ≡ slot marks n) → (has_unchanged (slot marks n) ≡ false → slot next n ≡ slot slots n) → Restarting marks slots0 next (n + 1)
restarting-next marks slots0 slots next at n can r from none same others here not_here = record {
  fits = same ∙ r.fits;
  back = λ i below u. elim (cases_eq i n) [
    | inl is ↦ ap (slot next) is ∙ here (ap (λ (j : ℕ). has_unchanged (slot marks j)) (sym is) ∙ u) ∙ ap (slot marks) (sym is)
    | inr other ↦ elim (cases_lt i at) [
      | inl before ↦ others i other ∙ r.back i before u
      | inr after ↦ others i other ∙ r.rest i after ∙ stays marks slots0 can i u (sym (ap has_changed (r.rest i after)) ∙ none i after (omega arith))
    ]
  ];
  others = λ i u. elim (cases_eq i n) [
    | inl is ↦ ap (slot next) is ∙ not_here (ap (λ (j : ℕ). has_unchanged (slot marks j)) (sym is) ∙ u) ∙ ap (slot slots) (sym is) ∙ r.others i u
    | inr other ↦ others i other ∙ r.others i u
  ];
  rest = λ i after. others i (λ is. absurd (omega arith)) ∙ r.rest i (omega arith);
}

pub restarting-with : (marks slots0 slots next : Slots) (at n : ℕ) → CanGoBack marks slots0 → Restarting marks slots0 slots at → at ≤ n → n < length slots
    → ((i : ℕ) → at ≤ i → i < n → has_changed (slot slots i) ≡ false) → has_unchanged (slot marks n) ≡ true → next ≡ set slots n (restarted (slot slots n)) → Restarting marks slots0 next (n + 1)
restarting-with marks slots0 slots next at n can r from within none u is =
    restarting-next marks slots0 slots next at n can r from none (ap length is ∙ length-set slots n (restarted (slot slots n)))
    (λ i other. ap (λ (ss : Slots). slot ss i) is ∙ get_or-set_other slots n i (restarted (slot slots n)) None other)
    (λ e. ap (λ (ss : Slots). slot ss n) is ∙ get_or-set_same slots n (restarted (slot slots n)) None within ∙ ap restarted (r.rest n from) ∙ restart-back (slot marks n) slots0 n (can n) u)
    (λ e. let wrong : true ≡ false = sym u ∙ e in absurd (cc))

pub restarting-without : (marks slots0 slots : Slots) (at n : ℕ) → CanGoBack marks slots0 → Restarting marks slots0 slots at → at ≤ n
    → ((i : ℕ) → at ≤ i → i < n → has_changed (slot slots i) ≡ false) → has_unchanged (slot marks n) ≡ false → Restarting marks slots0 slots (n + 1)
restarting-without marks slots0 slots at n can r from none u =
    restarting-next marks slots0 slots slots at n can r from none refl (λ i other. refl) (λ e. let wrong : false ≡ true = sym u ∙ e in absurd (cc)) (λ e. refl)

pub restarting-all : (marks slots0 slots : Slots) (at : ℕ) → CanGoBack marks slots0 → Restarting marks slots0 slots at
    → ((i : ℕ) → at ≤ i → has_changed (slot slots i) ≡ false) → (i : ℕ) → has_unchanged (slot marks i) ≡ true → slot slots i ≡ slot marks i
restarting-all marks slots0 slots at can r none i u = elim (cases_lt i at) [
  | inl before ↦ r.back i before u
  | inr after ↦ r.rest i after ∙ stays marks slots0 can i u (sym (ap has_changed (r.rest i after)) ∙ none i after)
]

-- a value that was kept can still be gone back to when it stands there
there-later : (marks slots : Slots) (i : ℕ) (h : History) → slot marks i ≡ Some h → slot slots i ≡ slot marks i → HasLater slots i h
there-later marks slots i h e back = record { now = h; there = back ∙ e; later = earlier-self h }

later-as : (slots next : Slots) (i : ℕ) (h : History) → HasLater slots i h → slot next i ≡ slot slots i → HasLater next i h
later-as slots next i h l same = record { now = l.now; there = same ∙ l.there; later = l.later }

later-of : (marks slots0 slots : Slots) (i : ℕ) (h : History) (b : Bool) → has_unchanged (slot marks i) ≡ b → slot marks i ≡ Some h → HasLater slots0 i h
    → (b ≡ true → slot slots i ≡ slot marks i) → (b ≡ false → slot slots i ≡ slot slots0 i) → HasLater slots i h
later-of marks slots0 slots i h true u e l back others = there-later marks slots i h e (back refl)
later-of marks slots0 slots i h false u e l back others = later-as slots0 slots i h l (others refl)

pub later-by : (marks slots0 slots : Slots) → CanGoBack marks slots0 → ((i : ℕ) → has_unchanged (slot marks i) ≡ true → slot slots i ≡ slot marks i)
    → ((i : ℕ) → has_unchanged (slot marks i) ≡ false → slot slots i ≡ slot slots0 i) → CanGoBack marks slots
later-by marks slots0 slots can back others i h e = later-of marks slots0 slots i h (has_unchanged (slot marks i)) refl e (can i h e) (back i) (others i)

-- the marks that are left and the slots as they are, after the marks from the end were gone back to
pub record Restoring (marks slots0 : Slots) (left : List KeptMark) (slots : Slots) : Type 0 where
  pub fits : length slots ≡ length slots0
  pub left_are : AreOf marks left
  pub done : (i : ℕ) (h : History) → slot marks i ≡ Some h → is_kept left i ≡ false → slot slots i ≡ Some h
  pub others : (i : ℕ) → slot marks i ≡ None → slot slots i ≡ slot slots0 i
  pub later : CanGoBack marks slots

unchanged-by : (h : History) (b k : Bool) → is_unchanged h ≡ b → (not b ≡ true → k ≡ true) → k ≡ false → b ≡ true
unchanged-by h true k e all none = refl
unchanged-by h false k e all none = let wrong : true ≡ false = sym (all refl) ∙ none in absurd (cc)

pub restoring-first : (marks slots : Slots) (left : List KeptMark) → AreOf marks left → ((i : ℕ) → has_changed (slot marks i) ≡ true → is_kept left i ≡ true) → CanGoBack marks slots
    → ((i : ℕ) → has_unchanged (slot marks i) ≡ true → slot slots i ≡ slot marks i) → Restoring marks slots left slots
restoring-first marks slots left are all can back = record {
  fits = refl;
  left_are = are;
  done = λ i h e none.
      let kept : not (is_unchanged h) ≡ true → is_kept left i ≡ true = λ c. all i (ap has_changed e ∙ c) in
      let was : is_unchanged h ≡ true = unchanged-by h (is_unchanged h) (is_kept left i) refl kept none in
      back i (ap has_unchanged e ∙ was) ∙ e;
  others = λ i e. refl;
  later = can;
}

same-mark : (o : Option History) (g h : History) → o ≡ Some g → o ≡ Some h → h ≡ g
same-mark o g h eg eh = let both : Some h ≡ Some g = sym eh ∙ eg in cc

pub restoring-next : (marks slots0 slots next : Slots) (left rest : List KeptMark) (k : KeptMark) → Restoring marks slots0 left slots → left ≡ rest ++ k ∷ [] → k.number < length slots
    → next ≡ set slots k.number (Some k.mark) → Restoring marks slots0 rest next
restoring-next marks slots0 slots next left rest k r cut within is =
    let are : AreOf marks (rest ++ k ∷ []) = subst (AreOf marks) cut r.left_are in
    let mark : slot marks k.number ≡ Some k.mark = of-last marks rest k are in
    let here : slot next k.number ≡ Some k.mark = ap (λ (ss : Slots). slot ss k.number) is ∙ get_or-set_same slots k.number (Some k.mark) None within in
    let else : (i : ℕ) → i ≢ k.number → slot next i ≡ slot slots i = λ i other. ap (λ (ss : Slots). slot ss i) is ∙ get_or-set_other slots k.number i (Some k.mark) None other in
    record {
      fits = ap length is ∙ length-set slots k.number (Some k.mark) ∙ r.fits;
      left_are = of-front marks rest k are;
      done = λ i h e none. elim (cases_eq i k.number) [
        | inl same ↦ ap (slot next) same ∙ here ∙ sym mark ∙ ap (slot marks) (sym same) ∙ e
        | inr other ↦ else i other ∙ r.done i h e (ap (λ (ks : List KeptMark). is_kept ks i) cut ∙ kept-else rest k i other none)
      ];
      others = λ i e. elim (cases_eq i k.number) [
        | inl same ↦ let wrong : None ≡ Some k.mark = sym e ∙ ap (slot marks) same ∙ mark in absurd (cc)
        | inr other ↦ else i other ∙ r.others i e
      ];
      later = λ i h e. elim (cases_eq i k.number) [
        | inl same ↦ there-later marks next i h e (ap (slot next) same ∙ here ∙ sym mark ∙ ap (slot marks) (sym same))
        | inr other ↦ later-as slots next i h (r.later i h e) (else i other)
      ];
    }

option-by : (o p q : Option History) → ((h : History) → o ≡ Some h → p ≡ Some h) → (o ≡ None → p ≡ q) → p ≡ option_or o q
option-by None p q some none = none refl
option-by (Some h) p q some none = some h refl

pub restoring-all : (marks slots0 slots : Slots) → Restoring marks slots0 [] slots → slots ≡ restored marks slots0
restoring-all marks slots0 slots r =
    column-from (λ i. option_or (slot marks i) (slot slots0 i)) slots (length slots0) r.fits
    (λ i d h.
    let within : i < length slots = rw r.fits h in
    get_or_default slots i d None within ∙ option-by (slot marks i) (slot slots i) (slot slots0 i) (λ g e. r.done i g e refl) (r.others i))

-- the same of slots where what was unchanged has gone back
pub restored-by : (marks slots0 slots next : Slots) → next ≡ restored marks slots → length slots ≡ length slots0
    → ((i : ℕ) → slot marks i ≡ None → slot slots i ≡ slot slots0 i) → next ≡ restored marks slots0
restored-by marks slots0 slots next is fits others =
    is ∙ column-from (λ i. option_or (slot marks i) (slot slots0 i)) (restored marks slots) (length slots0)
    (length-column (λ i. option_or (slot marks i) (slot slots i)) (length slots) ∙ fits)
    (λ i d h.
    let within : i < length slots = rw fits h in
    column-read (λ j. option_or (slot marks j) (slot slots j)) (restored marks slots) (length slots) i d refl within
    ∙ option-by (slot marks i) (option_or (slot marks i) (slot slots i)) (slot slots0 i)
    (λ g e. ap (λ (o : Option History). option_or o (slot slots i)) e) (λ e. ap (λ (o : Option History). option_or o (slot slots i)) e ∙ others i e))

none-unchanged : (o : Option History) → o ≡ None → has_unchanged o ≡ false
none-unchanged o e = ap has_unchanged e

pub others-none : (marks slots0 slots : Slots) → ((i : ℕ) → has_unchanged (slot marks i) ≡ false → slot slots i ≡ slot slots0 i)
    → (i : ℕ) → slot marks i ≡ None → slot slots i ≡ slot slots0 i
others-none marks slots0 slots others i e = others i (none-unchanged (slot marks i) e)

-- a slot that has a value is there
pub within-by : (slots : Slots) (i : ℕ) (h : History) → HasLater slots i h → i < length slots
within-by slots i h l = elim (cases_lt i (length slots)) [
  | inl below ↦ below
  | inr past ↦ let wrong : None ≡ Some l.now = sym (get_or_past slots i None past) ∙ l.there in absurd (cc)
]

-- values go back to a mark of nothing as they are
pub restored-none : (marks values : Slots) → ((i : ℕ) → slot marks i ≡ None) → values ≡ restored marks values
restored-none marks values none =
    column-from (λ i. option_or (slot marks i) (slot values i)) values (length values) refl
    (λ i d h. get_or_default values i d None h ∙ ap (λ (o : Option History). option_or o (slot values i)) (sym (none i)))
