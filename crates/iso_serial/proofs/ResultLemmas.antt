-- The results while nodes are under way, as bodies' ends are put.
use Rattle.std.proofs.Common.{◌≡◌, ◌≢◌, ℕ, zero, suc, ◌<◌, List, [], ◌∷◌, length, get_or, set, Bool, true, false, ◌||◌, ◌&&◌, not, ◌⊎◌, inl, inr, refl, sym, ap, ap₂, ◌∙◌, subst, arith}
use Rattle.std.proofs.lemmas.Bool.{cases_eq, cases_lt}
use Rattle.std.proofs.lemmas.List.{get_or-set_other, get_or-set_same, get_or_past, length-set}
use Rattle.iso_lifecycle.specs.ResultViews.{AreComplete, AreOpen, AreOpened, ResultsView, has_result, is_barred, is_barring, is_ended, is_opened, is_some_barring, with_done_of}
use Rattle.iso_lifecycle.specs.Subjects.{own_frame, subject}
use Rattle.iso_lifecycle.specs.declared.kind.BodyKind.TheVariants.{BeforeAll, Test, AfterAll}
use Rattle.iso_model.specs.Statements.{is_well}
use Rattle.iso_plan.proofs.ChildLemmas.{listed}
use Rattle.iso_plan.proofs.PathLemmas.{IsBelow, along, eq_not, path-root, path-step, under-le, under-self, under-step}
use Rattle.iso_plan.specs.Paths.{IsTree, children, is_test, is_under, parent, path, row_at}
use Rattle.iso_plan.specs.Planned.{Planned}
use Rattle.iso_plan.specs.RowView.{tree_of}
use Rattle.iso_plan.specs.Tree.{Row}
use Rattle.iso_settings.specs.Worlds.{Start}
use Rattle.iso_serial.specs.Walks.{AreResultsAlong}

pub true-or-false : (b : Bool) → (b ≡ true) ⊎ (b ≡ false)
true-or-false true = inl refl
true-or-false false = inr refl

pub root-or-not : (n : ℕ) → (n ≡ 0) ⊎ (0 < n)
root-or-not zero = inl refl
root-or-not (suc n) = inr (omega arith)

or-cases : (a b : Bool) → (a || b) ≡ true → (a ≡ true) ⊎ (b ≡ true)
or-cases true b e = inl refl
or-cases false b e = inr e

pub or-first : (a b : Bool) → a ≡ true → (a || b) ≡ true
or-first a b e = ap (λ (x : Bool). x || b) e

or-second : (a b : Bool) → b ≡ true → (a || b) ≡ true
or-second true b e = refl
or-second false b e = e

pub neither : (a b : Bool) → (a || b) ≡ false → (a ≡ false) × (b ≡ false)
neither true b e = absurd (cc)
neither false b e = (refl, e)

pub and-parts : (a b : Bool) → (a && b) ≡ true → (a ≡ true) × (b ≡ true)
and-parts true b e = (refl, e)
and-parts false b e = absurd (cc)

well-by : (a b : Bool) → (a && not b) ≡ false → a ≡ true → b ≡ true
well-by true true e o = refl
well-by true false e o = absurd (cc)
well-by false b e o = absurd (cc)

-- a node isn't at or above its parent, and what stands at or above its parent has a smaller number
pub not-above : (tree : List Row) → IsBelow tree → (n : ℕ) → 0 < n → is_under tree n (parent tree n) ≡ false
not-above tree b n pos = elim (true-or-false (is_under tree n (parent tree n))) [
  | inl is ↦ let le = under-le tree b n (parent tree n) is in let less = b n pos in absurd (omega arith)
  | inr isnt ↦ isnt
]

-- at or above a node stand the node and what stands at or above its parent
pub above-parent : (tree : List Row) → IsBelow tree → (m n : ℕ) → 0 < n → m ≢ n → is_under tree m n ≡ is_under tree m (parent tree n)
above-parent tree b m n pos other =
    under-step tree b m n pos ∙ ap (λ (x : Bool). x || is_under tree m (parent tree n)) (eq_not n m (λ e. other (sym e)))

pub set-there : (bs : List Bool) (n : ℕ) → n < length bs → get_or (set bs n true) n false ≡ true
set-there bs n h = get_or-set_same bs n true false h

pub set-more : (bs : List Bool) (n m : ℕ) → get_or bs m false ≡ true → get_or (set bs n true) m false ≡ true
set-more bs n m e = elim (cases_eq m n) [
  | inl same ↦ elim (cases_lt m (length bs)) [
    | inl within ↦ ap (λ j. get_or (set bs n true) j false) same ∙ get_or-set_same bs n true false (let w : n < length bs = omega arith in w)
    | inr past ↦ let wrong : false ≡ true = sym (get_or_past bs m false past) ∙ e in absurd (cc)
  ]
  | inr other ↦ get_or-set_other bs n m true false other ∙ e
]

pub set-other : (bs : List Bool) (n m : ℕ) → m ≢ n → get_or (set bs n true) m false ≡ get_or bs m false
set-other bs n m other = get_or-set_other bs n m true false other

-- the same results with these bodies put
abbrev pub with_lists : ResultsView → List Bool → List Bool → ResultsView
with_lists v opened ended = record v { opened = opened; ended = ended }

abbrev Grown : List Bool → List Bool → Type 0
Grown old new = (m : ℕ) → get_or old m false ≡ true → get_or new m false ≡ true

barring-more : (v : ResultsView) (o e : List Bool) → Grown v.opened o → (ns : List ℕ) → is_some_barring v ns ≡ true → is_some_barring (with_lists v o e) ns ≡ true
barring-more v o e more [] h = absurd (cc)
barring-more v o e more (n ∷ ns) h = elim (or-cases (is_barring v n) (is_some_barring v ns) h) [
  | inl here ↦
      let ill = not (is_well (own_frame (subject v.plan v.start n)).ending) in
      let parts = and-parts (is_opened v n) ill here in
      or-first (is_barring (with_lists v o e) n) (is_some_barring (with_lists v o e) ns) (ap₂ (λ (x y : Bool). x && y) (more n parts.0) parts.1)
  | inr there ↦ or-second (is_barring (with_lists v o e) n) (is_some_barring (with_lists v o e) ns) (barring-more v o e more ns there)
]

open-more : (v : ResultsView) (o e : List Bool) → Grown v.opened o → (ns : List ℕ) → AreOpen v ns → AreOpen (with_lists v o e) ns
open-more v o e more [] h = tt
open-more v o e more (n ∷ ns) h = ((more n h.0.0, h.0.1), open-more v o e more ns h.1)

pub result-more : (v : ResultsView) (o e : List Bool) → Grown v.opened o → Grown v.ended e → (m : ℕ) → has_result v m ≡ true → has_result (with_lists v o e) m ≡ true
result-more v o e more further m h = elim (or-cases (is_ended v m) (is_barred v m) h) [
  | inl here ↦ or-first (is_ended (with_lists v o e) m) (is_barred (with_lists v o e) m) (further m here)
  | inr there ↦ or-second (is_ended (with_lists v o e) m) (is_barred (with_lists v o e) m) (barring-more v o e more (path (tree_of v.plan) (parent (tree_of v.plan) m)) there)
]

open-opened : (v : ResultsView) (ns : List ℕ) → AreOpen v ns → AreOpened v ns
open-opened v [] h = tt
open-opened v (n ∷ ns) h = (h.0.0, open-opened v ns h.1)

module _ (plan : Planned) (world : Start) (v : ResultsView) (t : IsTree (tree_of v.plan)) where
  abbrev tr : List Row
  tr = tree_of v.plan

  unended : (n : ℕ) → has_result v n ≡ false → is_ended v n ≡ false
  unended n w = (neither (is_ended v n) (is_barred v n) w).0

  -- a node without a result wasn't opened
  pub unopened : (p n : ℕ) → parent tr n ≡ p → 0 < n → AreResultsAlong plan world p v → has_result v n ≡ false → is_opened v n ≡ false
  unopened p n q pos u w = elim (true-or-false (is_opened v n)) [
    | inl is ↦
        let apart : is_under tr n p ≡ false = ap (is_under tr n) (sym q) ∙ not-above tr t.below n pos in
        let wrong : true ≡ false = sym (u.others n is apart) ∙ unended n w in
        absurd (cc)
    | inr isnt ↦ isnt
  ]

  -- the classes that it stands in were opened well
  pub open-above : (p n : ℕ) → parent tr n ≡ p → AreResultsAlong plan world p v → has_result v n ≡ false → AreOpen v (path tr p)
  open-above p n q u w = elim (root-or-not p) [
    | inl zeroth ↦ subst (λ (ns : List ℕ). AreOpen v ns) (sym (ap (path tr) zeroth ∙ path-root tr)) tt
    | inr pos ↦
        let step = path-step tr t.below p pos in
        let unbarred : is_some_barring v (path tr p) ≡ false = ap (λ (j : ℕ). is_some_barring v (path tr j)) (sym q) ∙ (neither (is_ended v n) (is_barred v n) w).1 in
        let parts = neither (is_barring v p) (is_some_barring v (path tr (parent tr p))) (ap (is_some_barring v) (sym step) ∙ unbarred) in
        let well = well-by (is_opened v p) (is_well (own_frame (subject v.plan v.start p)).ending) parts.0 (u.opened pos) in
        subst (λ (ns : List ℕ). AreOpen v ns) (sym step) ((u.opened pos, well), u.enclosed)
  ]

  -- and there are the frames of all that are under way
  pub frames-there : (p : ℕ) → AreResultsAlong plan world p v → AreOpened v (path tr p)
  frames-there p u = elim (root-or-not p) [
    | inl zeroth ↦ subst (λ (ns : List ℕ). AreOpened v ns) (sym (ap (path tr) zeroth ∙ path-root tr)) tt
    | inr pos ↦ subst (λ (ns : List ℕ). AreOpened v ns) (sym (path-step tr t.below p pos)) (u.opened pos, open-opened v (path tr (parent tr p)) u.enclosed)
  ]

  pub put-opened : (p n : ℕ) → parent tr n ≡ p → 0 < n → n < length v.plan.rows → AreResultsAlong plan world p v → has_result v n ≡ false → AreResultsAlong plan world n (with_done_of BeforeAll n v)
  put-opened p n q pos within u w =
      let o = set v.opened n true in
      let more = set-more v.opened n in
      let fit = u.opened_fit in
      record {
        plan_is = u.plan_is;
        start_is = u.start_is;
        opened_fit = length-set v.opened n true ∙ u.opened_fit;
        ended_fit = u.ended_fit;
        enclosed = subst (λ (j : ℕ). AreOpen (with_lists v o v.ended) (path tr j)) (sym q) (open-more v o v.ended more (path tr p) (open-above p n q u w));
        opened = λ _. set-there v.opened n (omega arith);
        going = λ m a. elim (cases_eq m n) [
          | inl same ↦ ap (is_ended v) same ∙ unended n w
          | inr other ↦ u.going m (ap (is_under tr m) (sym q) ∙ sym (above-parent tr t.below m n pos other) ∙ a)
        ];
        others = λ m op a. elim (cases_eq m n) [
          | inl same ↦ let wrong : false ≡ true = sym a ∙ ap (λ (j : ℕ). is_under tr j n) same ∙ under-self tr t.below n pos in absurd (cc)
          | inr other ↦ u.others m (sym (set-other v.opened n m other) ∙ op) (ap (is_under tr m) (sym q) ∙ sym (above-parent tr t.below m n pos other) ∙ a)
        ];
        closed = λ m mp mw e. result-more v o v.ended more (λ _ x. x) m (u.closed m mp mw e);
      }

  -- an end put: that of a test, or of a class when all that stands in it has results
  put-end : (p n : ℕ) → parent tr n ≡ p → 0 < n → n < length v.plan.rows
      → v.plan ≡ plan → v.start ≡ world → length v.opened ≡ length v.plan.rows → length v.ended ≡ length v.plan.rows
      → AreOpen v (path tr (parent tr p)) → (0 < p → is_opened v p ≡ true)
      → ((m : ℕ) → is_under tr m p ≡ true → is_ended v m ≡ false)
      → ((m : ℕ) → m ≢ n → is_opened v m ≡ true → is_under tr m p ≡ false → is_ended v m ≡ true)
      → ((m : ℕ) → 0 < m → m < length v.plan.rows → is_ended v (parent tr m) ≡ true → has_result v m ≡ true)
      → ((m : ℕ) → 0 < m → m < length v.plan.rows → parent tr m ≡ n → has_result v m ≡ true)
      → AreResultsAlong plan world p (with_lists v v.opened (set v.ended n true))
  put-end p n q pos within plan_is start_is ofit efit enclosed opened going others closed inside =
      let e = set v.ended n true in
      let more = set-more v.ended n in
      record {
        plan_is = plan_is;
        start_is = start_is;
        opened_fit = ofit;
        ended_fit = length-set v.ended n true ∙ efit;
        enclosed = open-more v v.opened e (λ _ x. x) (path tr (parent tr p)) enclosed;
        opened = opened;
        going = λ m a. elim (cases_eq m n) [
          | inl same ↦ let wrong : false ≡ true = sym (ap (λ (j : ℕ). is_under tr j p) same ∙ ap (is_under tr n) (sym q) ∙ not-above tr t.below n pos) ∙ a in absurd (cc)
          | inr other ↦ set-other v.ended n m other ∙ going m a
        ];
        others = λ m op a. elim (cases_eq m n) [
          | inl same ↦ ap (λ j. get_or e j false) same ∙ set-there v.ended n (omega arith)
          | inr other ↦ more m (others m other op a)
        ];
        closed = λ m mp mw x. elim (cases_eq (parent tr m) n) [
          | inl same ↦ result-more v v.opened e (λ _ y. y) more m (inside m mp mw same)
          | inr other ↦ result-more v v.opened e (λ _ y. y) more m (closed m mp mw (sym (set-other v.ended n (parent tr m) other) ∙ x))
        ];
      }

  pub put-test : (p n : ℕ) → parent tr n ≡ p → 0 < n → n < length v.plan.rows → is_test (row_at tr n).kind ≡ true
      → AreResultsAlong plan world p v → AreResultsAlong plan world p (with_done_of Test n v)
  put-test p n q pos within test u =
      put-end p n q pos within u.plan_is u.start_is u.opened_fit u.ended_fit u.enclosed u.opened u.going (λ m _ op a. u.others m op a) u.closed
      (λ m mp mw same. let wrong : true ≡ false = sym test ∙ ap (λ (j : ℕ). is_test (row_at tr j).kind) (sym same) ∙ t.inner m mp in absurd (cc))

  -- all that stands directly in a class has results
  abbrev Inside : ℕ → Type 0
  Inside n = (i : ℕ) → i < length (children tr n) → has_result v (get_or (children tr n) i 0) ≡ true

  pub inside-all : (n : ℕ) → Inside n → (m : ℕ) → 0 < m → m < length v.plan.rows → parent tr m ≡ n → has_result v m ≡ true
  inside-all n all m mp mw same =
      let l = listed tr m mp mw in
      let w = subst (λ (j : ℕ). l.place < length (children tr j)) same l.within in
      let at : get_or (children tr n) l.place 0 ≡ m = ap (λ (j : ℕ). get_or (children tr j) l.place 0) (sym same) ∙ l.is in
      ap (has_result v) (sym at) ∙ all l.place w

  pub put-closed : (p n : ℕ) → parent tr n ≡ p → 0 < n → n < length v.plan.rows → AreResultsAlong plan world n v → Inside n → AreResultsAlong plan world p (with_done_of AfterAll n v)
  put-closed p n q pos within u all =
      let above : AreOpen v (path tr p) = subst (λ (j : ℕ). AreOpen v (path tr j)) q u.enclosed in
      let stepped : 0 < p → AreOpen v (p ∷ path tr (parent tr p)) = λ pp. subst (λ (ns : List ℕ). AreOpen v ns) (path-step tr t.below p pp) above in
      let up : (m : ℕ) → m ≢ n → is_under tr m n ≡ is_under tr m p = λ m other. above-parent tr t.below m n pos other ∙ ap (is_under tr m) q in
      put-end p n q pos within u.plan_is u.start_is u.opened_fit u.ended_fit
      (elim (root-or-not p) [
        | inl zeroth ↦
            let top : path tr (parent tr p) ≡ [] = ap (λ (j : ℕ). path tr (parent tr j)) zeroth ∙ ap (λ (r : Row). path tr r.parent) t.root_is ∙ path-root tr in
            subst (λ (ns : List ℕ). AreOpen v ns) (sym top) tt
        | inr pp ↦ (stepped pp).1
      ])
      (λ pp. (stepped pp).0.0)
      (λ m a. elim (cases_eq m n) [
        | inl same ↦ let wrong : false ≡ true = sym (ap (λ (j : ℕ). is_under tr j p) same ∙ ap (is_under tr n) (sym q) ∙ not-above tr t.below n pos) ∙ a in absurd (cc)
        | inr other ↦ u.going m (up m other ∙ a)
      ])
      (λ m other op a. u.others m op (up m other ∙ a))
      u.closed
      (inside-all n all)

  -- once all that stands directly in the root has results, all nodes have
  has-by : (m : ℕ) → 0 < m → m < length v.plan.rows → (p : ℕ) → parent tr m ≡ p → AreResultsAlong plan world 0 v
      → Inside 0 → (0 < p → p < length v.plan.rows → has_result v p ≡ true) → has_result v m ≡ true
  has-by m mp mw p q u all ih = elim (root-or-not p) [
    | inl zeroth ↦ inside-all 0 all m mp mw (q ∙ zeroth)
    | inr pp ↦
        let less : parent tr m < m = t.below m mp in
        elim (or-cases (is_ended v p) (is_barred v p) (ih pp (omega arith))) [
          | inl over ↦ u.closed m mp mw (ap (is_ended v) q ∙ over)
          | inr barred ↦
              let step : path tr (parent tr m) ≡ p ∷ path tr (parent tr p) = ap (path tr) q ∙ path-step tr t.below p pp in
              or-second (is_ended v m) (is_barred v m) (ap (is_some_barring v) step ∙ or-second (is_barring v p) (is_barred v p) barred)
        ]
  ]

  pub all-done : AreResultsAlong plan world 0 v → Inside 0 → AreComplete v
  all-done u all =
      along tr t.below (λ m. 0 < m → m < length v.plan.rows → has_result v m ≡ true)
      (λ h. absurd (omega arith))
      (λ m mp ih h mw. has-by m mp mw (parent tr m) refl u all ih)
