-- How many children of a class aren't over, after each step.
use Rattle.std.proofs.Common.{◌≡◌, ◌≢◌, ℕ, zero, suc, ◌+◌, ◌-◌, ◌<◌, ◌≤◌, ◌==◌, ◌&&◌, ◌++◌, ◌∷◌, List, [], not, Bool, true, false, cond, length, set, arith, refl, ap, sym, ◌∙◌, subst, inl, inr}
use Rattle.std.proofs.lemmas.Bool.{cases_eq, cases_lt}
use Rattle.std.proofs.lemmas.List.{get_or-set_other, get_or-set_same, get_or_past, length-append, set_past}
use Rattle.iso_desk.specs.Places.{TableView, place_of}
use Rattle.iso_desk.specs.declared.crew.Member.{Member}
use Rattle.iso_desk.specs.declared.place.Place.{Place}
use Rattle.iso_desk.specs.declared.place.Place.TheVariants.{Closed, InLine, Loose, Open, Over, With}
use Rattle.iso_floor.specs.Remainders.{HaveLeft, HaveLeftBut, children_left, is_left, is_over, left_in}
use Rattle.iso_floor.specs.Schedulers.{IsMoved, KeepsPlaces, SchedulerView, is_entered, put}
use Rattle.iso_plan.proofs.ColumnLemmas.{column-read, length-column}
use Rattle.iso_plan.proofs.PathLemmas.{eq_from}
use Rattle.iso_plan.specs.Children.{IsChild}
use Rattle.iso_plan.specs.HeldNodes.{count}
use Rattle.iso_plan.specs.Paths.{children, children_below, column, is_root, parent}
use Rattle.iso_plan.specs.Planned.{Planned}
use Rattle.iso_plan.specs.RowView.{tree_of}
use Rattle.iso_plan.specs.Tree.{Row}
use Rattle.iso_floor.proofs.PlaceLemmas.{Keeps, moved-put}
use Rattle.iso_floor.proofs.SuccessionLemmas.{back-kept, back-moved}

one-less : (a b : Bool) → (a ≡ true → b ≡ true) → cond a 1 0 ≤ cond b 1 0
one-less true b f = subst (λ (c : Bool). 1 ≤ cond c 1 0) (sym (f refl)) (omega arith)
one-less false true f = omega arith
one-less false false f = omega arith

one-small : (a : Bool) → cond a 1 0 ≤ 1
one-small true = omega arith
one-small false = omega arith

-- no more pass one test than another that all of them pass
count-less : (p q : ℕ → Bool) (n : ℕ) → ((m : ℕ) → m < n → p m ≡ true → q m ≡ true) → count p n ≤ count q n
count-less p q zero f = let none : count p 0 ≡ 0 = refl in omega (arith, none)
count-less p q (suc n) f =
    let before = count-less p q n (λ m h. f m (omega (arith, h))) in
    let here = one-less (p n) (q n) (f n (omega arith)) in
    omega (arith, before, here)

-- nor more than one more, where all but one of them do
count-but-one : (p q : ℕ → Bool) (n i : ℕ) → ((m : ℕ) → m ≢ i → p m ≡ true → q m ≡ true) → count p n ≤ count q n + 1
count-but-one p q zero i f = let none : count p 0 ≡ 0 = refl in omega (arith, none)
count-but-one p q (suc n) i f =
    elim (cases_eq n i) [
      | inl same ↦
          let before = count-less p q n (λ m h. f m (λ e. let more : m ≡ n = e ∙ sym same in omega (arith, h, more))) in
          let here = one-small (p n) in
          omega (arith, before, here)
      | inr other ↦
          let before = count-but-one p q n i f in
          let here = one-less (p n) (q n) (f n other) in
          omega (arith, before, here)
    ]

-- where some pass, there is one
record Passes (p : ℕ → Bool) (n : ℕ) : Type 0 where
  pub number : ℕ
  pub below : number < n
  pub passes : p number ≡ true

passes-more : (p : ℕ → Bool) (n : ℕ) → Passes p n → Passes p (suc n)
passes-more p n e = let low = e.below in record { number = e.number; below = omega (arith, low); passes = e.passes }

some-by : (p : ℕ → Bool) (n : ℕ) (b : Bool) → p n ≡ b → (0 < count p n → Passes p n) → 0 < count p n + cond b 1 0 → Passes p (suc n)
some-by p n true is before more = record { number = n; below = omega arith; passes = is }
some-by p n false is before more = passes-more p n (before (omega (arith, more)))

count-some : (p : ℕ → Bool) (n : ℕ) → 0 < count p n → Passes p n
count-some p zero h = let none : count p 0 ≡ 0 = refl in absurd (omega (arith, h, none))
count-some p (suc n) h = some-by p n (p n) refl (count-some p n) h

-- who isn't over still isn't
left-still : (a : Bool) (p q : Place) → (q ≡ Over → p ≡ Over) → (a && not (is_over p)) ≡ true → (a && not (is_over q)) ≡ true
left-still false p q f e = absurd (cc)
left-still true p Closed f e = refl
left-still true p Loose f e = refl
left-still true p (InLine s) f e = refl
left-still true p (With w) f e = refl
left-still true p Open f e = refl
left-still true p Over f e = let wrong : false ≡ true = ap (λ (x : Place). not (is_over x)) (sym (f refl)) ∙ e in absurd (cc)

-- a child of a class that isn't over
pub record IsLeft (plan : Planned) (places : List Place) (class n : ℕ) : Type 0 where
  pub is : IsChild (tree_of plan) class (length plan.rows) n
  pub left : place_of places n ≢ Over

inner : (n : ℕ) → not (is_root n) ≡ true → 0 < n
inner zero e = absurd (cc)
inner (suc n) e = omega arith

not-over : (p : Place) → not (is_over p) ≡ true → p ≢ Over
not-over p e is = let wrong : false ≡ true = ap (λ (x : Place). not (is_over x)) (sym is) ∙ e in absurd (cc)

both : (a b : Bool) → (a && b) ≡ true → (a ≡ true) × (b ≡ true)
both true b e = (refl, e)
both false b e = absurd (cc)

left-child : (plan : Planned) (places : List Place) (class n : ℕ) → n < length plan.rows → is_left plan places class n ≡ true → IsLeft plan places class n
left-child plan places class n low e =
    let parts = both (not (is_root n) && parent (tree_of plan) n == class) (not (is_over (place_of places n))) e in
    let child = both (not (is_root n)) (parent (tree_of plan) n == class) parts.0 in
    record {
      is = record { positive = inner n child.0; within = low; parent_is = eq_from (parent (tree_of plan) n) class child.1 };
      left = not-over (place_of places n) parts.1;
    }

-- where some children of a class are left, there is one
pub one-left : (plan : Planned) (s : SchedulerView) (class : ℕ) → HaveLeft plan s → 0 < class → place_of s.table.places class ≡ Open → (n : ℕ) × IsLeft plan s.table.places class n
one-left plan s class have pos opened =
    let few = have.few class in
    let some = have.some class (λ f. f) pos opened in
    let found = count-some (is_left plan s.table.places class) (length plan.rows) (omega (arith, few, some)) in
    (found.number, left-child plan s.table.places class found.number found.below found.passes)

-- a step after which none is over who wasn't
few-kept : (plan : Planned) (old new : List Place) (class : ℕ) → ((m : ℕ) → place_of new m ≡ Over → place_of old m ≡ Over) → children_left plan old class ≤ children_left plan new class
few-kept plan old new class overs =
    count-less (is_left plan old class) (is_left plan new class) (length plan.rows)
    (λ m low. left-still (not (is_root m) && parent (tree_of plan) m == class) (place_of old m) (place_of new m) (overs m))

pub left-after : (but was : ℕ → Type 0) (plan : Planned) (s t : SchedulerView) → t.left ≡ s.left → ((m : ℕ) → place_of t.table.places m ≡ Over → place_of s.table.places m ≡ Over)
    → ((m : ℕ) → ¬ but m → ¬ was m) → ((m : ℕ) → ¬ but m → place_of t.table.places m ≡ Open → place_of s.table.places m ≡ Open) → HaveLeftBut was plan s → HaveLeftBut but plan t
left-after but was plan s t same overs less opens have =
    record {
      few = λ class.
          let before = have.few class in
          let after = few-kept plan s.table.places t.table.places class overs in
          let is : left_in t.left class ≡ left_in s.left class = ap (λ (ls : List ℕ). left_in ls class) same in
          omega (arith, before, after, is);
      some = λ class free pos e. subst (λ (ls : List ℕ). 0 < left_in ls class) (sym same) (have.some class (less class free) pos (opens class free e));
    }

pub left-kept : (but : ℕ → Type 0) (plan : Planned) (s t : SchedulerView) → t.left ≡ s.left → Keeps s.table.places t.table.places → HaveLeftBut but plan s → HaveLeftBut but plan t
left-kept but plan s t same keeps =
    left-after but but plan s t same (back-kept s.table.places t.table.places Over refl keeps) (λ m f. f) (λ m f. back-kept s.table.places t.table.places Open refl keeps m)

-- a node gets a place that is neither an open class's nor one of who is over
pub left-moved : (plan : Planned) (s t : SchedulerView) (n : ℕ) (p : Place) → p ≢ Open → p ≢ Over → t.left ≡ s.left → IsMoved n p s.table.places t.table.places → HaveLeft plan s → HaveLeft plan t
left-moved plan s t n p f g same moves =
    left-after (λ m. ⊥) (λ m. ⊥) plan s t same (back-moved s.table.places t.table.places n p Over refl g moves) (λ m h. h)
    (λ m h. back-moved s.table.places t.table.places n p Open refl f moves m)

-- a class is opened up
pub left-opened : (plan : Planned) (s t : SchedulerView) (own : ℕ) → t.left ≡ s.left → IsMoved own Open s.table.places t.table.places → HaveLeft plan s → HaveLeftBut (λ m. m ≡ own) plan t
left-opened plan s t own same moves =
    left-after (λ m. m ≡ own) (λ m. ⊥) plan s t same (back-moved s.table.places t.table.places own Open Over refl (λ f. cc) moves) (λ m f w. w)
    (λ m other e. sym (moves.others m other (ap is_entered e)) ∙ e)

-- a class that was left out isn't open, or some of its children are left
pub left-closed : (plan : Planned) (s : SchedulerView) (own : ℕ) → place_of s.table.places own ≢ Open → HaveLeftBut (λ m. m ≡ own) plan s → HaveLeft plan s
left-closed plan s own f have =
    record {
      few = have.few;
      some = λ class free pos e. have.some class (λ same. f (subst (λ (j : ℕ). place_of s.table.places j ≡ Open) same e)) pos e;
    }

pub left-ended : (plan : Planned) (s t : SchedulerView) (own : ℕ) → t.left ≡ s.left → Keeps s.table.places t.table.places
    → (0 < own → place_of s.table.places own ≡ Open → left_in s.left own ≡ 0 → place_of t.table.places own ≢ Open) → HaveLeftBut (λ m. m ≡ own) plan s → HaveLeft plan t
left-ended plan s t own same keeps ended have =
    let opens = back-kept s.table.places t.table.places Open refl keeps in
    record {
      few = (left-kept (λ m. m ≡ own) plan s t same keeps have).few;
      some = λ class free pos e.
          elim (cases_eq class own) [
            | inl here ↦
                elim (cases_lt 0 (left_in t.left class)) [
                  | inl more ↦ more
                  | inr none ↦
                      let there : place_of t.table.places own ≡ Open = subst (λ (j : ℕ). place_of t.table.places j ≡ Open) here e in
                      let is : left_in t.left class ≡ left_in s.left own = ap (λ (ls : List ℕ). left_in ls class) same ∙ ap (left_in s.left) here in
                      absurd (ended (subst (λ (j : ℕ). 0 < j) here pos) (opens own there) (omega (arith, none, is)) there)
                ]
            | inr other ↦ subst (λ (ls : List ℕ). 0 < left_in ls class) (sym same) (have.some class other pos (opens class e))
          ];
    }

-- a node is over, of which one child less of its class is kept
module _ (plan : Planned) (s t : SchedulerView) (n own : ℕ) (moves : IsMoved n Over s.table.places t.table.places) (less : t.left ≡ set s.left own (left_in s.left own - 1))
    (is : 0 < n → n < length plan.rows → own ≡ parent (tree_of plan) n) where
  others-left : (class : ℕ) → children_left plan s.table.places class ≤ children_left plan t.table.places class + 1
  others-left class =
      count-but-one (is_left plan s.table.places class) (is_left plan t.table.places class) (length plan.rows) n
      (λ m other.
      left-still (not (is_root m) && parent (tree_of plan) m == class) (place_of s.table.places m) (place_of t.table.places m) (λ e. sym (moves.others m other (ap is_entered e)) ∙ e))

  elsewhere-by : (class : ℕ) → class ≢ own → (m : ℕ) → m < length plan.rows → is_left plan s.table.places class m ≡ true → is_left plan t.table.places class m ≡ true
  elsewhere-by class other m low e =
      elim (cases_eq m n) [
        | inl same ↦
            let child = (left-child plan s.table.places class m low e).is in
            let pos = child.positive in
            let here : own ≡ parent (tree_of plan) n = is (subst (λ (j : ℕ). 0 < j) same pos) (subst (λ (j : ℕ). j < length plan.rows) same low) in
            absurd (other (sym child.parent_is ∙ ap (parent (tree_of plan)) same ∙ sym here))
        | inr apart ↦
            left-still (not (is_root m) && parent (tree_of plan) m == class) (place_of s.table.places m) (place_of t.table.places m) (λ e. sym (moves.others m apart (ap is_entered e)) ∙ e) e
      ]

  elsewhere-left : (class : ℕ) → class ≢ own → children_left plan s.table.places class ≤ children_left plan t.table.places class
  elsewhere-left class other =
      count-less (is_left plan s.table.places class) (is_left plan t.table.places class) (length plan.rows) (elsewhere-by class other)

  left-here : left_in t.left own ≤ left_in s.left own - 1
  left-here =
      elim (cases_lt own (length s.left)) [
        | inl low ↦
            let same : left_in t.left own ≡ left_in s.left own - 1 = ap (λ (ls : List ℕ). left_in ls own) less ∙ get_or-set_same s.left own (left_in s.left own - 1) 0 low in
            omega (arith, same)
        | inr high ↦
            let same : left_in t.left own ≡ 0 =
            ap (λ (ls : List ℕ). left_in ls own) less ∙ ap (λ (ls : List ℕ). left_in ls own) (set_past s.left own (left_in s.left own - 1) high) ∙ get_or_past s.left own 0 high in
            omega (arith, same)
      ]

  left-there : (class : ℕ) → class ≢ own → left_in t.left class ≡ left_in s.left class
  left-there class other = ap (λ (ls : List ℕ). left_in ls class) less ∙ get_or-set_other s.left own class (left_in s.left own - 1) 0 other

  pub left-over : HaveLeft plan s → HaveLeftBut (λ m. m ≡ own) plan t
  left-over have =
      record {
        few = λ class.
            elim (cases_eq class own) [
              | inl same ↦
                  let here = left-here in
                  let before = have.few own in
                  let after = others-left own in
                  subst (λ (j : ℕ). left_in t.left j ≤ children_left plan t.table.places j) (sym same) (omega (arith, here, before, after))
              | inr other ↦
                  let here = left-there class other in
                  let before = have.few class in
                  let after = elsewhere-left class other in
                  omega (arith, here, before, after)
            ];
        some = λ class other pos e.
            subst (λ (k : ℕ). 0 < k) (sym (left-there class other)) (have.some class (λ w. w) pos (back-moved s.table.places t.table.places n Over Open refl (λ f. cc) moves class e));
      }

-- at first no class is open, and all children are left
children-count : (tree : List Row) (places : List Place) (class n : ℕ) → ((m : ℕ) → is_over (place_of places m) ≡ false)
    → length (children_below tree class n) ≡ count (λ m. (not (is_root m) && parent tree m == class) && not (is_over (place_of places m))) n
children-count tree places class zero none = refl
children-count tree places class (suc n) none =
    child-by (children_below tree class n) (count (λ m. (not (is_root m) && parent tree m == class) && not (is_over (place_of places m))) n) n (not (is_root n) && parent tree n == class)
    (is_over (place_of places n)) (none n) (children-count tree places class n none)
  where
    child-by : (cs : List ℕ) (k m : ℕ) (a b : Bool) → b ≡ false → length cs ≡ k → length (cond a (cs ++ m ∷ []) cs) ≡ k + cond (a && not b) 1 0
    child-by cs k m true true e same = absurd (cc)
    child-by cs k m true false e same = let more = length-append cs (m ∷ []) in omega (arith, more, same)
    child-by cs k m false b e same = omega (arith, same)

pub left-first : (plan : Planned) (s : SchedulerView) → s.left ≡ column (λ n. length (children (tree_of plan) n)) (length plan.rows) → ((n : ℕ) → is_entered (place_of s.table.places n) ≡ false)
    → HaveLeft plan s
left-first plan s kept closed =
    let few : (class : ℕ) → left_in s.left class ≤ length (children (tree_of plan) class) =
    λ class.
    elim (cases_lt class (length plan.rows)) [
      | inl low ↦
          let same : left_in s.left class ≡ length (children (tree_of plan) class) =
          column-read (λ n. length (children (tree_of plan) n)) s.left (length plan.rows) class 0 kept low in
          omega (arith, same)
      | inr high ↦
          let long : length s.left ≡ length plan.rows = ap (λ (ls : List ℕ). length ls) kept ∙ length-column (λ n. length (children (tree_of plan) n)) (length plan.rows) in
          let none : left_in s.left class ≡ 0 = get_or_past s.left class 0 (subst (λ (k : ℕ). k ≤ class) (sym long) high) in
          omega (arith, none)
    ] in
    let none : (m : ℕ) → is_over (place_of s.table.places m) ≡ false = λ m. over-entered (place_of s.table.places m) (closed m) in
    record {
      few = λ class. subst (λ (k : ℕ). left_in s.left class ≤ k) (children-count (tree_of plan) s.table.places class (length plan.rows) none) (few class);
      some = λ class f pos e. let wrong : false ≡ true = sym (closed class) ∙ ap is_entered e in absurd (cc);
    }
  where
    over-entered : (p : Place) → is_entered p ≡ false → is_over p ≡ false
    over-entered Closed e = refl
    over-entered Loose e = refl
    over-entered (InLine x) e = refl
    over-entered (With w) e = refl
    over-entered Open e = refl
    over-entered Over e = absurd (cc)

-- the same of what a step is known by
pub left-table : (plan : Planned) (s t : SchedulerView) {u : TableView} → t ≡ record s { table = u } → KeepsPlaces s t → HaveLeft plan s → HaveLeft plan t
left-table plan s t {u} e places = left-kept (λ m. ⊥) plan s t (ap (λ (x : SchedulerView). x.left) e) places

pub left-members : (plan : Planned) (s t : SchedulerView) {ms : List Member} → t ≡ record s { members = ms } → HaveLeft plan s → HaveLeft plan t
left-members plan s t {ms} e =
    left-kept (λ m. ⊥) plan s t (ap (λ (x : SchedulerView). x.left) e) (λ n h. ap (λ (x : SchedulerView). place_of x.table.places n) e)

pub left-put : (plan : Planned) (s t : SchedulerView) (n : ℕ) (p : Place) → p ≢ Open → p ≢ Over → t.table ≡ put n p s.table → t.left ≡ s.left → HaveLeft plan s → HaveLeft plan t
left-put plan s t n p f g table same =
    left-moved plan s t n p f g same (subst (λ (x : TableView). IsMoved n p s.table.places x.places) (sym table) (moved-put s.table n p))

pub left-is : (plan : Planned) (s t : SchedulerView) → t ≡ s → HaveLeft plan s → HaveLeft plan t
left-is plan s t e = subst (HaveLeft plan) (sym e)

-- of a plan that is the same
pub left-by : (plan q : Planned) → q ≡ plan → (s t : SchedulerView) → (HaveLeft q s → HaveLeft q t) → HaveLeft plan s → HaveLeft plan t
left-by plan q same s t f have = subst (λ (x : Planned). HaveLeft x t) same (f (subst (λ (x : Planned). HaveLeft x s) (sym same) have))
