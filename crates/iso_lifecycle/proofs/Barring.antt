-- In a class whose `before_all` didn't end well each node has the outcome that its ending gives.
use Rattle.std.proofs.Common.{inl, inr, ◌≡◌, ℕ, zero, suc, ◌<◌, ◌≤◌, List, [], ◌∷◌, ◌++◌, length, Option, Some, None, Bor, Bool, true, false, true≢false, ◌||◌, ◌&&◌, not, cond, refl, sym, ap, ◌∙◌, arith}
use Rattle.std.proofs.lemmas.Bool.{cases_Bool}
use Rattle.std.specs.Prelude.{IfSome, is_some}
use Rattle.iso_model.proofs.ChainRuns.{class_from-restricted, test_from-restricted}
use Rattle.iso_model.specs.Alone.{after_all, barred, class_alone, class_outcome, test_alone, test_outcome}
use Rattle.iso_model.specs.Chains.{ClassHead, TestHead}
use Rattle.iso_model.specs.Openings.{Frame, Opening, before_all, opened, opening}
use Rattle.iso_model.specs.Resources.{Resources}
use Rattle.iso_model.specs.Tests.{test}
use Rattle.iso_model.specs.Statements.{is_well}
use Rattle.iso_model.specs.Verdicts.{barred_verdict}
use Rattle.iso_model.specs.declared.outcome.Ending.{Ending}
use Rattle.iso_model.specs.declared.outcome.Outcome.{Outcome}
use Rattle.iso_plan.proofs.PathLemmas.{chain-step, path-root, path-step}
use Rattle.iso_plan.specs.NodeChains.{chain_classes, class_heads, heads_on, own_test}
use Rattle.iso_plan.specs.Paths.{IsTree, is_class_or_test, parent, parent_of, path, row_at}
use Rattle.iso_plan.specs.RowView.{tree_of}
use Rattle.iso_plan.specs.Tree.{Kind, root, class_node, test_node, Row}
use Rattle.iso_lifecycle.specs.Ends.{IsOpening}
use Rattle.iso_lifecycle.specs.ResultViews.{ResultsView, is_barred, is_barring, is_opened, is_some_barring, outcome_in}
use Rattle.iso_lifecycle.specs.Subjects.{Subject, chain_alone, enclosing, first_frame, opening_of, outcome_alone, own_frame, started, subject}
use Rattle.iso_lifecycle.specs.declared.done.Opened.{Opened}

-- an opening that a class has stopped stays as it is
stays_by : (o p : Opening) → (b : Bool) → b ≡ false → cond b p o ≡ o
stays_by o p true h = absurd (cc)
stays_by o p false h = refl

stays_ill : (d : ClassHead) (cs : List ClassHead) (m : Resources) → (opening cs m).well ≡ false → opening (d ∷ cs) m ≡ opening cs m
stays_ill d cs m h = let o = opening cs m in stays_by o (opened o (before_all d cs o)) o.well h

-- also past a node that is no class
stays_at : (k : Kind) (cs : List ClassHead) (m : Resources) → (opening cs m).well ≡ false → opening (class_heads k ++ cs) m ≡ opening cs m
stays_at root cs m h = refl
stays_at (class_node i d) cs m h = stays_ill d cs m h
stays_at (test_node t) cs m h = refl

-- the outcome where the opening of the enclosing classes wasn't well
barred_by : (whole ill : Outcome) (b : Bool) → b ≡ false → cond b whole ill ≡ ill
barred_by whole ill true h = absurd (cc)
barred_by whole ill false h = refl

barred_test : (t : TestHead) (cs : List ClassHead) (m : Resources) → (opening cs m).well ≡ false → test_alone t cs m ≡ barred (opening cs m).frames
barred_test t cs m h =
    let o = opening cs m in
    sym (test_from-restricted t cs m) ∙ barred_by (test_outcome (test t cs o)) (barred o.frames) o.well h

barred_class : (c : ClassHead) (cs : List ClassHead) (m : Resources) → (opening cs m).well ≡ false → class_alone c cs m ≡ barred (opening cs m).frames
barred_class c cs m h =
    let o = opening cs m in
    let p = opened o (before_all c cs o) in
    sym (class_from-restricted c cs m) ∙ barred_by (class_outcome p.frames (after_all c cs p)) (barred o.frames) o.well h

barred_at : (k : Kind) (cs : List ClassHead) (m : Resources) → is_class_or_test k ≡ true → (opening cs m).well ≡ false → chain_alone (own_test k) (class_heads k ++ cs) m ≡ barred (opening cs m).frames
barred_at root cs m k h = absurd (cc)
barred_at (class_node i c) cs m k h = barred_class c cs m h
barred_at (test_node t) cs m k h = barred_test t cs m h

first_note : (fs : List Frame) → barred fs ≡ record { verdict = barred_verdict (first_frame fs).ending; output = [] }
first_note [] = refl
first_note (f ∷ fs) = refl

-- the outcome of a node in a class whose opening wasn't well
pub outcome-barred : (tree : List Row) → IsTree tree → (m : Resources) (n : ℕ) → 0 < n → n < length tree → (opening (chain_classes tree (parent tree n)) m).well ≡ false
    → outcome_alone tree m n ≡ record { verdict = barred_verdict (first_frame (opening (chain_classes tree (parent tree n)) m).frames).ending; output = [] }
outcome-barred tree is m n pos within h =
    let cs = chain_classes tree (parent tree n) in
    let k = (row_at tree n).kind in
    ap (λ ds. chain_alone (own_test k) ds m) (chain-step tree is.below n pos) ∙ barred_at k cs m (is.full n pos within) h ∙ first_note (opening cs m).frames

-- On the way up from a node to its classes: no class below barred it, and where the classes above weren't opened well, they are all that was opened.
pub record IsAbove (v : ResultsView) (n at : ℕ) : Type 0 where
  pub below : at ≤ n
  pub barring : is_barred v n ≡ is_barred v at
  pub opening : (opening_of (subject v.plan v.start (parent (tree_of v.plan) at))).well ≡ false
      → opening_of (subject v.plan v.start (parent (tree_of v.plan) n)) ≡ opening_of (subject v.plan v.start (parent (tree_of v.plan) at))

pub begins : (v : ResultsView) (n : ℕ) → IsAbove v n n
begins v n = record { below = omega arith; barring = refl; opening = λ _. refl }

-- what bars a node is the class that it stands in, or what bars that
barred_root : (v : ResultsView) → IsTree (tree_of v.plan) → (n : ℕ) → parent (tree_of v.plan) n ≡ 0 → is_barred v n ≡ false
barred_root v is n h = ap (λ (m : ℕ). is_some_barring v (path (tree_of v.plan) m)) h ∙ ap (is_some_barring v) (path-root (tree_of v.plan))

barred_class_above : (v : ResultsView) → IsTree (tree_of v.plan) → (n m : ℕ) → parent (tree_of v.plan) n ≡ m → 0 < m → is_barred v n ≡ (is_barring v m || is_barred v m)
barred_class_above v is n m h pos = ap (λ (i : ℕ). is_some_barring v (path (tree_of v.plan) i)) h ∙ ap (is_some_barring v) (path-step (tree_of v.plan) is.below m pos)

root_parent : (tree : List Row) → IsTree tree → parent tree 0 ≡ 0
root_parent tree is = ap (λ (r : Row). r.parent) is.root_is

-- the node that a node stands in, as a plan tells it
pub record HasParent (tree : List Row) (n m : ℕ) : Type 0 where
  pub inner : 0 < n
  pub parent_is : parent tree n ≡ m

pub parent-some : (tree : List Row) (n m : ℕ) → parent_of tree n ≡ Some m → HasParent tree n m
parent-some tree zero m h = absurd (cc)
parent-some tree (suc n) m h = record { inner = omega arith; parent_is = cc }

parent_none : (tree : List Row) (n : ℕ) → parent_of tree n ≡ None → n ≡ 0
parent_none tree zero h = refl
parent_none tree (suc n) h = absurd (cc)

-- the root is no opened class
root_unopened : (tree : List Row) (m : Resources) (f : Frame) (fs : List Frame) → (opening (chain_classes tree 0) m).frames ≡ f ∷ fs → ⊥
root_unopened tree m f fs h =
    let none : (opening (chain_classes tree 0) m).frames ≡ [] = ap (λ (ns : List ℕ). (opening (heads_on tree ns) m).frames) (path-root tree) in
    absurd (cc)

opened_inner : (s : Subject) (o : Opened) → IsOpening s o → (n : ℕ) → n ≡ s.node → 0 < n
opened_inner s o is zero e = absurd (root_unopened (tree_of s.plan) (started s.start) (own_frame s) (opening_of (enclosing s)).frames
    (ap (λ (i : ℕ). (opening (chain_classes (tree_of s.plan) i) (started s.start)).frames) e ∙ is.frames))
opened_inner s o is (suc n) e = omega arith

-- a class that bars was opened ill
ill_by : (a b c : Bool) → b ≡ c → (a && not c) ≡ true → b ≡ false
ill_by true b true e h = absurd (cc)
ill_by true b false e h = e
ill_by false b c e h = absurd (cc)

ill_opening : (v : ResultsView) (n : ℕ) (o : Opened) → IsOpening (subject v.plan v.start n) o → is_barring v n ≡ true → (opening_of (subject v.plan v.start n)).well ≡ false
ill_opening v n o is h = ill_by (is_opened v n) (opening_of (subject v.plan v.start n)).well (is_well (own_frame (subject v.plan v.start n)).ending) (is.well ∙ ap is_well is.ending_is) h

or_first : (a b : Bool) → a ≡ true → (a || b) ≡ true
or_first true b h = refl
or_first false b h = absurd (cc)

or_second : (a b : Bool) → a ≡ false → (a || b) ≡ b
or_second true b h = absurd (cc)
or_second false b h = refl

-- the class found on the way up bars the node
pub found-bars : (v : ResultsView) → IsTree (tree_of v.plan) → (n at m : ℕ) (o : Opened) → IsAbove v n at
    → HasParent (tree_of v.plan) at m → IsOpening (subject v.plan v.start m) o → is_barring v m ≡ true → is_barred v n ≡ true
found-bars v is n at m o a p is_o h =
    let pos : 0 < m = opened_inner (subject v.plan v.start m) o is_o m refl in
    a.barring ∙ barred_class_above v is at m p.parent_is pos ∙ or_first (is_barring v m) (is_barred v m) h

-- and its ending gives the outcome
pub found-outcome : (v : ResultsView) → IsTree (tree_of v.plan) → (n at m : ℕ) (o : Opened) → IsAbove v n at → HasParent (tree_of v.plan) at m
    → IsOpening (subject v.plan v.start m) o → is_barring v m ≡ true → n < length (tree_of v.plan) → outcome_in v n ≡ record { verdict = barred_verdict o.ending; output = [] }
found-outcome v is n at m o a p is_o h within =
    let tree = tree_of v.plan in
    let pos : 0 < n = omega (arith, p.inner, a.below) in
    let ill : (opening_of (subject v.plan v.start m)).well ≡ false = ill_opening v m o is_o h in
    let ill_at : (opening_of (subject v.plan v.start (parent tree at))).well ≡ false = ap (λ (i : ℕ). (opening_of (subject v.plan v.start i)).well) p.parent_is ∙ ill in
    let same : opening_of (subject v.plan v.start (parent tree n)) ≡ opening_of (subject v.plan v.start m) = a.opening ill_at ∙ ap (λ (i : ℕ). opening_of (subject v.plan v.start i)) p.parent_is in
    let told : (first_frame (opening_of (subject v.plan v.start (parent tree n))).frames).ending ≡ o.ending = ap (λ (x : Opening). (first_frame x.frames).ending) same ∙ sym is_o.ending_is in
    outcome-barred tree is (started v.start) n pos within (ap (λ (x : Opening). x.well) same ∙ ill)
    ∙ ap (λ (e : Ending). record { verdict = barred_verdict e; output = [] }) told

-- a class that doesn't bar is passed
passed_barring : (v : ResultsView) → IsTree (tree_of v.plan) → (at m : ℕ) → parent (tree_of v.plan) at ≡ m → is_barring v m ≡ false → is_barred v at ≡ is_barred v m
passed_barring v is at zero p h = barred_root v is at p ∙ sym (barred_root v is 0 (root_parent (tree_of v.plan) is))
passed_barring v is at (suc m) p h = barred_class_above v is at (suc m) p (omega arith) ∙ or_second (is_barring v (suc m)) (is_barred v (suc m)) h

passed_opening : (v : ResultsView) → IsTree (tree_of v.plan) → (m : ℕ) → (opening_of (subject v.plan v.start (parent (tree_of v.plan) m))).well ≡ false
    → opening_of (subject v.plan v.start m) ≡ opening_of (subject v.plan v.start (parent (tree_of v.plan) m))
passed_opening v is zero h = ap (λ (i : ℕ). opening_of (subject v.plan v.start i)) (sym (root_parent (tree_of v.plan) is))
passed_opening v is (suc m) h =
    let tree = tree_of v.plan in
    ap (λ (cs : List ClassHead). opening cs (started v.start)) (chain-step tree is.below (suc m) (omega arith))
    ∙ stays_at (row_at tree (suc m)).kind (chain_classes tree (parent tree (suc m))) (started v.start) h

pub goes-up : (v : ResultsView) → IsTree (tree_of v.plan) → (n at m : ℕ) → IsAbove v n at → HasParent (tree_of v.plan) at m → is_barring v m ≡ false → IsAbove v n m
goes-up v is n at m a p h =
    let tree = tree_of v.plan in
    let less : parent tree at < at = is.below at p.inner in
    record {
      below = omega (arith, less, p.parent_is, a.below);
      barring = a.barring ∙ passed_barring v is at m p.parent_is h;
      opening = λ ill.
          let up = passed_opening v is m ill in
          let at_m : opening_of (subject v.plan v.start (parent tree at)) ≡ opening_of (subject v.plan v.start m) = ap (λ (i : ℕ). opening_of (subject v.plan v.start i)) p.parent_is in
          a.opening (ap (λ (x : Opening). x.well) (at_m ∙ up) ∙ ill) ∙ at_m ∙ up;
    }

-- no class bars the node where the root is reached
pub root-bars-none : (v : ResultsView) → IsTree (tree_of v.plan) → (n at : ℕ) → IsAbove v n at → parent_of (tree_of v.plan) at ≡ None → is_barred v n ≡ false
root-bars-none v is n at a h =
    let zeroth : at ≡ 0 = parent_none (tree_of v.plan) at h in
    a.barring ∙ ap (is_barred v) zeroth ∙ barred_root v is 0 (root_parent (tree_of v.plan) is)

-- where the classes of a chain were opened well, so was the innermost
-- where the classes of a chain were opened well, so was the innermost
own-well : (cs : List ClassHead) (m : Resources) → (opening cs m).well ≡ true → is_well (first_frame (opening cs m).frames).ending ≡ true
own-well [] m = λ well. refl
own-well (c ∷ cs) m =
    let o = opening cs m in
    let p = opened o (before_all c cs o) in
    elim o.well as (λ b. (cond b p o).well ≡ true → is_well (first_frame (cond b p o).frames).ending ≡ true) [
      | true ↦ λ well. well
      | false ↦ λ well. own-well cs m well
    ]

above-well : (v : ResultsView) → IsTree (tree_of v.plan) → (m : ℕ) → (opening_of (subject v.plan v.start m)).well ≡ true → (opening_of (subject v.plan v.start (parent (tree_of v.plan) m))).well ≡ true
above-well v is m well =
    let up = parent (tree_of v.plan) m in
    elim (cases_Bool (opening_of (subject v.plan v.start up)).well) [
      | inl here ↦ here
      | inr ill ↦ absurd (true≢false (sym well ∙ ap (λ (x : Opening). x.well) (passed_opening v is m ill) ∙ ill))
    ]

not-barring : (a b : Bool) → b ≡ true → (a && not b) ≡ false
not-barring true b e = ap not e
not-barring false b e = refl

none-barring : (v : ResultsView) → IsTree (tree_of v.plan) → (most m : ℕ) → m ≤ most → (opening_of (subject v.plan v.start m)).well ≡ true → is_some_barring v (path (tree_of v.plan) m) ≡ false
none-barring v is most zero h well = ap (is_some_barring v) (path-root (tree_of v.plan))
none-barring v is zero (suc m) h well = absurd (omega arith)
none-barring v is (suc most) (suc m) h well =
    let tree = tree_of v.plan in
    let n = suc m in
    let less : parent tree n < n = is.below n (omega arith) in
    let here = not-barring (is_opened v n) (is_well (own_frame (subject v.plan v.start n)).ending) (own-well (chain_classes tree n) (started v.start) well) in
    ap (is_some_barring v) (path-step tree is.below n (omega arith))
    ∙ ap (λ b. b || is_some_barring v (path tree (parent tree n))) here
    ∙ none-barring v is most (parent tree n) (omega (arith, less, h)) (above-well v is n well)

opened-well : (a b c : Bool) → a ≡ true → (a && not b) ≡ false → c ≡ b → c ≡ true
opened-well true true c e h k = k
opened-well true false c e h k = absurd (true≢false h)
opened-well false b c e h k = absurd (true≢false (sym e))

-- a class that was opened and doesn't bar was opened well, so that no class that it stands in bars the node
pub opened-bars-none : (v : ResultsView) → IsTree (tree_of v.plan) → (n at m : ℕ) (o : Opened) → IsAbove v n at → HasParent (tree_of v.plan) at m
    → IsOpening (subject v.plan v.start m) o → is_opened v m ≡ true → is_barring v m ≡ false → is_barred v n ≡ false
opened-bars-none v is n at m o a p is_o put h =
    let well = opened-well (is_opened v m) (is_well (own_frame (subject v.plan v.start m)).ending) (opening_of (subject v.plan v.start m)).well put h (is_o.well ∙ ap is_well is_o.ending_is) in
    a.barring ∙ ap (λ (i : ℕ). is_some_barring v (path (tree_of v.plan) i)) p.parent_is ∙ none-barring v is m m (omega arith) well

pub found-open : (v : ResultsView) → IsTree (tree_of v.plan) → (n at m : ℕ) (found : Option (Bor Opened)) → IsAbove v n at → HasParent (tree_of v.plan) at m
    → IfSome found (λ (o : Bor Opened). IsOpening (subject v.plan v.start m) o.now) → is_some found ≡ is_opened v m → is_some found ≡ true → is_barring v m ≡ false → is_barred v n ≡ false
found-open v is n at m None a p opening put some h = absurd (true≢false (sym some))
found-open v is n at m (Some o) a p opening put some h = opened-bars-none v is n at m o.now a p opening (sym put ∙ some) h
