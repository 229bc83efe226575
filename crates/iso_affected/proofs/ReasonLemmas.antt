-- What is told of nodes, node by node, and why there is a reason for each changed one.
use Rattle.std.proofs.Common.{◌≡◌, ℕ, zero, suc, ◌+◌, ◌<◌, ◌==◌, ◌||◌, List, [], ◌∷◌, ◌++◌, length, get_or, not, nat_lt, Bool, true, false, Option, Some, None, refl, sym, ap, ◌∙◌, subst, arith, true≢false}
use Rattle.std.proofs.lemmas.Bool.Decides.{nat_tests}
use Rattle.std.proofs.lemmas.List.{get_or_append_left, get_or_push, length-append}
use Rattle.std.specs.List.{list_any}
use Rattle.iso_affected.proofs.AgreeSteps.{agree-own}
use Rattle.iso_affected.proofs.DifferenceLemmas.{nothing-differs}
use Rattle.iso_affected.proofs.NamesakeLemmas.{namesake-node}
use Rattle.iso_affected.proofs.PathAgreement.{all-tell, own-only}
use Rattle.iso_affected.specs.Fates.{AreFates, IsFate, IsNode, Suites}
use Rattle.iso_affected.specs.Reasons.{AgreesItself, is_nothing}
use Rattle.iso_affected.specs.Told.{AreDifferences, IsDifferenceOf, tells, tells_apart}
use Rattle.iso_affected.specs.declared.affected.Fate.{Fate}
use Rattle.iso_affected.specs.declared.affected.Fate.TheVariants.{Same, Changed, New}
use Rattle.iso_affected.specs.declared.difference.Difference.{Difference}
use Rattle.iso_plan.proofs.PathLemmas.{along, eq_from, path-root, path-step, under-le}
use Rattle.iso_plan.specs.Paths.{IsTree, is_on, parent, path}
use Rattle.iso_plan.specs.RowView.{tree_of}
use Rattle.iso_plan.specs.Tree.{Row}

-- what is told of the nodes below a number
pub record AreToldBelow (s : Suites) (fates : List Fate) (told : List (Option Difference)) (count : ℕ) : Type 0 where
  pub each : length told ≡ count
  pub told_so : (n : ℕ) → 0 < n → n < count → IsDifferenceOf s n (get_or fates n New) (get_or told n None)

pub root-told : (s : Suites) (fates : List Fate) (told : List (Option Difference)) → told ≡ None ∷ [] → AreToldBelow s fates told 1
root-told s fates told e = record { each = ap length e; told_so = λ n pos h. absurd (omega arith) }

told-by : (s : Suites) (fates : List Fate) (told : List (Option Difference)) (o : Option Difference) (count n : ℕ) (b : Bool) → nat_lt n count ≡ b → 0 < n → n < count + 1
    → AreToldBelow s fates told count → IsDifferenceOf s count (get_or fates count New) o → IsDifferenceOf s n (get_or fates n New) (get_or (told ++ o ∷ []) n None)
told-by s fates told o count n true e pos h below own =
    let less : n < count = grind (arith, nat_tests) in
    let within : n < length told = let each = below.each in omega arith in
    subst (IsDifferenceOf s n (get_or fates n New)) (sym (get_or_append_left told (o ∷ []) None n within)) (below.told_so n pos less)
told-by s fates told o count n false e pos h below own =
    let last : n ≡ count = grind (arith, nat_tests) in
    let at : get_or (told ++ o ∷ []) n None ≡ o = get_or_push told o None n (below.each ∙ sym last) in
    subst (IsDifferenceOf s n (get_or fates n New)) (sym at) (subst (λ (k : ℕ). IsDifferenceOf s k (get_or fates k New) o) (sym last) own)

pub told-more : (s : Suites) (fates : List Fate) (told more : List (Option Difference)) (o : Option Difference) (count : ℕ) → more ≡ told ++ o ∷ []
    → AreToldBelow s fates told count → IsDifferenceOf s count (get_or fates count New) o → AreToldBelow s fates more (count + 1)
told-more s fates told more o count e below own =
    subst (λ (os : List (Option Difference)). AreToldBelow s fates os (count + 1)) (sym e)
    (record {
      each = length-append told (o ∷ []) ∙ ap (λ (n : ℕ). n + 1) below.each;
      told_so = λ n pos h. told-by s fates told o count n (nat_lt n count) refl pos h below own;
    })

-- where none of some nodes passes, each on the list doesn't
any-by : (p : ℕ → Bool) (n : ℕ) (ns : List ℕ) (k : ℕ) (here same : Bool) → p n ≡ here → (n == k) ≡ same → (list_any p ns ≡ false → is_on ns k ≡ true → p k ≡ false)
    → (here || list_any p ns) ≡ false → (same || is_on ns k) ≡ true → p k ≡ false
any-by p n ns k true same e f rest none on = absurd (true≢false none)
any-by p n ns k false true e f rest none on = ap p (sym (eq_from n k f)) ∙ e
any-by p n ns k false false e f rest none on = rest none on

none-passes : (p : ℕ → Bool) (ns : List ℕ) (k : ℕ) → list_any p ns ≡ false → is_on ns k ≡ true → p k ≡ false
none-passes p [] k none on = absurd (true≢false (sym on))
none-passes p (n ∷ ns) k none on = any-by p n ns k (p n) (n == k) refl refl (none-passes p ns k) none on

-- the root is on no path
some-apart : (n : ℕ) → 0 < n → (n == 0) ≡ false
some-apart n h = grind (arith, nat_tests)

root-off : (tree : List Row) → IsTree tree → (n : ℕ) → is_on (path tree n) 0 ≡ false
root-off tree u =
    along tree u.below (λ n. is_on (path tree n) 0 ≡ false)
    (ap (λ (ns : List ℕ). is_on ns 0) (path-root tree))
    (λ n pos up. ap (λ (ns : List ℕ). is_on ns 0) (path-step tree u.below n pos) ∙ ap (λ (b : Bool). b || is_on (path tree (parent tree n)) 0) (some-apart n pos) ∙ up)

on-path : (tree : List Row) → IsTree tree → (n k : ℕ) → is_on (path tree n) k ≡ true → 0 < k
on-path tree u n zero on = absurd (true≢false (sym on ∙ root-off tree u n))
on-path tree u n (suc k) on = omega arith

told-nothing : (d : Difference) → tells_apart (Some d) ≡ false → is_nothing d ≡ true
told-nothing d e = turned (is_nothing d) e
  where
    turned : (b : Bool) → not b ≡ false → b ≡ true
    turned true f = refl
    turned false f = absurd (true≢false f)

module _ (s : Suites) (t : IsTree (tree_of s.old)) (u : IsTree (tree_of s.new)) (fates : List Fate) (told : List (Option Difference))
    (are : AreFates s fates) (differ : AreDifferences s fates told) where
  -- a node of which nothing is told agrees with its namesake on what it has itself
  agrees-by : (k : ℕ) → 0 < k → k < length (tree_of s.new) → (f : Fate) (o : Option Difference) → IsFate s k f → IsDifferenceOf s k f o → tells_apart o ≡ false → AgreesItself s k
  agrees-by k pos inside (Same m) o fate is none =
      let node : IsNode (tree_of s.old) m = namesake-node (tree_of s.old) (tree_of s.new) u k m pos fate.0.is in
      own-only s t u k m fate.0.is (agree-own s.old s.new t u s.before s.after m k node.above node.within pos inside fate.1)
  agrees-by k pos inside (Changed m) None fate is none = absurd is
  agrees-by k pos inside (Changed m) (Some d) fate is none = own-only s t u k m fate.0.is ((nothing-differs s.before s.after _ _ d is).0 (told-nothing d none))
  agrees-by k pos inside New o fate is none = λ m e. let wrong : None ≡ Some m = sym fate ∙ e in absurd (cc)

  agrees-at : (n : ℕ) → n < length (tree_of s.new) → list_any (tells told) (path (tree_of s.new) n) ≡ false → (k : ℕ) → is_on (path (tree_of s.new) n) k ≡ true → AgreesItself s k
  agrees-at n inside none k on =
      let pos : 0 < k = on-path (tree_of s.new) u n k on in
      let low = under-le (tree_of s.new) u.below k n on in
      let within : k < length (tree_of s.new) = omega arith in
      agrees-by k pos within (get_or fates k New) (get_or told k None) (are k within) (differ k pos within) (none-passes (tells told) (path (tree_of s.new) n) k none on)

  reason-by : (n m : ℕ) (b : Bool) → list_any (tells told) (path (tree_of s.new) n) ≡ b → n < length (tree_of s.new) → IsFate s n (Changed m) → b ≡ true
  reason-by n m true e inside fate = refl
  reason-by n m false e inside fate = absurd (fate.1 ((all-tell s t u n inside m fate.0.is).agree (agrees-at n inside e)))

  pub has-reason : (n m : ℕ) → n < length (tree_of s.new) → get_or fates n New ≡ Changed m → list_any (tells told) (path (tree_of s.new) n) ≡ true
  has-reason n m inside e = reason-by n m (list_any (tells told) (path (tree_of s.new) n)) refl inside (subst (IsFate s n) e (are n inside))
