-- A node agrees with its namesake where each node on its path does on what it has itself.
use Rattle.std.proofs.Common.{◌≡◌, ℕ, ◌<◌, ◌==◌, ◌||◌, List, length, Bool, true, false, Option, Some, None, refl, sym, ap, ◌∙◌, subst, arith, true≢false}
use Rattle.iso_affected.proofs.AgreeSteps.{agree-down, agree-own, agree-up}
use Rattle.iso_affected.proofs.FateLemmas.{roots-agree}
use Rattle.iso_affected.proofs.NamesakeLemmas.{child-of, namesake-root, namesake-step}
use Rattle.iso_affected.specs.Agreeing.{NodesAgree, OwnAgree}
use Rattle.iso_affected.specs.Fates.{Suites, in_new, in_old}
use Rattle.iso_affected.specs.Namesakes.{child_named, namesake}
use Rattle.iso_affected.specs.Reasons.{AgreesItself, AllAgree}
use Rattle.iso_plan.proofs.PathLemmas.{along, eq_from, eq_same, path-root, path-step}
use Rattle.iso_plan.specs.Children.{IsChild}
use Rattle.iso_plan.specs.Paths.{IsTree, is_on, parent, path, row_at}
use Rattle.iso_plan.specs.RowView.{tree_of}
use Rattle.iso_suites.specs.PlanSuites.{head_of}

module _ (s : Suites) (t : IsTree (tree_of s.old)) (u : IsTree (tree_of s.new)) where
  abbrev other : ℕ → ℕ
  other n = parent (tree_of s.new) n

  on-step : (n k : ℕ) → 0 < n → is_on (path (tree_of s.new) n) k ≡ (n == k || is_on (path (tree_of s.new) (other n)) k)
  on-step n k pos = rw (path-step (tree_of s.new) u.below n pos) refl

  on-by : (n k : ℕ) (b : Bool) → (n == k) ≡ b → AgreesItself s n → AllAgree s (other n) → (b || is_on (path (tree_of s.new) (other n)) k) ≡ true → AgreesItself s k
  on-by n k true e here up on = subst (AgreesItself s) (eq_from n k e) here
  on-by n k false e here up on = up k on

  or-right : (a b : Bool) → b ≡ true → (a || b) ≡ true
  or-right true b e = refl
  or-right false b e = e

  -- what all on a node's path agree on, the node and its class do
  all-own : (n : ℕ) → 0 < n → AllAgree s n → AgreesItself s n
  all-own n pos all = all n (on-step n n pos ∙ ap (λ (b : Bool). b || is_on (path (tree_of s.new) (other n)) n) (eq_same n))

  all-up : (n : ℕ) → 0 < n → AllAgree s n → AllAgree s (other n)
  all-up n pos all k on = all k (on-step n k pos ∙ or-right (n == k) (is_on (path (tree_of s.new) (other n)) k) on)

  all-down : (n : ℕ) → 0 < n → AgreesItself s n → AllAgree s (other n) → AllAgree s n
  all-down n pos here up k on = on-by n k (n == k) refl here up (sym (on-step n k pos) ∙ on)

  pub record Tells (n m : ℕ) : Type 0 where
    pub agree : AllAgree s n → NodesAgree (in_old s m) (in_new s n)
    pub all : NodesAgree (in_old s m) (in_new s n) → AllAgree s n

  abbrev AllTell : ℕ → Type 0
  AllTell n = n < length (tree_of s.new) → (m : ℕ) → namesake (tree_of s.old) (tree_of s.new) n ≡ Some m → Tells n m

  none-on : (k : ℕ) → is_on (path (tree_of s.new) 0) k ≡ true → ⊥
  none-on k on = true≢false (sym on ∙ ap (λ (ns : List ℕ). is_on ns k) (path-root (tree_of s.new)))

  roots-tell : AllTell 0
  roots-tell inside m e =
      let whole : Some 0 ≡ Some m = sym (namesake-root (tree_of s.old) (tree_of s.new)) ∙ e in
      let same : 0 ≡ m = cc in
      record {
        agree = λ all. subst (λ (k : ℕ). NodesAgree (in_old s k) (in_new s 0)) same (roots-agree s t u);
        all = λ agree k on. absurd (none-on k on);
      }

  pub own-only : (n m : ℕ) → namesake (tree_of s.old) (tree_of s.new) n ≡ Some m
      → OwnAgree s.before s.after (head_of (row_at (tree_of s.old) m).kind) (head_of (row_at (tree_of s.new) n).kind) → AgreesItself s n
  own-only n m e own j h =
      let whole : Some m ≡ Some j = sym e ∙ h in
      let same : m ≡ j = cc in
      subst (λ (k : ℕ). OwnAgree s.before s.after (head_of (row_at (tree_of s.old) k).kind) (head_of (row_at (tree_of s.new) n).kind)) same own

  tell-by : (n m : ℕ) → 0 < n → n < length (tree_of s.new) → namesake (tree_of s.old) (tree_of s.new) n ≡ Some m → (class : ℕ)
      → IsChild (tree_of s.old) class (length (tree_of s.old)) m → Tells (other n) class → Tells n m
  tell-by n m pos inside e class child up =
      record {
        agree = λ all. agree-down s.old s.new t u s.before s.after m n child.positive child.within pos inside (all-own n pos all m e)
            (subst (λ (p : ℕ). NodesAgree (in_old s p) (in_new s (other n))) (sym child.parent_is) (up.agree (all-up n pos all)));
        all = λ whole. all-down n pos (own-only n m e (agree-own s.old s.new t u s.before s.after m n child.positive child.within pos inside whole))
            (up.all (subst (λ (p : ℕ). NodesAgree (in_old s p) (in_new s (other n))) child.parent_is (agree-up s.old s.new t u s.before s.after m n child.positive child.within pos inside whole)));
      }

  tell-at : (n m : ℕ) → 0 < n → n < length (tree_of s.new) → AllTell (other n) → namesake (tree_of s.old) (tree_of s.new) n ≡ Some m
      → (o : Option ℕ) → namesake (tree_of s.old) (tree_of s.new) (other n) ≡ o → child_named (tree_of s.old) (row_at (tree_of s.new) n).name o ≡ Some m → Tells n m
  tell-at n m pos inside up e None o h = let wrong : None ≡ Some m = h in absurd (cc)
  tell-at n m pos inside up e (Some class) o h =
      let below : other n < n = u.below n pos in
      tell-by n m pos inside e class (child-of (tree_of s.old) class (row_at (tree_of s.new) n).name m h) (up (omega arith) class o)

  pub all-tell : (n : ℕ) → AllTell n
  all-tell =
      along (tree_of s.new) u.below AllTell roots-tell
      (λ n pos up inside m e. tell-at n m pos inside up e (namesake (tree_of s.old) (tree_of s.new) (other n)) refl (sym (namesake-step (tree_of s.old) (tree_of s.new) u n pos) ∙ e))
