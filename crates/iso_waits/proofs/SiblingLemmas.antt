-- The last sibling before a node.
use Rattle.std.proofs.Common.{◌≡◌, ℕ, zero, suc, ◌<◌, ◌≤◌, List, Option, Some, None, Bool, true, false, ◌==◌, ◌∙◌, refl, arith}
use Rattle.iso_plan.proofs.PathLemmas.{eq_not}
use Rattle.iso_plan.specs.Paths.{parent, parent_of}
use Rattle.iso_plan.specs.Tree.{Row}
use Rattle.iso_settings.specs.declared.settings.Settings.{Settings}
use Rattle.iso_times.specs.declared.times.BodyTime.{BodyTime}
use Rattle.iso_waits.specs.Waits.{highest, is_sibling}

pub highest-found : (test : ℕ → Bool) (n : ℕ) → test n ≡ true → highest test (suc n) ≡ Some n
highest-found test n e = rw e refl

pub highest-passed : (test : ℕ → Bool) (n : ℕ) → test n ≡ false → highest test (suc n) ≡ highest test n
highest-passed test n e = rw e refl

pub highest-none : (test : ℕ → Bool) (n : ℕ) → ((m : ℕ) → m < n → test m ≡ false) → highest test n ≡ None
highest-none test zero none = refl
highest-none test (suc n) none = highest-passed test n (none n (omega arith)) ∙ highest-none test n (λ m h. none m (omega arith))

pub parent-some : (tree : List Row) (n p : ℕ) → 0 < n → parent_of tree n ≡ Some p → parent tree n ≡ p
parent-some tree zero p h e = absurd (omega arith)
parent-some tree (suc n) p h e = cc

-- a sibling has a higher number than the class
pub no-sibling : (tree : List Row) (settings : Settings) (bodies : List (Option BodyTime)) (n m : ℕ)
    → ((k : ℕ) → 0 < k → parent tree k < k) → m ≤ parent tree n → is_sibling tree settings bodies n m ≡ false
no-sibling tree settings bodies n zero below h = refl
no-sibling tree settings bodies n (suc k) below h =
    let up = below (suc k) (omega arith) in
    let apart : (parent tree (suc k) == parent tree n) ≡ false = eq_not (parent tree (suc k)) (parent tree n) (λ same. omega (arith, up)) in
    rw apart refl
