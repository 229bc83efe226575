-- Which nodes are held in two books, by what their vaults have lent.
use Rattle.std.proofs.Common.{◌≡◌, ◌≢◌, ◌<◌, ℕ, Bool, false, true, List, length, ap, sym, ◌∙◌, subst}
use Rattle.std.proofs.lemmas.List.{get_or-set_other}
use Rattle.iso_book.specs.Books.{BookView, state_in}
use Rattle.iso_book.specs.Holdings.{HoldAfter, HoldAlike, HoldSame}
use Rattle.iso_book.specs.Leaves.{home_after}
use Rattle.iso_isolation.specs.States.{is_held}
use Rattle.iso_lifecycle.specs.declared.kind.BodyKind.{BodyKind}
use Rattle.iso_lifecycle.specs.declared.kind.BodyKind.TheVariants.{AfterAll, BeforeAll, Test}
use Rattle.iso_locks.specs.Trays.{is_lent}
use Rattle.iso_locks.specs.Vaults.{VaultView, lending}

pub hold-alike : (b c : BookView) (lent lent' : List Bool) (n : ℕ) → ((m : ℕ) → m ≢ n → is_lent lent' m ≡ is_lent lent m) → b.plan ≡ c.plan
    → ((m : ℕ) → 0 < m → m < length b.plan.rows → is_lent lent m ≡ is_held ((state_in b).nodes.status m))
    → ((m : ℕ) → 0 < m → m < length c.plan.rows → is_lent lent' m ≡ is_held ((state_in c).nodes.status m)) → HoldAlike n b c
hold-alike b c lent lent' n same plans old new =
    λ m above below apart.
    sym (new m above (subst (λ p. m < length p.rows) plans below)) ∙ same m apart ∙ old m above below

pub hold-same : (b c : BookView) (lent lent' : List Bool) → ((m : ℕ) → is_lent lent' m ≡ is_lent lent m) → b.plan ≡ c.plan
    → ((m : ℕ) → 0 < m → m < length b.plan.rows → is_lent lent m ≡ is_held ((state_in b).nodes.status m))
    → ((m : ℕ) → 0 < m → m < length c.plan.rows → is_lent lent' m ≡ is_held ((state_in c).nodes.status m)) → HoldSame b c
hold-same b c lent lent' same plans old new =
    λ m above below. sym (new m above (subst (λ p. m < length p.rows) plans below)) ∙ same m ∙ old m above below

-- the vault when a node was lent
pub lent-apart : (n : ℕ) (v : VaultView) (m : ℕ) → m ≢ n → is_lent (lending n v).lent m ≡ is_lent v.lent m
lent-apart n v m apart = get_or-set_other v.lent n m true false apart

-- the books when a body was left
pub hold-after : (k : BodyKind) (n : ℕ) (v : VaultView) (b c : BookView) (lent' : List Bool) → lent' ≡ (home_after k n v).lent → b.plan ≡ c.plan
    → ((m : ℕ) → 0 < m → m < length b.plan.rows → is_lent v.lent m ≡ is_held ((state_in b).nodes.status m))
    → ((m : ℕ) → 0 < m → m < length c.plan.rows → is_lent lent' m ≡ is_held ((state_in c).nodes.status m)) → HoldAfter k n b c
hold-after BeforeAll n v b c lent' e plans old new = hold-same b c v.lent lent' (λ m. ap (λ (l : List Bool). is_lent l m) e) plans old new
hold-after Test n v b c lent' e plans old new =
    hold-alike b c v.lent lent' n (λ m apart. ap (λ (l : List Bool). is_lent l m) e ∙ get_or-set_other v.lent n m false false apart) plans old new
hold-after AfterAll n v b c lent' e plans old new =
    hold-alike b c v.lent lent' n (λ m apart. ap (λ (l : List Bool). is_lent l m) e ∙ get_or-set_other v.lent n m false false apart) plans old new
