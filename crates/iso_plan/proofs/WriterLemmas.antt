-- What a node's lead locks tell of all its locks.
use Rattle.std.proofs.Common.{◌≡◌, ℕ, ◌<◌, List, [], ◌∷◌, length, Some, Bool, true, false, ◌||◌, ◌&&◌, ◌==◌, ap₂, sym, ◌∙◌, refl}
use Rattle.std.specs.List.{list_any}
use Rattle.iso_model.specs.Rights.{is_writable}
use Rattle.iso_model.specs.declared.access.Access.{Access}
use Rattle.iso_model.specs.declared.access.Access.TheVariants.{Read, Write}
use Rattle.iso_plan.proofs.GroupLemmas.{filter-passed, filter-takes}
use Rattle.iso_plan.proofs.LeadLemmas.{lead-leads, lead-takes}
use Rattle.iso_plan.proofs.PathLemmas.{eq_same}
use Rattle.iso_plan.specs.HeldNodes.{is_access, takes_in}
use Rattle.iso_plan.specs.KeyGroups.{is_lead, lead, lead_locks}
use Rattle.iso_plan.specs.Locks.{is_write, locks, takes_write}
use Rattle.iso_plan.specs.Tree.{Row}
use Rattle.iso_plan.specs.declared.lock.Lock.{Lock}

or-first : (x y : Bool) → x ≡ true → (x || y) ≡ true
or-first true y e = refl
or-first false y e = absurd (cc)

or-second : (x y : Bool) → y ≡ true → (x || y) ≡ true
or-second true y e = refl
or-second false y e = e

both-hold : (x y : Bool) → (x && y) ≡ true → (x ≡ true) × (y ≡ true)
both-hold true true e = (refl, refl)
both-hold true false e = absurd (cc)
both-hold false y e = absurd (cc)

-- what a node's lead locks take is a lead, and the node takes it
pub lead-taken : (tree : List Row) (n : ℕ) (a : Access) (k : ℕ) → takes_in a k (lead_locks tree n) ≡ true → (is_lead tree k ≡ true) × (takes_in a k (locks tree n) ≡ true)
lead-taken tree n a k t =
    let own : is_lead tree k ≡ true = filter-passed (is_lead tree) a k (locks tree n) t in
    (own, sym (filter-takes (is_lead tree) a k (locks tree n) own) ∙ t)

same-by : (x y : Bool) → (x ≡ true → y ≡ true) → (y ≡ true → x ≡ true) → x ≡ y
same-by true y f g = sym (f refl)
same-by false true f g = g refl
same-by false false f g = refl

-- a lock for READ_WRITE takes its key so
record Written (ls : List Lock) : Type 0 where
  key : ℕ
  taken : takes_in Write key ls ≡ true

written : (a : Access) → is_writable (Some a) ≡ true → is_access Write a ≡ true
written Read e = absurd (cc)
written Write e = refl

writes : (a : Access) → is_access Write a ≡ true → is_writable (Some a) ≡ true
writes Read e = absurd (cc)
writes Write e = refl

write-here : (l : Lock) (ls : List Lock) → is_write l ≡ true → takes_in Write l.key (l ∷ ls) ≡ true
write-here l ls e = or-first (l.key == l.key && is_access Write l.access) (takes_in Write l.key ls) (ap₂ (λ (x y : Bool). x && y) (eq_same l.key) (written l.access e))

some-written : (ls : List Lock) → list_any is_write ls ≡ true → Written ls
some-written [] e = absurd (cc)
some-written (l ∷ ls) e =
    elim (is_write l) as (λ b. is_write l ≡ b → (b || list_any is_write ls) ≡ true → Written (l ∷ ls)) [
      | true ↦ λ own rest. record { key = l.key; taken = write-here l ls own }
      | false ↦ λ own rest. let w = some-written ls rest in record { key = w.key; taken = or-second (l.key == w.key && is_access Write l.access) (takes_in Write w.key ls) w.taken }
    ] refl e

written-some : (ls : List Lock) (k : ℕ) → takes_in Write k ls ≡ true → list_any is_write ls ≡ true
written-some [] k t = absurd (cc)
written-some (l ∷ ls) k t =
    elim (l.key == k && is_access Write l.access) as (λ b. (l.key == k && is_access Write l.access) ≡ b → (b || takes_in Write k ls) ≡ true → (is_write l || list_any is_write ls) ≡ true) [
      | true ↦ λ here rest. or-first (is_write l) (list_any is_write ls) (writes l.access (both-hold (l.key == k) (is_access Write l.access) here).1)
      | false ↦ λ here rest. or-second (is_write l) (list_any is_write ls) (written-some ls k rest)
    ] refl t

-- a node takes a key for READ_WRITE where one of its lead locks does
pub lead-writes : (tree : List Row) (n : ℕ) → n < length tree → list_any is_write (lead_locks tree n) ≡ takes_write tree n
lead-writes tree n h =
    same-by (list_any is_write (lead_locks tree n)) (takes_write tree n)
    (λ e. let w = some-written (lead_locks tree n) e in written-some (locks tree n) w.key (lead-taken tree n Write w.key w.taken).1)
    (λ e.
    let w = some-written (locks tree n) e in
    written-some (lead_locks tree n) (lead tree w.key)
    (filter-takes (is_lead tree) Write (lead tree w.key) (locks tree n) (lead-leads tree w.key) ∙ sym (lead-takes tree n w.key Write h) ∙ w.taken))
