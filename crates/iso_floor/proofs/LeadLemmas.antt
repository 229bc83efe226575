-- Which leads are among a node's locks.
use Rattle.std.proofs.Common.{◌≡◌, ℕ, List, [], ◌∷◌, filter, Bool, true, false, ◌||◌, ◌==◌, cond, ap, sym, ◌∙◌, inl, inr, refl}
use Rattle.std.proofs.lemmas.Bool.{cases_eq}
use Rattle.std.specs.List.{list_any}
use Rattle.iso_plan.proofs.PathLemmas.{eq_not}
use Rattle.iso_plan.specs.KeyGroups.{is_lead, lead_locks}
use Rattle.iso_plan.specs.Locks.{locks}
use Rattle.iso_plan.specs.Tree.{Row}
use Rattle.iso_plan.specs.declared.lock.Lock.{Lock}

-- of some locks those whose key passes
module _ (p : ℕ → Bool) where
  abbrev kept : List Lock → List Lock
  kept ls = filter (λ (l : Lock). p l.key) ls

  apart : (k : ℕ) (l : Lock) → p k ≡ true → p l.key ≡ false → (k == l.key) ≡ false
  apart k l h e = elim (cases_eq k l.key) [ inl same ↦ let wrong : true ≡ false = sym h ∙ ap p same ∙ e in absurd (cc) | inr other ↦ eq_not k l.key other ]

  on-one : (k : ℕ) (l : Lock) (ls : List Lock) (b : Bool) → p l.key ≡ b → p k ≡ true → list_any (λ (m : Lock). k == m.key) (kept ls) ≡ list_any (λ (m : Lock). k == m.key) ls
      → list_any (λ (m : Lock). k == m.key) (cond b (l ∷ kept ls) (kept ls)) ≡ ((k == l.key) || list_any (λ (m : Lock). k == m.key) ls)
  on-one k l ls true e h ih = ap (λ (x : Bool). (k == l.key) || x) ih
  on-one k l ls false e h ih = ih ∙ sym (ap (λ (x : Bool). x || list_any (λ (m : Lock). k == m.key) ls) (apart k l h e))

  -- a key that passes is locked where it is among those
  on-kept : (k : ℕ) (ls : List Lock) → p k ≡ true → list_any (λ (m : Lock). k == m.key) (kept ls) ≡ list_any (λ (m : Lock). k == m.key) ls
  on-kept k [] h = refl
  on-kept k (l ∷ ls) h = on-one k l ls (p l.key) refl h (on-kept k ls h)

-- a lead is among a node's lead locks where it is among all its locks
pub any-on-lead : (tree : List Row) (n k : ℕ) → is_lead tree k ≡ true → list_any (λ (l : Lock). k == l.key) (lead_locks tree n) ≡ list_any (λ (l : Lock). k == l.key) (locks tree n)
any-on-lead tree n k h = on-kept (is_lead tree) k (locks tree n) h
