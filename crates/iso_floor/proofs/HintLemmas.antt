-- Where no lock of a node is excluded, no held node is in its way.
use Rattle.std.proofs.Common.{◌≡◌, ℕ, zero, suc, ◌+◌, ◌<◌, List, [], ◌∷◌, length, get_or, Some, None, Bool, true, false, ◌||◌, ◌&&◌, ◌==◌, not, cond, is_some, ap, ap₂, sym, subst, ◌∙◌, arith, refl}
use Rattle.std.specs.List.{AllByRecursion, list_any}
use Rattle.std.specs.Option.{option_or}
use Rattle.iso_floor.specs.KeyMarks.{is_excluded}
use Rattle.iso_model.specs.declared.access.Access.{Access}
use Rattle.iso_model.specs.declared.access.Access.TheVariants.{Read, Write}
use Rattle.iso_plan.proofs.HeldLemmas.{excluded-is}
use Rattle.iso_plan.proofs.LeadLemmas.{leads-excluded, leads-known}
use Rattle.iso_plan.proofs.PathLemmas.{eq_same}
use Rattle.iso_plan.specs.Conflicts.{is_in_the_way, lowest, lowest_in_the_way}
use Rattle.iso_plan.specs.HeldNodes.{AreCounted, AreLeadsCounted, any_excluded, count, counted, excluded, is_access, is_held, takers, takes_in, use_of}
use Rattle.iso_plan.specs.KeyGroups.{lead_locks}
use Rattle.iso_plan.specs.KeyTable.{keys}
use Rattle.iso_plan.specs.Locks.{conflict, is_write, locks}
use Rattle.iso_plan.specs.Tree.{Row}
use Rattle.iso_plan.specs.declared.held_nodes.KeyUse.{KeyUse}
use Rattle.iso_plan.specs.declared.lock.Lock.{Lock}

-- the list of the first n values of a function
abbrev table : {A : Type 0} → (ℕ → A) → ℕ → List A
table f zero = []
table f (suc n) = f 0 ∷ table (λ m. f (suc m)) n

long : {A : Type 0} (f : ℕ → A) (n : ℕ) → length (table f n) ≡ n
long f zero = refl
long f (suc n) = ap suc (long (λ m. f (suc m)) n)

at : {A : Type 0} (f : ℕ → A) (n m : ℕ) (d : A) → m < n → get_or (table f n) m d ≡ f m
at f zero m d h = absurd (omega (arith, h))
at f (suc n) zero d h = refl
at f (suc n) (suc m) d h = at (λ k. f (suc k)) n m d (omega arith)

pub same-lowest : (p q : ℕ → Bool) (n : ℕ) → ((m : ℕ) → m < n → p m ≡ q m) → lowest p n ≡ lowest q n
same-lowest p q zero f = refl
same-lowest p q (suc n) f = ap₂ option_or (same-lowest p q n (λ m h. f m (omega arith))) (ap (λ (b : Bool). cond b (Some n) None) (f n (omega arith)))

pub same-count : (p q : ℕ → Bool) (n : ℕ) → ((m : ℕ) → m < n → p m ≡ q m) → count p n ≡ count q n
same-count p q zero f = refl
same-count p q (suc n) f = ap₂ (λ (x : ℕ) (b : Bool). x + cond b 1 0) (same-count p q n (λ m h. f m (omega arith))) (f n (omega arith))

-- each of some locks takes its key so
itself : (x y : Bool) → x ≡ true → (x || y) ≡ true
itself true y e = refl
itself false y e = absurd (cc)

later : (x y : Bool) → y ≡ true → (x || y) ≡ true
later true y e = refl
later false y e = e

own-access : (a : Access) → is_access a a ≡ true
own-access Read = refl
own-access Write = refl

pub takes-at : (ls : List Lock) (i : ℕ) (d : Lock) → i < length ls → takes_in (get_or ls i d).access (get_or ls i d).key ls ≡ true
takes-at [] i d h = absurd (omega (arith, h))
takes-at (l ∷ ls) zero d h = itself (l.key == l.key && is_access l.access l.access) (takes_in l.access l.key ls) (ap₂ (λ (x y : Bool). x && y) (eq_same l.key) (own-access l.access))
takes-at (l ∷ ls) (suc i) d h =
    later (l.key == (get_or ls i d).key && is_access (get_or ls i d).access l.access) (takes_in (get_or ls i d).access (get_or ls i d).key ls) (takes-at ls i d (omega arith))

module _ (tree : List Row) (held : List Bool) where
  -- the same nodes, in a list of the tree's length
  abbrev nodes : List Bool
  nodes = table (is_held held) (length tree)

  held-at : (m : ℕ) → m < length tree → is_held nodes m ≡ is_held held m
  held-at m h = at (is_held held) (length tree) m false h

  abbrev use-at : ℕ → KeyUse
  use-at k = record { reading = takers tree nodes Read k; writing = takers tree nodes Write k }

  abbrev uses : List KeyUse
  uses = table use-at (length (keys tree))

  counts : (a : Access) (k : ℕ) → counted a (use-at k) ≡ takers tree nodes a k
  counts Read k = refl
  counts Write k = refl

  abbrev unused : KeyUse
  unused = record { reading = 0; writing = 0 }

  are-counted : AreCounted tree nodes uses
  are-counted =
      record {
        nodes = long (is_held held) (length tree);
        table = long use-at (length (keys tree));
        counts = λ a k h.
            ap (counted a) (at use-at (length (keys tree)) k unused (subst (λ (x : ℕ). k < x) (long use-at (length (keys tree))) h)) ∙ counts a k;
      }

  takers-same : (a : Access) (k : ℕ) → takers tree nodes a k ≡ takers tree held a k
  takers-same a k = same-count (λ m. is_held nodes m && takes_in a k (locks tree m)) (λ m. is_held held m && takes_in a k (locks tree m)) (length tree)
      (λ m h. ap (λ (b : Bool). b && takes_in a k (locks tree m)) (held-at m h))

  excluded-same : (l : Lock) → l.key < length (keys tree) → excluded (use_of uses l.key) l ≡ is_excluded tree held l
  excluded-same l h =
      ap (λ (u : KeyUse). excluded u l) (at use-at (length (keys tree)) l.key unused h)
      ∙ ap₂ (λ (w r : ℕ). not (w == 0) || (is_write l && not (r == 0))) (takers-same Write l.key) (takers-same Read l.key)

  any-same : (ls : List Lock) → AllByRecursion (λ (l : Lock). l.key < length (keys tree)) ls → any_excluded uses ls ≡ list_any (is_excluded tree held) ls
  any-same [] known = refl
  any-same (l ∷ ls) known = ap₂ (λ (a b : Bool). a || b) (excluded-same l known.0) (any-same ls known.1)

  pub some-excluded : (n : ℕ) → AllByRecursion (λ (l : Lock). l.key < length (keys tree)) (locks tree n)
      → is_some (lowest_in_the_way tree (is_held held) n) ≡ list_any (is_excluded tree held) (locks tree n)
  some-excluded n known =
      ap is_some (same-lowest (is_in_the_way tree (is_held held) n) (is_in_the_way tree (is_held nodes) n) (length tree) (λ m h. ap (λ (b : Bool). b && conflict tree m n) (sym (held-at m h))))
      ∙ sym (excluded-is tree nodes uses n are-counted (subst (λ (x : ℕ). AllByRecursion (λ (l : Lock). l.key < x) (locks tree n)) (sym (long use-at (length (keys tree)))) known))
      ∙ any-same (locks tree n) known

  leads-counted : AreLeadsCounted tree nodes uses
  leads-counted = record { nodes = are-counted.nodes; table = are-counted.table; counts = λ a k h l. are-counted.counts a k h }

  -- nor where no lead lock is
  pub none-excluded : (n : ℕ) → n < length tree → list_any (is_excluded tree held) (lead_locks tree n) ≡ false → is_some (lowest_in_the_way tree (is_held held) n) ≡ false
  none-excluded n h e =
      ap is_some (same-lowest (is_in_the_way tree (is_held held) n) (is_in_the_way tree (is_held nodes) n) (length tree) (λ m h. ap (λ (b : Bool). b && conflict tree m n) (sym (held-at m h))))
      ∙ sym (leads-excluded tree nodes uses n h leads-counted)
      ∙ any-same (lead_locks tree n) (leads-known tree n)
      ∙ e
