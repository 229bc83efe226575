-- What is counted of the held nodes by the leads of keys alone: it tells how they take every key.
use Rattle.std.proofs.Common.{◌≡◌, ℕ, zero, suc, ◌+◌, ◌-◌, ◌^◌, ◌<◌, ◌≤◌, List, [], ◌∷◌, ◌++◌, length, filter, map, replicate, set, MatchOption, None, Option, Some, Bool, true, false, ◌||◌, ◌&&◌, ◌==◌, not, cond, is_some, ap, ap₂, sym, subst, ◌∙◌, inl, inr, arith, refl}
use Rattle.std.proofs.lemmas.Bool.{cases_eq}
use Rattle.std.proofs.lemmas.List.{length-replicate, length-set, map_push}
use Rattle.std.proofs.lemmas.List.Elements.{recursion_from_All}
use Rattle.std.proofs.lemmas.List.Folds.{list_all-append}
use Rattle.std.specs.List.{AllByRecursion, list_any}
use Rattle.std.specs.Option.{option_map}
use Rattle.std.specs.declared.alloc.Global.{Global}
use Rattle.std.specs.declared.vec.Vec.{Vec}
use Rattle.iso_model.specs.Rights.{is_writable}
use Rattle.iso_model.specs.declared.access.Access.{Access}
use Rattle.iso_model.specs.declared.access.Access.TheVariants.{Read, Write}
use Rattle.iso_plan.proofs.ColumnLemmas.{column-read}
use Rattle.iso_plan.proofs.GroupLemmas.{filter-each, filter-passed, filter-rise, filter-takes, lead-is, lead-lead, takes-alike}
use Rattle.iso_plan.proofs.HeldLemmas.{added-at, added-length, can-add, can-remove, count-none, count-same, count-small, excluded-out, kept-out, or-true, removed-at, removed-length, takers-less, takers-more}
use Rattle.iso_plan.proofs.LockLemmas.{locks-known}
use Rattle.iso_plan.proofs.MergeLemmas.{locks-rise}
use Rattle.iso_plan.proofs.PathLemmas.{eq_from, eq_same}
use Rattle.iso_plan.proofs.SplitLemmas.{column-same}
use Rattle.iso_plan.specs.Conflicts.{lowest_in_the_way}
use Rattle.iso_plan.specs.HeldNodes.{AreLeadsCounted, CanAdd, CanRemove, added, any_excluded, counted, is_access, is_held, removed, takers, takes_in, unused, use_of}
use Rattle.iso_plan.specs.KeyGroups.{AreGroups, AreOrdered, all_alike, all_locks, is_lead, lead, lead_locks, on_own, take_alike}
use Rattle.iso_plan.specs.KeyTable.{keys}
use Rattle.iso_plan.specs.Locks.{locks}
use Rattle.iso_plan.specs.Paths.{column}
use Rattle.iso_plan.specs.Rising.{Rise}
use Rattle.iso_plan.specs.Tree.{Row}
use Rattle.iso_plan.specs.declared.held_nodes.KeyUse.{KeyUse}
use Rattle.iso_plan.specs.declared.key_groups.Groups.{Groups}
use Rattle.iso_plan.specs.declared.lock.Lock.{Lock}

first_of : (a b : Bool) → (a && b) ≡ true → a ≡ true
first_of true b h = refl
first_of false b h = h

second_of : (a b : Bool) → (a && b) ≡ true → b ≡ true
second_of true b h = h
second_of false b h = absurd (cc)

-- what all of a column take alike each of it does
column-alike : (f : ℕ → List Lock) (n m i j : ℕ) → m < n → all_alike (column f n) i j ≡ true → take_alike (f m) i j ≡ true
column-alike f zero m i j h e = absurd (omega arith)
column-alike f (suc n) m i j h e =
    let parts : (all_alike (column f n) i j && (take_alike (f n) i j && true)) ≡ true = sym (list_all-append (λ (ls : List Lock). take_alike ls i j) (column f n) (f n ∷ [])) ∙ e in
    elim (cases_eq m n) [
      | inl same ↦ ap (λ (x : ℕ). take_alike (f x) i j) same ∙ first_of (take_alike (f n) i j) true (second_of (all_alike (column f n) i j) (take_alike (f n) i j && true) parts)
      | inr other ↦ column-alike f n m i j (omega arith) (first_of (all_alike (column f n) i j) (take_alike (f n) i j && true) parts)
    ]

-- each node takes a key as it takes the key's lead
pub lead-takes : (tree : List Row) (m k : ℕ) (a : Access) → m < length tree → takes_in a k (locks tree m) ≡ takes_in a (lead tree k) (locks tree m)
lead-takes tree m k a h =
    takes-alike a k (lead tree k) (locks tree m) (locks-rise tree m) (column-alike (locks tree) (length tree) m k (lead tree k) h (lead-is (all_locks tree) k).like)

-- so as many held nodes take it
pub lead-takers : (tree : List Row) (held : List Bool) (a : Access) (k : ℕ) → takers tree held a k ≡ takers tree held a (lead tree k)
lead-takers tree held a k =
    count-same (λ m. is_held held m && takes_in a k (locks tree m)) (λ m. is_held held m && takes_in a (lead tree k) (locks tree m)) (length tree)
    (λ m h. ap (λ (b : Bool). is_held held m && b) (lead-takes tree m k a h))

pub lead-leads : (tree : List Row) (k : ℕ) → is_lead tree (lead tree k) ≡ true
lead-leads tree k = ap (λ (x : ℕ). x == lead tree k) (lead-lead (all_locks tree) k) ∙ eq_same (lead tree k)

pub lead-le : (tree : List Row) (k : ℕ) → lead tree k ≤ k
lead-le tree k = (lead-is (all_locks tree) k).le

-- lead locks stand in the order of their keys
pub leads-rise : (tree : List Row) (n : ℕ) → Rise (lead_locks tree n)
leads-rise tree n = filter-rise (λ (l : Lock). is_lead tree l.key) (locks tree n) 0 (locks-rise tree n)

-- and their keys are in the table
pub leads-known : (tree : List Row) (n : ℕ) → AllByRecursion (λ (l : Lock). l.key < length (keys tree)) (lead_locks tree n)
leads-known tree n =
    filter-each (λ (l : Lock). is_lead tree l.key) (λ (l : Lock). l.key < length (keys tree)) (locks tree n)
    (recursion_from_All (λ (l : Lock). l.key < length (keys tree)) (locks tree n) (locks-known tree n))

pub known-leads : (tree : List Row) (uses : List KeyUse) (n : ℕ) → length uses ≡ length (keys tree) → AllByRecursion (λ (l : Lock). l.key < length uses) (lead_locks tree n)
known-leads tree uses n e = subst (λ (k : ℕ). AllByRecursion (λ (l : Lock). l.key < k) (lead_locks tree n)) (sym e) (leads-known tree n)

-- a lead is taken where it is among the lead locks
leads-take : (tree : List Row) (a : Access) (k n : ℕ) → is_lead tree k ≡ true → takes_in a k (lead_locks tree n) ≡ takes_in a k (locks tree n)
leads-take tree a k n e = filter-takes (is_lead tree) a k (locks tree n) e

any_one : (p : Lock → Bool) (l : Lock) (ls : List Lock) → p l ≡ true → list_any p (l ∷ ls) ≡ true
any_one p l ls e = ap (λ (b : Bool). b || list_any p ls) e

any_later : (p : Lock → Bool) (l : Lock) (ls : List Lock) → list_any p ls ≡ true → list_any p (l ∷ ls) ≡ true
any_later p l ls e = ap (λ (b : Bool). p l || b) e ∙ or-true (p l)

same_access : (a b : Access) → is_access a b ≡ true → a ≡ b
same_access Read Read e = refl
same_access Read Write e = absurd (cc)
same_access Write Read e = absurd (cc)
same_access Write Write e = refl

module _ (test : Access → ℕ → Bool) where
  abbrev passes : Lock → Bool
  passes l = test l.access l.key

  found_by : (a : Access) (k : ℕ) (l : Lock) (ls : List Lock) (b : Bool) → (l.key == k && is_access a l.access) ≡ b → (takes_in a k ls ≡ true → list_any passes ls ≡ true) → test a k ≡ true
      → (b || takes_in a k ls) ≡ true → list_any passes (l ∷ ls) ≡ true
  found_by a k l ls true e ih t h =
      let key : l.key ≡ k = eq_from l.key k (first_of (l.key == k) (is_access a l.access) e) in
      let access : a ≡ l.access = same_access a l.access (second_of (l.key == k) (is_access a l.access) e) in
      any_one passes l ls (ap₂ test (sym access) key ∙ t)
  found_by a k l ls false e ih t h = any_later passes l ls (ih h)

  -- what is taken and passes is found
  any-taken : (a : Access) (k : ℕ) (ls : List Lock) → takes_in a k ls ≡ true → test a k ≡ true → list_any passes ls ≡ true
  any-taken a k [] h t = absurd (cc)
  any-taken a k (l ∷ ls) h t = found_by a k l ls (l.key == k && is_access a l.access) refl (λ g. any-taken a k ls g t) t h

  any_of : (all ls : List Lock) → AllByRecursion (λ (l : Lock). passes l ≡ true → list_any passes all ≡ true) ls → list_any passes ls ≡ true → list_any passes all ≡ true
  any_of all [] h e = absurd (cc)
  any_of all (l ∷ ls) h e =
      elim (passes l) as (λ b. passes l ≡ b → (b || list_any passes ls) ≡ true → list_any passes all ≡ true) [
        | true ↦ λ own rest. h.0 own
        | false ↦ λ own rest. any_of all ls h.1 rest
      ] refl e

  any-left : (q : Lock → Bool) (ls : List Lock) → list_any passes (filter q ls) ≡ true → list_any passes ls ≡ true
  any-left q [] e = e
  any-left q (l ∷ ls) e =
      elim (q l) as (λ b. list_any passes (cond b (l ∷ filter q ls) (filter q ls)) ≡ true → list_any passes (l ∷ ls) ≡ true) [
        | true ↦ λ h. elim (passes l) as (λ b. (b || list_any passes (filter q ls)) ≡ true → (b || list_any passes ls) ≡ true) [
          | true ↦ λ g. refl
          | false ↦ λ g. any-left q ls g
        ] h
        | false ↦ λ h. any_later passes l ls (any-left q ls h)
      ] e

each-weaker : (P Q : Lock → Type 0) (ls : List Lock) → ((l : Lock) → P l → Q l) → AllByRecursion P ls → AllByRecursion Q ls
each-weaker P Q [] f h = tt
each-weaker P Q (l ∷ ls) f h = (f l h.0, each-weaker P Q ls f h.1)

own-access : (a : Access) → is_access a a ≡ true
own-access Read = refl
own-access Write = refl

-- each of some locks is taken
takes-each : (ls : List Lock) → AllByRecursion (λ (l : Lock). takes_in l.access l.key ls ≡ true) ls
takes-each [] = tt
takes-each (l ∷ ls) = (
  ap₂ (λ (x y : Bool). (x && y) || takes_in l.access l.key ls) (eq_same l.key) (own-access l.access),
  each-weaker (λ (m : Lock). takes_in m.access m.key ls ≡ true) (λ (m : Lock). takes_in m.access m.key (l ∷ ls) ≡ true) ls
      (λ m h. ap (λ (b : Bool). (l.key == m.key && is_access m.access l.access) || b) h ∙ or-true (l.key == m.key && is_access m.access l.access)) (takes-each ls),
)

same_by : (a b : Bool) → (a ≡ true → b ≡ true) → (b ≡ true → a ≡ true) → a ≡ b
same_by true b f g = sym (f refl)
same_by false true f g = g refl
same_by false false f g = refl

-- what passes for a key where it passes for the key's lead passes for a node's locks where it does for its lead locks
any-lead : (tree : List Row) (n : ℕ) (test : Access → ℕ → Bool) → n < length tree → ((a : Access) (k : ℕ) → test a k ≡ test a (lead tree k))
    → list_any (λ (l : Lock). test l.access l.key) (lead_locks tree n) ≡ list_any (λ (l : Lock). test l.access l.key) (locks tree n)
any-lead tree n test h same =
    let all = locks tree n in
    let leads = lead_locks tree n in
    same_by (list_any (λ (l : Lock). test l.access l.key) leads) (list_any (λ (l : Lock). test l.access l.key) all) (any-left test (λ (l : Lock). is_lead tree l.key) all)
    (any_of test leads all
    (each-weaker (λ (l : Lock). takes_in l.access l.key all ≡ true) (λ (l : Lock). test l.access l.key ≡ true → list_any (λ (m : Lock). test m.access m.key) leads ≡ true) all
    (λ l t own. any-taken test l.access (lead tree l.key) leads
    (leads-take tree l.access (lead tree l.key) n (lead-leads tree l.key) ∙ sym (lead-takes tree n l.key l.access h) ∙ t)
    (sym (same l.access l.key) ∙ own)) (takes-each all)))

counts_of : (tree : List Row) (held : List Bool) (uses : List KeyUse) (ls : List Lock) → AreLeadsCounted tree held uses → AllByRecursion (λ (l : Lock). l.key < length uses) ls
    → AllByRecursion (λ (l : Lock). is_lead tree l.key ≡ true) ls → AllByRecursion (λ (l : Lock). (a : Access) → counted a (use_of uses l.key) ≡ takers tree held a l.key) ls
counts_of tree held uses [] c known leads = tt
counts_of tree held uses (l ∷ ls) c known leads = (λ a. c.counts a l.key known.0 leads.0, counts_of tree held uses ls c known.1 leads.1)

are_leads : (tree : List Row) (ls : List Lock) → AllByRecursion (λ (l : Lock). is_lead tree l.key ≡ true) (filter (λ (l : Lock). is_lead tree l.key) ls)
are_leads tree [] = tt
are_leads tree (l ∷ ls) =
    elim (is_lead tree l.key) as (λ b. is_lead tree l.key ≡ b
    → AllByRecursion (λ (m : Lock). is_lead tree m.key ≡ true) (cond b (l ∷ filter (λ (m : Lock). is_lead tree m.key) ls) (filter (λ (m : Lock). is_lead tree m.key) ls))) [
      | true ↦ λ e. (e, are_leads tree ls)
      | false ↦ λ e. are_leads tree ls
    ] refl

-- what is counted excludes a node's lead locks where a held node conflicts with it
pub leads-excluded : (tree : List Row) (held : List Bool) (uses : List KeyUse) (n : ℕ) → n < length tree → AreLeadsCounted tree held uses
    → any_excluded uses (lead_locks tree n) ≡ is_some (lowest_in_the_way tree (is_held held) n)
leads-excluded tree held uses n h c =
    excluded-out tree held uses (lead_locks tree n) (counts_of tree held uses (lead_locks tree n) c (known-leads tree uses n c.table) (are_leads tree (locks tree n)))
    ∙ any-lead tree n (λ a k. not (takers tree held Write k == 0) || (is_writable (Some a) && not (takers tree held Read k == 0))) h
    (λ a k. ap₂ (λ (x y : ℕ). not (x == 0) || (is_writable (Some a) && not (y == 0))) (lead-takers tree held Write k) (lead-takers tree held Read k))
    ∙ kept-out tree held n

-- how many held nodes take a key is counted for its lead
pub takers-counted : (tree : List Row) (held : List Bool) (uses : List KeyUse) (a : Access) (k : ℕ) → k < length (keys tree) → AreLeadsCounted tree held uses
    → counted a (use_of uses (lead tree k)) ≡ takers tree held a k
takers-counted tree held uses a k h c =
    let low = lead-le tree k in
    let table = c.table in
    c.counts a (lead tree k) (omega arith) (lead-leads tree k) ∙ sym (lead-takers tree held a k)

none-held : (n m : ℕ) → is_held (replicate n false) m ≡ false
none-held zero m = refl
none-held (suc n) zero = refl
none-held (suc n) (suc m) = none-held n m

none-used : (n k : ℕ) → use_of (replicate n unused) k ≡ unused
none-used zero k = refl
none-used (suc n) zero = refl
none-used (suc n) (suc k) = none-used n k

zero-of : (a : Access) → counted a unused ≡ 0
zero-of Read = refl
zero-of Write = refl

-- where no node is held, none is counted
pub counted-none : (tree : List Row) (held : List Bool) (uses : List KeyUse) → held ≡ replicate (length tree) false → uses ≡ replicate (length (keys tree)) unused → AreLeadsCounted tree held uses
counted-none tree held uses h u =
    record {
      nodes = ap length h ∙ length-replicate (length tree) false;
      table = ap length u ∙ length-replicate (length (keys tree)) unused;
      counts = λ a k w e.
          ap (λ (us : List KeyUse). counted a (use_of us k)) u ∙ ap (counted a) (none-used (length (keys tree)) k) ∙ zero-of a
          ∙ sym (count-none (λ m. is_held held m && takes_in a k (locks tree m)) (length tree)
          (λ m l. ap (λ (hs : List Bool). is_held hs m && takes_in a k (locks tree m)) h ∙ ap (λ (b : Bool). b && takes_in a k (locks tree m)) (none-held (length tree) m)));
    }

-- the counts when a node is held besides
pub counted-more : (tree : List Row) (held : List Bool) (uses : List KeyUse) (n : ℕ) → n < length tree → is_held held n ≡ false
    → AreLeadsCounted tree held uses → AreLeadsCounted tree (set held n true) (added (lead_locks tree n) uses)
counted-more tree held uses n h free c =
    let ls = lead_locks tree n in
    record {
      nodes = length-set held n true ∙ c.nodes;
      table = added-length ls uses ∙ c.table;
      counts = λ a k w e.
          let same = added-length ls uses in
          let within : k < length uses = omega arith in
          added-at a ls uses 0 k (leads-rise tree n) (known-leads tree uses n c.table)
          ∙ ap₂ (λ (x : ℕ) (b : Bool). x + cond b 1 0) (c.counts a k within e) (leads-take tree a k n e)
          ∙ sym (takers-less tree held a k n h c.nodes free);
    }

back : (x y b : ℕ) → x ≡ y + b → x - b ≡ y
back x y b e = omega arith

-- the counts when a node is held no longer
pub counted-less : (tree : List Row) (held : List Bool) (uses : List KeyUse) (n : ℕ) → n < length tree → is_held held n ≡ true
    → AreLeadsCounted tree held uses → AreLeadsCounted tree (set held n false) (removed (lead_locks tree n) uses)
counted-less tree held uses n h there c =
    let ls = lead_locks tree n in
    record {
      nodes = length-set held n false ∙ c.nodes;
      table = removed-length ls uses ∙ c.table;
      counts = λ a k w e.
          let same = removed-length ls uses in
          let within : k < length uses = omega arith in
          removed-at a ls uses 0 k (leads-rise tree n) (known-leads tree uses n c.table)
          ∙ ap (λ (b : Bool). counted a (use_of uses k) - cond b 1 0) (leads-take tree a k n e)
          ∙ back (counted a (use_of uses k)) (takers tree (set held n false) a k) (cond (takes_in a k (locks tree n)) 1 0)
          (c.counts a k within e ∙ takers-more tree held a k n h c.nodes there);
    }

-- numbers of nodes have room
pub room : (tree : List Row) (held : List Bool) (uses : List KeyUse) (n : ℕ) → length tree < 2 ^ 63 → AreLeadsCounted tree held uses → CanAdd (lead_locks tree n) uses
room tree held uses n few c =
    can-add (lead_locks tree n) uses 0 (leads-rise tree n) (known-leads tree uses n c.table)
    (λ a k low w t.
    let e = c.counts a k w (filter-passed (is_lead tree) a k (locks tree n) t) in
    let small = count-small (λ m. is_held held m && takes_in a k (locks tree m)) (length tree) in
    let total : counted a (use_of uses k) ≤ length tree = subst (λ (x : ℕ). x ≤ length tree) (sym e) small in
    omega arith)

-- what a held node takes is counted
pub there : (tree : List Row) (held : List Bool) (uses : List KeyUse) (n : ℕ) → n < length tree → is_held held n ≡ true → AreLeadsCounted tree held uses → CanRemove (lead_locks tree n) uses
there tree held uses n h own c =
    can-remove (lead_locks tree n) uses 0 (leads-rise tree n) (known-leads tree uses n c.table)
    (λ a k low w t.
    let lead = filter-passed (is_lead tree) a k (locks tree n) t in
    let taken : takes_in a k (locks tree n) ≡ true = sym (leads-take tree a k n lead) ∙ t in
    let e = c.counts a k w lead ∙ takers-more tree held a k n h c.nodes own ∙ ap (λ (b : Bool). takers tree (set held n false) a k + cond b 1 0) taken in
    let one : counted a (use_of uses k) ≡ takers tree (set held n false) a k + 1 = e in
    omega arith)

on_full : (f : ℕ → ℕ) (n : ℕ) (ls : List Lock) → AllByRecursion (λ (l : Lock). l.key < n) ls → ((k : ℕ) → k < n → f k ≡ k) → filter (λ (l : Lock). f l.key == l.key) ls ≡ ls
on_full f n [] known own = refl
on_full f n (l ∷ ls) known own =
    let here : (f l.key == l.key) ≡ true = ap (λ (x : ℕ). x == l.key) (own l.key known.0) ∙ eq_same l.key in
    ap₂ (λ (b : Bool) (rest : List Lock). cond b (l ∷ rest) rest) here (on_full f n ls known.1 own)

on-own : (leads : List ℕ) (f : ℕ → ℕ) (n : ℕ) (ls : List Lock) → leads ≡ column f n → AllByRecursion (λ (l : Lock). l.key < n) ls → on_own leads ls ≡ filter (λ (l : Lock). f l.key == l.key) ls
on-own leads f n [] e known = refl
on-own leads f n (l ∷ ls) e known =
    ap₂ (λ (b : Bool) (rest : List Lock). cond b (l ∷ rest) rest) (ap (λ (x : ℕ). x == l.key) (column-read f leads n l.key 0 e known.0)) (on-own leads f n ls e known.1)

map_column : {A B : Type 0} (h : A → B) (f : ℕ → A) (n : ℕ) → map h (column f n) ≡ column (λ m. h (f m)) n
map_column h f zero = refl
map_column h f (suc n) = map_push h (column f n) (f n) ∙ ap (λ xs. xs ++ h (f n) ∷ []) (map_column h f n)

known_of : (tree : List Row) (n : ℕ) → AllByRecursion (λ (l : Lock). l.key < length (keys tree)) (locks tree n)
known_of tree n = recursion_from_All (λ (l : Lock). l.key < length (keys tree)) (locks tree n) (locks-known tree n)

pub locks-ordered : (tree : List Row) (n : ℕ) → AreOrdered (length (keys tree)) (locks tree n)
locks-ordered tree n = record { rise = locks-rise tree n; known = known_of tree n }

-- the lists of a plan's groups, as contracts see them
abbrev pub lists_in : Vec (List Lock) Global → List (List Lock)
lists_in v = v.items

lists_by : (tree : List Row) (leads : List ℕ) (o : Option (Vec (List Lock) Global)) → leads ≡ column (lead tree) (length (keys tree))
    → MatchOption o ((k : ℕ) → k < length (keys tree) → lead tree k ≡ k) (λ v. lists_in v ≡ map (on_own leads) (all_locks tree))
    → MatchOption (option_map lists_in o) ((n : ℕ) → n < length tree → lead_locks tree n ≡ locks tree n) (λ xs. xs ≡ column (lead_locks tree) (length tree))
lists_by tree leads None e h = λ n l. on_full (lead tree) (length (keys tree)) (locks tree n) (known_of tree n) h
lists_by tree leads (Some v) e h =
    h ∙ map_column (on_own leads) (locks tree) (length tree)
    ∙ column-same (λ n. on_own leads (locks tree n)) (lead_locks tree) (length tree) (λ n l. on-own leads (lead tree) (length (keys tree)) (locks tree n) e (known_of tree n))

-- the leads and the lead locks of a plan are those of the groups of its locks
pub groups-are : (tree : List Row) (count : ℕ) (lists : List (List Lock)) (g : Groups) → lists ≡ all_locks tree → count ≡ length (keys tree) → AreGroups count lists g
    → (g.leads.items ≡ column (lead tree) (length (keys tree)))
    × MatchOption (option_map lists_in g.lists) ((n : ℕ) → n < length tree → lead_locks tree n ≡ locks tree n) (λ xs. xs ≡ column (lead_locks tree) (length tree))
groups-are tree count lists g e k h =
    let all : AreGroups (length (keys tree)) (all_locks tree) g = subst (λ (ls : List (List Lock)). AreGroups (length (keys tree)) ls g) e (subst (λ (n : ℕ). AreGroups n lists g) k h) in
    (all.leads, lists_by tree g.leads.items g.lists all.leads all.on_leads)

pub some-lists : (tree : List Row) (o : Option (Vec (List Lock) Global)) (v : Vec (List Lock) Global) → o ≡ Some v
    → MatchOption (option_map lists_in o) ((n : ℕ) → n < length tree → lead_locks tree n ≡ locks tree n) (λ xs. xs ≡ column (lead_locks tree) (length tree))
    → lists_in v ≡ column (lead_locks tree) (length tree)
some-lists tree o v e h =
    subst
    (λ (p : Option (Vec (List Lock) Global)). MatchOption (option_map lists_in p) ((n : ℕ) → n < length tree → lead_locks tree n ≡ locks tree n) (λ xs. xs ≡ column (lead_locks tree) (length tree))) e h
