-- Which keys the held nodes of a book take, and how the marks of keys follow them.
use Rattle.std.proofs.Common.{◌≡◌, ◌≢◌, ℕ, zero, suc, ◌<◌, ◌≤◌, List, [], ◌∷◌, ◌++◌, length, map, Option, None, Some, Bool, true, false, ◌||◌, ◌&&◌, ◌==◌, not, cond, ap, ap₂, sym, subst, ◌∙◌, inl, inr, arith, refl}
use Rattle.std.proofs.lemmas.Bool.{cases_eq, cases_lt}
use Rattle.std.specs.List.{list_any}
use Rattle.iso_book.specs.Books.{BookView, new_book, state_in}
use Rattle.iso_book.specs.Holdings.{HoldAfter, HoldAlike, HoldSame}
use Rattle.iso_desk.specs.Marking.{has}
use Rattle.iso_floor.specs.Desks.{AreMarksOf, held_nodes}
use Rattle.iso_floor.specs.KeyMarks.{AreRenewed, KeysView, is_taken}
use Rattle.iso_isolation.specs.States as States
use Rattle.iso_lifecycle.specs.Subjects.{started}
use Rattle.iso_lifecycle.specs.declared.kind.BodyKind.{BodyKind}
use Rattle.iso_lifecycle.specs.declared.kind.BodyKind.TheVariants.{AfterAll, BeforeAll, Test}
use Rattle.iso_model.specs.Bodies.{Stage}
use Rattle.iso_model.specs.Openings.{Frame}
use Rattle.iso_model.specs.Rights.{is_readable}
use Rattle.iso_model.specs.declared.access.Access.{Access}
use Rattle.iso_model.specs.declared.access.Access.TheVariants.{Read, Write}
use Rattle.iso_model.specs.declared.outcome.Outcome.{Outcome}
use Rattle.iso_plan.proofs.ColumnLemmas.{column-read}
use Rattle.iso_plan.proofs.HeldLemmas.{count-none}
use Rattle.iso_plan.proofs.PathLemmas.{eq_not, eq_same}
use Rattle.iso_plan.specs.HeldNodes.{is_held, takes_in}
use Rattle.iso_plan.specs.KeyGroups.{is_lead, lead_locks}
use Rattle.iso_plan.specs.KeyTable.{keys}
use Rattle.iso_plan.specs.Locks.{lock_of, locks, locks_from, taken}
use Rattle.iso_plan.specs.Paths.{IsTree}
use Rattle.iso_plan.specs.Planned.{Planned}
use Rattle.iso_plan.specs.RowView.{tree_of}
use Rattle.iso_plan.specs.Tree.{Row}
use Rattle.iso_plan.specs.declared.lock.Lock.{Lock}
use Rattle.iso_settings.specs.Worlds.{Start}
use Rattle.iso_suites.proofs.SuiteLaws.{root-takes}
use Rattle.iso_floor.proofs.HintLemmas.{same-count}
use Rattle.iso_floor.proofs.LeadLemmas.{any-on-lead}

-- whether a node of a book is held
pub held-at : (b : BookView) (m : ℕ) → m < length b.plan.rows → is_held (held_nodes b) m ≡ States.is_held ((state_in b).nodes.status m)
held-at b m h = column-read (λ n. States.is_held ((state_in b).nodes.status n)) (held_nodes b) (length b.plan.rows) m false refl h

-- whether a key is taken by the same nodes
taken-same : (tree : List Row) (f g : List Bool) (a : Access) (k : ℕ)
    → ((m : ℕ) → m < length tree → (is_held f m && takes_in a k (locks tree m)) ≡ (is_held g m && takes_in a k (locks tree m))) → is_taken tree f a k ≡ is_taken tree g a k
taken-same tree f g a k same =
    ap (λ (n : ℕ). not (n == 0)) (same-count (λ m. is_held f m && takes_in a k (locks tree m)) (λ m. is_held g m && takes_in a k (locks tree m)) (length tree) same)

or-first : (x y : Bool) → (x || y) ≡ false → x ≡ false
or-first true y e = e
or-first false y e = refl

or-second : (x y : Bool) → (x || y) ≡ false → y ≡ false
or-second true y e = absurd (cc)
or-second false y e = e

and-false : (x y : Bool) → y ≡ false → (x && y) ≡ false
and-false true y e = e
and-false false y e = refl

turned : (a b : ℕ) → (a == b) ≡ false → (b == a) ≡ false
turned a b e =
    elim (cases_eq b a) [
      | inl same ↦ let wrong : true ≡ false = sym (eq_same a) ∙ ap (λ (j : ℕ). a == j) (sym same) ∙ e in absurd (cc)
      | inr other ↦ eq_not b a other
    ]

-- no lock is on a key
none-takes : (a : Access) (k : ℕ) (ls : List Lock) → list_any (λ l. k == l.key) ls ≡ false → takes_in a k ls ≡ false
none-takes a k [] e = refl
none-takes a k (l ∷ ls) e =
    rw (turned k l.key (or-first (k == l.key) (list_any (λ m. k == m.key) ls) e)) (none-takes a k ls (or-second (k == l.key) (list_any (λ m. k == m.key) ls) e))

-- the root takes no key
none-of : (o : Option Access) (i : ℕ) → ¬ (is_readable o ≡ true) → lock_of i o ≡ []
none-of None i f = refl
none-of (Some a) i f = absurd (f refl)

none-from : (tree : List Row) (ks : List (List ℕ)) (i : ℕ) → ((k : List ℕ) → ¬ (is_readable (taken tree 0 k) ≡ true)) → locks_from i (map (taken tree 0) ks) ≡ []
none-from tree [] i f = refl
none-from tree (k ∷ ks) i f = ap₂ (λ (a b : List Lock). a ++ b) (none-of (taken tree 0 k) i (f k)) (none-from tree ks (suc i) f)

root-locks : (plan : Planned) (start : Start) → IsTree (tree_of plan) → locks (tree_of plan) 0 ≡ []
root-locks plan start t = none-from (tree_of plan) (keys (tree_of plan)) 0 (root-takes (tree_of plan) t plan.settings (started start))

root-takes-none : (plan : Planned) (start : Start) (a : Access) (k : ℕ) → IsTree (tree_of plan) → takes_in a k (locks (tree_of plan) 0) ≡ false
root-takes-none plan start a k t = ap (takes_in a k) (root-locks plan start t)

both-none : (x y z : Bool) → z ≡ false → (x && z) ≡ (y && z)
both-none x y z e = and-false x z e ∙ sym (and-false y z e)

pick : (e x y t : Bool) → (e ≡ true → x ≡ t) → (e ≡ false → y ≡ t) → cond e x y ≡ t
pick true x y t f g = f refl
pick false x y t f g = g refl

-- an event of a node, after which all others are held as before
module _ (b c : BookView) (plans : c.plan ≡ b.plan) (t : IsTree (tree_of c.plan)) where
  abbrev tree : List Row
  tree = tree_of c.plan

  within-old : (m : ℕ) → m < length tree → m < length b.plan.rows
  within-old m h = subst (λ (p : Planned). m < length p.rows) plans h

  old-tree : (a : Access) (k : ℕ) → is_taken (tree_of b.plan) (held_nodes b) a k ≡ is_taken tree (held_nodes b) a k
  old-tree a k = ap (λ (p : Planned). is_taken (tree_of p) (held_nodes b) a k) (sym plans)

  old-lead : (k : ℕ) → is_lead tree k ≡ true → is_lead (tree_of b.plan) k ≡ true
  old-lead k h = ap (λ (p : Planned). is_lead (tree_of p) k) (sym plans) ∙ h

  same-held : (m : ℕ) → m < length tree → States.is_held ((state_in c).nodes.status m) ≡ States.is_held ((state_in b).nodes.status m) → is_held (held_nodes b) m ≡ is_held (held_nodes c) m
  same-held m h e = held-at b m (within-old m h) ∙ sym e ∙ sym (held-at c m h)

  at-same : (a : Access) (k m : ℕ) → HoldSame b c → m < length tree → (is_held (held_nodes b) m && takes_in a k (locks tree m)) ≡ (is_held (held_nodes c) m && takes_in a k (locks tree m))
  at-same a k zero s h = both-none (is_held (held_nodes b) 0) (is_held (held_nodes c) 0) (takes_in a k (locks tree 0)) (root-takes-none c.plan c.world a k t)
  at-same a k (suc m) s h = ap (λ (x : Bool). x && takes_in a k (locks tree (suc m))) (same-held (suc m) h (s (suc m) (omega arith) (within-old (suc m) h)))

  -- nothing is held otherwise
  pub marks-same : (v : KeysView) → HoldSame b c → AreMarksOf b v → AreMarksOf c v
  marks-same v s o =
      let same : (a : Access) (k : ℕ) → is_taken (tree_of b.plan) (held_nodes b) a k ≡ is_taken tree (held_nodes c) a k =
      λ a k. old-tree a k ∙ taken-same tree (held_nodes b) (held_nodes c) a k (λ m h. at-same a k m s h) in
      record {
        written = λ k h l. o.written k h (old-lead k l) ∙ same Write k;
        held = λ k h l. o.held k h (old-lead k l) ∙ ap₂ (λ (x y : Bool). x || y) (same Write k) (same Read k);
      }

  at-other : (n : ℕ) (a : Access) (k m : ℕ) → HoldAlike n b c → list_any (λ l. k == l.key) (locks tree n) ≡ false → m < length tree
      → (is_held (held_nodes b) m && takes_in a k (locks tree m)) ≡ (is_held (held_nodes c) m && takes_in a k (locks tree m))
  at-other n a k zero s e h = both-none (is_held (held_nodes b) 0) (is_held (held_nodes c) 0) (takes_in a k (locks tree 0)) (root-takes-none c.plan c.world a k t)
  at-other n a k (suc m) s e h =
      elim (cases_eq (suc m) n) [
        | inl same ↦
            both-none (is_held (held_nodes b) (suc m)) (is_held (held_nodes c) (suc m)) (takes_in a k (locks tree (suc m)))
            (ap (λ (j : ℕ). takes_in a k (locks tree j)) same ∙ none-takes a k (locks tree n) e)
        | inr other ↦ ap (λ (x : Bool). x && takes_in a k (locks tree (suc m))) (same-held (suc m) h (s (suc m) (omega arith) (within-old (suc m) h) other))
      ]

  -- the keys of the node are marked anew
  pub marks-renewed : (n : ℕ) (held : List Bool) (old new : KeysView) → HoldAlike n b c
      → ((m : ℕ) → m < length c.plan.rows → is_held held m ≡ States.is_held ((state_in c).nodes.status m))
      → AreRenewed tree held (lead_locks tree n) old new → AreMarksOf b old → AreMarksOf c new
  marks-renewed n held old new s each r o =
      let now : (a : Access) (k : ℕ) → is_taken tree held a k ≡ is_taken tree (held_nodes c) a k =
      λ a k. taken-same tree held (held_nodes c) a k (λ m h. ap (λ (x : Bool). x && takes_in a k (locks tree m)) (each m h ∙ sym (held-at c m h))) in
      let before : (a : Access) (k : ℕ) → is_lead tree k ≡ true → list_any (λ l. k == l.key) (lead_locks tree n) ≡ false
      → is_taken (tree_of b.plan) (held_nodes b) a k ≡ is_taken tree (held_nodes c) a k =
      λ a k l e. old-tree a k ∙ taken-same tree (held_nodes b) (held_nodes c) a k (λ m h. at-other n a k m s (sym (any-on-lead tree n k l) ∙ e) h) in
      record {
        written = λ k h l. r.written k h ∙ pick (list_any (λ l. k == l.key) (lead_locks tree n)) _ _ _ (λ e. now Write k) (λ e. o.written k h (old-lead k l) ∙ before Write k l e);
        held = λ k h l.
            r.held k h
            ∙ pick (list_any (λ l. k == l.key) (lead_locks tree n)) _ _ _ (λ e. ap₂ (λ (x y : Bool). x || y) (now Write k) (now Read k))
            (λ e. o.held k h (old-lead k l) ∙ ap₂ (λ (x y : Bool). x || y) (before Write k l e) (before Read k l e));
      }

  all-apart : (n : ℕ) → length tree ≤ n → HoldAlike n b c → HoldSame b c
  all-apart n past s = λ m above below. s m above below (λ same. let h : m < length tree = subst (λ (p : Planned). m < length p.rows) (sym plans) below in omega (arith, same, h, past))

  -- a number past the nodes takes no key
  marks-past : (n : ℕ) (old new : KeysView) → length tree ≤ n → HoldAlike n b c → new ≡ old → AreMarksOf b old → AreMarksOf c new
  marks-past n old new past s e o = subst (AreMarksOf c) (sym e) (marks-same old (all-apart n past s) o)

  -- the keys of what is a node are marked anew
  pub marks-after : (n : ℕ) (held : List Bool) (old new : KeysView) → HoldAlike n b c
      → ((m : ℕ) → m < length c.plan.rows → is_held held m ≡ States.is_held ((state_in c).nodes.status m))
      → (n < length tree → AreRenewed tree held (lead_locks tree n) old new) → (length tree ≤ n → new ≡ old) → AreMarksOf b old → AreMarksOf c new
  marks-after n held old new s each renewed past o =
      elim (cases_lt n (length tree)) [
        | inl low ↦ marks-renewed n held old new s each (renewed low) o
        | inr high ↦ marks-past n old new high s (past high) o
      ]

  -- a worker left a body of a node
  pub marks-left : (kind : BodyKind) (n : ℕ) (held : List Bool) (old new : KeysView) → HoldAfter kind n b c
      → ((m : ℕ) → m < length c.plan.rows → is_held held m ≡ States.is_held ((state_in c).nodes.status m))
      → (kind ≡ BeforeAll → new ≡ old) → (kind ≢ BeforeAll → n < length tree → AreRenewed tree held (lead_locks tree n) old new) → (length tree ≤ n → new ≡ old) → AreMarksOf b old
      → AreMarksOf c new
  marks-left BeforeAll n held old new h each same renewed past o = subst (AreMarksOf c) (sym (same refl)) (marks-same old h o)
  marks-left Test n held old new h each same renewed past o = marks-after n held old new h each (renewed (λ e. cc)) past o
  marks-left AfterAll n held old new h each same renewed past o = marks-after n held old new h each (renewed (λ e. cc)) past o

-- at first no node is held but the root
none-waits : (plan : Planned) (start : Start) (workers : ℕ) (a : Access) (k m : ℕ) → IsTree (tree_of plan) → m < length plan.rows
    → (is_held (held_nodes (new_book plan start workers)) m && takes_in a k (locks (tree_of plan) m)) ≡ false
none-waits plan start workers a k zero t h = and-false (is_held (held_nodes (new_book plan start workers)) 0) (takes_in a k (locks (tree_of plan) 0)) (root-takes-none plan start a k t)
none-waits plan start workers a k (suc m) t h =
    let waits : is_held (held_nodes (new_book plan start workers)) (suc m) ≡ false =
    held-at (new_book plan start workers) (suc m) h
    ∙ ap (λ (e : Bool). States.is_held (cond {A = States.Status Stage Frame Outcome} e (States.Open []) States.Waiting)) (eq_not (suc m) 0 (λ e. cc)) in
    ap (λ (x : Bool). x && takes_in a k (locks (tree_of plan) (suc m))) waits

none-taken : (plan : Planned) (start : Start) (workers : ℕ) (a : Access) (k : ℕ) → IsTree (tree_of plan) → is_taken (tree_of plan) (held_nodes (new_book plan start workers)) a k ≡ false
none-taken plan start workers a k t =
    ap (λ (n : ℕ). not (n == 0))
    (count-none (λ m. is_held (held_nodes (new_book plan start workers)) m && takes_in a k (locks (tree_of plan) m)) (length (tree_of plan)) (λ m h. none-waits plan start workers a k m t h))

pub marks-new : (plan : Planned) (start : Start) (workers : ℕ) (v : KeysView) → IsTree (tree_of plan) → ((k : ℕ) → has v.held k ≡ false) → ((k : ℕ) → has v.written k ≡ false)
    → AreMarksOf (new_book plan start workers) v
marks-new plan start workers v t held written =
    record {
      written = λ k h l. written k ∙ sym (none-taken plan start workers Write k t);
      held = λ k h l. held k ∙ sym (ap₂ (λ (x y : Bool). x || y) (none-taken plan start workers Write k t) (none-taken plan start workers Read k t));
    }
