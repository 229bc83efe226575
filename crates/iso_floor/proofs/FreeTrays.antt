-- A tray that has no value: no node on the path of one that it serves takes a key for READ_WRITE.
use Rattle.std.proofs.Common.{◌≡◌, ◌≢◌, ℕ, ◌<◌, ◌||◌, ◌==◌, not, cond, Bool, List, [], ◌∷◌, length, None, Option, true, false, inl, inr, is_some, refl, sym, ap, ◌∙◌, subst, arith}
use Rattle.std.proofs.lemmas.Bool.{cases_eq}
use Rattle.iso_book.specs.Leaves.{MayBring, after_leave}
use Rattle.iso_book.specs.Turns.{IsEntered, handed, has_around, holds_writers}
use Rattle.iso_lifecycle.specs.DoneViews.{DoneView}
use Rattle.iso_lifecycle.specs.Subjects.{is_kind_of}
use Rattle.iso_lifecycle.specs.declared.kind.BodyKind.{BodyKind}
use Rattle.iso_lifecycle.specs.declared.kind.BodyKind.TheVariants.{BeforeAll, Test, AfterAll}
use Rattle.iso_locks.proofs.KeyLemmas.{number-of-key, written-is, written-within}
use Rattle.iso_locks.proofs.OwnerLemmas.{away-slot, cond-none, lent-other, none-by}
use Rattle.iso_locks.specs.Moves.{is_written}
use Rattle.iso_locks.specs.Slots.{slot}
use Rattle.iso_locks.specs.Trays.{GoesOn, TrayView, has_at, has_value, is_lent, key_at}
use Rattle.iso_locks.specs.Vaults.{IsLentTo, giving_back}
use Rattle.iso_model.specs.Rights.{is_writable}
use Rattle.iso_plan.proofs.LawLemmas.{taken-writes}
use Rattle.iso_plan.proofs.PathLemmas.{eq_not, under-le}
use Rattle.iso_plan.specs.Locks.{locks, taken, takes_write}
use Rattle.iso_plan.specs.Paths.{IsTree, is_on, is_test, is_under, parent, path, row_at}
use Rattle.iso_plan.specs.Planned.{Planned}
use Rattle.iso_plan.specs.RowView.{tree_of}
use Rattle.iso_plan.specs.Tree as T
use Rattle.iso_plan.specs.Tree.{Row}
use Rattle.iso_serial.proofs.ResultLemmas.{above-parent, and-parts, true-or-false}
use Rattle.iso_serial.proofs.TrayLemmas.{held-start, no-clash, number, start-absent}
use Rattle.iso_serial.specs.OpenedTrays.{HoldsAlong, IsWrittenOn, StandsAsOpened}
use Rattle.iso_settings.specs.Worlds.{Start}
use Rattle.iso_floor.specs.Workers.{CanPerform, IsAtEntry, IsEnteredFree, IsFree, IsInside, IsShutFree}
use Rattle.iso_floor.proofs.NodeTrays.{begin-in, closing-can, entry-of}

-- what is known of every tray: a node that is lent to it finds there what it takes for READ_WRITE
abbrev pub FindsItsValues : TrayView → Type 0
FindsItsValues t = (n : ℕ) (k : List ℕ) → is_lent t.lent n ≡ true → is_writable (taken (tree_of t.plan) n k) ≡ true → has_value t k ≡ true

finds : (t : TrayView) → FindsItsValues t → (m i : ℕ) → is_lent t.lent m ≡ true → is_written (locks (tree_of t.plan) m) i ≡ true → is_some (slot t.values i) ≡ true
finds t law m i lent writes =
    let tree = tree_of t.plan in
    let less = written-within tree m i writes in
    sym (ap (has_at t.values) (number-of-key tree i less)) ∙ law m (key_at tree i) lent (sym (written-is tree m i less) ∙ writes)

-- a class on a way that takes a key for READ_WRITE is lent where all such are
held-by : (a b : Bool) → a ≡ true → (not a || b) ≡ true → b ≡ true
held-by true b e h = h
held-by false b e h = absurd (cc)

on-first : (n m : ℕ) (ns : List ℕ) → m ≢ n → is_on (n ∷ ns) m ≡ true → is_on ns m ≡ true
on-first n m ns other on = let apart : (n == m) ≡ false = eq_not n m (λ e. other (sym e)) in sym (ap (λ (b : Bool). b || is_on ns m) apart) ∙ on

holder : (t : TrayView) (ns : List ℕ) (m : ℕ) → holds_writers t ns ≡ true → is_on ns m ≡ true → takes_write (tree_of t.plan) m ≡ true → is_lent t.lent m ≡ true
holder t [] m held on takes = absurd (cc)
holder t (n ∷ ns) m held on takes =
    let both = and-parts (not (takes_write (tree_of t.plan) n) || is_lent t.lent n) (holds_writers t ns) held in
    elim (cases_eq m n) [
      | inl same ↦
          let here : is_lent t.lent n ≡ true = held-by (takes_write (tree_of t.plan) n) (is_lent t.lent n) (ap (takes_write (tree_of t.plan)) (sym same) ∙ takes) both.0 in
          ap (is_lent t.lent) same ∙ here
      | inr other ↦ holder t ns m both.1 (on-first n m ns other on) takes
    ]

nothing : {A : Type 0} (o : Option A) → o ≡ None → is_some o ≡ true → ⊥
nothing o none some = let wrong : false ≡ true = sym (ap is_some none) ∙ some in cc

-- what is given back leaves none
pub given-back : (n : ℕ) (t : TrayView) → IsFree t → IsFree (giving_back n t)
given-back n t free i =
    let ls = locks (tree_of t.plan) n in
    away-slot ls t.values i ∙ ap (λ o. cond (is_written ls i) None o) (free i) ∙ cond-none (is_written ls i)

pub left-free : (k : BodyKind) (n : ℕ) (t : TrayView) → IsFree t → IsFree (after_leave k n t)
left-free BeforeAll n t free = free
left-free Test n t free = given-back n t free
left-free AfterAll n t free = given-back n t free

-- a body changes no value where there is none
pub still-free : (t u : TrayView) → IsFree t → GoesOn t u → IsFree u
still-free t u free on i = on.only i (free i)

-- and brings none
pub brings-nothing : (d : DoneView) (t : TrayView) → d.subject.plan ≡ t.plan → d.subject.start ≡ t.world → IsFree t → MayBring d t
brings-nothing d t p w free = record { plan = p; start = w; at_start = λ last i less writes some. absurd (nothing (slot t.values i) (free i) some) }

-- what has an `after_all` is no test
closing-class : (kind : T.Kind) → is_kind_of AfterAll kind ≡ true → is_test kind ≡ false
closing-class T.root e = refl
closing-class (T.class_node isolated head) e = refl
closing-class (T.test_node head) e = absurd (cc)

module _ (plan : Planned) (start : Start) (tree : IsTree (tree_of plan)) where
  abbrev tr : List Row
  tr = tree_of plan

  -- no node on the path of p takes a key for READ_WRITE
  abbrev pub NoneWritten : ℕ → Type 0
  NoneWritten p = (i : ℕ) → IsWrittenOn tr p i → ⊥

  writer : (m i : ℕ) → is_written (locks tr m) i ≡ true → takes_write tr m ≡ true
  writer m i writes =
      let less = written-within tr m i writes in
      taken-writes tr tree m (key_at tr i) (sym (written-is tr m i less) ∙ writes)

  around : (n m i : ℕ) (t : TrayView) → t.plan ≡ plan → has_around t n ≡ true → is_under tr m (parent tr n) ≡ true → is_written (locks tr m) i ≡ true → is_lent t.lent m ≡ true
  around n m i t tp has above writes =
      let both = and-parts (not t.flat) (holds_writers t (path (tree_of t.plan) (parent (tree_of t.plan) n))) has in
      holder t (path (tree_of t.plan) (parent (tree_of t.plan) n)) m both.1
      (ap (λ (p : Planned). is_on (path (tree_of p) (parent (tree_of p) n)) m) tp ∙ above)
      (ap (λ (p : Planned). takes_write (tree_of p) m) tp ∙ writer m i writes)

  -- a tray without values serves, where none is written on a path, as the opening has left it
  free-stands : (p : ℕ) (t : TrayView) → t.plan ≡ plan → t.world ≡ start → p < length tr → is_test (row_at tr p).kind ≡ false → IsFree t → NoneWritten p → StandsAsOpened plan start p p t
  free-stands p t tp tw within class free none =
      let holds : HoldsAlong plan start p t = record { plan_is = tp; world_is = tw; there = λ i on. absurd (none i on); only = λ i some. absurd (nothing (slot t.values i) (free i) some) } in
      record {
        holds = holds;
        values = λ k some.
            let num = number plan start tree t k some in
            held-start plan start tree t k num.at num.is (free num.at) some ∙ sym (start-absent plan start tree t p k num.at within class holds num.is (free num.at));
      }

  -- where a node was entered with such a tray, no class around it takes a key for READ_WRITE
  none-above : (n : ℕ) (t u : TrayView) → t.plan ≡ plan → IsFree t → IsEntered n t u → FindsItsValues u → NoneWritten (parent tr n)
  none-above n t u tp free e law i on =
      let from = handed t (parent (tree_of t.plan) n) in
      let l : IsLentTo n from u = e.lent in
      let pos = e.inner in
      let less = tree.below n pos in
      let le = under-le tr tree.below on.node (parent tr n) on.above in
      let other : on.node ≢ n = λ same. omega (arith, same, less, le) in
      let lent : is_lent u.lent on.node ≡ true = ap (λ (ls : List Bool). is_lent ls on.node) l.lent ∙ lent-other t.lent n on.node true other ∙ around n on.node i t tp e.around on.above on.writes in
      let up : u.plan ≡ plan = l.plan ∙ tp in
      let some = finds u law on.node i lent (ap (λ (p : Planned). is_written (locks (tree_of p) on.node) i) up ∙ on.writes) in
      elim (true-or-false (is_written (locks tr n) i)) [
        | inl own ↦ no-clash plan start tree n i pos on own
        | inr apart ↦ nothing (slot u.values i) (l.others i (ap (λ (p : Planned). is_written (locks (tree_of p) n) i) tp ∙ apart) ∙ free i) some
      ]

  -- such a node stands as at an entry
  pub free-entry : (n : ℕ) (u : TrayView) → u.plan ≡ plan → u.world ≡ start → (f : IsEnteredFree n u) → FindsItsValues u → IsAtEntry plan start n u
  free-entry n u up uw f law =
      let e = f.entered in
      let t = f.before in
      let l : IsLentTo n (handed t (parent (tree_of t.plan) n)) u = e.lent in
      let tp : t.plan ≡ plan = sym l.plan ∙ up in
      let tw : t.world ≡ start = sym l.world ∙ uw in
      let below = tree.below n e.inner in
      let within : n < length plan.rows = subst (λ (p : Planned). n < length p.rows) tp e.within in
      let less : parent tr n < length tr = omega (arith, below, within) in
      entry-of plan start n t u tree e.inner within (free-stands (parent tr n) t tp tw less (tree.inner n e.inner) f.free (none-above n t u tp f.free e law)) e

  pub free-within : (n : ℕ) (u : TrayView) → u.plan ≡ plan → IsEnteredFree n u → n < length plan.rows
  free-within n u up f =
      let l : IsLentTo n (handed f.before (parent (tree_of f.before.plan) n)) u = f.entered.lent in
      subst (λ (p : Planned). n < length p.rows) (sym l.plan ∙ up) f.entered.within

  -- when it is done whole, the tray has no value again
  pub done-free : (n : ℕ) (u w : TrayView) → u.plan ≡ plan → IsEnteredFree n u → FindsItsValues u → IsInside plan start (parent tr n) w → IsFree w
  done-free n u w up f law inside i =
      let l : IsLentTo n (handed f.before (parent (tree_of f.before.plan) n)) u = f.entered.lent in
      none-by (slot w.values i) (λ some. none-above n f.before u (sym l.plan ∙ up) f.free f.entered law i (inside.tray.holds.only i some))

  -- a node that takes no key for READ_WRITE was entered without a value
  pub entered-free : (n : ℕ) (u : TrayView) → u.plan ≡ plan → IsEnteredFree n u → takes_write tr n ≡ false → IsFree u
  entered-free n u up f reads i =
      let l : IsLentTo n (handed f.before (parent (tree_of f.before.plan) n)) u = f.entered.lent in
      elim (true-or-false (is_written (locks tr n) i)) [
        | inl own ↦
            let wrong : false ≡ true = sym reads ∙ writer n i own in
            absurd (cc)
        | inr apart ↦ l.others i (ap (λ (p : Planned). is_written (locks (tree_of p) n) i) (sym l.plan ∙ up) ∙ apart) ∙ f.free i
      ]

  -- where a class was shut with such a tray, neither it nor one around it takes a key for READ_WRITE
  none-on : (n : ℕ) (u : TrayView) → u.plan ≡ plan → 0 < n → (f : IsShutFree n u) → FindsItsValues u → NoneWritten n
  none-on n u up pos f law i on =
      let s = f.shut in
      let t = f.before in
      let tp : t.plan ≡ plan = sym (ap (λ (x : TrayView). x.plan) s.tray) ∙ up in
      let lent : is_lent u.lent on.node ≡ true = elim (cases_eq on.node n) [
        | inl same ↦ ap (is_lent u.lent) same ∙ s.lent
        | inr other ↦ ap (λ (x : TrayView). is_lent x.lent on.node) s.tray ∙ around n on.node i t tp s.around (sym (above-parent tr tree.below on.node n pos other) ∙ on.above) on.writes
      ] in
      let some = finds u law on.node i lent (ap (λ (p : Planned). is_written (locks (tree_of p) on.node) i) up ∙ on.writes) in
      nothing (slot u.values i) (ap (λ (x : TrayView). slot x.values i) s.tray ∙ f.free i) some

  pub shut-free : (n : ℕ) (u : TrayView) → IsShutFree n u → IsFree u
  shut-free n u f i = ap (λ (x : TrayView). slot x.values i) f.shut.tray ∙ f.free i

  -- such a class can be ended
  pub free-closing : (n : ℕ) (u : TrayView) → u.plan ≡ plan → u.world ≡ start → (f : IsShutFree n u) → FindsItsValues u → CanPerform plan start AfterAll n u
  free-closing n u up uw f law =
      let s = f.shut in
      let t = f.before in
      let tp : t.plan ≡ plan = sym (ap (λ (x : TrayView). x.plan) s.tray) ∙ up in
      let tw : t.world ≡ start = sym (ap (λ (x : TrayView). x.world) s.tray) ∙ uw in
      let begins = begin-in u.plan plan u.world start n AfterAll u.frames up uw s.begins in
      closing-can plan start n t u tree (free-stands n t tp tw begins.within (closing-class (row_at tr n).kind begins.fits) f.free (none-on n u up begins.inner f law)) s
