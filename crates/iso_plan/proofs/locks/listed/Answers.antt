use Rattle.std.proofs.Common.{◌≡◌, ◌<◌, ◌+◌, ◌∷◌, ◌++◌, ℕ, List, Option, Some, None, length, drop, get_or, refl, ap, sym, ◌∙◌, arith, add-one, append_assoc}
use Rattle.std.proofs.lemmas.List.{append-nil, drop_all, drop_more}
use Rattle.std.specs.declared.alloc.Global.{Global}
use Rattle.std.specs.declared.vec.Vec.{Vec}
use Rattle.iso_model.specs.declared.access.Access.{Access}
use Rattle.iso_plan.specs.Locks.{lock_of, locks_from}
use Rattle.iso_plan.specs.declared.lock.Lock.{Lock}
use Rattle.iso_plan.proofs.locks.listed.Goals as goal
use Rattle.iso_plan.proofs.locks.listed.Goals.{in-Some+in_ok-push, in_default}

-- the next access of a table is listed, if it is there
listed-next : (accesses : List (Option Access)) (ls new all : List Lock) (i : ℕ) (a : Option Access) → i < length accesses → a ≡ get_or accesses i None
    → new ≡ ls ++ lock_of i a → ls ++ locks_from i (drop i accesses) ≡ all → new ++ locks_from (i + 1) (drop (i + 1) accesses) ≡ all
listed-next accesses ls new all i a h e pushed inv =
    let rest = drop (i + 1) accesses in
    let next : drop i accesses ≡ a ∷ rest = drop_more accesses i None h ∙ ap (λ (x : Option Access). x ∷ rest) (sym e) in
    ap (λ (ms : List Lock). ms ++ locks_from (i + 1) rest) pushed ∙ append_assoc ls (lock_of i a) (locks_from (i + 1) rest)
    ∙ ap (λ (j : ℕ). ls ++ (lock_of i a ++ locks_from j rest)) (add-one i) ∙ rw next at inv

none_by : (o : Option Access) → ((a : Access) → o ≡ Some a → ⊥) → None ≡ o
none_by None f = refl
none_by (Some a) f = absurd (f a refl)

pub keys-preserved : goal.keys-preserved
keys-preserved c =
    let table = c.args.table.now in
    let i = c.keys.number in
    let old = c.keys.locks.items in
    let items : Vec Lock Global → List Lock = λ v. v.items in
    elim c.match-table-number.branch [
      | in-Some+in_ok-push w ↦ listed-next table old c.match-table-number.locks.items (locks_from 0 table) i (Some w.in-Some.access) (omega arith) (sym w.in-Some.is)
          (ap items w.locks-is ∙ w.in_ok-push.ensures.items) c.keys.invariant
      | in_default w ↦ listed-next table old c.match-table-number.locks.items (locks_from 0 table) i None (omega arith) (none_by (get_or table i None) w.in_default.not-Some)
          (ap items w.locks-is ∙ sym (append-nil old)) c.keys.invariant
    ]

pub returns : goal.returns
returns c = sym (append-nil c.keys.locks.items) ∙ rw (drop_all c.keys.number c.args.table.now (omega arith)) at c.keys.invariant
