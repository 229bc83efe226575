use Rattle.std.proofs.Common.{Some, None, Err, Ok, [], ap, subst, sym, ◌∙◌, if◌then◌else◌, arith}
use Rattle.iso_script.proofs.Places.{kept_are}
use Rattle.iso_script.proofs.Scripts.{has_fault, is_reading, one_placed}
use Rattle.iso_script.specs.Grammar.{ReadsPlaced}
use Rattle.iso_script.proofs.explain.read_or_why.Goals as goal

pub returns-in-Ok-clause-found : goal.returns-in-Ok-clause-found
returns-in-Ok-clause-found c =
    let r = is_reading (Ok c.in-Ok.script) c.args.bytes.now _ _ _ (omega arith) c.new-parser.ensures c.in-Ok.ensures.read in
    record { places = r.0; placed = r.1 }

pub returns-in-Ok-clause-placed : goal.returns-in-Ok-clause-placed
returns-in-Ok-clause-placed c = λ asked.
    let r = is_reading (Ok c.in-Ok.script) c.args.bytes.now _ _ _ (omega arith) c.new-parser.ensures c.in-Ok.ensures.read in
    let none = c.asked-places.ensures ∙ ap (λ b. if b then Some [] else None) asked in
    subst (ReadsPlaced _ _) (sym (kept_are _ _ r.0 _ none r.2)) r.1

pub returns-in-Ok-clause-only : goal.returns-in-Ok-clause-only
returns-in-Ok-clause-only c = λ s reads.
    let r = is_reading (Ok c.in-Ok.script) c.args.bytes.now _ _ _ (omega arith) c.new-parser.ensures c.in-Ok.ensures.read in
    (one_placed r.1 reads.placed).0

pub returns-clause-only : goal.returns-clause-only
returns-clause-only c = λ s reads.
    let told = c.in-Err-Fault.ensures in
    let has = has_fault (Err c.in-Err-Fault.field-0) c.args.bytes.now _ None None (omega arith) c.new-parser.ensures told.read told.begins in
    absurd ((rw c.in-Err-Fault.field-0-is at has).unread s reads)

pub returns-clause-fault : goal.returns-clause-fault
returns-clause-fault c =
    let told = c.in-Err-Fault.ensures in
    let has = has_fault (Err c.in-Err-Fault.field-0) c.args.bytes.now _ None None (omega arith) c.new-parser.ensures told.read told.begins in
    rw c.in_ok-tell-in-Err-Fault.ensures.fault (rw c.in-Err-Fault.field-0-is at has)
