use Rattle.std.proofs.Common.{◌≡◌, ◌++◌, Ok, [], List, ℕ, codes, ap, ◌∙◌}
use Rattle.iso_conflicts.specs.Chains.{key_chain}
use Rattle.iso_conflicts.specs.ConflictsText.{counted, key_text, takers_line, taking_word}
use Rattle.iso_conflicts.specs.Takers.{takers}
use Rattle.iso_model.specs.declared.access.Access.TheVariants.{Read, Write}
use Rattle.iso_plan.specs.RowView.{tree_of}
use Rattle.iso_tap.proofs.PrinterLemmas.{prints_as, prints_cut, prints_stopped, prints_then}
use Rattle.iso_conflicts.proofs.conflicts.key_lines.Goals as goal

pub returns-in_err-pieces : goal.returns-in_err-pieces
returns-in_err-pieces g c =
    let tree = tree_of c.args.plan.now in
    let key = c.args.key in
    let head = prints_as c.in_err-pieces.ensures (key_text tree key ++ codes ": longest chain ")
    (ap (λ (t : List ℕ). t ++ codes ": longest chain ") (c.as_bytes.ensures.value ∙ c.key.ensures)) in
    prints_stopped (takers_line tree (taking_word Read) (takers tree Read key)) _ c.from_residual.ensures.0
    (prints_cut (takers_line tree (taking_word Write) (takers tree Write key)) _ _
    (prints_cut (codes "\n") _ _ (prints_cut (counted (key_chain tree key)) _ _ head)))

pub returns-in_err-counted : goal.returns-in_err-counted
returns-in_err-counted g c =
    let tree = tree_of c.args.plan.now in
    let key = c.args.key in
    let head = prints_as c.in_ok-pieces.ensures (key_text tree key ++ codes ": longest chain ")
    (ap (λ (t : List ℕ). t ++ codes ": longest chain ") (c.as_bytes.ensures.value ∙ c.key.ensures)) in
    let count = prints_as c.in_err-counted.ensures (counted (key_chain tree key)) (ap counted c.key_chain.ensures) in
    prints_stopped (takers_line tree (taking_word Read) (takers tree Read key)) _ c.from_residual-in_err-counted.ensures.0
    (prints_cut (takers_line tree (taking_word Write) (takers tree Write key)) _ _
    (prints_cut (codes "\n") _ _ (prints_then _ head count)))

pub returns-in_err-bytes : goal.returns-in_err-bytes
returns-in_err-bytes g c =
    let tree = tree_of c.args.plan.now in
    let key = c.args.key in
    let head = prints_as c.in_ok-pieces.ensures (key_text tree key ++ codes ": longest chain ")
    (ap (λ (t : List ℕ). t ++ codes ": longest chain ") (c.as_bytes.ensures.value ∙ c.key.ensures)) in
    let count = prints_as c.in_ok-counted.ensures (counted (key_chain tree key)) (ap counted c.key_chain.ensures) in
    prints_stopped (takers_line tree (taking_word Read) (takers tree Read key)) _ c.from_residual-in_err-bytes.ensures.0
    (prints_cut (takers_line tree (taking_word Write) (takers tree Write key)) _ _
    (prints_then _ (prints_then (Ok tt) head count) c.in_err-bytes.ensures))

pub returns-in_err-takers_line : goal.returns-in_err-takers_line
returns-in_err-takers_line g c =
    let tree = tree_of c.args.plan.now in
    let key = c.args.key in
    let head = prints_as c.in_ok-pieces.ensures (key_text tree key ++ codes ": longest chain ")
    (ap (λ (t : List ℕ). t ++ codes ": longest chain ") (c.as_bytes.ensures.value ∙ c.key.ensures)) in
    let count = prints_as c.in_ok-counted.ensures (counted (key_chain tree key)) (ap counted c.key_chain.ensures) in
    prints_stopped (takers_line tree (taking_word Read) (takers tree Read key)) _ c.from_residual-in_err-takers_line.ensures.0
    (prints_then _ (prints_then (Ok tt) (prints_then (Ok tt) head count) c.in_ok-bytes.ensures) c.in_err-takers_line.ensures)

pub returns : goal.returns
returns g c =
    let tree = tree_of c.args.plan.now in
    let key = c.args.key in
    let head = prints_as c.in_ok-pieces.ensures (key_text tree key ++ codes ": longest chain ")
    (ap (λ (t : List ℕ). t ++ codes ": longest chain ") (c.as_bytes.ensures.value ∙ c.key.ensures)) in
    let count = prints_as c.in_ok-counted.ensures (counted (key_chain tree key)) (ap counted c.key_chain.ensures) in
    prints_then _ (prints_then (Ok tt) (prints_then (Ok tt) (prints_then (Ok tt) head count) c.in_ok-bytes.ensures) c.in_ok-takers_line.ensures)
    c.takers_line-2.ensures
