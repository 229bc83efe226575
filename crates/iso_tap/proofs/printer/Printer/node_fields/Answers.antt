use Rattle.std.proofs.Common.{Bool, Ok, codes, cond, ap, ◌∙◌}
use Rattle.std.proofs.lemmas.Result.{err_from_is_err_and}
use Rattle.iso_plan.specs.RowView.{tree_of}
use Rattle.iso_plan.specs.PathTexts.{path_text}
use Rattle.iso_tap.specs.PlanText.{mode_word}
use Rattle.iso_tap.proofs.PlanLemmas.{line-head}
use Rattle.iso_tap.proofs.PrinterLemmas.{prints_as, prints_then, prints_cut}
use Rattle.iso_tap.proofs.printer.Printer.node_fields.Goals as goal

pub returns-in_err-pieces : goal.returns-in_err-pieces
returns-in_err-pieces g c =
    let plan = c.args.plan.now in
    let tree = tree_of plan in
    let n = c.args.node in
    let is_kind = c.as_bytes.ensures.value ∙ c.kind_word.ensures ∙ ap (λ (b : Bool). cond b (codes "test") (codes "class")) c.is_test.ensures in
    let is_word = c.as_bytes-2.ensures.value ∙ c.mode_word.ensures ∙ ap mode_word c.mode.ensures in
    let head = prints_as c.in_err-pieces.ensures _ (line-head c.from.ensures is_kind is_word) in
    let p = err_from_is_err_and c.from_residual.result c.from_residual.ensures.1 in
    rw p.1 (prints_cut (path_text tree n) _ p.0 (prints_cut (codes "] ") _ _ (prints_cut _ _ _ head)))

pub returns-in_err-locks : goal.returns-in_err-locks
returns-in_err-locks g c =
    let plan = c.args.plan.now in
    let tree = tree_of plan in
    let n = c.args.node in
    let is_kind = c.as_bytes.ensures.value ∙ c.kind_word.ensures ∙ ap (λ (b : Bool). cond b (codes "test") (codes "class")) c.is_test.ensures in
    let is_word = c.as_bytes-2.ensures.value ∙ c.mode_word.ensures ∙ ap mode_word c.mode.ensures in
    let head = prints_as c.in_ok-pieces.ensures _ (line-head c.from.ensures is_kind is_word) in
    let p = err_from_is_err_and c.from_residual-in_err-locks.result c.from_residual-in_err-locks.ensures.1 in
    rw p.1 (prints_cut (path_text tree n) _ p.0 (prints_cut (codes "] ") _ _ (prints_then _ head c.in_err-locks.ensures)))

pub returns-in_err-bytes : goal.returns-in_err-bytes
returns-in_err-bytes g c =
    let plan = c.args.plan.now in
    let tree = tree_of plan in
    let n = c.args.node in
    let is_kind = c.as_bytes.ensures.value ∙ c.kind_word.ensures ∙ ap (λ (b : Bool). cond b (codes "test") (codes "class")) c.is_test.ensures in
    let is_word = c.as_bytes-2.ensures.value ∙ c.mode_word.ensures ∙ ap mode_word c.mode.ensures in
    let head = prints_as c.in_ok-pieces.ensures _ (line-head c.from.ensures is_kind is_word) in
    let p = err_from_is_err_and c.from_residual-in_err-bytes.result c.from_residual-in_err-bytes.ensures.1 in
    let locked = prints_then (Ok tt) head c.in_ok-locks.ensures in
    rw p.1 (prints_cut (path_text tree n) _ p.0 (prints_then _ locked c.in_err-bytes.ensures))

pub returns : goal.returns
returns g c =
    let plan = c.args.plan.now in
    let tree = tree_of plan in
    let n = c.args.node in
    let is_kind = c.as_bytes.ensures.value ∙ c.kind_word.ensures ∙ ap (λ (b : Bool). cond b (codes "test") (codes "class")) c.is_test.ensures in
    let is_word = c.as_bytes-2.ensures.value ∙ c.mode_word.ensures ∙ ap mode_word c.mode.ensures in
    let head = prints_as c.in_ok-pieces.ensures _ (line-head c.from.ensures is_kind is_word) in
    let locked = prints_then (Ok tt) (prints_then (Ok tt) head c.in_ok-locks.ensures) c.in_ok-bytes.ensures in
    prints_then c.path.result locked c.path.ensures
