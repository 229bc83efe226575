use Rattle.std.proofs.Common.{◌<◌, ◌+◌, ◌++◌, List, ℕ, [], ◌∷◌, length, get_or, drop, codes, refl, ap, ◌∙◌}
use Rattle.std.proofs.lemmas.Result.{err_from_is_err_and}
use Rattle.iso_model.specs.declared.access.Access.TheVariants.{Read}
use Rattle.iso_plan.specs.KeyTable.{keys}
use Rattle.iso_plan.specs.Locks.{locks}
use Rattle.iso_plan.specs.RowView.{tree_of}
use Rattle.iso_plan.specs.declared.lock.Lock.{Lock}
use Rattle.iso_tap.specs.PlanText.{access_word, lock_text}
use Rattle.iso_tap.proofs.PlanLemmas.{separated, locks-separated, lock-within, lock-pieces}
use Rattle.iso_tap.proofs.PrinterLemmas.{drop_next, prints_nothing, prints_as, left_next, left_cut}
use Rattle.iso_tap.proofs.printer.Printer.locks.Goals as goal

abbrev none : Lock
none = record { key = 0; access = Read }

pub locks-init : goal.locks-init
locks-init g c =
    let tree = tree_of c.args.plan.now in
    (([], (refl, refl)), record { done = []; split = locks-separated (keys tree) (locks tree c.args.node); printed = prints_nothing c.args.self.now })

pub key-requires : goal.key-requires
key-requires g c =
    let tree = tree_of c.args.plan.now in
    let here : c.locks.lock-index < length (locks tree c.args.node) = rw c.locks-locks.ensures.locks at c.locks-test.true in
    rw c.locks-locks.ensures.locks (lock-within tree c.args.node c.locks.lock-index none here)

pub returns-in_err-pieces : goal.returns-in_err-pieces
returns-in_err-pieces g c =
    let tree = tree_of c.args.plan.now in
    let i = c.locks.lock-index in
    let ls = locks tree c.args.node in
    let here : i < length ls = rw c.locks-locks.ensures.locks at c.locks-test.true in
    let piece : List ℕ = c.locks.separator.now ++ lock_text (keys tree) (get_or ls i none) in
    let word = c.as_bytes-in-locks.ensures.value ∙ c.access_word.ensures ∙ ap (λ (xs : List Lock). access_word (get_or xs i none).access) c.locks-locks.ensures.locks in
    let key = c.as_bytes-in-locks-2.ensures.value ∙ c.key.ensures ∙ ap (λ (xs : List Lock). get_or (keys tree) (get_or xs i none).key []) c.locks-locks.ensures.locks in
    let p = err_from_is_err_and c.from_residual.result c.from_residual.ensures.1 in
    rw p.1 (left_cut {piece = piece} (separated (keys tree) (codes ",") (drop (i + 1) ls)) _ p.0 (ap (separated (keys tree) c.locks.separator.now) (drop_next ls i none here)) c.locks.invariant.1
    (prints_as c.in_err-pieces.ensures piece (lock-pieces c.as_bytes.ensures.value word key)))

pub locks-preserved : goal.locks-preserved
unfolding lib.Utf8.encode
locks-preserved g c =
    let tree = tree_of c.args.plan.now in
    let i = c.locks.lock-index in
    let ls = locks tree c.args.node in
    let here : i < length ls = rw c.locks-locks.ensures.locks at c.locks-test.true in
    let piece : List ℕ = c.locks.separator.now ++ lock_text (keys tree) (get_or ls i none) in
    let word = c.as_bytes-in-locks.ensures.value ∙ c.access_word.ensures ∙ ap (λ (xs : List Lock). access_word (get_or xs i none).access) c.locks-locks.ensures.locks in
    let key = c.as_bytes-in-locks-2.ensures.value ∙ c.key.ensures ∙ ap (λ (xs : List Lock). get_or (keys tree) (get_or xs i none).key []) c.locks-locks.ensures.locks in (
      (44 ∷ [], (refl, refl)),
      left_next {piece = piece} (ap (separated (keys tree) c.locks.separator.now) (drop_next ls i none here)) c.locks.invariant.1
          (prints_as c.in_ok-pieces.ensures piece (lock-pieces c.as_bytes.ensures.value word key)),
    )
