use Rattle.std.proofs.lemmas.Result.{err_from_is_err_and}
use Rattle.iso_script.specs.Marks.{runs, isolates, disables, declares, a_mode, an_isolation, a_disabling, a_declaration}
use Rattle.iso_script.proofs.Marks.{is_marking, marked_next, key_next, adds_mode, adds_isolation, adds_reason, adds_key}
use Rattle.iso_script.proofs.mark.add_mark.Goals as goal

pub returns-in-Mode : goal.returns-in-Mode
returns-in-Mode c = (runs c.in-Mode.mode, is_marking _ _ _ _ _ (rw c.in-Mode.is at c.requires) c.advance.ensures a_mode, adds_mode _ _ c.if-is_none.ensures)

pub returns-in-Isolated : goal.returns-in-Isolated
returns-in-Isolated c = (isolates, is_marking _ _ _ _ _ (rw c.in-Isolated.is at c.requires) c.advance-in-Isolated.ensures an_isolation, adds_isolation _ c.if-not-marks.true)

pub returns-in_ok-reason-in-Disabled : goal.returns-in_ok-reason-in-Disabled
returns-in_ok-reason-in-Disabled c = (
  disables c.in_ok-reason-in-Disabled.reason,
  is_marking _ _ _ _ _ (rw c.in-Disabled.is at c.requires) c.advance-in-Disabled.ensures (a_disabling c.in_ok-reason-in-Disabled.ensures),
  adds_reason _ _ c.if-is_none-2.ensures,
)

pub returns-in_err-key-in-Access : goal.returns-in_err-key-in-Access
returns-in_err-key-in-Access c =
    let p = err_from_is_err_and c.from_residual-in_err-key-in-Access.result c.from_residual-in_err-key-in-Access.ensures.1 in
    rw (p.1, p.2) (λ x rest more h adds.
    let k = key_next c.target-target.ensures (marked_next _ (rw c.in-Access.is at c.requires) c.advance-in-Access.ensures h) in
    c.in_err-key-in-Access.ensures k.0 rest k.1)

pub returns-in_ok-push-in-Access : goal.returns-in_ok-push-in-Access
returns-in_ok-push-in-Access c = (
  declares (record { access = c.in-Access.access; target = c.target-target.result; key = c.in_ok-key-in-Access.key }),
  is_marking _ _ _ _ _ (rw c.in-Access.is at c.requires) c.advance-in-Access.ensures (a_declaration c.target-target.ensures c.in_ok-key-in-Access.ensures),
  rw c.in_ok-push-in-Access.ensures.items (adds_key _ _),
)
