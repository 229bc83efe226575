use Rattle.std.proofs.Common.{refl}
use Rattle.std.proofs.lemmas.Result.{err_from_is_err_and}
use Rattle.iso_settings.proofs.SettingsLemmas.{fault_next, past}
use Rattle.iso_settings.proofs.settings.settings_of.Goals as goal

pub returns-in_err-mode-clause-exact : goal.returns-in_err-mode-clause-exact
returns-in_err-mode-clause-exact c =
    let p = err_from_is_err_and c.from_residual-in_err-mode.result c.from_residual-in_err-mode.ensures.1 in
    rw (p.1, p.2) (fault_next _ _ _ (past _ _ refl c.in_ok-flag.ensures) c.in_err-mode.ensures)

pub returns-in_err-mode-2-clause-exact : goal.returns-in_err-mode-2-clause-exact
returns-in_err-mode-2-clause-exact c =
    let p = err_from_is_err_and c.from_residual-in_err-mode-2.result c.from_residual-in_err-mode-2.ensures.1 in
    rw (p.1, p.2) (fault_next _ _ _ (past _ _ (past _ _ refl c.in_ok-flag.ensures) c.in_ok-mode.ensures) c.in_err-mode-2.ensures)

pub returns-in_err-strategy-clause-exact : goal.returns-in_err-strategy-clause-exact
returns-in_err-strategy-clause-exact c =
    let p = err_from_is_err_and c.from_residual-in_err-strategy.result c.from_residual-in_err-strategy.ensures.1 in
    rw (p.1, p.2) (fault_next _ _ _ (past _ _ (past _ _ (past _ _ refl c.in_ok-flag.ensures) c.in_ok-mode.ensures) c.in_ok-mode-2.ensures) c.in_err-strategy.ensures)

pub returns-in_err-count-clause-exact : goal.returns-in_err-count-clause-exact
returns-in_err-count-clause-exact c =
    let p = err_from_is_err_and c.from_residual-in_err-count.result c.from_residual-in_err-count.ensures.1 in
    rw (p.1, p.2) (fault_next _ _ _ (past _ _ (past _ _ (past _ _ (past _ _ refl c.in_ok-flag.ensures) c.in_ok-mode.ensures) c.in_ok-mode-2.ensures) c.in_ok-strategy.ensures)
    c.in_err-count.ensures.exact)

pub returns-in_err-parallelism-clause-exact : goal.returns-in_err-parallelism-clause-exact
returns-in_err-parallelism-clause-exact c =
    let p = err_from_is_err_and c.from_residual-in_err-parallelism.result c.from_residual-in_err-parallelism.ensures.1 in
    rw (p.1, p.2) (fault_next _ _ _ (past _ _ (past _ _ (past _ _ (past _ _ (past _ _ refl c.in_ok-flag.ensures) c.in_ok-mode.ensures) c.in_ok-mode-2.ensures) c.in_ok-strategy.ensures)
    c.in_ok-count.ensures.exact) c.in_err-parallelism.ensures.exact)
