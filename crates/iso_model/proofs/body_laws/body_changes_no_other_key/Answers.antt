use Rattle.iso_model.proofs.BodyKeys.{body-step-one, body-step-untouched, body-finish-untouched, body-step-kinds}
use Rattle.iso_model.proofs.body_laws.body_changes_no_other_key.Goals as goal

pub returns-clause-one : goal.returns-clause-one
returns-clause-one c = body-step-one

pub returns-clause-step : goal.returns-clause-step
returns-clause-step c = λ r g k locked. body-step-untouched r k locked g

pub returns-clause-finish : goal.returns-clause-finish
returns-clause-finish c = λ r s m k locked. body-finish-untouched r k locked s m

pub returns-clause-kinds : goal.returns-clause-kinds
returns-clause-kinds c = λ r g k. body-step-kinds r k g
