use Rattle.iso_explain_plan.proofs.plan.explain_plan.Goals as goal

pub returns-in-DoubleClass : goal.returns-in-DoubleClass
returns-in-DoubleClass g c = rw c.in-DoubleClass.is c.double.ensures

pub returns-in-TooManyNodes : goal.returns-in-TooManyNodes
returns-in-TooManyNodes g c = rw c.in-TooManyNodes.is c.nodes.ensures

pub returns-in-TooManyKeys : goal.returns-in-TooManyKeys
returns-in-TooManyKeys g c = rw c.in-TooManyKeys.is c.keys.ensures

pub returns-in-TooManyScripts : goal.returns-in-TooManyScripts
returns-in-TooManyScripts g c = rw c.in-TooManyScripts.is c.too_many.ensures

pub returns-in-NotSelected : goal.returns-in-NotSelected
returns-in-NotSelected g c = rw c.in-NotSelected.is (c.not_selected.ensures c.in-NotSelected.field-0)
