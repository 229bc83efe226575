use Rattle.iso_script_statements.proofs.parser.Parser.simple_form.Goals as goal

pub returns-in-One : goal.returns-in-One
returns-in-One c = rw c.in-One.is c.of_one.ensures

pub returns-in-Two : goal.returns-in-Two
returns-in-Two c = rw c.in-Two.is c.of_two.ensures

pub returns-in-Let : goal.returns-in-Let
returns-in-Let c = rw c.in-Let.is c.definition.ensures

pub returns-in-Assume : goal.returns-in-Assume
returns-in-Assume c = rw c.in-Assume.is c.assumption.ensures

pub returns-in-Fail : goal.returns-in-Fail
returns-in-Fail c = rw c.in-Fail.is c.failure.ensures
