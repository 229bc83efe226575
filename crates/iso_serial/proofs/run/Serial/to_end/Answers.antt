use Rattle.iso_serial.proofs.NodeLemmas.{last-complete, root-empty, root-lent, root-whole}
use Rattle.iso_serial.proofs.run.Serial.to_end.Goals as goal

pub returns-clause-vault : goal.returns-clause-vault
returns-clause-vault g c = root-whole c.args.self.now.plan.now c.args.self.now.world.now c.children.new.walk c.in_ok-children.ensures.between

pub returns-clause-lent : goal.returns-clause-lent
returns-clause-lent g c = root-lent c.args.self.now.plan.now c.args.self.now.world.now c.children.new.walk c.in_ok-children.ensures.between

pub returns-clause-empty : goal.returns-clause-empty
returns-clause-empty g c = root-empty c.args.self.now.plan.now c.args.self.now.world.now c.children.new.walk c.in_ok-children.ensures.between

pub returns-clause-complete : goal.returns-clause-complete
returns-clause-complete g c = last-complete c.args.self.now.plan.now c.args.self.now.world.now c.children.new.walk c.in_ok-children.ensures.between c.in_ok-children.ensures.done
