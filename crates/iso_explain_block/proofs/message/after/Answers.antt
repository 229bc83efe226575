use Rattle.std.proofs.Common.{◌≡◌, ◌++◌, sym, ap, ◌∙◌}
use Rattle.iso_explain_block.proofs.MessageLemmas.{after-beginning, after-other}
use Rattle.iso_explain_block.specs.Messages.{after}
use Rattle.iso_explain_block.proofs.message.after.Goals as goal

pub returns-in-Some : goal.returns-in-Some
returns-in-Some c =
    let (n, prefix, dropped, len) = c.in-Some.ensures.cases in
    let split : c.args.message.now ≡ c.args.beginning.now ++ c.in-Some.rest.now = prefix.1 ∙ rw dropped in
    sym (ap (after c.args.beginning.now) split ∙ after-beginning c.args.beginning.now c.in-Some.rest.now)

pub returns-in-None : goal.returns-in-None
returns-in-None c = sym (after-other c.args.beginning.now c.args.message.now c.in-None.ensures.cases)
