use Rattle.std.proofs.Common.{◌∙◌}
use Rattle.iso_lifecycle.proofs.EndingLemmas.{begin-more}
use Rattle.iso_lifecycle.proofs.endings.add_other.Goals as goal

pub returns-clause-ill : goal.returns-clause-ill
returns-clause-ill c = λ ill. rw c.in_ok-push.ensures.items (begin-more c.args.others.now.items c.args.ending ill (λ none. c.requires.first (c.args.others.now.ok.0 ∙ none)))
