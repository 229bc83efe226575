use Rattle.iso_record.proofs.RecordLemmas.{if_ok, plain_allowed, plain_gone_on}
use Rattle.iso_record.proofs.recording.Recording.go_on_plainly.Goals as goal

pub must_take-requires : goal.must_take-requires
must_take-requires c = plain_allowed c.args.self.now c.requires.taken c.args.event c.requires.plain c.requires.goes_on

pub returns-clause-gone_on : goal.returns-clause-gone_on
returns-clause-gone_on c =
    if_ok c.must_take.result (plain_gone_on c.args.self.now c.requires.taken c.args.event c.must_take.new.self c.requires.plain c.requires.goes_on) c.must_take.ensures.taken
