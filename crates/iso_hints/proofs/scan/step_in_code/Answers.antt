use Rattle.std.proofs.Common.{ap, sym, ◌∙◌}
use Rattle.iso_hints.specs.Scans.{step}
use Rattle.iso_hints.specs.declared.scan.Seen.{Seen}
use Rattle.iso_hints.proofs.RunLemmas.{in-code}
use Rattle.iso_hints.proofs.scan.step_in_code.Goals as goal

pub returns : goal.returns
returns c = c.step.ensures ∙ ap (λ (s : Seen). step s c.args.byte) (sym (in-code c.args.seen c.requires.code))
