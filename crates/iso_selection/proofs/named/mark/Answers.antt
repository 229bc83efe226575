use Rattle.std.proofs.Common.{drop, not, ap, sym, ◌∙◌}
use Rattle.iso_selection.specs.Wishes.{is_in_vain, wish_of}
use Rattle.iso_selection.specs.declared.wanted.Wanted.{Wanted}
use Rattle.iso_selection.proofs.named.mark.Goals as goal

pub returns-in-Path-clause-found : goal.returns-in-Path-clause-found
returns-in-Path-clause-found c =
    ap not (c.contains.ensures ∙ c.requires.known c.in-Path.path.now)
    ∙ sym (ap (λ (w : Wanted). is_in_vain (drop 1 c.args.paths.now) (wish_of w)) c.in-Path.is)
