use Rattle.std.proofs.Common.{sym, ◌∙◌}
use Rattle.iso_settings.proofs.NumeralLemmas.{parsed}
use Rattle.iso_explain_settings.proofs.chosen.numeral.Goals as goal

pub returns : goal.returns
returns c =
    let is = sym c.is_numeral.ensures ∙ c.if-not-is_numeral.false in
    rw is (c.ok.ensures.value ∙ parsed c.args.text.now c.parse.result c.parse.ensures.value.0 is)
