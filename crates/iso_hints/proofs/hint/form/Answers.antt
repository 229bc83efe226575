use Rattle.std.proofs.Common.{◌∙◌, ap}
use Rattle.iso_hints.specs.Places.{place_at}
use Rattle.iso_hints.specs.Rows.{hint_in}
use Rattle.iso_hints.specs.Tables.{forms}
use Rattle.iso_hints.proofs.HintLemmas.{place-is}
use Rattle.iso_hints.proofs.hint.form.Goals as goal

pub returns : goal.returns
returns c =
    c.form_for.ensures ∙ ap (hint_in forms) (place-is c.place_at.result (place_at c.args.text.now c.args.bytes) c.place_at.ensures)
