use Rattle.std.proofs.Common.{List, ℕ, None, Option, ap, ◌∙◌}
use Rattle.iso_explain_settings.specs.Told.{mending_note}
use Rattle.iso_explain_settings.proofs.told.tell_table.Goals as goal

pub returns : goal.returns
returns c =
    let mended = c.mending-mending.ensures ∙ ap (λ (m : Option (List ℕ)). mending_note m None) c.in_ok-meant.ensures in
    rw (← c.before_key.ensures, ← c.takes.ensures, ← mended) c.tell.ensures
