use Rattle.std.proofs.Common.{ℕ, List, ◌++◌, ◌∷◌, [], OnOk, ap, sym, subst, ◌∙◌}
use Rattle.iso_model.specs.NameSets.{Knows, is_among}
use Rattle.iso_selection.proofs.NamedLemmas.{paths_in-path, paths_in-pattern}
use Rattle.iso_selection.specs.Wishes.{paths_in, wish_of}
use Rattle.iso_selection.specs.declared.wanted.Wanted.{Wanted}
use Rattle.iso_selection.proofs.named.add_path.Goals as goal

pub returns-in-Path : goal.returns-in-Path
returns-in-Path c = λ wishes knows.
    subst (λ (texts : List (List ℕ)). OnOk c.claim.result (Knows c.claim.new.set texts))
    (sym (ap (λ (w : Wanted). paths_in (wishes ++ wish_of w ∷ [])) c.in-Path.is ∙ paths_in-path wishes c.in-Path.path.now))
    (c.claim.ensures (paths_in wishes) knows)

pub returns-in-Pattern : goal.returns-in-Pattern
returns-in-Pattern c = λ wishes knows n.
    knows n
    ∙ sym (ap (λ (texts : List (List ℕ)). is_among texts n) (ap (λ (w : Wanted). paths_in (wishes ++ wish_of w ∷ [])) c.in-Pattern.is ∙ paths_in-pattern wishes c.in-Pattern.field-0.now))
