use Rattle.std.proofs.Common.{◌≡◌, ℕ, List, false, subst}
use Rattle.iso_summary.specs.Unseen.{has_unseen}
use Rattle.iso_summary.proofs.PlainLemmas.{name-is-plain, plain-as-it-stands}
use Rattle.iso_summary.proofs.laws.words_that_are_seen_are_shown_as_they_stand.Goals as goal

pub returns : goal.returns
returns c word text = (λ same. subst (λ (w : List ℕ). has_unseen w ≡ false) same (name-is-plain word text), plain-as-it-stands word text)
