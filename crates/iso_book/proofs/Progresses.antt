-- How far the nodes of a book have come after an Enter and after a Shut, by the state that follows it.
use Rattle.std.proofs.Common.{◌≡◌, ℕ, ap, ◌∙◌}
use Rattle.iso_book.specs.Books.{BookView, state_in, suite_in}
use Rattle.iso_book.specs.Progress.{HasEntered, HasShut}
use Rattle.iso_isolation.proofs.Changes.{put_elsewhere, put_here}
use Rattle.iso_isolation.specs.Events as E
use Rattle.iso_isolation.specs.Events.{after}
use Rattle.iso_standing.specs.Phases.{phase_of}
use Rattle.iso_suites.specs.ScriptLanguage.{scripts}
use Rattle.iso_suites.specs.SuiteStates.{RunState}

pub entered-as : (b c : BookView) (w n : ℕ) → state_in c ≡ after scripts (suite_in b) (state_in b) (E.Enter w n) → HasEntered w n b c
entered-as b c w n e = record {
  phase = ap (λ (s : RunState). phase_of (s.nodes.status n)) e ∙ ap phase_of (put_here n _ (state_in b).nodes.status);
  owner = ap (λ (s : RunState). s.owner n) e ∙ put_here n w (state_in b).owner;
  others = record {
    phases = λ m h ne was. ap (λ (s : RunState). phase_of (s.nodes.status m)) e ∙ ap phase_of (put_elsewhere m n _ (state_in b).nodes.status ne);
    owners = λ m h ne was. ap (λ (s : RunState). s.owner m) e ∙ put_elsewhere m n w (state_in b).owner ne;
  };
  waiting = λ m h ne was. ap (λ (s : RunState). phase_of (s.nodes.status m)) e ∙ ap phase_of (put_elsewhere m n _ (state_in b).nodes.status ne) ∙ was;
}

pub shut-as : (b c : BookView) (w n : ℕ) → state_in c ≡ after scripts (suite_in b) (state_in b) (E.Shut w n) → (state_in b).owner n ≡ w → HasShut w n b c
shut-as b c w n e own = record {
  phase = ap (λ (s : RunState). phase_of (s.nodes.status n)) e ∙ ap phase_of (put_here n _ (state_in b).nodes.status);
  owner = ap (λ (s : RunState). s.owner n) e ∙ own;
  others = record {
    phases = λ m h ne was. ap (λ (s : RunState). phase_of (s.nodes.status m)) e ∙ ap phase_of (put_elsewhere m n _ (state_in b).nodes.status ne);
    owners = λ m h ne was. ap (λ (s : RunState). s.owner m) e;
  };
  waiting = λ m h ne was. ap (λ (s : RunState). phase_of (s.nodes.status m)) e ∙ ap phase_of (put_elsewhere m n _ (state_in b).nodes.status ne) ∙ was;
}
