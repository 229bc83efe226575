-- The language of scripts: what a run asks of the bodies of classes and tests, made of their
-- definitions.
--
-- language of scripts: The model's bodies as a `Language`: heads of classes and tests, rights by
-- the marks of a chain, bodies by their stages, outcomes by their ended bodies and frames (`Head`,
-- `scripts`).
-- Standard: JUnit 5 User Guide, test lifecycle.
use Rattle.std.specs.Prelude.{ℕ, List, [], ◌∷◌, ◌++◌, None, Bool, true, false}
use Rattle.iso_isolation.specs.Languages.{Language, Progress}
use Rattle.iso_model.specs.Alone.{barred, test_outcome}
use Rattle.iso_model.specs.Bodies.{Account, account_of, account_after, body_at, fresh_account, Stage, during, ended, Going, opening_stage, test_stage, closing_stage, stage_step, body_finish, is_ended, body_distance, frame_left}
use Rattle.iso_model.specs.Chains.{ClassHead, TestHead}
use Rattle.iso_model.specs.Openings.{Frame}
use Rattle.iso_model.specs.Resources.{Resources}
use Rattle.iso_model.specs.Rights.{Rights, rights_of, is_readable, is_writable}
use Rattle.iso_model.specs.Statements.{is_well}
use Rattle.iso_model.specs.Tests.{Body}
use Rattle.iso_model.specs.Verdicts.{verdict}
use Rattle.iso_model.specs.declared.heads.Mark.{Mark}
use Rattle.iso_model.specs.declared.outcome.Outcome.{Outcome}
use Rattle.iso_model.specs.declared.resource.Resource.{Resource}

-- the head of a class or of a test. A chain is a list of heads, innermost first.
pub data Head : Type 0 where
  of_class : ClassHead → Head
  of_test : TestHead → Head

abbrev pub is_of_test : Head → Bool
is_of_test (of_class c) = false
is_of_test (of_test t) = true

-- the marks of a head, and of all heads of a chain
abbrev pub marks_on : Head → List Mark
marks_on (of_class c) = c.marks
marks_on (of_test t) = t.marks

abbrev pub marks_in : List Head → List Mark
marks_in [] = []
marks_in (h ∷ hs) = marks_on h ++ marks_in hs

-- the access rights of a chain: the strongest that its marks declare together
abbrev pub chain_rights : List Head → Rights
chain_rights hs = rights_of (marks_in hs)

-- the classes of a chain
abbrev pub classes_in : List Head → List ClassHead
classes_in [] = []
classes_in (of_class c ∷ hs) = c ∷ classes_in hs
classes_in (of_test t ∷ hs) = classes_in hs

-- the body with which the innermost of a chain is entered: a class's `before_all`, or a whole test
abbrev pub entering : List Head → List Frame → Stage
entering [] fs = ended (fresh_account [])
entering (of_class c ∷ hs) fs = opening_stage c (classes_in hs) fs
entering (of_test t ∷ hs) fs = test_stage t (classes_in hs) fs

-- the body with which it is closed: a class's `after_all`; a test has none
abbrev pub closing : List Head → List Frame → Stage
closing [] fs = ended (fresh_account [])
closing (of_class c ∷ hs) fs = closing_stage c (classes_in hs) fs
closing (of_test t ∷ hs) fs = ended (fresh_account [])

-- what a body has come to so far, but for the resources
abbrev pub account_in : Stage → Account
account_in (during p n b js) = account_after n p.here b
account_in (ended a) = a

abbrev pub body_in : Stage → Body
body_in s = body_at (account_in s) (λ k. None)

-- the outcome of a class by its frames, of which the first is its own, and its ended `after_all`
abbrev pub outcome_of_class : List Frame → Body → Outcome
outcome_of_class [] b = test_outcome b
outcome_of_class (f ∷ fs) b =
    record { verdict = verdict (f.ending ∷ b.endings); output = f.lines ++ b.lines }

-- a body that has gone on, and one that has ended, with the resources that it left
abbrev pub gone_on : Going → Progress Stage Resources
gone_on g = record { body = g.stage; content = g.resources }

abbrev pub come_to : Body → Progress Stage Resources
come_to b = record { body = ended (account_of b); content = b.resources }

-- the language of scripts
abbrev pub scripts : Language Head (List ℕ) Resource Stage Frame Outcome
scripts = record {
  is_test = is_of_test;
  reads = λ hs k. is_readable (chain_rights hs k);
  writes = λ hs k. is_writable (chain_rights hs k);
  begin = entering;
  begin_closing = closing;
  step = λ hs s m. gone_on (stage_step (chain_rights hs) s m);
  ended = is_ended;
  distance = body_distance;
  finish = λ hs s m. come_to (body_finish (chain_rights hs) s m);
  frame = λ fs s. frame_left fs (body_in s);
  is_well = λ f. is_well f.ending;
  test_result = λ s. test_outcome (body_in s);
  class_result = λ fs s. outcome_of_class fs (body_in s);
  blocked = barred;
}
