-- A test and a class run alone: what their chain comes to on the starting values of the resources
-- that it declares, and on nothing else. A chain is a list of class heads, innermost first.
--
-- a test run alone: Its outcome on the starting values of the keys of its rights, and on nothing
-- else (`test_alone`).
--
-- a class run alone: The same of `before_all` and then `after_all` (`class_alone`).
use Rattle.std.specs.Prelude.{List, [], ◌∷◌, ◌++◌, cond}
use Rattle.iso_model.specs.Resources.{Resources, restricted}
use Rattle.iso_model.specs.Statements.{State}
use Rattle.iso_model.specs.Blocks.{block}
use Rattle.iso_model.specs.Environments.{environment}
use Rattle.iso_model.specs.Chains.{ClassHead, TestHead, class_rights, test_rights}
use Rattle.iso_model.specs.Disabled.{acts_unless}
use Rattle.iso_model.specs.Openings.{Frame, Opening, words_of, statics_of, before_all, opened, opening}
use Rattle.iso_model.specs.Tests.{Body, test}
use Rattle.iso_model.specs.Verdicts.{verdict, barred_verdict}
use Rattle.iso_model.specs.declared.outcome.Outcome.{Outcome}
use Rattle.iso_model.specs.declared.outcome.Verdict.TheVariants as V
use Rattle.iso_model.specs.declared.place.Lifecycle.TheVariants.{AfterAll}

-- the outcome under a class whose `before_all` didn't end well: the note of that ending, and no
-- lines
abbrev pub barred : List Frame → Outcome
barred [] = record { verdict = V.Pass; output = [] }
barred (f ∷ fs) = record { verdict = barred_verdict f.ending; output = [] }

abbrev pub test_outcome : Body → Outcome
test_outcome b = record { verdict = verdict b.endings; output = b.lines }

-- `after_all` of the innermost class, on the resources and statics that its `before_all` left; a
-- disabled class's does nothing
abbrev pub after_all : ClassHead → List ClassHead → Opening → State
after_all c cs o =
    block (class_rights (c ∷ cs)) (acts_unless c.disabled c.after_all)
    (environment (statics_of o.frames) 0 (words_of (c ∷ cs) AfterAll)) o.resources

-- the outcome of a class: `before_all` and then `after_all`, whatever the first did
abbrev pub class_outcome : List Frame → State → Outcome
class_outcome [] s = record { verdict = verdict (s.here.ending ∷ []); output = s.here.lines }
class_outcome (f ∷ fs) s =
    record { verdict = verdict (f.ending ∷ s.here.ending ∷ []); output = f.lines ++ s.here.lines }

-- a test, and a class, on these starting values
abbrev pub test_from : TestHead → List ClassHead → Resources → Outcome
test_from t cs start = let o =
    opening cs start in cond o.well (test_outcome (test t cs o)) (barred o.frames)

abbrev pub class_from : ClassHead → List ClassHead → Resources → Outcome
class_from c cs start =
    let o = opening cs start in
    let p = opened o (before_all c cs o) in
    cond o.well (class_outcome p.frames (after_all c cs p)) (barred o.frames)

-- a test run alone
abbrev pub test_alone : TestHead → List ClassHead → Resources → Outcome
test_alone t cs start = test_from t cs (restricted (test_rights t cs) start)

-- a class run alone
abbrev pub class_alone : ClassHead → List ClassHead → Resources → Outcome
class_alone c cs start = class_from c cs (restricted (class_rights (c ∷ cs)) start)
