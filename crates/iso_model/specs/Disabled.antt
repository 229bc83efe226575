-- Disabled nodes (JUnit 5 User Guide, `@Disabled`): none of their blocks runs, and they end as by a
-- false assumption.
--
-- disabled node: None of its blocks runs, and it ends as by a false assumption of its reason, at
-- the place `disabled` (`disabled_ending`): its test, or its class's `before_all`, is left out
-- (`blocks_unless` of `Tests`, `block_unless`, `left_out`), and its class's `after_all` has nothing
-- to do (`acts_unless`).
-- Standard: JUnit 5 User Guide, `@Disabled`.
use Rattle.std.specs.Prelude.{ℕ, List, Option, Some, None}
use Rattle.iso_model.specs.Blocks.{begun, block}
use Rattle.iso_model.specs.Environments.{Environment}
use Rattle.iso_model.specs.Resources.{Resources}
use Rattle.iso_model.specs.Rights.{Rights}
use Rattle.iso_model.specs.Statements.{State, with_ending}
use Rattle.iso_model.specs.Syntax.{Acts, no_acts}
use Rattle.iso_model.specs.declared.outcome.Ending.{Ending}
use Rattle.iso_model.specs.declared.outcome.Ending.TheVariants.{Assumed}
use Rattle.iso_model.specs.declared.place.Place.TheVariants.{Disabled}

-- how a node ends that is disabled for a reason
abbrev pub disabled_ending : List ℕ → Ending
disabled_ending reason = Assumed (record { message = reason; place = Disabled })

-- a block that is left out since its node is disabled: it prints and changes nothing
abbrev pub left_out : List ℕ → Environment → Resources → State
left_out reason env m =
    record { here = with_ending (disabled_ending reason) (begun env); resources = m }

-- a block of a node, which is left out where the node is disabled
abbrev pub block_unless : Option (List ℕ) → Rights → Acts → Environment → Resources → State
block_unless None r acts env m = block r acts env m
block_unless (Some reason) r acts env m = left_out reason env m

-- the statements of a block of a node; none where the node is disabled
abbrev pub acts_unless : Option (List ℕ) → Acts → Acts
acts_unless None acts = acts
acts_unless (Some reason) acts = no_acts
